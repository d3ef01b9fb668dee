-- What is asked of the uses of all declarations together, and of each declaration.
use Rattle.std.proofs.Common.{◌≡◌, ◌⊎◌, inl, inr, ℕ, Bool, true, false, not, ◌||◌, ◌&&◌, cond, nat_eq, Option, Some, None, List, [], ◌∷◌, ◌++◌, flat_map, IsTrue, refl, sym, ap, ◌∙◌, subst, eq-eqb}
use Rattle.std.specs.List.{list_any}
use Rattle.std.proofs.lemmas.Bool.{false≢true}
use Rattle.std.proofs.lemmas.List.Folds.{list_any-append}
use Rattle.p416_syntax.specs.declared.program.Decl16.{Decl16}
use Rattle.p416_syntax.specs.declared.program.Syntax16.{Syntax16}
use Rattle.p416_syntax.specs.declared.rule.ProgramRule.{ProgramRule}
use Rattle.p416_syntax.specs.Exact.{IsExact}
use Rattle.p416_syntax.specs.Uses.{Use}
use Rattle.p416_syntax.specs.Breaks.{has_use, scope_of, SomeDeclaration, uses_in, program_uses, rule_number}
use Rattle.p416_expression_uses.specs.First.{UseRule, first_by}
use Rattle.p416_expression_uses.specs.Found.{Found}
use Rattle.p416_types.specs.internal.Seen.{is_found, IsFirstOf}

-- truth values

one_of : (a b : Bool) → (a || b) ≡ true → (a ≡ true) ⊎ (b ≡ true)
one_of true b e = inl refl
one_of false b e = inr e

or_right : (a b : Bool) → b ≡ true → (a || b) ≡ true
or_right true b e = refl
or_right false b e = e

pub not_true : (b : Bool) → (b ≡ true → ⊥) → b ≡ false
not_true true h = absurd (h refl)
not_true false h = refl

-- uses of declarations

module _ (s : Syntax16) (test : Use → Bool) where
  abbrev pub Has : Decl16 → Type 0
  Has d = IsTrue (has_use test (scope_of s d) d)

  some_has : (ds : List Decl16) → list_any test (flat_map (uses_in s) ds) ≡ true → SomeDeclaration Has ds
  some_has [] e = absurd (false≢true e)
  some_has (d ∷ ds) e =
      elim (one_of (list_any test (uses_in s d)) (list_any test (flat_map (uses_in s) ds)) (sym (list_any-append test (uses_in s d) (flat_map (uses_in s) ds)) ∙ e)) [
        | inl here ↦ inl here
        | inr behind ↦ inr (some_has ds behind)
      ]

  has_some : (ds : List Decl16) → SomeDeclaration Has ds → list_any test (flat_map (uses_in s) ds) ≡ true
  has_some [] h = absurd h
  has_some (d ∷ ds) (inl here) = list_any-append test (uses_in s d) (flat_map (uses_in s) ds) ∙ ap (λ (b : Bool). b || list_any test (flat_map (uses_in s) ds)) here
  has_some (d ∷ ds) (inr behind) = list_any-append test (uses_in s d) (flat_map (uses_in s) ds) ∙ or_right (list_any test (uses_in s d)) (list_any test (flat_map (uses_in s) ds)) (has_some ds behind)

  pub uses_have : list_any test (program_uses s) ≡ true → SomeDeclaration Has s.decls
  uses_have e = some_has s.decls e

  pub uses_exact : (b : Bool) → b ≡ list_any test (program_uses s) → IsExact b (SomeDeclaration Has s.decls)
  uses_exact true e = some_has s.decls (sym e)
  uses_exact false e = λ h. false≢true (e ∙ has_some s.decls h)

-- the first rule that uses break

abbrev pub lacks : ProgramRule → List UseRule → Bool
lacks rule [] = true
lacks rule (x ∷ rest) = not (nat_eq (rule_number x.rule) (rule_number rule)) && lacks rule rest

not_and : (a b : Bool) → (not a && b) ≡ true → (a ≡ false) × (b ≡ true)
not_and true b e = absurd (false≢true e)
not_and false b e = (refl, e)

not_found : (rule : ProgramRule) (rest : List UseRule) (us : List Use) → lacks rule rest ≡ true → is_found (first_by rest us) rule ≡ false
not_found rule [] us free = refl
not_found rule (x ∷ rest) us free = by_test (list_any x.test us) (not_and (nat_eq (rule_number x.rule) (rule_number rule)) (lacks rule rest) free) (λ more. not_found rule rest us more) where
  by_test : (b : Bool) → (nat_eq (rule_number x.rule) (rule_number rule) ≡ false) × (lacks rule rest ≡ true) → (lacks rule rest ≡ true → is_found (first_by rest us) rule ≡ false) → is_found (cond b (Some x.rule) (first_by rest us)) rule ≡ false
  by_test true parts more = parts.0
  by_test false parts more = more parts.1

pub found_here : (x : UseRule) (rest : List UseRule) (us : List Use) (o : Option ProgramRule) → o ≡ first_by (x ∷ rest) us → lacks x.rule rest ≡ true → is_found o x.rule ≡ list_any x.test us
found_here x rest us o is free = ap (λ (r : Option ProgramRule). is_found r x.rule) is ∙ by_test (list_any x.test us) where
  by_test : (b : Bool) → is_found (cond b (Some x.rule) (first_by rest us)) x.rule ≡ b
  by_test true = eq-eqb (rule_number x.rule) (rule_number x.rule) refl
  by_test false = not_found x.rule rest us free

pub left_after : (x : UseRule) (rest : List UseRule) (s : Syntax16) (f : Found) → IsFirstOf (x ∷ rest) s f → (list_any x.test (program_uses s) ≡ true → ⊥) → IsFirstOf rest s f
left_after x rest s f is kept = is ∙ ap (λ (b : Bool). cond b (Some x.rule) (first_by rest (program_uses s))) (not_true (list_any x.test (program_uses s)) kept)
