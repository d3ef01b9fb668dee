-- The variables of a control in front of its statements are those of v1_ready_statements.
use Rattle.std.proofs.Common.{◌≡◌, ℕ, suc, ◌+◌, List, [], ◌∷◌, ◌++◌, length, map, Option, Some, None, option_map, refl, sym, ap, ◌∙◌}
use Rattle.p416_syntax.specs.declared.parsers.Var.{Var}
use Rattle.p416_syntax.specs.declared.controls.Local.{Local}
use Rattle.p416_syntax.specs.declared.controls.Local.TheVariants as local
use Rattle.p416_syntax.specs.Tree.{Exp16}
use Rattle.p416_syntax.specs.Scopes.{Scope, kind_of_type}
use Rattle.v1_core.specs.Slots.{local_kinds}
use Rattle.v1_ready_forms.specs.Named.{NamedSeat}
use Rattle.v1_ready_blocks.specs.Statements.{Statement, sequence}
use Rattle.v1_ready_statements.specs.Around.{Around}
use Rattle.v1_ready_statements.specs.Given.{cons_option}
use Rattle.v1_ready_statements.specs.Statements.{both_ready, start_ready, initial_ready}
use Rattle.v1_ready_statements.specs.Blocks.{starts_from, initial_of, initials_from, joined, in_front, whole_body}
use Rattle.v1_ready_bodies.specs.declared.variables.OwnVariable.{OwnVariable}
use Rattle.v1_ready_bodies.specs.Variables.{initial_before, starts_ready, initials_ready, variables_ready}
use Rattle.v1_ready_locals.specs.Owned.{Owned, seen_own, owned}

-- lists of statements in front of one

nothing_before : (r : Option Statement) → whole_body (Some []) r ≡ r
nothing_before None = refl
nothing_before (Some r) = refl

one_before : (x : Option Statement) (xs : Option (List Statement)) (r : Option Statement) → whole_body (cons_option x xs) r ≡ both_ready sequence x (whole_body xs r)
one_before None xs r = refl
one_before (Some x) None r = refl
one_before (Some x) (Some xs) None = refl
one_before (Some x) (Some xs) (Some r) = refl

front_both : (xs ys : List Statement) (r : Statement) → in_front (xs ++ ys) r ≡ in_front xs (in_front ys r)
front_both [] ys r = refl
front_both (x ∷ xs) ys r = ap (sequence x) (front_both xs ys r)

both_before : (xs ys : Option (List Statement)) (r : Option Statement) → whole_body (joined xs ys) r ≡ whole_body xs (whole_body ys r)
both_before None ys r = refl
both_before (Some xs) None r = refl
both_before (Some xs) (Some ys) None = refl
both_before (Some xs) (Some ys) (Some r) = ap Some (front_both xs ys r)

-- by the variables that a control declares

abbrev starts_of : Around → Scope → List Owned → Option Statement → Option Statement
starts_of b s [] rest = rest
starts_of b s (v ∷ variables) rest = both_ready sequence (start_ready b s v.number) (starts_of b s variables rest)

abbrev initials_of : Around → Scope → List NamedSeat → List Owned → Option Statement → Option Statement
initials_of b s seats [] rest = rest
initials_of b s seats (v ∷ variables) rest = initial_before b s seats v.number v.var v.var.initial (initials_of b s seats variables rest)

seen_starts : (b : Around) (s : Scope) (vs : List OwnVariable) (rest : Option Statement) → starts_ready b s vs rest ≡ starts_of b s (map seen_own vs) rest
seen_starts b s [] rest = refl
seen_starts b s (v ∷ vs) rest = ap (both_ready sequence (start_ready b s v.number)) (seen_starts b s vs rest)

seen_initials : (b : Around) (s : Scope) (seats : List NamedSeat) (vs : List OwnVariable) (rest : Option Statement) → initials_ready b s seats vs rest ≡ initials_of b s seats (map seen_own vs) rest
seen_initials b s seats [] rest = refl
seen_initials b s seats (v ∷ vs) rest = ap (initial_before b s seats v.number v.var.now v.var.now.initial) (seen_initials b s seats vs rest)

module _ (b : Around) (s : Scope) (seats : List NamedSeat) where
  starts_are : (n : ℕ) (locals : List Local) (r : Option Statement) → starts_of b s (owned s n locals) r ≡ whole_body (starts_from b s n locals) r
  starts_are n [] r = sym (nothing_before r)
  starts_are n (local.Var v ∷ locals) r =
      ap (both_ready sequence (start_ready b s n)) (starts_are (suc n) locals r)
      ∙ sym (one_before (start_ready b s n) (starts_from b s (suc n) locals) r)
  starts_are n (local.Action a ∷ locals) r = starts_are (n + length (local_kinds s (local.Action a))) locals r
  starts_are n (local.Instance notes i ∷ locals) r = starts_are (n + length (local_kinds s (local.Instance notes i))) locals r
  starts_are n (local.Table t ∷ locals) r = starts_are (n + length (local_kinds s (local.Table t))) locals r

  initial_is : (n : ℕ) (v : Var) (o : Option Exp16) (r : Option Statement) → initial_before b s seats n v o r ≡ whole_body (initial_of b s seats n v o) r
  initial_is n v None r = sym (nothing_before r)
  initial_is n v (Some e) r = by (initial_ready b s seats n (kind_of_type s.names v.of) e) r where
    by : (x r : Option Statement) → both_ready sequence x r ≡ whole_body (option_map (λ (y : Statement). y ∷ []) x) r
    by None r = refl
    by (Some x) None = refl
    by (Some x) (Some r) = refl

  initials_are : (n : ℕ) (locals : List Local) (r : Option Statement) → initials_of b s seats (owned s n locals) r ≡ whole_body (initials_from b s seats n locals) r
  initials_are n [] r = sym (nothing_before r)
  initials_are n (local.Var v ∷ locals) r =
      ap (initial_before b s seats n v v.initial) (initials_are (suc n) locals r)
      ∙ (initial_is n v v.initial (whole_body (initials_from b s seats (suc n) locals) r)
      ∙ sym (both_before (initial_of b s seats n v v.initial) (initials_from b s seats (suc n) locals) r))
  initials_are n (local.Action a ∷ locals) r = initials_are (n + length (local_kinds s (local.Action a))) locals r
  initials_are n (local.Instance notes i ∷ locals) r = initials_are (n + length (local_kinds s (local.Instance notes i))) locals r
  initials_are n (local.Table t ∷ locals) r = initials_are (n + length (local_kinds s (local.Table t))) locals r

  pub variables_are : (n : ℕ) (locals : List Local) (vs : List OwnVariable) (r : Option Statement) → map seen_own vs ≡ owned s n locals
      → variables_ready b s seats vs r ≡ whole_body (joined (starts_from b s n locals) (initials_from b s seats n locals)) r
  variables_are n locals vs r are =
      seen_starts b s vs (initials_ready b s seats vs r)
      ∙ (ap (λ (l : List Owned). starts_of b s l (initials_ready b s seats vs r)) are
      ∙ (starts_are n locals (initials_ready b s seats vs r)
      ∙ (ap (whole_body (starts_from b s n locals)) (seen_initials b s seats vs r ∙ (ap (λ (l : List Owned). initials_of b s seats l r) are ∙ initials_are n locals r))
      ∙ sym (both_before (starts_from b s n locals) (initials_from b s seats n locals) r))))
