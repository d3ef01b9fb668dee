-- What a program that keeps the rules keeps in each of its blocks.
use Rattle.std.proofs.Common.{◌≡◌, inl, inr, ◌||◌, not, IsTrue, Bool, true, false, List, [], ◌∷◌, flat_map, refl, ap, ◌∙◌, subst}
use Rattle.std.specs.List.{list_any}
use Rattle.std.proofs.lemmas.List.Folds.{list_any-append}
use Rattle.p416_syntax.specs.declared.program.Decl16.{Decl16}
use Rattle.p416_syntax.specs.declared.program.Syntax16.{Syntax16}
use Rattle.p416_syntax.specs.Uses.{Use}
use Rattle.p416_syntax.specs.Unknown.{is_misnamed}
use Rattle.p416_syntax.specs.Types.{is_mistyped}
use Rattle.p416_syntax.specs.Sizes.{leaves_size}
use Rattle.p416_syntax.specs.Main.{is_main}
use Rattle.p416_syntax.specs.Breaks.{has_use, SomeDeclaration, scope_of, uses_in, program_uses, IsBroken, program_rules, BreaksNone}
use Rattle.v1_ready_laws.specs.Rules.{KeepsAll}
use Rattle.v1_block_laws.proofs.Tests.{of_one}
use Rattle.v1_block_laws.proofs.Finding.{Found}

no_use : (syntax : Syntax16) (test : Use → Bool) (d : Decl16) → (IsTrue (has_use test (scope_of syntax d) d) → ⊥) → list_any test (uses_in syntax d) ≡ false
no_use syntax test d never = by (has_use test (scope_of syntax d) d) refl where
  by : (b : Bool) → has_use test (scope_of syntax d) d ≡ b → has_use test (scope_of syntax d) d ≡ false
  by true e = absurd (never e)
  by false e = e

no_uses : (syntax : Syntax16) (test : Use → Bool) (ds : List Decl16) → (SomeDeclaration (λ d. IsTrue (has_use test (scope_of syntax d) d)) ds → ⊥) → list_any test (flat_map (uses_in syntax) ds) ≡ false
no_uses syntax test [] never = refl
no_uses syntax test (d ∷ ds) never =
    list_any-append test (uses_in syntax d) (flat_map (uses_in syntax) ds)
    ∙ (ap (λ (b : Bool). b || list_any test (flat_map (uses_in syntax) ds)) (no_use syntax test d (λ x. never (inl x)))
    ∙ no_uses syntax test ds (λ x. never (inr x)))

-- T1, T2, T3 and T11

pub names_kept : (syntax : Syntax16) → BreaksNone syntax program_rules → list_any is_misnamed (program_uses syntax) ≡ false
unfolding IsBroken
names_kept syntax keeps = no_uses syntax is_misnamed syntax.decls (λ x. keeps.0 (inl x))

sizes_kept : (syntax : Syntax16) → BreaksNone syntax program_rules → list_any leaves_size (program_uses syntax) ≡ false
unfolding IsBroken
sizes_kept syntax keeps = no_uses syntax leaves_size syntax.decls (λ x. keeps.1.0 (inl x))

kinds_kept : (syntax : Syntax16) → BreaksNone syntax program_rules → list_any is_mistyped (program_uses syntax) ≡ false
unfolding IsBroken
kinds_kept syntax keeps = no_uses syntax is_mistyped syntax.decls (λ x. keeps.1.1.0 (inl x))

main_whole : (b : Bool) → (not b ≡ true → ⊥) → b ≡ true
main_whole true never = refl
main_whole false never = absurd (never refl)

pub main_kept : (syntax : Syntax16) → BreaksNone syntax program_rules → is_main syntax ≡ true
unfolding IsBroken
main_kept syntax keeps = main_whole (is_main syntax) (λ x. keeps.1.1.1.1.1.1.1.1.1.1.0 (inr x))

-- in one declaration

pub none_within : (syntax : Syntax16) (passes : Decl16 → Bool) (test : Use → Bool) (d : Decl16) → Found syntax passes syntax.decls d → list_any test (program_uses syntax) ≡ false → list_any test (uses_in syntax d) ≡ false
none_within syntax passes test d found none =
    of_one test (uses_in syntax) found.before d found.after
    (subst (λ (ds : List Decl16). list_any test (flat_map (uses_in syntax) ds) ≡ false) found.is none)

pub kept_within : (syntax : Syntax16) (passes : Decl16 → Bool) (d : Decl16) → Found syntax passes syntax.decls d → BreaksNone syntax program_rules → KeepsAll (uses_in syntax d)
kept_within syntax passes d found keeps =
    (none_within syntax passes is_mistyped d found (kinds_kept syntax keeps), none_within syntax passes leaves_size d found (sizes_kept syntax keeps))
