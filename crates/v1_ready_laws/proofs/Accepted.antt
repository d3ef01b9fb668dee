-- A program that keeps the rules has no bits wider than 128 in its frames.
use Rattle.std.proofs.Common.{◌≡◌, inl, inr, ◌||◌, not, Bool, true, false, List, [], ◌∷◌, flat_map, refl, ap, ◌∙◌}
use Rattle.std.specs.List.{list_any}
use Rattle.std.proofs.lemmas.List.Folds.{list_any-append}
use Rattle.p416_syntax.specs.declared.program.Decl16.{Decl16}
use Rattle.p416_syntax.specs.declared.program.Syntax16.{Syntax16}
use Rattle.p416_syntax.specs.declared.rule.ProgramRule.TheVariants.{T2}
use Rattle.p416_syntax.specs.Declarations.{layouts_of}
use Rattle.p416_syntax.specs.Sizes.{leaves_size}
use Rattle.p416_syntax.specs.Main.{is_main}
use Rattle.p416_syntax.specs.Breaks.{DeclarationBreaks, has_use, SomeDeclaration, scope_of, uses_in, program_uses, IsBroken, program_rules, BreaksNone}
use Rattle.v1_core.specs.Programs.{frame_kinds}
use Rattle.v1_ready_laws.specs.Widths.{TypesNarrow, KindsNarrow}
use Rattle.v1_ready_laws.specs.Kinds.{TypesSized}
use Rattle.v1_ready_laws.proofs.Narrow.{types_kept}
use Rattle.v1_ready_laws.proofs.Declared.{kinds_kept}

no_use : (syntax : Syntax16) (d : Decl16) → (DeclarationBreaks T2 (scope_of syntax d) d → ⊥) → list_any leaves_size (uses_in syntax d) ≡ false
no_use syntax d never = by (has_use leaves_size (scope_of syntax d) d) refl where
  by : (b : Bool) → has_use leaves_size (scope_of syntax d) d ≡ b → has_use leaves_size (scope_of syntax d) d ≡ false
  by true e = absurd (never e)
  by false e = e

no_uses : (syntax : Syntax16) (ds : List Decl16) → (SomeDeclaration (λ d. DeclarationBreaks T2 (scope_of syntax d) d) ds → ⊥) → list_any leaves_size (flat_map (uses_in syntax) ds) ≡ false
no_uses syntax [] never = refl
no_uses syntax (d ∷ ds) never =
    list_any-append leaves_size (uses_in syntax d) (flat_map (uses_in syntax) ds)
    ∙ ap (λ (b : Bool). b || list_any leaves_size (flat_map (uses_in syntax) ds)) (no_use syntax d (λ x. never (inl x)))
    ∙ no_uses syntax ds (λ x. never (inr x))

main_whole : (b : Bool) → (not b ≡ true → ⊥) → b ≡ true
main_whole true never = refl
main_whole false never = absurd (never refl)

sizes_kept : (syntax : Syntax16) → BreaksNone syntax program_rules → list_any leaves_size (program_uses syntax) ≡ false
unfolding IsBroken
sizes_kept syntax keeps = no_uses syntax syntax.decls (λ x. keeps.1.0 (inl x))

main_kept : (syntax : Syntax16) → BreaksNone syntax program_rules → is_main syntax ≡ true
unfolding IsBroken
main_kept syntax keeps = main_whole (is_main syntax) (λ x. keeps.1.1.1.1.1.1.1.1.1.1.0 (inr x))

pub accepted_narrow : (syntax : Syntax16) → BreaksNone syntax program_rules → TypesNarrow (layouts_of syntax.decls) × TypesSized (layouts_of syntax.decls) × KindsNarrow (frame_kinds syntax)
accepted_narrow syntax keeps =
    let types = types_kept syntax (sizes_kept syntax keeps) in
    (types.0, types.1, kinds_kept syntax (sizes_kept syntax keeps) (main_kept syntax keeps))
