-- The rules that are truth values, behind C1: without C1 there are no names to ask the others with.
use Rattle.std.specs.Prelude.{Bool, false, if◌then◌else◌, List, [], ◌∷◌, Option, Some, None}
use Rattle.p414_syntax.specs.declared.syntax.Decl.{Decl}
use Rattle.p414_syntax.specs.declared.rule.ProgramRule.{ProgramRule}
use Rattle.p414_syntax.specs.declared.rule.ProgramRule.TheVariants.{C2, C3, C4, C5, C6, C7}
use Rattle.p414_syntax.specs.Unknown.{has_unknown_name}
use Rattle.p414_syntax.specs.Widths.{has_bad_width, has_bad_layout}
use Rattle.p414_syntax.specs.Stacks.{has_bad_stack}
use Rattle.p414_syntax.specs.Selects.{has_bad_select}
use Rattle.p414_syntax.specs.Totals.{has_too_much}

abbrev pub behind_c1 : List ProgramRule
behind_c1 = C2 ∷ C3 ∷ C4 ∷ C5 ∷ C6 ∷ C7 ∷ []

abbrev pub is_flat_broken : List Decl → ProgramRule → Bool
is_flat_broken ds C2 = has_unknown_name ds
is_flat_broken ds C3 = has_bad_width ds
is_flat_broken ds C4 = has_bad_stack ds
is_flat_broken ds C5 = has_bad_layout ds
is_flat_broken ds C6 = has_bad_select ds
is_flat_broken ds C7 = has_too_much ds
is_flat_broken ds _ = false

-- the first of these rules that is broken
abbrev pub first_broken : List Decl → List ProgramRule → Option ProgramRule
first_broken ds [] = None
first_broken ds (rule ∷ rules) = if is_flat_broken ds rule then Some rule else first_broken ds rules
