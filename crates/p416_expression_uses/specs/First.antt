-- The first rule that something breaks of what is judged in a declaration, of the rules that are tests of one use each: T7, T11
-- and the cycles of T8 are about more than one use. T12 is judged by itself, and so is what T9 asks of expressions, where
-- direct counters are counted.
use Rattle.std.specs.Prelude.{Bool, false, nat_le, if◌then◌else◌, List, [], ◌∷◌, Option, Some, None}
use Rattle.std.specs.List.{list_any}
use Rattle.p416_syntax.specs.declared.rule.ProgramRule.{ProgramRule}
use Rattle.p416_syntax.specs.declared.rule.ProgramRule.TheVariants.{T1, T2, T3, T4, T5, T6, T8, T9, T10}
use Rattle.p416_syntax.specs.Breaks.{rule_number}
use Rattle.p416_syntax.specs.Uses.{Use, an_expression}
use Rattle.p416_syntax.specs.Unknown.{is_misnamed}
use Rattle.p416_syntax.specs.Sizes.{leaves_size}
use Rattle.p416_syntax.specs.Types.{is_mistyped}
use Rattle.p416_syntax.specs.Literals.{overflows}
use Rattle.p416_syntax.specs.Writes.{writes_constant}
use Rattle.p416_syntax.specs.Arguments.{is_miscounted}
use Rattle.p416_syntax.specs.Applications.{applies_wrongly}
use Rattle.p416_syntax.specs.Externs.{is_outside_block}
use Rattle.p416_syntax.specs.Tables.{is_bad_in_table}

-- what is judged breaks T9, but for expressions
abbrev pub is_bad_elsewhere : Use → Bool
is_bad_elsewhere (an_expression s p e) = false
is_bad_elsewhere u = is_bad_in_table u

-- a rule, and its test of a use
pub record UseRule : Type 0 where
  pub rule : ProgramRule
  pub test : Use → Bool

abbrev pub use_rule : ProgramRule → (Use → Bool) → UseRule
use_rule rule test = record { rule = rule; test = test }

abbrev pub use_rules : List UseRule
use_rules =
    use_rule T1 is_misnamed ∷ use_rule T2 leaves_size ∷ use_rule T3 is_mistyped ∷ use_rule T4 overflows
    ∷ use_rule T5 writes_constant ∷ use_rule T6 is_miscounted ∷ use_rule T8 applies_wrongly ∷ use_rule T9 is_bad_elsewhere
    ∷ use_rule T10 is_outside_block ∷ []

-- the first of these rules whose test holds of some of these uses
abbrev pub first_by : List UseRule → List Use → Option ProgramRule
first_by [] us = None
first_by (r ∷ rules) us = if list_any r.test us then Some r.rule else first_by rules us

unfoldable pub first_in : List Use → Option ProgramRule
first_in us = first_by use_rules us

-- of two rules the one with the lower number
abbrev pub lower : Option ProgramRule → Option ProgramRule → Option ProgramRule
lower (Some a) (Some b) = if nat_le (rule_number a) (rule_number b) then Some a else Some b
lower (Some a) None = Some a
lower None b = b
