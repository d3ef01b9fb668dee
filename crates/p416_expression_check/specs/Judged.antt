-- The first rule that a use breaks, of those that what is known of it tells: T7, T11 and the rest of T8 are about more than
-- one use; T9's test of an expression, which counts a direct counter, asks all names in scope; and the depth of T12 is judged
-- by itself.
use Rattle.std.specs.Prelude.{if◌then◌else◌, Option, Some, None}
use Rattle.p416_syntax.specs.declared.rule.ProgramRule.{ProgramRule}
use Rattle.p416_syntax.specs.declared.rule.ProgramRule.TheVariants.{T1, T2, T3, T4, T5, T6, T8, T10}
use Rattle.p416_syntax.specs.Uses.{Use}
use Rattle.p416_syntax.specs.Unknown.{is_misnamed}
use Rattle.p416_syntax.specs.Sizes.{leaves_size}
use Rattle.p416_syntax.specs.Types.{is_mistyped}
use Rattle.p416_syntax.specs.Literals.{overflows}
use Rattle.p416_syntax.specs.Writes.{writes_constant}
use Rattle.p416_syntax.specs.Arguments.{is_miscounted}
use Rattle.p416_syntax.specs.Applications.{applies_wrongly}
use Rattle.p416_syntax.specs.Externs.{is_outside_block}

abbrev pub first_lower : Use → Option ProgramRule
first_lower u =
    if is_misnamed u then Some T1 else if leaves_size u then Some T2 else if is_mistyped u then Some T3
    else if overflows u then Some T4 else None

abbrev pub first_higher : Use → Option ProgramRule
first_higher u =
    if writes_constant u then Some T5 else if is_miscounted u then Some T6 else if applies_wrongly u then Some T8
    else if is_outside_block u then Some T10 else None

-- the first of two, where there is one
abbrev pub first_of : Option ProgramRule → Option ProgramRule → Option ProgramRule
first_of (Some rule) other = Some rule
first_of None other = other

abbrev pub first_broken : Use → Option ProgramRule
first_broken u = first_of (first_lower u) (first_higher u)
