-- What is asked of a value, and what evaluating an expression gives where it is asked (P4_16 1.2, "Expressions", "Operations on
-- headers", "Operations on header stacks").
use Rattle.std.specs.Prelude.{◌≡◌, ◌⊎◌, if◌then◌else◌, length, Some}
use Rattle.v1_core.specs.declared.parser_error.ParserError.{ParserError}
use Rattle.v1_core.specs.declared.parser_error.ParserError.TheVariants.{StackOutOfBounds}
use Rattle.v1_core.specs.Values.{Value, a_truth, header_in, place_in, elements_in, part_of, to_member, to_element}
use Rattle.v1_core.specs.Frames.{Moment}
use Rattle.v1_core.specs.Expressions.{Valued}
use Rattle.v1_core.specs.Ready.{Ended, given, failed, element_by, is_past}
use Rattle.v1_ready_forms.specs.Ways.{Way, its_value, its_validity, through_member, through_element, through_told}

-- what a way from a value leads to
abbrev pub asked_value : Way → Value → Ended
asked_value its_value v = given v
asked_value its_validity v = given (a_truth (header_in v).valid)
asked_value (through_member word way) v = asked_value way (part_of v (to_member word))
asked_value (through_element number way) v = asked_value way (part_of v (to_element number))
asked_value (through_told which way) v =
    if is_past which (place_in v) (length (elements_in v)) then failed StackOutOfBounds
    else asked_value way (part_of v (to_element (element_by which (place_in v))))

-- a moment that an error stopped
abbrev pub stopped_by : ParserError → Moment → Moment
stopped_by e m = record m { stopped = Some e }

-- Evaluating in a moment that nothing stopped gave what is asked, and left the moment as it was; or it failed, and the same
-- error stopped the moment.
abbrev pub Gives : Ended → Way → Valued → Moment → Type 0
Gives end way x m =
    ((x.moment ≡ m) × (end ≡ asked_value way x.value))
    ⊎ ((e : ParserError) × (x.moment ≡ stopped_by e m) × (end ≡ failed e))
