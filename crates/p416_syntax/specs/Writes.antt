-- T5: the target of an assignment, an argument for an `out` or `inout` parameter, or what `setValid`, `setInvalid`,
-- `push_front` or `pop_front` is called on, can't be written (P4_16 1.2, "L-values", "Calling convention: call by copy
-- in/copy out"). What can be written is a variable, an `out` or `inout` parameter, or a part of one.
use Rattle.std.specs.Prelude.{Bool, true, false, not, ◌&&◌}
use Rattle.p416_syntax.specs.Calls.{Place, written, written_bits, written_header, target, written_owner}
use Rattle.p416_syntax.specs.Expressions.{can_write}
use Rattle.p416_syntax.specs.Uses.{Use, an_expression}

abbrev pub is_written_place : Place → Bool
is_written_place (written k) = true
is_written_place written_bits = true
is_written_place written_header = true
is_written_place target = true
is_written_place written_owner = true
is_written_place _ = false

-- what is judged breaks T5
abbrev pub writes_constant : Use → Bool
writes_constant (an_expression s p e) = is_written_place p && not (can_write s e)
writes_constant _ = false
