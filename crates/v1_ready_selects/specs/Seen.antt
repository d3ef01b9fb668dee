-- How code keeps the keys of a select.
use Rattle.std.specs.Prelude.{List, map, ◌++◌, Option, Some, None}
use Rattle.v1_core.specs.declared.parser_error.ParserError.{ParserError}
use Rattle.v1_core.specs.Values.{Value}
use Rattle.v1_core.specs.declared.scalar.Scalar.{Scalar}
use Rattle.v1_core.specs.Scalars.{seen_scalar}
use Rattle.v1_ready_selects.specs.Selects.{Keys, all_given, one_failed}

abbrev pub seen_scalars : List Scalar → List Value
seen_scalars values = map seen_scalar values

-- keys that were evaluated, with the error that ended that, if one did
abbrev pub seen_keys : Option ParserError → List Value → Keys
seen_keys None values = all_given values
seen_keys (Some e) values = one_failed e

-- keys behind those whose values are known
abbrev pub behind : List Value → Keys → Keys
behind values (all_given rest) = all_given (values ++ rest)
behind values (one_failed e) = one_failed e
