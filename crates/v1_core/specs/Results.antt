-- What the results of code say.
use Rattle.std.specs.Prelude.{Result, Ok, Err}
use Rattle.v1_core.specs.declared.parser_error.ParserError.{ParserError}
use Rattle.v1_core.specs.declared.scalar.Scalar.{Scalar}
use Rattle.v1_core.specs.Scalars.{seen_scalar}
use Rattle.v1_core.specs.Ready.{Ended, given, failed}

abbrev pub seen_end : Result Scalar ParserError → Ended
seen_end (Ok x) = given (seen_scalar x)
seen_end (Err e) = failed e
