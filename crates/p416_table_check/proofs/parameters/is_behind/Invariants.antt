use Rattle.std.proofs.Common.{◌≡◌, ◌||◌, ◌&&◌, drop}
use Rattle.std.specs.List.{list_any}
use Rattle.p416_syntax.specs.Tables.{is_directed_parameter, is_behind}
use Rattle.p416_table_check.proofs.parameters.is_behind.Given as goal

abbrev pub invariant-loop-parameter : goal.invariant-loop-parameter
invariant-loop-parameter l = ((l.undirected && list_any is_directed_parameter (drop l.parameter-index l.parameters)) || is_behind (drop l.parameter-index l.parameters)) ≡ is_behind l.parameters
