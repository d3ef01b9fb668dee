use Rattle.std.proofs.Common.{◌≡◌, map, drop}
use Rattle.std.specs.List.{list_any}
use Rattle.p416_syntax.specs.Scopes.{handed}
use Rattle.p416_syntax.specs.Declarations.{top_names}
use Rattle.p416_syntax.specs.Tables.{is_not_given}
use Rattle.p416_listed_check.proofs.actions.some_not_given.Given as goal

abbrev pub invariant-loop-parameter : goal.invariant-loop-parameter
invariant-loop-parameter l = list_any is_not_given (map (handed (top_names l.top)) (drop l.parameter-index l.parameters)) ≡ list_any is_not_given (map (handed (top_names l.top)) l.parameters)
