use Rattle.std.proofs.Common.{◌≡◌, List, map, subst}
use Rattle.std.specs.Prelude.{IfOk}
use Rattle.p414_syntax.specs.Arguments.{PlacedArgument}
use Rattle.p414_call_check.specs.Shown.{shown_placed}
use Rattle.p414_call_check.proofs.Placing.{all_placed}
use Rattle.p414_call_check.proofs.placed.placed_arguments.Goals as goal

pub returns : goal.returns
returns c =
    subst (λ (all : List PlacedArgument). IfOk c.placed_of.result (λ found. map shown_placed found.items ≡ all)) (all_placed c.args.names.now c.args.calls.now c.requires) c.placed_of.ensures
