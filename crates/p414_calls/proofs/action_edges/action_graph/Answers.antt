use Rattle.std.proofs.Common.{◌≡◌, ℕ, List, subst}
use Rattle.std.specs.Prelude.{IfOk}
use Rattle.p414_calls.proofs.Loops.{rows_are}
use Rattle.p414_calls.proofs.action_edges.action_graph.Goals as goal

pub returns : goal.returns
returns c =
    subst (λ (rows : List (List ℕ)). IfOk c.graph_of.result (λ graph. graph ≡ rows)) (rows_are c.args.names.now c.args.calls.now c.requires) c.graph_of.ensures
