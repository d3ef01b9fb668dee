use Rattle.std.proofs.Common.{ℕ, List, subst, sym}
use Rattle.std.specs.Prelude.{IfOk}
use Rattle.digraph.specs.Graphs.{IsClosed}
use Rattle.digraph.specs.Components.{AreComponents}
use Rattle.p414_list_check.proofs.Holding.{closed}
use Rattle.p414_field_lists.proofs.lists.components_of.Goals as goal

pub of-requires : goal.of-requires
of-requires c = subst IsClosed (sym c.in_ok-graph.ensures) (closed c.args.names.now)

pub returns : goal.returns
returns c = subst (λ (g : List (List ℕ)). IfOk c.of.result (AreComponents g)) c.in_ok-graph.ensures c.of.ensures
