use Rattle.std.proofs.Common.{◌∙◌, length}
use Rattle.digraph.proofs.PartLaws.{starts_push, parts_push}
use Rattle.digraph.proofs.graph.Digraph.add_node.Goals as goal

pub invariant_of-self-2 : goal.invariant_of-self-2
invariant_of-self-2 c =
    rw (c.in_ok-push.ensures.items, c.len.ensures ∙ c.self.inside.targets.ok.0) (starts_push c.self.inside.starts.items (length c.self.inside.targets.items) c.self.invariant)

pub returns-clause-ok : goal.returns-clause-ok
returns-clause-ok c =
    rw (c.in_ok-push.ensures.items, c.len.ensures ∙ c.self.inside.targets.ok.0, ← c.self.view_is) (parts_push c.self.inside.starts.items c.self.inside.targets.items)
