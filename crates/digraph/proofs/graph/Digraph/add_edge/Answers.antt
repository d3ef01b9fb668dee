use Rattle.std.proofs.Common.{length}
use Rattle.std.proofs.lemmas.List.{length_push}
use Rattle.digraph.proofs.PartLaws.{starts_more, parts_more}
use Rattle.digraph.proofs.graph.Digraph.add_edge.Goals as goal

pub invariant_of-self-2 : goal.invariant_of-self-2
invariant_of-self-2 c =
    rw (c.in_ok-push.ensures.items, length_push c.self.inside.targets.items c.args.target) (starts_more c.self.inside.starts.items (length c.self.inside.targets.items) c.self.invariant)

pub returns-clause-ok : goal.returns-clause-ok
returns-clause-ok c =
    rw (c.in_ok-push.ensures.items, ← c.self.view_is) (parts_more c.self.inside.starts.items c.self.inside.targets.items c.args.target c.self.invariant)
