use Rattle.std.proofs.Common.{◌∙◌, sym, ap, length}
use Rattle.digraph.proofs.PartLaws.{length-parts}
use Rattle.digraph.proofs.graph.Digraph.len.Goals as goal

pub returns : goal.returns
returns c = c.len.ensures ∙ (c.self.inside.starts.ok.0 ∙ (sym (length-parts c.self.inside.starts.items c.self.inside.targets.items) ∙ ap length c.self.view_is))
