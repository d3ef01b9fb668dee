use Rattle.std.proofs.Common.{rules}
use Rattle.fabric.proofs.Serving.{served}
use Rattle.fabric.proofs.fates.serve_into.Goals as goal

pub returns-clause-fate : goal.returns-clause-fate
returns-clause-fate g c =
    served g.P.Passes.machine g.P.Passes.own (g.P.Passes.setting c.args.passes.now) (g.P.Passes.setting c.nothing.new.self) (g.P.Passes.setting c.make_ingress.new.passes) c.args.sessions.now c.args.bound (g.P.Passes.state c.args.passes.now) (g.P.Passes.state c.nothing.new.self) (g.P.Passes.state c.make_ingress.new.passes) (g.P.Passes.state c.make_rest.new.passes) c.args.arrival.now c.in_ok-kept.kept c.replace.result (record { queue = c.new-2.result; sent = c.emptied.result }) c.make_ingress.new.progress c.make_rest.new.progress c.count-fate.result c.requires.bound c.in_ok-kept.ensures.setting c.in_ok-make_ingress.ensures.setting c.new-2.ensures c.emptied.ensures (search rules) c.in_ok-kept.ensures.gives c.in_ok-make_ingress.ensures.leaves c.in_ok-make_rest.ensures.runs c.count-fate.ensures
