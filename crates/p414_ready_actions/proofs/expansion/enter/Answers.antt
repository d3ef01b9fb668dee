use Rattle.std.proofs.Common.{rules, map}
use Rattle.p414_calls.specs.Shown.{shown_argument}
use Rattle.p414_ready_actions.proofs.Stepping.{entered}
use Rattle.p414_ready_actions.proofs.expansion.enter.Goals as goal

pub returns : goal.returns
returns c =
    entered c.args.names.now c.args.callee.now (map shown_argument c.args.given.items) c.args.left.now c.push.new.self c.args.number c.as_slice.result.now
    c.requires (search rules) (search rules)
