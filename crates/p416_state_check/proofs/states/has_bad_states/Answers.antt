use Rattle.std.proofs.Common.{rules}
use Rattle.p416_state_check.proofs.Idle.{program_by}
use Rattle.p416_state_check.proofs.states.has_bad_states.Goals as goal

pub returns : goal.returns
returns c = program_by c.args.syntax.now c.some_break.result (search rules)
