use Rattle.std.proofs.Common.{sym, ◌∙◌}
use Rattle.v1_ready_calls.proofs.Calling.{called_whole}
use Rattle.v1_ready_calls.proofs.calls.ready_by.Goals as goal

pub call_of-requires-clause-whole : goal.call_of-requires-clause-whole
call_of-requires-clause-whole c = called_whole c.args.call.now c.in-Some.called (sym c.in-Some.is ∙ c.requires.whole)
