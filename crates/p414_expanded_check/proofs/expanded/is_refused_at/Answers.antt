use Rattle.std.proofs.Common.{◌∙◌}
use Rattle.p414_expanded_check.proofs.Answering.{refused_by}
use Rattle.p414_expanded_check.proofs.expanded.is_refused_at.Goals as goal

pub returns : goal.returns
returns c =
    refused_by c.args.names.now c.args.place c.requires.known c.args.passes.now c.requires.passes c.deref.result.now c.args.begins.now.count c.deref-2.result.now c.args.calls.now
    c.requires.count (c.deref-2.ensures.value ∙ c.requires.starts) c.requires.calls (c.deref.ensures.value ∙ c.in_ok-flags.ensures)
    c.some_refused.result c.some_refused.ensures
