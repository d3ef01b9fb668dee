use Rattle.std.proofs.Common.{◌∙◌, arith}
use Rattle.entries_file.specs.internal.Drafts.{drafted}
use Rattle.entries_file.proofs.LineLaws.{read_next}
use Rattle.entries_file.proofs.reader.read_lines.Goals as goal

pub loop-one-preserved : goal.loop-one-preserved
loop-one-preserved c = record {
  draft_is = c.in_default-judge_line.ensures.0;
  same = c.loop-one.invariant.same
      ∙ read_next c.args.signature.now (drafted c.loop-one.draft) (drafted c.judge_line.new.draft) c.loop-one.line c.loop-one.rest.now c.in-Some.one.now c.in-Some.more.now c.in-Some.ensures.next c.in_default-judge_line.ensures.1;
  few = omega (arith, c.in-Some.ensures.shorter);
}
