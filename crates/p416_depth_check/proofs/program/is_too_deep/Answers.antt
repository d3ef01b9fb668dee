use Rattle.std.proofs.Common.{rules}
use Rattle.p416_depth_check.proofs.DeepUses.{decl_by}
use Rattle.p416_depth_check.proofs.program.is_too_deep.Goals as goal

pub returns : goal.returns
returns c = decl_by c.args.decl.now c.is_deep_decl.result (search rules)
