use Rattle.std.proofs.Common.{rules}
use Rattle.p416_depth_check.proofs.DeepUses.{program_by}
use Rattle.p416_depth_check.proofs.program.some_too_deep.Goals as goal

pub returns : goal.returns
returns c = program_by c.args.syntax.now c.some_deep_decl.result (search rules)
