use Rattle.std.proofs.Common.{sym}
use Rattle.p416_types.proofs.Exactly.{t11}
use Rattle.p416_types.proofs.each.breaks_t11.Goals as goal

pub returns : goal.returns
returns c = t11 c.args.syntax.now c.in_ok-right.right (c.in_ok-right.ensures c.args.syntax.now c.requires (sym c.as_slice-main.ensures))
