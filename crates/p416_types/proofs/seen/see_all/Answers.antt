use Rattle.std.proofs.Common.{rules}
use Rattle.p416_types.proofs.Leaving.{found_more, outside_more}
use Rattle.p416_types.proofs.seen.see_all.Goals as goal

pub loop-decl-preserved : goal.loop-decl-preserved
loop-decl-preserved c = (
  found_more c.args.top.now c.args.places.now c.args.decls.now c.loop-decl.decl-index c.decl-item.result c.loop-decl.found _ _ c.loop-decl-test.true c.decl-item.is c.in_ok-here.ensures.found c.loop-decl.invariant.0,
  outside_more c.args.top.now c.args.places.now c.args.decls.now c.loop-decl.decl-index c.decl-item.result c.loop-decl.outside _ c.in_ok-here.here _ c.loop-decl-test.true c.decl-item.is c.in_ok-here.ensures.outside (search rules) c.loop-decl.invariant.1,
)
