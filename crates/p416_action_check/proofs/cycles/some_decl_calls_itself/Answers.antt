use Rattle.p416_action_check.specs.Cycles.{CallsItself}
use Rattle.p416_action_check.proofs.Calling.{some_at, some_behind, none_left}
use Rattle.p416_action_check.proofs.cycles.some_decl_calls_itself.Goals as goal

pub loop-decl-preserved : goal.loop-decl-preserved
loop-decl-preserved c = λ some. some_behind (CallsItself c.args.top.now c.args.places.now) c.args.decls.now c.loop-decl.decl-index c.decl-item.result c.in_ok-does_decl_call_itself.field-0 c.loop-decl-test.true c.decl-item.is c.if-branch.false c.in_ok-does_decl_call_itself.ensures (c.loop-decl.invariant some)

pub returns-then-branch : goal.returns-then-branch
returns-then-branch c = some_at (CallsItself c.args.top.now c.args.places.now) c.args.decls.now c.loop-decl.decl-index c.decl-item.result c.in_ok-does_decl_call_itself.field-0 c.loop-decl-test.true c.decl-item.is c.if-branch.true c.in_ok-does_decl_call_itself.ensures

pub returns : goal.returns
returns c = λ some. none_left (CallsItself c.args.top.now c.args.places.now) c.args.decls.now c.loop-decl.decl-index c.loop-decl-test.false (c.loop-decl.invariant some)
