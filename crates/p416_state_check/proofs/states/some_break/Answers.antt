use Rattle.p416_syntax.specs.Breaks.{ParserBreaks}
use Rattle.p416_state_check.proofs.Idle.{some_at, some_behind, none_left}
use Rattle.p416_state_check.proofs.states.some_break.Goals as goal

pub loop-decl-preserved : goal.loop-decl-preserved
loop-decl-preserved c = λ some. some_behind ParserBreaks c.args.decls.now c.loop-decl.decl-index c.decl-item.result c.in_ok-does_decl_break.field-0 c.loop-decl-test.true c.decl-item.is c.if-branch.false c.in_ok-does_decl_break.ensures (c.loop-decl.invariant some)

pub returns-then-branch : goal.returns-then-branch
returns-then-branch c = some_at ParserBreaks c.args.decls.now c.loop-decl.decl-index c.decl-item.result c.in_ok-does_decl_break.field-0 c.loop-decl-test.true c.decl-item.is c.if-branch.true c.in_ok-does_decl_break.ensures

pub returns : goal.returns
returns c = λ some. none_left ParserBreaks c.args.decls.now c.loop-decl.decl-index c.loop-decl-test.false (c.loop-decl.invariant some)
