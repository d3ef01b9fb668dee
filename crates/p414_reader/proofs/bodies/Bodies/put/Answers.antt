use Rattle.std.proofs.lemmas.Result.{on_ok_weaker}
use Rattle.p414_reader.proofs.bodies.Bodies.put.Goals as goal

pub returns-in-NoBranches : goal.returns-in-NoBranches
returns-in-NoBranches c = rw c.in-NoBranches.is (on_ok_weaker c.no_branches.result (λ f. f c.args.parts.now) c.no_branches.ensures)

pub returns-in-AddApplyBranches : goal.returns-in-AddApplyBranches
returns-in-AddApplyBranches c = rw c.in-AddApplyBranches.is c.add_apply_branches.ensures

pub returns-in-NoElse : goal.returns-in-NoElse
returns-in-NoElse c = rw c.in-NoElse.is (on_ok_weaker c.no_else.result (λ f. f c.args.parts.now) c.no_else.ensures)

pub returns-in-NoElseThenCall : goal.returns-in-NoElseThenCall
returns-in-NoElseThenCall c =
    rw c.in-NoElseThenCall.is (on_ok_weaker c.no_else-in-NoElseThenCall.result (λ f. f c.args.parts.now) c.no_else-in-NoElseThenCall.ensures)

pub returns-in-ElseBlock : goal.returns-in-ElseBlock
returns-in-ElseBlock c = rw c.in-ElseBlock.is (on_ok_weaker c.else_block.result (λ f. f c.args.parts.now) c.else_block.ensures)

pub returns-in-ElseIf : goal.returns-in-ElseIf
returns-in-ElseIf c = rw c.in-ElseIf.is (on_ok_weaker c.else_if.result (λ f. f c.args.parts.now) c.else_if.ensures)

pub returns-in-AddIf : goal.returns-in-AddIf
returns-in-AddIf c = rw c.in-AddIf.is (on_ok_weaker c.add_if.result (λ f. f c.args.parts.now) c.add_if.ensures)
