use Rattle.p416_types.proofs.Leaving.{misnamed_first, misnamed_second}
use Rattle.p416_types.proofs.each.is_misnamed_at_top.Goals as goal

pub returns-then-branch : goal.returns-then-branch
returns-then-branch c = misnamed_first c.args.syntax.now c.as_slice-decls.result.now c.in_ok-declares_twice.field-0 c.as_slice-decls.ensures c.in_ok-declares_twice.ensures c.if-branch.true

pub returns : goal.returns
returns c =
    misnamed_second c.args.syntax.now c.as_slice-decls.result.now c.as_slice-main.result.now c.in_ok-declares_twice.field-0 c.names_no_block-stray.result c.as_slice-decls.ensures c.as_slice-main.ensures c.in_ok-declares_twice.ensures c.if-branch.false
    (c.names_no_block-stray.ensures c.args.syntax.now c.requires)
