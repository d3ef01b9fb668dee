use Rattle.std.proofs.Common.{arith}
use Rattle.least_order.proofs.Parting.{none_more, first_of, second_of}
use Rattle.least_order.proofs.quotient.put_mark.Goals as goal

pub returns-then-not-is_listed-node : goal.returns-then-not-is_listed-node
returns-then-not-is_listed-node c = none_more c.args.components.now c.args.is_listed.now c.args.node c.args.marks.now.items c.requires.marks c.if-not-is_listed-node.true

pub index-requires : goal.index-requires
index-requires c = let lt = c.requires.below c.args.node c.requires.node in omega (arith, lt, c.number-number.ensures, c.requires.marks.each, c.args.marks.now.ok.0)

pub returns-then-is_some : goal.returns-then-is_some
returns-then-is_some c =
    let lt = c.requires.below c.args.node c.requires.node in
    second_of c.args.components.now c.args.is_listed.now c.args.node c.number-number.result c.args.marks.now.items c.index.result.now c.requires.marks c.if-not-is_listed-node.false c.number-number.ensures (omega (arith, lt, c.number-number.ensures)) c.index.ensures c.if-is_some.ensures

pub returns : goal.returns
returns c =
    let lt = c.requires.below c.args.node c.requires.node in
    first_of c.args.components.now c.args.is_listed.now c.args.node c.number-number.result c.args.marks.now.items c.index.result.now c.requires.marks c.if-not-is_listed-node.false c.number-number.ensures (omega (arith, lt, c.number-number.ensures)) c.index.ensures c.if-is_some.ensures

pub index_mut-requires : goal.index_mut-requires
index_mut-requires c = let lt = c.requires.below c.args.node c.requires.node in omega (arith, lt, c.number-number.ensures, c.requires.marks.each, c.args.marks.now.ok.0)
