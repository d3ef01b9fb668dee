-- The octet is put together of its front, the part and its end.
use Rattle.std.proofs.Common.{◌<◌, ◌≡◌, arith}
use Rattle.p4x_bits.proofs.Masks.{glued, parts, glued_is, parts_below}
use Rattle.p4x_bits.proofs.Splices.{with_part_is}
use Rattle.p4x_bits.proofs.fields.with_octet_part.Goals as goal

pub overflow_cast-result-3 : goal.overflow_cast-result-3
overflow_cast-result-3 c =
    let octet : c.args.octet < 256 = omega arith in
    let is : glued c.args.octet c.args.skip c.args.count c.args.number ≡ parts c.args.octet c.args.skip c.args.count c.args.number = glued_is c.args.octet c.args.skip c.args.count c.args.number octet c.requires in
    rw (c.from.ensures, c.from-2.ensures, is) (omega (arith, parts_below c.args.octet c.args.skip c.args.count c.args.number octet c.requires))

pub returns : goal.returns
returns c =
    let octet : c.args.octet < 256 = omega arith in
    let is : glued c.args.octet c.args.skip c.args.count c.args.number ≡ parts c.args.octet c.args.skip c.args.count c.args.number = glued_is c.args.octet c.args.skip c.args.count c.args.number octet c.requires in
    rw (c.from.ensures, c.from-2.ensures, is) (with_part_is 8 c.args.octet c.args.skip c.args.count c.args.number c.requires)
