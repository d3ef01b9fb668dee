use Rattle.std.proofs.Common.{◌<◌, length, arith, ap, ◌∙◌}
use Rattle.match_core.proofs.Colouring.{cells_more, as_many_colours, small_colours, is_meter, cells_within}
use Rattle.match_core.proofs.stores.first_store.Goals as goal

pub overflow_cast-object : goal.overflow_cast-object
overflow_cast-object c =
    let many = as_many_colours c.args.signature.now c.args.entries.now c.requires.fits in
    let few = c.requires.signature.objects.few in
    omega (arith, many, few, ap length c.as_slice-colours.ensures)

pub give_all-requires-clause-meter : goal.give_all-requires-clause-meter
give_all-requires-clause-meter c =
    let many = as_many_colours c.args.signature.now c.args.entries.now c.requires.fits in
    let within : c.loop-object.object < length c.args.signature.now.objects = omega (arith, many, ap length c.as_slice-colours.ensures) in
    let here = rw c.as_slice-colours.ensures at c.index-colours-object.is in
    rw c.as_slice.ensures (is_meter c.args.signature.now c.args.entries.now c.loop-object.object c.index-colours-object.result c.loop-object.store.shapes c.requires.fits within here c.loop-object.invariant.shapes)

pub give_all-requires-clause-colours : goal.give_all-requires-clause-colours
give_all-requires-clause-colours c =
    let many = as_many_colours c.args.signature.now c.args.entries.now c.requires.fits in
    let within : c.loop-object.object < length c.args.signature.now.objects = omega (arith, many, ap length c.as_slice-colours.ensures) in
    let here = rw c.as_slice-colours.ensures at c.index-colours-object.is in
    rw c.as_slice.ensures (small_colours c.args.signature.now c.args.entries.now c.loop-object.object c.index-colours-object.result c.requires.fits within here)

pub give_all-requires-clause-within : goal.give_all-requires-clause-within
give_all-requires-clause-within c =
    let many = as_many_colours c.args.signature.now c.args.entries.now c.requires.fits in
    cells_within c.args.signature.now c.args.entries.now c.loop-object.store c.loop-object.object c.loop-object.invariant.store c.loop-object.invariant.shapes (omega (arith, many, ap length c.as_slice-colours.ensures))

pub loop-object-preserved : goal.loop-object-preserved
loop-object-preserved c = record {
  shapes = ap (λ s. s.shapes) c.in_ok-give_all.ensures.given ∙ c.loop-object.invariant.shapes;
  cells = cells_more c.loop-object.store c.give_all.new.store _ c.as_slice-colours.result.now c.loop-object.object c.index-colours-object.result (omega arith) c.index-colours-object.is c.loop-object.invariant.cells
      (rw c.as_slice.ensures at c.in_ok-give_all.ensures.given);
  store = c.give_all.ensures.store;
}
