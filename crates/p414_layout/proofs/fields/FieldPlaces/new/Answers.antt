use Rattle.p414_layout.proofs.Placing.{places_push}
use Rattle.p414_layout.proofs.fields.FieldPlaces.new.Goals as goal

pub loop-field-preserved : goal.loop-field-preserved
loop-field-preserved c =
    let more = places_push c.args.fields.now c.loop-field.field-index c.field-item.result c.loop-field.places.items _ _ _ c.width_of-width.result c.loop-field-test.true
    (rw (← c.field-item.is) c.width_of-width.ensures.is) c.width_of-width.ensures.fits c.in_ok-push.ensures.items c.in_ok-bits.ensures c.loop-field.invariant.widths c.loop-field.invariant.placed in
    record { widths = more.0; placed = more.1 }
