-- Headers and stacks that are kept as effects.
use Rattle.std.proofs.Common.{◌≡◌, ℕ, Bool, false, List, length, sym, ap, ◌∙◌}
use Rattle.state_store.specs.declared.shapes.Shape as objects
use Rattle.p414_sem.specs.State.{Header, header_at, header_of, cleared, blank, with_header}
use Rattle.p414_sem.specs.Effects.{put_header, put_stack, pushed, popped}
use Rattle.p414_layout.specs.declared.shape.Shape.{Shape}
use Rattle.p414_layout.specs.Shapes.{shape_at}
use Rattle.p414_state.specs.Headers.{Packed, HoldsHeader, HoldsStack, FitsAt}
use Rattle.p414_state.specs.Packets.{Packet, IsHeader, with_state}
use Rattle.p414_state.proofs.Laws.{cleared_is, held_as}
use Rattle.p414_ready_actions.specs.declared.rows.ReadyElement.{ReadyElement}
use Rattle.p414_ready_actions.specs.Running.{shown_element}
use Rattle.p414_act_run.specs.declared.effect.Effect.TheVariants as kept
use Rattle.p414_act_run.specs.Fits.{FitsCopy, FitsElement}
use Rattle.p414_act_run.specs.Moments.{Holds}

pub cleared_holds : (p : Packet) (at : ReadyElement) (valid : Bool) → FitsElement p.layout at → FitsAt p at.instance → (shapes : List objects.Shape) → Holds p.layout shapes (kept.ClearHeader at valid) (put_header (shown_element at) (cleared valid (header_of p.state (shown_element at))))
cleared_holds p at valid here fits shapes = record {
  fits = here;
  is = ap (put_header (shown_element at)) (sym (cleared_is p at.instance at.element valid fits here.there.element));
}

pub cleared_falls : (old new : Packet) (at : ReadyElement) (valid : Bool) → FitsElement old.layout at → FitsAt old at.instance → new ≡ with_state old (with_header old.state at.instance at.element (cleared valid (header_at old.state at.instance at.element))) → new ≡ with_state old (with_header old.state at.instance at.element (blank valid (length (shape_at old.layout at.instance).widths)))
cleared_falls old new at valid here fits is =
    is ∙ ap (λ (h : Header). with_state old (with_header old.state at.instance at.element h)) (cleared_is old at.instance at.element valid fits here.there.element)

pub copied_holds : (layout : List Shape) (at from : ReadyElement) (h : Header) (p : Packed) → FitsCopy layout at from → HoldsHeader (shape_at layout from.instance) h p → (shapes : List objects.Shape) → Holds layout shapes (kept.PutHeader at p) (put_header (shown_element at) h)
copied_holds layout at from h p fits held shapes =
    let here = held_as (shape_at layout from.instance) (shape_at layout at.instance) h p fits.same fits.header.header held in
    record { fits = here.packed; is = ap (put_header (shown_element at)) here.is }

pub pushed_holds : (layout : List Shape) (stack count : ℕ) (headers : List Header) (old new : List Packed) → IsHeader layout stack → HoldsStack (shape_at layout stack) headers old → ((shape : Shape) (hs : List Header) → shape.metadata ≡ false → HoldsStack shape hs old → HoldsStack shape (pushed count hs) new) → (shapes : List objects.Shape) → Holds layout shapes (kept.PutStack stack new) (put_stack stack (pushed count headers))
pushed_holds layout stack count headers old new header held moved shapes =
    let now = moved (shape_at layout stack) headers header.header held in record { fits = now.packed; is = ap (put_stack stack) now.are }

pub popped_holds : (layout : List Shape) (stack count : ℕ) (headers : List Header) (old new : List Packed) → IsHeader layout stack → HoldsStack (shape_at layout stack) headers old → ((shape : Shape) (hs : List Header) → shape.metadata ≡ false → HoldsStack shape hs old → HoldsStack shape (popped count hs) new) → (shapes : List objects.Shape) → Holds layout shapes (kept.PutStack stack new) (put_stack stack (popped count headers))
popped_holds layout stack count headers old new header held moved shapes =
    let now = moved (shape_at layout stack) headers header.header held in record { fits = now.packed; is = ap (put_stack stack) now.are }
