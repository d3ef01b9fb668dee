-- A packet's state and the store together, what an effect that is kept means, and what a step comes to.
use Rattle.std.specs.Prelude.{◌≡◌, true, if◌then◌else◌, List, [], ◌∷◌, length, map, Option, Some, None, All}
use Rattle.state_store.specs.declared.shapes.Shape as objects
use Rattle.state_store.specs.State.{Contents}
use Rattle.p414_sem.specs.Slots.{Element}
use Rattle.p414_sem.specs.State.{State, blank, cleared, header_of, is_valid_at}
use Rattle.p414_sem.specs.Effects as sem
use Rattle.p414_sem.specs.Effects.{Moment, put_field, put_header, put_stack, put_cell, count_packet, take_colour, put_request}
use Rattle.p414_layout.specs.declared.shape.Shape.{Shape}
use Rattle.p414_layout.specs.Shapes.{shape_at}
use Rattle.p414_slots.specs.Shown.{slot_in}
use Rattle.p414_state.specs.Headers.{header_in}
use Rattle.p414_state.specs.Packets.{Packet}
use Rattle.p414_ready_actions.specs.Running.{shown_element, shown_target}
use Rattle.p414_act_run.specs.declared.effect.Effect.{Effect}
use Rattle.p414_act_run.specs.declared.effect.Effect.TheVariants as kept
use Rattle.p414_act_run.specs.Fits.{FitsEffect, FitsEffects}

abbrev pub moment : Packet → Contents → Moment
moment p store = record { state = p.state; store = store }

-- the effect that is meant, where instances are laid out so
abbrev pub shown_effect : List Shape → Effect → sem.Effect
shown_effect layout (kept.PutField slot number) = put_field (slot_in slot) number
shown_effect layout (kept.ClearHeader at valid) =
    put_header (shown_element at) (blank valid (length (shape_at layout at.instance).widths))
shown_effect layout (kept.PutHeader at header) =
    put_header (shown_element at) (header_in (shape_at layout at.instance).widths header)
shown_effect layout (kept.PutStack instance elements) =
    put_stack instance (map (header_in (shape_at layout instance).widths) elements)
shown_effect layout (kept.PutCell object index number) = put_cell object index number
shown_effect layout (kept.CountPacket object index) = count_packet object index
shown_effect layout (kept.TakeColour object index target live) = take_colour object index (shown_target target) live
shown_effect layout (kept.PutRequest kind request) = put_request kind request

abbrev pub shown_effects : List Shape → Option Effect → List sem.Effect
shown_effects layout None = []
shown_effects layout (Some effect) = shown_effect layout effect ∷ []

-- an effect that is kept is this one, and falls well
pub record Holds (layout : List Shape) (shapes : List objects.Shape) (effect : Effect) (due : sem.Effect) : Type 0 where
  pub fits : FitsEffect layout shapes effect
  pub is : shown_effect layout effect ≡ due

-- and one that a primitive has, if it has one
pub record Gives (layout : List Shape) (shapes : List objects.Shape) (given : Option Effect) (due : List sem.Effect) : Type 0 where
  pub fits : FitsEffects layout shapes given
  pub is : shown_effects layout given ≡ due

-- effects that are kept are these, in order, and fall well
pub record AreHeld (layout : List Shape) (shapes : List objects.Shape) (effects : List Effect) (due : List sem.Effect) : Type 0 where
  pub fits : All (FitsEffect layout shapes) effects
  pub are : map (shown_effect layout) effects ≡ due

-- the effects of `add_header`: none where the header is valid
abbrev pub added : State → Element → List sem.Effect
added s at = if is_valid_at s at then [] else put_header at (cleared true (header_of s at)) ∷ []

-- A step comes to this moment, and what instances and objects are made of stays.
pub record IsMoved (old new : Packet) (before behind : Contents) (due : Moment) : Type 0 where
  pub layout : new.layout ≡ old.layout
  pub shapes : behind.shapes ≡ before.shapes
  pub moves : moment new behind ≡ due
