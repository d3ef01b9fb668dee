-- What rows and effects are like so that each number in them is kept as the layout and 128 bits keep it, and headers and
-- stateful objects are of the kinds that are wanted.
use Rattle.std.specs.Prelude.{◌≡◌, ℕ, ◌^◌, ◌<◌, ◌≤◌, List, Option, Some, None}
use Rattle.state_store.specs.declared.shapes.Shape as objects
use Rattle.state_store.specs.Cells.{width_of}
use Rattle.state_store.specs.State.{shape_at as object_at, IsCounterAt, IsRegisterAt, IsMeterAt}
use Rattle.p414_layout.specs.declared.shape.Shape.{Shape}
use Rattle.p414_layout.specs.Shapes.{shape_at}
use Rattle.p414_slots.specs.declared.slot.FieldSlot.{FieldSlot}
use Rattle.p414_slots.specs.declared.slot.FieldSlot.TheVariants as by_number
use Rattle.p414_state.specs.Headers.{IsPacked, ArePacked, HasElement}
use Rattle.p414_state.specs.Packets.{IsHeader, width_at, standard_bits}
use Rattle.p414_ready_actions.specs.declared.rows.ReadyTarget.{ReadyTarget}
use Rattle.p414_ready_actions.specs.declared.rows.ReadyElement.{ReadyElement}
use Rattle.p414_ready_actions.specs.declared.rows.ReadyTerm.{ReadyTerm}
use Rattle.p414_ready_actions.specs.declared.rows.ReadyTerm.TheVariants as ready_term
use Rattle.p414_ready_actions.specs.declared.rows.ReadyPrimitive.{ReadyPrimitive}
use Rattle.p414_ready_actions.specs.declared.rows.ReadyPrimitive.TheVariants as ready
use Rattle.p414_act_run.specs.declared.effect.Effect.{Effect}
use Rattle.p414_act_run.specs.declared.effect.Effect.TheVariants as kept

-- the bits of a field; 0 where it isn't there
abbrev pub bits_at : List Shape → FieldSlot → ℕ
bits_at layout (by_number.Standard field) = standard_bits field
bits_at layout (by_number.Declared instance element field) = width_at layout instance field

-- what is written has the bits of its field
pub record FitsTarget (layout : List Shape) (t : ReadyTarget) : Type 0 where
  pub width : t.width ≡ bits_at layout t.slot

-- a header, which is no metadata and is there
pub record FitsElement (layout : List Shape) (at : ReadyElement) : Type 0 where
  pub header : IsHeader layout at.instance
  pub there : HasElement layout at.instance at.element

-- a header, and one with the same fields, from which it is copied
pub record FitsCopy (layout : List Shape) (at from : ReadyElement) : Type 0 where
  pub header : IsHeader layout at.instance
  pub there : HasElement layout from.instance from.element
  pub same : (shape_at layout from.instance).widths ≡ (shape_at layout at.instance).widths

-- the first so many fields of two instances have the same widths
pub record AreSame (layout : List Shape) (first second fields : ℕ) : Type 0 where
  pub widths : (f : ℕ) → f < fields → width_at layout first f ≡ width_at layout second f

-- a register of at most 128 bits
pub record FitsRegister (shapes : List objects.Shape) (object : ℕ) : Type 0 where
  pub register : IsRegisterAt shapes object
  pub width : width_of (object_at shapes object) ≤ 128

abbrev pub FitsTerm : List objects.Shape → ReadyTerm → Type 0
FitsTerm shapes (ready_term.Cell object index) = IsRegisterAt shapes object
FitsTerm shapes _ = Unit {0}

abbrev pub FitsRow : List Shape → List objects.Shape → ReadyPrimitive → Type 0
FitsRow layout shapes (ready.Write target term) = FitsTarget layout target × FitsTerm shapes term
FitsRow layout shapes (ready.Hash target base calculation bound) = FitsTarget layout target
FitsRow layout shapes (ready.AddHeader at) = FitsElement layout at
FitsRow layout shapes (ready.RemoveHeader at) = FitsElement layout at
FitsRow layout shapes (ready.CopyHeader at from) = FitsCopy layout at from
FitsRow layout shapes (ready.Push stack count) = IsHeader layout stack
FitsRow layout shapes (ready.Pop stack count) = IsHeader layout stack
FitsRow layout shapes (ready.Count object index) = IsCounterAt shapes object
FitsRow layout shapes (ready.WriteCell object index value) = FitsRegister shapes object
FitsRow layout shapes (ready.ExecuteMeter object index target) = IsMeterAt shapes object × FitsTarget layout target
FitsRow layout shapes (ready.Ask kind session list) = Unit {0}
FitsRow layout shapes ready.Nothing = Unit {0}

-- the same of effects
abbrev pub FitsEffect : List Shape → List objects.Shape → Effect → Type 0
FitsEffect layout shapes (kept.PutField slot number) = number < 2 ^ bits_at layout slot
FitsEffect layout shapes (kept.ClearHeader at valid) = FitsElement layout at
FitsEffect layout shapes (kept.PutHeader at header) = IsPacked (shape_at layout at.instance) header
FitsEffect layout shapes (kept.PutStack instance elements) = ArePacked (shape_at layout instance) elements
FitsEffect layout shapes (kept.PutCell object index number) = IsRegisterAt shapes object
FitsEffect layout shapes (kept.CountPacket object index) = IsCounterAt shapes object
FitsEffect layout shapes (kept.TakeColour object index target live) =
    IsMeterAt shapes object × FitsTarget layout target
FitsEffect layout shapes (kept.PutRequest kind request) = Unit {0}

abbrev pub FitsEffects : List Shape → List objects.Shape → Option Effect → Type 0
FitsEffects layout shapes None = Unit {0}
FitsEffects layout shapes (Some effect) = FitsEffect layout shapes effect
