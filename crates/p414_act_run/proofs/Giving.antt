-- What primitives give, and how what they give falls.
use Rattle.std.proofs.Common.{◌≡◌, ◌≢◌, ℕ, ◌+◌, ◌%◌, ◌^◌, ◌<◌, Bool, true, false, cond, List, [], ◌∷◌, Option, Some, None, pos, refl, sym, ap, ap₂, ◌∙◌, subst}
use Rattle.std.specs.Prelude.{◌+ℤ◌}
use Rattle.std.proofs.lemmas.Bool.{ne_eqb}
use Rattle.state_store.specs.declared.shapes.Shape as objects
use Rattle.state_store.specs.State.{Contents, IsCounterAt, IsMeterAt, colour_taken, has_cell, with_cells, cells_at}
use Rattle.state_store.specs.Cells.{taken_in}
use Rattle.fabric.specs.declared.items.RequestKind.{RequestKind}
use Rattle.p414_sem.specs.Wholes.{kept}
use Rattle.p414_sem.specs.State.{State, cleared, header_of, is_live, is_valid}
use Rattle.p414_sem.specs.Operations.{write}
use Rattle.p414_sem.specs.Effects as sem
use Rattle.p414_sem.specs.Effects.{Moment, put_field, put_header, put_cell, count_packet, take_colour, put_request, effects, natural_of, offset_of, term_number}
use Rattle.p414_layout.specs.declared.shape.Shape.{Shape}
use Rattle.p414_slots.specs.Shown.{slot_in}
use Rattle.p414_state.specs.Packets.{Packet, with_state}
use Rattle.p414_ready_actions.specs.declared.rows.ReadySource.{ReadySource}
use Rattle.p414_ready_actions.specs.declared.rows.ReadyTarget.{ReadyTarget}
use Rattle.p414_ready_actions.specs.declared.rows.ReadyElement.{ReadyElement}
use Rattle.p414_ready_actions.specs.declared.rows.ReadyTerm.{ReadyTerm}
use Rattle.p414_ready_actions.specs.Running.{hash_effect, shown_element, shown_source, shown_target, shown_term}
use Rattle.p414_act_run.specs.declared.effect.Effect.{Effect}
use Rattle.p414_act_run.specs.declared.effect.Effect.TheVariants as given
use Rattle.p414_act_run.specs.Fits.{bits_at, FitsRegister, FitsTarget}
use Rattle.p414_act_run.specs.Moments.{Gives, Holds, IsMoved, added}

-- fields

abbrev put_if : Bool → ReadyTarget → ℕ → List sem.Effect
put_if live t n = cond live (put_field (slot_in t.slot) n ∷ []) []

pub dead_gives : (layout : List Shape) (shapes : List objects.Shape) (t : ReadyTarget) (n : ℕ) (live : Bool) → live ≡ false → Gives layout shapes None (put_if live t n)
dead_gives layout shapes t n live is = record { fits = _; is = ap (λ b. put_if b t n) (sym is) }

pub live_gives : (layout : List Shape) (shapes : List objects.Shape) (t : ReadyTarget) (width n due : ℕ) (live : Bool) → live ≡ true → n ≡ due → n < 2 ^ width → width ≡ bits_at layout t.slot → Gives layout shapes (Some (given.PutField t.slot n)) (put_if live t due)
live_gives layout shapes t width n due live is same below bits = record {
  fits = subst (λ w. n < 2 ^ w) bits below;
  is = ap (λ k. put_field (slot_in t.slot) k ∷ []) same ∙ ap (λ b. put_if b t due) (sym is);
}

pub written_dead : (layout : List Shape) (shapes : List objects.Shape) (arguments : List ℕ) (m : Moment) (t : ReadyTarget) (term : ReadyTerm) (live : Bool) → live ≡ is_live m.state (slot_in t.slot) → live ≡ false → Gives layout shapes None (effects [] arguments m (write true (shown_target t) (shown_term term)))
written_dead layout shapes arguments m t term live told is =
    dead_gives layout shapes t (kept t.saturates t.width (term_number [] arguments m (slot_in t.slot) (shown_term term))) (is_live m.state (slot_in t.slot)) (sym told ∙ is)

pub written_live : (layout : List Shape) (shapes : List objects.Shape) (arguments : List ℕ) (m : Moment) (t : ReadyTarget) (term : ReadyTerm) (width n : ℕ) (live : Bool) → FitsTarget layout t → live ≡ is_live m.state (slot_in t.slot) → live ≡ true → width ≡ bits_at layout t.slot → n ≡ kept t.saturates width (term_number [] arguments m (slot_in t.slot) (shown_term term)) → n < 2 ^ width → Gives layout shapes (Some (given.PutField t.slot n)) (effects [] arguments m (write true (shown_target t) (shown_term term)))
written_live layout shapes arguments m t term width n live fits told is bits number below =
    live_gives layout shapes t width n (kept t.saturates t.width (term_number [] arguments m (slot_in t.slot) (shown_term term))) (is_live m.state (slot_in t.slot)) (sym told ∙ is)
    (number ∙ ap (λ w. kept t.saturates w (term_number [] arguments m (slot_in t.slot) (shown_term term))) (bits ∙ sym fits.width)) below bits

pub hashed_dead : (layout : List Shape) (shapes : List objects.Shape) (arguments : List ℕ) (m : Moment) (t : ReadyTarget) (base bound : ReadySource) (hashed : ℕ) (live : Bool) → live ≡ is_live m.state (slot_in t.slot) → live ≡ false → Gives layout shapes None (hash_effect arguments m t base hashed bound)
hashed_dead layout shapes arguments m t base bound hashed live told is =
    dead_gives layout shapes t
    (kept t.saturates t.width (pos (offset_of (natural_of arguments m.state (shown_source base)) hashed (natural_of arguments m.state (shown_source bound)))))
    (is_live m.state (slot_in t.slot)) (sym told ∙ is)

pub hashed_live : (layout : List Shape) (shapes : List objects.Shape) (arguments : List ℕ) (m : Moment) (t : ReadyTarget) (base bound : ReadySource) (hashed width n from most : ℕ) (live : Bool) → FitsTarget layout t → live ≡ is_live m.state (slot_in t.slot) → live ≡ true → width ≡ bits_at layout t.slot → from ≡ natural_of arguments m.state (shown_source base) → most ≡ natural_of arguments m.state (shown_source bound) → n ≡ kept t.saturates width (pos (offset_of from hashed most)) → n < 2 ^ width → Gives layout shapes (Some (given.PutField t.slot n)) (hash_effect arguments m t base hashed bound)
hashed_live layout shapes arguments m t base bound hashed width n from most live fits told is bits starts ends number below =
    live_gives layout shapes t width n
    (kept t.saturates t.width (pos (offset_of (natural_of arguments m.state (shown_source base)) hashed (natural_of arguments m.state (shown_source bound)))))
    (is_live m.state (slot_in t.slot)) (sym told ∙ is)
    (number
    ∙ (ap (λ w. kept t.saturates w (pos (offset_of from hashed most))) (bits ∙ sym fits.width)
    ∙ ap₂ (λ a b. kept t.saturates t.width (pos (offset_of a hashed b))) starts ends)) below bits

-- headers

pub added_valid : (p : Packet) (at : ReadyElement) (valid : Bool) → valid ≡ is_valid p.state at.instance at.element → valid ≡ true → (shapes : List objects.Shape) → Gives p.layout shapes None (added p.state (shown_element at))
added_valid p at valid told is shapes = record {
  fits = _;
  is = ap (λ b. cond b [] (put_header (shown_element at) (cleared true (header_of p.state (shown_element at))) ∷ [])) (sym is ∙ told);
}

pub added_new : (p : Packet) (at : ReadyElement) (effect : Effect) (valid : Bool) → valid ≡ is_valid p.state at.instance at.element → valid ≡ false → ((shapes : List objects.Shape) → Holds p.layout shapes effect (put_header (shown_element at) (cleared true (header_of p.state (shown_element at))))) → (shapes : List objects.Shape) → Gives p.layout shapes (Some effect) (added p.state (shown_element at))
added_new p at effect valid told is holds shapes = record {
  fits = (holds shapes).fits;
  is =
      ap (λ (e : sem.Effect). e ∷ []) (holds shapes).is
      ∙ ap (λ b. cond b [] (put_header (shown_element at) (cleared true (header_of p.state (shown_element at))) ∷ [])) (sym is ∙ told);
}

-- objects and requests

pub cell_holds : (layout : List Shape) (shapes : List objects.Shape) (object index place number due : ℕ) → FitsRegister shapes object → index ≡ place → number ≡ due → Holds layout shapes (given.PutCell object index number) (put_cell object place due)
cell_holds layout shapes object index place number due fits e f = record { fits = fits.register; is = ap₂ (put_cell object) e f }

pub holds_gives : (layout : List Shape) (shapes : List objects.Shape) (effect : Effect) (due : sem.Effect) → Holds layout shapes effect due → Gives layout shapes (Some effect) (due ∷ [])
holds_gives layout shapes effect due holds = record { fits = holds.fits; is = ap (λ (e : sem.Effect). e ∷ []) holds.is }

pub count_gives : (layout : List Shape) (shapes : List objects.Shape) (object index due : ℕ) → IsCounterAt shapes object → index ≡ due → Gives layout shapes (Some (given.CountPacket object index)) (count_packet object due ∷ [])
count_gives layout shapes object index due there e = record { fits = there; is = ap (λ i. count_packet object i ∷ []) e }

pub colour_gives : (layout : List Shape) (shapes : List objects.Shape) (object index due : ℕ) (t : ReadyTarget) (live due_live : Bool) → IsMeterAt shapes object × FitsTarget layout t → index ≡ due → live ≡ due_live → Gives layout shapes (Some (given.TakeColour object index t live)) (take_colour object due (shown_target t) due_live ∷ [])
colour_gives layout shapes object index due t live due_live there e f = record {
  fits = there;
  is = ap₂ (λ i b. take_colour object i (shown_target t) b ∷ []) e f;
}

pub request_gives : (layout : List Shape) (shapes : List objects.Shape) (kind : RequestKind) (session due : ℕ) (list : Option ℕ) → session ≡ due → Gives layout shapes (Some (given.PutRequest kind (record { session = session; list = list }))) (put_request kind (record { session = due; list = list }) ∷ [])
request_gives layout shapes kind session due list e = record {
  fits = _;
  is = ap (λ n. put_request kind (record { session = n; list = list }) ∷ []) e;
}

pub nothing_gives : (layout : List Shape) (shapes : List objects.Shape) → Gives layout shapes None []
nothing_gives layout shapes = record { fits = _; is = refl }

-- how it falls

pub state_moved : (old new : Packet) (held : Contents) (s : State) → new ≡ with_state old s → IsMoved old new held held (record { state = s; store = held })
state_moved old new held s is = record {
  layout = ap (λ (p : Packet). p.layout) is;
  shapes = refl;
  moves = ap (λ (p : Packet). record { state = p.state; store = held }) is;
}

pub store_moved : (p : Packet) (before behind due : Contents) → behind ≡ due → due.shapes ≡ before.shapes → IsMoved p p before behind (record { state = p.state; store = due })
store_moved p before behind due is same = record {
  layout = refl;
  shapes = ap (λ (c : Contents). c.shapes) is ∙ same;
  moves = ap (λ (c : Contents). record { state = p.state; store = c }) is;
}

taken_shapes : (held : Contents) (object : ℕ) (there : Bool) → (cond there (with_cells held object (taken_in (cells_at held object))) held).shapes ≡ held.shapes
taken_shapes held object true = refl
taken_shapes held object false = refl

pub colour_moved : (old new : Packet) (before behind : Contents) (object index : ℕ) (s : State) → new ≡ with_state old s → behind ≡ colour_taken before object index → IsMoved old new before behind (record { state = s; store = colour_taken before object index })
colour_moved old new before behind object index s is taken = record {
  layout = ap (λ (p : Packet). p.layout) is;
  shapes = ap (λ (c : Contents). c.shapes) taken ∙ taken_shapes before object (has_cell before object index);
  moves = ap₂ (λ (p : Packet) (c : Contents). record { state = p.state; store = c }) is taken;
}

-- a base, and a result modulo a bound

pub offset_none : (saturates : Bool) (width base hashed bound n : ℕ) → bound ≡ 0 → n ≡ kept saturates width (pos base) → n ≡ kept saturates width (pos (offset_of base hashed bound))
offset_none saturates width base hashed bound n none is =
    is ∙ ap (λ k. kept saturates width (pos (offset_of base hashed k))) (sym none)

pub offset_some : (saturates : Bool) (width base hashed bound n : ℕ) → bound ≢ 0 → n ≡ kept saturates width (pos base +ℤ pos (hashed % bound)) → n ≡ kept saturates width (pos (offset_of base hashed bound))
offset_some saturates width base hashed bound n some is =
    is ∙ sym (ap (λ b. kept saturates width (pos (cond b base (base + hashed % bound)))) (ne_eqb bound 0 some))
