-- The calls of the passes give what the machine does.
use Rattle.std.proofs.Common.{◌≡◌, ℕ, Bool, true, false, cond, List, [], None, refl, sym, ap, ap₂, ◌∙◌}
use Rattle.state_store.specs.State.{Contents}
use Rattle.fabric.specs.declared.items.EgressEnd.{EgressEnd}
use Rattle.fabric.specs.declared.items.EgressNext.TheVariants as after_egress
use Rattle.fabric.specs.declared.items.IngressEnd.{IngressEnd}
use Rattle.fabric.specs.declared.items.Event.{Event}
use Rattle.fabric.specs.declared.items.Item.{Item}
use Rattle.p414_sem.specs.CalculatedFields.{fails_verification}
use Rattle.p414_sem.specs.Controls.{Setting, control_run}
use Rattle.p414_sem.specs.Effects.{Moment}
use Rattle.p414_sem.specs.Parsing.{parsed}
use Rattle.p414_sem.specs.Passes.{Ended, Held, Preserved, begins, dropped, egress14, egress_begins, egress_end, held_of, ingress14, ingress_end, reparse14}
use Rattle.p414_sem.specs.Runs.{Between}
use Rattle.p414_sem.specs.State.{State}
use Rattle.p414_state.specs.Packets.{Packet, with_state}
use Rattle.p414_pipe_run.specs.declared.held.Held14.{Held14}
use Rattle.p414_pipe_run.specs.Held.{packed, shown_held}
use Rattle.p414_pipe_run.specs.Packed.{left_by, packed_egress, packed_ingress, packed_machine}
use Rattle.p414_pipe_run.specs.Prepared.{Prepared, comes_to, setting_of}
use Rattle.p414_pipe_run.specs.internal.Ending.{IsRan, after_held, egress_answer, ingress_answer}
use Rattle.p414_pipe_run.proofs.Ending.{held_by_parse}

abbrev no_egress : EgressEnd Preserved Held14
no_egress = record { clone = None; end = after_egress.Drop }

abbrev quiet : Contents → Between
quiet store = record { store = store; events = [] }

ingress_is : (c : Setting) (store : Contents) (came : Item Preserved) → ingress14 c store came ≡ after_held c store (held_of (parsed c.decls (begins c.decls came)))
unfolding ingress14
ingress_is c store came = sym (held_by_parse c store (parsed c.decls (begins c.decls came)))

abbrev made : Prepared → Ended (IngressEnd Preserved Held) → IngressEnd Preserved Held14 × Between
made p e = (packed_ingress p.loaded.decls e.answer, left_by e)

pub ingress_gives : (p : Prepared) (came : Item Preserved) (old now new : Between) (held : Held14) (end : IngressEnd Preserved Held14) → held ≡ packed p.loaded.decls (held_of (parsed p.loaded.decls (begins p.loaded.decls came))) → now.store ≡ old.store → end ≡ packed_ingress p.loaded.decls (after_held (setting_of p) now.store (shown_held held)).answer → new ≡ left_by (after_held (setting_of p) now.store (shown_held held)) → (packed_machine (setting_of p)).ingress old came ≡ (end, new)
ingress_gives p came old now new held end is same ended left =
    let due : after_held (setting_of p) now.store (shown_held held) ≡ ingress14 (setting_of p) old.store came =
    ap₂ (λ (s : Contents) (h : Held14). after_held (setting_of p) s (shown_held h)) same is ∙ sym (ingress_is (setting_of p) old.store came) in
    ap (made p) (sym due) ∙ ap₂ (λ (e : IngressEnd Preserved Held14) (b : Between). (e, b)) (sym ended) (sym left)

pub reparse_gives : (p : Prepared) (old new : Between) (came : Item Preserved) (held : Held14) → held ≡ packed p.loaded.decls (held_of (parsed p.loaded.decls (begins p.loaded.decls came))) → new ≡ quiet old.store → (packed_machine (setting_of p)).reparse old came ≡ (held, new)
unfolding reparse14
reparse_gives p old new came held is left = ap₂ (λ (h : Held14) (b : Between). (h, b)) (sym is) (sym left)

module _ (p : Prepared) where
  -- ingress

  abbrev held_at : Bool → State → Held
  held_at b s = record { state = s; failed = b }

  pub failed_drops : (store : Contents) (s : State) (failed : Bool) → failed ≡ true → after_held (setting_of p) store (record { state = s; failed = failed }) ≡ dropped store
  failed_drops store s failed is = ap (λ (b : Bool). after_held (setting_of p) store (held_at b s)) is

  abbrev by_sum : Contents → State → Bool → Ended (IngressEnd Preserved Held)
  by_sum store s b = cond b (dropped store) (ingress_end p.loaded.decls (comes_to p) (control_run (setting_of p) (comes_to p).ingress (record { state = s; store = store })))

  pub wrong_drops : (store : Contents) (s : State) (failed fails : Bool) → failed ≡ false → fails ≡ fails_verification p.loaded.decls (comes_to p) s → fails ≡ true → after_held (setting_of p) store (record { state = s; failed = failed }) ≡ dropped store
  wrong_drops store s failed fails not same is =
      ap (λ (b : Bool). after_held (setting_of p) store (held_at b s)) not ∙ ap (by_sum store s) (sym same ∙ is)

  goes : (store : Contents) (s : State) (failed fails : Bool) → failed ≡ false → fails ≡ fails_verification p.loaded.decls (comes_to p) s → fails ≡ false → after_held (setting_of p) store (record { state = s; failed = failed }) ≡ ingress_end p.loaded.decls (comes_to p) (control_run (setting_of p) (comes_to p).ingress (record { state = s; store = store }))
  goes store s failed fails not same is =
      ap (λ (b : Bool). after_held (setting_of p) store (held_at b s)) not ∙ ap (by_sum store s) (sym same ∙ is)

  abbrev moved : State → Contents → Moment
  moved s store = record { state = s; store = store }

  through : (old new : Packet) (store : Contents) (behind : Between) (failed fails : Bool) → failed ≡ false → fails ≡ fails_verification p.loaded.decls (comes_to p) old.state → fails ≡ false → IsRan p (comes_to p).ingress old new store behind → after_held (setting_of p) store (record { state = old.state; failed = failed }) ≡ ingress_end p.loaded.decls (comes_to p) (moved new.state behind.store)
  through old new store behind failed fails not same is ran =
      goes store old.state failed fails not same is ∙ ap (ingress_end p.loaded.decls (comes_to p)) (sym ran.moves)

  pub through_ends : (old new : Packet) (store : Contents) (behind : Between) (failed fails : Bool) (end : IngressEnd Preserved Held14) → failed ≡ false → fails ≡ fails_verification p.loaded.decls (comes_to p) old.state → fails ≡ false → IsRan p (comes_to p).ingress old new store behind → end ≡ packed_ingress p.loaded.decls (ingress_answer p.loaded.decls (comes_to p) new.state) → end ≡ packed_ingress p.loaded.decls (after_held (setting_of p) store (record { state = old.state; failed = failed })).answer
  through_ends old new store behind failed fails end not same is ran ended =
      ended ∙ ap (λ (e : Ended (IngressEnd Preserved Held)). packed_ingress p.loaded.decls e.answer) (sym (through old new store behind failed fails not same is ran))

  pub through_leaves : (old new : Packet) (store : Contents) (behind : Between) (failed fails : Bool) → failed ≡ false → fails ≡ fails_verification p.loaded.decls (comes_to p) old.state → fails ≡ false → IsRan p (comes_to p).ingress old new store behind → behind ≡ left_by (after_held (setting_of p) store (record { state = old.state; failed = failed }))
  through_leaves old new store behind failed fails not same is ran =
      ap (λ (l : List Event). record { store = behind.store; events = l }) ran.events
      ∙ ap left_by (sym (through old new store behind failed fails not same is ran))

  -- egress

  out : (old begun new : Packet) (store : Contents) (behind : Between) (port kind : ℕ) → begun ≡ with_state old (egress_begins old.state port kind) → IsRan p (comes_to p).egress begun new store behind → egress14 (setting_of p) store (record { state = old.state; failed = false }) port kind ≡ egress_end p.loaded.decls (comes_to p) (moved new.state behind.store)
  unfolding egress14
  out old begun new store behind port kind is ran =
      ap (λ (q : Packet). egress_end p.loaded.decls (comes_to p) (control_run (setting_of p) (comes_to p).egress (moved q.state store))) (sym is)
      ∙ ap (egress_end p.loaded.decls (comes_to p)) (sym ran.moves)

  pub out_ends : (old begun new : Packet) (store : Contents) (behind : Between) (port kind : ℕ) (end : EgressEnd Preserved Held14) → begun ≡ with_state old (egress_begins old.state port kind) → IsRan p (comes_to p).egress begun new store behind → end ≡ packed_egress p.loaded.decls (egress_answer p.loaded.decls (comes_to p) new.state) → end ≡ packed_egress p.loaded.decls (egress14 (setting_of p) store (record { state = old.state; failed = false }) port kind).answer
  out_ends old begun new store behind port kind end is ran ended =
      ended ∙ ap (λ (e : Ended (EgressEnd Preserved Held)). packed_egress p.loaded.decls e.answer) (sym (out old begun new store behind port kind is ran))

  pub out_leaves : (old begun new : Packet) (store : Contents) (behind : Between) (port kind : ℕ) → begun ≡ with_state old (egress_begins old.state port kind) → IsRan p (comes_to p).egress begun new store behind → behind ≡ left_by (egress14 (setting_of p) store (record { state = old.state; failed = false }) port kind)
  out_leaves old begun new store behind port kind is ran =
      ap (λ (l : List Event). record { store = behind.store; events = l }) ran.events
      ∙ ap left_by (sym (out old begun new store behind port kind is ran))

  -- what is held with an exception is dropped, and else it goes out

  abbrev egress_by : Contents → State → ℕ → ℕ → Bool → EgressEnd Preserved Held14 × Between
  egress_by store s port kind b =
      let e = egress14 (setting_of p) store (held_at b s) port kind in (packed_egress p.loaded.decls e.answer, left_by e)

  nothing_out : (store : Contents) (s : State) (port kind : ℕ) → egress_by store s port kind true ≡ (no_egress, quiet store)
  unfolding egress14
  nothing_out store s port kind = refl

  pub failed_out : (old new : Between) (packet : Packet) (failed : Bool) (port kind : ℕ) (end : EgressEnd Preserved Held14) → failed ≡ true → new ≡ quiet old.store → end ≡ no_egress → (packed_machine (setting_of p)).egress old (record { packet = packet; failed = failed }) port kind ≡ (end, new)
  failed_out old new packet failed port kind end is left ended =
      ap (egress_by old.store packet.state port kind) is
      ∙ (nothing_out old.store packet.state port kind ∙ ap₂ (λ (e : EgressEnd Preserved Held14) (b : Between). (e, b)) (sym ended) (sym left))

  pub egress_gives : (old now new : Between) (packet : Packet) (failed : Bool) (port kind : ℕ) (end : EgressEnd Preserved Held14) → failed ≡ false → now.store ≡ old.store → end ≡ packed_egress p.loaded.decls (egress14 (setting_of p) now.store (record { state = packet.state; failed = false }) port kind).answer → new ≡ left_by (egress14 (setting_of p) now.store (record { state = packet.state; failed = false }) port kind) → (packed_machine (setting_of p)).egress old (record { packet = packet; failed = failed }) port kind ≡ (end, new)
  egress_gives old now new packet failed port kind end not same ended left =
      ap (egress_by old.store packet.state port kind) not
      ∙ (ap (λ (s : Contents). egress_by s packet.state port kind false) (sym same)
      ∙ ap₂ (λ (e : EgressEnd Preserved Held14) (b : Between). (e, b)) (sym ended) (sym left))
