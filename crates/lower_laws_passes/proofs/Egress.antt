-- Egress corresponds.
use Rattle.lower_laws_base.specs.Context.{StateLayout, Stored}
use Rattle.lower_laws_base.specs.Between.{Beside, IsAny, Idle}
use Rattle.lower_laws_base.specs.Blocks.{with_state, BlocksAlike}
use Rattle.lower_laws_passes.specs.Preserving.{KeptAlike}
use Rattle.lower_laws_passes.specs.Types.{TypesAlike}
use Rattle.lower_laws_passes.specs.Held.{HeldAlive, HeldFailed, HeldAs, HeldAlike, SameState, PortStays, fit_nine}
use Rattle.lower_laws_passes.proofs.Standards.{StandardsAre}
use Rattle.lower_laws_passes.proofs.KeptAlike.{metadata_size}
use Rattle.lower_laws_passes.proofs.Held.{egress_alive, egress_numbers, egress_error, any_of}
use Rattle.lower_laws_passes.proofs.Cloned.{number_read, cloned_alive}
use Rattle.lower_laws_passes.proofs.Ingress.{kept_of}
use Rattle.std.proofs.Common.{◌≡◌, ℕ, suc, ◌<◌, ◌^◌, ◌==◌, Bool, true, false, cond, Option, Some, None, List, [], refl, sym, ap, ◌∙◌, subst}
use Rattle.std.specs.Prelude.{option_map}
use Rattle.state_store.specs.Ports.{drop_port}
use Rattle.state_store.specs.State.{Contents}
use Rattle.fabric.specs.declared.items.EgressEnd.{EgressEnd}
use Rattle.fabric.specs.declared.items.EgressNext.{EgressNext}
use Rattle.fabric.specs.declared.items.EgressNext.TheVariants as after_egress
use Rattle.fabric.specs.declared.items.RequestKind.TheVariants.{CloneE2E, Recirculate}
use Rattle.fabric.specs.Twins.{AlikeClone, AlikeEgressNext, AlikeEgress}
use Rattle.p414_sem.specs.declared.standard.Standard.TheVariants.{IngressPort, EgressSpec, EgressPort, PacketLength, InstanceType}
use Rattle.p414_sem.specs.declared.requests.Request14.{Request14}
use Rattle.p414_sem.specs.State.{State, new_state, with_standard as with_standard14}
use Rattle.p414_sem.specs.Effects.{Moment as Moment14}
use Rattle.p414_sem.specs.Controls.{Setting as Setting14, control_run}
use Rattle.p414_sem.specs.CalculatedFields.{updated}
use Rattle.p414_sem.specs.Passes.{Preserved, Held as Held14, Ended, preserved as preserved14, egress_begins, asked_egress_clone as asked14, leaves as leaves14, egress_end as egress_end14, dropped_in_egress, deparsed, egress14}
use Rattle.p414_sem.specs.Runs.{Between as Between14}
use Rattle.v1_core.specs.declared.block.Block.TheVariants.{Egress, Compute}
use Rattle.v1_core.specs.Values.{Value}
use Rattle.v1_core.specs.Frames.{Frame, Moment, Request}
use Rattle.v1_core.specs.Surroundings.{Setting}
use Rattle.v1_core.specs.Blocks.{control16}
use Rattle.v1_core.specs.Passes.{Between, Held, moment_of, egress_frame, asked_egress_clone, put_together, octets_left, leaves, egress_end, egress16, answered}
use Rattle.agreement_of_meanings.specs.Agrees.{RequestsAgree}

module _ (g : StateLayout) (c14 : Setting14) (c16 : Setting) (blocks : BlocksAlike g c14 c16) (stays : PortStays c14) (types : TypesAlike g c14.decls c14.expanded c16.syntax) where
  abbrev Kept : Preserved → Value → Type 0
  Kept = KeptAlike g

  abbrev Holds : Held14 → Held → Type 0
  Holds = HeldAlike g

  -- how egress ends in both
  abbrev EgressEnds : Ended (EgressEnd Preserved Held14) → EgressEnd Value Held × Between → Type 0
  EgressEnds x y =
      AlikeEgress fit_nine Kept Holds x.answer y.0 × SameState g.shapes (record { store = x.store; events = x.events }) y.1

  -- the clone that egress asked for
  clones : (x : Moment14) (m : Moment) → Beside g 0 0 x m → (port : ℕ) → port ≡ x.state.ingress_port → (a : Option Request14) (b : Option Request) → RequestsAgree g.names.marks a b → AlikeClone Holds (option_map (asked14 c14.decls c14.expanded x.state) a) (option_map (asked_egress_clone c16.syntax port m) b)
  clones x m beside port arrived None None agree = tt
  clones x m beside port arrived (Some r) (Some q) agree = (
    sym agree.0,
    cloned_alive g c14.decls c16.syntax types.shown types.zeros (metadata_size g c14.decls types.shown) x m beside (preserved14 c14.decls c14.expanded x.state r) q (kept_of g c14 c16 blocks stays types 0 0 x m beside r q agree) port arrived,
  )
  clones x m beside port arrived None (Some q) agree = absurd agree
  clones x m beside port arrived (Some r) None agree = absurd agree

  -- what leaves
  left : (x : Moment14) (m : Moment) → Beside g 0 0 x m → (octets : List ℕ) → octets ≡ deparsed c14.decls c14.expanded (updated c14.decls c14.expanded x.state) → (a : Option Request14) (b : Option Request) → RequestsAgree g.names.marks a b → AlikeEgressNext fit_nine Kept (leaves14 c14.decls c14.expanded x.state a) (leaves c16 m.frame octets b)
  left x m beside octets same None None agree = sym same
  left x m beside octets same (Some r) (Some q) agree = (sym same, tt, kept_of g c14 c16 blocks stays types 0 0 x m beside r q agree)
  left x m beside octets same None (Some q) agree = absurd agree
  left x m beside octets same (Some r) None agree = absurd agree

  module _ (x : Moment14) (m : Moment) (beside : Beside g 0 0 x m) (port : ℕ) (arrived : port ≡ x.state.ingress_port) where
    abbrev out : Moment
    out = put_together c16 m

    abbrev s : State
    s = x.state

    computed : Beside g 0 0 (with_state x (updated c14.decls c14.expanded s)) (control16 c16 Compute m) × ((control16 c16 Compute m).frame.events ≡ m.frame.events)
    computed = blocks.compute x m beside

    emitted : (octets_left out ≡ deparsed c14.decls c14.expanded (updated c14.decls c14.expanded s)) × (out.store ≡ (control16 c16 Compute m).store) × (out.frame.events ≡ (control16 c16 Compute m).frame.events)
    emitted = blocks.deparser (with_state x (updated c14.decls c14.expanded s)) (control16 c16 Compute m) computed.0

    abbrev clone16 : Option (ℕ × Held)
    clone16 = option_map (asked_egress_clone c16.syntax port m) m.frame.clone_e2e

    abbrev ended14 : EgressNext Preserved → Ended (EgressEnd Preserved Held14)
    ended14 end =
        record {
          answer = record { clone = option_map (asked14 c14.decls c14.expanded s) s.clone_e2e; end = end };
          store = x.store;
          events = s.events;
        }

    abbrev ended16 : EgressNext Value → Moment → EgressEnd Value Held × Between
    ended16 end n = answered (record { clone = clone16; end = end }) n

    asked : AlikeClone Holds (option_map (asked14 c14.decls c14.expanded s) s.clone_e2e) (option_map (asked_egress_clone c16.syntax port m) m.frame.clone_e2e)
    asked = clones x m beside port arrived s.clone_e2e m.frame.clone_e2e (beside.both.packet.agrees.requests CloneE2E)

    by_port : (b : Bool) → EgressEnds (ended14 (cond b after_egress.Drop (leaves14 c14.decls c14.expanded s s.recirculate))) (cond b (ended16 after_egress.Drop m) (ended16 (leaves c16 m.frame (octets_left out) m.frame.recirculate) out))
    by_port true = ((asked, tt), record { store = beside.both.store; events = beside.both.packet.events; stored = beside.stored })
    by_port false = (
      (asked, left x m beside (octets_left out) emitted.0 s.recirculate m.frame.recirculate (beside.both.packet.agrees.requests Recirculate)),
      record { store = emitted.1 ∙ computed.0.both.store; events = emitted.2 ∙ computed.1 ∙ beside.both.packet.events; stored = beside.stored },
    )

    pub egress_ends : EgressEnds (egress_end14 c14.decls c14.expanded x) (egress_end c16 port m)
    egress_ends =
        subst (λ z. EgressEnds (egress_end14 c14.decls c14.expanded x) (cond (z == drop_port) (ended16 after_egress.Drop m) (ended16 (leaves c16 m.frame (octets_left out) m.frame.recirculate) out))) (sym (number_read g s m.frame beside.both.packet.agrees EgressSpec))
        (by_port (s.egress_spec == drop_port))

  -- what failed is dropped
  fails : (store : Contents) → Stored g.shapes store → (n m : Moment) → Idle n m → n.store ≡ store → n.frame.events ≡ [] → n.frame.clone_e2e ≡ None → (port : ℕ) → EgressEnds (dropped_in_egress store) (egress_end c16 port m)
  fails store stored n m idle same quiet_so_far unasked port =
      let dropped : egress_end c16 port m ≡ answered (record { clone = option_map (asked_egress_clone c16.syntax port m) m.frame.clone_e2e; end = after_egress.Drop }) m =
      ap (λ z. cond (z == drop_port) (answered (record { clone = option_map (asked_egress_clone c16.syntax port m) m.frame.clone_e2e; end = after_egress.Drop }) m) (answered (record { clone = option_map (asked_egress_clone c16.syntax port m) m.frame.clone_e2e; end = leaves c16 m.frame (octets_left (put_together c16 m)) m.frame.recirculate }) (put_together c16 m))) idle.port in
      subst (EgressEnds (dropped_in_egress store)) (sym dropped) (
        (subst (λ z. AlikeClone Holds None (option_map (asked_egress_clone c16.syntax port m) z)) (sym (idle.requests CloneE2E ∙ unasked)) tt, tt),
        record { store = idle.store ∙ same; events = idle.events ∙ quiet_so_far; stored = stored },
      )

  -- any numbers are those of a state
  abbrev numbered : (f : Frame) → IsAny f → State
  numbered f any =
      record (new_state [] [] 0 0) {
        ingress_port = (any.numbers IngressPort).0;
        egress_spec = (any.numbers EgressSpec).0;
        egress_port = (any.numbers EgressPort).0;
        packet_length = (any.numbers PacketLength).0;
        instance_type = (any.numbers InstanceType).0;
      }

  numbers_of : (f : Frame) (any : IsAny f) → StandardsAre (numbered f any) f.standard
  numbers_of f any IngressPort = (any.numbers IngressPort).1
  numbers_of f any EgressSpec = (any.numbers EgressSpec).1
  numbers_of f any EgressPort = (any.numbers EgressPort).1
  numbers_of f any PacketLength = (any.numbers PacketLength).1
  numbers_of f any InstanceType = (any.numbers InstanceType).1

  module _ (b14 : Between14) (b : Between) (stores : SameState g.shapes b14 b) (port kind : ℕ) (port_fits : port < 2 ^ 9) (kind_fits : kind < 2 ^ 32) where
    -- the packet goes on
    alive_ends : (s : State) (k : Held) → HeldAlive g s k → EgressEnds (egress_end14 c14.decls c14.expanded (control_run c14 c14.expanded.egress (record { state = egress_begins s port kind; store = b14.store }))) (egress_end c16 k.port (control16 c16 Egress (moment_of b (egress_frame k port kind) k.unparsed)))
    alive_ends s k alive =
        let x : Moment14 = record { state = egress_begins s port kind; store = b14.store } in
        let m = moment_of b (egress_frame k port kind) k.unparsed in
        let done = blocks.egress x m (egress_alive g s k port kind port_fits kind_fits b b14.store stores.stored stores.store alive) in
        egress_ends (control_run c14 c14.expanded.egress x) (control16 c16 Egress m) done k.port (alive.port ∙ sym (stays.egress x))

    failed_ends : (k : Held) → HeldFailed k → EgressEnds (dropped_in_egress b14.store) (egress_end c16 k.port (control16 c16 Egress (moment_of b (egress_frame k port kind) k.unparsed)))
    failed_ends k failed =
        let m = moment_of b (egress_frame k port kind) k.unparsed in
        let s = numbered k.frame failed.any in
        let are = numbers_of k.frame failed.any in
        let any : IsAny m.frame = any_of g (with_standard14 (with_standard14 (with_standard14 s InstanceType kind) EgressPort port) EgressSpec 0) m.frame (egress_numbers g s k port kind port_fits kind_fits are) failed.any.variables failed.any.inner in
        fails b14.store stores.stored m (control16 c16 Egress m)
        (blocks.failed_egress m refl any failed.number (egress_error g s k port kind port_fits kind_fits are (suc failed.number) failed.error))
        stores.store refl refl k.port

    pub egress_alike : (h : Held14) (k : Held) → Holds h k → EgressEnds (egress14 c14 b14.store h port kind) (egress16 c16 b k port kind)
    unfolding egress14 egress16
    egress_alike h k held = by h.failed held where
      by : (failed : Bool) → HeldAs g failed h.state k → EgressEnds (cond failed (dropped_in_egress b14.store) (egress_end14 c14.decls c14.expanded (control_run c14 c14.expanded.egress (record { state = egress_begins h.state port kind; store = b14.store })))) (egress_end c16 k.port (control16 c16 Egress (moment_of b (egress_frame k port kind) k.unparsed)))
      by true failed = failed_ends k failed
      by false alive = alive_ends h.state k alive
