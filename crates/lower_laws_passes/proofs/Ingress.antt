-- Parsing and ingress correspond.
use Rattle.lower_laws_base.specs.Context.{StateLayout, Stored}
use Rattle.lower_laws_base.specs.Between.{Beside, error_of, ErrorIs, IsAny, Idle}
use Rattle.lower_laws_base.specs.Blocks.{ParserEnds, BlocksAlike}
use Rattle.lower_laws_passes.specs.Preserving.{KeptAlike}
use Rattle.lower_laws_passes.specs.Types.{TypesAlike}
use Rattle.lower_laws_passes.specs.Held.{HeldFailed, HeldAlike, SameState, PortStays, fit_nine}
use Rattle.lower_laws_passes.proofs.KeptAlike.{preserved_alike}
use Rattle.lower_laws_passes.proofs.Begins.{item_begins}
use Rattle.lower_laws_passes.proofs.Held.{alive_of, alive_handed, any_of}
use Rattle.lower_laws_passes.proofs.Cloned.{number_read}
use Rattle.v1_core.specs.Frames.{of_metadata}
use Rattle.std.proofs.Common.{◌≡◌, inl, inr, ℕ, suc, ◌<◌, ◌^◌, ◌==◌, Bool, true, false, cond, Option, Some, None, [], refl, sym, ap, ◌∙◌, subst}
use Rattle.std.specs.Prelude.{option_map}
use Rattle.p4x_bits.specs.BitLists.{bit}
use Rattle.state_store.specs.Ports.{drop_port}
use Rattle.state_store.specs.State.{Contents}
use Rattle.fabric.specs.declared.items.Item.{Item}
use Rattle.fabric.specs.declared.items.IngressEnd.{IngressEnd}
use Rattle.fabric.specs.declared.items.IngressNext.TheVariants as after_ingress
use Rattle.fabric.specs.declared.items.RequestKind.TheVariants.{CloneI2E, Resubmit}
use Rattle.fabric.specs.Twins.{AlikeItem, AlikeClone, AlikeIngressNext, AlikeIngress}
use Rattle.p414_sem.specs.declared.standard.Standard.TheVariants.{EgressSpec}
use Rattle.p414_sem.specs.declared.parsed.Parsed.{Parsed}
use Rattle.p414_sem.specs.declared.parsed.Parsed.TheVariants.{Accepted, OutOfPacket, OutOfBounds, UnhandledSelect}
use Rattle.p414_sem.specs.declared.requests.Request14.{Request14}
use Rattle.p414_sem.specs.State.{State}
use Rattle.p414_sem.specs.Effects.{Moment as Moment14}
use Rattle.p414_sem.specs.Controls.{Setting as Setting14, control_run}
use Rattle.p414_sem.specs.CalculatedFields.{fails_verification}
use Rattle.p414_sem.specs.Parsing.{Parse, parsed}
use Rattle.p414_sem.specs.Passes.{Preserved, Held as Held14, Ended, preserved as preserved14, asked_clone as asked14, handed_on as handed14, next_after as next14, ingress_end as ingress_end14, dropped, after_parsing, begins, ingress14, held_of, reparse14}
use Rattle.p414_sem.specs.Runs.{Between as Between14}
use Rattle.v1_core.specs.declared.block.Block.TheVariants.{Verify, Ingress}
use Rattle.v1_core.specs.Values.{Value, an_error}
use Rattle.v1_core.specs.Frames.{Moment, Request, error_number}
use Rattle.v1_core.specs.Surroundings.{Setting}
use Rattle.v1_core.specs.Blocks.{control16}
use Rattle.v1_core.specs.Parsing.{Parsed as Parsed16, parse16}
use Rattle.v1_core.specs.Passes.{Between, Held, preserved as preserved16, item_moment, is_no_error, verified_and_run, handed_on, asked_clone, egress_spec, next_after, ingress_end, ingress16, reparse16}
use Rattle.agreement_of_meanings.specs.Agrees.{RequestsAgree}

module _ (g : StateLayout) (c14 : Setting14) (c16 : Setting) (blocks : BlocksAlike g c14 c16) (stays : PortStays c14) (types : TypesAlike g c14.decls c14.expanded c16.syntax) where
  abbrev Kept : Preserved → Value → Type 0
  Kept = KeptAlike g

  abbrev Holds : Held14 → Held → Type 0
  Holds = HeldAlike g

  -- what is preserved of a packet
  pub kept_of : (e k : ℕ) (x : Moment14) (m : Moment) → Beside g e k x m → (r : Request14) (q : Request) → RequestsAgree g.names.marks (Some r) (Some q) → Kept (preserved14 c14.decls c14.expanded x.state r) (preserved16 c16.syntax m.frame q)
  kept_of e k x m beside r q agree =
      preserved_alike g c14.decls c14.expanded c16.syntax types.shown types.marks x.state m.frame beside.both.packet.agrees.instances.each beside.shaped types.members (beside.members of_metadata refl) r q agree.1

  -- the clone that ingress asked for
  clones : (x : Moment14) (m : Moment) → Beside g 0 0 x m → (a : Option Request14) (b : Option Request) → RequestsAgree g.names.marks a b → AlikeClone Kept (option_map (asked14 c14.decls c14.expanded x.state) a) (option_map (asked_clone c16.syntax m.frame) b)
  clones x m beside None None agree = tt
  clones x m beside (Some r) (Some q) agree = (sym agree.0, kept_of 0 0 x m beside r q agree)
  clones x m beside None (Some q) agree = absurd agree
  clones x m beside (Some r) None agree = absurd agree

  -- dropped, or on to egress
  goes : (n : ℕ) (h : Held14) (k : Held) → n < 2 ^ 9 → Holds h k → (j : ℕ) → j ≡ n → AlikeIngressNext fit_nine Kept Holds (cond (n == drop_port) after_ingress.Drop (after_ingress.Go n h)) (cond (j == drop_port) after_ingress.Drop (after_ingress.Go j k))
  goes n h k fits held j same =
      subst (λ z. AlikeIngressNext fit_nine Kept Holds (cond (n == drop_port) after_ingress.Drop (after_ingress.Go n h)) (cond (z == drop_port) after_ingress.Drop (after_ingress.Go z k))) (sym same) (by (n == drop_port)) where
        by : (b : Bool) → AlikeIngressNext fit_nine Kept Holds (cond b after_ingress.Drop (after_ingress.Go n h)) (cond b after_ingress.Drop (after_ingress.Go n k))
        by true = tt
        by false = (refl, fits, held)

  next : (x : Moment14) (m : Moment) → Beside g 0 0 x m → (port : ℕ) → port ≡ x.state.ingress_port → (a : Option Request14) (b : Option Request) → RequestsAgree g.names.marks a b → AlikeIngressNext fit_nine Kept Holds (next14 c14.decls c14.expanded x.state a) (next_after c16 port m b)
  next x m beside port arrived None None agree =
      goes x.state.egress_spec (handed14 x.state) (handed_on port m) (beside.shaped.standard EgressSpec)
      (alive_handed g x.state (handed_on port m) (alive_of g x m port beside arrived))
      (egress_spec m.frame) (number_read g x.state m.frame beside.both.packet.agrees EgressSpec)
  next x m beside port arrived (Some r) (Some q) agree = kept_of 0 0 x m beside r q agree
  next x m beside port arrived None (Some q) agree = absurd agree
  next x m beside port arrived (Some r) None agree = absurd agree

  -- how ingress ends in both
  abbrev IngressEnds : Ended (IngressEnd Preserved Held14) → IngressEnd Value Held × Between → Type 0
  IngressEnds x y =
      AlikeIngress fit_nine Kept Holds x.answer y.0 × SameState g.shapes (record { store = x.store; events = x.events }) y.1

  ends_alike : (x : Moment14) (m : Moment) → Beside g 0 0 x m → (port : ℕ) → port ≡ x.state.ingress_port → IngressEnds (ingress_end14 c14.decls c14.expanded x) (ingress_end c16 port m)
  ends_alike x m beside port arrived = (
    (
      clones x m beside x.state.clone_i2e m.frame.clone_i2e (beside.both.packet.agrees.requests CloneI2E),
      next x m beside port arrived x.state.resubmit m.frame.resubmit (beside.both.packet.agrees.requests Resubmit),
    ),
    record { store = beside.both.store; events = beside.both.packet.events; stored = beside.stored },
  )

  -- a packet that failed is dropped
  fails : (store : Contents) → Stored g.shapes store → (n m : Moment) → Idle n m → n.store ≡ store → n.frame.events ≡ [] → n.frame.clone_i2e ≡ None → n.frame.resubmit ≡ None → (port : ℕ) → IngressEnds (dropped store) (ingress_end c16 port m)
  fails store stored n m idle same quiet_so_far unasked single port = (
    (
      subst (λ z. AlikeClone Kept None (option_map (asked_clone c16.syntax m.frame) z)) (sym (idle.requests CloneI2E ∙ unasked)) tt,
      subst (λ z. AlikeIngressNext fit_nine Kept Holds after_ingress.Drop (next_after c16 port m z)) (sym (idle.requests Resubmit ∙ single))
          (subst (λ z. AlikeIngressNext fit_nine Kept Holds after_ingress.Drop (cond (z == drop_port) after_ingress.Drop (after_ingress.Go z (handed_on port m)))) (sym idle.port) tt),
    ),
    record { store = idle.store ∙ same; events = idle.events ∙ quiet_so_far; stored = stored },
  )

  -- what wasn't asked for in one of them wasn't in the other
  pub unasked : (a : Option Request14) (b d : Option Request) → RequestsAgree g.names.marks a b → RequestsAgree g.names.marks a d → b ≡ None → d ≡ None
  unasked None b None x y is = refl
  unasked None b (Some q) x y is = absurd y
  unasked (Some r) None d x y is = absurd x
  unasked (Some r) (Some q) d x y is = absurd (cc is)

  any_beside : (e k : ℕ) (x : Moment14) (m : Moment) → Beside g e k x m → IsAny m.frame
  any_beside e k x m beside = any_of g x.state m.frame beside.both.packet.agrees.standard beside.variables.is beside.inner

  any_held : (m : Moment) → IsAny m.frame → (port : ℕ) → IsAny (handed_on port m).frame
  any_held m any port = record { numbers = any.numbers; variables = any.variables; inner = any.inner }

  module _ (b14 : Between14) (b : Between) (stores : SameState g.shapes b14 b) (i : Item Preserved) (j : Item Value) (same : AlikeItem fit_nine Kept i j) where
    abbrev t : State
    t = begins c14.decls i

    abbrev m : Moment
    m = item_moment c16 b j

    abbrev e : Parse
    e = parsed c14.decls (begins c14.decls i)

    abbrev r : Parsed16
    r = parse16 c16 (item_moment c16 b j)

    abbrev x : Moment14
    x = record { state = e.state; store = b14.store }

    parser : ParserEnds g 0 b14.store m e r
    parser =
        blocks.parser 0 (record { state = t; store = b14.store }) m (item_begins g c14.decls c14.expanded c16 types i j same b b14.store stores.stored stores.store)

    arrived : j.port ≡ e.state.ingress_port
    arrived = sym same.port ∙ sym (stays.parser t)

    any_parsed : IsAny r.moment.frame
    any_parsed = any_beside (error_number (error_of e.end)) 0 x r.moment parser.beside

    error_at : (end : Parsed) → e.end ≡ end → ErrorIs r.moment.frame (error_number (error_of end))
    error_at end is = parser.beside.error ∙ ap (λ z. an_error (error_number (error_of z))) is

    accepted : e.end ≡ Accepted → Beside g 0 0 x r.moment
    accepted is = subst (λ z. Beside g (error_number (error_of z)) 0 x r.moment) is parser.beside

    -- an exception
    raised_ends : (n : ℕ) → r.error ≡ error_of e.end → is_no_error (error_of e.end) ≡ false → ErrorIs r.moment.frame (suc n) → IngressEnds (dropped b14.store) (ingress_end c16 j.port (verified_and_run c16 r))
    raised_ends n told wrong error =
        let goes_there : verified_and_run c16 r ≡ control16 c16 Ingress r.moment = ap (λ (z : Bool). control16 c16 Ingress (cond z (control16 c16 Verify r.moment) r.moment)) (ap is_no_error told ∙ wrong) in
        subst (λ z. IngressEnds (dropped b14.store) (ingress_end c16 j.port z)) (sym goes_there)
        (fails b14.store stores.stored r.moment (control16 c16 Ingress r.moment) (blocks.failed_ingress r.moment parser.beside.both.packet.runs any_parsed (inl (n, error)))
        parser.beside.both.store parser.events (parser.requests CloneI2E) (parser.requests Resubmit) j.port)

    -- no exception: the sums are checked, and ingress runs or is idle
    verified_ends : Beside g 0 0 x r.moment → IngressEnds (cond (fails_verification c14.decls c14.expanded e.state) (dropped b14.store) (ingress_end14 c14.decls c14.expanded (control_run c14 c14.expanded.ingress x))) (ingress_end c16 j.port (control16 c16 Ingress (control16 c16 Verify r.moment)))
    verified_ends beside = by (fails_verification c14.decls c14.expanded e.state) (blocks.verify x r.moment beside) where
      n : Moment
      n = control16 c16 Verify r.moment

      by : (wrong : Bool) → Beside g 0 (bit wrong) x n → IngressEnds (cond wrong (dropped b14.store) (ingress_end14 c14.decls c14.expanded (control_run c14 c14.expanded.ingress x))) (ingress_end c16 j.port (control16 c16 Ingress n))
      by true checked =
          let asked = checked.both.packet.agrees.requests in
          fails b14.store stores.stored n (control16 c16 Ingress n) (blocks.failed_ingress n checked.both.packet.runs (any_beside 0 1 x n checked) (inr checked.checksum))
          checked.both.store (checked.both.packet.events ∙ sym parser.beside.both.packet.events ∙ parser.events)
          (unasked (e.state.clone_i2e) (r.moment.frame.clone_i2e) (n.frame.clone_i2e) (parser.beside.both.packet.agrees.requests CloneI2E) (asked CloneI2E) (parser.requests CloneI2E))
          (unasked (e.state.resubmit) (r.moment.frame.resubmit) (n.frame.resubmit) (parser.beside.both.packet.agrees.requests Resubmit) (asked Resubmit) (parser.requests Resubmit)) j.port
      by false checked =
          ends_alike (control_run c14 c14.expanded.ingress x) (control16 c16 Ingress n) (blocks.ingress x n checked) j.port (arrived ∙ sym (stays.ingress x))

    failed_by : (n : ℕ) → ErrorIs r.moment.frame (suc n) → HeldFailed (handed_on j.port r.moment)
    failed_by n error = record { any = any_held r.moment any_parsed j.port; number = n; error = error }

    ended_by : (end : Parsed) → e.end ≡ end → IngressEnds (after_parsing c14 b14.store (record { end = end; state = e.state })) (ingress_end c16 j.port (verified_and_run c16 r))
    ended_by Accepted is =
        let told : is_no_error r.error ≡ true = ap is_no_error (parser.error ∙ ap error_of is) in
        subst (λ z. IngressEnds (after_parsing c14 b14.store (record { end = Accepted; state = e.state })) (ingress_end c16 j.port (control16 c16 Ingress (cond z (control16 c16 Verify r.moment) r.moment)))) (sym told)
        (verified_ends (accepted is))
    ended_by OutOfPacket is = raised_ends 0 parser.error (ap (λ z. is_no_error (error_of z)) is) (error_at OutOfPacket is)
    ended_by OutOfBounds is = raised_ends 1 parser.error (ap (λ z. is_no_error (error_of z)) is) (error_at OutOfBounds is)
    ended_by UnhandledSelect is = raised_ends 2 parser.error (ap (λ z. is_no_error (error_of z)) is) (error_at UnhandledSelect is)

    pub ingress_alike : IngressEnds (ingress14 c14 b14.store i) (ingress16 c16 b j)
    unfolding ingress14 ingress16
    ingress_alike = ended_by e.end refl

    -- a second parsing

    held_by : (end : Parsed) → e.end ≡ end → Holds (held_of (record { end = end; state = e.state })) (handed_on j.port r.moment)
    held_by Accepted is = alive_of g x r.moment j.port (accepted is) arrived
    held_by OutOfPacket is = failed_by 0 (error_at OutOfPacket is)
    held_by OutOfBounds is = failed_by 1 (error_at OutOfBounds is)
    held_by UnhandledSelect is = failed_by 2 (error_at UnhandledSelect is)

    pub reparse_alike : Holds (reparse14 c14 b14.store i).answer (reparse16 c16 b j).0 × SameState g.shapes (record { store = (reparse14 c14 b14.store i).store; events = (reparse14 c14 b14.store i).events }) (reparse16 c16 b j).1
    unfolding reparse14 reparse16
    reparse_alike = (held_by e.end refl, record { store = parser.beside.both.store; events = parser.events; stored = stores.stored })
