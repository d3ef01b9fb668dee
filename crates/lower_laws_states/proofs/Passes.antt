-- What a pass hands on: to egress, to a clone, to a further pass, to the wire.
use Rattle.std.proofs.Common.{◌≡◌, ◌⊎◌, inl, inr, ⊎_elim, refl, ap, ℕ, ◌<◌, ◌^◌, ◌==◌, Bool, true, false, cond, Option, Some, None, List, [], ◌∷◌, arith}
use Rattle.std.specs.Prelude.{IfSome, flat_map, option_map}
use Rattle.std.specs.Option.{option_map_or}
use Rattle.std.proofs.lemmas.Bool.{cases_lt}
use Rattle.std.proofs.lemmas.Bool.Decides.{eqb_tells}
use Rattle.std.proofs.lemmas.List.Elements.{All-nil, All-cons, All-append}
use Rattle.std.proofs.lemmas.List.Concat.{flat_map-cons}
use Rattle.p4x_bits.specs.BitLists.{IsOctets}
use Rattle.fabric.specs.declared.items.IngressNext.TheVariants as after_ingress
use Rattle.fabric.specs.declared.items.EgressNext.TheVariants as after_egress
use Rattle.state_store.specs.Ports.{IsPort, drop_port}
use Rattle.state_store.specs.State.{Contents}
use Rattle.fabric.specs.declared.items.Item.{Item as QueueItem}
use Rattle.match_core.specs.Fits.{Fits}
use Rattle.p414_syntax.specs.declared.syntax.Decl.{Decl}
use Rattle.p414_syntax.specs.declared.syntax.Decl.TheVariants as decl
use Rattle.p414_syntax.specs.declared.syntax.Sort.TheVariants as sort
use Rattle.p414_syntax.specs.Names.{numbered}
use Rattle.p414_sem.specs.declared.requests.Request14.{Request14}
use Rattle.p414_sem.specs.State.{Header, Instance, State, instance_at}
use Rattle.p414_sem.specs.Packing.{widths_of_type, bits_in, octets_in}
use Rattle.p414_sem.specs.Expanded.{Expanded}
use Rattle.p414_sem.specs.Parsing.{Parse, parsed}
use Rattle.p414_sem.specs.Effects.{Moment}
use Rattle.p414_sem.specs.Signatures.{signature14}
use Rattle.p414_sem.specs.Controls.{Setting, control_run}
use Rattle.p414_sem.specs.CalculatedFields.{fails_verification}
use Rattle.p414_sem.specs.Fitting.{FitsRequest, FitsEvent, IsState, IsHeld, IsPreserved, IsItem}
use Rattle.p414_sem.specs.Passes.{Preserved, Held, begins, is_accepted, asked_clone, handed_on, next_after, ingress_end, dropped, after_parsing, ingress14, reparse14, header_octets, octets_of, octets_at, deparsed, egress_begins, cloned, asked_egress_clone, leaves, egress_end, dropped_in_egress, egress14}
use Rattle.lower_laws_states.specs.Ends.{FitsNext, FitsIngressEnd, FitsLeaving, FitsEgressEnd}
use Rattle.lower_laws_states.specs.Programs.{ProgramFits}
use Rattle.lower_laws_states.specs.Arrival.{Arrived, ProgramKeeps}
use Rattle.lower_laws_states.proofs.Keeping.{parsed_same, control_same}
use Rattle.lower_laws_states.proofs.States.{FitRequests, rebuilt, numbers}
use Rattle.lower_laws_states.proofs.Bits.{num_below}
use Rattle.lower_laws_states.proofs.Parsing.{parsed_fits, updated_fits}
use Rattle.lower_laws_states.proofs.Tables.{control_run_fits}
use Rattle.lower_laws_states.proofs.Preserved.{preserved_fits, with_preserved_fits, begins_fits}

-- what goes on

no_requests : (ds : List Decl) → FitRequests ds None None None None
no_requests ds = record { i2e = tt; e2e = tt; again = tt; round = tt }

module _ (ds : List Decl) (s : State) (state : IsState ds s) where
  pub handed_on_fits : IsState ds (handed_on s).state
  handed_on_fits = rebuilt ds (handed_on s).state state.instances state.unparsed (numbers ds s state) (no_requests ds) (All-nil FitsEvent)

  pub egress_begins_fits : (port kind : ℕ) → port < 2 ^ 9 → kind < 2 ^ 32 → IsState ds (egress_begins s port kind)
  egress_begins_fits port kind lt small =
      rebuilt ds (egress_begins s port kind) state.instances state.unparsed
      (record { arrived = state.ingress_port; spec = omega arith; left = lt; long = state.packet_length; kind = small }) (no_requests ds) (All-nil FitsEvent)

  pub cloned_fits : (q : Preserved) → IsPreserved ds q → IsState ds (cloned ds q s).state
  cloned_fits q kept =
      let with = with_preserved_fits ds q s kept state in
      rebuilt ds (cloned ds q s).state with.instances with.unparsed
      (record { arrived = with.ingress_port; spec = omega arith; left = omega arith; long = with.packet_length; kind = omega arith }) (no_requests ds) (All-nil FitsEvent)

-- octets

octets_in_are : (bits : List Bool) → IsOctets (octets_in bits)
octets_in_are (a ∷ b ∷ c ∷ d ∷ e ∷ f ∷ g ∷ h ∷ rest) = All-cons (λ octet. octet < 256) _ (octets_in rest) (num_below (a ∷ b ∷ c ∷ d ∷ e ∷ f ∷ g ∷ h ∷ [])) (octets_in_are rest)
octets_in_are _ = All-nil (λ octet. octet < 256)

joined_are : {X : Type 0} (f : X → List ℕ) → ((x : X) → IsOctets (f x)) → (xs : List X) → IsOctets (flat_map f xs)
joined_are f each [] = All-nil (λ octet. octet < 256)
joined_are f each (x ∷ xs) = rw (flat_map-cons f x xs) (All-append (λ octet. octet < 256) (f x) (flat_map f xs) (each x) (joined_are f each xs))

header_are : (widths : List ℕ) (h : Header) → IsOctets (header_octets widths h)
header_are widths h = by h.valid where
  by : (b : Bool) → IsOctets (cond b (octets_in (bits_in widths h.numbers)) [])
  by true = octets_in_are (bits_in widths h.numbers)
  by false = All-nil (λ octet. octet < 256)

instance_are : (ds : List Decl) (d : Decl) (i : Instance) → IsOctets (octets_of ds d i)
instance_are ds (decl.Header x) i = joined_are (header_octets (widths_of_type ds x.header_type)) (header_are (widths_of_type ds x.header_type)) i.elements
instance_are ds _ i = All-nil (λ octet. octet < 256)

at_are : (ds : List Decl) (s : State) (n : ℕ) → IsOctets (octets_at ds s n)
at_are ds s n = by (numbered sort.Instance ds n) where
  by : (o : Option Decl) → IsOctets (option_map_or (λ (d : Decl). octets_of ds d (instance_at s n)) o [])
  by None = All-nil (λ octet. octet < 256)
  by (Some d) = instance_are ds d (instance_at s n)

pub deparsed_are : (ds : List Decl) (x : Expanded) (s : State) → IsState ds s → IsOctets (deparsed ds x s)
deparsed_are ds x s state = All-append (λ octet. octet < 256) (flat_map (octets_at ds s) x.order) s.unparsed (joined_are (octets_at ds s) (at_are ds s) x.order) state.unparsed

-- passes

module _ (ds : List Decl) (x : Expanded) (m : Moment) (state : IsState ds m.state) (port : IsPort m.state.ingress_port) where
  next_fits : (r : Option Request14) → FitsNext ds (next_after ds x m.state r)
  next_fits (Some r) = preserved_fits ds m.state state x r.list
  next_fits None = by (m.state.egress_spec == drop_port) (eqb_tells m.state.egress_spec drop_port) refl where
    by : (b : Bool) → ((m.state.egress_spec == drop_port ≡ true) × (m.state.egress_spec ≡ drop_port)) ⊎ ((m.state.egress_spec == drop_port ≡ false) × (m.state.egress_spec ≡ drop_port → ⊥)) → m.state.egress_spec == drop_port ≡ b → FitsNext ds (cond b after_ingress.Drop (after_ingress.Go m.state.egress_spec (handed_on m.state)))
    by true tells e = tt
    by false (inl is) e = absurd (cc (is.0, e))
    by false (inr other) e =
        let held : IsHeld ds (handed_on m.state) = record { state = handed_on_fits ds m.state state; port = port } in
        (⊎_elim (λ lt. omega (arith, lt)) (λ past. absurd (other.1 (omega (arith, past, state.egress_spec)))) (cases_lt m.state.egress_spec drop_port), held)

  pub ingress_end_fits : FitsIngressEnd ds (ingress_end ds x m)
  ingress_end_fits = record { clone = by m.state.clone_i2e state.clone_i2e; next = next_fits m.state.resubmit; events = state.events } where
    by : (o : Option Request14) → IfSome o (FitsRequest ds) → IfSome (option_map (asked_clone ds x m.state) o) (λ c. (c.0 < 2 ^ 32) × IsPreserved ds c.1)
    by None fits = tt
    by (Some r) fits = (fits.session, preserved_fits ds m.state state x r.list)

  leaving_fits : (r : Option Request14) → FitsLeaving ds (leaves ds x m.state r)
  leaving_fits (Some r) = (deparsed_are ds x _ (updated_fits ds x m.state state), preserved_fits ds m.state state x r.list)
  leaving_fits None = deparsed_are ds x _ (updated_fits ds x m.state state)

  pub egress_end_fits : FitsEgressEnd ds (egress_end ds x m)
  egress_end_fits = record { clone = by m.state.clone_e2e state.clone_e2e; end = ends (m.state.egress_spec == drop_port); events = state.events } where
    by : (o : Option Request14) → IfSome o (FitsRequest ds) → IfSome (option_map (asked_egress_clone ds x m.state) o) (λ c. (c.0 < 2 ^ 32) × IsHeld ds c.1)
    by None fits = tt
    by (Some r) fits = (fits.session, record { state = cloned_fits ds m.state state _ (preserved_fits ds m.state state x r.list); port = port })

    ends : (b : Bool) → FitsLeaving ds (cond b after_egress.Drop (leaves ds x m.state m.state.recirculate))
    ends true = tt
    ends false = leaving_fits m.state.recirculate

-- a port of arrival stays one
stays_port : {a b : Arrived} → b ≡ a → IsPort a.ingress_port → IsPort b.ingress_port
stays_port is port = omega (arith, port, ap (λ (c : Arrived). c.ingress_port) is)

module _ (c : Setting) (fits : ProgramFits c.decls c.expanded) (keeps : ProgramKeeps c.decls c.expanded) where
  parsed_port : (came : QueueItem Preserved) → IsItem c.decls came → IsPort (parsed c.decls (begins c.decls came)).state.ingress_port
  parsed_port came is = stays_port (parsed_same c.decls c.expanded keeps (begins c.decls came)) is.port

  pub reparse_fits : (store : Contents) (came : QueueItem Preserved) → IsItem c.decls came → IsHeld c.decls (reparse14 c store came).answer
  unfolding reparse14
  reparse_fits store came is = record { state = parsed_fits c.decls fits.states (begins c.decls came) (begins_fits c.decls came is); port = parsed_port came is }

  dropped_fits : (store : Contents) → FitsIngressEnd c.decls (dropped store)
  dropped_fits store = record { clone = tt; next = tt; events = All-nil FitsEvent }

  module _ (entries : Fits c.entries (signature14 c.decls)) where
    after_parsing_fits : (store : Contents) (p : Parse) → IsState c.decls p.state → IsPort p.state.ingress_port → FitsIngressEnd c.decls (after_parsing c store p)
    after_parsing_fits store p state port = by (is_accepted p.end) (fails_verification c.decls c.expanded p.state) where
      begun : Moment
      begun = record { state = p.state; store = store }

      by : (accepted fails : Bool) → FitsIngressEnd c.decls (cond accepted (cond fails (dropped store) (ingress_end c.decls c.expanded (control_run c c.expanded.ingress (record { state = p.state; store = store })))) (dropped store))
      by true false =
          ingress_end_fits c.decls c.expanded _ (control_run_fits c fits entries c.expanded.ingress begun state)
          (stays_port (control_same c keeps c.expanded.ingress begun) port)
      by true true = dropped_fits store
      by false fails = dropped_fits store

    pub ingress_fits : (store : Contents) (came : QueueItem Preserved) → IsItem c.decls came → FitsIngressEnd c.decls (ingress14 c store came)
    unfolding ingress14
    ingress_fits store came is = after_parsing_fits store (parsed c.decls (begins c.decls came)) (parsed_fits c.decls fits.states (begins c.decls came) (begins_fits c.decls came is)) (parsed_port came is)

    pub egress_fits : (store : Contents) (held : Held) (port kind : ℕ) → IsHeld c.decls held → IsPort port → kind < 2 ^ 32 → FitsEgressEnd c.decls (egress14 c store held port kind)
    unfolding egress14
    egress_fits store held port kind is out small = by held.failed where
      begun : Moment
      begun = record { state = egress_begins held.state port kind; store = store }

      by : (b : Bool) → FitsEgressEnd c.decls (cond b (dropped_in_egress store) (egress_end c.decls c.expanded (control_run c c.expanded.egress (record { state = egress_begins held.state port kind; store = store }))))
      by true = record { clone = tt; end = tt; events = All-nil FitsEvent }
      by false =
          egress_end_fits c.decls c.expanded _ (control_run_fits c fits entries c.expanded.egress begun (egress_begins_fits c.decls held.state is.state port kind (omega (arith, out)) small))
          (stays_port (control_same c keeps c.expanded.egress begun) is.port)
