-- What extraction leaves alone, and how it stops.
use Rattle.std.proofs.Common.{◌≡◌, ℕ, Bool, true, false, cond, Option, Some, None, List, [], length, refl, sym, ap, ◌∙◌}
use Rattle.std.specs.Prelude.{codes, is_some}
use Rattle.v1_core.specs.declared.parser_error.ParserError.{ParserError}
use Rattle.v1_core.specs.declared.parser_error.ParserError.TheVariants.{PacketTooShort, StackOutOfBounds}
use Rattle.v1_core.specs.Values.{Value, place_in, elements_in, header_in}
use Rattle.v1_core.specs.Frames.{Frame, Moment, Reference, raised, is_stopped, going_on, read}
use Rattle.v1_core.specs.Expressions.{has_bits, is_beyond, member_reference, referred}
use Rattle.v1_core.specs.Externs.Packets.{header_width, extracted, moved, extract}
use Rattle.p416_syntax.specs.Kinds.{stack}
use Rattle.agreement_of_meanings.specs.Shown.{Shown, as_header, as_stack, as_metadata, is_metadata, instance_reference, element_reference}
use Rattle.agreement_of_meanings.specs.Lowered.{extracts_next}
use Rattle.p416_syntax.specs.Names.{Name}
use Rattle.lower_laws_base.specs.Context.{HasMembers}
use Rattle.lower_laws_base.proofs.States.{members_put}
use Rattle.lower_laws_parser.specs.Parsing.{SameRequests}

pub requests_then : (a b c : Frame) → SameRequests a b → SameRequests b c → SameRequests a c
requests_then a b c x y = record {
  clone_i2e = y.clone_i2e ∙ x.clone_i2e;
  clone_e2e = y.clone_e2e ∙ x.clone_e2e;
  resubmit = y.resubmit ∙ x.resubmit;
  recirculate = y.recirculate ∙ x.recirculate;
  events = y.events ∙ x.events;
}

-- nothing but headers and the octets that aren't parsed
pub record Keeps (m n : Moment) : Type 0 where
  pub store : n.store ≡ m.store
  pub inner : n.frame.inner ≡ m.frame.inner
  pub standard : n.frame.standard ≡ m.frame.standard
  pub variables : n.frame.variables ≡ m.frame.variables
  pub emitted : n.emitted ≡ m.emitted
  pub hit : n.hit ≡ m.hit
  pub metadata : n.frame.metadata ≡ m.frame.metadata
  pub headers : (xs : List Name) → HasMembers xs m.frame.headers → HasMembers xs n.frame.headers
  pub requests : SameRequests m.frame n.frame

pub keeps_same : (m : Moment) → Keeps m m
keeps_same m = record { store = refl; inner = refl; standard = refl; variables = refl; emitted = refl; hit = refl; metadata = refl; headers = λ xs has. has; requests = record { clone_i2e = refl; clone_e2e = refl; resubmit = refl; recirculate = refl; events = refl } }

raised_keeps : (e : ParserError) (m : Moment) → Keeps m (raised e m)
raised_keeps e m = by (is_stopped m) where
  by : (b : Bool) → Keeps m (cond b m (record m { stopped = Some e }))
  by true = keeps_same m
  by false = record { store = refl; inner = refl; standard = refl; variables = refl; emitted = refl; hit = refl; metadata = refl; headers = λ xs has. has; requests = record { clone_i2e = refl; clone_e2e = refl; resubmit = refl; recirculate = refl; events = refl } }

extracted_keeps : (x : Shown) (e : ℕ) (m : Moment) → is_metadata x ≡ false → Keeps m (extracted (element_reference x e) m)
extracted_keeps (as_header called fields) e m plain = record { store = refl; inner = refl; standard = refl; variables = refl; emitted = refl; hit = refl; metadata = refl; headers = λ xs has. members_put xs m.frame.headers called _ has; requests = record { clone_i2e = refl; clone_e2e = refl; resubmit = refl; recirculate = refl; events = refl } }
extracted_keeps (as_stack called fields) e m plain = record { store = refl; inner = refl; standard = refl; variables = refl; emitted = refl; hit = refl; metadata = refl; headers = λ xs has. members_put xs m.frame.headers called _ has; requests = record { clone_i2e = refl; clone_e2e = refl; resubmit = refl; recirculate = refl; events = refl } }
extracted_keeps (as_metadata called fields) e m plain = absurd (cc plain)

moved_keeps : (x : Shown) (m : Moment) → is_metadata x ≡ false → Keeps m (moved (Some (instance_reference x)) m)
moved_keeps (as_header called fields) m plain = record { store = refl; inner = refl; standard = refl; variables = refl; emitted = refl; hit = refl; metadata = refl; headers = λ xs has. members_put xs m.frame.headers called _ has; requests = record { clone_i2e = refl; clone_e2e = refl; resubmit = refl; recirculate = refl; events = refl } }
moved_keeps (as_stack called fields) m plain = record { store = refl; inner = refl; standard = refl; variables = refl; emitted = refl; hit = refl; metadata = refl; headers = λ xs has. members_put xs m.frame.headers called _ has; requests = record { clone_i2e = refl; clone_e2e = refl; resubmit = refl; recirculate = refl; events = refl } }
moved_keeps (as_metadata called fields) m plain = absurd (cc plain)

pub keeps_then : (a b c : Moment) → Keeps a b → Keeps b c → Keeps a c
keeps_then a b c x y = record {
  store = y.store ∙ x.store;
  inner = y.inner ∙ x.inner;
  standard = y.standard ∙ x.standard;
  variables = y.variables ∙ x.variables;
  emitted = y.emitted ∙ x.emitted;
  hit = y.hit ∙ x.hit;
  metadata = y.metadata ∙ x.metadata;
  headers = λ xs has. y.headers xs (x.headers xs has);
  requests = requests_then a.frame b.frame c.frame x.requests y.requests;
}

module _ (x : Shown) (plain : is_metadata x ≡ false) where
  pub extract_keeps : (e : ℕ) (m : Moment) → Keeps m (extract (element_reference x e) None m)
  extract_keeps e m = by (has_bits m (header_width (header_in (read m.frame (element_reference x e))))) where
    by : (b : Bool) → Keeps m (cond b (extracted (element_reference x e) m) (raised PacketTooShort m))
    by true = extracted_keeps x e m plain
    by false = raised_keeps PacketTooShort m

  next_keeps : (e : ℕ) (m : Moment) → Keeps m (extract (element_reference x e) (Some (instance_reference x)) m)
  next_keeps e m = by (has_bits m (header_width (header_in (read m.frame (element_reference x e))))) where
    by : (b : Bool) → Keeps m (cond b (moved (Some (instance_reference x)) (extracted (element_reference x e) m)) (raised PacketTooShort m))
    by true = keeps_then m (extracted (element_reference x e) m) _ (extracted_keeps x e m plain) (moved_keeps x (extracted (element_reference x e) m) plain)
    by false = raised_keeps PacketTooShort m

-- how extraction stops

stopped_by : (m : Moment) (e f : ParserError) → m.stopped ≡ None → (raised f m).stopped ≡ Some e → raised f m ≡ record m { stopped = Some e }
stopped_by m e f runs is =
    let now : raised f m ≡ record m { stopped = Some f } = ap (λ b. let n : Moment = cond b m (record m { stopped = Some f }) in n) (ap is_some runs) in
    let same : Some f ≡ Some e = ap (λ (n : Moment). n.stopped) (sym now) ∙ is in
    now ∙ ap (λ (s : Option ParserError). let n : Moment = record m { stopped = s } in n) same

moved_stopped : (next : Option Reference) (m : Moment) → (moved next m).stopped ≡ m.stopped
moved_stopped None m = refl
moved_stopped (Some r) m = refl

never : (e : ParserError) (A : Type 0) → None ≡ Some e → A
never e A is = absurd (cc is)

pub extract_stops : (r : Reference) (next : Option Reference) (m : Moment) (e : ParserError) → m.stopped ≡ None → (extract r next m).stopped ≡ Some e → extract r next m ≡ record m { stopped = Some e }
extract_stops r next m e runs = by (has_bits m (header_width (header_in (read m.frame r)))) where
  by : (b : Bool) → (let n : Moment = cond b (moved next (extracted r m)) (raised PacketTooShort m) in n).stopped ≡ Some e → (let n : Moment = cond b (moved next (extracted r m)) (raised PacketTooShort m) in n) ≡ record m { stopped = Some e }
  by true is = never e _ (sym runs ∙ sym (moved_stopped next (extracted r m)) ∙ is)
  by false is = stopped_by m e PacketTooShort runs is

pub next_stops : (r : Reference) (m : Moment) (e : ParserError) → m.stopped ≡ None → (extracts_next r m).stopped ≡ Some e → extracts_next r m ≡ record m { stopped = Some e }
next_stops r m e runs = by (is_beyond (codes "next") (place_in v) (length (elements_in v))) where
  v : Value
  v = read m.frame r

  to : Reference
  to = (member_reference (stack [] 0) (codes "next") (referred r m)).reference

  went : Bool → Moment
  went b = let n : Moment = cond b (raised StackOutOfBounds m) m in going_on (extract to (Some r)) n

  by : (b : Bool) → (went b).stopped ≡ Some e → went b ≡ record m { stopped = Some e }
  by true is =
      let full : (raised StackOutOfBounds m) ≡ record m { stopped = Some StackOutOfBounds } = ap (λ b. let n : Moment = cond b m (record m { stopped = Some StackOutOfBounds }) in n) (ap is_some runs) in
      let went_on : went true ≡ raised StackOutOfBounds m = ap (λ (n : Moment). going_on (extract to (Some r)) n) full ∙ sym full in
      went_on ∙ stopped_by m e StackOutOfBounds runs (ap (λ (n : Moment). n.stopped) (sym went_on) ∙ is)
  by false is =
      let went_on : went false ≡ extract to (Some r) m = ap (λ b. cond b m (extract to (Some r) m)) (ap is_some runs) in
      went_on ∙ extract_stops to (Some r) m e runs (ap (λ (n : Moment). n.stopped) (sym went_on) ∙ is)

pub next_all_keeps : (called : _) (fields : _) (m : Moment) → Keeps m (extracts_next (instance_reference (as_stack called fields)) m)
next_all_keeps called fields m = by (is_beyond (codes "next") (place_in v) (length (elements_in v))) where
  v : Value
  v = read m.frame (instance_reference (as_stack called fields))

  going : (n : Moment) → Keeps m n → Keeps m (going_on (extract (element_reference (as_stack called fields) (place_in v)) (Some (instance_reference (as_stack called fields)))) n)
  going n k = at (is_stopped n) where
    at : (b : Bool) → Keeps m (cond b n (extract (element_reference (as_stack called fields) (place_in v)) (Some (instance_reference (as_stack called fields))) n))
    at true = k
    at false = keeps_then m n _ k (next_keeps (as_stack called fields) refl (place_in v) n)

  by : (b : Bool) → Keeps m (let n : Moment = cond b (raised StackOutOfBounds m) m in going_on (extract (element_reference (as_stack called fields) (place_in v)) (Some (instance_reference (as_stack called fields)))) n)
  by true = going (raised StackOutOfBounds m) (raised_keeps StackOutOfBounds m)
  by false = going m (keeps_same m)
