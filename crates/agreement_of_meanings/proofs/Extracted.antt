-- Headers that are extracted correspond.
use Rattle.std.proofs.Common.{◌≡◌, ℕ, ◌+◌, ◌*◌, ◌/◌, ◌<◌, nat_lt, Bool, true, false, not, cond, Option, Some, None, is_some, List, [], ◌∷◌, length, get_or, set, map, take, drop, sum, refl, sym, ap, ◌∙◌, subst, arith, codes}
use Rattle.std.proofs.lemmas.List.{get_or-set_same, map-set, length-map}
use Rattle.std.proofs.lemmas.Bool.{ltb-true}
use Rattle.p4x_bits.specs.BitLists.{num, octet_bits}
use Rattle.fabric.specs.declared.items.RequestKind.{RequestKind}
use Rattle.p414_syntax.specs.declared.lexeme.Literal.{Literal}
use Rattle.p414_syntax.specs.declared.parts.Index.TheVariants.{At, Next}
use Rattle.p414_syntax.specs.declared.syntax.Decl.{Decl}
use Rattle.p414_sem.specs.declared.standard.Standard.{Standard}
use Rattle.p414_sem.specs.declared.standard.Standard.TheVariants.{IngressPort, EgressSpec, EgressPort, PacketLength, InstanceType}
use Rattle.p414_sem.specs.declared.parsed.Parsed.TheVariants.{OutOfPacket, OutOfBounds}
use Rattle.p414_sem.specs.State.{Header as Header14, Instance, State, no_instance, no_header as no_header14, instance_at, place_of, standard_number, with_header, with_place, request_of as request14}
use Rattle.p414_sem.specs.Packing.{widths_of, numbers_in}
use Rattle.p414_sem.specs.Parsing.{Progress, goes_on, stops, Latest, extracted as extracted14}
use Rattle.p416_syntax.specs.Names.{Name}
use Rattle.v1_core.specs.declared.parser_error.ParserError.{ParserError}
use Rattle.v1_core.specs.declared.parser_error.ParserError.TheVariants.{PacketTooShort, StackOutOfBounds}
use Rattle.v1_core.specs.Values.{Field, Header, a_number, a_header, a_stack, member_in, header_in, place_in, elements_in, to_member, to_element, part_of, with_part, fitted}
use Rattle.v1_core.specs.Frames.{Frame, Moment, Reference, of_headers, with_owned, read, write, raised, is_stopped, going_on, request_of as request16}
use Rattle.v1_core.specs.Expressions.{has_bits, bounded}
use Rattle.v1_core.specs.Externs.Packets.{field_width, header_width, fields_filled, extracted, moved, extract}
use Rattle.agreement_of_meanings.specs.Shown.{NamedField, width_of, Shown, as_header, as_stack, as_metadata, shown_at, fields_of, is_metadata, NamesDiffer, shown_fields, shown_header, element, IsShown, AreShown, standard_word, standard_width, instance_reference, element_reference}
use Rattle.agreement_of_meanings.specs.Agrees.{NewNames, Agrees, RequestsAgree, IsElement, HasElement, GoesOn, ProgressAgrees}
use Rattle.agreement_of_meanings.specs.Lowered.{IsNamed, extracts_next}
use Rattle.agreement_of_meanings.proofs.Written.{with_shown, events_kept, instance_put, instance_part, instance_written, elements_of_map, requests_by14, shown_stays}

-- states and frames that differ in what doesn't count

pub numbers_by : (s t : State) → s.ingress_port ≡ t.ingress_port → s.egress_spec ≡ t.egress_spec → s.egress_port ≡ t.egress_port → s.packet_length ≡ t.packet_length → s.instance_type ≡ t.instance_type → (which : Standard) → standard_number s which ≡ standard_number t which
numbers_by s t a b c d e IngressPort = a
numbers_by s t a b c d e EgressSpec = b
numbers_by s t a b c d e EgressPort = c
numbers_by s t a b c d e PacketLength = d
numbers_by s t a b c d e InstanceType = e

pub state_like : (names : NewNames) (s t : State) (f : Frame) → s.instances ≡ t.instances → ((which : Standard) → standard_number s which ≡ standard_number t which) → ((kind : RequestKind) → request14 s kind ≡ request14 t kind) → Agrees names s f → Agrees names t f
state_like names s t f instances numbers requests agrees = record {
  instances = subst (λ is. AreShown names.instances is f) instances agrees.instances;
  standard = λ which. agrees.standard which ∙ ap (a_number (standard_width which)) (numbers which);
  requests = λ kind. subst (λ r. RequestsAgree names.marks r (request16 f kind)) (requests kind) (agrees.requests kind);
}

pub frame_like : (names : NewNames) (s : State) (f g : Frame) → f.headers ≡ g.headers → f.metadata ≡ g.metadata → f.standard ≡ g.standard → ((kind : RequestKind) → request16 f kind ≡ request16 g kind) → Agrees names s f → Agrees names s g
frame_like names s f g headers metadata standard requests agrees = record {
  instances = record {
    count = agrees.instances.count;
    each = λ k lt. shown_stays f g (shown_at names.instances k) (get_or s.instances k no_instance) headers metadata (agrees.instances.each k lt);
  };
  standard = λ which. ap (λ v. member_in v (standard_word which)) (sym standard) ∙ agrees.standard which;
  requests = λ kind. subst (λ q. RequestsAgree names.marks (request14 s kind) q) (requests kind) (agrees.requests kind);
}

pub skipped_state : (names : NewNames) (s : State) (f : Frame) (left : List ℕ) → Agrees names s f → Agrees names (record s { unparsed = left }) f
skipped_state names s f left agrees =
    state_like names s (record s { unparsed = left }) f refl (numbers_by s (record s { unparsed = left }) refl refl refl refl refl) (requests_by14 s (record s { unparsed = left }) refl refl refl refl) agrees

-- elements

abbrev pub with_element : Instance → ℕ → Header14 → Instance
with_element i e h = record { elements = set i.elements e h; place = i.place }

pub element_read : (f : Frame) (x : Shown) (i : Instance) (e : ℕ) → IsShown f x i → is_metadata x ≡ false → e < length i.elements → IsElement x i e → read f (element_reference x e) ≡ a_header (shown_header (fields_of x) (element i e))
element_read f (as_header called fields) i e shown kind some is =
    subst (λ m. read f (element_reference (as_header called fields) m) ≡ a_header (shown_header fields (element i m))) (sym is)
    (instance_part f (as_header called fields) i shown)
element_read f (as_stack called fields) i e shown kind some is =
    ap (λ p. part_of p (to_element e)) (instance_part f (as_stack called fields) i shown) ∙ ap a_header (elements_of_map fields i.elements e some)
element_read f (as_metadata called fields) i e shown kind some is = absurd (cc kind)

element_put_header : (f : Frame) (called : Name) (fields : List NamedField) (i : Instance) (h : Header14) → IsShown f (as_header called fields) i → 0 < length i.elements → write (element_reference (as_header called fields) 0) (a_header (shown_header fields h)) f ≡ with_shown f (as_header called fields) (with_element i 0 h)
element_put_header f called fields i h shown some =
    let x = as_header called fields in
    ap (λ p. with_owned f of_headers (with_part f.headers (to_member called) (fitted p (a_header (shown_header fields h))))) (instance_part f x i shown)
    ∙ ap (λ (g : Header14). with_owned f of_headers (with_part f.headers (to_member called) (a_header (shown_header fields g)))) (sym (get_or-set_same i.elements 0 h no_header14 some))
    ∙ instance_written f x i (with_element i 0 h) shown

pub element_put : (f : Frame) (x : Shown) (i : Instance) (e : ℕ) (h : Header14) → IsShown f x i → is_metadata x ≡ false → e < length i.elements → IsElement x i e → write (element_reference x e) (a_header (shown_header (fields_of x) h)) f ≡ with_shown f x (with_element i e h)
element_put f (as_header called fields) i e h shown kind some is =
    subst (λ m. m < length i.elements → write (element_reference (as_header called fields) m) (a_header (shown_header fields h)) f ≡ with_shown f (as_header called fields) (with_element i m h)) (sym is)
    (element_put_header f called fields i h shown) some
element_put f (as_stack called fields) i e h shown kind some is =
    let x = as_stack called fields in
    ap (λ p. with_owned f of_headers (with_part f.headers (to_member called) (with_part p (to_element e) (fitted (part_of p (to_element e)) (a_header (shown_header fields h)))))) (instance_part f x i shown)
    ∙ ap (λ (l : List Header). with_owned f of_headers (with_part f.headers (to_member called) (a_stack i.place l))) (sym (map-set (shown_header fields) i.elements e h))
    ∙ instance_written f x i (with_element i e h) shown
element_put f (as_metadata called fields) i e h shown kind some is = absurd (cc kind)

-- headers that are filled

pub filled_is : (fields : List NamedField) (numbers : List ℕ) (bits : List Bool) → length numbers ≡ length fields → fields_filled (shown_fields fields numbers) bits ≡ shown_fields fields (numbers_in (map width_of fields) bits)
filled_is [] numbers bits count = refl
filled_is (f ∷ fields) [] bits count = absurd (omega (arith, count))
filled_is (f ∷ fields) (n ∷ numbers) bits count =
    ap (λ (rest : List Field). let x : Field = record { called = f.called; width = f.width; number = num (take f.width bits) } in x ∷ rest)
    (filled_is fields numbers (drop f.width bits) (omega (arith, count)))

pub widths_are : (fields : List NamedField) (numbers : List ℕ) → length numbers ≡ length fields → map field_width (shown_fields fields numbers) ≡ map width_of fields
widths_are [] numbers count = refl
widths_are (f ∷ fields) [] count = absurd (omega (arith, count))
widths_are (f ∷ fields) (n ∷ numbers) count = ap (λ (rest : List ℕ). f.width ∷ rest) (widths_are fields numbers (omega (arith, count)))

-- stops

runs_on : (m : Moment) → m.stopped ≡ None → is_stopped m ≡ false
runs_on m runs = ap is_some runs

pub raised_stops : (e : ParserError) (m : Moment) → m.stopped ≡ None → (raised e m).stopped ≡ Some e
raised_stops e m runs = ap (λ (b : Bool). let n : Moment = cond b m (record m { stopped = Some e }) in n.stopped) (runs_on m runs)

pub goes_on_running : (g : Moment → Moment) (m : Moment) → m.stopped ≡ None → going_on g m ≡ g m
goes_on_running g m runs = ap (λ (b : Bool). cond b m (g m)) (runs_on m runs)

pub stops_stopped : (g : Moment → Moment) (m : Moment) (e : ParserError) → m.stopped ≡ Some e → (going_on g m).stopped ≡ Some e
stops_stopped g m e stopped = ap (λ (b : Bool). let n : Moment = cond b m (g m) in n.stopped) (ap is_some stopped) ∙ stopped

by_test : (names : NewNames) (b c : Bool) (p q : Progress) (x y : Moment) → c ≡ b → (b ≡ true → ProgressAgrees names p x) → (b ≡ false → ProgressAgrees names q y) → ProgressAgrees names (cond b p q) (cond c x y)
by_test names true c p q x y same first second = subst (λ (t : Bool). ProgressAgrees names p (cond t x y)) (sym same) (first refl)
by_test names false c p q x y same first second = subst (λ (t : Bool). ProgressAgrees names q (cond t x y)) (sym same) (second refl)

-- an element that is extracted

-- the state behind it
abbrev pub behind14 : List ℕ → ℕ → ℕ → State → State
behind14 widths k e s =
    let h : Header14 = record { valid = true; numbers = numbers_in widths (octet_bits s.unparsed) } in
    record (with_header s k e h) { unparsed = drop (sum widths / 8) s.unparsed }

element_extracted : (names : NewNames) (s : State) (m : Moment) (k e : ℕ) → NamesDiffer names.instances → is_metadata (shown_at names.instances k) ≡ false → HasElement names.instances s k e → GoesOn names s m → GoesOn names (behind14 (map width_of (fields_of (shown_at names.instances k))) k e s) (extracted (element_reference (shown_at names.instances k) e) m)
element_extracted names s m k e differ kind has packet =
    let x = shown_at names.instances k in
    let fields = fields_of x in
    let old = instance_at s k in
    let shown = packet.agrees.instances.each k has.instance in
    let r = element_reference x e in
    let widths = map width_of fields in
    let h : Header14 = record { valid = true; numbers = numbers_in widths (octet_bits s.unparsed) } in
    let here : read m.frame r ≡ a_header (shown_header fields (element old e)) = element_read m.frame x old e shown kind has.within has.which in
    let full : header_width (header_in (read m.frame r)) ≡ sum widths = ap (λ v. header_width (header_in v)) here ∙ ap sum (widths_are fields (element old e).numbers has.numbers) in
    let filled : fields_filled (header_in (read m.frame r)).fields (octet_bits m.unparsed) ≡ shown_fields fields (numbers_in widths (octet_bits s.unparsed)) =
    ap (λ v. fields_filled (header_in v).fields (octet_bits m.unparsed)) here ∙ filled_is fields (element old e).numbers (octet_bits m.unparsed) has.numbers
    ∙ ap (λ l. shown_fields fields (numbers_in widths (octet_bits l))) packet.unparsed in
    let put : (extracted r m).frame ≡ with_shown m.frame x (with_element old e h) =
    ap (λ (fs : List Field). write r (a_header (record { valid = true; fields = fs })) m.frame) filled
    ∙ element_put m.frame x old e h shown kind has.within has.which in
    record {
      agrees = skipped_state names (with_header s k e h) (extracted r m).frame (drop (sum widths / 8) s.unparsed)
          (subst (Agrees names (with_header s k e h)) (sym put) (instance_put names s m.frame k x (with_element old e h) differ has.instance refl packet.agrees));
      unparsed = ap (λ (n : ℕ). drop (n / 8) m.unparsed) full ∙ ap (drop (sum widths / 8)) packet.unparsed;
      events = ap (λ (g : Frame). g.events) put ∙ events_kept m.frame x (with_element old e h) ∙ packet.events;
      runs = packet.runs;
    }

-- enough bits are left in both, or in neither
enough : (names : NewNames) (s : State) (m : Moment) (k e : ℕ) → is_metadata (shown_at names.instances k) ≡ false → HasElement names.instances s k e → GoesOn names s m → has_bits m (header_width (header_in (read m.frame (element_reference (shown_at names.instances k) e)))) ≡ nat_lt (sum (map width_of (fields_of (shown_at names.instances k)))) (8 * length s.unparsed + 1)
enough names s m k e kind has packet =
    let x = shown_at names.instances k in
    let fields = fields_of x in
    let old = instance_at s k in
    let here : read m.frame (element_reference x e) ≡ a_header (shown_header fields (element old e)) =
    element_read m.frame x old e (packet.agrees.instances.each k has.instance) kind has.within has.which in
    ap (λ v. has_bits m (header_width (header_in v))) here
    ∙ ap (λ (l : List ℕ). has_bits m (sum l)) (widths_are fields (element old e).numbers has.numbers)
    ∙ ap (λ (l : List ℕ). nat_lt (sum (map width_of fields)) (8 * length l + 1)) packet.unparsed

extracts : (names : NewNames) (s : State) (m : Moment) (k e : ℕ) (latest : Option Latest) → NamesDiffer names.instances → is_metadata (shown_at names.instances k) ≡ false → HasElement names.instances s k e → GoesOn names s m → ProgressAgrees names (cond (nat_lt (sum (map width_of (fields_of (shown_at names.instances k)))) (8 * length s.unparsed + 1)) (goes_on latest (behind14 (map width_of (fields_of (shown_at names.instances k))) k e s)) (stops OutOfPacket s)) (extract (element_reference (shown_at names.instances k) e) None m)
extracts names s m k e latest differ kind has packet =
    by_test names _ _ _ _ _ _ (enough names s m k e kind has packet)
    (λ b. element_extracted names s m k e differ kind has packet) (λ b. raised_stops PacketTooShort m packet.runs)

-- a header
pub header_extracted : (names : NewNames) (ds : List Decl) (name : Name) (k : ℕ) (s : State) (m : Moment) → NamesDiffer names.instances → IsNamed ds names.instances name k → is_metadata (shown_at names.instances k) ≡ false → HasElement names.instances s k 0 → GoesOn names s m → ProgressAgrees names (extracted14 ds (record { name = name; index = None }) s) (extract (element_reference (shown_at names.instances k) 0) None m)
header_extracted names ds name k s m differ named kind has packet =
    rw (named.number, named.widths) (extracts names s m k 0 (Some (record { instance = record { name = name; index = None }; element = 0 })) differ kind has packet)

-- an element by its number
pub numbered_extracted : (names : NewNames) (ds : List Decl) (name : Name) (n : Literal) (k : ℕ) (s : State) (m : Moment) → NamesDiffer names.instances → IsNamed ds names.instances name k → is_metadata (shown_at names.instances k) ≡ false → HasElement names.instances s k n.value → GoesOn names s m → ProgressAgrees names (extracted14 ds (record { name = name; index = Some (At n) }) s) (extract (element_reference (shown_at names.instances k) n.value) None m)
numbered_extracted names ds name n k s m differ named kind has packet =
    rw (named.number, named.widths) (extracts names s m k n.value (Some (record { instance = record { name = name; index = Some (At n) }; element = n.value })) differ kind has packet)

-- `next`

next_moved : (names : NewNames) (s : State) (m : Moment) (k : ℕ) (called : Name) (fields : List NamedField) → NamesDiffer names.instances → k < length names.instances → shown_at names.instances k ≡ as_stack called fields → GoesOn names s m → GoesOn names (with_place s k (place_of s k + 1)) (moved (Some (instance_reference (as_stack called fields))) m)
next_moved names s m k called fields differ lt is packet =
    let x = as_stack called fields in
    let old = instance_at s k in
    let new : Instance = record { elements = old.elements; place = old.place + 1 } in
    let shown : IsShown m.frame x old = subst (λ y. IsShown m.frame y old) is (packet.agrees.instances.each k lt) in
    let put : (moved (Some (instance_reference x)) m).frame ≡ with_shown m.frame x new =
    ap (λ p. with_owned m.frame of_headers (with_part m.frame.headers (to_member called) (fitted p (a_stack (place_in p + 1) (elements_in p))))) (instance_part m.frame x old shown)
    ∙ instance_written m.frame x old new shown in
    record {
      agrees = subst (Agrees names (with_place s k (place_of s k + 1))) (sym put) (instance_put names s m.frame k x new differ lt is packet.agrees);
      unparsed = packet.unparsed;
      events = ap (λ (g : Frame). g.events) put ∙ events_kept m.frame x new ∙ packet.events;
      runs = packet.runs;
    }

next_of : (names : NewNames) (s : State) (m : Moment) (k : ℕ) (called : Name) (fields : List NamedField) (latest : Option Latest) → NamesDiffer names.instances → k < length names.instances → shown_at names.instances k ≡ as_stack called fields → (place_of s k < length (instance_at s k).elements → HasElement names.instances s k (place_of s k)) → GoesOn names s m → (b : Bool) → nat_lt (place_of s k) (length (instance_at s k).elements) ≡ b → ProgressAgrees names (cond (not b) (stops OutOfBounds s) (cond (nat_lt (sum (map width_of fields)) (8 * length s.unparsed + 1)) (goes_on latest (with_place (behind14 (map width_of fields) k (place_of s k) s) k (place_of (behind14 (map width_of fields) k (place_of s k) s) k + 1))) (stops OutOfPacket s))) (going_on (extract (element_reference (as_stack called fields) (place_of s k)) (Some (instance_reference (as_stack called fields)))) (cond (not b) (raised StackOutOfBounds m) m))
next_of names s m k called fields latest differ lt is room packet false test =
    stops_stopped (extract (element_reference (as_stack called fields) (place_of s k)) (Some (instance_reference (as_stack called fields)))) (raised StackOutOfBounds m) StackOutOfBounds (raised_stops StackOutOfBounds m packet.runs)
next_of names s m k called fields latest differ lt is room packet true test =
    let x = as_stack called fields in
    let place = place_of s k in
    let widths = map width_of fields in
    let has = room (ltb-true _ _ test) in
    let kind : is_metadata (shown_at names.instances k) ≡ false = ap is_metadata is in
    let r = element_reference x place in
    subst (ProgressAgrees names _) (sym (goes_on_running (extract r (Some (instance_reference x))) m packet.runs))
    (by_test names _ _ _ _ _ _ (subst (λ y. has_bits m (header_width (header_in (read m.frame (element_reference y place)))) ≡ nat_lt (sum (map width_of (fields_of y))) (8 * length s.unparsed + 1)) is (enough names s m k place kind has packet))
    (λ b. next_moved names (behind14 widths k place s) (extracted r m) k called fields differ lt is
    (subst (λ y. GoesOn names (behind14 (map width_of (fields_of y)) k place s) (extracted (element_reference y place) m)) is (element_extracted names s m k place differ kind has packet)))
    (λ b. raised_stops PacketTooShort m packet.runs))

-- what a `next` is, by the place of its stack
next_is : (f : Frame) (m : Moment) (called : Name) (fields : List NamedField) (i : Instance) → m.frame ≡ f → IsShown f (as_stack called fields) i → extracts_next (instance_reference (as_stack called fields)) m ≡ going_on (extract (element_reference (as_stack called fields) i.place) (Some (instance_reference (as_stack called fields)))) (cond (not (nat_lt i.place (length i.elements))) (raised StackOutOfBounds m) m)
next_is f m called fields i same shown =
    let x = as_stack called fields in
    let r = instance_reference x in
    ap (λ v. going_on (extract (let e : Reference = record { owner = of_headers; steps = to_member called ∷ to_element (place_in v) ∷ []; slice = None } in e) (Some r)) (bounded (codes "next") v m)) (ap (λ (g : Frame). part_of g.headers (to_member called)) same ∙ instance_part f x i shown)
    ∙ ap (λ (n : ℕ). going_on (extract (element_reference x i.place) (Some r)) (cond (not (nat_lt i.place n)) (raised StackOutOfBounds m) m)) (length-map i.elements (shown_header fields))

pub next_extracted : (names : NewNames) (ds : List Decl) (name : Name) (k : ℕ) (called : Name) (fields : List NamedField) (s : State) (m : Moment) → NamesDiffer names.instances → IsNamed ds names.instances name k → k < length names.instances → shown_at names.instances k ≡ as_stack called fields → (place_of s k < length (instance_at s k).elements → HasElement names.instances s k (place_of s k)) → GoesOn names s m → ProgressAgrees names (extracted14 ds (record { name = name; index = Some Next }) s) (extracts_next (instance_reference (shown_at names.instances k)) m)
next_extracted names ds name k called fields s m differ named lt is room packet =
    let old = instance_at s k in
    let widths : widths_of ds name ≡ map width_of fields = named.widths ∙ ap (λ y. map width_of (fields_of y)) is in
    let shown : IsShown m.frame (as_stack called fields) old = subst (λ y. IsShown m.frame y old) is (packet.agrees.instances.each k lt) in
    subst (λ y. ProgressAgrees names (extracted14 ds (record { name = name; index = Some Next }) s) (extracts_next (instance_reference y) m)) (sym is)
    (subst (ProgressAgrees names (extracted14 ds (record { name = name; index = Some Next }) s)) (sym (next_is m.frame m called fields old refl shown))
    (rw (named.number, widths) (next_of names s m k called fields (Some (record { instance = record { name = name; index = Some Next }; element = place_of s k })) differ lt is room packet (nat_lt (place_of s k) (length old.elements)) refl)))
