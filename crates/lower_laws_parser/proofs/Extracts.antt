-- Statements that extract.
use Rattle.std.specs.Option.{option_map_or}
use Rattle.p416_syntax.specs.Scopes.{sort_of, undeclared}
use Rattle.v1_core.specs.Values.{member_in}
use Rattle.v1_core.specs.Frames.{Owner, of_metadata, of_standard, of_variables, of_inner, of_nothing, owned}
use Rattle.agreement_of_meanings.specs.Shown.{owner_of, element}
use Rattle.lower_laws_base.specs.Context.{StateLayout, HasRoot, HasMembers, Lowering, words_of, now, shown_in, instances_of, instance_kind, Shaped, Sees, a_root, the_packet, PacketName, packet_name, packet_sort}
use Rattle.lower_laws_base.specs.Mirror.{instance_exp, element_exp}
use Rattle.lower_laws_base.proofs.Means.{Means, means_instance, means_part}
use Rattle.lower_laws_base.proofs.Shapes.{FitsThere, InstanceFits, stack_fits, header_fits, shaped_header, shaped_instance, shaped_like, not_metadata, has_part, place_with}
use Rattle.lower_laws_base.proofs.States.{stands_ticked, variables_left}
use Rattle.lower_laws_base.specs.Between.{between}
use Rattle.lower_laws_parser.specs.Words.{ParserWords, extract_stmt, inst_exp, indexed}
use Rattle.lower_laws_parser.specs.Parsing.{Origin, with_store, Going, InstFits, IsIndex, IsLatest, IsLatestElement, parser_words, Parses, ProgressStands}
use Rattle.lower_laws_parser.proofs.Bits.{length-numbers_in, numbers_below}
use Rattle.lower_laws_parser.proofs.Kept.{Keeps, requests_then, extract_keeps, next_all_keeps, extract_stops, next_stops}
use Rattle.std.proofs.Common.{◌≡◌, ℕ, ◌+◌, ◌/◌, ◌<◌, ◌^◌, Bool, true, false, not, ◌&&◌, cond, nat_lt, Option, Some, None, List, [], length, get_or, map, sum, drop, refl, sym, ap, ap₂, ◌∙◌, subst, arith}
use Rattle.std.specs.Prelude.{codes, is_some}
use Rattle.std.specs.Str.{bytes_eq}
use Rattle.std.proofs.lemmas.List.{get_or-map, get_or-set_same, length-map}
use Rattle.std.proofs.lemmas.Bool.{ltb-true}
use Rattle.p4x_bits.specs.BitLists.{octet_bits}
use Rattle.p414_syntax.specs.declared.parts.Index.{Index}
use Rattle.p414_syntax.specs.declared.parts.Index.TheVariants.{At, Next, Last}
use Rattle.p414_syntax.specs.declared.parts.Inst.{Inst}
use Rattle.p414_syntax.specs.declared.syntax.Decl.{Decl}
use Rattle.p414_syntax.specs.Names.{Name}
use Rattle.p414_syntax.specs.ParserGraph.{instance_number}
use Rattle.p414_sem.specs.declared.parsed.Parsed.TheVariants.{OutOfPacket, OutOfBounds}
use Rattle.p414_sem.specs.State.{Header as Header14, Instance, State, no_instance, instance_at, place_of, size_of, with_header, with_place}
use Rattle.p414_sem.specs.Packing.{widths_of, numbers_in}
use Rattle.p414_sem.specs.Parsing.{Progress, goes_on, stops, Latest, has_bits as has_bits14, extracted as extracted14}
use Rattle.p416_syntax.specs.Tree.{Exp16, name, member, no_arguments, argument}
use Rattle.p416_syntax.specs.Kinds.{Kind, stack, struct, packet_in, is_stack}
use Rattle.p416_syntax.specs.Scopes.{Scope}
use Rattle.p416_syntax.specs.Calls.{written_header}
use Rattle.p416_syntax.specs.Expressions.{sort_kind, kind_of}
use Rattle.v1_core.specs.declared.parser_error.ParserError.{ParserError}
use Rattle.v1_core.specs.declared.parser_error.ParserError.TheVariants.{PacketTooShort, StackOutOfBounds}
use Rattle.v1_core.specs.Values.{no_members}
use Rattle.v1_core.specs.Frames.{of_headers, Moment, Reference, ticked, going_on}
use Rattle.v1_core.specs.Surroundings.{World}
use Rattle.v1_core.specs.Expressions.{Referred, referred, reference_of, member_reference}
use Rattle.v1_core.specs.Calls.{Given, by_reference, argument_at, method_call, stack_of_next}
use Rattle.v1_core.specs.Externs.Packets.{extract}
use Rattle.v1_core.specs.Statements.{no_label, run}
use Rattle.agreement_of_meanings.specs.Shown.{NamedField, Shown, as_header, as_stack, as_metadata, is_metadata, fields_of, field_at, no_field, width_of, instance_reference, element_reference}
use Rattle.agreement_of_meanings.specs.Agrees.{HasElement, GoesOn, ProgressAgrees}
use Rattle.agreement_of_meanings.specs.Lowered.{IsNamed, extracts_next}
use Rattle.agreement_of_meanings.proofs.Extracted.{header_extracted, numbered_extracted, next_extracted}

-- the call

-- the packet by its name
pub packet_kind : (c : Lowering) (s : Scope) → Sees c s [] → (called : Name) (kind : Kind) → c.packet ≡ Some (record { called = called; kind = kind }) → kind_of s (name called) ≡ kind
packet_kind c s sees called kind is =
    ap (λ (q : Option PacketName). sort_kind (sort_of s (option_map_or packet_name q []))) (sym is)
    ∙ ap sort_kind (sees.declares.named the_packet (ap is_some is))
    ∙ ap (λ (q : Option PacketName). sort_kind (option_map_or packet_sort q undeclared)) is

pub packet_reads : (c : Lowering) (ds : List Decl) (packet : Name) (s : Scope) → Parses c ds packet s → kind_of s (name packet) ≡ packet_in
packet_reads c ds packet s parses = packet_kind c s parses.sees packet packet_in parses.packet_is

-- what is given to `extract`
abbrev IsGivenAs : World → Scope → Exp16 → Reference → Moment → Type 0
IsGivenAs w s e r n =
    (argument_at w s written_header e n ≡ by_reference (referred r n)) × (stack_of_next w.around s e n ≡ None)

module _ (w : World) (s : Scope) (ds : List Decl) (p : ParserWords) (packet : kind_of s (name p.packet) ≡ packet_in) (n : Moment) (runs : n.stopped ≡ None) where
  extracts : (e : Exp16) (r : Reference) → IsGivenAs w s e r (ticked n) → run w s no_label (extract_stmt ds p e) n ≡ extract r None (ticked n)
  extracts e r given =
      ap (λ b. cond b n (method_call w s (kind_of s (name p.packet)) (name p.packet) (codes "extract") (argument no_arguments e) (ticked n))) (ap is_some runs)
      ∙ ap (λ (k : Kind). method_call w s k (name p.packet) (codes "extract") (argument no_arguments e) (ticked n)) packet
      ∙ ap₂ (λ (g : Given × Moment) (next : Option Reference). going_on (extract g.0.target next) g.1) given.0 given.1
      ∙ ap (λ b. cond b (ticked n) (extract r None (ticked n))) (ap is_some runs)

  -- `next` may stop before
  next_extracts : (e : Exp16) (type : Name) (size : ℕ) (r : Reference) → Means w s e (stack type size) r (ticked n) → run w s no_label (extract_stmt ds p (member e (codes "next"))) n ≡ extracts_next r (ticked n)
  next_extracts e type size r m =
      ap (λ b. cond b n (method_call w s (kind_of s (name p.packet)) (name p.packet) (codes "extract") (argument no_arguments (member e (codes "next"))) (ticked n))) (ap is_some runs)
      ∙ ap (λ (k : Kind). method_call w s k (name p.packet) (codes "extract") (argument no_arguments (member e (codes "next"))) (ticked n)) packet
      ∙ ap₂ (λ (k : Kind) (x : Referred). let y = member_reference k (codes "next") x in going_on (extract y.reference (cond (is_stack k && bytes_eq (codes "next") (codes "next")) (Some x.reference) None)) y.moment) m.kind m.reference

-- states that were filled

-- numbers of these widths fit
filled_fits : (x : Shown) (widths : List ℕ) (xs : List Bool) → widths ≡ map width_of (fields_of x) → FitsThere x (record { valid = true; numbers = numbers_in widths xs })
filled_fits x widths xs same = record {
  count = length-numbers_in widths xs ∙ ap length same ∙ length-map (fields_of x) width_of;
  bounds = λ k lt.
      let there : get_or widths k 0 ≡ (field_at (fields_of x) k).width = ap (λ l. get_or l k 0) same ∙ get_or-map width_of (fields_of x) k no_field 0 lt in
      subst (λ z. get_or (numbers_in widths xs) k 0 < 2 ^ z) there (numbers_below widths xs k (omega (arith, length-map (fields_of x) width_of, ap length same, lt)));
}

-- a statement that begins
pub going_ticked : (c : Lowering) (o : Origin) (s : State) (n : Moment) → Going c o s n → Going c o s (ticked n)
going_ticked c o s n g = record {
  stands = stands_ticked c.layout [] [] o.aside (with_store s o.store) n g.stands;
  requests = record { clone_i2e = g.requests.clone_i2e; clone_e2e = g.requests.clone_e2e; resubmit = g.requests.resubmit; recirculate = g.requests.recirculate; events = g.requests.events };
}

-- behind the extraction of one element, where the octets are there

abbrev latest_as : Inst → ℕ → Latest
latest_as i e = record { instance = i; element = e }

abbrev filled_with : List ℕ → ℕ → ℕ → State → State
filled_with widths k e s =
    let h : Header14 = record { valid = true; numbers = numbers_in widths (octet_bits s.unparsed) } in with_header s k e h

module _ (c : Lowering) (ds : List Decl) (packet : Name) (state : Name → Name) (s : Scope) (parses : Parses c ds packet s) (o : Origin) (t : State) (n : Moment) (going : Going c o t n) where
  abbrev p : ParserWords
  p = parser_words c packet state

  -- what is new in a state behind an extraction
  record Anew (i : Inst) (e : ℕ) (u : State) : Type 0 where
    shaped : Shaped c.layout u
    latest : IsLatest c ds u (Some i) (Some (latest_as i e))

  headers_has : HasRoot c.layout of_headers
  headers_has = subst (λ (g : StateLayout). HasRoot g of_headers) (sym parses.whole) refl

  pub owner_has : (x : Shown) → HasRoot c.layout (owner_of x)
  owner_has x = subst (λ (g : StateLayout). HasRoot g (owner_of x)) (sym parses.whole) (by x) where
    by : (x : Shown) → HasRoot (between c.layout) (owner_of x)
    by (as_header called fields) = refl
    by (as_stack called fields) = refl
    by (as_metadata called fields) = refl

  inside_t : (k : ℕ) → k < length (instances_of c) → k < length t.instances
  inside_t k lt = subst (λ z. k < z) (sym going.stands.shaped.count) lt

  filled_shaped : (k e left : ℕ) (widths : List ℕ) → k < length (instances_of c) → e < c.layout.size_of k → is_metadata (shown_in c k) ≡ false → widths ≡ map width_of (fields_of (shown_in c k)) → Shaped c.layout (record (filled_with widths k e t) { unparsed = drop left t.unparsed })
  filled_shaped k e left widths inside within plain same =
      let h : Header14 = record { valid = true; numbers = numbers_in widths (octet_bits t.unparsed) } in
      let shaped = shaped_header c.layout t going.stands.shaped (record { instance = k; element = e }) h inside within (filled_fits (shown_in c k) widths (octet_bits t.unparsed) same) (not_metadata (shown_in c k) h plain) in
      shaped_like c.layout (filled_with widths k e t) shaped (record (filled_with widths k e t) { unparsed = drop left t.unparsed }) refl shaped.standard

  -- both go on, or both are out of packet
  progress_by : (i : Inst) (e : ℕ) (u : State) (y : Moment) (b : Bool) → Anew i e u → Keeps (ticked n) y → ((f : ParserError) → y.stopped ≡ Some f → y ≡ record (ticked n) { stopped = Some f }) → ProgressAgrees c.layout.names (cond b (goes_on (Some (latest_as i e)) u) (stops OutOfPacket t)) y → ProgressStands c ds o (Some i) (cond b (goes_on (Some (latest_as i e)) u) (stops OutOfPacket t)) y
  progress_by i e u y true anew keeps stop agrees = (
    record {
      stands = record {
        both = record { packet = agrees; store = keeps.store ∙ going.stands.both.store };
        shaped = anew.shaped;
        stored = going.stands.stored;
        inner = keeps.inner ∙ going.stands.inner;
        count = refl;
        variables = variables_left c.layout [] [] o.aside c.layout.variables n.frame y.frame keeps.variables going.stands.variables;
        members = members;
        error = ap (λ v. member_in v (codes "parser_error")) keeps.standard ∙ going.stands.error;
        checksum = ap (λ v. member_in v (codes "checksum_error")) keeps.standard ∙ going.stands.checksum;
        emitted = keeps.emitted ∙ going.stands.emitted;
        hit = keeps.hit ∙ going.stands.hit;
      };
      requests = requests_then o.frame n.frame y.frame going.requests keeps.requests;
    },
    anew.latest,
  ) where
    members : (o : Owner) → HasRoot c.layout o → HasMembers (c.layout.members o) (owned y.frame o)
    members of_headers is = keeps.headers (c.layout.members of_headers) (going.stands.members of_headers is)
    members of_metadata is = subst (HasMembers (c.layout.members of_metadata)) (sym keeps.metadata) (going.stands.members of_metadata is)
    members of_standard is = subst (HasMembers (c.layout.members of_standard)) (sym keeps.standard) (going.stands.members of_standard is)
    members of_variables is = absurd is
    members of_inner is = absurd is
    members of_nothing is = absurd is
  progress_by i e u y false anew keeps stop agrees = (
    refl,
    record {
      moment = ticked n;
      going = going_ticked c o t n going;
      is = stop PacketTooShort agrees;
    },
  )

  inner_now : (ticked n).frame.inner ≡ no_members
  inner_now = going.stands.inner

  -- a header, or an element by its number

  element_given : (x : Shown) (e : ℕ) → is_metadata x ≡ false → kind_of s (name (c.root of_headers)) ≡ struct (c.root_type of_headers) → reference_of c.world.around s (element_exp (words_of c) now x e) (ticked n) ≡ referred (element_reference x e) (ticked n) → IsGivenAs c.world s (element_exp (words_of c) now x e) (element_reference x e) (ticked n)
  element_given (as_header called fields) e plain root is =
      (ap by_reference is, ap (λ (k : Kind). cond (is_stack k && bytes_eq called (codes "next")) (Some (reference_of c.world.around s (name (c.root of_headers)) (ticked n)).reference) None) root)
  element_given (as_stack called fields) e plain root is = (ap by_reference is, refl)
  element_given (as_metadata called fields) e plain root is = absurd (cc plain)

  element_extracts : (k e : ℕ) → k < length c.layout.names.instances → e < c.layout.size_of k → is_metadata (shown_in c k) ≡ false → run c.world s no_label (extract_stmt ds p (element_exp (words_of c) now (shown_in c k) e)) n ≡ extract (element_reference (shown_in c k) e) None (ticked n)
  element_extracts k e inside within plain =
      extracts c.world s ds p (packet_reads c ds packet s parses) n going.stands.both.packet.runs (element_exp (words_of c) now (shown_in c k) e) (element_reference (shown_in c k) e)
      (element_given (shown_in c k) e plain (ap sort_kind (parses.sees.declares.named (a_root of_headers) headers_has)) (means_part c s [] parses.sees [] (ticked n) going.stands.inner now tt (record { instance = k; element = e }) (inside, within, owner_has (shown_in c k))).reference)

  still : GoesOn c.layout.names t (ticked n)
  still = (going_ticked c o t n going).stands.both.packet

  named : (called : Name) → instance_number ds called < length c.layout.names.instances → IsNamed ds c.layout.names.instances called (instance_number ds called)
  named called inside = record { number = refl; widths = parses.widths called inside }

  of_element : (called : Name) (ix : Option Index) (e : ℕ) → instance_number ds called < length c.layout.names.instances → e < c.layout.size_of (instance_number ds called) → is_metadata (shown_in c (instance_number ds called)) ≡ false → IsLatestElement c (filled_with (widths_of ds called) (instance_number ds called) e t) (instance_number ds called) ix e → ProgressAgrees c.layout.names (cond (has_bits14 t (sum (widths_of ds called))) (goes_on (Some (latest_as (record { name = called; index = ix }) e)) (record (filled_with (widths_of ds called) (instance_number ds called) e t) { unparsed = drop (sum (widths_of ds called) / 8) t.unparsed })) (stops OutOfPacket t)) (extract (element_reference (shown_in c (instance_number ds called)) e) None (ticked n)) → ProgressStands c ds o (Some (record { name = called; index = ix })) (cond (has_bits14 t (sum (widths_of ds called))) (goes_on (Some (latest_as (record { name = called; index = ix }) e)) (record (filled_with (widths_of ds called) (instance_number ds called) e t) { unparsed = drop (sum (widths_of ds called) / 8) t.unparsed })) (stops OutOfPacket t)) (run c.world s no_label (extract_stmt ds p (element_exp (words_of c) now (shown_in c (instance_number ds called)) e)) n)
  of_element called ix e inside within plain latest agrees =
      let k = instance_number ds called in
      let widths = widths_of ds called in
      let u : State = record (filled_with widths k e t) { unparsed = drop (sum widths / 8) t.unparsed } in
      let y = extract (element_reference (shown_in c k) e) None (ticked n) in
      subst (ProgressStands c ds o (Some (record { name = called; index = ix })) (cond (has_bits14 t (sum widths)) (goes_on (Some (latest_as (record { name = called; index = ix }) e)) u) (stops OutOfPacket t)))
      (sym (element_extracts k e inside within plain))
      (progress_by (record { name = called; index = ix }) e u y (has_bits14 t (sum widths))
      (record { shaped = filled_shaped k e (sum widths / 8) widths inside within plain (parses.widths called inside); latest = (refl, latest) })
      (extract_keeps (shown_in c k) plain e (ticked n)) (λ f is. extract_stops (element_reference (shown_in c k) e) None (ticked n) f going.stands.both.packet.runs is) agrees)

  -- the next element of a stack

  next_means : (k : ℕ) (called : Name) (fields : List NamedField) → k < length c.layout.names.instances → shown_in c k ≡ as_stack called fields → Means c.world s (instance_exp (words_of c) now (as_stack called fields)) (stack (c.type_of k) (c.layout.size_of k)) (instance_reference (as_stack called fields)) (ticked n)
  next_means k called fields inside is =
      subst (λ (x : Shown). Means c.world s (instance_exp (words_of c) now x) (instance_kind x (c.type_of k) (c.layout.size_of k)) (instance_reference x) (ticked n)) is
      (means_instance c s [] parses.sees [] (ticked n) going.stands.inner now tt k inside (owner_has (shown_in c k)))

  next_place : (k e : ℕ) (widths : List ℕ) → k < length (instances_of c) → place_of (filled_with widths k e t) k ≡ place_of t k
  next_place k e widths inside = place_with t k k _ (inside_t k inside)

  -- the state behind it
  abbrev next_state : ℕ → List ℕ → State
  next_state k widths =
      let u : State = record (filled_with widths k (place_of t k) t) { unparsed = drop (sum widths / 8) t.unparsed } in
      with_place u k (place_of u k + 1)

  abbrev next_progress : Name → Bool → Bool → Progress
  next_progress called full there =
      let k = instance_number ds called in
      cond full (stops OutOfBounds t) (cond there (goes_on (Some (latest_as (record { name = called; index = Some Next }) (place_of t k))) (next_state k (widths_of ds called))) (stops OutOfPacket t))

  next_anew : (called : Name) (at : Name) (fields : List NamedField) → instance_number ds called < length (instances_of c) → is_metadata (shown_in c (instance_number ds called)) ≡ false → shown_in c (instance_number ds called) ≡ as_stack at fields → place_of t (instance_number ds called) < size_of t (instance_number ds called) → Anew (record { name = called; index = Some Next }) (place_of t (instance_number ds called)) (next_state (instance_number ds called) (widths_of ds called))
  next_anew called at fields inside plain is room =
      let k = instance_number ds called in
      let widths = widths_of ds called in
      let e = place_of t k in
      let within : e < c.layout.size_of k = omega (arith, room, going.stands.shaped.sizes k inside) in
      let u : State = record (filled_with widths k e t) { unparsed = drop (sum widths / 8) t.unparsed } in
      let shaped : Shaped c.layout u = filled_shaped k e (sum widths / 8) widths inside within plain (parses.widths called inside) in
      let new : Instance = record { elements = (instance_at u k).elements; place = place_of u k + 1 } in
      let place_is : place_of u k ≡ e = next_place k e widths inside in
      let there : instance_at (with_place u k (place_of u k + 1)) k ≡ new = get_or-set_same u.instances k new no_instance (omega (arith, inside, shaped.count)) in
      let fits : InstanceFits (as_stack at fields) (c.layout.size_of k) new = stack_fits at fields new (c.layout.size_of k) (shaped.sizes k inside) (omega (arith, within, place_is))
      (λ j lt. subst (λ (x : Shown). FitsThere x (element (instance_at u k) j)) is (header_fits c.layout u shaped k j inside lt)) in
      record {
        shaped = shaped_instance c.layout u shaped k new inside (subst (λ (x : Shown). InstanceFits x (c.layout.size_of k) new) (sym is) fits);
        latest = (
          refl,
          (
            ap (λ (x : Instance). x.place) there ∙ ap (λ q. q + 1) place_is,
            within,
          ),
        );
      }

  next_by : (called : Name) (y : Moment) (full there : Bool) → (full ≡ false → Anew (record { name = called; index = Some Next }) (place_of t (instance_number ds called)) (next_state (instance_number ds called) (widths_of ds called))) → Keeps (ticked n) y → ((f : ParserError) → y.stopped ≡ Some f → y ≡ record (ticked n) { stopped = Some f }) → ProgressAgrees c.layout.names (next_progress called full there) y → ProgressStands c ds o (Some (record { name = called; index = Some Next })) (next_progress called full there) y
  next_by called y true there anew keeps stop agrees = (
    refl,
    record {
      moment = ticked n;
      going = going_ticked c o t n going;
      is = stop StackOutOfBounds agrees;
    },
  )
  next_by called y false there anew keeps stop agrees =
      progress_by (record { name = called; index = Some Next }) (place_of t (instance_number ds called)) (next_state (instance_number ds called) (widths_of ds called)) y there (anew refl) keeps stop agrees

  of_next : (called : Name) (at : Name) (fields : List NamedField) → instance_number ds called < length c.layout.names.instances → is_metadata (shown_in c (instance_number ds called)) ≡ false → shown_in c (instance_number ds called) ≡ as_stack at fields → ProgressStands c ds o (Some (record { name = called; index = Some Next })) (extracted14 ds (record { name = called; index = Some Next }) t) (run c.world s no_label (extract_stmt ds p (member (instance_exp (words_of c) now (shown_in c (instance_number ds called))) (codes "next"))) n)
  of_next called at fields inside plain is =
      let k = instance_number ds called in
      let full = not (nat_lt (place_of t k) (size_of t k)) in
      let y = extracts_next (instance_reference (as_stack at fields)) (ticked n) in
      let same : run c.world s no_label (extract_stmt ds p (member (instance_exp (words_of c) now (shown_in c k)) (codes "next"))) n ≡ y =
      ap (λ (x : Shown). run c.world s no_label (extract_stmt ds p (member (instance_exp (words_of c) now x) (codes "next"))) n) is
      ∙ next_extracts c.world s ds p (packet_reads c ds packet s parses) n going.stands.both.packet.runs (instance_exp (words_of c) now (as_stack at fields)) (c.type_of k) (c.layout.size_of k) (instance_reference (as_stack at fields)) (next_means k at fields inside is) in
      let room : place_of t k < length (instance_at t k).elements → HasElement c.layout.names.instances t k (place_of t k) =
      λ lt. has_part c.layout t going.stands.shaped (record { instance = k; element = place_of t k }) (inside, omega (arith, lt, going.stands.shaped.sizes k inside), owner_has (shown_in c k)) in
      subst (ProgressStands c ds o (Some (record { name = called; index = Some Next })) (extracted14 ds (record { name = called; index = Some Next }) t)) (sym same)
      (next_by called y full (has_bits14 t (sum (widths_of ds called)))
      (λ some. next_anew called at fields inside plain is (fits_there some))
      (next_all_keeps at fields (ticked n)) (λ f stopped. next_stops (instance_reference (as_stack at fields)) (ticked n) f going.stands.both.packet.runs stopped)
      (subst (λ (x : Shown). ProgressAgrees c.layout.names (extracted14 ds (record { name = called; index = Some Next }) t) (extracts_next (instance_reference x) (ticked n))) is
      (next_extracted c.layout.names ds called k at fields t (ticked n) parses.sees.declares.differ (named called inside) inside is room still)))
    where
      fits_there : not (nat_lt (place_of t (instance_number ds called)) (size_of t (instance_number ds called))) ≡ false → place_of t (instance_number ds called) < size_of t (instance_number ds called)
      fits_there some = ltb-true _ _ (by (nat_lt (place_of t (instance_number ds called)) (size_of t (instance_number ds called))) some) where
        by : (b : Bool) → not b ≡ false → b ≡ true
        by true e = refl
        by false e = absurd (cc e)

  of_inst : (called : Name) (ix : Option Index) → instance_number ds called < length c.layout.names.instances → is_metadata (shown_in c (instance_number ds called)) ≡ false → IsIndex c (instance_number ds called) ix → ProgressStands c ds o (Some (record { name = called; index = ix })) (extracted14 ds (record { name = called; index = ix }) t) (run c.world s no_label (extract_stmt ds p (indexed ds p (codes "next") (shown_in c (instance_number ds called)) ix)) n)
  of_inst called None inside plain within =
      of_element called None 0 inside within plain refl
      (header_extracted c.layout.names ds called (instance_number ds called) t (ticked n) parses.sees.declares.differ (named called inside) plain (has_part c.layout t going.stands.shaped (record { instance = instance_number ds called; element = 0 }) (inside, within, owner_has (shown_in c (instance_number ds called)))) still)
  of_inst called (Some (At e)) inside plain within =
      of_element called (Some (At e)) e.value inside within plain refl
      (numbered_extracted c.layout.names ds called e (instance_number ds called) t (ticked n) parses.sees.declares.differ (named called inside) plain (has_part c.layout t going.stands.shaped (record { instance = instance_number ds called; element = e.value }) (inside, within, owner_has (shown_in c (instance_number ds called)))) still)
  of_inst called (Some Next) inside plain is = of_next called is.0 is.1 inside plain is.2
  of_inst called (Some Last) inside plain within = absurd within

  pub extract_does : (i : Inst) → InstFits c ds i → ProgressStands c ds o (Some i) (extracted14 ds i t) (run c.world s no_label (extract_stmt ds p (inst_exp ds p i)) n)
  extract_does i fits = of_inst i.name i.index fits.instance fits.plain fits.index
