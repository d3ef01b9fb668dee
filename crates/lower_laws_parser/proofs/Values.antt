-- The values of a parser state.
use Rattle.agreement_of_meanings.specs.Shown.{owner_of}
use Rattle.lower_laws_base.specs.Context.{HasRoot, Lowering, words_of, now, shown_in, instance_kind, IsSlot, Looks}
use Rattle.lower_laws_base.specs.Mirror.{instance_exp, slot_exp, source_exp, width_in, resized}
use Rattle.lower_laws_base.proofs.Wrap.{wrap_below}
use Rattle.lower_laws_base.proofs.Means.{Means, means_slot, means_instance}
use Rattle.lower_laws_base.proofs.Gives.{gives_literal, gives_resized}
use Rattle.lower_laws_base.proofs.Sources.{gives_source}
use Rattle.lower_laws_base.proofs.Shapes.{has_slot, slot_bounded}
use Rattle.lower_laws_base.proofs.States.{seen_now}
use Rattle.lower_laws_parser.specs.Words.{ParserWords, value_exp, indexed}
use Rattle.lower_laws_parser.specs.Parsing.{Origin, with_store, Going, IsIndex, ValueFits, IsLatest, IsLatestElement, parser_words, Parses}
use Rattle.lower_laws_parser.proofs.Yields.{too_short, Halts, Yields, yields_given, halts_resized, yields_current}
use Rattle.lower_laws_parser.proofs.Extracts.{packet_reads, owner_has}
use Rattle.std.proofs.Common.{◌≡◌, ◌≢◌, ◌⊎◌, inl, inr, eqb, ℕ, suc, ◌-◌, ◌<◌, ◌%◌, ◌^◌, ◌==◌, true, false, cond, Option, Some, None, List, [], ◌∷◌, length, map, refl, sym, ap, ap₂, ◌∙◌, subst, arith}
use Rattle.std.specs.Prelude.{codes, option_map, slice_index_or}
use Rattle.std.proofs.lemmas.Nat.{mod_below, pow_pos}
use Rattle.std.proofs.lemmas.Bool.Decides.{eqb_tells}
use Rattle.p414_syntax.specs.declared.parts.Index.{Index}
use Rattle.p414_syntax.specs.declared.parts.Index.TheVariants.{At, Next, Last}
use Rattle.p414_syntax.specs.declared.parts.Inst.{Inst}
use Rattle.p414_syntax.specs.declared.parsers.PValue.{PValue}
use Rattle.p414_syntax.specs.declared.parsers.PValue.TheVariants as pvalue
use Rattle.p414_syntax.specs.declared.syntax.Decl.{Decl}
use Rattle.p414_syntax.specs.Names.{Name}
use Rattle.p414_syntax.specs.ParserGraph.{instance_number}
use Rattle.p414_sem.specs.Wholes.{wrapped, whole}
use Rattle.p414_sem.specs.Slots.{Slot, declared, slot_of, field_number}
use Rattle.p414_sem.specs.State.{State, Instance, instance_at, place_of, read as read14}
use Rattle.p414_sem.specs.Operations.{field}
use Rattle.p414_sem.specs.Parsing.{Latest, parser_value}
use Rattle.p416_syntax.specs.Tree.{Exp16, member}
use Rattle.p416_syntax.specs.Kinds.{Kind, bits, header, stack}
use Rattle.p416_syntax.specs.Scopes.{Scope, fields_in}
use Rattle.p416_syntax.specs.Calls.{Place, owner}
use Rattle.p416_syntax.specs.Expressions.{kind_of, known_kind, member_kind, field_kind_in}
use Rattle.v1_core.specs.declared.parser_error.ParserError.TheVariants.{StackOutOfBounds}
use Rattle.v1_core.specs.Values.{Header, a_number, a_header, a_stack, no_header, to_member, to_element, part_of}
use Rattle.v1_core.specs.Frames.{Frame, Moment, raised, read}
use Rattle.v1_core.specs.Surroundings.{World}
use Rattle.v1_core.specs.Expressions.{Valued, valued, value_of, member_value}
use Rattle.agreement_of_meanings.specs.Shown.{NamedField, Shown, as_stack, shown_header, fields_of, field_at, IsShown, instance_reference, slot_reference}
use Rattle.agreement_of_meanings.proofs.Written.{instance_part, slot_read}
use Rattle.lower_laws_base.specs.Gives.{Gives}

-- `last`, where the place of the stack is behind an element

pub not_first : (e : ℕ) → suc e == 0 ≡ false
not_first e = by (eqb_tells (suc e) 0) where
  by : ((eqb (suc e) 0 ≡ true) × (suc e ≡ 0)) ⊎ ((eqb (suc e) 0 ≡ false) × (suc e ≢ 0)) → suc e == 0 ≡ false
  by (inl is) = absurd (omega (arith, is.1))
  by (inr is) = is.0

last_value : (w : World) (s : Scope) (inst : Exp16) (type : Name) (size place e : ℕ) (els : List Header) (m : Moment) → kind_of s inst ≡ stack type size → ((q : Place) → value_of w s q inst m ≡ valued (a_stack place els) m) → place ≡ suc e → (q : Place) → value_of w s q (member inst (codes "last")) m ≡ valued (a_header (slice_index_or els e no_header)) m
last_value w s inst type size place e els m kind value is q =
    ap₂ (λ (k : Kind) (x : Valued). member_value k (codes "last") x) kind (value _)
    ∙ ap (λ j. valued (a_header (slice_index_or els (j - 1) no_header)) (cond (j == 0) (raised StackOutOfBounds m) m)) is
    ∙ ap (λ b. valued (a_header (slice_index_or els (suc e - 1) no_header)) (cond b (raised StackOutOfBounds m) m)) (not_first e)
    ∙ ap (λ j. valued (a_header (slice_index_or els j no_header)) m) (omega arith)

last_kind : (s : Scope) (inst : Exp16) (type : Name) (size : ℕ) → kind_of s inst ≡ stack type size → kind_of s (member inst (codes "last")) ≡ header type
last_kind s inst type size kind = ap (λ (k : Kind). known_kind (member_kind s.layouts k (codes "last"))) kind

field_of_last : (w : World) (s : Scope) (inst : Exp16) (type word : Name) (size place e : ℕ) (els : List Header) (m : Moment) → kind_of s inst ≡ stack type size → ((q : Place) → value_of w s q inst m ≡ valued (a_stack place els) m) → place ≡ suc e → (q : Place) → value_of w s q (member (member inst (codes "last")) word) m ≡ valued (part_of (a_header (slice_index_or els e no_header)) (to_member word)) m
field_of_last w s inst type word size place e els m kind value is q =
    ap₂ (λ (k : Kind) (x : Valued). member_value k word x) (last_kind s inst type size kind) (last_value w s inst type size place e els m kind value is owner)

module _ (c : Lowering) (ds : List Decl) (packet : Name) (state : Name → Name) (s : Scope) (parses : Parses c ds packet s) (o : Origin) (t : State) (n : Moment) (going : Going c o t n) where
  abbrev p : ParserWords
  p = parser_words c packet state

  looks : Looks c s [] [] [] now t n.frame
  looks = record {
    sees = parses.sees;
    inner = going.stands.inner;
    count = refl;
    given = λ j lt. absurd (omega (arith, lt, ap length parses.parameters));
    has = tt;
    seen = seen_now c [] [] o.aside (with_store t o.store) n going.stands;
  }

  halts_slot : (slot : Slot) → IsSlot c.layout slot → (width : ℕ) → Halts c.world s (source_exp (words_of c) now width (field slot)) (too_short n)
  halts_slot slot is width =
      halts_resized c.world s n (slot_exp (words_of c) now slot) (width_in (words_of c) slot) width (too_short n)
      (λ q. ap (λ (x : Valued). x.moment) ((means_slot c s [] parses.sees [] (too_short n) going.stands.inner now tt slot is).value q))

  pub yields_slot : (width : ℕ) (slot : Slot) → IsSlot c.layout slot → Yields c.world s n (source_exp (words_of c) now width (field slot)) width (Some (read14 t slot % 2 ^ width))
  yields_slot width slot is =
      yields_given c.world s n (source_exp (words_of c) now width (field slot)) width (read14 t slot % 2 ^ width) (mod_below (read14 t slot) (2 ^ width) (pow_pos width))
      (gives_source c s [] [] [] now t n looks width (field slot) is)
      (halts_slot slot is width)

  -- a field of the element before the place of a stack
  module _ (k e f : ℕ) (at : Name) (fields : List NamedField) (inside : k < length c.layout.names.instances) (shown : shown_in c k ≡ as_stack at fields) (is : IsSlot c.layout (declared k e f)) (behind : place_of t k ≡ suc e) where
    abbrev x : Shown
    x = as_stack at fields

    stack_has : IsSlot c.layout (declared k e f) → HasRoot c.layout (owner_of (shown_in c k))
    stack_has has = has.2

    abbrev i : Instance
    i = instance_at t k

    stands_there : IsShown n.frame x i
    stands_there = subst (λ (y : Shown). IsShown n.frame y i) shown (going.stands.both.packet.agrees.instances.each k inside)

    inst_means : (m : Moment) → m.frame ≡ n.frame → Means c.world s (instance_exp (words_of c) now x) (stack (c.type_of k) (c.layout.size_of k)) (instance_reference x) m
    inst_means m same =
        subst (λ (y : Shown). Means c.world s (instance_exp (words_of c) now y) (instance_kind y (c.type_of k) (c.layout.size_of k)) (instance_reference y) m) shown
        (means_instance c s [] parses.sees [] m (ap (λ (g : Frame). g.inner) same ∙ going.stands.inner) now tt k inside (stack_has is))

    inst_value : (m : Moment) → m.frame ≡ n.frame → (q : Place) → value_of c.world s q (instance_exp (words_of c) now x) m ≡ valued (a_stack i.place (map (shown_header fields) i.elements)) m
    inst_value m same q =
        (inst_means m same).value q ∙ ap (λ (g : Frame). valued (read g (instance_reference x)) m) same ∙ ap (λ v. valued v m) (instance_part n.frame x i stands_there)

    word : Name
    word = (field_at fields f).called

    last_read : part_of (a_header (slice_index_or (map (shown_header fields) i.elements) e no_header)) (to_member (field_at fields f).called) ≡ a_number (field_at fields f).width (read14 t (declared k e f))
    last_read =
        ap (λ v. part_of (part_of v (to_element e)) (to_member (field_at fields f).called)) (sym (instance_part n.frame x i stands_there))
        ∙ subst (λ (y : Shown). read n.frame (slot_reference (y ∷ []) (declared 0 e f)) ≡ a_number (field_at (fields_of y) f).width (read14 t (declared k e f))) shown
        (slot_read c.layout.names t n.frame (declared k e f) parses.sees.declares.differ going.stands.both.packet.agrees (has_slot c.layout t going.stands.shaped (declared k e f) is))

    last_gives : (m : Moment) → m.frame ≡ n.frame → (q : Place) → value_of c.world s q (member (member (instance_exp (words_of c) now x) (codes "last")) (field_at fields f).called) m ≡ valued (a_number (field_at fields f).width (read14 t (declared k e f))) m
    last_gives m same q =
        field_of_last c.world s (instance_exp (words_of c) now x) (c.type_of k) (field_at fields f).called (c.layout.size_of k) i.place e (map (shown_header fields) i.elements) m (inst_means m same).kind (inst_value m same) behind q
        ∙ ap (λ v. valued v m) last_read

    pub yields_last : (width : ℕ) → Yields c.world s n (resized (field_at fields f).width width (member (member (instance_exp (words_of c) now x) (codes "last")) (field_at fields f).called)) width (Some (read14 t (declared k e f) % 2 ^ width))
    yields_last width =
        let own = (field_at fields f).width in
        let exp = member (member (instance_exp (words_of c) now x) (codes "last")) (field_at fields f).called in
        let kind : kind_of s exp ≡ bits own = ap (λ (z : Kind). known_kind (member_kind s.layouts z (field_at fields f).called)) (last_kind s (instance_exp (words_of c) now x) (c.type_of k) (c.layout.size_of k) (inst_means n refl).kind)
        ∙ ap known_kind (subst (λ (y : Shown). field_kind_in (fields_in s.layouts (c.type_of k)) (field_at (fields_of y) f).called ≡ Some (bits (field_at (fields_of y) f).width)) shown (parses.sees.declares.field k f inside (stack_has is) is.3)) in
        let fits : read14 t (declared k e f) < 2 ^ own = subst (λ (y : Shown). read14 t (declared k e f) < 2 ^ (field_at (fields_of y) f).width) shown (slot_bounded c.layout t going.stands.shaped (declared k e f) is) in
        let gives : Gives c.world s n exp own (read14 t (declared k e f)) = record { kind = kind; value = last_gives n refl } in
        yields_given c.world s n (resized own width exp) width (read14 t (declared k e f) % 2 ^ width) (mod_below (read14 t (declared k e f)) (2 ^ width) (pow_pos width))
        (gives_resized c.world s n exp own width (read14 t (declared k e f)) fits gives)
        (halts_resized c.world s n exp own width (too_short n) (λ q. ap (λ (y : Valued). y.moment) (last_gives (too_short n) refl q)))

  -- what was extracted last
  latest_by : (called : Name) (ix : Option Index) (element : ℕ) (word : Name) (width : ℕ) → instance_number ds called < length c.layout.names.instances → IsIndex c (instance_number ds called) ix → field_number ds called word < length (fields_of (shown_in c (instance_number ds called))) → IsLatestElement c t (instance_number ds called) ix element → Yields c.world s n (resized (field_at (fields_of (shown_in c (instance_number ds called))) (field_number ds called word)).width width (member (indexed ds p (codes "last") (shown_in c (instance_number ds called)) ix) (field_at (fields_of (shown_in c (instance_number ds called))) (field_number ds called word)).called)) width (Some (read14 t (declared (instance_number ds called) element (field_number ds called word)) % 2 ^ width))
  latest_by called None element word width inside index has is =
      subst (λ e. Yields c.world s n (source_exp (words_of c) now width (field (declared (instance_number ds called) 0 (field_number ds called word)))) width (Some (read14 t (declared (instance_number ds called) e (field_number ds called word)) % 2 ^ width))) (sym is)
      (yields_slot width (declared (instance_number ds called) 0 (field_number ds called word)) (inside, index, owner_has c ds packet state s parses o t n going (shown_in c (instance_number ds called)), has))
  latest_by called (Some (At j)) element word width inside index has is =
      subst (λ e. Yields c.world s n (source_exp (words_of c) now width (field (declared (instance_number ds called) j.value (field_number ds called word)))) width (Some (read14 t (declared (instance_number ds called) e (field_number ds called word)) % 2 ^ width))) (sym is)
      (yields_slot width (declared (instance_number ds called) j.value (field_number ds called word)) (inside, index, owner_has c ds packet state s parses o t n going (shown_in c (instance_number ds called)), has))
  latest_by called (Some Last) element word width inside index has is = absurd index
  latest_by called (Some Next) element word width inside index has is =
      let k = instance_number ds called in
      let f = field_number ds called word in
      subst (λ (y : Shown). Yields c.world s n (resized (field_at (fields_of y) f).width width (member (member (instance_exp (words_of c) now y) (codes "last")) (field_at (fields_of y) f).called)) width (Some (read14 t (declared k element f) % 2 ^ width))) (sym index.2)
      (yields_last k element f index.0 index.1 inside index.2 (inside, is.1, owner_has c ds packet state s parses o t n going (shown_in c k), has) (is.0 ∙ omega arith) width)

  pub yields_value : (last : Option Inst) (latest : Option Latest) → IsLatest c ds t last latest → (width : ℕ) (v : PValue) → ValueFits c ds last v → Yields c.world s n (value_exp ds p last width v) width (option_map (wrapped width) (parser_value ds latest t v))
  yields_value last latest is width (pvalue.Current offset count) fits =
      yields_current c.world s ds p (packet_reads c ds packet s parses) t n going.stands.both.packet.unparsed going.stands.both.packet.runs offset.value count.value width
  yields_value last latest is width (pvalue.Field r) fits = yields_slot width (slot_of ds r) fits
  yields_value last latest is width (pvalue.Number z) fits =
      yields_given c.world s n _ width (wrapped width (whole z)) (wrap_below width (whole z)) (gives_literal c.world s n width (wrapped width (whole z)) (wrap_below width (whole z))) (λ q. refl)
  yields_value None latest is width (pvalue.Latest wanted) fits = absurd fits
  yields_value (Some i) None is width (pvalue.Latest wanted) fits = absurd is
  yields_value (Some i) (Some l) is width (pvalue.Latest wanted) fits =
      subst (λ (j : Inst). Yields c.world s n (value_exp ds p (Some i) width (pvalue.Latest wanted)) width (Some (read14 t (declared (instance_number ds j.name) l.element (field_number ds j.name wanted)) % 2 ^ width))) (sym is.0)
      (latest_by i.name i.index l.element wanted width fits.0.instance fits.0.index fits.1 is.1)
