-- Assignments and branches, and the fields that are written.
use Rattle.std.proofs.Common.{◌≡◌, ◌≢◌, ℕ, ◌<◌, ◌-◌, ◌%◌, ◌^◌, Bool, true, false, cond, None, List, [], ◌∷◌, length, refl, sym, ap, ap₂, ◌∙◌, subst, arith}
use Rattle.std.proofs.Math.Nat.{mod-eq_of_lt}
use Rattle.std.proofs.lemmas.Nat.{mod_below, pow_pos}
use Rattle.std.specs.Prelude.{is_some, codes}
use Rattle.std.specs.Str.{bytes_eq}
use Rattle.std.proofs.lemmas.Slice.Eq.{bytes_eq-Decides}
use Rattle.p414_sem.specs.declared.standard.Standard.{Standard}
use Rattle.p414_sem.specs.declared.standard.Standard.TheVariants.{IngressPort, EgressSpec, EgressPort, PacketLength, InstanceType}
use Rattle.p414_sem.specs.Slots.{Slot, standard, declared, Element}
use Rattle.p414_sem.specs.State.{State, instance_at, is_valid, is_live, header_at, header_of, with_header, with_field, written}
use Rattle.p414_sem.specs.Effects.{Moment as Moment14, put_field, all_fallen}
use Rattle.p416_syntax.specs.Tree.{Exp16, Stmt16, assign, if_then}
use Rattle.p416_syntax.specs.Names.{Name}
use Rattle.p416_syntax.specs.Kinds.{Kind, bits, header, boolean}
use Rattle.p416_syntax.specs.Scopes.{Scope}
use Rattle.p416_syntax.specs.Calls.{owner, method_signature}
use Rattle.p416_syntax.specs.Expressions.{kind_of, call_kind}
use Rattle.p416_syntax.specs.Statements.{assigned_place}
use Rattle.v1_core.specs.Values.{Value, a_number, a_truth, a_header, number_in, is_true, header_in, to_member, to_element}
use Rattle.v1_core.specs.Frames.{Frame, Moment, Reference, ticked, going_on, put_at, write, read, closed, with_inner, variable_count, without}
use Rattle.v1_core.specs.Surroundings.{World}
use Rattle.v1_core.specs.Expressions.{Valued, valued, value_of, method_value, Referred}
use Rattle.v1_core.specs.Statements.{assigned, condition, no_label, run}
use Rattle.agreement_of_meanings.specs.Shown.{Shown, as_header, as_stack, as_metadata, is_metadata, fields_of, field_at, owner_of, shown_at, shown_header, slot_reference, field_reference, element_reference, standard_word}
use Rattle.agreement_of_meanings.proofs.Written.{slot_put}
use Rattle.agreement_of_meanings.proofs.Extracted.{element_read}
use Rattle.lower_laws_base.specs.Context.{Local, inner_of, StateLayout, HasRoot, shown_in, Lowering, words_of, instances_of, At, now, at_place, element_kind, Aside, Stands, Looks, Sees, IsHeaderPart, IsSlot}
use Rattle.lower_laws_base.specs.Mirror.{part_exp, slot_exp, width_in, valid_exp}
use Rattle.lower_laws_base.proofs.Locals.{inner_count}
use Rattle.lower_laws_base.proofs.Means.{Means, means_slot, means_part, seen_read}
use Rattle.lower_laws_base.proofs.Shapes.{shaped_written, has_slot}
use Rattle.lower_laws_base.proofs.States.{Leaves, leaves_headers, leaves_metadata, leaves_standard, stands_moved, stands_ticked, stands_at}
use Rattle.lower_laws_base.specs.Gives.{Gives, Shows}

-- as a moment is, but for the count of work
abbrev pub worked : Moment → ℕ → Moment
worked n j = record n { work = j }

-- where nothing stopped, an assignment writes the value to what its target means
pub assigns : (w : World) (s : Scope) (target e : Exp16) (k : Kind) (r : Reference) (v : Value) (n : Moment) → n.stopped ≡ None → Means w s target k r (ticked n) → ((p : _) → value_of w s p e (ticked n) ≡ valued v (ticked n)) → run w s no_label (assign target e) n ≡ put_at r v (ticked n)
assigns w s target e k r v n runs m value =
    ap (λ b. cond b n (assigned w s target e (ticked n))) (ap is_some runs)
    ∙ ap (λ (x : Referred). let y = value_of w s (assigned_place (kind_of s target)) e x.moment in going_on (put_at x.reference y.value) y.moment) m.reference
    ∙ ap (λ (y : Valued). going_on (put_at r y.value) y.moment) (value _)
    ∙ ap (λ b. cond b (ticked n) (put_at r v (ticked n))) (ap is_some runs)

-- blocks and branches that declare nothing

nothing_closed : (k : ℕ) → k - k ≡ 0
nothing_closed k = omega arith

pub closed_same : (ls : List Local) (vs us : List Value) (m n : Moment) → m.frame.inner ≡ inner_of ls vs → n.frame.inner ≡ inner_of ls us → length vs ≡ length ls → length us ≡ length ls → closed m n ≡ n
closed_same ls vs us m n before after a b =
    ap (λ k. with_inner (without k n.frame.inner) n)
    (ap₂ (λ i j. i - j) (ap variable_count after ∙ inner_count ls us b) (ap variable_count before ∙ inner_count ls vs a) ∙ nothing_closed (length ls))

-- `if` over a truth value
pub branches : (c : Lowering) (s : Scope) (ls : List Local) (vs : List Value) (k : Aside) (m p : Moment14) (n : Moment) → Stands c.layout ls vs k m n → (e : Exp16) (b : Bool) (x : Stmt16) → Shows c.world s (ticked n) e boolean (a_truth b) → Stands c.layout ls vs k p (run c.world s no_label x (ticked n)) → run c.world s no_label (if_then e x) n ≡ cond b (run c.world s no_label x (ticked n)) (ticked n)
branches c s ls vs k m p n stands e b x g done =
    ap (λ t. cond t n (let y = condition c.world s e (ticked n) in cond (is_true y.value) (closed n (run c.world s no_label x y.moment)) y.moment)) (ap is_some stands.both.packet.runs)
    ∙ ap (λ (y : Valued). cond (is_true y.value) (closed n (run c.world s no_label x y.moment)) y.moment) (g.value _)
    ∙ ap (λ y. cond b y (ticked n)) (closed_same ls vs vs n (run c.world s no_label x (ticked n)) stands.inner done.inner stands.count done.count)

-- slots

differ : (a b : Name) → bytes_eq a b ≡ false → a ≢ b
differ a b apart same = absurd (cc ((bytes_eq-Decides a b).1 same, apart))

pub apart_error : (which : Standard) → standard_word which ≢ codes "parser_error"
apart_error IngressPort = differ _ _ refl
apart_error EgressSpec = differ _ _ refl
apart_error EgressPort = differ _ _ refl
apart_error PacketLength = differ _ _ refl
apart_error InstanceType = differ _ _ refl

pub apart_checksum : (which : Standard) → standard_word which ≢ codes "checksum_error"
apart_checksum IngressPort = differ _ _ refl
apart_checksum EgressSpec = differ _ _ refl
apart_checksum EgressPort = differ _ _ refl
apart_checksum PacketLength = differ _ _ refl
apart_checksum InstanceType = differ _ _ refl

pub leaves_slot : (xs : List Shown) (slot : Slot) (v : Value) (f : Frame) → Leaves f (write (slot_reference xs slot) v f)
leaves_slot xs (standard which) v f = leaves_standard f (standard_word which) [] v (apart_error which) (apart_checksum which)
leaves_slot xs (declared i e k) v f = by (shown_at xs i) where
  by : (x : Shown) → Leaves f (write (field_reference x e k) v f)
  by (as_header called fields) = leaves_headers f called (to_member (field_at fields k).called ∷ []) v
  by (as_stack called fields) = leaves_headers f called (to_element e ∷ to_member (field_at fields k).called ∷ []) v
  by (as_metadata called fields) = leaves_metadata f called (to_member (field_at fields k).called ∷ []) v

unparsed_kept : (s : State) (slot : Slot) (n : ℕ) → (written s slot n).unparsed ≡ s.unparsed
unparsed_kept s (standard IngressPort) n = refl
unparsed_kept s (standard EgressSpec) n = refl
unparsed_kept s (standard EgressPort) n = refl
unparsed_kept s (standard PacketLength) n = refl
unparsed_kept s (standard InstanceType) n = refl
unparsed_kept s (declared i e k) n = by (is_valid s i e) where
  by : (valid : Bool) → (cond valid (with_header s i e (with_field (header_at s i e) k n)) s).unparsed ≡ s.unparsed
  by true = refl
  by false = refl

events_kept : (s : State) (slot : Slot) (n : ℕ) → (written s slot n).events ≡ s.events
events_kept s (standard IngressPort) n = refl
events_kept s (standard EgressSpec) n = refl
events_kept s (standard EgressPort) n = refl
events_kept s (standard PacketLength) n = refl
events_kept s (standard InstanceType) n = refl
events_kept s (declared i e k) n = by (is_valid s i e) where
  by : (valid : Bool) → (cond valid (with_header s i e (with_field (header_at s i e) k n)) s).events ≡ s.events
  by true = refl
  by false = refl

abbrev pub field_put : Moment14 → Slot → ℕ → Moment14
field_put m slot k = record { state = written m.state slot k; store = m.store }

-- a number that goes to a field of an invalid header is lost
pub write_falls : (m : Moment14) (slot : Slot) (k : ℕ) → all_fallen m (cond (is_live m.state slot) (put_field slot k ∷ []) []) ≡ field_put m slot k
write_falls m (standard which) k = refl
write_falls m (declared i e f) k = by (is_valid m.state i e) refl where
  by : (valid : Bool) → is_valid m.state i e ≡ valid → all_fallen m (cond (is_valid m.state i e) (put_field (declared i e f) k ∷ []) []) ≡ field_put m (declared i e f) k
  by true is = ap (λ b. all_fallen m (cond b (put_field (declared i e f) k ∷ []) [])) is
  by false is =
      ap (λ b. all_fallen m (cond b (put_field (declared i e f) k ∷ []) [])) is
      ∙ ap (λ (b : Bool). let x : Moment14 = record { state = cond b (with_header m.state i e (with_field (header_at m.state i e) f k)) m.state; store = m.store } in x) (sym is)

pub falls_by : (m : Moment14) (slot : Slot) (k : ℕ) (live : Bool) → all_fallen m (cond live (put_field slot k ∷ []) []) ≡ cond live (field_put m slot k) m
falls_by m slot k true = refl
falls_by m slot k false = refl

module _ (c : Lowering) (s : Scope) (ls : List Local) (sees : Sees c s ls) (vs : List Value) (k : Aside) (m : Moment14) (n : Moment) (stands : Stands c.layout ls vs k m n) where
  -- any value, written to a slot
  pub value_written : (slot : Slot) (v : Value) → IsSlot c.layout slot → Stands c.layout ls vs k (field_put m slot (number_in v % 2 ^ width_in (words_of c) slot)) (put_at (slot_reference (instances_of c) slot) v n)
  value_written slot v is =
      let j = number_in v % 2 ^ width_in (words_of c) slot in
      stands_moved c.layout ls vs k m n stands (written m.state slot j) (write (slot_reference (instances_of c) slot) v n.frame) (leaves_slot (instances_of c) slot v n.frame)
      (slot_put c.layout.names m.state n.frame slot v sees.declares.differ stands.both.packet.agrees (has_slot c.layout m.state stands.shaped slot is))
      (shaped_written c.layout m.state stands.shaped slot j is (mod_below (number_in v) (2 ^ width_in (words_of c) slot) (pow_pos (width_in (words_of c) slot))))
      (unparsed_kept m.state slot j) (events_kept m.state slot j)

  -- a number that fits
  pub slot_written : (slot : Slot) (j width : ℕ) → IsSlot c.layout slot → j < 2 ^ width_in (words_of c) slot → Stands c.layout ls vs k (field_put m slot j) (put_at (slot_reference (instances_of c) slot) (a_number width j) n)
  slot_written slot j width is fits =
      subst (λ i. Stands c.layout ls vs k (field_put m slot i) (put_at (slot_reference (instances_of c) slot) (a_number width j) n)) (mod-eq_of_lt fits)
      (value_written slot (a_number width j) is)

module _ (c : Lowering) (s : Scope) (ls : List Local) (sees : Sees c s ls) (vs : List Value) (k : Aside) (m : Moment14) (n : Moment) (stands : Stands c.layout ls vs k m n) where
  -- what an assignment to a slot leaves
  pub slot_assigned : (slot : Slot) (width j : ℕ) (e : Exp16) → IsSlot c.layout slot → Gives c.world s (ticked n) e width j → run c.world s no_label (assign (slot_exp (words_of c) now slot) e) n ≡ put_at (slot_reference (instances_of c) slot) (a_number width j) (ticked n)
  slot_assigned slot width j e is gives =
      assigns c.world s (slot_exp (words_of c) now slot) e (bits (width_in (words_of c) slot)) (slot_reference (instances_of c) slot) (a_number width j) n stands.both.packet.runs
      (means_slot c s ls sees vs (ticked n) stands.inner now tt slot is) gives.value

  -- an assignment of a number that fits to a slot
  pub assigned_stands : (slot : Slot) (width j : ℕ) (e : Exp16) → IsSlot c.layout slot → width ≡ width_in (words_of c) slot → j < 2 ^ width → Gives c.world s (ticked n) e width j → Stands c.layout ls vs k (field_put m slot j) (run c.world s no_label (assign (slot_exp (words_of c) now slot) e) n)
  assigned_stands slot width j e is same fits gives =
      stands_at c.layout ls vs k _ _ _ _ refl (slot_assigned slot width j e is gives)
      (slot_written c s ls sees vs k m (ticked n) (stands_ticked c.layout ls vs k m n stands) slot j width is (subst (λ z. j < 2 ^ z) same fits))

-- validity

pub shows_valid : (w : World) (s : Scope) (e : Exp16) (type : Name) (r : Reference) (n : Moment) (b : Bool) → Means w s e (header type) r n → (header_in (read n.frame r)).valid ≡ b → Shows w s n (valid_exp e) boolean (a_truth b)
shows_valid w s e type r n b m is = record {
  kind = ap (λ (k : Kind). call_kind (method_signature k (codes "isValid"))) m.kind;
  value = λ p.
      ap (λ (k : Kind). method_value w k e (value_of w s owner e n)) m.kind
      ∙ ap (λ (x : Valued). valued (a_truth (header_in x.value).valid) x.moment) (m.value _)
      ∙ ap (λ t. valued (a_truth t) n) is;
}

pub kind_is : (x : Shown) (type : Name) → is_metadata x ≡ false → element_kind x type ≡ header type
kind_is (as_header called fields) type is = refl
kind_is (as_stack called fields) type is = refl
kind_is (as_metadata called fields) type is = absurd (cc is)

pub part_has : (g : StateLayout) (x : Shown) (e : ℕ) → HasRoot g (owner_of x) → HasRoot g (element_reference x e).owner
part_has g (as_header called fields) e has = has
part_has g (as_stack called fields) e has = has
part_has g (as_metadata called fields) e has = has

module _ (c : Lowering) (s : Scope) (ls : List Local) (vs : List Value) (arguments : List ℕ) (at : At) (r : State) (n : Moment) (looks : Looks c s ls vs arguments at r n.frame) (part : Element) (is : IsHeaderPart c.layout part) where
  abbrev x : Shown
  x = shown_in c part.instance

  -- a header where operands are read
  pub header_seen : read n.frame (at_place (words_of c) at (element_reference x part.element)) ≡ a_header (shown_header (fields_of x) (header_of r part))
  header_seen =
      let shaped = looks.seen.shaped in
      seen_read c at r n.frame looks.seen (element_reference x part.element) (part_has c.layout x part.element is.0.2)
      ∙ element_read looks.seen.frame x (instance_at r part.instance) part.element (looks.seen.agrees.instances.each part.instance is.0.0) is.1
      (subst (λ z. part.element < z) (sym (shaped.sizes part.instance is.0.0)) is.0.1) (shaped.each part.instance part.element is.0.0 is.0.1).which

  pub means_header : Means c.world s (part_exp (words_of c) at part) (header (c.type_of part.instance)) (at_place (words_of c) at (element_reference x part.element)) n
  means_header =
      subst (λ (z : Kind). Means c.world s (part_exp (words_of c) at part) z (at_place (words_of c) at (element_reference x part.element)) n) (kind_is x (c.type_of part.instance) is.1)
      (means_part c s ls looks.sees vs n looks.inner at looks.has part is.0)

  pub header_shows : Shows c.world s n (valid_exp (part_exp (words_of c) at part)) boolean (a_truth (header_of r part).valid)
  header_shows =
      shows_valid c.world s (part_exp (words_of c) at part) (c.type_of part.instance) (at_place (words_of c) at (element_reference x part.element)) n (header_of r part).valid means_header
      (ap (λ (v : Value). (header_in v).valid) header_seen)
