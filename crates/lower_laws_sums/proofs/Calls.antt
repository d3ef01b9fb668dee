-- What a call that verifies or updates does, where its condition tells a truth value.
use Rattle.std.proofs.Common.{◌≡◌, Bool, true, false, cond, None, List, [], ◌∷◌, ◌++◌, refl, sym, ap, ◌∙◌}
use Rattle.std.specs.Prelude.{is_some}
use Rattle.p4x_bits.specs.BitLists.{octet_bits}
use Rattle.p414_syntax.specs.declared.syntax.Decl.{Decl}
use Rattle.p414_sem.specs.Slots.{Slot, standard, declared}
use Rattle.p414_sem.specs.State.{State, read as read14}
use Rattle.p414_sem.specs.Calculations.{Calculation, list_bits}
use Rattle.p416_syntax.specs.Tree.{Exp16, name, member, no_arguments, listed}
use Rattle.p416_syntax.specs.Names.{Name, has_name}
use Rattle.p416_syntax.specs.Kinds.{boolean, hash_algorithm}
use Rattle.p416_syntax.specs.BuiltIn.{functions}
use Rattle.p416_syntax.specs.Scopes.{Scope, Sort, sort_of}
use Rattle.p416_syntax.specs.Calls.{Place, value, owner, any_bits, written_bits, item_list, member_place, function_signature, checksum_places}
use Rattle.p416_syntax.specs.Expressions.{sort_kind, sort_signature}
use Rattle.p416_syntax.specs.Uses.{wanted_by}
use Rattle.v1_core.specs.Values.{Value, a_number, a_truth, a_symbol, some_bits}
use Rattle.v1_core.specs.Frames.{Moment, Reference, ticked, nowhere, read}
use Rattle.v1_core.specs.Surroundings.{World}
use Rattle.v1_core.specs.Expressions.{valued, member_value, value_of, reference_of}
use Rattle.v1_core.specs.Calls.{Given, Arguments, argument_at, arguments_from, arguments, by_value, by_reference, named_call, function_call, holds_at, bits_at, value_at, target_at, symbol_at}
use Rattle.v1_core.specs.Externs.Checksums.{with_payload, verify_checksum, update_checksum}
use Rattle.v1_core.specs.Statements.{no_label, run}
use Rattle.agreement_of_meanings.specs.Shown.{slot_reference}
use Rattle.lower_laws_base.specs.Context.{Lowering, words_of, instances_of, now, a_function, an_enumeration, enumeration_name, IsSlot, Looks}
use Rattle.lower_laws_base.specs.Mirror.{width_in, slot_exp}
use Rattle.lower_laws_base.proofs.Means.{means_slot}
use Rattle.lower_laws_base.proofs.Sources.{gives_slot}
use Rattle.lower_laws_sums.specs.Sums.{items_exp, has_payload, call_word, sum_arguments, sum_stmt, ItemsFit}
use Rattle.lower_laws_sums.proofs.Items.{plain_bits, gives_items, list_is}
use Rattle.lower_laws_sums.proofs.Chain.{Asks}

is_function : (updates payload : Bool) → has_name functions (call_word updates payload) ≡ true
is_function false false = refl
is_function false true = refl
is_function true false = refl
is_function true true = refl

abbrev field_place : Bool → Place
field_place true = written_bits
field_place false = any_bits

signature_is : (updates payload : Bool) → wanted_by (function_signature (call_word updates payload)) ≡ checksum_places (field_place updates)
signature_is false false = refl
signature_is false true = refl
signature_is true false = refl
signature_is true true = refl

-- what the call does once its arguments are known
abbrev pub sum_done : Bool → Bool → List Bool → Value → Reference → Name → Moment → Moment
sum_done true b list v to algorithm m = update_checksum b list to algorithm m
sum_done false b list v to algorithm m = verify_checksum b list v algorithm m

abbrev with_list : Bool → List Bool → Moment → List Bool
with_list true l m = with_payload m l
with_list false l m = l

function_is : (updates payload : Bool) (given : List Given) (m : Moment) → function_call (call_word updates payload) given m ≡ sum_done updates (holds_at given 0) (with_list payload (bits_at given 1) m) (value_at given 2) (target_at given 2) (symbol_at given 3) m
function_is false false given m = refl
function_is false true given m = refl
function_is true false given m = refl
function_is true true given m = refl

-- one argument more
given_more : (w : World) (s : Scope) (p : Place) (places : List Place) (e : Exp16) (es : List Exp16) (m : Moment) (a : Given) (as_they : List Given) → argument_at w s p e m ≡ (a, m) → arguments_from w s places es m ≡ record { given = as_they; moment = m } → arguments_from w s (p ∷ places) (e ∷ es) m ≡ record { given = a ∷ as_they; moment = m }
given_more w s p places e es m a as_they one rest =
    ap (λ (first : Given × Moment). let more = arguments_from w s places es first.1 in (λ (x : Arguments). x) (record { given = first.0 ∷ more.given; moment = more.moment })) one
    ∙ ap (λ (more : Arguments). (λ (x : Arguments). x) (record { given = a ∷ more.given; moment = more.moment })) rest

four : (w : World) (s : Scope) (p1 p2 p3 p4 : Place) (e1 e2 e3 e4 : Exp16) (m : Moment) (a1 a2 a3 a4 : Given) → argument_at w s p1 e1 m ≡ (a1, m) → argument_at w s p2 e2 m ≡ (a2, m) → argument_at w s p3 e3 m ≡ (a3, m) → argument_at w s p4 e4 m ≡ (a4, m) → arguments_from w s (p1 ∷ p2 ∷ p3 ∷ p4 ∷ []) (e1 ∷ e2 ∷ e3 ∷ e4 ∷ []) m ≡ record { given = a1 ∷ a2 ∷ a3 ∷ a4 ∷ []; moment = m }
four w s p1 p2 p3 p4 e1 e2 e3 e4 m a1 a2 a3 a4 one two three last =
    given_more w s p1 (p2 ∷ p3 ∷ p4 ∷ []) e1 (e2 ∷ e3 ∷ e4 ∷ []) m a1 (a2 ∷ a3 ∷ a4 ∷ []) one
    (given_more w s p2 (p3 ∷ p4 ∷ []) e2 (e3 ∷ e4 ∷ []) m a2 (a3 ∷ a4 ∷ []) two
    (given_more w s p3 (p4 ∷ []) e3 (e4 ∷ []) m a3 (a4 ∷ []) three
    (given_more w s p4 [] e4 [] m a4 [] last refl)))

abbrev by_itself : Value → Given
by_itself v = record { target = nowhere; value = v }

module _ (c : Lowering) (s : Scope) (r : State) (n : Moment) (looks : Looks c s [] [] [] now r n.frame) (ds : List Decl) where
  abbrev field_given : Bool → Slot → Given
  field_given true slot = record { target = slot_reference (instances_of c) slot; value = read n.frame (slot_reference (instances_of c) slot) }
  field_given false slot = record { target = nowhere; value = a_number (width_in (words_of c) slot) (read14 r slot) }

  -- the field, by its value or as it is meant
  field_is : (updates : Bool) (slot : Slot) → IsSlot c.layout slot → argument_at c.world s (field_place updates) (slot_exp (words_of c) now slot) n ≡ (field_given updates slot, n)
  field_is false slot is = plainly slot ∙ ap by_value ((gives_slot c s [] [] [] now r n looks slot is).value any_bits) where
    plainly : (slot : Slot) → argument_at c.world s any_bits (slot_exp (words_of c) now slot) n ≡ by_value (value_of c.world s any_bits (slot_exp (words_of c) now slot) n)
    plainly (standard which) = refl
    plainly (declared i e k) = refl
  field_is true slot is = plainly slot ∙ ap by_reference (means_slot c s [] looks.sees [] n looks.inner now tt slot is).reference where
    plainly : (slot : Slot) → argument_at c.world s written_bits (slot_exp (words_of c) now slot) n ≡ by_reference (reference_of c.world.around s (slot_exp (words_of c) now slot) n)
    plainly (standard which) = refl
    plainly (declared i e k) = refl

  algorithm_is : (word : Name) → argument_at c.world s (member_place hash_algorithm) (member (name (enumeration_name hash_algorithm)) word) n ≡ by_value (valued (a_symbol word) n)
  algorithm_is word = ap (λ (z : Sort). by_value (member_value (sort_kind z) word (value_of c.world s owner (name (enumeration_name hash_algorithm)) n))) (looks.sees.declares.named (an_enumeration hash_algorithm) tt)

  call_is : (updates : Bool) (slot : Slot) (e : Exp16) (b : Bool) (k : Calculation) → n.unparsed ≡ r.unparsed → IsSlot c.layout slot → Asks c.world s e b n → ItemsFit c.layout ds k.items → named_call c.world s (sort_of s (call_word updates (has_payload k.items))) (call_word updates (has_payload k.items)) (sum_arguments (words_of c) ds slot e k) n ≡ sum_done updates b (list_bits ds r k.items) (field_given updates slot).value (field_given updates slot).target k.algorithm n
  call_is updates slot e b k same is asks fit =
      let text = call_word updates (has_payload k.items) in
      let given = sum_arguments (words_of c) ds slot e k in
      let sort = looks.sees.declares.named (a_function text) (is_function updates (has_payload k.items)) in
      let plain = plain_bits c s r n looks ds k.items in
      let list = gives_items c s r n looks ds no_arguments [] k.items refl fit in
      ap (λ (z : Sort). named_call c.world s z text given n) sort
      ∙ ap (λ (z : Sort). let x = arguments c.world s (wanted_by (sort_signature z text)) given n in function_call text x.given x.moment) sort
      ∙ ap (λ places. let x = arguments c.world s places given n in function_call text x.given x.moment) (signature_is updates (has_payload k.items))
      ∙ ap (λ (x : Arguments). function_call text x.given x.moment)
      (four c.world s (value boolean) item_list (field_place updates) (member_place hash_algorithm) e (listed (items_exp (words_of c) ds no_arguments k.items)) (slot_exp (words_of c) now slot) (member (name (enumeration_name hash_algorithm)) k.algorithm) n
      (by_itself (a_truth b)) (by_itself (some_bits plain)) (field_given updates slot) (by_itself (a_symbol k.algorithm))
      (asks.plainly ∙ ap by_value (asks.shows.value (value boolean))) (ap by_value list) (field_is updates slot is) (algorithm_is k.algorithm))
      ∙ function_is updates (has_payload k.items) (by_itself (a_truth b) ∷ by_itself (some_bits plain) ∷ field_given updates slot ∷ by_itself (a_symbol k.algorithm) ∷ []) n
      ∙ ap (λ l. sum_done updates b l (field_given updates slot).value (field_given updates slot).target k.algorithm n) (whole (has_payload k.items) plain ∙ sym (list_is c s r n looks ds k.items fit))
    where
      whole : (p : Bool) (l : List Bool) → with_list p l n ≡ cond p (l ++ octet_bits r.unparsed) l
      whole true l = ap (λ os. l ++ octet_bits os) same
      whole false l = refl

-- the statement
pub sum_runs : (c : Lowering) (s : Scope) (r : State) (n : Moment) (looks : Looks c s [] [] [] now r n.frame) (ds : List Decl) (updates : Bool) (slot : Slot) (e : Exp16) (b : Bool) (k : Calculation) → n.stopped ≡ None → n.unparsed ≡ r.unparsed → IsSlot c.layout slot → Asks c.world s e b (ticked n) → ItemsFit c.layout ds k.items → run c.world s no_label (sum_stmt (words_of c) ds updates slot e k) n ≡ sum_done updates b (list_bits ds r k.items) (field_given c s r (ticked n) looks ds updates slot).value (field_given c s r (ticked n) looks ds updates slot).target k.algorithm (ticked n)
sum_runs c s r n looks ds updates slot e b k runs same is asks fit =
    let text = call_word updates (has_payload k.items) in
    ap (λ t. cond t n (named_call c.world s (sort_of s text) text (sum_arguments (words_of c) ds slot e k) (ticked n))) (ap is_some runs)
    ∙ call_is c s r (ticked n) looks ds updates slot e b k same is asks fit
