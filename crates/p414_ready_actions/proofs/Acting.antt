-- The rows of an action do what the action does.
use Rattle.std.proofs.Common.{◌≡◌, ℕ, ◌==◌, Bool, true, false, cond, ◌&&◌, List, [], ◌∷◌, length, map, pos, negsuc, refl, sym, ap, ap₂, ◌∙◌}
use Rattle.std.specs.Prelude.{codes}
use Rattle.std.specs.Str.{bytes_eq}
use Rattle.p414_syntax.specs.declared.syntax.Decl.{Decl}
use Rattle.p414_syntax.specs.declared.syntax.Rule14.{Rule14}
use Rattle.p414_syntax.specs.declared.syntax.Rule14.TheVariants.{Sequential, Parallel}
use Rattle.p414_syntax.specs.Primitives.{hash}
use Rattle.p414_syntax.specs.Arguments.{Invocation}
use Rattle.p414_sem.specs.Slots.{Slot, standard, declared, Target}
use Rattle.p414_sem.specs.State.{State, is_live}
use Rattle.p414_sem.specs.Wholes.{kept}
use Rattle.p414_sem.specs.Expanded.{Expanded, primitives_at}
use Rattle.p414_sem.specs.Calculations.{result_of}
use Rattle.p414_sem.specs.Operations.{Source, number, field, parameter, Term, just, on_mask, sum, difference, conjunction, disjunction, exclusive, left_shift, right_shift, cell, hashed, Primitive, write, add_header, remove_header, copy_header, push, pop, count_cell, write_cell, execute_meter, ask, nothing, argument_at, name_in_argument, source, target, calculation, writes, primitive_of}
use Rattle.p414_sem.specs.Effects.{Moment, Effect, put_field, effects, natural_of, offset_of, all_fallen, term_number, in_sequence, in_parallel, acted}
use Rattle.p414_slots.specs.Shown.{slot_in, kept_slot}
use Rattle.p414_ready_actions.specs.declared.rows.ReadyPrimitive.{ReadyPrimitive}
use Rattle.p414_ready_actions.specs.declared.words.PrimitiveWord.{PrimitiveWord}
use Rattle.p414_ready_actions.specs.declared.words.PrimitiveWord.TheVariants as word
use Rattle.p414_ready_actions.specs.Rows.{kept_source, kept_term, kept_primitive}
use Rattle.p414_ready_actions.specs.Running.{shown_source, shown_term, row_effects, rows_in_sequence, rows_in_parallel, rows_acted}
use Rattle.p414_ready_actions.specs.Words.{called_with, calculation_number, plain_by, row_by, row_of, word_of}
use Rattle.p414_ready_actions.specs.Meaning.{AreRows, AreSums, Means}

-- what is kept is what it was

slot_back : (slot : Slot) → slot_in (kept_slot slot) ≡ slot
slot_back (standard which) = refl
slot_back (declared i e f) = refl

source_back : (s : Source) → shown_source (kept_source s) ≡ s
source_back (number (pos n)) = refl
source_back (number (negsuc n)) = refl
source_back (field slot) = ap field (slot_back slot)
source_back (parameter n) = refl

-- a term that is no hash
abbrev no_hash : Term → Bool
no_hash (hashed base calculation bound) = false
no_hash _ = true

abbrev has_no_hash : Primitive → Bool
has_no_hash (write sums target term) = no_hash term
has_no_hash _ = true

term_back : (t : Term) → no_hash t ≡ true → shown_term (kept_term t) ≡ t
term_back (just a) e = ap just (source_back a)
term_back (on_mask a b) e = ap₂ on_mask (source_back a) (source_back b)
term_back (sum a b) e = ap₂ sum (source_back a) (source_back b)
term_back (difference a b) e = ap₂ difference (source_back a) (source_back b)
term_back (conjunction a b) e = ap₂ conjunction (source_back a) (source_back b)
term_back (disjunction a b) e = ap₂ disjunction (source_back a) (source_back b)
term_back (exclusive a b) e = ap₂ exclusive (source_back a) (source_back b)
term_back (left_shift a b) e = ap₂ left_shift (source_back a) (source_back b)
term_back (right_shift a b) e = ap₂ right_shift (source_back a) (source_back b)
term_back (cell object a) e = ap (cell object) (source_back a)
term_back (hashed a calculation b) e = absurd (cc e)

-- its number doesn't depend on the program
same_number : (ds : List Decl) (arguments : List ℕ) (r : Moment) (slot : Slot) (t : Term) → no_hash t ≡ true → term_number [] arguments r slot t ≡ term_number ds arguments r slot t
same_number ds arguments r slot (just a) e = refl
same_number ds arguments r slot (on_mask a b) e = refl
same_number ds arguments r slot (sum a b) e = refl
same_number ds arguments r slot (difference a b) e = refl
same_number ds arguments r slot (conjunction a b) e = refl
same_number ds arguments r slot (disjunction a b) e = refl
same_number ds arguments r slot (exclusive a b) e = refl
same_number ds arguments r slot (left_shift a b) e = refl
same_number ds arguments r slot (right_shift a b) e = refl
same_number ds arguments r slot (cell object a) e = refl
same_number ds arguments r slot (hashed a calculation b) e = absurd (cc e)

-- effects

abbrev write_at : List Decl → List ℕ → Moment → Bool → ℕ → Term → Slot → List Effect
write_at ds arguments r saturates width t slot =
    cond (is_live r.state slot) (put_field slot (kept saturates width (term_number ds arguments r slot t)) ∷ []) []

write_same : (ds : List Decl) (arguments : List ℕ) (r : Moment) (saturates : Bool) (width : ℕ) (slot : Slot) (t : Term) → no_hash t ≡ true → write_at [] arguments r saturates width (shown_term (kept_term t)) (slot_in (kept_slot slot)) ≡ write_at ds arguments r saturates width t slot
write_same ds arguments r saturates width slot t e =
    ap (write_at [] arguments r saturates width (shown_term (kept_term t))) (slot_back slot)
    ∙ (ap (λ (u : Term). write_at [] arguments r saturates width u slot) (term_back t e)
    ∙ ap (λ z. cond (is_live r.state slot) (put_field slot (kept saturates width z) ∷ []) []) (same_number ds arguments r slot t e))

-- what a primitive does is what is kept of it does
plain_same : (ds : List Decl) (sums : ℕ → State → ℕ) (arguments : List ℕ) (r : Moment) (p : Primitive) → has_no_hash p ≡ true → row_effects sums arguments r (kept_primitive p) ≡ effects ds arguments r p
plain_same ds sums arguments r (write s t term) e = write_same ds arguments r (s && t.saturating) t.width t.slot term e
plain_same ds sums arguments r (add_header h) e = refl
plain_same ds sums arguments r (remove_header h) e = refl
plain_same ds sums arguments r (copy_header h from) e = refl
plain_same ds sums arguments r (push stack count) e = refl
plain_same ds sums arguments r (pop stack count) e = refl
plain_same ds sums arguments r (count_cell object index) e = ap (λ (a : Source). effects [] arguments r (count_cell object a)) (source_back index)
plain_same ds sums arguments r (write_cell object index value) e =
    ap₂ (λ (a b : Source). effects [] arguments r (write_cell object a b)) (source_back index) (source_back value)
plain_same ds sums arguments r (execute_meter object index t) e =
    ap₂ (λ (a : Source) (slot : Slot). effects [] arguments r (execute_meter object a (record { slot = slot; width = t.width; saturating = t.saturating })))
    (source_back index) (slot_back t.slot)
plain_same ds sums arguments r (ask kind session list) e = ap (λ (a : Source). effects [] arguments r (ask kind a list)) (source_back session)
plain_same ds sums arguments r nothing e = refl

-- a hash

abbrev hash_at : List ℕ → Moment → Target → Slot → Source → ℕ → Source → List Effect
hash_at arguments r t slot base result bound =
    cond (is_live r.state slot)
    (put_field slot (kept (false && t.saturating) t.width (pos (offset_of (natural_of arguments r.state base) result (natural_of arguments r.state bound)))) ∷ [])
    []

hash_same : (arguments : List ℕ) (r : Moment) (t : Target) (base bound : Source) (result due : ℕ) → result ≡ due → hash_at arguments r t (slot_in (kept_slot t.slot)) (shown_source (kept_source base)) result (shown_source (kept_source bound)) ≡ hash_at arguments r t t.slot base due bound
hash_same arguments r t base bound result due e =
    ap (λ (slot : Slot). hash_at arguments r t slot (shown_source (kept_source base)) result (shown_source (kept_source bound))) (slot_back t.slot)
    ∙ (ap₂ (λ (a b : Source). hash_at arguments r t t.slot a result b) (source_back base) (source_back bound)
    ∙ ap (λ n. hash_at arguments r t t.slot base n bound) e)

-- calls by the word of what is called

abbrev primitive_by : List Decl → Expanded → Invocation → PrimitiveWord → Primitive
primitive_by ds x i word.Hash = write false (target ds i 0) (hashed (source ds i 1) (calculation ds x i 2) (source ds i 3))
primitive_by ds x i other = plain_by ds i other

by_if : {X Y : Type 0} (b : Bool) (f : X → Y) {p q : Y} {u v : X} → p ≡ f u → q ≡ f v → cond b p q ≡ f (cond b u v)
by_if true f e g = e
by_if false f e g = g

primitive_is : (ds : List Decl) (x : Expanded) (i : Invocation) → primitive_of ds x i ≡ primitive_by ds x i (word_of i.callee)
primitive_is ds x i =
    by_if (bytes_eq i.callee (codes "modify_field")) (primitive_by ds x i) refl
    (by_if (bytes_eq i.callee (codes "add")) (primitive_by ds x i) refl
    (by_if (bytes_eq i.callee (codes "subtract")) (primitive_by ds x i) refl
    (by_if (bytes_eq i.callee (codes "add_to_field")) (primitive_by ds x i) refl
    (by_if (bytes_eq i.callee (codes "subtract_from_field")) (primitive_by ds x i) refl
    (by_if (bytes_eq i.callee (codes "bit_and")) (primitive_by ds x i) refl
    (by_if (bytes_eq i.callee (codes "bit_or")) (primitive_by ds x i) refl
    (by_if (bytes_eq i.callee (codes "bit_xor")) (primitive_by ds x i) refl
    (by_if (bytes_eq i.callee (codes "shift_left")) (primitive_by ds x i) refl
    (by_if (bytes_eq i.callee (codes "shift_right")) (primitive_by ds x i) refl
    (by_if (bytes_eq i.callee (codes "add_header")) (primitive_by ds x i) refl
    (by_if (bytes_eq i.callee (codes "remove_header")) (primitive_by ds x i) refl
    (by_if (bytes_eq i.callee (codes "copy_header")) (primitive_by ds x i) refl
    (by_if (bytes_eq i.callee (codes "push")) (primitive_by ds x i) refl
    (by_if (bytes_eq i.callee (codes "pop")) (primitive_by ds x i) refl
    (by_if (bytes_eq i.callee (codes "count")) (primitive_by ds x i) refl
    (by_if (bytes_eq i.callee (codes "register_read")) (primitive_by ds x i) refl
    (by_if (bytes_eq i.callee (codes "register_write")) (primitive_by ds x i) refl
    (by_if (bytes_eq i.callee (codes "execute_meter")) (primitive_by ds x i) refl
    (by_if (bytes_eq i.callee hash) (primitive_by ds x i) refl
    (by_if (bytes_eq i.callee (codes "drop")) (primitive_by ds x i) refl
    (by_if (bytes_eq i.callee (codes "resubmit")) (primitive_by ds x i) refl
    (by_if (bytes_eq i.callee (codes "recirculate")) (primitive_by ds x i) refl
    (by_if (bytes_eq i.callee (codes "clone_ingress_pkt_to_egress")) (primitive_by ds x i) refl
    (by_if (bytes_eq i.callee (codes "clone_i2e")) (primitive_by ds x i) refl
    (by_if (bytes_eq i.callee (codes "clone_egress_pkt_to_egress")) (primitive_by ds x i) refl
    (by_if (bytes_eq i.callee (codes "clone_e2e")) (primitive_by ds x i) refl refl))))))))))))))))))))))))))

modifies_plainly : (ds : List Decl) (i : Invocation) (b : Bool) → has_no_hash (cond b (writes ds i on_mask) (write false (target ds i 0) (just (source ds i 1)))) ≡ true
modifies_plainly ds i true = refl
modifies_plainly ds i false = refl

module _ (ds : List Decl) (x : Expanded) (sums : ℕ → State → ℕ) (are : AreSums ds x sums) where
  word_same : (arguments : List ℕ) (r : Moment) (i : Invocation) (w : PrimitiveWord) → row_effects sums arguments r (row_by ds (called_with i.arguments) w) ≡ effects ds arguments r (primitive_by ds x i w)
  word_same arguments r i word.ModifyField =
      plain_same ds sums arguments r (plain_by ds i word.ModifyField) (modifies_plainly ds i (length i.arguments == 3))
  word_same arguments r i word.Add = plain_same ds sums arguments r (plain_by ds i word.Add) refl
  word_same arguments r i word.Subtract = plain_same ds sums arguments r (plain_by ds i word.Subtract) refl
  word_same arguments r i word.AddToField = plain_same ds sums arguments r (plain_by ds i word.AddToField) refl
  word_same arguments r i word.SubtractFromField = plain_same ds sums arguments r (plain_by ds i word.SubtractFromField) refl
  word_same arguments r i word.BitAnd = plain_same ds sums arguments r (plain_by ds i word.BitAnd) refl
  word_same arguments r i word.BitOr = plain_same ds sums arguments r (plain_by ds i word.BitOr) refl
  word_same arguments r i word.BitXor = plain_same ds sums arguments r (plain_by ds i word.BitXor) refl
  word_same arguments r i word.ShiftLeft = plain_same ds sums arguments r (plain_by ds i word.ShiftLeft) refl
  word_same arguments r i word.ShiftRight = plain_same ds sums arguments r (plain_by ds i word.ShiftRight) refl
  word_same arguments r i word.AddHeader = plain_same ds sums arguments r (plain_by ds i word.AddHeader) refl
  word_same arguments r i word.RemoveHeader = plain_same ds sums arguments r (plain_by ds i word.RemoveHeader) refl
  word_same arguments r i word.CopyHeader = plain_same ds sums arguments r (plain_by ds i word.CopyHeader) refl
  word_same arguments r i word.Push = plain_same ds sums arguments r (plain_by ds i word.Push) refl
  word_same arguments r i word.Pop = plain_same ds sums arguments r (plain_by ds i word.Pop) refl
  word_same arguments r i word.Count = plain_same ds sums arguments r (plain_by ds i word.Count) refl
  word_same arguments r i word.RegisterRead = plain_same ds sums arguments r (plain_by ds i word.RegisterRead) refl
  word_same arguments r i word.RegisterWrite = plain_same ds sums arguments r (plain_by ds i word.RegisterWrite) refl
  word_same arguments r i word.ExecuteMeter = plain_same ds sums arguments r (plain_by ds i word.ExecuteMeter) refl
  word_same arguments r i word.Hash =
      hash_same arguments r (target ds i 0) (source ds i 1) (source ds i 3)
      (sums (calculation_number ds (name_in_argument (argument_at i 2))) r.state) (result_of ds r.state (calculation ds x i 2))
      (are (name_in_argument (argument_at i 2)) r.state)
  word_same arguments r i word.Drops = plain_same ds sums arguments r (plain_by ds i word.Drops) refl
  word_same arguments r i word.Resubmits = plain_same ds sums arguments r (plain_by ds i word.Resubmits) refl
  word_same arguments r i word.Recirculates = plain_same ds sums arguments r (plain_by ds i word.Recirculates) refl
  word_same arguments r i word.ClonesIngress = plain_same ds sums arguments r (plain_by ds i word.ClonesIngress) refl
  word_same arguments r i word.ClonesEgress = plain_same ds sums arguments r (plain_by ds i word.ClonesEgress) refl
  word_same arguments r i word.NoOp = plain_same ds sums arguments r (plain_by ds i word.NoOp) refl

  effects_are : (arguments : List ℕ) (r : Moment) (i : Invocation) → row_effects sums arguments r (row_of ds i) ≡ effects ds arguments r (primitive_of ds x i)
  effects_are arguments r i =
      word_same arguments r i (word_of i.callee) ∙ sym (ap (effects ds arguments r) (primitive_is ds x i))

  in_sequence_are : (arguments : List ℕ) (is : List Invocation) (m : Moment) → rows_in_sequence sums arguments (map (row_of ds) is) m ≡ in_sequence ds x arguments is m
  in_sequence_are arguments [] m = refl
  in_sequence_are arguments (i ∷ is) m =
      ap (λ (es : List Effect). rows_in_sequence sums arguments (map (row_of ds) is) (all_fallen m es)) (effects_are arguments m i)
      ∙ in_sequence_are arguments is (all_fallen m (effects ds arguments m (primitive_of ds x i)))

  in_parallel_are : (arguments : List ℕ) (r : Moment) (is : List Invocation) (m : Moment) → rows_in_parallel sums arguments r (map (row_of ds) is) m ≡ in_parallel ds x arguments r is m
  in_parallel_are arguments r [] m = refl
  in_parallel_are arguments r (i ∷ is) m =
      ap (λ (es : List Effect). rows_in_parallel sums arguments r (map (row_of ds) is) (all_fallen m es)) (effects_are arguments r i)
      ∙ in_parallel_are arguments r is (all_fallen m (effects ds arguments r (primitive_of ds x i)))

  acted_are : (rule : Rule14) (arguments : List ℕ) (is : List Invocation) (m : Moment) → rows_acted sums rule arguments (map (row_of ds) is) m ≡ acted ds x rule arguments is m
  acted_are Sequential arguments is m = in_sequence_are arguments is m
  acted_are Parallel arguments is m = in_parallel_are arguments m is m

pub rows_mean : (ds : List Decl) (n : ℕ) (rows : List ReadyPrimitive) → AreRows ds n rows → Means ds n rows
rows_mean ds n rows are x expanded lt sums summed rule arguments m =
    ap (λ (rs : List ReadyPrimitive). rows_acted sums rule arguments rs m) (are (primitives_at x n) (expanded.each_action n lt))
    ∙ acted_are ds x sums summed rule arguments (primitives_at x n) m
