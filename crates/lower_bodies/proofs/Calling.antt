-- Rows of calls are kept of the primitives of these calls.
use Rattle.std.proofs.Common.{◌≡◌, inl, inr, ◌==◌, Bool, true, false, cond, List, [], ◌∷◌, length, map, refl, sym, subst}
use Rattle.std.specs.Prelude.{codes}
use Rattle.std.specs.Str.{bytes_eq}
use Rattle.p414_syntax.specs.declared.syntax.Decl.{Decl}
use Rattle.p414_syntax.specs.Primitives.{hash}
use Rattle.p414_syntax.specs.Arguments.{Invocation}
use Rattle.p414_sem.specs.Expanded.{Expanded}
use Rattle.p414_sem.specs.Operations.{just, on_mask, hashed, Primitive, write, argument_at, name_in_argument, source, target, calculation, writes, primitive_of}
use Rattle.p414_ready_actions.specs.declared.words.PrimitiveWord.{PrimitiveWord}
use Rattle.p414_ready_actions.specs.declared.words.PrimitiveWord.TheVariants as word
use Rattle.p414_ready_actions.specs.Words.{called_with, calculation_number, plain_by, row_by, row_of, word_of}
use Rattle.lower_expressions.specs.declared.table.WordsTable.{WordsTable}
use Rattle.lower_primitives.specs.Kept.{is_plain, IsKept, AreKept}
use Rattle.lower_rows.specs.Calculations.{HasCalculations}
use Rattle.lower_bodies.specs.Called.{CalledRowsAreKept}

abbrev primitive_by : List Decl → Expanded → Invocation → PrimitiveWord → Primitive
primitive_by ds x i word.Hash = write false (target ds i 0) (hashed (source ds i 1) (calculation ds x i 2) (source ds i 3))
primitive_by ds x i other = plain_by ds i other

by_if : {X Y : Type 0} (b : Bool) (f : X → Y) {p q : Y} {u v : X} → p ≡ f u → q ≡ f v → cond b p q ≡ f (cond b u v)
by_if true f e g = e
by_if false f e g = g

primitive_is : (ds : List Decl) (x : Expanded) (i : Invocation) → primitive_of ds x i ≡ primitive_by ds x i (word_of i.callee)
primitive_is ds x i =
    by_if (bytes_eq i.callee (codes "modify_field")) (primitive_by ds x i) refl
    (by_if (bytes_eq i.callee (codes "add")) (primitive_by ds x i) refl
    (by_if (bytes_eq i.callee (codes "subtract")) (primitive_by ds x i) refl
    (by_if (bytes_eq i.callee (codes "add_to_field")) (primitive_by ds x i) refl
    (by_if (bytes_eq i.callee (codes "subtract_from_field")) (primitive_by ds x i) refl
    (by_if (bytes_eq i.callee (codes "bit_and")) (primitive_by ds x i) refl
    (by_if (bytes_eq i.callee (codes "bit_or")) (primitive_by ds x i) refl
    (by_if (bytes_eq i.callee (codes "bit_xor")) (primitive_by ds x i) refl
    (by_if (bytes_eq i.callee (codes "shift_left")) (primitive_by ds x i) refl
    (by_if (bytes_eq i.callee (codes "shift_right")) (primitive_by ds x i) refl
    (by_if (bytes_eq i.callee (codes "add_header")) (primitive_by ds x i) refl
    (by_if (bytes_eq i.callee (codes "remove_header")) (primitive_by ds x i) refl
    (by_if (bytes_eq i.callee (codes "copy_header")) (primitive_by ds x i) refl
    (by_if (bytes_eq i.callee (codes "push")) (primitive_by ds x i) refl
    (by_if (bytes_eq i.callee (codes "pop")) (primitive_by ds x i) refl
    (by_if (bytes_eq i.callee (codes "count")) (primitive_by ds x i) refl
    (by_if (bytes_eq i.callee (codes "register_read")) (primitive_by ds x i) refl
    (by_if (bytes_eq i.callee (codes "register_write")) (primitive_by ds x i) refl
    (by_if (bytes_eq i.callee (codes "execute_meter")) (primitive_by ds x i) refl
    (by_if (bytes_eq i.callee hash) (primitive_by ds x i) refl
    (by_if (bytes_eq i.callee (codes "drop")) (primitive_by ds x i) refl
    (by_if (bytes_eq i.callee (codes "resubmit")) (primitive_by ds x i) refl
    (by_if (bytes_eq i.callee (codes "recirculate")) (primitive_by ds x i) refl
    (by_if (bytes_eq i.callee (codes "clone_ingress_pkt_to_egress")) (primitive_by ds x i) refl
    (by_if (bytes_eq i.callee (codes "clone_i2e")) (primitive_by ds x i) refl
    (by_if (bytes_eq i.callee (codes "clone_egress_pkt_to_egress")) (primitive_by ds x i) refl
    (by_if (bytes_eq i.callee (codes "clone_e2e")) (primitive_by ds x i) refl refl))))))))))))))))))))))))))

modifies_plainly : (ds : List Decl) (i : Invocation) (b : Bool) → is_plain (cond b (writes ds i on_mask) (write false (target ds i 0) (just (source ds i 1)))) ≡ true
modifies_plainly ds i true = refl
modifies_plainly ds i false = refl

module _ (ds : List Decl) (x : Expanded) (t : WordsTable) (has : HasCalculations ds x t.calculations.now) where
  word_kept : (i : Invocation) (w : PrimitiveWord) → IsKept ds t (primitive_by ds x i w) (row_by ds (called_with i.arguments) w)
  word_kept i word.ModifyField = inl (record { plain = modifies_plainly ds i (length i.arguments == 3); row_is = refl })
  word_kept i word.Add = inl (record { plain = refl; row_is = refl })
  word_kept i word.Subtract = inl (record { plain = refl; row_is = refl })
  word_kept i word.AddToField = inl (record { plain = refl; row_is = refl })
  word_kept i word.SubtractFromField = inl (record { plain = refl; row_is = refl })
  word_kept i word.BitAnd = inl (record { plain = refl; row_is = refl })
  word_kept i word.BitOr = inl (record { plain = refl; row_is = refl })
  word_kept i word.BitXor = inl (record { plain = refl; row_is = refl })
  word_kept i word.ShiftLeft = inl (record { plain = refl; row_is = refl })
  word_kept i word.ShiftRight = inl (record { plain = refl; row_is = refl })
  word_kept i word.AddHeader = inl (record { plain = refl; row_is = refl })
  word_kept i word.RemoveHeader = inl (record { plain = refl; row_is = refl })
  word_kept i word.CopyHeader = inl (record { plain = refl; row_is = refl })
  word_kept i word.Push = inl (record { plain = refl; row_is = refl })
  word_kept i word.Pop = inl (record { plain = refl; row_is = refl })
  word_kept i word.Count = inl (record { plain = refl; row_is = refl })
  word_kept i word.RegisterRead = inl (record { plain = refl; row_is = refl })
  word_kept i word.RegisterWrite = inl (record { plain = refl; row_is = refl })
  word_kept i word.ExecuteMeter = inl (record { plain = refl; row_is = refl })
  word_kept i word.Drops = inl (record { plain = refl; row_is = refl })
  word_kept i word.Resubmits = inl (record { plain = refl; row_is = refl })
  word_kept i word.Recirculates = inl (record { plain = refl; row_is = refl })
  word_kept i word.ClonesIngress = inl (record { plain = refl; row_is = refl })
  word_kept i word.ClonesEgress = inl (record { plain = refl; row_is = refl })
  word_kept i word.NoOp = inl (record { plain = refl; row_is = refl })
  word_kept i word.Hash = inr (record {
    target = target ds i 0;
    base = source ds i 1;
    calculation = calculation ds x i 2;
    bound = source ds i 3;
    number = calculation_number ds (name_in_argument (argument_at i 2));
    primitive_is = refl;
    row_is = refl;
    within = has.within (name_in_argument (argument_at i 2));
    calculation_is = has.each (name_in_argument (argument_at i 2));
  })

  call_kept : (i : Invocation) → IsKept ds t (primitive_of ds x i) (row_of ds i)
  call_kept i = subst (λ (p : Primitive). IsKept ds t p (row_of ds i)) (sym (primitive_is ds x i)) (word_kept i (word_of i.callee))

  calls_kept : (all : List Invocation) → AreKept ds t (map (primitive_of ds x) all) (map (row_of ds) all)
  calls_kept [] = tt
  calls_kept (i ∷ all) = (call_kept i, calls_kept all)

pub called_rows_are_kept : CalledRowsAreKept
called_rows_are_kept ds x t all has = calls_kept ds x t has all
