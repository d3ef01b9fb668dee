-- The items of a list give the bits that the list has in P4_14.
use Rattle.std.proofs.Common.{◌≡◌, ◌%◌, ◌^◌, Bool, true, false, cond, List, [], ◌∷◌, ◌++◌, refl, sym, ap, ◌∙◌, append_assoc, append-nil}
use Rattle.std.specs.Prelude.{unwrap_or}
use Rattle.std.proofs.Math.Nat.{mod-eq_of_lt}
use Rattle.p4x_bits.specs.BitLists.{bits as bit_list, octet_bits}
use Rattle.p414_syntax.specs.declared.calculations.Item.{Item}
use Rattle.p414_syntax.specs.declared.calculations.Item.TheVariants as item
use Rattle.p414_syntax.specs.declared.syntax.Decl.{Decl}
use Rattle.p414_sem.specs.Slots.{slot_of}
use Rattle.p414_sem.specs.State.{State, read as read14}
use Rattle.p414_sem.specs.Calculations.{item_bits, list_bits}
use Rattle.p416_syntax.specs.Tree.{Exp16, literal, argument}
use Rattle.p416_syntax.specs.Scopes.{Scope}
use Rattle.v1_core.specs.Values.{some_bits, bits_of_list, width_in, number_in}
use Rattle.v1_core.specs.Frames.{Moment}
use Rattle.v1_core.specs.Expressions.{Valued, valued, value_of}
use Rattle.p416_syntax.specs.Calls.{any_bits}
use Rattle.v1_core.specs.Calls.{items_of}
use Rattle.lower_laws_base.specs.Context.{Lowering, words_of, now, Looks}
use Rattle.lower_laws_base.specs.Mirror.{sized, slot_exp}
use Rattle.lower_laws_base.proofs.Sources.{gives_slot}
use Rattle.lower_laws_sums.specs.Sums.{items_exp, has_payload, ItemsFit}

module _ (c : Lowering) (s : Scope) (r : State) (n : Moment) (looks : Looks c s [] [] [] now r n.frame) (ds : List Decl) where
  -- what the items give but for the payload
  abbrev pub plain_bits : List Item → List Bool
  plain_bits [] = []
  plain_bits (item.Payload ∷ rest) = plain_bits rest
  plain_bits (x ∷ rest) = item_bits ds r x ++ plain_bits rest

  abbrev Gives : Exp16 → List Bool → Type 0
  Gives e l = items_of c.world s e n ≡ valued (some_bits l) n

  pub gives_items : (e : Exp16) (l : List Bool) (items : List Item) → Gives e l → ItemsFit c.layout ds items → Gives (items_exp (words_of c) ds e items) (l ++ plain_bits items)
  gives_items e l [] g fit = g ∙ ap (λ z. valued (some_bits z) n) (sym (append-nil l))
  gives_items e l (item.Payload ∷ rest) g fit = gives_items e l rest g (rw fit tt)
  gives_items e l (item.Instance i ∷ rest) g fit = gives_items e l rest g fit
  gives_items e l (item.Number x ∷ rest) g fit =
      let w = unwrap_or x.width 0 in
      gives_items (argument e (literal (sized w x.value))) (l ++ bit_list w x.value) rest
      (ap (λ (y : Valued). valued (some_bits (bits_of_list y.value ++ bit_list w (x.value % 2 ^ w))) y.moment) g ∙ ap (λ z. valued (some_bits (l ++ bit_list w z)) n) (mod-eq_of_lt fit.0)) fit.1
      ∙ ap (λ z. valued (some_bits z) n) (append_assoc l (bit_list w x.value) (plain_bits rest))
  gives_items e l (item.Field f ∷ rest) g fit =
      let slot = gives_slot c s [] [] [] now r n looks (slot_of ds f) fit.0 in
      gives_items (argument e (slot_exp (words_of c) now (slot_of ds f))) (l ++ item_bits ds r (item.Field f)) rest
      (ap (λ (y : Valued). let z = value_of c.world s any_bits (slot_exp (words_of c) now (slot_of ds f)) y.moment in valued (some_bits (bits_of_list y.value ++ bit_list (width_in z.value) (number_in z.value))) z.moment) g
      ∙ ap (λ (z : Valued). valued (some_bits (l ++ bit_list (width_in z.value) (number_in z.value))) z.moment) (slot.value any_bits)
      ∙ ap (λ w. valued (some_bits (l ++ bit_list w (read14 r (slot_of ds f)))) n) fit.1) fit.2
      ∙ ap (λ z. valued (some_bits z) n) (append_assoc l (item_bits ds r (item.Field f)) (plain_bits rest))

  -- the whole list, whose payload is last
  pub list_is : (items : List Item) → ItemsFit c.layout ds items → list_bits ds r items ≡ cond (has_payload items) (plain_bits items ++ octet_bits r.unparsed) (plain_bits items)
  list_is [] fit = refl
  list_is (item.Payload ∷ rest) fit = rw fit (append-nil (octet_bits r.unparsed))
  list_is (item.Instance i ∷ rest) fit = list_is rest fit
  list_is (item.Number x ∷ rest) fit = ap (λ l. item_bits ds r (item.Number x) ++ l) (list_is rest fit.1) ∙ by (item_bits ds r (item.Number x)) (plain_bits rest) (has_payload rest) where
    by : (l k : List Bool) (b : Bool) → l ++ cond b (k ++ octet_bits r.unparsed) k ≡ cond b ((l ++ k) ++ octet_bits r.unparsed) (l ++ k)
    by l k true = sym (append_assoc l k (octet_bits r.unparsed))
    by l k false = refl
  list_is (item.Field f ∷ rest) fit = ap (λ l. item_bits ds r (item.Field f) ++ l) (list_is rest fit.2) ∙ by (item_bits ds r (item.Field f)) (plain_bits rest) (has_payload rest) where
    by : (l k : List Bool) (b : Bool) → l ++ cond b (k ++ octet_bits r.unparsed) k ≡ cond b ((l ++ k) ++ octet_bits r.unparsed) (l ++ k)
    by l k true = sym (append_assoc l k (octet_bits r.unparsed))
    by l k false = refl
