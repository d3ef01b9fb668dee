-- What the loop over rows keeps.
use Rattle.std.proofs.Common.{◌≡◌, ℕ, ◌+◌, ◌<◌, Bool, true, false, List, [], ◌∷◌, ◌++◌, length, get_or, take, refl, sym, ap, ap₂, ◌∙◌, subst}
use Rattle.std.specs.Prelude.{not, ◌||◌, ◌&&◌}
use Rattle.std.specs.List.{list_any}
use Rattle.std.specs.Global.{Vec}
use Rattle.std.proofs.lemmas.List.{take_more}
use Rattle.std.proofs.lemmas.List.Folds.{list_any-append}
use Rattle.p414_slots.specs.declared.slot.FieldSlot.{FieldSlot}
use Rattle.p414_ready_actions.specs.declared.rows.ReadyPrimitive.{ReadyPrimitive}
use Rattle.lower_laws_actions.specs.Apart.{Part}
use Rattle.lower_bodies.specs.declared.changed.ChangedParts.{ChangedParts}
use Rattle.lower_bodies.specs.Changed.{is_kept}
use Rattle.lower_bodies.specs.Apart.{row_reads, row_changes, rows_apart}
use Rattle.lower_bodies.proofs.Behind.{rows_change, row_behind, any_same}

-- what the loop keeps, once it went through these rows
pub record Passed (items : List (Vec FieldSlot)) (rows : List ReadyPrimitive) (changed : ChangedParts) (apart : Bool) : Type 0 where
  pub parts : (x : Part) → is_kept changed x ≡ rows_change rows x
  pub answer : apart ≡ rows_apart items rows

pub passed_more : (items : List (Vec FieldSlot)) (rows : List ReadyPrimitive) (row : ReadyPrimitive) (old new : ChangedParts) (apart read : Bool) → Passed items rows old apart → read ≡ list_any (is_kept old) (row_reads items row) → ((x : Part) → is_kept new x ≡ is_kept old x || row_changes row x) → Passed items (rows ++ row ∷ []) new (apart && not read)
passed_more items rows row old new apart read passed reading adding = record {
  parts = λ x. adding x ∙ ap (λ b. b || row_changes row x) (passed.parts x) ∙ sym (list_any-append (λ r. row_changes r x) rows (row ∷ []) ∙ ap (λ b. rows_change rows x || b) (or_false (row_changes row x)));
  answer =
      ap₂ (λ a b. a && not b) passed.answer (reading ∙ any_same (is_kept old) (rows_change rows) passed.parts (row_reads items row))
      ∙ sym (row_behind items rows row);
} where
  or_false : (a : Bool) → a || false ≡ a
  or_false true = refl
  or_false false = refl

pub passed_step : (items : List (Vec FieldSlot)) (rows : List ReadyPrimitive) (i : ℕ) (d : ReadyPrimitive) (old new : ChangedParts) (apart answer : Bool) → i < length rows → Passed items (take i rows) old apart → ((x : Part) → is_kept new x ≡ is_kept old x || row_changes (get_or rows i d) x) → apart && not (list_any (is_kept old) (row_reads items (get_or rows i d))) ≡ answer → Passed items (take (i + 1) rows) new answer
passed_step items rows i d old new apart answer lt passed adding is =
    subst (λ (l : List ReadyPrimitive). Passed items l new answer) (sym (take_more rows i d lt))
    (subst (λ b. Passed items (take i rows ++ get_or rows i d ∷ []) new b) is
    (passed_more items (take i rows) (get_or rows i d) old new apart (list_any (is_kept old) (row_reads items (get_or rows i d))) passed refl adding))

pub false_stays : (a r : Bool) → a ≡ false → a && r ≡ a
false_stays true r is = absurd (cc is)
false_stays false r is = refl
