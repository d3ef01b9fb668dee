-- Rows do what the program's calculated fields do.
use Rattle.std.proofs.Common.{◌≡◌, ℕ, ◌%◌, ◌^◌, Bool, true, false, cond, List, [], ◌∷◌, map, Option, Some, None, option_map, Result, Ok, Err, refl, ap, ap₂, ◌∙◌}
use Rattle.std.specs.Prelude.{IfOk, not, ◌&&◌, ◌||◌, ◌==◌, filter, fold}
use Rattle.std.specs.List.{list_any}
use Rattle.std.specs.Option.{option_map_or}
use Rattle.p414_syntax.specs.declared.calculations.CalcCond.{CalcCond}
use Rattle.p414_syntax.specs.declared.calculations.CalcCond.TheVariants as calc_cond
use Rattle.p414_syntax.specs.declared.calculations.Calc.{Calc}
use Rattle.p414_syntax.specs.declared.calculations.CalculatedField.{CalculatedField}
use Rattle.p414_syntax.specs.declared.syntax.Decl.{Decl}
use Rattle.p414_syntax.specs.Lists.{calculated_fields, is_update, is_verify}
use Rattle.p414_syntax.specs.Twice.{declares_twice}
use Rattle.p414_sem.specs.Slots.{Slot, standard, declared, slot_of, bits_of_ref}
use Rattle.p414_sem.specs.State.{State, is_live, read, written}
use Rattle.p414_sem.specs.Expanded.{Expanded, IsExpanded}
use Rattle.p414_sem.specs.CalculatedFields as sem
use Rattle.p414_sem.specs.Meanings.{Verify14, Update14}
use Rattle.p414_layout.specs.Shapes.{layout_of}
use Rattle.p414_slots.specs.Shown.{slot_in, kept_slot}
use Rattle.p414_state.specs.Packets.{Packet, with_state}
use Rattle.p414_ready_actions.specs.Meaning.{AreSums}
use Rattle.p414_ready_actions.specs.Words.{calculation_number}
use Rattle.p414_parse_run.proofs.Widths.{ref_bits}
use Rattle.p414_act_run.specs.Fits.{bits_at}
use Rattle.p414_calculated_fields.specs.declared.rows.CalculatedRow.{CalculatedRow}
use Rattle.p414_calculated_fields.specs.Rows.{condition_test, entry_test, entry_row, field_row, field_rows}
use Rattle.p414_calculated_fields.specs.Running.{test_holds, first_sum, row_fails, rows_fail, sum_written, row_updated, rows_updated}
use Rattle.p414_calculated_fields.specs.Meaning.{MeansFields}

slot_back : (slot : Slot) → slot_in (kept_slot slot) ≡ slot
slot_back (standard which) = refl
slot_back (declared i e f) = refl

-- entries

condition_same : (ds : List Decl) (s : State) (c : CalcCond) → test_holds s (condition_test ds c) ≡ sem.condition_holds ds s c
condition_same ds s (calc_cond.Valid i) = refl
condition_same ds s (calc_cond.Equal r n) = ap (λ (slot : Slot). read s slot == n.value) (slot_back (slot_of ds r))

test_same : (ds : List Decl) (s : State) (o : Option CalcCond) → test_holds s (entry_test ds o) ≡ option_map_or (sem.condition_holds ds s) o true
test_same ds s None = refl
test_same ds s (Some c) = condition_same ds s c

abbrev number_of_entry : List Decl → Calc → ℕ
number_of_entry ds c = calculation_number ds c.calculation

first_by : (ds : List Decl) (c : Calc) (rest : Option ℕ) (others : Option Calc) (b t : Bool) → b ≡ t → rest ≡ option_map (number_of_entry ds) others → cond b (Some (number_of_entry ds c)) rest ≡ option_map (number_of_entry ds) (cond t (Some c) others)
first_by ds c rest others b true e same = ap (λ (k : Bool). cond k (Some (number_of_entry ds c)) rest) e
first_by ds c rest others b false e same = ap (λ (k : Bool). cond k (Some (number_of_entry ds c)) rest) e ∙ same

first_same : (ds : List Decl) (s : State) (cs : List Calc) → first_sum s (map (entry_row ds) cs) ≡ option_map (number_of_entry ds) (sem.first_holding ds s cs)
first_same ds s [] = refl
first_same ds s (c ∷ cs) =
    first_by ds c (first_sum s (map (entry_row ds) cs)) (sem.first_holding ds s cs) (test_holds s (entry_test ds c.condition)) (sem.entry_holds ds s c)
    (test_same ds s c.condition) (first_same ds s cs)

module _ (ds : List Decl) (x : Expanded) (sums : ℕ → State → ℕ) (are : AreSums ds x sums) where
  -- verification

  fails_by : (s : State) (o : Option Calc) (n : ℕ) → option_map_or (λ (k : ℕ). not (sums k s == n)) (option_map (number_of_entry ds) o) false ≡ option_map_or (λ (c : Calc). not (sem.entry_result ds x s c == n)) o false
  fails_by s None n = refl
  fails_by s (Some c) n = ap (λ (k : ℕ). not (k == n)) (are c.calculation s)

  wrong_by : (s : State) (f : CalculatedField) (slot : Slot) (first : Option ℕ) → slot ≡ slot_of ds f.field → first ≡ option_map (number_of_entry ds) (sem.first_holding ds s (filter is_verify f.entries)) → (is_live s slot && option_map_or (λ (k : ℕ). not (sums k s == read s slot)) first false) ≡ sem.is_wrong ds x s f
  wrong_by s f slot first there is =
      ap₂ (λ (p : Slot) (o : Option ℕ). is_live s p && option_map_or (λ (k : ℕ). not (sums k s == read s p)) o false) there is
      ∙ ap (λ (b : Bool). is_live s (slot_of ds f.field) && b) (fails_by s (sem.first_holding ds s (filter is_verify f.entries)) (read s (slot_of ds f.field)))

  wrong_same : (s : State) (f : CalculatedField) → row_fails sums s (field_row ds f) ≡ sem.is_wrong ds x s f
  wrong_same s f =
      wrong_by s f (slot_in (kept_slot (slot_of ds f.field))) (first_sum s (map (entry_row ds) (filter is_verify f.entries)))
      (slot_back (slot_of ds f.field)) (first_same ds s (filter is_verify f.entries))

  all_wrong : (s : State) (fs : List CalculatedField) → rows_fail sums s (map (field_row ds) fs) ≡ list_any (sem.is_wrong ds x s) fs
  all_wrong s [] = refl
  all_wrong s (f ∷ fs) = ap₂ (λ (a b : Bool). a || b) (wrong_same s f) (all_wrong s fs)

  -- updates

  updated_by_one : (s : State) (f : CalculatedField) (slot : Slot) (width : ℕ) (o : Option Calc) → slot ≡ slot_of ds f.field → width ≡ bits_of_ref ds f.field → (row : CalculatedRow) → slot_in row.slot ≡ slot → bits_at (layout_of ds) row.slot ≡ width → sum_written (layout_of ds) sums s row (option_map (number_of_entry ds) o) ≡ sem.updated_by ds x s f o
  updated_by_one s f slot width None there bits row at wide = refl
  updated_by_one s f slot width (Some c) there bits row at wide =
      ap₂ (λ (p : Slot) (w : ℕ). written s p (sums (number_of_entry ds c) s % 2 ^ w)) (at ∙ there) (wide ∙ bits)
      ∙ ap (λ (k : ℕ). written s (slot_of ds f.field) (k % 2 ^ bits_of_ref ds f.field)) (are c.calculation s)

  live_by : (s t u : State) (a b : Bool) → a ≡ b → t ≡ u → cond a t s ≡ cond b u s
  live_by s t u a b e f = ap₂ (λ (k : Bool) (v : State). cond k v s) e f

  updated_same : declares_twice ds ≡ false → (s : State) (f : CalculatedField) → row_updated (layout_of ds) sums s (field_row ds f) ≡ sem.updated_field ds x s f
  updated_same once s f =
      live_by s
      (sum_written (layout_of ds) sums s (field_row ds f) (first_sum s (map (entry_row ds) (filter is_update f.entries))))
      (sem.updated_by ds x s f (sem.first_holding ds s (filter is_update f.entries)))
      (is_live s (slot_in (kept_slot (slot_of ds f.field)))) (is_live s (slot_of ds f.field))
      (ap (is_live s) (slot_back (slot_of ds f.field)))
      (ap (sum_written (layout_of ds) sums s (field_row ds f)) (first_same ds s (filter is_update f.entries))
      ∙ updated_by_one s f (slot_of ds f.field) (bits_of_ref ds f.field) (sem.first_holding ds s (filter is_update f.entries)) refl refl (field_row ds f) (slot_back (slot_of ds f.field)) (ref_bits ds f.field once))

  all_updated : declares_twice ds ≡ false → (fs : List CalculatedField) (s : State) → rows_updated (layout_of ds) sums s (map (field_row ds) fs) ≡ fold (sem.updated_field ds x) s fs
  all_updated once [] s = refl
  all_updated once (f ∷ fs) s =
      ap (λ (t : State). rows_updated (layout_of ds) sums t (map (field_row ds) fs)) (updated_same once s f)
      ∙ all_updated once fs (sem.updated_field ds x s f)

rows_mean : (ds : List Decl) (rows : List CalculatedRow) → declares_twice ds ≡ false → rows ≡ field_rows ds → MeansFields ds rows
rows_mean ds rows once same = record {
  verify = λ x expands sums are s.
      ap (rows_fail sums s) same ∙ all_wrong ds x sums are s (calculated_fields ds);
  update = λ x expands sums are s.
      ap (rows_updated (layout_of ds) sums s) same ∙ all_updated ds x sums are once (calculated_fields ds) s;
}

-- rows that were made, if there was memory for them
pub made_mean : {E : Type 0} (ds : List Decl) (made : Result (List CalculatedRow) E) → declares_twice ds ≡ false → IfOk made (λ rows. rows ≡ field_rows ds) → IfOk made (MeansFields ds)
made_mean ds (Ok rows) once are = rows_mean ds rows once are
made_mean ds (Err e) once are = _

pub verified : (ds : List Decl) (rows : List CalculatedRow) (sums : ℕ → State → ℕ) (s : State) (fails : Bool) → MeansFields ds rows → ((x : Expanded) → IsExpanded ds x → AreSums ds x sums) → fails ≡ rows_fail sums s rows → (x : Expanded) → IsExpanded ds x → fails ≡ Verify14 ds x s
verified ds rows sums s fails means are is x expands = is ∙ means.verify x expands sums (are x expands) s

pub updated : (ds : List Decl) (rows : List CalculatedRow) (sums : ℕ → State → ℕ) (old new : Packet) → old.layout ≡ layout_of ds → MeansFields ds rows → ((x : Expanded) → IsExpanded ds x → AreSums ds x sums) → new ≡ with_state old (rows_updated old.layout sums old.state rows) → (x : Expanded) → IsExpanded ds x → new ≡ with_state old (Update14 ds x old.state)
updated ds rows sums old new same means are is x expands =
    is
    ∙ ap (with_state old)
    (ap (λ l. rows_updated l sums old.state rows) same ∙ means.update x expands sums (are x expands) old.state)
