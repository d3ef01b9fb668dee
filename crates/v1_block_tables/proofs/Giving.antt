-- The parameters of actions get their arguments.
use Rattle.std.proofs.Common.{◌≡◌, ℕ, zero, suc, ◌+◌, ◌<◌, ◌≤◌, List, [], ◌∷◌, length, map, drop, get_or, min, All, slice_get, slice_index_or, Some, None, refl, sym, ap, subst, ◌∙◌, arith}
use Rattle.std.proofs.lemmas.List.{drop_more}
use Rattle.v1_core.specs.Cells.{Cells}
use Rattle.v1_core.specs.Layouts.{Layout}
use Rattle.v1_ready_blocks.specs.Nodes.{IsSlot}
use Rattle.v1_ready_blocks.specs.Places.{put}
use Rattle.v1_ready_blocks.specs.Tables.{bound_numbers}
use Rattle.v1_block_run.specs.declared.block.ReadyAction.{ReadyAction}
use Rattle.v1_block_run.specs.Blocks.{seen_parameters}
use Rattle.v1_block_tables.specs.Parts.{HasParameters}
use Rattle.v1_block_tables.proofs.Looking.{all_at, index_none, index_some}

-- so many parameters have their arguments
pub record Bound (slots numbers : List ℕ) (i : ℕ) (old now : Cells) : Type 0 where
  pub layout : now.layout ≡ old.layout
  pub same : bound_numbers (drop i slots) (drop i numbers) now ≡ bound_numbers slots numbers old

no_more : (slots : List ℕ) (c : Cells) → bound_numbers slots [] c ≡ c
no_more [] c = refl
no_more (slot ∷ slots) c = refl

none_left : (slots numbers : List ℕ) (i : ℕ) (c : Cells) → min (length slots) (length numbers) ≤ i → bound_numbers (drop i slots) (drop i numbers) c ≡ c
none_left [] numbers zero c all = refl
none_left (slot ∷ slots) [] zero c all = refl
none_left (slot ∷ slots) (n ∷ numbers) zero c all = absurd (omega (arith, all))
none_left [] numbers (suc i) c all = refl
none_left (slot ∷ slots) [] (suc i) c all = no_more (drop i slots) c
none_left (slot ∷ slots) (n ∷ numbers) (suc i) c all = none_left slots numbers i c (omega (arith, all))

module _ (slots numbers : List ℕ) (old : Cells) where
  pub bind_begins : Bound slots numbers 0 old old
  bind_begins = record { layout = refl; same = refl }

  pub slot_there : (i d : ℕ) (now : Cells) → All (IsSlot old.layout) slots → i < length slots → Bound slots numbers i old now → IsSlot now.layout (get_or slots i d)
  slot_there i d now all lt so = subst (λ (l : Layout). IsSlot l (get_or slots i d)) (sym so.layout) (all i d lt)

  pub one_bound : (i d e : ℕ) (now new : Cells) → i < length slots → i < length numbers → new ≡ put (get_or slots i d) None (get_or numbers i e) now → Bound slots numbers i old now → Bound slots numbers (i + 1) old new
  one_bound i d e now new lt less puts so = record {
    layout = ap (λ (c : Cells). c.layout) puts ∙ so.layout;
    same =
        ap (bound_numbers (drop (i + 1) slots) (drop (i + 1) numbers)) puts
        ∙ ap (λ (l : List ℕ). bound_numbers (get_or slots i d ∷ drop (i + 1) slots) l now) (sym (drop_more numbers i e less))
        ∙ ap (λ (l : List ℕ). bound_numbers l (drop i numbers) now) (sym (drop_more slots i d lt))
        ∙ so.same;
  }

  pub all_bound : (i : ℕ) (now : Cells) → min (length slots) (length numbers) ≤ i → Bound slots numbers i old now → now ≡ bound_numbers slots numbers old
  all_bound i now all so = sym (none_left slots numbers i now all) ∙ so.same

-- the parameters of an action

module _ (actions : List ReadyAction) (n : ℕ) (numbers : List ℕ) (old new : Cells) where
  pub slots_there : (a : ReadyAction) → Some a ≡ slice_get actions n → All (HasParameters old.layout) actions → All (IsSlot old.layout) a.parameters
  slots_there a some all = (all_at (HasParameters old.layout) actions n a some all).slots

  pub parameters_at : (a : ReadyAction) → Some a ≡ slice_get actions n → new ≡ bound_numbers a.parameters numbers old → new ≡ bound_numbers (slice_index_or (map seen_parameters actions) n []) numbers old
  parameters_at a some is = is ∙ ap (λ (l : List ℕ). bound_numbers l numbers old) (sym (index_some seen_parameters actions n a [] some))

  pub no_parameters : None ≡ slice_get actions n → old ≡ bound_numbers (slice_index_or (map seen_parameters actions) n []) numbers old
  no_parameters none = ap (λ (l : List ℕ). bound_numbers l numbers old) (sym (index_none seen_parameters actions n [] none))
