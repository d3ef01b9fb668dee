-- Rows of actions that were made one by one.
use Rattle.std.proofs.Common.{◌≡◌, ℕ, zero, suc, ◌+◌, ◌<◌, ◌≤◌, List, [], ◌∷◌, ◌++◌, length, get_or, drop, slice_get, All, Some, refl, sym, ap, ◌∙◌, subst, length-append, drop-cons, add-one, below_more, arith}
use Rattle.std.proofs.lemmas.List.{drop_all, get_or_append_left, get_or_push}
use Rattle.std.proofs.lemmas.List.Elements.{All-nil, All-cons}
use Rattle.state_store.specs.declared.shapes.Shape as objects
use Rattle.p414_syntax.specs.declared.syntax.Decl.{Decl}
use Rattle.p414_syntax.specs.declared.syntax.Rule14.{Rule14}
use Rattle.p414_sem.specs.Expanded.{Expanded, IsExpanded}
use Rattle.p414_layout.specs.declared.shape.Shape.{Shape}
use Rattle.p414_ready_actions.specs.declared.rows.ReadyPrimitive.{ReadyPrimitive}
use Rattle.p414_ready_actions.specs.Meaning.{AreSums, Means}
use Rattle.p414_act_run.specs.declared.calculations.Calculations.{Calculations}
use Rattle.p414_act_run.specs.Fits.{FitsRow}
use Rattle.p414_act_run.specs.Sums.{sums_in}
use Rattle.p414_ready_tables.specs.declared.tables.ReadyTable.{ReadyTable}
use Rattle.p414_ready_tables.specs.Tables.{FitsDirect, FitsTable}
use Rattle.p414_ready_tables.specs.internal.Acting.{AreActions, AreMeant, FitAll}

pub none_meant : (ds : List Decl) → AreMeant ds []
none_meant ds n lt = absurd (omega (arith, lt))

pub one_meant : (ds : List Decl) (old new : List (List ReadyPrimitive)) (made : List ReadyPrimitive) → new ≡ old ++ made ∷ [] → Means ds (length old) made → AreMeant ds old → AreMeant ds new
one_meant ds old new made put means all n lt =
    below_more (λ (k : ℕ). Means ds k (get_or new k [])) (length old) before here n
    (omega (arith, lt, ap length put, length-append old (made ∷ []))) where
      at_new : (k : ℕ) (rows : List ReadyPrimitive) → get_or (old ++ made ∷ []) k [] ≡ rows → Means ds k rows → Means ds k (get_or new k [])
      at_new k rows is fact =
          subst (Means ds k) (sym (ap (λ (l : List (List ReadyPrimitive)). get_or l k []) put ∙ is)) fact

      before : (k : ℕ) → k < length old → Means ds k (get_or new k [])
      before k below = at_new k (get_or old k []) (get_or_append_left old (made ∷ []) [] k below) (all k below)

      here : Means ds (length old) (get_or new (length old) [])
      here = at_new (length old) made (get_or_push old made [] (length old) refl) means

-- the rows of the action with a number fit, where there are any
pub rows_fit : (layout : List Shape) (shapes : List objects.Shape) (rows : List (List ReadyPrimitive)) (n : ℕ) → All (FitAll layout shapes) rows → All (FitsRow layout shapes) (get_or rows n [])
rows_fit layout shapes [] n all = All-nil (FitsRow layout shapes)
rows_fit layout shapes (x ∷ rows) zero all = (all 0 x (omega arith)).each
rows_fit layout shapes (x ∷ rows) (suc n) all = rows_fit layout shapes rows n (λ k d lt. all (suc k) d (omega arith))

-- all fit, where those that are left do

next_items : {X : Type 0} (xs : List X) (i : ℕ) (d : X) → i < length xs → drop i xs ≡ get_or xs i d ∷ drop (i + 1) xs
next_items xs i d h = rw (add-one, drop-cons xs i d h) refl

pub fit_more : {X : Type 0} (P : X → Type 0) (xs : List X) (i : ℕ) (d : X) → i < length xs → P (get_or xs i d) → (All P (drop i xs) → All P xs) → All P (drop (i + 1) xs) → All P xs
fit_more P xs i d lt here all rest =
    all (subst (All P) (sym (next_items xs i d lt)) (All-cons P (get_or xs i d) (drop (i + 1) xs) here rest))

pub fit_end : {X : Type 0} (P : X → Type 0) (xs : List X) (i : ℕ) → length xs ≤ i → (All P (drop i xs) → All P xs) → All P xs
fit_end P xs i le all = all (subst (All P) (sym (drop_all i xs le)) (All-nil P))

-- the direct counter of a table is one
pub direct_fits : (shapes : List objects.Shape) (tables : List ReadyTable) (n : ℕ) (r : ReadyTable) → All (FitsTable shapes) tables → slice_get tables n ≡ Some r → FitsDirect shapes r.direct
direct_fits shapes [] n r all e = absurd (cc e)
direct_fits shapes (x ∷ tables) zero r all e =
    let same : x ≡ r = cc e in subst (FitsTable shapes) same (all 0 x (omega arith))
direct_fits shapes (x ∷ tables) (suc n) r all e = direct_fits shapes tables n r (λ k d lt. all (suc k) d (omega arith)) e

pub actions_made : (ds taken : List Decl) (rows : List (List ReadyPrimitive)) (calculations : Calculations) (rule : Rule14) → taken ≡ ds → AreMeant taken rows → ((x : Expanded) → IsExpanded ds x → AreSums ds x (sums_in calculations)) → AreActions ds (record { rule = rule; rows = rows; calculations = calculations })
actions_made ds taken rows calculations rule same means sums = record {
  mean = subst (λ (d : List Decl). AreMeant d rows) same means;
  sums = sums;
}
