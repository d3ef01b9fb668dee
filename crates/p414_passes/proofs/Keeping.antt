-- What is preserved fits a layout.
use Rattle.std.proofs.Common.{◌≡◌, ℕ, zero, suc, ◌+◌, ◌^◌, ◌<◌, Bool, true, false, cond, List, [], ◌∷◌, length, get_or, drop, map, refl, sym, ap, ◌∙◌, subst, drop-cons, add-one}
use Rattle.std.specs.Prelude.{fold, replicate, slice_index, slice_set, MatchBool}
use Rattle.std.proofs.lemmas.Nat.{pow_pos}
use Rattle.p414_sem.specs.Fitting.{FitWidths}
use Rattle.p414_sem.specs.Passes.{Preserved}
use Rattle.p414_sem.specs.State.{State}
use Rattle.p414_layout.specs.declared.shape.Shape.{Shape}
use Rattle.p414_state.specs.Packets.{width_at}
use Rattle.p414_field_lists.specs.declared.rows.ItemRow.{ItemRow}
use Rattle.p414_passes.specs.Kept.{FitsKept, kept_at, keeping_row, nothing_kept, nothing_of}

pub next_items : {X : Type 0} (xs : List X) (i : ℕ) (d : X) → i < length xs → drop i xs ≡ get_or xs i d ∷ drop (i + 1) xs
next_items xs i d h = rw (add-one, drop-cons xs i d h) refl

-- nothing

zeros_fit : (widths : List ℕ) → FitWidths widths (replicate (length widths) 0)
zeros_fit [] = _
zeros_fit (w ∷ widths) = (pow_pos w, zeros_fit widths)

abbrev zeros : List ℕ → List ℕ
zeros widths = replicate (length widths) 0

nothing_by : (b : Bool) (widths : List ℕ) → MatchBool b (FitWidths widths (cond b (zeros widths) [])) (cond b (zeros widths) [] ≡ [])
nothing_by true widths = zeros_fit widths
nothing_by false widths = refl

all_nothing : (layout : List Shape) → FitsKept layout (nothing_kept layout)
all_nothing [] = _
all_nothing (s ∷ layout) = (nothing_by s.metadata s.widths, all_nothing layout)

pub nothing_fits : (layout : List Shape) (q : Preserved) → q ≡ map nothing_of layout → FitsKept layout q
nothing_fits layout q is = subst (FitsKept layout) (sym is) (all_nothing layout)

-- one more number

widths_put : (widths numbers : List ℕ) (f v : ℕ) → FitWidths widths numbers → v < 2 ^ slice_index widths f → FitWidths widths (slice_set numbers f v)
widths_put [] [] f v h lt = h
widths_put [] (n ∷ numbers) f v h lt = absurd h
widths_put (w ∷ widths) [] f v h lt = absurd h
widths_put (w ∷ widths) (n ∷ numbers) zero v h lt = (lt, h.1)
widths_put (w ∷ widths) (n ∷ numbers) (suc f) v h lt = (h.0, widths_put widths numbers f v h.1 lt)

none_put : (numbers : List ℕ) (f v : ℕ) → numbers ≡ [] → slice_set numbers f v ≡ []
none_put [] f v e = refl
none_put (n ∷ numbers) f v e = absurd (cc e)

numbers_by : (b : Bool) (widths numbers : List ℕ) (f v : ℕ) → MatchBool b (FitWidths widths numbers) (numbers ≡ []) → v < 2 ^ slice_index widths f → MatchBool b (FitWidths widths (slice_set numbers f v)) (slice_set numbers f v ≡ [])
numbers_by true widths numbers f v h lt = widths_put widths numbers f v h lt
numbers_by false widths numbers f v h lt = none_put numbers f v h

kept_put : (layout : List Shape) (q : Preserved) (i f v : ℕ) → FitsKept layout q → v < 2 ^ width_at layout i f → FitsKept layout (kept_at q i f v)
kept_put [] [] i f v h lt = h
kept_put [] (numbers ∷ q) i f v h lt = absurd h
kept_put (s ∷ layout) [] i f v h lt = absurd h
kept_put (s ∷ layout) (numbers ∷ q) zero f v h lt = (numbers_by s.metadata s.widths numbers f v h.0 lt, h.1)
kept_put (s ∷ layout) (numbers ∷ q) (suc i) f v h lt = (h.0, kept_put layout q i f v h.1 lt)

pub put_fits : (layout : List Shape) (old new : Preserved) (i f v : ℕ) → new ≡ kept_at old i f v → v < 2 ^ width_at layout i f → FitsKept layout old → FitsKept layout new
put_fits layout old new i f v is lt h = subst (FitsKept layout) (sym is) (kept_put layout old i f v h lt)

-- a turn of the loop over rows
pub next_kept : (s : State) (rows : List ItemRow) (i : ℕ) (d : ItemRow) (now new due : Preserved) → i < length rows → new ≡ keeping_row s now (get_or rows i d) → fold (keeping_row s) now (drop i rows) ≡ due → fold (keeping_row s) new (drop (i + 1) rows) ≡ due
next_kept s rows i d now new due lt is all =
    ap (λ (q : Preserved). fold (keeping_row s) q (drop (i + 1) rows)) is
    ∙ (ap (fold (keeping_row s) now) (sym (next_items rows i d lt)) ∙ all)

-- what a list preserves fits as well
pub list_fits : (layout shapes : List Shape) (old new : Preserved) → shapes ≡ layout → FitsKept shapes old → (FitsKept layout old → FitsKept layout new) → FitsKept shapes new
list_fits layout shapes old new same fits keeps =
    subst (λ (l : List Shape). FitsKept l new) (sym same) (keeps (subst (λ (l : List Shape). FitsKept l old) same fits))
