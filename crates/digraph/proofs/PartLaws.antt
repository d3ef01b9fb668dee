-- What a further part or a further item leaves.
use Rattle.std.proofs.Common.{◌≡◌, ℕ, zero, suc, ◌+◌, ◌-◌, ◌<◌, ◌≤◌, List, [], ◌∷◌, ◌++◌, get_or, length, drop, refl, ap, arith}
use Rattle.std.specs.Prelude.{slice_range}
use Rattle.std.proofs.lemmas.List.{drop_all, take_all, take-append-le, drop-append-le, length_push, length-drop}
use native.Mathlib.Numerals.{unary_clauses}
use Rattle.digraph.specs.Graphs.{with_edge}
use Rattle.digraph.specs.internal.Parts.{first_start, AreStarts, parts}

pub length-parts : (starts items : List ℕ) → length (parts starts items) ≡ length starts
length-parts [] items = refl
length-parts (s ∷ rest) items = ap suc (length-parts rest items)

first_start_push : (rest : List ℕ) (end : ℕ) → first_start (rest ++ end ∷ []) end ≡ first_start rest end
first_start_push [] end = refl
first_start_push (s ∷ rest) end = refl

nothing_behind : (items : List ℕ) (n : ℕ) → slice_range items (length items) n ≡ []
nothing_behind items n = rw (drop_all (length items) items (omega arith)) (take_all (n - length items) [] (omega arith))

pub parts_push : (starts items : List ℕ) → parts (starts ++ length items ∷ []) items ≡ parts starts items ++ [] ∷ []
parts_push [] items = ap (λ part. part ∷ []) (nothing_behind items (length items))
parts_push (s ∷ rest) items = rw (first_start_push rest (length items)) (ap (λ tail. slice_range items s (first_start rest (length items)) ∷ tail) (parts_push rest items))

pub starts_push : (starts : List ℕ) (end : ℕ) → AreStarts starts end → AreStarts (starts ++ end ∷ []) end
starts_push [] end h = (omega arith, omega arith, tt)
starts_push (s ∷ rest) end h = (rw (first_start_push rest end) h.0, h.1, starts_push rest end h.2)

first_within : (rest : List ℕ) (end : ℕ) → AreStarts rest end → first_start rest end ≤ end
first_within [] end h = omega arith
first_within (s ∷ rest) end h = h.1

pub starts_more : (starts : List ℕ) (end : ℕ) → AreStarts starts end → AreStarts starts (end + 1)
starts_more [] end h = tt
starts_more (s ∷ []) end h = (omega (arith, h.1), omega (arith, h.1), tt)
starts_more (s ∷ t ∷ rest) end h = (h.0, omega (arith, h.1), starts_more (t ∷ rest) end h.2)

-- a part that ends before the further item
same_part : (items : List ℕ) (x s t : ℕ) → s ≤ t → t ≤ length items → slice_range (items ++ x ∷ []) s t ≡ slice_range items s t
same_part items x s t st te = rw (drop-append-le s items (x ∷ []) (omega arith)) (take-append-le (t - s) (drop s items) (x ∷ []) (omega (arith, length-drop s items)))

last_part : (items : List ℕ) (x s : ℕ) → s ≤ length items → slice_range (items ++ x ∷ []) s (length (items ++ x ∷ [])) ≡ slice_range items s (length items) ++ x ∷ []
last_part items x s h =
    rw (drop-append-le s items (x ∷ []) h)
    (rw (
      take_all (length (items ++ x ∷ []) - s) (drop s items ++ x ∷ []) (omega (arith, length_push items x, length_push (drop s items) x, length-drop s items)),
      take_all (length items - s) (drop s items) (omega (arith, length-drop s items)),
    ) refl)

pub parts_more : (starts items : List ℕ) (x : ℕ) → AreStarts starts (length items) → parts starts (items ++ x ∷ []) ≡ with_edge (parts starts items) x
parts_more [] items x h = refl
parts_more (s ∷ []) items x h = ap (λ part. part ∷ []) (last_part items x s h.1)
parts_more (s ∷ t ∷ rest) items x h =
    rw (same_part items x s t h.0 (h.2.1)) (ap (λ tail. slice_range items s t ∷ tail) (parts_more (t ∷ rest) items x h.2))

pub parts_at : (starts items : List ℕ) (place : ℕ) → place < length starts → get_or (parts starts items) place [] ≡ slice_range items (get_or starts place 0) (get_or starts (place + 1) (length items))
parts_at [] items place h = absurd (omega arith)
parts_at (s ∷ []) items zero h = refl
parts_at (s ∷ t ∷ rest) items zero h = refl
parts_at (s ∷ rest) items (suc place) h = simp unary_clauses (simp unary_clauses at (parts_at rest items place (omega arith)))

pub starts_at : (starts : List ℕ) (place end : ℕ) → AreStarts starts end → place < length starts → (get_or starts place 0 ≤ get_or starts (place + 1) end) × (get_or starts (place + 1) end ≤ end)
starts_at [] place end h lt = absurd (omega arith)
starts_at (s ∷ []) zero end h lt = (h.0, omega arith)
starts_at (s ∷ t ∷ rest) zero end h lt = (h.0, h.2.1)
starts_at (s ∷ rest) (suc place) end h lt = simp unary_clauses (simp unary_clauses at (starts_at rest place end h.2 (omega arith)))
