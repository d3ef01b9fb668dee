-- Laws of the search for a group among groups in order.
use Rattle.std.proofs.Common.{◌≡◌, ℕ, zero, suc, ◌+◌, ◌-◌, ◌<◌, ◌≤◌, true, false, cond, Option, Some, None, unwrap_or, option_map, List, [], ◌∷◌, length, min, drop, map, get_or, slice_get, HoldsAt, refl, sym, ◌∙◌, ap, subst, add-one, arith}
use Rattle.std.specs.Global.{Vec}
use Rattle.std.specs.List.Sorted.{IsStrictlySortedBy, IsNonDecreasingBy, IsPartitionPoint}
use Rattle.std.specs.Ordering.{nat_cmp, is_lt, is_ne, ordering_index, ordering_then, ordering_reverse}
use Rattle.std.specs.declared.cmp.Ordering.{Ordering}
use Rattle.std.specs.declared.cmp.Ordering.TheVariants.{Less, Equal, Greater}
use Rattle.std.specs.Cmp.{eq_by_cmp_equiv}
use Rattle.std.specs.Cmp.Lexicographic.{slice_cmp, nat_list_cmp_total}
use Rattle.std.specs.Map.{keys_of}
use Rattle.std.proofs.lemmas.Bool.Decides.{nat_tests}
use Rattle.std.proofs.lemmas.List.{get_or-map, length-map, length-drop}
use Rattle.std.proofs.lemmas.List.Sorted.{searchable_from_sorted}
use Rattle.std.proofs.lemmas.Option.{slice_get-map, slice_get_read}
use Rattle.std.proofs.lemmas.Map.Lookups.{exact_bytes}
use Rattle.std.proofs.lemmas.Map.Keys.{IsDistinct-from_sorted, Less-from_sorted}
use Rattle.std.proofs.lemmas.Map.Entries.{lookup_from_place, lookup_at_gap}
use Rattle.match_core.specs.declared.signatures.KeySpec.{KeySpec}
use Rattle.match_core.specs.declared.levels.Level.{Level}
use Rattle.match_core.specs.declared.groups.Group.{Group}
use Rattle.match_core.specs.Signatures.{is_lpm}
use Rattle.match_core.specs.internal.Groups.{group_of, levels_in, pairs_of, levels_at, AreInOrder}

-- ---- two lists compared item by item
then_step : (a b : List ℕ) (i : ℕ) → i < length a → i < length b → slice_cmp nat_cmp (drop i a) (drop i b) ≡ ordering_then (nat_cmp (get_or a i 0) (get_or b i 0)) (slice_cmp nat_cmp (drop (suc i) a) (drop (suc i) b))
then_step [] b i lt within = absurd (omega arith)
then_step (x ∷ a) [] i lt within = absurd (omega arith)
then_step (x ∷ a) (y ∷ b) zero lt within = refl
then_step (x ∷ a) (y ∷ b) (suc i) lt within = then_step a b i (omega arith) (omega arith)

then_same : (o next : Ordering) → false ≡ is_ne o → ordering_then o next ≡ next
then_same Less next is = absurd (let never : false ≡ true = is in cc)
then_same Equal next is = refl
then_same Greater next is = absurd (let never : false ≡ true = is in cc)

then_other : (o next : Ordering) → true ≡ is_ne o → ordering_then o next ≡ o
then_other Less next is = refl
then_other Equal next is = absurd (let never : true ≡ false = is in cc)
then_other Greater next is = refl

-- one item is the same
pub compare_next : (a b : List ℕ) (i : ℕ) (o all : Ordering) → i < length a → i < length b → o ≡ nat_cmp (get_or a i 0) (get_or b i 0) → false ≡ is_ne o → slice_cmp nat_cmp (drop i a) (drop i b) ≡ all → slice_cmp nat_cmp (drop (i + 1) a) (drop (i + 1) b) ≡ all
compare_next a b i o all lt within is same so_far =
    rw add-one (sym (then_step a b i lt within ∙ ap (λ (x : Ordering). ordering_then x (slice_cmp nat_cmp (drop (suc i) a) (drop (suc i) b))) (sym is) ∙ then_same o (slice_cmp nat_cmp (drop (suc i) a) (drop (suc i) b)) same) ∙ so_far)

-- one item differs
pub compare_here : (a b : List ℕ) (i : ℕ) (o all : Ordering) → i < length a → i < length b → o ≡ nat_cmp (get_or a i 0) (get_or b i 0) → true ≡ is_ne o → slice_cmp nat_cmp (drop i a) (drop i b) ≡ all → o ≡ all
compare_here a b i o all lt within is other so_far =
    sym (then_step a b i lt within ∙ ap (λ (x : Ordering). ordering_then x (slice_cmp nat_cmp (drop (suc i) a) (drop (suc i) b))) (sym is) ∙ then_other o (slice_cmp nat_cmp (drop (suc i) a) (drop (suc i) b)) other) ∙ so_far

less_cmp : (m n : ℕ) → m < n → Less ≡ nat_cmp m n
less_cmp m n lt = grind (arith, nat_tests)

same_cmp : (m n : ℕ) → m ≡ n → Equal ≡ nat_cmp m n
same_cmp m n is = grind (arith, nat_tests)

more_cmp : (m n : ℕ) → n < m → Greater ≡ nat_cmp m n
more_cmp m n lt = grind (arith, nat_tests)

end_by : (a b : List ℕ) (m n : ℕ) → m ≡ length a → n ≡ length b → min m n ≡ 0 → (i : ℕ) → slice_cmp nat_cmp a b ≡ nat_cmp (i + m) (i + n)
end_by [] [] m n m_is n_is none i = same_cmp (i + m) (i + n) (omega arith)
end_by [] (y ∷ b) m n m_is n_is none i = less_cmp (i + m) (i + n) (omega arith)
end_by (x ∷ a) [] m n m_is n_is none i = more_cmp (i + m) (i + n) (omega arith)
end_by (x ∷ a) (y ∷ b) m n m_is n_is none i = absurd (omega arith)

-- no item is left of one list
pub compare_end : (a b : List ℕ) (i m n : ℕ) (all : Ordering) → m ≡ length a → n ≡ length b → i ≤ m → i ≤ n → min m n ≤ i → slice_cmp nat_cmp (drop i a) (drop i b) ≡ all → nat_cmp m n ≡ all
compare_end a b i m n all m_is n_is le within end so_far =
    let left : m - i ≡ length (drop i a) = omega (arith, length-drop i a) in
    let right : n - i ≡ length (drop i b) = omega (arith, length-drop i b) in
    let first : i + (m - i) ≡ m = omega arith in
    let second : i + (n - i) ≡ n = omega arith in
    sym (rw (first, second) at (end_by (drop i a) (drop i b) (m - i) (n - i) left right (omega arith) i)) ∙ so_far

-- ---- the items of a group
pub group_get : (specs : List KeySpec) (key : List ℕ) (i : ℕ) (d : KeySpec) → i < length specs → i < length key → get_or (group_of specs key) i 0 ≡ cond (is_lpm (get_or specs i d).kind) 0 (get_or key i 0)
group_get [] key i d lt within = absurd (omega arith)
group_get (spec ∷ specs) [] i d lt within = absurd (omega arith)
group_get (spec ∷ specs) (x ∷ key) zero d lt within = refl
group_get (spec ∷ specs) (x ∷ key) (suc i) d lt within = group_get specs key i d (omega arith) (omega arith)

pub group_length : (specs : List KeySpec) (key : List ℕ) → length key ≡ length specs → length (group_of specs key) ≡ length key
group_length [] key same = refl
group_length (spec ∷ specs) [] same = refl
group_length (spec ∷ specs) (x ∷ key) same = let rest = group_length specs key (omega arith) in omega (arith, rest)

-- ---- the search
values_are : (groups : List Group) → keys_of (pairs_of groups) ≡ map (λ (g : Group). g.values) groups
values_are [] = refl
values_are (g ∷ groups) = ap (λ (l : List (List ℕ)). g.values ∷ l) (values_are groups)

keyed_at : (P : List ℕ → Type 0) (groups : List Group) (j : ℕ) (e : List ℕ × Vec Level) → slice_get (pairs_of groups) j ≡ Some e → ((d : Group) → j < length groups → P (get_or groups j d).values) → P e.0
keyed_at P [] j e is all = absurd (let never : None ≡ Some e = is in cc)
keyed_at P (g ∷ groups) zero e is all = subst (λ (x : List ℕ × Vec Level). P x.0) (ap (λ (o : Option (List ℕ × Vec Level)). unwrap_or o (g.values, g.levels)) is) (all g (omega arith))
keyed_at P (g ∷ groups) (suc j) e is all = keyed_at P groups j e is (λ d lt. all d (omega arith))

module _ (groups : List Group) (in_order : AreInOrder (pairs_of groups)) (q : List ℕ) where
  less_at : (i j : ℕ) (d : Group) → i < j → j < length groups → slice_cmp nat_cmp (get_or groups i d).values (get_or groups j d).values ≡ Less
  less_at i j d lt within =
      let sorted : IsStrictlySortedBy (slice_cmp nat_cmp) (map (λ (g : Group). g.values) groups) = subst (λ (l : List (List ℕ)). IsStrictlySortedBy (slice_cmp nat_cmp) l) (values_are groups) in_order in
      let many : length (map (λ (g : Group). g.values) groups) ≡ length groups = length-map groups (λ (g : Group). g.values) in
      let less = Less-from_sorted (slice_cmp nat_cmp) (map (λ (g : Group). g.values) groups) i j [] sorted lt (omega (arith, many)) in
      rw (get_or-map (λ (g : Group). g.values) groups i d [] (omega arith), get_or-map (λ (g : Group). g.values) groups j d [] within) at less

  rises : IsNonDecreasingBy (λ (g : Group). ordering_index (slice_cmp nat_cmp g.values q)) groups
  rises = searchable_from_sorted nat_list_cmp_total (λ (g : Group). g.values) groups q
      (λ k d low high.
      let less : slice_cmp nat_cmp (get_or groups k d).values (get_or groups (k + 1) d).values ≡ Less = less_at k (k + 1) d (omega arith) high in
      ap is_lt (nat_list_cmp_total.antisymm (get_or groups (k + 1) d).values (get_or groups k d).values ∙ ap ordering_reverse less))

  -- a group with these values is found
  pub found_place : (i : ℕ) (g : Group) → i < length groups → g ≡ get_or groups i g → HoldsAt (λ (h : Group). slice_cmp nat_cmp h.values q ≡ Equal) groups i → g.levels.items ≡ levels_at (pairs_of groups) q
  found_place i g within is equal =
      let same : g.values ≡ q = exact_bytes g.values q (ap (λ (h : Group). slice_cmp nat_cmp h.values q) is ∙ equal g) in
      let at : slice_get (pairs_of groups) i ≡ Some (g.values, g.levels) =
      slice_get-map (λ (h : Group). (h.values, h.levels)) groups i ∙ ap (λ (o : Option Group). option_map (λ (h : Group). (h.values, h.levels)) o) (slice_get_read groups (length groups) i g refl within is) in
      let found = lookup_from_place (eq_by_cmp_equiv nat_list_cmp_total) (pairs_of groups) i g.values g.levels (IsDistinct-from_sorted (slice_cmp nat_cmp) (keys_of (pairs_of groups)) in_order) at in
      sym (ap (λ (v : List ℕ). levels_at (pairs_of groups) v) (sym same) ∙ ap levels_in found)

  -- no group has these values
  pub no_place : (i : ℕ) → i ≤ length groups → (IsNonDecreasingBy (λ (g : Group). ordering_index (slice_cmp nat_cmp g.values q)) groups → IsPartitionPoint (λ (g : Group). slice_cmp nat_cmp g.values q ≡ Less) (λ (g : Group). slice_cmp nat_cmp g.values q ≡ Greater) groups i) → [] ≡ levels_at (pairs_of groups) q
  no_place i within parts =
      let part = parts rises in
      let turned : (v : List ℕ) (o : Ordering) → slice_cmp nat_cmp v q ≡ o → slice_cmp nat_cmp q v ≡ ordering_reverse o = λ v o is. nat_list_cmp_total.antisymm q v ∙ ap ordering_reverse is in
      sym (ap levels_in (lookup_at_gap nat_list_cmp_total q (pairs_of groups) i in_order
      (λ j e lt is. keyed_at (λ (v : List ℕ). slice_cmp nat_cmp q v ≡ Greater) groups j e is (λ d inside. turned (get_or groups j d).values Less (part.0 j d (omega arith) lt)))
      (λ e is. keyed_at (λ (v : List ℕ). slice_cmp nat_cmp q v ≡ Less) groups i e is (λ d inside. turned (get_or groups i d).values Greater (part.1 i d (omega arith) inside)))))
