-- The sizes of lists decide whether a list is too long, and whether the inputs of calculated fields are bad.
use Rattle.std.proofs.Common.{◌≡◌, ℕ, suc, zero, ◌+◌, ◌<◌, ◌⊎◌, min, Bool, true, false, cond, ◌||◌, nat_lt, MatchBool, List, [], ◌∷◌, length, get_or, map, sum_by, slice_index, inl, inr, ⊎_elim, Option, Some, None, option_map, refl, sym, ap, ◌∙◌, subst, arith}
use Rattle.std.proofs.lemmas.Bool.{lt-ltb, ltb-true}
use Rattle.std.specs.List.{list_any}
use Rattle.std.proofs.lemmas.List.{length-map}
use Rattle.std.proofs.lemmas.List.Sums.{sum_by-cons}
use Rattle.digraph.specs.Expansions.{AreSizes, HasCycle}
use Rattle.p414_syntax.specs.declared.calculations.Item.{Item}
use Rattle.p414_syntax.specs.declared.syntax.Decl.{Decl}
use Rattle.p414_syntax.specs.Expansion.{lists, list_number, items_in, items_at, Expands, Joins}
use Rattle.p414_syntax.specs.Lists.{HoldsItself, ListTooLong, InputsAreBad, is_bad_input, is_standard_item, all_inputs}
use Rattle.p414_list_check.specs.internal.Expanded.{list_row, list_graph, own_counts, total_from}
use Rattle.p414_list_check.specs.internal.Measures.{one, standard, own_length, own_standard, exceeds}
use Rattle.p414_list_check.proofs.Expanding.{get_within}
use Rattle.p414_list_check.proofs.Sized.{size_is, some_items, joined_total, some_join, node_within}
use Rattle.p414_list_check.proofs.Counting.{counts_lengths, counts_standard}
use Rattle.p414_list_check.proofs.Holding.{holds_itself}

-- sums of ones

pub ones : (all : List Item) → sum_by one all ≡ length all
ones [] = refl
ones (i ∷ all) = let a : sum_by one (i ∷ all) ≡ 1 + sum_by one all = sum_by-cons one i all in let b = ones all in omega arith

some_standard : (b : Bool) (n : ℕ) (any : Bool) → nat_lt 0 n ≡ any → nat_lt 0 (cond b 1 0 + n) ≡ (b || any)
some_standard true n any e = lt-ltb 0 (1 + n) (omega arith)
some_standard false n any e = ap (nat_lt 0) (zero_more n) ∙ e where
  zero_more : (m : ℕ) → 0 + m ≡ m
  zero_more m = omega arith

any_standard : (all : List Item) → nat_lt 0 (sum_by standard all) ≡ list_any is_standard_item all
any_standard [] = refl
any_standard (i ∷ all) = ap (nat_lt 0) (sum_by-cons standard i all) ∙ some_standard (is_standard_item i) (sum_by standard all) (list_any is_standard_item all) (any_standard all)

-- a number that was cut off is over what is below the limit where the whole is

same_order : (most a b : ℕ) → ((most < a) → most < b) → ((most < b) → most < a) → nat_lt most a ≡ nat_lt most b
same_order most a b f g = by_value (nat_lt most a) refl where
  by_value : (t : Bool) → nat_lt most a ≡ t → nat_lt most a ≡ nat_lt most b
  by_value true e = e ∙ sym (lt-ltb _ _ (f (ltb-true _ _ e)))
  by_value false e = e ∙ by_other (nat_lt most b) refl where
    by_other : (u : Bool) → nat_lt most b ≡ u → false ≡ nat_lt most b
    by_other true h = absurd (cc (e, lt-ltb _ _ (g (ltb-true _ _ h))))
    by_other false h = sym h

pub cut_order : (most limit n : ℕ) → most < limit → nat_lt most (min limit n) ≡ nat_lt most n
cut_order most limit n h = same_order most (min limit n) n (λ e. omega arith) (λ e. omega arith)

-- some number is over the limit

pub over_at : (most : ℕ) (xs : List ℕ) (k : ℕ) → k < length xs → nat_lt most (get_or xs k 0) ≡ true → list_any (nat_lt most) xs ≡ true
over_at most [] k h e = absurd (omega arith)
over_at most (x ∷ xs) zero h e = ap (λ b. b || list_any (nat_lt most) xs) e
over_at most (x ∷ xs) (suc k) h e = or_true (nat_lt most x) (list_any (nat_lt most) xs) (over_at most xs k (omega arith) e) where
  or_true : (a b : Bool) → b ≡ true → (a || b) ≡ true
  or_true true b e = refl
  or_true false b e = e

pub place_over : (most : ℕ) (xs : List ℕ) → list_any (nat_lt most) xs ≡ true → (k : ℕ) × (k < length xs) × (nat_lt most (get_or xs k 0) ≡ true)
place_over most [] e = absurd (cc e)
place_over most (x ∷ xs) e = first (nat_lt most x) refl e (place_over most xs) where
  first : (b : Bool) → nat_lt most x ≡ b → (b || list_any (nat_lt most) xs) ≡ true → (list_any (nat_lt most) xs ≡ true → (k : ℕ) × (k < length xs) × (nat_lt most (get_or xs k 0) ≡ true)) → (k : ℕ) × (k < suc (length xs)) × (nat_lt most (get_or (x ∷ xs) k 0) ≡ true)
  first true is h more = (0, omega arith, is)
  first false is h more = let p = more h in (suc p.0, omega arith, p.2)

module _ (ds : List Decl) (lengths : List ℕ) (known : AreSizes (list_graph ds) (own_counts 65537 (own_length ds) ds) 65537 lengths) where
  length_is : (l : ℕ) (items all : List Item) → items_at ds l ≡ Some items → Expands ds items all → nat_lt 4096 (slice_index lengths l) ≡ nat_lt 4096 (length all)
  length_is l items all there e =
      ap (nat_lt 4096) (size_is ds one (own_length ds) (counts_lengths ds) 65537 lengths known l items all there e ∙ ap (min 65537) (ones all))
      ∙ cut_order 4096 65537 (length all) (omega arith)

  pub long_is : list_any (nat_lt 4096) lengths ≡ true → ListTooLong ds
  long_is e =
      let p = place_over 4096 lengths e in
      let same : length lengths ≡ length (list_graph ds) = known.each in
      let rows : length (list_graph ds) ≡ length (lists ds) = length-map (lists ds) (list_row ds) in
      let f = get_within (lists ds) p.0 (omega arith) in
      let there : items_at ds p.0 ≡ Some f.0.items = ap (option_map items_in) f.1 in
      let all = some_items ds one (own_length ds) (counts_lengths ds) 65537 lengths known p.0 f.0.items there in
      record { list = p.0; items = f.0.items; all = all.0; numbered = there; expands = all.1; long = ltb-true _ _ (sym (length_is p.0 f.0.items all.0 there all.1) ∙ p.2) }

  pub none_long : list_any (nat_lt 4096) lengths ≡ false → ListTooLong ds → ⊥
  none_long e h =
      let within : h.list < length lengths = subst (λ n. h.list < n) (sym known.each) (node_within ds h.list h.items h.numbered) in
      let over : nat_lt 4096 (slice_index lengths h.list) ≡ true = length_is h.list h.items h.all h.numbered h.expands ∙ lt-ltb _ _ h.long in
      cc (e, over_at 4096 lengths h.list within over)

  module _ (standards : List ℕ) (known_standards : AreSizes (list_graph ds) (own_counts 65537 own_standard ds) 65537 standards) where
    abbrev total : List ℕ → Option ℕ
    total sizes = total_from 65537 sizes 0 (map (list_number ds) (all_inputs ds))

    abbrev pub judged : Bool
    judged = exceeds (total lengths) 65536 || exceeds (total standards) 0

    or_other : (a b : Bool) → (a || b) ≡ (b || a)
    or_other true true = refl
    or_other true false = refl
    or_other false true = refl
    or_other false false = refl

    zero_more : (n : ℕ) → 0 + n ≡ n
    zero_more n = omega arith

    -- of the joined inputs the totals say whether they are bad
    judged_is : (items : List Item) → Joins ds (all_inputs ds) items → judged ≡ is_bad_input items
    judged_is items joins =
        let a : total lengths ≡ Some (min 65537 (0 + sum_by one items)) = joined_total ds one (own_length ds) (counts_lengths ds) 65537 lengths known (all_inputs ds) items 0 (omega arith) joins in
        let b : total standards ≡ Some (min 65537 (0 + sum_by standard items)) = joined_total ds standard own_standard (counts_standard ds) 65537 standards known_standards (all_inputs ds) items 0 (omega arith) joins in
        let long : exceeds (total lengths) 65536 ≡ nat_lt 65536 (length items) =
        ap (λ o. exceeds o 65536) a ∙ (ap (λ n. nat_lt 65536 (min 65537 n)) (zero_more (sum_by one items) ∙ ones items) ∙ cut_order 65536 65537 (length items) (omega arith)) in
        let reads : exceeds (total standards) 0 ≡ list_any is_standard_item items =
        ap (λ o. exceeds o 0) b ∙ (ap (λ n. nat_lt 0 (min 65537 n)) (zero_more (sum_by standard items)) ∙ (cut_order 0 65537 (sum_by standard items) (omega arith) ∙ any_standard items)) in
        ap (λ t. t || exceeds (total standards) 0) long ∙ (ap (λ t. nat_lt 65536 (length items) || t) reads ∙ or_other (nat_lt 65536 (length items)) (list_any is_standard_item items))

    -- totals that are over something are there
    some_over : (o : Option ℕ) (most : ℕ) → exceeds o most ≡ true → (n : ℕ) × (o ≡ Some n)
    some_over None most e = absurd (cc e)
    some_over (Some n) most e = (n, refl)

    joined_where : (a : Bool) → exceeds (total lengths) 65536 ≡ a → (a || exceeds (total standards) 0) ≡ true → (items : List Item) × Joins ds (all_inputs ds) items
    joined_where true is e =
        let n = some_over (total lengths) 65536 is in
        some_join ds one (own_length ds) (counts_lengths ds) 65537 lengths known (all_inputs ds) 0 n.0 n.1
    joined_where false is e =
        let n = some_over (total standards) 0 e in
        some_join ds standard own_standard (counts_standard ds) 65537 standards known_standards (all_inputs ds) 0 n.0 n.1

    pub inputs_are : (b : Bool) → judged ≡ b → MatchBool b (InputsAreBad ds) (InputsAreBad ds → ⊥)
    inputs_are true e =
        let h = joined_where (exceeds (total lengths) 65536) refl e in
        (h.0, h.1, sym (judged_is h.0 h.1) ∙ e)
    inputs_are false e = λ h. cc (e, judged_is h.0 h.1, h.2)

-- all that is asked of C8

pub cyclic_is : (ds : List Decl) → HasCycle (list_graph ds) → HoldsItself ds ⊎ ListTooLong ds ⊎ InputsAreBad ds
cyclic_is ds h = inl (holds_itself ds h)

pub acyclic_is : (ds : List Decl) (b : Bool) → (HoldsItself ds → ⊥) → (ListTooLong ds → ⊥) → MatchBool b (InputsAreBad ds) (InputsAreBad ds → ⊥) → MatchBool b (HoldsItself ds ⊎ ListTooLong ds ⊎ InputsAreBad ds) ((HoldsItself ds ⊎ ListTooLong ds ⊎ InputsAreBad ds) → ⊥)
acyclic_is ds true cycle long bad = inr (inr bad)
acyclic_is ds false cycle long bad = λ h. ⊎_elim cycle (λ l. ⊎_elim long bad l) h
