-- Laws of the index by groups.
use Rattle.std.proofs.Common.{◌≡◌, ℕ, zero, suc, ◌+◌, ◌-◌, ◌/◌, ◌^◌, ◌<◌, ◌≤◌, ◌==◌, ◌&&◌, nat_eq, Bool, true, false, cond, inl, inr, Option, Some, None, unwrap_or, List, [], ◌∷◌, ◌++◌, length, min, drop, count_by, get_or, refl, sym, ◌∙◌, ap, add-one, arith}
use Rattle.std.specs.List.{AllZip}
use Rattle.std.specs.Ordering.{nat_cmp, is_eq}
use Rattle.std.specs.Cmp.{unsigned_ties}
use Rattle.std.specs.Cmp.Lexicographic.{slice_cmp, pointwise, texts_ties}
use Rattle.std.proofs.Math.Bool.{and-true, and-false}
use Rattle.std.proofs.lemmas.Bool.{cases_lt}
use Rattle.std.proofs.lemmas.List.{append-nil, drop_all}
use Rattle.std.proofs.lemmas.List.Sums.{sum_by-cons}
use Rattle.std.proofs.lemmas.Map.Lookups.{exact_bytes}
use Rattle.match_core.specs.declared.signatures.KeyKind.{KeyKind}
use Rattle.match_core.specs.declared.signatures.KeyKind.TheVariants as kind
use Rattle.match_core.specs.declared.signatures.KeySpec.{KeySpec}
use Rattle.match_core.specs.declared.entries.KeyMatch.{KeyMatch}
use Rattle.match_core.specs.declared.levels.Level.{Level}
use Rattle.match_core.specs.Signatures.{is_lpm}
use Rattle.match_core.specs.Fits.{FitsKey}
use Rattle.match_core.specs.internal.Levels.{found_in, IsLevelPut}
use Rattle.match_core.specs.internal.Codes.{code_of, part_by, code_at, number_found, IsLongest}
use Rattle.match_core.specs.internal.Groups.{group_of, prefix_in, width_in, LevelsByGroup, levels_at, AreGiven, group_found, IsCodePut}
use Rattle.match_core.proofs.Indexes.{equal_of}

-- ---- a code is its group and its prefix
counts : (spec : KeySpec) (specs : List KeySpec) (b : Bool) → is_lpm spec.kind ≡ b → count_by (λ (s : KeySpec). is_lpm s.kind) (spec ∷ specs) ≡ cond b 1 0 + count_by (λ (s : KeySpec). is_lpm s.kind) specs
counts spec specs b is =
    sum_by-cons (λ (s : KeySpec). cond (is_lpm s.kind) 1 0) spec specs
    ∙ ap (λ (x : Bool). cond x 1 0 + count_by (λ (s : KeySpec). is_lpm s.kind) specs) is

same_by : (spec : KeySpec) (specs : List KeySpec) (n : ℕ) (code : List ℕ) (b : Bool) → is_lpm spec.kind ≡ b → count_by (λ (s : KeySpec). is_lpm s.kind) (spec ∷ specs) ≡ 0 → (count_by (λ (s : KeySpec). is_lpm s.kind) specs ≡ 0 → group_of specs code ≡ code) → group_of (spec ∷ specs) (n ∷ code) ≡ n ∷ code
same_by spec specs n code true is none rest = let here = counts spec specs true is in absurd (omega (arith, here))
same_by spec specs n code false is none rest = let here = counts spec specs false is in rw is (ap (λ (c : List ℕ). n ∷ c) (rest (omega (arith, here))))

same_group : (specs : List KeySpec) (code : List ℕ) → count_by (λ (s : KeySpec). is_lpm s.kind) specs ≡ 0 → group_of specs code ≡ code
same_group [] code none = refl
same_group (spec ∷ specs) [] none = refl
same_group (spec ∷ specs) (n ∷ code) none = same_by spec specs n code (is_lpm spec.kind) refl none (λ few. same_group specs code few)

swapped : (x y : Bool) → (x && y) ≡ (y && x)
swapped true y = sym (and-true y)
swapped false y = sym (and-false y)

joined : (x y z : Bool) → (x && (y && z)) ≡ ((x && y) && z)
joined true y z = refl
joined false y z = refl

split_by : (spec : KeySpec) (specs : List KeySpec) (x y : ℕ) (a b : List ℕ) (t : Bool) → is_lpm spec.kind ≡ t → count_by (λ (s : KeySpec). is_lpm s.kind) (spec ∷ specs) ≤ 1 → (count_by (λ (s : KeySpec). is_lpm s.kind) specs ≤ 1 → pointwise nat_eq a b ≡ (pointwise nat_eq (group_of specs a) (group_of specs b) && nat_eq (prefix_in specs a) (prefix_in specs b))) → pointwise nat_eq (x ∷ a) (y ∷ b) ≡ (pointwise nat_eq (group_of (spec ∷ specs) (x ∷ a)) (group_of (spec ∷ specs) (y ∷ b)) && nat_eq (prefix_in (spec ∷ specs) (x ∷ a)) (prefix_in (spec ∷ specs) (y ∷ b)))
split_by spec specs x y a b true is one rest =
    let here = counts spec specs true is in
    let none : count_by (λ (s : KeySpec). is_lpm s.kind) specs ≡ 0 = omega (arith, here) in
    rw (is, same_group specs a none, same_group specs b none) (swapped (nat_eq x y) (pointwise nat_eq a b))
split_by spec specs x y a b false is one rest =
    let here = counts spec specs false is in
    rw is (ap (λ (t : Bool). nat_eq x y && t) (rest (omega (arith, here)))
    ∙ joined (nat_eq x y) (pointwise nat_eq (group_of specs a) (group_of specs b)) (nat_eq (prefix_in specs a) (prefix_in specs b)))

-- two codes are the same where their groups and their prefixes are
split_is : (specs : List KeySpec) (a b : List ℕ) → count_by (λ (s : KeySpec). is_lpm s.kind) specs ≤ 1 → pointwise nat_eq a b ≡ (pointwise nat_eq (group_of specs a) (group_of specs b) && nat_eq (prefix_in specs a) (prefix_in specs b))
split_is [] a b one = sym (and-true (pointwise nat_eq a b))
split_is (spec ∷ specs) [] [] one = refl
split_is (spec ∷ specs) [] (y ∷ b) one = refl
split_is (spec ∷ specs) (x ∷ a) [] one = refl
split_is (spec ∷ specs) (x ∷ a) (y ∷ b) one = split_by spec specs x y a b (is_lpm spec.kind) refl one (λ few. split_is specs a b few)

-- ---- what a key is found by
group_part : (k : KeyKind) (width bits v : ℕ) → cond (is_lpm k) 0 (part_by k width bits v) ≡ cond (is_lpm k) 0 v
group_part kind.Exact width bits v = refl
group_part kind.Ternary width bits v = refl
group_part kind.Lpm width bits v = refl
group_part kind.Range width bits v = refl

group_at : (specs : List KeySpec) (key : List ℕ) (bits : ℕ) → length key ≡ length specs → group_of specs (code_at specs bits key) ≡ group_of specs key
group_at [] [] bits same = refl
group_at [] (v ∷ key) bits same = absurd (omega arith)
group_at (spec ∷ specs) [] bits same = refl
group_at (spec ∷ specs) (v ∷ key) bits same =
    ap (λ (n : ℕ). n ∷ group_of specs (code_at specs bits key)) (group_part spec.kind spec.width bits v)
    ∙ ap (λ (group : List ℕ). cond (is_lpm spec.kind) 0 v ∷ group) (group_at specs key bits (omega arith))

prefix_part : (k : KeyKind) (width bits v p q more : ℕ) → p ≡ q / 2 ^ (more - bits) → cond (is_lpm k) (part_by k width bits v) p ≡ cond (is_lpm k) v q / 2 ^ (cond (is_lpm k) width more - bits)
prefix_part kind.Exact width bits v p q more rest = rest
prefix_part kind.Ternary width bits v p q more rest = rest
prefix_part kind.Lpm width bits v p q more rest = refl
prefix_part kind.Range width bits v p q more rest = rest

no_part : (bits : ℕ) → 0 ≡ 0 / 2 ^ (0 - bits)
no_part bits = let none : 0 - bits ≡ 0 = omega arith in rw none refl

prefix_at : (specs : List KeySpec) (key : List ℕ) (bits : ℕ) → length key ≡ length specs → prefix_in specs (code_at specs bits key) ≡ prefix_in specs key / 2 ^ (width_in specs - bits)
prefix_at [] [] bits same = no_part bits
prefix_at [] (v ∷ key) bits same = absurd (omega arith)
prefix_at (spec ∷ specs) [] bits same = absurd (omega arith)
prefix_at (spec ∷ specs) (v ∷ key) bits same =
    prefix_part spec.kind spec.width bits v (prefix_in specs (code_at specs bits key)) (prefix_in specs key) (width_in specs) (prefix_at specs key bits (omega arith))

key_found : (specs : List KeySpec) (groups : LevelsByGroup) (key : List ℕ) (levels : List Level) (bits : ℕ) → length key ≡ length specs → levels_at groups (group_of specs key) ≡ levels → group_found specs groups bits (code_at specs bits key) ≡ found_in nat_cmp levels bits (prefix_in specs key / 2 ^ (width_in specs - bits))
key_found specs groups key levels bits same is =
    ap (λ (group : List ℕ). found_in nat_cmp (levels_at groups group) bits (prefix_in specs (code_at specs bits key))) (group_at specs key bits same)
    ∙ ap (λ (p : ℕ). found_in nat_cmp (levels_at groups (group_of specs key)) bits p) (prefix_at specs key bits same)
    ∙ ap (λ (l : List Level). found_in nat_cmp l bits (prefix_in specs key / 2 ^ (width_in specs - bits))) is

-- the longest prefix in the group of a key is the longest one of all
pub groups_longest : (specs : List KeySpec) (groups : LevelsByGroup) (key : List ℕ) (levels : List Level) (result : Option ℕ) → length key ≡ length specs → levels_at groups (group_of specs key) ≡ levels → IsLongest (number_found levels) (record { kind = kind.Lpm; width = width_in specs } ∷ []) (prefix_in specs key ∷ []) result → IsLongest (group_found specs groups) specs key result
groups_longest specs groups key levels None same is none = λ bits. key_found specs groups key levels bits same is ∙ none bits
groups_longest specs groups key levels (Some n) same is at = record {
  bits = at.bits;
  is = key_found specs groups key levels at.bits same is ∙ at.is;
  longest = λ longer lt. key_found specs groups key levels longer same is ∙ at.longest longer lt;
}

-- ---- a code is put into its group
given_twice : (b : Bool) (new old rest : List Level) → cond b new (cond b old rest) ≡ cond b new rest
given_twice true new old rest = refl
given_twice false new old rest = refl

module _ (specs : List KeySpec) (old mid new : LevelsByGroup) (code group : List ℕ) (levels put : List Level) (taken : AreGiven old mid group []) (given : AreGiven mid new group put) where
  given_at : (other : List ℕ) → levels_at new other ≡ cond (is_eq (slice_cmp nat_cmp group other)) put (levels_at old other)
  given_at other =
      given other
      ∙ ap (λ (l : List Level). cond (is_eq (slice_cmp nat_cmp group other)) put l) (taken other)
      ∙ given_twice (is_eq (slice_cmp nat_cmp group other)) put [] (levels_at old other)

  put_by : (bits i many : ℕ) (other : List ℕ) (t : Bool) → count_by (λ (s : KeySpec). is_lpm s.kind) specs ≤ 1 → group ≡ group_of specs code → levels ≡ levels_at old group → IsLevelPut nat_cmp levels put bits (prefix_in specs code) i → is_eq (slice_cmp nat_cmp group (group_of specs other)) ≡ t → group_found specs new many other ≡ cond (bits == many && is_eq (slice_cmp nat_cmp code other)) (Some (unwrap_or (group_found specs old bits code) i)) (group_found specs old many other)
  put_by bits i many other true one group_is levels_are puts is =
      let mine : ℕ = prefix_in specs code in
      let its : ℕ = prefix_in specs other in
      let same : group ≡ group_of specs other = exact_bytes group (group_of specs other) (equal_of (slice_cmp nat_cmp group (group_of specs other)) is) in
      let at : levels_at new (group_of specs other) ≡ put = given_at (group_of specs other) ∙ ap (λ (b : Bool). cond b put (levels_at old (group_of specs other))) is in
      let groups : pointwise nat_eq (group_of specs code) (group_of specs other) ≡ true =
      texts_ties (group_of specs code) (group_of specs other) ∙ ap (λ (g : List ℕ). is_eq (slice_cmp nat_cmp g (group_of specs other))) (sym group_is) ∙ is in
      let codes : is_eq (slice_cmp nat_cmp code other) ≡ is_eq (nat_cmp mine its) =
      sym (texts_ties code other) ∙ split_is specs code other one ∙ ap (λ (b : Bool). b && nat_eq mine its) groups ∙ unsigned_ties mine its in
      let here : levels ≡ levels_at old (group_of specs code) = levels_are ∙ ap (λ (g : List ℕ). levels_at old g) group_is in
      let there : levels ≡ levels_at old (group_of specs other) = levels_are ∙ ap (λ (g : List ℕ). levels_at old g) same in
      ap (λ (l : List Level). found_in nat_cmp l many its) at
      ∙ puts many its
      ∙ ap (λ (b : Bool). cond (bits == many && b) (Some (unwrap_or (found_in nat_cmp levels bits mine) i)) (found_in nat_cmp levels many its)) (sym codes)
      ∙ ap (λ (l : List Level). cond (bits == many && is_eq (slice_cmp nat_cmp code other)) (Some (unwrap_or (found_in nat_cmp l bits mine) i)) (found_in nat_cmp levels many its)) here
      ∙ ap (λ (l : List Level). cond (bits == many && is_eq (slice_cmp nat_cmp code other)) (Some (unwrap_or (group_found specs old bits code) i)) (found_in nat_cmp l many its)) there
  put_by bits i many other false one group_is levels_are puts is =
      let at : levels_at new (group_of specs other) ≡ levels_at old (group_of specs other) = given_at (group_of specs other) ∙ ap (λ (b : Bool). cond b put (levels_at old (group_of specs other))) is in
      let groups : pointwise nat_eq (group_of specs code) (group_of specs other) ≡ false =
      texts_ties (group_of specs code) (group_of specs other) ∙ ap (λ (g : List ℕ). is_eq (slice_cmp nat_cmp g (group_of specs other))) (sym group_is) ∙ is in
      let codes : is_eq (slice_cmp nat_cmp code other) ≡ false =
      sym (texts_ties code other) ∙ split_is specs code other one ∙ ap (λ (b : Bool). b && nat_eq (prefix_in specs code) (prefix_in specs other)) groups in
      ap (λ (l : List Level). found_in nat_cmp l many (prefix_in specs other)) at
      ∙ sym
      (ap (λ (b : Bool). cond b (Some (unwrap_or (group_found specs old bits code) i)) (group_found specs old many other))
      (ap (λ (b : Bool). bits == many && b) codes ∙ and-false (bits == many)))

  pub group_put : (bits i : ℕ) → count_by (λ (s : KeySpec). is_lpm s.kind) specs ≤ 1 → group ≡ group_of specs code → levels ≡ levels_at old group → IsLevelPut nat_cmp levels put bits (prefix_in specs code) i → IsCodePut specs old new bits code i
  group_put bits i one group_is levels_are puts = λ many other.
      put_by bits i many other (is_eq (slice_cmp nat_cmp group (group_of specs other))) one group_is levels_are puts refl

-- ---- an entry that fits has a code of as many numbers as its table has keys
pub code_length : (specs : List KeySpec) (ones : List KeyMatch) → AllZip FitsKey specs ones → length (code_of specs ones) ≡ length specs
code_length [] [] fits = refl
code_length [] (one ∷ ones) fits = absurd fits
code_length (spec ∷ specs) [] fits = absurd fits
code_length (spec ∷ specs) (one ∷ ones) fits = let rest = code_length specs ones fits.1 in omega (arith, rest)

-- ---- the loops
none_grouped : (specs : List KeySpec) (numbers : List ℕ) (i : ℕ) → length numbers ≡ length specs → min (length specs) (length numbers) ≤ i → group_of (drop i specs) (drop i numbers) ≡ []
none_grouped specs numbers i same le =
    let few : drop i specs ≡ [] = drop_all i specs (omega arith) in
    let none : drop i numbers ≡ [] = drop_all i numbers (omega arith) in
    rw (few, none) refl

pub group_end : (specs : List KeySpec) (numbers : List ℕ) (i : ℕ) (all group : List ℕ) → length numbers ≡ length specs → min (length specs) (length numbers) ≤ i → group ++ group_of (drop i specs) (drop i numbers) ≡ all → group ≡ all
group_end specs numbers i all group same le so_far = sym (append-nil group) ∙ (ap (λ (rest : List ℕ). group ++ rest) (sym (none_grouped specs numbers i same le)) ∙ so_far)

-- the number at a place, or what stands behind it
prefix_step : (specs : List KeySpec) (numbers : List ℕ) (i : ℕ) (d : KeySpec) → i < min (length specs) (length numbers) → prefix_in (drop i specs) (drop i numbers) ≡ cond (is_lpm (get_or specs i d).kind) (get_or numbers i 0) (prefix_in (drop (suc i) specs) (drop (suc i) numbers))
prefix_step [] numbers i d lt = absurd (omega arith)
prefix_step (spec ∷ specs) [] i d lt = absurd (omega arith)
prefix_step (spec ∷ specs) (n ∷ numbers) zero d lt = refl
prefix_step (spec ∷ specs) (n ∷ numbers) (suc i) d lt = prefix_step specs numbers i d (omega arith)

prefix_none : (specs : List KeySpec) (numbers : List ℕ) (i : ℕ) → min (length specs) (length numbers) ≤ i → prefix_in (drop i specs) (drop i numbers) ≡ 0
prefix_none specs numbers i le =
    elim (cases_lt i (length specs)) [
      | inl more ↦ let none : drop i numbers ≡ [] = drop_all i numbers (omega arith) in rw none (nothing (drop i specs))
      | inr few ↦ let none : drop i specs ≡ [] = drop_all i specs few in rw none refl
    ]
  where
    nothing : (rest : List KeySpec) → prefix_in rest [] ≡ 0
    nothing [] = refl
    nothing (spec ∷ rest) = refl

pub prefix_next : (specs : List KeySpec) (numbers : List ℕ) (i all : ℕ) (d : KeySpec) → i < min (length specs) (length numbers) → is_lpm (get_or specs i d).kind ≡ false → prefix_in (drop i specs) (drop i numbers) ≡ all → prefix_in (drop (i + 1) specs) (drop (i + 1) numbers) ≡ all
prefix_next specs numbers i all d lt is so_far =
    rw add-one
    (sym (prefix_step specs numbers i d lt ∙ ap (λ (b : Bool). cond b (get_or numbers i 0) (prefix_in (drop (suc i) specs) (drop (suc i) numbers))) is) ∙ so_far)

pub prefix_here : (specs : List KeySpec) (numbers : List ℕ) (i all : ℕ) (d : KeySpec) → i < min (length specs) (length numbers) → is_lpm (get_or specs i d).kind ≡ true → prefix_in (drop i specs) (drop i numbers) ≡ all → get_or numbers i 0 ≡ all
prefix_here specs numbers i all d lt is so_far =
    sym (prefix_step specs numbers i d lt ∙ ap (λ (b : Bool). cond b (get_or numbers i 0) (prefix_in (drop (suc i) specs) (drop (suc i) numbers))) is) ∙ so_far

pub prefix_end : (specs : List KeySpec) (numbers : List ℕ) (i all : ℕ) → min (length specs) (length numbers) ≤ i → prefix_in (drop i specs) (drop i numbers) ≡ all → 0 ≡ all
prefix_end specs numbers i all le so_far = sym (prefix_none specs numbers i le) ∙ so_far
