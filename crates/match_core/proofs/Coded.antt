-- Laws of the index by prefix length and code.
use Rattle.std.proofs.Common.{◌≡◌, ℕ, suc, ◌+◌, ◌-◌, ◌/◌, ◌^◌, ◌<◌, ◌≤◌, ◌==◌, ◌&&◌, not, nat_eq, Bool, true, false, cond, inl, inr, Option, Some, None, unwrap_or, List, [], ◌∷◌, ◌++◌, length, min, drop, count_by, get_or, All, refl, sym, ◌∙◌, ap, subst, add-one, arith}
use Rattle.std.specs.List.{AllZip}
use Rattle.std.specs.Ordering.{nat_cmp, is_eq}
use Rattle.std.specs.declared.cmp.Ordering.{Ordering}
use Rattle.std.specs.Cmp.{unsigned_ties}
use Rattle.std.specs.Cmp.Lexicographic.{slice_cmp, pointwise, texts_ties}
use Rattle.std.proofs.Math.Bool.{and-true, and-false}
use Rattle.std.proofs.lemmas.Bool.{cases_lt, eq-eqb, eqb-true, false_from_ne_true}
use Rattle.std.proofs.lemmas.List.{append-nil, drop_all}
use Rattle.std.proofs.lemmas.List.Sums.{sum_by-cons}
use Rattle.std.proofs.lemmas.Bool.Decides.{nat_tests}
use Rattle.std.proofs.lemmas.Map.Lookups.{CmpEqualImpliesEq, exact_unsigned, exact_bytes}
use Rattle.match_core.specs.declared.signatures.KeyKind.{KeyKind}
use Rattle.match_core.specs.declared.signatures.KeyKind.TheVariants as kind
use Rattle.match_core.specs.declared.signatures.KeySpec.{KeySpec}
use Rattle.match_core.specs.declared.entries.KeyMatch.{KeyMatch}
use Rattle.match_core.specs.declared.entries.KeyMatch.TheVariants.{Exact, Ternary, Lpm, Range}
use Rattle.match_core.specs.declared.entries.Entry.{Entry}
use Rattle.match_core.specs.declared.levels.Level.{Level}
use Rattle.match_core.specs.Matching.{matches, has_priority, by_priority, prefix_length, rank_of}
use Rattle.match_core.specs.Best.{Leads, IsLeader, IsBest, entry_at}
use Rattle.match_core.specs.Signatures.{is_lpm, AreSpecs}
use Rattle.match_core.specs.Fits.{FitsKey, FitsKeys}
use Rattle.match_core.specs.internal.Levels.{found_in, IsPutAt, IsLevelPut}
use Rattle.match_core.specs.internal.Codes.{are_plain, code_one, code_of, code_at, has_code, IsCodeIndex, number_found, IsFoundAt, IsLongest}
use Rattle.match_core.specs.internal.Index.{IsNumberIndex}
use Rattle.match_core.proofs.Matches.{matches-differ}
use Rattle.match_core.proofs.Leaders.{pass_is}
use Rattle.match_core.proofs.Indexes.{put_here, equal_of, both}

-- ---- one more entry is put into levels
level_by : {K : Type 0} (cmp : K → K → Ordering) → CmpEqualImpliesEq cmp → (test : ℕ → K → ℕ → Bool) (rank : ℕ → ℕ) (i bits : ℕ) (v : K) (before : ℕ → K → Option ℕ) → ((b : ℕ) (k : K) → test b k i ≡ (bits == b && is_eq (cmp v k))) → ((j : ℕ) → j < i → rank j ≤ rank i) → ((b : ℕ) (k : K) → IsLeader (test b k) rank i (before b k)) → (b : ℕ) (k : K) (t : Bool) → (bits == b && is_eq (cmp v k)) ≡ t → IsLeader (test b k) rank (suc i) (cond t (Some (unwrap_or (before bits v) i)) (before b k))
level_by {K} cmp exact test rank i bits v before tests ranks leads b k true is =
    let parts = both (bits == b) (is_eq (cmp v k)) is in
    let same_bits : bits ≡ b = eqb-true bits b parts.0 in
    let same : v ≡ k = exact v k (equal_of (cmp v k) parts.1) in
    subst (λ (u : K). IsLeader (test b k) rank (suc i) (Some (unwrap_or (before bits u) i))) (sym same)
    (subst (λ (n : ℕ). IsLeader (test b k) rank (suc i) (Some (unwrap_or (before n k) i))) (sym same_bits)
    (put_here (test b k) rank i (before b k) (leads b k) (tests b k ∙ is) ranks))
level_by {K} cmp exact test rank i bits v before tests ranks leads b k false is = pass_is (test b k) rank (before b k) i (leads b k) (tests b k ∙ is)

level_put_is : {K : Type 0} (cmp : K → K → Ordering) → CmpEqualImpliesEq cmp → (test : ℕ → K → ℕ → Bool) (rank : ℕ → ℕ) (i bits : ℕ) (v : K) (before after : ℕ → K → Option ℕ) → ((b : ℕ) (k : K) → test b k i ≡ (bits == b && is_eq (cmp v k))) → ((j : ℕ) → j < i → rank j ≤ rank i) → ((b : ℕ) (k : K) → IsLeader (test b k) rank i (before b k)) → IsPutAt cmp before after bits v i → (b : ℕ) (k : K) → IsLeader (test b k) rank (suc i) (after b k)
level_put_is {K} cmp exact test rank i bits v before after tests ranks leads puts b k =
    subst (λ (found : Option ℕ). IsLeader (test b k) rank (suc i) found) (sym (puts b k))
    (level_by cmp exact test rank i bits v before tests ranks leads b k (bits == b && is_eq (cmp v k)) refl)

pub code_turn : (specs : List KeySpec) (entries : List Entry) (i bits : ℕ) (code : List ℕ) (before after : ℕ → List ℕ → Option ℕ) → bits ≡ prefix_length (entry_at entries i).keys → code ≡ code_of specs (entry_at entries i).keys → IsCodeIndex specs entries i before → IsPutAt (slice_cmp nat_cmp) before after bits code i → IsCodeIndex specs entries (i + 1) after
code_turn specs entries i bits code before after bits_are code_is index puts b k =
    rw add-one
    (level_put_is (slice_cmp nat_cmp) exact_bytes (λ n c j. has_code specs n c (entry_at entries j).keys) (λ _. 0) i bits code before after
    (λ n c. rw (← bits_are, ← code_is) (ap (λ (t : Bool). bits == n && t) (texts_ties code c)))
    (λ j lt. omega arith) index puts b k)

-- no entry of one key has a code of no number, or of more than one
one_code : (spec : KeySpec) (ones : List KeyMatch) → AllZip FitsKey (spec ∷ []) ones → length ones ≡ 1
one_code spec [] fits = absurd fits
one_code spec (one ∷ []) fits = refl
one_code spec (one ∷ other ∷ ones) fits = absurd fits.1

not_none : (spec : KeySpec) (ones : List KeyMatch) (b : ℕ) → AllZip FitsKey (spec ∷ []) ones → has_code (spec ∷ []) b [] ones ≡ false
not_none spec [] b fits = absurd fits
not_none spec (one ∷ ones) b fits = and-false _

not_more : (spec : KeySpec) (ones : List KeyMatch) (b n m : ℕ) (code : List ℕ) → AllZip FitsKey (spec ∷ []) ones → has_code (spec ∷ []) b (n ∷ m ∷ code) ones ≡ false
not_more spec [] b n m code fits = absurd fits
not_more spec (one ∷ ones) b n m code fits = rw (and-false (nat_eq (code_one spec.width one) n)) (and-false _)

number_leads : (spec : KeySpec) (entries : List Entry) (i bits number : ℕ) (old new : List Level) → i < length entries → All (FitsKeys (spec ∷ [])) entries → bits ≡ prefix_length (entry_at entries i).keys → code_of (spec ∷ []) (entry_at entries i).keys ≡ number ∷ [] → IsCodeIndex (spec ∷ []) entries i (number_found old) → IsLevelPut nat_cmp old new bits number i → (b : ℕ) (code : List ℕ) → IsLeader (λ j. has_code (spec ∷ []) b code (entry_at entries j).keys) (λ _. 0) (suc i) (number_found new b code)
number_leads spec entries i bits number old new within fits bits_are code_is index puts b [] = λ j lt. not_none spec (entry_at entries j).keys b (fits j _ (omega arith))
number_leads spec entries i bits number old new within fits bits_are code_is index puts b (n ∷ []) =
    level_put_is nat_cmp exact_unsigned (λ m v j. has_code (spec ∷ []) m (v ∷ []) (entry_at entries j).keys) (λ _. 0) i bits number (found_in nat_cmp old) (found_in nat_cmp new)
    (λ m v. rw (← bits_are, code_is) (ap (λ (t : Bool). bits == m && t) (and-true (nat_eq number v) ∙ unsigned_ties number v)))
    (λ j lt. omega arith) (λ m v. index m (v ∷ [])) puts b n
number_leads spec entries i bits number old new within fits bits_are code_is index puts b (n ∷ m ∷ code) = λ j lt. not_more spec (entry_at entries j).keys b n m code (fits j _ (omega arith))

pub number_turn : (spec : KeySpec) (entries : List Entry) (i bits number : ℕ) (old new : List Level) → i < length entries → All (FitsKeys (spec ∷ [])) entries → bits ≡ prefix_length (entry_at entries i).keys → code_of (spec ∷ []) (entry_at entries i).keys ≡ number ∷ [] → IsCodeIndex (spec ∷ []) entries i (number_found old) → IsLevelPut nat_cmp old new bits number i → IsCodeIndex (spec ∷ []) entries (i + 1) (number_found new)
number_turn spec entries i bits number old new within fits bits_are code_is index puts b code = rw add-one (number_leads spec entries i bits number old new within fits bits_are code_is index puts b code)

-- ---- prefixes of the entries of a table with one lpm key at most
-- the prefixes of an entry have so many bits
abbrev pub HaveBits : ℕ → List KeyMatch → Type 0
HaveBits bits [] = Unit {0}
HaveBits bits (Exact value ∷ ones) = HaveBits bits ones
HaveBits bits (Ternary value mask ∷ ones) = HaveBits bits ones
HaveBits bits (Lpm value length ∷ ones) = (length ≡ bits) × HaveBits bits ones
HaveBits bits (Range low high ∷ ones) = HaveBits bits ones

lpm_counts : (spec : KeySpec) (specs : List KeySpec) (k : KeyKind) → spec.kind ≡ k → count_by (λ (s : KeySpec). is_lpm s.kind) (spec ∷ specs) ≡ cond (is_lpm k) 1 0 + count_by (λ (s : KeySpec). is_lpm s.kind) specs
lpm_counts spec specs k is =
    sum_by-cons (λ (s : KeySpec). cond (is_lpm s.kind) 1 0) spec specs
    ∙ ap (λ (x : KeyKind). cond (is_lpm x) 1 0 + count_by (λ (s : KeySpec). is_lpm s.kind) specs) is

no_prefixes : (specs : List KeySpec) (ones : List KeyMatch) (bits : ℕ) → count_by (λ (s : KeySpec). is_lpm s.kind) specs ≡ 0 → AllZip FitsKey specs ones → (prefix_length ones ≡ 0) × HaveBits bits ones
no_prefixes [] [] bits none fits = (refl, tt)
no_prefixes [] (one ∷ ones) bits none fits = absurd fits
no_prefixes (spec ∷ specs) [] bits none fits = absurd fits
no_prefixes (spec ∷ specs) (Exact value ∷ ones) bits none fits =
    let here = lpm_counts spec specs kind.Exact fits.0.0 in
    let rest = no_prefixes specs ones bits (omega (arith, here)) fits.1 in
    (omega (arith, rest.0), rest.1)
no_prefixes (spec ∷ specs) (Ternary value mask ∷ ones) bits none fits =
    let here = lpm_counts spec specs kind.Ternary fits.0.0 in
    let rest = no_prefixes specs ones bits (omega (arith, here)) fits.1 in
    (omega (arith, rest.0), rest.1)
no_prefixes (spec ∷ specs) (Lpm value length ∷ ones) bits none fits =
    let here = lpm_counts spec specs kind.Lpm fits.0.0 in absurd (omega (arith, here))
no_prefixes (spec ∷ specs) (Range low high ∷ ones) bits none fits =
    let here = lpm_counts spec specs kind.Range fits.0.0 in
    let rest = no_prefixes specs ones bits (omega (arith, here)) fits.1 in
    (omega (arith, rest.0), rest.1)

-- the prefix of an entry has the bits of its prefix length, and that is 128 at most
pub own_bits : (specs : List KeySpec) (ones : List KeyMatch) → count_by (λ (s : KeySpec). is_lpm s.kind) specs ≤ 1 → All (λ (s : KeySpec). (1 ≤ s.width) × (s.width ≤ 128)) specs → AllZip FitsKey specs ones → HaveBits (prefix_length ones) ones × (prefix_length ones ≤ 128)
own_bits [] [] one widths fits = (tt, omega arith)
own_bits [] (x ∷ ones) one widths fits = absurd fits
own_bits (spec ∷ specs) [] one widths fits = absurd fits
own_bits (spec ∷ specs) (Exact value ∷ ones) one widths fits =
    let here = lpm_counts spec specs kind.Exact fits.0.0 in
    let rest = own_bits specs ones (omega (arith, here)) (λ k d lt. widths (suc k) d (omega arith)) fits.1 in
    let same : prefix_length ones ≡ 0 + prefix_length ones = omega arith in
    (subst (λ (n : ℕ). HaveBits n ones) same rest.0, omega (arith, rest.1))
own_bits (spec ∷ specs) (Ternary value mask ∷ ones) one widths fits =
    let here = lpm_counts spec specs kind.Ternary fits.0.0 in
    let rest = own_bits specs ones (omega (arith, here)) (λ k d lt. widths (suc k) d (omega arith)) fits.1 in
    let same : prefix_length ones ≡ 0 + prefix_length ones = omega arith in
    (subst (λ (n : ℕ). HaveBits n ones) same rest.0, omega (arith, rest.1))
own_bits (spec ∷ specs) (Lpm value bits ∷ ones) one widths fits =
    let here = lpm_counts spec specs kind.Lpm fits.0.0 in
    let rest = no_prefixes specs ones (bits + prefix_length ones) (omega (arith, here)) fits.1 in
    let wide = widths 0 spec (omega arith) in
    ((omega (arith, rest.0), rest.1), omega (arith, rest.0, wide.1, fits.0.2))
own_bits (spec ∷ specs) (Range low high ∷ ones) one widths fits =
    let here = lpm_counts spec specs kind.Range fits.0.0 in
    let rest = own_bits specs ones (omega (arith, here)) (λ k d lt. widths (suc k) d (omega arith)) fits.1 in
    let same : prefix_length ones ≡ 0 + prefix_length ones = omega arith in
    (subst (λ (n : ℕ). HaveBits n ones) same rest.0, omega (arith, rest.1))

-- ---- an entry matches where its code is the key's at the length of its prefix
eq_back : (a b : ℕ) → (a == b) ≡ nat_eq b a
eq_back a b = grind (arith, nat_tests)

hit_is : (specs : List KeySpec) (ones : List KeyMatch) (key : List ℕ) (bits : ℕ) → are_plain specs ≡ true → AllZip FitsKey specs ones → HaveBits bits ones → length key ≡ length specs → matches specs ones key ≡ pointwise nat_eq (code_of specs ones) (code_at specs bits key)
hit_is [] [] [] bits plain fits have same = refl
hit_is [] [] (v ∷ key) bits plain fits have same = absurd (omega arith)
hit_is [] (one ∷ ones) key bits plain fits have same = absurd fits
hit_is (spec ∷ specs) [] key bits plain fits have same = absurd fits
hit_is (spec ∷ specs) (one ∷ ones) [] bits plain fits have same = absurd (omega arith)
hit_is (spec ∷ specs) (Exact value ∷ ones) (v ∷ key) bits plain fits have same =
    let heads = both (not (has_priority spec.kind)) (are_plain specs) plain in
    rw fits.0.0 (ap (λ (t : Bool). nat_eq value v && t) (hit_is specs ones key bits heads.1 fits.1 have (omega arith)))
hit_is (spec ∷ specs) (Ternary value mask ∷ ones) (v ∷ key) bits plain fits have same =
    let heads = both (not (has_priority spec.kind)) (are_plain specs) plain in
    let no : not (has_priority kind.Ternary) ≡ true = rw fits.0.0 at heads.0 in cc
hit_is (spec ∷ specs) (Lpm value length ∷ ones) (v ∷ key) bits plain fits have same =
    let heads = both (not (has_priority spec.kind)) (are_plain specs) plain in
    rw (fits.0.0, have.0, eq_back (v / 2 ^ (spec.width - bits)) (value / 2 ^ (spec.width - bits)))
    (ap (λ (t : Bool). nat_eq (value / 2 ^ (spec.width - bits)) (v / 2 ^ (spec.width - bits)) && t) (hit_is specs ones key bits heads.1 fits.1 have.1 (omega arith)))
hit_is (spec ∷ specs) (Range low high ∷ ones) (v ∷ key) bits plain fits have same =
    let heads = both (not (has_priority spec.kind)) (are_plain specs) plain in
    let no : not (has_priority kind.Range) ≡ true = rw fits.0.0 at heads.0 in cc

no_priority : (specs : List KeySpec) → are_plain specs ≡ true → by_priority specs ≡ false
no_priority [] plain = refl
no_priority (spec ∷ specs) plain =
    let heads = both (not (has_priority spec.kind)) (are_plain specs) plain in
    let one : has_priority spec.kind ≡ false = not_true (has_priority spec.kind) heads.0 in
    rw one (no_priority specs heads.1)
  where
    not_true : (b : Bool) → not b ≡ true → b ≡ false
    not_true true is = cc
    not_true false is = refl

module _ (specs : List KeySpec) (entries : List Entry) (found : ℕ → List ℕ → Option ℕ) (key : List ℕ) (plain : are_plain specs ≡ true) (are : AreSpecs specs) (fits : All (FitsKeys specs) entries) (same : length key ≡ length specs) (index : IsCodeIndex specs entries (length entries) found) where
  bits_of : ℕ → ℕ
  bits_of j = prefix_length (entry_at entries j).keys

  plain_rank : (j : ℕ) → rank_of specs (entry_at entries j) ≡ 128 - prefix_length (entry_at entries j).keys
  plain_rank j = rw (no_priority specs plain) refl

  hit_code : (j : ℕ) → j < length entries → matches specs (entry_at entries j).keys key ≡ has_code specs (prefix_length (entry_at entries j).keys) (code_at specs (prefix_length (entry_at entries j).keys) key) (entry_at entries j).keys
  hit_code j within =
      let ones : List KeyMatch = (entry_at entries j).keys in
      let own = own_bits specs ones are.one_lpm are.widths (fits j _ within) in
      rw (eq-eqb (prefix_length ones) (prefix_length ones) refl) (hit_is specs ones key (prefix_length ones) plain (fits j _ within) own.0 same)

  -- an entry doesn't match a key for whose code at its length nothing was found
  not_hit : (j : ℕ) → j < length entries → found (prefix_length (entry_at entries j).keys) (code_at specs (prefix_length (entry_at entries j).keys) key) ≡ None → matches specs (entry_at entries j).keys key ≡ true → ⊥
  not_hit j within none hit =
      let bits : ℕ = prefix_length (entry_at entries j).keys in
      let fails : (k : ℕ) → k < length entries → has_code specs bits (code_at specs bits key) (entry_at entries k).keys ≡ false =
      subst (λ (f : Option ℕ). IsLeader (λ k. has_code specs bits (code_at specs bits key) (entry_at entries k).keys) (λ _. 0) (length entries) f) none (index bits (code_at specs bits key)) in
      let lacks = fails j within in
      let has = sym (hit_code j within) ∙ hit in
      cc

  no_more : (n j : ℕ) → (at : IsFoundAt found specs key n) → j < length entries → matches specs (entry_at entries j).keys key ≡ true → prefix_length (entry_at entries j).keys ≤ at.bits
  no_more n j at within hit =
      elim (cases_lt at.bits (prefix_length (entry_at entries j).keys)) [
        | inl longer ↦ absurd (not_hit j within (at.longest (prefix_length (entry_at entries j).keys) longer) hit)
        | inr most ↦ most
      ]

  coded_best : (n : ℕ) → IsFoundAt found specs key n → IsBest (record { specs = specs; entries = entries }) key (Some n)
  coded_best n at =
      let leads : Leads (λ j. has_code specs at.bits (code_at specs at.bits key) (entry_at entries j).keys) (λ _. 0) (length entries) n =
      subst (λ (f : Option ℕ). IsLeader (λ j. has_code specs at.bits (code_at specs at.bits key) (entry_at entries j).keys) (λ _. 0) (length entries) f) at.is (index at.bits (code_at specs at.bits key)) in
      let parts = both (prefix_length (entry_at entries n).keys == at.bits) (pointwise nat_eq (code_of specs (entry_at entries n).keys) (code_at specs at.bits key)) leads.passes in
      let bits_are : prefix_length (entry_at entries n).keys ≡ at.bits = eqb-true _ _ parts.0 in
      let most = (own_bits specs (entry_at entries n).keys are.one_lpm are.widths (fits n _ leads.within)).1 in
      record {
        within = leads.within;
        passes = hit_code n leads.within ∙ subst (λ (b : ℕ). has_code specs b (code_at specs b key) (entry_at entries n).keys ≡ true) (sym bits_are) leads.passes;
        least = λ j within hit.
            let long = no_more n j at within hit in
            let mine = plain_rank n in
            let other = plain_rank j in
            omega (arith, mine, other, long, bits_are);
        first = λ j within hit equal.
            let long = no_more n j at within hit in
            let mine = plain_rank n in
            let other = plain_rank j in
            let own = (own_bits specs (entry_at entries j).keys are.one_lpm are.widths (fits j _ within)).1 in
            let length_is : prefix_length (entry_at entries j).keys ≡ at.bits = omega (arith, mine, other, long, bits_are, equal, most, own) in
            let has = subst (λ (b : ℕ). has_code specs b (code_at specs b key) (entry_at entries j).keys ≡ true) length_is (sym (hit_code j within) ∙ hit) in
            leads.first j within has refl;
      }

  -- where the longest prefix is found, it is the best entry
  pub longest_best : (result : Option ℕ) → IsLongest found specs key result → IsBest (record { specs = specs; entries = entries }) key result
  longest_best None none = λ i within. false_from_ne_true _ (λ hit. not_hit i within (none (prefix_length (entry_at entries i).keys)) hit)
  longest_best (Some n) at = coded_best n at

-- the same, where the table's keys and the key's values are lists of one
pub number_best : (specs : List KeySpec) (entries : List Entry) (levels : List Level) (key : List ℕ) (result : Option ℕ) (d : KeySpec) → length key ≡ 1 → All (FitsKeys specs) entries → IsNumberIndex specs entries levels → IsLongest (number_found levels) (get_or specs 0 d ∷ []) (get_or key 0 0 ∷ []) result → IsBest (record { specs = specs; entries = entries }) key result
number_best (spec ∷ []) entries levels (value ∷ []) result d one fits index longest =
    longest_best (spec ∷ []) entries (number_found levels) (value ∷ []) index.plain index.specs_are fits refl index.index result longest
number_best [] entries levels key result d one fits index longest = absurd index
number_best (spec ∷ other ∷ specs) entries levels key result d one fits index longest = absurd index
number_best (spec ∷ []) entries levels [] result d one fits index longest = absurd (omega arith)
number_best (spec ∷ []) entries levels (value ∷ other ∷ key) result d one fits index longest = absurd (omega arith)

-- no entry matches a key of another length
pub none_differ : (specs : List KeySpec) (entries : List Entry) (key : List ℕ) → (length key ≡ length specs → ⊥) → IsBest (record { specs = specs; entries = entries }) key None
none_differ specs entries key differ = λ i within. matches-differ specs (entry_at entries i).keys key (inr differ)

-- ---- the loops
none_coded : (specs : List KeySpec) (ones : List KeyMatch) (i : ℕ) → min (length specs) (length ones) ≤ i → code_of (drop i specs) (drop i ones) ≡ []
none_coded specs ones i le =
    elim (cases_lt i (length specs)) [
      | inl more ↦ let none : drop i ones ≡ [] = drop_all i ones (omega arith) in rw none (nothing (drop i specs))
      | inr few ↦ let none : drop i specs ≡ [] = drop_all i specs few in rw none refl
    ]
  where
    nothing : (rest : List KeySpec) → code_of rest [] ≡ []
    nothing [] = refl
    nothing (spec ∷ rest) = refl

pub code_end : (specs : List KeySpec) (ones : List KeyMatch) (i : ℕ) (all code : List ℕ) → min (length specs) (length ones) ≤ i → code ++ code_of (drop i specs) (drop i ones) ≡ all → code ≡ all
code_end specs ones i all code le so_far = sym (append-nil code) ∙ (ap (λ (rest : List ℕ). code ++ rest) (sym (none_coded specs ones i le)) ∙ so_far)
