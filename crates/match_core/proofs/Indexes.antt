-- Laws of the indexes: maps in which the first number that was put at a key stays.
use Rattle.std.proofs.Common.{◌≡◌, ℕ, suc, ◌+◌, ◌<◌, ◌≤◌, nat_eq, Bool, true, false, cond, ◌&&◌, Option, Some, None, unwrap_or, List, [], ◌∷◌, length, map, get_or, All, refl, sym, ◌∙◌, ap, subst, add-one, arith}
use Rattle.std.specs.List.{AllZip}
use Rattle.std.specs.Ordering.{nat_cmp, is_eq}
use Rattle.std.specs.declared.cmp.Ordering.{Ordering}
use Rattle.std.specs.declared.cmp.Ordering.TheVariants.{Less, Equal, Greater}
use Rattle.std.specs.Cmp.Lexicographic.{slice_cmp, pointwise, texts_ties}
use Rattle.std.specs.BTreeMap.{BTreeMap, get}
use Rattle.std.proofs.lemmas.List.{get_or_read}
use Rattle.std.proofs.lemmas.Map.Lookups.{CmpEqualImpliesEq, exact_bytes}
use Rattle.match_core.specs.declared.signatures.KeyKind.{KeyKind}
use Rattle.match_core.specs.declared.signatures.KeyKind.TheVariants as kind
use Rattle.match_core.specs.declared.signatures.KeySpec.{KeySpec}
use Rattle.match_core.specs.declared.entries.KeyMatch.{KeyMatch}
use Rattle.match_core.specs.declared.entries.KeyMatch.TheVariants.{Exact, Ternary, Lpm, Range}
use Rattle.match_core.specs.declared.entries.Entry.{Entry}
use Rattle.match_core.specs.Matching.{matches, by_priority, has_priority, prefix_length, rank_of}
use Rattle.match_core.specs.Best.{Filled, IsLeader, entry_at, hits, rank_at}
use Rattle.match_core.specs.Fits.{FitsKey, FitsKeys}
use Rattle.match_core.specs.internal.Index.{is_exact, are_exact, value_of}
use Rattle.match_core.proofs.Leaders.{first_leads, leader_stays, pass_is}

pub equal_of : (o : Ordering) → is_eq o ≡ true → o ≡ Equal
equal_of Less is = cc
equal_of Equal is = refl
equal_of Greater is = cc

-- a number put where none stood leads, and one that stood there stays, where all have one rank
pub put_here : (test : ℕ → Bool) (rank : ℕ → ℕ) (i : ℕ) (found : Option ℕ) → IsLeader test rank i found → test i ≡ true → ((j : ℕ) → j < i → rank j ≤ rank i) → IsLeader test rank (suc i) (Some (unwrap_or found i))
put_here test rank i None none passed ranks = first_leads test rank i none passed
put_here test rank i (Some n) leads passed ranks = leader_stays test rank i n leads (λ _. ranks n leads.within)

put_at : {K : Type 0} (cmp : K → K → Ordering) → CmpEqualImpliesEq cmp → (test : K → ℕ → Bool) (rank : ℕ → ℕ) (i : ℕ) (v : K) (before : K → Option ℕ) → ((k : K) → test k i ≡ is_eq (cmp v k)) → ((j : ℕ) → j < i → rank j ≤ rank i) → ((k : K) → IsLeader (test k) rank i (before k)) → (k : K) (b : Bool) → is_eq (cmp v k) ≡ b → IsLeader (test k) rank (suc i) (cond b (Some (unwrap_or (before v) i)) (before k))
put_at {K} cmp exact test rank i v before tests ranks leads k true is =
    let same : v ≡ k = exact v k (equal_of (cmp v k) is) in
    subst (λ (u : K). IsLeader (test k) rank (suc i) (Some (unwrap_or (before u) i))) (sym same)
    (put_here (test k) rank i (before k) (leads k) (tests k ∙ is) ranks)
put_at {K} cmp exact test rank i v before tests ranks leads k false is = pass_is (test k) rank (before k) i (leads k) (tests k ∙ is)

pub put_is : {K : Type 0} (cmp : K → K → Ordering) → CmpEqualImpliesEq cmp → (test : K → ℕ → Bool) (rank : ℕ → ℕ) (i : ℕ) (v : K) (before after : K → Option ℕ) → ((k : K) → test k i ≡ is_eq (cmp v k)) → ((j : ℕ) → j < i → rank j ≤ rank i) → ((k : K) → IsLeader (test k) rank i (before k)) → ((k : K) → after k ≡ cond (is_eq (cmp v k)) (Some (unwrap_or (before v) i)) (before k)) → (k : K) → IsLeader (test k) rank (suc i) (after k)
put_is {K} cmp exact test rank i v before after tests ranks leads puts k =
    let at : (b : Bool) → is_eq (cmp v k) ≡ b → IsLeader (test k) rank (suc i) (cond b (Some (unwrap_or (before v) i)) (before k)) =
    put_at cmp exact test rank i v before tests ranks leads k in
    subst (λ found. IsLeader (test k) rank (suc i) found) (sym (puts k)) (at (is_eq (cmp v k)) refl)

pub both : (x y : Bool) → (x && y) ≡ true → (x ≡ true) × (y ≡ true)
both true y is = (refl, is)
both false y is = cc

-- an exact key asks for a value
exact_one : (spec : KeySpec) (one : KeyMatch) → is_exact spec.kind ≡ true → FitsKey spec one → one ≡ Exact (value_of one)
exact_one spec (Exact value) exact fits = refl
exact_one spec (Ternary value mask) exact fits = let not : is_exact kind.Ternary ≡ true = rw fits.0 at exact in cc
exact_one spec (Lpm value length) exact fits = let not : is_exact kind.Lpm ≡ true = rw fits.0 at exact in cc
exact_one spec (Range low high) exact fits = let not : is_exact kind.Range ≡ true = rw fits.0 at exact in cc

-- an entry of exact keys matches the one key that has its values
exact_matches : (specs : List KeySpec) (ones : List KeyMatch) (key : List ℕ) → are_exact specs ≡ true → AllZip FitsKey specs ones → matches specs ones key ≡ pointwise nat_eq (map value_of ones) key
exact_matches [] [] [] exact fits = refl
exact_matches [] [] (x ∷ key) exact fits = refl
exact_matches [] (one ∷ ones) key exact fits = absurd fits
exact_matches (spec ∷ specs) [] key exact fits = absurd fits
exact_matches (spec ∷ specs) (one ∷ ones) [] exact fits = refl
exact_matches (spec ∷ specs) (one ∷ ones) (x ∷ key) exact fits =
    let heads = both (is_exact spec.kind) (are_exact specs) exact in
    let rest = exact_matches specs ones key heads.1 fits.1 in
    rw (exact_one spec one heads.0 fits.0) (ap (λ (b : Bool). nat_eq (value_of one) x && b) rest)

exact_kind : (k : KeyKind) → is_exact k ≡ true → has_priority k ≡ false
exact_kind kind.Exact exact = refl
exact_kind kind.Ternary exact = cc
exact_kind kind.Lpm exact = refl
exact_kind kind.Range exact = cc

exact_order : (specs : List KeySpec) → are_exact specs ≡ true → by_priority specs ≡ false
exact_order [] exact = refl
exact_order (spec ∷ specs) exact =
    let heads = both (is_exact spec.kind) (are_exact specs) exact in
    rw (exact_kind spec.kind heads.0) (exact_order specs heads.1)

exact_prefix : (specs : List KeySpec) (ones : List KeyMatch) → are_exact specs ≡ true → AllZip FitsKey specs ones → prefix_length ones ≡ 0
exact_prefix [] [] exact fits = refl
exact_prefix [] (one ∷ ones) exact fits = absurd fits
exact_prefix (spec ∷ specs) [] exact fits = absurd fits
exact_prefix (spec ∷ specs) (one ∷ ones) exact fits =
    let heads = both (is_exact spec.kind) (are_exact specs) exact in
    let rest : prefix_length ones ≡ 0 = exact_prefix specs ones heads.1 fits.1 in
    rw (exact_one spec one heads.0 fits.0, rest) refl

exact_rank : (specs : List KeySpec) (entry : Entry) → are_exact specs ≡ true → FitsKeys specs entry → rank_of specs entry ≡ 128
exact_rank specs entry exact fits = rw (exact_order specs exact, exact_prefix specs entry.keys exact fits) refl

-- one more entry is put into the index by key
pub key_index_turn : (table : Filled) (i : ℕ) (v : List ℕ) (e : Entry) (before after : BTreeMap (List ℕ) ℕ) → are_exact table.specs ≡ true → All (FitsKeys table.specs) table.entries → i < length table.entries → e ≡ get_or table.entries i e → v ≡ map value_of e.keys → ((key : List ℕ) → IsLeader (hits table key) (rank_at table) i (get (slice_cmp nat_cmp) before key)) → ((key : List ℕ) → get (slice_cmp nat_cmp) after key ≡ cond (is_eq (slice_cmp nat_cmp v key)) (Some (unwrap_or (get (slice_cmp nat_cmp) before v) i)) (get (slice_cmp nat_cmp) before key)) → (key : List ℕ) → IsLeader (hits table key) (rank_at table) (i + 1) (get (slice_cmp nat_cmp) after key)
key_index_turn table i v e before after exact fits within e_is v_is leads puts key =
    let at : e ≡ entry_at table.entries i = get_or_read table.entries i e within e_is _ in
    let fit : FitsKeys table.specs (entry_at table.entries i) = fits i _ within in
    let values : v ≡ map value_of (entry_at table.entries i).keys = subst (λ (x : Entry). v ≡ map value_of x.keys) at v_is in
    rw add-one
    (put_is (slice_cmp nat_cmp) exact_bytes (hits table) (rank_at table) i v
    (λ k. get (slice_cmp nat_cmp) before k) (λ k. get (slice_cmp nat_cmp) after k)
    (λ k. exact_matches table.specs (entry_at table.entries i).keys k exact fit ∙ (rw (← values) (texts_ties v k)))
    (λ j lt.
    let here : rank_at table i ≡ 128 = exact_rank table.specs (entry_at table.entries i) exact fit in
    let there : rank_at table j ≡ 128 = exact_rank table.specs (entry_at table.entries j) exact (fits j _ (omega arith)) in
    omega (arith, here, there))
    leads puts key)
