-- The keys of an unbroken line fit.
use Rattle.std.proofs.Common.{◌≡◌, ℕ, ◌<◌, ◌≤◌, ◌^◌, Bool, true, false, not, cond, ltb, leb, List, [], ◌∷◌, ◌++◌, length, refl, subst, arith, Option, Some, None, is_none}
use Rattle.std.specs.Prelude.{◌&&◌}
use Rattle.std.specs.Option.{option_map, option_and_then, option_map_or, option_to_list}
use Rattle.std.specs.List.{AllZip}
use Rattle.std.proofs.lemmas.Bool.{or_parts, ltb-true}
use Rattle.std.proofs.lemmas.Bool.Decides.{nat_tests}
use Rattle.match_core.specs.declared.signatures.KeyKind.{KeyKind}
use Rattle.match_core.specs.declared.signatures.KeyKind.TheVariants as kind
use Rattle.match_core.specs.declared.signatures.KeySpec.{KeySpec}
use Rattle.match_core.specs.declared.entries.KeyMatch.{KeyMatch}
use Rattle.match_core.specs.declared.entries.KeyMatch.TheVariants.{Exact, Ternary, Lpm, Range}
use Rattle.match_core.specs.Fits.{FitsKey}
use Rattle.entries_file.specs.Numbers.{number_of, decimal_of, fits}
use Rattle.entries_file.specs.KeyForms.{truth_of, exact_of, pair_of, range_of, key_by, key_of, key_fits, keys_of}
use Rattle.entries_file.specs.Rules.{has_misformed, is_wide_key, has_wide_key}

-- a key is of the kind
abbrev pub IsOfKind : KeyKind → KeyMatch → Type 0
IsOfKind k (Exact value) = k ≡ kind.Exact
IsOfKind k (Ternary value mask) = k ≡ kind.Ternary
IsOfKind k (Lpm value bits) = k ≡ kind.Lpm
IsOfKind k (Range low high) = (k ≡ kind.Range) × (low ≤ high)

exact_kind_by : (o : Option ℕ) (key : KeyMatch) → option_map Exact o ≡ Some key → IsOfKind kind.Exact key
exact_kind_by None key is = absurd (cc)
exact_kind_by (Some value) key is =
    let same : Exact value ≡ key = cc in
    subst (λ (k : KeyMatch). IsOfKind kind.Exact k) same refl

exact_kind : (width : ℕ) (word : List ℕ) (o : Option ℕ) (key : KeyMatch) → exact_of width word o ≡ Some key → IsOfKind kind.Exact key
exact_kind width word None key is = exact_kind_by (truth_of width word) key is
exact_kind width word (Some value) key is =
    let same : Exact value ≡ key = cc in
    subst (λ (k : KeyMatch). IsOfKind kind.Exact k) same refl

pair_kind : (k : KeyKind) (make : ℕ → ℕ → Option KeyMatch) (first second : Option ℕ) (key : KeyMatch) → ((a b : ℕ) (other : KeyMatch) → make a b ≡ Some other → IsOfKind k other) → pair_of make first second ≡ Some key → IsOfKind k key
pair_kind k make None second key each is = absurd (cc)
pair_kind k make (Some a) None key each is = absurd (cc)
pair_kind k make (Some a) (Some b) key each is = each a b key is

cut_kind : (k : KeyKind) (make : ℕ → ℕ → Option KeyMatch) (second : List ℕ → Option ℕ) (o : Option (List ℕ × List ℕ)) (key : KeyMatch) → ((a b : ℕ) (other : KeyMatch) → make a b ≡ Some other → IsOfKind k other)
    → option_and_then (λ parts. pair_of make (number_of parts.0) (second parts.1)) o ≡ Some key → IsOfKind k key
cut_kind k make second None key each is = absurd (cc)
cut_kind k make second (Some parts) key each is = pair_kind k make (number_of parts.0) (second parts.1) key each is

made : (key : KeyMatch) (k : KeyKind) (other : KeyMatch) → IsOfKind k key → Some key ≡ Some other → IsOfKind k other
made key k other here is =
    let same : key ≡ other = cc in
    subst (λ (m : KeyMatch). IsOfKind k m) same here

not_over : (a b : ℕ) → ltb b a ≡ false → a ≤ b
not_over a b is = grind (arith, nat_tests)

range_kind : (low high : ℕ) (b : Bool) (other : KeyMatch) → ltb high low ≡ b → cond b None (Some (Range low high)) ≡ Some other → IsOfKind kind.Range other
range_kind low high true other test is = absurd (cc)
range_kind low high false other test is = made (Range low high) kind.Range other (refl, not_over low high test) is

key_kind_by : (k : KeyKind) (width : ℕ) (word : List ℕ) (key : KeyMatch) → key_by k width word ≡ Some key → IsOfKind k key
key_kind_by kind.Exact width word key is = exact_kind width word (number_of word) key is
key_kind_by kind.Ternary width word key is = cut_kind kind.Ternary (λ value mask. Some (Ternary value mask)) number_of _ key (λ a b other made_is. made (Ternary a b) kind.Ternary other refl made_is) is
key_kind_by kind.Lpm width word key is = cut_kind kind.Lpm (λ value bits. Some (Lpm value bits)) decimal_of _ key (λ a b other made_is. made (Lpm a b) kind.Lpm other refl made_is) is
key_kind_by kind.Range width word key is = cut_kind kind.Range range_of number_of _ key (λ a b other made_is. range_kind a b (ltb b a) other refl made_is) is

key_kind : (spec : KeySpec) (word : List ℕ) (key : KeyMatch) → key_of spec word ≡ Some key → IsOfKind spec.kind key
unfolding key_of
key_kind spec word key is = key_kind_by spec.kind spec.width word key is

both : (a b : Bool) → not (a && b) ≡ false → (a ≡ true) × (b ≡ true)
both true true is = (refl, refl)
both true false is = absurd (cc)
both false b is = absurd (cc)

one : (a : Bool) → not a ≡ false → a ≡ true
one true is = refl
one false is = absurd (cc)

second : (a b : Bool) → (a && b) ≡ true → b ≡ true
second true b is = is
second false b is = absurd (cc)

pub fits_is : (width n : ℕ) → fits width n ≡ true → n < 2 ^ width
fits_is width n is = ltb-true n (2 ^ width) (second (ltb n (2 ^ 128)) (ltb n (2 ^ width)) is)

not_above : (a b : ℕ) → leb a b ≡ true → a ≤ b
not_above a b is = grind (arith, nat_tests)

-- a key that is of its kind and not too wide fits
key_fitting : (spec : KeySpec) (key : KeyMatch) → IsOfKind spec.kind key → not (key_fits spec.width key) ≡ false → FitsKey spec key
key_fitting spec (Exact value) is narrow = (is, fits_is spec.width value (one _ narrow))
key_fitting spec (Ternary value mask) is narrow =
    let parts = both (fits spec.width value) (fits spec.width mask) narrow in
    (is, fits_is spec.width value parts.0, fits_is spec.width mask parts.1)
key_fitting spec (Lpm value bits) is narrow =
    let parts = both (fits spec.width value) (leb bits spec.width) narrow in
    (is, fits_is spec.width value parts.0, not_above bits spec.width parts.1)
key_fitting spec (Range low high) is narrow =
    let parts = both (fits spec.width low) (fits spec.width high) narrow in
    (is.0, is.1, fits_is spec.width high parts.1)

one_key : (spec : KeySpec) (word : List ℕ) (o : Option KeyMatch) (specs : List KeySpec) (keys : List KeyMatch) → key_of spec word ≡ o → is_none o ≡ false → option_map_or (λ key. not (key_fits spec.width key)) o false ≡ false → AllZip FitsKey specs keys
    → AllZip FitsKey (spec ∷ specs) (option_to_list o ++ keys)
one_key spec word None specs keys is some narrow rest = absurd (cc)
one_key spec word (Some key) specs keys is some narrow rest = (key_fitting spec key (key_kind spec word key is) narrow, rest)

-- the keys of as many words as there are keys
pub keys_fit : (specs : List KeySpec) (words : List (List ℕ)) → length words ≡ length specs → has_misformed specs words ≡ false → has_wide_key specs words ≡ false → AllZip FitsKey specs (keys_of specs words)
keys_fit [] [] count formed narrow = tt
keys_fit [] (word ∷ words) count formed narrow = absurd (omega arith)
keys_fit (spec ∷ specs) [] count formed narrow = absurd (omega arith)
keys_fit (spec ∷ specs) (word ∷ words) count formed narrow =
    let here = or_parts (is_none (key_of spec word)) (has_misformed specs words) formed in
    let wide = or_parts (is_wide_key spec word) (has_wide_key specs words) narrow in
    one_key spec word (key_of spec word) specs (keys_of specs words) refl here.0 wide.0 (keys_fit specs words (omega arith) here.1 wide.1)
