-- What an entry whose keys are exact, but for one lpm key at most, is found by: the length of its prefix, and its code,
-- which has the value of each exact key and the bits of the prefix.
use Rattle.std.specs.Prelude.{◌≡◌, ℕ, ◌-◌, ◌/◌, ◌^◌, ◌<◌, ◌==◌, ◌&&◌, Bool, not, nat_eq}
use Rattle.std.specs.Prelude.{List, [], ◌∷◌, Option, Some, None}
use Rattle.std.specs.List.{list_all}
use Rattle.std.specs.Cmp.Lexicographic.{pointwise}
use Rattle.std.specs.Ordering.{nat_cmp}
use Rattle.match_core.specs.declared.signatures.KeyKind.{KeyKind}
use Rattle.match_core.specs.declared.signatures.KeyKind.TheVariants as kind
use Rattle.match_core.specs.declared.signatures.KeySpec.{KeySpec}
use Rattle.match_core.specs.declared.entries.KeyMatch.{KeyMatch}
use Rattle.match_core.specs.declared.entries.KeyMatch.TheVariants.{Exact, Ternary, Lpm, Range}
use Rattle.match_core.specs.declared.entries.Entry.{Entry}
use Rattle.match_core.specs.declared.levels.Level.{Level}
use Rattle.match_core.specs.Matching.{has_priority, prefix_length}
use Rattle.match_core.specs.Best.{IsLeader, entry_at}
use Rattle.match_core.specs.internal.Levels.{found_in}

-- each key is exact or lpm
abbrev pub are_plain : List KeySpec → Bool
are_plain specs = list_all (λ spec. not (has_priority spec.kind)) specs

-- the number of one key of an entry: its value, or the bits of its prefix
abbrev pub code_one : ℕ → KeyMatch → ℕ
code_one width (Exact value) = value
code_one width (Ternary value mask) = 0
code_one width (Lpm value bits) = value / 2 ^ (width - bits)
code_one width (Range low high) = 0

abbrev pub code_of : List KeySpec → List KeyMatch → List ℕ
code_of [] ones = []
code_of (spec ∷ specs) [] = []
code_of (spec ∷ specs) (one ∷ ones) = code_one spec.width one ∷ code_of specs ones

-- the number of one value of a packet's key, where prefixes have so many bits
abbrev pub part_by : KeyKind → ℕ → ℕ → ℕ → ℕ
part_by kind.Exact width bits value = value
part_by kind.Ternary width bits value = value
part_by kind.Lpm width bits value = value / 2 ^ (width - bits)
part_by kind.Range width bits value = value

abbrev pub code_at : List KeySpec → ℕ → List ℕ → List ℕ
code_at [] bits values = []
code_at (spec ∷ specs) bits [] = []
code_at (spec ∷ specs) bits (value ∷ values) = part_by spec.kind spec.width bits value ∷ code_at specs bits values

-- an entry has a prefix of so many bits and this code
abbrev pub has_code : List KeySpec → ℕ → List ℕ → List KeyMatch → Bool
has_code specs bits code ones = prefix_length ones == bits && pointwise nat_eq (code_of specs ones) code

-- for each length and each code the first of so many entries is found
abbrev pub IsCodeIndex : List KeySpec → List Entry → ℕ → (ℕ → List ℕ → Option ℕ) → Type 0
IsCodeIndex specs entries count found =
    (bits : ℕ) (code : List ℕ) →
    IsLeader (λ i. has_code specs bits code (entry_at entries i).keys) (λ _. 0) count (found bits code)

-- what levels have for a code of one number
abbrev pub number_found : List Level → ℕ → List ℕ → Option ℕ
number_found levels bits [] = None
number_found levels bits (number ∷ []) = found_in nat_cmp levels bits number
number_found levels bits (number ∷ _) = None

-- the number is found at some length, and none at a longer one
pub record IsFoundAt (found : ℕ → List ℕ → Option ℕ) (specs : List KeySpec) (key : List ℕ) (number : ℕ) : Type 0 where
  pub bits : ℕ
  pub is : found bits (code_at specs bits key) ≡ Some number
  pub longest : (longer : ℕ) → bits < longer → found longer (code_at specs longer key) ≡ None

-- the number of the longest prefix that a key has, or that it has none
abbrev pub IsLongest : (ℕ → List ℕ → Option ℕ) → List KeySpec → List ℕ → Option ℕ → Type 0
IsLongest found specs key None = (bits : ℕ) → found bits (code_at specs bits key) ≡ None
IsLongest found specs key (Some number) = IsFoundAt found specs key number
