-- How the keys of an entry are written (this project's own).
use Rattle.std.specs.Prelude.{ℕ, Bool, ◌&&◌, ◌==◌, nat_lt, nat_le, if◌then◌else◌, List, [], ◌∷◌, ◌++◌, codes, Option, Some, None}
use Rattle.std.specs.Option.{option_map, option_and_then, option_to_list}
use Rattle.std.specs.Str.{bytes_eq}
use Rattle.match_core.specs.declared.signatures.KeyKind.{KeyKind}
use Rattle.match_core.specs.declared.signatures.KeyKind.TheVariants as kind
use Rattle.match_core.specs.declared.signatures.KeySpec.{KeySpec}
use Rattle.match_core.specs.declared.entries.KeyMatch.{KeyMatch}
use Rattle.match_core.specs.declared.entries.KeyMatch.TheVariants.{Exact, Ternary, Lpm, Range}
use Rattle.text_lines.specs.Words.{Word}
use Rattle.entries_file.specs.Cuts.{cut}
use Rattle.entries_file.specs.Numbers.{number_of, decimal_of, fits}

-- the number of a key of one bit that is written as a truth value
abbrev pub truth_of : ℕ → Word → Option ℕ
truth_of width word =
    if width == 1 && bytes_eq word (codes "true") then Some 1
    else (if width == 1 && bytes_eq word (codes "false") then Some 0
    else None)

-- a key of one number, or a truth value where the word is no number
abbrev pub exact_of : ℕ → Word → Option ℕ → Option KeyMatch
exact_of width word None = option_map Exact (truth_of width word)
exact_of width word (Some value) = Some (Exact value)

-- a key of two numbers
abbrev pub pair_of : (ℕ → ℕ → Option KeyMatch) → Option ℕ → Option ℕ → Option KeyMatch
pair_of key first second = option_and_then (λ a. option_and_then (λ b. key a b) second) first

-- a range whose low end isn't over its high end
abbrev pub range_of : ℕ → ℕ → Option KeyMatch
range_of low high = if nat_lt high low then None else Some (Range low high)

-- the key that a word is, with numbers of any size: a number, or a truth value where the key has one bit;
-- `VALUE&&&MASK`; `VALUE/LENGTH`, the length decimal; `LOW->HIGH`, where the low end isn't over the high one
abbrev pub key_by : KeyKind → ℕ → Word → Option KeyMatch
key_by kind.Exact width word = exact_of width word (number_of word)
key_by kind.Ternary width word =
    option_and_then
    (λ parts. pair_of (λ value mask. Some (Ternary value mask)) (number_of parts.0) (number_of parts.1))
    (cut (codes "&&&") word)
key_by kind.Lpm width word =
    option_and_then
    (λ parts. pair_of (λ value bits. Some (Lpm value bits)) (number_of parts.0) (decimal_of parts.1))
    (cut (codes "/") word)
key_by kind.Range width word =
    option_and_then (λ parts. pair_of range_of (number_of parts.0) (number_of parts.1)) (cut (codes "->") word)

-- the key that a word is, by what the table's key is
unfoldable pub key_of : KeySpec → Word → Option KeyMatch
key_of spec word = key_by spec.kind spec.width word

-- each number of a key fits the width, and a prefix isn't longer than it
abbrev pub key_fits : ℕ → KeyMatch → Bool
key_fits width (Exact value) = fits width value
key_fits width (Ternary value mask) = fits width value && fits width mask
key_fits width (Lpm value bits) = fits width value && nat_le bits width
key_fits width (Range low high) = fits width low && fits width high

-- the keys that words are
abbrev pub keys_of : List KeySpec → List Word → List KeyMatch
keys_of [] words = []
keys_of (spec ∷ specs) [] = []
keys_of (spec ∷ specs) (word ∷ words) = option_to_list (key_of spec word) ++ keys_of specs words
