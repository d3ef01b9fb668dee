-- Which names stay, and what the others become (this project's own; P4_14 1.0.5, "Summary of P4 BNF"; P4_16 1.2,
-- "Lexical constructs"). A name that can't stay begins as it did and ends in `_`, a letter, a number and `_`: the
-- letter tells what sort of thing it names, the number which of them. A name that stays never ends in a digit and `_`.
use Rattle.std.specs.Prelude.{ℕ, ◌-◌, Bool, not, ◌&&◌, nat_eq, nat_le, if◌then◌else◌, [], ◌∷◌, ◌++◌, length, take, slice_index, decimal}
use Rattle.token_division.specs.Octets.{is_decimal}
use Rattle.p414_syntax.specs.Names.{Name, has_name}
use Rattle.lower_laws_names.specs.Words.{words, outer_words}

-- the octet `_`
abbrev pub line : ℕ
line = 95

-- a name ends in a digit and `_`
abbrev pub looks_made : Name → Bool
looks_made name = nat_eq (slice_index name (length name - 1)) line && is_decimal (slice_index name (length name - 2))

-- at most 64 octets, no reserved word, and none that looks made
abbrev pub can_stay : Name → Bool
can_stay name = nat_le (length name) 64 && (not (looks_made name) && not (has_name words name))

-- the same where a name stands by itself and not behind a dot
abbrev pub can_stay_outside : Name → Bool
can_stay_outside name = can_stay name && not (has_name outer_words name)

-- the first 48 octets, `_`, a letter, a number and `_`
abbrev pub made : ℕ → ℕ → Name → Name
made letter number name = take 48 name ++ line ∷ letter ∷ decimal number ++ line ∷ []

-- what is named: its letter, its number among those of this letter, its name in P4_14, and whether that stays
pub record Thing : Type 0 where
  pub letter : ℕ
  pub number : ℕ
  pub name : Name
  pub stays : Bool

-- the new name of a thing: its own if it stays, or one that is made
abbrev pub called : Thing → Name
called x = if x.stays then x.name else made x.letter x.number x.name
