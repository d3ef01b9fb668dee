-- What stands between two words on a sheet (this project's own).
use Rattle.std.specs.Prelude.{◌≡◌, ℕ, Bool, true, false, not, nat_eq, ◌&&◌, ◌||◌, if◌then◌else◌, List, ◌∷◌, ◌++◌, Option, Some, None, replicate}
use Rattle.token_sheet.specs.declared.blanks.Blanks.{Blanks}
use Rattle.token_sheet.specs.Words.{Meets}
use Rattle.token_sheet.specs.Spelling.{Parts}

-- the octets: a line feed and further ones, or none, and spaces
abbrev pub blank_octets : Blanks → List ℕ
blank_octets blanks =
    if blanks.line then 10 ∷ (replicate blanks.further 10 ++ replicate blanks.spaces 32) else replicate blanks.spaces 32

abbrev pub are_none : Blanks → Bool
are_none blanks = not blanks.line && nat_eq blanks.spaces 0

-- the first of the octets, if there is one
abbrev pub first_blank : Blanks → ℕ
first_blank blanks = if blanks.line then 10 else 32

-- The last token, with these octets, is parted from what begins with this octet. Of a token with blanks behind it, or of none,
-- nothing is asked.
abbrev pub may_follow : {K : Type 0} → Parts K → Option K → List ℕ → ℕ → Bool
may_follow parts None octets next = true
may_follow parts (Some last) octets next = parts last octets next

-- the language doesn't tell it where a token of this class touches the last one
abbrev pub may_touch : {K : Type 0} → Meets K → Option K → K → Bool
may_touch meets None kind = true
may_touch meets (Some last) kind = not (meets last kind)

-- A token of this class, which begins with this octet, may stand behind these blanks: it would touch the last token only
-- where it is parted from it and isn't joined to it, and it begins a line where it has to.
pub record AreEnough {K : Type 0} (parts : Parts K) (meets : Meets K) (begins_line : K → Bool) (last : Option K) (octets : List ℕ) (is_first : Bool) (kind : K) (next : ℕ) (blanks : Blanks) : Type 0 where
  pub near : are_none blanks ≡ true → (may_follow parts last octets next && may_touch meets last kind) ≡ true
  pub far : are_none blanks ≡ false → may_follow parts last octets (first_blank blanks) ≡ true
  pub line : begins_line kind ≡ true → (blanks.line || is_first) ≡ true
