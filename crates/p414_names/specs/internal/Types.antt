-- The header types of a program while they are gathered.
use Rattle.std.specs.Prelude.{◌≡◌, ℕ, ◌<◌, ◌≤◌, Bool, true, false, List, [], ◌∷◌, ◌++◌, map, Option, Some, None}
use Rattle.p414_syntax.specs.Views.{HeaderTypeTree}
use Rattle.p414_syntax.specs.Names.{Name, field_name}
use Rattle.p414_syntax.specs.Fields.{type_bits}
use Rattle.p414_syntax.specs.Widths.{is_unaligned}
use Rattle.p414_syntax.specs.Twice.{has_field_twice}

-- a header type, if there is one, is put behind these, unless two of its fields have one name
abbrev pub IsTypePut : List HeaderTypeTree → List HeaderTypeTree → Option HeaderTypeTree → Bool → Type 0
IsTypePut old new None fresh = (new ≡ old) × (fresh ≡ true)
IsTypePut old new (Some t) true = (has_field_twice t ≡ false) × (new ≡ old ++ t ∷ [])
IsTypePut old new (Some t) false = has_field_twice t ≡ true

-- the number, if it is no more than the limit
abbrev pub IsUpTo : ℕ → ℕ → Option ℕ → Type 0
IsUpTo limit n None = limit < n
IsUpTo limit n (Some k) = (k ≡ n) × (k ≤ limit)

-- what is kept of a header type
pub record AreFacts (t : HeaderTypeTree) (names : List Name) (unaligned : Bool) (bits : Option ℕ) : Type 0 where
  pub names_are : names ≡ map field_name t.fields
  pub unaligned_is : unaligned ≡ is_unaligned t
  pub bits_are : IsUpTo 262144 (type_bits t) bits
