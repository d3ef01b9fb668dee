-- Fields that lie side by side, first field first.
use Rattle.std.specs.Prelude.{◌≡◌, ℕ, ◌+◌, ◌/◌, ◌≤◌, zero, suc, List, [], ◌∷◌}
use Rattle.p414_layout.specs.declared.fields.FieldPlace.{FieldPlace}

-- the bits of fields of these widths together, and how many octets have so many bits
abbrev pub total : List ℕ → ℕ
total [] = 0
total (w ∷ widths) = w + total widths

abbrev pub octets_for : ℕ → ℕ
octets_for bits = (bits + 7) / 8

-- the bits in front of the field with this number
abbrev pub bits_before : List ℕ → ℕ → ℕ
bits_before widths zero = 0
bits_before [] (suc field) = 0
bits_before (w ∷ widths) (suc field) = w + bits_before widths field

abbrev pub place_width : FieldPlace → ℕ
place_width f = f.width

-- each field begins where the one before it ends, the first behind so many bits, and the last one ends behind so many
abbrev pub ArePlaced : ℕ → List FieldPlace → ℕ → Type 0
ArePlaced from [] bits = from ≡ bits
ArePlaced from (f ∷ fields) bits = (f.at ≡ from) × (f.width ≤ 128) × ArePlaced (from + f.width) fields bits
