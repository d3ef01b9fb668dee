-- Which names and numbers a program of the one-table form may have (this project's own).
use Rattle.std.specs.Prelude.{ℕ, ◌%◌, Bool, false, not, ◌&&◌, ◌||◌, ◌==◌, nat_le, List, [], ◌∷◌, length, sum_by}
use Rattle.std.specs.List.{list_all, list_any}
use Rattle.std.specs.Str.{bytes_eq}
use Rattle.state_store.specs.Ports.{drop_port}
use Rattle.token_division.specs.Octets.{is_letter, is_word}
use Rattle.p414_one_table.specs.declared.program.Field.{Field}
use Rattle.p414_one_table.specs.declared.program.OneTable14.{OneTable14}

-- a letter or `_`, then letters, digits and `_`
abbrev pub is_id : List ℕ → Bool
is_id [] = false
is_id (b ∷ octets) = is_letter b && list_all is_word octets

-- two fields have one name
abbrev pub repeats : List Field → Bool
repeats [] = false
repeats (f ∷ fields) = list_any (λ other. bytes_eq f.name other.name) fields || repeats fields

-- a width that a field can have
abbrev pub is_width : ℕ → Bool
is_width w = nat_le 1 w && nat_le w 128

-- 1 to 64 fields with different names, each of 1 to 128 bits, in whole octets together
abbrev pub are_fields : List Field → Bool
are_fields fields =
    nat_le 1 (length fields) && nat_le (length fields) 64 && list_all (λ f. is_id f.name && is_width f.width) fields
    && not (repeats fields) && sum_by (λ f. f.width) fields % 8 == 0

-- The fields are those of a header, the action and the table have names, and the action sends to a port or to the one
-- that drops.
abbrev pub is_one_table : OneTable14 → Bool
is_one_table p = are_fields p.fields && is_id p.action && nat_le p.port drop_port && is_id p.table
