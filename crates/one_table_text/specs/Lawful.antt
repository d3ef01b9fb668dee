-- What the rules of P4_16 ask of the names and numbers of a program of the one-table form (P4_16 1.2, "Name resolution",
-- "Header types", "Literal constants"; the bounds are this project's own).
use Rattle.std.specs.Prelude.{◌%◌, Bool, not, ◌&&◌, nat_eq, nat_le, List, length, sum_by}
use Rattle.std.specs.List.{list_all}
use Rattle.state_store.specs.Ports.{drop_port}
use Rattle.p414_one_table.specs.declared.program.Field.{Field}
use Rattle.p414_one_table.specs.Programs.{repeats, is_width}
use Rattle.one_table_text.specs.declared.one_table.OneTable16.{OneTable16}

-- a field's width is one that a field can have
abbrev pub has_width : Field → Bool
has_width f = is_width f.width

-- 1 to 64 fields with different names, each of 1 to 128 bits, in whole octets together
abbrev pub is_header : List Field → Bool
is_header fields =
    (nat_le 1 (length fields) && nat_le (length fields) 64)
    && (list_all has_width fields && (not (repeats fields) && nat_eq (sum_by (λ f. f.width) fields % 8) 0))

-- The fields are those of a header, and the port is one that 9 bits hold. Any names of the action and of the table do: each
-- stands alone.
abbrev pub is_lawful : OneTable16 → Bool
is_lawful q = is_header q.fields && nat_le q.port drop_port
