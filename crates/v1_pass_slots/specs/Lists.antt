-- Which numbers of the metadata a field list keeps (`v1model.p4`, `@field_list`; which forms are read is this project's own).
use Rattle.std.specs.Prelude.{ℕ, ◌==◌, nat_lt, Bool, if◌then◌else◌, List, [], ◌∷◌, map, flat_map, None}
use Rattle.std.specs.List.{list_any}
use Rattle.p416_syntax.specs.declared.lexeme.Literal16.{Literal16}
use Rattle.p416_syntax.specs.declared.parts.Type16.{Type16}
use Rattle.p416_syntax.specs.declared.parts.Type16.TheVariants as type_of
use Rattle.p416_syntax.specs.declared.parts.StructField.{StructField}
use Rattle.p416_syntax.specs.declared.program.Decl16.{Decl16}
use Rattle.p416_syntax.specs.Declarations.{list_numbers}
use Rattle.v1_core.specs.Passes.{struct_called}

-- those of these numbers that a request can have, which has 8 bits for its list
abbrev pub small_numbers : List Literal16 → List ℕ
small_numbers [] = []
small_numbers (n ∷ numbers) =
    if nat_lt n.value 256 then n.value ∷ small_numbers numbers else small_numbers numbers

-- the lists that a field is in by its own declaration
abbrev pub lists_of : StructField → List ℕ
lists_of f = small_numbers (flat_map list_numbers f.notes)

-- a list is among these
abbrev pub is_listed : ℕ → List ℕ → Bool
is_listed list lists = list_any (λ n. n == list) lists

-- for each slot of the metadata the lists that its field is in: metadata is a struct of bits, and of structs of bits

abbrev pub lists_within : List Decl16 → StructField → Type16 → List (List ℕ)
lists_within ds f (type_of.Bit width) = lists_of f ∷ []
lists_within ds f (type_of.Named text None) = map lists_of (struct_called ds text)
lists_within ds f _ = []

abbrev pub slot_lists : List Decl16 → StructField → List (List ℕ)
slot_lists ds f = lists_within ds f f.of

abbrev pub all_lists : List Decl16 → List StructField → List (List ℕ)
all_lists ds fields = flat_map (slot_lists ds) fields
