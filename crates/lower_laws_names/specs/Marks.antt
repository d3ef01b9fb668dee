-- The lists that are preserved, and the numbers that mark their fields: 1, 2 and so on in the order of declaration; a
-- request without a list has 0 (this project's own; P4_14 1.0.5, "Field Lists", "Clone", "Resubmit", "Recirculate";
-- `v1model.p4`, `field_list`).
use Rattle.std.specs.Prelude.{ℕ, ◌+◌, Bool, false, ◌&&◌, nat_eq, if◌then◌else◌, List, [], ◌∷◌, map, filter}
use Rattle.std.specs.List.{list_any}
use Rattle.p414_syntax.specs.declared.calculations.Item.{Item}
use Rattle.p414_syntax.specs.declared.calculations.Item.TheVariants as item
use Rattle.p414_syntax.specs.declared.syntax.Decl.{Decl}
use Rattle.p414_syntax.specs.declared.syntax.Sort.TheVariants as sort
use Rattle.p414_syntax.specs.Names.{Name, has_name, names_in}
use Rattle.p414_syntax.specs.Preserved.{preserved_lists}
use Rattle.p414_sem.specs.Slots.{Slot, standard, declared, slot_of}
use Rattle.p414_sem.specs.Expanded.{Expanded, items_in_list}
use Rattle.agreement_of_meanings.specs.Agrees.{Marked}

-- the marks of these lists, of which the first has this number, from this mark on
abbrev pub marks_from : List Name → ℕ → ℕ → List Name → List Marked
marks_from preserved list number [] = []
marks_from preserved list number (name ∷ names) =
    if has_name preserved name then record { list = list; number = number } ∷ marks_from preserved (list + 1) (number + 1) names
    else marks_from preserved (list + 1) number names

-- the marks of the program's lists
abbrev pub marks : List Decl → List Marked
marks ds = marks_from (preserved_lists ds) 0 1 (names_in sort.List ds)

-- an item of a list is this field of this instance
abbrev pub is_field : ℕ → ℕ → Slot → Bool
is_field k f (standard which) = false
is_field k f (declared i e g) = nat_eq i k && nat_eq g f

-- an item of a list is this field; it is no number, payload or instance
abbrev pub is_item : List Decl → ℕ → ℕ → Item → Bool
is_item ds k f (item.Field r) = is_field k f (slot_of ds r)
is_item ds k f _ = false

-- the list with this mark has the field
abbrev pub holds : List Decl → Expanded → ℕ → ℕ → Marked → Bool
holds ds x k f m = list_any (is_item ds k f) (items_in_list x m.list)

-- the number of a mark
abbrev pub mark_number : Marked → ℕ
mark_number m = m.number

-- the marks of a field of an instance, by their numbers: those of the lists that hold it
abbrev pub marks_of_field : List Decl → Expanded → ℕ → ℕ → List ℕ
marks_of_field ds x k f = map mark_number (filter (holds ds x k f) (marks ds))
