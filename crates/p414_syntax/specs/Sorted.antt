-- The declarations of a program, sort by sort (P4_14 1.0.5, "Summary of P4 BNF"; which sorts are told apart is this
-- project's own).
use Rattle.std.specs.Prelude.{List, [], ◌∷◌, ◌++◌}
use Rattle.p414_syntax.specs.declared.syntax.Decl.{Decl}
use Rattle.p414_syntax.specs.declared.syntax.Decl.TheVariants as decl
use Rattle.p414_syntax.specs.declared.sorted.Sorted.{Sorted}

-- no declarations of any sort
abbrev pub nothing : Sorted
nothing = record {
  header_types = [];
  headers = [];
  metadata = [];
  field_lists = [];
  calculations = [];
  calculated_fields = [];
  parser_states = [];
  actions = [];
  tables = [];
  counters = [];
  meters = [];
  registers = [];
  controls = [];
  left_out = [];
}

-- one more declaration, behind those of its sort
abbrev pub put_decl : Sorted → Decl → Sorted
put_decl s (decl.HeaderType x) = record s { header_types = s.header_types ++ x ∷ [] }
put_decl s (decl.Header x) = record s { headers = s.headers ++ x ∷ [] }
put_decl s (decl.Metadata x) = record s { metadata = s.metadata ++ x ∷ [] }
put_decl s (decl.FieldList x) = record s { field_lists = s.field_lists ++ x ∷ [] }
put_decl s (decl.FieldListCalculation x) = record s { calculations = s.calculations ++ x ∷ [] }
put_decl s (decl.CalculatedField x) = record s { calculated_fields = s.calculated_fields ++ x ∷ [] }
put_decl s (decl.Parser x) = record s { parser_states = s.parser_states ++ x ∷ [] }
put_decl s (decl.Action x) = record s { actions = s.actions ++ x ∷ [] }
put_decl s (decl.Table x) = record s { tables = s.tables ++ x ∷ [] }
put_decl s (decl.Counter x) = record s { counters = s.counters ++ x ∷ [] }
put_decl s (decl.Meter x) = record s { meters = s.meters ++ x ∷ [] }
put_decl s (decl.Register x) = record s { registers = s.registers ++ x ∷ [] }
put_decl s (decl.Control x) = record s { controls = s.controls ++ x ∷ [] }
put_decl s (decl.LeftOut x) = record s { left_out = s.left_out ++ x ∷ [] }

-- these declarations, one after another
abbrev pub put_all : Sorted → List Decl → Sorted
put_all s [] = s
put_all s (d ∷ ds) = put_all (put_decl s d) ds

-- the declarations, sort by sort, each sort in the order of the text
abbrev pub sorted : List Decl → Sorted
sorted ds = put_all nothing ds
