-- A program of P4_14 under the parallel rule, and what it comes to in P4_16: a header, a stack and metadata with an initial value,
-- a parser with two states and a select with a mask, the table, the control and the calculated field of the sample of controls.
use Rattle.std.proofs.Common.{ℕ, zero, suc, true, false, Some, None, List, [], ◌∷◌, ◌++◌, map}
use Rattle.std.specs.Prelude.{codes}
use Rattle.p414_syntax.specs.declared.lexeme.Literal.{Literal}
use Rattle.match_core.specs.declared.entries.Entries.{Entries}
use Rattle.state_store.specs.declared.shapes.Shape.TheVariants.{Direct}
use Rattle.state_store.specs.declared.shapes.Kind.TheVariants.{Packets as count_packets}
use Rattle.p414_syntax.specs.declared.parts.Index.TheVariants.{Next}
use Rattle.p414_syntax.specs.declared.parts.Inst.{Inst}
use Rattle.p414_syntax.specs.declared.parsers.PStmt.TheVariants.{Extract, SetMetadata}
use Rattle.p414_syntax.specs.declared.parsers.PValue.TheVariants.{Latest, Current}
use Rattle.p414_syntax.specs.declared.parsers.Return.TheVariants as end_of
use Rattle.p414_syntax.specs.declared.parsers.CaseValues.TheVariants as case_values
use Rattle.p414_syntax.specs.declared.parsers.CaseTarget.TheVariants as case_target
use Rattle.p414_syntax.specs.declared.parsers.Parser.{Parser}
use Rattle.p414_syntax.specs.declared.objects.CounterType.TheVariants as counter_type14
use Rattle.p414_syntax.specs.declared.objects.StateAttr.TheVariants as state_attr
use Rattle.p414_syntax.specs.declared.actions.Arg.TheVariants as arg
use Rattle.p414_syntax.specs.declared.syntax.Decl.{Decl}
use Rattle.p414_syntax.specs.declared.syntax.Decl.TheVariants as decl14
use Rattle.p414_syntax.specs.declared.syntax.Rule14.TheVariants.{Parallel}
use Rattle.p414_syntax.specs.Tree.{no_statements as nothing14}
use Rattle.p414_syntax.specs.Names.{Name}
use Rattle.p414_syntax.specs.Arguments.{actions, invocations_of}
use Rattle.p414_sem.specs.Expanded.{Expanded}
use Rattle.p416_syntax.specs.declared.parts.Member.TheVariants as member_of
use Rattle.p416_syntax.specs.declared.parts.CounterType.TheVariants as counter_type16
use Rattle.p416_syntax.specs.declared.controls.Instance.TheVariants as instance
use Rattle.p416_syntax.specs.declared.controls.Local.{Local as Local16}
use Rattle.p416_syntax.specs.declared.controls.Local.TheVariants as local
use Rattle.p416_syntax.specs.declared.program.Decl16.{Decl16}
use Rattle.p416_syntax.specs.declared.program.Decl16.TheVariants as decl
use Rattle.p416_syntax.specs.Tree.{name, Stmt16, no_statements, then}
use Rattle.p416_syntax.specs.Kinds.{direct_counter}
use Rattle.v1_core.specs.Frames.{Owner, of_headers, of_metadata}
use Rattle.agreement_of_meanings.specs.Shown.{NamedField, as_header, as_stack, as_metadata}
use Rattle.lower_laws_base.specs.Context.{StateLayout, Words, ObjectName}
use Rattle.lower_laws_base.specs.Mirror.{method_stmt}
use Rattle.lower_laws_base.specs.Between.{every}
use Rattle.lower_laws_controls.specs.Controls.{block, control_stmt}
use Rattle.lower_laws_controls.specs.Guards.{guarded_stmt}
use Rattle.lower_laws_controls.specs.Written.{table_text}
use Rattle.lower_laws_sums.proofs.Programs.{a_field, sets, t14, items, calculated, body14, copied, plan}
use Rattle.lower_laws_sums.specs.Sums.{sums_stmt}
use Rattle.lower_laws_parser.specs.Words.{ParserWords, state_of}
use Rattle.lower_laws_parser.specs.Starts.{start_state}
use Rattle.lower_laws_parser.specs.Deparsing.{emits}
use Rattle.lower_laws_program.specs.Program.{root_name, packet_called, named_type, stack_type, parser_parameters, deparser_parameters, checksum_parameters, pipeline_parameters, Parts}
use Rattle.lower_laws_program.specs.TypesFit.{bit_field_of, marked_from, member, field_called, TypeWords, struct_of}
use Rattle.lower_laws_program.specs.Controls.{old_locals}
use Rattle.lower_laws_program.specs.Fits.{nothing_copied, nothing_spare, old_name}
use Rattle.lower_laws_rules.specs.Written.{action16}
use Rattle.p416_syntax.specs.BuiltIn.{standard_layout}

abbrev pub number : ℕ → Literal
number n = record { width = None; value = n }

abbrev pub inst : Name → Inst
inst called = record { name = called; index = None }

abbrev pub first_state : Parser
first_state = record {
  name = codes "start";
  statements = Extract (inst (codes "h")) ∷ SetMetadata (record { instance = inst (codes "m"); field = codes "q" }) (Latest (codes "x")) ∷ [];
  end = end_of.Select (Latest (codes "x") ∷ Current (number 4) (number 4) ∷ [])
      (record { values = case_values.Values (record { value = number 0x15; mask = Some (number 0xff) } ∷ []); target = case_target.State (codes "more") }
      ∷ record { values = case_values.Default; target = case_target.State (codes "ingress") } ∷ []);
}

abbrev pub second_state : Parser
second_state = record {
  name = codes "more";
  statements = Extract (record { name = codes "k"; index = Some Next }) ∷ SetMetadata (record { instance = inst (codes "m"); field = codes "q" }) (Latest (codes "y")) ∷ [];
  end = end_of.State (codes "ingress");
}

abbrev pub ds : List Decl
ds =
    decl14.HeaderType (record { name = codes "h_t"; fields = a_field (codes "x") 8 ∷ a_field (codes "y") 8 ∷ a_field (codes "s") 16 ∷ []; tails = [] })
    ∷ decl14.HeaderType (record { name = codes "m_t"; fields = a_field (codes "q") 8 ∷ []; tails = [] })
    ∷ decl14.Header (record { header_type = codes "h_t"; name = codes "h"; size = None })
    ∷ decl14.Header (record { header_type = codes "h_t"; name = codes "k"; size = Some (number 2) })
    ∷ decl14.Metadata (record { header_type = codes "m_t"; name = codes "m"; initials = Some (record { semicolon = true; values = record { field = codes "q"; value = record { sign = None; literal = number 3 } } ∷ [] }) })
    ∷ decl14.Parser first_state ∷ decl14.Parser second_state
    ∷ decl14.FieldList (record { name = codes "l"; items = items })
    ∷ decl14.FieldListCalculation (record { name = codes "sum"; input = codes "l" ∷ []; algorithm = codes "csum16"; output_width = number 16 })
    ∷ decl14.CalculatedField calculated
    ∷ decl14.Action (record { name = codes "put"; parameters = codes "v" ∷ []; calls = sets (codes "y") (arg.Instance (inst (codes "v"))) ∷ [] })
    ∷ decl14.Action (record { name = codes "mark"; parameters = []; calls = [] })
    ∷ decl14.Table t14
    ∷ decl14.Control (record { name = codes "ingress"; body = body14 })
    ∷ decl14.Counter (record { name = codes "d"; attributes = state_attr.Counts counter_type14.Packets ∷ state_attr.Direct (codes "t") ∷ [] })
    ∷ []

abbrev pub expanded : Expanded
expanded = record { actions = map invocations_of (actions ds); lists = items ∷ []; ingress = body14; egress = nothing14; order = 0 ∷ 1 ∷ [] }

-- the new names

abbrev pub a_named : Name → ℕ → NamedField
a_named called width = record { called = called; width = width }

abbrev pub fields_h : List NamedField
fields_h = a_named (codes "x") 8 ∷ a_named (codes "y") 8 ∷ a_named (codes "s") 16 ∷ []

abbrev pub fields_m : List NamedField
fields_m = a_named (codes "q") 8 ∷ []

abbrev pub members : Owner → List Name
members of_headers = codes "h" ∷ codes "k" ∷ []
members of_metadata = codes "m" ∷ []
members _ = map field_called standard_layout.fields

abbrev pub size_of : ℕ → ℕ
size_of (suc zero) = 2
size_of k = 1

abbrev pub g : StateLayout
g = record {
  names = record { instances = as_header (codes "h") fields_h ∷ as_stack (codes "k") fields_h ∷ as_metadata (codes "m") fields_m ∷ []; marks = [] };
  size_of = size_of;
  has = every;
  members = members;
  variables = [];
  shapes = Direct count_packets 1024 ∷ [];
}

abbrev pub types_called : ℕ → Name
types_called zero = codes "h_t"
types_called (suc zero) = codes "h_t"
types_called k = codes "m_s_"

abbrev pub t : TypeWords
t = record {
  type_of = types_called;
  notes = λ k f. [];
  headers = member (named_type (codes "h_t")) (codes "h") ∷ member (stack_type (codes "h_t") 2) (codes "k") ∷ [];
  metadata = member (named_type (codes "m_s_")) (codes "m") ∷ [];
}

-- the new name of a state
abbrev pub state_called : Name → Name
state_called called = codes "s_" ++ called

abbrev pub objects : List ObjectName
objects = record { called = codes "d"; kind = direct_counter; width = 0 } ∷ []

abbrev pub words : Words
words = record { names = g.names; size_of = size_of; root = root_name; copy = nothing_copied; objects = []; spare = nothing_spare; parameters = [] }

abbrev pub pipeline_words : Words
pipeline_words = record { names = g.names; size_of = size_of; root = root_name; copy = old_name; objects = objects; spare = nothing_spare; parameters = [] }

abbrev pub states_words : ParserWords
states_words = record { words = words; packet = packet_called; state = state_called }

-- the parts

abbrev pub counting : Stmt16
counting = (then) no_statements (method_stmt (name (codes "d")) (codes "count"))

abbrev pub locals : List Local16
locals =
    local.Action (action16 (codes "put") (codes "put_c0_") (a_named (codes "v") 8 ∷ []) counting)
    ∷ local.Action (action16 (codes "mark") (codes "mark_c0_") [] counting)
    ∷ local.Table (table_text pipeline_words ds copied (codes "t") (Some (codes "d")) t14) ∷ []

abbrev pub types : List Decl16
types =
    decl.Header (record { name = codes "h_t"; fields = map bit_field_of fields_h })
    ∷ struct_of (codes "m_s_") (marked_from (λ f. []) 0 fields_m)
    ∷ struct_of (codes "hs") t.headers ∷ struct_of (codes "ms") t.metadata
    ∷ decl.Instance [] (instance.DirectCounter (member_of.CounterType counter_type16.Packets) (codes "d")) ∷ []

abbrev pub p : Parts
p = record {
  types = types;
  parser = record { name = codes "P"; parameters = parser_parameters; vars = []; states = start_state ds states_words ∷ state_of ds states_words first_state ∷ state_of ds states_words second_state ∷ [] };
  verify = record { name = codes "V"; parameters = checksum_parameters; locals = []; body = sums_stmt words ds expanded false };
  ingress = record { name = codes "I"; parameters = pipeline_parameters; locals = old_locals Parallel ++ locals; body = guarded_stmt pipeline_words true (control_stmt pipeline_words ds plan block body14) };
  egress = record { name = codes "E"; parameters = pipeline_parameters; locals = old_locals Parallel; body = guarded_stmt pipeline_words false (control_stmt pipeline_words ds plan block nothing14) };
  compute = record { name = codes "C"; parameters = checksum_parameters; locals = []; body = sums_stmt words ds expanded true };
  deparser = record { name = codes "D"; parameters = deparser_parameters; locals = []; body = emits words packet_called (0 ∷ 1 ∷ []) };
}

abbrev pub some_entries : Entries
some_entries = record { tables = []; sessions = []; colours = [] }
