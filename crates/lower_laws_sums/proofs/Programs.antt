-- A program of P4_14 under the parallel rule, and what it comes to in P4_16: one header, a table with two keys, two actions and a
-- direct counter, a control that applies it under a condition, and a field that is verified and updated.
use Rattle.std.proofs.Common.{ℕ, Bool, true, false, cond, Option, Some, None, List, [], ◌∷◌, map}
use Rattle.std.specs.Prelude.{codes}
use Rattle.std.specs.Str.{bytes_eq}
use Rattle.p414_syntax.specs.declared.lexeme.Literal.{Literal}
use Rattle.p416_syntax.specs.declared.lexeme.Literal16.{Literal16}
use Rattle.match_core.specs.declared.entries.Entries.{Entries}
use Rattle.match_core.specs.declared.entries.KeyMatch.TheVariants.{Exact, Ternary}
use Rattle.p414_syntax.specs.declared.parts.Number.{Number}
use Rattle.p414_syntax.specs.declared.parts.Inst.{Inst}
use Rattle.p414_syntax.specs.declared.parts.Ref.{Ref}
use Rattle.p414_syntax.specs.declared.headers.FieldWidth.TheVariants.{Bits}
use Rattle.p414_syntax.specs.declared.headers.Field.{Field}
use Rattle.state_store.specs.declared.shapes.Shape.TheVariants.{Direct}
use Rattle.state_store.specs.declared.shapes.Kind.TheVariants.{Packets as count_packets}
use Rattle.p414_syntax.specs.declared.calculations.Item.{Item}
use Rattle.p414_syntax.specs.declared.calculations.Item.TheVariants as item
use Rattle.p414_syntax.specs.declared.calculations.Calc.{Calc}
use Rattle.p414_syntax.specs.declared.calculations.CalcCond.TheVariants as calc_cond
use Rattle.p414_syntax.specs.declared.calculations.CalcUse.TheVariants as calc_use
use Rattle.p414_syntax.specs.declared.calculations.CalculatedField.{CalculatedField}
use Rattle.p414_syntax.specs.declared.actions.Arg.{Arg}
use Rattle.p414_syntax.specs.declared.actions.Call.{Call}
use Rattle.p414_syntax.specs.declared.actions.Arg.TheVariants as arg
use Rattle.p414_syntax.specs.declared.tables.Read.{Read}
use Rattle.p414_syntax.specs.declared.tables.ReadKey.TheVariants as read_key
use Rattle.p414_syntax.specs.declared.tables.Table.{Table}
use Rattle.p414_syntax.specs.declared.tables.TableAttr.TheVariants as table_attr
use Rattle.p414_syntax.specs.declared.objects.CounterType.TheVariants as counter_type14
use Rattle.p414_syntax.specs.declared.objects.StateAttr.TheVariants as state_attr
use Rattle.p414_syntax.specs.declared.node.Label.TheVariants as label
use Rattle.p414_syntax.specs.declared.node.BinaryOperator.TheVariants as op
use Rattle.p414_syntax.specs.declared.syntax.Decl.{Decl}
use Rattle.p414_syntax.specs.declared.syntax.Decl.TheVariants as decl14
use Rattle.p414_syntax.specs.declared.syntax.Rule14.TheVariants.{Parallel}
use Rattle.p414_syntax.specs.Tree.{Expr, valid, field as field_of, number, binary, Stmt, no_statements as nothing14, then as then14, apply_branches, if_then as if14, no_else, no_branches, branch}
use Rattle.p414_syntax.specs.Names.{Name}
use Rattle.p414_syntax.specs.Arguments.{actions, invocations_of}
use Rattle.p414_sem.specs.Expanded.{Expanded}
use Rattle.p414_sem.specs.Controls.{Setting as Setting14}
use Rattle.p416_syntax.specs.declared.parts.Note.TheVariants as note
use Rattle.p416_syntax.specs.declared.parts.Direction.TheVariants.{InOut}
use Rattle.p416_syntax.specs.declared.parts.Param.{Param}
use Rattle.p416_syntax.specs.declared.parts.Type16.TheVariants.{Bit, Named}
use Rattle.p416_syntax.specs.declared.parts.Member.TheVariants as member_of
use Rattle.p416_syntax.specs.declared.parts.CounterType.TheVariants as counter_type16
use Rattle.p416_syntax.specs.declared.parsers.Var.{Var}
use Rattle.p416_syntax.specs.declared.controls.Instance.TheVariants as instance
use Rattle.p416_syntax.specs.declared.controls.Action16.{Action16}
use Rattle.p416_syntax.specs.declared.controls.Table16.{Table16}
use Rattle.p416_syntax.specs.declared.controls.Local.{Local as Local16}
use Rattle.p416_syntax.specs.declared.controls.Local.TheVariants as local
use Rattle.p416_syntax.specs.declared.controls.Control16.{Control16}
use Rattle.p416_syntax.specs.declared.program.Decl16.TheVariants as decl16
use Rattle.p416_syntax.specs.declared.program.Syntax16.{Syntax16}
use Rattle.p416_syntax.specs.Tree.{Stmt16}
use Rattle.p416_syntax.specs.BuiltIn.{standard_name}
use Rattle.p416_syntax.specs.Kinds.{direct_counter, struct}
use Rattle.v1_core.specs.Frames.{Owner, of_headers, of_metadata, of_standard}
use Rattle.v1_core.specs.Surroundings.{Setting, World}
use Rattle.agreement_of_meanings.specs.Shown.{NamedField, Shown, as_header}
use Rattle.lower_laws_base.specs.Context.{Local, StateLayout, Lowering, Words}
use Rattle.lower_laws_controls.specs.Controls.{Plan, block, control_stmt}
use Rattle.lower_laws_controls.specs.Guards.{guarded_stmt}
use Rattle.lower_laws_controls.specs.Written.{table_text}
use Rattle.lower_laws_sums.specs.Sums.{sums_stmt}

abbrev pub plain14 : ℕ → Literal
plain14 n = record { width = None; value = n }

abbrev pub plain16 : ℕ → Literal16
plain16 n = record { width = None; value = n }

abbrev pub h : Inst
h = record { name = codes "h"; index = None }

abbrev pub of_h : Name → Ref
of_h word = record { instance = h; field = word }

abbrev pub a_field : Name → ℕ → Field
a_field name width = record { name = name; width = Bits (plain14 width); attributes = [] }

abbrev pub sets : Name → Arg → Call
sets word from = record { name = codes "modify_field"; arguments = arg.Field (of_h word) ∷ from ∷ [] }

abbrev pub one : Number
one = record { sign = None; literal = plain14 1 }

abbrev pub reads : List Read
reads =
    record { key = read_key.Field (of_h (codes "x")); mask = Some (plain14 0xf0f); kind = codes "ternary" }
    ∷ record { key = read_key.Instance h; mask = None; kind = codes "valid" } ∷ []

abbrev pub t14 : Table
t14 = record {
  name = codes "t";
  attributes =
      table_attr.Reads reads ∷ table_attr.Actions (codes "put" ∷ codes "mark" ∷ [])
      ∷ table_attr.DefaultAction (codes "put") (Some (one ∷ [])) ∷ [];
}

abbrev pub items : List Item
items = item.Field (of_h (codes "x")) ∷ item.Number (record { width = Some 4; value = 9 }) ∷ item.Payload ∷ []

-- verify sum if (h.x == 300); verify sum; update sum if (valid(h)); update sum;
abbrev pub entries : List Calc
entries =
    record { used_to = calc_use.Verify; calculation = codes "sum"; condition = Some (calc_cond.Equal (of_h (codes "x")) (plain14 300)) }
    ∷ record { used_to = calc_use.Verify; calculation = codes "sum"; condition = None }
    ∷ record { used_to = calc_use.Update; calculation = codes "sum"; condition = Some (calc_cond.Valid h) }
    ∷ record { used_to = calc_use.Update; calculation = codes "sum"; condition = Some (calc_cond.Equal (of_h (codes "y")) (plain14 3)) } ∷ []

abbrev pub calculated : CalculatedField
calculated = record { field = of_h (codes "s"); entries = entries }

-- if (valid(h) and h.x < 700) { apply(t) { put { } default { } } }
abbrev pub condition : Expr
condition = binary op.And (valid h) (binary op.Less (field_of (of_h (codes "x"))) (number (plain14 700)))

abbrev pub body14 : Stmt
body14 =
    then14 nothing14
    (if14 condition
    (then14 nothing14
    (apply_branches (codes "t")
    (branch (branch no_branches (label.Action (codes "put")) nothing14) label.Default nothing14)))
    no_else)

abbrev pub ds : List Decl
ds =
    decl14.HeaderType (record { name = codes "h_t"; fields = a_field (codes "x") 8 ∷ a_field (codes "y") 8 ∷ a_field (codes "s") 16 ∷ []; tails = [] })
    ∷ decl14.Header (record { header_type = codes "h_t"; name = codes "h"; size = None })
    ∷ decl14.FieldList (record { name = codes "l"; items = items })
    ∷ decl14.FieldListCalculation (record { name = codes "sum"; input = codes "l" ∷ []; algorithm = codes "csum16"; output_width = plain14 16 })
    ∷ decl14.CalculatedField calculated
    ∷ decl14.Action (record { name = codes "put"; parameters = codes "v" ∷ []; calls = sets (codes "y") (arg.Instance (record { name = codes "v"; index = None })) ∷ sets (codes "x") (arg.Field (of_h (codes "y"))) ∷ [] })
    ∷ decl14.Action (record { name = codes "mark"; parameters = []; calls = sets (codes "x") (arg.Number one) ∷ [] })
    ∷ decl14.Table t14
    ∷ decl14.Control (record { name = codes "ingress"; body = body14 })
    ∷ decl14.Counter (record { name = codes "d"; attributes = state_attr.Counts counter_type14.Packets ∷ state_attr.Direct (codes "t") ∷ [] })
    ∷ []

-- one entry, whose key is masked, and which runs `put(200)`
abbrev pub some_entries : Entries
some_entries = record {
  tables = record { entries = record { keys = Ternary 5 15 ∷ Exact 1 ∷ []; priority = 7; action = 1; arguments = 200 ∷ [] } ∷ []; default = None } ∷ [];
  sessions = [];
  colours = [] ∷ [];
}

abbrev pub expanded : Expanded
expanded = record { actions = map invocations_of (actions ds); lists = items ∷ []; ingress = body14; egress = nothing14; order = [] }

abbrev pub d14 : Setting14
d14 = record { decls = ds; expanded = expanded; rule = Parallel; entries = some_entries }

-- names

abbrev pub root : Owner → Name
root of_headers = codes "hdr"
root of_metadata = codes "meta"
root _ = codes "sm"

abbrev pub copy : Owner → Name
copy of_headers = codes "old_hdr"
copy of_metadata = codes "old_meta"
copy _ = codes "old_sm"

abbrev pub root_type : Owner → Name
root_type of_headers = codes "hs"
root_type of_metadata = codes "ms"
root_type _ = standard_name

abbrev pub bit_field : Name → ℕ → NamedField
bit_field called width = record { called = called; width = width }

abbrev pub h_shown : Shown
h_shown = as_header (codes "h") (bit_field (codes "x") 8 ∷ bit_field (codes "y") 8 ∷ bit_field (codes "s") 16 ∷ [])

abbrev pub v_field : List NamedField
v_field = bit_field (codes "v") 8 ∷ []

abbrev pub members : Owner → List Name
members of_headers = codes "h" ∷ []
members of_metadata = []
members _ = codes "ingress_port" ∷ codes "egress_spec" ∷ codes "egress_port" ∷ codes "packet_length" ∷ codes "instance_type" ∷ codes "parser_error" ∷ codes "checksum_error" ∷ []

-- moments between blocks are measured by this, and those of blocks by the same with fewer parameters or with variables
abbrev pub between : StateLayout
between = record {
  names = record { instances = h_shown ∷ []; marks = [] };
  size_of = λ i. 1;
  has = λ o. true;
  members = members;
  variables = [];
  shapes = Direct count_packets 1024 ∷ [];
}

abbrev pub some : Owner → Bool
some of_standard = false
some _ = true

abbrev pub variables : List Local
variables = record { called = codes "old_hdr"; kind = struct (codes "hs") } ∷ record { called = codes "old_meta"; kind = struct (codes "ms") } ∷ record { called = codes "old_sm"; kind = struct standard_name } ∷ []

abbrev pub low : (Owner → Bool) → List Local → List NamedField → World → Lowering
low has locals parameters w = record {
  layout = record between { has = has; variables = locals };
  root = root;
  copy = copy;
  objects = record { called = codes "d"; kind = direct_counter; width = 0 } ∷ [];
  spare = λ a i. 200 ∷ a ∷ i ∷ 95 ∷ [];
  parameters = parameters;
  can_write = λ o. true;
  root_type = root_type;
  type_of = λ i. codes "h_t";
  packet = None;
  world = w;
}

abbrev pub words : List NamedField → Words
words parameters = record {
  names = between.names;
  size_of = between.size_of;
  root = root;
  copy = copy;
  objects = record { called = codes "d"; kind = direct_counter; width = 0 } ∷ [];
  spare = λ a i. 200 ∷ a ∷ i ∷ 95 ∷ [];
  parameters = parameters;
}

abbrev pub copied : Name → Option Name
copied a =
    cond (bytes_eq a (codes "put")) (Some (codes "put_c0_")) (cond (bytes_eq a (codes "mark")) (Some (codes "mark_c0_")) None)

abbrev pub plan : Plan
plan = record { table = λ t. t; copy = λ t a. copied a }

-- the program of P4_16, with these bodies of the two actions

abbrev pub put16 : Stmt16 → Action16
put16 x = record {
  notes = note.Name (codes "put") ∷ [];
  name = codes "put_c0_";
  parameters = record { direction = None; of = Bit (plain16 8); name = codes "v" } ∷ [];
  body = x;
}

abbrev pub mark16 : Stmt16 → Action16
mark16 y = record { notes = note.Name (codes "mark") ∷ []; name = codes "mark_c0_"; parameters = []; body = y }

abbrev pub t16 : Table16
t16 = table_text (words []) ds copied (codes "t") (Some (codes "d")) t14

abbrev pub a_root : Name → Name → Param
a_root called type = record { direction = Some InOut; of = Named type None; name = called }

abbrev pub packet_roots : List Param
packet_roots = a_root (codes "hdr") (codes "hs") ∷ a_root (codes "meta") (codes "ms") ∷ []

abbrev pub all_roots : List Param
all_roots = a_root (codes "hdr") (codes "hs") ∷ a_root (codes "meta") (codes "ms") ∷ a_root (codes "sm") standard_name ∷ []

abbrev pub a_var : Name → Name → Var
a_var called type = record { of = Named type None; name = called; initial = None }

abbrev pub old : List Local16
old = local.Var (a_var (codes "old_hdr") (codes "hs")) ∷ local.Var (a_var (codes "old_meta") (codes "ms")) ∷ local.Var (a_var (codes "old_sm") standard_name) ∷ []

abbrev pub verify16 : Control16
verify16 = record { name = codes "V"; parameters = packet_roots; locals = []; body = sums_stmt (words []) ds expanded false }

abbrev pub ingress16 : Stmt16 → Stmt16 → Control16
ingress16 x y = record {
  name = codes "I";
  parameters = all_roots;
  locals = local.Var (a_var (codes "old_hdr") (codes "hs")) ∷ local.Var (a_var (codes "old_meta") (codes "ms")) ∷ local.Var (a_var (codes "old_sm") standard_name) ∷ local.Action (put16 x) ∷ local.Action (mark16 y) ∷ local.Table t16 ∷ [];
  body = guarded_stmt (words []) true (control_stmt (words []) ds plan block body14);
}

abbrev pub egress16 : Control16
egress16 = record { name = codes "E"; parameters = all_roots; locals = old; body = guarded_stmt (words []) false (control_stmt (words []) ds plan block nothing14) }

abbrev pub compute16 : Control16
compute16 = record { name = codes "C"; parameters = packet_roots; locals = []; body = sums_stmt (words []) ds expanded true }

abbrev pub syntax16 : Stmt16 → Stmt16 → Syntax16
syntax16 x y = record {
  decls =
      decl16.Header (record { name = codes "h_t"; fields = record { width = plain16 8; name = codes "x" } ∷ record { width = plain16 8; name = codes "y" } ∷ record { width = plain16 16; name = codes "s" } ∷ [] })
      ∷ decl16.Struct (record { name = codes "hs"; fields = record { notes = []; of = Named (codes "h_t") None; name = codes "h" } ∷ [] })
      ∷ decl16.Struct (record { name = codes "ms"; fields = [] })
      ∷ decl16.Instance [] (instance.DirectCounter (member_of.CounterType counter_type16.Packets) (codes "d"))
      ∷ decl16.Control verify16 ∷ decl16.Control (ingress16 x y) ∷ decl16.Control egress16 ∷ decl16.Control compute16 ∷ [];
  main = codes "P" ∷ codes "V" ∷ codes "I" ∷ codes "E" ∷ codes "C" ∷ codes "D" ∷ [];
}

abbrev pub setting16 : Stmt16 → Stmt16 → Setting
setting16 x y = record { syntax = syntax16 x y; entries = some_entries }
