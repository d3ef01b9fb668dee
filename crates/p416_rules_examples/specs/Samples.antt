-- A small program that breaks no rule, changes of it, and what the rules that are truth values say of them.
use Rattle.std.specs.Prelude.{ℕ, zero, suc, Bool, true, false, List, [], ◌∷◌, map, codes, Option, Some, None}
use Rattle.std.specs.List.{list_any}
use Rattle.p416_syntax.specs.declared.lexeme.Literal16.{Literal16}
use Rattle.p416_syntax.specs.declared.parts.Type16.{Type16}
use Rattle.p416_syntax.specs.declared.parts.Type16.TheVariants.{Bit, Named}
use Rattle.p416_syntax.specs.declared.parts.Direction.{Direction}
use Rattle.p416_syntax.specs.declared.parts.Direction.TheVariants.{In, Out, InOut}
use Rattle.p416_syntax.specs.declared.parts.Param.{Param}
use Rattle.p416_syntax.specs.declared.parts.BitField.{BitField}
use Rattle.p416_syntax.specs.declared.parts.Member.TheVariants as member_of
use Rattle.p416_syntax.specs.declared.parts.CounterType.TheVariants as counter_type
use Rattle.p416_syntax.specs.declared.parts.StructField.{StructField}
use Rattle.p416_syntax.specs.declared.parsers.Target.TheVariants as target_of
use Rattle.p416_syntax.specs.declared.parsers.Transition.{Transition}
use Rattle.p416_syntax.specs.declared.parsers.Transition.TheVariants as transition
use Rattle.p416_syntax.specs.declared.parsers.Parser16.{Parser16}
use Rattle.p416_syntax.specs.declared.controls.Control16.{Control16}
use Rattle.p416_syntax.specs.declared.controls.ActionName.TheVariants as action_name
use Rattle.p416_syntax.specs.declared.controls.Property.{Property}
use Rattle.p416_syntax.specs.declared.controls.Property.TheVariants as property
use Rattle.p416_syntax.specs.declared.controls.Instance.TheVariants as instance
use Rattle.p416_syntax.specs.declared.controls.Local.{Local}
use Rattle.p416_syntax.specs.declared.controls.Local.TheVariants as local
use Rattle.p416_syntax.specs.declared.node.UnaryOperator.TheVariants.{Not}
use Rattle.p416_syntax.specs.declared.parsers.Keyset.{Keyset}
use Rattle.p416_syntax.specs.declared.parsers.Keyset.TheVariants as keyset
use Rattle.p416_syntax.specs.declared.parsers.Simple.TheVariants as simple
use Rattle.p416_syntax.specs.declared.parsers.SelectCase.{SelectCase}
use Rattle.p416_syntax.specs.declared.program.Decl16.{Decl16}
use Rattle.p416_syntax.specs.declared.program.Decl16.TheVariants as decl
use Rattle.p416_syntax.specs.declared.program.Syntax16.{Syntax16}
use Rattle.p416_syntax.specs.Tree.{Exp16, literal, name, member, call, unary, truth, no_arguments, argument, Stmt16, no_statements, then, block, var, assign, expression, if_then}
use Rattle.p416_syntax.specs.Names.{Name}
use Rattle.p416_syntax.specs.Uses.{Use}
use Rattle.p416_syntax.specs.Unknown.{is_misnamed}
use Rattle.p416_syntax.specs.Sizes.{leaves_size}
use Rattle.p416_syntax.specs.Types.{is_mistyped}
use Rattle.p416_syntax.specs.Literals.{overflows}
use Rattle.p416_syntax.specs.Writes.{writes_constant}
use Rattle.p416_syntax.specs.Arguments.{is_miscounted}
use Rattle.p416_syntax.specs.Applications.{applies_wrongly}
use Rattle.p416_syntax.specs.Tables.{is_bad_in_table}
use Rattle.p416_syntax.specs.Externs.{is_outside_block}
use Rattle.p416_syntax.specs.Breaks.{program_uses}

-- pieces

abbrev pub number : ℕ → Literal16
number v = record { width = None; value = v }

abbrev pub sized : ℕ → ℕ → Literal16
sized w v = record { width = Some w; value = v }

abbrev pub bit_field : ℕ → Name → BitField
bit_field w n = record { width = number w; name = n }

abbrev pub named : Name → Type16
named text = Named text None

abbrev pub struct_field : Name → Name → StructField
struct_field t n = record { notes = []; of = named t; name = n }

abbrev pub param : Option Direction → Name → Name → Param
param d t n = record { direction = d; of = named t; name = n }

abbrev pub one : Stmt16 → Stmt16
one s = (then) no_statements s

abbrev pub given : Exp16 → Exp16
given e = argument no_arguments e

abbrev pub hdr : Exp16
hdr = member (name (codes "hdr")) (codes "h")

abbrev pub field : Name → Exp16
field n = member hdr n

abbrev pub egress_spec : Exp16
egress_spec = member (name (codes "sm")) (codes "egress_spec")

abbrev pub hs_param : Direction → Param
hs_param d = param (Some d) (codes "hs") (codes "hdr")

abbrev pub ms_param : Param
ms_param = param (Some InOut) (codes "ms") (codes "meta")

abbrev pub sm_param : Param
sm_param = param (Some InOut) (codes "standard_metadata_t") (codes "sm")

abbrev pub control : Name → List Param → List Local → Stmt16 → Decl16
control n ps ls body = decl.Control (record { name = n; parameters = ps; locals = ls; body = body })

-- what is changed
pub record Change : Type 0 where
  pub fields : List BitField
  pub start : Stmt16
  pub next : Transition
  pub verify_body : Stmt16
  pub ingress_locals : List Local
  pub ingress : Stmt16
  pub deparser : Stmt16
  pub main : List Name

abbrev pub parser_of : Change → Parser16
parser_of c = record {
  name = codes "P";
  parameters = param None (codes "packet_in") (codes "p") ∷ hs_param Out ∷ ms_param ∷ sm_param ∷ [];
  vars = [];
  states = record { name = codes "start"; body = c.start; transition = c.next } ∷ [];
}

abbrev pub ingress_of : Change → Control16
ingress_of c = record {
  name = codes "I";
  parameters = hs_param InOut ∷ ms_param ∷ sm_param ∷ [];
  locals = c.ingress_locals;
  body = c.ingress;
}

abbrev pub program : Change → Syntax16
program c = record {
  decls =
      decl.Header (record { name = codes "h_t"; fields = c.fields })
      ∷ decl.Struct (record { name = codes "hs"; fields = struct_field (codes "h_t") (codes "h") ∷ [] })
      ∷ decl.Struct (record { name = codes "ms"; fields = [] })
      ∷ decl.Parser (parser_of c)
      ∷ control (codes "V") (hs_param InOut ∷ ms_param ∷ []) [] c.verify_body
      ∷ decl.Control (ingress_of c)
      ∷ control (codes "E") (hs_param InOut ∷ ms_param ∷ sm_param ∷ []) [] no_statements
      ∷ control (codes "C") (hs_param InOut ∷ ms_param ∷ []) [] no_statements
      ∷ control (codes "D") (param None (codes "packet_out") (codes "p") ∷ hs_param In ∷ []) [] c.deparser
      ∷ [];
  main = c.main;
}

abbrev pub extract : Stmt16
extract = expression (call (member (name (codes "p")) (codes "extract")) (given hdr))

abbrev pub emit : Stmt16
emit = expression (call (member (name (codes "p")) (codes "emit")) (given hdr))

abbrev pub none : Change
none = record {
  fields = bit_field 48 (codes "a") ∷ bit_field 48 (codes "b") ∷ bit_field 16 (codes "c") ∷ [];
  start = one extract;
  next = transition.Go target_of.Accept;
  verify_body = no_statements;
  ingress_locals = [];
  ingress = one (assign egress_spec (literal (sized 9 3)));
  deparser = one emit;
  main = codes "P" ∷ codes "V" ∷ codes "I" ∷ codes "E" ∷ codes "C" ∷ codes "D" ∷ [];
}

abbrev pub sets : Exp16 → Change
sets e = record none { ingress = one (assign egress_spec e) }

-- the rules that are truth values, in order; T7's and T8's cycles are asked by themselves
abbrev pub broken : Syntax16 → List Bool
broken s =
    any is_misnamed ∷ any leaves_size ∷ any is_mistyped ∷ any overflows ∷ any writes_constant ∷ any is_miscounted
    ∷ any applies_wrongly ∷ any is_bad_in_table ∷ any is_outside_block ∷ []
  where
    any : (Use → Bool) → Bool
    any test = list_any test (program_uses s)

-- the number of the first that holds, counted from 1; 0 where none does
abbrev pub first : ℕ → List Bool → ℕ
first n [] = 0
first n (true ∷ rest) = n
first n (false ∷ rest) = first (suc n) rest

abbrev pub least : Change → ℕ
least c = first 1 (broken (program c))

abbrev pub applies_t : Stmt16
applies_t = expression (call (member (name (codes "t")) (codes "apply")) no_arguments)

abbrev pub action_of : Name → List Param → Stmt16 → Local
action_of n ps body = local.Action (record { notes = []; name = n; parameters = ps; body = body })

abbrev pub table_of : List Property → Local
table_of ps = local.Table (record { notes = []; name = codes "t"; properties = ps })

abbrev pub lists_x : Property
lists_x = property.Actions (action_name.Declared (codes "x") ∷ [])

abbrev pub key_of : Exp16 → Name → Property
key_of e kind = property.Key (record { exp = e; kind = kind; notes = [] } ∷ [])

abbrev pub calls_x : Change
calls_x = record none { ingress_locals = action_of (codes "y") [] (one (expression (call (name (codes "x")) no_arguments))) ∷ action_of (codes "x") [] (one (expression (call (name (codes "y")) no_arguments))) ∷ [] }

abbrev pub direct_d : Local
direct_d = local.Instance [] (instance.DirectCounter (member_of.CounterType counter_type.Packets) (codes "d"))

abbrev pub counts_d : Stmt16
counts_d = expression (call (member (name (codes "d")) (codes "count")) no_arguments)

-- a width of 129 bits
abbrev pub wide : Change
wide = record none { fields = bit_field 129 (codes "a") ∷ bit_field 7 (codes "b") ∷ [] }

-- what stands in ingress, and in a state
abbrev pub in_ingress : Stmt16 → Change
in_ingress body = record none { ingress = one body }

abbrev pub two : Stmt16 → Stmt16 → Stmt16
two a b = (then) (one a) b

abbrev pub condition : Exp16 → Change
condition e = in_ingress (if_then e (block no_statements))

abbrev pub declares : Type16 → Change
declares t = in_ingress (var t (codes "x"))

-- a stack of two headers, and a statement behind it
abbrev pub with_stack : Stmt16 → Change
with_stack body = record none { ingress = two (var (Named (codes "h_t") (Some (number 2))) (codes "s")) body }

abbrev pub stack_s : Exp16
stack_s = name (codes "s")

-- an action x, and one with parameters; a table t of it with these properties
abbrev pub with_table : List Property → Change
with_table ps = record none { ingress_locals = action_of (codes "x") [] no_statements ∷ table_of (lists_x ∷ ps) ∷ [] }

-- the same, with these statements in ingress
abbrev pub with_table_and : Stmt16 → Change
with_table_and body = record (with_table []) { ingress = body }

abbrev pub with_action : List Param → Stmt16 → Change
with_action ps body = record none { ingress_locals = action_of (codes "x") ps body ∷ table_of (lists_x ∷ []) ∷ [] }

abbrev pub value_v : Param
value_v = record { direction = None; of = Bit (number 9); name = codes "v" }

-- `transition select` over one field of 16 bits
abbrev pub accepts : Keyset → SelectCase
accepts k = record { keyset = k; target = target_of.Accept }

abbrev pub selects : List Keyset → Change
selects ks = record none { next = transition.Select (field (codes "c") ∷ []) (map accepts ks) }

abbrev pub value_of : Exp16 → Keyset
value_of e = keyset.One (simple.Value e)

-- so many `!` before `true`
abbrev pub nots : ℕ → Exp16
nots zero = truth true
nots (suc n) = unary Not (nots n)
