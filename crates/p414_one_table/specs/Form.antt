-- The one-table form of P4_14: which syntax is a program of it, and with which names and numbers. P4_14 1.0.5, "Headers
-- and Fields", "Parser Specification", "Actions", "Table Declarations" and "Packet Processing and Control Flow".
use Rattle.std.specs.Prelude.{ℕ, ◌-◌, ◌^◌, min, Bool, true, false, ◌&&◌, if◌then◌else◌, List, [], ◌∷◌, map, Option, Some, None, codes}
use Rattle.std.specs.List.{list_all}
use Rattle.std.specs.Str.{bytes_eq}
use Rattle.p414_syntax.specs.declared.parts.Sign.{Sign}
use Rattle.p414_syntax.specs.declared.parts.Sign.TheVariants as sign
use Rattle.p414_syntax.specs.declared.parts.Number.{Number}
use Rattle.p414_syntax.specs.declared.parts.Ref.{Ref}
use Rattle.p414_syntax.specs.declared.headers.Field.{Field as DeclaredField}
use Rattle.p414_syntax.specs.declared.headers.FieldWidth.{FieldWidth}
use Rattle.p414_syntax.specs.declared.headers.FieldWidth.TheVariants as width
use Rattle.p414_syntax.specs.declared.headers.Header.{Header}
use Rattle.p414_syntax.specs.declared.parsers.Parser.{Parser}
use Rattle.p414_syntax.specs.declared.parsers.PStmt.{PStmt}
use Rattle.p414_syntax.specs.declared.parsers.PStmt.TheVariants as statement
use Rattle.p414_syntax.specs.declared.parsers.Return.{Return}
use Rattle.p414_syntax.specs.declared.parsers.Return.TheVariants as end
use Rattle.p414_syntax.specs.declared.actions.Arg.{Arg}
use Rattle.p414_syntax.specs.declared.actions.Arg.TheVariants as arg
use Rattle.p414_syntax.specs.declared.actions.Call.{Call}
use Rattle.p414_syntax.specs.declared.actions.Action.{Action}
use Rattle.p414_syntax.specs.declared.tables.TableAttr.{TableAttr}
use Rattle.p414_syntax.specs.declared.tables.TableAttr.TheVariants as attribute
use Rattle.p414_syntax.specs.declared.tables.Table.{Table}
use Rattle.p414_syntax.specs.declared.syntax.Decl.{Decl}
use Rattle.p414_syntax.specs.declared.syntax.Decl.TheVariants as decl
use Rattle.p414_syntax.specs.declared.syntax.Syntax14.{Syntax14}
use Rattle.p414_syntax.specs.Conditions.{is_bare}
use Rattle.p414_syntax.specs.Tree.{Stmt, no_statements, then as followed_by, apply}
use Rattle.p414_syntax.specs.Views.{HeaderTypeTree, ControlTree}
use Rattle.p414_one_table.specs.declared.program.Field.{Field}
use Rattle.p414_one_table.specs.declared.program.OneTable14.{OneTable14}
use Rattle.p414_one_table.specs.Programs.{is_one_table}

-- a number past 2^64 - 1 counts as 2^64 - 1, which is neither a width nor a port
abbrev pub clipped : ℕ → ℕ
clipped n = min n (2 ^ 64 - 1)

-- a field: NAME : WIDTH ; with a width in bits, and without attributes
abbrev pub has_bits : FieldWidth → Bool
has_bits (width.Bits n) = true
has_bits width.Rest = false

abbrev pub is_empty : {A : Type 0} → List A → Bool
is_empty [] = true
is_empty (x ∷ xs) = false

abbrev pub is_plain : DeclaredField → Bool
is_plain f = has_bits f.width && is_empty f.attributes

abbrev pub bits_of : FieldWidth → ℕ
bits_of (width.Bits n) = clipped n.value
bits_of width.Rest = 0

abbrev pub plain_field : DeclaredField → Field
plain_field f = record { name = f.name; width = bits_of f.width }

-- header_type T { fields { NAME : WIDTH ; .. } }
abbrev pub is_plain_type : HeaderTypeTree → Bool
is_plain_type t = list_all is_plain t.fields && is_empty t.tails

-- header T NAME ;
abbrev pub is_single : {A : Type 0} → Option A → Bool
is_single None = true
is_single (Some size) = false

abbrev pub is_header_of : List ℕ → Header → Bool
is_header_of type h = bytes_eq h.header_type type && is_single h.size

-- extract ( h ) ;
abbrev pub extracts : List ℕ → List PStmt → Bool
extracts h (statement.Extract i ∷ []) = is_bare h i
extracts h statements = false

-- return ingress ;
abbrev pub returns_ingress : Return → Bool
returns_ingress (end.State name) = bytes_eq name (codes "ingress")
returns_ingress other = false

-- parser start { extract ( h ) ; return ingress ; }
abbrev pub is_start_of : List ℕ → Parser → Bool
is_start_of h p = bytes_eq p.name (codes "start") && extracts h p.statements && returns_ingress p.end

-- standard_metadata . egress_spec
abbrev pub is_egress_spec : Ref → Bool
is_egress_spec f = is_bare (codes "standard_metadata") f.instance && bytes_eq f.field (codes "egress_spec")

-- a number without `-` in front
abbrev pub is_not_negative : Option Sign → Bool
is_not_negative (Some sign.Minus) = false
is_not_negative other = true

-- ( standard_metadata . egress_spec , N ), and this N
abbrev pub port_in : List Arg → Option ℕ
port_in (arg.Field f ∷ arg.Number n ∷ []) =
    if is_egress_spec f && is_not_negative n.sign then Some (clipped n.literal.value) else None
port_in arguments = None

-- modify_field ( standard_metadata . egress_spec , N ) ; and this N
abbrev pub port_of_call : Call → Option ℕ
port_of_call c = if bytes_eq c.name (codes "modify_field") then port_in c.arguments else None

abbrev pub port_of_calls : List Call → Option ℕ
port_of_calls (c ∷ []) = port_of_call c
port_of_calls calls = None

-- action a ( ) { modify_field ( standard_metadata . egress_spec , N ) ; } and this N
abbrev pub port_of : Action → Option ℕ
port_of a = if is_empty a.parameters then port_of_calls a.calls else None

-- a ;
abbrev pub is_only : List ℕ → List (List ℕ) → Bool
is_only a (name ∷ []) = bytes_eq name a
is_only a names = false

-- a or a ( )
abbrev pub has_no_arguments : Option (List Number) → Bool
has_no_arguments None = true
has_no_arguments (Some numbers) = is_empty numbers

abbrev pub is_call_of : List ℕ → List ℕ → Option (List Number) → Bool
is_call_of a name numbers = bytes_eq name a && has_no_arguments numbers

-- actions { a ; } and default_action : a ; in either order
abbrev pub are_attributes_of : List ℕ → List TableAttr → Bool
are_attributes_of a (attribute.Actions names ∷ attribute.DefaultAction name numbers ∷ []) =
    is_only a names && is_call_of a name numbers
are_attributes_of a (attribute.DefaultAction name numbers ∷ attribute.Actions names ∷ []) =
    is_only a names && is_call_of a name numbers
are_attributes_of a attributes = false

-- apply ( t ) ;
abbrev pub applies : List ℕ → Stmt → Bool
applies t (followed_by no_statements (apply name)) = bytes_eq name t
applies t other = false

-- control ingress { apply ( t ) ; }
abbrev pub is_ingress_of : List ℕ → ControlTree → Bool
is_ingress_of t c = bytes_eq c.name (codes "ingress") && applies t c.body

-- what the parts name, with the port that the action sends to, if it sends to one
abbrev pub with_port : HeaderTypeTree → Header → Action → Table → Option ℕ → Option OneTable14
with_port t h a b None = None
with_port t h a b (Some port) =
    Some (record { fields = map plain_field t.fields; instance = h.name; action = a.name; port = port; table = b.name })

-- the parts name each other as those of a program do
abbrev pub are_parts : HeaderTypeTree → Header → Parser → Action → Table → ControlTree → Bool
are_parts t h p a b c =
    is_plain_type t && is_header_of t.name h && is_start_of h.name p && are_attributes_of a.name b.attributes
    && is_ingress_of b.name c

-- the names and numbers of six declarations, if they are the parts of a program
abbrev pub of_parts : HeaderTypeTree → Header → Parser → Action → Table → ControlTree → Option OneTable14
of_parts t h p a b c = if are_parts t h p a b c then with_port t h a b (port_of a) else None

abbrev pub of_decls : List Decl → Option OneTable14
of_decls (decl.HeaderType t ∷ decl.Header h ∷ decl.Parser p ∷ decl.Action a ∷ decl.Table b ∷ decl.Control c ∷ []) =
    of_parts t h p a b c
of_decls decls = None

-- the program with these names and numbers, if it may have them
abbrev pub judged : Option OneTable14 → Option OneTable14
judged None = None
judged (Some p) = if is_one_table p then Some p else None

-- The program of the one-table form that a syntax is, if it is one:
--
--   header_type T { fields { NAME : WIDTH ; .. } }
--   header T h ;
--   parser start { extract ( h ) ; return ingress ; }
--   action a ( ) { modify_field ( standard_metadata . egress_spec , N ) ; }
--   table t { actions { a ; } default_action : a ( ) ; }
--   control ingress { apply ( t ) ; }
abbrev pub one_table_of : Syntax14 → Option OneTable14
one_table_of s = judged (of_decls s.decls)
