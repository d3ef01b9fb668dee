-- The one-table form of P4_16 under the v1model architecture: one header, one parser state that extracts it, and one table
-- without keys whose action sends to a port, with the syntax of a program of this form. P4_16 1.2, "Lexical constructs",
-- "P4 data types", "Packet parsing", "Control blocks", "Deparsing" and "P4 grammar"; v1model.p4.
use Rattle.std.specs.Prelude.{ℕ, ◌^◌, Bool, ◌&&◌, nat_lt, Option, Some, None, List, [], ◌∷◌, map, codes}
use Rattle.std.specs.List.{list_all}
use Rattle.p416_syntax.specs.SpeltLexemes.{is_identifier16, is_name16}
use Rattle.p416_syntax.specs.declared.parts.BitField.{BitField}
use Rattle.p416_syntax.specs.declared.parts.Note.TheVariants as note
use Rattle.p416_syntax.specs.declared.parts.Type16.TheVariants as kind
use Rattle.p416_syntax.specs.declared.parts.Direction.{Direction}
use Rattle.p416_syntax.specs.declared.parts.Direction.TheVariants.{In, Out, InOut}
use Rattle.p416_syntax.specs.declared.parts.Param.{Param}
use Rattle.p416_syntax.specs.declared.node.BinaryOperator.TheVariants.{Equal}
use Rattle.p416_syntax.specs.declared.parsers.State.{State}
use Rattle.p416_syntax.specs.declared.parsers.Target.TheVariants.{Accept}
use Rattle.p416_syntax.specs.declared.parsers.Transition.TheVariants.{Go}
use Rattle.p416_syntax.specs.declared.controls.ActionName.{ActionName}
use Rattle.p416_syntax.specs.declared.controls.ActionName.TheVariants.{Declared}
use Rattle.p416_syntax.specs.declared.controls.Property.TheVariants.{Actions, DefaultAction}
use Rattle.p416_syntax.specs.declared.controls.Local.{Local}
use Rattle.p416_syntax.specs.declared.controls.Local.TheVariants as local
use Rattle.p416_syntax.specs.declared.program.Decl16.{Decl16}
use Rattle.p416_syntax.specs.declared.program.Decl16.TheVariants as decl
use Rattle.p416_syntax.specs.declared.program.Syntax16.{Syntax16}
use Rattle.p416_syntax.specs.Tree.{Exp16, literal, name, error, member, binary, call, no_arguments, argument, Stmt16, no_statements, then, block, assign, expression, if_else}
use Rattle.p414_one_table.specs.declared.program.Field.{Field}
use Rattle.one_table_text.specs.declared.one_table.OneTable16.{OneTable16}

-- Which programs a text can have.

-- the field's name is one that the grammar allows there, and its width is below 2^128
abbrev pub is_field16 : Field → Bool
is_field16 f = is_name16 f.name && nat_lt f.width (2 ^ 128)

-- The names and numbers are such as the grammar allows at their places: a field's name is an ID, a string in `@name` holds
-- the text of an ID, and a literal is below 2^128. Which widths a header may have, whether a literal fits its width and
-- whether names repeat is no grammar.
abbrev pub is_one_table16 : OneTable16 → Bool
is_one_table16 q =
    list_all is_field16 q.fields && (is_identifier16 q.action && (nat_lt q.port (2 ^ 128) && is_identifier16 q.table))

-- The syntax of each declaration.

-- bit < w > name ;
abbrev pub bit_field : Field → BitField
bit_field f = record { width = record { width = None; value = f.width }; name = f.name }

-- header h_t { bit < w > name ; .. }
abbrev pub header16 : List Field → Decl16
header16 fields = decl.Header record { name = codes "h_t"; fields = map bit_field fields }

-- struct hs { h_t h ; }
abbrev pub header_struct : Decl16
header_struct = decl.Struct record {
  name = codes "hs";
  fields = record { notes = []; of = kind.Named (codes "h_t") None; name = codes "h" } ∷ [];
}

-- struct ms { }
abbrev pub metadata_struct : Decl16
metadata_struct = decl.Struct record { name = codes "ms"; fields = [] }

-- one parameter
abbrev pub param : Option Direction → List ℕ → List ℕ → Param
param way type n = record { direction = way; of = kind.Named type None; name = n }

-- out hs hdr, and the same with another direction
abbrev pub headers_param : Direction → Param
headers_param way = param (Some way) (codes "hs") (codes "hdr")

-- inout ms meta
abbrev pub meta_param : Param
meta_param = param (Some InOut) (codes "ms") (codes "meta")

-- inout standard_metadata_t sm
abbrev pub standard_param : Param
standard_param = param (Some InOut) (codes "standard_metadata_t") (codes "sm")

-- the parameters of the parser
abbrev pub parser_params : List Param
parser_params = param None (codes "packet_in") (codes "p") ∷ headers_param Out ∷ meta_param ∷ standard_param ∷ []

-- those of the checksum controls
abbrev pub checksum_params : List Param
checksum_params = headers_param InOut ∷ meta_param ∷ []

-- those of ingress and egress
abbrev pub switch_params : List Param
switch_params = headers_param InOut ∷ meta_param ∷ standard_param ∷ []

-- those of the deparser
abbrev pub deparser_params : List Param
deparser_params = param None (codes "packet_out") (codes "p") ∷ headers_param In ∷ []

-- of . word
abbrev pub member_of : List ℕ → List ℕ → Exp16
member_of of word = member (name of) word

-- callee ( only )
abbrev pub call_with : Exp16 → Exp16 → Exp16
call_with callee only = call callee (argument no_arguments only)

-- { statement }
abbrev pub only_statement : Stmt16 → Stmt16
only_statement s = then no_statements s

-- { p . method ( hdr . h ) ; }: what is done with the one header instance, as the block's parameter holds it
abbrev pub header_body : List ℕ → Stmt16
header_body method =
    only_statement (expression (call_with (member_of (codes "p") method) (member_of (codes "hdr") (codes "h"))))

-- state start { p . extract ( hdr . h ) ; transition accept ; }
abbrev pub start_state : State
start_state = record { name = codes "start"; body = header_body (codes "extract"); transition = Go Accept }

-- parser P
abbrev pub parser16 : Decl16
parser16 = decl.Parser record { name = codes "P"; parameters = parser_params; vars = []; states = start_state ∷ [] }

-- a control
abbrev pub control16 : List ℕ → List Param → List Local → Stmt16 → Decl16
control16 n parameters locals body =
    decl.Control record { name = n; parameters = parameters; locals = locals; body = body }

-- { sm . egress_spec = 9wN ; }
abbrev pub port_body : ℕ → Stmt16
port_body port =
    only_statement
    (assign (member_of (codes "sm") (codes "egress_spec")) (literal (record { width = Some 9; value = port })))

-- @name ( "n" ) action a ( ) { sm . egress_spec = 9wN ; }
abbrev pub action16 : List ℕ → ℕ → Local
action16 n port = local.Action record {
  notes = note.Name n ∷ [];
  name = codes "a";
  parameters = [];
  body = port_body port;
}

-- the action, as the table names it
abbrev pub the_action : ActionName
the_action = Declared (codes "a")

-- @name ( "n" ) table t { actions = { a ; } default_action = a ( ) ; }
abbrev pub table16 : List ℕ → Local
table16 n = local.Table record {
  notes = note.Name n ∷ [];
  name = codes "t";
  properties = Actions (the_action ∷ []) ∷ DefaultAction the_action no_arguments ∷ [];
}

-- sm . parser_error == error . NoError
abbrev pub no_error : Exp16
no_error = binary Equal (member_of (codes "sm") (codes "parser_error")) (member error (codes "NoError"))

-- t . apply ( ) ;
abbrev pub table_applied : Stmt16
table_applied = expression (call (member_of (codes "t") (codes "apply")) no_arguments)

-- mark_to_drop ( sm ) ;
abbrev pub packet_dropped : Stmt16
packet_dropped = expression (call_with (name (codes "mark_to_drop")) (name (codes "sm")))

-- { if ( sm . parser_error == error . NoError ) { t . apply ( ) ; } else { mark_to_drop ( sm ) ; } }
abbrev pub apply_or_drop : Stmt16
apply_or_drop =
    only_statement
    (if_else no_error (block (only_statement table_applied)) (block (only_statement packet_dropped)))

-- control I
abbrev pub ingress16 : OneTable16 → Decl16
ingress16 q = control16 (codes "I") switch_params (action16 q.action q.port ∷ table16 q.table ∷ []) apply_or_drop

-- a control that does nothing
abbrev pub empty_control : List ℕ → List Param → Decl16
empty_control n parameters = control16 n parameters [] no_statements

-- control D
abbrev pub deparser16 : Decl16
deparser16 = control16 (codes "D") deparser_params [] (header_body (codes "emit"))

-- the types, the parser and the checksum control in front of the ingress control
abbrev pub front_decls : List Field → List Decl16
front_decls fields =
    header16 fields ∷ header_struct ∷ metadata_struct ∷ parser16 ∷ empty_control (codes "V") checksum_params ∷ []

-- all declarations
abbrev pub decls16 : OneTable16 → List Decl16
decls16 q =
    header16 q.fields ∷ header_struct ∷ metadata_struct ∷ parser16 ∷ empty_control (codes "V") checksum_params ∷ ingress16 q
    ∷ empty_control (codes "E") switch_params ∷ empty_control (codes "C") checksum_params ∷ deparser16 ∷ []

-- V1Switch ( P ( ) , V ( ) , I ( ) , E ( ) , C ( ) , D ( ) ) main ;
abbrev pub block_names : List (List ℕ)
block_names = codes "P" ∷ codes "V" ∷ codes "I" ∷ codes "E" ∷ codes "C" ∷ codes "D" ∷ []

-- the syntax of a program of the form
unfoldable pub program16 : OneTable16 → Syntax16
program16 q = record { decls = decls16 q; main = block_names }
