-- What a P4_16 program does with a packet, by cases on its syntax, for programs whose headers are those of one struct,
-- whose parser has no further states, and whose tables have no keys: what isn't told of here does nothing and has the
-- value 0, and `FirstCut` says which programs have none of it. P4_16 1.2, "Operations on headers", "Statements", "Packet
-- parsing", "Control blocks" and "Deparsing"; v1model.p4 (blocks, standard_metadata_t, mark_to_drop).
use Rattle.std.specs.Prelude.{ℕ, zero, suc, ◌+◌, ◌*◌, ◌/◌, ◌%◌, ◌^◌, Bool, true, false, ◌==◌, ◌&&◌, if◌then◌else◌, nat_lt, List, [], ◌∷◌, ◌++◌, length, map, sum, drop, codes, Option, Some, None, slice_index_or}
use Rattle.std.specs.Str.{bytes_eq}
use Rattle.state_store.specs.State.{Contents}
use Rattle.p4x_bits.specs.BitLists.{octet_bits}
use Rattle.state_store.specs.Ports.{drop_port}
use Rattle.match_core.specs.declared.signatures.ActionSig.{ActionSig}
use Rattle.match_core.specs.declared.signatures.TableSig.{TableSig}
use Rattle.match_core.specs.declared.signatures.Signature.{Signature}
use Rattle.match_core.specs.declared.entries.DefaultCall.{DefaultCall}
use Rattle.match_core.specs.declared.entries.Entries.{Entries}
use Rattle.match_core.specs.Stores.{first_store}
use Rattle.p416_syntax.specs.declared.node.BinaryOperator.TheVariants.{Equal}
use Rattle.p416_syntax.specs.declared.parts.BitField.{BitField}
use Rattle.p416_syntax.specs.declared.parts.Param.{Param}
use Rattle.p416_syntax.specs.declared.parts.StructField.{StructField}
use Rattle.p416_syntax.specs.declared.parts.Type16.{Type16}
use Rattle.p416_syntax.specs.declared.parts.Type16.TheVariants.{Bit, Named}
use Rattle.p416_syntax.specs.declared.parsers.Parser16.{Parser16}
use Rattle.p416_syntax.specs.declared.parsers.State.{State}
use Rattle.p416_syntax.specs.declared.controls.Action16.{Action16}
use Rattle.p416_syntax.specs.declared.controls.ActionName.{ActionName}
use Rattle.p416_syntax.specs.declared.controls.ActionName.TheVariants.{Declared, NoAction}
use Rattle.p416_syntax.specs.declared.controls.Table16.{Table16}
use Rattle.p416_syntax.specs.declared.controls.Local.{Local}
use Rattle.p416_syntax.specs.declared.controls.Local.TheVariants.{Action, Table}
use Rattle.p416_syntax.specs.declared.controls.Control16.{Control16}
use Rattle.p416_syntax.specs.declared.program.Decl16.{Decl16}
use Rattle.p416_syntax.specs.declared.program.Decl16.TheVariants.{Header, Struct, Parser, Control}
use Rattle.p416_syntax.specs.declared.program.Syntax16.{Syntax16}
use Rattle.p416_syntax.specs.Properties.{actions_of, default_action_of}
use Rattle.p416_syntax.specs.Tree.{Exp16, literal, name, error, member, binary, call, no_arguments, argument, Stmt16, no_statements, then, block, assign, expression, if_else}
use Rattle.p416_syntax.specs.Scopes.{plane_name}
use Rattle.fabric.specs.declared.packets.Arrival.{Arrival}
use Rattle.p4x_cmd.specs.Headers.{numbers_in, bits_in, octets_in, zeros}
use Rattle.run_stream.specs.Runs.{Ran}
use Rattle.p4x_cmd.specs.Passes.{dropped, leaves, Pass, run_of}
use Rattle.p4x_cmd.specs.Entries.{fill_at}

-- a member of H, the struct of headers: its name, and the names and widths of its header's fields
pub record Member : Type 0 where
  pub called : List ℕ
  pub fields : List (List ℕ)
  pub widths : List ℕ

-- a header as it stands
pub record Header_now : Type 0 where
  pub valid : Bool
  pub numbers : List ℕ

-- What a block works on: the headers of H in order, the standard metadata in the order of `standard_fields`, the octets
-- that are not parsed, those that were emitted, the count of statements and transitions that began, and whether an
-- error stopped the parser.
pub record Moment : Type 0 where
  pub headers : List Header_now
  pub standard : List ℕ
  pub unparsed : List ℕ
  pub emitted : List ℕ
  pub work : ℕ
  pub stopped : Bool

-- the names by which a block knows its parameters; [] for one that it hasn't
pub record Scope : Type 0 where
  pub members : List Member
  pub packet : List ℕ
  pub headers : List ℕ
  pub standard : List ℕ

-- the fields of standard_metadata_t
abbrev pub standard_fields : List (List ℕ)
standard_fields =
    codes "ingress_port" ∷ codes "egress_spec" ∷ codes "egress_port" ∷ codes "packet_length" ∷ codes "instance_type"
    ∷ codes "parser_error" ∷ codes "checksum_error" ∷ []

-- the number of an error, in the order in which core.p4's are listed by this project
abbrev pub error_number : List ℕ → ℕ
error_number word =
    if bytes_eq word (codes "PacketTooShort") then 1
    else (if bytes_eq word (codes "StackOutOfBounds") then 2 else (if bytes_eq word (codes "NoMatch") then 3 else 0))

-- the number that stands under a name, 0 where there is none
abbrev pub number_under : List (List ℕ) → List ℕ → List ℕ → ℕ
number_under [] numbers word = 0
number_under (n ∷ names) [] word = 0
number_under (n ∷ names) (v ∷ numbers) word = if bytes_eq n word then v else number_under names numbers word

-- the numbers with another one under a name
abbrev pub put_under : List (List ℕ) → List ℕ → List ℕ → ℕ → List ℕ
put_under [] numbers word value = numbers
put_under (n ∷ names) [] word value = []
put_under (n ∷ names) (v ∷ numbers) word value =
    if bytes_eq n word then value ∷ numbers else (v ∷ put_under names numbers word value)

-- a field of a header of H, which reads 0 in an invalid header
abbrev pub field_under : List Member → List Header_now → List ℕ → List ℕ → ℕ
field_under [] headers h f = 0
field_under (m ∷ members) [] h f = 0
field_under (m ∷ members) (x ∷ headers) h f =
    if bytes_eq m.called h then (if x.valid then number_under m.fields x.numbers f else 0)
    else field_under members headers h f

-- the headers with another number in a field; a write to an invalid header does nothing
abbrev pub put_field : List Member → List Header_now → List ℕ → List ℕ → ℕ → List Header_now
put_field [] headers h f value = headers
put_field (m ∷ members) [] h f value = []
put_field (m ∷ members) (x ∷ headers) h f value =
    if bytes_eq m.called h
    then (if x.valid then record x { numbers = put_under m.fields x.numbers f value } else x) ∷ headers
    else (x ∷ put_field members headers h f value)

-- the value of e.word, by what e is
abbrev pub member_value : Scope → Moment → Exp16 → List ℕ → ℕ
member_value c m error word = error_number word
member_value c m (name text) word = if bytes_eq text c.standard then number_under standard_fields m.standard word else 0
member_value c m (member (name text) h) word =
    if bytes_eq text c.headers then field_under c.members m.headers h word else 0
member_value c m _ word = 0

-- the number of an expression; a truth value is 1 or 0, an error its number
abbrev pub value16 : Scope → Moment → Exp16 → ℕ
value16 c m (literal number) = number.value
value16 c m (member of word) = member_value c m of word
value16 c m (binary Equal a b) = if value16 c m a == value16 c m b then 1 else 0
value16 c m _ = 0

-- one more statement or transition begins
abbrev pub tick : Moment → Moment
tick m = record m { work = m.work + 1 }

-- a write
abbrev pub put16 : Scope → Exp16 → ℕ → Moment → Moment
put16 c (member (name text) word) value m =
    if bytes_eq text c.standard then record m { standard = put_under standard_fields m.standard word value } else m
put16 c (member (member (name text) h) word) value m =
    if bytes_eq text c.headers then record m { headers = put_field c.members m.headers h word value } else m
put16 c _ value m = m

-- the headers after the extraction of one from bits
abbrev pub filled : List Member → List Header_now → List ℕ → List Bool → List Header_now
filled [] headers h taken = headers
filled (m ∷ members) [] h taken = []
filled (m ∷ members) (x ∷ headers) h taken =
    if bytes_eq m.called h then record { valid = true; numbers = numbers_in m.widths taken } ∷ headers
    else (x ∷ filled members headers h taken)

-- how many bits a header of H has
abbrev pub width_under : List Member → List ℕ → ℕ
width_under [] h = 0
width_under (m ∷ members) h = if bytes_eq m.called h then sum m.widths else width_under members h

-- p.extract(hdr.h): the next octets become the header; too few octets raise PacketTooShort and move nothing
abbrev pub extract16 : Scope → List ℕ → Moment → Moment
extract16 c h m =
    if nat_lt (8 * length m.unparsed) (width_under c.members h) then
    record m { standard = put_under standard_fields m.standard (codes "parser_error") 1; stopped = true }
    else
    record m {
      headers = filled c.members m.headers h (octet_bits m.unparsed);
      unparsed = drop (width_under c.members h / 8) m.unparsed;
    }

-- the octets of a header of H: none where it is invalid
abbrev pub header_octets : List Member → List Header_now → List ℕ → List ℕ
header_octets [] headers h = []
header_octets (m ∷ members) [] h = []
header_octets (m ∷ members) (x ∷ headers) h =
    if bytes_eq m.called h then (if x.valid then octets_in (bits_in m.widths x.numbers) else [])
    else header_octets members headers h

-- p.emit(hdr.h)
abbrev pub emit16 : Scope → List ℕ → Moment → Moment
emit16 c h m = record m { emitted = m.emitted ++ header_octets c.members m.headers h }

-- mark_to_drop(sm)
abbrev pub mark_to_drop16 : Moment → Moment
mark_to_drop16 m = record m { standard = put_under standard_fields m.standard (codes "egress_spec") drop_port }

-- a method of a packet on a header of H
abbrev pub packet_call : Scope → List ℕ → Exp16 → Moment → Moment
packet_call c word (argument no_arguments (member (name text) h)) m =
    if bytes_eq text c.headers then
    (if bytes_eq word (codes "extract") then extract16 c h m
    else (if bytes_eq word (codes "emit") then emit16 c h m else m))
    else m
packet_call c word _ m = m

-- a call; `tables` says what the application of a table does
abbrev pub call16 : (List ℕ → Moment → Moment) → Scope → Exp16 → Exp16 → Moment → Moment
call16 tables c (member (name text) word) given m =
    if bytes_eq word (codes "apply") then tables text m
    else (if bytes_eq text c.packet then packet_call c word given m else m)
call16 tables c (name text) (argument no_arguments (name sm)) m =
    if bytes_eq text (codes "mark_to_drop") && bytes_eq sm c.standard then mark_to_drop16 m else m
call16 tables c _ given m = m

-- a statement that is an expression
abbrev pub expression16 : (List ℕ → Moment → Moment) → Scope → Exp16 → Moment → Moment
expression16 tables c (call callee given) m = call16 tables c callee given m
expression16 tables c _ m = m

-- Statements in order. Each but a block counts one as it begins; what follows an error is not begun.
abbrev pub run16 : (List ℕ → Moment → Moment) → Scope → Stmt16 → Moment → Moment
run16 tables c no_statements m = m
run16 tables c ((then) before last) m =
    let now = run16 tables c before m in
    if now.stopped then now else run16 tables c last now
run16 tables c (block statements) m = run16 tables c statements m
run16 tables c (assign target e) m = put16 c target (value16 c (tick m) e) (tick m)
run16 tables c (expression e) m = expression16 tables c e (tick m)
run16 tables c (if_else condition positive negative) m =
    if value16 c (tick m) condition == 1 then run16 tables c positive (tick m) else run16 tables c negative (tick m)
run16 tables c _ m = m

-- the action of a name among the locals of a control
abbrev pub action_named : List Local → List ℕ → Option Action16
action_named [] text = None
action_named (Action a ∷ locals) text = if bytes_eq a.name text then Some a else action_named locals text
action_named (other ∷ locals) text = action_named locals text

-- the table of a name among them
abbrev pub table_named : List Local → List ℕ → Option Table16
table_named [] text = None
table_named (Table t ∷ locals) text = if bytes_eq t.name text then Some t else table_named locals text
table_named (other ∷ locals) text = table_named locals text

-- no table is applied inside an action
abbrev pub no_tables : List ℕ → Moment → Moment
no_tables text m = m

-- the body of an action of the control
abbrev pub action16 : Scope → List Local → Option ActionName → Moment → Moment
action16 c locals (Some (Declared text)) m = body_of (action_named locals text)
  where
    body_of : Option Action16 → Moment
    body_of None = m
    body_of (Some a) = run16 no_tables c a.body m
action16 c locals _ m = m

-- A table without keys misses, so the default of the entries file runs, which names one of the table's actions by its
-- number; or else `default_action`, or none.
abbrev pub chosen16 : Table16 → Option DefaultCall → Option ActionName
chosen16 t (Some given) = at given.action (actions_of t.properties)
  where
    at : ℕ → List ActionName → Option ActionName
    at n [] = None
    at zero (a ∷ names) = Some a
    at (suc n) (a ∷ names) = at n names
chosen16 t None = default_action_of t.properties

-- t.apply() in a control whose only table is t
abbrev pub apply16 : Scope → List Local → Entries → List ℕ → Moment → Moment
apply16 c locals e text m = applied (table_named locals text)
  where
    applied : Option Table16 → Moment
    applied None = m
    applied (Some t) = action16 c locals (chosen16 t (fill_at e 0).default) m

-- the fields of the header type of a name
abbrev pub header_of : List Decl16 → List ℕ → List BitField
header_of [] text = []
header_of (Header h ∷ decls) text = if bytes_eq h.name text then h.fields else header_of decls text
header_of (other ∷ decls) text = header_of decls text

-- the fields of the struct type of a name
abbrev pub struct_of : List Decl16 → List ℕ → List StructField
struct_of [] text = []
struct_of (Struct s ∷ decls) text = if bytes_eq s.name text then s.fields else struct_of decls text
struct_of (other ∷ decls) text = struct_of decls text

-- the parser of a name
abbrev pub parser_of : List Decl16 → List ℕ → Option Parser16
parser_of [] text = None
parser_of (Parser p ∷ decls) text = if bytes_eq p.name text then Some p else parser_of decls text
parser_of (other ∷ decls) text = parser_of decls text

-- the control of a name
abbrev pub control_of : List Decl16 → List ℕ → Option Control16
control_of [] text = None
control_of (Control c ∷ decls) text = if bytes_eq c.name text then Some c else control_of decls text
control_of (other ∷ decls) text = control_of decls text

-- the name of a type, [] for one that has no name, and for a stack
abbrev pub type_name : Type16 → List ℕ
type_name (Named text None) = text
type_name _ = []

-- a field of H as a member
abbrev pub member_of : List Decl16 → StructField → Member
member_of decls f =
    let fields = header_of decls (type_name f.of) in
    record { called = f.name; fields = map (λ x. x.name) fields; widths = map (λ x. x.width.value) fields }

-- the name of the parameter at a place
abbrev pub parameter_at : List Param → ℕ → List ℕ
parameter_at [] n = []
parameter_at (p ∷ parameters) zero = p.name
parameter_at (p ∷ parameters) (suc n) = parameter_at parameters n

-- the name of its type
abbrev pub parameter_type : List Param → ℕ → List ℕ
parameter_type [] n = []
parameter_type (p ∷ parameters) zero = type_name p.of
parameter_type (p ∷ parameters) (suc n) = parameter_type parameters n

-- the members of the struct of headers, which is the type of the parameter at a place
abbrev pub members_at : Syntax16 → List Param → ℕ → List Member
members_at s parameters n = map (member_of s.decls) (struct_of s.decls (parameter_type parameters n))

-- a parser has the packet, H, M and the standard metadata
abbrev pub parser_scope : Syntax16 → List Param → Scope
parser_scope s parameters = record {
  members = members_at s parameters 1;
  packet = parameter_at parameters 0;
  headers = parameter_at parameters 1;
  standard = parameter_at parameters 3;
}

-- verify, ingress, egress and compute have H, M and, in ingress and egress, the standard metadata
abbrev pub control_scope : Syntax16 → List Param → Scope
control_scope s parameters = record {
  members = members_at s parameters 0;
  packet = [];
  headers = parameter_at parameters 0;
  standard = parameter_at parameters 2;
}

-- a deparser has the packet and H
abbrev pub deparser_scope : Syntax16 → List Param → Scope
deparser_scope s parameters = record {
  members = members_at s parameters 1;
  packet = parameter_at parameters 0;
  headers = parameter_at parameters 1;
  standard = [];
}

-- The state `start`, and its transition, which ends the parser and counts one where no error stopped the state before.
-- An error stops the parser alone.
abbrev pub parse16 : Syntax16 → Option Parser16 → Moment → Moment
parse16 s None m = m
parse16 s (Some p) m = started p.states
  where
    ends : Moment → Moment
    ends now = if now.stopped then record now { stopped = false } else tick now

    started : List State → Moment
    started [] = m
    started (x ∷ states) =
        if bytes_eq x.name (codes "start") then ends (run16 no_tables (parser_scope s p.parameters) x.body m)
        else started states

-- a control block in its scope
abbrev pub control16 : (List Param → Scope) → Entries → Option Control16 → Moment → Moment
control16 scope e None m = m
control16 scope e (Some c) m = run16 (apply16 (scope c.parameters) c.locals e) (scope c.parameters) c.body m

-- the names in `V1Switch(..) main;`: parser, verify, ingress, egress, compute, deparser
abbrev pub main_at : Syntax16 → ℕ → List ℕ
main_at s n = slice_index_or s.main n []

-- the control at a place of `main`
abbrev pub block16 : Syntax16 → ℕ → Option Control16
block16 s n = control_of s.decls (main_at s n)

-- headers that are invalid, with fields 0
abbrev pub invalid_headers : List Member → List Header_now
invalid_headers members = map (λ x. record { valid = false; numbers = zeros x.widths }) members

-- the members of H, as the parser has it
abbrev pub members_of : Syntax16 → Option Parser16 → List Member
members_of s None = []
members_of s (Some p) = members_at s p.parameters 1

-- as a pass begins: all headers invalid, all octets unparsed, `parser_error` NoError
abbrev pub start16 : Syntax16 → Option Parser16 → Arrival → Moment
start16 s p a = record {
  headers = invalid_headers (members_of s p);
  standard = a.port ∷ 0 ∷ 0 ∷ length a.octets % 2 ^ 32 ∷ 0 ∷ 0 ∷ 0 ∷ [];
  unparsed = a.octets;
  emitted = [];
  work = 0;
  stopped = false;
}

-- the number of a field of the standard metadata
abbrev pub standard_number : Moment → List ℕ → ℕ
standard_number m word = number_under standard_fields m.standard word

-- another number in a field of the standard metadata
abbrev pub with_standard : List ℕ → ℕ → Moment → Moment
with_standard word value m = record m { standard = put_under standard_fields m.standard word value }

-- verify is left out after an error
abbrev pub verified16 : Syntax16 → Entries → Moment → Moment
verified16 s e m =
    if standard_number m (codes "parser_error") == 0 then control16 (control_scope s) e (block16 s 1) m else m

-- parser, verify and ingress
abbrev pub ingress16 : Syntax16 → Entries → Arrival → Moment
ingress16 s e a =
    let p = parser_of s.decls (main_at s 0) in
    control16 (control_scope s) e (block16 s 2) (verified16 s e (parse16 s p (start16 s p a)))

-- egress begins with `egress_spec` 0 and the port
abbrev pub egress16 : Syntax16 → Entries → Moment → Moment
egress16 s e m =
    let port = standard_number m (codes "egress_spec") in
    control16 (control_scope s) e (block16 s 3)
    (with_standard (codes "egress_spec") 0 (with_standard (codes "egress_port") port m))

-- compute and deparse run where the packet is sent
abbrev pub deparsed16 : Syntax16 → Entries → Moment → Moment
deparsed16 s e m = control16 (deparser_scope s) e (block16 s 5) (control16 (control_scope s) e (block16 s 4) m)

-- a packet leaves as what was emitted, then the octets that were not parsed
abbrev pub sent16 : Moment → Pass
sent16 m = record { end = leaves (standard_number m (codes "egress_port")) (m.emitted ++ m.unparsed); work = m.work }

-- the packet is dropped
abbrev pub dropped16 : Moment → Pass
dropped16 m = record { end = dropped; work = m.work }

-- the drop port in `egress_spec` drops, after egress as after ingress
abbrev pub after_egress16 : Syntax16 → Entries → Moment → Pass
after_egress16 s e m =
    if standard_number m (codes "egress_spec") == drop_port then dropped16 m else sent16 (deparsed16 s e m)

-- one pass
abbrev pub pass16 : Syntax16 → Entries → Arrival → Pass
pass16 s e a =
    let m = ingress16 s e a in
    if standard_number m (codes "egress_spec") == drop_port then dropped16 m else after_egress16 s e (egress16 s e m)

-- an action that a table of a control names: its control-plane name, and the widths of its parameters
abbrev pub action_sig : List Local → ActionName → ActionSig
action_sig locals NoAction = record { name = codes "NoAction"; widths = [] }
action_sig locals (Declared text) = of (action_named locals text)
  where
    width : Param → ℕ
    width p = of_type p.of
      where
        of_type : Type16 → ℕ
        of_type (Bit w) = w.value
        of_type _ = 0

    of : Option Action16 → ActionSig
    of None = record { name = text; widths = [] }
    of (Some a) = record { name = plane_name a.notes a.name; widths = map width a.parameters }

-- the tables among the locals of a control
abbrev pub tables_in : List Local → List Local → List TableSig
tables_in all [] = []
tables_in all (Table t ∷ locals) = record {
  name = plane_name t.notes t.name;
  keys = [];
  actions = map (action_sig all) (actions_of t.properties);
  size = 1024;
  direct = None;
} ∷ tables_in all locals
tables_in all (other ∷ locals) = tables_in all locals

-- the tables of all controls
abbrev pub tables_of : List Decl16 → List TableSig
tables_of [] = []
tables_of (Control c ∷ decls) = tables_in c.locals c.locals ++ tables_of decls
tables_of (other ∷ decls) = tables_of decls

-- the signature of a program that has one table, whose size is 1024 since no property gives it, and no object
abbrev pub signature16 : Syntax16 → Signature
signature16 s = record { tables = tables_of s.decls; objects = [] }

-- what the program does on a list of arrivals, with the count of its work
unfoldable pub Run16 : Syntax16 → Entries → ℕ → List Arrival → Ran Contents
Run16 s e bound arrivals = run_of (pass16 s e) bound (first_store (signature16 s) e) arrivals
