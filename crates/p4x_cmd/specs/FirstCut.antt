-- The programs of P4_16 on which this meaning is whole: all that such a program says is what the meaning reads of it
-- (this project's own). By cases on the whole syntax: the parser has one state and no variables, structs hold no stacks,
-- there is one table, which has no properties but its actions and its default, nothing else is declared, and a body has
-- no statements, no expressions and no calls but these.
use Rattle.std.specs.Prelude.{Bool, true, false, ◌==◌, ◌&&◌, ◌||◌, if◌then◌else◌, List, [], ◌∷◌, length, codes, None}
use Rattle.std.specs.List.{list_all}
use Rattle.std.specs.Str.{bytes_eq}
use Rattle.p416_syntax.specs.declared.node.BinaryOperator.TheVariants.{Equal}
use Rattle.p416_syntax.specs.declared.parts.Note.{Note}
use Rattle.p416_syntax.specs.declared.parts.Note.TheVariants.{Name}
use Rattle.p416_syntax.specs.declared.parts.StructField.{StructField}
use Rattle.p416_syntax.specs.declared.parts.Type16.{Type16}
use Rattle.p416_syntax.specs.declared.parts.Type16.TheVariants as kind
use Rattle.p416_syntax.specs.declared.parsers.State.{State}
use Rattle.p416_syntax.specs.declared.parsers.Target.TheVariants.{Accept}
use Rattle.p416_syntax.specs.declared.parsers.Transition.{Transition}
use Rattle.p416_syntax.specs.declared.parsers.Transition.TheVariants.{Go}
use Rattle.p416_syntax.specs.declared.controls.Property.{Property}
use Rattle.p416_syntax.specs.declared.controls.Property.TheVariants.{Actions, DefaultAction}
use Rattle.p416_syntax.specs.declared.controls.Local.{Local}
use Rattle.p416_syntax.specs.declared.controls.Local.TheVariants.{Action, Table}
use Rattle.p416_syntax.specs.declared.controls.Control16.{Control16}
use Rattle.p416_syntax.specs.declared.program.Decl16.{Decl16}
use Rattle.p416_syntax.specs.declared.program.Decl16.TheVariants.{Header, Struct, Parser, Control}
use Rattle.p416_syntax.specs.declared.program.Syntax16.{Syntax16}
use Rattle.p416_syntax.specs.Tree.{Exp16, literal, name, error, member, binary, call, no_arguments, argument, Stmt16, no_statements, then, block, assign, expression, if_else}
use Rattle.p4x_cmd.specs.Meaning16.{Scope, parser_scope, control_scope, deparser_scope, main_at, tables_of}

-- a field of the standard metadata, or of a header of H
abbrev pub is_field : Scope → Exp16 → Bool
is_field c (member (name text) word) = bytes_eq text c.standard
is_field c (member (member (name text) h) word) = bytes_eq text c.headers
is_field c _ = false

-- what may be written: a field of a header of H, and of the standard metadata `egress_spec` alone
abbrev pub is_target : Scope → Exp16 → Bool
is_target c (member (name text) word) = bytes_eq text c.standard && bytes_eq word (codes "egress_spec")
is_target c (member (member (name text) h) word) = bytes_eq text c.headers
is_target c _ = false

-- a literal, an error, a field, or whether two of these are equal
abbrev pub is_value : Scope → Exp16 → Bool
is_value c (literal number) = true
is_value c (member error word) = true
is_value c (binary Equal a b) = is_value c a && is_value c b
is_value c e = is_field c e

-- t.apply(), p.extract(hdr.h), p.emit(hdr.h) or mark_to_drop(sm)
abbrev pub is_simple_call : Scope → Exp16 → Bool
is_simple_call c (call (member (name text) word) no_arguments) = bytes_eq word (codes "apply")
is_simple_call c (call (member (name text) word) (argument no_arguments (member (name of) h))) =
    (bytes_eq word (codes "extract") || bytes_eq word (codes "emit")) && bytes_eq text c.packet && bytes_eq of c.headers
is_simple_call c (call (name text) (argument no_arguments (name of))) =
    bytes_eq text (codes "mark_to_drop") && bytes_eq of c.standard
is_simple_call c _ = false

-- blocks, assignments, such calls, and `if` with `else`
abbrev pub is_simple : Scope → Stmt16 → Bool
is_simple c no_statements = true
is_simple c ((then) before last) = is_simple c before && is_simple c last
is_simple c (block statements) = is_simple c statements
is_simple c (assign target e) = is_target c target && is_value c e
is_simple c (expression e) = is_simple_call c e
is_simple c (if_else condition positive negative) =
    is_value c condition && is_simple c positive && is_simple c negative
is_simple c _ = false

-- transition accept;
abbrev pub is_end : Transition → Bool
is_end (Go Accept) = true
is_end _ = false

-- one state, which ends the parser
abbrev pub is_one_state : Scope → List State → Bool
is_one_state c (state ∷ []) = bytes_eq state.name (codes "start") && is_simple c state.body && is_end state.transition
is_one_state c _ = false

-- @name("..")
abbrev pub is_plain_note : Note → Bool
is_plain_note (Name text) = true
is_plain_note _ = false

-- the actions, or a default call without arguments
abbrev pub is_keyless : Property → Bool
is_keyless (Actions names) = true
is_keyless (DefaultAction a no_arguments) = true
is_keyless _ = false

-- actions without parameters, and tables without keys
abbrev pub is_simple_local : Scope → Local → Bool
is_simple_local c (Action a) =
    list_all is_plain_note a.notes && length a.parameters == 0 && is_simple c a.body
is_simple_local c (Table t) = list_all is_plain_note t.notes && list_all is_keyless t.properties
is_simple_local c _ = false

-- any type but a stack
abbrev pub is_single : Type16 → Bool
is_single (kind.Bit width) = true
is_single kind.Bool = true
is_single (kind.Named text None) = true
is_single _ = false

-- a field that is no stack
abbrev pub is_simple_field : StructField → Bool
is_simple_field f = list_all is_plain_note f.notes && is_single f.of

-- the names that a control has: the deparser is the last block of `main`
abbrev pub scope_of : Syntax16 → Control16 → Scope
scope_of s c =
    if bytes_eq c.name (main_at s 5) then deparser_scope s c.parameters else control_scope s c.parameters

-- header types, structs, parsers of one state, and controls of such statements
abbrev pub is_simple_decl : Syntax16 → Decl16 → Bool
is_simple_decl s (Header h) = true
is_simple_decl s (Struct t) = list_all is_simple_field t.fields
is_simple_decl s (Parser p) = length p.vars == 0 && is_one_state (parser_scope s p.parameters) p.states
is_simple_decl s (Control c) = list_all (is_simple_local (scope_of s c)) c.locals && is_simple (scope_of s c) c.body
is_simple_decl s _ = false

-- each declaration is simple, and there is one table
abbrev pub is_first_cut : Syntax16 → Bool
is_first_cut s = list_all (is_simple_decl s) s.decls && length (tables_of s.decls) == 1
