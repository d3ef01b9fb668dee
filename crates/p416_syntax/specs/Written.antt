-- The tokens that a syntax is written with: each part of the grammar with its words, its marks and its parts in order
-- (P4_16 1.2, "P4 grammar"). Where an expression stands in parentheses, its tree says so: see Spells.antt.
use Rattle.std.specs.Prelude.{ℕ, Bool, true, false, List, [], ◌∷◌, ◌++◌, Option, Some, None}
use Rattle.std.specs.List.{flat_map}
use Rattle.p416_syntax.specs.declared.keyword.Keyword16.{Keyword16}
use Rattle.p416_syntax.specs.declared.keyword.Keyword16.TheVariants as key
use Rattle.p416_syntax.specs.declared.lexeme.Annotation16.TheVariants as annotation_of
use Rattle.p416_syntax.specs.declared.lexeme.Include16.TheVariants as include
use Rattle.p416_syntax.specs.declared.lexeme.Literal16.{Literal16}
use Rattle.p416_syntax.specs.declared.parts.Note.{Note}
use Rattle.p416_syntax.specs.declared.parts.Note.TheVariants as note
use Rattle.p416_syntax.specs.declared.parts.Type16.{Type16}
use Rattle.p416_syntax.specs.declared.parts.Type16.TheVariants as kind
use Rattle.p416_syntax.specs.declared.parts.Direction.{Direction}
use Rattle.p416_syntax.specs.declared.parts.Direction.TheVariants as direction
use Rattle.p416_syntax.specs.declared.parts.Param.{Param}
use Rattle.p416_syntax.specs.declared.parts.BitField.{BitField}
use Rattle.p416_syntax.specs.declared.parts.Header16.{Header16}
use Rattle.p416_syntax.specs.declared.parts.StructField.{StructField}
use Rattle.p416_syntax.specs.declared.parts.Struct16.{Struct16}
use Rattle.p416_syntax.specs.declared.parts.Member.{Member}
use Rattle.p416_syntax.specs.declared.node.CastType.{CastType}
use Rattle.p416_syntax.specs.declared.node.CastType.TheVariants as cast_to
use Rattle.p416_syntax.specs.declared.node.CaseLabel.{CaseLabel}
use Rattle.p416_syntax.specs.declared.node.CaseLabel.TheVariants as label
use Rattle.p416_syntax.specs.declared.parsers.Var.{Var}
use Rattle.p416_syntax.specs.declared.parsers.Target.{Target}
use Rattle.p416_syntax.specs.declared.parsers.Target.TheVariants as target
use Rattle.p416_syntax.specs.declared.parsers.Simple.{Simple}
use Rattle.p416_syntax.specs.declared.parsers.Simple.TheVariants as simple
use Rattle.p416_syntax.specs.declared.parsers.Keyset.{Keyset}
use Rattle.p416_syntax.specs.declared.parsers.Keyset.TheVariants as keyset
use Rattle.p416_syntax.specs.declared.parsers.SelectCase.{SelectCase}
use Rattle.p416_syntax.specs.declared.parsers.Transition.{Transition}
use Rattle.p416_syntax.specs.declared.parsers.Transition.TheVariants as transition
use Rattle.p416_syntax.specs.declared.parsers.State.{State}
use Rattle.p416_syntax.specs.declared.parsers.Parser16.{Parser16}
use Rattle.p416_syntax.specs.declared.controls.Instance.{Instance}
use Rattle.p416_syntax.specs.declared.controls.Instance.TheVariants as instance
use Rattle.p416_syntax.specs.declared.controls.Action16.{Action16}
use Rattle.p416_syntax.specs.declared.controls.ActionName.{ActionName}
use Rattle.p416_syntax.specs.declared.controls.ActionName.TheVariants as action_name
use Rattle.p416_syntax.specs.declared.controls.TableKey.{TableKey}
use Rattle.p416_syntax.specs.declared.controls.Property.{Property}
use Rattle.p416_syntax.specs.declared.controls.Property.TheVariants as property
use Rattle.p416_syntax.specs.declared.controls.Table16.{Table16}
use Rattle.p416_syntax.specs.declared.controls.Local.{Local}
use Rattle.p416_syntax.specs.declared.controls.Local.TheVariants as local
use Rattle.p416_syntax.specs.declared.controls.Control16.{Control16}
use Rattle.p416_syntax.specs.declared.program.Decl16.{Decl16}
use Rattle.p416_syntax.specs.declared.program.Decl16.TheVariants as decl
use Rattle.p416_syntax.specs.declared.program.Syntax16.{Syntax16}
use Rattle.p416_syntax.specs.Tree.{Exp16, literal, truth, error, name, member, index, slice, call, lookahead, cast, unary, binary, choice, parenthesized, no_arguments, argument, listed, Stmt16, no_statements, then, block, empty, var, var_is, assign, expression, if_then, if_else, switch, no_cases, case_of}
use Rattle.p416_syntax.specs.Members.{enumeration_text, member_text}
use Rattle.p416_syntax.specs.Tokens.{Seen16, id, quoted, number, string, annotation, include_line, opens, seen_word, lookahead_text, paren_open, paren_close, bracket_open, bracket_close, semicolon, colon, comma, dot, dots, equals, less, greater, mask, question, in_parens, in_braces}
use Rattle.p416_syntax.specs.Operators.{unary_token, binary_tokens}

-- parts that several lines of the grammar share

-- what may be written or left out
abbrev pub written_option : {A : Type 0} → (A → List Seen16) → Option A → List Seen16
written_option written None = []
written_option written (Some x) = written x

-- each with a comma in front of it
abbrev pub after_commas : {A : Type 0} → (A → List Seen16) → List A → List Seen16
after_commas written xs = flat_map (λ x. comma ∷ written x) xs

-- one after another with commas between them
abbrev pub by_commas : {A : Type 0} → (A → List Seen16) → List A → List Seen16
by_commas written [] = []
by_commas written (x ∷ xs) = written x ++ after_commas written xs

abbrev pub written_number : Literal16 → List Seen16
written_number n = number n ∷ []

-- `NAME ( )`
abbrev pub written_block_name : List ℕ → List Seen16
written_block_name text = id text ∷ paren_open ∷ paren_close ∷ []

-- annotations, types and parameters

abbrev pub written_note : Note → List Seen16
written_note (note.Name text) = annotation annotation_of.Name ∷ in_parens (string text ∷ [])
written_note (note.FieldList lists) = annotation annotation_of.FieldList ∷ in_parens (by_commas written_number lists)

abbrev pub written_notes : List Note → List Seen16
written_notes notes = flat_map written_note notes

-- `bit < WIDTH >`
abbrev pub written_bit : Literal16 → List Seen16
written_bit width = quoted key.Bit ∷ less ∷ number width ∷ greater ∷ []

abbrev pub written_size : Literal16 → List Seen16
written_size n = bracket_open ∷ number n ∷ bracket_close ∷ []

abbrev pub written_type : Type16 → List Seen16
written_type (kind.Bit width) = written_bit width
written_type kind.Bool = quoted key.Bool ∷ []
written_type (kind.Named text size) = id text ∷ written_option written_size size

abbrev pub written_direction : Direction → List Seen16
written_direction direction.In = quoted key.In ∷ []
written_direction direction.Out = quoted key.Out ∷ []
written_direction direction.InOut = quoted key.InOut ∷ []

abbrev pub written_param : Param → List Seen16
written_param p = written_option written_direction p.direction ++ (written_type p.of ++ id p.name ∷ [])

abbrev pub written_params : List Param → List Seen16
written_params ps = in_parens (by_commas written_param ps)

abbrev pub written_member : Member → List Seen16
written_member m = id (enumeration_text m) ∷ dot ∷ id (member_text m) ∷ []

-- expressions and argument lists

abbrev pub written_truth : Bool → List Seen16
written_truth true = quoted key.True ∷ []
written_truth false = quoted key.False ∷ []

abbrev pub written_cast : CastType → List Seen16
written_cast (cast_to.Bit width) = written_bit width
written_cast cast_to.Bool = quoted key.Bool ∷ []

-- a comma, if the argument list in front of it has an argument
abbrev pub comma_behind : Exp16 → List Seen16
comma_behind no_arguments = []
comma_behind _ = comma ∷ []

abbrev pub written_exp : Exp16 → List Seen16
written_exp (literal n) = number n ∷ []
written_exp (truth value) = written_truth value
written_exp error = quoted key.Error ∷ []
written_exp (name text) = id text ∷ []
written_exp (member e text) = written_exp e ++ dot ∷ seen_word text ∷ []
written_exp (index e at) = written_exp e ++ bracket_open ∷ number at ∷ bracket_close ∷ []
written_exp (slice e high low) = written_exp e ++ bracket_open ∷ number high ∷ colon ∷ number low ∷ bracket_close ∷ []
written_exp (call e arguments) = written_exp e ++ in_parens (written_exp arguments)
written_exp (lookahead e of arguments) =
    written_exp e ++ dot ∷ id lookahead_text ∷ opens ∷ (written_type of ++ greater ∷ in_parens (written_exp arguments))
written_exp (cast to e) = in_parens (written_cast to) ++ written_exp e
written_exp (unary operator e) = unary_token operator ∷ written_exp e
written_exp (binary operator a b) = written_exp a ++ (binary_tokens operator ++ written_exp b)
written_exp (choice c a b) = written_exp c ++ question ∷ (written_exp a ++ colon ∷ written_exp b)
written_exp (parenthesized e) = in_parens (written_exp e)
written_exp no_arguments = []
written_exp (argument before last) = written_exp before ++ (comma_behind before ++ written_exp last)
written_exp (listed items) = in_braces (written_exp items)

-- statements

-- `TYPE NAME ;`, and `TYPE NAME = VALUE ;`
abbrev pub written_initial : Exp16 → List Seen16
written_initial value = equals ∷ written_exp value

abbrev pub written_var_of : Type16 → List ℕ → Option Exp16 → List Seen16
written_var_of of text initial = written_type of ++ id text ∷ (written_option written_initial initial ++ semicolon ∷ [])

abbrev pub written_label : CaseLabel → List Seen16
written_label label.Default = quoted key.Default ∷ []
written_label (label.Action text) = id text ∷ []

-- `TABLE . apply ( ) . action_run`
abbrev pub written_run : List ℕ → List Seen16
written_run table =
    id table ∷ dot ∷ quoted key.Apply ∷ paren_open ∷ paren_close ∷ dot ∷ quoted key.ActionRun ∷ []

abbrev pub written_stmt : Stmt16 → List Seen16
written_stmt no_statements = []
written_stmt (then before last) = written_stmt before ++ written_stmt last
written_stmt (block statements) = in_braces (written_stmt statements)
written_stmt empty = semicolon ∷ []
written_stmt (var of text) = written_var_of of text None
written_stmt (var_is of text value) = written_var_of of text (Some value)
written_stmt (assign target value) = written_exp target ++ equals ∷ (written_exp value ++ semicolon ∷ [])
written_stmt (expression e) = written_exp e ++ semicolon ∷ []
written_stmt (if_then c holds) = quoted key.If ∷ (in_parens (written_exp c) ++ written_stmt holds)
written_stmt (if_else c holds other) =
    quoted key.If ∷ (in_parens (written_exp c) ++ (written_stmt holds ++ quoted key.Else ∷ written_stmt other))
written_stmt (switch table cases) =
    quoted key.Switch ∷ (in_parens (written_run table) ++ in_braces (written_stmt cases))
written_stmt no_cases = []
written_stmt (case_of before of statements) =
    written_stmt before ++ (written_label of ++ colon ∷ in_braces (written_stmt statements))

abbrev pub written_block : Stmt16 → List Seen16
written_block statements = in_braces (written_stmt statements)

abbrev pub written_var : Var → List Seen16
written_var v = written_var_of v.of v.name v.initial

-- parser states

abbrev pub written_target : Target → List Seen16
written_target (target.State text) = id text ∷ []
written_target target.Accept = quoted key.Accept ∷ []
written_target target.Reject = quoted key.Reject ∷ []

abbrev pub written_simple : Simple → List Seen16
written_simple simple.Default = quoted key.Default ∷ []
written_simple simple.Any = quoted key.Underscore ∷ []
written_simple (simple.Mask a b) = written_exp a ++ mask ∷ written_exp b
written_simple (simple.Range a b) = written_exp a ++ dots ∷ written_exp b
written_simple (simple.Value e) = written_exp e

abbrev pub written_keyset : Keyset → List Seen16
written_keyset (keyset.Tuple ss) = in_parens (by_commas written_simple ss)
written_keyset (keyset.One s) = written_simple s

abbrev pub written_case : SelectCase → List Seen16
written_case c = written_keyset c.keyset ++ colon ∷ (written_target c.target ++ semicolon ∷ [])

abbrev pub written_transition : Transition → List Seen16
written_transition (transition.Go t) = quoted key.Transition ∷ (written_target t ++ semicolon ∷ [])
written_transition (transition.Select es cs) =
    quoted key.Transition ∷ quoted key.Select ∷ (in_parens (by_commas written_exp es) ++ in_braces (flat_map written_case cs))

abbrev pub written_state : State → List Seen16
written_state s = quoted key.State ∷ id s.name ∷ in_braces (written_stmt s.body ++ written_transition s.transition)

abbrev pub written_parser : Parser16 → List Seen16
written_parser p =
    quoted key.Parser ∷ id p.name
    ∷ (written_params p.parameters ++ in_braces (flat_map written_var p.vars ++ flat_map written_state p.states))

-- controls

abbrev pub written_instance : Instance → List Seen16
written_instance (instance.Counter size m text) =
    quoted key.Counter ∷ (in_parens (written_exp size ++ comma ∷ written_member m) ++ id text ∷ [])
written_instance (instance.DirectCounter m text) =
    quoted key.DirectCounter ∷ (in_parens (written_member m) ++ id text ∷ [])
written_instance (instance.Register width size text) =
    quoted key.Register ∷ less ∷ (written_bit width ++ greater ∷ (in_parens (written_exp size) ++ id text ∷ []))
written_instance (instance.Meter size m text) =
    quoted key.Meter ∷ (in_parens (written_exp size ++ comma ∷ written_member m) ++ id text ∷ [])

abbrev pub written_object : List Note → Instance → List Seen16
written_object notes i = written_notes notes ++ (written_instance i ++ semicolon ∷ [])

abbrev pub written_action : Action16 → List Seen16
written_action a =
    written_notes a.notes ++ quoted key.Action ∷ id a.name ∷ (written_params a.parameters ++ written_block a.body)

abbrev pub written_action_name : ActionName → List Seen16
written_action_name (action_name.Declared text) = id text ∷ []
written_action_name action_name.NoAction = quoted key.NoAction ∷ []

-- `NAME ;`
abbrev pub written_listed_action : ActionName → List Seen16
written_listed_action a = written_action_name a ++ semicolon ∷ []

abbrev pub written_key : TableKey → List Seen16
written_key k = written_exp k.exp ++ colon ∷ id k.kind ∷ (written_notes k.notes ++ semicolon ∷ [])

-- the word that a property begins with
abbrev pub property_word : Property → Keyword16
property_word (property.Key ks) = key.Key
property_word (property.Actions names) = key.Actions
property_word (property.Size n) = key.Size
property_word (property.Counters text) = key.Counters
property_word (property.DefaultAction a given) = key.DefaultAction

-- what stands behind the `=`
abbrev pub written_property_value : Property → List Seen16
written_property_value (property.Key ks) = in_braces (flat_map written_key ks)
written_property_value (property.Actions names) = in_braces (flat_map written_listed_action names)
written_property_value (property.Size n) = number n ∷ semicolon ∷ []
written_property_value (property.Counters text) = id text ∷ semicolon ∷ []
written_property_value (property.DefaultAction a arguments) =
    written_action_name a ++ (in_parens (written_exp arguments) ++ semicolon ∷ [])

abbrev pub written_property : Property → List Seen16
written_property p = quoted (property_word p) ∷ equals ∷ written_property_value p

abbrev pub written_table : Table16 → List Seen16
written_table t =
    written_notes t.notes ++ quoted key.Table ∷ id t.name ∷ in_braces (flat_map written_property t.properties)

abbrev pub written_local : Local → List Seen16
written_local (local.Instance notes i) = written_object notes i
written_local (local.Var v) = written_var v
written_local (local.Action a) = written_action a
written_local (local.Table t) = written_table t

abbrev pub written_control : Control16 → List Seen16
written_control c =
    quoted key.Control ∷ id c.name
    ∷ (written_params c.parameters ++ in_braces (flat_map written_local c.locals ++ quoted key.Apply ∷ written_block c.body))

-- declarations

abbrev pub written_bit_field : BitField → List Seen16
written_bit_field f = written_bit f.width ++ id f.name ∷ semicolon ∷ []

abbrev pub written_header : Header16 → List Seen16
written_header h = quoted key.Header ∷ id h.name ∷ in_braces (flat_map written_bit_field h.fields)

abbrev pub written_struct_field : StructField → List Seen16
written_struct_field f = written_notes f.notes ++ (written_type f.of ++ id f.name ∷ semicolon ∷ [])

abbrev pub written_struct : Struct16 → List Seen16
written_struct s = quoted key.Struct ∷ id s.name ∷ in_braces (flat_map written_struct_field s.fields)

abbrev pub written_decl : Decl16 → List Seen16
written_decl (decl.Header h) = written_header h
written_decl (decl.Struct s) = written_struct s
written_decl (decl.Instance notes i) = written_object notes i
written_decl (decl.Parser p) = written_parser p
written_decl (decl.Control c) = written_control c

-- `V1Switch ( NAME ( ) , .. ) main ;`
abbrev pub written_main : List (List ℕ) → List Seen16
written_main names =
    quoted key.V1Switch ∷ (in_parens (by_commas written_block_name names) ++ quoted key.Main ∷ semicolon ∷ [])

abbrev pub written : Syntax16 → List Seen16
written s =
    include_line include.Core ∷ include_line include.V1Model ∷ (flat_map written_decl s.decls ++ written_main s.main)
