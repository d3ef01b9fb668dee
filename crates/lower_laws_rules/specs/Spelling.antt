-- What is asked of the names and numbers of a syntax for it to be spelt, part by part: names are identifiers and no
-- reserved words, numbers fit, lists stand where they may, an `if` without `else` stands before no `else`, each
-- property stands once (this project's own; P4_16 1.2, "P4 grammar", "Lexical constructs", "Annotations").
use Rattle.std.specs.Prelude.{◌≡◌, ℕ, ◌<◌, length, Bool, true, false, ◌&&◌, List, Some, None}
use Rattle.std.specs.List.{AllByRecursion}
use Rattle.p416_syntax.specs.declared.keyword.Keyword16.TheVariants as key
use Rattle.p416_syntax.specs.Keywords.{keyword_text16}
use Rattle.p416_syntax.specs.declared.lexeme.Literal16.{Literal16}
use Rattle.p416_syntax.specs.SpeltLexemes.{is_name16, is_identifier16, is_spelt_literal16}
use Rattle.p416_syntax.specs.declared.parts.Note.{Note}
use Rattle.p416_syntax.specs.declared.parts.Note.TheVariants as note
use Rattle.p416_syntax.specs.declared.parts.Type16.{Type16}
use Rattle.p416_syntax.specs.declared.parts.Type16.TheVariants as kind
use Rattle.p416_syntax.specs.declared.parts.Param.{Param}
use Rattle.p416_syntax.specs.declared.parts.BitField.{BitField}
use Rattle.p416_syntax.specs.declared.parts.StructField.{StructField}
use Rattle.p416_syntax.specs.declared.node.CaseLabel.{CaseLabel}
use Rattle.p416_syntax.specs.declared.node.CaseLabel.TheVariants as label
use Rattle.p416_syntax.specs.declared.parsers.Var.{Var}
use Rattle.p416_syntax.specs.declared.parsers.Target.{Target}
use Rattle.p416_syntax.specs.declared.parsers.Target.TheVariants as target
use Rattle.p416_syntax.specs.declared.parsers.Simple.{Simple}
use Rattle.p416_syntax.specs.declared.parsers.Simple.TheVariants as simple
use Rattle.p416_syntax.specs.declared.parsers.Keyset.{Keyset}
use Rattle.p416_syntax.specs.declared.parsers.Keyset.TheVariants as keyset
use Rattle.p416_syntax.specs.declared.parsers.SelectCase.{SelectCase}
use Rattle.p416_syntax.specs.declared.parsers.Transition.{Transition}
use Rattle.p416_syntax.specs.declared.parsers.Transition.TheVariants as transition
use Rattle.p416_syntax.specs.declared.parsers.State.{State}
use Rattle.p416_syntax.specs.declared.parsers.Parser16.{Parser16}
use Rattle.p416_syntax.specs.declared.controls.Instance.{Instance}
use Rattle.p416_syntax.specs.declared.controls.Instance.TheVariants as instance
use Rattle.p416_syntax.specs.declared.controls.Action16.{Action16}
use Rattle.p416_syntax.specs.declared.controls.ActionName.{ActionName}
use Rattle.p416_syntax.specs.declared.controls.ActionName.TheVariants as action_name
use Rattle.p416_syntax.specs.declared.controls.TableKey.{TableKey}
use Rattle.p416_syntax.specs.declared.controls.Property.{Property}
use Rattle.p416_syntax.specs.declared.controls.Property.TheVariants as property
use Rattle.p416_syntax.specs.declared.controls.Table16.{Table16}
use Rattle.p416_syntax.specs.declared.controls.Local.{Local}
use Rattle.p416_syntax.specs.declared.controls.Local.TheVariants as local
use Rattle.p416_syntax.specs.declared.controls.Control16.{Control16}
use Rattle.p416_syntax.specs.declared.program.Decl16.{Decl16}
use Rattle.p416_syntax.specs.declared.program.Decl16.TheVariants as decl
use Rattle.p416_syntax.specs.declared.program.Syntax16.{Syntax16}
use Rattle.p416_syntax.specs.declared.node.CastType.{CastType}
use Rattle.p416_syntax.specs.declared.node.CastType.TheVariants as cast_to
use Rattle.p416_syntax.specs.Tree.{Exp16, literal, truth, error, name, member, index, call, lookahead, cast, unary, binary, no_arguments, argument, listed, Stmt16, no_statements, then, block, var, assign, expression, if_then, if_else, switch, no_cases, case_of}
use Rattle.p416_syntax.specs.Tokens.{is_spelt_seen, seen_word}
use Rattle.p416_syntax.specs.Conditions.{is_some_listed, is_named_once, ends_in_if, is_call, StmtPlace, statements, statement, cases, all_different, is_among, property_texts}
use Rattle.p416_syntax.specs.Names.{Name}
use Rattle.v1_core.specs.Frames.{of_headers, of_metadata, of_standard}
use Rattle.agreement_of_meanings.specs.Shown.{name_of, fields_of, field_at, shown_at}
use Rattle.lower_laws_base.specs.Context.{Words, At, root_at}

-- a number fits its width, or what numbers without one may be ("Literal constants")
abbrev pub SpeltNumber : Literal16 → Type 0
SpeltNumber n = is_spelt_literal16 n ≡ true

-- a name is an identifier and no reserved word ("Lexical constructs")
abbrev pub SpeltName : Name → Type 0
SpeltName text = is_name16 text ≡ true

-- a word behind a dot is a token, and may be a reserved one ("P4 grammar")
abbrev pub SpeltWord : Name → Type 0
SpeltWord text = is_spelt_seen (seen_word text) ≡ true

-- a type: its width, its name, its number of elements ("P4 data types")
abbrev pub SpeltType : Type16 → Type 0
SpeltType (kind.Bit width) = SpeltNumber width
SpeltType kind.Bool = Unit {0}
SpeltType (kind.Named text None) = SpeltName text
SpeltType (kind.Named text (Some size)) = SpeltName text × SpeltNumber size

-- the type of a cast ("Casts")
abbrev pub SpeltCast : CastType → Type 0
SpeltCast (cast_to.Bit width) = SpeltNumber width
SpeltCast cast_to.Bool = Unit {0}

-- where it stands: as an expression, which may be a list in braces; or as arguments, of which some may be lists
pub data SpeltPlace : Type 0 where
  one : (is_list : Bool) → SpeltPlace
  many : (has_lists : Bool) → SpeltPlace

-- an expression, or arguments, at its place ("Expressions")
abbrev pub SpeltAt : SpeltPlace → Exp16 → Type 0
SpeltAt (one b) (literal n) = SpeltNumber n
SpeltAt (one b) (truth value) = Unit {0}
SpeltAt (one b) error = Unit {0}
SpeltAt (one b) (name text) = SpeltName text
SpeltAt (one b) (member e word) = SpeltAt (one false) e × SpeltWord word
SpeltAt (one b) (index e at) = SpeltAt (one false) e × SpeltNumber at
SpeltAt (one b) (call e given) = SpeltAt (one false) e × SpeltAt (many true) given
SpeltAt (one b) (lookahead e of given) = SpeltAt (one false) e × SpeltType of × SpeltAt (many true) given
SpeltAt (one b) (cast to e) = SpeltCast to × SpeltAt (one false) e
SpeltAt (one b) (unary operator e) = SpeltAt (one false) e
SpeltAt (one b) (binary operator x y) = SpeltAt (one false) x × SpeltAt (one false) y
SpeltAt (one b) (listed items) = (b ≡ true) × SpeltAt (many false) items
SpeltAt (many b) no_arguments = Unit {0}
SpeltAt (many b) (argument before last) = SpeltAt (many b) before × SpeltAt (one b) last
SpeltAt _ _ = ⊥

-- an expression, which is no list
abbrev pub SpeltExp : Exp16 → Type 0
SpeltExp e = SpeltAt (one false) e

-- a label of a switch ("Switch statement")
abbrev pub SpeltLabel : CaseLabel → Type 0
SpeltLabel label.Default = Unit {0}
SpeltLabel (label.Action text) = SpeltName text

-- a statement, or a list of statements or of cases, at its place ("Statements")
abbrev pub SpeltStmt : StmtPlace → Stmt16 → Type 0
SpeltStmt statements no_statements = Unit {0}
SpeltStmt statements (then before last) = SpeltStmt statements before × SpeltStmt statement last
SpeltStmt statement (block body) = SpeltStmt statements body
SpeltStmt statement (var of text) = SpeltType of × SpeltName text
SpeltStmt statement (assign target value) = SpeltExp target × SpeltExp value
SpeltStmt statement (expression e) = SpeltExp e × (is_call e ≡ true)
SpeltStmt statement (if_then c x) = SpeltExp c × SpeltStmt statement x
SpeltStmt statement (if_else c x y) = SpeltExp c × SpeltStmt statement x × (ends_in_if x ≡ false) × SpeltStmt statement y
SpeltStmt statement (switch table cs) = SpeltName table × SpeltStmt cases cs
SpeltStmt cases no_cases = Unit {0}
SpeltStmt cases (case_of before of body) = SpeltStmt cases before × SpeltLabel of × SpeltStmt statements body
SpeltStmt _ _ = ⊥

-- declarations

-- an annotation ("Annotations")
abbrev pub SpeltNote : Note → Type 0
SpeltNote (note.Name text) = is_identifier16 text ≡ true
SpeltNote (note.FieldList ns) = (is_some_listed ns ≡ true) × AllByRecursion SpeltNumber ns

-- annotations, no kind of which stands twice
abbrev pub SpeltNotes : List Note → Type 0
SpeltNotes notes = AllByRecursion SpeltNote notes × (is_named_once notes ≡ true)

-- a parameter: its type and its name
abbrev pub SpeltParam : Param → Type 0
SpeltParam p = SpeltType p.of × SpeltName p.name

-- a variable, which has no initial value ("Variable declarations")
abbrev pub SpeltVar : Var → Type 0
SpeltVar v = SpeltType v.of × SpeltName v.name × (v.initial ≡ None)

-- where a transition leads ("Transition statements")
abbrev pub SpeltTarget : Target → Type 0
SpeltTarget (target.State text) = SpeltName text
SpeltTarget _ = Unit {0}

-- a value of a case: `default`, a number, or a mask ("Select expressions")
abbrev pub SpeltSimple : Simple → Type 0
SpeltSimple simple.Default = Unit {0}
SpeltSimple (simple.Value (literal n)) = SpeltNumber n
SpeltSimple (simple.Mask e f) = SpeltExp e × SpeltExp f
SpeltSimple _ = ⊥

-- the values of a case, of which there is one
abbrev pub SpeltKeyset : Keyset → Type 0
SpeltKeyset (keyset.One x) = SpeltSimple x
SpeltKeyset (keyset.Tuple xs) = ⊥

-- a case of a select ("Select expressions")
abbrev pub SpeltCase : SelectCase → Type 0
SpeltCase x = SpeltKeyset x.keyset × SpeltTarget x.target

-- a transition; a select has a key ("Transition statements")
abbrev pub SpeltTransition : Transition → Type 0
SpeltTransition (transition.Go t) = SpeltTarget t
SpeltTransition (transition.Select es cs) = (is_some_listed es ≡ true) × AllByRecursion SpeltExp es × AllByRecursion SpeltCase cs

-- a state ("Parser states")
abbrev pub SpeltState : State → Type 0
SpeltState x = SpeltName x.name × SpeltStmt statements x.body × SpeltTransition x.transition

-- a parser, which has parameters ("Packet parsing")
abbrev pub SpeltParser : Parser16 → Type 0
SpeltParser p = SpeltName p.name × (is_some_listed p.parameters ≡ true) × AllByRecursion SpeltParam p.parameters × AllByRecursion SpeltVar p.vars × AllByRecursion SpeltState p.states

-- an object: its size, its width and its name; the members of an enumeration are names, which computes
abbrev pub SpeltInstance : Instance → Type 0
SpeltInstance (instance.Counter size m text) = SpeltExp size × SpeltName text
SpeltInstance (instance.DirectCounter m text) = SpeltName text
SpeltInstance (instance.Register width size text) = SpeltNumber width × SpeltExp size × SpeltName text
SpeltInstance (instance.Meter size m text) = SpeltExp size × SpeltName text

-- an action ("Actions")
abbrev pub SpeltAction : Action16 → Type 0
SpeltAction a = SpeltNotes a.notes × SpeltName a.name × AllByRecursion SpeltParam a.parameters × SpeltStmt statements a.body

-- an action as a table names it ("Tables")
abbrev pub SpeltActionName : ActionName → Type 0
SpeltActionName (action_name.Declared text) = SpeltName text
SpeltActionName action_name.NoAction = Unit {0}

-- a key of a table ("Tables")
abbrev pub SpeltKey : TableKey → Type 0
SpeltKey k = SpeltExp k.exp × SpeltName k.kind × SpeltNotes k.notes

-- a property of a table; it lists an action ("Tables")
abbrev pub SpeltProperty : Property → Type 0
SpeltProperty (property.Key ks) = AllByRecursion SpeltKey ks
SpeltProperty (property.Actions names) = (is_some_listed names ≡ true) × AllByRecursion SpeltActionName names
SpeltProperty (property.Size n) = SpeltNumber n
SpeltProperty (property.Counters text) = SpeltName text
SpeltProperty (property.DefaultAction a given) = SpeltActionName a × SpeltAt (many false) given

-- a table: each property stands once, and that of the actions stands there ("Tables")
abbrev pub SpeltTable : Table16 → Type 0
SpeltTable t =
    SpeltNotes t.notes × SpeltName t.name × AllByRecursion SpeltProperty t.properties
    × (all_different (property_texts t.properties) && is_among (keyword_text16 key.Actions) (property_texts t.properties) ≡ true)

-- a declaration of a control ("Control blocks")
abbrev pub SpeltLocal : Local → Type 0
SpeltLocal (local.Instance notes i) = SpeltNotes notes × SpeltInstance i
SpeltLocal (local.Var v) = SpeltVar v
SpeltLocal (local.Action a) = SpeltAction a
SpeltLocal (local.Table t) = SpeltTable t

-- a control, which has parameters ("Control blocks")
abbrev pub SpeltControl : Control16 → Type 0
SpeltControl c = SpeltName c.name × (is_some_listed c.parameters ≡ true) × AllByRecursion SpeltParam c.parameters × AllByRecursion SpeltLocal c.locals × SpeltStmt statements c.body

-- a field of a header ("Header types")
abbrev pub SpeltBitField : BitField → Type 0
SpeltBitField f = SpeltNumber f.width × SpeltName f.name

-- a field of a struct ("Derived types")
abbrev pub SpeltStructField : StructField → Type 0
SpeltStructField f = SpeltNotes f.notes × SpeltType f.of × SpeltName f.name

-- a declaration at the top ("P4 grammar")
abbrev pub SpeltDecl : Decl16 → Type 0
SpeltDecl (decl.Header h) = SpeltName h.name × AllByRecursion SpeltBitField h.fields
SpeltDecl (decl.Struct x) = SpeltName x.name × AllByRecursion SpeltStructField x.fields
SpeltDecl (decl.Instance notes i) = SpeltNotes notes × SpeltInstance i
SpeltDecl (decl.Parser p) = SpeltParser p
SpeltDecl (decl.Control c) = SpeltControl c

-- a whole program, whose `main` has blocks
pub record SpeltProgram (s : Syntax16) : Type 0 where
  pub decls : AllByRecursion SpeltDecl s.decls
  pub some : is_some_listed s.main ≡ true
  pub main : AllByRecursion SpeltName s.main

-- the names that are written for parts of the packet and for sources, which are read there, are spelt
pub record SpeltNames (w : Words) (at : At) : Type 0 where
  pub roots : SpeltName (root_at w at of_headers) × SpeltName (root_at w at of_metadata) × SpeltName (root_at w at of_standard)
  pub instances : (i : ℕ) → i < length w.names.instances → SpeltName (name_of (shown_at w.names.instances i))
  pub fields : (i k : ℕ) → i < length w.names.instances → k < length (fields_of (shown_at w.names.instances i)) → SpeltName (field_at (fields_of (shown_at w.names.instances i)) k).called
  pub parameters : (j : ℕ) → j < length w.parameters → SpeltName (field_at w.parameters j).called

-- the names that are written are spelt, as the moment stands and at the copies
abbrev pub SpeltWords : Words → Type 0
SpeltWords w = (at : At) → SpeltNames w at
