-- What each action of the grammar builds: it takes the newest parts of some sorts and puts one in their place.
use Rattle.std.specs.Prelude.{ℕ, Bool, true, false, List, [], ◌∷◌, ◌++◌, Some, None}
use Rattle.predictive_parser.specs.Values.{newest, older, extended}
use Rattle.p416_syntax.specs.declared.lexeme.Literal16.{Literal16}
use Rattle.p416_syntax.specs.declared.parts.Note.{Note}
use Rattle.p416_syntax.specs.declared.parts.Note.TheVariants as note
use Rattle.p416_syntax.specs.declared.parts.Type16.{Type16}
use Rattle.p416_syntax.specs.declared.parts.Type16.TheVariants as kind
use Rattle.p416_syntax.specs.declared.parts.Member.{Member}
use Rattle.p416_syntax.specs.declared.parts.Member.TheVariants as member
use Rattle.p416_syntax.specs.declared.parts.HashAlgorithm.TheVariants as hash
use Rattle.p416_syntax.specs.declared.node.CastType.TheVariants as cast_to
use Rattle.p416_syntax.specs.declared.node.CaseLabel.TheVariants as label
use Rattle.p416_syntax.specs.declared.parsers.Target.TheVariants as target
use Rattle.p416_syntax.specs.declared.parsers.Simple.TheVariants as simple
use Rattle.p416_syntax.specs.declared.parsers.Keyset.TheVariants as keyset
use Rattle.p416_syntax.specs.declared.parsers.Transition.TheVariants as transition
use Rattle.p416_syntax.specs.declared.controls.Instance.{Instance}
use Rattle.p416_syntax.specs.declared.controls.Instance.TheVariants as instance
use Rattle.p416_syntax.specs.declared.controls.ActionName.TheVariants as action_name
use Rattle.p416_syntax.specs.declared.controls.Property.{Property}
use Rattle.p416_syntax.specs.declared.controls.Property.TheVariants as property
use Rattle.p416_syntax.specs.declared.controls.Local.{Local}
use Rattle.p416_syntax.specs.declared.controls.Local.TheVariants as local
use Rattle.p416_syntax.specs.declared.program.Decl16.{Decl16}
use Rattle.p416_syntax.specs.declared.program.Decl16.TheVariants as decl
use Rattle.p416_syntax.specs.Tree.{Exp16, literal, truth, error, name, member, index, slice, call, lookahead, cast, unary, binary, choice, no_arguments, argument, listed, Stmt16, no_statements, then, block, empty, var, var_is, assign, expression, if_then, if_else, switch, no_cases, case_of}
use Rattle.p416_syntax.specs.Tree as tree
use Rattle.p416_syntax.specs.Tokens.{lookahead_text}
use Rattle.p416_reader.specs.declared.symbols.PartAction.{PartAction}
use Rattle.p416_reader.specs.declared.symbols.PartAction.TheVariants as part
use Rattle.p416_reader.specs.declared.symbols.BodyAction.{BodyAction}
use Rattle.p416_reader.specs.declared.symbols.BodyAction.TheVariants as body
use Rattle.p416_reader.specs.declared.symbols.StateAction.{StateAction}
use Rattle.p416_reader.specs.declared.symbols.StateAction.TheVariants as state
use Rattle.p416_reader.specs.declared.symbols.ControlAction.{ControlAction}
use Rattle.p416_reader.specs.declared.symbols.ControlAction.TheVariants as control
use Rattle.p416_reader.specs.declared.symbols.DeclAction.{DeclAction}
use Rattle.p416_reader.specs.declared.symbols.DeclAction.TheVariants as declare
use Rattle.p416_reader.specs.declared.symbols.Action.{Action}
use Rattle.p416_reader.specs.declared.symbols.Action.TheVariants as action
use Rattle.p416_reader.specs.declared.built.Built.{Built}
use Rattle.p416_reader.specs.internal.Bodies.{Bodies}
use Rattle.p416_reader.specs.internal.Built.{no_bodies}
use Rattle.p416_reader.specs.declared.parts.Parts.{Parts}
use Rattle.p416_reader.specs.declared.states.States.{States}
use Rattle.p416_reader.specs.declared.controls.Controls.{Controls}

-- what stands in an empty place

abbrev pub no_literal : Literal16
no_literal = record { width = None; value = 0 }

abbrev pub no_member : Member
no_member = member.HashAlgorithm hash.Csum16

abbrev pub no_instance : Instance
no_instance = instance.DirectCounter no_member []

-- annotations, types, parameters and members

abbrev pub last_name : Parts → List ℕ
last_name p = newest [] p.names

abbrev pub last_literal : Parts → Literal16
last_literal p = newest no_literal p.literals

abbrev pub last_type : Parts → Type16
last_type p = newest kind.Bool p.types

abbrev pub put_part : PartAction → Parts → Parts
put_part part.TypeBit p = record p { literals = older p.literals; types = kind.Bit (last_literal p) ∷ p.types }
put_part part.TypeBool p = record p { types = kind.Bool ∷ p.types }
put_part part.TypeNamed p =
    record p { names = older p.names; literal_options = older p.literal_options; types = kind.Named (last_name p) (newest None p.literal_options) ∷ p.types }
put_part part.NoLiteral p = record p { literal_options = None ∷ p.literal_options }
put_part part.SomeLiteral p = record p { literals = older p.literals; literal_options = Some (last_literal p) ∷ p.literal_options }
put_part part.NoNumbers p = record p { literal_lists = [] ∷ p.literal_lists }
put_part part.AddNumber p = record p { literals = older p.literals; literal_lists = extended (last_literal p ∷ []) p.literal_lists }
put_part part.NoNotes p = record p { notes = [] ∷ p.notes }
put_part part.AddNameNote p = record p { names = older p.names; notes = extended (note.Name (last_name p) ∷ []) p.notes }
put_part part.AddListNote p =
    record p { literal_lists = older p.literal_lists; notes = extended (note.FieldList (newest [] p.literal_lists) ∷ []) p.notes }
put_part part.NoParams p = record p { params = [] ∷ p.params }
put_part (part.AddParam way) p =
    record p { names = older p.names; types = older p.types; params = extended (record { direction = way; of = last_type p; name = last_name p } ∷ []) p.params }
put_part (part.Member m) p = record p { members = m ∷ p.members }

abbrev pub without_name : Parts → Parts
without_name p = record p { names = older p.names }

abbrev pub without_literal : Parts → Parts
without_literal p = record p { literals = older p.literals }

abbrev pub without_type : Parts → Parts
without_type p = record p { types = older p.types }

-- with these parts

abbrev pub with_bodies : Parts → Bodies → Built → Built
with_bodies p bs b = record b { parts = p; bodies = bs }

abbrev pub with_states : Parts → Bodies → States → Built → Built
with_states p bs s b = record b { parts = p; bodies = bs; states = s }

abbrev pub with_controls : Parts → Bodies → States → Controls → Built → Built
with_controls p bs s c b = record b { parts = p; bodies = bs; states = s; controls = c }

-- expressions and statements

abbrev pub first_exp : List Exp16 → Exp16
first_exp es = newest no_arguments es

abbrev pub first_stmt : List Stmt16 → Stmt16
first_stmt ss = newest no_statements ss

abbrev pub on_exp : (Exp16 → Exp16) → List Exp16 → List Exp16
on_exp f es = f (first_exp es) ∷ older es

abbrev pub on_exps : (Exp16 → Exp16 → Exp16) → List Exp16 → List Exp16
on_exps f es = f (first_exp (older es)) (first_exp es) ∷ older (older es)

abbrev pub on_stmt : (Stmt16 → Stmt16) → List Stmt16 → List Stmt16
on_stmt f ss = f (first_stmt ss) ∷ older ss

abbrev pub on_stmts : (Stmt16 → Stmt16 → Stmt16) → List Stmt16 → List Stmt16
on_stmts f ss = f (first_stmt (older ss)) (first_stmt ss) ∷ older (older ss)

abbrev pub with_exps : List Exp16 → Built → Built
with_exps es b = record b { bodies = record b.bodies { exps = es } }

abbrev pub with_stmts : List Stmt16 → Built → Built
with_stmts ss b = record b { bodies = record b.bodies { stmts = ss } }

abbrev pub with_parts : Parts → Built → Built
with_parts p b = record b { parts = p }

-- one more statement, which takes so many expressions, and whether it ends in an `if` without `else`
abbrev pub with_stmt : Bool → List Exp16 → List Stmt16 → Built → Built
with_stmt is_open es ss b = record b { bodies = record { exps = es; stmts = ss; is_open = is_open } }

-- the type that an expression could be
abbrev pub name_of : Exp16 → List ℕ
name_of (name text) = text
name_of _ = []

abbrev pub type_of : Exp16 → Type16
type_of (name text) = kind.Named text None
type_of (index e at) = kind.Named (name_of e) (Some at)
type_of _ = kind.Bool

abbrev pub put_body : BodyAction → Built → Built
put_body body.Number b = with_exps (literal (last_literal b.parts) ∷ b.bodies.exps) (with_parts (without_literal b.parts) b)
put_body (body.Truth value) b = with_exps (truth value ∷ b.bodies.exps) b
put_body body.Error b = with_exps (error ∷ b.bodies.exps) b
put_body body.Name b = with_exps (name (last_name b.parts) ∷ b.bodies.exps) (with_parts (without_name b.parts) b)
put_body body.Member b = with_exps (on_exp (λ e. tree.member e (last_name b.parts)) b.bodies.exps) (with_parts (without_name b.parts) b)
put_body body.MemberLookahead b = with_exps (on_exp (λ e. tree.member e lookahead_text) b.bodies.exps) b
put_body body.Index b = with_exps (on_exp (λ e. index e (last_literal b.parts)) b.bodies.exps) (with_parts (without_literal b.parts) b)
put_body body.Slice b =
    with_exps (on_exp (λ e. slice e (newest no_literal (older b.parts.literals)) (last_literal b.parts)) b.bodies.exps)
    (with_parts (without_literal (without_literal b.parts)) b)
put_body body.NoArguments b = with_exps (no_arguments ∷ b.bodies.exps) b
put_body body.AddArgument b = with_exps (on_exps argument b.bodies.exps) b
put_body body.Call b = with_exps (on_exps call b.bodies.exps) b
put_body body.Lookahead b = with_exps (on_exps (λ e arguments. lookahead e (last_type b.parts) arguments) b.bodies.exps) (with_parts (without_type b.parts) b)
put_body body.CastBit b = with_exps (on_exp (cast (cast_to.Bit (last_literal b.parts))) b.bodies.exps) (with_parts (without_literal b.parts) b)
put_body body.CastBool b = with_exps (on_exp (cast cast_to.Bool) b.bodies.exps) b
put_body (body.Unary operator) b = with_exps (on_exp (unary operator) b.bodies.exps) b
put_body (body.Binary operator) b = with_exps (on_exps (binary operator) b.bodies.exps) b
put_body body.Choice b =
    with_exps (choice (first_exp (older (older b.bodies.exps))) (first_exp (older b.bodies.exps)) (first_exp b.bodies.exps) ∷ older (older (older b.bodies.exps))) b
put_body body.Listed b = with_exps (on_exp listed b.bodies.exps) b
put_body body.NoStatements b = with_stmts (no_statements ∷ b.bodies.stmts) b
put_body body.Then b = with_stmts (on_stmts then b.bodies.stmts) b
put_body body.Block b = with_stmt false b.bodies.exps (on_stmt block b.bodies.stmts) b
put_body body.Empty b = with_stmt false b.bodies.exps (empty ∷ b.bodies.stmts) b
put_body body.TypeOfExp b =
    with_exps (older b.bodies.exps) (with_parts (record b.parts { types = type_of (first_exp b.bodies.exps) ∷ b.parts.types }) b)
put_body body.Var b =
    with_stmt false b.bodies.exps (var (last_type b.parts) (last_name b.parts) ∷ b.bodies.stmts) (with_parts (without_type (without_name b.parts)) b)
put_body body.VarIs b =
    with_stmt false (older b.bodies.exps) (var_is (last_type b.parts) (last_name b.parts) (first_exp b.bodies.exps) ∷ b.bodies.stmts)
    (with_parts (without_type (without_name b.parts)) b)
put_body body.Assign b = with_stmt false (older (older b.bodies.exps)) (assign (first_exp (older b.bodies.exps)) (first_exp b.bodies.exps) ∷ b.bodies.stmts) b
put_body body.Expression b = with_stmt false (older b.bodies.exps) (expression (first_exp b.bodies.exps) ∷ b.bodies.stmts) b
put_body body.If b = with_stmt true (older b.bodies.exps) (on_stmt (if_then (first_exp b.bodies.exps)) b.bodies.stmts) b
put_body body.IfElse b = with_stmt b.bodies.is_open (older b.bodies.exps) (on_stmts (if_else (first_exp b.bodies.exps)) b.bodies.stmts) b
put_body body.Switch b = with_stmt false b.bodies.exps (on_stmt (switch (last_name b.parts)) b.bodies.stmts) (with_parts (without_name b.parts) b)
put_body body.NoCases b = with_stmt false b.bodies.exps (no_cases ∷ b.bodies.stmts) b
put_body body.CaseDefault b = with_stmt false b.bodies.exps (on_stmts (λ before inside. case_of before label.Default inside) b.bodies.stmts) b
put_body body.CaseAction b =
    with_stmt false b.bodies.exps (on_stmts (λ before inside. case_of before (label.Action (last_name b.parts)) inside) b.bodies.stmts) (with_parts (without_name b.parts) b)

-- parsers and their states

-- with no parts of expressions and statements
abbrev pub cleared : Built → Built
cleared b = record b { bodies = no_bodies }

abbrev pub taken_exp : Built → Exp16
taken_exp b = first_exp b.bodies.exps

abbrev pub put_state : StateAction → Built → Built
put_state state.TakeExp b = record (cleared b) { states = record b.states { exps = taken_exp b ∷ b.states.exps } }
put_state state.NoExp b = record (cleared b) { states = record b.states { exp_options = None ∷ b.states.exp_options } }
put_state state.SomeExp b = record (cleared b) { states = record b.states { exp_options = Some (taken_exp b) ∷ b.states.exp_options } }
put_state state.NoExps b = record (cleared b) { states = record b.states { exp_lists = [] ∷ b.states.exp_lists } }
put_state state.AddExp b = record (cleared b) { states = record b.states { exp_lists = extended (taken_exp b ∷ []) b.states.exp_lists } }
put_state state.SimpleDefault b = record (cleared b) { states = record b.states { simples = simple.Default ∷ b.states.simples } }
put_state state.SimpleAny b = record (cleared b) { states = record b.states { simples = simple.Any ∷ b.states.simples } }
put_state state.SimpleMask b =
    record (cleared b) { states = record b.states { exps = older b.states.exps; simples = simple.Mask (first_exp b.states.exps) (taken_exp b) ∷ b.states.simples } }
put_state state.SimpleRange b =
    record (cleared b) { states = record b.states { exps = older b.states.exps; simples = simple.Range (first_exp b.states.exps) (taken_exp b) ∷ b.states.simples } }
put_state state.SimpleValue b = record (cleared b) { states = record b.states { simples = simple.Value (taken_exp b) ∷ b.states.simples } }
put_state state.OneSimple b =
    record b { states = record b.states { simples = older b.states.simples; simple_lists = (newest simple.Any b.states.simples ∷ []) ∷ b.states.simple_lists } }
put_state state.AddSimple b =
    record b { states = record b.states { simples = older b.states.simples; simple_lists = extended (newest simple.Any b.states.simples ∷ []) b.states.simple_lists } }
put_state state.KeysetOne b =
    record b { states = record b.states { simples = older b.states.simples; keysets = keyset.One (newest simple.Any b.states.simples) ∷ b.states.keysets } }
put_state state.KeysetTuple b =
    record b { states = record b.states { simple_lists = older b.states.simple_lists; keysets = keyset.Tuple (newest [] b.states.simple_lists) ∷ b.states.keysets } }
put_state state.TupleOfOne b =
    record (cleared b) { states = record b.states { keysets = keyset.Tuple (simple.Value (taken_exp b) ∷ []) ∷ b.states.keysets } }
put_state state.TargetState b =
    record b { parts = without_name b.parts; states = record b.states { targets = target.State (last_name b.parts) ∷ b.states.targets } }
put_state state.TargetAccept b = record b { states = record b.states { targets = target.Accept ∷ b.states.targets } }
put_state state.TargetReject b = record b { states = record b.states { targets = target.Reject ∷ b.states.targets } }
put_state state.NoCases b = record (cleared b) { states = record b.states { cases = [] ∷ b.states.cases } }
put_state state.AddCase b =
    record b {
      states = record b.states {
        keysets = older b.states.keysets;
        targets = older b.states.targets;
        cases = extended (record { keyset = newest (keyset.Tuple []) b.states.keysets; target = newest target.Accept b.states.targets } ∷ []) b.states.cases;
      };
    }
put_state state.Go b =
    record (cleared b) { states = record b.states { targets = older b.states.targets; transitions = transition.Go (newest target.Accept b.states.targets) ∷ b.states.transitions } }
put_state state.Select b =
    record b {
      states = record b.states {
        exp_lists = older b.states.exp_lists;
        cases = older b.states.cases;
        transitions = transition.Select (newest [] b.states.exp_lists) (newest [] b.states.cases) ∷ b.states.transitions;
      };
    }
put_state state.NoVars b = record (cleared b) { states = record b.states { vars = [] ∷ b.states.vars } }
put_state state.AddVar b =
    record b {
      parts = without_type (without_name b.parts);
      states = record b.states {
        exp_options = older b.states.exp_options;
        vars = extended (record { of = last_type b.parts; name = last_name b.parts; initial = newest None b.states.exp_options } ∷ []) b.states.vars;
      };
    }
put_state state.TakeBlock b = record (cleared b) { states = record b.states { blocks = first_stmt b.bodies.stmts ∷ b.states.blocks } }
put_state state.NoStates b = record (cleared b) { states = record b.states { states = [] ∷ b.states.states } }
put_state state.AddState b =
    record b {
      parts = without_name b.parts;
      states = record b.states {
        blocks = older b.states.blocks;
        transitions = older b.states.transitions;
        states = extended (record { name = last_name b.parts; body = first_stmt b.states.blocks; transition = newest (transition.Go target.Accept) b.states.transitions } ∷ []) b.states.states;
      };
    }

-- controls

abbrev pub without_exp : States → States
without_exp s = record s { exps = older s.exps }

abbrev pub without_block : States → States
without_block s = record s { blocks = older s.blocks }

abbrev pub without_member : Parts → Parts
without_member p = record p { members = older p.members }

abbrev pub last_member : Parts → Member
last_member p = newest no_member p.members

abbrev pub without_notes : Parts → Parts
without_notes p = record p { notes = older p.notes }

abbrev pub last_notes : Parts → List Note
last_notes p = newest [] p.notes

abbrev pub with_property : Property → Built → Built
with_property p b = record (cleared b) { controls = record b.controls { properties = extended (p ∷ []) b.controls.properties } }

abbrev pub with_local : Local → Built → Built
with_local l b = record (cleared b) { controls = record b.controls { locals = extended (l ∷ []) b.controls.locals } }

abbrev pub with_instance : Instance → Built → Built
with_instance i b = record (cleared b) { controls = record b.controls { instances = i ∷ b.controls.instances } }

abbrev pub put_control : ControlAction → Built → Built
put_control control.Counter b =
    with_instance (instance.Counter (first_exp b.states.exps) (last_member b.parts) (last_name b.parts))
    (record b { parts = without_member (without_name b.parts); states = without_exp b.states })
put_control control.DirectCounter b =
    with_instance (instance.DirectCounter (last_member b.parts) (last_name b.parts)) (record b { parts = without_member (without_name b.parts) })
put_control control.Register b =
    with_instance (instance.Register (last_literal b.parts) (first_exp b.states.exps) (last_name b.parts))
    (record b { parts = without_literal (without_name b.parts); states = without_exp b.states })
put_control control.Meter b =
    with_instance (instance.Meter (first_exp b.states.exps) (last_member b.parts) (last_name b.parts))
    (record b { parts = without_member (without_name b.parts); states = without_exp b.states })
put_control control.Declared b =
    record b { parts = without_name b.parts; controls = record b.controls { action_names = action_name.Declared (last_name b.parts) ∷ b.controls.action_names } }
put_control control.NoAction b = record b { controls = record b.controls { action_names = action_name.NoAction ∷ b.controls.action_names } }
put_control control.NoNames b = record b { controls = record b.controls { action_lists = [] ∷ b.controls.action_lists } }
put_control control.AddName b =
    record b {
      controls = record b.controls {
        action_names = older b.controls.action_names;
        action_lists = extended (newest action_name.NoAction b.controls.action_names ∷ []) b.controls.action_lists;
      };
    }
put_control control.NoKeys b = record (cleared b) { controls = record b.controls { keys = [] ∷ b.controls.keys } }
put_control control.AddKey b =
    record b {
      parts = without_notes (without_name b.parts);
      states = without_exp b.states;
      controls = record b.controls { keys = extended (record { exp = first_exp b.states.exps; kind = last_name b.parts; notes = last_notes b.parts } ∷ []) b.controls.keys };
    }
put_control control.NoProperties b = record (cleared b) { controls = record b.controls { properties = [] ∷ b.controls.properties } }
put_control control.AddKeys b =
    with_property (property.Key (newest [] b.controls.keys)) (record b { controls = record b.controls { keys = older b.controls.keys } })
put_control control.AddActions b =
    with_property (property.Actions (newest [] b.controls.action_lists)) (record b { controls = record b.controls { action_lists = older b.controls.action_lists } })
put_control control.AddSize b = with_property (property.Size (last_literal b.parts)) (with_parts (without_literal b.parts) b)
put_control control.AddCounters b = with_property (property.Counters (last_name b.parts)) (with_parts (without_name b.parts) b)
put_control control.AddDefault b =
    with_property (property.DefaultAction (newest action_name.NoAction b.controls.action_names) (taken_exp b))
    (record b { controls = record b.controls { action_names = older b.controls.action_names } })
put_control control.NoLocals b = record (cleared b) { controls = record b.controls { locals = [] ∷ b.controls.locals } }
put_control control.AddVar b =
    with_local (local.Var (record { of = last_type b.parts; name = last_name b.parts; initial = newest None b.states.exp_options }))
    (record b { parts = without_type (without_name b.parts); states = record b.states { exp_options = older b.states.exp_options } })
put_control control.AddObject b =
    with_local (local.Instance (last_notes b.parts) (newest no_instance b.controls.instances))
    (record b { parts = without_notes b.parts; controls = record b.controls { instances = older b.controls.instances } })
put_control control.AddAction b =
    with_local (local.Action (record { notes = last_notes b.parts; name = last_name b.parts; parameters = newest [] b.parts.params; body = first_stmt b.states.blocks }))
    (record b { parts = record (without_notes (without_name b.parts)) { params = older b.parts.params }; states = without_block b.states })
put_control control.AddTable b =
    with_local (local.Table (record { notes = last_notes b.parts; name = last_name b.parts; properties = newest [] b.controls.properties }))
    (record b { parts = without_notes (without_name b.parts); controls = record b.controls { properties = older b.controls.properties } })

-- declarations

abbrev pub with_decl : Decl16 → Built → Built
with_decl d b = record (cleared b) { decls = record b.decls { decls = b.decls.decls ++ d ∷ [] } }

abbrev pub put_decl : DeclAction → Built → Built
put_decl declare.NoBitFields b = record b { decls = record b.decls { bit_fields = [] ∷ b.decls.bit_fields } }
put_decl declare.AddBitField b =
    record b {
      parts = without_literal (without_name b.parts);
      decls = record b.decls { bit_fields = extended (record { width = last_literal b.parts; name = last_name b.parts } ∷ []) b.decls.bit_fields };
    }
put_decl declare.NoFields b = record b { decls = record b.decls { struct_fields = [] ∷ b.decls.struct_fields } }
put_decl declare.AddField b =
    record b {
      parts = without_notes (without_type (without_name b.parts));
      decls = record b.decls { struct_fields = extended (record { notes = last_notes b.parts; of = last_type b.parts; name = last_name b.parts } ∷ []) b.decls.struct_fields };
    }
put_decl declare.Header b =
    with_decl (decl.Header (record { name = last_name b.parts; fields = newest [] b.decls.bit_fields }))
    (record b { parts = without_name b.parts; decls = record b.decls { bit_fields = older b.decls.bit_fields } })
put_decl declare.Struct b =
    with_decl (decl.Struct (record { name = last_name b.parts; fields = newest [] b.decls.struct_fields }))
    (record b { parts = without_name b.parts; decls = record b.decls { struct_fields = older b.decls.struct_fields } })
put_decl declare.Object b =
    with_decl (decl.Instance (last_notes b.parts) (newest no_instance b.controls.instances))
    (record b { parts = without_notes b.parts; controls = record b.controls { instances = older b.controls.instances } })
put_decl declare.Parser b =
    with_decl (decl.Parser (record { name = last_name b.parts; parameters = newest [] b.parts.params; vars = newest [] b.states.vars; states = newest [] b.states.states }))
    (record b { parts = record (without_name b.parts) { params = older b.parts.params }; states = record b.states { vars = older b.states.vars; states = older b.states.states } })
put_decl declare.Control b =
    with_decl (decl.Control (record { name = last_name b.parts; parameters = newest [] b.parts.params; locals = newest [] b.controls.locals; body = first_stmt b.states.blocks }))
    (record b {
      parts = record (without_name b.parts) { params = older b.parts.params };
      states = without_block b.states;
      controls = record b.controls { locals = older b.controls.locals };
    })
put_decl declare.AddBlock b = record b { parts = without_name b.parts; decls = record b.decls { main = b.decls.main ++ last_name b.parts ∷ [] } }

-- what is built once the action is done
abbrev pub put : Action → Built → Built
put (action.Part a) b = record b { parts = put_part a b.parts }
put (action.Body a) b = put_body a b
put (action.State a) b = put_state a b
put (action.Control a) b = put_control a b
put (action.Decl a) b = put_decl a b
