-- That the names of a block are declared as what stands at their seats, that its variables are of the kinds that it declares,
-- and that what is evaluated in it keeps the rules on types and sizes.
use Rattle.std.specs.Prelude.{◌≡◌, ℕ, suc, ◌+◌, ◌<◌, List, [], ◌∷◌, ◌++◌, length, filter_map, Some}
use Rattle.p416_syntax.specs.declared.parts.Type16.{Type16}
use Rattle.p416_syntax.specs.declared.parsers.State.{State}
use Rattle.p416_syntax.specs.declared.parsers.Parser16.{Parser16}
use Rattle.p416_syntax.specs.declared.controls.Action16.{Action16}
use Rattle.p416_syntax.specs.declared.controls.Local.TheVariants as local
use Rattle.p416_syntax.specs.declared.controls.Control16.{Control16}
use Rattle.p416_syntax.specs.declared.program.Syntax16.{Syntax16}
use Rattle.p416_syntax.specs.Tree.{Exp16, call, member}
use Rattle.p416_syntax.specs.Names.{Name}
use Rattle.p416_syntax.specs.Kinds.{Kind}
use Rattle.p416_syntax.specs.Scopes.{Scope, kind_of_type}
use Rattle.p416_syntax.specs.Calls.{Place, method_signature}
use Rattle.p416_syntax.specs.Expressions.{kind_of, signature_of}
use Rattle.p416_syntax.specs.Uses.{wanted_by, owner_by, arguments_of}
use Rattle.p416_syntax.specs.Statements.{with_variable}
use Rattle.p416_syntax.specs.Declarations.{action_scope, action_in}
use Rattle.p416_syntax.specs.Breaks.{BreaksNone, program_rules}
use Rattle.v1_core.specs.declared.block.Block.{Block}
use Rattle.v1_core.specs.Slots.{variable_kinds, kinds_in, local_kinds}
use Rattle.v1_core.specs.Surroundings.{Root, action_called}
use Rattle.v1_core.specs.Numbered.{InScope, declared_at}
use Rattle.v1_core.specs.Parsing.{parser_of, state_called}
use Rattle.v1_core.specs.Blocks.{control_at}
use Rattle.v1_core.specs.Scopes.{IsScope}
use Rattle.v1_ready_forms.specs.Named.{seats_in}
use Rattle.v1_ready_laws.specs.Rules.{Keeps, NamesSeated}
use Rattle.v1_block_laws.specs.Variables.{scope_in_parser, scope_in_control, parser_seats, control_seats, control_roots, action_names, action_in_control, state_from, states_from, body_from, own_names, parser_variables, control_variables}
use Rattle.v1_block_laws.specs.Standing.{AreOfKinds}
use Rattle.v1_block_laws.specs.Apart.{AreInBody}
use Rattle.v1_block_laws.specs.Keeping.{ParserKeeps, ControlKeeps, ArgumentsKeep}

-- names

abbrev pub ParserSeated : Type 0
ParserSeated =
    (syntax : Syntax16) (p : Parser16) → BreaksNone syntax program_rules → parser_of syntax ≡ Some p →
    NamesSeated (scope_in_parser syntax p) (parser_seats syntax p)

abbrev pub ControlSeated : Type 0
ControlSeated =
    (syntax : Syntax16) (block : Block) (c : Control16) → BreaksNone syntax program_rules →
    control_at syntax block ≡ Some c → NamesSeated (scope_in_control syntax c) (control_seats syntax block c)

-- in an action, with its parameters inside
abbrev pub ActionSeated : Type 0
ActionSeated =
    (syntax : Syntax16) (block : Block) (c : Control16) (text : Name) (a : Action16) → BreaksNone syntax program_rules →
    control_at syntax block ≡ Some c → action_called (filter_map action_in c.locals) text ≡ Some a →
    NamesSeated (action_scope (scope_in_control syntax c) a)
    (seats_in syntax (control_roots block c) (action_names syntax c a))

-- behind the declaration of a variable
abbrev pub VariableSeated : Type 0
VariableSeated =
    (syntax : Syntax16) (s : Scope) (roots : List Root) (who : InScope) (t : Type16) (called : Name) (n : ℕ) →
    AreOfKinds (variable_kinds syntax) n (kind_of_type s.names t ∷ []) → NamesSeated s (seats_in syntax roots who) →
    NamesSeated (with_variable t called s) (seats_in syntax roots (declared_at called n who))

-- the kinds of variables

abbrev pub StateStands : Type 0
StateStands =
    (syntax : Syntax16) (p : Parser16) (text : Name) (x : State) → parser_of syntax ≡ Some p →
    state_called p.states text ≡ Some x →
    AreOfKinds (variable_kinds syntax) (state_from (scope_in_parser syntax p) (states_from syntax p) p.states text)
    (kinds_in (scope_in_parser syntax p) x.body)

abbrev pub BodyStands : Type 0
BodyStands =
    (syntax : Syntax16) (block : Block) (c : Control16) → control_at syntax block ≡ Some c →
    AreOfKinds (variable_kinds syntax) (body_from syntax c) (kinds_in (scope_in_control syntax c) c.body)

abbrev pub ActionStands : Type 0
ActionStands =
    (syntax : Syntax16) (block : Block) (c : Control16) (text : Name) (a : Action16) → control_at syntax block ≡ Some c →
    action_called (filter_map action_in c.locals) text ≡ Some a →
    AreOfKinds (variable_kinds syntax) (action_in_control syntax c a.name + length a.parameters)
    (kinds_in (action_scope (scope_in_control syntax c) a) a.body)

-- of variables one behind another, those in front and those behind
abbrev pub KindsStandApart : Type 0
KindsStandApart =
    (all : List Kind) (n : ℕ) (front back : List Kind) → AreOfKinds all n (front ++ back) →
    AreOfKinds all n front × AreOfKinds all (n + length front) back

-- places of their own

-- where statements begin to run, none of their variables is declared

abbrev pub StateApart : Type 0
StateApart =
    (syntax : Syntax16) (p : Parser16) (text : Name) (x : State) → parser_of syntax ≡ Some p →
    state_called p.states text ≡ Some x →
    let from = state_from (scope_in_parser syntax p) (states_from syntax p) p.states text in
    AreInBody (length (variable_kinds syntax)) from (from + length (kinds_in (scope_in_parser syntax p) x.body)) from
    (own_names (parser_variables syntax p))

abbrev pub BodyApart : Type 0
BodyApart =
    (syntax : Syntax16) (block : Block) (c : Control16) → control_at syntax block ≡ Some c →
    AreInBody (length (variable_kinds syntax)) (body_from syntax c)
    (body_from syntax c + length (kinds_in (scope_in_control syntax c) c.body)) (body_from syntax c)
    (own_names (control_variables syntax c))

-- in an action its parameters are
abbrev pub ActionApart : Type 0
ActionApart =
    (syntax : Syntax16) (block : Block) (c : Control16) (text : Name) (a : Action16) → control_at syntax block ≡ Some c →
    action_called (filter_map action_in c.locals) text ≡ Some a →
    let from = action_in_control syntax c a.name in
    AreInBody (length (variable_kinds syntax)) from
    (from + length (local_kinds (scope_in_control syntax c) (local.Action a))) (from + length a.parameters)
    (action_names syntax c a)

-- a variable takes the next number
abbrev pub DeclaredApart : Type 0
DeclaredApart =
    (count from to next : ℕ) (called : Name) (who : InScope) → next < to → next < count →
    AreInBody count from to next who → AreInBody count from to (suc next) (declared_at called next who)

-- so who is in scope has places apart
abbrev pub BodyScope : Type 0
BodyScope =
    (count from to next : ℕ) (who : InScope) → AreInBody count from to next who → IsScope count who

-- what is evaluated

abbrev pub ParserKept : Type 0
ParserKept =
    (syntax : Syntax16) (p : Parser16) → BreaksNone syntax program_rules → parser_of syntax ≡ Some p →
    ParserKeeps (scope_in_parser syntax p) p

abbrev pub ControlKept : Type 0
ControlKept =
    (syntax : Syntax16) (block : Block) (c : Control16) → BreaksNone syntax program_rules →
    control_at syntax block ≡ Some c → ControlKeeps (scope_in_control syntax c) c

-- of a call that keeps the rules, the arguments, and what stands before a method
abbrev pub CallKept : Type 0
CallKept =
    (s : Scope) (p : Place) (callee given : Exp16) → Keeps s p (call callee given) →
    ArgumentsKeep s (wanted_by (signature_of s callee)) (arguments_of given)

abbrev pub OwnerKept : Type 0
OwnerKept =
    (s : Scope) (p : Place) (e given : Exp16) (word : Name) → Keeps s p (call (member e word) given) →
    Keeps s (owner_by (method_signature (kind_of s e) word)) e
