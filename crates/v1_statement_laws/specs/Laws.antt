-- That ready statements do what those of the program do.
use Rattle.std.specs.Prelude.{◌≡◌, ℕ, ◌+◌, ◌≤◌, Bool, true, false, List, [], ◌∷◌, length, flat_map, filter_map, IfSome, Option, Some, None}
use Rattle.p416_syntax.specs.declared.parts.Type16.{Type16}
use Rattle.p416_syntax.specs.declared.parsers.Var.{Var}
use Rattle.p416_syntax.specs.declared.controls.Local.{Local}
use Rattle.p416_syntax.specs.declared.node.CaseLabel.{CaseLabel}
use Rattle.p416_syntax.specs.Tree.{Exp16, member, call, Stmt16, var_is, assign, expression}
use Rattle.p416_syntax.specs.Names.{Name}
use Rattle.p416_syntax.specs.Kinds.{Kind, header, stack, struct, packet_in, packet_out}
use Rattle.p416_syntax.specs.Scopes.{Scope, kind_of_type}
use Rattle.p416_syntax.specs.Calls.{Place, value}
use Rattle.p416_syntax.specs.Expressions.{kind_of, is_chosen}
use Rattle.p416_syntax.specs.Uses.{Use, arguments_of}
use Rattle.p416_syntax.specs.Statements.{assigned_place}
use Rattle.p416_syntax.specs.Declarations.{layouts_of}
use Rattle.p416_syntax.specs.Breaks.{BreaksNone, program_rules}
use Rattle.v1_core.specs.Frames as sem
use Rattle.v1_core.specs.Slots.{variable_kinds, local_kinds, kinds_in}
use Rattle.v1_core.specs.Surroundings as meaning
use Rattle.v1_core.specs.Numbered.{Variable, InScope, nobody, number_of}
use Rattle.v1_core.specs.Blocks.{variables_of, with_variables, with_initial, var_in}
use Rattle.v1_core.specs.Statements.{no_label, run}
use Rattle.v1_core.specs.Seats.{Content, slot_form, form_of}
use Rattle.v1_ready_forms.specs.Named.{seats_in}
use Rattle.v1_ready_laws.specs.Rules.{Keeps}
use Rattle.v1_ready_blocks.specs.Moments.{Moment}
use Rattle.v1_ready_blocks.specs.Tests.{World, quiet_world}
use Rattle.v1_ready_blocks.specs.Statements as ready
use Rattle.v1_ready_blocks.specs.Statements.{does}
use Rattle.v1_block_laws.specs.Standing.{AreOfKinds}
use Rattle.v1_block_laws.specs.Keeping.{StatementKeeps}
use Rattle.v1_block_laws.specs.Variables.{variable, locals_from}
use Rattle.v1_ready_blocks.specs.Blocks.{parser_run}
use Rattle.v1_parser_laws.specs.Shown.{Shows, in_block, BodyShows}
use Rattle.v1_place_laws.specs.Places.{Meant, meant_by}
use Rattle.v1_deed_laws.specs.Forms.{IsEmitted}
use Rattle.v1_ready_statements.specs.Around.{Around, table_found, variable_seat}
use Rattle.v1_ready_statements.specs.Tested.{ready_test}
use Rattle.v1_ready_statements.specs.Called.{expression_ready}
use Rattle.v1_ready_statements.specs.Blocks.{starts_from}
use Rattle.v1_ready_statements.specs.Statements.{assigned_to, initial_ready, ready_of_statement}
use Rattle.v1_value_laws.specs.Classes.{IsOfClass}
use Rattle.v1_statement_laws.specs.Behind.{Waits, Shown, LeftBehind, InContext, Within, declared_from}
use Rattle.v1_statement_laws.specs.Meeting.{Judged, StatementMeets}
use Rattle.v1_statement_laws.specs.Leaves.{RunsAlike, Leaves}
use Rattle.v1_statement_laws.specs.Evaluating.{Evaluates}

-- Where the statements without others in them do the same, and conditions and tables tell the same, all statements do: a list
-- of them, a block, a variable, `if` and `switch`.
abbrev pub StatementsShow : Type 0
StatementsShow =
    (calls : Bool) (b : Around) (w : meaning.World) (z : World) (from to : ℕ) (x : Stmt16) (s : Scope) (who : InScope)
    (n : ℕ) (tests : List (Use → Bool)) (vars : List Variable) →
    BreaksNone b.syntax program_rules → Leaves (Judged tests) (Waits calls b.syntax) b w z vars from to →
    Within vars b.syntax w.around.roots from to n s who → StatementMeets (Judged tests) s x → AreOfKinds (variable_kinds b.syntax) n (kinds_in s x) → n + length (kinds_in s x) ≤ to →
    IfSome (ready_of_statement b s (seats_in b.syntax w.around.roots who) n x)
    (λ r. (taken : CaseLabel → Bool) (ran : Option ℕ) (m : sem.Moment) (k : Moment) → Shown (Waits calls b.syntax) b.syntax who m k →
    LeftBehind (Waits calls b.syntax) b.syntax who (declared_from s n x) (run w s taken x m) (ready.run z ran r k))

-- so the statements of a parser's state leave what the ready ones leave, which is what its law asks of them
abbrev pub BodiesShow : Type 0
BodiesShow =
    (b : Around) (w : meaning.World) (from to n : ℕ) (vars : List Variable) (x : Stmt16) (r : ready.Statement)
    (tests : List (Use → Bool)) →
    BreaksNone b.syntax program_rules → Leaves (Judged tests) (Waits false b.syntax) b w quiet_world vars from to →
    InContext b.syntax w.around.roots from to n w.around.scope (in_block vars []) → StatementMeets (Judged tests) w.around.scope x →
    AreOfKinds (variable_kinds b.syntax) n (kinds_in w.around.scope x) → n + length (kinds_in w.around.scope x) ≤ to →
    ready_of_statement b w.around.scope (seats_in b.syntax w.around.roots (in_block vars [])) n x ≡ Some r →
    (m : sem.Moment) (k : Moment) → Shows b.syntax (in_block vars []) m k →
    BodyShows b.syntax vars (declared_from w.around.scope n x) (run w w.around.scope no_label x m) (parser_run r k)

-- statements one after another, of which each runs by itself
abbrev pub all_run : World → List ready.Statement → Moment → Moment
all_run z [] k = k
all_run z (x ∷ rs) k = all_run z rs (ready.run z None x k)

-- the variables of a control start at 0, of whose declarations the first variable or parameter has this number
abbrev pub VariablesStart : Type 0
VariablesStart =
    (calls : Bool) (b : Around) (z : World) (s : Scope) (n : ℕ) (locals : List Local) → s.layouts ≡ layouts_of b.syntax.decls →
    AreOfKinds (variable_kinds b.syntax) n (flat_map (local_kinds s) locals) →
    IfSome (starts_from b s n locals)
    (λ rs. (m : sem.Moment) (k : Moment) → Shown (Waits calls b.syntax) b.syntax nobody m k → m.stopped ≡ None →
    Shown (Waits calls b.syntax) b.syntax (in_block (locals_from s n locals) [])
    (with_variables (variables_of s (filter_map var_in locals)) m) (all_run z rs k))

-- in a block without tables and actions

-- a ready test gives the value of an expression, which is of the class of its kind
abbrev pub TestsEvaluate : Type 0
TestsEvaluate =
    (calls : Bool) (b : Around) (w : meaning.World) (z : World) (from to n : ℕ) (s : Scope) (who : InScope) (p q : Place)
    (e : Exp16) →
    BreaksNone b.syntax program_rules → InContext b.syntax w.around.roots from to n s who → b.locals ≡ [] → Keeps s q e →
    IfSome (ready_test s (seats_in b.syntax w.around.roots who) (table_found b) p e)
    (Evaluates (Waits calls b.syntax) b w z s who p e (IsOfClass (kind_of s e)))

-- the assignment of a single value, to a slot or to a slice of it
abbrev pub SlotsAssigned : Type 0
SlotsAssigned =
    (calls : Bool) (b : Around) (w : meaning.World) (z : World) (from to n : ℕ) (s : Scope) (who : InScope)
    (target e : Exp16) (x : Meant) (of : Content) →
    BreaksNone b.syntax program_rules → InContext b.syntax w.around.roots from to n s who → b.locals ≡ [] →
    StatementKeeps s (assign target e) → is_chosen (kind_of s target) ≡ true →
    meant_by s (seats_in b.syntax w.around.roots who) target ≡ Some x → x.spot.seat.form ≡ slot_form of →
    IfSome (assigned_to b s (seats_in b.syntax w.around.roots who) (assigned_place (kind_of s target)) e x)
    (λ d. RunsAlike (Waits calls b.syntax) b w z s who [] (assign target e) (does d))

-- `isValid`, `setValid` and `setInvalid`
abbrev pub HeadersCalled : Type 0
HeadersCalled =
    (calls : Bool) (b : Around) (w : meaning.World) (z : World) (from to n : ℕ) (s : Scope) (who : InScope)
    (e given : Exp16) (type word : Name) (q : Place) →
    BreaksNone b.syntax program_rules → InContext b.syntax w.around.roots from to n s who → b.locals ≡ [] → Keeps s q e →
    kind_of s e ≡ header type →
    IfSome (expression_ready b s (seats_in b.syntax w.around.roots who) (call (member e word) given))
    (RunsAlike (Waits calls b.syntax) b w z s who [] (expression (call (member e word) given)))

-- a variable with an initial value, which is a single one
abbrev pub SlotsInitialized : Type 0
SlotsInitialized =
    (calls : Bool) (b : Around) (w : meaning.World) (z : World) (from to n : ℕ) (s : Scope) (who : InScope) (t : Type16)
    (called : Name) (e : Exp16) (of : Content) →
    BreaksNone b.syntax program_rules → InContext b.syntax w.around.roots from to n s who →
    AreOfKinds (variable_kinds b.syntax) n (kind_of_type s.names t ∷ []) → n + 1 ≤ to → b.locals ≡ [] →
    form_of (kind_of_type s.names t) ≡ slot_form of → Keeps s (value (kind_of_type s.names t)) e →
    IfSome (initial_ready b s (seats_in b.syntax w.around.roots who) n (kind_of_type s.names t) e)
    (RunsAlike (Waits calls b.syntax) b w z s who (variable called n ∷ []) (var_is t called e))

-- a variable of the block with an initial value, which is a single one; the variable has this number
abbrev pub VariablesInitialized : Type 0
VariablesInitialized =
    (calls : Bool) (b : Around) (w : meaning.World) (z : World) (from to next : ℕ) (who : InScope) (v : Var) (e : Exp16)
    (n : ℕ) (of : Content) →
    BreaksNone b.syntax program_rules → InContext b.syntax w.around.roots from to next w.around.scope who → b.locals ≡ [] →
    v.initial ≡ Some e → number_of who.variables v.name ≡ Some n →
    IfSome (variable_seat b n) (λ t. t.form ≡ slot_form of) →
    form_of (kind_of_type w.around.scope.names v.of) ≡ slot_form of →
    Keeps w.around.scope (value (kind_of_type w.around.scope.names v.of)) e →
    IfSome
    (initial_ready b w.around.scope (seats_in b.syntax w.around.roots who) n (kind_of_type w.around.scope.names v.of) e)
    (λ r. (ran : Option ℕ) (m : sem.Moment) (k : Moment) → Shown (Waits calls b.syntax) b.syntax who m k → m.stopped ≡ None →
    Shown (Waits calls b.syntax) b.syntax who (with_initial w m v) (ready.run z ran r k))

-- in any block

-- `p.extract(h)`, into a header or into the next element of a stack
abbrev pub HeadersExtracted : Type 0
HeadersExtracted =
    (calls : Bool) (b : Around) (w : meaning.World) (z : World) (from to n : ℕ) (s : Scope) (who : InScope)
    (e given f : Exp16) (type word : Name) →
    BreaksNone b.syntax program_rules → InContext b.syntax w.around.roots from to n s who → kind_of s e ≡ packet_in →
    arguments_of given ≡ f ∷ [] → kind_of s f ≡ header type →
    IfSome (expression_ready b s (seats_in b.syntax w.around.roots who) (call (member e word) given))
    (RunsAlike (Waits calls b.syntax) b w z s who [] (expression (call (member e word) given)))

-- `p.emit(x)` of a header or a stack of headers of whole octets, which no stack tells
abbrev pub HeadersEmitted : Type 0
HeadersEmitted =
    (calls : Bool) (b : Around) (w : meaning.World) (z : World) (from to n : ℕ) (s : Scope) (who : InScope)
    (e given f : Exp16) (word : Name) (x : Meant) →
    BreaksNone b.syntax program_rules → InContext b.syntax w.around.roots from to n s who → kind_of s e ≡ packet_out →
    arguments_of given ≡ f ∷ [] → meant_by s (seats_in b.syntax w.around.roots who) f ≡ Some x → x.slice ≡ None →
    x.spot.told ≡ None → IsEmitted (layouts_of b.syntax.decls) (form_of (kind_of s f)) →
    IfSome (expression_ready b s (seats_in b.syntax w.around.roots who) (call (member e word) given))
    (RunsAlike (Waits calls b.syntax) b w z s who [] (expression (call (member e word) given)))

-- a header, a stack or a struct
abbrev pub HasParts : Kind → Type 0
HasParts (header type) = Unit {0}
HasParts (stack type size) = Unit {0}
HasParts (struct type) = Unit {0}
HasParts k = ⊥

-- two structs are looked into through so many structs within each other
abbrev pub OneDepth : Kind → Meant → Meant → Type 0
OneDepth (struct type) x y = x.spot.seat.depth ≡ y.spot.seat.depth
OneDepth k x y = Unit {0}

-- the assignment of a header, a stack or a struct that no stack tells
abbrev pub PartsAssigned : Type 0
PartsAssigned =
    (calls : Bool) (b : Around) (w : meaning.World) (z : World) (from to n : ℕ) (s : Scope) (who : InScope)
    (target e : Exp16) (x y : Meant) →
    BreaksNone b.syntax program_rules → InContext b.syntax w.around.roots from to n s who →
    StatementKeeps s (assign target e) → HasParts (kind_of s target) →
    meant_by s (seats_in b.syntax w.around.roots who) target ≡ Some x → x.slice ≡ None →
    meant_by s (seats_in b.syntax w.around.roots who) e ≡ Some y → y.slice ≡ None → y.spot.told ≡ None →
    OneDepth (kind_of s target) x y →
    IfSome (assigned_to b s (seats_in b.syntax w.around.roots who) (assigned_place (kind_of s target)) e x)
    (λ d. RunsAlike (Waits calls b.syntax) b w z s who [] (assign target e) (does d))
