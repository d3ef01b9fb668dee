-- What is asked of the statements of a control that have none within them, of its initial values, its actions and its tables, so
-- that it runs as its ready block (P4_16 1.2, "Control blocks", "Actions", "Variable declarations").
use Rattle.std.specs.Prelude.{◌≡◌, ℕ, suc, ◌+◌, ◌==◌, Bool, true, List, [], ◌∷◌, length, IfSome, Option, Some, None}
use Rattle.std.specs.List.{list_any}
use Rattle.digraph.specs.Graphs.{successors}
use Rattle.p416_syntax.specs.declared.parts.Type16.{Type16}
use Rattle.p416_syntax.specs.declared.controls.Local.{Local}
use Rattle.p416_syntax.specs.declared.controls.Local.TheVariants as local
use Rattle.p416_syntax.specs.declared.controls.Control16.{Control16}
use Rattle.p416_syntax.specs.declared.program.Syntax16.{Syntax16}
use Rattle.p416_syntax.specs.Tree.{Exp16, call}
use Rattle.p416_syntax.specs.Names.{Name}
use Rattle.p416_syntax.specs.Scopes.{Scope, kind_of_type}
use Rattle.p416_syntax.specs.Calls.{Place, callee}
use Rattle.p416_syntax.specs.Uses.{Use}
use Rattle.p416_syntax.specs.Declarations.{action_scope}
use Rattle.p416_syntax.specs.Unknown.{is_misnamed}
use Rattle.p416_syntax.specs.Sizes.{leaves_size}
use Rattle.p416_syntax.specs.Types.{is_mistyped}
use Rattle.p416_syntax.specs.Literals.{overflows}
use Rattle.p416_syntax.specs.Writes.{writes_constant}
use Rattle.p416_syntax.specs.Arguments.{is_miscounted}
use Rattle.p416_syntax.specs.Applications.{applies_nothing, applies_wrongly, called_name}
use Rattle.p416_syntax.specs.Tables.{is_bad_in_table}
use Rattle.p416_syntax.specs.Externs.{is_outside_block}
use Rattle.p416_syntax.specs.Totals.{is_too_deep}
use Rattle.v1_core.specs.declared.block.Block.{Block}
use Rattle.v1_core.specs.Frames as sem
use Rattle.v1_core.specs.Slots.{local_kinds, kinds_in}
use Rattle.v1_core.specs.Surroundings as meaning
use Rattle.v1_core.specs.Surroundings.{Setting}
use Rattle.v1_core.specs.Numbered.{Variable, InScope}
use Rattle.v1_core.specs.Blocks.{around_control, control_world, with_initial}
use Rattle.v1_core.specs.Cells.{Cells}
use Rattle.v1_ready_blocks.specs.Moments.{Moment}
use Rattle.v1_ready_blocks.specs.Tests.{World}
use Rattle.v1_ready_blocks.specs.Statements.{run}
use Rattle.v1_block_laws.specs.Variables.{scope_in_control, body_from, control_seats, control_variables}
use Rattle.v1_parser_laws.specs.Shown.{in_block}
use Rattle.v1_ready_statements.specs.Around.{Around, Found, action_found, table_found}
use Rattle.v1_ready_statements.specs.Statements.{initial_ready}
use Rattle.v1_ready_statements.specs.Blocks as ready
use Rattle.v1_statement_laws.specs.Behind.{Waits, Shown, Within}
use Rattle.v1_statement_laws.specs.Meeting.{Judged, StatementMeets}
use Rattle.v1_statement_laws.specs.Leaves.{AppliedShows, ActionDoes, Leaves}
use Rattle.v1_call_laws.specs.Standing.{StandsIn}

-- of the frame in which arguments wait: that it is one of the program, or that it is this one
abbrev pub Waiting : Syntax16 → Option Cells → Cells → Type 0
Waiting syntax None = Waits true syntax
Waiting syntax (Some c) = λ (d : Cells). d ≡ c

-- a call of an action is one of these actions, by their numbers in the block
abbrev pub CallsSuch : Around → (ℕ → Bool) → Scope → Exp16 → Type 0
CallsSuch b may s (call e given) =
    IfSome (called_name s callee e) (λ text. (f : Found) → action_found b text ≡ Some f → may f.number ≡ true)
CallsSuch b may s e = Unit {0}

-- what the rules judge passes these tests, what is called is one of these actions, and it stands in a block with this scope
abbrev pub Meets : List (Use → Bool) → Scope → Around → (ℕ → Bool) → Scope → Place → Exp16 → Type 0
Meets tests block b may s p e = Judged tests s p e × CallsSuch b may s e × StandsIn block s

-- these are called
abbrev pub calls_among : List ℕ → ℕ → Bool
calls_among numbers n = list_any (λ m. n == m) numbers

-- what the rules judge in one declaration by itself: T1 to T6, T8 to T10 and T12
abbrev pub rule_tests : List (Use → Bool)
rule_tests =
    is_misnamed ∷ leaves_size ∷ is_mistyped ∷ overflows ∷ writes_constant ∷ is_miscounted ∷ applies_wrongly ∷ is_bad_in_table
    ∷ is_outside_block ∷ is_too_deep ∷ []

-- these actions do what those of the block do, wherever its statements call them
abbrev pub ActionsDo : (Cells → Type 0) → Around → meaning.World → World → List Variable → ℕ → ℕ → (ℕ → Bool) → Type 0
ActionsDo P b w z vars from to may =
    (s : Scope) (who : InScope) (n : ℕ) (text : Name) (f : Found) → Within vars b.syntax w.around.roots from to n s who →
    action_found b text ≡ Some f → may f.number ≡ true → ActionDoes P b w z who f

-- and so do its tables
abbrev pub TablesDo : (Cells → Type 0) → Around → meaning.World → World → List Variable → ℕ → ℕ → Type 0
TablesDo P b w z vars from to =
    (s : Scope) (who : InScope) (n : ℕ) (text : Name) → Within vars b.syntax w.around.roots from to n s who →
    IfSome (table_found b text)
    (λ table. (m : sem.Moment) (k : Moment) → Shown P b.syntax who m k → m.stopped ≡ None →
    AppliedShows P b who (w.apply text m) (z.apply table k))

-- Then its statements without others in them do the same: in the body of the control,
abbrev pub LeavesDo : List (Use → Bool) → meaning.Surroundings → Around → Type 0
LeavesDo tests S b =
    (w : meaning.World) (z : World) (vars : List Variable) (from to : ℕ) (may : ℕ → Bool) →
    w.around ≡ S → ActionsDo (Waits true b.syntax) b w z vars from to may →
    ((p : Option Cells) → TablesDo (Waiting b.syntax p) b w z vars from to) →
    Leaves (Meets tests S.scope b may) (Waits true b.syntax) b w z vars from to

-- and in those of its actions, where no table is applied, so that no arguments wait apart
abbrev pub InActions : List (Use → Bool) → Scope → Around → (ℕ → Bool) → Scope → Place → Exp16 → Type 0
InActions tests block b may s p e = Meets tests block b may s p e × (applies_nothing s.part ≡ true)

abbrev pub ActionLeavesDo : List (Use → Bool) → meaning.Surroundings → Around → Type 0
ActionLeavesDo tests S b =
    (o : Option Cells) (w : meaning.World) (z : World) (vars : List Variable) (from to : ℕ) (may : ℕ → Bool) →
    w.around ≡ S → ActionsDo (Waiting b.syntax o) b w z vars from to may →
    ((p : Option Cells) → TablesDo (Waiting b.syntax p) b w z vars from to) →
    Leaves (InActions tests S.scope b may) (Waiting b.syntax o) b w z vars from to

-- what the bodies of the actions of a control meet, where an action calls those to which it leads in this graph
abbrev pub BodiesMeet : List (Use → Bool) → meaning.Surroundings → Around → List (List ℕ) → Type 0
BodiesMeet tests S b graph =
    (text : Name) (f : Found) → action_found b text ≡ Some f →
    StatementMeets (InActions tests S.scope b (calls_among (successors graph f.number))) (action_scope S.scope f.place.of) f.place.of.body

-- initial values: in these moments, for those of the declarations whose first variable has this number

abbrev pub InitialDoes : meaning.World → World → Syntax16 → Block → Control16 → ℕ → Type16 → Name → Option Exp16 → Type 0
InitialDoes w z syntax block c n t called None = Unit {0}
InitialDoes w z syntax block c n t called (Some e) =
    let s = scope_in_control syntax c in
    IfSome (initial_ready (ready.around_control syntax c) s (control_seats syntax block c) n (kind_of_type s.names t) e)
    (λ x. (m : sem.Moment) (k : Moment) → Shown (Waits true syntax) syntax (in_block (control_variables syntax c) []) m k → m.stopped ≡ None →
    Shown (Waits true syntax) syntax (in_block (control_variables syntax c) [])
    (with_initial w m (record { of = t; name = called; initial = Some e })) (run z None x k))

abbrev pub InitialsDo : meaning.World → World → Syntax16 → Block → Control16 → ℕ → List Local → Type 0
InitialsDo w z syntax block c n [] = Unit {0}
InitialsDo w z syntax block c n (local.Var v ∷ locals) =
    InitialDoes w z syntax block c n v.of v.name v.initial × InitialsDo w z syntax block c (suc n) locals
InitialsDo w z syntax block c n (x ∷ locals) =
    InitialsDo w z syntax block c (n + length (local_kinds (scope_in_control syntax c) x)) locals

-- what stands around the statements of a control and of its ready block, in the body of the control

abbrev pub BodyActionsDo : Setting → Block → Control16 → World → Option Cells → Type 0
BodyActionsDo c place k z o =
    let from = body_from c.syntax k in
    ActionsDo (Waiting c.syntax o) (ready.around_control c.syntax k) (control_world (around_control c place k)) z
    (control_variables c.syntax k) from (from + length (kinds_in (scope_in_control c.syntax k) k.body)) (λ n. true)

abbrev pub BodyTablesDo : Setting → Block → Control16 → World → Option Cells → Type 0
BodyTablesDo c place k z o =
    let from = body_from c.syntax k in
    TablesDo (Waiting c.syntax o) (ready.around_control c.syntax k) (control_world (around_control c place k)) z
    (control_variables c.syntax k) from (from + length (kinds_in (scope_in_control c.syntax k) k.body))
