-- That tests in which tables are applied give the values of expressions, and that an application of a table does what that of its
-- ready table does (P4_16 1.2, "Match-action unit invocation", "Match-action unit execution semantics").
use Rattle.std.specs.Prelude.{◌≡◌, ℕ, false, List, [], ◌∷◌, ◌++◌, map, IfSome, Option, Some, None}
use Rattle.std.specs.List.{list_any}
use Rattle.match_core.specs.Fits.{Fits}
use Rattle.match_core.specs.Tables.{tables_of}
use Rattle.p416_syntax.specs.declared.controls.Action16.{Action16}
use Rattle.p416_syntax.specs.declared.controls.Control16.{Control16}
use Rattle.p416_syntax.specs.declared.program.Decl16.{Decl16}
use Rattle.p416_syntax.specs.declared.program.Syntax16.{Syntax16}
use Rattle.p416_syntax.specs.declared.controls.Table16.{Table16}
use Rattle.p416_syntax.specs.Tree.{Exp16, Stmt16}
use Rattle.p416_syntax.specs.Names.{Name}
use Rattle.p416_syntax.specs.Scopes.{Handed, an_action, Known, Scope, sort_of}
use Rattle.p416_syntax.specs.Calls.{Place, parser_position}
use Rattle.p416_syntax.specs.Uses.{some_action, uses}
use Rattle.p416_syntax.specs.Unknown.{is_wanted, is_misnamed}
use Rattle.p416_syntax.specs.Types.{is_mistyped}
use Rattle.p416_syntax.specs.Externs.{is_parser_part, are_allowed, is_outside_block}
use Rattle.p416_syntax.specs.Statements.{behind}
use Rattle.p416_syntax.specs.Declarations.{layouts_of, top_scope, control_scope, action_scope}
use Rattle.p416_syntax.specs.Breaks.{BreaksNone, program_rules}
use Rattle.v1_core.specs.declared.block.Block.{Block}
use Rattle.v1_core.specs.Frames as sem
use Rattle.v1_core.specs.Signatures.{signature16}
use Rattle.v1_core.specs.Surroundings as meaning
use Rattle.v1_core.specs.Surroundings.{Setting, table_named}
use Rattle.v1_core.specs.Blocks.{around_control, control_world, control_at, control16}
use Rattle.v1_core.specs.Tables.{applied}
use Rattle.v1_core.specs.Numbered.{Variable, InScope, nobody}
use Rattle.v1_core.specs.Cells.{Cells}
use Rattle.v1_core.specs.PackedFrames.{IsFrameOf}
use Rattle.v1_ready_forms.specs.Named.{seats_in}
use Rattle.v1_ready_laws.specs.Rules.{NamesSeated}
use Rattle.v1_ready_blocks.specs.Moments.{Moment}
use Rattle.v1_ready_blocks.specs.Tests.{World}
use Rattle.v1_ready_blocks.specs.Tables as ready
use Rattle.v1_ready_blocks.specs.Blocks as blocks
use Rattle.v1_ready_blocks.specs.Blocks.{world_of, ready_run}
use Rattle.v1_block_laws.specs.Variables.{own_names, scope_in_control, control_from}
use Rattle.v1_parser_laws.specs.Shown.{Shows}
use Rattle.v1_value_laws.specs.Kinds.{Fine}
use Rattle.v1_ready_statements.specs.Around.{ActionPlace, Around, Found, action_found, table_found}
use Rattle.v1_ready_statements.specs.Blocks as ready_blocks
use Rattle.v1_ready_statements.specs.Blocks.{parameter_slots, table_ready, ready_control}
use Rattle.v1_statement_laws.specs.Behind.{Shown}
use Rattle.v1_statement_laws.specs.Leaves.{AppliedShows, ActionDoes}
use Rattle.v1_call_laws.specs.Calling.{StandardIsOwn, NamesPlain}
use Rattle.v1_call_laws.specs.Handing.{AreHanded, NamesDiffer}
use Rattle.v1_call_laws.specs.Telling.{ToldNone, TestsTell}
use Rattle.v1_control_laws.specs.Controls.{Waiting, rule_tests, LeavesDo, ActionLeavesDo, InitialsDo, BodyActionsDo, BodyTablesDo}
use Rattle.v1_control_laws.specs.Plain.{IsPlainScope}
use Rattle.v1_control_laws.specs.Strict.{IsStrict}
use Rattle.v1_control_laws.specs.Tables.{around_of, AreDeclared, TableFits, IsFilled, TablesFit}

-- all tables of a block apply the same, from moments that nothing stopped
abbrev pub TablesApply : (Cells → Type 0) → Around → meaning.World → World → InScope → Type 0
TablesApply P b w z who =
    (text : Name) →
    IfSome (table_found b text)
    (λ table. (m : sem.Moment) (k : Moment) → Shown P b.syntax who m k → m.stopped ≡ None →
    AppliedShows P b who (w.apply text m) (z.apply table k))

-- Then a ready test gives the value of its expression, and leaves moments that are one and that nothing stopped: `hit` and
-- `miss` of an application too.
abbrev pub TablesTell : Type 0
TablesTell =
    (o : Option Cells) (b : Around) (w : meaning.World) (z : World) (s : Scope) (who : InScope) →
    BreaksNone b.syntax program_rules → s.layouts ≡ layouts_of b.syntax.decls →
    NamesSeated s (seats_in b.syntax w.around.roots who) → Fine s → TablesApply (Waiting b.syntax o) b w z who →
    TestsTell (Waiting b.syntax o) b w z s who

-- an application of a table with what fills it, where the actions of the block do the same
abbrev pub TablesApplied : Type 0
TablesApplied =
    (o : Option Cells) (S : meaning.Surroundings) (actions : List ActionPlace) (vars : List Variable) (w : meaning.World)
    (z : World) (parameters : List (List ℕ)) (who : InScope) (text : Name) (t : Table16) (r : ready.Table) (fill : ready.Fill) →
    BreaksNone S.setting.syntax program_rules → S.scope.layouts ≡ layouts_of S.setting.syntax.decls →
    NamesSeated S.scope (seats_in S.setting.syntax S.roots (own_names vars)) → AreDeclared S actions → w.around ≡ S →
    parameters ≡ map (parameter_slots (around_of S actions)) actions → who.variables ≡ vars →
    ((f : Found) (called : Name) → action_found (around_of S actions) called ≡ Some f →
    ActionDoes (Waiting S.setting.syntax o) (around_of S actions) w z who f) →
    table_named S text ≡ Some t →
    table_ready (around_of S actions) S.scope (seats_in S.setting.syntax S.roots (own_names vars)) t ≡ Some r →
    TableFits S actions t → IsFilled S t fill r →
    (m : sem.Moment) (k : Moment) → Shown (Waiting S.setting.syntax o) S.setting.syntax who m k → m.stopped ≡ None →
    AppliedShows (Waiting S.setting.syntax o) (around_of S actions) who (applied S w.act text m)
    (ready.applied fill parameters z.act r k)

-- so do all tables of a control, in its body
abbrev pub ControlTablesApply : Type 0
ControlTablesApply =
    (c : Setting) (place : Block) (k : Control16) (r : blocks.Block) (fill : ready.Fill) →
    BreaksNone c.syntax program_rules → control_at c.syntax place ≡ Some k → ready_control c.syntax place k ≡ Some r →
    TablesFit c place k fill →
    (o : Option Cells) → BodyActionsDo c place k (world_of fill r) o → BodyTablesDo c place k (world_of fill r) o

-- In an accepted program each table of a control fits, and what fills the tables of the signature fills it.
abbrev pub ControlTablesFilled : Type 0
ControlTablesFilled =
    (c : Setting) (place : Block) (k : Control16) (fill : ready.Fill) →
    BreaksNone c.syntax program_rules → control_at c.syntax place ≡ Some k →
    fill.tables ≡ tables_of (signature16 c.syntax) c.entries → fill.fills ≡ c.entries.tables →
    Fits c.entries (signature16 c.syntax) → TablesFit c place k fill

-- Outside of parsers no stack tells anything in an expression, no member of an application tells anything but whether it hit, and
-- nothing is looked ahead at: where a value is asked for, or what stands before a member, and T1, T3 and T10 are kept.
abbrev pub RulesTellNone : Type 0
RulesTellNone =
    (s : Scope) (p : Place) (e : Exp16) → is_parser_part s.part ≡ false →
    are_allowed (parser_position ∷ []) s.positions ≡ false → IsStrict p → list_any is_misnamed (uses s p e) ≡ false →
    list_any is_mistyped (uses s p e) ≡ false → list_any is_outside_block (uses s p e) ≡ false → ToldNone s e

-- So a control of an accepted program runs as its ready block, with what fills the tables of the signature: where statements
-- without others in them do the same where actions and tables do, and initial values do where tables do.
abbrev pub ControlsRun : Type 0
ControlsRun =
    (c : Setting) (place : Block) (k : Control16) (r : blocks.Block) (fill : ready.Fill) →
    BreaksNone c.syntax program_rules → control_at c.syntax place ≡ Some k → ready_control c.syntax place k ≡ Some r →
    fill.tables ≡ tables_of (signature16 c.syntax) c.entries → fill.fills ≡ c.entries.tables →
    Fits c.entries (signature16 c.syntax) →
    ActionLeavesDo rule_tests (around_control c place k) (ready_blocks.around_control c.syntax k) →
    LeavesDo rule_tests (around_control c place k) (ready_blocks.around_control c.syntax k) →
    (((o : Option Cells) → BodyTablesDo c place k (world_of fill r) o) →
    InitialsDo (control_world (around_control c place k)) (world_of fill r) c.syntax place k (control_from c.syntax k) k.locals) →
    (m : sem.Moment) (j : Moment) → Shows c.syntax nobody m j → IsFrameOf c.syntax j.waiting → m.stopped ≡ None →
    Shows c.syntax nobody (control16 c place m) (ready_run fill r j)

-- What is handed to an action of a control is of the kinds of its parameters, which have names of their own: also where variables
-- and parameters stand in front of the names of the control.
abbrev pub ParametersHanded : Type 0
ParametersHanded =
    (c : Setting) (place : Block) (k : Control16) (s : Scope) (front : List Known) (text plane : Name) (hs : List Handed)
    (f : Found) →
    BreaksNone c.syntax program_rules → control_at c.syntax place ≡ Some k →
    s.names ≡ front ++ (scope_in_control c.syntax k).names →
    list_any (λ (x : Known). is_wanted some_action x.sort) front ≡ false → sort_of s text ≡ an_action plane hs →
    action_found (ready_blocks.around_control c.syntax k) text ≡ Some f →
    AreHanded s (scope_in_control c.syntax k) hs f.place.of.parameters × NamesDiffer f.place.of.parameters

-- In the scopes of a program names and members are of such kinds as types name: at the top, in a control, in an action, and behind
-- statements; which is what laws on calls ask of a scope.
abbrev pub ScopesPlain : Type 0
ScopesPlain =
    ((ds : List Decl16) (positions : List ℕ) → IsPlainScope (top_scope ds positions))
    × ((s : Scope) (c : Control16) → IsPlainScope s → IsPlainScope (control_scope s c))
    × ((s : Scope) (a : Action16) → IsPlainScope s → IsPlainScope (action_scope s a))
    × ((x : Stmt16) (s : Scope) → IsPlainScope s → IsPlainScope (behind x s))
    × ((s : Scope) → IsPlainScope s → NamesPlain s)

-- the type of standard metadata is that of `v1model.p4`
abbrev pub StandardsOwn : Type 0
StandardsOwn = (syntax : Syntax16) → BreaksNone syntax program_rules → StandardIsOwn syntax
