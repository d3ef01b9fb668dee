-- What holds of each program of P4_14 that breaks no rule, whatever runs (this project's own; P4_14 1.0.5,
-- "Actions", "Parser Specification", "Table Declarations", "Packet Processing and Control Flow").
use Rattle.std.specs.Prelude.{◌≡◌, ℕ, ◌<◌, ◌^◌, List, length, Some, IfSome}
use Rattle.std.specs.List.{AllByRecursion}
use Rattle.state_store.specs.Ports.{IsPort}
use Rattle.state_store.specs.State.{Contents}
use Rattle.fabric.specs.declared.items.Item.{Item as QueueItem}
use Rattle.match_core.specs.Fits.{FitsFill}
use Rattle.p414_syntax.specs.declared.calculations.Item.{Item}
use Rattle.p414_syntax.specs.declared.syntax.Decl.{Decl}
use Rattle.p414_syntax.specs.declared.syntax.Rule14.{Rule14}
use Rattle.p414_syntax.specs.declared.tables.Table.{Table}
use Rattle.p414_syntax.specs.Tree.{Stmt}
use Rattle.p414_syntax.specs.Names.{Name}
use Rattle.p414_syntax.specs.Arguments.{Invocation, actions}
use Rattle.p414_syntax.specs.Expansion.{items_at}
use Rattle.p414_syntax.specs.Breaks.{BreaksNone, program_rules}
use Rattle.p414_sem.specs.Slots.{Slot}
use Rattle.p414_sem.specs.State.{State, read}
use Rattle.p414_sem.specs.Expanded.{Expanded, IsExpanded, primitives_at, items_in_list}
use Rattle.p414_sem.specs.Operations.{primitive_of}
use Rattle.p414_sem.specs.Parsing.{parsed}
use Rattle.p414_sem.specs.Effects.{Moment, Effect, effects, fallen, all_fallen, acted_by}
use Rattle.p414_sem.specs.Signatures.{table_sig, table_of}
use Rattle.p414_sem.specs.Controls.{Setting, fill_of, found, chosen, control_run}
use Rattle.p414_sem.specs.CalculatedFields.{updated}
use Rattle.p414_sem.specs.Passes.{Preserved, Held, ingress14, reparse14, egress14}
use Rattle.p414_sem.specs.Fitting.{IsState, IsHeld, IsSetting, IsItem}
use Rattle.lower_laws_states.specs.Fits.{slot_bits, FitsEffect}
use Rattle.lower_laws_states.specs.Programs.{FewTables, FitsChosen}
use Rattle.lower_laws_states.specs.Ends.{FitsIngressEnd, FitsEgressEnd}
use Rattle.lower_laws_states.specs.Arrival.{SameArrival}
use Rattle.lower_laws_states.specs.Expansions.{Has, IsPrimitiveOf, HasNoCall}
use Rattle.lower_laws_states.specs.Standing.{SlotStands, IsWide, PrimitiveStands, ItemStands}
use Rattle.lower_laws_states.specs.Bound.{NeverStopped}

-- a program that breaks none of the rules C1 to C28
abbrev pub BreaksNo : List Decl → Type 0
BreaksNo ds = BreaksNone ds program_rules

-- A state of the program stays one: by each effect that fits, by a primitive whose operands were read in another state, by an
-- action under both rules, by a control, by parsing, and as calculated fields are updated. Arguments may be any numbers, and a
-- control may be any statement.

-- an effect that fits leaves a state of the program
abbrev pub EffectsKeepStates : Type 0
EffectsKeepStates = (ds : List Decl) (m : Moment) (e : Effect) → IsState ds m.state → FitsEffect ds e → IsState ds (fallen m e).state

-- so does a primitive of an expanded action, whose operands may have been read in another state of the program
abbrev pub PrimitivesKeepStates : Type 0
PrimitivesKeepStates =
    (ds : List Decl) (x : Expanded) → BreaksNo ds → IsExpanded ds x → (action : ℕ) (i : Invocation) → Has (primitives_at x action) i
    → (arguments : List ℕ) (read now : Moment) → IsState ds read.state → IsState ds now.state
    → IsState ds (all_fallen now (effects ds arguments read (primitive_of ds x i))).state

-- so does parsing
abbrev pub ParsingKeepsStates : Type 0
ParsingKeepsStates = (ds : List Decl) → BreaksNo ds → (s : State) → IsState ds s → IsState ds (parsed ds s).state

-- so does an action, under both rules
abbrev pub ActionsKeepStates : Type 0
ActionsKeepStates =
    (ds : List Decl) (x : Expanded) → BreaksNo ds → IsExpanded ds x → (rule : Rule14) (action : ℕ) (arguments : List ℕ) (m : Moment)
    → IsState ds m.state → IsState ds (acted_by ds x rule action arguments m).state

-- so does a control
abbrev pub ControlsKeepStates : Type 0
ControlsKeepStates =
    (c : Setting) → BreaksNo c.decls → IsSetting c → FewTables c.decls → (body : Stmt) (m : Moment)
    → IsState c.decls m.state → IsState c.decls (control_run c body m).state

-- so does the update of calculated fields
abbrev pub UpdatesKeepStates : Type 0
UpdatesKeepStates = (ds : List Decl) (x : Expanded) (s : State) → IsState ds s → IsState ds (updated ds x s)

-- passes

-- the ends of ingress and of egress fit, and what is parsed again is held
pub record PassesFit (c : Setting) : Type 0 where
  pub ingress : (store : Contents) (came : QueueItem Preserved) → IsItem c.decls came → FitsIngressEnd c.decls (ingress14 c store came)
  pub reparse : (store : Contents) (came : QueueItem Preserved) → IsItem c.decls came → IsHeld c.decls (reparse14 c store came).answer
  pub egress :
      (store : Contents) (held : Held) (port kind : ℕ) → IsHeld c.decls held → IsPort port → kind < 2 ^ 32
      → FitsEgressEnd c.decls (egress14 c store held port kind)

-- that holds of each setting of the program
abbrev pub PassesKeepStates : Type 0
PassesKeepStates = (c : Setting) → BreaksNo c.decls → IsSetting c → FewTables c.decls → PassesFit c

-- numbers

-- the number of a field is below 2 ^ its width
abbrev pub NumbersFit : Type 0
NumbersFit = (ds : List Decl) (s : State) → IsState ds s → (slot : Slot) → read s slot < 2 ^ slot_bits ds slot

-- a field that is there has 1 to 128 bits
abbrev pub FieldsAreWide : Type 0
FieldsAreWide = (ds : List Decl) → BreaksNo ds → (slot : Slot) → SlotStands ds slot → IsWide (slot_bits ds slot)

-- arrival

-- parsing, a control and the update of calculated fields leave how the packet came here
pub record ArrivalStays (c : Setting) : Type 0 where
  pub parser : (s : State) → SameArrival s (parsed c.decls s).state
  pub control : (body : Stmt) (m : Moment) → SameArrival m.state (control_run c body m).state
  pub update : (s : State) → SameArrival s (updated c.decls c.expanded s)

-- that holds of each program that breaks no rule
abbrev pub ArrivalIsKept : Type 0
ArrivalIsKept = (c : Setting) → BreaksNo c.decls → IsExpanded c.decls c.expanded → ArrivalStays c

-- no bound stops a walk through the parser's states
abbrev pub NoBoundStops : Type 0
NoBoundStops = (ds : List Decl) → BreaksNo ds → NeverStopped ds

-- expansion

-- the expanded action with this number is of primitives, which name what is there
pub record ActionStands (ds : List Decl) (x : Expanded) (n : ℕ) (parameters : ℕ) : Type 0 where
  pub primitives : AllByRecursion (IsPrimitiveOf ds parameters) (primitives_at x n)
  pub stand : AllByRecursion (λ i. PrimitiveStands ds x parameters (primitive_of ds x i)) (primitives_at x n)

-- each expanded action stands, an expanded list has items that are there, and no control is called any more
pub record ExpansionStands (ds : List Decl) (x : Expanded) (is : IsExpanded ds x) : Type 0 where
  pub actions_stand : (n : ℕ) (lt : n < length (actions ds)) → ActionStands ds x n (length (is.each_action n lt).action.parameters)
  pub lists_stand : (n : ℕ) (items : List Item) → items_at ds n ≡ Some items → AllByRecursion (ItemStands ds) (items_in_list x n)
  pub ingress : HasNoCall x.ingress
  pub egress : HasNoCall x.egress

-- that holds of each program that breaks no rule
abbrev pub ExpansionsStand : Type 0
ExpansionsStand = (ds : List Decl) (x : Expanded) → BreaksNo ds → (is : IsExpanded ds x) → ExpansionStands ds x is

-- tables

-- what fills a table fits its signature, and the call that is chosen for a packet fits its action
pub record TableFits (c : Setting) (t : Table) : Type 0 where
  pub fill : FitsFill (table_sig c.decls t) (fill_of c t)
  pub choice : (s : State) → IfSome (chosen c t (found c s t)) (FitsChosen c.decls t)

-- that holds of each declared table
abbrev pub TablesFit : Type 0
TablesFit = (c : Setting) → BreaksNo c.decls → IsSetting c → (name : Name) (t : Table) → table_of c.decls name ≡ Some t → TableFits c t
