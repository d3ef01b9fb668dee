-- What stands around the statements of a block: the program with what fills its tables, what names mean there, what an
-- action's body does, and what applying a table does (P4_16 1.2, "Name resolution", "Calling convention: call by copy
-- in/copy out"; `v1model.p4`, the parameters of the blocks).
use Rattle.std.specs.Prelude.{Bool, false, if◌then◌else◌, List, [], ◌∷◌, filter_map, Option, Some, None}
use Rattle.std.specs.Str.{bytes_eq}
use Rattle.match_core.specs.declared.entries.Entries.{Entries}
use Rattle.p416_syntax.specs.declared.controls.Action16.{Action16}
use Rattle.p416_syntax.specs.declared.controls.Table16.{Table16}
use Rattle.p416_syntax.specs.declared.controls.Local.{Local}
use Rattle.p416_syntax.specs.declared.program.Syntax16.{Syntax16}
use Rattle.p416_syntax.specs.Names.{Name}
use Rattle.p416_syntax.specs.Scopes.{Scope}
use Rattle.p416_syntax.specs.Declarations.{action_in, table_in}
use Rattle.v1_core.specs.Values.{has_member, to_member}
use Rattle.v1_core.specs.Frames.{Frame, Moment, Owner, of_variables, of_inner, Reference, whole, stepped}

pub record Setting : Type 0 where
  pub syntax : Syntax16
  pub entries : Entries

-- a parameter of a block, and which of the packet's values it names
pub record Root : Type 0 where
  pub called : Name
  pub owner : Owner

abbrev pub rooted : List Name → List Owner → List Root
rooted (called ∷ names) (owner ∷ owners) = record { called = called; owner = owner } ∷ rooted names owners
rooted _ _ = []

-- a block: its scope, its parameters, and what a control declares; for a parser nothing, since its variables and its states
-- are handed over by themselves
pub record Surroundings : Type 0 where
  pub setting : Setting
  pub scope : Scope
  pub roots : List Root
  pub locals : List Local

-- what an application of a table tells, and what it leaves; of the action that ran the name, if one ran
pub record Applied : Type 0 where
  pub hit : Bool
  pub action : Option Name
  pub moment : Moment

-- Actions and tables are told of as functions: their meaning stands on that of statements.
pub record World : Type 0 where
  pub around : Surroundings
  -- the body of an action, whose parameters stand among the inner variables
  pub act : Action16 → Moment → Moment
  -- the application of the table with a name
  pub apply : Name → Moment → Applied

-- no table is applied: so in actions, in keys and in parsers
abbrev pub no_table_applies : Name → Moment → Applied
no_table_applies text m = record { hit = false; action = None; moment = m }

-- no action is called: so in parsers, and in keys
abbrev pub no_action_runs : Action16 → Moment → Moment
no_action_runs a m = m

abbrev pub quiet_world : Surroundings → World
quiet_world b = record { around = b; act = no_action_runs; apply = no_table_applies }

-- which of the frame's values a name means: a variable of the statements or a parameter of the action that runs, then a
-- parameter of the block, then a variable of the block

abbrev pub by_root : List Root → Name → Reference
by_root [] text = stepped (whole of_variables) (to_member text)
by_root (r ∷ rest) text = if bytes_eq r.called text then whole r.owner else by_root rest text

abbrev pub named : Surroundings → Frame → Name → Reference
named b f text =
    if has_member f.inner text then stepped (whole of_inner) (to_member text) else by_root b.roots text

-- of a control the action with a name, and the table with a name

abbrev pub action_called : List Action16 → Name → Option Action16
action_called [] text = None
action_called (a ∷ rest) text = if bytes_eq a.name text then Some a else action_called rest text

abbrev pub table_called : List Table16 → Name → Option Table16
table_called [] text = None
table_called (t ∷ rest) text = if bytes_eq t.name text then Some t else table_called rest text

abbrev pub action_named : Surroundings → Name → Option Action16
action_named b text = action_called (filter_map action_in b.locals) text

abbrev pub table_named : Surroundings → Name → Option Table16
table_named b text = table_called (filter_map table_in b.locals) text
