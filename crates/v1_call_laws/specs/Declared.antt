-- How the actions of a control are declared where its statements call them (P4_16 1.2, "Actions", "Name resolution").
use Rattle.std.specs.Prelude.{◌≡◌, ◌⊎◌, ℕ, false, List, [], ◌∷◌, ◌++◌, map, Some, IfSome}
use Rattle.p416_syntax.specs.declared.parts.Param.{Param}
use Rattle.p416_syntax.specs.declared.controls.Action16.{Action16}
use Rattle.p416_syntax.specs.declared.controls.Local.{Local}
use Rattle.p416_syntax.specs.declared.controls.Local.TheVariants as local
use Rattle.p416_syntax.specs.declared.controls.Control16.{Control16}
use Rattle.p416_syntax.specs.declared.program.Decl16.{Decl16}
use Rattle.p416_syntax.specs.declared.program.Syntax16.{Syntax16}
use Rattle.p416_syntax.specs.Tree.{Stmt16}
use Rattle.p416_syntax.specs.Names.{Name, repeats}
use Rattle.p416_syntax.specs.Scopes.{Sort, a_value, Known, Handed, an_action, Scope, sort_of}
use Rattle.p416_syntax.specs.Statements.{behind}
use Rattle.p416_syntax.specs.Declarations.{parameter_name, top_scope, control_scope, action_scope}
use Rattle.p416_syntax.specs.Breaks.{BreaksNone, program_rules}
use Rattle.v1_core.specs.declared.block.Block.{Block}
use Rattle.v1_core.specs.Blocks.{control_at}
use Rattle.v1_core.specs.Surroundings as meaning
use Rattle.v1_core.specs.Surroundings.{action_named}
use Rattle.v1_ready_statements.specs.Around.{Around, action_places, action_found}
use Rattle.v1_call_laws.specs.Handing.{AreHanded, NamesDiffer}

-- only names of variables and parameters stand in front of those of the block
abbrev pub IsValue : Sort → Type 0
IsValue (a_value k can) = Unit {0}
IsValue sort = ⊥

abbrev pub AreValues : List Known → Type 0
AreValues [] = Unit {0}
AreValues (k ∷ ks) = IsValue k.sort × AreValues ks

pub record IsWithin (block s : Scope) : Type 0 where
  pub front : List Known
  pub names : s.names ≡ front ++ block.names
  pub values : AreValues front

-- so within actions and behind statements
abbrev pub ScopesWithin : Type 0
ScopesWithin =
    (block : Scope) → IsWithin block block × ((a : Action16) → IsWithin block (action_scope block a))
    × ((s : Scope) (x : Stmt16) → IsWithin block s → IsWithin block (behind x s))

abbrev pub IsAmong : Action16 → List Local → Type 0
IsAmong a [] = ⊥
IsAmong a (x ∷ locals) = (x ≡ local.Action a) ⊎ IsAmong a locals

-- what is called by a name is the first action with this name, and takes what it declares
abbrev pub ActionsDeclared : Type 0
ActionsDeclared =
    (b : Around) (w : meaning.World) (ds : List Decl16) (positions : List ℕ) (c : Control16) (n : ℕ) (s : Scope) (text plane : Name)
    (hs : List Handed) →
    w.around.scope ≡ control_scope (top_scope ds positions) c → w.around.locals ≡ c.locals →
    b.actions ≡ action_places (control_scope (top_scope ds positions) c) n c.locals →
    IsWithin (control_scope (top_scope ds positions) c) s → sort_of s text ≡ an_action plane hs →
    IfSome (action_found b text)
    (λ f. (action_named w.around text ≡ Some f.place.of) × AreHanded s w.around.scope hs f.place.of.parameters × IsAmong f.place.of c.locals)

-- parameters whose names don't repeat differ (T1)
abbrev pub ParametersDiffer : Type 0
ParametersDiffer = (ps : List Param) → repeats (map parameter_name ps) ≡ false → NamesDiffer ps

-- so do those of all actions of a program
abbrev pub DistinctParameters : Type 0
DistinctParameters =
    (syntax : Syntax16) (block : Block) (c : Control16) (a : Action16) → BreaksNone syntax program_rules →
    control_at syntax block ≡ Some c → IsAmong a c.locals → NamesDiffer a.parameters
