-- What an application of a table comes to (P4_14 1.0.5, "Packet Processing and Control Flow").
use Rattle.std.specs.Prelude.{◌≡◌, ℕ, List, Option, Some, None}
use Rattle.p414_syntax.specs.declared.syntax.Decl.{Decl}
use Rattle.p414_syntax.specs.Names.{Name}
use Rattle.p414_syntax.specs.Arguments.{action_number}
use Rattle.p414_sem.specs.Effects.{Moment}
use Rattle.p414_sem.specs.Controls.{Applied}
use Rattle.p414_ready_tables.specs.declared.applied.ReadyApplied.{ReadyApplied}

-- an action by its number, in the order of declaration, is the one with this name
abbrev pub IsNamed : List Decl → Option ℕ → Option Name → Type 0
IsNamed ds None None = Unit {0}
IsNamed ds (Some number) (Some name) = action_number ds name ≡ Some number
IsNamed ds _ _ = ⊥

-- an application came to this, and left this moment
pub record IsApplied (ds : List Decl) (a : ReadyApplied) (left : Moment) (due : Applied) : Type 0 where
  pub hit : a.hit ≡ due.hit
  pub action : IsNamed ds a.action due.action
  pub moment : left ≡ due.moment
