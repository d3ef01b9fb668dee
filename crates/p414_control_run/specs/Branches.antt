-- Which of the branches behind an application runs (P4_14 1.0.5, "Packet Processing and Control Flow"), with actions by number.
use Rattle.std.specs.Prelude.{◌≡◌, ℕ, Bool, false, not, ◌==◌, List, Option, Some, None}
use Rattle.std.specs.List.{list_any}
use Rattle.p414_syntax.specs.declared.syntax.Decl.{Decl}
use Rattle.p414_sem.specs.Controls.{Applied}
use Rattle.p414_ready_controls.specs.declared.nodes.ReadyLabel.{ReadyLabel}
use Rattle.p414_ready_controls.specs.declared.nodes.ReadyLabel.TheVariants as label
use Rattle.p414_ready_tables.specs.Applied.{IsNamed}
use Rattle.p414_control_run.specs.declared.taken.Taken.{Taken}

abbrev pub is_action : Option ℕ → Option ℕ → Bool
is_action (Some ran) (Some named) = ran == named
is_action _ _ = false

abbrev pub is_among : Option ℕ → List ℕ → Bool
is_among None named = false
is_among (Some ran) named = list_any (λ (n : ℕ). ran == n) named

-- the block with this label runs
abbrev pub takes : Taken → ReadyLabel → Bool
takes t label.Hit = t.hit
takes t label.Miss = not t.hit
takes t label.Default = not t.named
takes t (label.Action named) = is_action t.action named

-- outside of branches no block runs by its label
abbrev pub takes_label : Option Taken → ReadyLabel → Bool
takes_label None l = false
takes_label (Some t) l = takes t l

-- what was taken of an application: whether it hit, the action that ran, and whether it is among those that branches name
pub record IsTaken (ds : List Decl) (named : List ℕ) (a : Applied) (t : Taken) : Type 0 where
  pub hit : t.hit ≡ a.hit
  pub action : IsNamed ds t.action a.action
  pub among : t.named ≡ is_among t.action named
