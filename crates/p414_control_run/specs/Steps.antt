-- What running a piece of what is still to be run comes to (P4_14 1.0.5, "Packet Processing and Control Flow"): the layout of the state
-- and the shapes of the store stay, and what is left leads on to where all led to.
use Rattle.std.specs.Prelude.{◌≡◌, ℕ, List, Option}
use Rattle.state_store.specs.State.{Contents}
use Rattle.p414_syntax.specs.Names.{Name}
use Rattle.p414_sem.specs.Controls.{applied}
use Rattle.p414_sem.specs.Effects.{Moment}
use Rattle.p414_sem.specs.Expanded.{Expanded, IsExpanded}
use Rattle.p414_state.specs.Packets.{Packet}
use Rattle.p414_act_run.specs.Moments.{moment}
use Rattle.p414_ready_controls.specs.declared.nodes.ControlNode.{ControlNode}
use Rattle.p414_ready_controls.specs.Nodes.{control_nodes, table_place}
use Rattle.p414_ready_tables.specs.declared.applied.ReadyApplied.{ReadyApplied}
use Rattle.p414_ready_tables.specs.Applied.{IsApplied}
use Rattle.p414_ready_tables.specs.Loaded.{Loaded, setting}
use Rattle.p414_control_run.specs.declared.taken.Taken.{Taken}
use Rattle.p414_control_run.specs.Leads.{Left, Leads, FrontLeads}

-- an application of the table with a number came to this, and left this moment
abbrev pub Applies : Loaded → ℕ → ReadyApplied → Moment → Moment → Type 0
Applies c number a m left =
    (x : Expanded) → IsExpanded c.decls x → (name : Name) → number ≡ table_place c.decls name
    → IsApplied c.decls a left (applied (setting c x) name m)

pub record GoesOn (c : Loaded) (old new : List Left) (p q : Packet) (before behind : Contents) : Type 0 where
  pub layout : q.layout ≡ p.layout
  pub shapes : behind.shapes ≡ before.shapes
  pub leads : (x : Expanded) → IsExpanded c.decls x → (due : Moment) → Leads (setting c x) old (moment p before) due → Leads (setting c x) new (moment q behind) due

-- the same where this node was in front, with these behind it
pub record PassesOn (c : Loaded) (t : Option Taken) (n : ControlNode) (rest : List ControlNode) (old new : List Left) (p q : Packet) (before behind : Contents) : Type 0 where
  pub layout : q.layout ≡ p.layout
  pub shapes : behind.shapes ≡ before.shapes
  pub leads : (x : Expanded) → IsExpanded c.decls x → (due : Moment) → FrontLeads (setting c x) (control_nodes c.decls) t n rest old (moment p before) due → Leads (setting c x) new (moment q behind) due
