-- Laws of ingress and egress (this project's own; P4_14 1.0.5, "Packet Processing and Control Flow"; P4_16 1.2,
-- "Control blocks").
use Rattle.std.specs.Prelude.{Bool, None, codes, true, ℕ, ◌≡◌}
use Rattle.p414_sem.specs.Controls.{Setting as Setting14, control_run}
use Rattle.p414_sem.specs.Effects.{Moment as Moment14}
use Rattle.p414_syntax.specs.Tree.{Stmt}
use Rattle.v1_core.specs.Blocks.{control16}
use Rattle.v1_core.specs.Frames.{Moment}
use Rattle.v1_core.specs.Surroundings.{Setting}
use Rattle.v1_core.specs.Values.{a_number, member_in}
use Rattle.v1_core.specs.declared.block.Block.{Block}
use Rattle.lower_laws_base.specs.Context.{Aside, StateLayout}
use Rattle.lower_laws_controls.specs.Alike.{Level}
use Rattle.lower_laws_controls.specs.Blocks.{IsDropped}
use Rattle.lower_laws_controls.specs.Guards.{Fails}
use Rattle.lower_laws_controls.specs.Whole.{BlockIs}

-- A control that is written as asked does what the control of P4_14 does where nothing failed, and leaves the errors as they were.
abbrev pub ControlsDo : Type 0
ControlsDo =
    (g : StateLayout) (d : Setting14) (setting : Setting) (which : Block) (checks : Bool) (body : Stmt) → BlockIs g d setting which checks body →
    (aside : Aside) (m : Moment14) (n : Moment) → aside.error ≡ 0 → (checks ≡ true → aside.checksum ≡ 0) → Level g aside m n → Level g aside (control_run d body m) (control16 setting which n)

-- Where the parser or a checksum failed it drops the packet, and does nothing else.
abbrev pub FailuresDrop : Type 0
FailuresDrop =
    (g : StateLayout) (d : Setting14) (setting : Setting) (which : Block) (checks : Bool) (body : Stmt) → BlockIs g d setting which checks body →
    (n : Moment) (x : ℕ) → Fails checks n.frame → n.stopped ≡ None → member_in n.frame.standard (codes "egress_spec") ≡ a_number 9 x → IsDropped n (control16 setting which n)
