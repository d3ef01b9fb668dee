-- What passes ask of the controls of P4_16, over moments between blocks (this project's own; P4_14 1.0.5, "Packet
-- Processing and Control Flow", "Checksums and Hash-value Generators"; the blocks are those of `v1model.p4`,
-- `V1Switch`).
use Rattle.std.specs.Prelude.{◌≡◌, ℕ, true, false, None, codes}
use Rattle.p4x_bits.specs.BitLists.{bit}
use Rattle.p414_sem.specs.CalculatedFields.{fails_verification, updated}
use Rattle.p414_sem.specs.Effects.{Moment as Moment14}
use Rattle.p414_sem.specs.Controls.{Setting as Setting14, control_run}
use Rattle.v1_core.specs.declared.block.Block.TheVariants.{Verify, Ingress, Egress, Compute}
use Rattle.v1_core.specs.Values.{a_number, member_in}
use Rattle.v1_core.specs.Frames.{Moment}
use Rattle.v1_core.specs.Surroundings.{Setting}
use Rattle.v1_core.specs.Blocks.{control16}
use Rattle.lower_laws_base.specs.Context.{StateLayout, Aside}
use Rattle.lower_laws_controls.specs.Alike.{Level}
use Rattle.lower_laws_controls.specs.Guards.{Fails}
use Rattle.lower_laws_controls.specs.Blocks.{IsDropped}

-- `Level g` has no variables; what it says of the errors, of what was emitted and of the hit stays where `aside` stays.
pub record ControlsAlike (g : StateLayout) (c14 : Setting14) (c16 : Setting) : Type 0 where
  pub verify :
      (aside : Aside) (m : Moment14) (n : Moment) → aside.checksum ≡ 0 → Level g aside m n →
      Level g (record aside { checksum = bit (fails_verification c14.decls c14.expanded m.state) }) m (control16 c16 Verify n)
      × ((control16 c16 Verify n).frame.events ≡ n.frame.events)
  pub ingress :
      (aside : Aside) (m : Moment14) (n : Moment) → aside.error ≡ 0 → aside.checksum ≡ 0 → Level g aside m n →
      Level g aside (control_run c14 c14.expanded.ingress m) (control16 c16 Ingress n)
  pub egress :
      (aside : Aside) (m : Moment14) (n : Moment) → aside.error ≡ 0 → Level g aside m n →
      Level g aside (control_run c14 c14.expanded.egress m) (control16 c16 Egress n)
  pub failed_ingress :
      (n : Moment) (port : ℕ) → Fails true n.frame → n.stopped ≡ None → member_in n.frame.standard (codes "egress_spec") ≡ a_number 9 port →
      IsDropped n (control16 c16 Ingress n)
  pub failed_egress :
      (n : Moment) (port : ℕ) → Fails false n.frame → n.stopped ≡ None → member_in n.frame.standard (codes "egress_spec") ≡ a_number 9 port →
      IsDropped n (control16 c16 Egress n)
  pub compute :
      (aside : Aside) (m : Moment14) (n : Moment) → Level g aside m n →
      Level g aside (record m { state = updated c14.decls c14.expanded m.state }) (control16 c16 Compute n)
      × ((control16 c16 Compute n).frame.events ≡ n.frame.events)
