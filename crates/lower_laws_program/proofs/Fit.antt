-- The laws of the controls are what a translation asks for.
use Rattle.p414_sem.specs.Controls.{Setting as Setting14}
use Rattle.v1_core.specs.Surroundings.{Setting}
use Rattle.v1_core.specs.declared.block.Block.TheVariants.{Verify, Ingress, Egress, Compute}
use Rattle.std.specs.Prelude.{true, false}
use Rattle.lower_laws_base.specs.Context.{StateLayout}
use Rattle.lower_laws_base.specs.Between.{between}
use Rattle.lower_laws_sums.proofs.Blocks.{controls_alike}
use Rattle.lower_laws_program.specs.Fits.{ControlsFit}
use Rattle.lower_laws_program.proofs.Blocks.{verify, ingress, egress, compute, failed_ingress, failed_egress}
use Rattle.lower_laws_controls.specs.Whole.{BlockIs}
use Rattle.lower_laws_sums.specs.Whole.{SumsAre}

pub controls_fit : (g : StateLayout) (c14 : Setting14) (c16 : Setting) → SumsAre (between g) c14.decls c14.expanded c16 Verify false → BlockIs (between g) c14 c16 Ingress true c14.expanded.ingress → BlockIs (between g) c14 c16 Egress false c14.expanded.egress → SumsAre (between g) c14.decls c14.expanded c16 Compute true → ControlsFit g c14 c16
controls_fit g c14 c16 a b d e =
    let alike = controls_alike (between g) c14 c16 a b d e in
    record {
      verify = verify g c14 c16 alike;
      ingress = ingress g c14 c16 alike;
      egress = egress g c14 c16 alike;
      failed_ingress = failed_ingress g c14 c16 alike;
      failed_egress = failed_egress g c14 c16 alike;
      compute = compute g c14 c16 alike;
    }
