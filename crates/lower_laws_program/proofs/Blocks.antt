-- What passes ask of the controls.
use Rattle.std.proofs.Common.{inl, inr, refl}
use Rattle.p414_sem.specs.declared.standard.Standard.TheVariants.{EgressSpec}
use Rattle.p414_sem.specs.Controls.{Setting as Setting14}
use Rattle.v1_core.specs.Frames.{Moment}
use Rattle.v1_core.specs.Surroundings.{Setting}
use Rattle.lower_laws_base.specs.Context.{StateLayout}
use Rattle.lower_laws_base.specs.Between.{between, quiet, Idle}
use Rattle.lower_laws_base.specs.Blocks.{VerifyAlike, IngressAlike, EgressAlike, ComputeAlike, IngressIdle, EgressIdle}
use Rattle.lower_laws_controls.specs.Blocks.{IsDropped}
use Rattle.lower_laws_sums.specs.Alike.{ControlsAlike}

is_idle : (m r : Moment) → IsDropped m r → Idle m r
is_idle m r dropped = record { store = dropped.store; events = dropped.events; requests = dropped.requests; port = dropped.port }

module _ (g : StateLayout) (c14 : Setting14) (c16 : Setting) (alike : ControlsAlike (between g) c14 c16) where
  pub verify : VerifyAlike g c14 c16
  verify x m beside = (alike.verify (quiet 0 0) x m refl beside).0

  pub ingress : IngressAlike g c14 c16
  ingress x m beside = alike.ingress (quiet 0 0) x m refl refl beside

  pub egress : EgressAlike g c14 c16
  egress x m beside = alike.egress (quiet 0 0) x m refl beside

  pub compute : ComputeAlike g c14 c16
  compute x m beside = alike.compute (quiet 0 0) x m beside

  pub failed_ingress : IngressIdle c16
  failed_ingress m runs any (inl fails) = let port = any.numbers EgressSpec in is_idle m _ (alike.failed_ingress m port.0 (inl fails) runs port.1)
  failed_ingress m runs any (inr fails) = let port = any.numbers EgressSpec in is_idle m _ (alike.failed_ingress m port.0 (inr (refl, fails)) runs port.1)

  pub failed_egress : EgressIdle c16
  failed_egress m runs any n fails = let port = any.numbers EgressSpec in is_idle m _ (alike.failed_egress m port.0 (inl (n, fails)) runs port.1)
