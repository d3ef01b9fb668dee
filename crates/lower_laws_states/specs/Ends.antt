-- What a pass hands on fits: held values and preserved sets of the program, and octets, ports and sessions within their
-- bounds (P4_14 1.0.5, "Packet Processing and Control Flow", "Clone", "Resubmit", "Recirculate", "Deparsing"; the
-- definitions and the bounds are this project's own).
use Rattle.std.specs.Prelude.{List, ◌<◌, ◌^◌, All, IfSome}
use Rattle.p4x_bits.specs.BitLists.{IsOctets}
use Rattle.state_store.specs.Ports.{IsPort}
use Rattle.fabric.specs.declared.items.IngressEnd.{IngressEnd}
use Rattle.fabric.specs.declared.items.IngressNext.{IngressNext}
use Rattle.fabric.specs.declared.items.IngressNext.TheVariants as after_ingress
use Rattle.fabric.specs.declared.items.EgressEnd.{EgressEnd}
use Rattle.fabric.specs.declared.items.EgressNext.{EgressNext}
use Rattle.fabric.specs.declared.items.EgressNext.TheVariants as after_egress
use Rattle.p414_syntax.specs.declared.syntax.Decl.{Decl}
use Rattle.p414_sem.specs.Fitting.{IsHeld, IsPreserved, FitsEvent}
use Rattle.p414_sem.specs.Passes.{Preserved, Held, Ended}

-- where ingress leads: back with a preserved set, to nothing, or to a port with a held packet
abbrev pub FitsNext : List Decl → IngressNext Preserved Held → Type 0
FitsNext ds (after_ingress.Resubmit q) = IsPreserved ds q
FitsNext ds after_ingress.Drop = Unit {0}
FitsNext ds (after_ingress.Go port held) = IsPort port × IsHeld ds held

-- the end of ingress: its clone has a session of 32 bits and a preserved set, and its events fit
pub record FitsIngressEnd (ds : List Decl) (e : Ended (IngressEnd Preserved Held)) : Type 0 where
  pub clone : IfSome e.answer.clone (λ c. (c.0 < 2 ^ 32) × IsPreserved ds c.1)
  pub next : FitsNext ds e.answer.next
  pub events : All FitsEvent e.events

-- where egress leads: to nothing, back with octets and a preserved set, or out with octets
abbrev pub FitsLeaving : List Decl → EgressNext Preserved → Type 0
FitsLeaving ds after_egress.Drop = Unit {0}
FitsLeaving ds (after_egress.Recirculate octets q) = IsOctets octets × IsPreserved ds q
FitsLeaving ds (after_egress.Send octets) = IsOctets octets

-- the end of egress: its clone has a session of 32 bits and a held packet, and its events fit
pub record FitsEgressEnd (ds : List Decl) (e : Ended (EgressEnd Preserved Held)) : Type 0 where
  pub clone : IfSome e.answer.clone (λ c. (c.0 < 2 ^ 32) × IsHeld ds c.1)
  pub end : FitsLeaving ds e.answer.end
  pub events : All FitsEvent e.events
