-- Fresh standard metadata.
use Rattle.lower_laws_base.specs.Types.{ZerosAlike}
use Rattle.std.proofs.Common.{◌≡◌, ℕ, ◌<◌, ◌^◌}
use Rattle.std.specs.Prelude.{codes}
use Rattle.p414_sem.specs.declared.standard.Standard.TheVariants.{IngressPort, EgressSpec, EgressPort, PacketLength, InstanceType}
use Rattle.p414_sem.specs.declared.standard.Standard.{Standard}
use Rattle.agreement_of_meanings.specs.Shown.{standard_word, standard_width}
use Rattle.p414_sem.specs.State.{standard_number, State, with_standard as with_standard14}
use Rattle.p416_syntax.specs.declared.program.Syntax16.{Syntax16}
use Rattle.p416_syntax.specs.BuiltIn.{standard}
use Rattle.p416_syntax.specs.Declarations.{layouts_of}
use Rattle.v1_core.specs.Values.{a_number, no_members, member_in, zero_value}
use Rattle.v1_core.specs.Frames.{Frame, with_standard}
use Rattle.v1_core.specs.Passes.{frame_of, fresh_standard}
use Rattle.lower_laws_base.specs.Context.{StateLayout}
use Rattle.lower_laws_passes.specs.Held.{StandardIs}
use Rattle.lower_laws_passes.proofs.Standards.{put_number}

-- the numbers that a pass begins with
abbrev pub with_numbers : State → ℕ → ℕ → ℕ → State
with_numbers s port octets kind =
    record s { ingress_port = port; egress_spec = 0; egress_port = 0; packet_length = octets; instance_type = kind }

module _ (g : StateLayout) (syntax : Syntax16) (zeros : ZerosAlike g syntax) (s : State) where
  abbrev zero_frame : Frame
  zero_frame = frame_of no_members no_members (zero_value (layouts_of syntax.decls) standard)

  zero_standard : StandardIs g (with_numbers s 0 0 0) 0 0 zero_frame.standard
  zero_standard = record { numbers = each; error_is = zeros.parser_error; checksum_is = zeros.checksum_error; members = zeros.standard_members } where
    each : (which : Standard) → member_in (zero_value (layouts_of syntax.decls) standard) (standard_word which) ≡ a_number (standard_width which) (standard_number (with_numbers s 0 0 0) which)
    each IngressPort = zeros.numbers IngressPort
    each EgressSpec = zeros.numbers EgressSpec
    each EgressPort = zeros.numbers EgressPort
    each PacketLength = zeros.numbers PacketLength
    each InstanceType = zeros.numbers InstanceType

  pub fresh_is : (port octets kind : ℕ) → port < 2 ^ 9 → octets < 2 ^ 32 → kind < 2 ^ 32 → StandardIs g (with_numbers s port octets kind) 0 0 (fresh_standard syntax port octets kind)
  fresh_is port octets kind port_fits octets_fit kind_fits =
      let s1 : State = with_standard14 (with_numbers s 0 0 0) InstanceType kind in
      let f1 : Frame = with_standard (codes "instance_type") (a_number 32 kind) zero_frame in
      let s2 : State = with_standard14 s1 PacketLength octets in
      let f2 : Frame = with_standard (codes "packet_length") (a_number 32 octets) f1 in
      put_number g s2 0 0 f2 IngressPort 9 port port_fits
      (put_number g s1 0 0 f1 PacketLength 32 octets octets_fit
      (put_number g (with_numbers s 0 0 0) 0 0 zero_frame InstanceType 32 kind kind_fits zero_standard))
