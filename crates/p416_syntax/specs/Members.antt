-- The members of the enumerations of `v1model.p4` that declarations name, with their texts (which there are is this
-- project's own).
use Rattle.std.specs.Prelude.{ℕ, List, codes}
use Rattle.p416_syntax.specs.declared.parts.HashAlgorithm.{HashAlgorithm}
use Rattle.p416_syntax.specs.declared.parts.HashAlgorithm.TheVariants as hash
use Rattle.p416_syntax.specs.declared.parts.CounterType.{CounterType}
use Rattle.p416_syntax.specs.declared.parts.CounterType.TheVariants as counter
use Rattle.p416_syntax.specs.declared.parts.MeterType.{MeterType}
use Rattle.p416_syntax.specs.declared.parts.MeterType.TheVariants as meter
use Rattle.p416_syntax.specs.declared.parts.CloneType.{CloneType}
use Rattle.p416_syntax.specs.declared.parts.CloneType.TheVariants as clone
use Rattle.p416_syntax.specs.declared.parts.Member.{Member}
use Rattle.p416_syntax.specs.declared.parts.Member.TheVariants as member

-- the name of the enumeration
abbrev pub enumeration_text : Member → List ℕ
enumeration_text (member.HashAlgorithm m) = codes "HashAlgorithm"
enumeration_text (member.CounterType m) = codes "CounterType"
enumeration_text (member.MeterType m) = codes "MeterType"
enumeration_text (member.CloneType m) = codes "CloneType"

abbrev pub hash_text : HashAlgorithm → List ℕ
hash_text hash.Csum16 = codes "csum16"
hash_text hash.Crc16 = codes "crc16"
hash_text hash.Crc32 = codes "crc32"
hash_text hash.Identity = codes "identity"

abbrev pub counter_text : CounterType → List ℕ
counter_text counter.Packets = codes "packets"
counter_text counter.Bytes = codes "bytes"
counter_text counter.PacketsAndBytes = codes "packets_and_bytes"

abbrev pub meter_text : MeterType → List ℕ
meter_text meter.Packets = codes "packets"
meter_text meter.Bytes = codes "bytes"

abbrev pub clone_text : CloneType → List ℕ
clone_text clone.I2E = codes "I2E"
clone_text clone.E2E = codes "E2E"

-- the name of the member
abbrev pub member_text : Member → List ℕ
member_text (member.HashAlgorithm m) = hash_text m
member_text (member.CounterType m) = counter_text m
member_text (member.MeterType m) = meter_text m
member_text (member.CloneType m) = clone_text m
