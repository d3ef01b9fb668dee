use Rattle.std.proofs.Common.{◌≡◌, ◌+◌, map, drop}
use Rattle.std.specs.Prelude.{fold}
use Rattle.p414_ready_parser.specs.Rows.{key_bits, part_width}
use Rattle.lower_parser.proofs.keys.key_bits.Given as goal

abbrev pub invariant-loop-part : goal.invariant-loop-part
invariant-loop-part l = fold (λ a x. a + x) l.total (map part_width (drop l.part-index l.parts)) ≡ key_bits l.parts
