use Rattle.std.proofs.Common.{◌≡◌, ◌+◌, ◌*◌, ◌^◌, ◌≤◌, drop, Some}
use Rattle.std.specs.List.{fold}
use Rattle.p414_ready_parser.specs.Rows.{key_bits}
use Rattle.p414_ready_parser.specs.Running.{join_part, ready_key}
use Rattle.p414_parse_run.proofs.selects.key.Given as goal

abbrev pub invariant-loop-part : goal.invariant-loop-part
invariant-loop-part l = record {
  few : key_bits (drop l.part-index l.parts) ≤ 128;
  room : (l.front + 1) * 2 ^ key_bits (drop l.part-index l.parts) ≤ 2 ^ 128;
  joined : fold (join_part l.element l.state.state) (Some l.front) (drop l.part-index l.parts) ≡ ready_key l.element l.state.state l.parts;
}
