use Rattle.std.proofs.Common.{◌≡◌, map, take, flat_map}
use Rattle.program_commands.specs.Lines.{instance_line}
use Rattle.program_commands.proofs.headers.instance_lines.Given as goal

abbrev pub invariant-loop-number : goal.invariant-loop-number
invariant-loop-number l = l.lines ≡ flat_map (instance_line (map (λ name. name.now) l.names.items)) (take l.number-index l.order)
