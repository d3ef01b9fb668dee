use Rattle.std.proofs.Common.{◌≡◌, map, drop}
use Rattle.v1_ready_statements.specs.Blocks.{all_of}
use Rattle.v1_ready_bodies.specs.Fronts.{in_front}
use Rattle.v1_ready_tables.specs.internal.Listed.{seen_listed, number_among}
use Rattle.v1_ready_tables.proofs.actions.numbers_with.Given as goal

abbrev pub invariant-loop-name : goal.invariant-loop-name
invariant-loop-name l =
    in_front l.numbers (all_of (λ name. number_among l.actions (map seen_listed l.rows) l.names name.now) (drop l.name-index l.ordered))
    ≡ all_of (λ name. number_among l.actions (map seen_listed l.rows) l.names name.now) l.ordered
