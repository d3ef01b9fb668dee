use Rattle.std.proofs.Common.{◌≡◌, map, take}
use Rattle.v1_block_tables.specs.Parts.{key_at}
use Rattle.v1_block_tables.proofs.keys.fill_key.Given as goal

abbrev pub invariant-loop-place : goal.invariant-loop-place
invariant-loop-place l = l.key ≡ map (key_at l.code l.frame l.unparsed) (take l.place-index l.places)
