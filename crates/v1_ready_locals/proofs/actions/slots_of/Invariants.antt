use Rattle.std.proofs.Common.{◌≡◌, All, drop}
use Rattle.v1_ready_blocks.specs.Nodes.{IsSlot}
use Rattle.v1_ready_statements.specs.Blocks.{slots_from}
use Rattle.v1_ready_bodies.specs.Fronts.{in_front}
use Rattle.v1_ready_locals.proofs.actions.slots_of.Given as goal

abbrev pub invariant-loop-parameter : goal.invariant-loop-parameter
invariant-loop-parameter g l = record {
  slots : in_front l.slots (slots_from (g.S.Singles.block l.singles) l.number (drop l._parameter-index l.parameters)) ≡ slots_from (g.S.Singles.block l.singles) l.fn.first l.parameters;
  within : All (IsSlot l.layout) l.slots;
}
