use Rattle.std.proofs.Common.{◌≡◌, drop}
use Rattle.p414_passes.specs.Begun.{written_from}
use Rattle.p414_passes.proofs.begin.write_numbers.Given as goal

abbrev pub invariant-loop-place : goal.invariant-loop-place
invariant-loop-place l = record {
  layout : l.state.layout ≡ l.fn.state.layout;
  written : written_from l.instance l.place (drop l.place l.numbers) l.state.state ≡ written_from l.instance 0 l.numbers l.fn.state.state;
}
