use Rattle.std.proofs.Common.{◌≡◌, drop}
use Rattle.p414_passes.specs.Begun.{all_put_from}
use Rattle.p414_passes.proofs.begin.put_kept.Given as goal

abbrev pub invariant-loop-place : goal.invariant-loop-place
invariant-loop-place l = record {
  layout : l.state.layout ≡ l.fn.state.layout;
  put : all_put_from l.fn.state.layout l.place (drop l.place l.sets) l.state.state ≡ all_put_from l.fn.state.layout 0 l.sets l.fn.state.state;
}
