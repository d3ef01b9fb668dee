-- what was sent and cut, and what is left
use Rattle.std.proofs.Common.{◌≡◌, ◌++◌, ◌+◌, ◌%◌, ◌^◌, drop}
use Rattle.fabric.specs.Fabric.{fabric_from}
use Rattle.fabric.proofs.arrivals.serve_all.Given as goal

abbrev pub invariant-loop-number : goal.invariant-loop-number
invariant-loop-number g l =
    let before = g.P.Passes.setting l.fn.passes in
    let rest = fabric_from (g.P.Passes.machine before) l.sessions l.bound l.number (g.P.Passes.state l.passes) (drop l.number l.arrivals) in
    let all = fabric_from (g.P.Passes.machine before) l.sessions l.bound 0 (g.P.Passes.state l.fn.passes) l.arrivals in
    record {
      setting : g.P.Passes.setting l.passes ≡ before;
      sent : l.sent ++ rest.sent ≡ all.sent;
      cut : (l.cut + rest.cut) % 2 ^ 64 ≡ all.cut % 2 ^ 64;
      state : rest.state ≡ all.state;
    }
