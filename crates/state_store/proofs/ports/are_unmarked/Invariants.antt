use Rattle.std.proofs.Common.{◌≡◌, drop, replicate, false}
use Rattle.state_store.specs.internal.Marks.{are_unmarked}
use Rattle.state_store.proofs.ports.are_unmarked.Given as goal

abbrev pub invariant-loop-session : goal.invariant-loop-session
invariant-loop-session l = are_unmarked l.seen.items (drop l.session-index l.sessions) ≡ are_unmarked (replicate l.fn.numbers false) l.sessions
