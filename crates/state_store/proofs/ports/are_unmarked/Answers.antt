use Rattle.std.proofs.Common.{arith, ◌≡◌, ◌∙◌, sym, true, false, drop, []}
use Rattle.std.proofs.lemmas.List.{drop_all}
use Rattle.state_store.proofs.Marks.{are_sessions_if, turn_refuses}
use Rattle.state_store.proofs.ports.are_unmarked.Goals as goal

pub returns-then-not-is_unmarked : goal.returns-then-not-is_unmarked
returns-then-not-is_unmarked c =
    are_sessions_if c.args.numbers c.args.sessions.now false c.requires
    (sym (turn_refuses c.loop-session.seen.items c.args.sessions.now c.loop-session.session-index _ (omega arith)
    (rw c.as_slice.ensures.value at (sym c.is_unmarked.ensures ∙ c.if-not-is_unmarked.true))) ∙ c.loop-session.invariant)

pub returns : goal.returns
returns c =
    let none : drop c.loop-session.session-index c.args.sessions.now ≡ [] = drop_all c.loop-session.session-index c.args.sessions.now (omega arith) in
    are_sessions_if c.args.numbers c.args.sessions.now true c.requires
    (rw none at c.loop-session.invariant)
