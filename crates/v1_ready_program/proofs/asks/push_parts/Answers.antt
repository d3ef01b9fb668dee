use Rattle.std.proofs.Common.{length}
use Rattle.std.proofs.lemmas.Result.{on_ok_weaker}
use Rattle.v1_ready_program.specs.internal.Coded.{seen_ways}
use Rattle.v1_ready_program.proofs.asks.push_parts.Goals as goal

pub returns-in-Passed-clause-parts : goal.returns-in-Passed-clause-parts
returns-in-Passed-clause-parts c =
    rw c.in-Passed.is (on_ok_weaker c.fill_parts.result (λ f top. f (seen_ways c.args.ways.now)) c.fill_parts.ensures.asks)

pub returns-in-Passed-clause-within : goal.returns-in-Passed-clause-within
returns-in-Passed-clause-within c =
    on_ok_weaker c.fill_parts.result (λ f. f (length (seen_ways c.args.ways.now)) tt c.requires.asks) c.fill_parts.ensures.within

pub returns-in-Called-clause-parts : goal.returns-in-Called-clause-parts
returns-in-Called-clause-parts c = rw c.in-Called.is c.callee_parts.ensures.parts
