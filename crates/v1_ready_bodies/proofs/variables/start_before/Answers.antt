use Rattle.std.proofs.lemmas.Result.{IfOk-weaker}
use Rattle.std.proofs.Common.{ap, ◌∙◌}
use Rattle.p416_scopes.specs.Seen.{seen_scope}
use Rattle.v1_ready_blocks.specs.Statements.{sequence}
use Rattle.v1_ready_statements.specs.Statements.{both_ready, start_ready}
use Rattle.v1_ready_bodies.specs.Seen.{seen_statement}
use Rattle.v1_ready_bodies.proofs.Keeping.{one_kept}
use Rattle.v1_ready_bodies.proofs.variables.start_before.Goals as goal

pub returns-clause-statement : goal.returns-clause-statement
returns-clause-statement g c =
    let b = g.S.Singles.block c.args.singles.now in
    let s = c.args.standing.now in
    let n = c.args.number in
    IfOk-weaker c.put_sequence.result _ _
    (λ x is. is
    ∙ (ap (λ y. both_ready sequence y (seen_statement c.start.new.nodes c.args.rest)) (c.in_ok-start.ensures.statement ∙ ap (λ y. start_ready b (seen_scope y) n) c.around.ensures.scope)
    ∙ ap (both_ready sequence (start_ready b (seen_scope s.scope) n)) (one_kept c.args.nodes.now c.start.new.nodes c.in_ok-start.ensures.grows c.args.rest c.requires.rest)))
    c.put_sequence.ensures.statement
