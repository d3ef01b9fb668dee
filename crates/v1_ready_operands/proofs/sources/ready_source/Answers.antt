use Rattle.std.proofs.Common.{◌≡◌, [], ◌∷◌, sym, ap, subst, ◌∙◌}
use Rattle.name_numbers.specs.Names.{find_name}
use Rattle.p416_scopes.specs.Seen.{seen_scope}
use Rattle.v1_ready_program.specs.Seen.{seen_seats}
use Rattle.v1_ready_statements.specs.Tested.{ready_source}
use Rattle.v1_ready_operands.specs.internal.Coded.{seen_source, seen_sources, AreSourcesIn}
use Rattle.v1_ready_operands.proofs.sources.ready_source.Goals as goal

pub returns-in-Some-clause-source : goal.returns-in-Some-clause-source
returns-in-Some-clause-source c =
    let h = c.sources_of.new.nodes in
    let all : seen_source h c.in-Some.source ∷ seen_sources h c.pop.new.self ≡ ready_source (seen_scope c.args.around.scope.now) (seen_seats c.args.around.seats.now) (find_name c.args.tables.now) c.args.expression.now ∷ [] =
    sym (ap (seen_sources h) c.in-Some.ensures) ∙ c.in_ok-sources.ensures.sources in
    cc all

pub returns-in-Some-clause-within : goal.returns-in-Some-clause-within
returns-in-Some-clause-within c = (subst (AreSourcesIn c.sources_of.new.nodes) c.in-Some.ensures c.in_ok-sources.ensures.within).0
