use Rattle.std.proofs.Common.{sym, ap, ◌∙◌}
use Rattle.p416_syntax.specs.Conditions.{is_call}
use Rattle.p416_reader.specs.internal.Actions.{first_exp}
use Rattle.p416_reader.specs.internal.Forest.{Rooted}
use Rattle.p416_reader.proofs.Newest.{newest_below, newest_exp}
use Rattle.p416_reader.proofs.forest.Forest.is_call.Goals as goal

pub is_call_at-requires : goal.is_call_at-requires
is_call_at-requires c = newest_below _ _ _ c.self.invariant.exps_below c.in-Some.ensures

pub returns-in-Some : goal.returns-in-Some
returns-in-Some c =
    c.is_call_at.ensures ∙ ap is_call (sym (newest_exp c.self.inside.nodes.exps _ _ c.in-Some.ensures) ∙ ap (λ (r : Rooted). first_exp r.trees.exps) c.self.view_is)
