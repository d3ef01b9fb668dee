use Rattle.std.proofs.Common.{rules, [], ◌∷◌, ◌++◌, ap, ◌∙◌}
use Rattle.p414_reader.proofs.LabelSets.{one_more}
use Rattle.p414_reader.proofs.labels.Labels.with.Goals as goal

pub invariant_of-result : goal.invariant_of-result
invariant_of-result c =
    one_more _ c.self.invariant (c.in_ok-push.ensures.ok ∙ ap (λ t. c.self.inside.texts ++ t ∷ []) c.in_ok-from_slice.ensures) c.in_ok-from_slice-2.ensures.items c.in_ok-insert.ensures.keys
    (search (rules, c.if-has_outcome.branch, c.is_outcome-is_outcome.ensures)) (search (rules, c.if-has_other.branch, c.is_outcome-is_outcome.ensures))
