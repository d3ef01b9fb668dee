use Rattle.std.proofs.Common.{◌≡◌, ◌∙◌, [], ap, map, flat_map}
use Rattle.p414_syntax.specs.Arguments.{actions, invocations_of}
use Rattle.lower_names.specs.Picked.{with_all}
use Rattle.lower_marks.specs.Preserving.{lists_by}
use Rattle.lower_marks.proofs.Listing.{all_listed}
use Rattle.lower_marks.proofs.listed.all_listed.Goals as goal

pub returns : goal.returns
returns c =
    c.in_ok-known.ensures
    ∙ ap (with_all [])
    (ap (flat_map lists_by) (c.deref.ensures.value ∙ (c.in_ok-calls.ensures ∙ ap (λ ds. map invocations_of (actions ds)) c.decls.ensures))
    ∙ all_listed c.args.names.now)
