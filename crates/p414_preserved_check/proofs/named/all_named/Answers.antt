use Rattle.std.proofs.Common.{flat_map, map, ap, ◌∙◌}
use Rattle.p414_syntax.specs.Arguments.{actions, invocations_of}
use Rattle.p414_preserved_check.specs.internal.Named.{named_by}
use Rattle.p414_preserved_check.proofs.NamedLists.{all_named}
use Rattle.p414_preserved_check.proofs.named.all_named.Goals as goal

pub returns : goal.returns
returns c = c.in_ok-found.ensures ∙ (ap (flat_map (named_by c.args.wanted)) (c.deref.ensures.value ∙ (c.in_ok-calls.ensures ∙ ap (λ ds. map invocations_of (actions ds)) c.decls.ensures)) ∙ all_named c.args.names.now c.args.wanted)
