use Rattle.std.proofs.Common.{◌∙◌}
use Rattle.p416_typing.specs.Seen.{seen_row}
use Rattle.p416_typing.proofs.Stacked.{argument_known}
use Rattle.p416_typing.proofs.parts.argument_row.Goals as goal

pub returns : goal.returns
returns c =
    λ top. c.list_row.ensures top ∙ argument_known _ _ (seen_row top c.args.before) (seen_row top c.args.last) c.in_ok-count.ensures (c.first_of.ensures top)
