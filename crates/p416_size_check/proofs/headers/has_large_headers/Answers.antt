use Rattle.p416_names.specs.SeenKinds.{seen_kind}
use Rattle.p416_size_check.proofs.Capped.{large_headers}
use Rattle.p416_size_check.proofs.headers.has_large_headers.Goals as goal

pub returns : goal.returns
returns c = λ s same e f. large_headers c.args.totals.now (seen_kind c.args.headers) (seen_kind c.args.metadata) s c.are_too_large.result same e f c.are_too_large.ensures
