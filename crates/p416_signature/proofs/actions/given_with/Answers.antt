use Rattle.std.proofs.Common.{map, option_map}
use Rattle.p416_syntax.specs.Scopes.{handed}
use Rattle.p416_signature.specs.internal.Gathered.{seen_listed}
use Rattle.p416_signature.proofs.Acting.{given_found}
use Rattle.p416_signature.proofs.actions.given_with.Goals as goal

pub returns : goal.returns
returns c top =
    given_found (map (seen_listed top) c.args.rows.now) c.args.names.now c.args.name.now (option_map (seen_listed top) c.row_with.result) (map (handed top) c.given_in.result.now)
    (c.row_with.ensures top) (c.given_in.ensures top)
