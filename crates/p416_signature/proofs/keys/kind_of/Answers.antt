use Rattle.std.proofs.Common.{rules}
use Rattle.p416_syntax.specs.Declarations.{top_names}
use Rattle.p416_names.specs.SeenKinds.{seen_kind}
use Rattle.p416_scopes.specs.Seen.{seen_scope}
use Rattle.p416_signature.proofs.Telling.{kind_is}
use Rattle.p416_signature.proofs.keys.kind_of.Goals as goal

pub returns : goal.returns
returns c =
    kind_is (seen_scope c.args.scope.now) c.args.exp.now (top_names c.args.scope.now.top.now) c.in_ok-typed.typed.rows (seen_kind c.first_kind.result)
    (search rules) (c.first_kind.ensures (top_names c.args.scope.now.top.now))
