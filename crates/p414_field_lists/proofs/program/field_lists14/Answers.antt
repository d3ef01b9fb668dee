use Rattle.std.proofs.Common.{rules}
use Rattle.p414_field_lists.proofs.Accepted.{lists_named}
use Rattle.p414_field_lists.proofs.Meaning.{made_mean}
use Rattle.p414_field_lists.proofs.program.field_lists14.Goals as goal

pub of-requires : goal.of-requires
of-requires c =
    lists_named c.args.program.now c.syntax.result.now c.as_slice-decls.result.now c.in_ok-names.field-0 c.in-Some.names
    c.syntax.ensures.accepted c.syntax.ensures.is c.as_slice-decls.ensures (cc c.in-Some.is) c.in_ok-names.ensures

pub returns-clause-means : goal.returns-clause-means
returns-clause-means c = made_mean c.args.program.now.decls c.of.result (search rules)
