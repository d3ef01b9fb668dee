use Rattle.p416_reader.proofs.SeenTokens.{there_as}
use Rattle.p416_reader.proofs.seen.view_or_joined.Goals as goal

pub returns-in-Some : goal.returns-in-Some
returns-in-Some c = there_as c.args.text.now c.args.tokens.now c.args.place c.in-Some.token.now c.view_of.result c.in-Some.ensures.lookup.1 c.view_of.ensures
