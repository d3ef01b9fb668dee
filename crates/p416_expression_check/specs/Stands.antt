-- Which place of a call a value of code is.
use Rattle.p416_syntax.specs.Calls as rule
use Rattle.p416_expression_check.specs.declared.stands.Stand.{Stand}
use Rattle.p416_expression_check.specs.declared.stands.Stand.TheVariants as stand_of

abbrev pub seen_stand : Stand → rule.Stand
seen_stand stand_of.Anywhere = rule.anywhere
seen_stand (stand_of.AtPositions positions) = rule.at_positions positions.now
seen_stand stand_of.InActions = rule.in_its_actions
seen_stand stand_of.ByCloneType = rule.by_clone_type
