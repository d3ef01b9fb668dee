-- Which place of a type, and which places of parts of an expression, values of code are.
use Rattle.std.specs.Prelude.{List, [], map}
use Rattle.p416_syntax.specs.Scopes.{Known}
use Rattle.p416_syntax.specs.Calls.{Place, any_bits, unasked, any_literal}
use Rattle.p416_syntax.specs.Uses as rule
use Rattle.p416_syntax.specs.Uses.{one, many, wanted_by}
use Rattle.p416_syntax.specs.Declarations.{default_place, sort_parameters}
use Rattle.p416_names.specs.Seen.{seen_sort}
use Rattle.p416_calls.specs.Seen.{seen_place, seen_callee}
use Rattle.p416_expression_uses.specs.declared.found.Counted.{Counted}
use Rattle.p416_expression_uses.specs.Found.{CountedIn}
use Rattle.p416_expression_uses.specs.declared.types.TypePlace.{TypePlace}
use Rattle.p416_expression_uses.specs.declared.types.TypePlace.TheVariants as type_place
use Rattle.p416_expression_uses.specs.declared.places.Arguments.{Arguments}
use Rattle.p416_expression_uses.specs.declared.places.Arguments.TheVariants as arguments_of
use Rattle.p416_expression_uses.specs.declared.places.Places.{Places}
use Rattle.p416_expression_uses.specs.declared.places.Places.TheVariants as places_of

abbrev pub seen_type_place : TypePlace → rule.TypePlace
seen_type_place type_place.Field = rule.of_field
seen_type_place type_place.Variable = rule.of_variable
seen_type_place type_place.ActionParameter = rule.of_action_parameter
seen_type_place type_place.BlockParameter = rule.of_block_parameter
seen_type_place type_place.Lookahead = rule.of_lookahead

-- the places of the arguments of a list, and that of each argument behind these; those of a default action are literals
abbrev pub wanted_in : List Known → Arguments → List Place
wanted_in top (arguments_of.Given called) = wanted_by (seen_callee top called)
wanted_in top arguments_of.Items = []
wanted_in top (arguments_of.Literals sort) = map default_place (sort_parameters (seen_sort top sort))

abbrev pub otherwise_in : Arguments → Place
otherwise_in (arguments_of.Given called) = unasked
otherwise_in arguments_of.Items = any_bits
otherwise_in (arguments_of.Literals sort) = any_literal

abbrev pub seen_places : List Known → Places → rule.Places
seen_places top (places_of.One p) = one (seen_place p)
seen_places top (places_of.Many given) = many (wanted_in top given) (otherwise_in given)

abbrev pub seen_counted : Counted → CountedIn
seen_counted c = record { counter = c.counter.now; action = c.action.now }
