-- What is judged in an expression from its front to its end: each part has a spot, which the part that it stands in tells.
use Rattle.std.specs.Prelude.{ℕ, ◌-◌, List, [], ◌∷◌, ◌++◌, get_or, Option, Some, None, if◌then◌else◌, not, map}
use Rattle.p416_syntax.specs.declared.lexeme.Literal16.{Literal16}
use Rattle.p416_syntax.specs.Tree.{Exp16, member, index, slice, call, lookahead, cast, unary, binary, choice, parenthesized, argument, listed}
use Rattle.p416_syntax.specs.declared.rule.ProgramRule.{ProgramRule}
use Rattle.p416_syntax.specs.declared.rule.ProgramRule.TheVariants.{T1, T3}
use Rattle.p416_syntax.specs.Kinds.{Kind, boolean}
use Rattle.p416_syntax.specs.Scopes.{Scope, Sort, Known}
use Rattle.p416_syntax.specs.Calls.{Place, value, any_bits, owner, a_stack, callee, unasked}
use Rattle.p416_syntax.specs.Uses.{Use, an_expression, a_number, TypePlace, of_lookahead, Places, one, many, owner_place, wanted_by, cast_place, unary_place, left_place, right_place, chosen_place, type_uses, cast_numbers, uses_at}
use Rattle.p416_syntax.specs.Unknown.{is_type_sort}
use Rattle.p416_syntax.specs.Types.{is_misplaced}
use Rattle.p416_names.specs.Seen.{kind_of_named}
use Rattle.p416_typing.specs.Rows.{RowOf, row_of}
use Rattle.p416_expression_uses.specs.declared.spots.Spot.{Spot as CodeSpot}
use Rattle.p416_expression_uses.specs.declared.spots.Spot.TheVariants as spot_of
use Rattle.p416_expression_uses.specs.Seen.{seen_places}

-- a part is passed over, or judged by its places
pub data Spot : Type 0 where
  passed : Spot
  placed : (places : Places) → Spot

abbrev pub seen_spot : List Known → CodeSpot → Spot
seen_spot top spot_of.Passed = passed
seen_spot top (spot_of.Placed places) = placed (seen_places top places)

abbrev pub seen_spots : List Known → List CodeSpot → List Spot
seen_spots top spots = map (seen_spot top) spots

abbrev pub front : List Spot → Spot
front [] = passed
front (q ∷ qs) = q

abbrev pub behind_front : List Spot → List Spot
behind_front [] = []
behind_front (q ∷ qs) = qs

-- the parts of an expression, each passed over, but for those of an argument list
abbrev pub filled_parts : Spot → Spot → Exp16 → List Spot
filled_parts p q (member e word) = passed ∷ []
filled_parts p q (index e n) = passed ∷ []
filled_parts p q (slice e high low) = passed ∷ []
filled_parts p q (call e given) = passed ∷ passed ∷ []
filled_parts p q (lookahead e to given) = passed ∷ passed ∷ []
filled_parts p q (cast to e) = passed ∷ []
filled_parts p q (unary operator e) = passed ∷ []
filled_parts p q (binary operator a b) = passed ∷ passed ∷ []
filled_parts p q (choice c a b) = passed ∷ passed ∷ passed ∷ []
filled_parts p q (parenthesized e) = passed ∷ []
filled_parts p q (argument before last) = p ∷ q ∷ []
filled_parts p q (listed es) = passed ∷ []
filled_parts p q e = []

abbrev pub passed_parts : Exp16 → List Spot
passed_parts e = filled_parts passed passed e

abbrev pub single : Place → Spot
single p = placed (one p)

-- the parts of an expression at this place, given what is known of it
abbrev pub parts_at : RowOf → Place → Exp16 → List Spot
parts_at r p (member e word) = single (owner_place p r.callee) ∷ []
parts_at r p (index e n) = single a_stack ∷ []
parts_at r p (slice e high low) = single any_bits ∷ []
parts_at r p (call e given) = single callee ∷ placed (many (wanted_by r.called) unasked) ∷ []
parts_at r p (lookahead e to given) = single owner ∷ placed (many [] unasked) ∷ []
parts_at r p (cast to e) = single (cast_place to) ∷ []
parts_at r p (unary operator e) = single (unary_place p operator r.left) ∷ []
parts_at r p (binary operator a b) = single (left_place p operator r.left r.right) ∷ single (right_place p operator r.left r.right) ∷ []
parts_at r p (choice c a b) = single (value boolean) ∷ single (chosen_place p r.left r.right) ∷ single (chosen_place p r.left r.right) ∷ []
parts_at r p (listed es) = placed (many [] any_bits) ∷ []
parts_at r p e = passed_parts e

-- the place of the argument with this number
abbrev pub place_in : List Place → Place → ℕ → Place
place_in wanted otherwise n = get_or wanted n otherwise

-- the parts of a list of so many arguments: those before the last one, and the last one
abbrev pub list_parts : List Place → Place → ℕ → Exp16 → List Spot
list_parts wanted otherwise count e = filled_parts (placed (many wanted otherwise)) (single (place_in wanted otherwise (count - 1))) e

abbrev pub parts_by : RowOf → Spot → Exp16 → List Spot
parts_by r passed e = passed_parts e
parts_by r (placed (one p)) e = parts_at r p e
parts_by r (placed (many wanted otherwise)) e = list_parts wanted otherwise r.count e

-- the numbers and the type that stand in an expression itself
abbrev pub numbers_in : Scope → Exp16 → List Use
numbers_in s (index e n) = a_number n ∷ []
numbers_in s (slice e high low) = a_number high ∷ a_number low ∷ []
numbers_in s (lookahead e to given) = type_uses s of_lookahead to
numbers_in s (cast to e) = cast_numbers to
numbers_in s e = []

-- what is judged in an expression at a place, but for what stands within it
abbrev pub own_uses : Scope → Place → Exp16 → List Use
own_uses s p e = an_expression s p e ∷ numbers_in s e

-- what is judged in a part, but for what stands within it
abbrev pub own_at : Scope → Spot → Exp16 → List Use
own_at s passed e = []
own_at s (placed (one p)) e = own_uses s p e
own_at s (placed (many wanted otherwise)) e = []

-- what is judged in these parts, whose spots are told by those in front of them
abbrev pub run : Scope → List Spot → List Exp16 → List Use
run s qs [] = []
run s qs (e ∷ es) = own_at s (front qs) e ++ run s (parts_by (row_of s e) (front qs) e ++ behind_front qs) es

-- what is judged in an expression at a spot with all within it
abbrev pub spot_uses : Scope → Spot → Exp16 → List Use
spot_uses s passed e = []
spot_uses s (placed places) e = uses_at s places e

-- the first rule that a type breaks in its place, but for its numbers

abbrev pub kind_rule : TypePlace → Kind → Option ProgramRule
kind_rule p k = if is_misplaced p k then Some T3 else None

abbrev pub named_rule : TypePlace → Sort → Option Literal16 → Option ProgramRule
named_rule p sort size = if not (is_type_sort sort) then Some T1 else kind_rule p (kind_of_named sort size)
