-- An expression is gone through from the outside in for names and for choices, of which the parts follow; and from the inside out these
-- are joined.
use Rattle.std.specs.Prelude.{ℕ, List, [], ◌∷◌, ◌++◌, Option, None, option_map}
use Rattle.p416_syntax.specs.Tree.{Exp16, name, member, index, choice}
use Rattle.p416_syntax.specs.Names.{Name}
use Rattle.p416_syntax.specs.Kinds.{boolean}
use Rattle.p416_syntax.specs.Scopes.{Scope}
use Rattle.p416_syntax.specs.Calls.{value, owner}
use Rattle.p416_typing.specs.Rows.{RowOf, row_of}
use Rattle.v1_ready_forms.specs.Named.{NamedSeat, seat_of_name}
use Rattle.v1_ready_forms.specs.Ways.{Way}
use Rattle.v1_ready_forms.specs.Spots.{spot_with}
use Rattle.v1_ready_blocks.specs.declared.places.RangePlace.{RangePlace}
use Rattle.v1_ready_blocks.specs.Tests.{Test, Source, parts}
use Rattle.v1_ready_program.specs.internal.Passes.{Ask, passed, asked, passed_parts, way_on, way_in, front, behind_front}
use Rattle.v1_ready_statements.specs.Tested.{ready_test, range_behind, way_range, with_chosen, asked_source}

-- these parts, or nothing; or a choice between the two that follow
pub data Found : Type 0 where
  parts_found : (of : Option RangePlace) → Found
  choice_found : (by : Option Test) → Found

-- from the outside in

abbrev pub asked_found : Scope → List NamedSeat → (Name → Option ℕ) → Way → Exp16 → List Found
asked_found s seats tables way (name text) =
    parts_found (range_behind (way_range s.layouts way) (spot_with None (seat_of_name seats text))) ∷ []
asked_found s seats tables way (member e word) = []
asked_found s seats tables way (index e at) = []
asked_found s seats tables way (choice c a b) = choice_found (ready_test s seats tables (value boolean) c) ∷ []
asked_found s seats tables way e = parts_found None ∷ []

abbrev pub found_of : Scope → List NamedSeat → (Name → Option ℕ) → Ask → Exp16 → List Found
found_of s seats tables (asked p way) e = asked_found s seats tables way e
found_of s seats tables _ e = []

-- what is asked of the parts, given the way on from the first

abbrev pub asked_parts : Way → Way → Exp16 → List Ask
asked_parts way further (member e word) = asked owner further ∷ []
asked_parts way further (index e at) = asked owner further ∷ []
asked_parts way further (choice c a b) = passed ∷ asked owner way ∷ asked owner way ∷ []
asked_parts way further e = passed_parts e

abbrev pub parts_by : Ask → Way → Exp16 → List Ask
parts_by (asked p way) further e = asked_parts way further e
parts_by _ further e = passed_parts e

abbrev pub source_parts : RowOf → Ask → Exp16 → List Ask
source_parts r q e = parts_by q (way_on r.left e (way_in q)) e

abbrev pub founds : Scope → List NamedSeat → (Name → Option ℕ) → List Ask → List Exp16 → List Found
founds s seats tables qs [] = []
founds s seats tables qs (e ∷ es) =
    found_of s seats tables (front qs) e
    ++ founds s seats tables (source_parts (row_of s e) (front qs) e ++ behind_front qs) es

-- from the inside out

abbrev pub first_source : List (Option Source) → Option Source
first_source [] = None
first_source (x ∷ xs) = x

abbrev pub rest_sources : List (Option Source) → List (Option Source)
rest_sources [] = []
rest_sources (x ∷ xs) = xs

abbrev pub join_one : Found → List (Option Source) → List (Option Source)
join_one (parts_found r) xs = option_map parts r ∷ xs
join_one (choice_found t) xs =
    with_chosen t (first_source xs) (first_source (rest_sources xs)) ∷ rest_sources (rest_sources xs)

abbrev pub joined : List Found → List (Option Source)
joined [] = []
joined (f ∷ fs) = join_one f (joined fs)

-- what is asked of an expression
abbrev pub source_by : Scope → List NamedSeat → (Name → Option ℕ) → Ask → Exp16 → List (Option Source)
source_by s seats tables (asked p way) e = asked_source s seats tables way e ∷ []
source_by s seats tables _ e = []
