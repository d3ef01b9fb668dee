-- What the first of some expressions means, each of which is the first part of the one before it.
use Rattle.std.specs.Prelude.{List, [], ◌∷◌, Option, None}
use Rattle.p416_syntax.specs.Tree.{Exp16, name, member, index, slice}
use Rattle.p416_syntax.specs.Names.{Name}
use Rattle.p416_syntax.specs.Kinds.{Kind, stack, unknown}
use Rattle.p416_syntax.specs.Scopes.{Layout, Scope}
use Rattle.p416_names.specs.SeenKinds.{seen_kind}
use Rattle.p416_typing.specs.Rows.{RowOf, left_of}
use Rattle.p416_typing.specs.declared.row.Row.{Row}
use Rattle.v1_core.specs.Values.{to_member, to_element}
use Rattle.v1_core.specs.Expressions.{slice_of}
use Rattle.v1_ready_forms.specs.Named.{NamedSeat, seat_of_name}
use Rattle.v1_ready_forms.specs.Ways.{which_of}
use Rattle.v1_ready_forms.specs.Spots.{Spot, spot_with, spot_behind, told_spot}
use Rattle.v1_place_laws.specs.Places.{Meant, meant, behind_meant, slice_meant, member_meant}

-- what the first of some rows tells of its expression
abbrev pub kind_first : List RowOf → Kind
kind_first [] = unknown
kind_first (r ∷ rows) = r.kind

-- the kind of the first part
abbrev pub seen_left : Row → Kind
seen_left r = seen_kind r.left

-- the member with this word of what stands there, which is of a kind
abbrev pub part_spot : List Layout → Kind → Name → Spot → Option Spot
part_spot types (stack type size) word x = told_spot types (which_of word) x
part_spot types _ word x = spot_behind types (to_member word) x

-- what an expression means, given the kind of its first part and what that means
abbrev pub step : List Layout → List NamedSeat → Kind → Exp16 → Option Meant → Option Meant
step types seats k (name text) x = meant None (spot_with None (seat_of_name seats text))
step types seats k (member e word) x = member_meant types k word x
step types seats k (index e at) x = behind_meant (spot_behind types (to_element at.value)) x
step types seats k (slice e high low) x = slice_meant (slice_of high low) x
step types seats k _ x = None

abbrev pub chained : Scope → List NamedSeat → List Exp16 → Option Meant
chained s seats [] = None
chained s seats (e ∷ es) = step s.layouts seats (left_of s e) e (chained s seats es)
