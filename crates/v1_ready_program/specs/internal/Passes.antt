-- Expressions are gone through twice: from the outside in, to find what is asked of each part and how it is made, and from the
-- inside out, to make it.
use Rattle.std.specs.Prelude.{ℕ, suc, ◌-◌, Bool, true, false, if◌then◌else◌, List, [], ◌∷◌, ◌++◌, Option, Some, None, option_map}
use Rattle.p416_syntax.specs.declared.node.UnaryOperator.{UnaryOperator}
use Rattle.p416_syntax.specs.declared.node.BinaryOperator.{BinaryOperator}
use Rattle.p416_syntax.specs.declared.node.CastType.{CastType}
use Rattle.p416_syntax.specs.declared.node.CastType.TheVariants as cast_to
use Rattle.p416_syntax.specs.Tree.{Exp16, literal, truth, error, name, member, index, slice, call, lookahead, cast, unary, binary, choice, parenthesized, argument, listed}
use Rattle.p416_syntax.specs.Names.{Name}
use Rattle.p416_syntax.specs.Kinds.{Kind, bits, boolean, header, stack, errors, enumeration}
use Rattle.p416_syntax.specs.Scopes.{Scope, kind_of_type}
use Rattle.p416_syntax.specs.Calls.{Place, value, any_bits, owner, a_stack}
use Rattle.p416_syntax.specs.Uses.{unary_place, left_place, right_place, cast_place, chosen_place}
use Rattle.p416_typing.specs.Rows.{RowOf, row_of}
use Rattle.v1_core.specs.Values.{a_truth, an_error}
use Rattle.v1_core.specs.Expressions.{literal_number, number_of_error}
use Rattle.v1_core.specs.Ready as ready
use Rattle.v1_core.specs.Ready.{Ready}
use Rattle.v1_ready_forms.specs.Named.{NamedSeat}
use Rattle.v1_ready_forms.specs.Ways.{Way, its_value, its_validity, through_member, through_element, through_told, which_of}
use Rattle.v1_ready_forms.specs.Expressions.{with_two, with_three, name_ready, asked_ready, binary_ready}

-- what is asked of a part: nothing, this at its place, or this of the value of a call of it
pub data Ask : Type 0 where
  passed : Ask
  asked : (place : Place) (way : Way) → Ask
  called : (way : Way) → Ask

-- how an expression is made: not at all; it is this; it is what its first part is; or by its parts
pub data Plan : Type 0 where
  nothing : Plan
  leaf : (is : Ready) → Plan
  same : Plan
  sliced : (place width : ℕ) → Plan
  to_bits : (width : ℕ) → Plan
  to_truth : Plan
  unary_by : (operator : UnaryOperator) → Plan
  binary_by : (operator : BinaryOperator) → Plan
  choice_by : Plan

-- from the outside in

-- of each part nothing, but this of what stands before a member
abbrev pub filled_parts : Ask → Exp16 → List Ask
filled_parts q (member e word) = q ∷ []
filled_parts q (index e at) = passed ∷ []
filled_parts q (slice e high low) = passed ∷ []
filled_parts q (call e given) = passed ∷ passed ∷ []
filled_parts q (lookahead e to given) = passed ∷ passed ∷ []
filled_parts q (cast to e) = passed ∷ []
filled_parts q (unary operator e) = passed ∷ []
filled_parts q (binary operator a b) = passed ∷ passed ∷ []
filled_parts q (choice c a b) = passed ∷ passed ∷ passed ∷ []
filled_parts q (parenthesized e) = passed ∷ []
filled_parts q (argument before last) = passed ∷ passed ∷ []
filled_parts q (listed es) = passed ∷ []
filled_parts q e = []

abbrev pub passed_parts : Exp16 → List Ask
passed_parts e = filled_parts passed e

-- nothing but the value is asked
abbrev pub is_alone : Way → Bool
is_alone its_value = true
is_alone _ = false

-- of what stands before a member, and before a method that is called

-- the way from there
abbrev pub member_way : Kind → Name → Way → Way
member_way (stack type size) word way = through_told (which_of word) way
member_way _ word way = through_member word way

abbrev pub if_parts : Kind → Ask → Ask
if_parts errors ask = passed
if_parts (enumeration enum) ask = passed
if_parts _ ask = ask

abbrev pub member_asks : Kind → Name → Way → Ask
member_asks k word way = if_parts k (asked owner (member_way k word way))

abbrev pub validity_asked : Way → Ask
validity_asked way = if is_alone way then asked owner its_validity else passed

abbrev pub method_asks : Kind → Way → Ask
method_asks (header type) way = validity_asked way
method_asks _ way = passed

abbrev pub parts_at : RowOf → Place → Way → Exp16 → List Ask
parts_at r p way (member e word) = member_asks r.left word way ∷ []
parts_at r p way (index e at) = asked a_stack (through_element at.value way) ∷ []
parts_at r p way (slice e high low) = asked any_bits its_value ∷ []
parts_at r p way (call e given) = called way ∷ passed ∷ []
parts_at r p way (cast to e) = asked (cast_place to) its_value ∷ []
parts_at r p way (unary operator e) = asked (unary_place p operator r.left) its_value ∷ []
parts_at r p way (binary operator a b) =
    asked (left_place p operator r.left r.right) its_value ∷ asked (right_place p operator r.left r.right) its_value ∷ []
parts_at r p way (choice c a b) =
    asked (value boolean) its_value ∷ asked (chosen_place p r.left r.right) way ∷ asked (chosen_place p r.left r.right) way
    ∷ []
parts_at r p way e = passed_parts e

abbrev pub callee_parts : RowOf → Way → Exp16 → List Ask
callee_parts r way e = filled_parts (method_asks r.left way) e

abbrev pub parts_asked : RowOf → Ask → Exp16 → List Ask
parts_asked r passed e = passed_parts e
parts_asked r (asked p way) e = parts_at r p way e
parts_asked r (called way) e = callee_parts r way e

-- the way from the first part of an expression to what is asked, where it is a member or an element
abbrev pub way_on : Kind → Exp16 → Way → Way
way_on k (member e word) way = member_way k word way
way_on k (index e at) way = through_element at.value way
way_on k e way = its_value

abbrev pub way_in : Ask → Way
way_in passed = its_value
way_in (asked p way) = way
way_in (called way) = way

-- plans

abbrev pub alone_by : Way → Plan → Plan
alone_by way plan = if is_alone way then plan else nothing

abbrev pub leaf_by : Option Ready → Plan
leaf_by (Some r) = leaf r
leaf_by None = nothing

abbrev pub if_error : Exp16 → Plan → Plan
if_error error plan = plan
if_error _ plan = nothing

abbrev pub member_plan : Kind → Exp16 → Name → Way → Plan
member_plan errors e word way = if_error e (alone_by way (leaf (ready.constant (an_error (number_of_error word)))))
member_plan (enumeration enum) e word way = nothing
member_plan _ e word way = same

abbrev pub lookahead_plan : Kind → Plan
lookahead_plan (bits width) = leaf (ready.ahead width)
lookahead_plan _ = nothing

abbrev pub cast_plan : CastType → Plan
cast_plan (cast_to.Bit w) = to_bits w.value
cast_plan cast_to.Bool = to_truth

abbrev pub plan_at : Scope → List NamedSeat → RowOf → Place → Way → Exp16 → Plan
plan_at s seats r p way (literal n) = alone_by way (leaf (ready.constant (literal_number p n)))
plan_at s seats r p way (truth holds) = alone_by way (leaf (ready.constant (a_truth holds)))
plan_at s seats r p way (name text) = leaf_by (name_ready s.layouts seats way text)
plan_at s seats r p way (member e word) = member_plan r.left e word way
plan_at s seats r p way (index e at) = same
plan_at s seats r p way (slice e high low) = alone_by way (sliced low.value (suc high.value - low.value))
plan_at s seats r p way (call e given) = same
plan_at s seats r p way (lookahead e to given) = alone_by way (lookahead_plan (kind_of_type s.names to))
plan_at s seats r p way (cast to e) = alone_by way (cast_plan to)
plan_at s seats r p way (unary operator e) = alone_by way (unary_by operator)
plan_at s seats r p way (binary operator a b) = alone_by way (binary_by operator)
plan_at s seats r p way (choice c a b) = choice_by
plan_at s seats r p way _ = nothing

abbrev pub callee_plan : Exp16 → Plan
callee_plan (member e word) = same
callee_plan _ = nothing

abbrev pub planned : Scope → List NamedSeat → RowOf → Ask → Exp16 → Plan
planned s seats r passed e = nothing
planned s seats r (asked p way) e = plan_at s seats r p way e
planned s seats r (called way) e = callee_plan e

-- one expression after another, each of which tells what is asked of its parts

abbrev pub front : List Ask → Ask
front [] = passed
front (q ∷ qs) = q

abbrev pub behind_front : List Ask → List Ask
behind_front [] = []
behind_front (q ∷ qs) = qs

abbrev pub plans : Scope → List NamedSeat → List Ask → List Exp16 → List Plan
plans s seats qs [] = []
plans s seats qs (e ∷ es) =
    planned s seats (row_of s e) (front qs) e
    ∷ plans s seats (parts_asked (row_of s e) (front qs) e ++ behind_front qs) es

-- from the inside out

abbrev pub first_of : List (Option Ready) → Option Ready
first_of [] = None
first_of (v ∷ vs) = v

abbrev pub rest_of : List (Option Ready) → List (Option Ready)
rest_of [] = []
rest_of (v ∷ vs) = vs

-- the values of at most three parts, and what stands behind them
pub record Parts : Type 0 where
  pub first : Option Ready
  pub second : Option Ready
  pub third : Option Ready

abbrev pub no_parts : Parts
no_parts = record { first = None; second = None; third = None }

abbrev pub only : Option Ready → Parts
only v = record { first = v; second = None; third = None }

abbrev pub pair_of : List (Option Ready) → Parts
pair_of vs = record { first = first_of vs; second = first_of (rest_of vs); third = None }

abbrev pub parts_in : Exp16 → List (Option Ready) → Parts
parts_in (member e word) vs = only (first_of vs)
parts_in (index e at) vs = only (first_of vs)
parts_in (slice e high low) vs = only (first_of vs)
parts_in (call e given) vs = pair_of vs
parts_in (lookahead e to given) vs = pair_of vs
parts_in (cast to e) vs = only (first_of vs)
parts_in (unary operator e) vs = only (first_of vs)
parts_in (binary operator a b) vs = pair_of vs
parts_in (choice c a b) vs =
    record { first = first_of vs; second = first_of (rest_of vs); third = first_of (rest_of (rest_of vs)) }
parts_in (parenthesized e) vs = only (first_of vs)
parts_in (argument before last) vs = pair_of vs
parts_in (listed es) vs = only (first_of vs)
parts_in e vs = no_parts

abbrev pub behind_parts : Exp16 → List (Option Ready) → List (Option Ready)
behind_parts (member e word) vs = rest_of vs
behind_parts (index e at) vs = rest_of vs
behind_parts (slice e high low) vs = rest_of vs
behind_parts (call e given) vs = rest_of (rest_of vs)
behind_parts (lookahead e to given) vs = rest_of (rest_of vs)
behind_parts (cast to e) vs = rest_of vs
behind_parts (unary operator e) vs = rest_of vs
behind_parts (binary operator a b) vs = rest_of (rest_of vs)
behind_parts (choice c a b) vs = rest_of (rest_of (rest_of vs))
behind_parts (parenthesized e) vs = rest_of vs
behind_parts (argument before last) vs = rest_of (rest_of vs)
behind_parts (listed es) vs = rest_of vs
behind_parts e vs = vs

abbrev pub made : Plan → Parts → Option Ready
made nothing x = None
made (leaf r) x = Some r
made same x = x.first
made (sliced place width) x = option_map (λ e. ready.slice e place width) x.first
made (to_bits width) x = option_map (ready.to_bits width) x.first
made to_truth x = option_map ready.to_truth x.first
made (unary_by operator) x = option_map (ready.unary operator) x.first
made (binary_by operator) x = with_two (binary_ready operator) x.first x.second
made choice_by x = with_three ready.choice x.first x.second x.third

-- an expression in place of its parts
abbrev pub built_step : Plan → Exp16 → List (Option Ready) → List (Option Ready)
built_step plan e vs = made plan (parts_in e vs) ∷ behind_parts e vs

abbrev pub built : List Plan → List Exp16 → List (Option Ready)
built [] es = []
built (plan ∷ plans) [] = []
built (plan ∷ plans) (e ∷ es) = built_step plan e (built plans es)

-- what is asked of an expression

abbrev pub callee_ready : Scope → List NamedSeat → Way → Exp16 → Option Ready
callee_ready s seats way e = asked_ready s seats any_bits way (call e e)

abbrev pub ready_by : Scope → List NamedSeat → Ask → Exp16 → Option Ready
ready_by s seats passed e = None
ready_by s seats (asked p way) e = asked_ready s seats p way e
ready_by s seats (called way) e = callee_ready s seats way e
