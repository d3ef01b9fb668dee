-- Which ready statement a statement is, with all within it (P4_16 1.2, "Statements", "Assignment statement", "Conditional
-- statement", "Block statement", "Variable declarations", "Switch statement"). Variables have numbers in the order of the text.
use Rattle.std.specs.Prelude.{ℕ, ◌+◌, Bool, true, false, List, length, Option, Some, None, option_map, option_and_then}
use Rattle.p416_syntax.specs.declared.node.CaseLabel.{CaseLabel}
use Rattle.p416_syntax.specs.declared.node.CaseLabel.TheVariants as label
use Rattle.p416_syntax.specs.Tree.{Exp16, Stmt16, no_statements, then, block, empty, var, var_is, assign, expression, if_then, if_else, switch, no_cases, case_of}
use Rattle.p416_syntax.specs.Kinds.{Kind, boolean}
use Rattle.p416_syntax.specs.Scopes.{Scope, kind_of_type}
use Rattle.p416_syntax.specs.Calls.{Place, value}
use Rattle.p416_syntax.specs.Expressions.{kind_of}
use Rattle.p416_syntax.specs.Statements.{behind, assigned_place}
use Rattle.v1_core.specs.Values as values
use Rattle.v1_core.specs.Slots.{kinds_in}
use Rattle.v1_core.specs.Seats.{Form, slot_form, Seat}
use Rattle.v1_ready_forms.specs.Named.{NamedSeat}
use Rattle.v1_ready_forms.specs.Spots.{spot}
use Rattle.v1_ready_blocks.specs.declared.places.SlotPlace.{SlotPlace}
use Rattle.v1_ready_blocks.specs.declared.places.RangePlace.{RangePlace}
use Rattle.v1_ready_blocks.specs.Tests.{Test, Source}
use Rattle.v1_ready_blocks.specs.Statements.{Deed, assign as assign_deed, assign_parts, Statement, nothing, sequence, start, does, branch, switch as switch_over, labelled, otherwise}
use Rattle.v1_place_laws.specs.Places.{Meant, meant_by, slot_place_of, range_of}
use Rattle.v1_ready_statements.specs.Targets.{ready_slice, parts_meant}
use Rattle.v1_ready_statements.specs.Tested.{ready_test, ready_source}
use Rattle.v1_ready_statements.specs.Around.{Around, Found, action_found, table_found, variable_seat, declared_seat}
use Rattle.v1_ready_statements.specs.Called.{expression_ready}

-- assignments

abbrev pub assigns : Option values.Slice → Option SlotPlace → Option Test → Option Deed
assigns cut (Some to) (Some t) = Some (assign_deed to (option_map ready_slice cut) t)
assigns cut _ _ = None

abbrev pub assigns_parts : Option RangePlace → Option Source → Option Deed
assigns_parts (Some to) (Some from) = Some (assign_parts to from)
assigns_parts _ _ = None

-- a single value at its place, or a header, a stack or a struct, goes to what is meant
abbrev pub assigned_to : Around → Scope → List NamedSeat → Place → Exp16 → Meant → Option Deed
assigned_to b s seats p e x = of x.spot.seat.form
  where
    of : Form → Option Deed
    of (slot_form content) = assigns x.slice (slot_place_of x.spot) (ready_test s seats (table_found b) p e)
    of _ = assigns_parts (parts_meant s.layouts x) (ready_source s seats (table_found b) e)

abbrev pub assignment_ready : Around → Scope → List NamedSeat → Exp16 → Exp16 → Option Statement
assignment_ready b s seats target e =
    option_map does
    (option_and_then (assigned_to b s seats (assigned_place (kind_of s target)) e) (meant_by s seats target))

-- variables

-- a variable with this number starts at 0
abbrev pub start_ready : Around → Scope → ℕ → Option Statement
start_ready b s n = option_map (λ t. start (range_of s.layouts t)) (variable_seat b n)

-- what stands at a seat is written whole
abbrev pub whole_seat : Seat → Meant
whole_seat t = record { spot = spot None t; slice = None }

-- or it has an initial value, of its kind
abbrev pub initial_ready : Around → Scope → List NamedSeat → ℕ → Kind → Exp16 → Option Statement
initial_ready b s seats n k e =
    option_map does (option_and_then (λ t. assigned_to b s seats (value k) e (whole_seat t)) (variable_seat b n))

-- numbers and seats behind a statement

abbrev pub number_behind : Scope → Stmt16 → ℕ → ℕ
number_behind s x n = n + length (kinds_in s x)

-- the names behind a list of statements, the first variable of which has this number
abbrev pub seats_behind : Around → Scope → ℕ → Stmt16 → List NamedSeat → List NamedSeat
seats_behind b s n ((then) before last) seats =
    seats_behind b (behind before s) (number_behind s before n) last (seats_behind b s n before seats)
seats_behind b s n (var t called) seats = declared_seat b called n seats
seats_behind b s n (var_is t called e) seats = declared_seat b called n seats
seats_behind b s n _ seats = seats

-- statements

abbrev pub both_ready : (Statement → Statement → Statement) → Option Statement → Option Statement → Option Statement
both_ready f (Some x) (Some y) = Some (f x y)
both_ready f _ _ = None

abbrev pub branch_ready : Option Test → Option Statement → Option Statement → Option Statement
branch_ready (Some c) (Some x) (Some y) = Some (branch c x y)
branch_ready _ _ _ = None

abbrev pub switch_ready : Option ℕ → Option Statement → Option Statement
switch_ready (Some table) (Some cases) = Some (switch_over table cases)
switch_ready _ _ = None

abbrev pub labelled_ready : Option Found → Option Statement → Option Statement → Option Statement
labelled_ready (Some action) (Some body) (Some cases) = Some (labelled action.number body cases)
labelled_ready _ _ _ = None

-- `default` stands in one of these cases
abbrev pub has_default : Stmt16 → Bool
has_default (case_of before label.Default body) = true
has_default (case_of before (label.Action a) body) = has_default before
has_default _ = false

-- What is asked of a list of cases: those of actions, with what stands behind them, or the one of `default`. Statements are
-- asked for themselves.
pub data Asked : Type 0 where
  itself : Asked
  labelled_ones : (behind_them : Option Statement) → Asked
  the_default : Asked

abbrev pub default_ready : Bool → CaseLabel → Option Statement → Option Statement → Option Statement
default_ready true l before body = before
default_ready false label.Default before body = option_map otherwise body
default_ready false (label.Action a) before body = Some nothing

-- The ready statement that a statement is, the first variable in which has this number. Of cases the one of `default` comes
-- last, behind those of actions in the order of the text; of two the first counts.
abbrev pub ready_in : Around → Scope → List NamedSeat → ℕ → Asked → Stmt16 → Option Statement
ready_in b s seats n itself no_statements = Some nothing
ready_in b s seats n itself ((then) before last) =
    both_ready sequence (ready_in b s seats n itself before)
    (ready_in b (behind before s) (seats_behind b s n before seats) (number_behind s before n) itself last)
ready_in b s seats n itself (block body) = ready_in b s seats n itself body
ready_in b s seats n itself empty = Some nothing
ready_in b s seats n itself (var t called) = start_ready b s n
ready_in b s seats n itself (var_is t called e) = initial_ready b s seats n (kind_of_type s.names t) e
ready_in b s seats n itself (assign target e) = assignment_ready b s seats target e
ready_in b s seats n itself (expression e) = expression_ready b s seats e
ready_in b s seats n itself (if_then c positive) =
    branch_ready (ready_test s seats (table_found b) (value boolean) c) (ready_in b s seats n itself positive) (Some nothing)
ready_in b s seats n itself (if_else c positive negative) =
    branch_ready (ready_test s seats (table_found b) (value boolean) c) (ready_in b s seats n itself positive)
    (ready_in b s seats (number_behind s positive n) itself negative)
ready_in b s seats n itself (switch table cases) =
    switch_ready (table_found b table) (ready_in b s seats n (labelled_ones (ready_in b s seats n the_default cases)) cases)
ready_in b s seats n (labelled_ones rest) no_cases = rest
ready_in b s seats n (labelled_ones rest) (case_of before (label.Action a) body) =
    ready_in b s seats n
    (labelled_ones (labelled_ready (action_found b a) (ready_in b s seats (number_behind s before n) itself body) rest))
    before
ready_in b s seats n (labelled_ones rest) (case_of before label.Default body) =
    ready_in b s seats n (labelled_ones rest) before
ready_in b s seats n the_default no_cases = Some nothing
ready_in b s seats n the_default (case_of before l body) =
    default_ready (has_default before) l (ready_in b s seats n the_default before)
    (ready_in b s seats (number_behind s before n) itself body)
ready_in b s seats n _ _ = None

abbrev pub ready_of_statement : Around → Scope → List NamedSeat → ℕ → Stmt16 → Option Statement
ready_of_statement b s seats n x = ready_in b s seats n itself x
