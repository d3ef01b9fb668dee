-- Arguments of externs, and parameters of actions with their arguments (P4_16 1.2, "Calling convention: call by copy in/copy
-- out").
use Rattle.std.specs.Prelude.{ℕ, suc, Bool, true, false, ◌||◌, List, [], ◌∷◌, ◌++◌, slice_index_or, Option, Some, None, option_map, option_and_then}
use Rattle.p416_syntax.specs.declared.parts.Direction.{Direction}
use Rattle.p416_syntax.specs.declared.parts.Direction.TheVariants.{Out, InOut}
use Rattle.p416_syntax.specs.declared.parts.Param.{Param}
use Rattle.p416_syntax.specs.Tree.{Exp16, argument, listed, no_arguments}
use Rattle.p416_syntax.specs.Kinds.{Kind}
use Rattle.p416_syntax.specs.Scopes.{Scope, kind_of_type}
use Rattle.p416_syntax.specs.Calls.{Place, value, any_bits}
use Rattle.v1_core.specs.Seats.{Form, slot_form, header_form, stack_form, struct_form, Seat}
use Rattle.v1_ready_forms.specs.Named.{NamedSeat}
use Rattle.v1_ready_blocks.specs.declared.places.Range.{Range}
use Rattle.v1_ready_blocks.specs.Tests.{Test}
use Rattle.v1_ready_blocks.specs.Arguments.{Argument, a_value, an_item, Incoming, value_in, parts_in, zero_in, Outgoing, value_out, parts_out}
use Rattle.v1_place_laws.specs.Places.{range_of}
use Rattle.v1_ready_statements.specs.Targets.{target_given, range_given, fixed_range}
use Rattle.v1_ready_statements.specs.Tested.{applies, ready_test, ready_source}
use Rattle.v1_ready_statements.specs.Around.{Around, table_found, variable_seat}

abbrev pub cons_option : {A : Type 0} → Option A → Option (List A) → Option (List A)
cons_option (Some x) (Some xs) = Some (x ∷ xs)
cons_option _ _ = None

abbrev pub join_option : {A : Type 0} → Option (List A) → Option (List A) → Option (List A)
join_option (Some xs) (Some ys) = Some (xs ++ ys)
join_option _ _ = None

-- arguments of an extern

abbrev pub test_at : Around → Scope → List NamedSeat → Place → Exp16 → Option Test
test_at b s seats p e = ready_test s seats (table_found b) p e

-- one value
abbrev pub value_given : Around → Scope → List NamedSeat → Place → Exp16 → Option (List Argument)
value_given b s seats p e = option_map (λ t. a_value t ∷ []) (test_at b s seats p e)

-- the items of a list in braces, in order
abbrev pub items_given : Around → Scope → List NamedSeat → Exp16 → Option (List Argument)
items_given b s seats (argument before last) =
    join_option (items_given b s seats before) (option_map (λ t. an_item t ∷ []) (test_at b s seats any_bits last))
items_given b s seats _ = Some []

abbrev pub list_given : Around → Scope → List NamedSeat → Exp16 → Option (List Argument)
list_given b s seats (listed es) = items_given b s seats es
list_given b s seats _ = Some []

-- an argument and its place, by its position
abbrev pub given_at : List Exp16 → ℕ → Exp16
given_at es n = slice_index_or es n no_arguments

-- parameters of actions

-- A table is applied in one of these arguments, which may run the same action: then they enter the frame when all are evaluated.
abbrev pub any_applies : Scope → List Exp16 → Bool
any_applies s [] = false
any_applies s (e ∷ es) = applies s e || any_applies s es

-- a parameter that is written back
abbrev pub is_back : Option Direction → Bool
is_back (Some Out) = true
is_back (Some InOut) = true
is_back _ = false

abbrev pub is_out : Option Direction → Bool
is_out (Some Out) = true
is_out _ = false

-- what a parameter starts with, which stands at this seat: 0, the value of its argument, or its parts
abbrev pub incoming_at : Around → Scope → List NamedSeat → Kind → Bool → Seat → Exp16 → Option Incoming
incoming_at b s seats k true t e = Some (zero_in (range_of s.layouts t))
incoming_at b s seats k false t e = of t.form
  where
    of : Form → Option Incoming
    of (slot_form c) = option_map (value_in t.start.slot) (test_at b s seats (value k) e)
    of (header_form type) = option_map (parts_in (range_of s.layouts t)) (ready_source s seats (table_found b) e)
    of (stack_form type size) = option_map (parts_in (range_of s.layouts t)) (ready_source s seats (table_found b) e)
    of (struct_form type) = option_map (parts_in (range_of s.layouts t)) (ready_source s seats (table_found b) e)
    of _ = None

-- where it goes back to
abbrev pub outgoing_at : Scope → List NamedSeat → Bool → Seat → Exp16 → Option (List Outgoing)
outgoing_at s seats false t e = Some []
outgoing_at s seats true t e = of t.form
  where
    back_to : Option Range → Option (List Outgoing)
    back_to r = option_map (λ to. parts_out (range_of s.layouts t) to ∷ []) r

    whole : Option Range
    whole = option_and_then fixed_range (range_given s seats e)

    of : Form → Option (List Outgoing)
    of (slot_form c) = option_map (λ to. value_out t.start.slot to ∷ []) (target_given s seats e)
    of (header_form type) = back_to whole
    of (stack_form type size) = back_to whole
    of (struct_form type) = back_to whole
    of _ = None

-- what a parameter with a number is given
abbrev pub incoming_of : Around → Scope → List NamedSeat → ℕ → Param → Exp16 → Option Incoming
incoming_of b s seats n p e =
    option_and_then (λ t. incoming_at b s seats (kind_of_type s.names p.of) (is_out p.direction) t e) (variable_seat b n)

abbrev pub outgoing_of : Around → Scope → List NamedSeat → ℕ → Param → Exp16 → Option (List Outgoing)
outgoing_of b s seats n p e =
    option_and_then (λ t. outgoing_at s seats (is_back p.direction) t e) (variable_seat b n)

-- of all parameters, of which the first has this number, with their arguments; both lists have as many

abbrev pub all_incoming : Around → Scope → List NamedSeat → ℕ → List Param → List Exp16 → Option (List Incoming)
all_incoming b s seats n (p ∷ parameters) (e ∷ es) =
    cons_option (incoming_of b s seats n p e) (all_incoming b s seats (suc n) parameters es)
all_incoming b s seats n [] [] = Some []
all_incoming b s seats n _ _ = None

abbrev pub all_outgoing : Around → Scope → List NamedSeat → ℕ → List Param → List Exp16 → Option (List Outgoing)
all_outgoing b s seats n (p ∷ parameters) (e ∷ es) =
    join_option (outgoing_of b s seats n p e) (all_outgoing b s seats (suc n) parameters es)
all_outgoing b s seats n [] [] = Some []
all_outgoing b s seats n _ _ = None
