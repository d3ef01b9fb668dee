-- Which ready expression an expression is at its place (P4_16 1.2, "Expressions"). A choice between headers, stacks or structs
-- of which a part is asked is a choice between these parts. None where an expression is no single value, or applies a table;
-- an error's name, a member of an enumeration and a list in braces by themselves are none either.
use Rattle.std.specs.Prelude.{suc, ◌-◌, List, Option, Some, None, option_map}
use Rattle.p416_syntax.specs.declared.lexeme.Literal16.{Literal16}
use Rattle.p416_syntax.specs.declared.node.CastType.{CastType}
use Rattle.p416_syntax.specs.declared.node.CastType.TheVariants as cast_to
use Rattle.p416_syntax.specs.declared.node.BinaryOperator.{BinaryOperator}
use Rattle.p416_syntax.specs.declared.node.BinaryOperator.TheVariants.{And, Or}
use Rattle.p416_syntax.specs.Tree.{Exp16, literal, truth, error, name, member, index, slice, call, lookahead, cast, unary, binary, choice}
use Rattle.p416_syntax.specs.Names.{Name}
use Rattle.p416_syntax.specs.Kinds.{Kind, bits, boolean, header, stack, errors, enumeration}
use Rattle.p416_syntax.specs.Scopes.{Layout, Scope, kind_of_type}
use Rattle.p416_syntax.specs.Calls.{Place, value, any_bits, owner, a_stack}
use Rattle.p416_syntax.specs.Expressions.{kind_of}
use Rattle.p416_syntax.specs.Uses.{unary_place, left_place, right_place, cast_place, chosen_place}
use Rattle.v1_core.specs.Values.{a_truth, an_error}
use Rattle.v1_core.specs.Expressions.{literal_number, number_of_error}
use Rattle.v1_core.specs.Ready as ready
use Rattle.v1_core.specs.Ready.{Ready}
use Rattle.v1_ready_forms.specs.Named.{NamedSeat, seat_of_name}
use Rattle.v1_ready_forms.specs.Ways.{Way, its_value, its_validity, through_member, through_element, through_told, which_of}
use Rattle.v1_ready_forms.specs.Spots.{spot_with, ready_behind, way_ready}

-- what is a single value, of which nothing but its value can be asked
abbrev pub alone : Way → Option Ready → Option Ready
alone its_value r = r
alone _ r = None

-- of two
abbrev pub with_two : (Ready → Ready → Ready) → Option Ready → Option Ready → Option Ready
with_two f (Some a) (Some b) = Some (f a b)
with_two f _ _ = None

abbrev pub with_three : (Ready → Ready → Ready → Ready) → Option Ready → Option Ready → Option Ready → Option Ready
with_three f (Some a) (Some b) (Some c) = Some (f a b c)
with_three f _ _ _ = None

abbrev pub name_ready : List Layout → List NamedSeat → Way → Name → Option Ready
name_ready types seats way text = ready_behind (way_ready types way) (spot_with None (seat_of_name seats text))

-- of the word `error` alone
abbrev pub only_error : Exp16 → Option Ready → Option Ready
only_error error r = r
only_error _ r = None

-- the member with this word of an expression, which is of a kind, and of which parts are asked
abbrev pub member_ready : Kind → Exp16 → Name → Way → (Way → Option Ready) → Option Ready
member_ready errors e word way of =
    only_error e (alone way (Some (ready.constant (an_error (number_of_error word)))))
member_ready (enumeration enum) e word way of = None
member_ready (stack type size) e word way of = of (through_told (which_of word) way)
member_ready _ e word way of = of (through_member word way)

-- of the methods that give a value only `isValid` is a ready expression
abbrev pub method_ready : Kind → Way → (Way → Option Ready) → Option Ready
method_ready (header type) way of = alone way (of its_validity)
method_ready _ way of = None

-- `e[high:low]` has both of these bits
abbrev pub slice_ready : Literal16 → Literal16 → Ready → Ready
slice_ready high low e = ready.slice e low.value (suc high.value - low.value)

abbrev pub lookahead_ready : Kind → Option Ready
lookahead_ready (bits width) = Some (ready.ahead width)
lookahead_ready _ = None

abbrev pub cast_ready : CastType → Ready → Ready
cast_ready (cast_to.Bit w) e = ready.to_bits w.value e
cast_ready cast_to.Bool e = ready.to_truth e

-- `&&` and `||` evaluate what they need
abbrev pub binary_ready : BinaryOperator → Ready → Ready → Ready
binary_ready And a b = ready.both a b
binary_ready Or a b = ready.either a b
binary_ready operator a b = ready.binary operator a b

-- what is asked of an expression at its place
abbrev pub asked_ready : Scope → List NamedSeat → Place → Way → Exp16 → Option Ready
asked_ready s seats p way (literal n) = alone way (Some (ready.constant (literal_number p n)))
asked_ready s seats p way (truth holds) = alone way (Some (ready.constant (a_truth holds)))
asked_ready s seats p way (name text) = name_ready s.layouts seats way text
asked_ready s seats p way (member e word) =
    member_ready (kind_of s e) e word way (λ further. asked_ready s seats owner further e)
asked_ready s seats p way (index e at) = asked_ready s seats a_stack (through_element at.value way) e
asked_ready s seats p way (slice e high low) =
    alone way (option_map (slice_ready high low) (asked_ready s seats any_bits its_value e))
asked_ready s seats p way (call (member e word) given) =
    method_ready (kind_of s e) way (λ further. asked_ready s seats owner further e)
asked_ready s seats p way (lookahead e to given) = alone way (lookahead_ready (kind_of_type s.names to))
asked_ready s seats p way (cast to e) =
    alone way (option_map (cast_ready to) (asked_ready s seats (cast_place to) its_value e))
asked_ready s seats p way (unary operator e) =
    alone way
    (option_map (ready.unary operator) (asked_ready s seats (unary_place p operator (kind_of s e)) its_value e))
asked_ready s seats p way (binary operator a b) =
    alone way
    (with_two (binary_ready operator)
    (asked_ready s seats (left_place p operator (kind_of s a) (kind_of s b)) its_value a)
    (asked_ready s seats (right_place p operator (kind_of s a) (kind_of s b)) its_value b))
asked_ready s seats p way (choice c a b) =
    with_three ready.choice (asked_ready s seats (value boolean) its_value c)
    (asked_ready s seats (chosen_place p (kind_of s a) (kind_of s b)) way a)
    (asked_ready s seats (chosen_place p (kind_of s a) (kind_of s b)) way b)
asked_ready s seats p way _ = None

-- the ready expression that gives the value of an expression at its place
abbrev pub ready_of_exp : Scope → List NamedSeat → Place → Exp16 → Option Ready
ready_of_exp s seats p e = asked_ready s seats p its_value e
