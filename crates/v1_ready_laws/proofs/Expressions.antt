-- Where an expression is ready, its ready form gives what is asked of it.
use Rattle.std.proofs.Common.{◌≡◌, inl, suc, ◌-◌, cond, Option, Some, None, IfSome, option_map, List, refl, ap}
use Rattle.p416_syntax.specs.declared.node.CastType.{CastType}
use Rattle.p416_syntax.specs.declared.node.CastType.TheVariants as cast_to
use Rattle.p416_syntax.specs.declared.node.BinaryOperator.{BinaryOperator}
use Rattle.p416_syntax.specs.declared.node.BinaryOperator.TheVariants.{Multiply, Add, Subtract, SaturatingAdd, SaturatingSubtract, Concatenate, ShiftLeft, ShiftRight, BitAnd, BitXor, BitOr, Less, LessEqual, Greater, GreaterEqual, Equal, NotEqual, And, Or}
use Rattle.p416_syntax.specs.Tree.{Exp16, literal, truth, error, name, member, index, slice, call, lookahead, cast, unary, binary, choice, parenthesized, no_arguments, argument, listed}
use Rattle.p416_syntax.specs.Names.{Name}
use Rattle.p416_syntax.specs.Kinds.{boolean}
use Rattle.p416_syntax.specs.Scopes.{Scope, kind_of_type}
use Rattle.p416_syntax.specs.Calls.{Place, value, any_bits, owner, a_stack}
use Rattle.p416_syntax.specs.Expressions.{kind_of}
use Rattle.p416_syntax.specs.Uses.{unary_place, left_place, right_place, cast_place, chosen_place}
use Rattle.v1_core.specs.Values.{a_number, a_truth, number_in, is_true, sliced}
use Rattle.v1_core.specs.Numbers.{unary_value, binary_value, cast_value}
use Rattle.v1_core.specs.Frames.{Moment, read}
use Rattle.v1_core.specs.Surroundings.{World, named}
use Rattle.v1_core.specs.Expressions.{Valued, valued, literal_number, slice_of, value_of}
use Rattle.v1_core.specs.Cells.{Cells}
use Rattle.v1_core.specs.Ready as ready
use Rattle.v1_core.specs.Ready.{Ready, Ended, given, and_then, ready_value}
use Rattle.v1_core.specs.Scalars.{pair_value, bits_value, truth_value}
use Rattle.v1_ready_forms.specs.Named.{NamedSeat}
use Rattle.v1_ready_forms.specs.Ways.{Way, its_value, through_element}
use Rattle.v1_ready_forms.specs.Expressions.{name_ready, slice_ready, cast_ready, binary_ready, alone, with_two, with_three, asked_ready}
use Rattle.v1_ready_laws.specs.Asked.{asked_value, Gives}
use Rattle.v1_ready_laws.specs.Operands.{PairFits, OperandsFit}
use Rattle.v1_ready_laws.specs.Laws.{NamesGive}
use Rattle.v1_ready_laws.proofs.Pairs.{pair_same, to_bits_same, to_truth_same}
use Rattle.v1_ready_laws.proofs.Given.{Holds, if_alone, if_more, if_map, if_two, if_three, constant_runs, one_runs, two_runs, both_runs, either_runs, choice_runs, element_runs, members_run, methods_run, lookahead_runs}

name_runs : (w : World) (s : Scope) (seats : List NamedSeat) (c : Cells) (m : Moment) (p : Place) (way : Way) (text : Name) → NamesGive w s seats c m → IfSome (name_ready s.layouts seats way text) (Holds c m way (value_of w s p (name text)))
name_runs w s seats c m p way text names =
    if_more (λ (r : Ready). ready_value c m.unparsed r ≡ asked_value way (read m.frame (named w.around m.frame text))) (Holds c m way (value_of w s p (name text))) (name_ready s.layouts seats way text)
    (λ r is. record { gives = inl (refl, is); stays = λ e. refl }) (names way text)

cast_runs : (c : Cells) (m : Moment) (to : CastType) (evaluate : Moment → Valued) (r : Ready) → Holds c m its_value evaluate r → Holds c m its_value (λ n. valued (cast_value to (evaluate n).value) (evaluate n).moment) (cast_ready to r)
cast_runs c m (cast_to.Bit n) evaluate r h = one_runs m (ready_value c m.unparsed r) evaluate (λ x. given (bits_value n.value x)) (cast_value (cast_to.Bit n)) (λ v. ap given (to_bits_same n v)) h
cast_runs c m cast_to.Bool evaluate r h = one_runs m (ready_value c m.unparsed r) evaluate (λ x. given (truth_value x)) (cast_value cast_to.Bool) (λ v. ap given (to_truth_same v)) h

-- two operands of an operator
abbrev pub Operands : World → Scope → List NamedSeat → Cells → Moment → Place → Place → Exp16 → Exp16 → Type 0
Operands w s seats c m p q a b =
    IfSome (asked_ready s seats p its_value a) (Holds c m its_value (value_of w s p a))
    × IfSome (asked_ready s seats q its_value b) (Holds c m its_value (value_of w s q b))

pair_runs : (w : World) (s : Scope) (seats : List NamedSeat) (c : Cells) (m : Moment) (operator : BinaryOperator) (p q : Place) (a b : Exp16) → PairFits operator (value_of w s p a m).value (value_of w s q b m).value → Operands w s seats c m p q a b → IfSome (with_two (ready.binary operator) (asked_ready s seats p its_value a) (asked_ready s seats q its_value b)) (Holds c m its_value (λ n. valued (binary_value operator (value_of w s p a n).value (value_of w s q b (value_of w s p a n).moment).value) (value_of w s q b (value_of w s p a n).moment).moment))
pair_runs w s seats c m operator p q a b fit both =
    if_two (Holds c m its_value (value_of w s p a)) (Holds c m its_value (value_of w s q b)) _ (ready.binary operator) (asked_ready s seats p its_value a) (asked_ready s seats q its_value b)
    (λ x y h k. two_runs m (ready_value c m.unparsed x) (ready_value c m.unparsed y) (value_of w s p a) (value_of w s q b) (pair_value operator) (binary_value operator) (pair_same operator (value_of w s p a m).value (value_of w s q b m).value fit) h k)
    both.0 both.1

-- an operator at a place, whose operands have these places
binary_runs : (w : World) (s : Scope) (seats : List NamedSeat) (c : Cells) (m : Moment) (place : Place) (operator : BinaryOperator) (a b : Exp16) → PairFits operator (value_of w s (left_place place operator (kind_of s a) (kind_of s b)) a m).value (value_of w s (right_place place operator (kind_of s a) (kind_of s b)) b m).value → Operands w s seats c m (left_place place operator (kind_of s a) (kind_of s b)) (right_place place operator (kind_of s a) (kind_of s b)) a b → IfSome (with_two (binary_ready operator) (asked_ready s seats (left_place place operator (kind_of s a) (kind_of s b)) its_value a) (asked_ready s seats (right_place place operator (kind_of s a) (kind_of s b)) its_value b)) (Holds c m its_value (value_of w s place (binary operator a b)))
binary_runs w s seats c m place And a b fit both =
    if_two (Holds c m its_value (value_of w s (value boolean) a)) (Holds c m its_value (value_of w s (value boolean) b)) _ ready.both (asked_ready s seats (value boolean) its_value a) (asked_ready s seats (value boolean) its_value b)
    (λ x y h k. both_runs m (ready_value c m.unparsed x) (ready_value c m.unparsed y) (value_of w s (value boolean) a) (value_of w s (value boolean) b) h k) both.0 both.1
binary_runs w s seats c m place Or a b fit both =
    if_two (Holds c m its_value (value_of w s (value boolean) a)) (Holds c m its_value (value_of w s (value boolean) b)) _ ready.either (asked_ready s seats (value boolean) its_value a) (asked_ready s seats (value boolean) its_value b)
    (λ x y h k. either_runs m (ready_value c m.unparsed x) (ready_value c m.unparsed y) (value_of w s (value boolean) a) (value_of w s (value boolean) b) h k) both.0 both.1
binary_runs w s seats c m place Multiply a b fit both = pair_runs w s seats c m Multiply (left_place place Multiply (kind_of s a) (kind_of s b)) (right_place place Multiply (kind_of s a) (kind_of s b)) a b fit both
binary_runs w s seats c m place Add a b fit both = pair_runs w s seats c m Add (left_place place Add (kind_of s a) (kind_of s b)) (right_place place Add (kind_of s a) (kind_of s b)) a b fit both
binary_runs w s seats c m place Subtract a b fit both = pair_runs w s seats c m Subtract (left_place place Subtract (kind_of s a) (kind_of s b)) (right_place place Subtract (kind_of s a) (kind_of s b)) a b fit both
binary_runs w s seats c m place SaturatingAdd a b fit both = pair_runs w s seats c m SaturatingAdd (left_place place SaturatingAdd (kind_of s a) (kind_of s b)) (right_place place SaturatingAdd (kind_of s a) (kind_of s b)) a b fit both
binary_runs w s seats c m place SaturatingSubtract a b fit both = pair_runs w s seats c m SaturatingSubtract (left_place place SaturatingSubtract (kind_of s a) (kind_of s b)) (right_place place SaturatingSubtract (kind_of s a) (kind_of s b)) a b fit both
binary_runs w s seats c m place Concatenate a b fit both = pair_runs w s seats c m Concatenate (left_place place Concatenate (kind_of s a) (kind_of s b)) (right_place place Concatenate (kind_of s a) (kind_of s b)) a b fit both
binary_runs w s seats c m place ShiftLeft a b fit both = pair_runs w s seats c m ShiftLeft (left_place place ShiftLeft (kind_of s a) (kind_of s b)) (right_place place ShiftLeft (kind_of s a) (kind_of s b)) a b fit both
binary_runs w s seats c m place ShiftRight a b fit both = pair_runs w s seats c m ShiftRight (left_place place ShiftRight (kind_of s a) (kind_of s b)) (right_place place ShiftRight (kind_of s a) (kind_of s b)) a b fit both
binary_runs w s seats c m place BitAnd a b fit both = pair_runs w s seats c m BitAnd (left_place place BitAnd (kind_of s a) (kind_of s b)) (right_place place BitAnd (kind_of s a) (kind_of s b)) a b fit both
binary_runs w s seats c m place BitXor a b fit both = pair_runs w s seats c m BitXor (left_place place BitXor (kind_of s a) (kind_of s b)) (right_place place BitXor (kind_of s a) (kind_of s b)) a b fit both
binary_runs w s seats c m place BitOr a b fit both = pair_runs w s seats c m BitOr (left_place place BitOr (kind_of s a) (kind_of s b)) (right_place place BitOr (kind_of s a) (kind_of s b)) a b fit both
binary_runs w s seats c m place Less a b fit both = pair_runs w s seats c m Less (left_place place Less (kind_of s a) (kind_of s b)) (right_place place Less (kind_of s a) (kind_of s b)) a b fit both
binary_runs w s seats c m place LessEqual a b fit both = pair_runs w s seats c m LessEqual (left_place place LessEqual (kind_of s a) (kind_of s b)) (right_place place LessEqual (kind_of s a) (kind_of s b)) a b fit both
binary_runs w s seats c m place Greater a b fit both = pair_runs w s seats c m Greater (left_place place Greater (kind_of s a) (kind_of s b)) (right_place place Greater (kind_of s a) (kind_of s b)) a b fit both
binary_runs w s seats c m place GreaterEqual a b fit both = pair_runs w s seats c m GreaterEqual (left_place place GreaterEqual (kind_of s a) (kind_of s b)) (right_place place GreaterEqual (kind_of s a) (kind_of s b)) a b fit both
binary_runs w s seats c m place Equal a b fit both = pair_runs w s seats c m Equal (left_place place Equal (kind_of s a) (kind_of s b)) (right_place place Equal (kind_of s a) (kind_of s b)) a b fit both
binary_runs w s seats c m place NotEqual a b fit both = pair_runs w s seats c m NotEqual (left_place place NotEqual (kind_of s a) (kind_of s b)) (right_place place NotEqual (kind_of s a) (kind_of s b)) a b fit both

chosen_runs : (w : World) (s : Scope) (seats : List NamedSeat) (c : Cells) (m : Moment) (p q : Place) (way : Way) (d a b : Exp16) → IfSome (asked_ready s seats p its_value d) (Holds c m its_value (value_of w s p d)) → IfSome (asked_ready s seats q way a) (Holds c m way (value_of w s q a)) → IfSome (asked_ready s seats q way b) (Holds c m way (value_of w s q b)) → IfSome (with_three ready.choice (asked_ready s seats p its_value d) (asked_ready s seats q way a) (asked_ready s seats q way b)) (Holds c m way (λ n. cond (is_true (value_of w s p d n).value) (value_of w s q a (value_of w s p d n).moment) (value_of w s q b (value_of w s p d n).moment)))
chosen_runs w s seats c m p q way d a b first positive other =
    if_three (Holds c m its_value (value_of w s p d)) (Holds c m way (value_of w s q a)) (Holds c m way (value_of w s q b)) _ ready.choice (asked_ready s seats p its_value d) (asked_ready s seats q way a) (asked_ready s seats q way b)
    (λ x y z h k l. choice_runs m way (ready_value c m.unparsed x) (ready_value c m.unparsed y) (ready_value c m.unparsed z) (value_of w s p d) (value_of w s q a) (value_of w s q b) h k l) first positive other

-- an expression that holds one other
operand_runs : (c : Cells) (m : Moment) (way : Way) (o : Option Ready) (evaluate further : Moment → Valued) (g : Ready → Ready) → ((r : Ready) → Holds c m its_value evaluate r → Holds c m its_value further (g r)) → IfSome o (Holds c m its_value evaluate) → IfSome (alone way (option_map g o)) (Holds c m way further)
operand_runs c m way o evaluate further g step h =
    if_alone c m way (option_map g o) further (if_map (Holds c m its_value evaluate) (Holds c m its_value further) g o step h)

pub expression_runs : (w : World) (s : Scope) (seats : List NamedSeat) (c : Cells) (m : Moment) → m.stopped ≡ None → NamesGive w s seats c m → (p : Place) (way : Way) (e : Exp16) → OperandsFit w s m p e → IfSome (asked_ready s seats p way e) (Holds c m way (value_of w s p e))
expression_runs w s seats c m runs names p way (literal n) fit = if_alone c m way (Some (ready.constant (literal_number p n))) (valued (literal_number p n)) (constant_runs m (literal_number p n))
expression_runs w s seats c m runs names p way (truth holds) fit = if_alone c m way (Some (ready.constant (a_truth holds))) (valued (a_truth holds)) (constant_runs m (a_truth holds))
expression_runs w s seats c m runs names p way error fit = tt
expression_runs w s seats c m runs names p way (name text) fit = name_runs w s seats c m p way text names
expression_runs w s seats c m runs names p way (member e word) fit =
    members_run w s c m (kind_of s e) e word way (λ further. asked_ready s seats owner further e) runs (λ further. expression_runs w s seats c m runs names owner further e fit)
expression_runs w s seats c m runs names p way (index e at) fit =
    if_more (Holds c m (through_element at.value way) (value_of w s a_stack e)) (Holds c m way (value_of w s p (index e at))) (asked_ready s seats a_stack (through_element at.value way) e)
    (λ r h. element_runs m (ready_value c m.unparsed r) at.value way (value_of w s a_stack e) h)
    (expression_runs w s seats c m runs names a_stack (through_element at.value way) e fit)
expression_runs w s seats c m runs names p way (slice e high low) fit =
    operand_runs c m way (asked_ready s seats any_bits its_value e) (value_of w s any_bits e) (value_of w s p (slice e high low)) (slice_ready high low)
    (λ r h. one_runs m (ready_value c m.unparsed r) (value_of w s any_bits e) (λ x. given (a_number (suc high.value - low.value) (sliced (slice_of high low) (number_in x)))) (λ x. a_number (suc high.value - low.value) (sliced (slice_of high low) (number_in x))) (λ v. refl) h)
    (expression_runs w s seats c m runs names any_bits its_value e fit)
expression_runs w s seats c m runs names p way (call (member e word) given_to) fit =
    methods_run w c m (kind_of s e) e way (λ further. asked_ready s seats owner further e) (value_of w s owner e) (λ further. expression_runs w s seats c m runs names owner further e fit)
expression_runs w s seats c m runs names p way (call (literal n) given_to) fit = tt
expression_runs w s seats c m runs names p way (call (truth holds) given_to) fit = tt
expression_runs w s seats c m runs names p way (call error given_to) fit = tt
expression_runs w s seats c m runs names p way (call (name text) given_to) fit = tt
expression_runs w s seats c m runs names p way (call (index e at) given_to) fit = tt
expression_runs w s seats c m runs names p way (call (slice e high low) given_to) fit = tt
expression_runs w s seats c m runs names p way (call (call f other) given_to) fit = tt
expression_runs w s seats c m runs names p way (call (lookahead e to other) given_to) fit = tt
expression_runs w s seats c m runs names p way (call (cast to e) given_to) fit = tt
expression_runs w s seats c m runs names p way (call (unary operator e) given_to) fit = tt
expression_runs w s seats c m runs names p way (call (binary operator a b) given_to) fit = tt
expression_runs w s seats c m runs names p way (call (choice d a b) given_to) fit = tt
expression_runs w s seats c m runs names p way (call (parenthesized e) given_to) fit = tt
expression_runs w s seats c m runs names p way (call no_arguments given_to) fit = tt
expression_runs w s seats c m runs names p way (call (argument before last) given_to) fit = tt
expression_runs w s seats c m runs names p way (call (listed es) given_to) fit = tt
expression_runs w s seats c m runs names p way (lookahead e to given_to) fit = lookahead_runs c m way (kind_of_type s.names to) runs
expression_runs w s seats c m runs names p way (cast to e) fit =
    operand_runs c m way (asked_ready s seats (cast_place to) its_value e) (value_of w s (cast_place to) e) (value_of w s p (cast to e)) (cast_ready to)
    (λ r h. cast_runs c m to (value_of w s (cast_place to) e) r h)
    (expression_runs w s seats c m runs names (cast_place to) its_value e fit)
expression_runs w s seats c m runs names p way (unary operator e) fit =
    let q = unary_place p operator (kind_of s e) in
    operand_runs c m way (asked_ready s seats q its_value e) (value_of w s q e) (value_of w s p (unary operator e)) (ready.unary operator)
    (λ r h. one_runs m (ready_value c m.unparsed r) (value_of w s q e) (λ x. given (unary_value operator x)) (unary_value operator) (λ v. refl) h)
    (expression_runs w s seats c m runs names q its_value e fit)
expression_runs w s seats c m runs names p way (binary operator a b) fit =
    let l = left_place p operator (kind_of s a) (kind_of s b) in
    let r = right_place p operator (kind_of s a) (kind_of s b) in
    if_alone c m way (with_two (binary_ready operator) (asked_ready s seats l its_value a) (asked_ready s seats r its_value b)) (value_of w s p (binary operator a b))
    (binary_runs w s seats c m p operator a b fit.2 (expression_runs w s seats c m runs names l its_value a fit.0, expression_runs w s seats c m runs names r its_value b fit.1))
expression_runs w s seats c m runs names p way (choice d a b) fit =
    let q = chosen_place p (kind_of s a) (kind_of s b) in
    chosen_runs w s seats c m (value boolean) q way d a b
    (expression_runs w s seats c m runs names (value boolean) its_value d fit.0)
    (expression_runs w s seats c m runs names q way a fit.1)
    (expression_runs w s seats c m runs names q way b fit.2)
expression_runs w s seats c m runs names p way (parenthesized e) fit = tt
expression_runs w s seats c m runs names p way no_arguments fit = tt
expression_runs w s seats c m runs names p way (argument before last) fit = tt
expression_runs w s seats c m runs names p way (listed es) fit = tt

-- the law
pub ready_gives : (w : World) (s : Scope) (seats : List NamedSeat) (c : Cells) (m : Moment) (p : Place) (way : Way) (e : Exp16) → m.stopped ≡ None → NamesGive w s seats c m → OperandsFit w s m p e → IfSome (asked_ready s seats p way e) (λ r. Gives (ready_value c m.unparsed r) way (value_of w s p e m) m)
ready_gives w s seats c m p way e runs names fit =
    if_more (Holds c m way (value_of w s p e)) (λ (r : Ready). Gives (ready_value c m.unparsed r) way (value_of w s p e m) m) (asked_ready s seats p way e)
    (λ r h. h.gives) (expression_runs w s seats c m runs names p way e fit)
