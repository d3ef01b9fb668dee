-- Where names are of their kinds and operands of kinds that the rules allow, values are of their kinds, and operands fit.
use Rattle.std.proofs.Common.{◌≡◌, ℕ, Bool, true, false, cond, Option, Some, None, List, length, take, refl, sym, subst}
use Rattle.p4x_bits.specs.BitLists.{num, octet_bits}
use Rattle.p416_syntax.specs.declared.node.BinaryOperator.{BinaryOperator}
use Rattle.p416_syntax.specs.declared.node.BinaryOperator.TheVariants.{Multiply, Add, Subtract, SaturatingAdd, SaturatingSubtract, Concatenate, ShiftLeft, ShiftRight, BitAnd, BitXor, BitOr, Less, LessEqual, Greater, GreaterEqual, Equal, NotEqual, And, Or}
use Rattle.p416_syntax.specs.Tree.{Exp16, literal, truth, error, name, member, index, slice, call, lookahead, cast, unary, binary, choice, parenthesized, no_arguments, argument, listed}
use Rattle.p416_syntax.specs.Names.{Name}
use Rattle.p416_syntax.specs.Kinds.{Kind, bits, unsized, boolean, error_code, header, stack, struct, packet_in, packet_out, errors, enumeration, one_of, table, applied, object, items, nothing, unknown}
use Rattle.p416_syntax.specs.Scopes.{Layout as TypeLayout, Scope, sort_of, kind_of_type}
use Rattle.p416_syntax.specs.Calls.{Place, value, any_bits, owner, a_stack, method_signature}
use Rattle.p416_syntax.specs.Expressions.{kind_of, call_kind, binary_kind, same_choice, sort_kind}
use Rattle.p416_syntax.specs.Uses.{unary_place, left_place, right_place, cast_place, chosen_place}
use Rattle.v1_core.specs.declared.parser_error.ParserError.{ParserError}
use Rattle.v1_core.specs.declared.parser_error.ParserError.TheVariants.{PacketTooShort, StackOutOfBounds}
use Rattle.v1_core.specs.Values.{a_number, header_in, place_in, elements_in, no_value, is_true, number_in, sliced}
use Rattle.v1_core.specs.Numbers.{binary_value}
use Rattle.v1_core.specs.Frames.{Frame, Moment, read, raised, is_stopped}
use Rattle.v1_core.specs.Surroundings.{World, named}
use Rattle.v1_core.specs.Expressions.{Valued, valued, literal_number, member_value, method_value, has_bits, lookahead_value, is_beyond, slice_of as slice_from, value_of}
use Rattle.v1_core.specs.Cells.{Cells}
use Rattle.v1_ready_laws.specs.Operands.{OperandsFit}
use Rattle.v1_ready_laws.specs.Kinds.{IsOfAt, NamesAreOf, TypesSized, KindsFit, IsNoTable, OperandKindsFit}
use Rattle.v1_ready_laws.proofs.OfKinds.{nothing_of, truth_of, member_of, indexed_of, slice_of, cast_of, lookahead_of, unary_of, binary_of, first_of, second_of, pair_fits}

-- a value of a kind at its place, evaluated without changing the frame
pub record Typed (types : List TypeLayout) (c : Cells) (f : Frame) (p : Place) (k : Kind) (x : Valued) : Type 0 where
  pub is : IsOfAt types c p k x.value
  pub same : x.moment.frame ≡ f

-- an error that is raised leaves the frame
raised_frame : (e : ParserError) (m : Moment) (f : Frame) → m.frame ≡ f → (raised e m).frame ≡ f
raised_frame e m f same = by (is_stopped m) where
  by : (t : Bool) → (let n : Moment = cond t m (record m { stopped = Some e }) in n.frame) ≡ f
  by true = same
  by false = same

literal_is : (types : List TypeLayout) (c : Cells) (p : Place) (width : Option ℕ) (number : ℕ) (s : Scope) → IsOfAt types c p (kind_of s (literal (record { width = width; value = number }))) (literal_number p (record { width = width; value = number }))
literal_is types c p (Some width) number s = refl
literal_is types c p None number s = refl

-- a member, by the kind of what stands before it
member_frame : (k : Kind) (word : Name) (x : Valued) (f : Frame) → x.moment.frame ≡ f → (member_value k word x).moment.frame ≡ f
member_frame (bits width) word x f same = same
member_frame unsized word x f same = same
member_frame boolean word x f same = same
member_frame error_code word x f same = same
member_frame (header type) word x f same = same
member_frame (stack type size) word x f same = bounded_frame (is_beyond word (place_in x.value) (length (elements_in x.value))) where
  bounded_frame : (t : Bool) → (let n : Moment = cond t (raised StackOutOfBounds x.moment) x.moment in n.frame) ≡ f
  bounded_frame true = raised_frame StackOutOfBounds x.moment f same
  bounded_frame false = same
member_frame (struct type) word x f same = same
member_frame packet_in word x f same = same
member_frame packet_out word x f same = same
member_frame errors word x f same = same
member_frame (enumeration enum) word x f same = same
member_frame (one_of enum) word x f same = same
member_frame table word x f same = same
member_frame applied word x f same = same
member_frame (object kind) word x f same = same
member_frame items word x f same = same
member_frame nothing word x f same = same
member_frame unknown word x f same = same

-- a method that gives a value, but for `apply`
method_typed : (types : List TypeLayout) (c : Cells) (f : Frame) (w : World) (p : Place) (k : Kind) (e : Exp16) (word : Name) (x : Valued) → IsNoTable k → x.moment.frame ≡ f → Typed types c f p (call_kind (method_signature k word)) (method_value w k e x)
method_typed types c f w p (bits width) e word x never same = record { is = nothing_of types c p (call_kind (method_signature (bits width) word)); same = same }
method_typed types c f w p unsized e word x never same = record { is = nothing_of types c p (call_kind (method_signature unsized word)); same = same }
method_typed types c f w p boolean e word x never same = record { is = nothing_of types c p (call_kind (method_signature boolean word)); same = same }
method_typed types c f w p error_code e word x never same = record { is = nothing_of types c p (call_kind (method_signature error_code word)); same = same }
method_typed types c f w p (header type) e word x never same = record { is = truth_of types c p (call_kind (method_signature (header type) word)) (header_in x.value).valid; same = same }
method_typed types c f w p (stack type size) e word x never same = record { is = nothing_of types c p (call_kind (method_signature (stack type size) word)); same = same }
method_typed types c f w p (struct type) e word x never same = record { is = nothing_of types c p (call_kind (method_signature (struct type) word)); same = same }
method_typed types c f w p packet_in e word x never same = record { is = nothing_of types c p (call_kind (method_signature packet_in word)); same = same }
method_typed types c f w p packet_out e word x never same = record { is = nothing_of types c p (call_kind (method_signature packet_out word)); same = same }
method_typed types c f w p errors e word x never same = record { is = nothing_of types c p (call_kind (method_signature errors word)); same = same }
method_typed types c f w p (enumeration enum) e word x never same = record { is = nothing_of types c p (call_kind (method_signature (enumeration enum) word)); same = same }
method_typed types c f w p (one_of enum) e word x never same = record { is = nothing_of types c p (call_kind (method_signature (one_of enum) word)); same = same }
method_typed types c f w p table e word x never same = absurd never
method_typed types c f w p applied e word x never same = record { is = nothing_of types c p (call_kind (method_signature applied word)); same = same }
method_typed types c f w p (object kind) e word x never same = record { is = nothing_of types c p (call_kind (method_signature (object kind) word)); same = same }
method_typed types c f w p items e word x never same = record { is = nothing_of types c p (call_kind (method_signature items word)); same = same }
method_typed types c f w p nothing e word x never same = record { is = nothing_of types c p (call_kind (method_signature nothing word)); same = same }
method_typed types c f w p unknown e word x never same = record { is = nothing_of types c p (call_kind (method_signature unknown word)); same = same }

ahead_frame : (k : Kind) (m : Moment) (f : Frame) → m.frame ≡ f → (lookahead_value k m).moment.frame ≡ f
ahead_frame (bits width) m f same = by (has_bits m width) where
  by : (t : Bool) → (let x : Valued = cond t (valued (a_number width (num (take width (octet_bits m.unparsed)))) m) (valued (a_number width 0) (raised PacketTooShort m)) in x.moment.frame) ≡ f
  by true = same
  by false = raised_frame PacketTooShort m f same
ahead_frame unsized m f same = same
ahead_frame boolean m f same = same
ahead_frame error_code m f same = same
ahead_frame (header type) m f same = same
ahead_frame (stack type size) m f same = same
ahead_frame (struct type) m f same = same
ahead_frame packet_in m f same = same
ahead_frame packet_out m f same = same
ahead_frame errors m f same = same
ahead_frame (enumeration enum) m f same = same
ahead_frame (one_of enum) m f same = same
ahead_frame table m f same = same
ahead_frame applied m f same = same
ahead_frame (object kind) m f same = same
ahead_frame items m f same = same
ahead_frame nothing m f same = same
ahead_frame unknown m f same = same

-- `&&`, `||` and `? :` evaluate what they need

either_typed : (types : List TypeLayout) (c : Cells) (f : Frame) (p : Place) (k : Kind) (t : Bool) (x y : Valued) → Typed types c f p k x → Typed types c f p k y → Typed types c f p k (cond t x y)
either_typed types c f p k true x y h l = h
either_typed types c f p k false x y h l = l

-- a truth value, whatever it is
either_frame : (types : List TypeLayout) (c : Cells) (f : Frame) (p : Place) (t : Bool) (x y : Valued) → x.moment.frame ≡ f → y.moment.frame ≡ f → Typed types c f p boolean (cond t x y)
either_frame types c f p true x y a b = record { is = tt; same = a }
either_frame types c f p false x y a b = record { is = tt; same = b }

pair_typed : (types : List TypeLayout) (c : Cells) (f : Frame) (p : Place) (operator : BinaryOperator) (a b : Kind) (x y : Valued) → KindsFit operator a b → Typed types c f (left_place p operator a b) a x → Typed types c f (right_place p operator a b) b y → Typed types c f p (binary_kind operator a b) (valued (binary_value operator x.value y.value) y.moment)
pair_typed types c f p operator a b x y fit h k = record { is = binary_of types c p operator a b x.value y.value fit h.is k.is; same = k.same }

-- an operator, where its operands are of their kinds, the second one in the moment that the first one leaves
binary_typed : (w : World) (s : Scope) (c : Cells) (f : Frame) (p : Place) (operator : BinaryOperator) (a b : Exp16) (n : Moment) → KindsFit operator (kind_of s a) (kind_of s b) → Typed s.layouts c f (left_place p operator (kind_of s a) (kind_of s b)) (kind_of s a) (value_of w s (left_place p operator (kind_of s a) (kind_of s b)) a n) → ((m : Moment) → m.frame ≡ f → Typed s.layouts c f (right_place p operator (kind_of s a) (kind_of s b)) (kind_of s b) (value_of w s (right_place p operator (kind_of s a) (kind_of s b)) b m)) → Typed s.layouts c f p (binary_kind operator (kind_of s a) (kind_of s b)) (value_of w s p (binary operator a b) n)
binary_typed w s c f p And a b n fit h k = either_frame s.layouts c f p (is_true (value_of w s (value boolean) a n).value) (value_of w s (value boolean) b (value_of w s (value boolean) a n).moment) (value_of w s (value boolean) a n) (k (value_of w s (value boolean) a n).moment h.same).same h.same
binary_typed w s c f p Or a b n fit h k = either_frame s.layouts c f p (is_true (value_of w s (value boolean) a n).value) (value_of w s (value boolean) a n) (value_of w s (value boolean) b (value_of w s (value boolean) a n).moment) h.same (k (value_of w s (value boolean) a n).moment h.same).same
binary_typed w s c f p Multiply a b n fit h k = pair_typed s.layouts c f p Multiply (kind_of s a) (kind_of s b) (value_of w s (left_place p Multiply (kind_of s a) (kind_of s b)) a n) (value_of w s (right_place p Multiply (kind_of s a) (kind_of s b)) b (value_of w s (left_place p Multiply (kind_of s a) (kind_of s b)) a n).moment) fit h (k (value_of w s (left_place p Multiply (kind_of s a) (kind_of s b)) a n).moment h.same)
binary_typed w s c f p Add a b n fit h k = pair_typed s.layouts c f p Add (kind_of s a) (kind_of s b) (value_of w s (left_place p Add (kind_of s a) (kind_of s b)) a n) (value_of w s (right_place p Add (kind_of s a) (kind_of s b)) b (value_of w s (left_place p Add (kind_of s a) (kind_of s b)) a n).moment) fit h (k (value_of w s (left_place p Add (kind_of s a) (kind_of s b)) a n).moment h.same)
binary_typed w s c f p Subtract a b n fit h k = pair_typed s.layouts c f p Subtract (kind_of s a) (kind_of s b) (value_of w s (left_place p Subtract (kind_of s a) (kind_of s b)) a n) (value_of w s (right_place p Subtract (kind_of s a) (kind_of s b)) b (value_of w s (left_place p Subtract (kind_of s a) (kind_of s b)) a n).moment) fit h (k (value_of w s (left_place p Subtract (kind_of s a) (kind_of s b)) a n).moment h.same)
binary_typed w s c f p SaturatingAdd a b n fit h k = pair_typed s.layouts c f p SaturatingAdd (kind_of s a) (kind_of s b) (value_of w s (left_place p SaturatingAdd (kind_of s a) (kind_of s b)) a n) (value_of w s (right_place p SaturatingAdd (kind_of s a) (kind_of s b)) b (value_of w s (left_place p SaturatingAdd (kind_of s a) (kind_of s b)) a n).moment) fit h (k (value_of w s (left_place p SaturatingAdd (kind_of s a) (kind_of s b)) a n).moment h.same)
binary_typed w s c f p SaturatingSubtract a b n fit h k = pair_typed s.layouts c f p SaturatingSubtract (kind_of s a) (kind_of s b) (value_of w s (left_place p SaturatingSubtract (kind_of s a) (kind_of s b)) a n) (value_of w s (right_place p SaturatingSubtract (kind_of s a) (kind_of s b)) b (value_of w s (left_place p SaturatingSubtract (kind_of s a) (kind_of s b)) a n).moment) fit h (k (value_of w s (left_place p SaturatingSubtract (kind_of s a) (kind_of s b)) a n).moment h.same)
binary_typed w s c f p Concatenate a b n fit h k = pair_typed s.layouts c f p Concatenate (kind_of s a) (kind_of s b) (value_of w s (left_place p Concatenate (kind_of s a) (kind_of s b)) a n) (value_of w s (right_place p Concatenate (kind_of s a) (kind_of s b)) b (value_of w s (left_place p Concatenate (kind_of s a) (kind_of s b)) a n).moment) fit h (k (value_of w s (left_place p Concatenate (kind_of s a) (kind_of s b)) a n).moment h.same)
binary_typed w s c f p ShiftLeft a b n fit h k = pair_typed s.layouts c f p ShiftLeft (kind_of s a) (kind_of s b) (value_of w s (left_place p ShiftLeft (kind_of s a) (kind_of s b)) a n) (value_of w s (right_place p ShiftLeft (kind_of s a) (kind_of s b)) b (value_of w s (left_place p ShiftLeft (kind_of s a) (kind_of s b)) a n).moment) fit h (k (value_of w s (left_place p ShiftLeft (kind_of s a) (kind_of s b)) a n).moment h.same)
binary_typed w s c f p ShiftRight a b n fit h k = pair_typed s.layouts c f p ShiftRight (kind_of s a) (kind_of s b) (value_of w s (left_place p ShiftRight (kind_of s a) (kind_of s b)) a n) (value_of w s (right_place p ShiftRight (kind_of s a) (kind_of s b)) b (value_of w s (left_place p ShiftRight (kind_of s a) (kind_of s b)) a n).moment) fit h (k (value_of w s (left_place p ShiftRight (kind_of s a) (kind_of s b)) a n).moment h.same)
binary_typed w s c f p BitAnd a b n fit h k = pair_typed s.layouts c f p BitAnd (kind_of s a) (kind_of s b) (value_of w s (left_place p BitAnd (kind_of s a) (kind_of s b)) a n) (value_of w s (right_place p BitAnd (kind_of s a) (kind_of s b)) b (value_of w s (left_place p BitAnd (kind_of s a) (kind_of s b)) a n).moment) fit h (k (value_of w s (left_place p BitAnd (kind_of s a) (kind_of s b)) a n).moment h.same)
binary_typed w s c f p BitXor a b n fit h k = pair_typed s.layouts c f p BitXor (kind_of s a) (kind_of s b) (value_of w s (left_place p BitXor (kind_of s a) (kind_of s b)) a n) (value_of w s (right_place p BitXor (kind_of s a) (kind_of s b)) b (value_of w s (left_place p BitXor (kind_of s a) (kind_of s b)) a n).moment) fit h (k (value_of w s (left_place p BitXor (kind_of s a) (kind_of s b)) a n).moment h.same)
binary_typed w s c f p BitOr a b n fit h k = pair_typed s.layouts c f p BitOr (kind_of s a) (kind_of s b) (value_of w s (left_place p BitOr (kind_of s a) (kind_of s b)) a n) (value_of w s (right_place p BitOr (kind_of s a) (kind_of s b)) b (value_of w s (left_place p BitOr (kind_of s a) (kind_of s b)) a n).moment) fit h (k (value_of w s (left_place p BitOr (kind_of s a) (kind_of s b)) a n).moment h.same)
binary_typed w s c f p Less a b n fit h k = pair_typed s.layouts c f p Less (kind_of s a) (kind_of s b) (value_of w s (left_place p Less (kind_of s a) (kind_of s b)) a n) (value_of w s (right_place p Less (kind_of s a) (kind_of s b)) b (value_of w s (left_place p Less (kind_of s a) (kind_of s b)) a n).moment) fit h (k (value_of w s (left_place p Less (kind_of s a) (kind_of s b)) a n).moment h.same)
binary_typed w s c f p LessEqual a b n fit h k = pair_typed s.layouts c f p LessEqual (kind_of s a) (kind_of s b) (value_of w s (left_place p LessEqual (kind_of s a) (kind_of s b)) a n) (value_of w s (right_place p LessEqual (kind_of s a) (kind_of s b)) b (value_of w s (left_place p LessEqual (kind_of s a) (kind_of s b)) a n).moment) fit h (k (value_of w s (left_place p LessEqual (kind_of s a) (kind_of s b)) a n).moment h.same)
binary_typed w s c f p Greater a b n fit h k = pair_typed s.layouts c f p Greater (kind_of s a) (kind_of s b) (value_of w s (left_place p Greater (kind_of s a) (kind_of s b)) a n) (value_of w s (right_place p Greater (kind_of s a) (kind_of s b)) b (value_of w s (left_place p Greater (kind_of s a) (kind_of s b)) a n).moment) fit h (k (value_of w s (left_place p Greater (kind_of s a) (kind_of s b)) a n).moment h.same)
binary_typed w s c f p GreaterEqual a b n fit h k = pair_typed s.layouts c f p GreaterEqual (kind_of s a) (kind_of s b) (value_of w s (left_place p GreaterEqual (kind_of s a) (kind_of s b)) a n) (value_of w s (right_place p GreaterEqual (kind_of s a) (kind_of s b)) b (value_of w s (left_place p GreaterEqual (kind_of s a) (kind_of s b)) a n).moment) fit h (k (value_of w s (left_place p GreaterEqual (kind_of s a) (kind_of s b)) a n).moment h.same)
binary_typed w s c f p Equal a b n fit h k = pair_typed s.layouts c f p Equal (kind_of s a) (kind_of s b) (value_of w s (left_place p Equal (kind_of s a) (kind_of s b)) a n) (value_of w s (right_place p Equal (kind_of s a) (kind_of s b)) b (value_of w s (left_place p Equal (kind_of s a) (kind_of s b)) a n).moment) fit h (k (value_of w s (left_place p Equal (kind_of s a) (kind_of s b)) a n).moment h.same)
binary_typed w s c f p NotEqual a b n fit h k = pair_typed s.layouts c f p NotEqual (kind_of s a) (kind_of s b) (value_of w s (left_place p NotEqual (kind_of s a) (kind_of s b)) a n) (value_of w s (right_place p NotEqual (kind_of s a) (kind_of s b)) b (value_of w s (left_place p NotEqual (kind_of s a) (kind_of s b)) a n).moment) fit h (k (value_of w s (left_place p NotEqual (kind_of s a) (kind_of s b)) a n).moment h.same)

-- an expression that is no value
none_typed : (types : List TypeLayout) (c : Cells) (f : Frame) (p : Place) (k : Kind) (m : Moment) → m.frame ≡ f → Typed types c f p k (valued no_value m)
none_typed types c f p k m same = record { is = nothing_of types c p k; same = same }

pub value_typed : (w : World) (s : Scope) (c : Cells) (f : Frame) → TypesSized s.layouts → NamesAreOf w s c f → (p : Place) (e : Exp16) (m : Moment) → m.frame ≡ f → OperandKindsFit s e → Typed s.layouts c f p (kind_of s e) (value_of w s p e m)
value_typed w s c f sized names p (literal n) m same fit = record { is = literal_is s.layouts c p n.width n.value s; same = same }
value_typed w s c f sized names p (truth holds) m same fit = record { is = tt; same = same }
value_typed w s c f sized names p error m same fit = record { is = tt; same = same }
value_typed w s c f sized names p (name text) m same fit = record {
  is = subst (λ (g : Frame). IsOfAt s.layouts c p (sort_kind (sort_of s text)) (read g (named w.around g text))) (sym same) (names p text);
  same = same;
}
value_typed w s c f sized names p (member e word) m same fit =
    let h = value_typed w s c f sized names owner e m same fit in
    record {
      is = member_of s.layouts c p owner (kind_of s e) word (value_of w s owner e m) sized h.is;
      same = member_frame (kind_of s e) word (value_of w s owner e m) f h.same;
    }
value_typed w s c f sized names p (index e at) m same fit =
    let h = value_typed w s c f sized names a_stack e m same fit in
    record { is = indexed_of s.layouts c p a_stack (kind_of s e) (value_of w s a_stack e m).value at.value h.is; same = h.same }
value_typed w s c f sized names p (slice e high low) m same fit =
    let h = value_typed w s c f sized names any_bits e m same fit in
    record { is = slice_of s.layouts c p (kind_of s e) high low (sliced (slice_from high low) (number_in (value_of w s any_bits e m).value)); same = h.same }
value_typed w s c f sized names p (call (member e word) handed) m same fit =
    method_typed s.layouts c f w p (kind_of s e) e word (value_of w s owner e m) fit.0 (value_typed w s c f sized names owner e m same fit.1).same
value_typed w s c f sized names p (call (literal n) handed) m same fit = none_typed s.layouts c f p (kind_of s (call (literal n) handed)) m same
value_typed w s c f sized names p (call (truth holds) handed) m same fit = none_typed s.layouts c f p (kind_of s (call (truth holds) handed)) m same
value_typed w s c f sized names p (call error handed) m same fit = none_typed s.layouts c f p (kind_of s (call error handed)) m same
value_typed w s c f sized names p (call (name text) handed) m same fit = none_typed s.layouts c f p (kind_of s (call (name text) handed)) m same
value_typed w s c f sized names p (call (index e at) handed) m same fit = none_typed s.layouts c f p (kind_of s (call (index e at) handed)) m same
value_typed w s c f sized names p (call (slice e high low) handed) m same fit = none_typed s.layouts c f p (kind_of s (call (slice e high low) handed)) m same
value_typed w s c f sized names p (call (call g other) handed) m same fit = none_typed s.layouts c f p (kind_of s (call (call g other) handed)) m same
value_typed w s c f sized names p (call (lookahead e to other) handed) m same fit = none_typed s.layouts c f p (kind_of s (call (lookahead e to other) handed)) m same
value_typed w s c f sized names p (call (cast to e) handed) m same fit = none_typed s.layouts c f p (kind_of s (call (cast to e) handed)) m same
value_typed w s c f sized names p (call (unary operator e) handed) m same fit = none_typed s.layouts c f p (kind_of s (call (unary operator e) handed)) m same
value_typed w s c f sized names p (call (binary operator a b) handed) m same fit = none_typed s.layouts c f p (kind_of s (call (binary operator a b) handed)) m same
value_typed w s c f sized names p (call (choice d a b) handed) m same fit = none_typed s.layouts c f p (kind_of s (call (choice d a b) handed)) m same
value_typed w s c f sized names p (call (parenthesized e) handed) m same fit = none_typed s.layouts c f p (kind_of s (call (parenthesized e) handed)) m same
value_typed w s c f sized names p (call no_arguments handed) m same fit = none_typed s.layouts c f p (kind_of s (call no_arguments handed)) m same
value_typed w s c f sized names p (call (argument before last) handed) m same fit = none_typed s.layouts c f p (kind_of s (call (argument before last) handed)) m same
value_typed w s c f sized names p (call (listed es) handed) m same fit = none_typed s.layouts c f p (kind_of s (call (listed es) handed)) m same
value_typed w s c f sized names p (lookahead e to handed) m same fit = record {
  is = lookahead_of s.layouts c p (kind_of s e) (kind_of_type s.names to) m;
  same = ahead_frame (kind_of_type s.names to) m f same;
}
value_typed w s c f sized names p (cast to e) m same fit =
    let h = value_typed w s c f sized names (cast_place to) e m same fit in
    record { is = cast_of s.layouts c p to (value_of w s (cast_place to) e m).value; same = h.same }
value_typed w s c f sized names p (unary operator e) m same fit =
    let q = unary_place p operator (kind_of s e) in
    let h = value_typed w s c f sized names q e m same fit in
    record { is = unary_of s.layouts c p operator (kind_of s e) (value_of w s q e m).value h.is; same = h.same }
value_typed w s c f sized names p (binary operator a b) m same fit =
    binary_typed w s c f p operator a b m fit.2
    (value_typed w s c f sized names (left_place p operator (kind_of s a) (kind_of s b)) a m same fit.0)
    (λ n at. value_typed w s c f sized names (right_place p operator (kind_of s a) (kind_of s b)) b n at fit.1)
value_typed w s c f sized names p (choice d a b) m same fit =
    let q = chosen_place p (kind_of s a) (kind_of s b) in
    let x = value_of w s (value boolean) d m in
    let first = value_typed w s c f sized names (value boolean) d m same fit.0 in
    let y = value_of w s q a x.moment in
    let z = value_of w s q b x.moment in
    let yes_typed = value_typed w s c f sized names q a x.moment first.same fit.1 in
    let no_typed = value_typed w s c f sized names q b x.moment first.same fit.2 in
    either_typed s.layouts c f p (same_choice (kind_of s a) (kind_of s b)) (is_true x.value) y z
    (record { is = first_of s.layouts c p (kind_of s a) (kind_of s b) y.value yes_typed.is; same = yes_typed.same })
    (record { is = second_of s.layouts c p (kind_of s a) (kind_of s b) z.value no_typed.is; same = no_typed.same })
value_typed w s c f sized names p (parenthesized e) m same fit = record { is = tt; same = same }
value_typed w s c f sized names p no_arguments m same fit = record { is = tt; same = same }
value_typed w s c f sized names p (argument before last) m same fit = record { is = tt; same = same }
value_typed w s c f sized names p (listed es) m same fit = record { is = tt; same = same }

-- operands fit
pub operands_fit : (w : World) (s : Scope) (c : Cells) (m : Moment) → TypesSized s.layouts → NamesAreOf w s c m.frame → (p : Place) (e : Exp16) → OperandKindsFit s e → OperandsFit w s m p e
operands_fit w s c m sized names p (literal n) fit = tt
operands_fit w s c m sized names p (truth holds) fit = tt
operands_fit w s c m sized names p error fit = tt
operands_fit w s c m sized names p (name text) fit = tt
operands_fit w s c m sized names p (member e word) fit = operands_fit w s c m sized names owner e fit
operands_fit w s c m sized names p (index e at) fit = operands_fit w s c m sized names a_stack e fit
operands_fit w s c m sized names p (slice e high low) fit = operands_fit w s c m sized names any_bits e fit
operands_fit w s c m sized names p (call (member e word) handed) fit = operands_fit w s c m sized names owner e fit.1
operands_fit w s c m sized names p (call (literal n) handed) fit = tt
operands_fit w s c m sized names p (call (truth holds) handed) fit = tt
operands_fit w s c m sized names p (call error handed) fit = tt
operands_fit w s c m sized names p (call (name text) handed) fit = tt
operands_fit w s c m sized names p (call (index e at) handed) fit = tt
operands_fit w s c m sized names p (call (slice e high low) handed) fit = tt
operands_fit w s c m sized names p (call (call g other) handed) fit = tt
operands_fit w s c m sized names p (call (lookahead e to other) handed) fit = tt
operands_fit w s c m sized names p (call (cast to e) handed) fit = tt
operands_fit w s c m sized names p (call (unary operator e) handed) fit = tt
operands_fit w s c m sized names p (call (binary operator a b) handed) fit = tt
operands_fit w s c m sized names p (call (choice d a b) handed) fit = tt
operands_fit w s c m sized names p (call (parenthesized e) handed) fit = tt
operands_fit w s c m sized names p (call no_arguments handed) fit = tt
operands_fit w s c m sized names p (call (argument before last) handed) fit = tt
operands_fit w s c m sized names p (call (listed es) handed) fit = tt
operands_fit w s c m sized names p (lookahead e to handed) fit = tt
operands_fit w s c m sized names p (cast to e) fit = operands_fit w s c m sized names (cast_place to) e fit
operands_fit w s c m sized names p (unary operator e) fit = operands_fit w s c m sized names (unary_place p operator (kind_of s e)) e fit
operands_fit w s c m sized names p (binary operator a b) fit =
    let l = left_place p operator (kind_of s a) (kind_of s b) in
    let r = right_place p operator (kind_of s a) (kind_of s b) in (
      operands_fit w s c m sized names l a fit.0,
      operands_fit w s c m sized names r b fit.1,
      pair_fits s.layouts c p operator (kind_of s a) (kind_of s b) (value_of w s l a m).value (value_of w s r b m).value fit.2
          (value_typed w s c m.frame sized names l a m refl fit.0).is (value_typed w s c m.frame sized names r b m refl fit.1).is,
    )
operands_fit w s c m sized names p (choice d a b) fit =
    let q = chosen_place p (kind_of s a) (kind_of s b) in
    (operands_fit w s c m sized names (value boolean) d fit.0, operands_fit w s c m sized names q a fit.1, operands_fit w s c m sized names q b fit.2)
operands_fit w s c m sized names p (parenthesized e) fit = tt
operands_fit w s c m sized names p no_arguments fit = tt
operands_fit w s c m sized names p (argument before last) fit = tt
operands_fit w s c m sized names p (listed es) fit = tt
