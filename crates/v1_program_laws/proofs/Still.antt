-- Where no table is applied, evaluating changes nothing in a moment that an error stopped.
use Rattle.std.proofs.Common.{◌≡◌, Bool, true, false, cond, is_some, Option, Some, length, refl, ap, ◌∙◌}
use Rattle.p416_syntax.specs.declared.node.BinaryOperator.{BinaryOperator}
use Rattle.p416_syntax.specs.declared.node.BinaryOperator.TheVariants.{Multiply, Add, Subtract, SaturatingAdd, SaturatingSubtract, Concatenate, ShiftLeft, ShiftRight, BitAnd, BitXor, BitOr, Less, LessEqual, Greater, GreaterEqual, Equal, NotEqual, And, Or}
use Rattle.p416_syntax.specs.Tree.{Exp16, literal, truth, error, name, member, index, slice, call, lookahead, cast, unary, binary, choice, parenthesized, no_arguments, argument, listed}
use Rattle.p416_syntax.specs.Names.{Name}
use Rattle.p416_syntax.specs.Kinds.{Kind, bits, unsized, boolean, error_code, header, stack, struct, packet_in, packet_out, errors, enumeration, one_of, table, applied, object, items, nothing, unknown}
use Rattle.p416_syntax.specs.Scopes.{Scope, kind_of_type}
use Rattle.p416_syntax.specs.Calls.{Place, value, any_bits, owner, a_stack}
use Rattle.p416_syntax.specs.Expressions.{kind_of}
use Rattle.p416_syntax.specs.Uses.{unary_place, left_place, right_place, cast_place, chosen_place}
use Rattle.v1_core.specs.declared.parser_error.ParserError.{ParserError}
use Rattle.v1_core.specs.declared.parser_error.ParserError.TheVariants.{PacketTooShort, StackOutOfBounds}
use Rattle.v1_core.specs.Values.{place_in, elements_in, is_true}
use Rattle.v1_core.specs.Frames.{Moment, raised}
use Rattle.v1_core.specs.Surroundings.{World}
use Rattle.v1_core.specs.Expressions.{Valued, is_beyond, bounded, member_value, method_value, name_in, has_bits, lookahead_value, value_of}
use Rattle.v1_program_laws.specs.Reaching.{Still}

-- no table is applied
abbrev pub Quiet : World → Type 0
Quiet w = (text : Name) (m : Moment) → (w.apply text m).moment ≡ m

raised_still : (f raised_one : ParserError) (m : Moment) → m.stopped ≡ Some raised_one → raised f m ≡ m
raised_still f raised_one m is = ap (λ (o : Option ParserError). cond (is_some o) m (record m { stopped = Some f })) is

either : {A : Type 0} (t : Bool) (x y z : A) → x ≡ z → y ≡ z → cond t x y ≡ z
either true x y z p q = p
either false x y z p q = q

either_moment : (t : Bool) (x y : Valued) (m : Moment) → x.moment ≡ m → y.moment ≡ m → (let v : Valued = cond t x y in v.moment) ≡ m
either_moment true x y m p q = p
either_moment false x y m p q = q

module _ (w : World) (s : Scope) (quiet : Quiet w) (error_is : ParserError) (m : Moment) (stopped : m.stopped ≡ Some error_is) where
  member_still : (k : Kind) (word : Name) (x : Valued) → x.moment ≡ m → (member_value k word x).moment ≡ m
  member_still (bits width) word x is = is
  member_still unsized word x is = is
  member_still boolean word x is = is
  member_still error_code word x is = is
  member_still (header type) word x is = is
  member_still (stack type size) word x is =
      ap (λ (n : Moment). bounded word x.value n) is ∙ either (is_beyond word (place_in x.value) (length (elements_in x.value))) (raised StackOutOfBounds m) m m (raised_still StackOutOfBounds error_is m stopped) refl
  member_still (struct type) word x is = is
  member_still packet_in word x is = is
  member_still packet_out word x is = is
  member_still errors word x is = is
  member_still (enumeration enum) word x is = is
  member_still (one_of enum) word x is = is
  member_still table word x is = is
  member_still applied word x is = is
  member_still (object obj) word x is = is
  member_still items word x is = is
  member_still nothing word x is = is
  member_still unknown word x is = is

  method_still : (k : Kind) (e : Exp16) (x : Valued) → x.moment ≡ m → (method_value w k e x).moment ≡ m
  method_still (bits width) e x is = is
  method_still unsized e x is = is
  method_still boolean e x is = is
  method_still error_code e x is = is
  method_still (header type) e x is = is
  method_still (stack type size) e x is = is
  method_still (struct type) e x is = is
  method_still packet_in e x is = is
  method_still packet_out e x is = is
  method_still errors e x is = is
  method_still (enumeration enum) e x is = is
  method_still (one_of enum) e x is = is
  method_still table e x is = ap (λ (n : Moment). (w.apply (name_in e) n).moment) is ∙ quiet (name_in e) m
  method_still applied e x is = is
  method_still (object obj) e x is = is
  method_still items e x is = is
  method_still nothing e x is = is
  method_still unknown e x is = is

  ahead_still : (k : Kind) → (lookahead_value k m).moment ≡ m
  ahead_still (bits width) =
      either_moment (has_bits m width) _ _ m refl (raised_still PacketTooShort error_is m stopped)
  ahead_still unsized = refl
  ahead_still boolean = refl
  ahead_still error_code = refl
  ahead_still (header type) = refl
  ahead_still (stack type size) = refl
  ahead_still (struct type) = refl
  ahead_still packet_in = refl
  ahead_still packet_out = refl
  ahead_still errors = refl
  ahead_still (enumeration enum) = refl
  ahead_still (one_of enum) = refl
  ahead_still table = refl
  ahead_still applied = refl
  ahead_still (object obj) = refl
  ahead_still items = refl
  ahead_still nothing = refl
  ahead_still unknown = refl

  two_still : (f g : Moment → Valued) → (f m).moment ≡ m → (g m).moment ≡ m → (g (f m).moment).moment ≡ m
  two_still f g p q = ap (λ (n : Moment). (g n).moment) p ∙ q

  binary_still : (p : Place) (operator : BinaryOperator) (a b : Exp16) → ((q : Place) → (value_of w s q a m).moment ≡ m) → ((q : Place) → (value_of w s q b m).moment ≡ m) → (value_of w s p (binary operator a b) m).moment ≡ m
  binary_still p Multiply a b f g = two_still (value_of w s (left_place p Multiply (kind_of s a) (kind_of s b)) a) (value_of w s (right_place p Multiply (kind_of s a) (kind_of s b)) b) (f (left_place p Multiply (kind_of s a) (kind_of s b))) (g (right_place p Multiply (kind_of s a) (kind_of s b)))
  binary_still p Add a b f g = two_still (value_of w s (left_place p Add (kind_of s a) (kind_of s b)) a) (value_of w s (right_place p Add (kind_of s a) (kind_of s b)) b) (f (left_place p Add (kind_of s a) (kind_of s b))) (g (right_place p Add (kind_of s a) (kind_of s b)))
  binary_still p Subtract a b f g = two_still (value_of w s (left_place p Subtract (kind_of s a) (kind_of s b)) a) (value_of w s (right_place p Subtract (kind_of s a) (kind_of s b)) b) (f (left_place p Subtract (kind_of s a) (kind_of s b))) (g (right_place p Subtract (kind_of s a) (kind_of s b)))
  binary_still p SaturatingAdd a b f g = two_still (value_of w s (left_place p SaturatingAdd (kind_of s a) (kind_of s b)) a) (value_of w s (right_place p SaturatingAdd (kind_of s a) (kind_of s b)) b) (f (left_place p SaturatingAdd (kind_of s a) (kind_of s b))) (g (right_place p SaturatingAdd (kind_of s a) (kind_of s b)))
  binary_still p SaturatingSubtract a b f g = two_still (value_of w s (left_place p SaturatingSubtract (kind_of s a) (kind_of s b)) a) (value_of w s (right_place p SaturatingSubtract (kind_of s a) (kind_of s b)) b) (f (left_place p SaturatingSubtract (kind_of s a) (kind_of s b))) (g (right_place p SaturatingSubtract (kind_of s a) (kind_of s b)))
  binary_still p Concatenate a b f g = two_still (value_of w s (left_place p Concatenate (kind_of s a) (kind_of s b)) a) (value_of w s (right_place p Concatenate (kind_of s a) (kind_of s b)) b) (f (left_place p Concatenate (kind_of s a) (kind_of s b))) (g (right_place p Concatenate (kind_of s a) (kind_of s b)))
  binary_still p ShiftLeft a b f g = two_still (value_of w s (left_place p ShiftLeft (kind_of s a) (kind_of s b)) a) (value_of w s (right_place p ShiftLeft (kind_of s a) (kind_of s b)) b) (f (left_place p ShiftLeft (kind_of s a) (kind_of s b))) (g (right_place p ShiftLeft (kind_of s a) (kind_of s b)))
  binary_still p ShiftRight a b f g = two_still (value_of w s (left_place p ShiftRight (kind_of s a) (kind_of s b)) a) (value_of w s (right_place p ShiftRight (kind_of s a) (kind_of s b)) b) (f (left_place p ShiftRight (kind_of s a) (kind_of s b))) (g (right_place p ShiftRight (kind_of s a) (kind_of s b)))
  binary_still p BitAnd a b f g = two_still (value_of w s (left_place p BitAnd (kind_of s a) (kind_of s b)) a) (value_of w s (right_place p BitAnd (kind_of s a) (kind_of s b)) b) (f (left_place p BitAnd (kind_of s a) (kind_of s b))) (g (right_place p BitAnd (kind_of s a) (kind_of s b)))
  binary_still p BitXor a b f g = two_still (value_of w s (left_place p BitXor (kind_of s a) (kind_of s b)) a) (value_of w s (right_place p BitXor (kind_of s a) (kind_of s b)) b) (f (left_place p BitXor (kind_of s a) (kind_of s b))) (g (right_place p BitXor (kind_of s a) (kind_of s b)))
  binary_still p BitOr a b f g = two_still (value_of w s (left_place p BitOr (kind_of s a) (kind_of s b)) a) (value_of w s (right_place p BitOr (kind_of s a) (kind_of s b)) b) (f (left_place p BitOr (kind_of s a) (kind_of s b))) (g (right_place p BitOr (kind_of s a) (kind_of s b)))
  binary_still p Less a b f g = two_still (value_of w s (left_place p Less (kind_of s a) (kind_of s b)) a) (value_of w s (right_place p Less (kind_of s a) (kind_of s b)) b) (f (left_place p Less (kind_of s a) (kind_of s b))) (g (right_place p Less (kind_of s a) (kind_of s b)))
  binary_still p LessEqual a b f g = two_still (value_of w s (left_place p LessEqual (kind_of s a) (kind_of s b)) a) (value_of w s (right_place p LessEqual (kind_of s a) (kind_of s b)) b) (f (left_place p LessEqual (kind_of s a) (kind_of s b))) (g (right_place p LessEqual (kind_of s a) (kind_of s b)))
  binary_still p Greater a b f g = two_still (value_of w s (left_place p Greater (kind_of s a) (kind_of s b)) a) (value_of w s (right_place p Greater (kind_of s a) (kind_of s b)) b) (f (left_place p Greater (kind_of s a) (kind_of s b))) (g (right_place p Greater (kind_of s a) (kind_of s b)))
  binary_still p GreaterEqual a b f g = two_still (value_of w s (left_place p GreaterEqual (kind_of s a) (kind_of s b)) a) (value_of w s (right_place p GreaterEqual (kind_of s a) (kind_of s b)) b) (f (left_place p GreaterEqual (kind_of s a) (kind_of s b))) (g (right_place p GreaterEqual (kind_of s a) (kind_of s b)))
  binary_still p Equal a b f g = two_still (value_of w s (left_place p Equal (kind_of s a) (kind_of s b)) a) (value_of w s (right_place p Equal (kind_of s a) (kind_of s b)) b) (f (left_place p Equal (kind_of s a) (kind_of s b))) (g (right_place p Equal (kind_of s a) (kind_of s b)))
  binary_still p NotEqual a b f g = two_still (value_of w s (left_place p NotEqual (kind_of s a) (kind_of s b)) a) (value_of w s (right_place p NotEqual (kind_of s a) (kind_of s b)) b) (f (left_place p NotEqual (kind_of s a) (kind_of s b))) (g (right_place p NotEqual (kind_of s a) (kind_of s b)))
  binary_still p And a b f g =
      either_moment (is_true (value_of w s (value boolean) a m).value) (value_of w s (value boolean) b (value_of w s (value boolean) a m).moment) (value_of w s (value boolean) a m) m
      (two_still (value_of w s (value boolean) a) (value_of w s (value boolean) b) (f (value boolean)) (g (value boolean))) (f (value boolean))
  binary_still p Or a b f g =
      either_moment (is_true (value_of w s (value boolean) a m).value) (value_of w s (value boolean) a m) (value_of w s (value boolean) b (value_of w s (value boolean) a m).moment) m
      (f (value boolean)) (two_still (value_of w s (value boolean) a) (value_of w s (value boolean) b) (f (value boolean)) (g (value boolean)))

  all_still : (e : Exp16) (p : Place) → (value_of w s p e m).moment ≡ m
  all_still (literal n) p = refl
  all_still (truth holds) p = refl
  all_still error p = refl
  all_still (name text) p = refl
  all_still (member e word) p = member_still (kind_of s e) word (value_of w s owner e m) (all_still e owner)
  all_still (index e at) p = all_still e a_stack
  all_still (slice e high low) p = all_still e any_bits
  all_still (call (member e word) given) p = method_still (kind_of s e) e (value_of w s owner e m) (all_still e owner)
  all_still (call (literal n) given) p = refl
  all_still (call (truth holds) given) p = refl
  all_still (call error given) p = refl
  all_still (call (name text) given) p = refl
  all_still (call (index e at) given) p = refl
  all_still (call (slice e high low) given) p = refl
  all_still (call (call f other) given) p = refl
  all_still (call (lookahead e to other) given) p = refl
  all_still (call (cast to e) given) p = refl
  all_still (call (unary operator e) given) p = refl
  all_still (call (binary operator a b) given) p = refl
  all_still (call (choice c a b) given) p = refl
  all_still (call (parenthesized e) given) p = refl
  all_still (call no_arguments given) p = refl
  all_still (call (argument before last) given) p = refl
  all_still (call (listed es) given) p = refl
  all_still (lookahead e to given) p = ahead_still (kind_of_type s.names to)
  all_still (cast to e) p = all_still e (cast_place to)
  all_still (unary operator e) p = all_still e (unary_place p operator (kind_of s e))
  all_still (binary operator a b) p = binary_still p operator a b (λ q. all_still a q) (λ q. all_still b q)
  all_still (choice c a b) p =
      let q : Place = chosen_place p (kind_of s a) (kind_of s b) in
      either_moment (is_true (value_of w s (value boolean) c m).value) (value_of w s q a (value_of w s (value boolean) c m).moment) (value_of w s q b (value_of w s (value boolean) c m).moment) m
      (two_still (value_of w s (value boolean) c) (value_of w s q a) (all_still c (value boolean)) (all_still a q))
      (two_still (value_of w s (value boolean) c) (value_of w s q b) (all_still c (value boolean)) (all_still b q))
  all_still (parenthesized e) p = refl
  all_still no_arguments p = refl
  all_still (argument before last) p = refl
  all_still (listed es) p = refl

pub still : (w : World) (s : Scope) → Quiet w → Still w s
still w s quiet p e m error_is stopped = all_still w s quiet error_is m stopped e p
