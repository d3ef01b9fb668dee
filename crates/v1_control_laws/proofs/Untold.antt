-- Of an accepted program no stack tells anything in a control, no member of an application tells anything but whether it hit, and
-- nothing is looked ahead at (T1, T3, T10): in expressions that stand at a place where a value, or what stands before a member, is
-- asked for.
use Rattle.std.proofs.Common.{◌≡◌, ◌⊎◌, inl, inr, ℕ, ◌&&◌, ◌||◌, not, nat_eq, Bool, true, false, cond, codes, Option, Some, None, is_none, List, [], ◌∷◌, ◌++◌, refl, sym, ap, ◌∙◌, bytes_eq}
use Rattle.std.specs.List.{list_any}
use Rattle.p416_syntax.specs.declared.node.CastType.{CastType}
use Rattle.p416_syntax.specs.declared.node.CastType.TheVariants as cast_to
use Rattle.p416_syntax.specs.declared.node.UnaryOperator.{UnaryOperator}
use Rattle.p416_syntax.specs.declared.node.UnaryOperator.TheVariants.{Not, Complement, Negate}
use Rattle.p416_syntax.specs.declared.node.BinaryOperator.{BinaryOperator}
use Rattle.p416_syntax.specs.declared.node.BinaryOperator.TheVariants.{Multiply, Add, Subtract, SaturatingAdd, SaturatingSubtract, Concatenate, ShiftLeft, ShiftRight, BitAnd, BitXor, BitOr, Less, LessEqual, Greater, GreaterEqual, Equal, NotEqual, And, Or}
use Rattle.p416_syntax.specs.Tree.{Exp16, literal, truth, error, name, member, index, slice, call, lookahead, cast, unary, binary, choice, parenthesized, no_arguments, argument, listed}
use Rattle.p416_syntax.specs.Names.{Name}
use Rattle.p416_syntax.specs.Kinds.{Kind, bits, unsized, boolean, error_code, header, stack, struct, packet_in, packet_out, errors, enumeration, one_of, table, applied, object, items, nothing, unknown, is_unsized, is_plain, is_stack}
use Rattle.p416_syntax.specs.Scopes.{Scope}
use Rattle.p416_syntax.specs.Calls.{Place, value, written, any_bits, written_bits, one_bit, bits_or_boolean, written_header, emitted, literal_of, any_literal, item_list, member_place, select_key, table_key, target, owner, written_owner, a_stack, callee, statement, unasked, Signature, method, parser_position, method_signature}
use Rattle.p416_syntax.specs.Expressions.{kind_of, member_kind, signature_of, is_chosen, call_kind}
use Rattle.p416_syntax.specs.Uses.{Use, an_expression, joint_place, compared_place, chosen_place, unary_place, left_place, right_place, cast_place, owner_by, owner_place, wanted_by, many, uses, uses_at, type_uses, of_lookahead, cast_numbers, a_number}
use Rattle.p416_syntax.specs.Types.{is_literal, is_named_callee, takes_kind, takes, is_mistyped}
use Rattle.p416_syntax.specs.Unknown.{is_misnamed, is_unknown_member}
use Rattle.p416_syntax.specs.Externs.{is_outside_block, is_parser_part, is_place_word, are_allowed}
use Rattle.v1_block_laws.proofs.Tests.{first_false, second_false, not_false, in_front, at_end}
use Rattle.v1_call_laws.specs.Telling.{IsTold, ToldNone}
use Rattle.v1_control_laws.proofs.Values.{either}
use Rattle.v1_control_laws.specs.Strict.{IsStrict}

joint_strict : (p : Place) (a b : Kind) → IsStrict p → IsStrict (joint_place p a b)
joint_strict p (bits width) b h = tt
joint_strict p unsized (bits least) h = tt
joint_strict p unsized unsized h = h
joint_strict p unsized boolean h = tt
joint_strict p unsized error_code h = tt
joint_strict p unsized (header other) h = tt
joint_strict p unsized (stack other extent) h = tt
joint_strict p unsized (struct other) h = tt
joint_strict p unsized packet_in h = tt
joint_strict p unsized packet_out h = tt
joint_strict p unsized errors h = tt
joint_strict p unsized (enumeration which) h = tt
joint_strict p unsized (one_of which) h = tt
joint_strict p unsized table h = tt
joint_strict p unsized applied h = tt
joint_strict p unsized (object thing) h = tt
joint_strict p unsized items h = tt
joint_strict p unsized nothing h = tt
joint_strict p unsized unknown h = tt
joint_strict p boolean (bits least) h = tt
joint_strict p boolean unsized h = tt
joint_strict p boolean boolean h = tt
joint_strict p boolean error_code h = tt
joint_strict p boolean (header other) h = tt
joint_strict p boolean (stack other extent) h = tt
joint_strict p boolean (struct other) h = tt
joint_strict p boolean packet_in h = tt
joint_strict p boolean packet_out h = tt
joint_strict p boolean errors h = tt
joint_strict p boolean (enumeration which) h = tt
joint_strict p boolean (one_of which) h = tt
joint_strict p boolean table h = tt
joint_strict p boolean applied h = tt
joint_strict p boolean (object thing) h = tt
joint_strict p boolean items h = tt
joint_strict p boolean nothing h = tt
joint_strict p boolean unknown h = tt
joint_strict p error_code (bits least) h = tt
joint_strict p error_code unsized h = tt
joint_strict p error_code boolean h = tt
joint_strict p error_code error_code h = tt
joint_strict p error_code (header other) h = tt
joint_strict p error_code (stack other extent) h = tt
joint_strict p error_code (struct other) h = tt
joint_strict p error_code packet_in h = tt
joint_strict p error_code packet_out h = tt
joint_strict p error_code errors h = tt
joint_strict p error_code (enumeration which) h = tt
joint_strict p error_code (one_of which) h = tt
joint_strict p error_code table h = tt
joint_strict p error_code applied h = tt
joint_strict p error_code (object thing) h = tt
joint_strict p error_code items h = tt
joint_strict p error_code nothing h = tt
joint_strict p error_code unknown h = tt
joint_strict p (header type) (bits least) h = tt
joint_strict p (header type) unsized h = tt
joint_strict p (header type) boolean h = tt
joint_strict p (header type) error_code h = tt
joint_strict p (header type) (header other) h = tt
joint_strict p (header type) (stack other extent) h = tt
joint_strict p (header type) (struct other) h = tt
joint_strict p (header type) packet_in h = tt
joint_strict p (header type) packet_out h = tt
joint_strict p (header type) errors h = tt
joint_strict p (header type) (enumeration which) h = tt
joint_strict p (header type) (one_of which) h = tt
joint_strict p (header type) table h = tt
joint_strict p (header type) applied h = tt
joint_strict p (header type) (object thing) h = tt
joint_strict p (header type) items h = tt
joint_strict p (header type) nothing h = tt
joint_strict p (header type) unknown h = tt
joint_strict p (stack type size) (bits least) h = tt
joint_strict p (stack type size) unsized h = tt
joint_strict p (stack type size) boolean h = tt
joint_strict p (stack type size) error_code h = tt
joint_strict p (stack type size) (header other) h = tt
joint_strict p (stack type size) (stack other extent) h = tt
joint_strict p (stack type size) (struct other) h = tt
joint_strict p (stack type size) packet_in h = tt
joint_strict p (stack type size) packet_out h = tt
joint_strict p (stack type size) errors h = tt
joint_strict p (stack type size) (enumeration which) h = tt
joint_strict p (stack type size) (one_of which) h = tt
joint_strict p (stack type size) table h = tt
joint_strict p (stack type size) applied h = tt
joint_strict p (stack type size) (object thing) h = tt
joint_strict p (stack type size) items h = tt
joint_strict p (stack type size) nothing h = tt
joint_strict p (stack type size) unknown h = tt
joint_strict p (struct type) (bits least) h = tt
joint_strict p (struct type) unsized h = tt
joint_strict p (struct type) boolean h = tt
joint_strict p (struct type) error_code h = tt
joint_strict p (struct type) (header other) h = tt
joint_strict p (struct type) (stack other extent) h = tt
joint_strict p (struct type) (struct other) h = tt
joint_strict p (struct type) packet_in h = tt
joint_strict p (struct type) packet_out h = tt
joint_strict p (struct type) errors h = tt
joint_strict p (struct type) (enumeration which) h = tt
joint_strict p (struct type) (one_of which) h = tt
joint_strict p (struct type) table h = tt
joint_strict p (struct type) applied h = tt
joint_strict p (struct type) (object thing) h = tt
joint_strict p (struct type) items h = tt
joint_strict p (struct type) nothing h = tt
joint_strict p (struct type) unknown h = tt
joint_strict p packet_in (bits least) h = tt
joint_strict p packet_in unsized h = tt
joint_strict p packet_in boolean h = tt
joint_strict p packet_in error_code h = tt
joint_strict p packet_in (header other) h = tt
joint_strict p packet_in (stack other extent) h = tt
joint_strict p packet_in (struct other) h = tt
joint_strict p packet_in packet_in h = tt
joint_strict p packet_in packet_out h = tt
joint_strict p packet_in errors h = tt
joint_strict p packet_in (enumeration which) h = tt
joint_strict p packet_in (one_of which) h = tt
joint_strict p packet_in table h = tt
joint_strict p packet_in applied h = tt
joint_strict p packet_in (object thing) h = tt
joint_strict p packet_in items h = tt
joint_strict p packet_in nothing h = tt
joint_strict p packet_in unknown h = tt
joint_strict p packet_out (bits least) h = tt
joint_strict p packet_out unsized h = tt
joint_strict p packet_out boolean h = tt
joint_strict p packet_out error_code h = tt
joint_strict p packet_out (header other) h = tt
joint_strict p packet_out (stack other extent) h = tt
joint_strict p packet_out (struct other) h = tt
joint_strict p packet_out packet_in h = tt
joint_strict p packet_out packet_out h = tt
joint_strict p packet_out errors h = tt
joint_strict p packet_out (enumeration which) h = tt
joint_strict p packet_out (one_of which) h = tt
joint_strict p packet_out table h = tt
joint_strict p packet_out applied h = tt
joint_strict p packet_out (object thing) h = tt
joint_strict p packet_out items h = tt
joint_strict p packet_out nothing h = tt
joint_strict p packet_out unknown h = tt
joint_strict p errors (bits least) h = tt
joint_strict p errors unsized h = tt
joint_strict p errors boolean h = tt
joint_strict p errors error_code h = tt
joint_strict p errors (header other) h = tt
joint_strict p errors (stack other extent) h = tt
joint_strict p errors (struct other) h = tt
joint_strict p errors packet_in h = tt
joint_strict p errors packet_out h = tt
joint_strict p errors errors h = tt
joint_strict p errors (enumeration which) h = tt
joint_strict p errors (one_of which) h = tt
joint_strict p errors table h = tt
joint_strict p errors applied h = tt
joint_strict p errors (object thing) h = tt
joint_strict p errors items h = tt
joint_strict p errors nothing h = tt
joint_strict p errors unknown h = tt
joint_strict p (enumeration enum) (bits least) h = tt
joint_strict p (enumeration enum) unsized h = tt
joint_strict p (enumeration enum) boolean h = tt
joint_strict p (enumeration enum) error_code h = tt
joint_strict p (enumeration enum) (header other) h = tt
joint_strict p (enumeration enum) (stack other extent) h = tt
joint_strict p (enumeration enum) (struct other) h = tt
joint_strict p (enumeration enum) packet_in h = tt
joint_strict p (enumeration enum) packet_out h = tt
joint_strict p (enumeration enum) errors h = tt
joint_strict p (enumeration enum) (enumeration which) h = tt
joint_strict p (enumeration enum) (one_of which) h = tt
joint_strict p (enumeration enum) table h = tt
joint_strict p (enumeration enum) applied h = tt
joint_strict p (enumeration enum) (object thing) h = tt
joint_strict p (enumeration enum) items h = tt
joint_strict p (enumeration enum) nothing h = tt
joint_strict p (enumeration enum) unknown h = tt
joint_strict p (one_of enum) (bits least) h = tt
joint_strict p (one_of enum) unsized h = tt
joint_strict p (one_of enum) boolean h = tt
joint_strict p (one_of enum) error_code h = tt
joint_strict p (one_of enum) (header other) h = tt
joint_strict p (one_of enum) (stack other extent) h = tt
joint_strict p (one_of enum) (struct other) h = tt
joint_strict p (one_of enum) packet_in h = tt
joint_strict p (one_of enum) packet_out h = tt
joint_strict p (one_of enum) errors h = tt
joint_strict p (one_of enum) (enumeration which) h = tt
joint_strict p (one_of enum) (one_of which) h = tt
joint_strict p (one_of enum) table h = tt
joint_strict p (one_of enum) applied h = tt
joint_strict p (one_of enum) (object thing) h = tt
joint_strict p (one_of enum) items h = tt
joint_strict p (one_of enum) nothing h = tt
joint_strict p (one_of enum) unknown h = tt
joint_strict p table (bits least) h = tt
joint_strict p table unsized h = tt
joint_strict p table boolean h = tt
joint_strict p table error_code h = tt
joint_strict p table (header other) h = tt
joint_strict p table (stack other extent) h = tt
joint_strict p table (struct other) h = tt
joint_strict p table packet_in h = tt
joint_strict p table packet_out h = tt
joint_strict p table errors h = tt
joint_strict p table (enumeration which) h = tt
joint_strict p table (one_of which) h = tt
joint_strict p table table h = tt
joint_strict p table applied h = tt
joint_strict p table (object thing) h = tt
joint_strict p table items h = tt
joint_strict p table nothing h = tt
joint_strict p table unknown h = tt
joint_strict p applied (bits least) h = tt
joint_strict p applied unsized h = tt
joint_strict p applied boolean h = tt
joint_strict p applied error_code h = tt
joint_strict p applied (header other) h = tt
joint_strict p applied (stack other extent) h = tt
joint_strict p applied (struct other) h = tt
joint_strict p applied packet_in h = tt
joint_strict p applied packet_out h = tt
joint_strict p applied errors h = tt
joint_strict p applied (enumeration which) h = tt
joint_strict p applied (one_of which) h = tt
joint_strict p applied table h = tt
joint_strict p applied applied h = tt
joint_strict p applied (object thing) h = tt
joint_strict p applied items h = tt
joint_strict p applied nothing h = tt
joint_strict p applied unknown h = tt
joint_strict p (object obj) (bits least) h = tt
joint_strict p (object obj) unsized h = tt
joint_strict p (object obj) boolean h = tt
joint_strict p (object obj) error_code h = tt
joint_strict p (object obj) (header other) h = tt
joint_strict p (object obj) (stack other extent) h = tt
joint_strict p (object obj) (struct other) h = tt
joint_strict p (object obj) packet_in h = tt
joint_strict p (object obj) packet_out h = tt
joint_strict p (object obj) errors h = tt
joint_strict p (object obj) (enumeration which) h = tt
joint_strict p (object obj) (one_of which) h = tt
joint_strict p (object obj) table h = tt
joint_strict p (object obj) applied h = tt
joint_strict p (object obj) (object thing) h = tt
joint_strict p (object obj) items h = tt
joint_strict p (object obj) nothing h = tt
joint_strict p (object obj) unknown h = tt
joint_strict p items (bits least) h = tt
joint_strict p items unsized h = tt
joint_strict p items boolean h = tt
joint_strict p items error_code h = tt
joint_strict p items (header other) h = tt
joint_strict p items (stack other extent) h = tt
joint_strict p items (struct other) h = tt
joint_strict p items packet_in h = tt
joint_strict p items packet_out h = tt
joint_strict p items errors h = tt
joint_strict p items (enumeration which) h = tt
joint_strict p items (one_of which) h = tt
joint_strict p items table h = tt
joint_strict p items applied h = tt
joint_strict p items (object thing) h = tt
joint_strict p items items h = tt
joint_strict p items nothing h = tt
joint_strict p items unknown h = tt
joint_strict p nothing (bits least) h = tt
joint_strict p nothing unsized h = tt
joint_strict p nothing boolean h = tt
joint_strict p nothing error_code h = tt
joint_strict p nothing (header other) h = tt
joint_strict p nothing (stack other extent) h = tt
joint_strict p nothing (struct other) h = tt
joint_strict p nothing packet_in h = tt
joint_strict p nothing packet_out h = tt
joint_strict p nothing errors h = tt
joint_strict p nothing (enumeration which) h = tt
joint_strict p nothing (one_of which) h = tt
joint_strict p nothing table h = tt
joint_strict p nothing applied h = tt
joint_strict p nothing (object thing) h = tt
joint_strict p nothing items h = tt
joint_strict p nothing nothing h = tt
joint_strict p nothing unknown h = tt
joint_strict p unknown (bits least) h = tt
joint_strict p unknown unsized h = tt
joint_strict p unknown boolean h = tt
joint_strict p unknown error_code h = tt
joint_strict p unknown (header other) h = tt
joint_strict p unknown (stack other extent) h = tt
joint_strict p unknown (struct other) h = tt
joint_strict p unknown packet_in h = tt
joint_strict p unknown packet_out h = tt
joint_strict p unknown errors h = tt
joint_strict p unknown (enumeration which) h = tt
joint_strict p unknown (one_of which) h = tt
joint_strict p unknown table h = tt
joint_strict p unknown applied h = tt
joint_strict p unknown (object thing) h = tt
joint_strict p unknown items h = tt
joint_strict p unknown nothing h = tt
joint_strict p unknown unknown h = tt

compared_strict : (a b : Kind) → IsStrict (compared_place a b)
compared_strict (bits width) b = tt
compared_strict unsized b = joint_strict any_bits unsized b tt
compared_strict boolean b = tt
compared_strict error_code b = tt
compared_strict (header type) b = joint_strict any_bits (header type) b tt
compared_strict (stack type size) b = joint_strict any_bits (stack type size) b tt
compared_strict (struct type) b = joint_strict any_bits (struct type) b tt
compared_strict packet_in b = joint_strict any_bits packet_in b tt
compared_strict packet_out b = joint_strict any_bits packet_out b tt
compared_strict errors b = joint_strict any_bits errors b tt
compared_strict (enumeration enum) b = joint_strict any_bits (enumeration enum) b tt
compared_strict (one_of enum) b = joint_strict any_bits (one_of enum) b tt
compared_strict table b = joint_strict any_bits table b tt
compared_strict applied b = joint_strict any_bits applied b tt
compared_strict (object obj) b = joint_strict any_bits (object obj) b tt
compared_strict items b = joint_strict any_bits items b tt
compared_strict nothing b = joint_strict any_bits nothing b tt
compared_strict unknown b = joint_strict any_bits unknown b tt

chosen_strict : (p : Place) (a b : Kind) → IsStrict p → IsStrict (chosen_place p a b)
chosen_strict p a b h =
    either IsStrict (is_chosen a) (value a) (cond (is_chosen b) (value b) (cond (is_unsized a && is_unsized b) p any_bits)) tt
    (either IsStrict (is_chosen b) (value b) (cond (is_unsized a && is_unsized b) p any_bits) tt
    (either IsStrict (is_unsized a && is_unsized b) p any_bits h tt))

unary_strict : (p : Place) (operator : UnaryOperator) (k : Kind) → IsStrict p → IsStrict (unary_place p operator k)
unary_strict p Not k h = tt
unary_strict p Complement k h = joint_strict p k k h
unary_strict p Negate k h = joint_strict p k k h

left_strict : (p : Place) (operator : BinaryOperator) (a b : Kind) → IsStrict p → IsStrict (left_place p operator a b)
left_strict p Multiply a b h = joint_strict p a b h
left_strict p Add a b h = joint_strict p a b h
left_strict p Subtract a b h = joint_strict p a b h
left_strict p SaturatingAdd a b h = joint_strict p a b h
left_strict p SaturatingSubtract a b h = joint_strict p a b h
left_strict p Concatenate a b h = tt
left_strict p ShiftLeft a b h = joint_strict p a a h
left_strict p ShiftRight a b h = joint_strict p a a h
left_strict p BitAnd a b h = joint_strict p a b h
left_strict p BitXor a b h = joint_strict p a b h
left_strict p BitOr a b h = joint_strict p a b h
left_strict p Less a b h = joint_strict any_bits a b tt
left_strict p LessEqual a b h = joint_strict any_bits a b tt
left_strict p Greater a b h = joint_strict any_bits a b tt
left_strict p GreaterEqual a b h = joint_strict any_bits a b tt
left_strict p Equal a b h = compared_strict a b
left_strict p NotEqual a b h = compared_strict a b
left_strict p And a b h = tt
left_strict p Or a b h = tt

right_strict : (p : Place) (operator : BinaryOperator) (a b : Kind) → IsStrict p → IsStrict (right_place p operator a b)
right_strict p Multiply a b h = joint_strict p a b h
right_strict p Add a b h = joint_strict p a b h
right_strict p Subtract a b h = joint_strict p a b h
right_strict p SaturatingAdd a b h = joint_strict p a b h
right_strict p SaturatingSubtract a b h = joint_strict p a b h
right_strict p Concatenate a b h = tt
right_strict p ShiftLeft a b h = tt
right_strict p ShiftRight a b h = tt
right_strict p BitAnd a b h = joint_strict p a b h
right_strict p BitXor a b h = joint_strict p a b h
right_strict p BitOr a b h = joint_strict p a b h
right_strict p Less a b h = joint_strict any_bits a b tt
right_strict p LessEqual a b h = joint_strict any_bits a b tt
right_strict p Greater a b h = joint_strict any_bits a b tt
right_strict p GreaterEqual a b h = joint_strict any_bits a b tt
right_strict p Equal a b h = compared_strict a b
right_strict p NotEqual a b h = compared_strict a b
right_strict p And a b h = tt
right_strict p Or a b h = tt

cast_strict : (to : CastType) → IsStrict (cast_place to)
cast_strict (cast_to.Bit w) = either IsStrict (nat_eq w.value 1) bits_or_boolean any_bits tt tt
cast_strict cast_to.Bool = tt

by_strict : (o : Option Signature) → IsStrict (owner_by o)
by_strict None = tt
by_strict (Some g) = either IsStrict g.writes_owner written_owner owner tt tt

owner_strict : (p : Place) (o : Option Signature) → IsStrict p → IsStrict (owner_place p o)
owner_strict (value k) o h = tt
owner_strict (written k) o h = tt
owner_strict any_bits o h = tt
owner_strict written_bits o h = tt
owner_strict one_bit o h = tt
owner_strict bits_or_boolean o h = tt
owner_strict written_header o h = tt
owner_strict emitted o h = tt
owner_strict (literal_of k) o h = tt
owner_strict any_literal o h = tt
owner_strict (member_place enum) o h = tt
owner_strict select_key o h = tt
owner_strict (table_key is_exact) o h = tt
owner_strict owner o h = tt
owner_strict written_owner o h = tt
owner_strict a_stack o h = tt
owner_strict callee o h = absurd h
owner_strict item_list o h = absurd h
owner_strict target o h = absurd h
owner_strict statement o h = absurd h
owner_strict unasked o h = absurd h

-- a member that isn't there
unknown_there : (s : Scope) (p : Place) (e : Exp16) (word : Name) → IsStrict p → is_unknown_member s p e word ≡ (is_none (member_kind s.layouts (kind_of s e) word) && not (is_plain (kind_of s e)))
unknown_there s (value k) e word h = refl
unknown_there s (written k) e word h = refl
unknown_there s any_bits e word h = refl
unknown_there s written_bits e word h = refl
unknown_there s one_bit e word h = refl
unknown_there s bits_or_boolean e word h = refl
unknown_there s written_header e word h = refl
unknown_there s emitted e word h = refl
unknown_there s (literal_of k) e word h = refl
unknown_there s any_literal e word h = refl
unknown_there s (member_place enum) e word h = refl
unknown_there s select_key e word h = refl
unknown_there s (table_key is_exact) e word h = refl
unknown_there s owner e word h = refl
unknown_there s written_owner e word h = refl
unknown_there s a_stack e word h = refl
unknown_there s callee e word h = absurd h
unknown_there s item_list e word h = absurd h
unknown_there s target e word h = absurd h
unknown_there s statement e word h = absurd h
unknown_there s unasked e word h = absurd h

-- what is nothing, unknown or a list is asked for at no such place

abbrev IsNothing : Kind → Type 0
IsNothing nothing = Unit {0}
IsNothing unknown = Unit {0}
IsNothing items = Unit {0}
IsNothing k = ⊥

and_false : (b : Bool) → (b && false) ≡ false
and_false true = refl
and_false false = refl

kind_refused : (wanted k : Kind) → IsNothing k → takes_kind wanted k ≡ false
kind_refused wanted (bits least) h = absurd h
kind_refused wanted unsized h = absurd h
kind_refused wanted boolean h = absurd h
kind_refused wanted error_code h = absurd h
kind_refused wanted (header other) h = absurd h
kind_refused wanted (stack other extent) h = absurd h
kind_refused wanted (struct other) h = absurd h
kind_refused wanted packet_in h = absurd h
kind_refused wanted packet_out h = absurd h
kind_refused wanted errors h = absurd h
kind_refused wanted (enumeration which) h = absurd h
kind_refused wanted (one_of which) h = absurd h
kind_refused wanted table h = absurd h
kind_refused wanted applied h = absurd h
kind_refused wanted (object thing) h = absurd h
kind_refused (bits width) items h = refl
kind_refused unsized items h = refl
kind_refused boolean items h = refl
kind_refused error_code items h = refl
kind_refused (header type) items h = refl
kind_refused (stack type size) items h = refl
kind_refused (struct type) items h = refl
kind_refused packet_in items h = refl
kind_refused packet_out items h = refl
kind_refused errors items h = refl
kind_refused (enumeration enum) items h = refl
kind_refused (one_of enum) items h = refl
kind_refused table items h = refl
kind_refused applied items h = refl
kind_refused (object obj) items h = refl
kind_refused items items h = refl
kind_refused nothing items h = refl
kind_refused unknown items h = refl
kind_refused (bits width) nothing h = refl
kind_refused unsized nothing h = refl
kind_refused boolean nothing h = refl
kind_refused error_code nothing h = refl
kind_refused (header type) nothing h = refl
kind_refused (stack type size) nothing h = refl
kind_refused (struct type) nothing h = refl
kind_refused packet_in nothing h = refl
kind_refused packet_out nothing h = refl
kind_refused errors nothing h = refl
kind_refused (enumeration enum) nothing h = refl
kind_refused (one_of enum) nothing h = refl
kind_refused table nothing h = refl
kind_refused applied nothing h = refl
kind_refused (object obj) nothing h = refl
kind_refused items nothing h = refl
kind_refused nothing nothing h = refl
kind_refused unknown nothing h = refl
kind_refused (bits width) unknown h = refl
kind_refused unsized unknown h = refl
kind_refused boolean unknown h = refl
kind_refused error_code unknown h = refl
kind_refused (header type) unknown h = refl
kind_refused (stack type size) unknown h = refl
kind_refused (struct type) unknown h = refl
kind_refused packet_in unknown h = refl
kind_refused packet_out unknown h = refl
kind_refused errors unknown h = refl
kind_refused (enumeration enum) unknown h = refl
kind_refused (one_of enum) unknown h = refl
kind_refused table unknown h = refl
kind_refused applied unknown h = refl
kind_refused (object obj) unknown h = refl
kind_refused items unknown h = refl
kind_refused nothing unknown h = refl
kind_refused unknown unknown h = refl

place_refused : (p : Place) (e : Exp16) (k : Kind) → IsStrict p → is_literal e ≡ false → IsNothing k → takes p e k ≡ false
place_refused (value wanted) e nothing h l n = kind_refused wanted nothing n
place_refused (value wanted) e unknown h l n = kind_refused wanted unknown n
place_refused (value wanted) e items h l n = kind_refused wanted items n
place_refused (value wanted) e (bits least) h l n = absurd n
place_refused (value wanted) e unsized h l n = absurd n
place_refused (value wanted) e boolean h l n = absurd n
place_refused (value wanted) e error_code h l n = absurd n
place_refused (value wanted) e (header other) h l n = absurd n
place_refused (value wanted) e (stack other extent) h l n = absurd n
place_refused (value wanted) e (struct other) h l n = absurd n
place_refused (value wanted) e packet_in h l n = absurd n
place_refused (value wanted) e packet_out h l n = absurd n
place_refused (value wanted) e errors h l n = absurd n
place_refused (value wanted) e (enumeration which) h l n = absurd n
place_refused (value wanted) e (one_of which) h l n = absurd n
place_refused (value wanted) e table h l n = absurd n
place_refused (value wanted) e applied h l n = absurd n
place_refused (value wanted) e (object thing) h l n = absurd n
place_refused (written wanted) e nothing h l n = kind_refused wanted nothing n
place_refused (written wanted) e unknown h l n = kind_refused wanted unknown n
place_refused (written wanted) e items h l n = kind_refused wanted items n
place_refused (written wanted) e (bits least) h l n = absurd n
place_refused (written wanted) e unsized h l n = absurd n
place_refused (written wanted) e boolean h l n = absurd n
place_refused (written wanted) e error_code h l n = absurd n
place_refused (written wanted) e (header other) h l n = absurd n
place_refused (written wanted) e (stack other extent) h l n = absurd n
place_refused (written wanted) e (struct other) h l n = absurd n
place_refused (written wanted) e packet_in h l n = absurd n
place_refused (written wanted) e packet_out h l n = absurd n
place_refused (written wanted) e errors h l n = absurd n
place_refused (written wanted) e (enumeration which) h l n = absurd n
place_refused (written wanted) e (one_of which) h l n = absurd n
place_refused (written wanted) e table h l n = absurd n
place_refused (written wanted) e applied h l n = absurd n
place_refused (written wanted) e (object thing) h l n = absurd n
place_refused any_bits e nothing h l n = refl
place_refused any_bits e unknown h l n = refl
place_refused any_bits e items h l n = refl
place_refused any_bits e (bits least) h l n = absurd n
place_refused any_bits e unsized h l n = absurd n
place_refused any_bits e boolean h l n = absurd n
place_refused any_bits e error_code h l n = absurd n
place_refused any_bits e (header other) h l n = absurd n
place_refused any_bits e (stack other extent) h l n = absurd n
place_refused any_bits e (struct other) h l n = absurd n
place_refused any_bits e packet_in h l n = absurd n
place_refused any_bits e packet_out h l n = absurd n
place_refused any_bits e errors h l n = absurd n
place_refused any_bits e (enumeration which) h l n = absurd n
place_refused any_bits e (one_of which) h l n = absurd n
place_refused any_bits e table h l n = absurd n
place_refused any_bits e applied h l n = absurd n
place_refused any_bits e (object thing) h l n = absurd n
place_refused written_bits e nothing h l n = refl
place_refused written_bits e unknown h l n = refl
place_refused written_bits e items h l n = refl
place_refused written_bits e (bits least) h l n = absurd n
place_refused written_bits e unsized h l n = absurd n
place_refused written_bits e boolean h l n = absurd n
place_refused written_bits e error_code h l n = absurd n
place_refused written_bits e (header other) h l n = absurd n
place_refused written_bits e (stack other extent) h l n = absurd n
place_refused written_bits e (struct other) h l n = absurd n
place_refused written_bits e packet_in h l n = absurd n
place_refused written_bits e packet_out h l n = absurd n
place_refused written_bits e errors h l n = absurd n
place_refused written_bits e (enumeration which) h l n = absurd n
place_refused written_bits e (one_of which) h l n = absurd n
place_refused written_bits e table h l n = absurd n
place_refused written_bits e applied h l n = absurd n
place_refused written_bits e (object thing) h l n = absurd n
place_refused one_bit e nothing h l n = refl
place_refused one_bit e unknown h l n = refl
place_refused one_bit e items h l n = refl
place_refused one_bit e (bits least) h l n = absurd n
place_refused one_bit e unsized h l n = absurd n
place_refused one_bit e boolean h l n = absurd n
place_refused one_bit e error_code h l n = absurd n
place_refused one_bit e (header other) h l n = absurd n
place_refused one_bit e (stack other extent) h l n = absurd n
place_refused one_bit e (struct other) h l n = absurd n
place_refused one_bit e packet_in h l n = absurd n
place_refused one_bit e packet_out h l n = absurd n
place_refused one_bit e errors h l n = absurd n
place_refused one_bit e (enumeration which) h l n = absurd n
place_refused one_bit e (one_of which) h l n = absurd n
place_refused one_bit e table h l n = absurd n
place_refused one_bit e applied h l n = absurd n
place_refused one_bit e (object thing) h l n = absurd n
place_refused bits_or_boolean e nothing h l n = refl
place_refused bits_or_boolean e unknown h l n = refl
place_refused bits_or_boolean e items h l n = refl
place_refused bits_or_boolean e (bits least) h l n = absurd n
place_refused bits_or_boolean e unsized h l n = absurd n
place_refused bits_or_boolean e boolean h l n = absurd n
place_refused bits_or_boolean e error_code h l n = absurd n
place_refused bits_or_boolean e (header other) h l n = absurd n
place_refused bits_or_boolean e (stack other extent) h l n = absurd n
place_refused bits_or_boolean e (struct other) h l n = absurd n
place_refused bits_or_boolean e packet_in h l n = absurd n
place_refused bits_or_boolean e packet_out h l n = absurd n
place_refused bits_or_boolean e errors h l n = absurd n
place_refused bits_or_boolean e (enumeration which) h l n = absurd n
place_refused bits_or_boolean e (one_of which) h l n = absurd n
place_refused bits_or_boolean e table h l n = absurd n
place_refused bits_or_boolean e applied h l n = absurd n
place_refused bits_or_boolean e (object thing) h l n = absurd n
place_refused written_header e nothing h l n = refl
place_refused written_header e unknown h l n = refl
place_refused written_header e items h l n = refl
place_refused written_header e (bits least) h l n = absurd n
place_refused written_header e unsized h l n = absurd n
place_refused written_header e boolean h l n = absurd n
place_refused written_header e error_code h l n = absurd n
place_refused written_header e (header other) h l n = absurd n
place_refused written_header e (stack other extent) h l n = absurd n
place_refused written_header e (struct other) h l n = absurd n
place_refused written_header e packet_in h l n = absurd n
place_refused written_header e packet_out h l n = absurd n
place_refused written_header e errors h l n = absurd n
place_refused written_header e (enumeration which) h l n = absurd n
place_refused written_header e (one_of which) h l n = absurd n
place_refused written_header e table h l n = absurd n
place_refused written_header e applied h l n = absurd n
place_refused written_header e (object thing) h l n = absurd n
place_refused emitted e nothing h l n = refl
place_refused emitted e unknown h l n = refl
place_refused emitted e items h l n = refl
place_refused emitted e (bits least) h l n = absurd n
place_refused emitted e unsized h l n = absurd n
place_refused emitted e boolean h l n = absurd n
place_refused emitted e error_code h l n = absurd n
place_refused emitted e (header other) h l n = absurd n
place_refused emitted e (stack other extent) h l n = absurd n
place_refused emitted e (struct other) h l n = absurd n
place_refused emitted e packet_in h l n = absurd n
place_refused emitted e packet_out h l n = absurd n
place_refused emitted e errors h l n = absurd n
place_refused emitted e (enumeration which) h l n = absurd n
place_refused emitted e (one_of which) h l n = absurd n
place_refused emitted e table h l n = absurd n
place_refused emitted e applied h l n = absurd n
place_refused emitted e (object thing) h l n = absurd n
place_refused (literal_of wanted) e nothing h l n = ap (λ (b : Bool). b && takes_kind wanted nothing) l
place_refused (literal_of wanted) e unknown h l n = ap (λ (b : Bool). b && takes_kind wanted unknown) l
place_refused (literal_of wanted) e items h l n = ap (λ (b : Bool). b && takes_kind wanted items) l
place_refused (literal_of wanted) e (bits least) h l n = absurd n
place_refused (literal_of wanted) e unsized h l n = absurd n
place_refused (literal_of wanted) e boolean h l n = absurd n
place_refused (literal_of wanted) e error_code h l n = absurd n
place_refused (literal_of wanted) e (header other) h l n = absurd n
place_refused (literal_of wanted) e (stack other extent) h l n = absurd n
place_refused (literal_of wanted) e (struct other) h l n = absurd n
place_refused (literal_of wanted) e packet_in h l n = absurd n
place_refused (literal_of wanted) e packet_out h l n = absurd n
place_refused (literal_of wanted) e errors h l n = absurd n
place_refused (literal_of wanted) e (enumeration which) h l n = absurd n
place_refused (literal_of wanted) e (one_of which) h l n = absurd n
place_refused (literal_of wanted) e table h l n = absurd n
place_refused (literal_of wanted) e applied h l n = absurd n
place_refused (literal_of wanted) e (object thing) h l n = absurd n
place_refused any_literal e nothing h l n = l
place_refused any_literal e unknown h l n = l
place_refused any_literal e items h l n = l
place_refused any_literal e (bits least) h l n = absurd n
place_refused any_literal e unsized h l n = absurd n
place_refused any_literal e boolean h l n = absurd n
place_refused any_literal e error_code h l n = absurd n
place_refused any_literal e (header other) h l n = absurd n
place_refused any_literal e (stack other extent) h l n = absurd n
place_refused any_literal e (struct other) h l n = absurd n
place_refused any_literal e packet_in h l n = absurd n
place_refused any_literal e packet_out h l n = absurd n
place_refused any_literal e errors h l n = absurd n
place_refused any_literal e (enumeration which) h l n = absurd n
place_refused any_literal e (one_of which) h l n = absurd n
place_refused any_literal e table h l n = absurd n
place_refused any_literal e applied h l n = absurd n
place_refused any_literal e (object thing) h l n = absurd n
place_refused (member_place enum) e nothing h l n = refl
place_refused (member_place enum) e unknown h l n = refl
place_refused (member_place enum) e items h l n = refl
place_refused (member_place any) e (bits least) h l n = absurd n
place_refused (member_place any) e unsized h l n = absurd n
place_refused (member_place any) e boolean h l n = absurd n
place_refused (member_place any) e error_code h l n = absurd n
place_refused (member_place any) e (header other) h l n = absurd n
place_refused (member_place any) e (stack other extent) h l n = absurd n
place_refused (member_place any) e (struct other) h l n = absurd n
place_refused (member_place any) e packet_in h l n = absurd n
place_refused (member_place any) e packet_out h l n = absurd n
place_refused (member_place any) e errors h l n = absurd n
place_refused (member_place any) e (enumeration which) h l n = absurd n
place_refused (member_place any) e (one_of which) h l n = absurd n
place_refused (member_place any) e table h l n = absurd n
place_refused (member_place any) e applied h l n = absurd n
place_refused (member_place any) e (object thing) h l n = absurd n
place_refused select_key e nothing h l n = refl
place_refused select_key e unknown h l n = refl
place_refused select_key e items h l n = refl
place_refused select_key e (bits least) h l n = absurd n
place_refused select_key e unsized h l n = absurd n
place_refused select_key e boolean h l n = absurd n
place_refused select_key e error_code h l n = absurd n
place_refused select_key e (header other) h l n = absurd n
place_refused select_key e (stack other extent) h l n = absurd n
place_refused select_key e (struct other) h l n = absurd n
place_refused select_key e packet_in h l n = absurd n
place_refused select_key e packet_out h l n = absurd n
place_refused select_key e errors h l n = absurd n
place_refused select_key e (enumeration which) h l n = absurd n
place_refused select_key e (one_of which) h l n = absurd n
place_refused select_key e table h l n = absurd n
place_refused select_key e applied h l n = absurd n
place_refused select_key e (object thing) h l n = absurd n
place_refused (table_key is_exact) e nothing h l n = and_false is_exact
place_refused (table_key is_exact) e unknown h l n = and_false is_exact
place_refused (table_key is_exact) e items h l n = and_false is_exact
place_refused (table_key is_exact) e (bits least) h l n = absurd n
place_refused (table_key is_exact) e unsized h l n = absurd n
place_refused (table_key is_exact) e boolean h l n = absurd n
place_refused (table_key is_exact) e error_code h l n = absurd n
place_refused (table_key is_exact) e (header other) h l n = absurd n
place_refused (table_key is_exact) e (stack other extent) h l n = absurd n
place_refused (table_key is_exact) e (struct other) h l n = absurd n
place_refused (table_key is_exact) e packet_in h l n = absurd n
place_refused (table_key is_exact) e packet_out h l n = absurd n
place_refused (table_key is_exact) e errors h l n = absurd n
place_refused (table_key is_exact) e (enumeration which) h l n = absurd n
place_refused (table_key is_exact) e (one_of which) h l n = absurd n
place_refused (table_key is_exact) e table h l n = absurd n
place_refused (table_key is_exact) e applied h l n = absurd n
place_refused (table_key is_exact) e (object thing) h l n = absurd n
place_refused owner e nothing h l n = refl
place_refused owner e unknown h l n = refl
place_refused owner e items h l n = refl
place_refused owner e (bits least) h l n = absurd n
place_refused owner e unsized h l n = absurd n
place_refused owner e boolean h l n = absurd n
place_refused owner e error_code h l n = absurd n
place_refused owner e (header other) h l n = absurd n
place_refused owner e (stack other extent) h l n = absurd n
place_refused owner e (struct other) h l n = absurd n
place_refused owner e packet_in h l n = absurd n
place_refused owner e packet_out h l n = absurd n
place_refused owner e errors h l n = absurd n
place_refused owner e (enumeration which) h l n = absurd n
place_refused owner e (one_of which) h l n = absurd n
place_refused owner e table h l n = absurd n
place_refused owner e applied h l n = absurd n
place_refused owner e (object thing) h l n = absurd n
place_refused written_owner e nothing h l n = refl
place_refused written_owner e unknown h l n = refl
place_refused written_owner e items h l n = refl
place_refused written_owner e (bits least) h l n = absurd n
place_refused written_owner e unsized h l n = absurd n
place_refused written_owner e boolean h l n = absurd n
place_refused written_owner e error_code h l n = absurd n
place_refused written_owner e (header other) h l n = absurd n
place_refused written_owner e (stack other extent) h l n = absurd n
place_refused written_owner e (struct other) h l n = absurd n
place_refused written_owner e packet_in h l n = absurd n
place_refused written_owner e packet_out h l n = absurd n
place_refused written_owner e errors h l n = absurd n
place_refused written_owner e (enumeration which) h l n = absurd n
place_refused written_owner e (one_of which) h l n = absurd n
place_refused written_owner e table h l n = absurd n
place_refused written_owner e applied h l n = absurd n
place_refused written_owner e (object thing) h l n = absurd n
place_refused a_stack e nothing h l n = refl
place_refused a_stack e unknown h l n = refl
place_refused a_stack e items h l n = refl
place_refused a_stack e (bits least) h l n = absurd n
place_refused a_stack e unsized h l n = absurd n
place_refused a_stack e boolean h l n = absurd n
place_refused a_stack e error_code h l n = absurd n
place_refused a_stack e (header other) h l n = absurd n
place_refused a_stack e (stack other extent) h l n = absurd n
place_refused a_stack e (struct other) h l n = absurd n
place_refused a_stack e packet_in h l n = absurd n
place_refused a_stack e packet_out h l n = absurd n
place_refused a_stack e errors h l n = absurd n
place_refused a_stack e (enumeration which) h l n = absurd n
place_refused a_stack e (one_of which) h l n = absurd n
place_refused a_stack e table h l n = absurd n
place_refused a_stack e applied h l n = absurd n
place_refused a_stack e (object thing) h l n = absurd n
place_refused callee e k h l n = absurd h
place_refused item_list e k h l n = absurd h
place_refused target e k h l n = absurd h
place_refused statement e k h l n = absurd h
place_refused unasked e k h l n = absurd h

-- what is judged

-- none of T1, T3 and T10 is broken by what is judged
pub record Sound (us : List Use) : Type 0 where
  pub known : list_any is_misnamed us ≡ false
  pub typed : list_any is_mistyped us ≡ false
  pub placed : list_any is_outside_block us ≡ false

rest : (u : Use) (us : List Use) → Sound (u ∷ us) → Sound us
rest u us h = record {
  known = second_false (is_misnamed u) (list_any is_misnamed us) h.known;
  typed = second_false (is_mistyped u) (list_any is_mistyped us) h.typed;
  placed = second_false (is_outside_block u) (list_any is_outside_block us) h.placed;
}

before : (us vs : List Use) → Sound (us ++ vs) → Sound us
before us vs h = record { known = in_front is_misnamed us vs h.known; typed = in_front is_mistyped us vs h.typed; placed = in_front is_outside_block us vs h.placed }

behind : (us vs : List Use) → Sound (us ++ vs) → Sound vs
behind us vs h = record { known = at_end is_misnamed us vs h.known; typed = at_end is_mistyped us vs h.typed; placed = at_end is_outside_block us vs h.placed }

-- what is judged at a place is taken there
taken : (s : Scope) (p : Place) (e : Exp16) (us : List Use) → Sound (an_expression s p e ∷ us) → takes p e (kind_of s e) ≡ true
taken s p e us h = not_false (takes p e (kind_of s e)) (first_false (is_mistyped (an_expression s p e)) (list_any is_mistyped us) h.typed)

never : (b : Bool) → b ≡ true → b ≡ false → ⊥
never true x y = cc y
never false x y = cc x

-- so nothing that is refused stands there
refused : (s : Scope) (p : Place) (e : Exp16) (us : List Use) (k : Kind) → Sound (an_expression s p e ∷ us) → IsStrict p → is_literal e ≡ false → kind_of s e ≡ k → IsNothing k → ⊥
refused s p e us k h there plain is none = never (takes p e k) (ap (λ (j : Kind). takes p e j) (sym is) ∙ taken s p e us h) (place_refused p e k there plain none)

module _ (s : Scope) (part : is_parser_part s.part ≡ false) (positions : are_allowed (parser_position ∷ []) s.positions ≡ false) where
  -- no stack tells an element, and an application whether it hit
  member_told : (p : Place) (e : Exp16) (word : Name) → IsStrict p → Sound (an_expression s p (member e word) ∷ []) → IsTold (kind_of s e) word
  member_told p e word there h = by (kind_of s e) known placed where
    known : (is_none (member_kind s.layouts (kind_of s e) word) && not (is_plain (kind_of s e))) ≡ false
    known = sym (unknown_there s p e word there) ∙ first_false (is_unknown_member s p e word) false h.known

    placed : ((is_stack (kind_of s e) && is_place_word word) && not (is_parser_part s.part)) ≡ false
    placed = first_false ((is_stack (kind_of s e) && is_place_word word) && not (is_parser_part s.part)) false h.placed

    stack_told : (type : Name) (size : ℕ) → (is_none (member_kind s.layouts (stack type size) word) && true) ≡ false → (is_place_word word && not (is_parser_part s.part)) ≡ false → ⊥
    stack_told type size = by_word (is_place_word word) (is_parser_part s.part) part where
      by_word : (t u : Bool) → u ≡ false → (is_none (cond t (Some (header type)) None) && true) ≡ false → (t && not u) ≡ false → ⊥
      by_word true true x y k = cc x
      by_word true false x y k = cc k
      by_word false u x y k = cc y

    hit_told : (is_none (member_kind s.layouts applied word) && true) ≡ false → IsTold applied word
    hit_told = by_words (bytes_eq word (codes "hit")) refl (bytes_eq word (codes "miss")) refl where
      by_words : (t : Bool) → bytes_eq word (codes "hit") ≡ t → (u : Bool) → bytes_eq word (codes "miss") ≡ u → (is_none (cond (t || (u || false)) (Some boolean) None) && true) ≡ false → (bytes_eq word (codes "hit") ≡ true) ⊎ (bytes_eq word (codes "miss") ≡ true)
      by_words true x u y g = inl x
      by_words false x true y g = inr y
      by_words false x false y g = absurd (cc g)

    by : (k : Kind) → (is_none (member_kind s.layouts k word) && not (is_plain k)) ≡ false → ((is_stack k && is_place_word word) && not (is_parser_part s.part)) ≡ false → IsTold k word
    by (bits width) x y = tt
    by unsized x y = tt
    by boolean x y = tt
    by error_code x y = tt
    by (header type) x y = tt
    by (stack type size) x y = absurd (stack_told type size x y)
    by (struct type) x y = tt
    by packet_in x y = tt
    by packet_out x y = tt
    by errors x y = tt
    by (enumeration enum) x y = tt
    by (one_of enum) x y = tt
    by table x y = tt
    by applied x y = hit_told x
    by (object obj) x y = tt
    by items x y = tt
    by nothing x y = tt
    by unknown x y = tt

  -- nothing is looked ahead at
  ahead_none : not (are_allowed (parser_position ∷ []) s.positions) ≡ false → ⊥
  ahead_none h = by (are_allowed (parser_position ∷ []) s.positions) positions h where
    by : (t : Bool) → t ≡ false → not t ≡ false → ⊥
    by true x y = cc x
    by false x y = cc y

  -- a method of a stack gives nothing
  method_told : (p : Place) (e more : Exp16) (word : Name) → IsStrict p → takes p (call (member e word) more) (call_kind (method_signature (kind_of s e) word)) ≡ true → (is_none (method_signature (kind_of s e) word) && not (is_plain (kind_of s e))) ≡ false → IsTold (kind_of s e) word
  method_told p e more word there = by (kind_of s e) where
    stack_none : (t u : Bool) → takes p (call (member e word) more) (call_kind (cond t (Some (method true (literal_of (bits 32) ∷ []) nothing)) (cond u (Some (method true (literal_of (bits 32) ∷ []) nothing)) None))) ≡ true → ⊥
    stack_none true u x = never (takes p (call (member e word) more) nothing) x (place_refused p (call (member e word) more) nothing there refl tt)
    stack_none false true x = never (takes p (call (member e word) more) nothing) x (place_refused p (call (member e word) more) nothing there refl tt)
    stack_none false false x = never (takes p (call (member e word) more) unknown) x (place_refused p (call (member e word) more) unknown there refl tt)

    by : (k : Kind) → takes p (call (member e word) more) (call_kind (method_signature k word)) ≡ true → (is_none (method_signature k word) && not (is_plain k)) ≡ false → IsTold k word
    by (bits width) x y = tt
    by unsized x y = tt
    by boolean x y = tt
    by error_code x y = tt
    by (header type) x y = tt
    by (stack type size) x y = absurd (stack_none (bytes_eq word (codes "push_front")) (bytes_eq word (codes "pop_front")) x)
    by (struct type) x y = tt
    by packet_in x y = tt
    by packet_out x y = tt
    by errors x y = tt
    by (enumeration enum) x y = tt
    by (one_of enum) x y = tt
    by table x y = tt
    by applied x y = absurd (cc y)
    by (object obj) x y = tt
    by items x y = tt
    by nothing x y = tt
    by unknown x y = tt

  -- only names and members are called
  unnamed : (p : Place) (g more : Exp16) → Sound (uses s p (call g more)) → is_named_callee g ≡ false → ⊥
  unnamed p g more h none = by g none (behind (an_expression s p (call g more) ∷ []) (uses s callee g) (before (an_expression s p (call g more) ∷ uses s callee g) (uses_at s (many (wanted_by (signature_of s g)) unasked) more) h)) where
    by : (e : Exp16) → is_named_callee e ≡ false → Sound (uses s callee e) → ⊥
    by (literal n) x k = never (is_named_callee (literal n)) (taken s callee (literal n) _ k) x
    by (truth holds) x k = never (is_named_callee (truth holds)) (taken s callee (truth holds) _ k) x
    by error x k = never (is_named_callee error) (taken s callee error _ k) x
    by (name text) x k = cc x
    by (member e word) x k = cc x
    by (index e at) x k = never (is_named_callee (index e at)) (taken s callee (index e at) _ k) x
    by (slice e high low) x k = never (is_named_callee (slice e high low)) (taken s callee (slice e high low) _ k) x
    by (call f others) x k = never (is_named_callee (call f others)) (taken s callee (call f others) _ k) x
    by (lookahead e to others) x k = never (is_named_callee (lookahead e to others)) (taken s callee (lookahead e to others) _ k) x
    by (cast to e) x k = never (is_named_callee (cast to e)) (taken s callee (cast to e) _ k) x
    by (unary operator e) x k = never (is_named_callee (unary operator e)) (taken s callee (unary operator e) _ k) x
    by (binary operator a b) x k = never (is_named_callee (binary operator a b)) (taken s callee (binary operator a b) _ k) x
    by (choice d a b) x k = never (is_named_callee (choice d a b)) (taken s callee (choice d a b) _ k) x
    by (parenthesized e) x k = never (is_named_callee (parenthesized e)) (taken s callee (parenthesized e) _ k) x
    by no_arguments x k = never (is_named_callee no_arguments) (taken s callee no_arguments _ k) x
    by (argument former last) x k = never (is_named_callee (argument former last)) (taken s callee (argument former last) _ k) x
    by (listed es) x k = never (is_named_callee (listed es)) (taken s callee (listed es) _ k) x

  pub told : (e : Exp16) (p : Place) → IsStrict p → Sound (uses s p e) → ToldNone s e
  told (literal n) p there h = tt
  told (truth holds) p there h = tt
  told error p there h = tt
  told (name text) p there h = tt
  told (member e word) p there h =
      let own = owner_place p (method_signature (kind_of s e) word) in
      (member_told p e word there (before (an_expression s p (member e word) ∷ []) (uses s own e) h), told e own (owner_strict p (method_signature (kind_of s e) word) there) (rest (an_expression s p (member e word)) (uses s own e) h))
  told (index e at) p there h = told e a_stack tt (rest (a_number at) (uses s a_stack e) (rest (an_expression s p (index e at)) (a_number at ∷ uses s a_stack e) h))
  told (slice e high low) p there h = told e any_bits tt (behind (an_expression s p (slice e high low) ∷ a_number high ∷ a_number low ∷ []) (uses s any_bits e) h)
  told (call (literal n) more) p there h = tt
  told (call (truth holds) more) p there h = tt
  told (call error more) p there h = tt
  told (call (name text) more) p there h = tt
  told (call (member e word) more) p there h =
      let own = method_signature (kind_of s e) word in
      let both = before (an_expression s p (call (member e word) more) ∷ uses s callee (member e word)) (uses_at s (many (wanted_by (signature_of s (member e word))) unasked) more) h in
      let called = behind (an_expression s p (call (member e word) more) ∷ []) (uses s callee (member e word)) both in (
        method_told p e more word there (taken s p (call (member e word) more) (uses s callee (member e word)) both)
            (first_false (is_misnamed (an_expression s callee (member e word))) (list_any is_misnamed (uses s (owner_by own) e)) called.known),
        told e (owner_by own) (by_strict own) (rest (an_expression s callee (member e word)) (uses s (owner_by own) e) called),
      )
  told (call (index e at) more) p there h = absurd (unnamed p (index e at) more h refl)
  told (call (slice e high low) more) p there h = absurd (unnamed p (slice e high low) more h refl)
  told (call (call g others) more) p there h = absurd (unnamed p (call g others) more h refl)
  told (call (lookahead e to others) more) p there h = absurd (unnamed p (lookahead e to others) more h refl)
  told (call (cast to e) more) p there h = absurd (unnamed p (cast to e) more h refl)
  told (call (unary operator e) more) p there h = absurd (unnamed p (unary operator e) more h refl)
  told (call (binary operator a b) more) p there h = absurd (unnamed p (binary operator a b) more h refl)
  told (call (choice d a b) more) p there h = absurd (unnamed p (choice d a b) more h refl)
  told (call (parenthesized e) more) p there h = tt
  told (call no_arguments more) p there h = tt
  told (call (argument former last) more) p there h = absurd (unnamed p (argument former last) more h refl)
  told (call (listed es) more) p there h = absurd (unnamed p (listed es) more h refl)
  told (lookahead e to more) p there h = absurd (ahead_none (first_false (is_outside_block (an_expression s p (lookahead e to more))) (list_any is_outside_block (type_uses s of_lookahead to ++ uses s owner e ++ uses_at s (many [] unasked) more)) h.placed))
  told (cast to e) p there h = told e (cast_place to) (cast_strict to) (behind (an_expression s p (cast to e) ∷ cast_numbers to) (uses s (cast_place to) e) h)
  told (unary operator e) p there h = told e (unary_place p operator (kind_of s e)) (unary_strict p operator (kind_of s e) there) (rest (an_expression s p (unary operator e)) (uses s (unary_place p operator (kind_of s e)) e) h)
  told (binary operator a b) p there h =
      let left = left_place p operator (kind_of s a) (kind_of s b) in
      let right = right_place p operator (kind_of s a) (kind_of s b) in (
        told a left (left_strict p operator (kind_of s a) (kind_of s b) there) (behind (an_expression s p (binary operator a b) ∷ []) (uses s left a) (before (an_expression s p (binary operator a b) ∷ uses s left a) (uses s right b) h)),
        told b right (right_strict p operator (kind_of s a) (kind_of s b) there) (behind (an_expression s p (binary operator a b) ∷ uses s left a) (uses s right b) h),
      )
  told (choice d a b) p there h =
      let place = chosen_place p (kind_of s a) (kind_of s b) in
      let own = chosen_strict p (kind_of s a) (kind_of s b) there in
      let first = before (an_expression s p (choice d a b) ∷ uses s (value boolean) d ++ uses s place a) (uses s place b) h in (
        told d (value boolean) tt (behind (an_expression s p (choice d a b) ∷ []) (uses s (value boolean) d) (before (an_expression s p (choice d a b) ∷ uses s (value boolean) d) (uses s place a) first)),
        told a place own (behind (an_expression s p (choice d a b) ∷ uses s (value boolean) d) (uses s place a) first),
        told b place own (behind (an_expression s p (choice d a b) ∷ uses s (value boolean) d ++ uses s place a) (uses s place b) h),
      )
  told (parenthesized e) p there h = tt
  told no_arguments p there h = tt
  told (argument former last) p there h = absurd (refused s p (argument former last) [] unknown h there refl refl tt)
  told (listed es) p there h = absurd (refused s p (listed es) (uses_at s (many [] any_bits) es) items h there refl refl tt)
