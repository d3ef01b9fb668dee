-- Where no rule on types and sizes is broken, operands are of kinds that fit; and a ready expression applies no table.
use Rattle.std.proofs.Common.{◌≡◌, ℕ, ◌+◌, nat_eq, ◌||◌, ◌&&◌, not, Bool, true, false, List, ◌∷◌, ◌++◌, refl, sym, ap, ◌∙◌, subst}
use Rattle.std.specs.List.{list_any}
use Rattle.std.proofs.lemmas.List.Folds.{list_any-append}
use Rattle.std.proofs.lemmas.Bool.{eqb-true, ltb-false}
use Rattle.p416_syntax.specs.declared.node.BinaryOperator.{BinaryOperator}
use Rattle.p416_syntax.specs.declared.node.BinaryOperator.TheVariants.{Multiply, Add, Subtract, SaturatingAdd, SaturatingSubtract, Concatenate, ShiftLeft, ShiftRight, BitAnd, BitXor, BitOr, Less, LessEqual, Greater, GreaterEqual, Equal, NotEqual, And, Or}
use Rattle.p416_syntax.specs.Tree.{Exp16, literal, truth, error, name, member, index, slice, call, lookahead, cast, unary, binary, choice, parenthesized, no_arguments, argument, listed}
use Rattle.p416_syntax.specs.Names.{Name}
use Rattle.p416_syntax.specs.Kinds.{Kind, bits, unsized, boolean, error_code, header, stack, struct, packet_in, packet_out, errors, enumeration, one_of, table, applied, object, items, nothing, unknown, is_bits, is_unsized, is_same_kind, Enumeration, ObjectKind}
use Rattle.p416_syntax.specs.Scopes.{Scope}
use Rattle.p416_syntax.specs.Calls.{Place, value, any_bits, a_stack, callee, unasked, method_signature}
use Rattle.p416_syntax.specs.Expressions.{kind_of, signature_of}
use Rattle.p416_syntax.specs.Uses.{Use, an_expression, a_number, joint_place, unary_place, left_place, right_place, cast_place, chosen_place, owner_place, one, many, cast_numbers, wanted_by, uses_at}
use Rattle.p416_syntax.specs.Types.{takes, is_mistyped}
use Rattle.p416_syntax.specs.Sizes.{joins_too_many, leaves_size}
use Rattle.v1_ready_laws.specs.Kinds.{Join, one_width, left_width, right_width, no_width, Concatenated, both_widths, KindsFit, OperandKindsFit}
use Rattle.v1_ready_laws.specs.Rules.{AppliesNone, KeepsAll, Keeps}

-- tests that find nothing

pub first_false : (a b : Bool) → (a || b) ≡ false → a ≡ false
first_false true b e = absurd (cc e)
first_false false b e = refl

pub second_false : (a b : Bool) → (a || b) ≡ false → b ≡ false
second_false true b e = absurd (cc e)
second_false false b e = e

not_false : (b : Bool) → not b ≡ false → b ≡ true
not_false true e = refl
not_false false e = absurd (cc e)

pub front_none : (test : Use → Bool) (xs ys : List Use) → list_any test (xs ++ ys) ≡ false → list_any test xs ≡ false
front_none test xs ys none = first_false (list_any test xs) (list_any test ys) (sym (list_any-append test xs ys) ∙ none)

pub rest_none : (test : Use → Bool) (xs ys : List Use) → list_any test (xs ++ ys) ≡ false → list_any test ys ≡ false
rest_none test xs ys none = second_false (list_any test xs) (list_any test ys) (sym (list_any-append test xs ys) ∙ none)

-- an expression is the first that is judged of it
head_of : (s : Scope) (p : Place) (e : Exp16) (test : Use → Bool) → list_any test (uses_at s (one p) e) ≡ false → test (an_expression s p e) ≡ false
head_of s p (literal n) test none = first_false (test (an_expression s p (literal n))) _ none
head_of s p (truth holds) test none = first_false (test (an_expression s p (truth holds))) _ none
head_of s p error test none = first_false (test (an_expression s p error)) _ none
head_of s p (name text) test none = first_false (test (an_expression s p (name text))) _ none
head_of s p (member e word) test none = first_false (test (an_expression s p (member e word))) _ none
head_of s p (index e at) test none = first_false (test (an_expression s p (index e at))) _ none
head_of s p (slice e high low) test none = first_false (test (an_expression s p (slice e high low))) _ none
head_of s p (call g handed) test none = first_false (test (an_expression s p (call g handed))) _ none
head_of s p (lookahead e to handed) test none = first_false (test (an_expression s p (lookahead e to handed))) _ none
head_of s p (cast to e) test none = first_false (test (an_expression s p (cast to e))) _ none
head_of s p (unary operator e) test none = first_false (test (an_expression s p (unary operator e))) _ none
head_of s p (binary operator a b) test none = first_false (test (an_expression s p (binary operator a b))) _ none
head_of s p (choice d a b) test none = first_false (test (an_expression s p (choice d a b))) _ none
head_of s p (parenthesized e) test none = first_false (test (an_expression s p (parenthesized e))) _ none
head_of s p no_arguments test none = first_false (test (an_expression s p no_arguments)) _ none
head_of s p (argument before last) test none = first_false (test (an_expression s p (argument before last))) _ none
head_of s p (listed es) test none = first_false (test (an_expression s p (listed es))) _ none

taken : (s : Scope) (p : Place) (e : Exp16) → list_any is_mistyped (uses_at s (one p) e) ≡ false → takes p e (kind_of s e) ≡ true
taken s p e none = not_false (takes p e (kind_of s e)) (head_of s p e is_mistyped none)

-- kinds of operands that their places take

by_kind : (P : Kind → Type 0) → ((w : ℕ) → P (bits w)) → P unsized → P boolean → P error_code → ((n : Name) → P (header n)) → ((n : Name) (w : ℕ) → P (stack n w)) → ((n : Name) → P (struct n)) → P packet_in → P packet_out → P errors → ((x : Enumeration) → P (enumeration x)) → ((x : Enumeration) → P (one_of x)) → P table → P applied → ((x : ObjectKind) → P (object x)) → P items → P nothing → P unknown → (k : Kind) → P k
by_kind P x0 x1 x2 x3 x4 x5 x6 x7 x8 x9 x10 x11 x12 x13 x14 x15 x16 x17 (bits width) = x0 width
by_kind P x0 x1 x2 x3 x4 x5 x6 x7 x8 x9 x10 x11 x12 x13 x14 x15 x16 x17 unsized = x1
by_kind P x0 x1 x2 x3 x4 x5 x6 x7 x8 x9 x10 x11 x12 x13 x14 x15 x16 x17 boolean = x2
by_kind P x0 x1 x2 x3 x4 x5 x6 x7 x8 x9 x10 x11 x12 x13 x14 x15 x16 x17 error_code = x3
by_kind P x0 x1 x2 x3 x4 x5 x6 x7 x8 x9 x10 x11 x12 x13 x14 x15 x16 x17 (header type) = x4 type
by_kind P x0 x1 x2 x3 x4 x5 x6 x7 x8 x9 x10 x11 x12 x13 x14 x15 x16 x17 (stack type size) = x5 type size
by_kind P x0 x1 x2 x3 x4 x5 x6 x7 x8 x9 x10 x11 x12 x13 x14 x15 x16 x17 (struct type) = x6 type
by_kind P x0 x1 x2 x3 x4 x5 x6 x7 x8 x9 x10 x11 x12 x13 x14 x15 x16 x17 packet_in = x7
by_kind P x0 x1 x2 x3 x4 x5 x6 x7 x8 x9 x10 x11 x12 x13 x14 x15 x16 x17 packet_out = x8
by_kind P x0 x1 x2 x3 x4 x5 x6 x7 x8 x9 x10 x11 x12 x13 x14 x15 x16 x17 errors = x9
by_kind P x0 x1 x2 x3 x4 x5 x6 x7 x8 x9 x10 x11 x12 x13 x14 x15 x16 x17 (enumeration enum) = x10 enum
by_kind P x0 x1 x2 x3 x4 x5 x6 x7 x8 x9 x10 x11 x12 x13 x14 x15 x16 x17 (one_of enum) = x11 enum
by_kind P x0 x1 x2 x3 x4 x5 x6 x7 x8 x9 x10 x11 x12 x13 x14 x15 x16 x17 table = x12
by_kind P x0 x1 x2 x3 x4 x5 x6 x7 x8 x9 x10 x11 x12 x13 x14 x15 x16 x17 applied = x13
by_kind P x0 x1 x2 x3 x4 x5 x6 x7 x8 x9 x10 x11 x12 x13 x14 x15 x16 x17 (object kind) = x14 kind
by_kind P x0 x1 x2 x3 x4 x5 x6 x7 x8 x9 x10 x11 x12 x13 x14 x15 x16 x17 items = x15
by_kind P x0 x1 x2 x3 x4 x5 x6 x7 x8 x9 x10 x11 x12 x13 x14 x15 x16 x17 nothing = x16
by_kind P x0 x1 x2 x3 x4 x5 x6 x7 x8 x9 x10 x11 x12 x13 x14 x15 x16 x17 unknown = x17

-- the place of operands of which the first is no number
other_place : (P : Place → Type 0) (p : Place) (a b : Kind) → is_bits a ≡ false → is_unsized a ≡ false → P any_bits → ((w : ℕ) → P (value (bits w))) → P (joint_place p a b)
other_place P p (bits width) b no_bits no_number x y = absurd (cc no_bits)
other_place P p unsized b no_bits no_number x y = absurd (cc no_number)
other_place P p boolean b no_bits no_number x y = by_kind (λ k. P (joint_place p boolean k)) y x x x (λ n. x) (λ n w. x) (λ n. x) x x x (λ n. x) (λ n. x) x x (λ n. x) x x x b
other_place P p error_code b no_bits no_number x y = by_kind (λ k. P (joint_place p error_code k)) y x x x (λ n. x) (λ n w. x) (λ n. x) x x x (λ n. x) (λ n. x) x x (λ n. x) x x x b
other_place P p (header type) b no_bits no_number x y = by_kind (λ k. P (joint_place p (header type) k)) y x x x (λ n. x) (λ n w. x) (λ n. x) x x x (λ n. x) (λ n. x) x x (λ n. x) x x x b
other_place P p (stack type size) b no_bits no_number x y = by_kind (λ k. P (joint_place p (stack type size) k)) y x x x (λ n. x) (λ n w. x) (λ n. x) x x x (λ n. x) (λ n. x) x x (λ n. x) x x x b
other_place P p (struct type) b no_bits no_number x y = by_kind (λ k. P (joint_place p (struct type) k)) y x x x (λ n. x) (λ n w. x) (λ n. x) x x x (λ n. x) (λ n. x) x x (λ n. x) x x x b
other_place P p packet_in b no_bits no_number x y = by_kind (λ k. P (joint_place p packet_in k)) y x x x (λ n. x) (λ n w. x) (λ n. x) x x x (λ n. x) (λ n. x) x x (λ n. x) x x x b
other_place P p packet_out b no_bits no_number x y = by_kind (λ k. P (joint_place p packet_out k)) y x x x (λ n. x) (λ n w. x) (λ n. x) x x x (λ n. x) (λ n. x) x x (λ n. x) x x x b
other_place P p errors b no_bits no_number x y = by_kind (λ k. P (joint_place p errors k)) y x x x (λ n. x) (λ n w. x) (λ n. x) x x x (λ n. x) (λ n. x) x x (λ n. x) x x x b
other_place P p (enumeration enum) b no_bits no_number x y = by_kind (λ k. P (joint_place p (enumeration enum) k)) y x x x (λ n. x) (λ n w. x) (λ n. x) x x x (λ n. x) (λ n. x) x x (λ n. x) x x x b
other_place P p (one_of enum) b no_bits no_number x y = by_kind (λ k. P (joint_place p (one_of enum) k)) y x x x (λ n. x) (λ n w. x) (λ n. x) x x x (λ n. x) (λ n. x) x x (λ n. x) x x x b
other_place P p table b no_bits no_number x y = by_kind (λ k. P (joint_place p table k)) y x x x (λ n. x) (λ n w. x) (λ n. x) x x x (λ n. x) (λ n. x) x x (λ n. x) x x x b
other_place P p applied b no_bits no_number x y = by_kind (λ k. P (joint_place p applied k)) y x x x (λ n. x) (λ n w. x) (λ n. x) x x x (λ n. x) (λ n. x) x x (λ n. x) x x x b
other_place P p (object kind) b no_bits no_number x y = by_kind (λ k. P (joint_place p (object kind) k)) y x x x (λ n. x) (λ n w. x) (λ n. x) x x x (λ n. x) (λ n. x) x x (λ n. x) x x x b
other_place P p items b no_bits no_number x y = by_kind (λ k. P (joint_place p items k)) y x x x (λ n. x) (λ n w. x) (λ n. x) x x x (λ n. x) (λ n. x) x x (λ n. x) x x x b
other_place P p nothing b no_bits no_number x y = by_kind (λ k. P (joint_place p nothing k)) y x x x (λ n. x) (λ n w. x) (λ n. x) x x x (λ n. x) (λ n. x) x x (λ n. x) x x x b
other_place P p unknown b no_bits no_number x y = by_kind (λ k. P (joint_place p unknown k)) y x x x (λ n. x) (λ n w. x) (λ n. x) x x x (λ n. x) (λ n. x) x x (λ n. x) x x x b

-- no number is taken there
other_refused : (p : Place) (e : Exp16) (a b : Kind) → is_bits a ≡ false → is_unsized a ≡ false → ((w : ℕ) → is_same_kind (bits w) a ≡ false) → takes (joint_place p a b) e a ≡ false
other_refused p e a b no_bits no_number differs =
    other_place (λ q. takes q e a ≡ false) p a b no_bits no_number no_bits
    (λ w. ap (λ (t : Bool). t || (true && is_unsized a)) (differs w) ∙ no_number)

alone_true : (a : Bool) → (a || false) ≡ true → a ≡ true
alone_true true e = refl
alone_true false e = absurd (cc e)

clash : {A : Type 0} (b : Bool) → b ≡ false → b ≡ true → A
clash true never yes_is = absurd (cc never)
clash false never yes_is = absurd (cc yes_is)

join_of : (p : Place) (d e : Exp16) (a b : Kind) → takes (joint_place p a b) d a ≡ true → takes (joint_place p a b) e b ≡ true → Join a b
join_of p d e (bits v) (bits w) x y = subst (λ (n : ℕ). Join (bits v) (bits n)) (eqb-true v w (alone_true (nat_eq v w) y)) (one_width v)
join_of p d e (bits v) unsized x y = left_width v
join_of p d e (bits v) boolean x y = absurd (cc y)
join_of p d e (bits v) error_code x y = absurd (cc y)
join_of p d e (bits v) (header type) x y = absurd (cc y)
join_of p d e (bits v) (stack type size) x y = absurd (cc y)
join_of p d e (bits v) (struct type) x y = absurd (cc y)
join_of p d e (bits v) packet_in x y = absurd (cc y)
join_of p d e (bits v) packet_out x y = absurd (cc y)
join_of p d e (bits v) errors x y = absurd (cc y)
join_of p d e (bits v) (enumeration enum) x y = absurd (cc y)
join_of p d e (bits v) (one_of enum) x y = absurd (cc y)
join_of p d e (bits v) table x y = absurd (cc y)
join_of p d e (bits v) applied x y = absurd (cc y)
join_of p d e (bits v) (object kind) x y = absurd (cc y)
join_of p d e (bits v) items x y = absurd (cc y)
join_of p d e (bits v) nothing x y = absurd (cc y)
join_of p d e (bits v) unknown x y = absurd (cc y)
join_of p d e unsized (bits w) x y = right_width w
join_of p d e unsized unsized x y = no_width
join_of p d e unsized boolean x y = absurd (cc x)
join_of p d e unsized error_code x y = absurd (cc x)
join_of p d e unsized (header type) x y = absurd (cc x)
join_of p d e unsized (stack type size) x y = absurd (cc x)
join_of p d e unsized (struct type) x y = absurd (cc x)
join_of p d e unsized packet_in x y = absurd (cc x)
join_of p d e unsized packet_out x y = absurd (cc x)
join_of p d e unsized errors x y = absurd (cc x)
join_of p d e unsized (enumeration enum) x y = absurd (cc x)
join_of p d e unsized (one_of enum) x y = absurd (cc x)
join_of p d e unsized table x y = absurd (cc x)
join_of p d e unsized applied x y = absurd (cc x)
join_of p d e unsized (object kind) x y = absurd (cc x)
join_of p d e unsized items x y = absurd (cc x)
join_of p d e unsized nothing x y = absurd (cc x)
join_of p d e unsized unknown x y = absurd (cc x)
join_of p d e boolean b x y = clash _ (other_refused p d boolean b refl refl (λ w. refl)) x
join_of p d e error_code b x y = clash _ (other_refused p d error_code b refl refl (λ w. refl)) x
join_of p d e (header type) b x y = clash _ (other_refused p d (header type) b refl refl (λ w. refl)) x
join_of p d e (stack type size) b x y = clash _ (other_refused p d (stack type size) b refl refl (λ w. refl)) x
join_of p d e (struct type) b x y = clash _ (other_refused p d (struct type) b refl refl (λ w. refl)) x
join_of p d e packet_in b x y = clash _ (other_refused p d packet_in b refl refl (λ w. refl)) x
join_of p d e packet_out b x y = clash _ (other_refused p d packet_out b refl refl (λ w. refl)) x
join_of p d e errors b x y = clash _ (other_refused p d errors b refl refl (λ w. refl)) x
join_of p d e (enumeration enum) b x y = clash _ (other_refused p d (enumeration enum) b refl refl (λ w. refl)) x
join_of p d e (one_of enum) b x y = clash _ (other_refused p d (one_of enum) b refl refl (λ w. refl)) x
join_of p d e table b x y = clash _ (other_refused p d table b refl refl (λ w. refl)) x
join_of p d e applied b x y = clash _ (other_refused p d applied b refl refl (λ w. refl)) x
join_of p d e (object kind) b x y = clash _ (other_refused p d (object kind) b refl refl (λ w. refl)) x
join_of p d e items b x y = clash _ (other_refused p d items b refl refl (λ w. refl)) x
join_of p d e nothing b x y = clash _ (other_refused p d nothing b refl refl (λ w. refl)) x
join_of p d e unknown b x y = clash _ (other_refused p d unknown b refl refl (λ w. refl)) x

concatenated_of : (d e : Exp16) (a b : Kind) → takes any_bits d a ≡ true → takes any_bits e b ≡ true → joins_too_many Concatenate a b ≡ false → Concatenated a b
concatenated_of d e (bits v) (bits w) x y few = both_widths v w (ltb-false 128 (v + w) few)
concatenated_of d e (bits v) unsized x y few = absurd (cc y)
concatenated_of d e (bits v) boolean x y few = absurd (cc y)
concatenated_of d e (bits v) error_code x y few = absurd (cc y)
concatenated_of d e (bits v) (header type) x y few = absurd (cc y)
concatenated_of d e (bits v) (stack type size) x y few = absurd (cc y)
concatenated_of d e (bits v) (struct type) x y few = absurd (cc y)
concatenated_of d e (bits v) packet_in x y few = absurd (cc y)
concatenated_of d e (bits v) packet_out x y few = absurd (cc y)
concatenated_of d e (bits v) errors x y few = absurd (cc y)
concatenated_of d e (bits v) (enumeration enum) x y few = absurd (cc y)
concatenated_of d e (bits v) (one_of enum) x y few = absurd (cc y)
concatenated_of d e (bits v) table x y few = absurd (cc y)
concatenated_of d e (bits v) applied x y few = absurd (cc y)
concatenated_of d e (bits v) (object kind) x y few = absurd (cc y)
concatenated_of d e (bits v) items x y few = absurd (cc y)
concatenated_of d e (bits v) nothing x y few = absurd (cc y)
concatenated_of d e (bits v) unknown x y few = absurd (cc y)
concatenated_of d e unsized b x y few = absurd (cc x)
concatenated_of d e boolean b x y few = absurd (cc x)
concatenated_of d e error_code b x y few = absurd (cc x)
concatenated_of d e (header type) b x y few = absurd (cc x)
concatenated_of d e (stack type size) b x y few = absurd (cc x)
concatenated_of d e (struct type) b x y few = absurd (cc x)
concatenated_of d e packet_in b x y few = absurd (cc x)
concatenated_of d e packet_out b x y few = absurd (cc x)
concatenated_of d e errors b x y few = absurd (cc x)
concatenated_of d e (enumeration enum) b x y few = absurd (cc x)
concatenated_of d e (one_of enum) b x y few = absurd (cc x)
concatenated_of d e table b x y few = absurd (cc x)
concatenated_of d e applied b x y few = absurd (cc x)
concatenated_of d e (object kind) b x y few = absurd (cc x)
concatenated_of d e items b x y few = absurd (cc x)
concatenated_of d e nothing b x y few = absurd (cc x)
concatenated_of d e unknown b x y few = absurd (cc x)

pub kinds_fit : (p : Place) (operator : BinaryOperator) (d e : Exp16) (a b : Kind) → takes (left_place p operator a b) d a ≡ true → takes (right_place p operator a b) e b ≡ true → joins_too_many operator a b ≡ false → KindsFit operator a b
kinds_fit p Multiply d e a b x y few = join_of p d e a b x y
kinds_fit p Add d e a b x y few = join_of p d e a b x y
kinds_fit p Subtract d e a b x y few = join_of p d e a b x y
kinds_fit p SaturatingAdd d e a b x y few = join_of p d e a b x y
kinds_fit p SaturatingSubtract d e a b x y few = join_of p d e a b x y
kinds_fit p Concatenate d e a b x y few = concatenated_of d e a b x y few
kinds_fit p ShiftLeft d e a b x y few = tt
kinds_fit p ShiftRight d e a b x y few = tt
kinds_fit p BitAnd d e a b x y few = join_of p d e a b x y
kinds_fit p BitXor d e a b x y few = join_of p d e a b x y
kinds_fit p BitOr d e a b x y few = join_of p d e a b x y
kinds_fit p Less d e a b x y few = tt
kinds_fit p LessEqual d e a b x y few = tt
kinds_fit p Greater d e a b x y few = tt
kinds_fit p GreaterEqual d e a b x y few = tt
kinds_fit p Equal d e a b x y few = tt
kinds_fit p NotEqual d e a b x y few = tt
kinds_fit p And d e a b x y few = tt
kinds_fit p Or d e a b x y few = tt

-- an expression with all within it

behind_first : (s : Scope) (x : Use) (xs : List Use) → KeepsAll (x ∷ xs) → KeepsAll xs
behind_first s x xs keeps = (second_false (is_mistyped x) (list_any is_mistyped xs) keeps.0, second_false (leaves_size x) (list_any leaves_size xs) keeps.1)

in_front : (s : Scope) (xs ys : List Use) → KeepsAll (xs ++ ys) → KeepsAll xs
in_front s xs ys keeps = (front_none is_mistyped xs ys keeps.0, front_none leaves_size xs ys keeps.1)

at_end : (s : Scope) (xs ys : List Use) → KeepsAll (xs ++ ys) → KeepsAll ys
at_end s xs ys keeps = (rest_none is_mistyped xs ys keeps.0, rest_none leaves_size xs ys keeps.1)

pub operands_of_kinds : (s : Scope) (p : Place) (e : Exp16) → Keeps s p e → AppliesNone s e → OperandKindsFit s e
operands_of_kinds s p (literal n) keeps applies = tt
operands_of_kinds s p (truth holds) keeps applies = tt
operands_of_kinds s p error keeps applies = tt
operands_of_kinds s p (name text) keeps applies = tt
operands_of_kinds s p (lookahead e to handed) keeps applies = tt
operands_of_kinds s p (parenthesized e) keeps applies = tt
operands_of_kinds s p no_arguments keeps applies = tt
operands_of_kinds s p (argument before last) keeps applies = tt
operands_of_kinds s p (listed es) keeps applies = tt
operands_of_kinds s p (member e word) keeps applies =
    operands_of_kinds s (owner_place p (method_signature (kind_of s e) word)) e (behind_first s (an_expression s p (member e word)) (uses_at s (one (owner_place p (method_signature (kind_of s e) word))) e) keeps) applies
operands_of_kinds s p (index e at) keeps applies =
    operands_of_kinds s a_stack e (behind_first s (a_number at) (uses_at s (one a_stack) e) (behind_first s (an_expression s p (index e at)) (a_number at ∷ uses_at s (one a_stack) e) keeps)) applies
operands_of_kinds s p (slice e high low) keeps applies =
    operands_of_kinds s any_bits e (behind_first s (a_number low) (uses_at s (one any_bits) e) (behind_first s (a_number high) (a_number low ∷ uses_at s (one any_bits) e) (behind_first s (an_expression s p (slice e high low)) (a_number high ∷ a_number low ∷ uses_at s (one any_bits) e) keeps))) applies
operands_of_kinds s p (call (member e word) handed) keeps applies =
    let f = member e word in
    let q = owner_place callee (method_signature (kind_of s e) word) in
    let arguments = uses_at s (many (wanted_by (signature_of s f)) unasked) handed in (
      applies.0,
      operands_of_kinds s q e
          (behind_first s (an_expression s callee f) (uses_at s (one q) e)
          (in_front s (uses_at s (one callee) f) arguments (behind_first s (an_expression s p (call f handed)) (uses_at s (one callee) f ++ arguments) keeps))) applies.1,
    )
operands_of_kinds s p (call (literal n) handed) keeps applies = tt
operands_of_kinds s p (call (truth holds) handed) keeps applies = tt
operands_of_kinds s p (call error handed) keeps applies = tt
operands_of_kinds s p (call (name text) handed) keeps applies = tt
operands_of_kinds s p (call (index e at) handed) keeps applies = tt
operands_of_kinds s p (call (slice e high low) handed) keeps applies = tt
operands_of_kinds s p (call (call g other) handed) keeps applies = tt
operands_of_kinds s p (call (lookahead e to other) handed) keeps applies = tt
operands_of_kinds s p (call (cast to e) handed) keeps applies = tt
operands_of_kinds s p (call (unary operator e) handed) keeps applies = tt
operands_of_kinds s p (call (binary operator a b) handed) keeps applies = tt
operands_of_kinds s p (call (choice d a b) handed) keeps applies = tt
operands_of_kinds s p (call (parenthesized e) handed) keeps applies = tt
operands_of_kinds s p (call no_arguments handed) keeps applies = tt
operands_of_kinds s p (call (argument before last) handed) keeps applies = tt
operands_of_kinds s p (call (listed es) handed) keeps applies = tt
operands_of_kinds s p (cast to e) keeps applies =
    operands_of_kinds s (cast_place to) e (at_end s (cast_numbers to) (uses_at s (one (cast_place to)) e) (behind_first s (an_expression s p (cast to e)) (cast_numbers to ++ uses_at s (one (cast_place to)) e) keeps)) applies
operands_of_kinds s p (unary operator e) keeps applies =
    operands_of_kinds s (unary_place p operator (kind_of s e)) e (behind_first s (an_expression s p (unary operator e)) (uses_at s (one (unary_place p operator (kind_of s e))) e) keeps) applies
operands_of_kinds s p (binary operator a b) keeps applies =
    let l = uses_at s (one (left_place p operator (kind_of s a) (kind_of s b))) a in
    let r = uses_at s (one (right_place p operator (kind_of s a) (kind_of s b))) b in
    let both : KeepsAll (l ++ r) = behind_first s (an_expression s p (binary operator a b)) (l ++ r) keeps in
    let first : KeepsAll l = in_front s l r both in
    let second : KeepsAll r = at_end s l r both in (
      operands_of_kinds s (left_place p operator (kind_of s a) (kind_of s b)) a first applies.0,
      operands_of_kinds s (right_place p operator (kind_of s a) (kind_of s b)) b second applies.1,
      kinds_fit p operator a b (kind_of s a) (kind_of s b)
          (taken s (left_place p operator (kind_of s a) (kind_of s b)) a first.0)
          (taken s (right_place p operator (kind_of s a) (kind_of s b)) b second.0)
          (head_of s p (binary operator a b) leaves_size keeps.1),
    )
operands_of_kinds s p (choice d a b) keeps applies =
    let q = chosen_place p (kind_of s a) (kind_of s b) in
    let x = uses_at s (one (value boolean)) d in
    let y = uses_at s (one q) a in
    let z = uses_at s (one q) b in
    let all : KeepsAll ((x ++ y) ++ z) = behind_first s (an_expression s p (choice d a b)) ((x ++ y) ++ z) keeps in
    let front : KeepsAll (x ++ y) = in_front s (x ++ y) z all in (
      operands_of_kinds s (value boolean) d (in_front s x y front) applies.0,
      operands_of_kinds s q a (at_end s x y front) applies.1,
      operands_of_kinds s q b (at_end s (x ++ y) z all) applies.2,
    )
