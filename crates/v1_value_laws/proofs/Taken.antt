-- What the places of operands take, and which kinds come of it.
use Rattle.std.proofs.Common.{◌≡◌, ◌⊎◌, inl, inr, ℕ, ◌||◌, ◌&&◌, Bool, true, false, refl, sym, ap, ◌∙◌, subst}
use Rattle.std.specs.List.{list_any}
use Rattle.p416_syntax.specs.Tree.{Exp16, literal, truth, error, name, member, index, slice, call, lookahead, cast, unary, binary, choice, parenthesized, no_arguments, argument, listed}
use Rattle.p416_syntax.specs.Names.{Name}
use Rattle.p416_syntax.specs.Kinds.{Kind, bits, unsized, boolean, error_code, header, stack, struct, packet_in, packet_out, errors, enumeration, one_of, table, applied, object, items, nothing, unknown, is_bits, is_unsized, is_same_kind, Enumeration, ObjectKind}
use Rattle.p416_syntax.specs.Scopes.{Scope}
use Rattle.p416_syntax.specs.Calls.{Place, value, any_bits, one_bit, bits_or_boolean}
use Rattle.p416_syntax.specs.Expressions.{kind_of}
use Rattle.p416_syntax.specs.Uses.{Use, an_expression, joint_place, compared_place, one, uses_at}
use Rattle.p416_syntax.specs.Types.{takes, is_mistyped}
use Rattle.v1_ready_laws.proofs.Rules.{first_false}
use Rattle.v1_block_laws.proofs.Tests.{not_false}

-- an expression is the first that is judged of it
head_of : (s : Scope) (p : Place) (e : Exp16) (test : Use → Bool) → list_any test (uses_at s (one p) e) ≡ false → test (an_expression s p e) ≡ false
head_of s p (literal n) test none = first_false (test (an_expression s p (literal n))) _ none
head_of s p (truth holds) test none = first_false (test (an_expression s p (truth holds))) _ none
head_of s p error test none = first_false (test (an_expression s p error)) _ none
head_of s p (name text) test none = first_false (test (an_expression s p (name text))) _ none
head_of s p (member e word) test none = first_false (test (an_expression s p (member e word))) _ none
head_of s p (index e at) test none = first_false (test (an_expression s p (index e at))) _ none
head_of s p (slice e high low) test none = first_false (test (an_expression s p (slice e high low))) _ none
head_of s p (call g handed) test none = first_false (test (an_expression s p (call g handed))) _ none
head_of s p (lookahead e to handed) test none = first_false (test (an_expression s p (lookahead e to handed))) _ none
head_of s p (cast to e) test none = first_false (test (an_expression s p (cast to e))) _ none
head_of s p (unary operator e) test none = first_false (test (an_expression s p (unary operator e))) _ none
head_of s p (binary operator a b) test none = first_false (test (an_expression s p (binary operator a b))) _ none
head_of s p (choice d a b) test none = first_false (test (an_expression s p (choice d a b))) _ none
head_of s p (parenthesized e) test none = first_false (test (an_expression s p (parenthesized e))) _ none
head_of s p no_arguments test none = first_false (test (an_expression s p no_arguments)) _ none
head_of s p (argument before last) test none = first_false (test (an_expression s p (argument before last))) _ none
head_of s p (listed es) test none = first_false (test (an_expression s p (listed es))) _ none

pub taken : (s : Scope) (p : Place) (e : Exp16) → list_any is_mistyped (uses_at s (one p) e) ≡ false → takes p e (kind_of s e) ≡ true
taken s p e none = not_false (takes p e (kind_of s e)) (head_of s p e is_mistyped none)

by_kind : (P : Kind → Type 0) → ((w : ℕ) → P (bits w)) → P unsized → P boolean → P error_code → ((n : Name) → P (header n)) → ((n : Name) (w : ℕ) → P (stack n w)) → ((n : Name) → P (struct n)) → P packet_in → P packet_out → P errors → ((x : Enumeration) → P (enumeration x)) → ((x : Enumeration) → P (one_of x)) → P table → P applied → ((x : ObjectKind) → P (object x)) → P items → P nothing → P unknown → (k : Kind) → P k
by_kind P x0 x1 x2 x3 x4 x5 x6 x7 x8 x9 x10 x11 x12 x13 x14 x15 x16 x17 (bits width) = x0 width
by_kind P x0 x1 x2 x3 x4 x5 x6 x7 x8 x9 x10 x11 x12 x13 x14 x15 x16 x17 unsized = x1
by_kind P x0 x1 x2 x3 x4 x5 x6 x7 x8 x9 x10 x11 x12 x13 x14 x15 x16 x17 boolean = x2
by_kind P x0 x1 x2 x3 x4 x5 x6 x7 x8 x9 x10 x11 x12 x13 x14 x15 x16 x17 error_code = x3
by_kind P x0 x1 x2 x3 x4 x5 x6 x7 x8 x9 x10 x11 x12 x13 x14 x15 x16 x17 (header type) = x4 type
by_kind P x0 x1 x2 x3 x4 x5 x6 x7 x8 x9 x10 x11 x12 x13 x14 x15 x16 x17 (stack type size) = x5 type size
by_kind P x0 x1 x2 x3 x4 x5 x6 x7 x8 x9 x10 x11 x12 x13 x14 x15 x16 x17 (struct type) = x6 type
by_kind P x0 x1 x2 x3 x4 x5 x6 x7 x8 x9 x10 x11 x12 x13 x14 x15 x16 x17 packet_in = x7
by_kind P x0 x1 x2 x3 x4 x5 x6 x7 x8 x9 x10 x11 x12 x13 x14 x15 x16 x17 packet_out = x8
by_kind P x0 x1 x2 x3 x4 x5 x6 x7 x8 x9 x10 x11 x12 x13 x14 x15 x16 x17 errors = x9
by_kind P x0 x1 x2 x3 x4 x5 x6 x7 x8 x9 x10 x11 x12 x13 x14 x15 x16 x17 (enumeration enum) = x10 enum
by_kind P x0 x1 x2 x3 x4 x5 x6 x7 x8 x9 x10 x11 x12 x13 x14 x15 x16 x17 (one_of enum) = x11 enum
by_kind P x0 x1 x2 x3 x4 x5 x6 x7 x8 x9 x10 x11 x12 x13 x14 x15 x16 x17 table = x12
by_kind P x0 x1 x2 x3 x4 x5 x6 x7 x8 x9 x10 x11 x12 x13 x14 x15 x16 x17 applied = x13
by_kind P x0 x1 x2 x3 x4 x5 x6 x7 x8 x9 x10 x11 x12 x13 x14 x15 x16 x17 (object kind) = x14 kind
by_kind P x0 x1 x2 x3 x4 x5 x6 x7 x8 x9 x10 x11 x12 x13 x14 x15 x16 x17 items = x15
by_kind P x0 x1 x2 x3 x4 x5 x6 x7 x8 x9 x10 x11 x12 x13 x14 x15 x16 x17 nothing = x16
by_kind P x0 x1 x2 x3 x4 x5 x6 x7 x8 x9 x10 x11 x12 x13 x14 x15 x16 x17 unknown = x17

-- the place of operands of which the first is no number
other_place : (P : Place → Type 0) (p : Place) (a b : Kind) → is_bits a ≡ false → is_unsized a ≡ false → P any_bits → ((w : ℕ) → P (value (bits w))) → P (joint_place p a b)
other_place P p (bits width) b no_bits no_number x y = absurd (cc no_bits)
other_place P p unsized b no_bits no_number x y = absurd (cc no_number)
other_place P p boolean b no_bits no_number x y = by_kind (λ k. P (joint_place p boolean k)) y x x x (λ n. x) (λ n w. x) (λ n. x) x x x (λ n. x) (λ n. x) x x (λ n. x) x x x b
other_place P p error_code b no_bits no_number x y = by_kind (λ k. P (joint_place p error_code k)) y x x x (λ n. x) (λ n w. x) (λ n. x) x x x (λ n. x) (λ n. x) x x (λ n. x) x x x b
other_place P p (header type) b no_bits no_number x y = by_kind (λ k. P (joint_place p (header type) k)) y x x x (λ n. x) (λ n w. x) (λ n. x) x x x (λ n. x) (λ n. x) x x (λ n. x) x x x b
other_place P p (stack type size) b no_bits no_number x y = by_kind (λ k. P (joint_place p (stack type size) k)) y x x x (λ n. x) (λ n w. x) (λ n. x) x x x (λ n. x) (λ n. x) x x (λ n. x) x x x b
other_place P p (struct type) b no_bits no_number x y = by_kind (λ k. P (joint_place p (struct type) k)) y x x x (λ n. x) (λ n w. x) (λ n. x) x x x (λ n. x) (λ n. x) x x (λ n. x) x x x b
other_place P p packet_in b no_bits no_number x y = by_kind (λ k. P (joint_place p packet_in k)) y x x x (λ n. x) (λ n w. x) (λ n. x) x x x (λ n. x) (λ n. x) x x (λ n. x) x x x b
other_place P p packet_out b no_bits no_number x y = by_kind (λ k. P (joint_place p packet_out k)) y x x x (λ n. x) (λ n w. x) (λ n. x) x x x (λ n. x) (λ n. x) x x (λ n. x) x x x b
other_place P p errors b no_bits no_number x y = by_kind (λ k. P (joint_place p errors k)) y x x x (λ n. x) (λ n w. x) (λ n. x) x x x (λ n. x) (λ n. x) x x (λ n. x) x x x b
other_place P p (enumeration enum) b no_bits no_number x y = by_kind (λ k. P (joint_place p (enumeration enum) k)) y x x x (λ n. x) (λ n w. x) (λ n. x) x x x (λ n. x) (λ n. x) x x (λ n. x) x x x b
other_place P p (one_of enum) b no_bits no_number x y = by_kind (λ k. P (joint_place p (one_of enum) k)) y x x x (λ n. x) (λ n w. x) (λ n. x) x x x (λ n. x) (λ n. x) x x (λ n. x) x x x b
other_place P p table b no_bits no_number x y = by_kind (λ k. P (joint_place p table k)) y x x x (λ n. x) (λ n w. x) (λ n. x) x x x (λ n. x) (λ n. x) x x (λ n. x) x x x b
other_place P p applied b no_bits no_number x y = by_kind (λ k. P (joint_place p applied k)) y x x x (λ n. x) (λ n w. x) (λ n. x) x x x (λ n. x) (λ n. x) x x (λ n. x) x x x b
other_place P p (object kind) b no_bits no_number x y = by_kind (λ k. P (joint_place p (object kind) k)) y x x x (λ n. x) (λ n w. x) (λ n. x) x x x (λ n. x) (λ n. x) x x (λ n. x) x x x b
other_place P p items b no_bits no_number x y = by_kind (λ k. P (joint_place p items k)) y x x x (λ n. x) (λ n w. x) (λ n. x) x x x (λ n. x) (λ n. x) x x (λ n. x) x x x b
other_place P p nothing b no_bits no_number x y = by_kind (λ k. P (joint_place p nothing k)) y x x x (λ n. x) (λ n w. x) (λ n. x) x x x (λ n. x) (λ n. x) x x (λ n. x) x x x b
other_place P p unknown b no_bits no_number x y = by_kind (λ k. P (joint_place p unknown k)) y x x x (λ n. x) (λ n w. x) (λ n. x) x x x (λ n. x) (λ n. x) x x (λ n. x) x x x b

-- no number is taken there
other_refused : (p : Place) (e : Exp16) (a b : Kind) → is_bits a ≡ false → is_unsized a ≡ false → ((w : ℕ) → is_same_kind (bits w) a ≡ false) → takes (joint_place p a b) e a ≡ false
other_refused p e a b no_bits no_number differs =
    other_place (λ q. takes q e a ≡ false) p a b no_bits no_number no_bits
    (λ w. ap (λ (t : Bool). t || (true && is_unsized a)) (differs w) ∙ no_number)

-- a kind of numbers
abbrev pub OfNumbers : Kind → Type 0
OfNumbers (bits width) = Unit {0}
OfNumbers unsized = Unit {0}
OfNumbers k = ⊥

clash : {A : Type 0} (b : Bool) → b ≡ false → b ≡ true → A
clash true never yes_is = absurd (cc never)
clash false never yes_is = absurd (cc yes_is)

bits_only : (k : Kind) → is_bits k ≡ true → (w : ℕ) × (k ≡ bits w)
bits_only (bits width) is = (width, refl)
bits_only unsized is = absurd (cc is)
bits_only boolean is = absurd (cc is)
bits_only error_code is = absurd (cc is)
bits_only (header type) is = absurd (cc is)
bits_only (stack type size) is = absurd (cc is)
bits_only (struct type) is = absurd (cc is)
bits_only packet_in is = absurd (cc is)
bits_only packet_out is = absurd (cc is)
bits_only errors is = absurd (cc is)
bits_only (enumeration enum) is = absurd (cc is)
bits_only (one_of enum) is = absurd (cc is)
bits_only table is = absurd (cc is)
bits_only applied is = absurd (cc is)
bits_only (object kind) is = absurd (cc is)
bits_only items is = absurd (cc is)
bits_only nothing is = absurd (cc is)
bits_only unknown is = absurd (cc is)

pub bits_number : (k : Kind) → is_bits k ≡ true → OfNumbers k
bits_number (bits width) is = tt
bits_number unsized is = absurd (cc is)
bits_number boolean is = absurd (cc is)
bits_number error_code is = absurd (cc is)
bits_number (header type) is = absurd (cc is)
bits_number (stack type size) is = absurd (cc is)
bits_number (struct type) is = absurd (cc is)
bits_number packet_in is = absurd (cc is)
bits_number packet_out is = absurd (cc is)
bits_number errors is = absurd (cc is)
bits_number (enumeration enum) is = absurd (cc is)
bits_number (one_of enum) is = absurd (cc is)
bits_number table is = absurd (cc is)
bits_number applied is = absurd (cc is)
bits_number (object kind) is = absurd (cc is)
bits_number items is = absurd (cc is)
bits_number nothing is = absurd (cc is)
bits_number unknown is = absurd (cc is)

-- what a place for bits of a width takes
pub sized_number : (v : ℕ) (e : Exp16) (k : Kind) → takes (value (bits v)) e k ≡ true → OfNumbers k
sized_number v e (bits width) is = tt
sized_number v e unsized is = tt
sized_number v e boolean is = absurd (cc is)
sized_number v e error_code is = absurd (cc is)
sized_number v e (header type) is = absurd (cc is)
sized_number v e (stack type size) is = absurd (cc is)
sized_number v e (struct type) is = absurd (cc is)
sized_number v e packet_in is = absurd (cc is)
sized_number v e packet_out is = absurd (cc is)
sized_number v e errors is = absurd (cc is)
sized_number v e (enumeration enum) is = absurd (cc is)
sized_number v e (one_of enum) is = absurd (cc is)
sized_number v e table is = absurd (cc is)
sized_number v e applied is = absurd (cc is)
sized_number v e (object kind) is = absurd (cc is)
sized_number v e items is = absurd (cc is)
sized_number v e nothing is = absurd (cc is)
sized_number v e unknown is = absurd (cc is)

pub truth_only : (e : Exp16) (k : Kind) → takes (value boolean) e k ≡ true → k ≡ boolean
truth_only e boolean is = refl
truth_only e (bits width) is = absurd (cc is)
truth_only e unsized is = absurd (cc is)
truth_only e error_code is = absurd (cc is)
truth_only e (header type) is = absurd (cc is)
truth_only e (stack type size) is = absurd (cc is)
truth_only e (struct type) is = absurd (cc is)
truth_only e packet_in is = absurd (cc is)
truth_only e packet_out is = absurd (cc is)
truth_only e errors is = absurd (cc is)
truth_only e (enumeration enum) is = absurd (cc is)
truth_only e (one_of enum) is = absurd (cc is)
truth_only e table is = absurd (cc is)
truth_only e applied is = absurd (cc is)
truth_only e (object kind) is = absurd (cc is)
truth_only e items is = absurd (cc is)
truth_only e nothing is = absurd (cc is)
truth_only e unknown is = absurd (cc is)

pub error_only : (e : Exp16) (k : Kind) → takes (value error_code) e k ≡ true → k ≡ error_code
error_only e error_code is = refl
error_only e (bits width) is = absurd (cc is)
error_only e unsized is = absurd (cc is)
error_only e boolean is = absurd (cc is)
error_only e (header type) is = absurd (cc is)
error_only e (stack type size) is = absurd (cc is)
error_only e (struct type) is = absurd (cc is)
error_only e packet_in is = absurd (cc is)
error_only e packet_out is = absurd (cc is)
error_only e errors is = absurd (cc is)
error_only e (enumeration enum) is = absurd (cc is)
error_only e (one_of enum) is = absurd (cc is)
error_only e table is = absurd (cc is)
error_only e applied is = absurd (cc is)
error_only e (object kind) is = absurd (cc is)
error_only e items is = absurd (cc is)
error_only e nothing is = absurd (cc is)
error_only e unknown is = absurd (cc is)

-- two operands that have one width are numbers
pub joint_numbers : (p : Place) (d e : Exp16) (a b : Kind) → takes (joint_place p a b) d a ≡ true → takes (joint_place p a b) e b ≡ true → OfNumbers a × OfNumbers b
joint_numbers p d e (bits v) b x y = (tt, sized_number v e b y)
joint_numbers p d e unsized (bits w) x y = (tt, tt)
joint_numbers p d e unsized unsized x y = (tt, tt)
joint_numbers p d e unsized boolean x y = absurd (cc x)
joint_numbers p d e unsized error_code x y = absurd (cc x)
joint_numbers p d e unsized (header type) x y = absurd (cc x)
joint_numbers p d e unsized (stack type size) x y = absurd (cc x)
joint_numbers p d e unsized (struct type) x y = absurd (cc x)
joint_numbers p d e unsized packet_in x y = absurd (cc x)
joint_numbers p d e unsized packet_out x y = absurd (cc x)
joint_numbers p d e unsized errors x y = absurd (cc x)
joint_numbers p d e unsized (enumeration enum) x y = absurd (cc x)
joint_numbers p d e unsized (one_of enum) x y = absurd (cc x)
joint_numbers p d e unsized table x y = absurd (cc x)
joint_numbers p d e unsized applied x y = absurd (cc x)
joint_numbers p d e unsized (object kind) x y = absurd (cc x)
joint_numbers p d e unsized items x y = absurd (cc x)
joint_numbers p d e unsized nothing x y = absurd (cc x)
joint_numbers p d e unsized unknown x y = absurd (cc x)
joint_numbers p d e boolean b x y = clash _ (other_refused p d boolean b refl refl (λ w. refl)) x
joint_numbers p d e error_code b x y = clash _ (other_refused p d error_code b refl refl (λ w. refl)) x
joint_numbers p d e (header type) b x y = clash _ (other_refused p d (header type) b refl refl (λ w. refl)) x
joint_numbers p d e (stack type size) b x y = clash _ (other_refused p d (stack type size) b refl refl (λ w. refl)) x
joint_numbers p d e (struct type) b x y = clash _ (other_refused p d (struct type) b refl refl (λ w. refl)) x
joint_numbers p d e packet_in b x y = clash _ (other_refused p d packet_in b refl refl (λ w. refl)) x
joint_numbers p d e packet_out b x y = clash _ (other_refused p d packet_out b refl refl (λ w. refl)) x
joint_numbers p d e errors b x y = clash _ (other_refused p d errors b refl refl (λ w. refl)) x
joint_numbers p d e (enumeration enum) b x y = clash _ (other_refused p d (enumeration enum) b refl refl (λ w. refl)) x
joint_numbers p d e (one_of enum) b x y = clash _ (other_refused p d (one_of enum) b refl refl (λ w. refl)) x
joint_numbers p d e table b x y = clash _ (other_refused p d table b refl refl (λ w. refl)) x
joint_numbers p d e applied b x y = clash _ (other_refused p d applied b refl refl (λ w. refl)) x
joint_numbers p d e (object kind) b x y = clash _ (other_refused p d (object kind) b refl refl (λ w. refl)) x
joint_numbers p d e items b x y = clash _ (other_refused p d items b refl refl (λ w. refl)) x
joint_numbers p d e nothing b x y = clash _ (other_refused p d nothing b refl refl (λ w. refl)) x
joint_numbers p d e unknown b x y = clash _ (other_refused p d unknown b refl refl (λ w. refl)) x

-- two operands that are compared are numbers, truth values or errors
pub data Compared : Kind → Kind → Type 0 where
  numbers : (a b : Kind) → OfNumbers a → OfNumbers b → Compared a b
  truths : Compared boolean boolean
  both_errors : Compared error_code error_code

pub compared_kinds : (d e : Exp16) (a b : Kind) → takes (compared_place a b) d a ≡ true → takes (compared_place a b) e b ≡ true → Compared a b
compared_kinds d e (bits v) b x y = numbers (bits v) b tt (sized_number v e b y)
compared_kinds d e boolean b x y = subst (λ (k : Kind). Compared boolean k) (sym (truth_only e b y)) truths
compared_kinds d e error_code b x y = subst (λ (k : Kind). Compared error_code k) (sym (error_only e b y)) both_errors
compared_kinds d e unsized b x y = let both = joint_numbers any_bits d e unsized b x y in numbers unsized b both.0 both.1
compared_kinds d e (header type) b x y = let both = joint_numbers any_bits d e (header type) b x y in numbers (header type) b both.0 both.1
compared_kinds d e (stack type size) b x y = let both = joint_numbers any_bits d e (stack type size) b x y in numbers (stack type size) b both.0 both.1
compared_kinds d e (struct type) b x y = let both = joint_numbers any_bits d e (struct type) b x y in numbers (struct type) b both.0 both.1
compared_kinds d e packet_in b x y = let both = joint_numbers any_bits d e packet_in b x y in numbers packet_in b both.0 both.1
compared_kinds d e packet_out b x y = let both = joint_numbers any_bits d e packet_out b x y in numbers packet_out b both.0 both.1
compared_kinds d e errors b x y = let both = joint_numbers any_bits d e errors b x y in numbers errors b both.0 both.1
compared_kinds d e (enumeration enum) b x y = let both = joint_numbers any_bits d e (enumeration enum) b x y in numbers (enumeration enum) b both.0 both.1
compared_kinds d e (one_of enum) b x y = let both = joint_numbers any_bits d e (one_of enum) b x y in numbers (one_of enum) b both.0 both.1
compared_kinds d e table b x y = let both = joint_numbers any_bits d e table b x y in numbers table b both.0 both.1
compared_kinds d e applied b x y = let both = joint_numbers any_bits d e applied b x y in numbers applied b both.0 both.1
compared_kinds d e (object kind) b x y = let both = joint_numbers any_bits d e (object kind) b x y in numbers (object kind) b both.0 both.1
compared_kinds d e items b x y = let both = joint_numbers any_bits d e items b x y in numbers items b both.0 both.1
compared_kinds d e nothing b x y = let both = joint_numbers any_bits d e nothing b x y in numbers nothing b both.0 both.1
compared_kinds d e unknown b x y = let both = joint_numbers any_bits d e unknown b x y in numbers unknown b both.0 both.1

-- what a cast is of
pub one_number : (e : Exp16) (k : Kind) → takes one_bit e k ≡ true → OfNumbers k
one_number e (bits width) is = tt
one_number e unsized is = absurd (cc is)
one_number e boolean is = absurd (cc is)
one_number e error_code is = absurd (cc is)
one_number e (header type) is = absurd (cc is)
one_number e (stack type size) is = absurd (cc is)
one_number e (struct type) is = absurd (cc is)
one_number e packet_in is = absurd (cc is)
one_number e packet_out is = absurd (cc is)
one_number e errors is = absurd (cc is)
one_number e (enumeration enum) is = absurd (cc is)
one_number e (one_of enum) is = absurd (cc is)
one_number e table is = absurd (cc is)
one_number e applied is = absurd (cc is)
one_number e (object kind) is = absurd (cc is)
one_number e items is = absurd (cc is)
one_number e nothing is = absurd (cc is)
one_number e unknown is = absurd (cc is)

pub number_or_truth : (e : Exp16) (k : Kind) → takes bits_or_boolean e k ≡ true → OfNumbers k ⊎ (k ≡ boolean)
number_or_truth e (bits width) is = inl tt
number_or_truth e boolean is = inr refl
number_or_truth e unsized is = absurd (cc is)
number_or_truth e error_code is = absurd (cc is)
number_or_truth e (header type) is = absurd (cc is)
number_or_truth e (stack type size) is = absurd (cc is)
number_or_truth e (struct type) is = absurd (cc is)
number_or_truth e packet_in is = absurd (cc is)
number_or_truth e packet_out is = absurd (cc is)
number_or_truth e errors is = absurd (cc is)
number_or_truth e (enumeration enum) is = absurd (cc is)
number_or_truth e (one_of enum) is = absurd (cc is)
number_or_truth e table is = absurd (cc is)
number_or_truth e applied is = absurd (cc is)
number_or_truth e (object kind) is = absurd (cc is)
number_or_truth e items is = absurd (cc is)
number_or_truth e nothing is = absurd (cc is)
number_or_truth e unknown is = absurd (cc is)
