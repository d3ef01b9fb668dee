-- An expression with its parentheses keeps to the grammar, and without them it is the expression again.
use Rattle.std.proofs.Common.{◌≡◌, ℕ, suc, ◌≤◌, Bool, true, false, refl, ap, ◌∙◌, arith}
use Rattle.std.specs.Prelude.{◌&&◌, nat_le}
use Rattle.std.specs.Str.{bytes_eq}
use Rattle.std.proofs.lemmas.Bool.{and_from, and_parts}
use Rattle.std.proofs.lemmas.Bool.Decides.{nat_tests}
use Rattle.p416_syntax.specs.declared.node.BinaryOperator.{BinaryOperator}
use Rattle.p416_syntax.specs.declared.node.BinaryOperator.TheVariants as operator_of
use Rattle.p416_syntax.specs.Tree.{Exp16, literal, truth, error, name, member, index, slice, call, lookahead, cast, unary, binary, choice, parenthesized, no_arguments, argument, listed}
use Rattle.p416_syntax.specs.Tokens.{lookahead_text}
use Rattle.p416_syntax.specs.Operators.{postfix_power, prefix_power, binary_power, choice_power}
use Rattle.p416_syntax.specs.Parentheses.{bare_exp}
use Rattle.p416_syntax.specs.Conditions.{with_parentheses, without_parentheses, one, many, is_exp_at, is_exp, are_arguments, is_call, is_parenthesized}
use Rattle.p416_parentheses.specs.Expressions.{is_wrapped, is_wrapped_base, wrapped, within, full, full_base}

at_most : (a b : ℕ) → a ≤ b → nat_le a b ≡ true
at_most a b h = grind (arith, nat_tests)

binary_small : (o : BinaryOperator) → binary_power o ≤ 10
binary_small operator_of.Multiply = omega arith
binary_small operator_of.Add = omega arith
binary_small operator_of.Subtract = omega arith
binary_small operator_of.SaturatingAdd = omega arith
binary_small operator_of.SaturatingSubtract = omega arith
binary_small operator_of.Concatenate = omega arith
binary_small operator_of.ShiftLeft = omega arith
binary_small operator_of.ShiftRight = omega arith
binary_small operator_of.BitAnd = omega arith
binary_small operator_of.BitXor = omega arith
binary_small operator_of.BitOr = omega arith
binary_small operator_of.Less = omega arith
binary_small operator_of.LessEqual = omega arith
binary_small operator_of.Greater = omega arith
binary_small operator_of.GreaterEqual = omega arith
binary_small operator_of.Equal = omega arith
binary_small operator_of.NotEqual = omega arith
binary_small operator_of.And = omega arith
binary_small operator_of.Or = omega arith

-- how tightly the outermost operator binds
abbrev power_of : Exp16 → ℕ
power_of (cast to e) = prefix_power
power_of (unary operator e) = prefix_power
power_of (binary operator a b) = binary_power operator
power_of (choice c a b) = choice_power
power_of _ = postfix_power

-- without parentheses around it, it stands wherever its operator may
abbrev Stands : Exp16 → Type 0
Stands e = (l least : ℕ) (x : Bool) → least ≤ power_of e → is_exp_at without_parentheses (one l x) e ≡ true → is_exp_at with_parentheses (one least x) (within e) ≡ true

in_them : (t : Bool) (e : Exp16) (least : ℕ) (x : Bool) → is_exp_at with_parentheses (one 0 false) e ≡ true → is_exp_at with_parentheses (one least x) e ≡ true → is_exp_at with_parentheses (one least x) (wrapped t e) ≡ true
in_them true e least x h k = h
in_them false e least x h k = k

-- with them, wherever an operator in front of an operand may stand
full_by : (e : Exp16) (l least : ℕ) (x : Bool) → least ≤ prefix_power → Stands e → is_exp_at without_parentheses (one l x) e ≡ true → is_exp_at with_parentheses (one least x) (full e) ≡ true
full_by (literal n) l least x p s h = refl
full_by (truth value) l least x p s h = refl
full_by error l least x p s h = refl
full_by (name text) l least x p s h = refl
full_by (member e word) l least x p s h = in_them (bytes_eq lookahead_text word) (within (member e word)) least x (s l 0 false (omega arith) h) (s l least x (omega arith) h)
full_by (index e at) l least x p s h = s l least x (omega arith) h
full_by (slice e high low) l least x p s h = s l least x (omega arith) h
full_by (call e given) l least x p s h = s l least x (omega arith) h
full_by (lookahead e of given) l least x p s h = s l least x (omega arith) h
full_by (cast to e) l least x p s h = s l least x p h
full_by (unary o e) l least x p s h = s l least x p h
full_by (binary o a b) l least x p s h = s l 0 false (omega arith) h
full_by (choice c a b) l least x p s h = s l 0 false (omega arith) h
full_by (parenthesized e) l least x p s h = absurd (cc)
full_by no_arguments l least x p s h = absurd (cc)
full_by (argument before last) l least x p s h = absurd (cc)
full_by (listed items) l least x p s h = s l least x (omega arith) h

-- and in front of a suffix
base_by : (e : Exp16) (l : ℕ) → Stands e → is_exp_at without_parentheses (one l false) e ≡ true → is_exp_at with_parentheses (one postfix_power false) (full_base e) ≡ true
base_by (literal n) l s h = refl
base_by (truth value) l s h = refl
base_by error l s h = refl
base_by (name text) l s h = refl
base_by (member e word) l s h = in_them (bytes_eq lookahead_text word) (within (member e word)) postfix_power false (s l 0 false (omega arith) h) (s l postfix_power false (omega arith) h)
base_by (index e at) l s h = s l postfix_power false (omega arith) h
base_by (slice e high low) l s h = s l postfix_power false (omega arith) h
base_by (call e given) l s h = s l postfix_power false (omega arith) h
base_by (lookahead e of given) l s h = s l postfix_power false (omega arith) h
base_by (cast to e) l s h = s l 0 false (omega arith) h
base_by (unary o e) l s h = s l 0 false (omega arith) h
base_by (binary o a b) l s h = s l 0 false (omega arith) h
base_by (choice c a b) l s h = s l 0 false (omega arith) h
base_by (parenthesized e) l s h = absurd (cc)
base_by no_arguments l s h = absurd (cc)
base_by (argument before last) l s h = absurd (cc)
base_by (listed items) l s h = absurd (cc)

mutual
  pub within_one : (e : Exp16) → Stands e
  within_one (literal n) l least x p h = refl
  within_one (truth value) l least x p h = refl
  within_one error l least x p h = refl
  within_one (name text) l least x p h = refl
  within_one (member e word) l least x p h = base_by e postfix_power (within_one e) h
  within_one (index e at) l least x p h = base_by e postfix_power (within_one e) h
  within_one (slice e high low) l least x p h = base_by e postfix_power (within_one e) h
  within_one (call e given) l least x p h =
      let parts = and_parts (is_exp_at without_parentheses (one postfix_power false) e) (is_exp_at without_parentheses (many true) given) h in
      and_from (is_exp_at with_parentheses (one postfix_power false) (full_base e)) (is_exp_at with_parentheses (many true) (within given)) (base_by e postfix_power (within_one e) parts.0) (within_many given true parts.1)
  within_one (lookahead e of given) l least x p h =
      let parts = and_parts (is_exp_at without_parentheses (one postfix_power false) e) (is_exp_at without_parentheses (many true) given) h in
      and_from (is_exp_at with_parentheses (one postfix_power false) (full_base e)) (is_exp_at with_parentheses (many true) (within given)) (base_by e postfix_power (within_one e) parts.0) (within_many given true parts.1)
  within_one (cast to e) l least x p h =
      and_from (nat_le least prefix_power) (is_exp_at with_parentheses (one prefix_power false) (full e)) (at_most least prefix_power p) (full_by e prefix_power prefix_power false (omega arith) (within_one e) h)
  within_one (unary o e) l least x p h =
      and_from (nat_le least prefix_power) (is_exp_at with_parentheses (one prefix_power false) (full e)) (at_most least prefix_power p) (full_by e prefix_power prefix_power false (omega arith) (within_one e) h)
  within_one (binary o a b) l least x p h =
      let parts = and_parts (is_exp_at without_parentheses (one (binary_power o) false) a) (is_exp_at without_parentheses (one (suc (binary_power o)) false) b) h in
      let small = binary_small o in
      and_from (nat_le least (binary_power o)) (is_exp_at with_parentheses (one (binary_power o) false) (full a) && is_exp_at with_parentheses (one (suc (binary_power o)) false) (full b)) (at_most least (binary_power o) p)
      (and_from (is_exp_at with_parentheses (one (binary_power o) false) (full a)) (is_exp_at with_parentheses (one (suc (binary_power o)) false) (full b))
      (full_by a (binary_power o) (binary_power o) false (omega (arith, small)) (within_one a) parts.0) (full_by b (suc (binary_power o)) (suc (binary_power o)) false (omega (arith, small)) (within_one b) parts.1))
  within_one (choice c a b) l least x p h =
      let parts = and_parts (is_exp_at without_parentheses (one (suc choice_power) false) c) (is_exp_at without_parentheses (one 0 false) a && is_exp_at without_parentheses (one choice_power false) b) h in
      let more = and_parts (is_exp_at without_parentheses (one 0 false) a) (is_exp_at without_parentheses (one choice_power false) b) parts.1 in
      and_from (nat_le least choice_power) (is_exp_at with_parentheses (one (suc choice_power) false) (full c) && (is_exp_at with_parentheses (one 0 false) (full a) && is_exp_at with_parentheses (one choice_power false) (full b))) (at_most least choice_power p)
      (and_from (is_exp_at with_parentheses (one (suc choice_power) false) (full c)) (is_exp_at with_parentheses (one 0 false) (full a) && is_exp_at with_parentheses (one choice_power false) (full b))
      (full_by c (suc choice_power) (suc choice_power) false (omega arith) (within_one c) parts.0)
      (and_from (is_exp_at with_parentheses (one 0 false) (full a)) (is_exp_at with_parentheses (one choice_power false) (full b)) (full_by a 0 0 false (omega arith) (within_one a) more.0) (full_by b choice_power choice_power false (omega arith) (within_one b) more.1)))
  within_one (parenthesized e) l least x p h = absurd (cc)
  within_one no_arguments l least x p h = absurd (cc)
  within_one (argument before last) l least x p h = absurd (cc)
  within_one (listed items) l least x p h =
      let parts = and_parts x (is_exp_at without_parentheses (many false) items) h in
      and_from x (is_exp_at with_parentheses (many false) (within items)) parts.0 (within_many items false parts.1)

  pub within_many : (e : Exp16) (x : Bool) → is_exp_at without_parentheses (many x) e ≡ true → is_exp_at with_parentheses (many x) (within e) ≡ true
  within_many (literal n) x h = absurd (cc)
  within_many (truth value) x h = absurd (cc)
  within_many error x h = absurd (cc)
  within_many (name text) x h = absurd (cc)
  within_many (member e word) x h = absurd (cc)
  within_many (index e at) x h = absurd (cc)
  within_many (slice e high low) x h = absurd (cc)
  within_many (call e given) x h = absurd (cc)
  within_many (lookahead e of given) x h = absurd (cc)
  within_many (cast to e) x h = absurd (cc)
  within_many (unary o e) x h = absurd (cc)
  within_many (binary o a b) x h = absurd (cc)
  within_many (choice c a b) x h = absurd (cc)
  within_many (parenthesized e) x h = absurd (cc)
  within_many no_arguments x h = refl
  within_many (argument before last) x h =
      let parts = and_parts (is_exp_at without_parentheses (many x) before) (is_exp_at without_parentheses (one 0 x) last) h in
      and_from (is_exp_at with_parentheses (many x) (within before)) (is_exp_at with_parentheses (one 0 x) (full last)) (within_many before x parts.0) (full_by last 0 0 x (omega arith) (within_one last) parts.1)
  within_many (listed items) x h = absurd (cc)

pub kept_full : (e : Exp16) → is_exp without_parentheses e ≡ true → is_exp with_parentheses (full e) ≡ true
kept_full e h = full_by e 0 0 false (omega arith) (within_one e) h

pub kept_within : (e : Exp16) → is_exp without_parentheses e ≡ true → is_exp with_parentheses (within e) ≡ true
kept_within e h = within_one e 0 0 false (omega arith) h

pub kept_arguments : (e : Exp16) → are_arguments without_parentheses e ≡ true → are_arguments with_parentheses (within e) ≡ true
kept_arguments e h = within_many e false h

-- a call stays one
pub call_within : (e : Exp16) → is_call (within e) ≡ is_call e
call_within (literal n) = refl
call_within (truth value) = refl
call_within error = refl
call_within (name text) = refl
call_within (member e word) = refl
call_within (index e at) = refl
call_within (slice e high low) = refl
call_within (call e given) = refl
call_within (lookahead e of given) = refl
call_within (cast to e) = refl
call_within (unary o e) = refl
call_within (binary o a b) = refl
call_within (choice c a b) = refl
call_within (parenthesized e) = call_within e
call_within no_arguments = refl
call_within (argument before last) = refl
call_within (listed items) = refl

call_wrapped : (t : Bool) (e : Exp16) → is_call (wrapped t e) ≡ is_call e
call_wrapped true e = refl
call_wrapped false e = refl

pub call_full : (e : Exp16) → is_call (full e) ≡ is_call e
call_full e = call_wrapped (is_wrapped e) (within e) ∙ call_within e

-- without more parentheses around it, it stands in none
pub never_parenthesized : (e : Exp16) → is_exp without_parentheses e ≡ true → is_parenthesized (within e) ≡ false
never_parenthesized (literal n) h = refl
never_parenthesized (truth value) h = refl
never_parenthesized error h = refl
never_parenthesized (name text) h = refl
never_parenthesized (member e word) h = refl
never_parenthesized (index e at) h = refl
never_parenthesized (slice e high low) h = refl
never_parenthesized (call e given) h = refl
never_parenthesized (lookahead e of given) h = refl
never_parenthesized (cast to e) h = refl
never_parenthesized (unary o e) h = refl
never_parenthesized (binary o a b) h = refl
never_parenthesized (choice c a b) h = refl
never_parenthesized (parenthesized e) h = absurd (cc)
never_parenthesized no_arguments h = refl
never_parenthesized (argument before last) h = refl
never_parenthesized (listed items) h = refl

-- without its parentheses it is the expression again
bare_wrapped : (t : Bool) (e : Exp16) → bare_exp (wrapped t e) ≡ bare_exp e
bare_wrapped true e = refl
bare_wrapped false e = refl

around : (t : Bool) (e : Exp16) → bare_exp (within e) ≡ e → bare_exp (wrapped t (within e)) ≡ e
around t e h = bare_wrapped t (within e) ∙ h

mutual
  pub same_one : (e : Exp16) (l : ℕ) (x : Bool) → is_exp_at without_parentheses (one l x) e ≡ true → bare_exp (within e) ≡ e
  same_one (literal n) l x h = refl
  same_one (truth value) l x h = refl
  same_one error l x h = refl
  same_one (name text) l x h = refl
  same_one (member e word) l x h = ap (λ y. member y word) (around (is_wrapped_base e) e (same_one e postfix_power false h))
  same_one (index e at) l x h = ap (λ y. index y at) (around (is_wrapped_base e) e (same_one e postfix_power false h))
  same_one (slice e high low) l x h = ap (λ y. slice y high low) (around (is_wrapped_base e) e (same_one e postfix_power false h))
  same_one (call e given) l x h =
      let parts = and_parts (is_exp_at without_parentheses (one postfix_power false) e) (is_exp_at without_parentheses (many true) given) h in
      (λ i. call (around (is_wrapped_base e) e (same_one e postfix_power false parts.0) i) (same_many given true parts.1 i))
  same_one (lookahead e of given) l x h =
      let parts = and_parts (is_exp_at without_parentheses (one postfix_power false) e) (is_exp_at without_parentheses (many true) given) h in
      (λ i. lookahead (around (is_wrapped_base e) e (same_one e postfix_power false parts.0) i) of (same_many given true parts.1 i))
  same_one (cast to e) l x h = ap (cast to) (around (is_wrapped e) e (same_one e prefix_power false h))
  same_one (unary o e) l x h = ap (unary o) (around (is_wrapped e) e (same_one e prefix_power false h))
  same_one (binary o a b) l x h =
      let parts = and_parts (is_exp_at without_parentheses (one (binary_power o) false) a) (is_exp_at without_parentheses (one (suc (binary_power o)) false) b) h in
      (λ i. binary o (around (is_wrapped a) a (same_one a (binary_power o) false parts.0) i) (around (is_wrapped b) b (same_one b (suc (binary_power o)) false parts.1) i))
  same_one (choice c a b) l x h =
      let parts = and_parts (is_exp_at without_parentheses (one (suc choice_power) false) c) (is_exp_at without_parentheses (one 0 false) a && is_exp_at without_parentheses (one choice_power false) b) h in
      let more = and_parts (is_exp_at without_parentheses (one 0 false) a) (is_exp_at without_parentheses (one choice_power false) b) parts.1 in
      (λ i. choice (around (is_wrapped c) c (same_one c (suc choice_power) false parts.0) i) (around (is_wrapped a) a (same_one a 0 false more.0) i) (around (is_wrapped b) b (same_one b choice_power false more.1) i))
  same_one (parenthesized e) l x h = absurd (cc)
  same_one no_arguments l x h = refl
  same_one (argument before last) l x h = absurd (cc)
  same_one (listed items) l x h = ap listed (same_many items false (and_parts x (is_exp_at without_parentheses (many false) items) h).1)

  pub same_many : (e : Exp16) (x : Bool) → is_exp_at without_parentheses (many x) e ≡ true → bare_exp (within e) ≡ e
  same_many (literal n) x h = refl
  same_many (truth value) x h = refl
  same_many error x h = refl
  same_many (name text) x h = refl
  same_many (member e word) x h = absurd (cc)
  same_many (index e at) x h = absurd (cc)
  same_many (slice e high low) x h = absurd (cc)
  same_many (call e given) x h = absurd (cc)
  same_many (lookahead e of given) x h = absurd (cc)
  same_many (cast to e) x h = absurd (cc)
  same_many (unary o e) x h = absurd (cc)
  same_many (binary o a b) x h = absurd (cc)
  same_many (choice c a b) x h = absurd (cc)
  same_many (parenthesized e) x h = absurd (cc)
  same_many no_arguments x h = refl
  same_many (argument before last) x h =
      let parts = and_parts (is_exp_at without_parentheses (many x) before) (is_exp_at without_parentheses (one 0 x) last) h in
      (λ i. argument (same_many before x parts.0 i) (around (is_wrapped last) last (same_one last 0 x parts.1) i))
  same_many (listed items) x h = absurd (cc)

pub same_full : (e : Exp16) → is_exp without_parentheses e ≡ true → bare_exp (full e) ≡ e
same_full e h = around (is_wrapped e) e (same_one e 0 false h)

pub same_within : (e : Exp16) → is_exp without_parentheses e ≡ true → bare_exp (within e) ≡ e
same_within e h = same_one e 0 false h

pub same_arguments : (e : Exp16) → are_arguments without_parentheses e ≡ true → bare_exp (within e) ≡ e
same_arguments e h = same_many e false h
