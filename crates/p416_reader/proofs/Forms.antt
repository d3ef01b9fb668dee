-- What stands behind an operand: members, elements, slices and calls, and operators; and what stands behind other parts of
-- statements and keysets whose beginning is read before it is known what they are.
use Rattle.std.proofs.Common.{ℕ, suc, Bool, true, false, ◌&&◌, ◌||◌, nat_eq, nat_le, List, [], ◌∷◌, ◌++◌, map, Option}
use Rattle.std.specs.List.{flat_map, list_all}
use Rattle.p416_syntax.specs.declared.lexeme.Literal16.{Literal16}
use Rattle.p416_syntax.specs.declared.parts.Type16.{Type16}
use Rattle.p416_syntax.specs.declared.node.BinaryOperator.{BinaryOperator}
use Rattle.p416_syntax.specs.declared.node.CaseLabel.{CaseLabel}
use Rattle.p416_syntax.specs.declared.parsers.Simple.{Simple}
use Rattle.p416_syntax.specs.declared.parsers.Simple.TheVariants as simple
use Rattle.p416_syntax.specs.declared.parsers.Keyset.{Keyset}
use Rattle.p416_syntax.specs.declared.parsers.Keyset.TheVariants as keyset
use Rattle.p416_syntax.specs.Tree.{Exp16, member, index, slice, call, lookahead, binary, choice, no_arguments, argument, Stmt16, no_statements, then, case_of}
use Rattle.p416_syntax.specs.Tokens.{Seen16, id, number, opens, seen_word, lookahead_text, dot, dots, colon, greater, mask, question, bracket_open, bracket_close, paren_close, in_parens, in_braces}
use Rattle.p416_syntax.specs.Operators.{binary_tokens, binary_power}
use Rattle.p416_syntax.specs.Written.{after_commas, by_commas, written_type, written_exp, written_label, written_stmt, written_simple}
use Rattle.p416_syntax.specs.Parentheses.{bare_exp, bare_simple}
use Rattle.p416_syntax.specs.Conditions.{with_parentheses, is_exp_at, one, is_exp, is_simple}

-- an expression of the grammar, an operand, one that members may stand behind, and an argument

abbrev pub is_full : Exp16 → Bool
is_full e = is_exp with_parentheses e

abbrev pub is_of : ℕ → Exp16 → Bool
is_of least e = is_exp_at with_parentheses (one least false) e

abbrev pub is_argument : Exp16 → Bool
is_argument e = is_exp_at with_parentheses (one 0 true) e

-- arguments one behind another

abbrev pub arguments_on : Exp16 → List Exp16 → Exp16
arguments_on before [] = before
arguments_on before (e ∷ es) = arguments_on (argument before e) es

abbrev pub arguments_of : List Exp16 → Exp16
arguments_of es = arguments_on no_arguments es

-- what stands behind an operand and binds most tightly
pub data Suffix : Type 0 where
  dotted : (text : List ℕ) → Suffix
  at : (n : Literal16) → Suffix
  cut : (high low : Literal16) → Suffix
  called : (arguments : List Exp16) → Suffix
  looked : (of : Type16) (arguments : List Exp16) → Suffix

abbrev pub written_suffix : Suffix → List Seen16
written_suffix (dotted text) = dot ∷ seen_word text ∷ []
written_suffix (at n) = bracket_open ∷ number n ∷ bracket_close ∷ []
written_suffix (cut high low) = bracket_open ∷ number high ∷ colon ∷ number low ∷ bracket_close ∷ []
written_suffix (called es) = in_parens (by_commas written_exp es)
written_suffix (looked of es) = dot ∷ id lookahead_text ∷ opens ∷ (written_type of ++ greater ∷ in_parens (by_commas written_exp es))

abbrev pub is_suffix : Suffix → Bool
is_suffix (dotted text) = true
is_suffix (at n) = true
is_suffix (cut high low) = true
is_suffix (called es) = list_all is_argument es
is_suffix (looked of es) = list_all is_argument es

abbrev pub with_suffix : Exp16 → Suffix → Exp16
with_suffix e (dotted text) = member e text
with_suffix e (at n) = index e n
with_suffix e (cut high low) = slice e high low
with_suffix e (called es) = call e (arguments_of es)
with_suffix e (looked of es) = lookahead e of (arguments_of es)

abbrev pub with_suffixes : Exp16 → List Suffix → Exp16
with_suffixes e [] = e
with_suffixes e (s ∷ ss) = with_suffixes (with_suffix e s) ss

abbrev pub bare_suffix : Suffix → Suffix
bare_suffix (dotted text) = dotted text
bare_suffix (at n) = at n
bare_suffix (cut high low) = cut high low
bare_suffix (called es) = called (map bare_exp es)
bare_suffix (looked of es) = looked of (map bare_exp es)

-- operators with their right operands, one behind another; or `? :` with its values, behind which no operator stands
pub data Tail : Type 0 where
  done : Tail
  by : (operator : BinaryOperator) (right : Exp16) (rest : Tail) → Tail
  chosen : (holds other : Exp16) → Tail

abbrev pub written_tail : Tail → List Seen16
written_tail done = []
written_tail (by operator right rest) = binary_tokens operator ++ (written_exp right ++ written_tail rest)
written_tail (chosen a b) = question ∷ (written_exp a ++ colon ∷ written_exp b)

-- the operators bind at least so tightly as the first number and at most so as the second; behind one, no tighter one follows
abbrev pub is_tail : ℕ → ℕ → Tail → Bool
is_tail least most done = true
is_tail least most (by operator right rest) =
    (nat_le least (binary_power operator) && nat_le (binary_power operator) most)
    && (is_of (suc (binary_power operator)) right && is_tail least (binary_power operator) rest)
is_tail least most (chosen a b) = (nat_eq least 0 && nat_le 1 most) && (is_full a && is_full b)

abbrev pub is_some_tail : Tail → Bool
is_some_tail done = false
is_some_tail _ = true

abbrev pub with_tail : Exp16 → Tail → Exp16
with_tail e done = e
with_tail e (by operator right rest) = with_tail (binary operator e right) rest
with_tail e (chosen a b) = choice e a b

abbrev pub bare_tail : Tail → Tail
bare_tail done = done
bare_tail (by operator right rest) = by operator (bare_exp right) (bare_tail rest)
bare_tail (chosen a b) = chosen (bare_exp a) (bare_exp b)

-- statements one behind another

abbrev pub stmts_on : Stmt16 → List Stmt16 → Stmt16
stmts_on before [] = before
stmts_on before (s ∷ ss) = stmts_on (then before s) ss

abbrev pub stmts_of : List Stmt16 → Stmt16
stmts_of ss = stmts_on no_statements ss

-- a case of a `switch` statement
pub record CasePart : Type 0 where
  pub label : CaseLabel
  pub inside : List Stmt16

abbrev pub written_case_part : CasePart → List Seen16
written_case_part c = written_label c.label ++ colon ∷ in_braces (flat_map written_stmt c.inside)

abbrev pub cases_on : Stmt16 → List CasePart → Stmt16
cases_on before [] = before
cases_on before (c ∷ cs) = cases_on (case_of before c.label (stmts_of c.inside)) cs

-- what ends a statement that begins with an expression: `= VALUE ;`, or `;`
pub data End : Type 0 where
  assigned : (value : Exp16) → End
  ended : End

-- the same, or where the expression is a type: `NAME ;`, or `NAME = VALUE ;`
pub data NamedEnd : Type 0 where
  plain : (end : End) → NamedEnd
  declared : (text : List ℕ) (initial : Option Exp16) → NamedEnd

-- what stands behind an expression in a keyset: nothing, `&&& MASK`, or `.. HIGH`
pub data SimpleEnd : Type 0 where
  alone : SimpleEnd
  masked : (mask : Exp16) → SimpleEnd
  ranged : (high : Exp16) → SimpleEnd

abbrev pub simple_with : Exp16 → SimpleEnd → Simple
simple_with e alone = simple.Value e
simple_with e (masked m) = simple.Mask e m
simple_with e (ranged m) = simple.Range e m

abbrev pub written_end : SimpleEnd → List Seen16
written_end alone = []
written_end (masked e) = mask ∷ written_exp e
written_end (ranged e) = dots ∷ written_exp e

abbrev pub is_simple_end : SimpleEnd → Bool
is_simple_end alone = true
is_simple_end (masked e) = is_full e
is_simple_end (ranged e) = is_full e

abbrev pub is_some_end : SimpleEnd → Bool
is_some_end alone = false
is_some_end _ = true

abbrev pub bare_end : SimpleEnd → SimpleEnd
bare_end alone = alone
bare_end (masked e) = masked (bare_exp e)
bare_end (ranged e) = ranged (bare_exp e)

-- what stands behind `(`, an expression and `)` in a keyset: nothing, and then it is a tuple of one; or what makes the
-- parentheses those of an expression
pub data ParenRest : Type 0 where
  single : ParenRest
  longer : (suffixes : List Suffix) (tail : Tail) (end : SimpleEnd) → ParenRest

abbrev pub is_some_suffix : List Suffix → Bool
is_some_suffix [] = false
is_some_suffix (s ∷ ss) = true

abbrev pub written_rest : ParenRest → List Seen16
written_rest single = []
written_rest (longer ss t end) = flat_map written_suffix ss ++ (written_tail t ++ written_end end)

abbrev pub is_rest : ParenRest → Bool
is_rest single = true
is_rest (longer ss t end) =
    (is_some_suffix ss || (is_some_tail t || is_some_end end)) && (list_all is_suffix ss && (is_tail 0 11 t && is_simple_end end))

-- the keyset, where the expression in the parentheses is made an operand so
abbrev pub keyset_behind : (Exp16 → Exp16) → Exp16 → ParenRest → Keyset
keyset_behind operand e single = keyset.Tuple (simple.Value e ∷ [])
keyset_behind operand e (longer ss t end) = keyset.One (simple_with (with_tail (with_suffixes (operand e) ss) t) end)

abbrev pub bare_rest : ParenRest → ParenRest
bare_rest single = single
bare_rest (longer ss t end) = longer (map bare_suffix ss) (bare_tail t) (bare_end end)

-- what stands behind `(` and an expression in a keyset
pub data OpenRest : Type 0 where
  tuple : (end : SimpleEnd) (more : List Simple) → OpenRest
  closes : (rest : ParenRest) → OpenRest

abbrev pub written_open : OpenRest → List Seen16
written_open (tuple end more) = written_end end ++ (after_commas written_simple more ++ paren_close ∷ [])
written_open (closes rest) = paren_close ∷ written_rest rest

abbrev pub is_open_rest : OpenRest → Bool
is_open_rest (tuple end more) = is_simple_end end && list_all (is_simple with_parentheses) more
is_open_rest (closes rest) = is_rest rest

abbrev pub keyset_open : (Exp16 → Exp16) → Exp16 → OpenRest → Keyset
keyset_open operand e (tuple end more) = keyset.Tuple (simple_with e end ∷ more)
keyset_open operand e (closes rest) = keyset_behind operand e rest

abbrev pub bare_open : OpenRest → OpenRest
bare_open (tuple end more) = tuple (bare_end end) (map bare_simple more)
bare_open (closes rest) = closes (bare_rest rest)
