-- How expressions and statements group, by small examples: what may be written without parentheses, and what keysets,
-- arguments and an `else` ask.
use Rattle.std.specs.Prelude.{◌≡◌, true, false, [], ◌∷◌, None, codes, refl}
use Rattle.std.specs.List.{list_all, list_any}
use Rattle.p416_syntax.specs.declared.parts.Type16.TheVariants as kind
use Rattle.p416_syntax.specs.declared.node.UnaryOperator.TheVariants as before
use Rattle.p416_syntax.specs.declared.node.BinaryOperator.TheVariants as between
use Rattle.p416_syntax.specs.declared.node.CastType.TheVariants as cast_to
use Rattle.p416_syntax.specs.declared.parsers.Simple.TheVariants as simple
use Rattle.p416_syntax.specs.declared.parsers.Keyset.TheVariants as keyset
use Rattle.p416_syntax.specs.declared.keyword.Keyword16.TheVariants as key
use Rattle.p416_syntax.specs.Tree.{Exp16, error, name, member, call, lookahead, cast, unary, binary, choice, parenthesized, no_arguments, argument, listed, empty, expression, if_then, if_else, block, no_statements}
use Rattle.p416_syntax.specs.Tokens.{id, quoted, joined, opens, lookahead_text, is_spelt_seen, seen_word, dot, comma, greater, paren_open, paren_close, brace_open, brace_close}
use Rattle.p416_syntax.specs.Written.{written_exp}
use Rattle.p416_syntax.specs.Parentheses.{bare_exp}
use Rattle.p416_syntax.specs.Conditions.{is_exp, is_stmt, is_keyset, statement, with_parentheses, without_parentheses}

abbrev a : Exp16
a = name (codes "a")

abbrev b : Exp16
b = name (codes "b")

abbrev c : Exp16
c = name (codes "c")

-- these may be written so: `a - b - c`, `a - (b - c)`, `-a.b`, `(-a).b`, `!(bool) a`, `a == b & c`, `a ? b : b ? c : a`,
-- `(a ? b : c) ? a : b`, `a({a, b}, {})`, `a.lookahead<a>(b)`, `error.a`
pub written_so : list_all (is_exp with_parentheses) (
    binary between.Subtract (binary between.Subtract a b) c
    ∷ binary between.Subtract a (parenthesized (binary between.Subtract b c))
    ∷ unary before.Negate (member a (codes "b"))
    ∷ member (parenthesized (unary before.Negate a)) (codes "b")
    ∷ unary before.Not (cast cast_to.Bool a)
    ∷ binary between.Equal a (binary between.BitAnd b c)
    ∷ choice a b (choice b c a)
    ∷ choice (parenthesized (choice a b c)) a b
    ∷ call a (argument (argument no_arguments (listed (argument (argument no_arguments a) b))) (listed no_arguments))
    ∷ lookahead a (kind.Named (codes "a") None) (argument no_arguments b)
    ∷ member error (codes "a")
    ∷ []) ≡ true
written_so = refl

-- and these not: `a - (b - c)` and `(-a).b` without their parentheses, `a & b == c` as if `==` bound more tightly,
-- `(a ? b : c) ? a : b` without parentheses, a list by itself, a list in parentheses, and a list in a list
pub not_written_so : list_any (is_exp with_parentheses) (
    binary between.Subtract a (binary between.Subtract b c)
    ∷ member (unary before.Negate a) (codes "b")
    ∷ binary between.BitAnd a (binary between.Equal b c)
    ∷ choice (choice a b c) a b
    ∷ listed (argument no_arguments a)
    ∷ call a (argument no_arguments (parenthesized (listed no_arguments)))
    ∷ call a (argument no_arguments (listed (argument no_arguments (listed no_arguments))))
    ∷ []) ≡ false
not_written_so = refl

-- a syntax has no parentheses, and any grouping
pub bare_so : list_all (is_exp without_parentheses) (binary between.Subtract a (binary between.Subtract b c) ∷ member (unary before.Negate a) (codes "b") ∷ choice (choice a b c) a b ∷ []) ≡ true
bare_so = refl

pub not_bare_so : is_exp without_parentheses (binary between.Subtract a (parenthesized b)) ≡ false
not_bare_so = refl

-- parentheses are no part of a syntax
pub same_bare : bare_exp (binary between.Subtract (parenthesized a) (parenthesized (parenthesized b))) ≡ binary between.Subtract a b
same_bare = refl

-- `a.lookahead<a>(b, {c})`, with its `<` told apart from an operator
pub lookahead_written : written_exp (lookahead a (kind.Named (codes "a") None) (argument (argument no_arguments b) (listed (argument no_arguments c)))) ≡ id (codes "a") ∷ dot ∷ id lookahead_text ∷ opens ∷ id (codes "a") ∷ greater ∷ paren_open ∷ id (codes "b") ∷ comma ∷ brace_open ∷ id (codes "c") ∷ brace_close ∷ paren_close ∷ []
lookahead_written = refl

-- `a >> b` is written with two `>` of which the first touches the second
pub shift_written : written_exp (binary between.ShiftRight a b) ≡ id (codes "a") ∷ joined ∷ greater ∷ id (codes "b") ∷ []
shift_written = refl

-- an `else` belongs to the nearest `if`: `if (a) if (b) ; else ;` is an `if` without `else` around one with `else`
pub nearest_else : list_all (is_stmt with_parentheses statement) (if_then a (if_else b empty empty) ∷ if_else a (block no_statements) (if_then b empty) ∷ []) ≡ true
nearest_else = refl

pub no_far_else : list_any (is_stmt with_parentheses statement) (if_else a (if_then b empty) empty ∷ if_else a (if_else b empty (if_then c empty)) empty ∷ []) ≡ false
no_far_else = refl

-- an expression statement is a call
pub calls : list_all (is_stmt with_parentheses statement) (expression (call a no_arguments) ∷ expression (parenthesized (call a no_arguments)) ∷ []) ≡ true
calls = refl

pub no_calls : list_any (is_stmt with_parentheses statement) (expression a ∷ expression (unary before.Not (call a no_arguments)) ∷ []) ≡ false
no_calls = refl

-- a value in parentheses by itself is a tuple of one
pub keysets : list_all (is_keyset with_parentheses) (keyset.Tuple (simple.Value a ∷ []) ∷ keyset.One (simple.Mask (parenthesized a) b) ∷ keyset.One (simple.Value (binary between.Add (parenthesized a) b)) ∷ []) ≡ true
keysets = refl

pub no_keysets : list_any (is_keyset with_parentheses) (keyset.One (simple.Value (parenthesized a)) ∷ keyset.Tuple [] ∷ []) ≡ false
no_keysets = refl

-- a reserved word is no name, but a word behind a dot
pub no_name : is_spelt_seen (id (codes "apply")) ≡ false
no_name = refl

pub word_behind_dot : written_exp (member a (codes "apply")) ≡ id (codes "a") ∷ dot ∷ quoted key.Apply ∷ []
word_behind_dot = refl
