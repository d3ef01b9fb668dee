-- What an expression is: the first of its rows tells, and where it stands in `main` doesn't matter.
use Rattle.std.proofs.Common.{◌≡◌, List, ◌∷◌, map, refl, ap, ◌∙◌}
use Rattle.p416_syntax.specs.Tree.{Exp16, literal, truth, error, name, member, index, slice, call, lookahead, cast, unary, binary, choice, parenthesized, no_arguments, argument, listed}
use Rattle.p416_syntax.specs.Subtrees.{subexpressions}
use Rattle.p416_syntax.specs.Kinds.{Kind}
use Rattle.p416_syntax.specs.Scopes.{Known, Layout, Scope, sort_in, kind_of_type}
use Rattle.p416_syntax.specs.Calls.{method_signature}
use Rattle.p416_syntax.specs.Expressions.{kind_of, sort_kind, known_kind, member_kind, element_kind, slice_kind, call_kind, sort_signature, lookahead_kind, unary_kind, binary_kind, same_choice}
use Rattle.p416_typing.specs.Rows.{RowOf, row_of}
use Rattle.p416_typing.specs.Seen.{seen_row}
use Rattle.p416_typing.specs.declared.row.Row.{Row}
use Rattle.p416_signature.specs.internal.Firsts.{kind_first}

-- an expression comes first of all within it
has_first : (e : Exp16) → (rest : List Exp16) × (subexpressions e ≡ e ∷ rest)
has_first (literal n) = (_, refl)
has_first (truth value) = (_, refl)
has_first error = (_, refl)
has_first (name text) = (_, refl)
has_first (member a word) = (_, refl)
has_first (index a at) = (_, refl)
has_first (slice a high low) = (_, refl)
has_first (call a b) = (_, refl)
has_first (lookahead a to b) = (_, refl)
has_first (cast to a) = (_, refl)
has_first (unary operator a) = (_, refl)
has_first (binary operator a b) = (_, refl)
has_first (choice a b c) = (_, refl)
has_first (parenthesized a) = (_, refl)
has_first no_arguments = (_, refl)
has_first (argument a b) = (_, refl)
has_first (listed a) = (_, refl)

rows_first : (s : Scope) (e : Exp16) (rows : List RowOf) → rows ≡ map (row_of s) (subexpressions e) → rows ≡ row_of s e ∷ map (row_of s) (has_first e).0
rows_first s e rows is = is ∙ ap (map (row_of s)) (has_first e).1

pub kind_is : (s : Scope) (e : Exp16) (top : List Known) (rows : List Row) (kind : Kind) → map (seen_row top) rows ≡ map (row_of s) (subexpressions e) → kind ≡ kind_first (map (seen_row top) rows) → kind ≡ kind_of s e
kind_is s e top rows kind is told = told ∙ ap kind_first (rows_first s e (map (seen_row top) rows) is)

-- the place in `main` and the part

pub same_kind : (s t : Scope) → s.layouts ≡ t.layouts → s.names ≡ t.names → (e : Exp16) → kind_of s e ≡ kind_of t e
same_kind s t layouts names (literal n) = refl
same_kind s t layouts names (truth value) = refl
same_kind s t layouts names error = refl
same_kind s t layouts names (name text) = ap (λ (l : List Known). sort_kind (sort_in l text)) names
same_kind s t layouts names (member e word) =
    ap (λ (l : List Layout). known_kind (member_kind l (kind_of s e) word)) layouts
    ∙ ap (λ (k : Kind). known_kind (member_kind t.layouts k word)) (same_kind s t layouts names e)
same_kind s t layouts names (index e at) = ap element_kind (same_kind s t layouts names e)
same_kind s t layouts names (slice e high low) = ap (λ (k : Kind). slice_kind k high low) (same_kind s t layouts names e)
same_kind s t layouts names (call (literal n) given) = refl
same_kind s t layouts names (call (truth value) given) = refl
same_kind s t layouts names (call error given) = refl
same_kind s t layouts names (call (name text) given) = ap (λ (l : List Known). call_kind (sort_signature (sort_in l text) text)) names
same_kind s t layouts names (call (member e word) given) = ap (λ (k : Kind). call_kind (method_signature k word)) (same_kind s t layouts names e)
same_kind s t layouts names (call (index e at) given) = refl
same_kind s t layouts names (call (slice e high low) given) = refl
same_kind s t layouts names (call (call e es) given) = refl
same_kind s t layouts names (call (lookahead e to es) given) = refl
same_kind s t layouts names (call (cast to e) given) = refl
same_kind s t layouts names (call (unary operator e) given) = refl
same_kind s t layouts names (call (binary operator a b) given) = refl
same_kind s t layouts names (call (choice c a b) given) = refl
same_kind s t layouts names (call (parenthesized e) given) = refl
same_kind s t layouts names (call no_arguments given) = refl
same_kind s t layouts names (call (argument before last) given) = refl
same_kind s t layouts names (call (listed es) given) = refl
same_kind s t layouts names (lookahead e to given) =
    ap (λ (k : Kind). lookahead_kind k (kind_of_type s.names to)) (same_kind s t layouts names e)
    ∙ ap (λ (l : List Known). lookahead_kind (kind_of t e) (kind_of_type l to)) names
same_kind s t layouts names (cast to e) = refl
same_kind s t layouts names (unary operator e) = ap (unary_kind operator) (same_kind s t layouts names e)
same_kind s t layouts names (binary operator a b) =
    ap (λ (k : Kind). binary_kind operator k (kind_of s b)) (same_kind s t layouts names a)
    ∙ ap (binary_kind operator (kind_of t a)) (same_kind s t layouts names b)
same_kind s t layouts names (choice c a b) =
    ap (λ (k : Kind). same_choice k (kind_of s b)) (same_kind s t layouts names a)
    ∙ ap (same_choice (kind_of t a)) (same_kind s t layouts names b)
same_kind s t layouts names (parenthesized e) = refl
same_kind s t layouts names no_arguments = refl
same_kind s t layouts names (argument before last) = refl
same_kind s t layouts names (listed es) = refl
