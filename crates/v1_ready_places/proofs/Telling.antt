-- What an expression is: the first of its rows tells.
use Rattle.std.proofs.Common.{◌≡◌, List, ◌∷◌, map, refl, ap, ◌∙◌}
use Rattle.p416_syntax.specs.Tree.{Exp16, literal, truth, error, name, member, index, slice, call, lookahead, cast, unary, binary, choice, parenthesized, no_arguments, argument, listed}
use Rattle.p416_syntax.specs.Subtrees.{subexpressions}
use Rattle.p416_syntax.specs.Kinds.{Kind}
use Rattle.p416_syntax.specs.Scopes.{Known, Scope}
use Rattle.p416_syntax.specs.Expressions.{kind_of}
use Rattle.p416_typing.specs.Rows.{RowOf, row_of}
use Rattle.p416_typing.specs.Seen.{seen_row}
use Rattle.p416_typing.specs.declared.row.Row.{Row}
use Rattle.v1_ready_places.specs.internal.Chains.{kind_first}

-- an expression comes first of all within it
has_first : (e : Exp16) → (rest : List Exp16) × (subexpressions e ≡ e ∷ rest)
has_first (literal n) = (_, refl)
has_first (truth value) = (_, refl)
has_first error = (_, refl)
has_first (name text) = (_, refl)
has_first (member a word) = (_, refl)
has_first (index a at) = (_, refl)
has_first (slice a high low) = (_, refl)
has_first (call a b) = (_, refl)
has_first (lookahead a to b) = (_, refl)
has_first (cast to a) = (_, refl)
has_first (unary operator a) = (_, refl)
has_first (binary operator a b) = (_, refl)
has_first (choice a b c) = (_, refl)
has_first (parenthesized a) = (_, refl)
has_first no_arguments = (_, refl)
has_first (argument a b) = (_, refl)
has_first (listed a) = (_, refl)

rows_first : (s : Scope) (e : Exp16) (rows : List RowOf) → rows ≡ map (row_of s) (subexpressions e) → rows ≡ row_of s e ∷ map (row_of s) (has_first e).0
rows_first s e rows is = is ∙ ap (map (row_of s)) (has_first e).1

pub kind_is : (s : Scope) (e : Exp16) (top : List Known) (rows : List Row) (kind : Kind) → map (seen_row top) rows ≡ map (row_of s) (subexpressions e) → kind ≡ kind_first (map (seen_row top) rows) → kind ≡ kind_of s e
kind_is s e top rows kind is told = told ∙ ap kind_first (rows_first s e (map (seen_row top) rows) is)
