-- The width of an expression, operand by operand.
use Rattle.std.specs.Prelude.{ℕ, max, List, fold}
use Rattle.p414_syntax.specs.declared.syntax.Decl.{Decl}
use Rattle.p414_syntax.specs.Tree.{Expr, valid, truth, field, number, parenthesized, unary, binary}
use Rattle.p414_sem.specs.Slots.{bits_of_ref}
use Rattle.p414_sem.specs.Conditions.{literal_width}

-- that of an operand; 0 of an operator
abbrev pub own_width : List Decl → Expr → ℕ
own_width ds (valid i) = 1
own_width ds (truth b) = 1
own_width ds (field r) = bits_of_ref ds r
own_width ds (number n) = literal_width n
own_width ds (parenthesized a) = 0
own_width ds (unary o a) = 0
own_width ds (binary o a b) = 0

abbrev pub wider : List Decl → ℕ → Expr → ℕ
wider ds width e = max width (own_width ds e)

-- the greatest of a width and those of all these
abbrev pub widest : List Decl → ℕ → List Expr → ℕ
widest ds width es = fold (wider ds) width es
