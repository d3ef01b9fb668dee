-- How the parts of a header type or a control and its nodes are seen as trees.
use Rattle.std.specs.Prelude.{ℕ, ◌<◌, List, length, map, All}
use Rattle.p414_syntax.specs.declared.headers.Field.{Field}
use Rattle.p414_syntax.specs.declared.headers.TypeTail.{TypeTail}
use Rattle.p414_syntax.specs.declared.headers.TypeTail.TheVariants.{Length, MaxLength}
use Rattle.p414_syntax.specs.Tree.{Expr, Stmt, Trees, expr_at, stmt_at}

-- an attribute of a header type behind its fields
pub data TailTree : Type 0 where
  length_is : (e : Expr) → TailTree
  max_length_is : (e : Expr) → TailTree

pub record HeaderTypeTree : Type 0 where
  pub name : List ℕ
  pub fields : List Field
  pub tails : List TailTree

pub record ControlTree : Type 0 where
  pub name : List ℕ
  pub body : Stmt

-- an attribute whose expression stands at a place of the expressions
abbrev pub tail_tree : Trees → TypeTail → TailTree
tail_tree nodes (Length place) = length_is (expr_at nodes.exprs place)
tail_tree nodes (MaxLength place) = max_length_is (expr_at nodes.exprs place)

abbrev pub header_type_tree : List ℕ → List Field → List TypeTail → Trees → HeaderTypeTree
header_type_tree name fields tails nodes = record { name = name; fields = fields; tails = map (tail_tree nodes) tails }

abbrev pub control_tree : List ℕ → Trees → ℕ → ControlTree
control_tree name nodes body = record { name = name; body = stmt_at nodes.stmts body }

-- the expression of an attribute stands among the first `n`
abbrev pub TailWithin : ℕ → TypeTail → Type 0
TailWithin n (Length place) = place < n
TailWithin n (MaxLength place) = place < n

abbrev pub TailsWithin : Trees → List TypeTail → Type 0
TailsWithin nodes tails = All (TailWithin (length nodes.exprs)) tails
