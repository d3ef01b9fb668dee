-- Trees by the places of their nodes: expressions, attributes of header types, and statements that aren't part of another yet.
use Rattle.std.specs.Prelude.{◌≡◌, ℕ, ◌<◌, false, List, [], ◌∷◌, length, map}
use Rattle.p414_syntax.specs.declared.keyword.Keyword.TheVariants as key
use Rattle.p414_syntax.specs.Keywords.{keyword_text}
use Rattle.p414_syntax.specs.declared.headers.TypeTail.{TypeTail}
use Rattle.p414_syntax.specs.declared.headers.TypeTail.TheVariants as tail
use Rattle.p414_syntax.specs.Tree.{Expr, truth, Stmt, no_statements, if_then, Trees, expr_at, stmt_at, Keeps}
use Rattle.p414_syntax.specs.Views.{TailTree, tail_tree, TailsWithin}
use Rattle.predictive_parser.specs.Values.{newest, older, extended}

-- the trees, the newest first
pub record Forest : Type 0 where
  pub exprs : List Expr
  pub tails : List (List TailTree)
  pub stmts : List Stmt

abbrev pub forest_of : Trees → List ℕ → List (List TypeTail) → List ℕ → Forest
forest_of nodes exprs tails stmts =
    record { exprs = map (expr_at nodes.exprs) exprs; tails = map (map (tail_tree nodes)) tails; stmts = map (stmt_at nodes.stmts) stmts }

-- the word of an attribute of a header type
abbrev pub tail_text : TypeTail → List ℕ
tail_text (tail.Length place) = keyword_text key.Length
tail_text (tail.MaxLength place) = keyword_text key.MaxLength

-- the newest statement, or the two newest, are put under another
abbrev pub over_stmt : (Stmt → Stmt) → List Stmt → List Stmt
over_stmt f ss = f (newest no_statements ss) ∷ older ss

abbrev pub over_stmts : (Stmt → Stmt → Stmt) → List Stmt → List Stmt
over_stmts f ss = f (newest no_statements (older ss)) (newest no_statements ss) ∷ older (older ss)

-- an attribute of the newest expression is put into the newest list of attributes
abbrev pub add_tail : (Expr → TailTree) → Forest → Forest
add_tail f t = record t { exprs = older t.exprs; tails = extended (f (newest (truth false) t.exprs) ∷ []) t.tails }

-- the newest condition, block and what stands behind the block become an `if` statement
abbrev pub over_if : Forest → Forest
over_if t = record t {
  exprs = older t.exprs;
  stmts = if_then (newest (truth false) t.exprs) (newest no_statements (older t.stmts)) (newest no_statements t.stmts) ∷ older (older t.stmts);
}

-- trees, and the nodes that they are made of
pub record Rooted : Type 0 where
  pub nodes : Trees
  pub trees : Forest

-- each place is among the first so many
abbrev pub AllBelow : ℕ → List ℕ → Type 0
AllBelow n [] = Unit {0}
AllBelow n (place ∷ places) = (place < n) × AllBelow n places

abbrev pub AllTailsWithin : Trees → List (List TypeTail) → Type 0
AllTailsWithin nodes [] = Unit {0}
AllTailsWithin nodes (tails ∷ lists) = TailsWithin nodes tails × AllTailsWithin nodes lists

-- each place is that of a node
pub record StandIn (nodes : Trees) (of_exprs : List ℕ) (of_tails : List (List TypeTail)) (of_stmts : List ℕ) : Type 0 where
  pub exprs_below : AllBelow (length nodes.exprs) of_exprs
  pub tails_within : AllTailsWithin nodes of_tails
  pub stmts_below : AllBelow (length nodes.stmts) of_stmts

-- The newest expression, or one more where there is none, is taken off its stack. It stands at the place.
pub record TakesExpr (old new : Rooted) (place : ℕ) : Type 0 where
  pub keeps : Keeps old.nodes new.nodes
  pub below : place < length new.nodes.exprs
  pub tree : expr_at new.nodes.exprs place ≡ newest (truth false) old.trees.exprs
  pub rest : new.trees ≡ record old.trees { exprs = older old.trees.exprs }

-- The newest statement, or one more where there is none, is taken off its stack. It stands at the place.
pub record TakesStmt (old new : Rooted) (place : ℕ) : Type 0 where
  pub keeps : Keeps old.nodes new.nodes
  pub below : place < length new.nodes.stmts
  pub tree : stmt_at new.nodes.stmts place ≡ newest no_statements old.trees.stmts
  pub rest : new.trees ≡ record old.trees { stmts = older old.trees.stmts }
