-- Trees by the places of their nodes: expressions and statements that aren't part of another yet.
use Rattle.std.specs.Prelude.{◌≡◌, ℕ, ◌<◌, List, [], ◌∷◌, length, map}
use Rattle.p416_syntax.specs.Tree.{Exp16, no_arguments, Stmt16, no_statements, Trees, exp_at, stmt_at, Keeps}
use Rattle.predictive_parser.specs.Values.{newest, older}

-- the trees, the newest first
pub record Forest : Type 0 where
  pub exps : List Exp16
  pub stmts : List Stmt16

abbrev pub forest_of : Trees → List ℕ → List ℕ → Forest
forest_of nodes exps stmts = record { exps = map (exp_at nodes.exps) exps; stmts = map (stmt_at nodes.stmts) stmts }

-- trees, and the nodes that they are made of
pub record Rooted : Type 0 where
  pub nodes : Trees
  pub trees : Forest

-- each place is among the first so many
abbrev pub AllBelow : ℕ → List ℕ → Type 0
AllBelow n [] = Unit {0}
AllBelow n (place ∷ places) = (place < n) × AllBelow n places

-- each place is that of a node
pub record StandIn (nodes : Trees) (of_exps : List ℕ) (of_stmts : List ℕ) : Type 0 where
  pub exps_below : AllBelow (length nodes.exps) of_exps
  pub stmts_below : AllBelow (length nodes.stmts) of_stmts

-- The newest expression, or one more where there is none, is taken off its stack. It stands at the place.
pub record TakesExp (old new : Rooted) (place : ℕ) : Type 0 where
  pub keeps : Keeps old.nodes new.nodes
  pub below : place < length new.nodes.exps
  pub tree : exp_at new.nodes.exps place ≡ newest no_arguments old.trees.exps
  pub rest : new.trees ≡ record old.trees { exps = older old.trees.exps }

-- The newest statement, or one more where there is none, is taken off its stack. It stands at the place.
pub record TakesStmt (old new : Rooted) (place : ℕ) : Type 0 where
  pub keeps : Keeps old.nodes new.nodes
  pub below : place < length new.nodes.stmts
  pub tree : stmt_at new.nodes.stmts place ≡ newest no_statements old.trees.stmts
  pub rest : new.trees ≡ record old.trees { stmts = older old.trees.stmts }
