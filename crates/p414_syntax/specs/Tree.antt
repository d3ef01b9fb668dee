-- Expressions and statements as trees, and the trees that a list of nodes stands for (P4_14 1.0.5,
-- "Header Type Declarations", "Packet Processing and Control Flow").
use Rattle.std.specs.Prelude.{◌≡◌, ℕ, ◌<◌, ◌≤◌, Bool, List, [], length}
use Rattle.node_lists.specs.Trees.{tree_at, grow, AllInOrder, KeepsPlaces, Adds}
use Rattle.p414_syntax.specs.declared.lexeme.Literal.{Literal}
use Rattle.p414_syntax.specs.declared.parts.Inst.{Inst}
use Rattle.p414_syntax.specs.declared.parts.Ref.{Ref}
use Rattle.p414_syntax.specs.declared.node.UnaryOperator.{UnaryOperator}
use Rattle.p414_syntax.specs.declared.node.BinaryOperator.{BinaryOperator}
use Rattle.p414_syntax.specs.declared.node.Label.{Label}
use Rattle.p414_syntax.specs.declared.node.ExprNode.{ExprNode}
use Rattle.p414_syntax.specs.declared.node.ExprNode.TheVariants.{Valid, Truth, Field, Number, Parenthesized, Unary, Binary}
use Rattle.p414_syntax.specs.declared.node.StmtNode.{StmtNode}
use Rattle.p414_syntax.specs.declared.node.StmtNode.TheVariants.{NoStatements, Then, Apply, ApplyBranches, If, Call, NoElse, ElseBlock, ElseIf, NoBranches, Branch}

-- an expression
pub data Expr : Type 0 where
  valid : (instance : Inst) → Expr
  truth : (value : Bool) → Expr
  field : (of : Ref) → Expr
  number : (literal : Literal) → Expr
  parenthesized : (inner : Expr) → Expr
  unary : (operator : UnaryOperator) (operand : Expr) → Expr
  binary : (operator : BinaryOperator) (left right : Expr) → Expr

-- A statement; a list of statements, which is `no_statements` with statements put behind it by `then`; what stands
-- behind an `if` block; or a list of branches, which is `no_branches` with branches put behind it by `branch`.
pub data Stmt : Type 0 where
  no_statements : Stmt
  then : (before last : Stmt) → Stmt
  apply : (table : List ℕ) → Stmt
  apply_branches : (table : List ℕ) (branches : Stmt) → Stmt
  if_then : (condition : Expr) (statements other : Stmt) → Stmt
  call : (control : List ℕ) → Stmt
  no_else : Stmt
  else_block : (statements : Stmt) → Stmt
  else_if : (statement : Stmt) → Stmt
  no_branches : Stmt
  branch : (before : Stmt) (label : Label) (statements : Stmt) → Stmt

-- the trees at a place
abbrev pub expr_at : List Expr → ℕ → Expr
expr_at = tree_at (truth Bool.false)

abbrev pub stmt_at : List Stmt → ℕ → Stmt
stmt_at = tree_at no_statements

-- the tree of a node, given the trees of the nodes before it
abbrev pub expr_of : List Expr → ExprNode → Expr
expr_of es (Valid instance) = valid instance
expr_of es (Truth value) = truth value
expr_of es (Field of) = field of
expr_of es (Number literal) = number literal
expr_of es (Parenthesized a) = parenthesized (expr_at es a)
expr_of es (Unary operator a) = unary operator (expr_at es a)
expr_of es (Binary operator a b) = binary operator (expr_at es a) (expr_at es b)

abbrev pub stmt_of : List Expr → List Stmt → StmtNode → Stmt
stmt_of es ss NoStatements = no_statements
stmt_of es ss (Then a b) = then (stmt_at ss a) (stmt_at ss b)
stmt_of es ss (Apply table) = apply table
stmt_of es ss (ApplyBranches table a) = apply_branches table (stmt_at ss a)
stmt_of es ss (If c a b) = if_then (expr_at es c) (stmt_at ss a) (stmt_at ss b)
stmt_of es ss (Call control) = call control
stmt_of es ss NoElse = no_else
stmt_of es ss (ElseBlock a) = else_block (stmt_at ss a)
stmt_of es ss (ElseIf a) = else_if (stmt_at ss a)
stmt_of es ss NoBranches = no_branches
stmt_of es ss (Branch a label b) = branch (stmt_at ss a) label (stmt_at ss b)

-- trees, and behind them the trees of the nodes that follow
abbrev pub grow_exprs : List Expr → List ExprNode → List Expr
grow_exprs = grow expr_of

abbrev pub grow_stmts : List Expr → List Stmt → List StmtNode → List Stmt
grow_stmts es = grow (stmt_of es)

-- what contracts see of lists of nodes: the tree of each node
pub record Trees : Type 0 where
  pub exprs : List Expr
  pub stmts : List Stmt

abbrev pub trees_of : List ExprNode → List StmtNode → Trees
trees_of es ss = record { exprs = grow_exprs [] es; stmts = grow_stmts (grow_exprs [] es) [] ss }

-- the children of a node stand among the first `n` expressions (and, of a statement, the first `m` expressions and the
-- first `n` statements)
abbrev pub ExprInOrder : ℕ → ExprNode → Type 0
ExprInOrder n (Valid instance) = Unit {0}
ExprInOrder n (Truth value) = Unit {0}
ExprInOrder n (Field of) = Unit {0}
ExprInOrder n (Number literal) = Unit {0}
ExprInOrder n (Parenthesized a) = a < n
ExprInOrder n (Unary operator a) = a < n
ExprInOrder n (Binary operator a b) = (a < n) × (b < n)

abbrev pub StmtInOrder : ℕ → ℕ → StmtNode → Type 0
StmtInOrder m n NoStatements = Unit {0}
StmtInOrder m n (Then a b) = (a < n) × (b < n)
StmtInOrder m n (Apply table) = Unit {0}
StmtInOrder m n (ApplyBranches table a) = a < n
StmtInOrder m n (If c a b) = (c < m) × (a < n) × (b < n)
StmtInOrder m n (Call control) = Unit {0}
StmtInOrder m n NoElse = Unit {0}
StmtInOrder m n (ElseBlock a) = a < n
StmtInOrder m n (ElseIf a) = a < n
StmtInOrder m n NoBranches = Unit {0}
StmtInOrder m n (Branch a label b) = (a < n) × (b < n)

-- each child stands before its parent
abbrev pub ExprsInOrder : ℕ → List ExprNode → Type 0
ExprsInOrder = AllInOrder ExprInOrder

abbrev pub StmtsInOrder : ℕ → ℕ → List StmtNode → Type 0
StmtsInOrder m = AllInOrder (StmtInOrder m)

pub record InOrder (es : List ExprNode) (ss : List StmtNode) : Type 0 where
  pub exprs : ExprsInOrder 0 es
  pub stmts : StmtsInOrder (length es) 0 ss

-- the earlier trees keep their places
pub record Keeps (old new : Trees) : Type 0 where
  pub exprs_len : length old.exprs ≤ length new.exprs
  pub stmts_len : length old.stmts ≤ length new.stmts
  pub exprs : KeepsPlaces (truth Bool.false) old.exprs new.exprs
  pub stmts : KeepsPlaces no_statements old.stmts new.stmts

-- one more expression, at the place i: it stands behind the earlier ones, and nothing else is added
pub record AddsExpr (old new : Trees) (i : ℕ) (e : Expr) : Type 0 where
  pub keeps : Keeps old new
  pub place : i < length new.exprs
  pub tree : expr_at new.exprs i ≡ e
  pub exprs : Adds old.exprs new.exprs i e
  pub stmts : new.stmts ≡ old.stmts

-- one more statement, at the place i: it stands behind the earlier ones, and nothing else is added
pub record AddsStmt (old new : Trees) (i : ℕ) (s : Stmt) : Type 0 where
  pub keeps : Keeps old new
  pub place : i < length new.stmts
  pub tree : stmt_at new.stmts i ≡ s
  pub exprs : new.exprs ≡ old.exprs
  pub stmts : Adds old.stmts new.stmts i s
