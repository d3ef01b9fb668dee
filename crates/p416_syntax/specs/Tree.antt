-- Expressions and statements as trees, and the trees that a list of nodes stands for (P4_16 1.2, "Expressions" and
-- "Statements").
use Rattle.std.specs.Prelude.{◌≡◌, ℕ, ◌<◌, ◌≤◌, Bool, List, [], length}
use Rattle.node_lists.specs.Trees.{tree_at, grow, AllInOrder, KeepsPlaces, Adds}
use Rattle.p416_syntax.specs.declared.lexeme.Literal16.{Literal16}
use Rattle.p416_syntax.specs.declared.parts.Type16.{Type16}
use Rattle.p416_syntax.specs.declared.node.UnaryOperator.{UnaryOperator}
use Rattle.p416_syntax.specs.declared.node.BinaryOperator.{BinaryOperator}
use Rattle.p416_syntax.specs.declared.node.CastType.{CastType}
use Rattle.p416_syntax.specs.declared.node.CaseLabel.{CaseLabel}
use Rattle.p416_syntax.specs.declared.node.ExpNode.{ExpNode}
use Rattle.p416_syntax.specs.declared.node.ExpNode.TheVariants.{Literal, Truth, Error, Name, Member, Index, Slice, Call, Lookahead, Cast, Unary, Binary, Choice, NoArguments, Argument, Listed}
use Rattle.p416_syntax.specs.declared.node.StmtNode.{StmtNode}
use Rattle.p416_syntax.specs.declared.node.StmtNode.TheVariants.{NoStatements, Then, Block, Empty, Var, VarIs, Assign, Expression, If, IfElse, Switch, NoCases, Case}

-- An expression; or an argument list, which is `no_arguments` with arguments put behind it by `argument`. No node stands
-- for parentheses: they are in a tree only where it is told how an expression is written.
pub data Exp16 : Type 0 where
  literal : (number : Literal16) → Exp16
  truth : (value : Bool) → Exp16
  error : Exp16
  name : (text : List ℕ) → Exp16
  member : (of : Exp16) (word : List ℕ) → Exp16
  index : (of : Exp16) (at : Literal16) → Exp16
  slice : (of : Exp16) (high low : Literal16) → Exp16
  call : (callee arguments : Exp16) → Exp16
  lookahead : (of : Exp16) (to : Type16) (arguments : Exp16) → Exp16
  cast : (to : CastType) (operand : Exp16) → Exp16
  unary : (operator : UnaryOperator) (operand : Exp16) → Exp16
  binary : (operator : BinaryOperator) (left right : Exp16) → Exp16
  choice : (condition yes no : Exp16) → Exp16
  parenthesized : (inner : Exp16) → Exp16
  no_arguments : Exp16
  argument : (before last : Exp16) → Exp16
  listed : (items : Exp16) → Exp16

-- A statement; a list of statements, which is `no_statements` with statements put behind it by `then`; or a list of cases,
-- which is `no_cases` with cases put behind it by `case_of`.
pub data Stmt16 : Type 0 where
  no_statements : Stmt16
  then : (before last : Stmt16) → Stmt16
  block : (statements : Stmt16) → Stmt16
  empty : Stmt16
  var : (of : Type16) (called : List ℕ) → Stmt16
  var_is : (of : Type16) (called : List ℕ) (value : Exp16) → Stmt16
  assign : (target value : Exp16) → Stmt16
  expression : (of : Exp16) → Stmt16
  if_then : (condition : Exp16) (yes : Stmt16) → Stmt16
  if_else : (condition : Exp16) (yes no : Stmt16) → Stmt16
  switch : (table : List ℕ) (cases : Stmt16) → Stmt16
  no_cases : Stmt16
  case_of : (before : Stmt16) (label : CaseLabel) (statements : Stmt16) → Stmt16

-- the trees at a place
abbrev pub exp_at : List Exp16 → ℕ → Exp16
exp_at = tree_at no_arguments

abbrev pub stmt_at : List Stmt16 → ℕ → Stmt16
stmt_at = tree_at no_statements

-- the tree of a node, given the trees of the nodes before it
abbrev pub exp_of : List Exp16 → ExpNode → Exp16
exp_of es (Literal number) = literal number
exp_of es (Truth value) = truth value
exp_of es Error = error
exp_of es (Name text) = name text
exp_of es (Member a word) = member (exp_at es a) word
exp_of es (Index a at) = index (exp_at es a) at
exp_of es (Slice a high low) = slice (exp_at es a) high low
exp_of es (Call a b) = call (exp_at es a) (exp_at es b)
exp_of es (Lookahead a to b) = lookahead (exp_at es a) to (exp_at es b)
exp_of es (Cast to a) = cast to (exp_at es a)
exp_of es (Unary operator a) = unary operator (exp_at es a)
exp_of es (Binary operator a b) = binary operator (exp_at es a) (exp_at es b)
exp_of es (Choice a b c) = choice (exp_at es a) (exp_at es b) (exp_at es c)
exp_of es NoArguments = no_arguments
exp_of es (Argument a b) = argument (exp_at es a) (exp_at es b)
exp_of es (Listed a) = listed (exp_at es a)

abbrev pub stmt_of : List Exp16 → List Stmt16 → StmtNode → Stmt16
stmt_of es ss NoStatements = no_statements
stmt_of es ss (Then a b) = then (stmt_at ss a) (stmt_at ss b)
stmt_of es ss (Block a) = block (stmt_at ss a)
stmt_of es ss Empty = empty
stmt_of es ss (Var of called) = var of called
stmt_of es ss (VarIs of called a) = var_is of called (exp_at es a)
stmt_of es ss (Assign a b) = assign (exp_at es a) (exp_at es b)
stmt_of es ss (Expression a) = expression (exp_at es a)
stmt_of es ss (If a b) = if_then (exp_at es a) (stmt_at ss b)
stmt_of es ss (IfElse a b c) = if_else (exp_at es a) (stmt_at ss b) (stmt_at ss c)
stmt_of es ss (Switch table a) = switch table (stmt_at ss a)
stmt_of es ss NoCases = no_cases
stmt_of es ss (Case a label b) = case_of (stmt_at ss a) label (stmt_at ss b)

-- trees, and behind them the trees of the nodes that follow
abbrev pub grow_exps : List Exp16 → List ExpNode → List Exp16
grow_exps = grow exp_of

abbrev pub grow_stmts : List Exp16 → List Stmt16 → List StmtNode → List Stmt16
grow_stmts es = grow (stmt_of es)

-- what contracts see of lists of nodes: the tree of each node
pub record Trees : Type 0 where
  pub exps : List Exp16
  pub stmts : List Stmt16

abbrev pub trees_of : List ExpNode → List StmtNode → Trees
trees_of es ss = record { exps = grow_exps [] es; stmts = grow_stmts (grow_exps [] es) [] ss }

-- the children of a node stand among the first `n` expressions (and, of a statement, the first `m` expressions and the
-- first `n` statements)
abbrev pub ExpInOrder : ℕ → ExpNode → Type 0
ExpInOrder n (Literal number) = Unit {0}
ExpInOrder n (Truth value) = Unit {0}
ExpInOrder n Error = Unit {0}
ExpInOrder n (Name text) = Unit {0}
ExpInOrder n (Member a word) = a < n
ExpInOrder n (Index a at) = a < n
ExpInOrder n (Slice a high low) = a < n
ExpInOrder n (Call a b) = (a < n) × (b < n)
ExpInOrder n (Lookahead a to b) = (a < n) × (b < n)
ExpInOrder n (Cast to a) = a < n
ExpInOrder n (Unary operator a) = a < n
ExpInOrder n (Binary operator a b) = (a < n) × (b < n)
ExpInOrder n (Choice a b c) = (a < n) × (b < n) × (c < n)
ExpInOrder n NoArguments = Unit {0}
ExpInOrder n (Argument a b) = (a < n) × (b < n)
ExpInOrder n (Listed a) = a < n

abbrev pub StmtInOrder : ℕ → ℕ → StmtNode → Type 0
StmtInOrder m n NoStatements = Unit {0}
StmtInOrder m n (Then a b) = (a < n) × (b < n)
StmtInOrder m n (Block a) = a < n
StmtInOrder m n Empty = Unit {0}
StmtInOrder m n (Var of called) = Unit {0}
StmtInOrder m n (VarIs of called a) = a < m
StmtInOrder m n (Assign a b) = (a < m) × (b < m)
StmtInOrder m n (Expression a) = a < m
StmtInOrder m n (If a b) = (a < m) × (b < n)
StmtInOrder m n (IfElse a b c) = (a < m) × (b < n) × (c < n)
StmtInOrder m n (Switch table a) = a < n
StmtInOrder m n NoCases = Unit {0}
StmtInOrder m n (Case a label b) = (a < n) × (b < n)

-- each child stands before its parent
abbrev pub ExpsInOrder : ℕ → List ExpNode → Type 0
ExpsInOrder = AllInOrder ExpInOrder

abbrev pub StmtsInOrder : ℕ → ℕ → List StmtNode → Type 0
StmtsInOrder m = AllInOrder (StmtInOrder m)

pub record InOrder (es : List ExpNode) (ss : List StmtNode) : Type 0 where
  pub exps : ExpsInOrder 0 es
  pub stmts : StmtsInOrder (length es) 0 ss

-- the earlier trees keep their places
pub record Keeps (old new : Trees) : Type 0 where
  pub exps_len : length old.exps ≤ length new.exps
  pub stmts_len : length old.stmts ≤ length new.stmts
  pub exps : KeepsPlaces no_arguments old.exps new.exps
  pub stmts : KeepsPlaces no_statements old.stmts new.stmts

-- one more expression, at the place i: it stands behind the earlier ones, and nothing else is added
pub record AddsExp (old new : Trees) (i : ℕ) (e : Exp16) : Type 0 where
  pub keeps : Keeps old new
  pub place : i < length new.exps
  pub tree : exp_at new.exps i ≡ e
  pub exps : Adds old.exps new.exps i e
  pub stmts : new.stmts ≡ old.stmts

-- one more statement, at the place i: it stands behind the earlier ones, and nothing else is added
pub record AddsStmt (old new : Trees) (i : ℕ) (s : Stmt16) : Type 0 where
  pub keeps : Keeps old new
  pub place : i < length new.stmts
  pub tree : stmt_at new.stmts i ≡ s
  pub exps : new.exps ≡ old.exps
  pub stmts : Adds old.stmts new.stmts i s
