-- C16: a control calls itself, through others or directly, or `ingress` and `egress` together expand to over 65,536
-- statements and operands of conditions (P4_14 1.0.5, "Packet Processing and Control Flow"; the limit, and that
-- controls don't call themselves, are this project's own). Each application of a table and each `if` counts one, and
-- each operand of its condition; a call of a control and parentheses don't count. Each control is judged for calls
-- of itself, also one that no pipeline reaches.
use Rattle.std.specs.Prelude.{ℕ, ◌+◌, ◌<◌, ◌⊎◌, Bool, true, false, List, sum_by, count_by}
use Rattle.p414_syntax.specs.declared.syntax.Decl.{Decl}
use Rattle.p414_syntax.specs.Tree.{Expr, valid, truth, field, number, parenthesized, unary, binary, Stmt, apply, apply_branches, if_then}
use Rattle.p414_syntax.specs.Subtrees.{subexpressions, subtrees}
use Rattle.p414_syntax.specs.Walks.{IsCycle}
use Rattle.p414_syntax.specs.ControlExpansion.{PipelineExpands, ingress, egress, controls_called_by}

-- a control calls itself
abbrev pub ControlCallsItself : List Decl → Type 0
ControlCallsItself ds = (c : ℕ) × (between : List ℕ) × IsCycle (controls_called_by ds) c between

-- operands of an expression

abbrev pub is_operand : Expr → Bool
is_operand (valid i) = true
is_operand (truth b) = true
is_operand (field r) = true
is_operand (number n) = true
is_operand (parenthesized a) = false
is_operand (unary o a) = false
is_operand (binary o a b) = false

abbrev pub operand_count : Expr → ℕ
operand_count e = count_by is_operand (subexpressions e)

-- what a statement counts by itself, and with all within it
abbrev pub own_count : Stmt → ℕ
own_count (apply t) = 1
own_count (apply_branches t bs) = 1
own_count (if_then c body other) = 1 + operand_count c
own_count _ = 0

abbrev pub statement_count : Stmt → ℕ
statement_count s = sum_by own_count (subtrees s)

-- both pipelines together come to over 65,536
pub record PipelinesTooLong (ds : List Decl) : Type 0 where
  pub ingress_body : Stmt
  pub egress_body : Stmt
  pub ingress_expands : PipelineExpands ds ingress ingress_body
  pub egress_expands : PipelineExpands ds egress egress_body
  pub long : 65536 < statement_count ingress_body + statement_count egress_body

abbrev pub HasBadControl : List Decl → Type 0
HasBadControl ds = ControlCallsItself ds ⊎ PipelinesTooLong ds
