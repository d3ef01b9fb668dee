-- C28: after expansion blocks nest over 64 deep, or an expression's tree is over 64 deep; `else if` doesn't nest
-- (P4_14 1.0.5, "Packet Processing and Control Flow", "Header Type Declarations"; the limits are this project's
-- own). The block of a control is the first. The block behind an `if`, behind `else` and behind the label of a
-- branch is one deeper than the block that it stands in; a call of a control adds none. An operand alone is 1 deep,
-- each operator adds 1, and parentheses add nothing. Each control is judged, expanded from itself, and what stands
-- behind `length` and `max_length` too.
use Rattle.std.specs.Prelude.{ℕ, ◌+◌, ◌<◌, ◌⊎◌, max, Bool, ◌||◌, nat_lt, IsTrue, List}
use Rattle.std.specs.List.{list_any}
use Rattle.p414_syntax.specs.declared.syntax.Decl.{Decl}
use Rattle.p414_syntax.specs.Tree.{Expr, valid, truth, field, number, parenthesized, unary, binary, Stmt, no_statements, then, apply, apply_branches, if_then, call, no_else, else_block, else_if, no_branches, branch}
use Rattle.p414_syntax.specs.ControlExpansion.{ControlExpands}
use Rattle.p414_syntax.specs.Expressions.{conditions_of, lengths_of}

-- how deep an expression's tree is
abbrev pub depth : Expr → ℕ
depth (valid i) = 1
depth (truth b) = 1
depth (field r) = 1
depth (number n) = 1
depth (parenthesized a) = depth a
depth (unary o a) = 1 + depth a
depth (binary o a b) = 1 + max (depth a) (depth b)

abbrev pub is_too_deep : Expr → Bool
is_too_deep e = nat_lt 64 (depth e)

abbrev pub has_deep_expression : List Decl → Bool
has_deep_expression ds = list_any is_too_deep (conditions_of ds) || list_any is_too_deep (lengths_of ds)

-- how deep blocks nest within a statement
abbrev pub nesting : Stmt → ℕ
nesting no_statements = 0
nesting (then before last) = max (nesting before) (nesting last)
nesting (apply t) = 0
nesting (apply_branches t bs) = nesting bs
nesting (if_then c body other) = max (1 + nesting body) (nesting other)
nesting (call c) = 0
nesting no_else = 0
nesting (else_block body) = 1 + nesting body
nesting (else_if s) = nesting s
nesting no_branches = 0
nesting (branch before l body) = max (nesting before) (1 + nesting body)

-- the blocks of a control, expanded, nest over 64 deep
pub record NestsTooDeep (ds : List Decl) : Type 0 where
  pub control : ℕ
  pub body : Stmt
  pub expands : ControlExpands ds control body
  pub deep : 64 < 1 + nesting body

abbrev pub HasDeepNesting : List Decl → Type 0
HasDeepNesting ds = IsTrue (has_deep_expression ds) ⊎ NestsTooDeep ds
