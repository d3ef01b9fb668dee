-- The four words of the grammar whose trees share one type, told apart: what a tree is that stands as a list of
-- statements, as a statement, behind an `if` block, or as a list of branches.
use Rattle.std.proofs.Common.{◌≡◌, ℕ, true, List}
use Rattle.std.proofs.lemmas.Bool.{and_parts}
use Rattle.p414_syntax.specs.declared.node.Label.{Label}
use Rattle.p414_syntax.specs.declared.syntax.Decl.TheVariants as decl
use Rattle.p414_syntax.specs.Tree.{Expr, Stmt, no_statements, then, apply, apply_branches, if_then, call, no_else, else_block, else_if, no_branches, branch}
use Rattle.p414_syntax.specs.Views.{ControlTree}
use Rattle.p414_syntax.specs.Conditions.{is_decl, is_expr, is_stmt, is_if, is_label, are_labels, labels_of, block, statement, behind_if, branches}

pub data IsBlock : Stmt → Type 0 where
  empty : IsBlock no_statements
  longer : (before last : Stmt) → is_stmt block before ≡ true → is_stmt statement last ≡ true → IsBlock (then before last)

pub data IsStatement : Stmt → Type 0 where
  applies : (table : List ℕ) → IsStatement (apply table)
  chooses : (table : List ℕ) (bs : Stmt) → is_stmt branches bs ≡ true → are_labels (labels_of bs) ≡ true → IsStatement (apply_branches table bs)
  tests : (condition : Expr) (body other : Stmt) → is_expr 0 condition ≡ true → is_stmt block body ≡ true → is_stmt behind_if other ≡ true → IsStatement (if_then condition body other)
  calls : (control : List ℕ) → IsStatement (call control)

pub data IsBehindIf : Stmt → Type 0 where
  nothing : IsBehindIf no_else
  other_block : (body : Stmt) → is_stmt block body ≡ true → IsBehindIf (else_block body)
  other_if : (s : Stmt) → is_if s ≡ true → is_stmt statement s ≡ true → IsBehindIf (else_if s)

pub data AreBranches : Stmt → Type 0 where
  none : AreBranches no_branches
  more : (before : Stmt) (label : Label) (body : Stmt) → is_stmt branches before ≡ true → is_label label ≡ true → is_stmt block body ≡ true → AreBranches (branch before label body)

pub block_is : (s : Stmt) → is_stmt block s ≡ true → IsBlock s
block_is no_statements h = empty
block_is (then before last) h = let p = and_parts (is_stmt block before) (is_stmt statement last) h in longer before last p.0 p.1
block_is (apply table) h = absurd (cc)
block_is (apply_branches table bs) h = absurd (cc)
block_is (if_then condition body other) h = absurd (cc)
block_is (call control) h = absurd (cc)
block_is no_else h = absurd (cc)
block_is (else_block body) h = absurd (cc)
block_is (else_if s) h = absurd (cc)
block_is no_branches h = absurd (cc)
block_is (branch before label body) h = absurd (cc)

pub statement_is : (s : Stmt) → is_stmt statement s ≡ true → IsStatement s
statement_is no_statements h = absurd (cc)
statement_is (then before last) h = absurd (cc)
statement_is (apply table) h = applies table
statement_is (apply_branches table bs) h = let p = and_parts (is_stmt branches bs) (are_labels (labels_of bs)) h in chooses table bs p.0 p.1
statement_is (if_then condition body other) h =
    let p = and_parts (is_expr 0 condition) _ h in
    let q = and_parts (is_stmt block body) (is_stmt behind_if other) p.1 in
    tests condition body other p.0 q.0 q.1
statement_is (call control) h = calls control
statement_is no_else h = absurd (cc)
statement_is (else_block body) h = absurd (cc)
statement_is (else_if s) h = absurd (cc)
statement_is no_branches h = absurd (cc)
statement_is (branch before label body) h = absurd (cc)

pub behind_if_is : (s : Stmt) → is_stmt behind_if s ≡ true → IsBehindIf s
behind_if_is no_statements h = absurd (cc)
behind_if_is (then before last) h = absurd (cc)
behind_if_is (apply table) h = absurd (cc)
behind_if_is (apply_branches table bs) h = absurd (cc)
behind_if_is (if_then condition body other) h = absurd (cc)
behind_if_is (call control) h = absurd (cc)
behind_if_is no_else h = nothing
behind_if_is (else_block body) h = other_block body h
behind_if_is (else_if s) h = let p = and_parts (is_if s) (is_stmt statement s) h in other_if s p.0 p.1
behind_if_is no_branches h = absurd (cc)
behind_if_is (branch before label body) h = absurd (cc)

pub branches_are : (s : Stmt) → is_stmt branches s ≡ true → AreBranches s
branches_are no_statements h = absurd (cc)
branches_are (then before last) h = absurd (cc)
branches_are (apply table) h = absurd (cc)
branches_are (apply_branches table bs) h = absurd (cc)
branches_are (if_then condition body other) h = absurd (cc)
branches_are (call control) h = absurd (cc)
branches_are no_else h = absurd (cc)
branches_are (else_block body) h = absurd (cc)
branches_are (else_if s) h = absurd (cc)
branches_are no_branches h = none
branches_are (branch before label body) h =
    let p = and_parts (is_stmt branches before) _ h in
    let q = and_parts (is_label label) (is_stmt block body) p.1 in
    more before label body p.0 q.0 q.1

-- the body of a control that keeps to the grammar is a list of statements
pub body_is_block : (c : ControlTree) → is_decl (decl.Control c) ≡ true → IsBlock c.body
body_is_block c h = block_is c.body h
