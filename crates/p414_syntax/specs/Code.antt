-- The codes of trees, and of what is seen of header types and controls. Proofs tell values apart by them.
use Rattle.std.specs.Prelude.{◌≡◌, ◌⊎◌, ℕ, false, List, [], ◌∷◌, ◌++◌, refl}
use Rattle.std.proofs.Common.{inl, inr}
use Rattle.std.specs.Coded.{Coded, code_by, coded×, coded⊎, coded_ℕ, coded_list}
use Rattle.node_lists.specs.Codes.{on_one, on_two, Puts, behind_one, behind_two, coded_tree}
use Rattle.p414_syntax.specs.declared.headers.Field as declared_field
use Rattle.p414_syntax.specs.declared.node.ExprNode.{ExprNode}
use Rattle.p414_syntax.specs.declared.node.ExprNode.TheVariants.{Valid, Truth, Field, Number, Parenthesized, Unary, Binary}
use Rattle.p414_syntax.specs.declared.node.StmtNode.{StmtNode}
use Rattle.p414_syntax.specs.declared.node.StmtNode.TheVariants.{NoStatements, Then, Apply, ApplyBranches, If, Call, NoElse, ElseBlock, ElseIf, NoBranches, Branch}
use Rattle.p414_syntax.specs.contracts.node.ExprNode as expr_node
use Rattle.p414_syntax.specs.contracts.node.StmtNode as stmt_node
use Rattle.p414_syntax.specs.contracts.headers.Field as header_field
use Rattle.p414_syntax.specs.Tree.{Expr, valid, truth, field, number, parenthesized, unary, binary, Stmt, no_statements, then, apply, apply_branches, if_then, call, no_else, else_block, else_if, no_branches, branch, Trees}
use Rattle.p414_syntax.specs.Views.{TailTree, length_is, max_length_is, HeaderTypeTree, ControlTree}

-- the nodes of an expression; a child's place in a node says nothing here: it is on top of the stack
abbrev pub expr_marks : Expr → List ExprNode
expr_marks (valid instance) = Valid instance ∷ []
expr_marks (truth value) = Truth value ∷ []
expr_marks (field of) = Field of ∷ []
expr_marks (number literal) = Number literal ∷ []
expr_marks (parenthesized a) = expr_marks a ++ Parenthesized 0 ∷ []
expr_marks (unary operator a) = expr_marks a ++ Unary operator 0 ∷ []
expr_marks (binary operator a b) = expr_marks a ++ (expr_marks b ++ Binary operator 0 0 ∷ [])

-- what a node does to a stack of expressions
abbrev pub expr_step : ExprNode → List Expr → List Expr
expr_step (Valid instance) es = valid instance ∷ es
expr_step (Truth value) es = truth value ∷ es
expr_step (Field of) es = field of ∷ es
expr_step (Number literal) es = number literal ∷ es
expr_step (Parenthesized i) es = on_one parenthesized es
expr_step (Unary operator i) es = on_one (unary operator) es
expr_step (Binary operator i j) es = on_two (binary operator) es

pub expr_puts : (e : Expr) → Puts expr_step (expr_marks e) e
expr_puts (valid instance) = λ ms es. refl
expr_puts (truth value) = λ ms es. refl
expr_puts (field of) = λ ms es. refl
expr_puts (number literal) = λ ms es. refl
expr_puts (parenthesized a) = behind_one expr_step (expr_marks a) a (Parenthesized 0) (expr_puts a)
expr_puts (unary operator a) = behind_one expr_step (expr_marks a) a (Unary operator 0) (expr_puts a)
expr_puts (binary operator a b) = behind_two expr_step (expr_marks a) (expr_marks b) a b (Binary operator 0 0) (expr_puts a) (expr_puts b)

abbrev pub coded_expr : Coded Expr
coded_expr = coded_tree expr_node.the_row.coded (truth false) expr_step expr_marks expr_puts

-- a statement's node with the expression that it holds
abbrev pub StmtMark : Type 0
StmtMark = StmtNode × Expr

abbrev pub bare : StmtNode → StmtMark
bare n = (n, truth false)

abbrev pub stmt_marks : Stmt → List StmtMark
stmt_marks no_statements = bare NoStatements ∷ []
stmt_marks (then s t) = stmt_marks s ++ (stmt_marks t ++ bare (Then 0 0) ∷ [])
stmt_marks (apply table) = bare (Apply table) ∷ []
stmt_marks (apply_branches table s) = stmt_marks s ++ bare (ApplyBranches table 0) ∷ []
stmt_marks (if_then e s t) = stmt_marks s ++ (stmt_marks t ++ (If 0 0 0, e) ∷ [])
stmt_marks (call control) = bare (Call control) ∷ []
stmt_marks no_else = bare NoElse ∷ []
stmt_marks (else_block s) = stmt_marks s ++ bare (ElseBlock 0) ∷ []
stmt_marks (else_if s) = stmt_marks s ++ bare (ElseIf 0) ∷ []
stmt_marks no_branches = bare NoBranches ∷ []
stmt_marks (branch s label t) = stmt_marks s ++ (stmt_marks t ++ bare (Branch 0 label 0) ∷ [])

abbrev pub node_step : StmtNode → Expr → List Stmt → List Stmt
node_step NoStatements e ss = no_statements ∷ ss
node_step (Then i j) e ss = on_two then ss
node_step (Apply table) e ss = apply table ∷ ss
node_step (ApplyBranches table i) e ss = on_one (apply_branches table) ss
node_step (If c i j) e ss = on_two (if_then e) ss
node_step (Call control) e ss = call control ∷ ss
node_step NoElse e ss = no_else ∷ ss
node_step (ElseBlock i) e ss = on_one else_block ss
node_step (ElseIf i) e ss = on_one else_if ss
node_step NoBranches e ss = no_branches ∷ ss
node_step (Branch i label j) e ss = on_two (λ a b. branch a label b) ss

abbrev pub stmt_step : StmtMark → List Stmt → List Stmt
stmt_step m ss = node_step m.0 m.1 ss

pub stmt_puts : (s : Stmt) → Puts stmt_step (stmt_marks s) s
stmt_puts no_statements = λ ms ss. refl
stmt_puts (then s t) = behind_two stmt_step (stmt_marks s) (stmt_marks t) s t (bare (Then 0 0)) (stmt_puts s) (stmt_puts t)
stmt_puts (apply table) = λ ms ss. refl
stmt_puts (apply_branches table s) = behind_one stmt_step (stmt_marks s) s (bare (ApplyBranches table 0)) (stmt_puts s)
stmt_puts (if_then e s t) = behind_two stmt_step (stmt_marks s) (stmt_marks t) s t (If 0 0 0, e) (stmt_puts s) (stmt_puts t)
stmt_puts (call control) = λ ms ss. refl
stmt_puts no_else = λ ms ss. refl
stmt_puts (else_block s) = behind_one stmt_step (stmt_marks s) s (bare (ElseBlock 0)) (stmt_puts s)
stmt_puts (else_if s) = behind_one stmt_step (stmt_marks s) s (bare (ElseIf 0)) (stmt_puts s)
stmt_puts no_branches = λ ms ss. refl
stmt_puts (branch s label t) = behind_two stmt_step (stmt_marks s) (stmt_marks t) s t (bare (Branch 0 label 0)) (stmt_puts s) (stmt_puts t)

abbrev pub coded_stmt : Coded Stmt
coded_stmt = coded_tree (coded× stmt_node.the_row.coded coded_expr) no_statements stmt_step stmt_marks stmt_puts

abbrev pub coded_trees : Coded Trees
coded_trees =
    code_by (List Expr × List Stmt) (coded× (coded_list coded_expr) (coded_list coded_stmt)) (λ t. (t.exprs, t.stmts)) (λ p. record { exprs = p.0; stmts = p.1 }) (λ _. refl)

abbrev pub coded_text : Coded (List ℕ)
coded_text = coded_list coded_ℕ

abbrev pub tail_cases : TailTree → Expr ⊎ Expr
tail_cases (length_is e) = inl e
tail_cases (max_length_is e) = inr e

abbrev pub tail_of : Expr ⊎ Expr → TailTree
tail_of (inl e) = length_is e
tail_of (inr e) = max_length_is e

pub tail_round : (t : TailTree) → tail_of (tail_cases t) ≡ t
tail_round (length_is e) = refl
tail_round (max_length_is e) = refl

abbrev pub coded_tail : Coded TailTree
coded_tail = code_by (Expr ⊎ Expr) (coded⊎ coded_expr coded_expr) tail_cases tail_of tail_round

abbrev pub coded_header_type : Coded HeaderTypeTree
coded_header_type =
    code_by (List ℕ × (List declared_field.Field × List TailTree)) (coded× coded_text (coded× (coded_list header_field.the_row.coded) (coded_list coded_tail))) (λ h. (h.name, (h.fields, h.tails))) (λ p. record { name = p.0; fields = p.1.0; tails = p.1.1 }) (λ _. refl)

abbrev pub coded_control : Coded ControlTree
coded_control =
    code_by (List ℕ × Stmt) (coded× coded_text coded_stmt) (λ c. (c.name, c.body)) (λ p. record { name = p.0; body = p.1 }) (λ _. refl)
