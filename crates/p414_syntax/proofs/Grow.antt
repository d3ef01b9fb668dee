-- What `node_lists` proves of any list of nodes, for expressions and for the statements over them.
use Rattle.std.proofs.Common.{◌≡◌, ℕ, false, ap₂, ◌<◌, ◌≤◌, List, [], ◌∷◌, ◌++◌, length, get_or, refl, sym, ap, subst, ◌∙◌, arith}
use Rattle.node_lists.specs.Trees.{Adds}
use Rattle.node_lists.proofs.Growth as growth
use Rattle.p414_syntax.specs.declared.node.ExprNode.{ExprNode}
use Rattle.p414_syntax.specs.declared.node.ExprNode.TheVariants.{Valid, Truth, Field, Number, Parenthesized, Unary, Binary}
use Rattle.p414_syntax.specs.declared.node.StmtNode.{StmtNode}
use Rattle.p414_syntax.specs.declared.node.StmtNode.TheVariants.{NoStatements, Then, Apply, ApplyBranches, If, Call, NoElse, ElseBlock, ElseIf, NoBranches, Branch}
use Rattle.p414_syntax.specs.Tree.{Expr, truth, parenthesized, unary, binary, Stmt, no_statements, then, apply_branches, if_then, else_block, else_if, branch, expr_at, stmt_at, expr_of, stmt_of, grow_exprs, grow_stmts, ExprInOrder, StmtInOrder, InOrder, Trees, trees_of, AddsExpr, AddsStmt}

-- the tree of a node in order depends on no trees but those of its children

pub expr_of_same : growth.OfChildren (truth false) expr_of ExprInOrder
expr_of_same n es fs (Valid instance) o h = refl
expr_of_same n es fs (Truth value) o h = refl
expr_of_same n es fs (Field of) o h = refl
expr_of_same n es fs (Number literal) o h = refl
expr_of_same n es fs (Parenthesized a) o h = ap parenthesized (h a o)
expr_of_same n es fs (Unary operator a) o h = ap (unary operator) (h a o)
expr_of_same n es fs (Binary operator a b) o h = ap₂ (binary operator) (h a o.0) (h b o.1)

pub stmt_of_same : (m n : ℕ) (es fs : List Expr) (ss us : List Stmt) (x : StmtNode) → StmtInOrder m n x → ((i : ℕ) → i < m → expr_at es i ≡ expr_at fs i) → ((i : ℕ) → i < n → stmt_at ss i ≡ stmt_at us i) → stmt_of es ss x ≡ stmt_of fs us x
stmt_of_same m n es fs ss us NoStatements o g h = refl
stmt_of_same m n es fs ss us (Then a b) o g h = ap₂ then (h a o.0) (h b o.1)
stmt_of_same m n es fs ss us (Apply table) o g h = refl
stmt_of_same m n es fs ss us (ApplyBranches table a) o g h = ap (apply_branches table) (h a o)
stmt_of_same m n es fs ss us (If c a b) o g h =
    ap (λ e. if_then e (stmt_at ss a) (stmt_at ss b)) (g c o.0) ∙ ap₂ (if_then (expr_at fs c)) (h a o.1) (h b o.2)
stmt_of_same m n es fs ss us (Call control) o g h = refl
stmt_of_same m n es fs ss us NoElse o g h = refl
stmt_of_same m n es fs ss us (ElseBlock a) o g h = ap else_block (h a o)
stmt_of_same m n es fs ss us (ElseIf a) o g h = ap else_if (h a o)
stmt_of_same m n es fs ss us NoBranches o g h = refl
stmt_of_same m n es fs ss us (Branch a label b) o g h = ap₂ (λ x y. branch x label y) (h a o.0) (h b o.1)

-- a statement in order stays so behind more expressions
stmt_wider : (m k n : ℕ) (x : StmtNode) → m ≤ k → StmtInOrder m n x → StmtInOrder k n x
stmt_wider m k n NoStatements le o = tt
stmt_wider m k n (Then a b) le o = o
stmt_wider m k n (Apply table) le o = tt
stmt_wider m k n (ApplyBranches table a) le o = o
stmt_wider m k n (If c a b) le o = (omega arith, o.1, o.2)
stmt_wider m k n (Call control) le o = tt
stmt_wider m k n NoElse le o = tt
stmt_wider m k n (ElseBlock a) le o = o
stmt_wider m k n (ElseIf a) le o = o
stmt_wider m k n NoBranches le o = tt
stmt_wider m k n (Branch a label b) le o = o

-- one more of one sort, and the other as it was

module _ (old new : Trees) (i : ℕ) where
  adds_expr_of : (e : Expr) → Adds old.exprs new.exprs i e → new.stmts ≡ old.stmts → AddsExpr old new i e
  adds_expr_of e adds same = record {
    keeps = record {
      exprs_len = omega (arith, growth.adds_len old.exprs new.exprs i e adds);
      stmts_len = omega (arith, ap length same);
      exprs = growth.adds_keeps old.exprs new.exprs i e adds (truth false);
      stmts = λ k h. ap (λ l. stmt_at l k) same;
    };
    place = growth.adds_place old.exprs new.exprs i e adds;
    tree = growth.adds_tree old.exprs new.exprs i e adds (truth false);
    exprs = adds;
    stmts = same;
  }

  adds_stmt_of : (s : Stmt) → new.exprs ≡ old.exprs → Adds old.stmts new.stmts i s → AddsStmt old new i s
  adds_stmt_of s same adds = record {
    keeps = record {
      exprs_len = omega (arith, ap length same);
      stmts_len = omega (arith, growth.adds_len old.stmts new.stmts i s adds);
      exprs = λ k h. ap (λ l. expr_at l k) same;
      stmts = growth.adds_keeps old.stmts new.stmts i s adds no_statements;
    };
    place = growth.adds_place old.stmts new.stmts i s adds;
    tree = growth.adds_tree old.stmts new.stmts i s adds no_statements;
    exprs = same;
    stmts = adds;
  }

module _ (es : List ExprNode) (ss : List StmtNode) (o : InOrder es ss) where
  pub expr_in_order : (x : ExprNode) → ExprInOrder (length (trees_of es ss).exprs) x → InOrder (es ++ x ∷ []) ss
  expr_in_order x h =
      let more = es ++ x ∷ [] in
      let le : length es ≤ length more = omega (arith, growth.longer es x) in
      record {
        exprs = growth.one_more_in_order expr_of ExprInOrder es x o.exprs h;
        stmts = growth.order_wider (StmtInOrder (length es)) (StmtInOrder (length more)) (λ k y p. stmt_wider (length es) (length more) k y le p) 0 ss o.stmts;
      }

  pub stmt_in_order : (x : StmtNode) → StmtInOrder (length (trees_of es ss).exprs) (length (trees_of es ss).stmts) x → InOrder es (ss ++ x ∷ [])
  stmt_in_order x h = record {
    exprs = o.exprs;
    stmts =
        growth.one_more_in_order (stmt_of (grow_exprs [] es)) (StmtInOrder (length es)) ss x o.stmts
        (subst (λ m. StmtInOrder m (length (trees_of es ss).stmts) x) (growth.count expr_of es) h);
  }

  pub adds_expr : (x : ExprNode) (i : ℕ) → i ≡ length es → AddsExpr (trees_of es ss) (trees_of (es ++ x ∷ []) ss) i (expr_of (trees_of es ss).exprs x)
  adds_expr x i at =
      let old = grow_exprs [] es in
      let new = grow_exprs [] (es ++ x ∷ []) in
      let adds = growth.adds_one expr_of es x i at in
      let kept : (k : ℕ) → k < length es → expr_at new k ≡ expr_at old k =
      λ k h. growth.adds_keeps old new i (expr_of old x) adds (truth false) k (omega (arith, growth.count expr_of es)) in
      adds_expr_of (trees_of es ss) (trees_of (es ++ x ∷ []) ss) i (expr_of old x) adds
      (growth.grow_same (StmtInOrder (length es)) (stmt_of new) (stmt_of old) (λ k us y p. stmt_of_same (length es) k new old us us y p kept (λ j h. refl)) 0 [] ss o.stmts)

  pub adds_stmt : (x : StmtNode) (i : ℕ) → i ≡ length ss → AddsStmt (trees_of es ss) (trees_of es (ss ++ x ∷ [])) i (stmt_of (trees_of es ss).exprs (trees_of es ss).stmts x)
  adds_stmt x i at =
      let es' = grow_exprs [] es in
      adds_stmt_of (trees_of es ss) (trees_of es (ss ++ x ∷ [])) i (stmt_of es' (grow_stmts es' [] ss) x) refl (growth.adds_one (stmt_of es') ss x i at)

-- to read a node

pub exprs_count : (es : List ExprNode) (ss : List StmtNode) → length (trees_of es ss).exprs ≡ length es
exprs_count es ss = growth.count expr_of es

pub stmts_count : (es : List ExprNode) (ss : List StmtNode) → length (trees_of es ss).stmts ≡ length ss
stmts_count es ss = growth.count (stmt_of (grow_exprs [] es)) ss

pub node_tree : (es : List ExprNode) (ss : List StmtNode) (k : ℕ) (x : ExprNode) → InOrder es ss → k < length (trees_of es ss).exprs → x ≡ get_or es k x → (expr_at (trees_of es ss).exprs k ≡ expr_of (trees_of es ss).exprs x) × ExprInOrder k x
node_tree es ss k x o h e = growth.node_tree (truth false) expr_of ExprInOrder expr_of_same es k x o.exprs h e

pub stmt_node_tree : (es : List ExprNode) (ss : List StmtNode) (k : ℕ) (x : StmtNode) → InOrder es ss → k < length (trees_of es ss).stmts → x ≡ get_or ss k x → (stmt_at (trees_of es ss).stmts k ≡ stmt_of (trees_of es ss).exprs (trees_of es ss).stmts x) × StmtInOrder (length (trees_of es ss).exprs) k x
stmt_node_tree es ss k x o h e =
    let es' = grow_exprs [] es in
    let p =
    growth.node_tree no_statements (stmt_of es') (StmtInOrder (length es)) (λ n us vs y q g. stmt_of_same (length es) n es' es' us vs y q (λ j lt. refl) g) ss k x o.stmts h e
    in (p.0, subst (λ m. StmtInOrder m k x) (sym (growth.count expr_of es)) p.1)
