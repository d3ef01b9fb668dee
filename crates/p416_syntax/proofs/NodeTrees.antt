-- What `node_lists` proves of any list of nodes, for expressions and for the statements over them.
use Rattle.std.proofs.Common.{◌≡◌, ℕ, ◌<◌, ◌≤◌, List, [], ◌∷◌, ◌++◌, length, get_or, refl, sym, ap, subst, ◌∙◌, arith}
use Rattle.node_lists.specs.Trees.{Adds}
use Rattle.node_lists.proofs.Growth as growth
use Rattle.p416_syntax.specs.declared.node.ExpNode.{ExpNode}
use Rattle.p416_syntax.specs.declared.node.ExpNode.TheVariants.{Literal, Truth, Error, Name, Member, Index, Slice, Call, Lookahead, Cast, Unary, Binary, Choice, NoArguments, Argument, Listed}
use Rattle.p416_syntax.specs.declared.node.StmtNode.{StmtNode}
use Rattle.p416_syntax.specs.declared.node.StmtNode.TheVariants.{NoStatements, Then, Block, Empty, Var, VarIs, Assign, Expression, If, IfElse, Switch, NoCases, Case}
use Rattle.p416_syntax.specs.Tree.{Exp16, member, index, slice, call, lookahead, cast, unary, binary, choice, no_arguments, argument, listed, Stmt16, no_statements, then, block, var_is, assign, expression, if_then, if_else, switch, case_of, exp_at, stmt_at, exp_of, stmt_of, grow_exps, grow_stmts, ExpInOrder, StmtInOrder, InOrder, Trees, trees_of, AddsExp, AddsStmt}

-- the tree of a node in order depends on no trees but those of its children

pub exp_of_same : growth.OfChildren no_arguments exp_of ExpInOrder
exp_of_same n es fs (Literal number) o h = refl
exp_of_same n es fs (Truth value) o h = refl
exp_of_same n es fs Error o h = refl
exp_of_same n es fs (Name text) o h = refl
exp_of_same n es fs (Member a word) o h = ap (λ t. member t word) (h a o)
exp_of_same n es fs (Index a at) o h = ap (λ t. index t at) (h a o)
exp_of_same n es fs (Slice a high low) o h = ap (λ t. slice t high low) (h a o)
exp_of_same n es fs (Call a b) o h = ap (λ t. call t (exp_at es b)) (h a o.0) ∙ ap (λ t. call (exp_at fs a) t) (h b o.1)
exp_of_same n es fs (Lookahead a to b) o h = ap (λ t. lookahead t to (exp_at es b)) (h a o.0) ∙ ap (λ t. lookahead (exp_at fs a) to t) (h b o.1)
exp_of_same n es fs (Cast to a) o h = ap (λ t. cast to t) (h a o)
exp_of_same n es fs (Unary operator a) o h = ap (λ t. unary operator t) (h a o)
exp_of_same n es fs (Binary operator a b) o h = ap (λ t. binary operator t (exp_at es b)) (h a o.0) ∙ ap (λ t. binary operator (exp_at fs a) t) (h b o.1)
exp_of_same n es fs (Choice a b c) o h = ap (λ t. choice t (exp_at es b) (exp_at es c)) (h a o.0) ∙ ap (λ t. choice (exp_at fs a) t (exp_at es c)) (h b o.1) ∙ ap (λ t. choice (exp_at fs a) (exp_at fs b) t) (h c o.2)
exp_of_same n es fs NoArguments o h = refl
exp_of_same n es fs (Argument a b) o h = ap (λ t. argument t (exp_at es b)) (h a o.0) ∙ ap (λ t. argument (exp_at fs a) t) (h b o.1)
exp_of_same n es fs (Listed a) o h = ap (λ t. listed t) (h a o)

pub stmt_of_same : (m n : ℕ) (es fs : List Exp16) (ss us : List Stmt16) (x : StmtNode) → StmtInOrder m n x → ((i : ℕ) → i < m → exp_at es i ≡ exp_at fs i) → ((i : ℕ) → i < n → stmt_at ss i ≡ stmt_at us i) → stmt_of es ss x ≡ stmt_of fs us x
stmt_of_same m n es fs ss us NoStatements o g h = refl
stmt_of_same m n es fs ss us (Then a b) o g h = ap (λ t. then t (stmt_at ss b)) (h a o.0) ∙ ap (λ t. then (stmt_at us a) t) (h b o.1)
stmt_of_same m n es fs ss us (Block a) o g h = ap (λ t. block t) (h a o)
stmt_of_same m n es fs ss us Empty o g h = refl
stmt_of_same m n es fs ss us (Var of called) o g h = refl
stmt_of_same m n es fs ss us (VarIs of called a) o g h = ap (λ t. var_is of called t) (g a o)
stmt_of_same m n es fs ss us (Assign a b) o g h = ap (λ t. assign t (exp_at es b)) (g a o.0) ∙ ap (λ t. assign (exp_at fs a) t) (g b o.1)
stmt_of_same m n es fs ss us (Expression a) o g h = ap (λ t. expression t) (g a o)
stmt_of_same m n es fs ss us (If a b) o g h = ap (λ t. if_then t (stmt_at ss b)) (g a o.0) ∙ ap (λ t. if_then (exp_at fs a) t) (h b o.1)
stmt_of_same m n es fs ss us (IfElse a b c) o g h = ap (λ t. if_else t (stmt_at ss b) (stmt_at ss c)) (g a o.0) ∙ ap (λ t. if_else (exp_at fs a) t (stmt_at ss c)) (h b o.1) ∙ ap (λ t. if_else (exp_at fs a) (stmt_at us b) t) (h c o.2)
stmt_of_same m n es fs ss us (Switch table a) o g h = ap (λ t. switch table t) (h a o)
stmt_of_same m n es fs ss us NoCases o g h = refl
stmt_of_same m n es fs ss us (Case a label b) o g h = ap (λ t. case_of t label (stmt_at ss b)) (h a o.0) ∙ ap (λ t. case_of (stmt_at us a) label t) (h b o.1)

-- a node in order stays so behind more nodes

pub StmtInOrder_more : (m n j k : ℕ) (x : StmtNode) → m ≤ n → j ≤ k → StmtInOrder m j x → StmtInOrder n k x
StmtInOrder_more m n j k NoStatements le le2 o = tt
StmtInOrder_more m n j k (Then a b) le le2 o = (omega arith, omega arith)
StmtInOrder_more m n j k (Block a) le le2 o = omega arith
StmtInOrder_more m n j k Empty le le2 o = tt
StmtInOrder_more m n j k (Var of called) le le2 o = tt
StmtInOrder_more m n j k (VarIs of called a) le le2 o = omega arith
StmtInOrder_more m n j k (Assign a b) le le2 o = (omega arith, omega arith)
StmtInOrder_more m n j k (Expression a) le le2 o = omega arith
StmtInOrder_more m n j k (If a b) le le2 o = (omega arith, omega arith)
StmtInOrder_more m n j k (IfElse a b c) le le2 o = (omega arith, omega arith, omega arith)
StmtInOrder_more m n j k (Switch table a) le le2 o = omega arith
StmtInOrder_more m n j k NoCases le le2 o = tt
StmtInOrder_more m n j k (Case a label b) le le2 o = (omega arith, omega arith)

-- one more of one sort, and the other as it was

module _ (old new : Trees) (i : ℕ) where
  adds_exp_of : (e : Exp16) → Adds old.exps new.exps i e → new.stmts ≡ old.stmts → AddsExp old new i e
  adds_exp_of e adds same = record {
    keeps = record {
      exps_len = omega (arith, growth.adds_len old.exps new.exps i e adds);
      stmts_len = omega (arith, ap length same);
      exps = growth.adds_keeps old.exps new.exps i e adds no_arguments;
      stmts = λ k h. ap (λ l. stmt_at l k) same;
    };
    place = growth.adds_place old.exps new.exps i e adds;
    tree = growth.adds_tree old.exps new.exps i e adds no_arguments;
    exps = adds;
    stmts = same;
  }

  adds_stmt_of : (s : Stmt16) → new.exps ≡ old.exps → Adds old.stmts new.stmts i s → AddsStmt old new i s
  adds_stmt_of s same adds = record {
    keeps = record {
      exps_len = omega (arith, ap length same);
      stmts_len = omega (arith, growth.adds_len old.stmts new.stmts i s adds);
      exps = λ k h. ap (λ l. exp_at l k) same;
      stmts = growth.adds_keeps old.stmts new.stmts i s adds no_statements;
    };
    place = growth.adds_place old.stmts new.stmts i s adds;
    tree = growth.adds_tree old.stmts new.stmts i s adds no_statements;
    exps = same;
    stmts = adds;
  }

module _ (es : List ExpNode) (ss : List StmtNode) (o : InOrder es ss) where
  pub exp_in_order : (x : ExpNode) → ExpInOrder (length (trees_of es ss).exps) x → InOrder (es ++ x ∷ []) ss
  exp_in_order x h =
      let more = es ++ x ∷ [] in
      let le : length es ≤ length more = omega (arith, growth.longer es x) in
      record {
        exps = growth.one_more_in_order exp_of ExpInOrder es x o.exps h;
        stmts = growth.order_wider (StmtInOrder (length es)) (StmtInOrder (length more)) (λ k y p. StmtInOrder_more (length es) (length more) k k y le (omega arith) p) 0 ss o.stmts;
      }

  pub stmt_in_order : (x : StmtNode) → StmtInOrder (length (trees_of es ss).exps) (length (trees_of es ss).stmts) x → InOrder es (ss ++ x ∷ [])
  stmt_in_order x h = record {
    exps = o.exps;
    stmts =
        growth.one_more_in_order (stmt_of (grow_exps [] es)) (StmtInOrder (length es)) ss x o.stmts
        (subst (λ m. StmtInOrder m (length (trees_of es ss).stmts) x) (growth.count exp_of es) h);
  }

  pub adds_exp : (x : ExpNode) (i : ℕ) → i ≡ length es → AddsExp (trees_of es ss) (trees_of (es ++ x ∷ []) ss) i (exp_of (trees_of es ss).exps x)
  adds_exp x i at =
      let old = grow_exps [] es in
      let new = grow_exps [] (es ++ x ∷ []) in
      let adds = growth.adds_one exp_of es x i at in
      let kept : (k : ℕ) → k < length es → exp_at new k ≡ exp_at old k =
      λ k h. growth.adds_keeps old new i (exp_of old x) adds no_arguments k (omega (arith, growth.count exp_of es)) in
      adds_exp_of (trees_of es ss) (trees_of (es ++ x ∷ []) ss) i (exp_of old x) adds
      (growth.grow_same (StmtInOrder (length es)) (stmt_of new) (stmt_of old) (λ k us y p. stmt_of_same (length es) k new old us us y p kept (λ j h. refl)) 0 [] ss o.stmts)

  pub adds_stmt : (x : StmtNode) (i : ℕ) → i ≡ length ss → AddsStmt (trees_of es ss) (trees_of es (ss ++ x ∷ [])) i (stmt_of (trees_of es ss).exps (trees_of es ss).stmts x)
  adds_stmt x i at =
      let es' = grow_exps [] es in
      adds_stmt_of (trees_of es ss) (trees_of es (ss ++ x ∷ [])) i (stmt_of es' (grow_stmts es' [] ss) x) refl (growth.adds_one (stmt_of es') ss x i at)

-- to read a node

pub exps_count : (es : List ExpNode) (ss : List StmtNode) → length (trees_of es ss).exps ≡ length es
exps_count es ss = growth.count exp_of es

pub stmts_count : (es : List ExpNode) (ss : List StmtNode) → length (trees_of es ss).stmts ≡ length ss
stmts_count es ss = growth.count (stmt_of (grow_exps [] es)) ss

pub node_tree : (es : List ExpNode) (ss : List StmtNode) (k : ℕ) (x : ExpNode) → InOrder es ss → k < length (trees_of es ss).exps → x ≡ get_or es k x → (exp_at (trees_of es ss).exps k ≡ exp_of (trees_of es ss).exps x) × ExpInOrder k x
node_tree es ss k x o h e = growth.node_tree no_arguments exp_of ExpInOrder exp_of_same es k x o.exps h e

pub stmt_node_tree : (es : List ExpNode) (ss : List StmtNode) (k : ℕ) (x : StmtNode) → InOrder es ss → k < length (trees_of es ss).stmts → x ≡ get_or ss k x → (stmt_at (trees_of es ss).stmts k ≡ stmt_of (trees_of es ss).exps (trees_of es ss).stmts x) × StmtInOrder (length (trees_of es ss).exps) k x
stmt_node_tree es ss k x o h e =
    let es' = grow_exps [] es in
    let p =
    growth.node_tree no_statements (stmt_of es') (StmtInOrder (length es)) (λ n us vs y q g. stmt_of_same (length es) n es' es' us vs y q (λ j lt. refl) g) ss k x o.stmts h e
    in (p.0, subst (λ m. StmtInOrder m k x) (sym (growth.count exp_of es)) p.1)
