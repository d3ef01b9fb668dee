-- Places of nodes, while more nodes are put behind: what is seen of them stays as it was.
use Rattle.std.proofs.Common.{◌≡◌, ℕ, zero, suc, ◌<◌, ◌≤◌, List, [], ◌∷◌, length, refl, sym, subst, ap, ap₂, ◌∙◌, arith}
use Rattle.std.specs.Prelude.{map, Result, Ok, Err, IfOk, OnOk, OnErr}
use Rattle.p414_syntax.specs.declared.headers.TypeTail.{TypeTail}
use Rattle.p414_syntax.specs.declared.headers.TypeTail.TheVariants.{Length, MaxLength}
use Rattle.p414_syntax.specs.declared.node.ExprNode.{ExprNode}
use Rattle.p414_syntax.specs.declared.node.ExprNode.TheVariants.{Valid, Truth, Field, Number, Parenthesized, Unary, Binary}
use Rattle.p414_syntax.specs.declared.node.StmtNode.{StmtNode}
use Rattle.p414_syntax.specs.declared.node.StmtNode.TheVariants.{NoStatements, Then, Apply, ApplyBranches, If, Call, NoElse, ElseBlock, ElseIf, NoBranches, Branch}
use Rattle.p414_syntax.specs.Tree.{Expr, Stmt, no_statements, if_then, Trees, expr_at, stmt_at, expr_of, stmt_of, ExprInOrder, StmtInOrder, Keeps, AddsExpr, AddsStmt}
use Rattle.p414_syntax.specs.Views.{TailTree, length_is, max_length_is, tail_tree, TailWithin, TailsWithin}
use Rattle.predictive_parser.specs.Values.{newest, older, extended}
use Rattle.p414_reader.specs.internal.Actions.{no_expr, on_expr, on_exprs}
use Rattle.p414_reader.specs.internal.Forest.{Forest, forest_of, Rooted, over_stmt, over_stmts, over_if, add_tail, AllBelow, AllTailsWithin, StandIn, TakesExpr, TakesStmt}

-- stacks

pub map_newest : {A B : Type 0} (f : A → B) (lists : List (List A)) → map f (newest [] lists) ≡ newest [] (map (map f) lists)
map_newest f [] = refl
map_newest f (xs ∷ lists) = refl

-- places

pub below_more : (m n : ℕ) (places : List ℕ) → m ≤ n → AllBelow m places → AllBelow n places
below_more m n [] le h = tt
below_more m n (place ∷ places) le h = (omega arith, below_more m n places le h.1)

maps_same : {A : Type 0} (f g : ℕ → A) (n : ℕ) → ((i : ℕ) → i < n → f i ≡ g i) → (places : List ℕ) → AllBelow n places → map f places ≡ map g places
maps_same f g n same [] h = refl
maps_same f g n same (place ∷ places) h = ap₂ ◌∷◌ (same place h.0) (maps_same f g n same places h.1)

-- attributes of header types

tail_more : (m n : ℕ) (t : TypeTail) → m ≤ n → TailWithin m t → TailWithin n t
tail_more m n (Length place) le h = omega arith
tail_more m n (MaxLength place) le h = omega arith

module _ (old new : Trees) (keeps : Keeps old new) where
  tail_tree_kept : (t : TypeTail) → TailWithin (length old.exprs) t → tail_tree new t ≡ tail_tree old t
  tail_tree_kept (Length place) h = ap length_is (keeps.exprs place h)
  tail_tree_kept (MaxLength place) h = ap max_length_is (keeps.exprs place h)

  tail_trees_kept : (ts : List TypeTail) → TailsWithin old ts → map (tail_tree new) ts ≡ map (tail_tree old) ts
  tail_trees_kept [] h = refl
  tail_trees_kept (t ∷ ts) h = ap₂ ◌∷◌ (tail_tree_kept t (h 0 t (omega arith))) (tail_trees_kept ts (λ k d lt. h (suc k) d (omega arith)))

  tails_kept : (lists : List (List TypeTail)) → AllTailsWithin old lists → map (map (tail_tree new)) lists ≡ map (map (tail_tree old)) lists
  tails_kept [] h = refl
  tails_kept (ts ∷ lists) h = ap₂ ◌∷◌ (tail_trees_kept ts h.0) (tails_kept lists h.1)

  tails_more : (lists : List (List TypeTail)) → AllTailsWithin old lists → AllTailsWithin new lists
  tails_more [] h = tt
  tails_more (ts ∷ lists) h = (λ k d lt. tail_more (length old.exprs) (length new.exprs) _ keeps.exprs_len (h.0 k d lt), tails_more lists h.1)

-- places that are seen as these trees
pub record Shows (nodes : Trees) (es : List ℕ) (ts : List (List TypeTail)) (ss : List ℕ) (f : Forest) : Type 0 where
  pub within : StandIn nodes es ts ss
  pub trees : forest_of nodes es ts ss ≡ f

Shows_kept : (old new : Trees) (es : List ℕ) (ts : List (List TypeTail)) (ss : List ℕ) (f : Forest) → Keeps old new → Shows old es ts ss f → Shows new es ts ss f
Shows_kept old new es ts ss f keeps s = record {
  within = record {
    exprs_below = below_more (length old.exprs) (length new.exprs) es keeps.exprs_len s.within.exprs_below;
    tails_within = tails_more old new keeps ts s.within.tails_within;
    stmts_below = below_more (length old.stmts) (length new.stmts) ss keeps.stmts_len s.within.stmts_below;
  };
  trees =
      ap (λ l. record { exprs = l; tails = map (map (tail_tree new)) ts; stmts = map (stmt_at new.stmts) ss })
      (maps_same (expr_at new.exprs) (expr_at old.exprs) (length old.exprs) keeps.exprs es s.within.exprs_below)
      ∙ ap₂ (λ l m. record { exprs = map (expr_at old.exprs) es; tails = l; stmts = m }) (tails_kept old new keeps ts s.within.tails_within)
      (maps_same (stmt_at new.stmts) (stmt_at old.stmts) (length old.stmts) keeps.stmts ss s.within.stmts_below)
      ∙ s.trees;
}

-- a forest with others in some places

abbrev pub with_exprs : List Expr → Forest → Forest
with_exprs es f = record f { exprs = es }

abbrev pub with_tails : List (List TailTree) → Forest → Forest
with_tails ts f = record f { tails = ts }

abbrev pub with_stmts : List Stmt → Forest → Forest
with_stmts ss f = record f { stmts = ss }

-- an expression is put in front

Shows_expr : (nodes : Trees) (es : List ℕ) (ts : List (List TypeTail)) (ss : List ℕ) (f : Forest) (place : ℕ) (e : Expr) → place < length nodes.exprs → expr_at nodes.exprs place ≡ e → Shows nodes es ts ss f → Shows nodes (place ∷ es) ts ss (record f { exprs = e ∷ f.exprs })
Shows_expr nodes es ts ss f place e lt is s = record {
  within = record { exprs_below = (lt, s.within.exprs_below); tails_within = s.within.tails_within; stmts_below = s.within.stmts_below };
  trees = ap₂ (λ (x : Expr) (g : Forest). with_exprs (x ∷ g.exprs) g) is s.trees;
}

-- a statement is put in front

Shows_stmt : (nodes : Trees) (es : List ℕ) (ts : List (List TypeTail)) (ss : List ℕ) (f : Forest) (place : ℕ) (t : Stmt) → place < length nodes.stmts → stmt_at nodes.stmts place ≡ t → Shows nodes es ts ss f → Shows nodes es ts (place ∷ ss) (record f { stmts = t ∷ f.stmts })
Shows_stmt nodes es ts ss f place t lt is s = record {
  within = record { exprs_below = s.within.exprs_below; tails_within = s.within.tails_within; stmts_below = (lt, s.within.stmts_below) };
  trees = ap₂ (λ (x : Stmt) (g : Forest). with_stmts (x ∷ g.stmts) g) is s.trees;
}

-- what the calls of forest.rt do

abbrev pub view_of : Trees → List ℕ → List (List TypeTail) → List ℕ → Rooted
view_of n es ts ss = record { nodes = n; trees = forest_of n es ts ss }

shows : (old : Rooted) (n : Trees) (es : List ℕ) (ts : List (List TypeTail)) (ss : List ℕ) → StandIn n es ts ss → view_of n es ts ss ≡ old → Shows n es ts ss old.trees
shows old n es ts ss w v = record { within = w; trees = ap (λ (r : Rooted). r.trees) v }

pub within_more : {n m : Trees} {es : List ℕ} {ts : List (List TypeTail)} {ss : List ℕ} → Keeps n m → StandIn n es ts ss → StandIn m es ts ss
within_more {n} {m} {es} {ts} {ss} k w = (Shows_kept n m es ts ss (forest_of n es ts ss) k (record { within = w; trees = refl })).within

-- where there was none to be taken off

pub within_no_expr : {n : Trees} {es es' : List ℕ} {ts : List (List TypeTail)} {ss : List ℕ} → es' ≡ [] → StandIn n es ts ss → StandIn n es' ts ss
within_no_expr {n} e w = record { exprs_below = subst (AllBelow (length n.exprs)) (sym e) tt; tails_within = w.tails_within; stmts_below = w.stmts_below }

pub within_no_stmt : {n : Trees} {es : List ℕ} {ts : List (List TypeTail)} {ss ss' : List ℕ} → ss' ≡ [] → StandIn n es ts ss → StandIn n es ts ss'
within_no_stmt {n} e w = record { exprs_below = w.exprs_below; tails_within = w.tails_within; stmts_below = subst (AllBelow (length n.stmts)) (sym e) tt }

pub within_expr_none : {E : Type 0} {n m : Trees} {es es' : List ℕ} {ts : List (List TypeTail)} {ss : List ℕ} (e : Expr) (r : Result ℕ E) → IfOk r (λ place. AddsExpr n m place e) → OnErr r (m ≡ n) → es' ≡ [] → StandIn n es ts ss → StandIn m es' ts ss
within_expr_none e (Ok place) ok err is w = within_no_expr is (within_more ok.keeps w)
within_expr_none {es' = es'} {ts = ts} {ss = ss} e (Err error) ok err is w = subst (λ k. StandIn k es' ts ss) (sym err) (within_no_expr is w)

pub within_stmt_none : {E : Type 0} {n m : Trees} {es : List ℕ} {ts : List (List TypeTail)} {ss ss' : List ℕ} (t : Stmt) (r : Result ℕ E) → IfOk r (λ place. AddsStmt n m place t) → OnErr r (m ≡ n) → ss' ≡ [] → StandIn n es ts ss → StandIn m es ts ss'
within_stmt_none t (Ok place) ok err is w = within_no_stmt is (within_more ok.keeps w)
within_stmt_none {es = es} {ts = ts} {ss' = ss'} t (Err error) ok err is w = subst (λ k. StandIn k es ts ss') (sym err) (within_no_stmt is w)

-- one is put in front

pub within_expr_on : {E : Type 0} {n m : Trees} {es es' : List ℕ} {ts : List (List TypeTail)} {ss : List ℕ} {place : ℕ} {e : Expr} (r : Result (Unit {0}) E) → AddsExpr n m place e → OnOk r (es' ≡ place ∷ es) → OnErr r (es' ≡ es) → StandIn n es ts ss → StandIn m es' ts ss
within_expr_on {m = m} {ts = ts} {ss = ss} (Ok done) adds ok err w =
    let k = within_more adds.keeps w in
    subst (λ l. StandIn m l ts ss) (sym ok) (record { exprs_below = (adds.place, k.exprs_below); tails_within = k.tails_within; stmts_below = k.stmts_below })
within_expr_on {m = m} {ts = ts} {ss = ss} (Err error) adds ok err w = subst (λ l. StandIn m l ts ss) (sym err) (within_more adds.keeps w)

pub within_stmt_on : {E : Type 0} {n m : Trees} {es : List ℕ} {ts : List (List TypeTail)} {ss ss' : List ℕ} {place : ℕ} {s : Stmt} (r : Result (Unit {0}) E) → AddsStmt n m place s → OnOk r (ss' ≡ place ∷ ss) → OnErr r (ss' ≡ ss) → StandIn n es ts ss → StandIn m es ts ss'
within_stmt_on {m = m} {es = es} {ts = ts} (Ok done) adds ok err w =
    let k = within_more adds.keeps w in
    subst (λ l. StandIn m es ts l) (sym ok) (record { exprs_below = k.exprs_below; tails_within = k.tails_within; stmts_below = (adds.place, k.stmts_below) })
within_stmt_on {m = m} {es = es} {ts = ts} (Err error) adds ok err w = subst (λ l. StandIn m es ts l) (sym err) (within_more adds.keeps w)

pub put_expr : {old : Rooted} {n m : Trees} {es es' : List ℕ} {ts : List (List TypeTail)} {ss : List ℕ} {place : ℕ} (node : ExprNode) → StandIn n es ts ss → view_of n es ts ss ≡ old → AddsExpr n m place (expr_of n.exprs node) → es' ≡ place ∷ es
    → forest_of m es' ts ss ≡ record old.trees { exprs = expr_of old.nodes.exprs node ∷ old.trees.exprs }
put_expr {old} {n} {m} {es} {es'} {ts} {ss} {place} node w v adds push =
    let is : expr_of n.exprs node ≡ expr_of old.nodes.exprs node = ap (λ (r : Rooted). expr_of r.nodes.exprs node) v in
    ap (λ l. forest_of m l ts ss) push
    ∙ (Shows_expr m es ts ss old.trees place (expr_of old.nodes.exprs node) adds.place (adds.tree ∙ is) (Shows_kept n m es ts ss old.trees adds.keeps (shows old n es ts ss w v))).trees

pub put_stmt : {old : Rooted} {n m : Trees} {es : List ℕ} {ts : List (List TypeTail)} {ss ss' : List ℕ} {place : ℕ} (node : StmtNode) → StandIn n es ts ss → view_of n es ts ss ≡ old → AddsStmt n m place (stmt_of n.exprs n.stmts node) → ss' ≡ place ∷ ss
    → forest_of m es ts ss' ≡ record old.trees { stmts = stmt_of old.nodes.exprs old.nodes.stmts node ∷ old.trees.stmts }
put_stmt {old} {n} {m} {es} {ts} {ss} {ss'} {place} node w v adds push =
    let is : stmt_of n.exprs n.stmts node ≡ stmt_of old.nodes.exprs old.nodes.stmts node = ap (λ (r : Rooted). stmt_of r.nodes.exprs r.nodes.stmts node) v in
    ap (λ l. forest_of m es ts l) push
    ∙ (Shows_stmt m es ts ss old.trees place (stmt_of old.nodes.exprs old.nodes.stmts node) adds.place (adds.tree ∙ is) (Shows_kept n m es ts ss old.trees adds.keeps (shows old n es ts ss w v))).trees

pub leaf_of : (es : List Expr) (x : ExprNode) → ExprInOrder 0 x → expr_of es x ≡ expr_of [] x
leaf_of es (Valid instance) o = refl
leaf_of es (Truth value) o = refl
leaf_of es (Field of) o = refl
leaf_of es (Number literal) o = refl
leaf_of es (Parenthesized a) o = absurd (omega arith)
leaf_of es (Unary operator a) o = absurd (omega arith)
leaf_of es (Binary operator a b) o = let h : a < 0 = o.0 in absurd (omega arith)

pub stmt_leaf_of : (es : List Expr) (ss : List Stmt) (x : StmtNode) → StmtInOrder 0 0 x → stmt_of es ss x ≡ stmt_of [] [] x
stmt_leaf_of es ss NoStatements o = refl
stmt_leaf_of es ss (Then a b) o = let h : a < 0 = o.0 in absurd (omega arith)
stmt_leaf_of es ss (Apply table) o = refl
stmt_leaf_of es ss (ApplyBranches table a) o = absurd (omega arith)
stmt_leaf_of es ss (If c a b) o = let h : c < 0 = o.0 in absurd (omega arith)
stmt_leaf_of es ss (Call control) o = refl
stmt_leaf_of es ss NoElse o = refl
stmt_leaf_of es ss (ElseBlock a) o = absurd (omega arith)
stmt_leaf_of es ss (ElseIf a) o = absurd (omega arith)
stmt_leaf_of es ss NoBranches o = refl
stmt_leaf_of es ss (Branch a label b) o = let h : a < 0 = o.0 in absurd (omega arith)

-- one over those that were taken off

pub over_one : (g : Expr → Expr) {a b : Rooted} {f : Forest} {i : ℕ} → TakesExpr a b i → f ≡ with_exprs (g (expr_at b.nodes.exprs i) ∷ b.trees.exprs) b.trees → f ≡ record a.trees { exprs = on_expr g a.trees.exprs }
over_one g t push = push ∙ ap₂ (λ (x : Expr) (h : Forest). with_exprs (g x ∷ h.exprs) h) t.tree t.rest

pub over_two : (g : Expr → Expr → Expr) {a b d : Rooted} {f : Forest} {i j : ℕ} → TakesExpr a b i → TakesExpr b d j → f ≡ with_exprs (g (expr_at d.nodes.exprs j) (expr_at d.nodes.exprs i) ∷ d.trees.exprs) d.trees → f ≡ record a.trees { exprs = on_exprs g a.trees.exprs }
over_two g {a} {b} {d} {f} {i} {j} t u push =
    push
    ∙ ap (λ (x : Expr). with_exprs (g (expr_at d.nodes.exprs j) x ∷ d.trees.exprs) d.trees) (u.keeps.exprs i t.below ∙ t.tree)
    ∙ ap₂ (λ (x : Expr) (h : Forest). with_exprs (g x (newest no_expr a.trees.exprs) ∷ h.exprs) h) u.tree u.rest
    ∙ ap (λ (h : Forest). with_exprs (g (newest no_expr h.exprs) (newest no_expr a.trees.exprs) ∷ older h.exprs) h) t.rest

pub tail_over : (g : Expr → TailTree) {a b : Rooted} {f : Forest} {i : ℕ} → TakesExpr a b i → f ≡ with_tails (extended (g (expr_at b.nodes.exprs i) ∷ []) b.trees.tails) b.trees → f ≡ add_tail g a.trees
tail_over g t push = push ∙ ap₂ (λ (x : Expr) (h : Forest). with_tails (extended (g x ∷ []) h.tails) h) t.tree t.rest

pub stmt_over : (g : Stmt → Stmt) {a b : Rooted} {f : Forest} {i : ℕ} → TakesStmt a b i → f ≡ with_stmts (g (stmt_at b.nodes.stmts i) ∷ b.trees.stmts) b.trees → f ≡ record a.trees { stmts = over_stmt g a.trees.stmts }
stmt_over g t push = push ∙ ap₂ (λ (x : Stmt) (h : Forest). with_stmts (g x ∷ h.stmts) h) t.tree t.rest

pub stmt_over_two : (g : Stmt → Stmt → Stmt) {a b d : Rooted} {f : Forest} {i j : ℕ} → TakesStmt a b i → TakesStmt b d j → f ≡ with_stmts (g (stmt_at d.nodes.stmts j) (stmt_at d.nodes.stmts i) ∷ d.trees.stmts) d.trees → f ≡ record a.trees { stmts = over_stmts g a.trees.stmts }
stmt_over_two g {a} {b} {d} {f} {i} {j} t u push =
    push
    ∙ ap (λ (x : Stmt). with_stmts (g (stmt_at d.nodes.stmts j) x ∷ d.trees.stmts) d.trees) (u.keeps.stmts i t.below ∙ t.tree)
    ∙ ap₂ (λ (x : Stmt) (h : Forest). with_stmts (g x (newest no_statements a.trees.stmts) ∷ h.stmts) h) u.tree u.rest
    ∙ ap (λ (h : Forest). with_stmts (g (newest no_statements h.stmts) (newest no_statements a.trees.stmts) ∷ older h.stmts) h) t.rest

pub if_over : {a b d h : Rooted} {f : Forest} {c i j : ℕ} → TakesExpr a b c → TakesStmt b d i → TakesStmt d h j → f ≡ with_stmts (if_then (expr_at h.nodes.exprs c) (stmt_at h.nodes.stmts j) (stmt_at h.nodes.stmts i) ∷ h.trees.stmts) h.trees → f ≡ over_if a.trees
if_over {a} {b} {d} {h} {f} {c} {i} {j} x t u push =
    let later : expr_at h.nodes.exprs c ≡ newest no_expr a.trees.exprs = u.keeps.exprs c (omega (arith, x.below, t.keeps.exprs_len)) ∙ t.keeps.exprs c x.below ∙ x.tree in
    push
    ∙ ap₂ (λ (e : Expr) (s : Stmt). with_stmts (if_then e (stmt_at h.nodes.stmts j) s ∷ h.trees.stmts) h.trees) later (u.keeps.stmts i t.below ∙ t.tree)
    ∙ ap₂ (λ (s : Stmt) (g : Forest). with_stmts (if_then (newest no_expr a.trees.exprs) s (newest no_statements b.trees.stmts) ∷ g.stmts) g) u.tree u.rest
    ∙ ap (λ (g : Forest). with_stmts (if_then (newest no_expr a.trees.exprs) (newest no_statements g.stmts) (newest no_statements b.trees.stmts) ∷ older g.stmts) g) t.rest
    ∙ ap (λ (g : Forest). with_stmts (if_then (newest no_expr a.trees.exprs) (newest no_statements (older g.stmts)) (newest no_statements g.stmts) ∷ older (older g.stmts)) g) x.rest
