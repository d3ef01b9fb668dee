-- Places of nodes, while more nodes are put behind: what is seen of them stays as it was.
use Rattle.std.proofs.Common.{◌≡◌, ℕ, ◌<◌, ◌≤◌, List, [], ◌∷◌, length, refl, sym, subst, ap, ap₂, ◌∙◌, arith}
use Rattle.std.specs.Prelude.{map, Result, Ok, Err, IfOk, OnOk, OnErr}
use Rattle.p416_syntax.specs.declared.node.ExpNode.{ExpNode}
use Rattle.p416_syntax.specs.declared.node.ExpNode.TheVariants.{Literal, Truth, Error, Name, Member, Index, Slice, Call, Lookahead, Cast, Unary, Binary, Choice, NoArguments, Argument, Listed}
use Rattle.p416_syntax.specs.declared.node.StmtNode.{StmtNode}
use Rattle.p416_syntax.specs.declared.node.StmtNode.TheVariants.{NoStatements, Then, Block, Empty, Var, VarIs, Assign, Expression, If, IfElse, Switch, NoCases, Case}
use Rattle.p416_syntax.specs.Tree.{Exp16, choice, Stmt16, assign, if_then, if_else, Trees, exp_at, stmt_at, exp_of, stmt_of, ExpInOrder, StmtInOrder, Keeps, AddsExp, AddsStmt}
use Rattle.predictive_parser.specs.Values.{older}
use Rattle.p416_reader.specs.internal.Actions.{on_exp, on_exps, on_stmt, on_stmts, first_exp, first_stmt}
use Rattle.p416_reader.specs.internal.Forest.{Forest, forest_of, Rooted, AllBelow, StandIn, TakesExp, TakesStmt}

-- places

below_more : (m n : ℕ) (places : List ℕ) → m ≤ n → AllBelow m places → AllBelow n places
below_more m n [] le h = tt
below_more m n (place ∷ places) le h = (omega arith, below_more m n places le h.1)

maps_same : {A : Type 0} (f g : ℕ → A) (n : ℕ) → ((i : ℕ) → i < n → f i ≡ g i) → (places : List ℕ) → AllBelow n places → map f places ≡ map g places
maps_same f g n same [] h = refl
maps_same f g n same (place ∷ places) h = ap₂ ◌∷◌ (same place h.0) (maps_same f g n same places h.1)

-- places that are seen as these trees
pub record Shows (nodes : Trees) (es ss : List ℕ) (f : Forest) : Type 0 where
  pub within : StandIn nodes es ss
  pub trees : forest_of nodes es ss ≡ f

Shows_kept : (old new : Trees) (es ss : List ℕ) (f : Forest) → Keeps old new → Shows old es ss f → Shows new es ss f
Shows_kept old new es ss f keeps s = record {
  within = record {
    exps_below = below_more (length old.exps) (length new.exps) es keeps.exps_len s.within.exps_below;
    stmts_below = below_more (length old.stmts) (length new.stmts) ss keeps.stmts_len s.within.stmts_below;
  };
  trees =
      ap₂ (λ l m. record { exps = l; stmts = m })
      (maps_same (exp_at new.exps) (exp_at old.exps) (length old.exps) keeps.exps es s.within.exps_below)
      (maps_same (stmt_at new.stmts) (stmt_at old.stmts) (length old.stmts) keeps.stmts ss s.within.stmts_below)
      ∙ s.trees;
}

-- a forest with others in some places

abbrev pub with_exps : List Exp16 → Forest → Forest
with_exps es f = record f { exps = es }

abbrev pub with_stmts : List Stmt16 → Forest → Forest
with_stmts ss f = record f { stmts = ss }

Shows_exp : (nodes : Trees) (es ss : List ℕ) (f : Forest) (place : ℕ) (e : Exp16) → place < length nodes.exps → exp_at nodes.exps place ≡ e → Shows nodes es ss f → Shows nodes (place ∷ es) ss (record f { exps = e ∷ f.exps })
Shows_exp nodes es ss f place e lt is s = record {
  within = record { exps_below = (lt, s.within.exps_below); stmts_below = s.within.stmts_below };
  trees = ap₂ (λ (x : Exp16) (g : Forest). with_exps (x ∷ g.exps) g) is s.trees;
}

Shows_stmt : (nodes : Trees) (es ss : List ℕ) (f : Forest) (place : ℕ) (t : Stmt16) → place < length nodes.stmts → stmt_at nodes.stmts place ≡ t → Shows nodes es ss f → Shows nodes es (place ∷ ss) (record f { stmts = t ∷ f.stmts })
Shows_stmt nodes es ss f place t lt is s = record {
  within = record { exps_below = s.within.exps_below; stmts_below = (lt, s.within.stmts_below) };
  trees = ap₂ (λ (x : Stmt16) (g : Forest). with_stmts (x ∷ g.stmts) g) is s.trees;
}

-- what the calls of forest.rt do

abbrev pub view_of : Trees → List ℕ → List ℕ → Rooted
view_of n es ss = record { nodes = n; trees = forest_of n es ss }

shows : (old : Rooted) (n : Trees) (es ss : List ℕ) → StandIn n es ss → view_of n es ss ≡ old → Shows n es ss old.trees
shows old n es ss w v = record { within = w; trees = ap (λ (r : Rooted). r.trees) v }

pub within_more : {n m : Trees} {es ss : List ℕ} → Keeps n m → StandIn n es ss → StandIn m es ss
within_more {n} {m} {es} {ss} k w = (Shows_kept n m es ss (forest_of n es ss) k (record { within = w; trees = refl })).within

-- where there was none to be taken off

within_no_exp : {n : Trees} {es es' ss : List ℕ} → es' ≡ [] → StandIn n es ss → StandIn n es' ss
within_no_exp {n} e w = record { exps_below = subst (AllBelow (length n.exps)) (sym e) tt; stmts_below = w.stmts_below }

within_no_stmt : {n : Trees} {es ss ss' : List ℕ} → ss' ≡ [] → StandIn n es ss → StandIn n es ss'
within_no_stmt {n} e w = record { exps_below = w.exps_below; stmts_below = subst (AllBelow (length n.stmts)) (sym e) tt }

pub within_exp_none : {E : Type 0} {n m : Trees} {es es' ss : List ℕ} (e : Exp16) (r : Result ℕ E) → IfOk r (λ place. AddsExp n m place e) → OnErr r (m ≡ n) → es' ≡ [] → StandIn n es ss → StandIn m es' ss
within_exp_none e (Ok place) ok err is w = within_no_exp is (within_more ok.keeps w)
within_exp_none {es' = es'} {ss = ss} e (Err error) ok err is w = subst (λ k. StandIn k es' ss) (sym err) (within_no_exp is w)

pub within_stmt_none : {E : Type 0} {n m : Trees} {es ss ss' : List ℕ} (t : Stmt16) (r : Result ℕ E) → IfOk r (λ place. AddsStmt n m place t) → OnErr r (m ≡ n) → ss' ≡ [] → StandIn n es ss → StandIn m es ss'
within_stmt_none t (Ok place) ok err is w = within_no_stmt is (within_more ok.keeps w)
within_stmt_none {es = es} {ss' = ss'} t (Err error) ok err is w = subst (λ k. StandIn k es ss') (sym err) (within_no_stmt is w)

-- one is put in front

pub within_exp_on : {E : Type 0} {n m : Trees} {es es' ss : List ℕ} {place : ℕ} {e : Exp16} (r : Result (Unit {0}) E) → AddsExp n m place e → OnOk r (es' ≡ place ∷ es) → OnErr r (es' ≡ es) → StandIn n es ss → StandIn m es' ss
within_exp_on {m = m} {ss = ss} (Ok done) adds ok err w =
    let k = within_more adds.keeps w in
    subst (λ l. StandIn m l ss) (sym ok) (record { exps_below = (adds.place, k.exps_below); stmts_below = k.stmts_below })
within_exp_on {m = m} {ss = ss} (Err error) adds ok err w = subst (λ l. StandIn m l ss) (sym err) (within_more adds.keeps w)

pub within_stmt_on : {E : Type 0} {n m : Trees} {es ss ss' : List ℕ} {place : ℕ} {s : Stmt16} (r : Result (Unit {0}) E) → AddsStmt n m place s → OnOk r (ss' ≡ place ∷ ss) → OnErr r (ss' ≡ ss) → StandIn n es ss → StandIn m es ss'
within_stmt_on {m = m} {es = es} (Ok done) adds ok err w =
    let k = within_more adds.keeps w in
    subst (λ l. StandIn m es l) (sym ok) (record { exps_below = k.exps_below; stmts_below = (adds.place, k.stmts_below) })
within_stmt_on {m = m} {es = es} (Err error) adds ok err w = subst (λ l. StandIn m es l) (sym err) (within_more adds.keeps w)

pub put_exp : {old : Rooted} {n m : Trees} {es es' ss : List ℕ} {place : ℕ} (node : ExpNode) → StandIn n es ss → view_of n es ss ≡ old → AddsExp n m place (exp_of n.exps node) → es' ≡ place ∷ es
    → forest_of m es' ss ≡ record old.trees { exps = exp_of old.nodes.exps node ∷ old.trees.exps }
put_exp {old} {n} {m} {es} {es'} {ss} {place} node w v adds push =
    let is : exp_of n.exps node ≡ exp_of old.nodes.exps node = ap (λ (r : Rooted). exp_of r.nodes.exps node) v in
    ap (λ l. forest_of m l ss) push
    ∙ (Shows_exp m es ss old.trees place (exp_of old.nodes.exps node) adds.place (adds.tree ∙ is) (Shows_kept n m es ss old.trees adds.keeps (shows old n es ss w v))).trees

pub put_stmt : {old : Rooted} {n m : Trees} {es ss ss' : List ℕ} {place : ℕ} (node : StmtNode) → StandIn n es ss → view_of n es ss ≡ old → AddsStmt n m place (stmt_of n.exps n.stmts node) → ss' ≡ place ∷ ss
    → forest_of m es ss' ≡ record old.trees { stmts = stmt_of old.nodes.exps old.nodes.stmts node ∷ old.trees.stmts }
put_stmt {old} {n} {m} {es} {ss} {ss'} {place} node w v adds push =
    let is : stmt_of n.exps n.stmts node ≡ stmt_of old.nodes.exps old.nodes.stmts node = ap (λ (r : Rooted). stmt_of r.nodes.exps r.nodes.stmts node) v in
    ap (λ l. forest_of m es l) push
    ∙ (Shows_stmt m es ss old.trees place (stmt_of old.nodes.exps old.nodes.stmts node) adds.place (adds.tree ∙ is) (Shows_kept n m es ss old.trees adds.keeps (shows old n es ss w v))).trees

pub leaf_of : (es : List Exp16) (x : ExpNode) → ExpInOrder 0 x → exp_of es x ≡ exp_of [] x
leaf_of es (Literal number) o = refl
leaf_of es (Truth value) o = refl
leaf_of es Error o = refl
leaf_of es (Name text) o = refl
leaf_of es (Member a word) o = absurd (omega arith)
leaf_of es (Index a at) o = absurd (omega arith)
leaf_of es (Slice a high low) o = absurd (omega arith)
leaf_of es (Call a b) o = let h : a < 0 = o.0 in absurd (omega arith)
leaf_of es (Lookahead a to b) o = let h : a < 0 = o.0 in absurd (omega arith)
leaf_of es (Cast to a) o = absurd (omega arith)
leaf_of es (Unary operator a) o = absurd (omega arith)
leaf_of es (Binary operator a b) o = let h : a < 0 = o.0 in absurd (omega arith)
leaf_of es (Choice a b c) o = let h : a < 0 = o.0 in absurd (omega arith)
leaf_of es NoArguments o = refl
leaf_of es (Argument a b) o = let h : a < 0 = o.0 in absurd (omega arith)
leaf_of es (Listed a) o = absurd (omega arith)

pub stmt_leaf_of : (es : List Exp16) (ss : List Stmt16) (x : StmtNode) → StmtInOrder 0 0 x → stmt_of es ss x ≡ stmt_of [] [] x
stmt_leaf_of es ss NoStatements o = refl
stmt_leaf_of es ss (Then a b) o = let h : a < 0 = o.0 in absurd (omega arith)
stmt_leaf_of es ss (Block a) o = absurd (omega arith)
stmt_leaf_of es ss Empty o = refl
stmt_leaf_of es ss (Var of called) o = refl
stmt_leaf_of es ss (VarIs of called a) o = absurd (omega arith)
stmt_leaf_of es ss (Assign a b) o = let h : a < 0 = o.0 in absurd (omega arith)
stmt_leaf_of es ss (Expression a) o = absurd (omega arith)
stmt_leaf_of es ss (If a b) o = let h : a < 0 = o.0 in absurd (omega arith)
stmt_leaf_of es ss (IfElse a b c) o = let h : a < 0 = o.0 in absurd (omega arith)
stmt_leaf_of es ss (Switch table a) o = absurd (omega arith)
stmt_leaf_of es ss NoCases o = refl
stmt_leaf_of es ss (Case a label b) o = let h : a < 0 = o.0 in absurd (omega arith)

-- one over those that were taken off

pub over_one : (g : Exp16 → Exp16) {a b : Rooted} {f : Forest} {i : ℕ} → TakesExp a b i → f ≡ with_exps (g (exp_at b.nodes.exps i) ∷ b.trees.exps) b.trees → f ≡ record a.trees { exps = on_exp g a.trees.exps }
over_one g t push = push ∙ ap₂ (λ (x : Exp16) (h : Forest). with_exps (g x ∷ h.exps) h) t.tree t.rest

pub over_two : (g : Exp16 → Exp16 → Exp16) {a b d : Rooted} {f : Forest} {i j : ℕ} → TakesExp a b i → TakesExp b d j → f ≡ with_exps (g (exp_at d.nodes.exps j) (exp_at d.nodes.exps i) ∷ d.trees.exps) d.trees → f ≡ record a.trees { exps = on_exps g a.trees.exps }
over_two g {a} {b} {d} {f} {i} {j} t u push =
    push
    ∙ ap (λ (x : Exp16). with_exps (g (exp_at d.nodes.exps j) x ∷ d.trees.exps) d.trees) (u.keeps.exps i t.below ∙ t.tree)
    ∙ ap₂ (λ (x : Exp16) (h : Forest). with_exps (g x (first_exp a.trees.exps) ∷ h.exps) h) u.tree u.rest
    ∙ ap (λ (h : Forest). with_exps (g (first_exp h.exps) (first_exp a.trees.exps) ∷ older h.exps) h) t.rest

pub choice_over : {a b d h : Rooted} {f : Forest} {i j k : ℕ} → TakesExp a b i → TakesExp b d j → TakesExp d h k → f ≡ with_exps (choice (exp_at h.nodes.exps k) (exp_at h.nodes.exps j) (exp_at h.nodes.exps i) ∷ h.trees.exps) h.trees
    → f ≡ record a.trees { exps = choice (first_exp (older (older a.trees.exps))) (first_exp (older a.trees.exps)) (first_exp a.trees.exps) ∷ older (older (older a.trees.exps)) }
choice_over {a} {b} {d} {h} {f} {i} {j} {k} t u v push =
    let last : exp_at h.nodes.exps i ≡ first_exp a.trees.exps = v.keeps.exps i (omega (arith, t.below, u.keeps.exps_len)) ∙ u.keeps.exps i t.below ∙ t.tree in
    push
    ∙ ap₂ (λ (x y : Exp16). with_exps (choice (exp_at h.nodes.exps k) y x ∷ h.trees.exps) h.trees) last (v.keeps.exps j u.below ∙ u.tree)
    ∙ ap₂ (λ (x : Exp16) (g : Forest). with_exps (choice x (first_exp b.trees.exps) (first_exp a.trees.exps) ∷ g.exps) g) v.tree v.rest
    ∙ ap (λ (g : Forest). with_exps (choice (first_exp g.exps) (first_exp b.trees.exps) (first_exp a.trees.exps) ∷ older g.exps) g) u.rest
    ∙ ap (λ (g : Forest). with_exps (choice (first_exp (older g.exps)) (first_exp g.exps) (first_exp a.trees.exps) ∷ older (older g.exps)) g) t.rest

pub stmt_over : (g : Stmt16 → Stmt16) {a b : Rooted} {f : Forest} {i : ℕ} → TakesStmt a b i → f ≡ with_stmts (g (stmt_at b.nodes.stmts i) ∷ b.trees.stmts) b.trees → f ≡ record a.trees { stmts = on_stmt g a.trees.stmts }
stmt_over g t push = push ∙ ap₂ (λ (x : Stmt16) (h : Forest). with_stmts (g x ∷ h.stmts) h) t.tree t.rest

pub stmt_over_two : (g : Stmt16 → Stmt16 → Stmt16) {a b d : Rooted} {f : Forest} {i j : ℕ} → TakesStmt a b i → TakesStmt b d j → f ≡ with_stmts (g (stmt_at d.nodes.stmts j) (stmt_at d.nodes.stmts i) ∷ d.trees.stmts) d.trees → f ≡ record a.trees { stmts = on_stmts g a.trees.stmts }
stmt_over_two g {a} {b} {d} {f} {i} {j} t u push =
    push
    ∙ ap (λ (x : Stmt16). with_stmts (g (stmt_at d.nodes.stmts j) x ∷ d.trees.stmts) d.trees) (u.keeps.stmts i t.below ∙ t.tree)
    ∙ ap₂ (λ (x : Stmt16) (h : Forest). with_stmts (g x (first_stmt a.trees.stmts) ∷ h.stmts) h) u.tree u.rest
    ∙ ap (λ (h : Forest). with_stmts (g (first_stmt h.stmts) (first_stmt a.trees.stmts) ∷ older h.stmts) h) t.rest

-- a statement over an expression that was taken off, over two, and over one and statements

pub stmt_of_exp : (g : Exp16 → Stmt16) {a b : Rooted} {f : Forest} {i : ℕ} → TakesExp a b i → f ≡ with_stmts (g (exp_at b.nodes.exps i) ∷ b.trees.stmts) b.trees → f ≡ record { exps = older a.trees.exps; stmts = g (first_exp a.trees.exps) ∷ a.trees.stmts }
stmt_of_exp g t push = push ∙ ap₂ (λ (x : Exp16) (h : Forest). with_stmts (g x ∷ h.stmts) h) t.tree t.rest

pub assign_over : {a b d : Rooted} {f : Forest} {i j : ℕ} → TakesExp a b i → TakesExp b d j → f ≡ with_stmts (assign (exp_at d.nodes.exps j) (exp_at d.nodes.exps i) ∷ d.trees.stmts) d.trees
    → f ≡ record { exps = older (older a.trees.exps); stmts = assign (first_exp (older a.trees.exps)) (first_exp a.trees.exps) ∷ a.trees.stmts }
assign_over {a} {b} {d} {f} {i} {j} t u push =
    push
    ∙ ap (λ (x : Exp16). with_stmts (assign (exp_at d.nodes.exps j) x ∷ d.trees.stmts) d.trees) (u.keeps.exps i t.below ∙ t.tree)
    ∙ ap₂ (λ (x : Exp16) (h : Forest). with_stmts (assign x (first_exp a.trees.exps) ∷ h.stmts) h) u.tree u.rest
    ∙ ap (λ (h : Forest). record { exps = older h.exps; stmts = assign (first_exp h.exps) (first_exp a.trees.exps) ∷ h.stmts }) t.rest

pub if_over : {a b d : Rooted} {f : Forest} {i j : ℕ} → TakesExp a b i → TakesStmt b d j → f ≡ with_stmts (if_then (exp_at d.nodes.exps i) (stmt_at d.nodes.stmts j) ∷ d.trees.stmts) d.trees
    → f ≡ record { exps = older a.trees.exps; stmts = on_stmt (if_then (first_exp a.trees.exps)) a.trees.stmts }
if_over {a} {b} {d} {f} {i} {j} t u push =
    push
    ∙ ap (λ (x : Exp16). with_stmts (if_then x (stmt_at d.nodes.stmts j) ∷ d.trees.stmts) d.trees) (u.keeps.exps i t.below ∙ t.tree)
    ∙ ap₂ (λ (x : Stmt16) (h : Forest). with_stmts (if_then (first_exp a.trees.exps) x ∷ h.stmts) h) u.tree u.rest
    ∙ ap (λ (h : Forest). with_stmts (if_then (first_exp a.trees.exps) (first_stmt h.stmts) ∷ older h.stmts) h) t.rest

pub if_else_over : {a b d h : Rooted} {f : Forest} {i j k : ℕ} → TakesExp a b i → TakesStmt b d j → TakesStmt d h k → f ≡ with_stmts (if_else (exp_at h.nodes.exps i) (stmt_at h.nodes.stmts k) (stmt_at h.nodes.stmts j) ∷ h.trees.stmts) h.trees
    → f ≡ record { exps = older a.trees.exps; stmts = on_stmts (if_else (first_exp a.trees.exps)) a.trees.stmts }
if_else_over {a} {b} {d} {h} {f} {i} {j} {k} t u v push =
    let later : exp_at h.nodes.exps i ≡ first_exp a.trees.exps = v.keeps.exps i (omega (arith, t.below, u.keeps.exps_len)) ∙ u.keeps.exps i t.below ∙ t.tree in
    push
    ∙ ap₂ (λ (e : Exp16) (s : Stmt16). with_stmts (if_else e (stmt_at h.nodes.stmts k) s ∷ h.trees.stmts) h.trees) later (v.keeps.stmts j u.below ∙ u.tree)
    ∙ ap₂ (λ (s : Stmt16) (g : Forest). with_stmts (if_else (first_exp a.trees.exps) s (first_stmt b.trees.stmts) ∷ g.stmts) g) v.tree v.rest
    ∙ ap (λ (g : Forest). with_stmts (if_else (first_exp a.trees.exps) (first_stmt g.stmts) (first_stmt b.trees.stmts) ∷ older g.stmts) g) u.rest
    ∙ ap (λ (g : Forest). with_stmts (if_else (first_exp a.trees.exps) (first_stmt (older g.stmts)) (first_stmt g.stmts) ∷ older (older g.stmts)) g) t.rest
