-- What a pipeline applies, itself or by a control that it calls, its expanded statements apply.
use Rattle.std.proofs.Common.{◌≡◌, ◌⊎◌, inl, inr, ℕ, zero, suc, ◌<◌, Option, Some, None, List, [], ◌∷◌, ◌++◌, length, refl, sym, ap, ◌∙◌, subst, arith}
use Rattle.std.specs.Prelude.{flat_map, slice_get, slice_index_or, option_and_then, Contains, MatchOption}
use Rattle.std.specs.Option.{option_map_or}
use Rattle.p414_syntax.specs.declared.syntax.Decl.{Decl}
use Rattle.p414_syntax.specs.Subtrees.{subtrees}
use Rattle.p414_syntax.specs.Tree.{Stmt, no_statements, then as then14, apply, apply_branches, if_then as if14, call, no_else, else_block, else_if, no_branches, branch}
use Rattle.p414_syntax.specs.Views.{ControlTree}
use Rattle.p414_syntax.specs.Names.{Name}
use Rattle.p414_syntax.specs.Walks.{IsWalk}
use Rattle.p414_syntax.specs.ControlExpansion.{StatementExpands, NoStatements, Then, Apply, ApplyBranches, If, Call, NoElse, ElseBlock, ElseIf, NoBranches, Branch, PipelineExpands, controls, control_number, control_of, own_call, calls_in, controls_called_by}
use Rattle.p414_syntax.specs.Pipelines.{own_table, applied_in as applied_in14, applied_by, IsApplied}
use Rattle.p414_syntax.specs.Tables.{table_number}
use Rattle.lower_laws_states.specs.Expansions.{Has}
use Rattle.lower_laws_states.proofs.Members.{has_left, has_right, has_apart, has_joined, joined_has, picked_has}

contained : {X : Type 0} (xs : List X) (x : X) → Contains xs x → Has xs x
contained [] x is = absurd (omega (arith, is.1))
contained {X} (y ∷ ys) x is = by (contained ys x) is.0 is.1 is.2 where
  by : (Contains ys x → Has ys x) → (k : ℕ) → k < length (y ∷ ys) → slice_index_or (y ∷ ys) k x ≡ x → Has (y ∷ ys) x
  by more zero lt e = inl e
  by more (suc k) lt e = inr (more (k, omega (arith, lt), e))

either : {A B C : Type 0} → A ⊎ B → (A → C) → (B → C) → C
either (inl a) f g = f a
either (inr b) f g = g b

-- the parts of a statement

inside : {Y : Type 0} (f : Stmt → List Y) (s : Stmt) (rest : List Stmt) (y : Y) → Has (flat_map f rest) y → Has (flat_map f (s ∷ rest)) y
inside f s rest y h = let o = joined_has f rest y h in has_joined f (s ∷ rest) o.0 y (inr o.1) o.2

left : {Y : Type 0} (f : Stmt → List Y) (s : Stmt) (a b : List Stmt) (y : Y) → Has (flat_map f a) y → Has (flat_map f (s ∷ a ++ b)) y
left f s a b y h = let o = joined_has f a y h in has_joined f (s ∷ a ++ b) o.0 y (inr (has_left a b o.0 o.1)) o.2

right : {Y : Type 0} (f : Stmt → List Y) (s : Stmt) (a b : List Stmt) (y : Y) → Has (flat_map f b) y → Has (flat_map f (s ∷ a ++ b)) y
right f s a b y h = let o = joined_has f b y h in has_joined f (s ∷ a ++ b) o.0 y (inr (has_right a b o.0 o.1)) o.2

parted : {Y : Type 0} (f : Stmt → List Y) (s : Stmt) (a b : List Stmt) (y : Y) → f s ≡ [] → Has (flat_map f (s ∷ a ++ b)) y → Has (flat_map f a) y ⊎ Has (flat_map f b) y
parted {Y} f s a b y none h = by (joined_has f (s ∷ a ++ b) y h) where
  by : (z : Stmt) × Has (s ∷ a ++ b) z × Has (f z) y → Has (flat_map f a) y ⊎ Has (flat_map f b) y
  by (z, inl same, own) = absurd (subst (λ (l : List Y). Has l y) none (subst (λ (v : Stmt). Has (f v) y) (sym same) own))
  by (z, inr more, own) = at (has_apart a b z more) where
    at : Has a z ⊎ Has b z → Has (flat_map f a) y ⊎ Has (flat_map f b) y
    at (inl h) = inl (has_joined f a z y h own)
    at (inr h) = inr (has_joined f b z y h own)

within : {Y : Type 0} (f : Stmt → List Y) (s : Stmt) (a : List Stmt) (y : Y) → f s ≡ [] → Has (flat_map f (s ∷ a)) y → Has (flat_map f a) y
within {Y} f s a y none h = by (joined_has f (s ∷ a) y h) where
  by : (z : Stmt) × Has (s ∷ a) z × Has (f z) y → Has (flat_map f a) y
  by (z, inl same, own) = absurd (subst (λ (l : List Y). Has l y) none (subst (λ (v : Stmt). Has (f v) y) (sym same) own))
  by (z, inr more, own) = has_joined f a z y more own

alone : {Y : Type 0} (f : Stmt → List Y) (s : Stmt) (y : Y) → f s ≡ [] → Has (flat_map f (s ∷ [])) y → ⊥
alone f s y none h = within f s [] y none h

module _ (ds : List Decl) where
  abbrev Applies : Stmt → Name → Type 0
  Applies s t = Has (flat_map own_table (subtrees s)) t

  branches_kept : (table : Name) (a x : Stmt) (t : Name) → (y : Stmt) × Has (apply_branches table a ∷ subtrees a) y × Has (own_table y) t → (Applies a t → Applies x t) → Applies (apply_branches table x) t
  branches_kept table a x t (y, inl same, own) more = has_joined own_table (apply_branches table x ∷ subtrees x) (apply_branches table x) t (inl refl) (subst (λ (z : Stmt). Has (own_table z) t) (sym same) own)
  branches_kept table a x t (y, inr h, own) more = inside own_table (apply_branches table x) (subtrees x) t (more (has_joined own_table (subtrees a) y t h own))

  -- what a statement applies by itself it applies expanded
  own_kept : (a y : Stmt) → StatementExpands ds a y → (t : Name) → Applies a t → Applies y t
  own_kept _ _ NoStatements t h = h
  own_kept _ _ (Then a b x y p q) t h =
      either (parted own_table (then14 a b) (subtrees a) (subtrees b) t refl h) (λ h. left own_table (then14 x y) (subtrees x) (subtrees y) t (own_kept a x p t h)) (λ h. right own_table (then14 x y) (subtrees x) (subtrees y) t (own_kept b y q t h))
  own_kept _ _ (Apply table) t h = h
  own_kept _ _ (ApplyBranches table a x p) t h = branches_kept table a x t (joined_has own_table (apply_branches table a ∷ subtrees a) t h) (λ h. own_kept a x p t h)
  own_kept _ _ (If c a b x y p q) t h =
      either (parted own_table (if14 c a b) (subtrees a) (subtrees b) t refl h) (λ h. left own_table (if14 c x y) (subtrees x) (subtrees y) t (own_kept a x p t h)) (λ h. right own_table (if14 c x y) (subtrees x) (subtrees y) t (own_kept b y q t h))
  own_kept _ _ (Call name c body found p) t h = absurd (alone own_table (call name) t refl h)
  own_kept _ _ NoElse t h = h
  own_kept _ _ (ElseBlock a x p) t h = inside own_table (else_block x) (subtrees x) t (own_kept a x p t (within own_table (else_block a) (subtrees a) t refl h))
  own_kept _ _ (ElseIf a x p) t h = inside own_table (else_if x) (subtrees x) t (own_kept a x p t (within own_table (else_if a) (subtrees a) t refl h))
  own_kept _ _ NoBranches t h = h
  own_kept _ _ (Branch a b x y l p q) t h =
      either (parted own_table (branch a l b) (subtrees a) (subtrees b) t refl h) (λ h. left own_table (branch x l y) (subtrees x) (subtrees y) t (own_kept a x p t h)) (λ h. right own_table (branch x l y) (subtrees x) (subtrees y) t (own_kept b y q t h))

  -- a control that a statement calls stands in it expanded
  record Called (y : Stmt) (called : Name) : Type 0 where
    pub control : ControlTree
    pub is : control_of ds called ≡ Some control
    pub body : Stmt
    pub expands : StatementExpands ds control.body body
    pub holds : (t : Name) → Applies body t → Applies y t

  grown : (x y : Stmt) (n : Name) → ((t : Name) → Applies x t → Applies y t) → Called x n → Called y n
  grown x y n more c = record { control = c.control; is = c.is; body = c.body; expands = c.expands; holds = λ t h. more t (c.holds t h) }

  the_call : (name n : Name) (c : ControlTree) (body : Stmt) → control_of ds name ≡ Some c → StatementExpands ds c.body body → (y : Stmt) × Has (call name ∷ []) y × Has (own_call y) n → Called body n
  the_call name n c body found p (y, inl same, own) = by (subst (λ (z : Stmt). Has (own_call z) n) (sym same) own) where
    by : Has (name ∷ []) n → Called body n
    by (inl e) = subst (Called body) e (record { control = c; is = found; body = body; expands = p; holds = λ t h. h })
    by (inr h) = absurd h
  the_call name n c body found p (y, inr h, own) = absurd h

  call_kept : (a y : Stmt) → StatementExpands ds a y → (n : Name) → Has (flat_map own_call (subtrees a)) n → Called y n
  call_kept _ _ NoStatements n h = absurd (alone own_call no_statements n refl h)
  call_kept _ _ (Then a b x y p q) n h =
      either (parted own_call (then14 a b) (subtrees a) (subtrees b) n refl h) (λ h. grown x (then14 x y) n (λ t. left own_table (then14 x y) (subtrees x) (subtrees y) t) (call_kept a x p n h)) (λ h. grown y (then14 x y) n (λ t. right own_table (then14 x y) (subtrees x) (subtrees y) t) (call_kept b y q n h))
  call_kept _ _ (Apply table) n h = absurd (alone own_call (apply table) n refl h)
  call_kept _ _ (ApplyBranches table a x p) n h = grown x (apply_branches table x) n (λ t. inside own_table (apply_branches table x) (subtrees x) t) (call_kept a x p n (within own_call (apply_branches table a) (subtrees a) n refl h))
  call_kept _ _ (If c a b x y p q) n h =
      either (parted own_call (if14 c a b) (subtrees a) (subtrees b) n refl h) (λ h. grown x (if14 c x y) n (λ t. left own_table (if14 c x y) (subtrees x) (subtrees y) t) (call_kept a x p n h)) (λ h. grown y (if14 c x y) n (λ t. right own_table (if14 c x y) (subtrees x) (subtrees y) t) (call_kept b y q n h))
  call_kept _ _ (Call name c body found p) n h = the_call name n c body found p (joined_has own_call (call name ∷ []) n h)
  call_kept _ _ NoElse n h = absurd (alone own_call no_else n refl h)
  call_kept _ _ (ElseBlock a x p) n h = grown x (else_block x) n (λ t. inside own_table (else_block x) (subtrees x) t) (call_kept a x p n (within own_call (else_block a) (subtrees a) n refl h))
  call_kept _ _ (ElseIf a x p) n h = grown x (else_if x) n (λ t. inside own_table (else_if x) (subtrees x) t) (call_kept a x p n (within own_call (else_if a) (subtrees a) n refl h))
  call_kept _ _ NoBranches n h = absurd (alone own_call no_branches n refl h)
  call_kept _ _ (Branch a b x y l p q) n h =
      either (parted own_call (branch a l b) (subtrees a) (subtrees b) n refl h) (λ h. grown x (branch x l y) n (λ t. left own_table (branch x l y) (subtrees x) (subtrees y) t) (call_kept a x p n h)) (λ h. grown y (branch x l y) n (λ t. right own_table (branch x l y) (subtrees x) (subtrees y) t) (call_kept b y q n h))

  -- along a walk by calls

  abbrev Finds : ℕ → Stmt → Type 0
  Finds k y = (t : Name) × (table_number ds t ≡ Some k) × Applies y t

  applied_here : (m k : ℕ) (c : ControlTree) (y : Stmt) → slice_get (controls ds) m ≡ Some c → StatementExpands ds c.body y → Has (applied_by ds m) k → Finds k y
  applied_here m k c y is expands own =
      let one = picked_has (table_number ds) (flat_map own_table (subtrees c.body)) k (subst (λ (o : Option ControlTree). Has (option_map_or (applied_in14 ds) o []) k) is own) in
      (one.0, one.2, own_kept c.body y expands one.0 one.1)

  record Next (m : ℕ) (y : Stmt) : Type 0 where
    pub control : ControlTree
    pub is : slice_get (controls ds) m ≡ Some control
    pub body : Stmt
    pub expands : StatementExpands ds control.body body
    pub holds : (t : Name) → Applies body t → Applies y t

  next_control : (m o : ℕ) (c : ControlTree) (y : Stmt) → slice_get (controls ds) m ≡ Some c → StatementExpands ds c.body y → Has (controls_called_by ds m) o → Next o y
  next_control m o c y is expands leads =
      let one = picked_has (control_number ds) (flat_map own_call (subtrees c.body)) o (subst (λ (z : Option ControlTree). Has (option_map_or (calls_in ds) z []) o) is leads) in
      let more = call_kept c.body y expands one.0 one.1 in
      record { control = more.control; is = ap (option_and_then (slice_get (controls ds))) (sym one.2) ∙ more.is; body = more.body; expands = more.expands; holds = more.holds }

  further : (m o : ℕ) (rest : List ℕ) (k : ℕ) (y : Stmt) (n : Next o y) → (j : ℕ) × Has (m ∷ o ∷ rest) j × Has (applied_by ds j) k → (Has (applied_by ds m) k → Finds k y) → (Has (flat_map (applied_by ds) (o ∷ rest)) k → Finds k n.body) → Finds k y
  further m o rest k y n (j, inl same, own) here more = here (subst (λ (z : ℕ). Has (applied_by ds z) k) (sym same) own)
  further m o rest k y n (j, inr h, own) here more = let f = more (has_joined (applied_by ds) (o ∷ rest) j k h own) in (f.0, f.1, n.holds f.0 f.2)

  only_here : (m k : ℕ) (y : Stmt) → (j : ℕ) × Has (m ∷ []) j × Has (applied_by ds j) k → (Has (applied_by ds m) k → Finds k y) → Finds k y
  only_here m k y (j, inl same, own) here = here (subst (λ (z : ℕ). Has (applied_by ds z) k) (sym same) own)
  only_here m k y (j, inr h, own) here = absurd h

  walk_finds : (rest : List ℕ) (m k : ℕ) → IsWalk (controls_called_by ds) (m ∷ rest) → Has (flat_map (applied_by ds) (m ∷ rest)) k → (c : ControlTree) (y : Stmt) → slice_get (controls ds) m ≡ Some c → StatementExpands ds c.body y → Finds k y
  walk_finds [] m k walks h c y is expands = only_here m k y (joined_has (applied_by ds) (m ∷ []) k h) (applied_here m k c y is expands)
  walk_finds (o ∷ rest) m k walks h c y is expands =
      let n = next_control m o c y is expands (contained (controls_called_by ds m) o walks.0) in
      further m o rest k y n (joined_has (applied_by ds) (m ∷ o ∷ rest) k h) (applied_here m k c y is expands) (λ h. walk_finds rest o k walks.1 h n.control n.body n.is n.expands)

  -- a control that isn't there leads nowhere
  nothing_found : (rest : List ℕ) (m k : ℕ) → IsWalk (controls_called_by ds) (m ∷ rest) → Has (flat_map (applied_by ds) (m ∷ rest)) k → slice_get (controls ds) m ≡ None → ⊥
  nothing_found [] m k walks h is = by (joined_has (applied_by ds) (m ∷ []) k h) where
    by : (j : ℕ) × Has (m ∷ []) j × Has (applied_by ds j) k → ⊥
    by (j, inl same, own) = subst (λ (o : Option ControlTree). Has (option_map_or (applied_in14 ds) o []) k) is (subst (λ (z : ℕ). Has (applied_by ds z) k) (sym same) own)
    by (j, inr h, own) = h
  nothing_found (o ∷ rest) m k walks h is = subst (λ (z : Option ControlTree). Has (option_map_or (calls_in ds) z []) o) is (contained (controls_called_by ds m) o walks.0)

  -- what the pipeline applies, its statements apply
  pub pipeline_finds : (pipeline : Name) (body : Stmt) → PipelineExpands ds pipeline body → (k : ℕ) → IsApplied ds pipeline k → Finds k body
  pipeline_finds pipeline body expands k applied =
      let w = applied.from_pipeline in
      let walks : IsWalk (controls_called_by ds) (w.first ∷ w.rest) = subst (IsWalk (controls_called_by ds)) w.begins w.walks in
      let has : Has (flat_map (applied_by ds) (w.first ∷ w.rest)) k = subst (λ (l : List ℕ). Has (flat_map (applied_by ds) l) k) w.begins (contained (flat_map (applied_by ds) applied.walk) k applied.applied) in
      by w.first w.rest walks has (control_of ds pipeline) (ap (option_and_then (slice_get (controls ds))) (sym w.start)) expands
    where
      by : (first : ℕ) (rest : List ℕ) → IsWalk (controls_called_by ds) (first ∷ rest) → Has (flat_map (applied_by ds) (first ∷ rest)) k → (o : Option ControlTree) → slice_get (controls ds) first ≡ o → MatchOption o (body ≡ no_statements) (λ (control : ControlTree). StatementExpands ds control.body body) → Finds k body
      by first rest walks has None is e = absurd (nothing_found rest first k walks has is)
      by first rest walks has (Some c) is e = walk_finds rest first k walks has c body is e
