-- What the statements of a pipeline apply, the pipeline applies, itself or by a control that it calls; so no table stands in both
-- (C17).
use Rattle.std.proofs.Common.{◌≡◌, ◌⊎◌, inl, inr, ℕ, suc, ◌<◌, Option, Some, None, List, [], ◌∷◌, ◌++◌, refl, sym, ◌∙◌, subst, arith}
use Rattle.std.specs.Prelude.{flat_map, slice_get, option_and_then, Contains, MatchOption}
use Rattle.std.specs.Option.{option_map_or}
use Rattle.p414_syntax.specs.declared.syntax.Decl.{Decl}
use Rattle.p414_syntax.specs.Subtrees.{subtrees}
use Rattle.p414_syntax.specs.Tree.{Stmt, no_statements, then as then14, apply_branches, if_then as if14, call, else_block, else_if, branch}
use Rattle.p414_syntax.specs.Views.{ControlTree}
use Rattle.p414_syntax.specs.Names.{Name}
use Rattle.p414_syntax.specs.Walks.{IsWalk}
use Rattle.p414_syntax.specs.ControlExpansion.{StatementExpands, NoStatements, Then, Apply, ApplyBranches, If, Call, NoElse, ElseBlock, ElseIf, NoBranches, Branch, PipelineExpands, controls, control_number, control_of, own_call, calls_in, controls_called_by}
use Rattle.p414_syntax.specs.Pipelines.{own_table, applied_in as applied_in14, applied_by, IsApplied}
use Rattle.p414_syntax.specs.Tables.{table_number}
use Rattle.lower_laws_states.specs.Expansions.{Has}
use Rattle.lower_laws_states.proofs.Members.{has_left, has_right, has_apart, has_joined, joined_has, has_picked}

contains : {X : Type 0} (xs : List X) (x : X) → Has xs x → Contains xs x
contains [] x is = absurd is
contains (y ∷ ys) x (inl e) = (0, omega arith, e)
contains (y ∷ ys) x (inr more) = let c = contains ys x more in (suc c.0, omega (arith, c.1), c.2)

either : {A B C : Type 0} → A ⊎ B → (A → C) → (B → C) → C
either (inl a) f g = f a
either (inr b) f g = g b

module _ (ds : List Decl) (t : Name) (k : ℕ) (numbered : table_number ds t ≡ Some k) where
  -- a walk by calls that begins with this control applies the table
  record Reaches (m : ℕ) : Type 0 where
    pub rest : List ℕ
    pub walks : IsWalk (controls_called_by ds) (m ∷ rest)
    pub applied : Has (flat_map (applied_by ds) (m ∷ rest)) k

  record Calls (a : Stmt) : Type 0 where
    pub called : Name
    pub has : Has (flat_map own_call (subtrees a)) called
    pub number : ℕ
    pub is : control_number ds called ≡ Some number
    pub reaches : Reaches number

  abbrev Told : Stmt → Type 0
  Told a = Has (flat_map own_table (subtrees a)) t ⊎ Calls a

  -- the parts of a statement

  inside : {Y : Type 0} (f : Stmt → List Y) (s : Stmt) (rest : List Stmt) (y : Y) → Has (flat_map f rest) y → Has (flat_map f (s ∷ rest)) y
  inside f s rest y h = let o = joined_has f rest y h in has_joined f (s ∷ rest) o.0 y (inr o.1) o.2

  left : {Y : Type 0} (f : Stmt → List Y) (s : Stmt) (a b : List Stmt) (y : Y) → Has (flat_map f a) y → Has (flat_map f (s ∷ a ++ b)) y
  left f s a b y h = let o = joined_has f a y h in has_joined f (s ∷ a ++ b) o.0 y (inr (has_left a b o.0 o.1)) o.2

  right : {Y : Type 0} (f : Stmt → List Y) (s : Stmt) (a b : List Stmt) (y : Y) → Has (flat_map f b) y → Has (flat_map f (s ∷ a ++ b)) y
  right f s a b y h = let o = joined_has f b y h in has_joined f (s ∷ a ++ b) o.0 y (inr (has_right a b o.0 o.1)) o.2

  told_inside : (s a : Stmt) → subtrees s ≡ s ∷ subtrees a → Told a → Told s
  told_inside s a same (inl h) = inl (subst (λ (l : List Stmt). Has (flat_map own_table l) t) (sym same) (inside own_table s (subtrees a) t h))
  told_inside s a same (inr c) = inr (record { called = c.called; has = subst (λ (l : List Stmt). Has (flat_map own_call l) c.called) (sym same) (inside own_call s (subtrees a) c.called c.has); number = c.number; is = c.is; reaches = c.reaches })

  told_left : (s a b : Stmt) → subtrees s ≡ s ∷ subtrees a ++ subtrees b → Told a → Told s
  told_left s a b same (inl h) = inl (subst (λ (l : List Stmt). Has (flat_map own_table l) t) (sym same) (left own_table s (subtrees a) (subtrees b) t h))
  told_left s a b same (inr c) = inr (record { called = c.called; has = subst (λ (l : List Stmt). Has (flat_map own_call l) c.called) (sym same) (left own_call s (subtrees a) (subtrees b) c.called c.has); number = c.number; is = c.is; reaches = c.reaches })

  told_right : (s a b : Stmt) → subtrees s ≡ s ∷ subtrees a ++ subtrees b → Told b → Told s
  told_right s a b same (inl h) = inl (subst (λ (l : List Stmt). Has (flat_map own_table l) t) (sym same) (right own_table s (subtrees a) (subtrees b) t h))
  told_right s a b same (inr c) = inr (record { called = c.called; has = subst (λ (l : List Stmt). Has (flat_map own_call l) c.called) (sym same) (right own_call s (subtrees a) (subtrees b) c.called c.has); number = c.number; is = c.is; reaches = c.reaches })

  -- those of a list, by where they stand
  parted : (s : Stmt) (a b : List Stmt) → own_table s ≡ [] → Has (flat_map own_table (s ∷ a ++ b)) t → Has (flat_map own_table a) t ⊎ Has (flat_map own_table b) t
  parted s a b none h = by (joined_has own_table (s ∷ a ++ b) t h) where
    by : (y : Stmt) × Has (s ∷ a ++ b) y × Has (own_table y) t → Has (flat_map own_table a) t ⊎ Has (flat_map own_table b) t
    by (y, inl same, own) = absurd (subst (λ (l : List Name). Has l t) none (subst (λ (z : Stmt). Has (own_table z) t) (sym same) own))
    by (y, inr more, own) = at (has_apart a b y more) where
      at : Has a y ⊎ Has b y → Has (flat_map own_table a) t ⊎ Has (flat_map own_table b) t
      at (inl h) = inl (has_joined own_table a y t h own)
      at (inr h) = inr (has_joined own_table b y t h own)

  within : (s : Stmt) (a : List Stmt) → own_table s ≡ [] → Has (flat_map own_table (s ∷ a)) t → Has (flat_map own_table a) t
  within s a none h = by (joined_has own_table (s ∷ a) t h) where
    by : (y : Stmt) × Has (s ∷ a) y × Has (own_table y) t → Has (flat_map own_table a) t
    by (y, inl same, own) = absurd (subst (λ (l : List Name). Has l t) none (subst (λ (z : Stmt). Has (own_table z) t) (sym same) own))
    by (y, inr more, own) = has_joined own_table a y t more own

  -- a control that is called applies what its body does
  entered : (called : Name) (c : ControlTree) → control_of ds called ≡ Some c → Told c.body → (m : ℕ) × (control_number ds called ≡ Some m) × Reaches m
  entered called c found told = by (control_number ds called) refl found told where
    by : (o : Option ℕ) → control_number ds called ≡ o → option_and_then (slice_get (controls ds)) o ≡ Some c → Told c.body → (m : ℕ) × (control_number ds called ≡ Some m) × Reaches m
    by None e f told = absurd (cc f)
    by (Some m) e f (inl h) = (
      m,
      e,
      record {
        rest = [];
        walks = tt;
        applied = has_joined (applied_by ds) (m ∷ []) m k (inl refl) (subst (λ (o : Option ControlTree). Has (option_map_or (applied_in14 ds) o []) k) (sym f) (has_picked (table_number ds) (flat_map own_table (subtrees c.body)) t k h numbered));
      },
    )
    by (Some m) e f (inr more) =
        let o = joined_has (applied_by ds) (more.number ∷ more.reaches.rest) k more.reaches.applied in (
          m,
          e,
          record {
            rest = more.number ∷ more.reaches.rest;
            walks = (contains (controls_called_by ds m) more.number (subst (λ (o : Option ControlTree). Has (option_map_or (calls_in ds) o []) more.number) (sym f) (has_picked (control_number ds) (flat_map own_call (subtrees c.body)) more.called more.number more.has more.is)), more.reaches.walks);
            applied = has_joined (applied_by ds) (m ∷ more.number ∷ more.reaches.rest) o.0 k (inr o.1) o.2;
          },
        )

  branches_told : (table : Name) (a x : Stmt) → (y : Stmt) × Has (apply_branches table x ∷ subtrees x) y × Has (own_table y) t → (Has (flat_map own_table (subtrees x)) t → Told a) → Told (apply_branches table a)
  branches_told table a x (y, inl same, own) more = inl (has_joined own_table (apply_branches table a ∷ subtrees a) (apply_branches table a) t (inl refl) (subst (λ (z : Stmt). Has (own_table z) t) (sym same) own))
  branches_told table a x (y, inr h, own) more = told_inside (apply_branches table a) a refl (more (has_joined own_table (subtrees x) y t h own))

  expanded_told : (a y : Stmt) → StatementExpands ds a y → Has (flat_map own_table (subtrees y)) t → Told a
  expanded_told _ _ NoStatements h = inl h
  expanded_told _ _ (Then a b x y p q) h =
      either (parted (then14 x y) (subtrees x) (subtrees y) refl h) (λ h. told_left (then14 a b) a b refl (expanded_told a x p h)) (λ h. told_right (then14 a b) a b refl (expanded_told b y q h))
  expanded_told _ _ (Apply table) h = inl h
  expanded_told _ _ (ApplyBranches table a x p) h =
      branches_told table a x (joined_has own_table (apply_branches table x ∷ subtrees x) t h) (λ h. expanded_told a x p h)
  expanded_told _ _ (If c a b x y p q) h =
      either (parted (if14 c x y) (subtrees x) (subtrees y) refl h) (λ h. told_left (if14 c a b) a b refl (expanded_told a x p h)) (λ h. told_right (if14 c a b) a b refl (expanded_told b y q h))
  expanded_told _ _ (Call name c body found p) h =
      let more = entered name c found (expanded_told c.body body p h) in
      inr (record { called = name; has = has_joined own_call (call name ∷ []) (call name) name (inl refl) (inl refl); number = more.0; is = more.1; reaches = more.2 })
  expanded_told _ _ NoElse h = inl h
  expanded_told _ _ (ElseBlock a x p) h = told_inside (else_block a) a refl (expanded_told a x p (within (else_block x) (subtrees x) refl h))
  expanded_told _ _ (ElseIf a x p) h = told_inside (else_if a) a refl (expanded_told a x p (within (else_if x) (subtrees x) refl h))
  expanded_told _ _ NoBranches h = inl h
  expanded_told _ _ (Branch a b x y l p q) h =
      either (parted (branch x l y) (subtrees x) (subtrees y) refl h) (λ h. told_left (branch a l b) a b refl (expanded_told a x p h)) (λ h. told_right (branch a l b) a b refl (expanded_told b y q h))

  -- the pipeline applies what its statements apply
  pub pipeline_applies : (pipeline : Name) (body : Stmt) → PipelineExpands ds pipeline body → Has (flat_map own_table (subtrees body)) t → IsApplied ds pipeline k
  pipeline_applies pipeline body expands h = by (control_of ds pipeline) refl expands where
    by : (o : Option ControlTree) → control_of ds pipeline ≡ o → MatchOption o (body ≡ no_statements) (λ (control : ControlTree). StatementExpands ds control.body body) → IsApplied ds pipeline k
    by None e same = absurd (subst (λ (z : Stmt). Has (flat_map own_table (subtrees z)) t) same h)
    by (Some c) e p =
        let more = entered pipeline c e (expanded_told c.body body p h) in
        record {
          walk = more.0 ∷ more.2.rest;
          from_pipeline = record { first = more.0; rest = more.2.rest; start = more.1; begins = refl; walks = more.2.walks };
          applied = contains (flat_map (applied_by ds) (more.0 ∷ more.2.rest)) k more.2.applied;
        }
