-- The tables that a pipeline's statements apply stand in that pipeline (C17), and are declared (C2).
use Rattle.std.proofs.Common.{◌≡◌, ◌⊎◌, inl, inr, Bool, true, false, cond, not, List, [], ◌∷◌, ◌++◌, refl, sym, ap, ◌∙◌, subst}
use Rattle.std.specs.Prelude.{flat_map, filter}
use Rattle.p414_syntax.specs.declared.syntax.Decl.{Decl}
use Rattle.p414_syntax.specs.declared.syntax.Sort.TheVariants as sort
use Rattle.p414_syntax.specs.Subtrees.{subtrees}
use Rattle.p414_syntax.specs.Tree.{Stmt, no_statements, then as then14, apply, apply_branches, if_then as if14, call as call14, no_else, else_block, else_if, no_branches, branch}
use Rattle.p414_syntax.specs.Names.{Name, names_in, has_name}
use Rattle.p414_syntax.specs.Breaks.{BreaksNone, IsBroken, program_rules}
use Rattle.p414_syntax.specs.ControlExpansion.{ingress as ingress_name, egress as egress_name}
use Rattle.p414_syntax.specs.Pipelines.{own_table, IsTableShared}
use Rattle.p414_sem.specs.Expanded.{Expanded, IsExpanded}
use Rattle.lower_laws_base.specs.Context.{StateLayout}
use Rattle.lower_laws_controls.specs.Controls.{Way, block, at_hit, at_miss, at_actions, has_outcome}
use Rattle.lower_laws_controls.specs.Alike.{StatementFits, BranchesFit}
use Rattle.lower_laws_states.specs.Expansions.{Has}
use Rattle.lower_laws_states.proofs.Members.{has_left, has_right, has_joined, joined_has}
use Rattle.lower_laws_states.proofs.Filling.{has_found}
use Rattle.std.specs.Str.{bytes_eq}
use Rattle.std.proofs.lemmas.Slice.Eq.{bytes_eq-Decides}
use Rattle.lower_laws_premises.proofs.Rules.{has_so}
use Rattle.lower_laws_translated.proofs.Defaults.{any_has}
use Rattle.lower_laws_translated.specs.Translated.{applied_in, is_of_egress, stands_in, tables_in}
use Rattle.lower_laws_translated.proofs.Applied.{pipeline_applies}

-- statements fit where the tables that they apply do

module _ (g : StateLayout) (ds : List Decl) (P Q : Name → Type 0) where
  Becomes : Stmt → Type 0
  Becomes s = (t : Name) → Has (applied_in s) t → P t → Q t

  more : (s : Stmt) (rest : List Stmt) (t : Name) → Has (flat_map own_table rest) t → Has (flat_map own_table (s ∷ rest)) t
  more s rest t h = let o = joined_has own_table rest t h in has_joined own_table (s ∷ rest) o.0 t (inr o.1) o.2

  left : (s a b : Stmt) → subtrees s ≡ s ∷ subtrees a ++ subtrees b → ((t : Name) → Has (applied_in s) t → P t → Q t) → (t : Name) → Has (applied_in a) t → P t → Q t
  left s a b same f t h = f t (subst (λ (l : List Stmt). Has (flat_map own_table l) t) (sym same) (let o = joined_has own_table (subtrees a) t h in has_joined own_table (s ∷ subtrees a ++ subtrees b) o.0 t (inr (has_left (subtrees a) (subtrees b) o.0 o.1)) o.2))

  right : (s a b : Stmt) → subtrees s ≡ s ∷ subtrees a ++ subtrees b → ((t : Name) → Has (applied_in s) t → P t → Q t) → (t : Name) → Has (applied_in b) t → P t → Q t
  right s a b same f t h = f t (subst (λ (l : List Stmt). Has (flat_map own_table l) t) (sym same) (let o = joined_has own_table (subtrees b) t h in has_joined own_table (s ∷ subtrees a ++ subtrees b) o.0 t (inr (has_right (subtrees a) (subtrees b) o.0 o.1)) o.2))

  one : (s a : Stmt) → subtrees s ≡ s ∷ subtrees a → ((t : Name) → Has (applied_in s) t → P t → Q t) → (t : Name) → Has (applied_in a) t → P t → Q t
  one s a same f t h = f t (subst (λ (l : List Stmt). Has (flat_map own_table l) t) (sym same) (more s (subtrees a) t h))

  branches : (t : Name) (b : Bool) (bs : Stmt) → ((w : Way) → StatementFits g ds P w bs → StatementFits g ds Q w bs) → BranchesFit (λ w. StatementFits g ds P w bs) t b → BranchesFit (λ w. StatementFits g ds Q w bs) t b
  branches t true bs f fits = (f at_hit fits.0, f at_miss fits.1)
  branches t false bs f fits = f (at_actions t) fits

  pub fits_by : (w : Way) (s : Stmt) → ((t : Name) → Has (applied_in s) t → P t → Q t) → StatementFits g ds P w s → StatementFits g ds Q w s
  fits_by w no_statements f fits = fits
  fits_by w (then14 a b) f fits = (fits.0, fits_by block a (left (then14 a b) a b refl f) fits.1, fits_by block b (right (then14 a b) a b refl f) fits.2)
  fits_by w (apply t) f fits = (fits.0, f t (has_joined own_table (apply t ∷ []) (apply t) t (inl refl) (inl refl)) fits.1)
  fits_by w (apply_branches t bs) f fits = (
    fits.0,
    f t (has_joined own_table (apply_branches t bs ∷ subtrees bs) (apply_branches t bs) t (inl refl) (inl refl)) fits.1,
    branches t (has_outcome bs) bs (λ v. fits_by v bs (one (apply_branches t bs) bs refl f)) fits.2,
  )
  fits_by w (if14 e a b) f fits = (fits.0, fits.1, fits_by block a (left (if14 e a b) a b refl f) fits.2, fits_by block b (right (if14 e a b) a b refl f) fits.3)
  fits_by w (call14 text) f fits = fits
  fits_by w no_else f fits = fits
  fits_by w (else_block a) f fits = (fits.0, fits_by block a (one (else_block a) a refl f) fits.1)
  fits_by w (else_if a) f fits = (fits.0, fits_by block a (one (else_if a) a refl f) fits.1)
  fits_by w no_branches f fits = fits
  fits_by w (branch a l b) f fits = (fits.0, fits_by w a (left (branch a l b) a b refl f) fits.1, fits_by block b (right (branch a l b) a b refl f) fits.2)

-- a name that a list has

pub found : (names : List Name) (name : Name) → has_name names name ≡ true → Has names name
found names name e = let one = any_has (bytes_eq name) names e in subst (Has names) (sym ((bytes_eq-Decides name one.0).0 one.2)) one.1

-- kept by a test

pub has_kept : {X : Type 0} (q : X → Bool) (xs : List X) (x : X) → Has xs x → q x ≡ true → Has (filter q xs) x
has_kept q [] x h e = absurd h
has_kept q (y ∷ xs) x h e = by (q y) refl h (λ g. has_kept q xs x g e) where
  by : (c : Bool) → q y ≡ c → Has (y ∷ xs) x → (Has xs x → Has (filter q xs) x) → Has (cond c (y ∷ filter q xs) (filter q xs)) x
  by true is (inl same) rest = inl same
  by true is (inr h) rest = inr (rest h)
  by false is (inl same) rest = absurd (cc (is, ap q same, e))
  by false is (inr h) rest = rest h

module _ (ds : List Decl) (none : BreaksNone ds program_rules) (x : Expanded) (expanded : IsExpanded ds x) where
  -- C17
  none_shared : IsTableShared ds → ⊥
  unfolding IsBroken
  none_shared = none.1.1.1.1.1.1.1.1.1.1.1.1.1.1.1.1.0

  pub of_ingress : (t : Name) → Has (names_in sort.Table ds) t → Has (applied_in x.ingress) t → Has (tables_in ds x false) t
  of_ingress t there h = has_kept (stands_in ds x false) (names_in sort.Table ds) t there (by (is_of_egress ds x t) refl) where
    by : (b : Bool) → is_of_egress ds x t ≡ b → stands_in ds x false t ≡ true
    by false e = ap not e
    by true e =
        let n = has_found (names_in sort.Table ds) t there in
        absurd (none_shared (n.0, pipeline_applies ds t n.0 n.1 ingress_name x.ingress expanded.to_ingress h, pipeline_applies ds t n.0 n.1 egress_name x.egress expanded.to_egress (found (applied_in x.egress) t e)))

  pub of_egress : (t : Name) → Has (names_in sort.Table ds) t → Has (applied_in x.egress) t → Has (tables_in ds x true) t
  of_egress t there h = has_kept (stands_in ds x true) (names_in sort.Table ds) t there (has_so (applied_in x.egress) t h)
