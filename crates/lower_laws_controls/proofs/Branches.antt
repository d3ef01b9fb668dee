-- Which branch is taken, and which case.
use Rattle.std.proofs.Common.{◌≡◌, Bool, true, false, ◌||◌, cond, List, Option, Some, None, refl, sym, ap, ap₂, ◌∙◌}
use Rattle.p414_syntax.specs.declared.node.Label.{Label}
use Rattle.p414_syntax.specs.declared.node.Label.TheVariants as label
use Rattle.p414_syntax.specs.declared.syntax.Decl.{Decl}
use Rattle.p414_syntax.specs.Tree.{Stmt, no_statements as nothing14, then as then14, apply, apply_branches, if_then as if14, call as call14, no_else, else_block, else_if, no_branches, branch}
use Rattle.p414_syntax.specs.Names.{Name}
use Rattle.p414_sem.specs.Effects.{Moment as Moment14}
use Rattle.p414_sem.specs.Controls.{Setting as Setting14, run as run14}
use Rattle.p416_syntax.specs.declared.node.CaseLabel.{CaseLabel}
use Rattle.p416_syntax.specs.declared.node.CaseLabel.TheVariants as case_label
use Rattle.p416_syntax.specs.Tree.{Stmt16}
use Rattle.v1_core.specs.Statements.{has_label}
use Rattle.lower_laws_base.specs.Context.{Words, StateLayout}
use Rattle.lower_laws_controls.specs.Controls.{Plan, at_actions, labelled_case, case_stmt, control_stmt}
use Rattle.lower_laws_controls.specs.Alike.{IsActionLabel, StatementFits}

abbrev pub has_taken : (Label → Bool) → Stmt → Bool
has_taken taken (branch before l body) = taken l || has_taken taken before
has_taken taken _ = false

-- where a label is taken, none before it is
abbrev pub TakenOnce : (Label → Bool) → Stmt → Type 0
TakenOnce taken (branch before l body) = (taken l ≡ true → has_taken taken before ≡ false) × TakenOnce taken before
TakenOnce taken _ = Unit {0}

-- cases are taken as labels are
abbrev pub FollowsCopy : Option Name → Bool → (CaseLabel → Bool) → Type 0
FollowsCopy (Some text) t taken = taken (case_label.Action text) ≡ t
FollowsCopy None t taken = t ≡ false

abbrev pub FollowsLabel : (Name → Option Name) → (Label → Bool) → (CaseLabel → Bool) → Label → Type 0
FollowsLabel copy taken cases (label.Action a) = FollowsCopy (copy a) (taken (label.Action a)) cases
FollowsLabel copy taken cases label.Default = cases case_label.Default ≡ taken label.Default
FollowsLabel copy taken cases _ = ⊥

abbrev pub Follows : (Name → Option Name) → (Label → Bool) → (CaseLabel → Bool) → Stmt → Type 0
Follows copy taken cases (branch before l body) = FollowsLabel copy taken cases l × Follows copy taken cases before
Follows copy taken cases _ = Unit {0}

module _ (w : Words) (ds : List Decl) (k : Plan) (t : Name) where
  abbrev pub low : Stmt → Stmt16
  low x = control_stmt w ds k (at_actions t) x

  abbrev FitHere : StateLayout → (Name → Type 0) → Stmt → Type 0
  FitHere g P x = StatementFits g ds P (at_actions t) x

  label_same : (g : StateLayout) (P : Name → Type 0) (taken : Label → Bool) (cases : CaseLabel → Bool) (l : Label) (before : Stmt) (body : Stmt16) → IsActionLabel l → FollowsLabel (k.copy t) taken cases l → has_label cases (low before) ≡ has_taken taken before → has_label cases (labelled_case k t l (low before) body) ≡ (taken l || has_taken taken before)
  label_same g P taken cases label.Hit before body is follows same = absurd is
  label_same g P taken cases label.Miss before body is follows same = absurd is
  label_same g P taken cases label.Default before body is follows same = ap₂ (λ a b. a || b) same follows ∙ turned (has_taken taken before) (taken label.Default) where
    turned : (a b : Bool) → (a || b) ≡ (b || a)
    turned true true = refl
    turned true false = refl
    turned false true = refl
    turned false false = refl
  label_same g P taken cases (label.Action a) before body is follows same = by (k.copy t a) follows where
    turned : (a b : Bool) → (a || b) ≡ (b || a)
    turned true true = refl
    turned true false = refl
    turned false true = refl
    turned false false = refl

    by : (o : Option Name) → FollowsCopy o (taken (label.Action a)) cases → has_label cases (case_stmt o (low before) body) ≡ (taken (label.Action a) || has_taken taken before)
    by (Some text) f = ap₂ (λ a b. a || b) same f ∙ turned (has_taken taken before) (taken (label.Action a))
    by None f = same ∙ ap (λ b. b || has_taken taken before) (sym f)

  -- some case is taken where some label is
  pub labels_same : (g : StateLayout) (P : Name → Type 0) (taken : Label → Bool) (cases : CaseLabel → Bool) (x : Stmt) → FitHere g P x → Follows (k.copy t) taken cases x → has_label cases (low x) ≡ has_taken taken x
  labels_same g P taken cases (branch before l body) fits follows =
      label_same g P taken cases l before _ fits.0.0 follows.0 (labels_same g P taken cases before fits.1 follows.1)
  labels_same g P taken cases no_branches fits follows = refl
  labels_same g P taken cases nothing14 fits follows = absurd fits
  labels_same g P taken cases (then14 a b) fits follows = absurd fits.0
  labels_same g P taken cases (apply a) fits follows = absurd fits.0
  labels_same g P taken cases (apply_branches a b) fits follows = absurd fits.0
  labels_same g P taken cases (if14 e a b) fits follows = absurd fits.0
  labels_same g P taken cases (call14 a) fits follows = absurd fits
  labels_same g P taken cases no_else fits follows = absurd fits
  labels_same g P taken cases (else_block a) fits follows = absurd fits.0
  labels_same g P taken cases (else_if a) fits follows = absurd fits.0

-- where no label is taken, branches do nothing
pub none_taken : (d : Setting14) (g : StateLayout) (ds : List Decl) (P : Name → Type 0) (t : Name) (taken : Label → Bool) (x : Stmt) (m : Moment14) → StatementFits g ds P (at_actions t) x → has_taken taken x ≡ false → run14 d taken x m ≡ m
none_taken d g ds P t taken (branch before l body) m fits none = by (taken l) none (none_taken d g ds P t taken before m fits.1) where
  by : (b : Bool) → (b || has_taken taken before) ≡ false → (has_taken taken before ≡ false → run14 d taken before m ≡ m) → cond b (run14 d taken body m) (run14 d taken before m) ≡ m
  by true e rest = absurd (cc e)
  by false e rest = rest e
none_taken d g ds P t taken no_branches m fits none = refl
none_taken d g ds P t taken nothing14 m fits none = absurd fits
none_taken d g ds P t taken (then14 a b) m fits none = absurd fits.0
none_taken d g ds P t taken (apply a) m fits none = absurd fits.0
none_taken d g ds P t taken (apply_branches a b) m fits none = absurd fits.0
none_taken d g ds P t taken (if14 e a b) m fits none = absurd fits.0
none_taken d g ds P t taken (call14 a) m fits none = absurd fits
none_taken d g ds P t taken no_else m fits none = absurd fits
none_taken d g ds P t taken (else_block a) m fits none = absurd fits.0
none_taken d g ds P t taken (else_if a) m fits none = absurd fits.0
