-- What a control of the program comes to can be lowered: no call is left, and labels stand as they have to.
use Rattle.std.proofs.Common.{◌≡◌, Bool, true, false, not, ◌&&◌, ◌||◌, List, [], ◌∷◌, ◌++◌, Option, Some, None, refl, sym, ap, ap₂, ◌∙◌, subst}
use Rattle.std.specs.Prelude.{MatchOption, codes}
use Rattle.std.specs.List.{list_any}
use Rattle.std.specs.Str.{bytes_eq}
use Rattle.std.proofs.lemmas.List.Folds.{list_any-append}
use Rattle.p414_syntax.specs.Conditions.{StmtPlace, block as a_block, statement as a_statement, behind_if, branches, is_stmt, is_label, labels_of, is_outcome, is_mixed, are_labels, own_labels, is_expr, is_if, all_different, is_among}
use Rattle.p414_syntax.specs.Written.{label_text}
use Rattle.p414_syntax.specs.declared.node.Label.{Label}
use Rattle.p414_syntax.specs.declared.node.Label.TheVariants as label
use Rattle.p414_syntax.specs.declared.syntax.Decl.{Decl}
use Rattle.p414_syntax.specs.Tree.{Stmt, no_statements as nothing14, no_branches, branch}
use Rattle.p414_syntax.specs.Views.{ControlTree}
use Rattle.p414_syntax.specs.Names.{Name}
use Rattle.p414_syntax.specs.ControlExpansion.{StatementExpands, NoStatements, Then, Apply, ApplyBranches, If, Call, NoElse, ElseBlock, ElseIf, NoBranches, Branch, control_of, PipelineExpands}
use Rattle.agreement_of_meanings.proofs.Names.{same_name, other_name}
use Rattle.lower_laws_base.specs.Context.{StateLayout}
use Rattle.lower_laws_controls.specs.Controls.{Way, block, at_hit, at_miss, at_actions, has_outcome}
use Rattle.lower_laws_controls.specs.Alike.{IsOutcome, IsActionLabel, is_same_label, has_same, LabelFits, BranchesFit, StatementFits, IsNotBlock}
use Rattle.lower_laws_controls.specs.Expanding.{PartsFit, ControlsFit}

both : (a b : Bool) → (a && b) ≡ true → (a ≡ true) × (b ≡ true)
both true b e = (refl, e)
both false b e = absurd (cc e)

pub turned : (a : Bool) → not a ≡ true → a ≡ false
turned true e = absurd (cc e)
turned false e = refl

pub neither : (a b : Bool) → (a || b) ≡ false → (a ≡ false) × (b ≡ false)
neither true b e = absurd (cc e)
neither false b e = (refl, e)

-- labels of a list of branches

abbrev LabelsFit : Way → Stmt → Type 0
LabelsFit way (branch before l body) = LabelFits way before l × LabelsFit way before
LabelsFit way _ = Unit {0}

-- no label passes behind others that don't
none_before : (p : Name → Bool) (before : Stmt) (t : Name) → list_any p (labels_of before ++ t ∷ []) ≡ false → (list_any p (labels_of before) ≡ false) × (p t ≡ false)
none_before p before t e =
    let s = neither (list_any p (labels_of before)) (p t || false) (sym (list_any-append p (labels_of before) (t ∷ [])) ∙ e) in
    (s.0, (neither (p t) false s.1).0)

-- an action of the program has none of the words of labels
plain_action : (a : Name) → is_label (label.Action a) ≡ true → is_outcome a ≡ false
plain_action a e =
    let free = turned (is_among a own_labels) e in
    let first = neither (bytes_eq a (codes "hit")) (bytes_eq a (codes "miss") || (bytes_eq a (codes "default") || false)) free in
    let second = neither (bytes_eq a (codes "miss")) (bytes_eq a (codes "default") || false) first.1 in
    ap₂ (λ x y. x || (y || false)) first.0 second.0

outcome_label : (l : Label) → is_label l ≡ true → not (is_outcome (label_text l)) ≡ false → IsOutcome l
outcome_label label.Hit a b = tt
outcome_label label.Miss a b = tt
outcome_label label.Default a b = absurd (cc b)
outcome_label (label.Action x) a b = absurd (cc (b, plain_action x a))

action_label : (l : Label) → is_outcome (label_text l) ≡ false → IsActionLabel l
action_label label.Hit b = absurd (cc b)
action_label label.Miss b = absurd (cc b)
action_label label.Default b = tt
action_label (label.Action x) b = tt

outcomes_fit : (bs : Stmt) → is_stmt branches bs ≡ true → list_any (λ t. not (is_outcome t)) (labels_of bs) ≡ false → LabelsFit at_hit bs × LabelsFit at_miss bs
outcomes_fit (branch before l body) is none =
    let s = both (is_stmt branches before) (is_label l && is_stmt a_block body) is in
    let n = none_before (λ t. not (is_outcome t)) before (label_text l) none in
    let own = outcome_label l (both (is_label l) (is_stmt a_block body) s.1).0 n.1 in
    let rest = outcomes_fit before s.0 n.0 in ((own, rest.0), (own, rest.1))
outcomes_fit _ is none = (tt, tt)

-- a label that differs from those before it
same_false : (l k : Label) → bytes_eq (label_text k) (label_text l) ≡ false → is_same_label l k ≡ false
same_false label.Default label.Default e = absurd (cc e)
same_false (label.Action a) (label.Action b) e = other_name a b (λ same. absurd (cc (e, same_name a, same)))
same_false _ _ e = refl

has_same_false : (l : Label) (before : Stmt) → list_any (λ t. bytes_eq t (label_text l)) (labels_of before) ≡ false → has_same l before ≡ false
has_same_false l (branch before k body) e =
    let n = none_before (λ t. bytes_eq t (label_text l)) before (label_text k) e in
    ap₂ (λ x y. x || y) (same_false l k n.1) (has_same_false l before n.0)
has_same_false l _ e = refl

last_differs : (xs : List Name) (t : Name) → all_different (xs ++ t ∷ []) ≡ true → (all_different xs ≡ true) × (list_any (λ x. bytes_eq x t) xs ≡ false)
last_differs [] t e = (refl, refl)
last_differs (x ∷ xs) t e =
    let s = both (not (is_among x (xs ++ t ∷ []))) (all_different (xs ++ t ∷ [])) e in
    let n = neither (list_any (bytes_eq x) xs) (bytes_eq x t || false) (sym (list_any-append (bytes_eq x) xs (t ∷ [])) ∙ turned (is_among x (xs ++ t ∷ [])) s.0) in
    let rest = last_differs xs t s.1 in
    (ap₂ (λ a b. not a && b) n.0 rest.0, ap₂ (λ a b. a || b) (neither (bytes_eq x t) false n.1).0 rest.1)

actions_fit : (name : Name) (bs : Stmt) → list_any is_outcome (labels_of bs) ≡ false → all_different (labels_of bs) ≡ true → LabelsFit (at_actions name) bs
actions_fit name (branch before l body) none differ =
    let n = none_before is_outcome before (label_text l) none in
    let d = last_differs (labels_of before) (label_text l) differ in
    ((action_label l n.1, has_same_false l before d.1), actions_fit name before n.0 d.0)
actions_fit name _ none differ = tt

-- labels as the grammar has them
abbrev AsTold : Name → Bool → Stmt → Type 0
AsTold name b bs = BranchesFit (λ way. LabelsFit way bs) name b

labels_fit : (name : Name) (bs : Stmt) → is_stmt branches bs ≡ true → are_labels (labels_of bs) ≡ true → AsTold name (has_outcome bs) bs
labels_fit name (branch before l body) is told = by l refl where
  labels : List Name
  labels = labels_of before ++ label_text l ∷ []

  split : (all_different labels ≡ true) × (not (is_mixed labels) ≡ true)
  split = both (all_different labels) (not (is_mixed labels)) told

  -- where one is such, all are
  other : (b d : Bool) → (b && d) ≡ false → b ≡ true → d ≡ false
  other true d e f = e
  other false d e f = absurd (cc f)

  last_one : (p : Name → Bool) (k : Label) → l ≡ k → p (label_text k) ≡ true → list_any p labels ≡ true
  last_one p k same e = list_any-append p (labels_of before) (label_text l ∷ []) ∙ ap (λ b. list_any p (labels_of before) || (b || false)) (ap (λ k. p (label_text k)) same ∙ e) ∙ ends (list_any p (labels_of before)) where
    ends : (b : Bool) → (b || (true || false)) ≡ true
    ends true = refl
    ends false = refl

  swapped : (a b : Bool) → (a && b) ≡ (b && a)
  swapped true true = refl
  swapped true false = refl
  swapped false true = refl
  swapped false false = refl

  mixed : (list_any is_outcome labels && list_any (λ t. not (is_outcome t)) labels) ≡ false
  mixed = turned (is_mixed labels) split.1

  outcomes : (k : Label) → l ≡ k → is_outcome (label_text k) ≡ true → LabelsFit at_hit (branch before l body) × LabelsFit at_miss (branch before l body)
  outcomes k same e = outcomes_fit (branch before l body) is (other (list_any is_outcome labels) (list_any (λ t. not (is_outcome t)) labels) mixed (last_one is_outcome k same e))

  actions : (k : Label) → l ≡ k → is_outcome (label_text k) ≡ false → LabelsFit (at_actions name) (branch before l body)
  actions k same e =
      actions_fit name (branch before l body)
      (other (list_any (λ t. not (is_outcome t)) labels) (list_any is_outcome labels) (swapped (list_any (λ t. not (is_outcome t)) labels) (list_any is_outcome labels) ∙ mixed) (last_one (λ t. not (is_outcome t)) k same (ap not e))) split.0

  by : (k : Label) → l ≡ k → AsTold name (has_outcome (branch before l body)) (branch before l body)
  by label.Hit same = subst (λ z. AsTold name (has_outcome (branch before z body)) (branch before l body)) (sym same) (outcomes label.Hit same refl)
  by label.Miss same = subst (λ z. AsTold name (has_outcome (branch before z body)) (branch before l body)) (sym same) (outcomes label.Miss same refl)
  by label.Default same = subst (λ z. AsTold name (has_outcome (branch before z body)) (branch before l body)) (sym same) (actions label.Default same refl)
  by (label.Action a) same =
      let s = both (is_stmt branches before) (is_label l && is_stmt a_block body) is in
      let own = (both (is_label l) (is_stmt a_block body) s.1).0 in
      subst (λ z. AsTold name (has_outcome (branch before z body)) (branch before l body)) (sym same)
      (actions (label.Action a) same (plain_action a (subst (λ z. is_label z ≡ true) same own)))
labels_fit name no_branches is told = tt
labels_fit name _ is told = absurd (cc is)

-- expansion

module _ (g : StateLayout) (ds : List Decl) (P : Name → Type 0) (controls : ControlsFit g ds P) where
  abbrev Fit : Way → Stmt → Type 0
  Fit way x = StatementFits g ds P way x

  -- what is shown at each place; of branches, where their labels fit
  abbrev FitsAs : StmtPlace → Stmt → Stmt → Type 0
  FitsAs branches a x = ((way : Way) → IsNotBlock way → LabelsFit way a → Fit way x) × (has_outcome x ≡ has_outcome a) × ((l : Label) → has_same l x ≡ has_same l a)
  FitsAs place a x = Fit block x

  told_so : (name : Name) (a x : Stmt) (b : Bool) → FitsAs branches a x → AsTold name b a → BranchesFit (λ way. Fit way x) name b
  told_so name a x true fits labels = (fits.0 at_hit tt labels.0, fits.0 at_miss tt labels.1)
  told_so name a x false fits labels = fits.0 (at_actions name) tt labels

  label_kept : (way : Way) (a x : Stmt) (l : Label) → ((l : Label) → has_same l x ≡ has_same l a) → IsNotBlock way → LabelFits way a l → LabelFits way x l
  label_kept block a x l same is fits = absurd is
  label_kept at_hit a x l same is fits = fits
  label_kept at_miss a x l same is fits = fits
  label_kept (at_actions t) a x l same is fits = (fits.0, same l ∙ fits.1)

  pub expands : (place : StmtPlace) (a x : Stmt) → StatementExpands ds a x → is_stmt place a ≡ true → PartsFit g ds P a → FitsAs place a x
  expands a_block _ _ NoStatements is fits = tt
  expands a_block _ _ (Then a b x y p q) is fits =
      let s = both (is_stmt a_block a) (is_stmt a_statement b) is in
      (tt, expands a_block a x p s.0 fits.0, expands a_statement b y q s.1 fits.1)
  expands a_statement _ _ (Apply t) is fits = (tt, fits)
  expands a_statement _ _ (ApplyBranches t bs x p) is fits =
      let s = both (is_stmt branches bs) (are_labels (labels_of bs)) is in
      let more = expands branches bs x p s.0 fits.1 in
      (tt, fits.0, subst (λ b. BranchesFit (λ way. Fit way x) t b) (sym more.1) (told_so t bs x (has_outcome bs) more (labels_fit t bs s.0 s.1)))
  expands a_statement _ _ (If e a b x y p q) is fits =
      let s = both (is_expr 0 e) (is_stmt a_block a && is_stmt behind_if b) is in
      let r = both (is_stmt a_block a) (is_stmt behind_if b) s.1 in
      (tt, fits.0, expands a_block a x p r.0 fits.1, expands behind_if b y q r.1 fits.2)
  expands a_statement _ _ (Call name c body found p) is fits =
      let control = controls name c found in expands a_block c.body body p control.is control.parts
  expands behind_if _ _ NoElse is fits = tt
  expands behind_if _ _ (ElseBlock a x p) is fits = (tt, expands a_block a x p is fits)
  expands behind_if _ _ (ElseIf a x p) is fits = (tt, expands a_statement a x p (both (is_if a) (is_stmt a_statement a) is).1 fits)
  expands branches _ _ NoBranches is fits = (λ way apart labels. none way apart, refl, λ l. refl) where
    none : (way : Way) → IsNotBlock way → Fit way no_branches
    none block apart = absurd apart
    none at_hit apart = tt
    none at_miss apart = tt
    none (at_actions t) apart = tt
  expands branches _ _ (Branch a b x y l p q) is fits =
      let s = both (is_stmt branches a) (is_label l && is_stmt a_block b) is in
      let more = expands branches a x p s.0 fits.0 in
      let body = expands a_block b y q (both (is_label l) (is_stmt a_block b) s.1).1 fits.1 in
      (λ way apart labels. (label_kept way a x l more.2 apart labels.0, more.0 way apart labels.1, body), refl, λ k. ap (λ z. is_same_label k l || z) (more.2 k))
  expands _ _ _ _ is fits = absurd (cc is)

  -- what a pipeline comes to
  pub pipeline_fits : (pipeline : Name) (x : Stmt) → PipelineExpands ds pipeline x → Fit block x
  pipeline_fits pipeline x is = by (control_of ds pipeline) refl is where
    by : (o : Option ControlTree) → control_of ds pipeline ≡ o → MatchOption o (x ≡ nothing14) (λ (control : ControlTree). StatementExpands ds control.body x) → Fit block x
    by None e same = subst (Fit block) (sym same) tt
    by (Some c) e more = let control = controls pipeline c e in expands a_block c.body x more control.is control.parts
