-- What running a node, and all nodes, comes to.
use Rattle.std.proofs.Common.{◌≡◌, ℕ, zero, suc, ◌<◌, min, Bool, List, [], ◌∷◌, length, map, drop, slice_get, Option, Some, None, refl, sym, ap, ◌∙◌, subst, arith}
use Rattle.std.specs.Prelude.{MatchOption, if◌then◌else◌, option_and_then, slice_index_or}
use Rattle.std.specs.Str.{bytes_eq}
use Rattle.std.proofs.lemmas.List.Quantifiers.{position-Some}
use Rattle.std.proofs.lemmas.List.{drop_all, length-map}
use Rattle.state_store.specs.State.{Contents}
use Rattle.p414_syntax.specs.Tree.{Stmt, no_statements}
use Rattle.p414_syntax.specs.Views.{ControlTree}
use Rattle.p414_syntax.specs.Names.{Name}
use Rattle.p414_syntax.specs.ControlExpansion.{PipelineExpands, StatementExpands, control_name, control_number, controls}
use Rattle.p414_sem.specs.Conditions.{holds}
use Rattle.p414_sem.specs.Expanded.{Expanded, IsExpanded}
use Rattle.p414_sem.specs.Effects.{Moment}
use Rattle.p414_sem.specs.Controls.{Setting, control_run, no_label}
use Rattle.p414_state.specs.Packets.{Packet}
use Rattle.p414_act_run.specs.Moments.{moment}
use Rattle.p414_ready_conditions.specs.declared.rows.ConditionRow.{ConditionRow}
use Rattle.p414_ready_conditions.specs.Running.{rows_hold}
use Rattle.p414_ready_conditions.proofs.Meaning.{rows_mean}
use Rattle.p414_ready_controls.specs.declared.nodes.ReadyLabel.{ReadyLabel}
use Rattle.p414_ready_controls.specs.declared.nodes.ControlNode.{ControlNode}
use Rattle.p414_ready_controls.specs.declared.nodes.ControlNode.TheVariants as node
use Rattle.p414_ready_controls.specs.Nodes.{control_nodes}
use Rattle.p414_ready_tables.specs.declared.applied.ReadyApplied.{ReadyApplied}
use Rattle.p414_ready_tables.specs.Loaded.{Loaded, setting}
use Rattle.p414_control_run.specs.declared.taken.Taken.{Taken}
use Rattle.p414_control_run.specs.Branches.{is_among, takes_label}
use Rattle.p414_control_run.specs.Leads.{Left, Leads, Ends, body_at, left_of}
use Rattle.p414_control_run.specs.Steps.{Applies, GoesOn, PassesOn}
use Rattle.p414_control_run.proofs.Front.{called, ended, front}

-- nodes behind so many

pub drop_min : {X : Type 0} (xs : List X) (n : ℕ) → drop (min (length xs) n) xs ≡ drop n xs
drop_min [] n = drop_all (min 0 n) [] (omega arith) ∙ sym (drop_all n [] (omega arith))
drop_min (x ∷ xs) zero =
    let none : min (suc (length xs)) 0 ≡ 0 = omega arith in ap (λ (k : ℕ). drop k (x ∷ xs)) none
drop_min (x ∷ xs) (suc n) =
    let more : min (suc (length xs)) (suc n) ≡ suc (min (length xs) n) = omega arith in
    ap (λ (k : ℕ). drop k (x ∷ xs)) more ∙ drop_min xs n

-- nodes that put others in front

module _ (c : Loaded) (t : Option Taken) (rest : List ControlNode) (old new : List Left) (p : Packet) (s : Contents) where
  abbrev LeadsTo : Expanded → List Left → Moment → Type 0
  LeadsTo x left due = Leads (setting c x) left (moment p s) due

  pub both_passes : (n : ℕ) → new ≡ left_of t rest ∷ left_of t (drop n rest) ∷ old → PassesOn c t (node.Both n) rest old new p p s s
  both_passes n is = record {
    layout = refl;
    shapes = refl;
    leads = λ x ex due h. subst (λ (l : List Left). LeadsTo x l due) (sym is) h;
  }

  pub inner_passes : new ≡ left_of t rest ∷ old → PassesOn c t node.Inner rest old new p p s s
  inner_passes is = record {
    layout = refl;
    shapes = refl;
    leads = λ x ex due h. subst (λ (l : List Left). LeadsTo x l due) (sym is) h;
  }

  pub call_passes : (control : Option ℕ) → new ≡ left_of t (body_at (control_nodes c.decls) control) ∷ old → PassesOn c t (node.Call control) rest old new p p s s
  call_passes control is = record {
    layout = refl;
    shapes = refl;
    leads = λ x ex due h. subst (λ (l : List Left). LeadsTo x l due) (sym is) h;
  }

  pub branch_passes : (l : ReadyLabel) (n : ℕ) → new ≡ left_of t (if takes_label t l then drop n rest else rest) ∷ old → PassesOn c t (node.Branch l n) rest old new p p s s
  branch_passes l n is = record {
    layout = refl;
    shapes = refl;
    leads = λ x ex due h. subst (λ (k : List Left). LeadsTo x k due) (sym is) h;
  }

  abbrev chosen : ℕ → Bool → List Left
  chosen n first = left_of t (if first then rest else drop n rest) ∷ old

  pub if_passes : (rows : List ConditionRow) (n : ℕ) → new ≡ left_of t (if rows_hold p.state rows then rest else drop n rest) ∷ old → PassesOn c t (node.If rows n) rest old new p p s s
  if_passes rows n is = record {
    layout = refl;
    shapes = refl;
    leads = λ x ex due h.
        let same : rows_hold p.state rows ≡ holds c.decls p.state h.condition =
        (rows_mean c.decls h.condition rows h.are).tells p.state in
        subst (λ (k : List Left). LeadsTo x k due) (sym (is ∙ ap (chosen n) same)) h.leads;
  }

  pub nothing_passes : new ≡ old → PassesOn c t node.Nothing rest old new p p s s
  nothing_passes is = record {
    layout = refl;
    shapes = refl;
    leads = λ x ex due h. subst (λ (k : List Left). LeadsTo x k due) (sym is) h;
  }

-- tables

pub applies_seen : (v now : Loaded) (k : ℕ) (a : ReadyApplied) (m left : Moment) → v ≡ now → Applies v k a m left → Applies now k a m left
applies_seen v now k a m left same applies = subst (λ (c : Loaded). Applies c k a m left) same applies

module _ (c : Loaded) (t : Option Taken) (rest : List ControlNode) (old : List Left) (p q : Packet) (before behind : Contents) (k : ℕ) (a : ReadyApplied) (layout : q.layout ≡ p.layout) (shapes : behind.shapes ≡ before.shapes) (applies : Applies c k a (moment p before) (moment q behind)) where
  pub apply_passes : PassesOn c t (node.Apply k) rest old old p q before behind
  apply_passes = record {
    layout = layout;
    shapes = shapes;
    leads = λ x ex due h.
        subst (λ (m : Moment). Leads (setting c x) old m due) (sym (applies x ex h.name h.place).moment) h.leads;
  }

  pub branches_pass : (named : List ℕ) (new : List Left) (taken : Taken) → taken ≡ record { hit = a.hit; action = a.action; named = is_among a.action named } → new ≡ left_of (Some taken) rest ∷ old → PassesOn c t (node.ApplyBranches k named) rest old new p q before behind
  branches_pass named new taken is_taken is = record {
    layout = layout;
    shapes = shapes;
    leads = λ x ex due h.
        let due_now = applies x ex h.name h.place in
        let now : Taken = record { hit = a.hit; action = a.action; named = is_among a.action named } in
        subst (λ (l : List Left). Leads (setting c x) l (moment q behind) due)
        (sym (is ∙ ap (λ (u : Taken). left_of (Some u) rest ∷ old) is_taken))
        (subst (λ (m : Moment). Leads (setting c x) (left_of (Some now) rest ∷ old) m due) (sym due_now.moment)
        (h.leads now (record { hit = due_now.hit; action = due_now.action; among = refl })));
  }

-- one after another

front_goes : (c : Loaded) (t : Option Taken) (nodes : List ControlNode) (n : ControlNode) (rest : List ControlNode) (old new : List Left) (p q : Packet) (before behind : Contents) → nodes ≡ n ∷ rest → PassesOn c t n rest old new p q before behind → GoesOn c (left_of t nodes ∷ old) new p q before behind
front_goes c t nodes n rest old new p q before behind is on = record {
  layout = on.layout;
  shapes = on.shapes;
  leads = λ x ex due h.
      on.leads x ex due (front (setting c x) (control_nodes c.decls) refl t nodes n rest old (moment p before) due is h);
}

pub front_seen : (c : Loaded) (w : Left) (t : Option Taken) (nodes : List ControlNode) (n : ControlNode) (rest : List ControlNode) (old new : List Left) (p q : Packet) (before behind : Contents) → left_of t nodes ≡ w → nodes ≡ n ∷ rest → PassesOn c t n rest old new p q before behind → GoesOn c (w ∷ old) new p q before behind
front_seen c w t nodes n rest old new p q before behind same is on =
    subst (λ (l : Left). GoesOn c (l ∷ old) new p q before behind) same
    (front_goes c t nodes n rest old new p q before behind is on)

pub goes_nowhere : (c : Loaded) (left : List Left) (p : Packet) (s : Contents) → GoesOn c left left p p s s
goes_nowhere c left p s = record { layout = refl; shapes = refl; leads = λ x ex due h. h }

goes_further : (c : Loaded) (a b d : List Left) (p q r : Packet) (s t u : Contents) → GoesOn c a b p q s t → GoesOn c b d q r t u → GoesOn c a d p r s u
goes_further c a b d p q r s t u first second = record {
  layout = second.layout ∙ first.layout;
  shapes = second.shapes ∙ first.shapes;
  leads = λ x ex due h. second.leads x ex due (first.leads x ex due h);
}

pub goes_turn : (c : Loaded) (first : Left) (a b d new : List Left) (p q r : Packet) (s t u : Contents) → b ≡ first ∷ d → GoesOn c a b p q s t → GoesOn c (first ∷ d) new q r t u → GoesOn c a new p r s u
goes_turn c first a b d new p q r s t u is before next =
    goes_further c a (first ∷ d) new p q r s t u (subst (λ (l : List Left). GoesOn c a l p q s t) is before) next

pub goes_end : (c : Loaded) (a b : List Left) (p q : Packet) (s t : Contents) → b ≡ [] → GoesOn c a b p q s t → GoesOn c a [] p q s t
goes_end c a b p q s t none goes = subst (λ (l : List Left). GoesOn c a l p q s t) none goes

-- the body of a control

pub body_is : (v c : Loaded) (bodies : List (List ControlNode)) (k : ℕ) (nodes : List ControlNode) → v ≡ c → bodies ≡ control_nodes v.decls → nodes ≡ slice_index_or bodies k [] → nodes ≡ body_at (control_nodes c.decls) (Some k)
body_is v c bodies k nodes same all is =
    is
    ∙ ap (λ (l : List (List ControlNode)). slice_index_or l k []) (all ∙ ap (λ (w : Loaded). control_nodes w.decls) same)

pub begun_goes : (c : Loaded) (nodes body : List ControlNode) (left : List Left) (p q : Packet) (s t : Contents) → nodes ≡ body → left ≡ left_of None nodes ∷ [] → GoesOn c left [] p q s t → GoesOn c (left_of None body ∷ []) [] p q s t
begun_goes c nodes body left p q s t same is goes =
    subst (λ (l : List Left). GoesOn c l [] p q s t)
    (is ∙ ap (λ (b : List ControlNode). left_of None b ∷ []) same) goes

-- a pipeline

none_by : (c : Setting) (body : Stmt) (m : Moment) (o : Option ℕ) → None ≡ o → MatchOption (option_and_then (slice_get (controls c.decls)) o) (body ≡ no_statements) (λ (control : ControlTree). StatementExpands c.decls control.body body) → m ≡ control_run c body m
none_by c body m None e nothing = sym (ap (λ (b : Stmt). control_run c b m) nothing)
none_by c body m (Some n) e ex = absurd (cc e)

pub none_runs : (c : Loaded) (m : Moment) (x : Expanded) (pipeline : Name) (body : Stmt) → None ≡ control_number c.decls pipeline → PipelineExpands c.decls pipeline body → m ≡ control_run (setting c x) body m
none_runs c m x pipeline body none ex = none_by (setting c x) body m (control_number c.decls pipeline) none ex

there_is : {X : Type 0} (xs : List X) (n : ℕ) → n < length xs → (x : X) × (slice_get xs n ≡ Some x)
there_is [] n lt = absurd (omega (arith, lt))
there_is (x ∷ xs) zero lt = (x, refl)
there_is (x ∷ xs) (suc n) lt = there_is xs n (omega (arith, lt))

pub some_runs : (c : Loaded) (k : ℕ) (p q : Packet) (before behind : Contents) (x : Expanded) (pipeline : Name) (body : Stmt) → GoesOn c (left_of None (body_at (control_nodes c.decls) (Some k)) ∷ []) [] p q before behind → IsExpanded c.decls x → Some k ≡ control_number c.decls pipeline → PipelineExpands c.decls pipeline body → moment q behind ≡ control_run (setting c x) body (moment p before)
some_runs c k p q before behind x pipeline body goes ex is to_body =
    ended (setting c x) (moment q behind) due (goes.leads x ex due begins) where
      due : Moment
      due = control_run (setting c x) body (moment p before)

      within : k < length (controls c.decls)
      within =
          let inside : k < length (map control_name (controls c.decls)) = (position-Some (bytes_eq pipeline) (map control_name (controls c.decls)) k [] (sym is)).0 in
          omega (arith, inside, length-map (controls c.decls) control_name)

      found : (control : ControlTree) × (slice_get (controls c.decls) k ≡ Some control)
      found = there_is (controls c.decls) k within

      expands : StatementExpands c.decls found.0.body body
      expands =
          subst (λ (o : Option ControlTree). MatchOption o (body ≡ no_statements) (λ (control : ControlTree). StatementExpands c.decls control.body body))
          (ap (option_and_then (slice_get (controls c.decls))) (sym is) ∙ found.1) to_body

      begins : Leads (setting c x) (left_of None (body_at (control_nodes c.decls) (Some k)) ∷ []) (moment p before) due
      begins =
          called (setting c x) (control_nodes c.decls) None no_label pipeline found.0 body (Some k) [] (moment p before) due refl found.1
          (record { so = λ l. refl }) expands (Ends due)
