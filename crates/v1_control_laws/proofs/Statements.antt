-- What statements keep, and the bodies of actions.
use Rattle.std.proofs.Common.{◌≡◌, ℕ, zero, suc, Bool, cond, Some, refl}
use Rattle.p416_syntax.specs.declared.controls.Action16.{Action16}
use Rattle.p416_syntax.specs.declared.node.CaseLabel.{CaseLabel}
use Rattle.p416_syntax.specs.Tree.{Exp16, Stmt16, no_statements, then, block, empty, var, var_is, assign, expression, if_then, if_else, switch, no_cases, case_of}
use Rattle.p416_syntax.specs.Kinds.{boolean}
use Rattle.p416_syntax.specs.Scopes.{Scope, kind_of_type}
use Rattle.p416_syntax.specs.Names.{Name}
use Rattle.p416_syntax.specs.Calls.{value, statement}
use Rattle.p416_syntax.specs.Expressions.{kind_of}
use Rattle.p416_syntax.specs.Statements.{behind, assigned_place}
use Rattle.p416_syntax.specs.Declarations.{action_scope}
use Rattle.v1_core.specs.Values.{is_true, fitted, a_member}
use Rattle.v1_core.specs.Frames.{Moment, Reference, ticked, is_stopped, declared, put_at, closed, without}
use Rattle.v1_core.specs.Surroundings.{Surroundings, World, no_table_applies, action_named}
use Rattle.v1_core.specs.Expressions.{value_of, reference_of}
use Rattle.v1_core.specs.Calls.{call_statement}
use Rattle.v1_core.specs.Statements.{starts, initialized, assigned, condition, has_label, chosen_label, no_label, run}
use Rattle.v1_core.specs.Blocks.{act_at}
use Rattle.v1_statement_laws.specs.Meeting.{StatementMeets}
use Rattle.v1_control_laws.specs.Erring.{Free, FreeAt, BodiesFree}
use Rattle.v1_control_laws.proofs.Values.{either, Kept, Keeps, reference_means, value_kept}
use Rattle.v1_control_laws.proofs.Calling.{going_kept, call_kept}

module _ (w : World) (R : Type 0) (Q : Moment → Type 0) (Good : Reference → Type 0) (kept : Kept w.around R Q Good) (keeps : Keeps w Q) where
  ticked_kept : (m : Moment) → Q m → Q (ticked m)
  ticked_kept m h = kept.others m (ticked m) refl refl refl h

  closed_kept : (before m : Moment) → Q m → Q (closed before m)
  closed_kept before m h = kept.inner (without _ m.frame.inner) m h

  assigned_kept : (s : Scope) (target e : Exp16) (m : Moment) → Free R s target → Free R s e → Q m → Q (assigned w s target e m)
  assigned_kept s target e m to free h =
      let r = reference_of w.around s target m in
      let means = reference_means w.around R Q Good kept s target m to h in
      let x = value_of w s (assigned_place (kind_of s target)) e r.moment in
      let k = value_kept w R Q Good kept keeps.applies s (assigned_place (kind_of s target)) e r.moment free means.moment in
      going_kept w.around R Q Good kept (put_at r.reference x.value) x.moment k (kept.puts r.reference x.value x.moment means.good k)

  pub run_kept : (s : Scope) (taken : CaseLabel → Bool) (x : Stmt16) (m : Moment) → StatementMeets (FreeAt R) s x → Q m → Q (run w s taken x m)
  run_kept s taken no_statements m free h = h
  run_kept s taken ((then) before last) m free h = run_kept (behind before s) taken last (run w s taken before m) free.1 (run_kept s taken before m free.0 h)
  run_kept s taken (block body) m free h = closed_kept m (run w s no_label body m) (run_kept s no_label body m free h)
  run_kept s taken empty m free h = h
  run_kept s taken (var t called) m free h = going_kept w.around R Q Good kept (declared called (starts s t)) m h (kept.inner (a_member called (starts s t) m.frame.inner) m h)
  run_kept s taken (var_is t called e) m free h =
      let x = value_of w s (value (kind_of_type s.names t)) e (ticked m) in
      let k = value_kept w R Q Good kept keeps.applies s (value (kind_of_type s.names t)) e (ticked m) free.0 (ticked_kept m h) in
      either Q (is_stopped m) m (initialized s t called x) h
      (going_kept w.around R Q Good kept (declared called (fitted (starts s t) x.value)) x.moment k (kept.inner (a_member called (fitted (starts s t) x.value) x.moment.frame.inner) x.moment k))
  run_kept s taken (assign target e) m free h = either Q (is_stopped m) m (assigned w s target e (ticked m)) h (assigned_kept s target e (ticked m) free.0.0 free.1.0 (ticked_kept m h))
  run_kept s taken (expression e) m free h = either Q (is_stopped m) m (call_statement w s e (ticked m)) h (call_kept w R Q Good kept keeps s statement e (ticked m) free (ticked_kept m h))
  run_kept s taken (if_then c positive) m free h =
      let x = condition w s c (ticked m) in
      let k = value_kept w R Q Good kept keeps.applies s (value boolean) c (ticked m) free.0.0 (ticked_kept m h) in
      either Q (is_stopped m) m (cond (is_true x.value) (closed m (run w s no_label positive x.moment)) x.moment) h
      (either Q (is_true x.value) (closed m (run w s no_label positive x.moment)) x.moment (closed_kept m (run w s no_label positive x.moment) (run_kept s no_label positive x.moment free.1 k)) k)
  run_kept s taken (if_else c positive negative) m free h =
      let x = condition w s c (ticked m) in
      let k = value_kept w R Q Good kept keeps.applies s (value boolean) c (ticked m) free.0.0 (ticked_kept m h) in
      let next = cond (is_true x.value) (run w s no_label positive x.moment) (run w s no_label negative x.moment) in
      either Q (is_stopped m) m (closed m next) h
      (closed_kept m next (either Q (is_true x.value) (run w s no_label positive x.moment) (run w s no_label negative x.moment) (run_kept s no_label positive x.moment free.1 k) (run_kept s no_label negative x.moment free.2 k)))
  run_kept s taken (switch text cases) m free h =
      let a = w.apply text (ticked m) in
      either Q (is_stopped m) m (run w s (chosen_label a.action cases) cases a.moment) h
      (run_kept s (chosen_label a.action cases) cases a.moment free (keeps.applies text (ticked m) (ticked_kept m h)))
  run_kept s taken no_cases m free h = h
  run_kept s taken (case_of before l body) m free h =
      either Q (has_label taken before) (run w s taken before m) (cond (taken l) (closed m (run w s no_label body m)) m) (run_kept s taken before m free.0 h)
      (either Q (taken l) (closed m (run w s no_label body m)) m (closed_kept m (run w s no_label body m) (run_kept s no_label body m free.1 h)) h)

-- the bodies of the actions of a block
pub acts_kept : (b : Surroundings) (R : Type 0) (Q : Moment → Type 0) (Good : Reference → Type 0) → Kept b R Q Good → BodiesFree R b → (calls : ℕ) (text : Name) (a : Action16) → action_named b text ≡ Some a → (m : Moment) → Q m → Q (act_at b calls a m)
acts_kept b R Q Good kept free zero text a is m h = h
acts_kept b R Q Good kept free (suc calls) text a is m h =
    let w : World = record { around = b; act = act_at b calls; apply = no_table_applies } in
    kept.inner (without _ (run w (action_scope b.scope a) no_label a.body m).frame.inner) (run w (action_scope b.scope a) no_label a.body m)
    (run_kept w R Q Good kept (record { acts = acts_kept b R Q Good kept free calls; applies = λ name n k. k }) (action_scope b.scope a) no_label a.body m (free text a is) h)
