-- What statements leave of moments that are alike.
use Rattle.std.proofs.Common.{ℕ, zero, suc, Bool, cond, Option, length, filter_map}
use Rattle.p416_syntax.specs.declared.controls.Action16.{Action16}
use Rattle.p416_syntax.specs.declared.node.CaseLabel.{CaseLabel}
use Rattle.p416_syntax.specs.declared.parts.Type16.{Type16}
use Rattle.p416_syntax.specs.Tree.{Stmt16, no_statements, then, block, empty, var, var_is, assign, expression, if_then, if_else, switch, no_cases, case_of}
use Rattle.p416_syntax.specs.Kinds.{boolean}
use Rattle.p416_syntax.specs.Scopes.{Scope, kind_of_type}
use Rattle.p416_syntax.specs.Names.{Name}
use Rattle.p416_syntax.specs.Calls.{value}
use Rattle.p416_syntax.specs.Expressions.{kind_of}
use Rattle.p416_syntax.specs.Statements.{behind, assigned_place}
use Rattle.p416_syntax.specs.Declarations.{action_scope, action_in}
use Rattle.v1_core.specs.Values.{Value, is_true, fitted}
use Rattle.v1_core.specs.Frames.{Moment, ticked, is_stopped, going_on, put_at, declared, closed}
use Rattle.v1_core.specs.Surroundings.{Surroundings, Applied, World, no_table_applies}
use Rattle.v1_core.specs.Expressions.{Valued, value_of, Referred}
use Rattle.v1_core.specs.Calls.{call_statement}
use Rattle.v1_core.specs.Statements.{starts, initialized, assigned, has_label, chosen_label, no_label, run}
use Rattle.v1_core.specs.Blocks.{act_at, act}
use Rattle.shard_laws.specs.Likeness.{Pairing, Like, like, LikeValued, like_valued, LikeReferred, like_referred, LikeApplied, like_applied, LikeWorld}
use Rattle.shard_laws.proofs.Leaves.{either, puts, ticks, closes, goes}
use Rattle.shard_laws.proofs.Values.{values, references}
use Rattle.shard_laws.proofs.Calls.{calls}

module _ (k : Pairing) where
  pub declares : (called : Name) (v : Value) (m n : Moment) → Like k m n → Like k (declared called v m) (declared called v n)
  declares called v m _ (like _ s w a b) = like (declared called v m) s w a b

  initializes : (s : Scope) (t : Type16) (called : Name) (x y : Valued) → LikeValued k x y → Like k (initialized s t called x) (initialized s t called y)
  initializes s t called _ _ (like_valued v m n h) = goes k (declared called (fitted (starts s t) v)) m n h (declares called (fitted (starts s t) v) m n h)

  -- what doesn't begin once an error stopped the parser
  pub begins : (f : Moment → Moment) → ((m n : Moment) → Like k m n → Like k (f m) (f n)) → (m n : Moment) → Like k m n → Like k (cond (is_stopped m) m (f (ticked m))) (cond (is_stopped n) n (f (ticked n)))
  begins f keeps m _ (like _ s w a b) = either k (is_stopped m) (like m s w a b) (keeps _ _ (ticks k m _ (like m s w a b)))

  writes : (x : Referred) (f : Moment → Valued) → ((m n : Moment) → Like k m n → LikeValued k (f m) (f n)) → (y : Referred) → LikeReferred k x y → Like k (let z = f x.moment in going_on (put_at x.reference z.value) z.moment) (let z = f y.moment in going_on (put_at y.reference z.value) z.moment)
  writes _ f value_like _ (like_referred r m n h) = by (f m) (f n) (value_like m n h) where
    by : (x y : Valued) → LikeValued k x y → Like k (going_on (put_at r x.value) x.moment) (going_on (put_at r y.value) y.moment)
    by _ _ (like_valued v p q i) = goes k (put_at r v) p q i (puts k r v p q i)

  -- as the value tells, one or the other
  branches : (f g : Moment → Moment) → ((m n : Moment) → Like k m n → Like k (f m) (f n)) → ((m n : Moment) → Like k m n → Like k (g m) (g n)) → (x y : Valued) → LikeValued k x y → Like k (cond (is_true x.value) (f x.moment) (g x.moment)) (cond (is_true y.value) (f y.moment) (g y.moment))
  branches f g yes_like no_like _ _ (like_valued v m n h) = either k (is_true v) (yes_like m n h) (no_like m n h)

  switches : (f : Option Name → Moment → Moment) → ((action : Option Name) (m n : Moment) → Like k m n → Like k (f action m) (f action n)) → (x y : Applied) → LikeApplied k x y → Like k (f x.action x.moment) (f y.action y.moment)
  switches f keeps _ _ (like_applied hit action m n h) = keeps action m n h

module _ (k : Pairing) (w : World) (same : LikeWorld k w) where
  pub runs : (s : Scope) (taken : CaseLabel → Bool) (x : Stmt16) (m n : Moment) → Like k m n → Like k (run w s taken x m) (run w s taken x n)
  runs s taken no_statements m n h = h
  runs s taken ((then) before last) m n h = runs (behind before s) taken last _ _ (runs s taken before m n h)
  runs s taken (block body) m n h = closes k m n _ _ h (runs s no_label body m n h)
  runs s taken empty m n h = h
  runs s taken (var t called) m n h = goes k (declared called (starts s t)) m n h (declares k called (starts s t) m n h)
  runs s taken (var_is t called e) m n h =
      begins k (λ p. initialized s t called (value_of w s (value (kind_of_type s.names t)) e p)) (λ p q i. initializes k s t called _ _ (values k w same s (value (kind_of_type s.names t)) e p q i)) m n h
  runs s taken (assign target e) m n h =
      begins k (assigned w s target e) (λ p q i. writes k _ (value_of w s (assigned_place (kind_of s target)) e) (values k w same s (assigned_place (kind_of s target)) e) _ (references k w.around s target p q i)) m n h
  runs s taken (expression e) m n h = begins k (call_statement w s e) (calls k w same s e) m n h
  runs s taken (if_then c positive) m _ (like _ t u a b) = either k (is_stopped m) (like m t u a b)
      (branches k (λ p. closed m (run w s no_label positive p)) (λ p. p) (λ p q i. closes k m _ _ _ (like m t u a b) (runs s no_label positive p q i)) (λ p q i. i) _ _
      (values k w same s (value boolean) c _ _ (ticks k m _ (like m t u a b))))
  runs s taken (if_else c positive negative) m _ (like _ t u a b) = either k (is_stopped m) (like m t u a b)
      (closes k m _ _ _ (like m t u a b)
      (branches k (run w s no_label positive) (run w s no_label negative) (runs s no_label positive) (runs s no_label negative) _ _
      (values k w same s (value boolean) c _ _ (ticks k m _ (like m t u a b)))))
  runs s taken (switch text cases) m n h =
      begins k (λ p. let a = w.apply text p in run w s (chosen_label a.action cases) cases a.moment) (λ p q i.
      switches k (λ action. run w s (chosen_label action cases) cases) (λ action. runs s (chosen_label action cases) cases) _ _ (same.applies text p q i)) m n h
  runs s taken no_cases m n h = h
  runs s taken (case_of before l body) m n h =
      either k (has_label taken before) (runs s taken before m n h)
      (either k (taken l) (closes k m n _ _ h (runs s no_label body m n h)) h)

-- the bodies of actions
pub bodies : (k : Pairing) (b : Surroundings) (count : ℕ) (a : Action16) (m n : Moment) → Like k m n → Like k (act_at b count a m) (act_at b count a n)
bodies k b zero a m n h = h
bodies k b (suc count) a m n h =
    let w : World = record { around = b; act = act_at b count; apply = no_table_applies } in
    closes k m n _ _ h (runs k w (record { acts = bodies k b count; applies = λ text p q i. like_applied _ _ p q i }) (action_scope b.scope a) no_label a.body m n h)

pub actions : (k : Pairing) (b : Surroundings) (a : Action16) (m n : Moment) → Like k m n → Like k (act b a m) (act b a n)
actions k b a m n h = bodies k b (length (filter_map action_in b.locals)) a m n h
