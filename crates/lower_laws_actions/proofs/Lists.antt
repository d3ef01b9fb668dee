-- Lists of statements, with the variables that they declare.
use Rattle.std.proofs.Common.{◌≡◌, ◌≢◌, ℕ, zero, suc, ◌<◌, ◌≤◌, List, [], ◌∷◌, ◌++◌, refl, sym, ap, ◌∙◌, subst, arith}
use Rattle.p414_sem.specs.Effects.{Moment as Moment14}
use Rattle.p416_syntax.specs.Tree.{Stmt16, then}
use Rattle.p416_syntax.specs.Kinds.{Kind}
use Rattle.p416_syntax.specs.Scopes.{Scope}
use Rattle.p416_syntax.specs.Statements.{behind}
use Rattle.v1_core.specs.Values.{Value}
use Rattle.v1_core.specs.Frames.{Moment}
use Rattle.v1_core.specs.Surroundings.{World}
use Rattle.v1_core.specs.Statements.{no_label, run}
use Rattle.lower_laws_base.specs.Context.{Local, HasNone, Lowering, Sees, IsFresh, Spares, Aside, Stands}
use Rattle.lower_laws_base.proofs.Running.{Over, over_same, over_both, Done}
use Rattle.lower_laws_actions.specs.Mirror.{behind_stmts}

abbrev pub run_all : World → Scope → List Stmt16 → Moment → Moment
run_all w s [] n = n
run_all w s (y ∷ ys) n = run_all w (behind y s) ys (run w s no_label y n)

abbrev pub scope_all : List Stmt16 → Scope → Scope
scope_all [] s = s
scope_all (y ∷ ys) s = scope_all ys (behind y s)

pub run_behind : (w : World) (s : Scope) (ys : List Stmt16) (x : Stmt16) (n : Moment) → run w s no_label (behind_stmts x ys) n ≡ run_all w (behind x s) ys (run w s no_label x n)
run_behind w s [] x n = refl
run_behind w s (y ∷ ys) x n = run_behind w s ys ((then) x y) n

pub scope_behind : (s : Scope) (ys : List Stmt16) (x : Stmt16) → behind (behind_stmts x ys) s ≡ scope_all ys (behind x s)
scope_behind s [] x = refl
scope_behind s (y ∷ ys) x = scope_behind s ys ((then) x y)

pub run_more : (w : World) (s : Scope) (ys zs : List Stmt16) (n : Moment) → run_all w s (ys ++ zs) n ≡ run_all w (scope_all ys s) zs (run_all w s ys n)
run_more w s [] zs n = refl
run_more w s (y ∷ ys) zs n = run_more w (behind y s) ys zs (run w s no_label y n)

pub scope_more : (ys zs : List Stmt16) (s : Scope) → scope_all (ys ++ zs) s ≡ scope_all zs (scope_all ys s)
scope_more [] zs s = refl
scope_more (y ∷ ys) zs s = scope_more ys zs (behind y s)

-- The names of variables of fronts from b on, and of other variables from d on, are free.
pub record Free (c : Lowering) (ls : List Local) (b d : ℕ) : Type 0 where
  pub fronts : (a i : ℕ) → i < 2 → b ≤ a → IsFresh c ls (c.spare a i)
  pub others : (a : ℕ) → d ≤ a → IsFresh c ls (c.spare a 2)
  pub differ : (a i e j : ℕ) → c.spare a i ≡ c.spare e j → (a ≡ e) × (i ≡ j)

pub free_of : (c : Lowering) (ls : List Local) → Spares c ls 0 → Free c ls 0 0
free_of c ls spares = record { fronts = λ a i lt le. spares.free a i (omega arith); others = λ a le. spares.free a 2 (omega arith); differ = spares.differ }

pub free_later : (c : Lowering) (ls : List Local) (b d e f : ℕ) → b ≤ e → d ≤ f → Free c ls b d → Free c ls e f
free_later c ls b d e f more most free = record { fronts = λ a i lt le. free.fronts a i lt (omega arith); others = λ a le. free.others a (omega arith); differ = free.differ }

pub fresh_more : (c : Lowering) (ls : List Local) (text : _) (called : _) (kind : Kind) → text ≢ called → IsFresh c ls text → IsFresh c (record { called = called; kind = kind } ∷ ls) text
fresh_more c ls text called kind apart fresh = record { locals = none; items = fresh.items } where
  none : HasNone (record { called = called; kind = kind } ∷ ls) text
  none zero lt = λ e. apart (sym e)
  none (suc j) lt = fresh.locals j (omega arith)

-- a variable of a front was declared
pub free_front : (c : Lowering) (ls : List Local) (b d e j : ℕ) (kind : Kind) → e < suc b → j < 2 → Free c ls b d → Free c (record { called = c.spare e j; kind = kind } ∷ ls) (suc b) d
free_front c ls b d e j kind at low free = record {
  fronts = λ a i lt le. fresh_more c ls (c.spare a i) (c.spare e j) kind (λ s. absurd (omega (arith, le, at, (free.differ a i e j s).0))) (free.fronts a i lt (omega arith));
  others = λ a le. fresh_more c ls (c.spare a 2) (c.spare e j) kind (λ s. absurd (omega (arith, low, (free.differ a 2 e j s).1))) (free.others a le);
  differ = free.differ;
}

-- one more of an earlier front was declared
pub free_past : (c : Lowering) (ls : List Local) (b d e j : ℕ) (kind : Kind) → e < b → j < 2 → Free c ls b d → Free c (record { called = c.spare e j; kind = kind } ∷ ls) b d
free_past c ls b d e j kind past low free = record {
  fronts = λ a i lt le. fresh_more c ls (c.spare a i) (c.spare e j) kind (λ s. absurd (omega (arith, le, past, (free.differ a i e j s).0))) (free.fronts a i lt le);
  others = λ a le. fresh_more c ls (c.spare a 2) (c.spare e j) kind (λ s. absurd (omega (arith, low, (free.differ a 2 e j s).1))) (free.others a le);
  differ = free.differ;
}

-- another one was declared
pub free_other : (c : Lowering) (ls : List Local) (b d : ℕ) (kind : Kind) → Free c ls b d → Free c (record { called = c.spare d 2; kind = kind } ∷ ls) b (suc d)
free_other c ls b d kind free = record {
  fronts = λ a i lt le. fresh_more c ls (c.spare a i) (c.spare d 2) kind (λ s. absurd (omega (arith, lt, (free.differ a i d 2 s).1))) (free.fronts a i lt le);
  others = λ a le. fresh_more c ls (c.spare a 2) (c.spare d 2) kind (λ s. absurd (omega (arith, le, (free.differ a 2 d 2 s).0))) (free.others a (omega arith));
  differ = free.differ;
}

-- What statements leave: behind them the scope has these parameters and variables beside those from before.
pub record Runs (c : Lowering) (s : Scope) (ls : List Local) (vs : List Value) (k : Aside) (b d : ℕ) (ys : List Stmt16) (m : Moment14) (n : Moment) : Type 0 where
  pub scope : Scope
  pub locals : List Local
  pub values : List Value
  pub goes : scope_all ys s ≡ scope
  pub sees : Sees c scope locals
  pub stands : Stands c.layout locals values k m (run_all c.world s ys n)
  pub over : Over ls vs locals values
  pub variables : (run_all c.world s ys n).frame.variables ≡ n.frame.variables
  pub free : Free c locals b d

abbrev pub runs_none : (c : Lowering) (s : Scope) (ls : List Local) (vs : List Value) (k : Aside) (b d : ℕ) (m : Moment14) (n : Moment) → Sees c s ls → Free c ls b d → Stands c.layout ls vs k m n → Runs c s ls vs k b d [] m n
runs_none c s ls vs k b d m n sees free stands =
    record { scope = s; locals = ls; values = vs; goes = refl; sees = sees; stands = stands; over = over_same ls vs; variables = refl; free = free }

abbrev pub runs_one : (c : Lowering) (s : Scope) (ls : List Local) (vs : List Value) (k : Aside) (b d : ℕ) (y : Stmt16) (m : Moment14) (n : Moment) → behind y s ≡ s → Sees c s ls → Free c ls b d → Done c s ls vs k y m n → Runs c s ls vs k b d (y ∷ []) m n
runs_one c s ls vs k b d y m n stays sees free done =
    record { scope = s; locals = ls; values = vs; goes = stays; sees = sees; stands = done.stands; over = over_same ls vs; variables = done.variables; free = free }

abbrev pub runs_more : (c : Lowering) (s : Scope) (ls : List Local) (vs : List Value) (k : Aside) (b d e f : ℕ) (ys zs : List Stmt16) (m p : Moment14) (n : Moment) (first : Runs c s ls vs k b d ys m n) → Runs c first.scope first.locals first.values k e f zs p (run_all c.world s ys n) → Runs c s ls vs k e f (ys ++ zs) p n
runs_more c s ls vs k b d e f ys zs m p n first second =
    let there : run_all c.world s (ys ++ zs) n ≡ run_all c.world first.scope zs (run_all c.world s ys n) = run_more c.world s ys zs n ∙ ap (λ z. run_all c.world z zs (run_all c.world s ys n)) first.goes in
    record {
      scope = second.scope;
      locals = second.locals;
      values = second.values;
      goes = scope_more ys zs s ∙ ap (scope_all zs) first.goes ∙ second.goes;
      sees = second.sees;
      stands = subst (λ z. Stands c.layout second.locals second.values k p z) (sym there) second.stands;
      over = over_both ls first.locals second.locals vs first.values second.values first.over second.over;
      variables = ap (λ (z : Moment). z.frame.variables) there ∙ second.variables ∙ first.variables;
      free = second.free;
    }
