-- The calls of the entries of one field: the first whose condition holds does its work, and no other one does.
use Rattle.std.proofs.Common.{◌≡◌, Bool, true, false, not, ◌&&◌, cond, List, [], ◌∷◌, Option, Some, None, refl, sym, subst}
use Rattle.std.specs.Option.{option_map_or}
use Rattle.p414_syntax.specs.declared.calculations.CalcCond.{CalcCond}
use Rattle.p414_syntax.specs.declared.calculations.Calc.{Calc}
use Rattle.p414_syntax.specs.declared.syntax.Decl.{Decl}
use Rattle.p414_sem.specs.Slots.{Slot}
use Rattle.p414_sem.specs.State.{State}
use Rattle.p414_sem.specs.CalculatedFields.{condition_holds, first_holding}
use Rattle.p414_sem.specs.Expanded.{Expanded}
use Rattle.p414_sem.specs.Calculations.{calculation_named}
use Rattle.p416_syntax.specs.declared.node.UnaryOperator.TheVariants.{Not}
use Rattle.p416_syntax.specs.declared.node.BinaryOperator.TheVariants.{And}
use Rattle.p416_syntax.specs.Tree.{Exp16, unary, binary, Stmt16, then}
use Rattle.p416_syntax.specs.Kinds.{boolean}
use Rattle.p416_syntax.specs.Scopes.{Scope}
use Rattle.p416_syntax.specs.Calls.{value}
use Rattle.p416_syntax.specs.Statements.{behind}
use Rattle.v1_core.specs.Values.{a_truth}
use Rattle.v1_core.specs.Frames.{Moment}
use Rattle.v1_core.specs.Surroundings.{World}
use Rattle.v1_core.specs.Expressions.{value_of}
use Rattle.v1_core.specs.Calls.{argument_at, by_value}
use Rattle.v1_core.specs.Statements.{no_label, run}
use Rattle.lower_laws_base.specs.Context.{Words}
use Rattle.lower_laws_controls.specs.Listing.{Each}
use Rattle.lower_laws_controls.proofs.Holding.{shows_and, shows_negated}
use Rattle.lower_laws_sums.specs.Sums.{condition_exp, sum_stmt, by_condition, entries_stmt}
use Rattle.lower_laws_base.specs.Gives.{Shows}

-- an expression that tells a truth value as an argument
pub record Asks (w : World) (s : Scope) (e : Exp16) (b : Bool) (n : Moment) : Type 0 where
  pub plainly : argument_at w s (value boolean) e n ≡ by_value (value_of w s (value boolean) e n)
  pub shows : Shows w s n e boolean (a_truth b)

module _ (w : World) (s : Scope) (words : Words) (ds : List Decl) (x : Expanded) (updates : Bool) (slot : Slot) (r : State) (R : Option Calc → Moment → Type 0) (Fits : Calc → Type 0) where
  abbrev Steady : Exp16 → Bool → Type 0
  Steady e b = (o : Option Calc) (n : Moment) → R o n → Asks w s e b n

  abbrev ran : Exp16 → Calc → Moment → Moment
  ran e c n = run w s no_label (sum_stmt words ds updates slot e (calculation_named ds x c.calculation)) n

  -- What is asked of conditions and calls: `R None` holds before an entry did its work, and `R (Some c)` once c did it.
  pub record Works : Type 0 where
    pub tells : (c : Calc) (k : CalcCond) → Fits c → c.condition ≡ Some k → (o : Option Calc) (n : Moment) → R o n → Shows w s n (condition_exp words ds k) boolean (a_truth (condition_holds ds r k))
    pub fires : (c : Calc) → Fits c → (e : Exp16) (n : Moment) → Steady e true → R None n → R (Some c) (ran e c n)
    pub skips : (c : Calc) → Fits c → (e : Exp16) (o : Option Calc) (n : Moment) → Steady e false → R o n → R o (ran e c n)

  module _ (works : Works) where
    abbrev Begins : Bool → Option Calc → Type 0
    Begins b o = b ≡ true → o ≡ None

    -- one call
    called : (c : Calc) → Fits c → (e : Exp16) (b : Bool) (o : Option Calc) (n : Moment) → Steady e b → Begins b o → R o n → R (cond b (Some c) o) (ran e c n)
    called c fits e true o n steady begins there = works.fires c fits e n steady (subst (λ z. R z n) (begins refl) there)
    called c fits e false o n steady begins there = works.skips c fits e o n steady there

    behind_it : (c : Calc) (e : Exp16) (before : Stmt16) (o : Option Calc) (n : Moment) → behind before s ≡ s → R o (ran e c (run w s no_label before n)) → R o (run w s no_label ((then) before (sum_stmt words ds updates slot e (calculation_named ds x c.calculation))) n)
    behind_it c e before o n stays there =
        subst (λ (z : Scope). R o (run w z no_label (sum_stmt words ds updates slot e (calculation_named ds x c.calculation)) (run w s no_label before n))) (sym stays) there

    abbrev Made : List Calc → Stmt16 → Exp16 → Bool → Option Calc → Moment → Type 0
    Made cs before e b o n =
        behind before s ≡ s → Steady e b → Begins b o → R o (run w s no_label before n) →
        (behind (entries_stmt words ds x updates slot before e cs) s ≡ s) × R (cond b (first_holding ds r cs) o) (run w s no_label (entries_stmt words ds x updates slot before e cs) n)

    -- an entry before others
    made : (c : Calc) (rest : List Calc) → Fits c → (before : Stmt16) (e : Exp16) (b : Bool) (o : Option Calc) (n : Moment) → ((before2 : Stmt16) (e2 : Exp16) (b2 : Bool) (o2 : Option Calc) → Made rest before2 e2 b2 o2 n) → Made (c ∷ rest) before e b o n
    made c rest fit before e b o n more stays steady begins there = by c.condition refl where
      here : Exp16 → Stmt16
      here e2 = (then) before (sum_stmt words ds updates slot e2 (calculation_named ds x c.calculation))

      does : (e2 : Exp16) (b2 : Bool) → Steady e2 b2 → Begins b2 o → R (cond b2 (Some c) o) (run w s no_label (here e2) n)
      does e2 b2 steady2 begins2 = behind_it c e2 before (cond b2 (Some c) o) n stays (called c fit e2 b2 o (run w s no_label before n) steady2 begins2 there)

      first : (b h : Bool) → (b ≡ true → o ≡ None) → (b && h) ≡ true → o ≡ None
      first true h f e2 = f refl
      first false h f e2 = absurd (cc e2)

      later : (b h : Bool) → (b ≡ true → o ≡ None) → (b && not h) ≡ true → cond (b && h) (Some c) o ≡ None
      later true true f e2 = absurd (cc e2)
      later true false f e2 = f refl
      later false h f e2 = absurd (cc e2)

      same : (b h : Bool) (z : Option Calc) → cond (b && not h) z (cond (b && h) (Some c) o) ≡ cond b (cond h (Some c) z) o
      same true true z = refl
      same true false z = refl
      same false h z = refl

      conditional : (k : CalcCond) → c.condition ≡ Some k → (behind (entries_stmt words ds x updates slot (here (binary And e (condition_exp words ds k))) (binary And e (unary Not (condition_exp words ds k))) rest) s ≡ s) × R (cond b (cond (condition_holds ds r k) (Some c) (first_holding ds r rest)) o) (run w s no_label (entries_stmt words ds x updates slot (here (binary And e (condition_exp words ds k))) (binary And e (unary Not (condition_exp words ds k))) rest) n)
      conditional k is =
          let h = condition_holds ds r k in
          let tells = works.tells c k fit is in
          let ends = more (here (binary And e (condition_exp words ds k))) (binary And e (unary Not (condition_exp words ds k))) (b && not h) (cond (b && h) (Some c) o) stays
          (λ o2 n2 there2. record { plainly = refl; shows = shows_and w s n2 e (unary Not (condition_exp words ds k)) b (not h) (steady o2 n2 there2).shows (shows_negated w s n2 (condition_exp words ds k) h (tells o2 n2 there2)) })
          (later b h begins)
          (does (binary And e (condition_exp words ds k)) (b && h) (λ o2 n2 there2. record { plainly = refl; shows = shows_and w s n2 e (condition_exp words ds k) b h (steady o2 n2 there2).shows (tells o2 n2 there2) }) (first b h begins)) in
          (ends.0, subst (λ z. R z (run w s no_label (entries_stmt words ds x updates slot (here (binary And e (condition_exp words ds k))) (binary And e (unary Not (condition_exp words ds k))) rest) n)) (same b h (first_holding ds r rest)) ends.1)

      by : (k : Option CalcCond) → c.condition ≡ k → (behind (by_condition k (here e) (λ k. entries_stmt words ds x updates slot (here (binary And e (condition_exp words ds k))) (binary And e (unary Not (condition_exp words ds k))) rest)) s ≡ s) × R (cond b (cond (option_map_or (condition_holds ds r) k true) (Some c) (first_holding ds r rest)) o) (run w s no_label (by_condition k (here e) (λ k. entries_stmt words ds x updates slot (here (binary And e (condition_exp words ds k))) (binary And e (unary Not (condition_exp words ds k))) rest)) n)
      by None is = (stays, does e b steady begins)
      by (Some k) is = conditional k is

    pub chain : (cs : List Calc) → Each Fits cs → (before : Stmt16) (e : Exp16) (b : Bool) (o : Option Calc) (n : Moment) → Made cs before e b o n
    chain [] fit before e true o n stays steady begins there = (stays, subst (λ z. R z (run w s no_label before n)) (begins refl) there)
    chain [] fit before e false o n stays steady begins there = (stays, there)
    chain (c ∷ rest) fit before e b o n stays steady begins there = made c rest fit.0 before e b o n (λ before2 e2 b2 o2. chain rest fit.1 before2 e2 b2 o2 n) stays steady begins there
