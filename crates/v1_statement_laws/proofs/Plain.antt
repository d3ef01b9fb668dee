-- A test that applies no table gives what the expression means.
use Rattle.std.proofs.Common.{◌≡◌, inl, inr, ℕ, Option, Some, None, IfSome, List, sym, ap, ◌∙◌, subst}
use Rattle.p416_syntax.specs.Tree.{Exp16}
use Rattle.p416_syntax.specs.Scopes.{Scope}
use Rattle.p416_syntax.specs.Calls.{Place}
use Rattle.p416_syntax.specs.Declarations.{layouts_of}
use Rattle.p416_syntax.specs.Breaks.{BreaksNone, program_rules}
use Rattle.v1_core.specs.declared.parser_error.ParserError.{ParserError}
use Rattle.v1_core.specs.Values.{Value}
use Rattle.v1_core.specs.Frames as sem
use Rattle.v1_core.specs.Surroundings as meaning
use Rattle.v1_core.specs.Numbered.{InScope}
use Rattle.v1_core.specs.Expressions as sem_expressions
use Rattle.v1_core.specs.Expressions.{value_of}
use Rattle.v1_core.specs.Cells.{Cells}
use Rattle.v1_core.specs.Ready.{Ready, Ended, given, ready_value}
use Rattle.v1_ready_forms.specs.Named.{NamedSeat, seats_in}
use Rattle.v1_ready_forms.specs.Ways.{Way, its_value}
use Rattle.v1_ready_forms.specs.Expressions.{asked_ready, ready_of_exp}
use Rattle.v1_ready_laws.specs.Asked.{asked_value, stopped_by, Gives}
use Rattle.v1_ready_laws.specs.Kinds.{TypesSized}
use Rattle.v1_ready_laws.specs.Rules.{AppliesNone, Keeps, NamesSeated}
use Rattle.v1_ready_laws.proofs.Given.{Holds, Runs}
use Rattle.v1_ready_laws.proofs.Expressions.{expression_runs}
use Rattle.v1_ready_laws.proofs.Named.{names_give}
use Rattle.v1_ready_laws.proofs.Typed.{operands_fit}
use Rattle.v1_ready_laws.proofs.Rules.{operands_of_kinds}
use Rattle.v1_ready_laws.proofs.Scoped.{names_are_of}
use Rattle.v1_ready_laws.proofs.Accepted.{accepted_narrow}
use Rattle.v1_ready_laws.proofs.Judged.{where_some, applies_none}
use Rattle.v1_ready_blocks.specs.Moments as blocks
use Rattle.v1_ready_blocks.specs.Moments.{Moment, value_at}
use Rattle.v1_ready_blocks.specs.Tests.{valued, World, plain, test_value, with_test}
use Rattle.v1_ready_statements.specs.Around.{Around}
use Rattle.v1_statement_laws.specs.Behind.{Shown, ValuedShows}
use Rattle.v1_statement_laws.proofs.Closing.{raised_shown}

module _ (P : Cells → Type 0) (b : Around) (w : meaning.World) (z : World) (s : Scope) (who : InScope) (accepted : BreaksNone b.syntax program_rules) (layouts : s.layouts ≡ layouts_of b.syntax.decls) (seated : NamesSeated s (seats_in b.syntax w.around.roots who)) where
  abbrev seats : List NamedSeat
  seats = seats_in b.syntax w.around.roots who

  -- in each moment
  runs_at : (p q : Place) (way : Way) (e : Exp16) (m : sem.Moment) (k : Moment) → Keeps s q e → Shown P b.syntax who m k → m.stopped ≡ None → IfSome (asked_ready s seats p way e) (Holds k.cells m way (value_of w s p e))
  runs_at p q way e m k keeps h runs =
      let narrow = accepted_narrow b.syntax accepted in
      let sized : TypesSized s.layouts = subst TypesSized (sym layouts) narrow.1 in
      let names = names_are_of b.syntax k.cells w s who m.frame h.shows.whole narrow.2 layouts h.shows.frame seated in
      where_some (AppliesNone s e) (Holds k.cells m way (value_of w s p e)) (asked_ready s seats p way e) (applies_none s seats p way e)
      (λ none. expression_runs w s seats k.cells m runs (names_give b.syntax k.cells w s who m h.shows.whole narrow.0 narrow.2 layouts h.shows.frame) p way e (operands_fit w s k.cells m sized names p e (operands_of_kinds s q e keeps none)))

  shows_by : (m : sem.Moment) (k : Moment) (x : sem_expressions.Valued) (end : Ended) → Shown P b.syntax who m k → m.stopped ≡ None → Gives end its_value x m → ValuedShows P b.syntax who x (valued end k)
  shows_by m k x end h runs (inl g) =
      inl (g.1, ap (λ (y : sem.Moment). y.stopped) g.0 ∙ runs, subst (λ (y : sem.Moment). Shown P b.syntax who y k) (sym g.0) h)
  shows_by m k x end h runs (inr g) =
      inr (g.0, g.2, ap (λ (y : sem.Moment). y.stopped) g.1, subst (λ (y : sem.Moment). Shown P b.syntax who y (blocks.raised g.0 k)) (sym g.1) (raised_shown P b.syntax who g.0 m k h runs))

  at_some : (B : Ready → Type 0) (o : Option Ready) (r : Ready) → o ≡ Some r → IfSome o B → B r
  at_some B o r is h = subst (λ (p : Option Ready). IfSome p B) is h

  pub plain_gives : (p q : Place) (e : Exp16) (r : Ready) → Keeps s q e → ready_of_exp s seats p e ≡ Some r → (m : sem.Moment) (k : Moment) → Shown P b.syntax who m k → m.stopped ≡ None → ValuedShows P b.syntax who (value_of w s p e m) (test_value z.apply (plain r) k)
  plain_gives p q e r keeps is m k h runs =
      let held : Runs m (ready_value k.cells m.unparsed r) its_value (value_of w s p e) = at_some (Holds k.cells m its_value (value_of w s p e)) (ready_of_exp s seats p e) r is (runs_at p q its_value e m k keeps h runs) in
      subst (λ (left : List ℕ). ValuedShows P b.syntax who (value_of w s p e m) (valued (ready_value k.cells left r) k)) h.shows.unparsed
      (shows_by m k (value_of w s p e m) (ready_value k.cells m.unparsed r) h runs held.gives)

  pub plain_stays : (p q : Place) (e : Exp16) (r : Ready) → Keeps s q e → ready_of_exp s seats p e ≡ Some r → (m : sem.Moment) (k : Moment) (error : ParserError) → Shown P b.syntax who m k → m.stopped ≡ None → (value_of w s p e (stopped_by error m)).moment ≡ stopped_by error m
  plain_stays p q e r keeps is m k error h runs =
      (at_some (Holds k.cells m its_value (value_of w s p e)) (ready_of_exp s seats p e) r is (runs_at p q its_value e m k keeps h runs)).stays error

  -- a value that is asked and let go
  pub let_gone : (p q : Place) (way : Way) (e : Exp16) (r : Ready) → ((v : Value) → (u : Value) × (asked_value way v ≡ given u)) → Keeps s q e → asked_ready s seats p way e ≡ Some r → (m : sem.Moment) (k : Moment) → Shown P b.syntax who m k → m.stopped ≡ None → Shown P b.syntax who (value_of w s p e m).moment (with_test (test_value z.apply (plain r) k) (λ v n. n))
  let_gone p q way e r known keeps is m k h runs =
      subst (λ (left : List ℕ). Shown P b.syntax who (value_of w s p e m).moment (with_test (valued (ready_value k.cells left r) k) (λ v n. n))) h.shows.unparsed
      (by (ready_value k.cells m.unparsed r) held.gives) where
        held : Runs m (ready_value k.cells m.unparsed r) way (value_of w s p e)
        held = at_some (Holds k.cells m way (value_of w s p e)) (asked_ready s seats p way e) r is (runs_at p q way e m k keeps h runs)

        gone : (end : Ended) (v : Value) → end ≡ asked_value way v → Shown P b.syntax who m (with_test (valued end k) (λ v n. n))
        gone end v same = let u = known v in subst (λ (x : Ended). Shown P b.syntax who m (with_test (valued x k) (λ v n. n))) (sym (same ∙ u.1)) h

        by : (end : Ended) → Gives end way (value_of w s p e m) m → Shown P b.syntax who (value_of w s p e m).moment (with_test (valued end k) (λ v n. n))
        by end (inl g) = subst (λ (y : sem.Moment). Shown P b.syntax who y (with_test (valued end k) (λ v n. n))) (sym g.0) (gone end (value_of w s p e m).value g.1)
        by end (inr g) =
            subst (λ (y : sem.Moment). Shown P b.syntax who y (with_test (valued end k) (λ v n. n))) (sym g.1)
            (subst (λ (x : Ended). Shown P b.syntax who (stopped_by g.0 m) (with_test (valued x k) (λ v n. n))) (sym g.2) (raised_shown P b.syntax who g.0 m k h runs))
