-- What statements without others in them do in a parser.
use Rattle.std.proofs.Common.{◌≡◌, ℕ, false, Option, Some, None, IfSome, List, [], sym, subst}
use Rattle.p416_syntax.specs.Tree.{Exp16}
use Rattle.p416_syntax.specs.Kinds.{boolean}
use Rattle.p416_syntax.specs.Scopes.{Scope}
use Rattle.p416_syntax.specs.Calls.{Place, value}
use Rattle.p416_syntax.specs.Expressions.{kind_of}
use Rattle.p416_syntax.specs.Breaks.{BreaksNone, program_rules}
use Rattle.v1_core.specs.Frames as sem
use Rattle.v1_core.specs.Surroundings as meaning
use Rattle.v1_core.specs.Numbered.{Variable, InScope}
use Rattle.v1_core.specs.Statements.{condition}
use Rattle.v1_ready_forms.specs.Named.{seats_in}
use Rattle.v1_ready_laws.specs.Rules.{Keeps}
use Rattle.v1_ready_blocks.specs.Moments.{Moment}
use Rattle.v1_ready_blocks.specs.Tests.{Test, test_value, quiet_world}
use Rattle.v1_ready_statements.specs.Around.{Around, table_found}
use Rattle.v1_ready_statements.specs.Tested.{ready_test}
use Rattle.v1_value_laws.specs.Classes.{IsOfClass}
use Rattle.v1_statement_laws.specs.Behind.{Waits, Shown, InContext, ValuedShows}
use Rattle.v1_statement_laws.specs.Leaves.{AppliedShows, Leaves}
use Rattle.v1_statement_laws.specs.Evaluating.{Evaluates}
use Rattle.v1_statement_laws.proofs.Quiet.{tests_evaluate, no_tables}
use Rattle.v1_program_laws.proofs.Still.{Quiet}
use Rattle.v1_program_laws.specs.Rules.{KeptInParser}
use Rattle.v1_program_laws.proofs.Assigns.{keeps, assigns, initials}
use Rattle.v1_program_laws.proofs.Calls.{calls}

at_some : {A : Type 0} (B : A → Type 0) (o : Option A) (x : A) → o ≡ Some x → IfSome o B → B x
at_some {A = A} B o x is h = subst (λ (p : Option A). IfSome p B) is h

module _ (b : Around) (w : meaning.World) (vars : List Variable) (from to : ℕ) (accepted : BreaksNone b.syntax program_rules) (none : b.locals ≡ []) (no_actions : b.actions ≡ []) (quiet : Quiet w) where
  tests : (s : Scope) (who : InScope) (n : ℕ) → InContext b.syntax w.around.roots from to n s who → (p q : Place) (e : Exp16) → Keeps s q e → IfSome (ready_test s (seats_in b.syntax w.around.roots who) (table_found b) p e) (Evaluates (Waits false b.syntax) b w quiet_world s who p e (IsOfClass (kind_of s e)))
  tests s who n at p q e kept = tests_evaluate false b w quiet_world from to n s who p q e accepted at none kept

  conditions : (s : Scope) (who : InScope) (c : Exp16) (o : Option Test) → IfSome o (Evaluates (Waits false b.syntax) b w quiet_world s who (value boolean) c (IsOfClass (kind_of s c))) → IfSome o (λ t. (m : sem.Moment) (k : Moment) → Shown (Waits false b.syntax) b.syntax who m k → m.stopped ≡ None → ValuedShows (Waits false b.syntax) b.syntax who (condition w s c m) (test_value quiet_world.apply t k))
  conditions s who c None h = tt
  conditions s who c (Some t) h = h.gives

  pub leaves : Leaves KeptInParser (Waits false b.syntax) b w quiet_world vars from to
  leaves = record {
    assigns = λ s who n e f at kept. assigns (Waits false b.syntax) b w quiet_world from to n s who accepted at.context none quiet (tests s who n at.context) e f kept.0 kept.1;
    calls = λ s who n e at kept. calls (Waits false b.syntax) b w quiet_world from to n s who accepted at.context none no_actions e kept;
    initials = λ s who n t called e at are fits kept. initials (Waits false b.syntax) b w quiet_world from to n s who accepted at.context none quiet (tests s who n at.context) t called e are fits kept;
    conditions = λ s who n c at kept. conditions s who c (ready_test s (seats_in b.syntax w.around.roots who) (table_found b) (value boolean) c) (tests s who n at.context (value boolean) (value boolean) c (keeps s (value boolean) c kept));
    tables = λ s who n text at. subst (λ (o : Option ℕ). IfSome o (λ table. (m : sem.Moment) (k : Moment) → Shown (Waits false b.syntax) b.syntax who m k → m.stopped ≡ None → AppliedShows (Waits false b.syntax) b who (w.apply text m) (quiet_world.apply table k))) (sym (no_tables b none text)) tt;
  }
