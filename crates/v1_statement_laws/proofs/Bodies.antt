-- The statements of the states of a parser.
use Rattle.std.proofs.Common.{◌≡◌, ℕ, Bool, false, Option, Some, None, IfSome, List, [], refl, subst, append-nil}
use Rattle.p416_syntax.specs.declared.program.Syntax16.{Syntax16}
use Rattle.p416_syntax.specs.declared.node.CaseLabel.{CaseLabel}
use Rattle.v1_core.specs.Frames as sem
use Rattle.v1_core.specs.Numbered.{Variable}
use Rattle.v1_core.specs.Statements.{no_label, run}
use Rattle.v1_ready_forms.specs.Named.{seats_in}
use Rattle.v1_ready_blocks.specs.Moments.{Moment}
use Rattle.v1_ready_blocks.specs.Tests.{quiet_world}
use Rattle.v1_ready_blocks.specs.Statements as ready
use Rattle.v1_ready_blocks.specs.Statements.{Statement}
use Rattle.v1_ready_blocks.specs.Blocks.{parser_run}
use Rattle.v1_parser_laws.specs.Shown.{Shows, in_block, BodyShows}
use Rattle.v1_ready_statements.specs.Statements.{ready_of_statement}
use Rattle.v1_statement_laws.specs.Behind.{Waits, Shown, LeftBehind, declared_from}
use Rattle.v1_statement_laws.specs.Laws.{BodiesShow}
use Rattle.v1_statement_laws.proofs.Induction.{statements_show}

at_some : {A : Type 0} (B : A → Type 0) (o : Option A) (x : A) → o ≡ Some x → IfSome o B → B x
at_some {A = A} B o x is h = subst (λ (p : Option A). IfSome p B) is h

body_left : (syntax : Syntax16) (vars vs : List Variable) (m : sem.Moment) (k : Moment) → LeftBehind (Waits false syntax) syntax (in_block vars []) vs m k → BodyShows syntax vars vs m k
body_left syntax vars vs m k h =
    let there : Shows syntax (in_block vars h.some) m k = subst (λ (inner : List Variable). Shows syntax (in_block vars inner) m k) (append-nil h.some) h.shown.shows in
    ((h.some, there), (λ none. subst (λ (inner : List Variable). Shows syntax (in_block vars inner) m k) (h.all none) there))

pub bodies_show : BodiesShow
bodies_show b w from to n vars x r tests accepted leaves at keeps are fits is m k h =
    body_left b.syntax vars (declared_from w.around.scope n x) (run w w.around.scope no_label x m) (parser_run r k)
    (at_some (λ (q : Statement). (taken : CaseLabel → Bool) (ran : Option ℕ) (i : sem.Moment) (j : Moment) → Shown (Waits false b.syntax) b.syntax (in_block vars []) i j → LeftBehind (Waits false b.syntax) b.syntax (in_block vars []) (declared_from w.around.scope n x) (run w w.around.scope taken x i) (ready.run quiet_world ran q j)) (ready_of_statement b w.around.scope (seats_in b.syntax w.around.roots (in_block vars [])) n x) r is
    (statements_show false b w quiet_world from to x w.around.scope (in_block vars []) n tests vars accepted leaves (record { context = at; variables = refl }) keeps are fits) no_label None m k (record { shows = h; waits = λ never. absurd (cc never) }))
