-- Statements that are put behind others run behind them.
use Rattle.std.proofs.Common.{◌≡◌, Bool, true, refl, ap, ap₂}
use Rattle.p416_syntax.specs.Tree as Tree16
use Rattle.p416_syntax.specs.Tree.{Stmt16, no_statements, then, expression, if_then, if_else, switch, case_of}
use Rattle.p416_syntax.specs.Scopes.{Scope}
use Rattle.p416_syntax.specs.Statements.{behind}
use Rattle.v1_core.specs.Frames.{Moment}
use Rattle.v1_core.specs.Surroundings.{World}
use Rattle.v1_core.specs.Statements.{no_label, run}
use Rattle.p416_syntax.specs.declared.node.CaseLabel.{CaseLabel}
use Rattle.lower_laws_controls.specs.Controls.{joined, is_nothing, is_no_cases}

-- joined statements run one after the other

pub behind_joined : (x y : Stmt16) (s : Scope) → behind (joined x y) s ≡ behind y (behind x s)
behind_joined x no_statements s = refl
behind_joined x ((then) y z) s = ap (behind z) (behind_joined x y s)
behind_joined x (Tree16.block a) s = refl
behind_joined x Tree16.empty s = refl
behind_joined x (Tree16.var a b) s = refl
behind_joined x (Tree16.var_is a b e) s = refl
behind_joined x (Tree16.assign a b) s = refl
behind_joined x (expression a) s = refl
behind_joined x (if_then a b) s = refl
behind_joined x (if_else a b e) s = refl
behind_joined x (switch a b) s = refl
behind_joined x Tree16.no_cases s = refl
behind_joined x (case_of a b e) s = refl

pub run_joined : (w : World) (x y : Stmt16) (s : Scope) (n : Moment) → run w s no_label (joined x y) n ≡ run w (behind x s) no_label y (run w s no_label x n)
run_joined w x no_statements s n = refl
run_joined w x ((then) y z) s n = ap₂ (λ (t : Scope) (o : Moment). run w t no_label z o) (behind_joined x y s) (run_joined w x y s n)
run_joined w x (Tree16.block a) s n = refl
run_joined w x Tree16.empty s n = refl
run_joined w x (Tree16.var a b) s n = refl
run_joined w x (Tree16.var_is a b e) s n = refl
run_joined w x (Tree16.assign a b) s n = refl
run_joined w x (expression a) s n = refl
run_joined w x (if_then a b) s n = refl
run_joined w x (if_else a b e) s n = refl
run_joined w x (switch a b) s n = refl
run_joined w x Tree16.no_cases s n = refl
run_joined w x (case_of a b e) s n = refl

-- nothing does nothing

pub nothing_runs : (w : World) (s : Scope) (y : Stmt16) (n : Moment) → is_nothing y ≡ true → run w s no_label y n ≡ n
nothing_runs w s no_statements n is = refl
nothing_runs w s Tree16.no_cases n is = refl
nothing_runs w s (Tree16.block a) n is = absurd (cc is)
nothing_runs w s Tree16.empty n is = absurd (cc is)
nothing_runs w s (Tree16.var a b) n is = absurd (cc is)
nothing_runs w s (Tree16.var_is a b e) n is = absurd (cc is)
nothing_runs w s (Tree16.assign a b) n is = absurd (cc is)
nothing_runs w s (expression a) n is = absurd (cc is)
nothing_runs w s (if_then a b) n is = absurd (cc is)
nothing_runs w s (if_else a b e) n is = absurd (cc is)
nothing_runs w s (switch a b) n is = absurd (cc is)
nothing_runs w s (case_of a b e) n is = absurd (cc is)
nothing_runs w s ((then) a b) n is = absurd (cc is)

pub no_cases_run : (w : World) (s : Scope) (taken : CaseLabel → Bool) (y : Stmt16) (n : Moment) → is_no_cases y ≡ true → run w s taken y n ≡ n
no_cases_run w s taken no_statements n is = refl
no_cases_run w s taken Tree16.no_cases n is = refl
no_cases_run w s taken (Tree16.block a) n is = absurd (cc is)
no_cases_run w s taken Tree16.empty n is = absurd (cc is)
no_cases_run w s taken (Tree16.var a b) n is = absurd (cc is)
no_cases_run w s taken (Tree16.var_is a b e) n is = absurd (cc is)
no_cases_run w s taken (Tree16.assign a b) n is = absurd (cc is)
no_cases_run w s taken (expression a) n is = absurd (cc is)
no_cases_run w s taken (if_then a b) n is = absurd (cc is)
no_cases_run w s taken (if_else a b e) n is = absurd (cc is)
no_cases_run w s taken (switch a b) n is = absurd (cc is)
no_cases_run w s taken (case_of a b e) n is = absurd (cc is)
no_cases_run w s taken ((then) a b) n is = absurd (cc is)
