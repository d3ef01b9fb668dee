-- What is written for each primitive does what its effects do, under both rules.
use Rattle.std.proofs.Common.{◌≡◌, ℕ, suc, List, refl, arith}
use Rattle.std.specs.Prelude.{Option}
use Rattle.fabric.specs.declared.items.RequestKind.{RequestKind}
use Rattle.fabric.specs.declared.items.RequestKind.TheVariants.{CloneI2E, CloneE2E, Resubmit, Recirculate}
use Rattle.p414_syntax.specs.declared.syntax.Decl.{Decl}
use Rattle.p414_sem.specs.Operations.{Source, Primitive, write, add_header, remove_header, copy_header, push, pop, count_cell, write_cell, execute_meter, ask, nothing}
use Rattle.p414_sem.specs.Effects.{Moment as Moment14, effects, all_fallen}
use Rattle.p416_syntax.specs.Scopes.{Scope}
use Rattle.p416_syntax.specs.Statements.{behind}
use Rattle.v1_core.specs.Values.{Value}
use Rattle.v1_core.specs.Frames.{Moment}
use Rattle.lower_laws_base.specs.Context.{Local, Lowering, Words, words_of, At, Aside}
use Rattle.lower_laws_base.proofs.Shapes.{header_fits}
use Rattle.lower_laws_actions.specs.Mirror.{request_stmt, rest}
use Rattle.lower_laws_actions.specs.Fits.{PrimitiveFits}
use Rattle.lower_laws_actions.proofs.Lists.{Free, free_later, Runs, runs_none}
use Rattle.lower_laws_actions.proofs.Headers.{removes_done, copies_done}
use Rattle.lower_laws_actions.proofs.Fronts.{HoldsFront}
use Rattle.lower_laws_actions.proofs.Statements.{Ready, looks, by_done, count_statement, store_statement, add_statement, add_stays}
use Rattle.lower_laws_actions.proofs.Meters.{meter_runs}
use Rattle.lower_laws_actions.proofs.Requests.{request_done}
use Rattle.lower_laws_actions.proofs.Dropping.{write_stays, written_statement}
use Rattle.lower_laws_actions.proofs.Stacks.{pushes_run, pops_run}

request_stays : (w : Words) (at : At) (s : Scope) (kind : RequestKind) (session : Source) (list : Option ℕ) → behind (request_stmt w at kind session list) s ≡ s
request_stays w at s CloneI2E session list = refl
request_stays w at s CloneE2E session list = refl
request_stays w at s Resubmit session list = refl
request_stays w at s Recirculate session list = refl

pub rest_runs : (c : Lowering) (s : Scope) (ls : List Local) (vs : List Value) (arguments : List ℕ) (k : Aside) (at : At) (r m : Moment14) (n : Moment) → Ready c s ls vs arguments k at r m n → (ds : List Decl) (K b : ℕ) → Free c ls b K → (p : Primitive) → PrimitiveFits c ds p → HoldsFront c ds r arguments K p ls vs → Runs c s ls vs k b (suc K) (rest (words_of c) at K p) (all_fallen m (effects ds arguments r p)) n
rest_runs c s ls vs arguments k at r m n ready ds K b free (write sums t term) fits holds =
    by_done c s ls vs arguments k at r m n ready ds K b K _ _ free (write_stays (words_of c) at s K sums t term) (written_statement c s ls vs arguments k at r m n ready ds K sums t term fits holds)
rest_runs c s ls vs arguments k at r m n ready ds K b free (add_header part) fits holds =
    by_done c s ls vs arguments k at r m n ready ds K b K _ _ free (add_stays (words_of c) at s part) (add_statement c s ls vs arguments k at r m n ready ds part fits)
rest_runs c s ls vs arguments k at r m n ready ds K b free (remove_header part) fits holds =
    by_done c s ls vs arguments k at r m n ready ds K b K _ _ free refl
    (removes_done c s ls ready.sees vs arguments ready.given k ds r m n ready.stands part fits (header_fits c.layout r.state (looks c s ls vs arguments k at r m n ready ds K).seen.shaped part.instance part.element fits.0.0 fits.0.1))
rest_runs c s ls vs arguments k at r m n ready ds K b free (copy_header to from) fits holds =
    by_done c s ls vs arguments k at r m n ready ds K b K _ _ free refl (copies_done c s ls vs arguments at k ds r m n ready.stands (looks c s ls vs arguments k at r m n ready ds K) to from fits.0 fits.1 fits.2)
rest_runs c s ls vs arguments k at r m n ready ds K b free (count_cell object i) fits holds =
    by_done c s ls vs arguments k at r m n ready ds K b K _ _ free refl (count_statement c s ls vs arguments k at r m n ready ds K object i fits)
rest_runs c s ls vs arguments k at r m n ready ds K b free (write_cell object i value) fits holds =
    by_done c s ls vs arguments k at r m n ready ds K b K _ _ free refl (store_statement c s ls vs arguments k at r m n ready ds K object i value fits)
rest_runs c s ls vs arguments k at r m n ready ds K b free nothing fits holds =
    runs_none c s ls vs k b (suc K) m n ready.sees (free_later c ls b K b (suc K) (omega arith) (omega arith) free) ready.stands
rest_runs c s ls vs arguments k at r m n ready ds K b free (push i count) fits holds =
    pushes_run c s ls vs arguments k at r m n ready ds b (suc K) (free_later c ls b K b (suc K) (omega arith) (omega arith) free) i count fits
rest_runs c s ls vs arguments k at r m n ready ds K b free (pop i count) fits holds =
    pops_run c s ls vs arguments k at r m n ready ds b (suc K) (free_later c ls b K b (suc K) (omega arith) (omega arith) free) i count fits
rest_runs c s ls vs arguments k at r m n ready ds K b free (execute_meter object i t) fits holds = meter_runs c s ls vs arguments k at r m n ready ds K b free object i t fits
rest_runs c s ls vs arguments k at r m n ready ds K b free (ask kind session list) fits holds =
    by_done c s ls vs arguments k at r m n ready ds K b K _ _ free (request_stays (words_of c) at s kind session list) (request_done c s ls vs arguments k at r m n ready ds kind session list fits)
