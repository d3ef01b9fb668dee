-- The laws.
use Rattle.std.proofs.Common.{◌≡◌, ℕ, suc, ◌<◌, List, [], ◌∷◌, length, sym, subst}
use Rattle.std.specs.List.{AllByRecursion}
use Rattle.p414_syntax.specs.declared.syntax.Decl.{Decl}
use Rattle.p414_syntax.specs.Arguments.{Invocation, actions}
use Rattle.p414_sem.specs.Expanded.{Expanded, IsExpanded, primitives_at}
use Rattle.p414_sem.specs.Signatures.{parameter_widths}
use Rattle.p414_syntax.specs.Breaks.{BreaksNone, program_rules}
use Rattle.v1_core.specs.Blocks.{act_at}
use Rattle.lower_laws_base.specs.Alike.{ActsAlike}
use Rattle.lower_laws_premises.specs.Literals.{IsSpelt}
use Rattle.p414_sem.specs.Operations.{primitive_of}
use Rattle.lower_laws_base.specs.Context.{Lowering}
use Rattle.lower_laws_actions.specs.Fits.{PrimitiveFits, AllFit}
use Rattle.lower_laws_actions.specs.Runs.{primitives_of}
use Rattle.lower_laws_rules.specs.Acting.{PrimitiveStands}
use Rattle.lower_laws_rules.proofs.Bodies.{AllStand}
use Rattle.lower_laws_premises.specs.Laws.{ActionsFit, ActionsAct}
use Rattle.lower_laws_premises.specs.Shown.{Shows}
use Rattle.lower_laws_premises.proofs.Fits.{all_fit}
use Rattle.lower_laws_premises.proofs.Standing.{all_stand}
use Rattle.lower_laws_premises.proofs.Whole.{spelt_so, widths_fit, counted, action_acts}

each_fits : (c : Lowering) (ds : List Decl) (x : Expanded) (all : List Invocation) → AllFit c ds (primitives_of ds x all) → AllByRecursion (λ i. PrimitiveFits c ds (primitive_of ds x i)) all
each_fits c ds x [] fits = tt
each_fits c ds x (i ∷ all) fits = (fits.0, each_fits c ds x all fits.1)

each_stands : (c : Lowering) (positions : List ℕ) (ds : List Decl) (x : Expanded) (all : List Invocation) → AllStand c positions (primitives_of ds x all) → AllByRecursion (λ i. PrimitiveStands c positions (primitive_of ds x i)) all
each_stands c positions ds x [] stands = tt
each_stands c positions ds x (i ∷ all) stands = (stands.0, each_stands c positions ds x all stands.1)

pub actions_fit : ActionsFit
actions_fit s x accepted c shows action lt same =
    let spelt = spelt_so s accepted.spelt in record {
      fit = each_fits c s.decls x (primitives_at x action) (all_fit s.decls accepted.none spelt x accepted.expanded c shows action lt (counted s.decls accepted.none spelt x accepted.expanded c shows action lt same));
      stand = λ egress at. each_stands c _ s.decls x (primitives_at x action) (all_stand s.decls accepted.none spelt x accepted.expanded action lt c shows egress at);
      widths = λ writes. widths_fit s.decls accepted.none spelt x accepted.expanded c shows action same writes;
    }

pub actions_act : ActionsAct
actions_act s d same accepted c shows b calls direct action lt a scope =
    let back : s.decls ≡ d.decls = sym same in
    subst (λ (ds : List Decl). ActsAlike c.layout d b (act_at b (suc calls)) direct action (parameter_widths ds action) a) same
    (action_acts d (subst (λ (ds : List Decl). BreaksNone ds program_rules) back accepted.none) (subst IsSpelt back (spelt_so s accepted.spelt)) (subst (λ (ds : List Decl). IsExpanded ds d.expanded) back accepted.expanded) c (subst (Shows c) back shows) b calls direct action (subst (λ (ds : List Decl). action < length (actions ds)) back lt) a scope)
