-- An action that a table runs: it begins with the arguments that the table gives it, and leaves the moment of the control.
use Rattle.std.proofs.Common.{◌≡◌, ℕ, zero, suc, ◌<◌, ◌^◌, Option, List, [], ◌∷◌, length, map, refl, sym, ap, ap₂, ◌∙◌, subst, arith}
use Rattle.std.specs.Prelude.{slice_index}
use Rattle.std.proofs.Math.Nat.{mod-eq_of_lt}
use Rattle.p414_sem.specs.Expanded.{primitives_at}
use Rattle.p414_sem.specs.Effects.{Moment as Moment14, acted_by}
use Rattle.p414_sem.specs.Controls.{Setting as Setting14, counted}
use Rattle.p416_syntax.specs.declared.parts.Param.{Param}
use Rattle.p416_syntax.specs.declared.controls.Action16.{Action16}
use Rattle.p416_syntax.specs.Tree.{Stmt16}
use Rattle.p416_syntax.specs.Kinds.{Kind}
use Rattle.p416_syntax.specs.Scopes.{Scope}
use Rattle.p416_syntax.specs.Declarations.{action_scope}
use Rattle.v1_core.specs.Values.{Value, a_number, a_member, fitted, zero_value}
use Rattle.v1_core.specs.Frames.{Hit, Moment, with_inner, closed}
use Rattle.v1_core.specs.Surroundings.{Surroundings, World}
use Rattle.v1_core.specs.Statements.{no_label, run}
use Rattle.v1_core.specs.Tables.{bound_numbers, hit_of}
use Rattle.v1_core.specs.Blocks.{act_at}
use Rattle.agreement_of_meanings.specs.Shown.{NamedField, field_at, width_of}
use Rattle.lower_laws_base.specs.Context.{Local, local_at, value_at, inner_of, local_of, StateLayout, Lowering, words_of, Aside, Stands, AreGiven}
use Rattle.lower_laws_base.specs.Alike.{FitWidths, ActsAlike}
use Rattle.lower_laws_base.proofs.States.{stands_at}
use Rattle.lower_laws_base.proofs.Running.{stands_inner}
use Rattle.lower_laws_actions.specs.Mirror.{body_stmt}
use Rattle.lower_laws_actions.specs.Runs.{primitives_of}
use Rattle.lower_laws_actions.proofs.RulesAgree.{rule_is}
use Rattle.lower_laws_actions.proofs.Bodies.{body_stands}
use Rattle.lower_laws_actions.specs.Actions.{ActionIs, AreParameters}

abbrev pub values_of : List NamedField → List ℕ → List Value
values_of (f ∷ fs) (n ∷ ns) = a_number f.width n ∷ values_of fs ns
values_of _ _ = []

bound_is : (s : Scope) (ps : List Param) (fs : List NamedField) (ns : List ℕ) → AreParameters s.names ps fs → FitWidths (map width_of fs) ns → bound_numbers s ps ns ≡ inner_of (map local_of fs) (values_of fs ns)
bound_is s [] [] ns are fit = refl
bound_is s [] (f ∷ fs) ns are fit = absurd are
bound_is s (p ∷ ps) [] ns are fit = absurd are
bound_is s (p ∷ ps) (f ∷ fs) [] are fit = absurd fit
bound_is s (p ∷ ps) (f ∷ fs) (n ∷ ns) are fit =
    ap (λ (k : Kind). a_member p.name (fitted (zero_value s.layouts k) (a_number 0 n)) (bound_numbers s ps ns)) are.1
    ∙ ap (λ j. a_member p.name (a_number f.width j) (bound_numbers s ps ns)) (mod-eq_of_lt fit.0)
    ∙ ap₂ (λ text rest. a_member text (a_number f.width n) rest) are.0 (bound_is s ps fs ns are.2 fit.1)

counted_there : (fs : List NamedField) (ns : List ℕ) → FitWidths (map width_of fs) ns → length (values_of fs ns) ≡ length (map local_of fs)
counted_there [] [] fit = refl
counted_there [] (n ∷ ns) fit = absurd fit
counted_there (f ∷ fs) [] fit = absurd fit
counted_there (f ∷ fs) (n ∷ ns) fit = ap suc (counted_there fs ns fit.1)

-- what stands at a place
record There (fs : List NamedField) (ns : List ℕ) (j : ℕ) : Type 0 where
  pub within : j < length (map local_of fs)
  pub stands : local_at (map local_of fs) j ≡ local_of (field_at fs j)
  pub holds : value_at (values_of fs ns) j ≡ a_number (field_at fs j).width (slice_index ns j)
  pub fits : slice_index ns j < 2 ^ (field_at fs j).width

there : (fs : List NamedField) (ns : List ℕ) (j : ℕ) → j < length fs → FitWidths (map width_of fs) ns → There fs ns j
there [] ns j lt fit = absurd (omega (arith, lt))
there (f ∷ fs) [] j lt fit = absurd fit
there (f ∷ fs) (n ∷ ns) zero lt fit = record { within = omega arith; stands = refl; holds = refl; fits = fit.0 }
there (f ∷ fs) (n ∷ ns) (suc j) lt fit =
    let t = there fs ns j (omega arith) fit.1 in record { within = omega (arith, t.within); stands = t.stands; holds = t.holds; fits = t.fits }

pub given_there : (fs : List NamedField) (ns : List ℕ) → FitWidths (map width_of fs) ns → AreGiven fs (map local_of fs) (values_of fs ns) ns
given_there fs ns fit j lt = let t = there fs ns j lt fit in record { holds = record { place = j; within = t.within; stands = t.stands; holds = t.holds }; fits = t.fits }

-- another entry was hit
pub stands_hit : (g : StateLayout) (ls : List Local) (vs : List Value) (k : Aside) (m : Moment14) (n : Moment) (hit : Option Hit) → Stands g ls vs k m n → Stands g ls vs (record k { hit = hit }) m (record n { hit = hit })
stands_hit g ls vs k m n hit stands = record {
  both = record { packet = record { agrees = stands.both.packet.agrees; unparsed = stands.both.packet.unparsed; events = stands.both.packet.events; runs = stands.both.packet.runs }; store = stands.both.store };
  shaped = stands.shaped;
  stored = stands.stored;
  inner = stands.inner;
  count = stands.count;
  variables = record { values = stands.variables.values; count = stands.variables.count; is = stands.variables.is; whole = stands.variables.whole };
  members = stands.members;
  error = stands.error;
  checksum = stands.checksum;
  emitted = stands.emitted;
  hit = refl;
}

-- An action that a table runs does what the action of P4_14 does, under both rules.
pub action_acts : (c : Lowering) (d : Setting14) (b : Surroundings) (calls : ℕ) (direct : Option ℕ) (action : ℕ) (a : Action16) → ActionIs c d b calls direct action a → ActsAlike c.layout d b (act_at b (suc calls)) direct action (map width_of c.parameters) a
action_acts c d b calls direct action a is k entry arguments m n fit stands =
    let g = c.layout in
    let fs = c.parameters in
    let ls = map local_of fs in
    let vs = values_of fs arguments in
    let hit = hit_of direct entry in
    let bound = bound_numbers b.scope a.parameters arguments in
    let ps = primitives_of d.decls d.expanded (primitives_at d.expanded action) in
    let n1 : Moment = record (with_inner bound n) { hit = hit } in
    let began = stands_hit g ls vs k m (with_inner bound n) hit
    (stands_inner g [] ls [] vs k m n bound (bound_is b.scope a.parameters fs arguments is.parameters fit) (counted_there fs arguments fit) stands) in
    let done = body_stands c (action_scope b.scope a) ls is.sees is.spares d.decls arguments vs (given_there fs arguments fit) (record k { hit = hit }) m n1 began direct entry is.counter refl ps is.fits d.rule is.rule in
    let n2 = act_at b (suc calls) a n1 in
    let same : n2 ≡ closed n1 (run c.world (action_scope b.scope a) no_label (body_stmt d.decls (words_of c) d.rule direct ps) n1) = ap₂ (λ (w : World) (y : Stmt16). closed n1 (run w (action_scope b.scope a) no_label y n1)) (sym is.world) is.body in
    let there = stands_at g ls vs (record k { hit = hit }) _ _ _ _ (sym (rule_is d.decls d.expanded d.rule arguments (primitives_at d.expanded action) (counted direct entry m))) same done in
    restored g ls vs k hit (acted_by d.decls d.expanded d.rule action arguments (counted direct entry m)) n n2 m stands there
  where
    restored : (g : StateLayout) (ls : List Local) (vs : List Value) (k : Aside) (hit : Option Hit) (p : Moment14) (n n2 : Moment) (m : Moment14) → Stands g [] [] k m n → Stands g ls vs (record k { hit = hit }) p n2 → Stands g [] [] k p (record (with_inner n.frame.inner n2) { hit = n.hit })
    restored g ls vs k hit p n n2 m before after =
        subst (λ h. Stands g [] [] (record k { hit = h }) p (record (with_inner n.frame.inner n2) { hit = n.hit })) before.hit
        (stands_hit g [] [] (record k { hit = hit }) p (with_inner n.frame.inner n2) n.hit
        (stands_inner g ls [] vs [] (record k { hit = hit }) p n2 n.frame.inner before.inner refl after))
