-- The numbers of variables that are in scope together.
use Rattle.std.proofs.Common.{◌≡◌, ◌≢◌, ◌⊎◌, inl, inr, ℕ, suc, ◌+◌, ◌≤◌, ◌<◌, Bool, true, false, cond, Some, List, [], ◌∷◌, ◌++◌, length, map, flat_map, filter_map, subst, arith, length-append}
use Rattle.std.specs.Str.{bytes_eq}
use Rattle.p416_syntax.specs.declared.parts.Param.{Param}
use Rattle.p416_syntax.specs.declared.parsers.Var.{Var}
use Rattle.p416_syntax.specs.declared.parsers.State.{State}
use Rattle.p416_syntax.specs.declared.controls.Action16.{Action16}
use Rattle.p416_syntax.specs.declared.controls.Local.{Local}
use Rattle.p416_syntax.specs.declared.controls.Local.TheVariants as local
use Rattle.p416_syntax.specs.Names.{Name}
use Rattle.p416_syntax.specs.Kinds.{Kind}
use Rattle.p416_syntax.specs.Scopes.{Scope}
use Rattle.p416_syntax.specs.Declarations.{action_in}
use Rattle.v1_core.specs.Slots.{var_kind, parameter_kind, state_kinds, local_kinds}
use Rattle.v1_core.specs.Surroundings.{action_called}
use Rattle.v1_core.specs.Numbered.{Variable, InScope, declared_at}
use Rattle.v1_core.specs.Scopes.{AreAway, AreApart, AreOthers, IsScope}
use Rattle.v1_block_laws.specs.Variables.{vars_from, parameters_from, locals_from, action_from, state_from}
use Rattle.v1_block_laws.specs.Standing.{AreOfKinds}
use Rattle.v1_block_laws.specs.Apart.{AreBetween, AreOutside, AreInBody}
use Rattle.v1_block_laws.proofs.Standing.{apart}

-- numbers inside and outside

between_away : (from to k : ℕ) (vs : List Variable) → AreBetween from to vs → (k < from) ⊎ (to ≤ k) → AreAway k vs
between_away from to k [] are out = tt
between_away from to k (v ∷ vs) are out = (differs out, between_away from to k vs are.2 out) where
  differs : (k < from) ⊎ (to ≤ k) → v.number ≢ k
  differs (inl lt) e = omega (arith, lt, e, are.0)
  differs (inr le) e = omega (arith, le, e, are.1)

outside_away : (from to k : ℕ) (vs : List Variable) → AreOutside from to vs → from ≤ k → k < to → AreAway k vs
outside_away from to k [] are le lt = tt
outside_away from to k (v ∷ vs) are le lt = (differs are.0, outside_away from to k vs are.1 le lt) where
  differs : (v.number < from) ⊎ (to ≤ v.number) → v.number ≢ k
  differs (inl low) e = omega (arith, low, e, le)
  differs (inr high) e = omega (arith, high, e, lt)

wider : (from to more_from more_to : ℕ) (vs : List Variable) → more_from ≤ from → to ≤ more_to → AreBetween from to vs → AreBetween more_from more_to vs
wider from to more_from more_to [] low high are = tt
wider from to more_from more_to (v ∷ vs) low high are = (omega (arith, low, are.0), omega (arith, high, are.1), wider from to more_from more_to vs low high are.2)

-- those in front of some numbers, and those behind

pub wholly_in_front : (from to begin end : ℕ) (vs : List Variable) → AreBetween from to vs → to ≤ begin → AreOutside begin end vs
wholly_in_front from to begin end [] are le = tt
wholly_in_front from to begin end (v ∷ vs) are le = (inl (omega (arith, le, are.1)), wholly_in_front from to begin end vs are.2 le)

behind_all : (from to begin end : ℕ) (vs : List Variable) → AreBetween from to vs → end ≤ from → AreOutside begin end vs
behind_all from to begin end [] are le = tt
behind_all from to begin end (v ∷ vs) are le = (inr (omega (arith, le, are.0)), behind_all from to begin end vs are.2 le)

-- statements

variables_others : (from to next : ℕ) (vs inner : List Variable) → next ≤ to → AreOutside from to vs → AreBetween from next inner → AreOthers vs inner
variables_others from to next [] inner left out are = tt
variables_others from to next (v ∷ vs) inner left out are = (between_away from next v.number inner are (away out.0), variables_others from to next vs inner left out.1 are) where
  away : (v.number < from) ⊎ (to ≤ v.number) → (v.number < from) ⊎ (next ≤ v.number)
  away (inl lt) = inl lt
  away (inr le) = inr (omega (arith, le, left))

inner_others : (from to next : ℕ) (vs inner : List Variable) → next ≤ to → AreOutside from to vs → AreBetween from next inner → AreOthers inner vs
inner_others from to next vs [] left out are = tt
inner_others from to next vs (v ∷ inner) left out are = (outside_away from to v.number vs out are.0 (omega (arith, left, are.1)), inner_others from to next vs inner left out are.2)

pub body_scope : (count from to next : ℕ) (who : InScope) → AreInBody count from to next who → IsScope count who
body_scope count from to next who are = record {
  variables = are.variables;
  inner = are.inner;
  variables_others = variables_others from to next who.variables who.inner are.left are.outside are.between;
  inner_others = inner_others from to next who.variables who.inner are.left are.outside are.between;
}

pub body_declares : (count from to next : ℕ) (called : Name) (who : InScope) → next < to → next < count → AreInBody count from to next who → AreInBody count from to (suc next) (declared_at called next who)
body_declares count from to next called who more within are = record {
  begun = omega (arith, are.begun);
  left = omega (arith, more);
  variables = are.variables;
  outside = are.outside;
  inner = (within, between_away from next next who.inner are.between (inr (omega arith)), are.inner);
  between = (are.begun, omega arith, wider from next from (suc next) who.inner (omega arith) (omega arith) are.between);
}

-- variables one behind another

pub vars_apart : (all : List Kind) (s : Scope) (n : ℕ) (vars : List Var) → AreOfKinds all n (map (var_kind s) vars) → AreApart (length all) (vars_from n vars) × AreBetween n (n + length vars) (vars_from n vars)
vars_apart all s n [] are = (tt, tt)
vars_apart all s n (v ∷ vars) are =
    let rest : AreApart (length all) (vars_from (suc n) vars) × AreBetween (suc n) (suc n + length vars) (vars_from (suc n) vars) = vars_apart all s (suc n) vars are.1 in (
      (are.0.within, between_away (suc n) (suc n + length vars) n (vars_from (suc n) vars) rest.1 (inl (omega arith)), rest.0),
      (omega arith, omega arith, wider (suc n) (suc n + length vars) n (n + suc (length vars)) (vars_from (suc n) vars) (omega arith) (omega arith) rest.1),
    )

pub parameters_apart : (all : List Kind) (s : Scope) (n : ℕ) (ps : List Param) → AreOfKinds all n (map (parameter_kind s) ps) → AreApart (length all) (parameters_from n ps) × AreBetween n (n + length ps) (parameters_from n ps)
parameters_apart all s n [] are = (tt, tt)
parameters_apart all s n (p ∷ ps) are =
    let rest : AreApart (length all) (parameters_from (suc n) ps) × AreBetween (suc n) (suc n + length ps) (parameters_from (suc n) ps) = parameters_apart all s (suc n) ps are.1 in (
      (are.0.within, between_away (suc n) (suc n + length ps) n (parameters_from (suc n) ps) rest.1 (inl (omega arith)), rest.0),
      (omega arith, omega arith, wider (suc n) (suc n + length ps) n (n + suc (length ps)) (parameters_from (suc n) ps) (omega arith) (omega arith) rest.1),
    )

-- what a control declares

abbrev Apart : List Kind → Scope → ℕ → List Local → Type 0
Apart all s n locals =
    AreApart (length all) (locals_from s n locals) × AreBetween n (n + length (flat_map (local_kinds s) locals)) (locals_from s n locals)

-- behind what is no variable
past : (all : List Kind) (s : Scope) (n : ℕ) (own : List Kind) (locals : List Local) → Apart all s (n + length own) locals → AreApart (length all) (locals_from s (n + length own) locals) × AreBetween n (n + length (own ++ flat_map (local_kinds s) locals)) (locals_from s (n + length own) locals)
past all s n own locals rest =
    let long : length (own ++ flat_map (local_kinds s) locals) ≡ length own + length (flat_map (local_kinds s) locals) = length-append own (flat_map (local_kinds s) locals) in
    (rest.0, wider (n + length own) (n + length own + length (flat_map (local_kinds s) locals)) n (n + length (own ++ flat_map (local_kinds s) locals)) (locals_from s (n + length own) locals) (omega arith) (omega (arith, long)) rest.1)

pub locals_apart : (all : List Kind) (s : Scope) (n : ℕ) (locals : List Local) → AreOfKinds all n (flat_map (local_kinds s) locals) → Apart all s n locals
locals_apart all s n [] are = (tt, tt)
locals_apart all s n (local.Instance notes i ∷ locals) are = past all s n [] locals (locals_apart all s (n + 0) locals (apart all n [] (flat_map (local_kinds s) locals) are).1)
locals_apart all s n (local.Table t ∷ locals) are = past all s n [] locals (locals_apart all s (n + 0) locals (apart all n [] (flat_map (local_kinds s) locals) are).1)
locals_apart all s n (local.Action a ∷ locals) are =
    past all s n (local_kinds s (local.Action a)) locals
    (locals_apart all s (n + length (local_kinds s (local.Action a))) locals (apart all n (local_kinds s (local.Action a)) (flat_map (local_kinds s) locals) are).1)
locals_apart all s n (local.Var v ∷ locals) are =
    let both = apart all n (var_kind s v ∷ []) (flat_map (local_kinds s) locals) are in
    let rest : Apart all s (n + 1) locals = locals_apart all s (n + 1) locals both.1 in
    let behind = past all s n (var_kind s v ∷ []) locals rest in (
      (both.0.0.within, between_away (n + 1) (n + 1 + length (flat_map (local_kinds s) locals)) n (locals_from s (n + 1) locals) rest.1 (inl (omega arith)), rest.0),
      (omega arith, omega arith, behind.1),
    )

-- an action's own numbers are those of no variable of the control

action_above : (s : Scope) (n : ℕ) (locals : List Local) (text : Name) → n ≤ action_from s n locals text
action_above s n [] text = omega arith
action_above s n (local.Instance notes i ∷ locals) text = let later : n + 0 ≤ action_from s (n + 0) locals text = action_above s (n + 0) locals text in omega (arith, later)
action_above s n (local.Var v ∷ locals) text = let later : n + 1 ≤ action_from s (n + 1) locals text = action_above s (n + 1) locals text in omega (arith, later)
action_above s n (local.Table t ∷ locals) text = let later : n + 0 ≤ action_from s (n + 0) locals text = action_above s (n + 0) locals text in omega (arith, later)
action_above s n (local.Action a ∷ locals) text = by (bytes_eq a.name text) (action_above s (n + length (local_kinds s (local.Action a))) locals text) where
  by : (b : Bool) → n + length (local_kinds s (local.Action a)) ≤ action_from s (n + length (local_kinds s (local.Action a))) locals text → n ≤ cond b n (action_from s (n + length (local_kinds s (local.Action a))) locals text)
  by true later = omega arith
  by false later = omega (arith, later)

abbrev Outside : Scope → ℕ → List Local → Name → Action16 → Type 0
Outside s n locals text a =
    AreOutside (action_from s n locals text) (action_from s n locals text + length (local_kinds s (local.Action a))) (locals_from s n locals)

pub action_outside : (all : List Kind) (s : Scope) (n : ℕ) (locals : List Local) (text : Name) (a : Action16) → AreOfKinds all n (flat_map (local_kinds s) locals) → action_called (filter_map action_in locals) text ≡ Some a → Outside s n locals text a
action_outside all s n [] text a are found = absurd (cc found)
action_outside all s n (local.Instance notes i ∷ locals) text a are found = action_outside all s (n + 0) locals text a (apart all n [] (flat_map (local_kinds s) locals) are).1 found
action_outside all s n (local.Table t ∷ locals) text a are found = action_outside all s (n + 0) locals text a (apart all n [] (flat_map (local_kinds s) locals) are).1 found
action_outside all s n (local.Var v ∷ locals) text a are found =
    let above : n + 1 ≤ action_from s (n + 1) locals text = action_above s (n + 1) locals text in
    (inl (omega (arith, above)), action_outside all s (n + 1) locals text a (apart all n (var_kind s v ∷ []) (flat_map (local_kinds s) locals) are).1 found)
action_outside all s n (local.Action k ∷ locals) text a are found =
    by (bytes_eq k.name text) (action_outside all s (n + length (local_kinds s (local.Action k))) locals text a later) found where
      later : AreOfKinds all (n + length (local_kinds s (local.Action k))) (flat_map (local_kinds s) locals)
      later = (apart all n (local_kinds s (local.Action k)) (flat_map (local_kinds s) locals) are).1

      rest : List Variable
      rest = locals_from s (n + length (local_kinds s (local.Action k))) locals

      by : (b : Bool) → (action_called (filter_map action_in locals) text ≡ Some a → Outside s (n + length (local_kinds s (local.Action k))) locals text a) → cond b (Some k) (action_called (filter_map action_in locals) text) ≡ Some a → AreOutside (cond b n (action_from s (n + length (local_kinds s (local.Action k))) locals text)) (cond b n (action_from s (n + length (local_kinds s (local.Action k))) locals text) + length (local_kinds s (local.Action a))) (locals_from s (n + length (local_kinds s (local.Action k))) locals)
      by true further is =
          let one : k ≡ a = cc is in
          subst (λ (x : Action16). AreOutside n (n + length (local_kinds s (local.Action x))) (locals_from s (n + length (local_kinds s (local.Action k))) locals)) one
          (behind_all (n + length (local_kinds s (local.Action k))) (n + length (local_kinds s (local.Action k)) + length (flat_map (local_kinds s) locals)) n (n + length (local_kinds s (local.Action k))) (locals_from s (n + length (local_kinds s (local.Action k))) locals) (locals_apart all s (n + length (local_kinds s (local.Action k))) locals later).1 (omega arith))
      by false further is = further is

-- a state's own numbers stand behind those of the parser's variables

pub state_above : (s : Scope) (n : ℕ) (states : List State) (text : Name) → n ≤ state_from s n states text
state_above s n [] text = omega arith
state_above s n (x ∷ states) text = by (bytes_eq x.name text) (state_above s (n + length (state_kinds s x)) states text) where
  by : (b : Bool) → n + length (state_kinds s x) ≤ state_from s (n + length (state_kinds s x)) states text → n ≤ cond b n (state_from s (n + length (state_kinds s x)) states text)
  by true later = omega arith
  by false later = omega (arith, later)
