-- The parameters of an action that is written: each its own inner name, with the widths of P4_14 (C1).
use Rattle.std.proofs.Common.{◌≡◌, ◌≢◌, ℕ, zero, suc, ◌+◌, ◌<◌, ◌≤◌, ◌^◌, false, Option, Some, None, List, [], ◌∷◌, ◌++◌, length, map, refl, sym, ap, ◌∙◌, subst, arith}
use Rattle.std.specs.Prelude.{slice_get, ◌||◌}
use Rattle.std.specs.List.{list_any}
use Rattle.std.specs.Option.{option_map_or}
use Rattle.std.specs.Str.{bytes_eq}
use Rattle.std.proofs.lemmas.Slice.Eq.{bytes_eq-Decides}
use Rattle.p414_syntax.specs.declared.actions.Action.{Action}
use Rattle.p414_syntax.specs.declared.syntax.Decl.{Decl}
use Rattle.p414_syntax.specs.declared.syntax.Decl.TheVariants as decl
use Rattle.p414_syntax.specs.Names.{Name, repeats}
use Rattle.p414_syntax.specs.Arguments.{actions, action_in}
use Rattle.p414_syntax.specs.Breaks.{BreaksNone, program_rules}
use Rattle.p414_syntax.specs.Fields.{types}
use Rattle.p414_syntax.specs.Twice.{sorts, repeats_in, has_field_twice, repeats_within}
use Rattle.p414_sem.specs.Signatures.{parameter_width, parameter_widths, widths_from}
use Rattle.p416_syntax.specs.Names.{repeats as repeats16, has_name as has_name16}
use Rattle.agreement_of_meanings.specs.Shown.{NamedField, width_of}
use Rattle.lower_laws_names.specs.Made.{called}
use Rattle.lower_laws_names.specs.NewNames.{numbered_from, parameter_thing}
use Rattle.lower_laws_names.proofs.Proved.{members_differ}
use Rattle.lower_laws_base.specs.Context.{local_at, local_of, AreDistinct}
use Rattle.lower_laws_states.specs.Expansions.{Has}
use Rattle.lower_laws_states.proofs.Members.{has_at, picked_has, none_passes}
use Rattle.lower_laws_states.proofs.Rules.{none_twice}
use Rattle.lower_laws_controls.proofs.Expanding.{neither}
use Rattle.lower_laws_premises.proofs.Literals.{declared_action}
use Rattle.lower_laws_translated.specs.Translated.{parameters_from, new_parameters_of}
use Rattle.lower_laws_translated.proofs.Inner.{IsInner, parameter_inner}
use Rattle.lower_laws_translated.proofs.Spares.{spare_apart}
use Rattle.lower_laws_translated.proofs.Scope.{AreInner}

abbrev field_called : NamedField → Name
field_called f = f.called

-- names that don't repeat differ

other : (f : Name) (ps : List NamedField) → has_name16 (map field_called ps) f ≡ false → (j : ℕ) → j < length (map local_of ps) → f ≢ (local_at (map local_of ps) j).called
other f [] none j lt = absurd (omega (arith, lt))
other f (p ∷ ps) none zero lt = λ same. absurd (cc ((neither (bytes_eq f p.called) (has_name16 (map field_called ps) f) none).0, (bytes_eq-Decides f p.called).1 same))
other f (p ∷ ps) none (suc j) lt = other f ps (neither (bytes_eq f p.called) (has_name16 (map field_called ps) f) none).1 j (omega (arith, lt))

distinct_by : (ps : List NamedField) → repeats16 (map field_called ps) ≡ false → AreDistinct (map local_of ps)
distinct_by [] none j k a b apart = absurd (omega (arith, a))
distinct_by (p ∷ ps) none zero zero a b apart = absurd (apart refl)
distinct_by (p ∷ ps) none zero (suc k) a b apart = other p.called ps (neither (has_name16 (map field_called ps) p.called) (repeats16 (map field_called ps)) none).0 k (omega (arith, b))
distinct_by (p ∷ ps) none (suc j) zero a b apart = λ same. other p.called ps (neither (has_name16 (map field_called ps) p.called) (repeats16 (map field_called ps)) none).0 j (omega (arith, a)) (sym same)
distinct_by (p ∷ ps) none (suc j) (suc k) a b apart = distinct_by ps (neither (has_name16 (map field_called ps) p.called) (repeats16 (map field_called ps)) none).1 j k (omega (arith, a)) (omega (arith, b)) (λ e. apart (ap suc e))

module _ (ds : List Decl) (action : ℕ) where
  pub names_same : (p : ℕ) (names : List Name) → map field_called (parameters_from ds action p names) ≡ map called (numbered_from (parameter_thing ds) p names)
  names_same p [] = refl
  names_same p (n ∷ names) = ap (λ (l : List Name). called (parameter_thing ds p n) ∷ l) (names_same (p + 1) names)

  widths_same : (p : ℕ) (names : List Name) → map width_of (parameters_from ds action p names) ≡ widths_from ds action p names
  widths_same p [] = refl
  widths_same p (n ∷ names) = ap (λ (l : List ℕ). parameter_width ds action p ∷ l) (widths_same (p + 1) names)

  -- the thing that a parameter is
  record IsParameter (text : Name) : Type 0 where
    pub number : ℕ
    pub name : Name
    pub small : number < 2 ^ 32
    pub is : text ≡ called (parameter_thing ds number name)

  parameter_at : (p : ℕ) (names : List Name) → p + length names ≤ 2 ^ 32 → (j : ℕ) → j < length (map local_of (parameters_from ds action p names)) → IsParameter (local_at (map local_of (parameters_from ds action p names)) j).called
  parameter_at p [] few j lt = absurd (omega (arith, lt))
  parameter_at p (n ∷ names) few zero lt = record { number = p; name = n; small = omega (arith, few); is = refl }
  parameter_at p (n ∷ names) few (suc j) lt = parameter_at (p + 1) names (omega (arith, few)) j (omega (arith, lt))

  inner_from : (names : List Name) → repeats names ≡ false → length names ≤ 2 ^ 32 → AreInner ds (parameters_from ds action 0 names)
  inner_from names once few = record {
    differ = distinct_by (parameters_from ds action 0 names) (ap repeats16 (names_same 0 names) ∙ members_differ.parameters ds names once few);
    inner = λ j lt. let at = parameter_at 0 names (omega (arith, few)) j lt in subst (IsInner ds) (sym at.is) (parameter_inner ds at.number at.name at.small);
    spare = λ j lt K i same. let at = parameter_at 0 names (omega (arith, few)) j lt in spare_apart ds at.number at.name at.small K i (sym at.is ∙ same);
  }

  pub parameters_wide : map width_of (new_parameters_of ds action) ≡ parameter_widths ds action
  parameters_wide = by (slice_get (actions ds) action) where
    by : (o : Option Action) → map width_of (option_map_or (λ (a : Action). parameters_from ds action 0 a.parameters) o []) ≡ option_map_or (λ (a : Action). widths_from ds action 0 a.parameters) o []
    by None = refl
    by (Some a) = widths_same 0 a.parameters

  module _ (none : BreaksNone ds program_rules) (few : (a : Action) → Has (actions ds) a → length a.parameters ≤ 2 ^ 32) where
    pub once_in : (a : Action) → Has (actions ds) a → repeats a.parameters ≡ false
    once_in a h =
        let d = picked_has action_in ds a h in
        let twice = neither (list_any (repeats_in ds) sorts) (list_any has_field_twice (types ds) || list_any repeats_within ds) (none_twice ds none) in
        none_passes repeats_within ds (decl.Action a) (neither (list_any has_field_twice (types ds)) (list_any repeats_within ds) twice.1).1 (subst (Has ds) (declared_action d.0 a d.2) d.1)

    pub parameters_inner : AreInner ds (new_parameters_of ds action)
    parameters_inner = by (slice_get (actions ds) action) refl where
      by : (o : Option Action) → slice_get (actions ds) action ≡ o → AreInner ds (option_map_or (λ (a : Action). parameters_from ds action 0 a.parameters) o [])
      by None e = record { differ = λ j k a b apart. absurd (omega (arith, a)); inner = λ j lt. absurd (omega (arith, lt)); spare = λ j lt. absurd (omega (arith, lt)) }
      by (Some a) e = let h = has_at (actions ds) action a e in inner_from a.parameters (once_in a h) (few a h)
