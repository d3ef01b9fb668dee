-- The numbers of actions and calculations, and what stands at them.
use Rattle.std.proofs.Common.{◌≡◌, ℕ, suc, zero, ◌<◌, List, [], ◌∷◌, length, map, slice_get, Option, Some, None, option_and_then, refl, ap, ◌∙◌, arith}
use Rattle.std.specs.Str.{bytes_eq}
use Rattle.std.proofs.lemmas.List.{length-map}
use Rattle.std.proofs.lemmas.List.Quantifiers.{position-Some}
use Rattle.p414_syntax.specs.declared.actions.Action.{Action}
use Rattle.p414_syntax.specs.declared.syntax.Decl.{Decl}
use Rattle.p414_syntax.specs.declared.syntax.Decl.TheVariants as decl
use Rattle.p414_syntax.specs.declared.syntax.Sort.TheVariants as sort
use Rattle.p414_syntax.specs.Names.{Name, names_in, number_of, declared_in}
use Rattle.p414_syntax.specs.Lists.{calculation_in, calculation_of}
use Rattle.p414_syntax.specs.Arguments.{actions, action_number, action_of}
use Rattle.p414_list_check.proofs.Expanding.{get_within}
use Rattle.p414_action_check.specs.internal.Counted.{calculations}

abbrev name_of : Action → Name
name_of a = a.name

action_names : (ds : List Decl) → names_in sort.Action ds ≡ map name_of (actions ds)
action_names [] = refl
action_names (decl.Action x ∷ ds) = ap (λ names. x.name ∷ names) (action_names ds)
action_names (decl.FieldList x ∷ ds) = action_names ds
action_names (decl.HeaderType x ∷ ds) = action_names ds
action_names (decl.Header x ∷ ds) = action_names ds
action_names (decl.Metadata x ∷ ds) = action_names ds
action_names (decl.FieldListCalculation x ∷ ds) = action_names ds
action_names (decl.CalculatedField x ∷ ds) = action_names ds
action_names (decl.Parser x ∷ ds) = action_names ds
action_names (decl.Table x ∷ ds) = action_names ds
action_names (decl.Counter x ∷ ds) = action_names ds
action_names (decl.Meter x ∷ ds) = action_names ds
action_names (decl.Register x ∷ ds) = action_names ds
action_names (decl.Control x ∷ ds) = action_names ds
action_names (decl.LeftOut x ∷ ds) = action_names ds

-- the number of an action is below that of the actions
pub named_within : (ds : List Decl) (name : Name) (n : ℕ) → action_number ds name ≡ Some n → n < length (actions ds)
named_within ds name n e =
    let within : n < length (names_in sort.Action ds) = (position-Some (bytes_eq name) (names_in sort.Action ds) n [] e).0 in
    let same : length (names_in sort.Action ds) ≡ length (actions ds) = ap length (action_names ds) ∙ length-map (actions ds) name_of in
    omega arith

-- the action with a name, by its number
pub action_there : (ds : List Decl) (name : Name) (n : ℕ) → action_number ds name ≡ Some n → (a : Action) × (slice_get (actions ds) n ≡ Some a) × (action_of ds name ≡ Some a)
action_there ds name n e =
    let a = get_within (actions ds) n (named_within ds name n e) in
    (a.0, a.1, ap (option_and_then (slice_get (actions ds))) e ∙ a.1)

number_by : (ds : List Decl) (o : Option ℕ) (a : Action) → option_and_then (slice_get (actions ds)) o ≡ Some a → (n : ℕ) × (o ≡ Some n) × (slice_get (actions ds) n ≡ Some a)
number_by ds None a e = absurd (cc e)
number_by ds (Some n) a e = (n, refl, e)

pub number_there : (ds : List Decl) (name : Name) (a : Action) → action_of ds name ≡ Some a → (n : ℕ) × (action_number ds name ≡ Some n) × (slice_get (actions ds) n ≡ Some a)
number_there ds name a e = number_by ds (action_number ds name) a e

none_by : (ds : List Decl) (name : Name) (o : Option ℕ) → action_number ds name ≡ o → action_of ds name ≡ None → o ≡ None
none_by ds name None is e = refl
none_by ds name (Some n) is e = let a = action_there ds name n is in absurd (cc (e, a.2))

-- where no action has a name, it has no number
pub no_number : (ds : List Decl) (name : Name) → action_of ds name ≡ None → action_number ds name ≡ None
no_number ds name e = none_by ds name (action_number ds name) refl e

pub no_action : (ds : List Decl) (name : Name) → action_number ds name ≡ None → action_of ds name ≡ None
no_action ds name e = ap (option_and_then (slice_get (actions ds))) e

-- the calculation with a number

calculation_there : (ds : List Decl) (n : ℕ) → option_and_then calculation_in (slice_get (declared_in sort.Calculation ds) n) ≡ slice_get (calculations ds) n
calculation_there [] n = refl
calculation_there (decl.FieldListCalculation x ∷ ds) zero = refl
calculation_there (decl.FieldListCalculation x ∷ ds) (suc n) = calculation_there ds n
calculation_there (decl.Action x ∷ ds) n = calculation_there ds n
calculation_there (decl.FieldList x ∷ ds) n = calculation_there ds n
calculation_there (decl.HeaderType x ∷ ds) n = calculation_there ds n
calculation_there (decl.Header x ∷ ds) n = calculation_there ds n
calculation_there (decl.Metadata x ∷ ds) n = calculation_there ds n
calculation_there (decl.CalculatedField x ∷ ds) n = calculation_there ds n
calculation_there (decl.Parser x ∷ ds) n = calculation_there ds n
calculation_there (decl.Table x ∷ ds) n = calculation_there ds n
calculation_there (decl.Counter x ∷ ds) n = calculation_there ds n
calculation_there (decl.Meter x ∷ ds) n = calculation_there ds n
calculation_there (decl.Register x ∷ ds) n = calculation_there ds n
calculation_there (decl.Control x ∷ ds) n = calculation_there ds n
calculation_there (decl.LeftOut x ∷ ds) n = calculation_there ds n

calculation_by : (ds : List Decl) (o : Option ℕ) → option_and_then calculation_in (option_and_then (λ n. slice_get (declared_in sort.Calculation ds) n) o) ≡ option_and_then (λ n. slice_get (calculations ds) n) o
calculation_by ds None = refl
calculation_by ds (Some n) = calculation_there ds n

pub calculation_is : (ds : List Decl) (name : Name) → calculation_of ds name ≡ option_and_then (λ n. slice_get (calculations ds) n) (number_of sort.Calculation ds name)
calculation_is ds name = calculation_by ds (number_of sort.Calculation ds name)
