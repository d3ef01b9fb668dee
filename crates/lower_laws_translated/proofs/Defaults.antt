-- A default action is one that its table lists, with as many arguments as it has parameters (C24); and a table's direct counter has
-- one number in both programs.
use Rattle.std.proofs.Common.{◌≡◌, inl, inr, ℕ, zero, suc, ◌<◌, Bool, true, false, not, Option, Some, None, List, [], ◌∷◌, length, refl, sym, ap, ◌∙◌, subst, arith}
use Rattle.std.specs.Prelude.{nat_eq, slice_get, unwrap_or, option_and_then, ◌||◌}
use Rattle.std.specs.List.{list_any}
use Rattle.std.specs.Option.{option_map_or}
use Rattle.std.specs.Str.{bytes_eq}
use Rattle.std.proofs.lemmas.Slice.Eq.{bytes_eq-Decides}
use Rattle.std.proofs.lemmas.Bool.Decides.{nat_tests}
use Rattle.p414_syntax.specs.declared.actions.Action.{Action}
use Rattle.p414_syntax.specs.declared.parts.Number.{Number}
use Rattle.p414_syntax.specs.declared.syntax.Decl.{Decl}
use Rattle.p414_syntax.specs.declared.syntax.Sort.TheVariants as sort
use Rattle.p414_syntax.specs.declared.tables.Table.{Table}
use Rattle.p414_syntax.specs.Attributes.{default_action_of, default_arguments_of}
use Rattle.p414_syntax.specs.Names.{Name, names_in, has_name, is_declared}
use Rattle.p414_syntax.specs.Arguments.{actions, action_of}
use Rattle.p414_syntax.specs.Breaks.{BreaksNone, program_rules}
use Rattle.p414_syntax.specs.Tables.{tables, listed_in, argument_count, takes_other_count, is_bad_default, defaults_badly}
use Rattle.p414_sem.specs.Signatures.{actions_in_order, parameter_widths}
use Rattle.lower_laws_names.specs.Reaches.{IsNumbered}
use Rattle.lower_laws_names.proofs.OneSort.{is_numbered}
use Rattle.lower_laws_controls.specs.Listing.{widths_of_action}
use Rattle.lower_laws_controls.proofs.Written.{DefaultFits}
use Rattle.lower_laws_states.specs.Expansions.{Has}
use Rattle.lower_laws_states.proofs.Members.{neither, none_passes}
use Rattle.lower_laws_states.proofs.Filling.{in_order_has, has_found}
use Rattle.lower_laws_states.proofs.Rules.{defaults_right}
use Rattle.lower_laws_premises.proofs.Widths.{parameters_long}
use Rattle.lower_laws_declared.specs.Layout.{IsShort}
use Rattle.lower_laws_declared.proofs.Listed.{listed_declared}
use Rattle.lower_laws_declared.proofs.Found.{declared_named}
use Rattle.lower_laws_translated.proofs.Acts.{number_within}

pub any_has : {X : Type 0} (q : X → Bool) (xs : List X) → list_any q xs ≡ true → (x : X) × Has xs x × (q x ≡ true)
any_has q [] e = absurd (cc e)
any_has q (y ∷ xs) e = by (q y) refl e (λ f. any_has q xs f) where
  by : (b : Bool) → q y ≡ b → (b || list_any q xs) ≡ true → (list_any q xs ≡ true → (x : _) × Has xs x × (q x ≡ true)) → (x : _) × Has (y ∷ xs) x × (q x ≡ true)
  by true is e more = (y, inl refl, is)
  by false is e more = let m = more e in (m.0, inr m.1, m.2)

pub got : {X : Type 0} (xs : List X) (k : ℕ) → k < length xs → (x : X) × (slice_get xs k ≡ Some x)
got [] k lt = absurd (omega (arith, lt))
got (x ∷ xs) zero lt = (x, refl)
got (x ∷ xs) (suc k) lt = got xs k (omega (arith, lt))

of_not : (b : Bool) → not b ≡ false → b ≡ true
of_not true e = refl
of_not false e = absurd (cc e)

module _ (ds : List Decl) (none : BreaksNone ds program_rules) (short : IsShort ds) (t : Table) (h : Has (tables ds) t) where
  pub listed_number : (action : Name) → Has (listed_in t) action → IsNumbered ds sort.Action action
  listed_number action listed = is_numbered ds sort.Action action short.few (by (listed_declared ds none short t h action listed)) where
    by : is_declared sort.Action ds action ≡ true → has_name (names_in sort.Action ds) action ≡ true
    by e = declared_named ds sort.Action action e

  -- C24
  pub default_fits : DefaultFits ds t (default_action_of t.attributes)
  default_fits = by (default_action_of t.attributes) refl where
    by : (o : Option Name) → default_action_of t.attributes ≡ o → DefaultFits ds t o
    by None e = tt
    by (Some name) e =
        let bad : is_bad_default ds t name ≡ false = sym (ap (λ (o : Option Name). option_map_or (is_bad_default ds t) o false) e) ∙ none_passes (defaults_badly ds) (tables ds) t (defaults_right ds none) h in
        let parts = neither (not (has_name (listed_in t) name)) (option_map_or (takes_other_count (argument_count (default_arguments_of t.attributes))) (action_of ds name) false) bad in
        let one = any_has (bytes_eq name) (listed_in t) (of_not (has_name (listed_in t) name) parts.0) in
        let listed : Has (listed_in t) name = subst (Has (listed_in t)) (sym ((bytes_eq-Decides name one.0).0 one.2)) one.1 in
        let number = listed_number name listed in
        let a = got (actions ds) number.number (number_within ds name number) in
        let found = has_found (actions_in_order t) name (in_order_has (listed_in t) name listed) in
        let same : takes_other_count (argument_count (default_arguments_of t.attributes)) a.0 ≡ false = sym (ap (λ (o : Option Action). option_map_or (takes_other_count (argument_count (default_arguments_of t.attributes))) o false) (ap (option_and_then (slice_get (actions ds))) number.found ∙ a.1)) ∙ parts.1 in
        let long : length (widths_of_action ds name) ≡ length a.0.parameters = ap (λ (o : Option ℕ). length (option_map_or (parameter_widths ds) o [])) number.found ∙ parameters_long ds number.number a.0 a.1 in
        ((found.0, found.1), counts (default_arguments_of t.attributes) ∙ sym (equal (length a.0.parameters) (argument_count (default_arguments_of t.attributes)) same) ∙ sym long)
      where
        counts : (o : Option (List Number)) → length (unwrap_or o []) ≡ argument_count o
        counts None = refl
        counts (Some l) = refl

        equal : (m n : ℕ) → not (nat_eq m n) ≡ false → m ≡ n
        equal m n e = let f = of_not (nat_eq m n) e in grind (arith, nat_tests, f)
