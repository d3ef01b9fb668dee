-- All that is asked of a table, given what its actions do (C1, C2, C4, C11, C24, C25).
use Rattle.std.proofs.Common.{◌≡◌, ℕ, false, not, Option, Some, None, List, [], ◌∷◌, ◌++◌, length, refl, sym, ap, ◌∙◌}
use Rattle.std.specs.Prelude.{unwrap_or, slice_get, option_and_then}
use Rattle.std.specs.Option.{option_map_or}
use Rattle.p414_syntax.specs.declared.actions.Action.{Action}
use Rattle.p414_syntax.specs.declared.tables.Table.{Table}
use Rattle.p414_syntax.specs.declared.syntax.Decl.{Decl}
use Rattle.p414_syntax.specs.Attributes.{default_action_of, default_arguments_of}
use Rattle.p414_syntax.specs.Names.{Name, has_name}
use Rattle.p414_syntax.specs.Arguments.{actions}
use Rattle.p414_syntax.specs.Tables.{tables, listed_in, argument_count, takes_other_count, is_bad_default, defaults_badly}
use Rattle.p414_sem.specs.Signatures.{table_of, actions_in_order, parameter_widths, widths_from}
use Rattle.lower_laws_states.specs.Expansions.{Has}
use Rattle.lower_laws_states.specs.Laws.{BreaksNo}
use Rattle.lower_laws_states.proofs.Members.{none_passes, neither, of_not}
use Rattle.lower_laws_states.proofs.Rules.{defaults_right}
use Rattle.lower_laws_states.proofs.Filling.{has_found, in_order_has}
use Rattle.lower_laws_states.proofs.Chosen.{table_has, action_there, counted_so, same_count, widths_long}
use Rattle.lower_laws_controls.specs.Listing.{widths_of_action}
use Rattle.lower_laws_controls.proofs.Written.{DefaultFits}
use Rattle.lower_laws_declared.specs.Layout.{IsShort}
use Rattle.lower_laws_declared.proofs.Listed.{listed_declared}
use Rattle.lower_laws_declared.proofs.Rules.{named_has}

module _ (ds : List Decl) (none : BreaksNo ds) (short : IsShort ds) (name : Name) (t : Table) (is : table_of ds name ≡ Some t) where
  -- C24
  one_fits : (action : Name) → default_action_of t.attributes ≡ Some action → DefaultFits ds t (Some action)
  one_fits action given =
      let here : Has (tables ds) t = table_has ds none name t is in
      let bad : is_bad_default ds t action ≡ false = sym (ap (λ (o : Option Name). option_map_or (is_bad_default ds t) o false) given) ∙ none_passes (defaults_badly ds) (tables ds) t (defaults_right ds none) here in
      let parts = neither (not (has_name (listed_in t) action)) _ bad in
      let listed : Has (listed_in t) action = named_has (listed_in t) action (of_not (has_name (listed_in t) action) parts.0) in
      let there = action_there ds action (listed_declared ds none short t here action listed) in
      let k = has_found (actions_in_order t) action (in_order_has (listed_in t) action listed) in
      let count : length there.1.parameters ≡ length (unwrap_or (default_arguments_of t.attributes) []) =
      same_count _ _ (sym (ap (λ (o : Option Action). option_map_or (takes_other_count (argument_count (default_arguments_of t.attributes))) o false) (ap (option_and_then (slice_get (actions ds))) there.2 ∙ there.3)) ∙ parts.1) ∙ counted_so (default_arguments_of t.attributes) in
      let long : length (widths_of_action ds action) ≡ length there.1.parameters =
      ap (λ (o : Option ℕ). length (option_map_or (parameter_widths ds) o [])) there.2
      ∙ (ap (λ (o : Option Action). length (option_map_or (λ (a : Action). widths_from ds there.0 0 a.parameters) o [])) there.3 ∙ widths_long ds there.0 0 there.1.parameters) in
      ((k.0, k.1), sym (long ∙ count))

  pub default_fits : DefaultFits ds t (default_action_of t.attributes)
  default_fits = by (default_action_of t.attributes) refl where
    by : (o : Option Name) → default_action_of t.attributes ≡ o → DefaultFits ds t o
    by None e = tt
    by (Some action) e = one_fits action e
