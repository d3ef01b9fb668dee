-- Numbers in lists have 1 to 128 bits (C8, and as they are read).
use Rattle.std.proofs.Common.{◌≡◌, ℕ, ◌<◌, ◌≤◌, Option, Some, None, List, [], ◌∷◌, refl, sym, ap, ◌∙◌, subst}
use Rattle.std.specs.Prelude.{slice_get, unwrap_or, option_map}
use Rattle.std.specs.List.{list_any, AllByRecursion}
use Rattle.p414_syntax.specs.declared.calculations.FieldList.{FieldList}
use Rattle.p414_syntax.specs.declared.calculations.Item.{Item}
use Rattle.p414_syntax.specs.declared.calculations.Item.TheVariants as item
use Rattle.p414_syntax.specs.declared.syntax.Decl.{Decl}
use Rattle.p414_syntax.specs.declared.syntax.Decl.TheVariants as decl
use Rattle.p414_syntax.specs.Breaks.{BreaksNone, program_rules}
use Rattle.p414_syntax.specs.Expansion.{lists, list_in, items_in}
use Rattle.p414_syntax.specs.Lists.{is_bare_item, has_bare_number, is_bad_calculated, calculated_fields}
use Rattle.lower_laws_states.specs.Expansions.{Has}
use Rattle.lower_laws_states.proofs.Members.{has_at, picked_has, each_has, neither, none_passes}
use Rattle.lower_laws_states.proofs.Rules.{fields_right}
use Rattle.lower_laws_premises.specs.Literals.{IsSpelt}
use Rattle.lower_laws_premises.proofs.Literals.{item_fits}
use Rattle.lower_laws_premises.proofs.Sources.{sized}
use Rattle.lower_laws_block_rules.specs.Sums.{ItemWide}
use Rattle.lower_laws_block_rules.specs.Widths.{IsWidth}
use Rattle.lower_laws_block_rules.proofs.RuledItems.{ListsWide}
use Rattle.lower_laws_translated.proofs.Calculated.{some_of}

declared : (d : Decl) (l : FieldList) → list_in d ≡ Some l → d ≡ decl.FieldList l
declared (decl.FieldList x) l e = ap decl.FieldList (cc e)
declared _ l e = absurd (cc e)

module _ (ds : List Decl) (none : BreaksNone ds program_rules) (spelt : IsSpelt ds) where
  item_wide : (l : FieldList) → Has ds (decl.FieldList l) → (i : Item) → Has l.items i → ItemWide i
  item_wide l there (item.Number n) h =
      let bare = none_passes is_bare_item l.items (item.Number n) (none_passes has_bare_number ds (decl.FieldList l) (neither (list_any has_bare_number ds) (list_any (is_bad_calculated ds) (calculated_fields ds)) (fields_right ds none)).0 there) h in
      let w = some_of n.width bare in
      let s = sized n w.0 w.1 (item_fits ds spelt l n there h) in
      subst (λ (o : Option ℕ). IsWidth (unwrap_or o 0)) (sym w.1) (s.0, s.1)
  item_wide l there item.Payload h = tt
  item_wide l there (item.Field r) h = tt
  item_wide l there (item.Instance i) h = tt

  pub lists_wide : ListsWide ds
  lists_wide n items e = by (slice_get (lists ds) n) refl e where
    by : (o : Option FieldList) → slice_get (lists ds) n ≡ o → option_map items_in o ≡ Some items → AllByRecursion ItemWide items
    by None at e = absurd (cc e)
    by (Some l) at e =
        let d = picked_has list_in ds l (has_at (lists ds) n l at) in
        subst (AllByRecursion ItemWide) (cc e) (each_has ItemWide l.items (item_wide l (subst (Has ds) (declared d.0 l d.2) d.1)))
