-- A register has a width of 1 to 128 bits: it has a width or a layout by the grammar, no layout by C25, and C3 bounds the width.
use Rattle.std.proofs.Common.{◌≡◌, ℕ, ◌<◌, Bool, true, false, cond, Option, Some, None, List, [], ◌∷◌, length, map, get_or, refl, sym, ap, ◌∙◌, subst}
use Rattle.std.specs.Prelude.{is_some, nat_lt, option_and_then}
use Rattle.std.specs.List.{list_any}
use Rattle.std.specs.Option.{option_map_or}
use Rattle.std.proofs.lemmas.Bool.{ltb-false}
use Rattle.std.proofs.lemmas.List.{length-map}
use Rattle.std.proofs.lemmas.List.{get_or-map}
use Rattle.p414_syntax.specs.declared.lexeme.Literal.{Literal}
use Rattle.p414_syntax.specs.declared.objects.StateAttr.{StateAttr}
use Rattle.p414_syntax.specs.declared.objects.StateAttr.TheVariants as state_attr
use Rattle.p414_syntax.specs.declared.objects.Stateful.{Stateful}
use Rattle.p414_syntax.specs.declared.syntax.Decl.{Decl}
use Rattle.p414_syntax.specs.declared.syntax.Decl.TheVariants as decl
use Rattle.p414_syntax.specs.declared.syntax.Sort.TheVariants as sort
use Rattle.p414_syntax.specs.Attributes.{direct_table_of, layout_of, width_of}
use Rattle.p414_syntax.specs.Conditions.{all_different, has_word, register_needs, is_decl}
use Rattle.p414_syntax.specs.Written.{state_word}
use Rattle.p414_syntax.specs.Names.{Name, number_of, numbered, declaration_of, names_in}
use Rattle.p414_syntax.specs.Breaks.{BreaksNone, program_rules}
use Rattle.p414_syntax.specs.Cells.{literal_value}
use Rattle.p414_syntax.specs.Unsupported.{declares_unsupported}
use Rattle.p414_syntax.specs.Widths.{is_bad_width, declares_bad_width}
use Rattle.p414_sem.specs.Operations.{in_order}
use Rattle.p416_syntax.specs.Kinds.{register, counter, direct_counter, meter}
use Rattle.lower_laws_base.specs.Context.{Lowering, ObjectName, no_object, object_at}
use Rattle.lower_laws_states.specs.Expansions.{Has}
use Rattle.lower_laws_states.proofs.Members.{neither, none_passes}
use Rattle.lower_laws_states.proofs.Rules.{widths_right, all_supported}
use Rattle.lower_laws_states.proofs.Declared.{numbered_has}
use Rattle.lower_laws_actions.specs.Fits.{IsObject}
use Rattle.lower_laws_rules.specs.Acting.{IsWidth}
use Rattle.lower_laws_premises.specs.Literals.{IsSpelt}
use Rattle.lower_laws_premises.specs.Shown.{object_kind, cell_width, object_shown, objects_shown}
use Rattle.lower_laws_premises.proofs.Literals.{all_pass}
use Rattle.lower_laws_premises.proofs.Sources.{split}

-- a width stands where no layout does
width_there : (attributes : List StateAttr) → has_word register_needs (map state_word attributes) ≡ true → is_some (layout_of attributes) ≡ false → (n : Literal) × (width_of attributes ≡ Some n)
width_there [] needs none = absurd (cc needs)
width_there (state_attr.Width n ∷ rest) needs none = (n, refl)
width_there (state_attr.Layout t ∷ rest) needs none = absurd (cc none)
width_there (state_attr.Counts t ∷ rest) needs none = width_there rest needs none
width_there (state_attr.Direct t ∷ rest) needs none = width_there rest needs none
width_there (state_attr.Static t ∷ rest) needs none = width_there rest needs none
width_there (state_attr.Result r ∷ rest) needs none = width_there rest needs none
width_there (state_attr.InstanceCount n ∷ rest) needs none = width_there rest needs none
width_there (state_attr.MinWidth n ∷ rest) needs none = width_there rest needs none
width_there (state_attr.Saturating ∷ rest) needs none = width_there rest needs none
width_there (state_attr.Signed ∷ rest) needs none = width_there rest needs none

module _ (ds : List Decl) (none : BreaksNone ds program_rules) (spelt : IsSpelt ds) where
  pub register_wide : (s : Stateful) → Has ds (decl.Register s) → IsWidth (option_map_or literal_value (width_of s.attributes) 0)
  register_wide s h =
      let needs = (split (all_different (map state_word s.attributes)) _ (all_pass is_decl ds (decl.Register s) spelt.grammar h)).1 in
      let supported = none_passes declares_unsupported ds (decl.Register s) (neither (list_any declares_unsupported ds) _ (all_supported ds none)).0 h in
      let n = width_there s.attributes needs (neither _ (is_some (layout_of s.attributes)) (neither _ _ supported).0).1 in
      let right = none_passes declares_bad_width ds (decl.Register s) (widths_right ds none) h in
      let bounds = neither (nat_lt n.0.value 1) (nat_lt 128 n.0.value) (ap (λ (o : Option Literal). option_map_or is_bad_width o false) (sym n.1) ∙ right) in
      subst (λ (o : Option Literal). IsWidth (option_map_or literal_value o 0)) (sym n.1) (ltb-false n.0.value 1 bounds.0, ltb-false 128 n.0.value bounds.1)

  pub declared_at : (name : Name) (d : Decl) → declaration_of sort.Object ds name ≡ Some d → Has ds d
  declared_at name d e = by (number_of sort.Object ds name) e where
    by : (o : Option ℕ) → option_and_then (numbered sort.Object ds) o ≡ Some d → Has ds d
    by None e = absurd (cc e)
    by (Some k) e = numbered_has ds sort.Object k d e

  -- each register of a lowering that shows the objects
  pub registers_wide : (c : Lowering) (new : Name → Name) → c.objects ≡ objects_shown new ds → (j : ℕ) → IsObject c register j → IsWidth (object_at c.objects j).width
  registers_wide c new objects j is =
      let names = in_order (names_in sort.Object ds) in
      let name = get_or names j [] in
      let shown : object_at c.objects j ≡ object_shown new ds name = ap (λ (l : List ObjectName). object_at l j) objects ∙ get_or-map (object_shown new ds) names j [] no_object (subst (λ k. j < k) (ap length objects ∙ length-map names (object_shown new ds)) is.0) in
      subst (λ (o : ObjectName). IsWidth o.width) (sym shown) (by (declaration_of sort.Object ds name) refl (ap (λ (o : ObjectName). o.kind) (sym shown) ∙ is.1))
    where
      of : (d : Decl) → Has ds d → object_kind d ≡ register → IsWidth (cell_width d)
      of (decl.Register s) h e = register_wide s h
      of (decl.Counter s) h e = absurd (direct (is_some (direct_table_of s.attributes)) e) where
        direct : (b : Bool) → cond b direct_counter counter ≡ register → ⊥
        direct true e = cc e
        direct false e = cc e
      of _ h e = absurd (cc e)

      by : (o : Option Decl) → declaration_of sort.Object ds (get_or (in_order (names_in sort.Object ds)) j []) ≡ o → option_map_or object_kind o meter ≡ register → IsWidth (option_map_or cell_width o 0)
      by None e f = absurd (cc f)
      by (Some d) e f = of d (declared_at _ d e) f
