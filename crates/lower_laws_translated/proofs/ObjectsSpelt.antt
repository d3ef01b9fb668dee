-- The objects that are written are spelt.
use Rattle.std.proofs.Common.{◌≡◌, inl, ℕ, ◌<◌, ◌≤◌, ◌^◌, Option, Some, None, List, [], ◌∷◌, refl, sym, subst, arith}
use Rattle.std.specs.List.{AllByRecursion}
use Rattle.std.specs.Option.{option_map_or}
use Rattle.p414_syntax.specs.declared.objects.Stateful.{Stateful}
use Rattle.p414_syntax.specs.declared.syntax.Decl.{Decl}
use Rattle.p414_syntax.specs.declared.syntax.Decl.TheVariants as decl
use Rattle.p414_syntax.specs.declared.syntax.Rule14.TheVariants as rule
use Rattle.p414_syntax.specs.declared.syntax.Sort.TheVariants as sort
use Rattle.p414_syntax.specs.Attributes.{counts_of, direct_table_of, width_of}
use Rattle.p414_syntax.specs.Cells.{literal_value}
use Rattle.p414_syntax.specs.Names.{name_in, names_in}
use Rattle.p414_sem.specs.Expanded.{Expanded}
use Rattle.p414_sem.specs.Signatures.{cells_of}
use Rattle.p416_syntax.specs.declared.controls.Instance.TheVariants as instance
use Rattle.p416_syntax.specs.declared.parts.Note.TheVariants as note
use Rattle.p416_syntax.specs.declared.program.Decl16.{Decl16}
use Rattle.p416_syntax.specs.declared.program.Decl16.TheVariants as decl16
use Rattle.p416_syntax.specs.Names.{Name}
use Rattle.lower_laws_names.specs.NewNames.{new_name}
use Rattle.lower_laws_names.specs.Types.{plain}
use Rattle.lower_laws_names.specs.Objects.{size_exp, meter_member, counter_instance, object_decl, object_decls}
use Rattle.lower_laws_states.specs.Expansions.{Has}
use Rattle.lower_laws_states.proofs.Members.{has_picked, picked_has, each_has}
use Rattle.lower_laws_premises.proofs.Registers.{register_wide}
use Rattle.lower_laws_rules.specs.Spelling.{SpeltName, SpeltExp, SpeltNotes, SpeltInstance, SpeltDecl}
use Rattle.lower_laws_rules.proofs.SpeltParts.{plain_spelt, sized_spelt}
use Rattle.lower_laws_translated.specs.Given.{IsGiven}
use Rattle.lower_laws_translated.proofs.OuterSpelt.{sort_read, sort_spelt}
use Rattle.lower_laws_translated.proofs.ObjectsKept.{few_cells}

module _ (ds : List Decl) (x : Expanded) (given : IsGiven ds x) where
  -- the name for the control plane, and the new name

  noted : (n : Name) → Has (names_in sort.Object ds) n → SpeltNotes (note.Name n ∷ [])
  noted n h = ((sort_read ds x given sort.Object n h, tt), refl)

  named : (n : Name) → Has (names_in sort.Object ds) n → SpeltName (new_name ds sort.Object n)
  named n h = sort_spelt ds x given sort.Object n h

  cells_spelt : (n : ℕ) → n < 2 ^ 32 → SpeltExp (size_exp n)
  cells_spelt n few = sized_spelt 32 n (omega arith) (omega arith) few

  counter_spelt : (c : Stateful) (direct : Option Name) → Has ds (decl.Counter c) → Has (object_decls ds) (decl16.Instance (note.Name c.name ∷ []) (counter_instance (new_name ds sort.Object c.name) c.attributes direct)) → SpeltInstance (counter_instance (new_name ds sort.Object c.name) c.attributes direct)
  counter_spelt c None there h =
      (cells_spelt (cells_of c.attributes) (few_cells ds x given rule.Sequential c.name _ (cells_of c.attributes) h (inl refl)), named c.name (has_picked (name_in sort.Object) ds (decl.Counter c) c.name there refl))
  counter_spelt c (Some table) there h = named c.name (has_picked (name_in sort.Object) ds (decl.Counter c) c.name there refl)

  object_spelt : (d : Decl) → Has ds d → (y : Decl16) → object_decl ds d ≡ Some y → Has (object_decls ds) y → SpeltDecl y
  object_spelt (decl.Counter c) there y e h =
      let written : decl16.Instance (note.Name c.name ∷ []) (counter_instance (new_name ds sort.Object c.name) c.attributes (direct_table_of c.attributes)) ≡ y = inside _ y e in
      subst SpeltDecl written
      (noted c.name (has_picked (name_in sort.Object) ds (decl.Counter c) c.name there refl), counter_spelt c (direct_table_of c.attributes) there (subst (Has (object_decls ds)) (sym written) h))
    where
      inside : (a b : Decl16) → Some a ≡ Some b → a ≡ b
      inside a b f = cc f
  object_spelt (decl.Meter c) there y e h =
      let written : decl16.Instance (note.Name c.name ∷ []) (instance.Meter (size_exp (cells_of c.attributes)) (meter_member (counts_of c.attributes)) (new_name ds sort.Object c.name)) ≡ y = inside _ y e in
      let n = has_picked (name_in sort.Object) ds (decl.Meter c) c.name there refl in
      subst SpeltDecl written
      (noted c.name n, (cells_spelt (cells_of c.attributes) (few_cells ds x given rule.Sequential c.name _ (cells_of c.attributes) (subst (Has (object_decls ds)) (sym written) h) (inl refl)), named c.name n))
    where
      inside : (a b : Decl16) → Some a ≡ Some b → a ≡ b
      inside a b f = cc f
  object_spelt (decl.Register c) there y e h =
      let written : decl16.Instance (note.Name c.name ∷ []) (instance.Register (plain (option_map_or literal_value (width_of c.attributes) 0)) (size_exp (cells_of c.attributes)) (new_name ds sort.Object c.name)) ≡ y = inside _ y e in
      let n = has_picked (name_in sort.Object) ds (decl.Register c) c.name there refl in
      let most = (register_wide ds given.none given.spelt c there).1 in
      subst SpeltDecl written (
        noted c.name n,
        (plain_spelt (option_map_or literal_value (width_of c.attributes) 0) (omega (arith, most)), cells_spelt (cells_of c.attributes) (few_cells ds x given rule.Sequential c.name _ (cells_of c.attributes) (subst (Has (object_decls ds)) (sym written) h) (inl refl)), named c.name n),
      )
    where
      inside : (a b : Decl16) → Some a ≡ Some b → a ≡ b
      inside a b f = cc f
  object_spelt _ there y e h = absurd (cc e)

  pub objects_written_spelt : AllByRecursion SpeltDecl (object_decls ds)
  objects_written_spelt = each_has SpeltDecl (object_decls ds) (λ y h. let d = picked_has (object_decl ds) ds y h in object_spelt d.0 d.1 y d.2 h)
