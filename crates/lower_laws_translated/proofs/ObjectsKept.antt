-- Each object that is written breaks no rule (C3, C23).
use Rattle.std.proofs.Common.{◌≡◌, inl, ℕ, ◌<◌, ◌≤◌, ◌^◌, Option, Some, None, List, [], ◌∷◌, ◌++◌, refl, sym, ◌∙◌, subst, arith}
use Rattle.std.specs.Prelude.{flat_map}
use Rattle.std.specs.List.{AllByRecursion}
use Rattle.std.specs.Option.{option_map_or}
use Rattle.p414_syntax.specs.declared.objects.CounterType.{CounterType as CounterType14}
use Rattle.p414_syntax.specs.declared.objects.CounterType.TheVariants as type14
use Rattle.p414_syntax.specs.declared.objects.StateAttr.{StateAttr}
use Rattle.p414_syntax.specs.declared.syntax.Decl.{Decl}
use Rattle.p414_syntax.specs.declared.syntax.Decl.TheVariants as decl
use Rattle.p414_syntax.specs.declared.syntax.Rule14.{Rule14}
use Rattle.p414_syntax.specs.declared.syntax.Sort.TheVariants as sort
use Rattle.p414_syntax.specs.Attributes.{counts_of, direct_table_of, width_of}
use Rattle.p414_syntax.specs.Cells.{literal_value}
use Rattle.p414_sem.specs.Expanded.{Expanded}
use Rattle.p414_sem.specs.Signatures.{cells_of}
use Rattle.p416_syntax.specs.declared.controls.Instance.{Instance}
use Rattle.p416_syntax.specs.declared.controls.Instance.TheVariants as instance
use Rattle.p416_syntax.specs.declared.parts.Note.TheVariants as note
use Rattle.p416_syntax.specs.declared.program.Decl16.{Decl16}
use Rattle.p416_syntax.specs.declared.program.Decl16.TheVariants as decl16
use Rattle.p416_syntax.specs.Names.{Name}
use Rattle.p416_syntax.specs.Scopes.{Scope}
use Rattle.p416_syntax.specs.Declarations.{object_uses}
use Rattle.p416_syntax.specs.Totals.{instance_cells, cells_in}
use Rattle.lower_laws_names.specs.NewNames.{new_name}
use Rattle.lower_laws_names.specs.Types.{plain, type_decls}
use Rattle.lower_laws_names.specs.Objects.{size_exp, counter_member, meter_member, counter_instance, object_decl, object_decls, top_decls}
use Rattle.lower_laws_states.specs.Expansions.{Has}
use Rattle.lower_laws_states.proofs.Members.{has_left, has_right, has_joined, picked_has, each_has, has_each}
use Rattle.lower_laws_premises.proofs.Registers.{register_wide}
use Rattle.lower_laws_program.specs.Program.{Parts, blocks_of, decls_of, syntax_of}
use Rattle.lower_laws_rules.specs.Keeping.{Keeps}
use Rattle.lower_laws_rules.specs.Whole.{CellsFit, EachKeeps}
use Rattle.lower_laws_rules.proofs.Lists.{none_kept}
use Rattle.lower_laws_rules.proofs.Types.{counter_kept, direct_counter_kept, register_kept, meter_kept}
use Rattle.lower_laws_block_rules.specs.Joined.{decl_held}
use Rattle.lower_laws_translated.specs.Given.{IsGiven}
use Rattle.lower_laws_translated.specs.Translated.{translated}
use Rattle.lower_laws_translated.proofs.Texts.{text}

-- under a name for the control plane

counter_here : (s : Scope) (plane called : Name) (counts : Option CounterType14) (cells : ℕ) → cells < 2 ^ 32 → Keeps (object_uses s (note.Name plane ∷ []) (instance.Counter (size_exp cells) (counter_member counts) called)) []
counter_here s plane called (Some type14.Packets) cells few = counter_kept s (note.Name plane ∷ []) _ cells called none_kept few
counter_here s plane called (Some type14.Bytes) cells few = counter_kept s (note.Name plane ∷ []) _ cells called none_kept few
counter_here s plane called (Some type14.PacketsAndBytes) cells few = counter_kept s (note.Name plane ∷ []) _ cells called none_kept few
counter_here s plane called None cells few = counter_kept s (note.Name plane ∷ []) _ cells called none_kept few

direct_here : (s : Scope) (plane called : Name) (counts : Option CounterType14) → Keeps (object_uses s (note.Name plane ∷ []) (instance.DirectCounter (counter_member counts) called)) []
direct_here s plane called (Some type14.Packets) = direct_counter_kept s (note.Name plane ∷ []) _ called none_kept
direct_here s plane called (Some type14.Bytes) = direct_counter_kept s (note.Name plane ∷ []) _ called none_kept
direct_here s plane called (Some type14.PacketsAndBytes) = direct_counter_kept s (note.Name plane ∷ []) _ called none_kept
direct_here s plane called None = direct_counter_kept s (note.Name plane ∷ []) _ called none_kept

meter_here : (s : Scope) (plane called : Name) (counts : Option CounterType14) (cells : ℕ) → cells < 2 ^ 32 → Keeps (object_uses s (note.Name plane ∷ []) (instance.Meter (size_exp cells) (meter_member counts) called)) []
meter_here s plane called (Some type14.Packets) cells few = meter_kept s (note.Name plane ∷ []) _ cells called none_kept few
meter_here s plane called (Some type14.Bytes) cells few = meter_kept s (note.Name plane ∷ []) _ cells called none_kept few
meter_here s plane called (Some type14.PacketsAndBytes) cells few = meter_kept s (note.Name plane ∷ []) _ cells called none_kept few
meter_here s plane called None cells few = meter_kept s (note.Name plane ∷ []) _ cells called none_kept few

module _ (ds : List Decl) (x : Expanded) (given : IsGiven ds x) (under : Rule14) where
  abbrev p : Parts
  p = translated ds x under

  abbrev Kept : Decl16 → Type 0
  Kept d = EachKeeps (syntax_of p) decl_held d

  -- the cells of what is written (C23)
  pub few_cells : (plane : Name) (i : Instance) (n : ℕ) → Has (object_decls ds) (decl16.Instance (note.Name plane ∷ []) i) → Has (instance_cells i) n → n < 2 ^ 32
  few_cells plane i n h c =
      let there : Has (decls_of p) (decl16.Instance (note.Name plane ∷ []) i) = has_left (top_decls ds x) (blocks_of p) _ (has_right (type_decls ds x) (object_decls ds) _ h) in
      let fits = has_each CellsFit (flat_map cells_in (decls_of p)) n (text ds x under given).cells (has_joined cells_in (decls_of p) _ n there c) in
      let most = fits.1 in omega (arith, most)

  counter_written : (plane called : Name) (attributes : List StateAttr) (direct : Option Name) → Has (object_decls ds) (decl16.Instance (note.Name plane ∷ []) (counter_instance called attributes direct)) → (s : Scope) → Keeps (object_uses s (note.Name plane ∷ []) (counter_instance called attributes direct)) []
  counter_written plane called attributes None h s = counter_here s plane called (counts_of attributes) (cells_of attributes) (few_cells plane _ (cells_of attributes) h (inl refl))
  counter_written plane called attributes (Some table) h s = direct_here s plane called (counts_of attributes)

  object_kept : (d : Decl) → Has ds d → (y : Decl16) → object_decl ds d ≡ Some y → Has (object_decls ds) y → Kept y
  object_kept (decl.Counter c) there y e h =
      let written : decl16.Instance (note.Name c.name ∷ []) (counter_instance (new_name ds sort.Object c.name) c.attributes (direct_table_of c.attributes)) ≡ y = inside _ y e in
      subst Kept written (record { keeps = counter_written c.name (new_name ds sort.Object c.name) c.attributes (direct_table_of c.attributes) (subst (Has (object_decls ds)) (sym written) h) _; states = λ never. never; calls = λ never. never })
    where
      inside : (a b : Decl16) → Some a ≡ Some b → a ≡ b
      inside a b e = cc e
  object_kept (decl.Meter c) there y e h =
      let written : decl16.Instance (note.Name c.name ∷ []) (instance.Meter (size_exp (cells_of c.attributes)) (meter_member (counts_of c.attributes)) (new_name ds sort.Object c.name)) ≡ y = inside _ y e in
      subst Kept written (record { keeps = meter_here _ c.name (new_name ds sort.Object c.name) (counts_of c.attributes) (cells_of c.attributes) (few_cells c.name _ (cells_of c.attributes) (subst (Has (object_decls ds)) (sym written) h) (inl refl)); states = λ never. never; calls = λ never. never })
    where
      inside : (a b : Decl16) → Some a ≡ Some b → a ≡ b
      inside a b e = cc e
  object_kept (decl.Register c) there y e h =
      let written : decl16.Instance (note.Name c.name ∷ []) (instance.Register (plain (option_map_or literal_value (width_of c.attributes) 0)) (size_exp (cells_of c.attributes)) (new_name ds sort.Object c.name)) ≡ y = inside _ y e in
      let wide = register_wide ds given.none given.spelt c there in
      subst Kept written (record { keeps = register_kept _ (note.Name c.name ∷ []) (option_map_or literal_value (width_of c.attributes) 0) (cells_of c.attributes) (new_name ds sort.Object c.name) none_kept wide.0 wide.1 (few_cells c.name _ (cells_of c.attributes) (subst (Has (object_decls ds)) (sym written) h) (inl refl)); states = λ never. never; calls = λ never. never })
    where
      inside : (a b : Decl16) → Some a ≡ Some b → a ≡ b
      inside a b e = cc e
  object_kept _ there y e h = absurd (cc e)

  pub objects_kept : AllByRecursion Kept (object_decls ds)
  objects_kept = each_has Kept (object_decls ds) (λ y h. let d = picked_has (object_decl ds) ds y h in object_kept d.0 d.1 y d.2 h)
