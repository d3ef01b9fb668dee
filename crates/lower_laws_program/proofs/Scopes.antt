-- A block of a program that is put together declares what its statements rest on.
use Rattle.std.proofs.Common.{◌≡◌, inl, inr, true, Option, List, [], ◌∷◌, map, refl, sym, ap, ◌∙◌}
use Rattle.std.specs.Prelude.{codes}
use Rattle.std.specs.List.{AllByRecursion}
use Rattle.p414_syntax.specs.declared.syntax.Decl.{Decl}
use Rattle.p414_sem.specs.Expanded.{Expanded}
use Rattle.p416_syntax.specs.declared.program.Decl16.TheVariants as decl
use Rattle.p416_syntax.specs.Names.{Name, has_name}
use Rattle.p416_syntax.specs.Kinds.{Kind, hash_algorithm, counter_type, meter_type, clone_type}
use Rattle.p416_syntax.specs.BuiltIn.{functions, built_in}
use Rattle.p416_syntax.specs.Scopes.{a_function, an_enumeration as of_enumeration, Known, known, Scope, sort_in, sort_of, FieldKind, Layout, fields_in}
use Rattle.p416_syntax.specs.Expressions.{field_kind_in}
use Rattle.v1_core.specs.Surroundings.{World}
use Rattle.lower_laws_base.specs.Context.{StateLayout, ObjectName, object_at, Lowering, Item, a_root, a_copy, an_object, a_function as of_function, an_enumeration, the_packet, IsItem, item_name, item_sort, Declares}
use Rattle.lower_laws_base.proofs.Sample.{each_named}
use Rattle.lower_laws_program.specs.Program.{Parts, DeclaresOnce}
use Rattle.lower_laws_program.specs.TypesFit.{TypeWords, TypesFit}
use Rattle.lower_laws_program.specs.Scopes.{BlockWords, block_lowering, IsClear, IsDeclared, NearFits}
use Rattle.lower_laws_program.proofs.Tops.{sort_behind}
use Rattle.lower_laws_program.proofs.Layouts.{names, layouts, type_sorts, built_sorts, instance_there, field_there, standard_there, standard_layout_is}
use Rattle.lower_laws_states.specs.Expansions.{Has}

module _ (g : StateLayout) (ds : List Decl) (x : Expanded) (t : TypeWords) (p : Parts) (fits : TypesFit g ds x t p.types) (once : DeclaresOnce p) (b : BlockWords) (w : World) (s : Scope) (near : List Known) (there : NearFits g t p b w s near) where
  abbrev c : Lowering
  c = block_lowering g t b w

  abbrev tops : List Known
  tops = names g ds x t p fits once

  -- a name that nothing nearer hides
  behind : (text : Name) → IsClear near text → sort_of s text ≡ sort_in tops text
  behind text clear = ap (λ (l : List Known). sort_in l text) there.names_are ∙ sort_behind near tops text clear

  built : (k : Known) → IsClear near k.called → Has built_in k → sort_of s k.called ≡ k.sort
  built k clear has = behind k.called clear ∙ built_sorts g ds x t p fits once k has

  -- functions

  abbrev IsFunction : Name → Type 0
  IsFunction text = IsClear near text → sort_of s text ≡ a_function

  functions_there : (all : List Name) → ((k : Known) → Has (map (known a_function) all) k → Has built_in k) → AllByRecursion IsFunction all
  functions_there [] from = tt
  functions_there (first ∷ all) from =
      ((λ clear. built (known a_function first) clear (from (known a_function first) (inl refl))), functions_there all (λ k has. from k (inr has)))

  function_is : (text : Name) → has_name functions text ≡ true → sort_of s text ≡ a_function
  function_is text is =
      each_named functions IsFunction (functions_there functions (λ k has. inr (inr (inr (inr (inr (inr (inr has)))))))) text is
      (each_named functions (IsClear near) there.functions_clear text is)

  object_is : (o : ObjectName) → IsDeclared p near o → sort_of s o.called ≡ item_sort (record c { objects = o ∷ [] }) (an_object 0)
  object_is o declared =
      behind o.called declared.clear ∙ ap (sort_in tops) (sym declared.named)
      ∙ type_sorts g ds x t p fits once (decl.Instance declared.notes declared.instance) declared.has ∙ declared.sort

  named : (i : Item) → IsItem c i → sort_of s (item_name c i) ≡ item_sort c i
  named (a_root o) is = there.roots o is
  named (a_copy o) is = there.copies o is
  named (an_object j) is = object_is (object_at b.objects j) (there.objects j is)
  named (of_function text) is = function_is text is
  named (an_enumeration hash_algorithm) is = built (known (of_enumeration hash_algorithm) (codes "HashAlgorithm")) there.enumerations_clear.0 (inr (inr (inr (inl refl))))
  named (an_enumeration counter_type) is = built (known (of_enumeration counter_type) (codes "CounterType")) there.enumerations_clear.1.0 (inr (inr (inr (inr (inl refl)))))
  named (an_enumeration meter_type) is = built (known (of_enumeration meter_type) (codes "MeterType")) there.enumerations_clear.1.1.0 (inr (inr (inr (inr (inr (inl refl))))))
  named (an_enumeration clone_type) is = built (known (of_enumeration clone_type) (codes "CloneType")) there.enumerations_clear.1.1.1.0 (inr (inr (inr (inr (inr (inr (inl refl)))))))
  named the_packet is = there.packet is

  in_layouts : (type word : Name) (k : Option Kind) → field_kind_in (fields_in (layouts g ds x t p fits once) type) word ≡ k → field_kind_in (fields_in s.layouts type) word ≡ k
  in_layouts type word k is = ap (λ (l : List Layout). field_kind_in (fields_in l type) word) there.layouts_are ∙ is

  pub block_declares : Declares c s
  block_declares = record {
    differ = fits.differ;
    apart = there.apart;
    named = named;
    rooted = there.rooted;
    copied = there.copied;
    numbered = there.numbered;
    stored = there.stored;
    shape = there.shape;
    instance = λ k lt has. in_layouts _ _ _ (instance_there g ds x t p fits once k lt);
    field = λ k j lt has within. in_layouts _ _ _ (field_there g ds x t p fits once k j lt within);
    standard_is = λ has. refl;
    standard = λ which has. in_layouts _ _ _ (standard_there g ds x t p fits once which);
    error = λ has. in_layouts _ _ _ (ap (λ (l : List FieldKind). field_kind_in l (codes "parser_error")) (standard_layout_is g ds x t p fits once));
    checksum = λ has. in_layouts _ _ _ (ap (λ (l : List FieldKind). field_kind_in l (codes "checksum_error")) (standard_layout_is g ds x t p fits once));
  }
