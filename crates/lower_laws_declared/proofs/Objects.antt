-- Each object of P4_14 is declared under its new name and has its number and its shape (C1).
use Rattle.std.proofs.Common.{◌≡◌, ◌≢◌, ℕ, zero, suc, ◌+◌, ◌<◌, ◌≤◌, Option, Some, None, List, [], ◌∷◌, ◌++◌, length, map, get_or, refl, sym, ap, ◌∙◌, subst, arith}
use Rattle.std.specs.Option.{option_map_or}
use Rattle.std.proofs.lemmas.List.{length-map, get_or-map}
use Rattle.state_store.specs.declared.shapes.Shape.TheVariants as shape
use Rattle.state_store.specs.State.{shape_at}
use Rattle.match_core.specs.declared.entries.Entries.{Entries}
use Rattle.match_core.specs.declared.signatures.ObjectSig.{ObjectSig}
use Rattle.match_core.specs.declared.signatures.Signature.{Signature}
use Rattle.match_core.specs.Stores.{sized, shapes_from, shapes_of, entries_counted}
use Rattle.p414_syntax.specs.declared.syntax.Decl.{Decl}
use Rattle.p414_syntax.specs.declared.syntax.Decl.TheVariants as decl
use Rattle.p414_syntax.specs.declared.syntax.Sort.TheVariants as sort
use Rattle.p414_syntax.specs.declared.objects.StateAttr.{StateAttr}
use Rattle.p414_syntax.specs.Attributes.{direct_table_of}
use Rattle.p414_syntax.specs.Names.{Name, name_in, names_in, declaration_of}
use Rattle.p414_sem.specs.Operations.{in_order}
use Rattle.p414_sem.specs.Expanded.{Expanded}
use Rattle.p414_sem.specs.Signatures.{shape_in, counter_shape, object_sig, signature14}
use Rattle.p416_syntax.specs.declared.parts.Note.TheVariants as note
use Rattle.p416_syntax.specs.declared.controls.Instance.{Instance}
use Rattle.p416_syntax.specs.declared.program.Decl16.{Decl16}
use Rattle.p416_syntax.specs.declared.program.Decl16.TheVariants as decl16
use Rattle.p416_syntax.specs.Scopes.{an_object}
use Rattle.p416_syntax.specs.Declarations.{instance_name, instance_sort}
use Rattle.lower_laws_names.specs.NewNames.{new_name}
use Rattle.lower_laws_names.specs.Objects.{counter_instance, object_decl, object_decls, top_decls}
use Rattle.lower_laws_names.specs.Types.{type_decls}
use Rattle.lower_laws_names.proofs.Types.{among_right, among_some}
use Rattle.lower_laws_base.specs.Context.{ObjectName, object_at, no_object, IsShapeOf}
use Rattle.lower_laws_states.specs.Expansions.{Has}
use Rattle.lower_laws_states.specs.Laws.{BreaksNo}
use Rattle.lower_laws_states.proofs.Members.{picked_has}
use Rattle.lower_laws_declared.specs.Objects.{counter_kind, kind_in, object_called, objects_by_number}
use Rattle.lower_laws_declared.proofs.Found.{declaration_found}

-- what is written for the object with this name
pub record IsWritten (ds : List Decl) (x : Expanded) (name : Name) : Type 0 where
  pub instance : Instance
  pub has : Has (top_decls ds x) (decl16.Instance (note.Name name ∷ []) instance)
  pub named : instance_name instance ≡ new_name ds sort.Object name
  pub sort : instance_sort instance ≡ an_object (object_called ds name).kind

counter_named : (text : Name) (attributes : List StateAttr) (direct : Option Name) → (instance_name (counter_instance text attributes direct) ≡ text) × (instance_sort (counter_instance text attributes direct) ≡ an_object (counter_kind direct))
counter_named text attributes None = (refl, refl)
counter_named text attributes (Some table) = (refl, refl)

module _ (ds : List Decl) (none : BreaksNo ds) (x : Expanded) where
  in_text : (d : Decl) (e : Decl16) → Has ds d → object_decl ds d ≡ Some e → Has (top_decls ds x) e
  in_text d e h is = (among_right e (type_decls ds x) (object_decls ds) (among_some (object_decl ds) d e ds is h))

  of_decl : (d : Decl) (name : Name) → Has ds d → name_in sort.Object d ≡ Some name → IsWritten ds x name
  of_decl (decl.Counter c) name h e =
      let same : c.name ≡ name = cc e in
      subst (IsWritten ds x) same (record {
        instance = counter_instance (new_name ds sort.Object c.name) c.attributes (direct_table_of c.attributes);
        has = in_text (decl.Counter c) _ h refl;
        named = (counter_named (new_name ds sort.Object c.name) c.attributes (direct_table_of c.attributes)).0;
        sort = (counter_named (new_name ds sort.Object c.name) c.attributes (direct_table_of c.attributes)).1 ∙ ap (λ (o : Option Decl). an_object (option_map_or kind_in o Rattle.p416_syntax.specs.Kinds.meter)) (sym (declaration_found ds none sort.Object (decl.Counter c) c.name h refl));
      })
  of_decl (decl.Meter c) name h e =
      let same : c.name ≡ name = cc e in
      subst (IsWritten ds x) same (record {
        instance = _;
        has = in_text (decl.Meter c) _ h refl;
        named = refl;
        sort = ap (λ (o : Option Decl). an_object (option_map_or kind_in o Rattle.p416_syntax.specs.Kinds.meter)) (sym (declaration_found ds none sort.Object (decl.Meter c) c.name h refl));
      })
  of_decl (decl.Register c) name h e =
      let same : c.name ≡ name = cc e in
      subst (IsWritten ds x) same (record {
        instance = _;
        has = in_text (decl.Register c) _ h refl;
        named = refl;
        sort = ap (λ (o : Option Decl). an_object (option_map_or kind_in o Rattle.p416_syntax.specs.Kinds.meter)) (sym (declaration_found ds none sort.Object (decl.Register c) c.name h refl));
      })
  of_decl _ name h e = absurd (cc e)

  pub object_written : (name : Name) → Has (names_in sort.Object ds) name → IsWritten ds x name
  object_written name h = let d = picked_has (name_in sort.Object) ds name h in of_decl d.0 name d.1 d.2

-- shapes

counter_fits : (o : ObjectName) (attributes : List StateAttr) (direct : Option Name) (entries : ℕ) → o.kind ≡ counter_kind direct → IsShapeOf o (sized (counter_shape attributes direct) entries)
counter_fits o attributes None entries is = is
counter_fits o attributes (Some table) entries is = is

module _ (ds : List Decl) where
  shape_fits : (name : Name) (o : Option Decl) (entries : ℕ) → declaration_of sort.Object ds name ≡ o → IsShapeOf (object_called ds name) (sized (option_map_or shape_in o (shape.Meter 0)) entries)
  shape_fits name None entries e = ap (λ (o : Option Decl). option_map_or kind_in o Rattle.p416_syntax.specs.Kinds.meter) e
  shape_fits name (Some (decl.Counter c)) entries e = counter_fits (object_called ds name) c.attributes (direct_table_of c.attributes) entries (ap (λ (o : Option Decl). option_map_or kind_in o Rattle.p416_syntax.specs.Kinds.meter) e)
  shape_fits name (Some (decl.Register c)) entries e = (ap (λ (o : Option Decl). option_map_or kind_in o Rattle.p416_syntax.specs.Kinds.meter) e, ap (λ (o : Option Decl). option_map_or Rattle.lower_laws_declared.specs.Objects.cell_width_in o 0) e)
  shape_fits name (Some _) entries e = ap (λ (o : Option Decl). option_map_or kind_in o Rattle.p416_syntax.specs.Kinds.meter) e

  shapes_at : (s : Signature) (entries : Entries) (k : ℕ) (names : List Name) (j : ℕ) → j < length names → IsShapeOf (object_at (map (object_called ds) names) j) (shape_at (shapes_from s entries k (map (object_sig ds) names)) j)
  shapes_at s entries k [] j lt = absurd (omega (arith, lt))
  shapes_at s entries k (n ∷ names) zero lt = shape_fits n (declaration_of sort.Object ds n) (entries_counted s.tables entries.tables k) refl
  shapes_at s entries k (n ∷ names) (suc j) lt = shapes_at s entries (k + 1) names j (omega (arith, lt))

  shapes_count : (s : Signature) (entries : Entries) (k : ℕ) (sigs : List ObjectSig) → length (shapes_from s entries k sigs) ≡ length sigs
  shapes_count s entries k [] = refl
  shapes_count s entries k (o ∷ sigs) = ap suc (shapes_count s entries (k + 1) sigs)

  pub objects_count : length (objects_by_number ds) ≡ length (in_order (names_in sort.Object ds))
  objects_count = length-map (in_order (names_in sort.Object ds)) (object_called ds)

  pub objects_shaped : (entries : Entries) (j : ℕ) → j < length (objects_by_number ds) → IsShapeOf (object_at (objects_by_number ds) j) (shape_at (shapes_of (signature14 ds) entries) j)
  unfolding signature14
  objects_shaped entries j lt = shapes_at (signature14 ds) entries 0 (in_order (names_in sort.Object ds)) j (omega (arith, lt, objects_count))

  pub objects_stored : (entries : Entries) → length (objects_by_number ds) ≤ length (shapes_of (signature14 ds) entries)
  unfolding signature14
  objects_stored entries = omega (arith, objects_count, shapes_count (signature14 ds) entries 0 (map (object_sig ds) (in_order (names_in sort.Object ds))), length-map (in_order (names_in sort.Object ds)) (object_sig ds))

  pub object_name_at : (j : ℕ) → j < length (objects_by_number ds) → object_at (objects_by_number ds) j ≡ object_called ds (get_or (in_order (names_in sort.Object ds)) j [])
  object_name_at j lt = get_or-map (object_called ds) (in_order (names_in sort.Object ds)) j [] no_object (omega (arith, lt, objects_count))
