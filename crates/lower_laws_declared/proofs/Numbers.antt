-- An object has in P4_16 the number that it has in P4_14: that of its name, by which the control plane knows it (C1).
use Rattle.std.proofs.Common.{◌≡◌, inl, inr, ℕ, ◌<◌, ◌≤◌, Bool, false, cond, Option, Some, List, [], ◌∷◌, ◌++◌, length, map, get_or, refl, sym, ap, ◌∙◌, subst, arith}
use Rattle.std.specs.Prelude.{filter_map, unwrap_or}
use Rattle.std.specs.Str.{bytes_eq}
use Rattle.std.proofs.lemmas.Slice.Eq.{bytes_eq-Decides}
use Rattle.p414_syntax.specs.declared.syntax.Decl.{Decl}
use Rattle.p414_syntax.specs.declared.syntax.Sort.TheVariants as sort
use Rattle.p414_syntax.specs.Names.{Name, names_in, has_name}
use Rattle.p414_sem.specs.Operations.{in_order}
use Rattle.p414_sem.specs.Expanded.{Expanded}
use Rattle.p414_sem.specs.Signatures.{signature14}
use Rattle.p416_syntax.specs.Tree.{name}
use Rattle.p416_syntax.specs.declared.parts.Note.TheVariants as note
use Rattle.p416_syntax.specs.declared.controls.Instance.{Instance}
use Rattle.p416_syntax.specs.declared.controls.Control16.{Control16}
use Rattle.p416_syntax.specs.declared.program.Decl16.{Decl16}
use Rattle.p416_syntax.specs.declared.program.Decl16.TheVariants as decl16
use Rattle.p416_syntax.specs.Names.{repeats}
use Rattle.p416_syntax.specs.Declarations.{instance_name}
use Rattle.p416_syntax.specs.Unknown.{declares_twice}
use Rattle.v1_core.specs.declared.block.Block.{Block}
use Rattle.v1_core.specs.Surroundings.{Setting}
use Rattle.v1_core.specs.Blocks.{around_control, control_world}
use Rattle.v1_core.specs.Calls.{object_in}
use Rattle.v1_core.specs.Signatures.{Object, own_object, top_object, plane_among, or_at_top, place_among, object_names, signature16}
use Rattle.lower_laws_names.specs.NewNames.{new_name}
use Rattle.lower_laws_names.specs.Objects.{top_decls}
use Rattle.lower_laws_names.specs.Declared.{Among, decl_name}
use Rattle.lower_laws_names.proofs.Objects.{objects_alike, same_objects}
use Rattle.lower_laws_names.proofs.Top.{top_once, top_names_once}
use Rattle.lower_laws_names.proofs.Types.{or_parts, other, among_map}
use Rattle.lower_laws_base.specs.Context.{object_at}
use Rattle.lower_laws_states.specs.Expansions.{Has}
use Rattle.lower_laws_states.specs.Laws.{BreaksNo}
use Rattle.lower_laws_controls.specs.Listing.{Each}
use Rattle.lower_laws_controls.proofs.Listing.{in_order_all, each_get}
use Rattle.lower_laws_program.specs.Program.{Parts, blocks_of, decls_of, syntax_of, DeclaresOnce}
use Rattle.lower_laws_program.proofs.Tops.{has_more}
use Rattle.lower_laws_declared.specs.Layout.{IsShort}
use Rattle.lower_laws_declared.specs.Objects.{objects_by_number}
use Rattle.lower_laws_declared.specs.Controls.{PartsAre}
use Rattle.lower_laws_declared.proofs.Accepted.{has_names}
use Rattle.lower_laws_declared.proofs.Objects.{object_written, objects_count, object_name_at}
use Rattle.lower_laws_declared.proofs.Order.{place_is}

-- the object at the top with this name, where no name stands twice
plane_found : (es : List Decl16) (plane : Name) (i : Instance) → repeats (map decl_name es) ≡ false → Among (decl16.Instance (note.Name plane ∷ []) i) es → plane_among (filter_map top_object es) (instance_name i) ≡ Some plane
plane_found [] plane i once h = absurd h
plane_found (e ∷ es) plane i once (inl same) =
    ap (λ (d : Decl16). plane_among (filter_map top_object (d ∷ es)) (instance_name i)) same
    ∙ ap (λ (b : Bool). cond b (Some plane) (plane_among (filter_map top_object es) (instance_name i))) ((bytes_eq-Decides (instance_name i) (instance_name i)).1 refl)
plane_found (e ∷ es) plane i once (inr h) =
    let both = or_parts (has_name (map decl_name es) (decl_name e)) (repeats (map decl_name es)) once in
    skip e (other (map decl_name es) (decl_name e) (instance_name i) both.0 (among_map decl_name (decl16.Instance (note.Name plane ∷ []) i) es h)) ∙ plane_found es plane i both.1 h
  where
    skip : (e : Decl16) → bytes_eq (decl_name e) (instance_name i) ≡ false → plane_among (filter_map top_object (e ∷ es)) (instance_name i) ≡ plane_among (filter_map top_object es) (instance_name i)
    skip (decl16.Header x) apart = refl
    skip (decl16.Struct x) apart = refl
    skip (decl16.Instance notes x) apart = rw apart refl
    skip (decl16.Parser x) apart = refl
    skip (decl16.Control x) apart = refl

module _ (ds : List Decl) (none : BreaksNo ds) (short : IsShort ds) (x : Expanded) (p : Parts) (are : PartsAre ds x p) where
  pub decls_are : decls_of p ≡ top_decls ds x ++ blocks_of p
  decls_are = ap (λ (l : List Decl16). l ++ blocks_of p) are.types

  -- C1
  pub declared_once : DeclaresOnce p
  declared_once = ap declares_twice decls_are ∙ top_once ds x (has_names ds none short) (blocks_of p) are.names

  names_once : repeats (map decl_name (decls_of p)) ≡ false
  names_once = ap (λ (l : List Decl16). repeats (map decl_name l)) decls_are ∙ top_names_once ds x (has_names ds none short) (blocks_of p) are.names

  -- one half of the signature
  pub objects_same : (signature16 (syntax_of p)).objects ≡ (signature14 ds).objects
  objects_same = same_objects ds x (syntax_of p) (blocks_of p) decls_are are.none are.empty

  pub object_at_top : (n : Name) → Has (names_in sort.Object ds) n → plane_among (filter_map top_object (decls_of p)) (new_name ds sort.Object n) ≡ Some n
  object_at_top n h =
      let it = object_written ds none x n h in
      let there : Has (decls_of p) (decl16.Instance (note.Name n ∷ []) it.instance) = subst (λ (l : List Decl16). Has l (decl16.Instance (note.Name n ∷ []) it.instance)) (sym decls_are) (has_more (top_decls ds x) (blocks_of p) _ it.has) in
      ap (plane_among (filter_map top_object (decls_of p))) (sym it.named)
      ∙ plane_found (decls_of p) n it.instance names_once there

  -- names in order are names of objects
  pub object_there : (j : ℕ) → j < length (objects_by_number ds) → Has (names_in sort.Object ds) (get_or (in_order (names_in sort.Object ds)) j [])
  object_there j lt = each_get (Has (names_in sort.Object ds)) (in_order (names_in sort.Object ds)) j [] (omega (arith, lt, objects_count ds)) (in_order_all (Has (names_in sort.Object ds)) [] (names_in sort.Object ds) tt (all_has (names_in sort.Object ds) (λ n h. h))) where
    all_has : (names : List Name) → ((n : Name) → Has names n → Has (names_in sort.Object ds) n) → Each (Has (names_in sort.Object ds)) names
    all_has [] among = tt
    all_has (n ∷ names) among = (among n (inl refl), all_has names (λ m h. among m (inr h)))

  pub objects_numbered : (c16 : Setting) → c16.syntax ≡ syntax_of p → (which : Block) (d : Control16) → filter_map own_object d.locals ≡ [] → (j : ℕ) → j < length (objects_by_number ds) → object_in (control_world (around_control c16 which d)) (name (object_at (objects_by_number ds) j).called) ≡ j
  objects_numbered c16 same which d free j lt =
      let n : Name = get_or (in_order (names_in sort.Object ds)) j [] in
      let called : (object_at (objects_by_number ds) j).called ≡ new_name ds sort.Object n = ap (λ (o : Rattle.lower_laws_base.specs.Context.ObjectName). o.called) (object_name_at ds j lt) in
      let text : Name = (object_at (objects_by_number ds) j).called in
      ap (λ (y : Rattle.p416_syntax.specs.declared.program.Syntax16.Syntax16). place_among (object_names y) (or_at_top y.decls text (plane_among (filter_map own_object d.locals) text))) same
      ∙ ap (λ (os : List Object). place_among (object_names (syntax_of p)) (or_at_top (decls_of p) text (plane_among os text))) free
      ∙ ap (λ (t : Name). place_among (object_names (syntax_of p)) (unwrap_or (plane_among (filter_map top_object (decls_of p)) t) t)) called
      ∙ ap (λ (o : Option Name). place_among (object_names (syntax_of p)) (unwrap_or o (new_name ds sort.Object n))) (object_at_top n (object_there j lt))
      ∙ ap (λ (names : List Name). place_among names n) (objects_alike ds x (syntax_of p) (blocks_of p) decls_are are.none are.empty).0
      ∙ ap (λ (o : Option ℕ). unwrap_or o (length (in_order (names_in sort.Object ds)))) (place_is (names_in sort.Object ds) j (omega (arith, lt, objects_count ds)))
