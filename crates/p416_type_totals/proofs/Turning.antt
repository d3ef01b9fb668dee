-- The structs of the declared types are counted along a finishing order of what they hold.
use Rattle.std.proofs.Common.{◌≡◌, inl, inr, ⊎_elim, ℕ, zero, suc, ◌+◌, ◌<◌, ◌≤◌, false, Option, Some, None, List, [], ◌∷◌, get_or, set, length, map, filter_map, take, sum_by, refl, sym, ap, ◌∙◌, subst, arith, slice_get}
use Rattle.std.specs.Prelude.{slice_index, slice_index_or}
use Rattle.std.specs.Option.{option_map_or}
use Rattle.std.specs.List.{cons_option}
use Rattle.std.specs.Str.{bytes_eq}
use Rattle.std.proofs.lemmas.Bool.{cases_eq}
use Rattle.std.proofs.lemmas.List.{length-map, take_all, take_more, get_or-set_same, get_or-set_other, ext_get_or}
use Rattle.std.proofs.lemmas.List.Quantifiers.{position-Some}
use Rattle.std.proofs.lemmas.Option.{slice_get_cases}
use Rattle.digraph.specs.Graphs.{Among, IsEdge, IsClosed, OnCycle}
use Rattle.digraph.specs.Components.{Condensation, AreComponents}
use Rattle.digraph.specs.Expansions.{HasCycle}
use Rattle.digraph.proofs.Members.{among_place}
use Rattle.digraph.proofs.Listing.{among_append}
use Rattle.digraph.proofs.Cycles.{on_cycle}
use Rattle.digraph.proofs.Sizing.{comes_before}
use Rattle.p416_syntax.specs.declared.parts.Struct16.{Struct16}
use Rattle.p416_syntax.specs.declared.program.Decl16.{Decl16}
use Rattle.p416_syntax.specs.declared.program.Decl16.TheVariants as decl
use Rattle.p416_syntax.specs.Names.{Name}
use Rattle.p416_syntax.specs.Kinds.{struct}
use Rattle.p416_syntax.specs.BuiltIn.{standard, standard_name}
use Rattle.p416_syntax.specs.Scopes.{fields_in}
use Rattle.p416_syntax.specs.Declarations.{top_names, layouts_of}
use Rattle.p416_syntax.specs.Unknown.{declared_name, declaration_number, declares_twice, held_names, held_by, struct_graph}
use Rattle.p416_names.specs.internal.Tables.{fields_of}
use Rattle.p416_type_totals.specs.declared.measure.Measure.{Measure}
use Rattle.p416_type_totals.specs.Limit.{limit, up_to}
use Rattle.p416_type_totals.specs.internal.Sized.{within, of_kind, standard_size, struct_total, structs_of, looked, looked_struct, looked_at}
use Rattle.p416_type_totals.proofs.Summing.{capped_terms}
use Rattle.p416_type_totals.proofs.Finding.{own_fields}
use Rattle.p416_type_totals.proofs.Agreeing.{decl_agrees}
use Rattle.p416_type_totals.proofs.Deepening.{held_at, standard_undeclared, settled}
use Rattle.p416_type_totals.proofs.Looking.{at_decl, plain_looked, plain_within, nested, undeclared_size}

-- each edge leads to a declaration

below_by : (ds : List Decl16) (text : Name) (o : Option ℕ) (b : ℕ) (rest : List ℕ) → declaration_number ds text ≡ o → (Among b rest → b < length (map declared_name ds)) → Among b (cons_option o rest) → b < length (map declared_name ds)
below_by ds text None b rest at more h = more h
below_by ds text (Some n) b rest at more (inl e) = (position-Some (bytes_eq text) (map declared_name ds) b [] (at ∙ ap Some (sym e))).0
below_by ds text (Some n) b rest at more (inr h) = more h

found_below : (ds : List Decl16) (texts : List Name) (b : ℕ) → Among b (filter_map (declaration_number ds) texts) → b < length (map declared_name ds)
found_below ds [] b h = absurd h
found_below ds (t ∷ texts) b h = below_by ds t (declaration_number ds t) b (filter_map (declaration_number ds) texts) refl (found_below ds texts b) h

edge_below : (all ds : List Decl16) (a b : ℕ) → Among b (slice_index_or (map (held_by all) ds) a []) → b < length (map declared_name all)
edge_below all [] zero b h = absurd h
edge_below all [] (suc a) b h = absurd h
edge_below all (d ∷ ds) zero b h = found_below all (held_names d) b h
edge_below all (d ∷ ds) (suc a) b h = edge_below all ds a b h

pub graph_length : (ds : List Decl16) → length (struct_graph ds) ≡ length ds
graph_length ds = length-map ds (held_by ds)

pub closed : (ds : List Decl16) → IsClosed (struct_graph ds)
closed ds = record {
  within = λ a b edge.
      let lt : b < length (map declared_name ds) = edge_below ds ds a b edge in
      let names : length (map declared_name ds) ≡ length ds = length-map ds declared_name in
      let nodes = graph_length ds in
      omega (arith, lt, names, nodes);
}

-- the same of a graph that was built
pub closed_by : (ds : List Decl16) (g : List (List ℕ)) → g ≡ struct_graph ds → IsClosed g
closed_by ds g is = subst (λ (h : List (List ℕ)). IsClosed h) (sym is) (closed ds)

module _ (m : Measure) (ds : List Decl16) (c : Condensation) (once : declares_twice ds ≡ false) (are : AreComponents (struct_graph ds) c) (none : HasCycle (struct_graph ds) → ⊥) where
  acyclic : (a : ℕ) → OnCycle (struct_graph ds) a → ⊥
  acyclic a cycle = none (a, cycle)

  abbrev pub number : ℕ → ℕ
  number a = get_or c.numbers a 0

  falls : (a b : ℕ) → IsEdge (struct_graph ds) a b → number b < number a
  falls a b edge =
      let le = are.falls a b edge in
      let apart : number b ≡ number a → ⊥ = λ same. acyclic a (on_cycle (struct_graph ds) c a b (closed ds) are edge same) in
      less (number b) (number a) le apart
    where
      less : (x y : ℕ) → x ≤ y → (x ≡ y → ⊥) → x < y
      less x y le apart = elim (cases_eq x y) [
        | inl same ↦ absurd (apart same)
        | inr other ↦ omega (arith, le, other)
      ]

  -- what this struct counts is written down
  abbrev pub IsWritten : List ℕ → ℕ → Type 0
  IsWritten structs b = get_or structs b 0 ≡ get_or (structs_of m ds) b 0

  all_settled : (type : Name) → of_kind m (layouts_of ds) (struct type) ≡ sum_by (λ f. of_kind m (layouts_of ds) f.kind) (fields_in (layouts_of ds) type)
  all_settled type = settled ds once number falls (within m (layouts_of ds)) (nested m (layouts_of ds)) (plain_within m (layouts_of ds)) type

  -- what the fields of a declaration are looked up to count, where what it holds is written down
  fields_are : (structs : List ℕ) (i : ℕ) (d : Decl16) → slice_get ds i ≡ Some d → ((j : ℕ) → Among j (held_by ds d) → IsWritten structs j) → looked_struct m ds structs d ≡ struct_total m ds d
  fields_are structs i d there written =
      let own : fields_in (layouts_of ds) (declared_name d) ≡ fields_of (top_names ds) d = own_fields ds i d once there in
      ap (λ fields. up_to (sum_by (λ f. looked m ds structs f.kind) fields)) own
      ∙ (ap up_to (decl_agrees ds (looked m ds structs) (λ k. up_to (of_kind m (layouts_of ds) k)) (plain_looked m ds structs) at_standard d held)
      ∙ (capped_terms limit (λ f. of_kind m (layouts_of ds) f.kind) (fields_of (top_names ds) d)
      ∙ (ap (λ fields. up_to (sum_by (λ f. of_kind m (layouts_of ds) f.kind) fields)) (sym own)
      ∙ ap up_to (sym (all_settled (declared_name d))))))
    where
      at_standard : looked m ds structs standard ≡ up_to (of_kind m (layouts_of ds) standard)
      at_standard =
          let u = standard_undeclared ds once number falls in
          ap (λ o. option_map_or (slice_index structs) o (standard_size m standard_name)) u.none ∙ undeclared_size m ds standard_name u

      held : (j : ℕ) (x : Struct16) → Among j (held_by ds d) → slice_get ds j ≡ Some (decl.Struct x) → declaration_number ds x.name ≡ Some j → looked m ds structs (struct x.name) ≡ up_to (of_kind m (layouts_of ds) (struct x.name))
      held j x among at named =
          ap (λ o. option_map_or (slice_index structs) o (standard_size m x.name)) named
          ∙ (written j among
          ∙ at_decl (struct_total m ds) ds j (decl.Struct x) at)

  -- the node at a place of the order
  value_now : (structs : List ℕ) (k : ℕ) → k < length c.order → ((b : ℕ) → Among b (take k c.order) → IsWritten structs b) → looked_at m ds structs (get_or c.order k 0) ≡ get_or (structs_of m ds) (get_or c.order k 0) 0
  value_now structs k lt written = elim (slice_get_cases ds (get_or c.order k 0)).1 [
    | inl found ↦
        let there : slice_get ds (get_or c.order k 0) ≡ Some found.0 = found.2 in
        ap (λ o. option_map_or (looked_struct m ds structs) o 0) there
        ∙ (fields_are structs (get_or c.order k 0) found.0 there (λ j among. written j (comes_before (struct_graph ds) c k j (closed ds) are acyclic lt (subst (Among j) (sym (held_at ds ds (get_or c.order k 0) found.0 there)) among)))
        ∙ sym (at_decl (struct_total m ds) ds (get_or c.order k 0) found.0 there))
    | inr past ↦
        let inside = (are.nodes (get_or c.order k 0)).0 (among_place c.order k 0 lt) in
        let outside : length ds ≤ get_or c.order k 0 = past.0 in
        let nodes = graph_length ds in
        absurd (omega (arith, inside, outside, nodes))
  ]

  pub written_more : (structs : List ℕ) (k v : ℕ) → k < length c.order → length structs ≡ length ds → ((b : ℕ) → Among b (take k c.order) → IsWritten structs b) → v ≡ looked_at m ds structs (get_or c.order k 0)
      → (b : ℕ) → Among b (take (k + 1) c.order) → IsWritten (set structs (get_or c.order k 0) v) b
  written_more structs k v lt each written value b among = elim (cases_eq b (get_or c.order k 0)) [
    | inl same ↦
        let inside = (are.nodes (get_or c.order k 0)).0 (among_place c.order k 0 lt) in
        let nodes = graph_length ds in
        let within_list : get_or c.order k 0 < length structs = omega (arith, inside, nodes, each) in
        subst (IsWritten (set structs (get_or c.order k 0) v)) (sym same) (get_or-set_same structs (get_or c.order k 0) v 0 within_list ∙ (value ∙ value_now structs k lt written))
    | inr differs ↦
        let old : Among b (take k c.order) = ⊎_elim (λ l. l) (λ r. ⊎_elim (λ e. absurd (differs e)) (λ nothing. absurd nothing) r) (among_append b (take k c.order) (get_or c.order k 0 ∷ []) (subst (Among b) (take_more c.order k 0 lt) among)) in
        get_or-set_other structs (get_or c.order k 0) b v 0 differs ∙ written b old
  ]

  pub all_written : (structs : List ℕ) (k : ℕ) → length c.order ≤ k → length structs ≡ length ds → ((b : ℕ) → Among b (take k c.order) → IsWritten structs b) → structs ≡ structs_of m ds
  all_written structs k le each written =
      ext_get_or 0 structs (structs_of m ds) (each ∙ sym (length-map ds (struct_total m ds)))
      (λ b lt. written b (subst (Among b) (sym (take_all k c.order le)) ((are.nodes b).1 (let nodes = graph_length ds in omega (arith, lt, each, nodes)))))
