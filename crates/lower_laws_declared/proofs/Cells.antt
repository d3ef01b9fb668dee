-- Objects have as many cells as in P4_14, and C23 bounds them.
use Rattle.std.proofs.Common.{◌≡◌, ℕ, ◌+◌, ◌<◌, ◌≤◌, false, ◌||◌, cond, Option, Some, None, List, [], ◌∷◌, ◌++◌, map, refl, sym, ap, ap₂, ◌∙◌, subst}
use Rattle.std.specs.Prelude.{filter, filter_map, flat_map, fold, nat_lt, sum_by, is_some}
use Rattle.std.specs.List.{list_any, AllByRecursion}
use Rattle.std.proofs.lemmas.Bool.{ltb-false}
use Rattle.std.proofs.lemmas.List.{append-nil, append_assoc, map-append}
use Rattle.std.proofs.lemmas.List.Concat.{flat_map-cons}
use Rattle.p414_syntax.specs.declared.lexeme.Literal.{Literal}
use Rattle.p414_syntax.specs.declared.objects.StateAttr.{StateAttr}
use Rattle.p414_syntax.specs.declared.syntax.Decl.{Decl}
use Rattle.p414_syntax.specs.declared.syntax.Decl.TheVariants as decl
use Rattle.p414_syntax.specs.declared.syntax.Sort.TheVariants as sort
use Rattle.p414_syntax.specs.Attributes.{direct_table_of, instance_count_of}
use Rattle.p414_syntax.specs.Views.{HeaderTypeTree}
use Rattle.p414_syntax.specs.Breaks.{IsBroken}
use Rattle.p414_syntax.specs.Fields.{types}
use Rattle.p414_syntax.specs.Names.{Name}
use Rattle.p414_syntax.specs.Cells.{cells, cells_in as cells14, cells_of_counter, is_bad_cell_count, cell_count, has_bad_cells}
use Rattle.p414_sem.specs.Expanded.{Expanded}
use Rattle.p416_syntax.specs.declared.program.Decl16.{Decl16}
use Rattle.p416_syntax.specs.declared.program.Decl16.TheVariants as decl16
use Rattle.p416_syntax.specs.declared.parts.Note.TheVariants as note
use Rattle.p416_syntax.specs.Totals.{cells_in, cell_sum, instance_cells}
use Rattle.lower_laws_names.specs.NewNames.{new_name}
use Rattle.lower_laws_names.specs.Objects.{counter_instance, object_decl, object_decls, top_decls}
use Rattle.lower_laws_names.specs.Types.{is_used, header_decl, header_decls, Member, members, struct_decl, struct_decls, headers_decl, metadata_decl, type_decls}
use Rattle.agreement_of_meanings.specs.Shown.{Shown, as_header, as_stack, as_metadata}
use Rattle.lower_laws_states.specs.Laws.{BreaksNo}
use Rattle.lower_laws_states.proofs.Members.{neither, not_true}
use Rattle.lower_laws_rules.specs.Whole.{CellsFit}
use Rattle.lower_laws_program.specs.Program.{Parts, blocks_of, decls_of}
use Rattle.lower_laws_declared.specs.Controls.{PartsAre}

more : {A B : Type 0} (f : A → List B) (xs ys : List A) → flat_map f (xs ++ ys) ≡ flat_map f xs ++ flat_map f ys
more f [] ys = refl
more {A} {B} f (x ∷ xs) ys =
    flat_map-cons f x (xs ++ ys) ∙ ap (λ (l : List B). f x ++ l) (more f xs ys) ∙ sym (append_assoc (f x) (flat_map f xs) (flat_map f ys)) ∙ ap (λ (l : List B). l ++ flat_map f ys) (sym (flat_map-cons f x xs))

counter_cells : (text : Name) (attributes : List StateAttr) (direct : Option Name) → instance_cells (counter_instance text attributes direct) ≡ map cell_count (cond (is_some direct) [] (instance_count_of attributes ∷ []))
counter_cells text attributes None = refl
counter_cells text attributes (Some table) = refl

module _ (ds : List Decl) where
  written : (es : List Decl) → flat_map cells_in (filter_map (object_decl ds) es) ≡ map cell_count (flat_map cells14 es)
  written [] = refl
  written (decl.Counter c ∷ es) =
      flat_map-cons cells_in (decl16.Instance (note.Name c.name ∷ []) (counter_instance (new_name ds sort.Object c.name) c.attributes (direct_table_of c.attributes))) (filter_map (object_decl ds) es)
      ∙ ap₂ (λ (a b : List ℕ). a ++ b) (counter_cells (new_name ds sort.Object c.name) c.attributes (direct_table_of c.attributes)) (written es)
      ∙ sym (map-append cell_count (cells_of_counter c.attributes) (flat_map cells14 es)) ∙ ap (map cell_count) (sym (flat_map-cons cells14 (decl.Counter c) es))
  written (decl.Meter c ∷ es) = ap (λ (l : List ℕ). cell_count (instance_count_of c.attributes) ∷ l) (written es)
  written (decl.Register c ∷ es) = ap (λ (l : List ℕ). cell_count (instance_count_of c.attributes) ∷ l) (written es)
  written (d ∷ es) = written es

  no_headers : (ts : List HeaderTypeTree) → flat_map cells_in (map (header_decl ds) ts) ≡ []
  no_headers [] = refl
  no_headers (t ∷ ts) = no_headers ts

  no_structs : (x : Expanded) (ms : List Member) → flat_map cells_in (filter_map (struct_decl ds x) ms) ≡ []
  no_structs x [] = refl
  no_structs x (m ∷ ms) = by m.shown (no_structs x ms) where
    by : (s : Shown) → flat_map cells_in (filter_map (struct_decl ds x) ms) ≡ [] → flat_map cells_in (filter_map (struct_decl ds x) (record m { shown = s } ∷ ms)) ≡ []
    by (as_header n fs) e = e
    by (as_stack n fs) e = e
    by (as_metadata n fs) e = e

  no_types : (x : Expanded) → flat_map cells_in (type_decls ds x) ≡ []
  no_types x =
      more cells_in (header_decls ds) (struct_decls ds x ++ headers_decl ds ∷ metadata_decl ds ∷ [])
      ∙ ap₂ (λ (a b : List ℕ). a ++ b) (no_headers (filter (is_used ds) (types ds))) (more cells_in (struct_decls ds x) (headers_decl ds ∷ metadata_decl ds ∷ []) ∙ ap (λ (l : List ℕ). l ++ []) (no_structs x (members ds)))

  pub all_written : (x : Expanded) (p : Parts) → PartsAre ds x p → flat_map cells_in (blocks_of p) ≡ [] → flat_map cells_in (decls_of p) ≡ map cell_count (cells ds)
  all_written x p are none =
      ap (λ (l : List Decl16). flat_map cells_in (l ++ blocks_of p)) are.types ∙ more cells_in (top_decls ds x) (blocks_of p)
      ∙ ap₂ (λ (a b : List ℕ). a ++ b) (more cells_in (type_decls ds x) (object_decls ds) ∙ ap₂ (λ (a b : List ℕ). a ++ b) (no_types x) (written ds)) none
      ∙ append-nil (map cell_count (cells ds))

  -- C23

  bounds : BreaksNo ds → has_bad_cells ds ≡ false
  unfolding IsBroken
  bounds none = not_true (has_bad_cells ds) none.1.1.1.1.1.1.1.1.1.1.1.1.1.1.1.1.1.1.1.1.1.1.0

  one_fits : (o : Option Literal) → is_bad_cell_count o ≡ false → CellsFit (cell_count o)
  one_fits None e = absurd (cc e)
  one_fits (Some n) e = let both = neither (nat_lt n.value 1) (nat_lt 1048576 n.value) e in (ltb-false n.value 1 both.0, ltb-false 1048576 n.value both.1)

  each_fits : (os : List (Option Literal)) → list_any is_bad_cell_count os ≡ false → AllByRecursion CellsFit (map cell_count os)
  each_fits [] e = tt
  each_fits (o ∷ os) e = let both = neither (is_bad_cell_count o) (list_any is_bad_cell_count os) e in (one_fits o both.0, each_fits os both.1)

  sums : (os : List (Option Literal)) (a : ℕ) → fold (λ (n m : ℕ). n + m) a (map cell_count os) ≡ fold (λ (n : ℕ) (o : Option Literal). n + cell_count o) a os
  sums [] a = refl
  sums (o ∷ os) a = sums os (a + cell_count o)

  pub cells_fit : BreaksNo ds → (x : Expanded) (p : Parts) → PartsAre ds x p → flat_map cells_in (blocks_of p) ≡ [] → AllByRecursion CellsFit (flat_map cells_in (decls_of p))
  cells_fit none x p are empty = subst (AllByRecursion CellsFit) (sym (all_written x p are empty)) (each_fits (cells ds) (neither (list_any is_bad_cell_count (cells ds)) _ (bounds none)).0)

  pub all_cells_fit : BreaksNo ds → (x : Expanded) (p : Parts) → PartsAre ds x p → flat_map cells_in (blocks_of p) ≡ [] → cell_sum (flat_map cells_in (decls_of p)) ≤ 4194304
  all_cells_fit none x p are empty =
      let right = neither (nat_lt 4194304 (sum_by cell_count (cells ds))) _ (neither (list_any is_bad_cell_count (cells ds)) _ (bounds none)).1 in
      subst (λ (l : List ℕ). cell_sum l ≤ 4194304) (sym (all_written x p are empty)) (subst (λ (n : ℕ). n ≤ 4194304) (sym (sums (cells ds) 0)) (ltb-false 4194304 (sum_by cell_count (cells ds)) right.0))
