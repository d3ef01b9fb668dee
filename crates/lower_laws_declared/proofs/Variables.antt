-- The variables of a control are structs without initial values (C1).
use Rattle.std.proofs.Common.{◌≡◌, inl, inr, true, None, List, [], ◌∷◌, ◌++◌, map, refl, sym, ap, ◌∙◌, subst}
use Rattle.std.specs.Prelude.{codes, filter_map}
use Rattle.match_core.specs.declared.entries.Entries.{Entries}
use Rattle.p414_syntax.specs.declared.syntax.Decl.{Decl}
use Rattle.p414_syntax.specs.declared.syntax.Rule14.{Rule14}
use Rattle.p414_syntax.specs.declared.syntax.Rule14.TheVariants as rule
use Rattle.p414_syntax.specs.declared.syntax.Sort.TheVariants as sort
use Rattle.p414_syntax.specs.Names.{Name}
use Rattle.p414_sem.specs.Expanded.{Expanded, IsExpanded}
use Rattle.p416_syntax.specs.declared.controls.Table16.{Table16}
use Rattle.p416_syntax.specs.declared.controls.Local.{Local}
use Rattle.p416_syntax.specs.declared.controls.Local.TheVariants as local
use Rattle.p416_syntax.specs.declared.controls.Control16.{Control16}
use Rattle.p416_syntax.specs.declared.parsers.Var.{Var}
use Rattle.p416_syntax.specs.Kinds.{Kind, struct}
use Rattle.p416_syntax.specs.BuiltIn.{standard, standard_name}
use Rattle.p416_syntax.specs.Scopes.{Known, known, a_type, sort_in, type_sort}
use Rattle.p416_syntax.specs.Declarations.{known_local, top_names}
use Rattle.v1_core.specs.declared.block.Block.{Block}
use Rattle.v1_core.specs.Surroundings.{Surroundings}
use Rattle.v1_core.specs.Frames.{of_headers, of_metadata, of_standard}
use Rattle.v1_core.specs.Blocks.{around_control, var_in}
use Rattle.lower_laws_names.specs.Reaches.{Outer, declared, struct as a_struct, copy, fixed}
use Rattle.lower_laws_base.specs.Context.{Local as Variable}
use Rattle.lower_laws_states.specs.Laws.{BreaksNo}
use Rattle.lower_laws_controls.specs.Blocks.{VariablesAre}
use Rattle.lower_laws_program.specs.Program.{Parts, decls_of, root_struct, pipeline_parameters}
use Rattle.lower_laws_program.specs.Scopes.{IsClear}
use Rattle.lower_laws_program.specs.Controls.{old_locals}
use Rattle.lower_laws_program.specs.Fits.{old_variables, setting_of}
use Rattle.lower_laws_program.proofs.Layouts.{type_sorts, built_sorts}
use Rattle.lower_laws_program.proofs.Tops.{sort_behind}
use Rattle.lower_laws_declared.specs.Layout.{layout_shaped, type_words, IsShort}
use Rattle.lower_laws_declared.specs.Controls.{LocalIs, LocalsAre, PartsAre}
use Rattle.lower_laws_declared.proofs.Controls.{locals_apart}
use Rattle.lower_laws_declared.proofs.Numbers.{declared_once}
use Rattle.lower_laws_declared.proofs.Tables.{front_of}
use Rattle.lower_laws_declared.proofs.Whole.{parts_types}

-- no copy or table is a variable
var_none : (ds : List Decl) (as_table : Name → Table16) (y : Outer) (l : Local) → LocalIs ds as_table y l → var_in l ≡ None
var_none ds as_table y (local.Action a) is = refl
var_none ds as_table y (local.Table t) is = refl
var_none ds as_table y (local.Instance notes i) is = refl
var_none ds as_table y (local.Var v) is = absurd (by y is) where
  by : (y : Outer) → LocalIs ds as_table y (local.Var v) → ⊥
  by (declared sort.Action n) is = is
  by (declared sort.Table n) is = is
  by (declared _ n) is = is
  by (a_struct k n) is = is
  by (copy k n) is = is
  by (fixed n) is = is

no_vars : (ds : List Decl) (as_table : Name → Table16) (things : List Outer) (locals : List Local) → LocalsAre ds as_table things locals → filter_map var_in locals ≡ []
no_vars ds as_table [] [] are = refl
no_vars ds as_table (y ∷ things) (l ∷ locals) are = rw (var_none ds as_table y l are.0, no_vars ds as_table things locals are.1) refl
no_vars ds as_table [] (l ∷ locals) are = absurd are
no_vars ds as_table (y ∷ things) [] are = absurd are

abbrev pub old_vars : Rule14 → List Var
old_vars r = filter_map var_in (old_locals r)

vars_are : (r : Rule14) (locals : List Local) → filter_map var_in locals ≡ [] → filter_map var_in (old_locals r ++ locals) ≡ old_vars r
vars_are rule.Sequential locals e = e
vars_are rule.Parallel locals e = ap (λ (l : List Var). old_vars rule.Parallel ++ l) e

module _ (ds : List Decl) (none : BreaksNo ds) (short : IsShort ds) (x : Expanded) (expanded : IsExpanded ds x) (p : Parts) (parts : PartsAre ds x p) (things : List Outer) (as_table : Name → Table16) (locals : List Local) (are : LocalsAre ds as_table things locals) (inside : Rattle.lower_laws_names.specs.Reaches.AreIn ds things) (entries : Entries) (which : Block) (d : Control16) (r : Rule14) (parameters_are : d.parameters ≡ pipeline_parameters) (locals_are : d.locals ≡ old_locals r ++ locals) where
  abbrev b : Surroundings
  b = around_control (setting_of p entries) which d

  abbrev names : List Known
  names = top_names (decls_of p)

  names_are : b.scope.names ≡ front_of names r ++ (map (known_local names) locals ++ names)
  names_are =
      ap (λ (l : List Rattle.p416_syntax.specs.declared.parts.Param.Param). (map (Rattle.p416_syntax.specs.Scopes.known_parameter names) l ++ map (known_local names) d.locals) ++ names) parameters_are
      ∙ ap (λ (l : List Local). (map (Rattle.p416_syntax.specs.Scopes.known_parameter names) pipeline_parameters ++ map (known_local names) l) ++ names) locals_are
      ∙ Rattle.lower_laws_declared.proofs.Tables.scope_parts names r locals

  at_top : (text : Name) → IsClear (front_of names r) text → IsClear (map (known_local names) locals) text → sort_in b.scope.names text ≡ sort_in names text
  at_top text a c = ap (λ (l : List Known). sort_in l text) names_are ∙ sort_behind (front_of names r) (map (known_local names) locals ++ names) text a ∙ sort_behind (map (known_local names) locals) names text c

  fits : Rattle.lower_laws_program.specs.TypesFit.TypesFit (layout_shaped ds []) ds x (type_words ds x) p.types
  fits = parts_types ds none short x expanded p parts []

  once : Rattle.lower_laws_program.specs.Program.DeclaresOnce p
  once = declared_once ds none short x p parts

  clear_locals : (w : Name) → Rattle.p416_syntax.specs.Names.has_name Rattle.lower_laws_names.specs.Words.outer_words w ≡ true → IsClear (map (known_local names) locals) w
  clear_locals w outer = locals_apart ds as_table names (fixed w) outer (λ s n. tt) (λ k n. tt) things locals inside are

  clear_front : (q : Rule14) → IsClear (front_of names q) (root_struct of_headers) × IsClear (front_of names q) (root_struct of_metadata) × IsClear (front_of names q) (root_struct of_standard)
  clear_front rule.Sequential = ((refl, (refl, (refl, tt))), (refl, (refl, (refl, tt))), (refl, (refl, (refl, tt))))
  clear_front rule.Parallel = ((refl, (refl, (refl, (refl, (refl, (refl, tt)))))), (refl, (refl, (refl, (refl, (refl, (refl, tt)))))), (refl, (refl, (refl, (refl, (refl, (refl, tt)))))))

  headers_kind : type_sort (sort_in b.scope.names (root_struct of_headers)) ≡ struct (root_struct of_headers)
  headers_kind = ap type_sort (at_top (root_struct of_headers) (clear_front r).0 (clear_locals (root_struct of_headers) refl) ∙ type_sorts (layout_shaped ds []) ds x (type_words ds x) p fits once _ fits.headers_struct)

  metadata_kind : type_sort (sort_in b.scope.names (root_struct of_metadata)) ≡ struct (root_struct of_metadata)
  metadata_kind = ap type_sort (at_top (root_struct of_metadata) (clear_front r).1 (clear_locals (root_struct of_metadata) refl) ∙ type_sorts (layout_shaped ds []) ds x (type_words ds x) p fits once _ fits.metadata_struct)

  standard_kind : type_sort (sort_in b.scope.names (root_struct of_standard)) ≡ struct (root_struct of_standard)
  standard_kind = ap type_sort (at_top (root_struct of_standard) (clear_front r).2 (clear_locals (root_struct of_standard) refl) ∙ built_sorts (layout_shaped ds []) ds x (type_words ds x) p fits once (known (a_type standard) standard_name) (inr (inr (inl refl))))

  each : (q : Rule14) → VariablesAre b.scope (old_vars q) (old_variables q)
  each rule.Sequential = tt
  each rule.Parallel = (
    record { initial = refl; is = ap (λ (k : Kind). let v : Variable = record { called = codes "old_hdr"; kind = k } in v) (sym headers_kind); type = root_struct of_headers; struct_is = headers_kind },
    (
      record { initial = refl; is = ap (λ (k : Kind). let v : Variable = record { called = codes "old_meta"; kind = k } in v) (sym metadata_kind); type = root_struct of_metadata; struct_is = metadata_kind },
      (record { initial = refl; is = ap (λ (k : Kind). let v : Variable = record { called = codes "old_sm"; kind = k } in v) (sym standard_kind); type = root_struct of_standard; struct_is = standard_kind }, tt),
    ),
  )

  pub variables_are : VariablesAre b.scope (filter_map var_in d.locals) (old_variables r)
  variables_are = subst (λ (vs : List Var). VariablesAre b.scope vs (old_variables r)) (sym (ap (filter_map var_in) locals_are ∙ vars_are r locals (no_vars ds as_table things locals are))) (each r)
