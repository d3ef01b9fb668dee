-- What a pipeline declares is as the rules ask, where its copies of actions are.
use Rattle.std.proofs.Common.{◌≡◌, Bool, List, [], ◌∷◌, ◌++◌, map, refl, ◌∙◌, subst}
use Rattle.std.specs.List.{AllByRecursion}
use Rattle.match_core.specs.declared.entries.Entries.{Entries}
use Rattle.p414_syntax.specs.declared.syntax.Decl.{Decl}
use Rattle.p414_syntax.specs.declared.syntax.Rule14.{Rule14}
use Rattle.p414_syntax.specs.declared.syntax.Rule14.TheVariants as rule
use Rattle.p414_syntax.specs.Tree.{Stmt}
use Rattle.p414_syntax.specs.Names.{Name}
use Rattle.p414_sem.specs.Expanded.{Expanded}
use Rattle.p416_syntax.specs.declared.controls.Control16.{Control16}
use Rattle.p416_syntax.specs.declared.controls.Local.{Local}
use Rattle.p416_syntax.specs.declared.controls.Local.TheVariants as local
use Rattle.p416_syntax.specs.declared.program.Decl16.TheVariants as decl16
use Rattle.p416_syntax.specs.BuiltIn.{standard_name}
use Rattle.p416_syntax.specs.Scopes.{Scope, Known, known_parameter}
use Rattle.p416_syntax.specs.Declarations.{action_uses, known_local, top_names}
use Rattle.p416_syntax.specs.Breaks.{scope_of}
use Rattle.v1_core.specs.declared.block.Block.{Block}
use Rattle.v1_core.specs.Blocks.{owners_of}
use Rattle.v1_core.specs.Frames.{of_headers, of_metadata, of_standard}
use Rattle.lower_laws_names.specs.Reaches.{fixed}
use Rattle.lower_laws_names.specs.Copies.{Copy}
use Rattle.lower_laws_base.specs.Context.{Lowering}
use Rattle.lower_laws_states.specs.Expansions.{Has}
use Rattle.lower_laws_states.proofs.Members.{mapped_has, each_has}
use Rattle.lower_laws_program.specs.Program.{decls_of, syntax_of, root_struct, pipeline_parameters}
use Rattle.lower_laws_program.specs.Controls.{old_locals}
use Rattle.lower_laws_program.specs.Scopes.{IsClear}
use Rattle.lower_laws_program.proofs.Tops.{sort_behind}
use Rattle.lower_laws_rules.specs.Keeping.{Keeps}
use Rattle.lower_laws_block_rules.specs.Wholes.{IsStruct, LocalHere}
use Rattle.lower_laws_block_rules.proofs.OfProgram.{struct_headers, struct_metadata, struct_standard}
use Rattle.lower_laws_declared.specs.Layout.{layout_shaped, type_words}
use Rattle.lower_laws_declared.proofs.Controls.{locals_apart}
use Rattle.lower_laws_translated.specs.Given.{IsGiven}
use Rattle.lower_laws_translated.specs.Translated.{tables_in, copies_in, table_written, action_written, rule_in, locals_in, plan}
use Rattle.lower_laws_translated.proofs.Acts.{p, control, b, outer, own}
use Rattle.lower_laws_translated.specs.Owed.{PipelineOwed}
use Rattle.lower_laws_translated.proofs.Roots.{fits, once}
use Rattle.lower_laws_translated.proofs.TablesKept.{table_local, table_placed}

joined : {X : Type 0} (P : X → Type 0) (xs ys : List X) → AllByRecursion P xs → AllByRecursion P ys → AllByRecursion P (xs ++ ys)
joined P [] ys a b = b
joined P (x ∷ xs) ys a b = (a.0, joined P xs ys a.1 b)

-- no parameter and no variable has the name of a struct
module _ (names : List Known) (locals : List Local) where
  abbrev Near : Rule14 → Name → Type 0
  Near r text = IsClear (map (known_parameter names) pipeline_parameters ++ map (known_local names) (old_locals r ++ locals)) text

  headers_near : (r : Rule14) → IsClear (map (known_local names) locals) (root_struct of_headers) → Near r (root_struct of_headers)
  headers_near rule.Sequential c = (refl, (refl, (refl, c)))
  headers_near rule.Parallel c = (refl, (refl, (refl, (refl, (refl, (refl, c))))))

  metadata_near : (r : Rule14) → IsClear (map (known_local names) locals) (root_struct of_metadata) → Near r (root_struct of_metadata)
  metadata_near rule.Sequential c = (refl, (refl, (refl, c)))
  metadata_near rule.Parallel c = (refl, (refl, (refl, (refl, (refl, (refl, c))))))

  standard_near : (r : Rule14) → IsClear (map (known_local names) locals) standard_name → Near r standard_name
  standard_near rule.Sequential c = (refl, (refl, (refl, c)))
  standard_near rule.Parallel c = (refl, (refl, (refl, (refl, (refl, (refl, c))))))

module _ (ds : List Decl) (x : Expanded) (given : IsGiven ds x) (under : Rule14) (entries : Entries) (e : Bool) (text : Name) (body : Stmt) (which : Block) (owners : owners_of which ≡ of_headers ∷ of_metadata ∷ of_standard ∷ []) where
  abbrev c : Lowering
  c = outer ds x given under entries e text body which owners

  abbrev d : Control16
  d = control ds x given under entries e text body which owners

  abbrev s : Scope
  s = (b ds x given under entries e text body which owners).scope

  abbrev names : List Known
  names = top_names (decls_of (p ds x given under entries e text body which owners))

  abbrev locals : List Local
  locals = locals_in ds x under e

  headers_there : IsStruct s (root_struct of_headers)
  headers_there =
      sort_behind (map (known_parameter names) pipeline_parameters ++ map (known_local names) (old_locals (rule_in ds x under e) ++ locals)) names (root_struct of_headers)
      (headers_near names locals (rule_in ds x under e) (locals_apart ds (table_written ds x) names (fixed (root_struct of_headers)) refl (λ s n. tt) (λ k n. tt) _ locals (own ds x given under entries e text body which owners).inside (own ds x given under entries e text body which owners).each))
      ∙ struct_headers (layout_shaped ds []) ds x (type_words ds x) (p ds x given under entries e text body which owners) (fits ds x given under) (once ds x given under) (decl16.Control d)

  metadata_there : IsStruct s (root_struct of_metadata)
  metadata_there =
      sort_behind (map (known_parameter names) pipeline_parameters ++ map (known_local names) (old_locals (rule_in ds x under e) ++ locals)) names (root_struct of_metadata)
      (metadata_near names locals (rule_in ds x under e) (locals_apart ds (table_written ds x) names (fixed (root_struct of_metadata)) refl (λ s n. tt) (λ k n. tt) _ locals (own ds x given under entries e text body which owners).inside (own ds x given under entries e text body which owners).each))
      ∙ struct_metadata (layout_shaped ds []) ds x (type_words ds x) (p ds x given under entries e text body which owners) (fits ds x given under) (once ds x given under) (decl16.Control d)

  standard_there : IsStruct s standard_name
  standard_there =
      sort_behind (map (known_parameter names) pipeline_parameters ++ map (known_local names) (old_locals (rule_in ds x under e) ++ locals)) names standard_name
      (standard_near names locals (rule_in ds x under e) (locals_apart ds (table_written ds x) names (fixed standard_name) refl (λ s n. tt) (λ k n. tt) _ locals (own ds x given under entries e text body which owners).inside (own ds x given under entries e text body which owners).each))
      ∙ struct_standard (layout_shaped ds []) ds x (type_words ds x) (p ds x given under entries e text body which owners) (fits ds x given under) (once ds x given under) (decl16.Control d)

  abbrev Here : Local → Type 0
  Here l = LocalHere c ds s (plan ds x) l

  olds : (r : Rule14) → AllByRecursion Here (old_locals r)
  olds rule.Sequential = tt
  olds rule.Parallel = ((root_struct of_headers, refl, headers_there), ((root_struct of_metadata, refl, metadata_there), ((standard_name, refl, standard_there), tt)))

  -- what is still owed: each copy of an action breaks no rule
  abbrev pub ActionsKeep : Type 0
  ActionsKeep = (a : Copy) → Has (copies_in ds x e) a → Keeps (action_uses s (action_written ds x under a)) []

  pub pipeline_kept : ActionsKeep → PipelineOwed c ds (scope_of (syntax_of (p ds x given under entries e text body which owners)) (decl16.Control d)) (plan ds x) (λ (t : Name). Has (tables_in ds x e) t) d
  pipeline_kept keep = record {
    locals =
        joined Here (old_locals (rule_in ds x under e)) locals (olds (rule_in ds x under e))
        (joined Here (map (λ (a : Copy). local.Action (action_written ds x under a)) (copies_in ds x e)) (map (λ (n : Name). local.Table (table_written ds x n)) (tables_in ds x e))
        (each_has Here (map (λ (a : Copy). local.Action (action_written ds x under a)) (copies_in ds x e)) (λ l h. let m = mapped_has (λ (a : Copy). local.Action (action_written ds x under a)) (copies_in ds x e) l h in subst Here m.2 (keep m.0 m.1)))
        (each_has Here (map (λ (n : Name). local.Table (table_written ds x n)) (tables_in ds x e)) (λ l h. let m = mapped_has (λ (n : Name). local.Table (table_written ds x n)) (tables_in ds x e) l h in subst Here m.2 (table_local ds x given under entries e text body which owners m.0 m.1))));
    tables = λ t h. table_placed ds x given under entries e text body which owners t h;
  }
