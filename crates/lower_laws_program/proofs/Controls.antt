-- What the scope of a control declares.
use Rattle.std.proofs.Common.{◌≡◌, ◌⊎◌, inl, inr, ℕ, zero, suc, ◌<◌, true, List, [], ◌∷◌, ◌++◌, map, refl, sym, ap, ap₂, ◌∙◌, subst, arith}
use Rattle.std.specs.Prelude.{codes}
use Rattle.p414_syntax.specs.declared.syntax.Decl.{Decl}
use Rattle.p414_syntax.specs.declared.syntax.Rule14.TheVariants as rule
use Rattle.p414_sem.specs.Expanded.{Expanded}
use Rattle.p416_syntax.specs.declared.parts.Param.{Param}
use Rattle.p416_syntax.specs.declared.controls.Local.{Local}
use Rattle.p416_syntax.specs.declared.controls.Control16.{Control16}
use Rattle.p416_syntax.specs.declared.program.Syntax16.{Syntax16}
use Rattle.p416_syntax.specs.Names.{Name}
use Rattle.p416_syntax.specs.Kinds.{struct}
use Rattle.p416_syntax.specs.BuiltIn.{functions, standard, standard_name}
use Rattle.p416_syntax.specs.Scopes.{Known, known, a_type, a_value, Scope, sort_in, type_sort, known_parameter}
use Rattle.p416_syntax.specs.Declarations.{known_local, parameter_name, top_names, layouts_of}
use Rattle.v1_core.specs.declared.block.Block.{Block}
use Rattle.v1_core.specs.Values.{to_member}
use Rattle.v1_core.specs.Frames.{Owner, of_headers, of_metadata, of_standard, of_variables, of_inner, of_nothing, whole, stepped}
use Rattle.v1_core.specs.Surroundings.{Setting, World, rooted, by_root}
use Rattle.v1_core.specs.Blocks.{owners_of, around_control, control_world}
use Rattle.lower_laws_base.specs.Context.{StateLayout, HasRoot, ObjectName, local_at, AreDistinct, IsCopied, Lowering, Sees}
use Rattle.lower_laws_program.specs.Program.{root_name, root_struct, pipeline_parameters, Parts, syntax_of, DeclaresOnce}
use Rattle.lower_laws_program.specs.TypesFit.{TypeWords, TypesFit}
use Rattle.lower_laws_program.specs.Scopes.{BlockWords, block_lowering, IsClear, enumerations, NearFits}
use Rattle.lower_laws_program.specs.Fits.{old_name, old_variables, pipeline_block}
use Rattle.lower_laws_program.specs.Controls.{old_locals, near_of, ControlNames}
use Rattle.lower_laws_program.proofs.Layouts.{names, type_sorts, built_sorts}
use Rattle.lower_laws_program.proofs.Scopes.{block_declares}
use Rattle.lower_laws_program.proofs.Clear.{AreNot, all_not, all_both}
use Rattle.agreement_of_meanings.proofs.Names.{differ_names}

abbrev fixed : List Name
fixed = root_name of_headers ∷ root_name of_metadata ∷ root_name of_standard ∷ old_name of_headers ∷ old_name of_metadata ∷ old_name of_standard ∷ []

module _ (g : StateLayout) (ds : List Decl) (x : Expanded) (t : TypeWords) (p : Parts) (fits : TypesFit g ds x t p.types) (once : DeclaresOnce p) (c16 : Setting) (syntax : c16.syntax ≡ syntax_of p) (which : Block) (d : Control16) where
  abbrev w : World
  w = control_world (around_control c16 which d)

  abbrev s : Scope
  s = w.around.scope

  abbrev tops : List Known
  tops = names g ds x t p fits once

  abbrev tops_of : Syntax16 → List Known
  tops_of y = top_names y.decls

  pub scope_is : (parameters : List Param) (locals : List Local) → d.parameters ≡ parameters → d.locals ≡ locals → s.names ≡ (map (known_parameter tops) parameters ++ map (known_local tops) locals) ++ tops
  scope_is parameters locals a b =
      ap (λ (l : List Param). (map (known_parameter (tops_of c16.syntax)) l ++ map (known_local (tops_of c16.syntax)) d.locals) ++ tops_of c16.syntax) a
      ∙ ap (λ (l : List Local). (map (known_parameter (tops_of c16.syntax)) parameters ++ map (known_local (tops_of c16.syntax)) l) ++ tops_of c16.syntax) b
      ∙ ap (λ (l : List Known). (map (known_parameter l) parameters ++ map (known_local l) locals) ++ l) (ap tops_of syntax)

  pub struct_is : (o : Owner) → (o ≡ of_headers) ⊎ ((o ≡ of_metadata) ⊎ (o ≡ of_standard)) → a_value (type_sort (sort_in tops (root_struct o))) true ≡ a_value (struct (root_struct o)) true
  struct_is o (inl is) = subst (λ (o : Owner). a_value (type_sort (sort_in tops (root_struct o))) true ≡ a_value (struct (root_struct o)) true) (sym is) (ap (λ z. a_value (type_sort z) true) (type_sorts g ds x t p fits once _ fits.headers_struct))
  struct_is o (inr (inl is)) = subst (λ (o : Owner). a_value (type_sort (sort_in tops (root_struct o))) true ≡ a_value (struct (root_struct o)) true) (sym is) (ap (λ z. a_value (type_sort z) true) (type_sorts g ds x t p fits once _ fits.metadata_struct))
  struct_is o (inr (inr is)) = subst (λ (o : Owner). a_value (type_sort (sort_in tops (root_struct o))) true ≡ a_value (struct (root_struct o)) true) (sym is) (ap (λ z. a_value (type_sort z) true) (built_sorts g ds x t p fits once (known (a_type standard) standard_name) (inr (inr (inl refl)))))

  -- ingress and egress under the parallel rule

  module _ (objects : List ObjectName) (owners : owners_of which ≡ of_headers ∷ of_metadata ∷ of_standard ∷ []) (their : ControlNames g p pipeline_parameters (old_locals rule.Parallel) objects w d) where
    abbrev b : BlockWords
    b = pipeline_block rule.Parallel objects

    abbrev c : Lowering
    c = block_lowering g t b w

    abbrev near : List Known
    near = near_of tops pipeline_parameters (old_locals rule.Parallel) their.locals

    in_scope : (text : Name) → sort_in s.names text ≡ sort_in (near ++ tops) text
    in_scope text = ap (λ (l : List Known). sort_in l text) (scope_is pipeline_parameters (old_locals rule.Parallel ++ their.locals) their.parameters_are their.locals_are)

    clear : (text : Name) → AreNot fixed text → IsClear (map (known_local tops) their.locals) text → IsClear near text
    clear text a free = (a.0, (a.1.0, (a.1.1.0, (a.1.1.1.0, (a.1.1.1.1.0, (a.1.1.1.1.1.0, free))))))

    roots : (o : Owner) → HasRoot c.layout o → sort_in s.names (root_name o) ≡ a_value (struct (root_struct o)) true
    roots of_headers is = in_scope (root_name of_headers) ∙ struct_is of_headers (inl refl)
    roots of_metadata is = in_scope (root_name of_metadata) ∙ struct_is of_metadata (inr (inl refl))
    roots of_standard is = in_scope (root_name of_standard) ∙ struct_is of_standard (inr (inr refl))
    roots of_variables is = absurd is
    roots of_inner is = absurd is
    roots of_nothing is = absurd is

    rooted_there : (o : Owner) → HasRoot c.layout o → by_root w.around.roots (root_name o) ≡ whole o
    rooted_there o is = ap₂ (λ (l : List Param) (q : List Owner). by_root (rooted (map parameter_name l) q) (root_name o)) their.parameters_are owners ∙ by o is where
      by : (o : Owner) → HasRoot c.layout o → by_root (rooted (map parameter_name pipeline_parameters) (of_headers ∷ of_metadata ∷ of_standard ∷ [])) (root_name o) ≡ whole o
      by of_headers is = refl
      by of_metadata is = refl
      by of_standard is = refl
      by of_variables is = absurd is
      by of_inner is = absurd is
      by of_nothing is = absurd is

    -- only the three parameters have copies
    nameless : (o : Owner) → old_name o ≡ [] → IsCopied c o → ⊥
    nameless o none copied = by copied.place copied.within (ap (λ l. l.called) copied.stands ∙ none) where
      by : (k : ℕ) → k < 3 → (local_at (old_variables rule.Parallel) k).called ≡ [] → ⊥
      by zero lt e = cc e
      by (suc zero) lt e = cc e
      by (suc (suc zero)) lt e = cc e
      by (suc (suc (suc k))) lt e = absurd (omega (arith, lt))

    copies : (o : Owner) → IsCopied c o → sort_in s.names (old_name o) ≡ a_value (struct (root_struct o)) true
    copies of_headers is = in_scope (old_name of_headers) ∙ struct_is of_headers (inl refl)
    copies of_metadata is = in_scope (old_name of_metadata) ∙ struct_is of_metadata (inr (inl refl))
    copies of_standard is = in_scope (old_name of_standard) ∙ struct_is of_standard (inr (inr refl))
    copies of_variables is = absurd (nameless of_variables refl is)
    copies of_inner is = absurd (nameless of_inner refl is)
    copies of_nothing is = absurd (nameless of_nothing refl is)

    copied : (o : Owner) → IsCopied c o → by_root w.around.roots (old_name o) ≡ stepped (whole of_variables) (to_member (old_name o))
    copied o is = ap₂ (λ (l : List Param) (q : List Owner). by_root (rooted (map parameter_name l) q) (old_name o)) their.parameters_are owners ∙ by o is where
      by : (o : Owner) → IsCopied c o → by_root (rooted (map parameter_name pipeline_parameters) (of_headers ∷ of_metadata ∷ of_standard ∷ [])) (old_name o) ≡ stepped (whole of_variables) (to_member (old_name o))
      by of_headers is = refl
      by of_metadata is = refl
      by of_standard is = refl
      by of_variables is = absurd (nameless of_variables refl is)
      by of_inner is = absurd (nameless of_inner refl is)
      by of_nothing is = absurd (nameless of_nothing refl is)

    apart : AreDistinct (old_variables rule.Parallel)
    apart zero zero a b e = absurd (e refl)
    apart zero (suc zero) a b e = differ_names (codes "old_hdr") (codes "old_meta") refl
    apart zero (suc (suc zero)) a b e = differ_names (codes "old_hdr") (codes "old_sm") refl
    apart (suc zero) zero a b e = differ_names (codes "old_meta") (codes "old_hdr") refl
    apart (suc zero) (suc zero) a b e = absurd (e refl)
    apart (suc zero) (suc (suc zero)) a b e = differ_names (codes "old_meta") (codes "old_sm") refl
    apart (suc (suc zero)) zero a b e = differ_names (codes "old_sm") (codes "old_hdr") refl
    apart (suc (suc zero)) (suc zero) a b e = differ_names (codes "old_sm") (codes "old_meta") refl
    apart (suc (suc zero)) (suc (suc zero)) a b e = absurd (e refl)
    apart (suc (suc (suc j))) k a b e = absurd (omega (arith, a))
    apart j (suc (suc (suc k))) a b e = absurd (omega (arith, b))

    near_fits : NearFits g t p b w s near
    near_fits = record {
      names_are = scope_is pipeline_parameters (old_locals rule.Parallel ++ their.locals) their.parameters_are their.locals_are;
      layouts_are = ap (λ (y : Syntax16). layouts_of y.decls) syntax;
      apart = apart;
      roots = roots;
      copies = copies;
      packet = λ is. absurd (cc is);
      rooted = rooted_there;
      copied = copied;
      functions_clear = all_both (AreNot fixed) (IsClear (map (known_local tops) their.locals)) (IsClear near) clear functions (all_not fixed functions refl) their.functions_free;
      enumerations_clear = all_both (AreNot fixed) (IsClear (map (known_local tops) their.locals)) (IsClear near) clear enumerations (all_not fixed enumerations refl) their.enumerations_free;
      objects = their.objects_there;
      numbered = their.numbered;
      stored = their.stored;
      shape = their.shape;
    }

    pub parallel_sees : Sees c s []
    parallel_sees = record {
      declares = block_declares g ds x t p fits once b w s near near_fits;
      locals = λ j lt. absurd (omega (arith, lt));
      distinct = λ j k a b. absurd (omega (arith, a));
      apart = λ i is j lt. absurd (omega (arith, lt));
    }
