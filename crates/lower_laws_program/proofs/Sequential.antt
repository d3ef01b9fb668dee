-- What the scopes of ingress and egress declare under the sequential rule.
use Rattle.lower_laws_program.proofs.Controls.{scope_is, struct_is}
use Rattle.std.proofs.Common.{◌≡◌, inl, inr, true, List, [], ◌∷◌, ◌++◌, map, refl, ap, ap₂, ◌∙◌, arith}
use Rattle.p414_syntax.specs.declared.syntax.Decl.{Decl}
use Rattle.p414_syntax.specs.declared.syntax.Rule14.TheVariants as rule
use Rattle.p414_sem.specs.Expanded.{Expanded}
use Rattle.p416_syntax.specs.declared.parts.Param.{Param}
use Rattle.p416_syntax.specs.declared.controls.Control16.{Control16}
use Rattle.p416_syntax.specs.declared.program.Syntax16.{Syntax16}
use Rattle.p416_syntax.specs.Names.{Name}
use Rattle.p416_syntax.specs.Kinds.{struct}
use Rattle.p416_syntax.specs.BuiltIn.{functions}
use Rattle.p416_syntax.specs.Scopes.{Known, a_value, Scope, sort_in}
use Rattle.p416_syntax.specs.Declarations.{known_local, parameter_name, top_names, layouts_of}
use Rattle.v1_core.specs.declared.block.Block.{Block}
use Rattle.v1_core.specs.Frames.{Owner, of_headers, of_metadata, of_standard, of_variables, of_inner, of_nothing, whole}
use Rattle.v1_core.specs.Surroundings.{Setting, World, rooted, by_root}
use Rattle.v1_core.specs.Blocks.{owners_of, around_control, control_world}
use Rattle.lower_laws_base.specs.Context.{StateLayout, HasRoot, ObjectName, Lowering, Sees}
use Rattle.lower_laws_program.specs.Program.{root_name, root_struct, pipeline_parameters, Parts, syntax_of, DeclaresOnce}
use Rattle.lower_laws_program.specs.TypesFit.{TypeWords, TypesFit}
use Rattle.lower_laws_program.specs.Scopes.{BlockWords, block_lowering, IsClear, enumerations, NearFits}
use Rattle.lower_laws_program.specs.Fits.{pipeline_block}
use Rattle.lower_laws_program.specs.Controls.{near_of, ControlNames}
use Rattle.lower_laws_program.proofs.Layouts.{names}
use Rattle.lower_laws_program.proofs.Scopes.{block_declares}
use Rattle.lower_laws_program.proofs.Clear.{AreNot, all_not, all_both}

abbrev roots_fixed : List Name
roots_fixed = root_name of_headers ∷ root_name of_metadata ∷ root_name of_standard ∷ []

module _ (g : StateLayout) (ds : List Decl) (x : Expanded) (t : TypeWords) (p : Parts) (fits : TypesFit g ds x t p.types) (once : DeclaresOnce p) (c16 : Setting) (syntax : c16.syntax ≡ syntax_of p) (which : Block) (d : Control16) where
  abbrev w : World
  w = control_world (around_control c16 which d)

  abbrev s : Scope
  s = w.around.scope

  abbrev tops : List Known
  tops = names g ds x t p fits once

  abbrev tops_of : Syntax16 → List Known
  tops_of y = top_names y.decls

  -- ingress and egress under the sequential rule

  module _ (objects : List ObjectName) (owners : owners_of which ≡ of_headers ∷ of_metadata ∷ of_standard ∷ []) (their : ControlNames g p pipeline_parameters [] objects w d) where
    abbrev b : BlockWords
    b = pipeline_block rule.Sequential objects

    abbrev c : Lowering
    c = block_lowering g t b w

    abbrev near : List Known
    near = near_of tops pipeline_parameters [] their.locals

    in_scope : (text : Name) → sort_in s.names text ≡ sort_in (near ++ tops) text
    in_scope text = ap (λ (l : List Known). sort_in l text) (scope_is g ds x t p fits once c16 syntax which d pipeline_parameters their.locals their.parameters_are their.locals_are)

    clear : (text : Name) → AreNot roots_fixed text → IsClear (map (known_local tops) their.locals) text → IsClear near text
    clear text a free = (a.0, (a.1.0, (a.1.1.0, free)))

    roots : (o : Owner) → HasRoot c.layout o → sort_in s.names (root_name o) ≡ a_value (struct (root_struct o)) true
    roots of_headers is = in_scope (root_name of_headers) ∙ struct_is g ds x t p fits once c16 syntax which d of_headers (inl refl)
    roots of_metadata is = in_scope (root_name of_metadata) ∙ struct_is g ds x t p fits once c16 syntax which d of_metadata (inr (inl refl))
    roots of_standard is = in_scope (root_name of_standard) ∙ struct_is g ds x t p fits once c16 syntax which d of_standard (inr (inr refl))
    roots of_variables is = absurd is
    roots of_inner is = absurd is
    roots of_nothing is = absurd is

    rooted_there : (o : Owner) → HasRoot c.layout o → by_root w.around.roots (root_name o) ≡ whole o
    rooted_there o is = ap₂ (λ (l : List Param) (q : List Owner). by_root (rooted (map parameter_name l) q) (root_name o)) their.parameters_are owners ∙ by o is where
      by : (o : Owner) → HasRoot c.layout o → by_root (rooted (map parameter_name pipeline_parameters) (of_headers ∷ of_metadata ∷ of_standard ∷ [])) (root_name o) ≡ whole o
      by of_headers is = refl
      by of_metadata is = refl
      by of_standard is = refl
      by of_variables is = absurd is
      by of_inner is = absurd is
      by of_nothing is = absurd is

    near_fits : NearFits g t p b w s near
    near_fits = record {
      names_are = scope_is g ds x t p fits once c16 syntax which d pipeline_parameters their.locals their.parameters_are their.locals_are;
      layouts_are = ap (λ (y : Syntax16). layouts_of y.decls) syntax;
      apart = λ j k a b. absurd (omega (arith, a));
      roots = roots;
      copies = λ o copied. absurd (omega (arith, copied.within));
      packet = λ is. absurd (cc is);
      rooted = rooted_there;
      copied = λ o copied. absurd (omega (arith, copied.within));
      functions_clear = all_both (AreNot roots_fixed) (IsClear (map (known_local tops) their.locals)) (IsClear near) clear functions (all_not roots_fixed functions refl) their.functions_free;
      enumerations_clear = all_both (AreNot roots_fixed) (IsClear (map (known_local tops) their.locals)) (IsClear near) clear enumerations (all_not roots_fixed enumerations refl) their.enumerations_free;
      objects = their.objects_there;
      numbered = their.numbered;
      stored = their.stored;
      shape = their.shape;
    }

    pub sequential_sees : Sees c s []
    sequential_sees = record {
      declares = block_declares g ds x t p fits once b w s near near_fits;
      locals = λ j lt. absurd (omega (arith, lt));
      distinct = λ j k a b. absurd (omega (arith, a));
      apart = λ i is j lt. absurd (omega (arith, lt));
    }
