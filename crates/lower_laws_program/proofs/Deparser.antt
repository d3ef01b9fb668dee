-- The deparser that was written does what P4_14 says.
use Rattle.std.proofs.Common.{◌≡◌, inl, inr, ℕ, false, Some, List, [], ◌∷◌, ◌++◌, map, refl, ap, ◌∙◌, arith}
use Rattle.std.specs.Prelude.{codes}
use Rattle.p414_syntax.specs.declared.syntax.Decl.{Decl}
use Rattle.p414_sem.specs.Expanded.{Expanded}
use Rattle.p414_sem.specs.Effects.{Moment as Moment14}
use Rattle.p414_sem.specs.Passes.{deparsed}
use Rattle.p416_syntax.specs.declared.parts.Param.{Param}
use Rattle.p416_syntax.specs.declared.controls.Local.{Local}
use Rattle.p416_syntax.specs.declared.program.Syntax16.{Syntax16}
use Rattle.p416_syntax.specs.Names.{Name}
use Rattle.p416_syntax.specs.Kinds.{packet_out, struct}
use Rattle.p416_syntax.specs.BuiltIn.{functions}
use Rattle.p416_syntax.specs.Scopes.{Known, known, a_type, a_value, Scope, sort_in, type_sort, known_parameter}
use Rattle.p416_syntax.specs.Declarations.{known_local, parameter_name, top_names, layouts_of}
use Rattle.v1_core.specs.declared.block.Block.TheVariants.{Deparse}
use Rattle.v1_core.specs.Frames.{Moment, Owner, of_headers, of_metadata, of_standard, of_variables, of_inner, of_nothing, whole}
use Rattle.v1_core.specs.Surroundings.{Setting, rooted, by_root}
use Rattle.v1_core.specs.Blocks.{owners_of, control_at, control16}
use Rattle.v1_core.specs.Passes.{octets_left}
use Rattle.lower_laws_base.specs.Context.{StateLayout, HasRoot, Lowering, Sees}
use Rattle.lower_laws_base.specs.Between.{Beside}
use Rattle.lower_laws_base.specs.Types.{DeclsShown}
use Rattle.lower_laws_parser.specs.Deparsing.{HeadersStand}
use Rattle.lower_laws_parser.proofs.Deparse.{deparser_alike as deparser_ends}
use Rattle.lower_laws_program.specs.Program.{root_name, root_struct, packet_called, deparser_parameters, Parts, decls_of, syntax_of, DeclaresOnce}
use Rattle.lower_laws_program.specs.TypesFit.{TypeWords, TypesFit}
use Rattle.lower_laws_program.specs.Scopes.{IsClear, enumerations, NearFits}
use Rattle.lower_laws_program.specs.Fits.{deparser_block, deparser_lowering, DeparserFits}
use Rattle.lower_laws_program.proofs.Tops.{control_has, has_behind}
use Rattle.lower_laws_program.proofs.Layouts.{names, type_sorts, built_sorts, decls_once}
use Rattle.lower_laws_program.proofs.Scopes.{block_declares}
use Rattle.lower_laws_program.proofs.Standing.{all_widths}
use Rattle.lower_laws_program.proofs.Clear.{AreNot, all_not, all_of}

abbrev fixed : List Name
fixed = packet_called ∷ root_name of_headers ∷ []

module _ (g : StateLayout) (ds : List Decl) (x : Expanded) (t : TypeWords) (p : Parts) (fits : TypesFit g ds x t p.types) (once : DeclaresOnce p) (c16 : Setting) (syntax : c16.syntax ≡ syntax_of p) (deparser : DeparserFits g ds x t c16 p.deparser) where
  abbrev c : Lowering
  c = deparser_lowering g t c16 p.deparser

  abbrev tops : List Known
  tops = names g ds x t p fits once

  abbrev near : List Known
  near = map (known_parameter tops) deparser_parameters

  abbrev s : Scope
  s = c.world.around.scope

  abbrev tops_of : Syntax16 → List Known
  tops_of y = top_names y.decls

  names_are : s.names ≡ near ++ tops
  names_are =
      ap (λ (l : List Param). (map (known_parameter (tops_of c16.syntax)) l ++ map (known_local (tops_of c16.syntax)) p.deparser.locals) ++ tops_of c16.syntax) deparser.parameters
      ∙ ap (λ (l : List Local). (map (known_parameter (tops_of c16.syntax)) deparser_parameters ++ map (known_local (tops_of c16.syntax)) l) ++ tops_of c16.syntax) deparser.locals
      ∙ ap (λ (l : List Known). map (known_parameter l) deparser_parameters ++ l) (ap tops_of syntax)

  clear : (text : Name) → AreNot fixed text → IsClear near text
  clear text a = (a.0, (a.1.0, tt))

  in_scope : (text : Name) → sort_in s.names text ≡ sort_in (near ++ tops) text
  in_scope text = ap (λ (l : List Known). sort_in l text) names_are

  roots : (o : Owner) → HasRoot c.layout o → sort_in s.names (root_name o) ≡ a_value (struct (root_struct o)) false
  roots of_headers is = in_scope (root_name of_headers) ∙ ap (λ z. a_value (type_sort z) false) (type_sorts g ds x t p fits once _ fits.headers_struct)
  roots of_metadata is = absurd (cc is)
  roots of_standard is = absurd (cc is)
  roots of_variables is = absurd is
  roots of_inner is = absurd is
  roots of_nothing is = absurd is

  rooted_there : (o : Owner) → HasRoot c.layout o → by_root c.world.around.roots (root_name o) ≡ whole o
  rooted_there of_headers is = ap (λ (l : List Param). by_root (rooted (map parameter_name l) (owners_of Deparse)) (root_name of_headers)) deparser.parameters
  rooted_there of_metadata is = absurd (cc is)
  rooted_there of_standard is = absurd (cc is)
  rooted_there of_variables is = absurd is
  rooted_there of_inner is = absurd is
  rooted_there of_nothing is = absurd is

  near_fits : NearFits g t p deparser_block c.world s near
  near_fits = record {
    names_are = names_are;
    layouts_are = ap (λ (y : Syntax16). layouts_of y.decls) syntax;
    apart = λ j k a b. absurd (omega (arith, a));
    roots = roots;
    copies = λ o copied. absurd (omega (arith, copied.within));
    packet = λ is. in_scope packet_called ∙ ap (λ z. a_value (type_sort z) false) (built_sorts g ds x t p fits once (known (a_type packet_out) (codes "packet_out")) (inr (inl refl)));
    rooted = rooted_there;
    copied = λ o copied. absurd (omega (arith, copied.within));
    functions_clear = all_of (AreNot fixed) (IsClear near) clear functions (all_not fixed functions refl);
    enumerations_clear = all_of (AreNot fixed) (IsClear near) clear enumerations (all_not fixed enumerations refl);
    objects = λ j lt. absurd (omega (arith, lt));
    numbered = λ j lt. absurd (omega (arith, lt));
    stored = omega arith;
    shape = λ j lt. absurd (omega (arith, lt));
  }

  pub sees : Sees c s []
  sees = record {
    declares = block_declares g ds x t p fits once deparser_block c.world s near near_fits;
    locals = λ j lt. absurd (omega (arith, lt));
    distinct = λ j k a b. absurd (omega (arith, a));
    apart = λ i is j lt. absurd (omega (arith, lt));
  }

  main : control_at c16.syntax Deparse ≡ Some p.deparser
  main = ap (λ (y : Syntax16). control_at y Deparse) syntax ∙ control_has (decls_of p) p.deparser (decls_once g ds x t p fits once) (has_behind p.types _ _ (inr (inr (inr (inr (inr (inl refl)))))))

  pub deparser_alike : HeadersStand g x.order → (y : Moment14) (m : Moment) → Beside g 0 0 y m → (octets_left (control16 c16 Deparse m) ≡ deparsed ds x y.state) × ((control16 c16 Deparse m).store ≡ m.store) × ((control16 c16 Deparse m).frame.events ≡ m.frame.events)
  deparser_alike stand y m beside =
      let shown : DeclsShown c.layout ds = record { all = fits.shown.all; each = fits.shown.each } in
      deparser_ends c packet_called c16 p.deparser main deparser.locals refl (record { sees = sees; packet_is = refl; headers = refl }) ds x shown (all_widths g ds fits.shown fits.widths) (stand_there x.order stand) deparser.body y m beside
    where
      stand_there : (order : List ℕ) → HeadersStand g order → HeadersStand c.layout order
      stand_there [] stand = tt
      stand_there (n ∷ order) stand = (stand.0, stand.1, stand_there order stand.2)
