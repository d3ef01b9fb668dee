-- The parser that was written does what that of P4_14 does.
use Rattle.std.proofs.Common.{◌≡◌, ℕ, inl, inr, true, false, Some, List, [], ◌∷◌, ◌++◌, map, refl, sym, ap, ◌∙◌, subst, arith}
use Rattle.std.specs.Prelude.{codes}
use Rattle.p414_syntax.specs.declared.syntax.Decl.{Decl}
use Rattle.p414_sem.specs.Expanded.{Expanded}
use Rattle.p414_sem.specs.Parsing.{parsed}
use Rattle.p414_sem.specs.Effects.{Moment as Moment14}
use Rattle.p416_syntax.specs.declared.parsers.Var.{Var}
use Rattle.p416_syntax.specs.declared.parts.Param.{Param}
use Rattle.p416_syntax.specs.Names.{Name}
use Rattle.p416_syntax.specs.Kinds.{packet_in, struct}
use Rattle.p416_syntax.specs.BuiltIn.{functions, standard, standard_name}
use Rattle.p416_syntax.specs.Scopes.{Known, known, a_type, a_value, Scope, sort_in, type_sort, known_parameter}
use Rattle.p416_syntax.specs.Declarations.{known_state, known_var, parameter_name, top_names, layouts_of}
use Rattle.p416_syntax.specs.declared.program.Syntax16.{Syntax16}
use Rattle.v1_core.specs.Frames.{Owner, of_headers, of_metadata, of_standard, of_variables, of_inner, of_nothing, whole}
use Rattle.v1_core.specs.Surroundings.{Setting, rooted, by_root}
use Rattle.v1_core.specs.Parsing.{parser_owners, parser_of, parse16}
use Rattle.lower_laws_base.specs.Context.{StateLayout, HasRoot, Lowering, Sees}
use Rattle.lower_laws_base.specs.Between.{Beside}
use Rattle.lower_laws_base.specs.Blocks.{ParserEnds}
use Rattle.lower_laws_parser.specs.Words.{ParserWords}
use Rattle.lower_laws_base.specs.Types.{DeclsShown, ZerosAlike}
use Rattle.v1_core.specs.Frames.{Moment}
use Rattle.lower_laws_parser.specs.Parsing.{StateFits, NeverStopped, parser_words, Parses}
use Rattle.lower_laws_parser.proofs.ParserBlock.{parser_ends}
use Rattle.lower_laws_program.specs.Program.{root_name, root_struct, packet_called, parser_parameters, Parts, decls_of, syntax_of, DeclaresOnce}
use Rattle.lower_laws_program.specs.TypesFit.{TypeWords, TypesFit}
use Rattle.lower_laws_program.specs.Scopes.{IsClear, enumerations, NearFits}
use Rattle.lower_laws_program.specs.Fits.{parser_block, parser_lowering, ParserFits}
use Rattle.lower_laws_program.proofs.Tops.{parser_has, has_behind}
use Rattle.lower_laws_program.proofs.Layouts.{names, type_sorts, built_sorts, decls_once}
use Rattle.lower_laws_program.proofs.Scopes.{block_declares}
use Rattle.lower_laws_program.proofs.Types.{types_alike}
use Rattle.lower_laws_states.proofs.Named.{widths_named}
use Rattle.p414_syntax.specs.ParserGraph.{instance_number}
use Rattle.p414_syntax.specs.declared.parsers.Parser.{Parser}
use Rattle.p414_sem.specs.Parsing.{state_named}
use Rattle.lower_laws_program.proofs.Clear.{AreNot, all_not, all_both}

abbrev fixed : List Name
fixed = packet_called ∷ root_name of_headers ∷ root_name of_metadata ∷ root_name of_standard ∷ []

module _ (g : StateLayout) (ds : List Decl) (x : Expanded) (t : TypeWords) (p : Parts) (fits : TypesFit g ds x t p.types) (once : DeclaresOnce p) (c16 : Setting) (syntax : c16.syntax ≡ syntax_of p) (parser : ParserFits g ds t c16 p.parser) where
  abbrev c : Lowering
  c = parser_lowering g t c16 p.parser

  abbrev pub words : ParserWords
  words = parser_words c packet_called parser.state

  abbrev tops : List Known
  tops = names g ds x t p fits once

  abbrev near : List Known
  near = map (known_parameter tops) parser_parameters ++ map known_state p.parser.states

  abbrev s : Scope
  s = c.world.around.scope

  names_are : s.names ≡ near ++ tops
  names_are =
      ap (λ (l : List Param). (map (known_parameter (tops_of c16)) l ++ map (known_var (tops_of c16)) p.parser.vars ++ map known_state p.parser.states) ++ tops_of c16) parser.parameters
      ∙ ap (λ (l : List Var). (map (known_parameter (tops_of c16)) parser_parameters ++ map (known_var (tops_of c16)) l ++ map known_state p.parser.states) ++ tops_of c16) parser.vars
      ∙ ap (λ (l : List Known). (map (known_parameter l) parser_parameters ++ map known_state p.parser.states) ++ l) (ap (λ (y : Syntax16). top_names y.decls) syntax)
    where
      tops_of : Setting → List Known
      tops_of c = top_names c.syntax.decls

  clear : (text : Name) → AreNot fixed text → IsClear (map known_state p.parser.states) text → IsClear near text
  clear text a free = (a.0, (a.1.0, (a.1.1.0, (a.1.1.1.0, free))))

  in_scope : (text : Name) → sort_in s.names text ≡ sort_in (near ++ tops) text
  in_scope text = ap (λ (l : List Known). sort_in l text) names_are

  roots : (o : Owner) → HasRoot c.layout o → sort_in s.names (root_name o) ≡ a_value (struct (root_struct o)) true
  roots of_headers is = in_scope (root_name of_headers) ∙ ap (λ z. a_value (type_sort z) true) (type_sorts g ds x t p fits once _ fits.headers_struct)
  roots of_metadata is = in_scope (root_name of_metadata) ∙ ap (λ z. a_value (type_sort z) true) (type_sorts g ds x t p fits once _ fits.metadata_struct)
  roots of_standard is = in_scope (root_name of_standard) ∙ ap (λ z. a_value (type_sort z) true) (built_sorts g ds x t p fits once (known (a_type standard) standard_name) (inr (inr (inl refl))))
  roots of_variables is = absurd is
  roots of_inner is = absurd is
  roots of_nothing is = absurd is

  rooted_there : (o : Owner) → HasRoot c.layout o → by_root c.world.around.roots (root_name o) ≡ whole o
  rooted_there o is = ap (λ (l : List Param). by_root (rooted (map parameter_name l) parser_owners) (root_name o)) parser.parameters ∙ by o is where
    by : (o : Owner) → HasRoot c.layout o → by_root (rooted (map parameter_name parser_parameters) parser_owners) (root_name o) ≡ whole o
    by of_headers is = refl
    by of_metadata is = refl
    by of_standard is = refl
    by of_variables is = absurd is
    by of_inner is = absurd is
    by of_nothing is = absurd is

  near_fits : NearFits g t p parser_block c.world s near
  near_fits = record {
    names_are = names_are;
    layouts_are = ap (λ (y : Syntax16). layouts_of y.decls) syntax;
    apart = λ j k a b. absurd (omega (arith, a));
    roots = roots;
    copies = λ o copied. absurd (omega (arith, copied.within));
    packet = λ is. in_scope packet_called ∙ ap (λ z. a_value (type_sort z) false) (built_sorts g ds x t p fits once (known (a_type packet_in) (codes "packet_in")) (inl refl));
    rooted = rooted_there;
    copied = λ o copied. absurd (omega (arith, copied.within));
    functions_clear = all_both (AreNot fixed) (IsClear (map known_state p.parser.states)) (IsClear near) clear functions (all_not fixed functions refl) parser.functions_free;
    enumerations_clear = all_both (AreNot fixed) (IsClear (map known_state p.parser.states)) (IsClear near) clear enumerations (all_not fixed enumerations refl) parser.enumerations_free;
    objects = λ j lt. absurd (omega (arith, lt));
    numbered = λ j lt. absurd (omega (arith, lt));
    stored = omega arith;
    shape = λ j lt. absurd (omega (arith, lt));
  }

  sees : Sees c s []
  sees = record {
    declares = block_declares g ds x t p fits once parser_block c.world s near near_fits;
    locals = λ j lt. absurd (omega (arith, lt));
    distinct = λ j k a b. absurd (omega (arith, a));
    apart = λ i is j lt. absurd (omega (arith, lt));
  }

  pub parses : Parses c ds packet_called s
  parses = record { sees = sees; whole = refl; parameters = refl; packet_is = refl; widths = λ called lt. sym (widths_named ds called) ∙ fits.widths (instance_number ds called) lt }

  main : parser_of c16.syntax ≡ Some p.parser
  main = ap parser_of syntax ∙ parser_has (decls_of p) p.parser (decls_once g ds x t p fits once) (has_behind p.types _ _ (inl refl))

  pub parser_alike : NeverStopped ds → ((called : Name) (z : Parser) → state_named ds called ≡ Some z → StateFits c ds words z) → (sum : ℕ) (y : Moment14) (m : Moment) → Beside g 0 sum y m → ParserEnds g sum y.store m (parsed ds y.state) (parse16 c16 m)
  parser_alike never stand sum y m beside =
      let alike = types_alike g ds x t p fits once parser.parameters in
      let e : ParserEnds c.layout sum y.store m (parsed ds y.state) (parse16 c16 m) = parser_ends c ds packet_called parser.state c16 p.parser refl parses parser.vars main (shown_in_block alike.shown) (zeros_in_block alike.zeros) never parser.differ stand sum y m beside parser.begins in
      record { error = e.error; beside = e.beside; requests = e.requests; events = e.events }
    where
      shown_in_block : DeclsShown g ds → DeclsShown c.layout ds
      shown_in_block shown = record { all = shown.all; each = shown.each }

      zeros_in_block : ZerosAlike g (syntax_of p) → ZerosAlike c.layout c16.syntax
      zeros_in_block z = subst (ZerosAlike c.layout) (sym syntax) (record {
        headers = z.headers;
        metadata = z.metadata;
        numbers = z.numbers;
        parser_error = z.parser_error;
        checksum_error = z.checksum_error;
        header_members = z.header_members;
        metadata_members = z.metadata_members;
        standard_members = z.standard_members;
      })
