-- The parser of a program that is put together breaks no rule.
use Rattle.std.proofs.Common.{◌≡◌, inl, inr, false, List, [], ◌∷◌, ◌++◌, map, refl, sym, ap, ap₂, ◌∙◌}
use Rattle.std.specs.Prelude.{codes}
use Rattle.std.specs.List.{AllByRecursion}
use Rattle.std.proofs.lemmas.List.{append-nil}
use Rattle.p414_syntax.specs.declared.syntax.Decl.{Decl}
use Rattle.p414_syntax.specs.ParserGraph.{states, state_name}
use Rattle.p414_sem.specs.Expanded.{Expanded}
use Rattle.match_core.specs.declared.entries.Entries.{Entries}
use Rattle.p416_syntax.specs.declared.program.Decl16.TheVariants as decl
use Rattle.p416_syntax.specs.declared.parsers.Parser16.{Parser16}
use Rattle.p416_syntax.specs.declared.parsers.State.{State}
use Rattle.p416_syntax.specs.declared.parsers.Var.{Var}
use Rattle.p416_syntax.specs.declared.parts.Param.{Param}
use Rattle.p416_syntax.specs.Names.{Name, has_name, repeats}
use Rattle.p416_syntax.specs.Scopes.{Scope, Known, called_of, known_parameter}
use Rattle.p416_syntax.specs.Declarations.{known_state, known_var, parser_names, state_name as name16}
use Rattle.p416_syntax.specs.Externs.{are_allowed}
use Rattle.p416_syntax.specs.Breaks.{scope_of}
use Rattle.v1_core.specs.Surroundings.{quiet_world}
use Rattle.v1_core.specs.Parsing.{around_parser}
use Rattle.v1_core.specs.Frames.{of_headers, of_metadata, of_standard, of_variables, of_inner, of_nothing}
use Rattle.lower_laws_base.specs.Context.{StateLayout, Lowering}
use Rattle.lower_laws_parser.specs.Words.{ParserWords, state_of}
use Rattle.lower_laws_parser.specs.Starts.{Begins}
use Rattle.lower_laws_program.specs.Program.{root_struct, packet_called, Parts, syntax_of, DeclaresOnce}
use Rattle.lower_laws_program.specs.TypesFit.{TypeWords, TypesFit}
use Rattle.lower_laws_program.specs.Scopes.{IsClear}
use Rattle.lower_laws_program.specs.Fits.{parser_block, parser_lowering, ParserFits, setting_of}
use Rattle.lower_laws_program.proofs.Parser.{parses, words}
use Rattle.lower_laws_rules.specs.Declared.{DeclarationKeeps}
use Rattle.lower_laws_rules.proofs.Names.{once_behind}
use Rattle.lower_laws_rules.proofs.Lists.{neither}
use Rattle.lower_laws_block_rules.specs.Wholes.{CanWrite, ParserIs}
use Rattle.lower_laws_block_rules.specs.Program.{LayoutWide, fixed_roots, parser_fixed, ParserRules}
use Rattle.lower_laws_block_rules.proofs.StateNames.{called_states, called_behind, new_names}
use Rattle.lower_laws_block_rules.proofs.NewNames.{map_once, none_new, clear_lacks}
use Rattle.lower_laws_block_rules.proofs.OfProgram.{wide_here, struct_headers, struct_metadata, struct_standard, type_in, placed}
use Rattle.lower_laws_block_rules.proofs.Parsers.{parser_keeps}

module _ (g : StateLayout) (ds : List Decl) (x : Expanded) (t : TypeWords) (p : Parts) (fits : TypesFit g ds x t p.types) (once : DeclaresOnce p) (entries : Entries) (parser : ParserFits g ds t (setting_of p entries) p.parser) (wide : LayoutWide g) (rules : ParserRules g ds t (setting_of p entries) p.parser parser) where
  abbrev pub c : Lowering
  c = parser_lowering g t (setting_of p entries) p.parser

  abbrev pub q : Parser16
  q = p.parser

  abbrev pub top : Scope
  top = scope_of (syntax_of p) (decl.Parser q)

  abbrev pub w : ParserWords
  w = words g ds x t p fits once (setting_of p entries) refl parser

  -- new names of states differ

  own_once : repeats (map name16 (map (state_of ds w) (states ds))) ≡ false
  own_once = ap repeats (new_names ds w (states ds)) ∙ map_once parser.state parser.differ (map state_name (states ds)) rules.once

  states_once : repeats (map name16 q.states) ≡ false
  states_once = by parser.begins where
    by : Begins c ds w q.states → repeats (map name16 q.states) ≡ false
    by (inl b) =
        ap (λ (xs : List State). repeats (map name16 xs)) b.written
        ∙ neither _ _ (ap (λ (xs : List Name). has_name xs (codes "start")) (new_names ds w (states ds)) ∙ none_new parser.state (codes "start") b.start (map state_name (states ds))) own_once
    by (inr b) = ap (λ (xs : List State). repeats (map name16 xs)) b.written ∙ own_once

  all_lack : (texts : List Name) → AllByRecursion (IsClear (map known_state q.states)) texts → AllByRecursion (λ text. has_name (map name16 q.states) text ≡ false) texts
  all_lack [] free = tt
  all_lack (text ∷ texts) free = (ap (λ (xs : List Name). has_name xs text) (sym (called_states q.states)) ∙ clear_lacks (map known_state q.states) text free.0, all_lack texts free.1)

  called_parameters : (ks : List Known) (ps : List Param) → map called_of (map (known_parameter ks) ps) ≡ map (λ (z : Param). z.name) ps
  called_parameters ks [] = refl
  called_parameters ks (z ∷ ps) = ap (λ (xs : List Name). z.name ∷ xs) (called_parameters ks ps)

  pub names_once : repeats (map called_of (parser_names top.names q)) ≡ false
  names_once =
      ap (λ (vs : List Var). repeats (map called_of ((map (known_parameter top.names) q.parameters ++ map (known_var top.names) vs) ++ map known_state q.states))) parser.vars
      ∙ ap (λ (ks : List Known). repeats (map called_of (ks ++ map known_state q.states))) (append-nil (map (known_parameter top.names) q.parameters))
      ∙ ap repeats (called_behind (map (known_parameter top.names) q.parameters) (map known_state q.states) ∙ ap₂ (λ (xs ys : List Name). xs ++ ys) (called_parameters top.names q.parameters ∙ ap (λ (ps : List Param). map (λ (z : Param). z.name) ps) parser.parameters) (called_states q.states))
      ∙ once_behind parser_fixed (map name16 q.states) refl states_once (all_lack parser_fixed rules.free)

  pub writes : CanWrite c
  writes of_headers is = refl
  writes of_metadata is = refl
  writes of_standard is = refl
  writes of_variables is = absurd is
  writes of_inner is = absurd is
  writes of_nothing is = absurd is

  abbrev pub parser_is : ParserIs top c ds packet_called parser.state (root_struct of_headers) (root_struct of_metadata) q
  parser_is = record {
    roots = fixed_roots;
    parameters = parser.parameters;
    packets = type_in g ds x t p fits once (decl.Parser q);
    headers = struct_headers g ds x t p fits once (decl.Parser q);
    metadata = struct_metadata g ds x t p fits once (decl.Parser q);
    standards = struct_standard g ds x t p fits once (decl.Parser q);
    names = names_once;
    parses = parses g ds x t p fits once (setting_of p entries) refl parser;
    wide = wide_here g t parser_block (quiet_world (around_parser (setting_of p entries) q)) wide;
    writes = writes;
    at = ap (are_allowed (0 ∷ [])) (placed g ds x t p fits once [] _ q.name refl);
    bare = parser.vars;
    begins = parser.begins;
    differ = parser.differ;
    each = rules.each;
    idle = rules.idle;
  }

  pub program_parser_keeps : DeclarationKeeps top (decl.Parser q) []
  program_parser_keeps = parser_keeps top c ds packet_called parser.state (root_struct of_headers) (root_struct of_metadata) q parser_is
