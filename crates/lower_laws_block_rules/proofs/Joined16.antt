-- A whole program breaks no rule, where its types and its six blocks don't.
use Rattle.std.proofs.Common.{◌≡◌, true, List, [], ◌∷◌, ◌++◌, refl, ap, ◌∙◌}
use Rattle.std.specs.List.{AllByRecursion}
use Rattle.p414_syntax.specs.declared.syntax.Decl.{Decl}
use Rattle.p414_sem.specs.Expanded.{Expanded}
use Rattle.p416_syntax.specs.declared.program.Decl16.{Decl16}
use Rattle.p416_syntax.specs.declared.program.Decl16.TheVariants as decl
use Rattle.p416_syntax.specs.Names.{Name}
use Rattle.p416_syntax.specs.Unknown.{declared_name}
use Rattle.p416_syntax.specs.Breaks.{BreaksNone, program_rules}
use Rattle.v1_core.specs.Frames.{of_headers, of_metadata}
use Rattle.lower_laws_base.specs.Context.{StateLayout}
use Rattle.lower_laws_program.specs.Program.{root_struct, checksum_parameters, pipeline_parameters, deparser_parameters, parser_parameters, Parts, decls_of, blocks_of, syntax_of, DeclaresOnce}
use Rattle.lower_laws_program.specs.TypesFit.{TypeWords, TypesFit}
use Rattle.lower_laws_program.proofs.Layouts.{type_sorts}
use Rattle.lower_laws_rules.specs.Whole.{IsIn, IsOrdered, MainFits, EachKeeps, ProgramKeeps}
use Rattle.lower_laws_rules.specs.Spelling.{SpeltDecl, SpeltParser, SpeltControl}
use Rattle.lower_laws_rules.proofs.Program.{program_breaks_none}
use Rattle.lower_laws_rules.proofs.Spelt.{program_spelt}
use Rattle.p416_syntax.specs.Spelt.{is_spelt16}
use Rattle.lower_laws_block_rules.specs.Program.{fixed_roots}
use Rattle.lower_laws_block_rules.specs.Joined.{decl_held, RestKeeps, BlocksKeep}

both_lists : {A : Type 0} (P : A → Type 0) (xs ys : List A) → AllByRecursion P xs → AllByRecursion P ys → AllByRecursion P (xs ++ ys)
both_lists P [] ys a b = b
both_lists P (x ∷ xs) ys a b = (a.0, both_lists P xs ys a.1 b)

-- blocks hold no types
ordered_behind : (seen : List Name) (types : List Decl16) (blocks : List Decl16) → ((more : List Name) → IsOrdered more blocks) → IsOrdered seen types → IsOrdered seen (types ++ blocks)
ordered_behind seen [] blocks last is = last seen
ordered_behind seen (d ∷ types) blocks last is = (is.0, ordered_behind (seen ++ declared_name d ∷ []) types blocks last is.1)

-- the parameters of the six blocks
pub record Handed (p : Parts) : Type 0 where
  pub parser : p.parser.parameters ≡ parser_parameters
  pub verify : p.verify.parameters ≡ checksum_parameters
  pub ingress : p.ingress.parameters ≡ pipeline_parameters
  pub egress : p.egress.parameters ≡ pipeline_parameters
  pub compute : p.compute.parameters ≡ checksum_parameters
  pub deparser : p.deparser.parameters ≡ deparser_parameters

module _ (g : StateLayout) (ds : List Decl) (x : Expanded) (t : TypeWords) (p : Parts) (fits : TypesFit g ds x t p.types) (once : DeclaresOnce p) (handed : Handed p) (rest : RestKeeps p) (blocks : BlocksKeep p) where
  there : (before : List Decl16) (d : Decl16) (after : List Decl16) → blocks_of p ≡ before ++ d ∷ after → IsIn (decls_of p) d
  there before d after is = record { before = p.types ++ before; after = after; is = ap (λ (bs : List Decl16). p.types ++ bs) is ∙ grouped p.types before (d ∷ after) } where
    grouped : (xs ys zs : List Decl16) → xs ++ (ys ++ zs) ≡ (xs ++ ys) ++ zs
    grouped [] ys zs = refl
    grouped (x ∷ xs) ys zs = ap (λ (ks : List Decl16). x ∷ ks) (grouped xs ys zs)

  main : MainFits (syntax_of p) (root_struct of_headers) (root_struct of_metadata)
  main = record {
    roots = fixed_roots;
    parser = p.parser;
    in_it = there [] (decl.Parser p.parser) _ refl;
    handed = handed.parser;
    verify = p.verify.name;
    ingress = p.ingress.name;
    egress = p.egress.name;
    compute = p.compute.name;
    deparser = p.deparser.name;
    main = refl;
    verifies = record { control = p.verify; in_it = there (decl.Parser p.parser ∷ []) (decl.Control p.verify) _ refl; named = refl; handed = handed.verify };
    ingresses = record { control = p.ingress; in_it = there (decl.Parser p.parser ∷ decl.Control p.verify ∷ []) (decl.Control p.ingress) _ refl; named = refl; handed = handed.ingress };
    egresses = record { control = p.egress; in_it = there (decl.Parser p.parser ∷ decl.Control p.verify ∷ decl.Control p.ingress ∷ []) (decl.Control p.egress) _ refl; named = refl; handed = handed.egress };
    computes = record { control = p.compute; in_it = there (decl.Parser p.parser ∷ decl.Control p.verify ∷ decl.Control p.ingress ∷ decl.Control p.egress ∷ []) (decl.Control p.compute) _ refl; named = refl; handed = handed.compute };
    deparses = record { control = p.deparser; in_it = there (decl.Parser p.parser ∷ decl.Control p.verify ∷ decl.Control p.ingress ∷ decl.Control p.egress ∷ decl.Control p.compute ∷ []) (decl.Control p.deparser) [] refl; named = refl; handed = handed.deparser };
    headers = type_sorts g ds x t p fits once _ fits.headers_struct;
    metadata = type_sorts g ds x t p fits once _ fits.metadata_struct;
    of_headers = rest.of_headers_alone;
    of_bits = rest.of_bits;
  }

  pub program_keeps : ProgramKeeps (syntax_of p) (root_struct of_headers) (root_struct of_metadata) decl_held
  program_keeps = record {
    each = both_lists (EachKeeps (syntax_of p) decl_held) p.types (blocks_of p) rest.types (blocks.parser, (blocks.verify, (blocks.ingress, (blocks.egress, (blocks.compute, (blocks.deparser, tt))))));
    names = once;
    ordered = ordered_behind [] p.types (blocks_of p) (λ more. (refl, (refl, (refl, (refl, (refl, (refl, tt))))))) rest.ordered;
    tables = rest.tables;
    objects = rest.objects;
    counters = rest.counters;
    main = main;
    fields = rest.fields;
    octets = rest.octets;
    held_fields = rest.held_fields;
    held_octets = rest.held_octets;
    cells = rest.cells;
    all_cells = rest.all_cells;
  }

  -- no T rule is broken
  pub breaks_none : BreaksNone (syntax_of p) program_rules
  breaks_none = program_breaks_none (syntax_of p) (root_struct of_headers) (root_struct of_metadata) decl_held program_keeps

-- all is spelt, where types and blocks are
pub record PartsSpelt (p : Parts) : Type 0 where
  pub types : AllByRecursion SpeltDecl p.types
  pub parser : SpeltParser p.parser
  pub verify : SpeltControl p.verify
  pub ingress : SpeltControl p.ingress
  pub egress : SpeltControl p.egress
  pub compute : SpeltControl p.compute
  pub deparser : SpeltControl p.deparser

pub parts_spelt : (p : Parts) → PartsSpelt p → is_spelt16 (syntax_of p) ≡ true
parts_spelt p is = program_spelt (syntax_of p) (record {
  decls = both_lists SpeltDecl p.types (blocks_of p) is.types (is.parser, (is.verify, (is.ingress, (is.egress, (is.compute, (is.deparser, tt))))));
  some = refl;
  main = (is.parser.0, (is.verify.0, (is.ingress.0, (is.egress.0, (is.compute.0, (is.deparser.0, tt))))));
})
