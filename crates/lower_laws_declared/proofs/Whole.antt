-- What a translation asks of types, parser, deparser and names, of an accepted program (C1, C2, C4, C8, C25).
use Rattle.std.proofs.Common.{◌≡◌, List, [], ◌∷◌, ◌++◌, refl, sym, ◌∙◌, subst}
use Rattle.state_store.specs.declared.shapes.Shape.{Shape}
use Rattle.match_core.specs.declared.entries.Entries.{Entries}
use Rattle.p414_syntax.specs.declared.syntax.Decl.{Decl}
use Rattle.p414_syntax.specs.declared.syntax.Rule14.{Rule14}
use Rattle.p414_syntax.specs.declared.syntax.Rule14.TheVariants as rule
use Rattle.p414_sem.specs.Controls.{Setting as Setting14}
use Rattle.p414_sem.specs.Expanded.{Expanded, IsExpanded}
use Rattle.p416_syntax.specs.declared.controls.Local.{Local}
use Rattle.p416_syntax.specs.declared.controls.Control16.{Control16}
use Rattle.p416_syntax.specs.declared.controls.Table16.{Table16}
use Rattle.p414_syntax.specs.Names.{Name}
use Rattle.p416_syntax.specs.declared.parsers.Parser16.{Parser16}
use Rattle.v1_core.specs.declared.block.Block.{Block}
use Rattle.v1_core.specs.Frames.{of_headers, of_metadata, of_standard}
use Rattle.v1_core.specs.Surroundings.{Setting}
use Rattle.v1_core.specs.Blocks.{owners_of, around_control, control_world}
use Rattle.lower_laws_names.specs.Reaches.{Outer}
use Rattle.lower_laws_base.specs.Context.{Sees}
use Rattle.lower_laws_states.specs.Laws.{BreaksNo}
use Rattle.lower_laws_program.specs.Program.{Parts, pipeline_parameters, checksum_parameters}
use Rattle.lower_laws_program.specs.TypesFit.{TypesFit}
use Rattle.lower_laws_program.specs.Scopes.{block_lowering}
use Rattle.lower_laws_program.specs.Controls.{old_locals, checksum_block}
use Rattle.lower_laws_program.specs.Fits.{ParserFits, DeparserFits, pipeline_block, layout_at, setting_of}
use Rattle.lower_laws_program.proofs.Controls.{parallel_sees}
use Rattle.lower_laws_program.proofs.Sequential.{sequential_sees}
use Rattle.lower_laws_program.proofs.Checksums.{checksum_sees}
use Rattle.lower_laws_declared.specs.Layout.{layout_shaped, program_layout, type_words, IsShort}
use Rattle.lower_laws_declared.specs.Objects.{objects_by_number}
use Rattle.lower_laws_declared.specs.Parser.{parser_written}
use Rattle.lower_laws_declared.specs.Controls.{DeclaresLocals, PartsAre, deparser_written}
use Rattle.lower_laws_declared.proofs.TypesFit.{types_fit}
use Rattle.lower_laws_declared.proofs.Parser.{parser_fits}
use Rattle.lower_laws_declared.proofs.Numbers.{declared_once}
use Rattle.lower_laws_declared.proofs.Controls.{pipeline_names, checksum_names}

module _ (ds : List Decl) (none : BreaksNo ds) (short : IsShort ds) (x : Expanded) (expanded : IsExpanded ds x) (p : Parts) (are : PartsAre ds x p) where
  pub parts_types : (shapes : List Shape) → TypesFit (layout_shaped ds shapes) ds x (type_words ds x) p.types
  parts_types shapes = subst (TypesFit (layout_shaped ds shapes) ds x (type_words ds x)) (sym are.types) (types_fit ds x none expanded short shapes)

  -- the parser under all entries
  pub parts_parser : (shapes : List Shape) → p.parser ≡ parser_written (layout_shaped ds shapes) ds → (c14 : Setting14) → c14.decls ≡ ds → (entries : Entries) → ParserFits (layout_at (layout_shaped ds shapes) c14 entries) c14.decls (type_words ds x) (setting_of p entries) p.parser
  parts_parser shapes written c14 same entries =
      subst (λ (es : List Decl). ParserFits (layout_shaped ds (Rattle.match_core.specs.Stores.shapes_of (Rattle.p414_sem.specs.Signatures.signature14 c14.decls) entries)) es (type_words ds x) (setting_of p entries) p.parser) (sym same)
      (subst (λ (q : Parser16). ParserFits (layout_shaped ds (Rattle.match_core.specs.Stores.shapes_of (Rattle.p414_sem.specs.Signatures.signature14 c14.decls) entries)) ds (type_words ds x) (setting_of p entries) q) (sym written)
      (parser_fits ds none short _ x (type_words ds x) p.types (parts_types (Rattle.match_core.specs.Stores.shapes_of (Rattle.p414_sem.specs.Signatures.signature14 c14.decls) entries)) (setting_of p entries)))

  pub parts_deparser : (shapes : List Shape) → p.deparser ≡ deparser_written (layout_shaped ds shapes) x → (c14 : Setting14) (entries : Entries) → DeparserFits (layout_at (layout_shaped ds shapes) c14 entries) ds x (type_words ds x) (setting_of p entries) p.deparser
  parts_deparser shapes written c14 entries =
      subst (λ (q : Control16). DeparserFits (layout_at (layout_shaped ds shapes) c14 entries) ds x (type_words ds x) (setting_of p entries) q) (sym written) (record { parameters = refl; locals = refl; body = refl })

  -- what the statements of a control see
  module _ (as_table : Name → Table16) (things : List Outer) (locals : List Local) (own : DeclaresLocals ds as_table things locals) (entries : Entries) (which : Block) (d : Control16) where
    abbrev c16 : Setting
    c16 = setting_of p entries

    pub pipeline_sees : (r : Rule14) → owners_of which ≡ of_headers ∷ of_metadata ∷ of_standard ∷ [] → d.parameters ≡ pipeline_parameters → d.locals ≡ old_locals r ++ locals → Sees (block_lowering (program_layout ds entries) (type_words ds x) (pipeline_block r (objects_by_number ds)) (control_world (around_control c16 which d))) (control_world (around_control c16 which d)).around.scope []
    pipeline_sees rule.Parallel owners parameters_are locals_are =
        parallel_sees (program_layout ds entries) ds x (type_words ds x) p (parts_types (program_layout ds entries).shapes) (declared_once ds none short x p are) c16 refl which d (objects_by_number ds) owners (pipeline_names ds none short x p are as_table things locals own c16 refl entries which d rule.Parallel parameters_are locals_are)
    pipeline_sees rule.Sequential owners parameters_are locals_are =
        sequential_sees (program_layout ds entries) ds x (type_words ds x) p (parts_types (program_layout ds entries).shapes) (declared_once ds none short x p are) c16 refl which d (objects_by_number ds) owners (pipeline_names ds none short x p are as_table things locals own c16 refl entries which d rule.Sequential parameters_are locals_are)

    pub sums_see : owners_of which ≡ of_headers ∷ of_metadata ∷ [] → d.parameters ≡ checksum_parameters → d.locals ≡ locals → Sees (block_lowering (program_layout ds entries) (type_words ds x) (checksum_block (objects_by_number ds)) (control_world (around_control c16 which d))) (control_world (around_control c16 which d)).around.scope []
    sums_see owners parameters_are locals_are =
        checksum_sees (program_layout ds entries) ds x (type_words ds x) p (parts_types (program_layout ds entries).shapes) (declared_once ds none short x p are) c16 refl which d (objects_by_number ds) owners (checksum_names ds none short x p are as_table things locals own c16 refl entries which d parameters_are locals_are)
