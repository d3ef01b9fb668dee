-- What holds of the types and of the parser that are written for a program that breaks no rule (this project's own;
-- P4_14 1.0.5, "Header Type Declarations", "Parser Specification"; P4_16 1.2, "Derived types", "Packet parsing").
use Rattle.std.specs.Prelude.{List}
use Rattle.state_store.specs.declared.shapes.Shape.{Shape}
use Rattle.p414_syntax.specs.declared.syntax.Decl.{Decl}
use Rattle.p414_sem.specs.Expanded.{Expanded, IsExpanded}
use Rattle.p416_syntax.specs.declared.program.Decl16.{Decl16}
use Rattle.v1_core.specs.Surroundings.{Setting}
use Rattle.lower_laws_names.specs.Objects.{top_decls}
use Rattle.lower_laws_base.specs.Context.{StateLayout}
use Rattle.lower_laws_states.specs.Laws.{BreaksNo}
use Rattle.lower_laws_program.specs.Fits.{ParserFits}
use Rattle.lower_laws_program.specs.TypesFit.{TypeWords, TypesFit}
use Rattle.lower_laws_declared.specs.Layout.{layout_shaped, type_words, IsShort}
use Rattle.lower_laws_declared.specs.Parser.{parser_written}

-- The types that are written say of each instance and field what the program does.
abbrev pub TypesStand : Type 0
TypesStand =
    (ds : List Decl) (x : Expanded) → BreaksNo ds → IsExpanded ds x → IsShort ds →
    (shapes : List Shape) → TypesFit (layout_shaped ds shapes) ds x (type_words ds x) (top_decls ds x)

-- The parser that is written begins as it is asked to, under names that differ.
abbrev pub ParsersFit : Type 0
ParsersFit =
    (ds : List Decl) → BreaksNo ds → IsShort ds →
    (g : StateLayout) (x : Expanded) (t : TypeWords) (types : List Decl16) → TypesFit g ds x t types → (c16 : Setting) → ParserFits g ds t c16 (parser_written g ds)
