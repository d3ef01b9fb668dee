-- What a ready program is made of.
use Rattle.std.specs.Prelude.{◌≡◌, List}
use Rattle.p414_act_run.specs.declared.calculations.Calculations.{Calculations}
use Rattle.p414_act_run.specs.Sums.{sums_in}
use Rattle.p414_calculated_fields.specs.declared.rows.CalculatedRow.{CalculatedRow}
use Rattle.p414_calculated_fields.specs.Meaning.{MeansFields}
use Rattle.p414_field_lists.specs.declared.rows.ItemRow.{ItemRow}
use Rattle.p414_field_lists.specs.Meaning.{AreReady}
use Rattle.p414_layout.specs.declared.shape.Shape.{Shape}
use Rattle.p414_layout.specs.Shapes.{layout_of}
use Rattle.p414_parse_run.specs.Fits.{FitsParser}
use Rattle.p414_passes.specs.Leaving.{AreWhole}
use Rattle.p414_ready_actions.specs.Meaning.{AreSums}
use Rattle.p414_ready_parser.specs.declared.parser.ReadyParser.{ReadyParser}
use Rattle.p414_ready_parser.specs.Meaning.{Means}
use Rattle.p414_sem.specs.Expanded.{Expanded, IsExpanded}
use Rattle.p414_pipe_run.specs.Prepared.{Prepared, comes_to}

pub record AreParts (p : Prepared) (parser : ReadyParser) (layout : List Shape) (lists : List (List ItemRow)) (fields : List CalculatedRow) (calculations : Calculations) : Type 0 where
  pub means : Means p.loaded.decls parser
  pub fits : FitsParser (layout_of p.loaded.decls) parser
  pub laid : layout ≡ layout_of p.loaded.decls
  pub whole : AreWhole layout
  pub ready : AreReady p.loaded.decls lists
  pub calculated : MeansFields p.loaded.decls fields
  pub sums : (x : Expanded) → IsExpanded p.loaded.decls x → AreSums p.loaded.decls x (sums_in calculations)
  pub expanded : IsExpanded p.loaded.decls (comes_to p)
