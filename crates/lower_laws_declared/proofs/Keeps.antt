-- Of an accepted program the text keeps the rules on declarations (C1, C2, C7, C23).
use Rattle.std.proofs.Common.{◌≡◌, Bool, List, [], ◌∙◌}
use Rattle.std.specs.Prelude.{flat_map}
use Rattle.p414_syntax.specs.declared.syntax.Decl.{Decl}
use Rattle.p414_syntax.specs.Names.{Name}
use Rattle.p414_sem.specs.Expanded.{Expanded, IsExpanded}
use Rattle.p416_syntax.specs.declared.controls.Table16.{Table16}
use Rattle.p416_syntax.specs.Totals.{cells_in}
use Rattle.v1_core.specs.Frames.{of_headers, of_metadata}
use Rattle.lower_laws_states.specs.Laws.{BreaksNo}
use Rattle.lower_laws_program.specs.Program.{Parts, blocks_of, syntax_of, root_struct, parser_parameters}
use Rattle.lower_laws_declared.specs.Layout.{IsShort}
use Rattle.lower_laws_declared.specs.Controls.{PartsAre, TablesAre}
use Rattle.lower_laws_declared.specs.Rules.{TextKeeps}
use Rattle.lower_laws_declared.proofs.Numbers.{declared_once}
use Rattle.lower_laws_declared.proofs.Rules.{objects_once, tables_once}
use Rattle.lower_laws_declared.proofs.Cells.{cells_fit, all_cells_fit}
use Rattle.lower_laws_declared.proofs.Totals.{fields_few}
use Rattle.lower_laws_declared.proofs.Octets.{octets_few}
use Rattle.lower_laws_declared.proofs.Ordered.{parts_ordered}

pub text_keeps : (ds : List Decl) → BreaksNo ds → IsShort ds → (x : Expanded) → IsExpanded ds x → (p : Parts) → PartsAre ds x p → p.parser.parameters ≡ parser_parameters → flat_map cells_in (blocks_of p) ≡ [] → (in_ingress : Name → Bool) (as_table : Name → Table16) → TablesAre ds in_ingress as_table p → TextKeeps (syntax_of p) (root_struct of_headers) (root_struct of_metadata)
text_keeps ds none short x expanded p are parameters empty in_ingress as_table own = record {
  names = declared_once ds none short x p are;
  ordered = parts_ordered ds none x p are;
  tables = tables_once ds none x p are in_ingress as_table own;
  objects = objects_once ds none x p are in_ingress as_table own;
  fields = fields_few ds none short x expanded p are parameters;
  octets = octets_few ds none short x expanded p are parameters;
  cells = cells_fit ds none x p are empty;
  all_cells = all_cells_fit ds none x p are empty;
}
