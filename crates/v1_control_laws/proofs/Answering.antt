-- The laws.
use Rattle.std.proofs.Common.{◌+◌, length, refl}
use Rattle.v1_core.specs.Slots.{kinds_in}
use Rattle.v1_block_laws.specs.Variables.{body_from, scope_in_control, control_seats}
use Rattle.v1_control_laws.specs.Controls.{Waiting}
use Rattle.v1_control_laws.proofs.Concluding.{controls_show}
use Rattle.v1_control_laws.specs.TableLaws.{TablesTell, TablesApplied, ControlsRun, RulesTellNone, ControlTablesApply, ControlTablesFilled}
use Rattle.v1_control_laws.proofs.Asking.{tests_tell}
use Rattle.v1_control_laws.proofs.Named.{tables_named_so}
use Rattle.v1_control_laws.proofs.Applying.{table_shows}
use Rattle.v1_ready_statements.specs.Blocks as ready
use Rattle.v1_control_laws.proofs.Choosing.{parts_are}
use Rattle.v1_control_laws.proofs.Signed.{table_filled}
use Rattle.v1_control_laws.proofs.Untold.{told}
use Rattle.v1_control_laws.proofs.Counting.{table_keeps}
use Rattle.v1_control_laws.proofs.Tabled.{tables_do}

pub tables_tell : TablesTell
tables_tell o b w z s who accepted layouts seated fine all = tests_tell (Waiting b.syntax o) b w z s who accepted layouts seated fine all (tables_named_so b.syntax.decls s layouts)

pub tables_applied : TablesApplied
tables_applied o S actions vars w z parameters who text t r fill accepted layouts seated declared around slots_are variables all at is fits filled =
    table_shows (Waiting S.setting.syntax o) S actions vars accepted layouts seated declared w z w.act around refl parameters slots_are who variables all text t r fill at is fits filled

pub control_tables_apply : ControlTablesApply
control_tables_apply c place k r fill accepted stands is fit o actions =
    let from = body_from c.syntax k in
    tables_do c place k accepted stands r is fill fit o from (from + length (kinds_in (scope_in_control c.syntax k) k.body)) actions

pub control_tables_filled : ControlTablesFilled
control_tables_filled c place k fill accepted stands tables fills fits text t r called is =
    let parts = parts_are (ready.around_control c.syntax k) (scope_in_control c.syntax k) (control_seats c.syntax place k) t r is in
    let filled = table_filled c place k accepted stands text t called fill tables fills fits r parts.number in
    let keeps = table_keeps c place k accepted stands text t called in
    (record { keys = keeps.keys; calls = keeps.calls; default = keeps.default; fill = filled.0 }, filled.1)

pub rules_tell_none : RulesTellNone
rules_tell_none s p e part positions there known typed placed = told s part positions e p there (record { known = known; typed = typed; placed = placed })

pub controls_run : ControlsRun
controls_run c place k r fill accepted stands is tables fills fits action_leaves leaves initials m j h waits runs =
    controls_show c place k r fill accepted stands is action_leaves leaves
    (λ actions o. control_tables_apply c place k r fill accepted stands is (control_tables_filled c place k fill accepted stands tables fills fits) o (actions o))
    initials m j h waits runs
