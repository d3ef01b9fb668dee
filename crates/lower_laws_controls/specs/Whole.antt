-- What is asked of a control, and of the block that it stands for, as they are written (this project's own; P4_14
-- 1.0.5, "Packet Processing and Control Flow"; P4_16 1.2, "Control blocks"; `v1model.p4`, `Ingress`, `Egress`).
use Rattle.std.specs.Prelude.{Bool, Some, [], filter_map, ◌≡◌}
use Rattle.p414_syntax.specs.declared.tables.Table.{Table}
use Rattle.p414_syntax.specs.Tree.{Stmt}
use Rattle.p414_syntax.specs.Names.{Name}
use Rattle.p414_sem.specs.Signatures.{table_of}
use Rattle.p414_sem.specs.Controls.{Setting as Setting14}
use Rattle.p416_syntax.specs.declared.controls.Control16.{Control16}
use Rattle.p416_syntax.specs.declared.controls.Table16.{Table16}
use Rattle.p416_syntax.specs.Kinds.{table}
use Rattle.p416_syntax.specs.Scopes.{Scope, sort_of}
use Rattle.p416_syntax.specs.Expressions.{sort_kind}
use Rattle.v1_core.specs.declared.block.Block.{Block}
use Rattle.v1_core.specs.Frames.{Owner, of_standard}
use Rattle.v1_core.specs.Surroundings.{Setting, Surroundings, table_named}
use Rattle.v1_core.specs.Blocks.{act, around_control, control_at, control_world, var_in}
use Rattle.lower_laws_base.specs.Context.{HasRoot, Lowering, Sees, StateLayout, words_of}
use Rattle.lower_laws_controls.specs.Controls.{Plan, block, control_stmt}
use Rattle.lower_laws_controls.specs.Alike.{StatementFits}
use Rattle.lower_laws_controls.specs.Tables.{TableAlike}
use Rattle.lower_laws_controls.specs.Guards.{guarded_stmt}
use Rattle.lower_laws_controls.specs.Blocks.{Inside, VariablesAre}

-- A table that statements apply: both programs declare it, under its names, and the two are alike.
pub record TableFound (c : Lowering) (s : Scope) (d : Setting14) (b : Surroundings) (k : Plan) (name : Name) : Type 0 where
  pub t : Table
  pub u : Table16
  pub declared14 : table_of d.decls name ≡ Some t
  pub declared16 : table_named b (k.table name) ≡ Some u
  pub sort : sort_kind (sort_of s (k.table name)) ≡ table
  pub copies : (a e text : Name) → k.copy name a ≡ Some text → k.copy name e ≡ Some text → a ≡ e
  pub alike : TableAlike c.layout d b (act b) (k.copy name) t u

-- What stands for a control of P4_14: its statements under the guard, with variables of structs. Moments before and behind it
-- are measured by a layout without these.
pub record ControlIs (g : StateLayout) (c : Lowering) (d : Setting14) (b : Surroundings) (k : Plan) (checks : Bool) (body : Stmt) (control : Control16) : Type 0 where
  pub world : c.world ≡ control_world b
  pub parameters : c.parameters ≡ []
  pub inside : Inside g c.layout
  pub all : (o : Owner) → HasRoot g o → HasRoot c.layout o
  pub standard : HasRoot c.layout of_standard
  pub variables : VariablesAre b.scope (filter_map var_in control.locals) c.layout.variables
  pub body_is : control.body ≡ guarded_stmt (words_of c) checks (control_stmt (words_of c) d.decls k block body)
  pub sees : Sees c b.scope []
  pub fits : StatementFits c.layout d.decls (TableFound c b.scope d b k) block body

-- the block of the program at this place has such a control
pub record BlockIs (g : StateLayout) (d : Setting14) (setting : Setting) (which : Block) (checks : Bool) (body : Stmt) : Type 0 where
  pub control : Control16
  pub at : control_at setting.syntax which ≡ Some control
  pub lowering : Lowering
  pub plan : Plan
  pub is : ControlIs g lowering d (around_control setting which control) plan checks body control
