-- What a control declares, how it stands in a program, and the parts of a ready one.
use Rattle.std.specs.Prelude.{◌≡◌, ℕ, ◌<◌, List, length, map, filter_map, All}
use Rattle.p416_syntax.specs.declared.controls.Local.{Local}
use Rattle.p416_syntax.specs.declared.controls.Control16.{Control16}
use Rattle.p416_syntax.specs.Declarations.{action_in, table_in}
use Rattle.p416_scopes.specs.Seen.{seen_scope}
use Rattle.p416_signature.specs.internal.Gathered.{objects_seen}
use Rattle.v1_core.specs.declared.block.Block.{Block as BlockName}
use Rattle.v1_core.specs.Signatures.{own_object, key_scope}
use Rattle.v1_core.specs.Blocks.{var_in}
use Rattle.v1_core.specs.Layouts.{Layout}
use Rattle.v1_block_laws.specs.Variables.{scope_in_control, control_from, body_from, control_seats}
use Rattle.v1_ready_program.specs.Seen.{seen_seats}
use Rattle.v1_ready_blocks.specs.Nodes.{statement_at}
use Rattle.v1_ready_blocks.specs.Blocks.{Block}
use Rattle.v1_ready_statements.specs.Around.{action_places}
use Rattle.v1_block_seats.specs.declared.numbers.Variable.{Variable}
use Rattle.v1_block_run.specs.Blocks.{seen_parameters}
use Rattle.v1_ready_nodes.specs.Held.{Held, trees_in}
use Rattle.v1_ready_operands.specs.Callees.{seen_action, action_name, table_name}
use Rattle.v1_ready_tables.specs.Seen.{seen_tables, IsTableIn}
use Rattle.v1_ready_controls.specs.declared.program.ProgramParts.{ProgramParts}
use Rattle.v1_ready_controls.specs.declared.declared.Declared.{Declared}
use Rattle.v1_ready_controls.specs.declared.control.Control.{Control}
use Rattle.v1_ready_controls.specs.declared.whole.Parts.{Parts}
use Rattle.v1_ready_locals.specs.Seen.{seen_bodies, IsActionIn}
use Rattle.v1_ready_locals.specs.Owned.{seen_own, owned}
use Rattle.v1_ready_locals.specs.internal.Zipped.{number_in, zip_actions, zip_variables}

-- these are the declarations of a control whose variables and actions have these numbers
pub record AreDeclared (vs : List Variable) (ns : List ℕ) (locals : List Local) (d : Declared) : Type 0 where
  pub variables : map seen_own d.variables.items ≡ zip_variables (map number_in vs) (filter_map var_in locals)
  pub actions : map seen_action d.actions.items ≡ zip_actions ns (filter_map action_in locals)
  pub action_names : d.action_names ≡ map action_name (map seen_action d.actions.items)
  pub tables : map (λ t. t.now) d.tables.items ≡ filter_map table_in locals
  pub table_names : d.table_names ≡ map table_name (map (λ t. t.now) d.tables.items)
  pub objects : objects_seen d.objects ≡ filter_map own_object locals

-- this is the control that stands in a program as a block
pub record IsControl (p : ProgramParts) (block : BlockName) (c : Control16) (x : Control) : Type 0 where
  pub scope : seen_scope x.scope ≡ scope_in_control p.syntax.now c
  pub scope_top : x.scope.top ≡ p.top
  pub keys : seen_scope x.keys ≡ key_scope (scope_in_control p.syntax.now c)
  pub keys_top : x.keys.top ≡ p.top
  pub seats : seen_seats x.seats ≡ control_seats p.syntax.now block c
  pub variables : map seen_own x.own.variables.items ≡ owned (scope_in_control p.syntax.now c) (control_from p.syntax.now c) c.locals
  pub actions : map seen_action x.own.actions.items ≡ action_places (scope_in_control p.syntax.now c) (control_from p.syntax.now c) c.locals
  pub action_names : x.own.action_names ≡ map action_name (map seen_action x.own.actions.items)
  pub tables : map (λ t. t.now) x.own.tables.items ≡ filter_map table_in c.locals
  pub table_names : x.own.table_names ≡ map table_name (map (λ t. t.now) x.own.tables.items)
  pub objects : objects_seen x.own.objects ≡ filter_map own_object c.locals
  pub body : x.body ≡ body_from p.syntax.now c

-- the parts of a ready control

abbrev pub seen_parts : Held → Parts → Block
seen_parts h p = record {
  bodies = seen_bodies h p.actions;
  parameters = map seen_parameters p.actions;
  tables = seen_tables h p.tables;
  body = statement_at (trees_in h) p.body;
}

pub record ArePartsIn (l : Layout) (h : Held) (p : Parts) : Type 0 where
  pub actions : All (IsActionIn l h) p.actions
  pub tables : All (IsTableIn h) p.tables
  pub body : p.body < length (trees_in h)
