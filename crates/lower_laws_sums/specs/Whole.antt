-- What is asked of the block that verifies, and of the one that updates, as they are written (this project's own; P4_14
-- 1.0.5, "Checksums and Hash-value Generators"; P4_16 1.2, "Control blocks"; `v1model.p4`, `VerifyChecksum`,
-- `ComputeChecksum`).
use Rattle.std.specs.Prelude.{Bool, List, Some, [], filter_map, ◌≡◌}
use Rattle.p414_syntax.specs.declared.syntax.Decl.{Decl}
use Rattle.p414_syntax.specs.Lists.{calculated_fields}
use Rattle.p414_sem.specs.Expanded.{Expanded}
use Rattle.p416_syntax.specs.declared.controls.Control16.{Control16}
use Rattle.v1_core.specs.declared.block.Block.{Block}
use Rattle.v1_core.specs.Surroundings.{Setting}
use Rattle.v1_core.specs.Blocks.{around_control, control_at, control_world, var_in}
use Rattle.lower_laws_base.specs.Context.{Lowering, Sees, StateLayout, words_of}
use Rattle.lower_laws_controls.specs.Blocks.{Inside, VariablesAre}
use Rattle.lower_laws_controls.specs.Listing.{Each}
use Rattle.lower_laws_sums.specs.Sums.{FieldFits, sums_stmt}

-- what stands for the calculated fields of a program: one statement list, which verifies or updates
pub record SumsAre (g : StateLayout) (ds : List Decl) (x : Expanded) (setting : Setting) (which : Block) (updates : Bool) : Type 0 where
  pub control : Control16
  pub at : control_at setting.syntax which ≡ Some control
  pub lowering : Lowering
  pub world : lowering.world ≡ control_world (around_control setting which control)
  pub parameters : lowering.parameters ≡ []
  pub inside : Inside g lowering.layout
  pub variables : VariablesAre (around_control setting which control).scope (filter_map var_in control.locals) lowering.layout.variables
  pub body_is : control.body ≡ sums_stmt (words_of lowering) ds x updates
  pub sees : Sees lowering (around_control setting which control).scope []
  pub fits : Each (FieldFits lowering.layout ds x) (calculated_fields ds)
