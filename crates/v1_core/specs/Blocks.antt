-- The blocks that are controls: what their actions and tables do, their variables, and their statements (P4_16 1.2, "Control
-- blocks", "Actions", "Variable declarations"; `v1model.p4`, `V1Switch`). A block's parameters are the packet's headers, its
-- metadata and its standard metadata themselves. That can't be told from copying them in and out, since no two of them are
-- one. The packet itself, a parameter of the deparser, is no value.
use Rattle.std.specs.Prelude.{ℕ, zero, suc, if◌then◌else◌, List, [], ◌∷◌, length, map, filter_map, fold, slice_index_or, Option, Some, None}
use Rattle.std.specs.Str.{bytes_eq}
use Rattle.p416_syntax.specs.declared.parsers.Var.{Var}
use Rattle.p416_syntax.specs.declared.controls.Action16.{Action16}
use Rattle.p416_syntax.specs.declared.controls.Local.{Local}
use Rattle.p416_syntax.specs.declared.controls.Local.TheVariants as local
use Rattle.p416_syntax.specs.declared.controls.Control16.{Control16}
use Rattle.p416_syntax.specs.declared.program.Decl16.{Decl16}
use Rattle.p416_syntax.specs.declared.program.Decl16.TheVariants as decl
use Rattle.p416_syntax.specs.declared.program.Syntax16.{Syntax16}
use Rattle.p416_syntax.specs.Tree.{Exp16}
use Rattle.p416_syntax.specs.Names.{Name}
use Rattle.p416_syntax.specs.Scopes.{Scope, kind_of_type}
use Rattle.p416_syntax.specs.Calls.{value, verify_position, ingress_position, egress_position, compute_position, deparser_position}
use Rattle.p416_syntax.specs.Declarations.{parameter_name, action_scope, action_in, control_scope}
use Rattle.p416_syntax.specs.Breaks.{scope_of}
use Rattle.v1_core.specs.declared.block.Block.{Block}
use Rattle.v1_core.specs.declared.block.Block.TheVariants.{Verify, Ingress, Egress, Compute, Deparse}
use Rattle.v1_core.specs.Values.{Value, a_member, no_members, to_member}
use Rattle.v1_core.specs.Frames.{Moment, ticked, is_stopped, going_on, Owner, of_headers, of_metadata, of_standard, of_variables, of_nothing, whole, stepped, put_at, closed}
use Rattle.v1_core.specs.Surroundings.{Setting, rooted, Surroundings, World, no_table_applies}
use Rattle.v1_core.specs.Expressions.{Valued, value_of}
use Rattle.v1_core.specs.Statements.{starts, no_label, run}
use Rattle.v1_core.specs.Tables.{applied}

-- actions

-- The body of an action, where calls of actions nest so deep at most. No action calls itself through others, so a chain
-- of calls has each action once at most, and is no longer than the number of actions. No action applies a table.
abbrev pub act_at : Surroundings → ℕ → Action16 → Moment → Moment
act_at b zero a m = m
act_at b (suc calls) a m =
    closed m
    (run (record { around = b; act = act_at b calls; apply = no_table_applies }) (action_scope b.scope a) no_label a.body m)

-- an action of the block, with its arguments in the variables
abbrev pub act : Surroundings → Action16 → Moment → Moment
act b a m = act_at b (length (filter_map action_in b.locals)) a m

-- what stands around the statements of a control
abbrev pub control_world : Surroundings → World
control_world b = record { around = b; act = act b; apply = applied b (act b) }

-- variables of a block: all start at 0, and then the initial values are evaluated in order, each of which counts one

abbrev pub variables_of : Scope → List Var → Value
variables_of s [] = no_members
variables_of s (v ∷ vars) = a_member v.name (starts s v.of) (variables_of s vars)

abbrev pub with_variables : Value → Moment → Moment
with_variables v m = record m { frame = record m.frame { variables = v; inner = no_members } }

abbrev pub with_value : Name → Valued → Moment
with_value called x = going_on (put_at (stepped (whole of_variables) (to_member called)) x.value) x.moment

abbrev pub with_initial : World → Moment → Var → Moment
with_initial w m v = by_initial v.initial where
  by_initial : Option Exp16 → Moment
  by_initial None = m
  by_initial (Some e) =
      if is_stopped m then m
      else
      with_value v.name
      (value_of w w.around.scope (value (kind_of_type w.around.scope.names v.of)) e (ticked m))

abbrev pub begun : World → List Var → Moment → Moment
begun w vars m = fold (with_initial w) (with_variables (variables_of w.around.scope vars) m) vars

-- the variables of a block end with it
abbrev pub ended : Moment → Moment
ended m = with_variables no_members m

-- controls

-- what the parameters of a block name, in order
abbrev pub owners_of : Block → List Owner
owners_of Verify = of_headers ∷ of_metadata ∷ []
owners_of Ingress = of_headers ∷ of_metadata ∷ of_standard ∷ []
owners_of Egress = of_headers ∷ of_metadata ∷ of_standard ∷ []
owners_of Compute = of_headers ∷ of_metadata ∷ []
owners_of Deparse = of_nothing ∷ of_headers ∷ []

-- the place in `main`
abbrev pub position_of : Block → ℕ
position_of Verify = verify_position
position_of Ingress = ingress_position
position_of Egress = egress_position
position_of Compute = compute_position
position_of Deparse = deparser_position

abbrev pub control_called : List Decl16 → Name → Option Control16
control_called [] text = None
control_called (decl.Control c ∷ ds) text = if bytes_eq c.name text then Some c else control_called ds text
control_called (d ∷ ds) text = control_called ds text

-- the control that stands there
abbrev pub control_at : Syntax16 → Block → Option Control16
control_at syntax block = control_called syntax.decls (slice_index_or syntax.main (position_of block) [])

abbrev pub around_control : Setting → Block → Control16 → Surroundings
around_control c block control = record {
  setting = c;
  scope = control_scope (scope_of c.syntax (decl.Control control)) control;
  roots = rooted (map parameter_name control.parameters) (owners_of block);
  locals = control.locals;
}

abbrev pub var_in : Local → Option Var
var_in (local.Var v) = Some v
var_in _ = None

-- the variables of a control, and then its statements
abbrev pub run_control : World → Control16 → Moment → Moment
run_control w control m =
    ended (run w w.around.scope no_label control.body (begun w (filter_map var_in control.locals) m))

abbrev pub run_block : Setting → Block → Option Control16 → Moment → Moment
run_block c block None m = m
run_block c block (Some control) m = run_control (control_world (around_control c block control)) control m

-- what a block that is a control leaves
unfoldable pub control16 : Setting → Block → Moment → Moment
control16 c block m = run_block c block (control_at c.syntax block) m
