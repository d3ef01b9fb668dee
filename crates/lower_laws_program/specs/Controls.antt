-- The controls as they are put together: parameters under fixed names, the three variables of the parallel rule, and
-- then actions and tables, whose names hide nothing that statements see (this project's own; P4_14 1.0.5, "Actions";
-- P4_16 1.2, "Control blocks", "Variable declarations", "Name resolution").
use Rattle.std.specs.Prelude.{◌≡◌, ℕ, ◌<◌, ◌≤◌, Bool, true, false, List, [], ◌∷◌, ◌++◌, length, map, None}
use Rattle.std.specs.List.{AllByRecursion}
use Rattle.state_store.specs.State.{shape_at}
use Rattle.p414_syntax.specs.declared.syntax.Rule14.{Rule14}
use Rattle.p414_syntax.specs.declared.syntax.Rule14.TheVariants as rule
use Rattle.p416_syntax.specs.declared.parts.Param.{Param}
use Rattle.p416_syntax.specs.declared.controls.Local.{Local}
use Rattle.p416_syntax.specs.declared.controls.Local.TheVariants as local
use Rattle.p416_syntax.specs.declared.controls.Control16.{Control16}
use Rattle.p416_syntax.specs.Tree.{name}
use Rattle.p416_syntax.specs.BuiltIn.{functions}
use Rattle.p416_syntax.specs.Scopes.{Known, known_parameter}
use Rattle.p416_syntax.specs.Declarations.{known_local, top_names}
use Rattle.v1_core.specs.Frames.{Owner, of_headers, of_metadata, of_standard}
use Rattle.v1_core.specs.Surroundings.{World}
use Rattle.v1_core.specs.Calls.{object_in}
use Rattle.lower_laws_base.specs.Context.{StateLayout, ObjectName, object_at, IsShapeOf}
use Rattle.lower_laws_program.specs.Program.{root_struct, named_type, Parts, decls_of}
use Rattle.lower_laws_program.specs.Scopes.{BlockWords, enumerations, IsClear, IsDeclared}
use Rattle.lower_laws_program.specs.Fits.{old_name, nothing_copied, nothing_spare}

-- the variable that holds the copy of a parameter
abbrev pub old_var : Owner → Local
old_var o = local.Var (record { of = named_type (root_struct o); name = old_name o; initial = None })

-- the three variables, which only the parallel rule has
abbrev pub old_locals : Rule14 → List Local
old_locals rule.Sequential = []
old_locals rule.Parallel = old_var of_headers ∷ old_var of_metadata ∷ old_var of_standard ∷ []

-- the parameters of the blocks that verify and update: all but standard metadata
abbrev pub no_standard : Owner → Bool
no_standard of_headers = true
no_standard of_metadata = true
no_standard _ = false

-- each parameter of a block, whichever it is
abbrev pub yes : Owner → Bool
yes o = true

-- what is told of the blocks that verify and update
abbrev pub checksum_block : List ObjectName → BlockWords
checksum_block objects = record {
  has = no_standard;
  variables = [];
  copy = nothing_copied;
  objects = objects;
  spare = nothing_spare;
  parameters = [];
  can_write = yes;
  packet = None;
}

-- what a control declares behind its parameters and these variables
abbrev pub near_of : List Known → List Param → List Local → List Local → List Known
near_of tops parameters old locals = map (known_parameter tops) parameters ++ map (known_local tops) (old ++ locals)

-- Parameters and variables as they are put together; what the control declares behind them hides no built-in name and
-- no object, and objects have their numbers and shapes.
pub record ControlNames (g : StateLayout) (p : Parts) (parameters : List Param) (old : List Local) (objects : List ObjectName) (w : World) (d : Control16) : Type 0 where
  pub locals : List Local
  pub parameters_are : d.parameters ≡ parameters
  pub locals_are : d.locals ≡ old ++ locals
  pub functions_free : AllByRecursion (IsClear (map (known_local (top_names (decls_of p))) locals)) functions
  pub enumerations_free : AllByRecursion (IsClear (map (known_local (top_names (decls_of p))) locals)) enumerations
  pub objects_there : (j : ℕ) → j < length objects → IsDeclared p (near_of (top_names (decls_of p)) parameters old locals) (object_at objects j)
  pub numbered : (j : ℕ) → j < length objects → object_in w (name (object_at objects j).called) ≡ j
  pub stored : length objects ≤ length g.shapes
  pub shape : (j : ℕ) → j < length objects → IsShapeOf (object_at objects j) (shape_at g.shapes j)
