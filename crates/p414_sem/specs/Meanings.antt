-- The meanings of a program by their names, each in one line: the definitions that they name say what they are.
use Rattle.std.specs.Prelude.{ℕ, Bool, List}
use Rattle.p414_syntax.specs.declared.syntax.Decl.{Decl}
use Rattle.p414_syntax.specs.declared.syntax.Rule14.{Rule14}
use Rattle.p414_syntax.specs.Tree.{Stmt}
use Rattle.p414_sem.specs.State.{State}
use Rattle.p414_sem.specs.Expanded.{Expanded, items_in_list}
use Rattle.p414_sem.specs.Calculations.{list_bits}
use Rattle.p414_sem.specs.Parsing.{Parse, parsed}
use Rattle.p414_sem.specs.Effects.{Moment, acted_by}
use Rattle.p414_sem.specs.Controls.{Setting, control_run}
use Rattle.p414_sem.specs.CalculatedFields.{fails_verification, updated}

-- how parsing of this state ends, and the state that it leaves
abbrev pub Parse14 : List Decl → State → Parse
Parse14 ds s = parsed ds s

-- what the action with this number, called with these arguments, leaves of a state and a store
abbrev pub Act14 : List Decl → Expanded → Rule14 → ℕ → List ℕ → Moment → Moment
Act14 ds x rule action arguments m = acted_by ds x rule action arguments m

-- the bits of the field list with this number
abbrev pub ListBits14 : List Decl → Expanded → ℕ → State → List Bool
ListBits14 ds x list s = list_bits ds s (items_in_list x list)

-- what a control that comes to this statement leaves of a state and a store
abbrev pub Control14 : Setting → Stmt → Moment → Moment
Control14 c body m = control_run c body m

-- p4_pe_checksum is raised
abbrev pub Verify14 : List Decl → Expanded → State → Bool
Verify14 ds x s = fails_verification ds x s

-- the state with its calculated fields updated
abbrev pub Update14 : List Decl → Expanded → State → State
Update14 ds x s = updated ds x s
