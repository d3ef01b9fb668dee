-- The variables of the blocks of a program, with their numbers among all variables and parameters of actions, which are counted
-- from 0 in the order of the text; and the names of a block with their seats (P4_16 1.2, "Name resolution", "Variable
-- declarations"; the numbers are this project's own).
use Rattle.std.specs.Prelude.{ℕ, suc, ◌+◌, Bool, false, if◌then◌else◌, List, [], ◌∷◌, ◌++◌, length, map, flat_map}
use Rattle.std.specs.Str.{bytes_eq}
use Rattle.p416_syntax.specs.declared.parts.Param.{Param}
use Rattle.p416_syntax.specs.declared.parsers.Var.{Var}
use Rattle.p416_syntax.specs.declared.parsers.State.{State}
use Rattle.p416_syntax.specs.declared.parsers.Parser16.{Parser16}
use Rattle.p416_syntax.specs.declared.controls.Action16.{Action16}
use Rattle.p416_syntax.specs.declared.controls.Local.{Local}
use Rattle.p416_syntax.specs.declared.controls.Local.TheVariants as local
use Rattle.p416_syntax.specs.declared.controls.Control16.{Control16}
use Rattle.p416_syntax.specs.declared.program.Decl16.{Decl16}
use Rattle.p416_syntax.specs.declared.program.Decl16.TheVariants as decl
use Rattle.p416_syntax.specs.declared.program.Syntax16.{Syntax16}
use Rattle.p416_syntax.specs.Names.{Name}
use Rattle.p416_syntax.specs.Scopes.{Scope}
use Rattle.p416_syntax.specs.Declarations.{parameter_name, parser_scope, control_scope}
use Rattle.p416_syntax.specs.Breaks.{scope_of}
use Rattle.v1_core.specs.declared.block.Block.{Block}
use Rattle.v1_core.specs.Surroundings.{Root, rooted}
use Rattle.v1_core.specs.Slots.{local_kinds, state_kinds, kinds_of}
use Rattle.v1_core.specs.Numbered.{Variable, InScope}
use Rattle.v1_core.specs.Parsing.{parser_owners}
use Rattle.v1_core.specs.Blocks.{owners_of}
use Rattle.v1_ready_forms.specs.Named.{NamedSeat, seats_in}

abbrev pub variable : Name → ℕ → Variable
variable called number = record { called = called; number = number }

-- one behind another, the first with this number: the variables of a parser, and the parameters of an action

abbrev pub vars_from : ℕ → List Var → List Variable
vars_from n [] = []
vars_from n (v ∷ vars) = variable v.name n ∷ vars_from (suc n) vars

abbrev pub parameters_from : ℕ → List Param → List Variable
parameters_from n [] = []
parameters_from n (p ∷ parameters) = variable p.name n ∷ parameters_from (suc n) parameters

-- The variables of a control. Between them the parameters of its actions are counted, and the variables of their statements.

abbrev pub own_variables : ℕ → Local → List Variable
own_variables n (local.Var v) = variable v.name n ∷ []
own_variables n _ = []

abbrev pub locals_from : Scope → ℕ → List Local → List Variable
locals_from s n [] = []
locals_from s n (x ∷ locals) = own_variables n x ++ locals_from s (n + length (local_kinds s x)) locals

-- the number of the first parameter of the action with this name
abbrev pub is_action : Name → Local → Bool
is_action text (local.Action a) = bytes_eq a.name text
is_action text _ = false

abbrev pub action_from : Scope → ℕ → List Local → Name → ℕ
action_from s n [] text = n
action_from s n (x ∷ locals) text =
    if is_action text x then n else action_from s (n + length (local_kinds s x)) locals text

-- the number of the first variable in the state with this name
abbrev pub state_from : Scope → ℕ → List State → Name → ℕ
state_from s n [] text = n
state_from s n (x ∷ states) text =
    if bytes_eq x.name text then n else state_from s (n + length (state_kinds s x)) states text

-- how many variables, and parameters of actions, are declared in front of the first declaration that passes a test

abbrev pub is_parser : Name → Decl16 → Bool
is_parser text (decl.Parser p) = bytes_eq p.name text
is_parser text _ = false

abbrev pub is_control : Name → Decl16 → Bool
is_control text (decl.Control c) = bytes_eq c.name text
is_control text _ = false

abbrev pub count_before : Syntax16 → (Decl16 → Bool) → List Decl16 → ℕ
count_before syntax test [] = 0
count_before syntax test (d ∷ ds) =
    if test d then 0 else length (kinds_of syntax d) + count_before syntax test ds

-- the blocks of a program, by their declarations

abbrev pub scope_in_parser : Syntax16 → Parser16 → Scope
scope_in_parser syntax p = parser_scope (scope_of syntax (decl.Parser p)) p

abbrev pub scope_in_control : Syntax16 → Control16 → Scope
scope_in_control syntax c = control_scope (scope_of syntax (decl.Control c)) c

-- the number of the first variable of a block
abbrev pub parser_from : Syntax16 → Parser16 → ℕ
parser_from syntax p = count_before syntax (is_parser p.name) syntax.decls

abbrev pub control_from : Syntax16 → Control16 → ℕ
control_from syntax c = count_before syntax (is_control c.name) syntax.decls

-- that of the first variable of the states of a parser, and of the statements of a control

abbrev pub states_from : Syntax16 → Parser16 → ℕ
states_from syntax p = parser_from syntax p + length p.vars

abbrev pub body_from : Syntax16 → Control16 → ℕ
body_from syntax c = control_from syntax c + length (flat_map (local_kinds (scope_in_control syntax c)) c.locals)

-- the variables of a block, where no statement runs
abbrev pub own_names : List Variable → InScope
own_names variables = record { variables = variables; inner = [] }

abbrev pub parser_variables : Syntax16 → Parser16 → List Variable
parser_variables syntax p = vars_from (parser_from syntax p) p.vars

abbrev pub control_variables : Syntax16 → Control16 → List Variable
control_variables syntax c = locals_from (scope_in_control syntax c) (control_from syntax c) c.locals

-- the parameters of a block
abbrev pub parser_roots : Parser16 → List Root
parser_roots p = rooted (map parameter_name p.parameters) parser_owners

abbrev pub control_roots : Block → Control16 → List Root
control_roots block c = rooted (map parameter_name c.parameters) (owners_of block)

-- the names of a block with their seats

abbrev pub parser_seats : Syntax16 → Parser16 → List NamedSeat
parser_seats syntax p = seats_in syntax (parser_roots p) (own_names (parser_variables syntax p))

abbrev pub control_seats : Syntax16 → Block → Control16 → List NamedSeat
control_seats syntax block c = seats_in syntax (control_roots block c) (own_names (control_variables syntax c))

-- the number of the first parameter of an action of a control, by its name
abbrev pub action_in_control : Syntax16 → Control16 → Name → ℕ
action_in_control syntax c text = action_from (scope_in_control syntax c) (control_from syntax c) c.locals text

-- the block's variables, with the parameters of this action inside
abbrev pub action_names : Syntax16 → Control16 → Action16 → InScope
action_names syntax c a = record {
  variables = control_variables syntax c;
  inner = parameters_from (action_in_control syntax c a.name) a.parameters;
}
