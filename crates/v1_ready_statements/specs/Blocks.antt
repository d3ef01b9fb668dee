-- Which ready block a control is: its actions, its tables, its variables and its statements (P4_16 1.2, "Control blocks",
-- "Actions", "Tables", "Variable declarations"; `v1model.p4`).
use Rattle.std.specs.Prelude.{ℕ, suc, ◌+◌, List, [], ◌∷◌, ◌++◌, length, map, filter_map, Option, Some, None, option_map, option_and_then}
use Rattle.std.specs.Option.{option_map_or}
use Rattle.p416_syntax.specs.declared.parts.Param.{Param}
use Rattle.p416_syntax.specs.declared.parsers.Var.{Var}
use Rattle.p416_syntax.specs.declared.controls.TableKey.{TableKey}
use Rattle.p416_syntax.specs.declared.controls.Table16.{Table16}
use Rattle.p416_syntax.specs.declared.controls.Local.{Local}
use Rattle.p416_syntax.specs.declared.controls.Local.TheVariants as local
use Rattle.p416_syntax.specs.declared.controls.Control16.{Control16}
use Rattle.p416_syntax.specs.declared.program.Syntax16.{Syntax16}
use Rattle.p416_syntax.specs.Properties.{keys_of, default_action_of}
use Rattle.p416_syntax.specs.Tree.{Exp16}
use Rattle.p416_syntax.specs.Names.{Name}
use Rattle.p416_syntax.specs.Scopes.{Scope, kind_of_type}
use Rattle.p416_syntax.specs.Calls.{table_key}
use Rattle.p416_syntax.specs.Declarations.{is_exact, action_scope, table_in}
use Rattle.v1_core.specs.declared.block.Block.{Block as BlockName}
use Rattle.v1_core.specs.Slots.{local_kinds}
use Rattle.v1_core.specs.Signatures.{planes_of, key_scope, table_sig, table_number}
use Rattle.v1_core.specs.Tables.{name_of_number, own_default}
use Rattle.v1_core.specs.Tables as meaning
use Rattle.v1_core.specs.Ready.{Ready}
use Rattle.v1_ready_forms.specs.Named.{NamedSeat}
use Rattle.v1_ready_forms.specs.Expressions.{ready_of_exp}
use Rattle.v1_ready_blocks.specs.Tables.{Chosen, Table}
use Rattle.v1_ready_blocks.specs.Statements.{Statement, sequence}
use Rattle.v1_ready_blocks.specs.Blocks.{Block}
use Rattle.v1_block_laws.specs.Variables.{scope_in_control, control_from, body_from, control_seats}
use Rattle.v1_ready_statements.specs.Around.{ActionPlace, action_places, Around, Found, action_found, variable_seat, declared_seat, slot_of_seat}
use Rattle.v1_ready_statements.specs.Given.{cons_option}
use Rattle.v1_ready_statements.specs.Statements.{start_ready, initial_ready, ready_of_statement}

abbrev pub all_of : {A B : Type 0} → (A → Option B) → List A → Option (List B)
all_of f [] = Some []
all_of f (x ∷ xs) = cons_option (f x) (all_of f xs)

-- actions

-- the parameters of an action inside other names, of which the first has this number
abbrev pub parameter_seats : Around → ℕ → List Param → List NamedSeat → List NamedSeat
parameter_seats b n [] seats = seats
parameter_seats b n (p ∷ parameters) seats = declared_seat b p.name n (parameter_seats b (suc n) parameters seats)

abbrev pub body_ready : Around → Scope → List NamedSeat → ActionPlace → Option Statement
body_ready b s seats a =
    ready_of_statement b (action_scope s a.of) (parameter_seats b a.first a.of.parameters seats)
    (a.first + length a.of.parameters) a.of.body

-- the slots of parameters, for the tables that run the action: none where one has no single value
abbrev pub slots_from : Around → ℕ → List Param → Option (List ℕ)
slots_from b n [] = Some []
slots_from b n (p ∷ parameters) = cons_option (slot_of_seat (variable_seat b n)) (slots_from b (suc n) parameters)

abbrev pub parameter_slots : Around → ActionPlace → List ℕ
parameter_slots b a = option_map_or (λ slots. slots) (slots_from b a.first a.of.parameters) []

-- tables

abbrev pub key_ready : Scope → List NamedSeat → TableKey → Option Ready
key_ready s seats k = ready_of_exp (key_scope s) seats (table_key (is_exact k)) k.exp

abbrev pub number_in : Found → ℕ
number_in f = f.number

-- the number in the block of the action that has a number among those of a table
abbrev pub action_number : Around → Scope → Table16 → ℕ → Option ℕ
action_number b s t number = option_map number_in (action_found b (name_of_number s t number))

abbrev pub action_numbers : Around → Scope → Table16 → ℕ → List Name → Option (List ℕ)
action_numbers b s t n [] = Some []
action_numbers b s t n (plane ∷ planes) = cons_option (action_number b s t n) (action_numbers b s t (suc n) planes)

abbrev pub chosen_ready : Around → meaning.Chosen → Option Chosen
chosen_ready b k =
    option_map (λ (f : Found). record { action = f.number; number = k.number; arguments = k.arguments }) (action_found b k.called)

-- the table's own default, where it has one that runs an action: none of these is missing
abbrev pub default_ready : Around → Option meaning.Chosen → Option (Option Chosen)
default_ready b None = Some None
default_ready b (Some k) = option_map (λ c. Some c) (chosen_ready b k)

abbrev pub with_parts : ℕ → Option ℕ → Option (List Ready) → Option (List ℕ) → Option (Option Chosen) → Option Table
with_parts number direct (Some keys) (Some actions) (Some default) =
    Some (record { number = number; keys = keys; direct = direct; actions = actions; default = default })
with_parts number direct _ _ _ = None

abbrev pub table_ready : Around → Scope → List NamedSeat → Table16 → Option Table
table_ready b s seats t =
    with_parts (table_number b.syntax t) (table_sig b.syntax b.locals s t).direct
    (all_of (key_ready s seats) (keys_of t.properties)) (action_numbers b s t 0 (planes_of s t))
    (default_ready b (option_and_then (own_default s t) (default_action_of t.properties)))

-- variables of the block: all start at 0, and then come their initial values

abbrev pub starts_from : Around → Scope → ℕ → List Local → Option (List Statement)
starts_from b s n [] = Some []
starts_from b s n (local.Var v ∷ locals) = cons_option (start_ready b s n) (starts_from b s (suc n) locals)
starts_from b s n (x ∷ locals) = starts_from b s (n + length (local_kinds s x)) locals

abbrev pub initial_of : Around → Scope → List NamedSeat → ℕ → Var → Option Exp16 → Option (List Statement)
initial_of b s seats n v None = Some []
initial_of b s seats n v (Some e) = option_map (λ x. x ∷ []) (initial_ready b s seats n (kind_of_type s.names v.of) e)

abbrev pub joined : Option (List Statement) → Option (List Statement) → Option (List Statement)
joined (Some xs) (Some ys) = Some (xs ++ ys)
joined _ _ = None

abbrev pub initials_from : Around → Scope → List NamedSeat → ℕ → List Local → Option (List Statement)
initials_from b s seats n [] = Some []
initials_from b s seats n (local.Var v ∷ locals) =
    joined (initial_of b s seats n v v.initial) (initials_from b s seats (suc n) locals)
initials_from b s seats n (x ∷ locals) = initials_from b s seats (n + length (local_kinds s x)) locals

-- one behind another, in front of a statement
abbrev pub in_front : List Statement → Statement → Statement
in_front [] last = last
in_front (x ∷ xs) last = sequence x (in_front xs last)

abbrev pub whole_body : Option (List Statement) → Option Statement → Option Statement
whole_body (Some first) (Some last) = Some (in_front first last)
whole_body _ _ = None

-- a control that stands as this block

abbrev pub around_control : Syntax16 → Control16 → Around
around_control syntax c = record {
  syntax = syntax;
  locals = c.locals;
  actions = action_places (scope_in_control syntax c) (control_from syntax c) c.locals;
}

abbrev pub with_all : Option (List Statement) → List (List ℕ) → Option (List Table) → Option Statement → Option Block
with_all (Some bodies) parameters (Some tables) (Some body) =
    Some (record { bodies = bodies; parameters = parameters; tables = tables; body = body })
with_all _ parameters _ _ = None

abbrev pub ready_control : Syntax16 → BlockName → Control16 → Option Block
ready_control syntax name c =
    let b = around_control syntax c in
    let s = scope_in_control syntax c in
    let seats = control_seats syntax name c in
    let n = control_from syntax c in
    with_all (all_of (body_ready b s seats) b.actions) (map (parameter_slots b) b.actions)
    (all_of (table_ready b s seats) (filter_map table_in c.locals))
    (whole_body (joined (starts_from b s n c.locals) (initials_from b s seats n c.locals))
    (ready_of_statement b s seats (body_from syntax c) c.body))
