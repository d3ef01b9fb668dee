-- Tables and controls (P4_14 1.0.5, "Table Declarations", "Packet Processing and Control Flow"). A control runs
-- expanded, so that no call of a control is left in it.
use Rattle.std.specs.Prelude.{ℕ, Bool, false, not, ◌||◌, if◌then◌else◌, is_some, bit_and, List, [], ◌∷◌, length, map, slice_index_or, Option, Some, None, option_map, unwrap_or}
use Rattle.std.specs.Option.{option_map_or}
use Rattle.std.specs.Str.{bytes_eq}
use Rattle.p414_syntax.specs.declared.lexeme.Literal.{Literal}
use Rattle.state_store.specs.State.{count}
use Rattle.match_core.specs.declared.entries.Entry.{Entry}
use Rattle.match_core.specs.declared.entries.DefaultCall.{DefaultCall}
use Rattle.match_core.specs.declared.entries.TableFill.{TableFill}
use Rattle.match_core.specs.declared.entries.Entries.{Entries}
use Rattle.match_core.specs.Best.{best, entry_at}
use Rattle.match_core.specs.Tables.{filled_of}
use Rattle.p4x_bits.specs.BitLists.{bit}
use Rattle.p414_syntax.specs.declared.node.Label.{Label}
use Rattle.p414_syntax.specs.declared.node.Label.TheVariants as label
use Rattle.p414_syntax.specs.declared.parts.Number.{Number}
use Rattle.p414_syntax.specs.declared.tables.ReadKey.{ReadKey}
use Rattle.p414_syntax.specs.declared.tables.ReadKey.TheVariants as read_key
use Rattle.p414_syntax.specs.declared.tables.Read.{Read}
use Rattle.p414_syntax.specs.declared.tables.Table.{Table}
use Rattle.p414_syntax.specs.declared.syntax.Decl.{Decl}
use Rattle.p414_syntax.specs.declared.syntax.Rule14.{Rule14}
use Rattle.p414_syntax.specs.declared.syntax.Sort.TheVariants as sort
use Rattle.p414_syntax.specs.Attributes.{reads_of, default_action_of, default_arguments_of}
use Rattle.p414_syntax.specs.Tree.{Stmt, no_statements, then, apply, apply_branches, if_then, call, no_else, else_block, else_if, no_branches, branch}
use Rattle.p414_syntax.specs.Names.{Name, find_name, names_in}
use Rattle.p414_syntax.specs.Arguments.{action_number}
use Rattle.p414_sem.specs.Wholes.{whole, wrapped}
use Rattle.p414_sem.specs.Slots.{slot_of, element_of}
use Rattle.p414_sem.specs.State.{State, is_valid_at, read, with_event}
use Rattle.p414_sem.specs.Expanded.{Expanded}
use Rattle.p414_sem.specs.Operations.{in_order}
use Rattle.p414_sem.specs.Effects.{Moment, acted_by}
use Rattle.p414_sem.specs.Conditions.{holds}
use Rattle.p414_sem.specs.Signatures.{parameter_widths, actions_in_order, table_sig, table_of}

-- what a control runs with: the program and what it comes to, the rule of its actions, and what stands in its tables
pub record Setting : Type 0 where
  pub decls : List Decl
  pub expanded : Expanded
  pub rule : Rule14
  pub entries : Entries

-- keys

-- A key is the field's number, on the bits of the mask where one stands; a key of kind valid is 1 or 0.
abbrev pub key_value : List Decl → State → Read → ℕ
key_value ds s r = value_by r.key r.mask where
  value_by : ReadKey → Option Literal → ℕ
  value_by (read_key.Field f) None = read s (slot_of ds f)
  value_by (read_key.Field f) (Some mask) = bit_and (read s (slot_of ds f)) mask.value
  value_by (read_key.Instance i) mask = bit (is_valid_at s (element_of ds i))

abbrev pub keys_of : List Decl → State → Table → List ℕ
keys_of ds s t = map (key_value ds s) (reads_of t.attributes)

-- which action runs

-- an action of a table by its number among the table's actions, and the arguments that it is called with
pub record Chosen : Type 0 where
  pub action : ℕ
  pub arguments : List ℕ

-- the table's number in the signature, and what fills it
abbrev pub signature_number : List Decl → Table → ℕ
signature_number ds t =
    let names = in_order (names_in sort.Table ds) in unwrap_or (find_name names t.name) (length names)

abbrev pub no_fill : TableFill
no_fill = record { entries = []; default = None }

abbrev pub fill_of : Setting → Table → TableFill
fill_of c t = slice_index_or c.entries.tables (signature_number c.decls t) no_fill

-- the best entry for the table's keys
abbrev pub found : Setting → State → Table → Option ℕ
found c s t = best (filled_of (table_sig c.decls t) (fill_of c t)) (keys_of c.decls s t)

-- the default that the program gives: its arguments are kept modulo the widths of the parameters
abbrev pub kept_arguments : List ℕ → List Number → List ℕ
kept_arguments [] numbers = []
kept_arguments (w ∷ widths) [] = []
kept_arguments (w ∷ widths) (n ∷ numbers) = wrapped w (whole n) ∷ kept_arguments widths numbers

abbrev pub action_in_table : Table → Name → ℕ
action_in_table t name = unwrap_or (find_name (actions_in_order t) name) (length (actions_in_order t))

abbrev pub program_default : List Decl → Table → Name → Chosen
program_default ds t name = record {
  action = action_in_table t name;
  arguments =
      kept_arguments (option_map_or (parameter_widths ds) (action_number ds name) [])
      (unwrap_or (default_arguments_of t.attributes) []);
}

abbrev pub default_of : DefaultCall → Chosen
default_of d = record { action = d.action; arguments = d.arguments }

abbrev pub entry_of : Entry → Chosen
entry_of e = record { action = e.action; arguments = e.arguments }

-- on a hit the entry's action; on a miss the default of the entries, else the default of the program, else nothing
abbrev pub chosen : Setting → Table → Option ℕ → Option Chosen
chosen c t (Some entry) = Some (entry_of (entry_at (fill_of c t).entries entry))
chosen c t None = by_default (fill_of c t).default where
  by_default : Option DefaultCall → Option Chosen
  by_default (Some d) = Some (default_of d)
  by_default None = option_map (program_default c.decls t) (default_action_of t.attributes)

-- the name of the action, and what it does
abbrev pub chosen_name : Table → Chosen → Name
chosen_name t k = slice_index_or (actions_in_order t) k.action []

abbrev pub run_chosen : Setting → Table → Option Chosen → Moment → Moment
run_chosen c t None m = m
run_chosen c t (Some k) m = runs (action_number c.decls (chosen_name t k)) where
  runs : Option ℕ → Moment
  runs None = m
  runs (Some action) = acted_by c.decls c.expanded c.rule action k.arguments m

-- a direct counter counts the entry of a hit, and nothing on a miss
abbrev pub counted : Option ℕ → Option ℕ → Moment → Moment
counted (Some counter) (Some entry) m =
    record { state = m.state; store = count m.store counter entry m.state.packet_length }
counted _ _ m = m

abbrev pub chosen_action : Chosen → ℕ
chosen_action k = k.action

abbrev pub noted : ℕ → Option ℕ → Option Chosen → Moment → Moment
noted table entry k m =
    record {
      state = with_event m.state (record { table = table; entry = entry; action = option_map chosen_action k });
      store = m.store;
    }

-- an application of a table: whether it hit, which action ran, and what it leaves
pub record Applied : Type 0 where
  pub hit : Bool
  pub action : Option Name
  pub moment : Moment

abbrev pub application_of : Setting → Table → Option ℕ → Moment → Applied
application_of c t entry m =
    let k = chosen c t entry in
    let before = noted (signature_number c.decls t) entry k m in
    record {
      hit = is_some entry;
      action = option_map (chosen_name t) k;
      moment = run_chosen c t k (counted (table_sig c.decls t).direct entry before);
    }

abbrev pub applied : Setting → Name → Moment → Applied
applied c table m = applies (table_of c.decls table) where
  applies : Option Table → Applied
  applies None = record { hit = false; action = None; moment = m }
  applies (Some t) = application_of c t (found c m.state t) m

-- branches

-- the block with this label is that of the action that ran
abbrev pub names_action : Option Name → Label → Bool
names_action (Some name) (label.Action a) = bytes_eq a name
names_action _ _ = false

-- among these branches is one of the action that ran
abbrev pub has_block_of : Option Name → Stmt → Bool
has_block_of action (branch before l body) = names_action action l || has_block_of action before
has_block_of action _ = false

-- `hit` and `miss` follow the match, and a block that an action names runs where that action ran, on a miss too;
-- `default` runs where no block is named by the action that ran
abbrev pub runs_block : Applied → Bool → Label → Bool
runs_block a named label.Hit = a.hit
runs_block a named label.Miss = not a.hit
runs_block a named label.Default = not named
runs_block a named (label.Action name) = names_action a.action (label.Action name)

-- statements

-- What a statement leaves. `taken` tells which of the branches runs, where the statement is a list of branches; each
-- label stands there once at most, and one block runs at most.
abbrev pub run : Setting → (Label → Bool) → Stmt → Moment → Moment
run c taken no_statements m = m
run c taken ((then) before last) m = run c taken last (run c taken before m)
run c taken (apply table) m = (applied c table m).moment
run c taken (apply_branches table branches) m =
    let a = applied c table m in run c (runs_block a (has_block_of a.action branches)) branches a.moment
run c taken (if_then condition statements other) m =
    if holds c.decls m.state condition then run c taken statements m else run c taken other m
run c taken (call control) m = m
run c taken no_else m = m
run c taken (else_block statements) m = run c taken statements m
run c taken (else_if statement) m = run c taken statement m
run c taken no_branches m = m
run c taken (branch before l statements) m =
    if taken l then run c taken statements m else run c taken before m

-- no branch is taken: outside of branches none stands
abbrev pub no_label : Label → Bool
no_label l = false

-- what a control that comes to this statement leaves
abbrev pub control_run : Setting → Stmt → Moment → Moment
control_run c body m = run c no_label body m
