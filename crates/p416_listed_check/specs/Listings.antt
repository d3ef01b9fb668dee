-- What is known of tables and actions in scope that were gone through.
use Rattle.std.specs.Prelude.{◌≡◌, Bool, true, false, ◌&&◌, List, filter}
use Rattle.std.specs.List.{list_any}
use Rattle.p416_syntax.specs.declared.controls.ActionName.TheVariants as action_name
use Rattle.p416_syntax.specs.Names.{Name, has_name}
use Rattle.p416_syntax.specs.Scopes.{Sort, a_table, Known, Scope, sort_in}
use Rattle.p416_syntax.specs.Tables.{is_same_action, listed_by, is_bad_action}
use Rattle.p416_listed_check.specs.Pairs.{Pair, is_same_pair}

abbrev pub is_table : Sort → Bool
is_table (a_table actions counters) = true
is_table _ = false

abbrev pub is_known_table : Known → Bool
is_known_table k = is_table k.sort

-- the tables among these names
abbrev pub tables_in : List Known → List Known
tables_in names = filter is_known_table names

-- a table lists an action
abbrev pub lists : List Known → Name → Name → Bool
lists names table action = list_any (is_same_action (action_name.Declared action)) (listed_by (sort_in names table))

-- the names of the tables that were gone through, and each of these with the actions that it lists
abbrev pub Listed : Type 0
Listed = List Name × List Pair

-- what was gone through is so of the tables among these names
pub record AreListed (names : List Known) (l : Listed) : Type 0 where
  pub are : (table action : Name) → list_any (is_same_pair (table, action)) l.1 ≡ (has_name l.0 table && lists names table action)

-- the same of the tables in scope
abbrev pub ListsScope : Scope → Listed → Type 0
ListsScope s l = AreListed (tables_in s.names) l

-- each parameter of the actions of these names can be given by an entry of a table
abbrev pub AreGiven : Scope → List Name → Type 0
AreGiven s names = (text : Name) → has_name names text ≡ true → is_bad_action s (action_name.Declared text) ≡ false
