-- A table as it is written, and what the rules ask of it (this project's own; P4_14 1.0.5, "Table Declarations"; P4_16
-- 1.2, "Tables", "Control-plane API annotations").
use Rattle.std.specs.Prelude.{◌≡◌, ℕ, ◌^◌, ◌-◌, min, true, false, List, [], length, map, Option, Some, None, option_map, unwrap_or}
use Rattle.std.specs.List.{AllByRecursion}
use Rattle.p414_syntax.specs.declared.lexeme.Literal.{Literal}
use Rattle.p414_syntax.specs.declared.tables.Table.{Table}
use Rattle.p414_syntax.specs.declared.syntax.Decl.{Decl}
use Rattle.p414_syntax.specs.Attributes.{reads_of, size_of, max_size_of, default_action_of, default_arguments_of}
use Rattle.p414_syntax.specs.Conditions.{is_some_listed}
use Rattle.p414_syntax.specs.Names.{Name, has_name}
use Rattle.p414_syntax.specs.Tables.{listed_in, has_bad_keys, has_two_prefixes}
use Rattle.p414_sem.specs.Controls.{kept_arguments}
use Rattle.p416_syntax.specs.SpeltLexemes.{is_identifier16}
use Rattle.p416_syntax.specs.Scopes.{Scope}
use Rattle.lower_laws_base.specs.Context.{Words, Lowering}
use Rattle.lower_laws_controls.specs.Keys.{key_of, KeysFit}
use Rattle.lower_laws_controls.specs.Listing.{Each, each_once, copy_text, widths_of_action}
use Rattle.lower_laws_rules.specs.Written.{Default, TableText}
use Rattle.lower_laws_rules.specs.Declared.{Listed, IsListed, FitsCounters}
use Rattle.lower_laws_rules.specs.Spelling.{SpeltName}
use Rattle.lower_laws_block_rules.specs.Widths.{IsWidth}

-- `size`, else `max_size`, is at most the greatest number of 32 bits
abbrev pub size_number : Option Literal → Option Literal → Option ℕ
size_number (Some n) most = Some (min (2 ^ 32 - 1) n.value)
size_number None (Some n) = Some (min (2 ^ 32 - 1) n.value)
size_number None None = None

-- the default action, with as many arguments as it has parameters, each cut to its width
abbrev pub default_text : List Decl → (Name → Option Name) → Table → Name → Default
default_text ds copy t name = record {
  action = copy_text copy name;
  widths = widths_of_action ds name;
  values = kept_arguments (widths_of_action ds name) (unwrap_or (default_arguments_of t.attributes) []);
}

-- the table as a whole, with a new name, whose direct counter has a new name too
abbrev pub text_of : Words → List Decl → (Name → Option Name) → Name → Option Name → Table → TableText
text_of w ds copy called counter t = record {
  plane = t.name;
  called = called;
  keys = map (key_of w ds) (reads_of t.attributes);
  actions = map (copy_text copy) (each_once (listed_in t));
  size = size_number (size_of t.attributes) (max_size_of t.attributes);
  counters = counter;
  default = option_map (default_text ds copy t) (default_action_of t.attributes);
}

-- the copy of an action, as the control declares it
abbrev pub listed_as : List Decl → Name → Listed
listed_as ds name = record { plane = name; widths = widths_of_action ds name }

-- the scope of the control knows the copy of an action, with its parameters
abbrev pub IsCopyHere : List Decl → Scope → (Name → Option Name) → Name → Type 0
IsCopyHere ds s copy name = IsListed s (copy_text copy name) (listed_as ds name)

-- the table lists the default action, which gets as many arguments as it has parameters
abbrev pub DefaultStands : List Decl → Table → Option Name → Type 0
DefaultStands ds t None = Unit {0}
DefaultStands ds t (Some name) =
    (has_name (listed_in t) name ≡ true)
    × (length (unwrap_or (default_arguments_of t.attributes) []) ≡ length (widths_of_action ds name))

-- A table of the program in the scope of its control: keys are fields and headers that are there (C2, C4), of known kinds (C11)
-- with one prefix at most (C12); its actions are declared; so is its direct counter; its default is one (C24).
pub record TableHere (c : Lowering) (ds : List Decl) (s : Scope) (copy : Name → Option Name) (counter : Option Name) (t : Table) : Type 0 where
  pub keys : KeysFit c.layout ds (reads_of t.attributes)
  pub good : has_bad_keys ds t ≡ false
  pub single : has_two_prefixes t ≡ false
  pub listed : Each (IsCopyHere ds s copy) (listed_in t)
  pub counter_is : FitsCounters s counter
  pub default : DefaultStands ds t (default_action_of t.attributes)

-- a name that may be there is spelt
abbrev pub OptionSpelt : Option Name → Type 0
OptionSpelt None = Unit {0}
OptionSpelt (Some text) = SpeltName text

-- the new name of the copy of an action is spelt, and the action's parameters have 1 to 128 bits
abbrev pub CopySpelt : List Decl → (Name → Option Name) → Name → Type 0
CopySpelt ds copy name = SpeltName (copy_text copy name) × AllByRecursion IsWidth (widths_of_action ds name)

-- what is asked beside for a table to be spelt: it lists an action (S1), its names are spelt, and parameters have
-- widths (C3)
pub record TableNamed (ds : List Decl) (copy : Name → Option Name) (called : Name) (counter : Option Name) (t : Table) : Type 0 where
  pub some : is_some_listed (listed_in t) ≡ true
  pub plane : is_identifier16 t.name ≡ true
  pub spelt : SpeltName called
  pub counter_spelt : OptionSpelt counter
  pub actions : Each (CopySpelt ds copy) (listed_in t)
