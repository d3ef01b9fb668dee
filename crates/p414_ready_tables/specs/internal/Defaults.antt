-- Tables as they are made from the program and its signature (P4_14 1.0.5, "Table Declarations").
use Rattle.std.specs.Prelude.{◌≡◌, ℕ, List, [], map, slice_index_or, Option, Some, None, unwrap_or}
use Rattle.match_core.specs.declared.entries.DefaultCall.{DefaultCall}
use Rattle.match_core.specs.declared.signatures.ActionSig.{ActionSig}
use Rattle.p414_syntax.specs.declared.parts.Number.{Number}
use Rattle.p414_syntax.specs.declared.tables.Table.{Table}
use Rattle.p414_syntax.specs.declared.syntax.Decl.{Decl}
use Rattle.p414_syntax.specs.Attributes.{default_arguments_of}
use Rattle.p414_syntax.specs.Names.{Name, find_name}
use Rattle.p414_syntax.specs.Arguments.{action_number}
use Rattle.p414_sem.specs.Controls.{kept_arguments}

abbrev pub action_name : ActionSig → Name
action_name a = a.name

-- the number of an action of a table
abbrev pub sig_number : List Decl → ActionSig → Option ℕ
sig_number ds a = action_number ds a.name

abbrev pub widths_at : List ActionSig → ℕ → List ℕ
widths_at actions place = (slice_index_or actions place (record { name = []; widths = [] })).widths

-- the call of the action with this name, by its place among these, with these arguments as they are written
pub record IsCall (actions : List ActionSig) (name : Name) (numbers : List Number) (call : DefaultCall) : Type 0 where
  pub found : find_name (map action_name actions) name ≡ Some call.action
  pub arguments : call.arguments ≡ kept_arguments (widths_at actions call.action) numbers

abbrev pub IsDefault : List ActionSig → List Number → Option Name → Option DefaultCall → Type 0
IsDefault actions numbers None None = Unit {0}
IsDefault actions numbers (Some name) (Some call) = IsCall actions name numbers call
IsDefault actions numbers _ _ = ⊥

-- the arguments that a program gives the default of a table
abbrev pub numbers_in : Table → List Number
numbers_in t = unwrap_or (default_arguments_of t.attributes) []
