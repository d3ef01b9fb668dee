-- What the lowering of a table writes, property by property (this project's own; P4_14 1.0.5, "Table Declarations";
-- P4_16 1.2, "Tables", "Control-plane API annotations").
use Rattle.std.specs.Prelude.{◌≡◌, ℕ, not, map, filter, List, [], ◌∷◌, Option, Some, unwrap_or}
use Rattle.std.specs.Option.{option_map_or}
use Rattle.std.specs.Str.{bytes_eq}
use Rattle.p414_syntax.specs.declared.tables.Table.{Table}
use Rattle.p414_syntax.specs.declared.syntax.Decl.{Decl}
use Rattle.p414_syntax.specs.Attributes.{reads_of}
use Rattle.p414_syntax.specs.Names.{Name}
use Rattle.p414_syntax.specs.Arguments.{action_number}
use Rattle.p414_syntax.specs.Tables.{listed_in}
use Rattle.p414_sem.specs.Signatures.{parameter_widths, table_size as size14, direct_counter}
use Rattle.p416_syntax.specs.declared.controls.ActionName.{ActionName}
use Rattle.p416_syntax.specs.declared.controls.ActionName.TheVariants as action_name
use Rattle.p416_syntax.specs.declared.controls.Table16.{Table16}
use Rattle.p416_syntax.specs.Properties.{keys_of, actions_of}
use Rattle.p416_syntax.specs.Scopes.{Handed, Scope, an_action, sort_of}
use Rattle.p416_syntax.specs.Tables.{table_plane}
use Rattle.v1_core.specs.Surroundings.{Surroundings}
use Rattle.v1_core.specs.Signatures.{handed_width, table_size as size16, direct_of}
use Rattle.lower_laws_base.specs.Context.{Lowering, words_of}
use Rattle.lower_laws_controls.specs.Keys.{key_of, KeysFit}

-- it holds of each of a list
abbrev pub Each : {A : Type 0} → (A → Type 0) → List A → Type 0
Each P [] = Unit {0}
Each P (x ∷ xs) = P x × Each P xs

-- each name of a list where it stands first
abbrev pub each_once : List Name → List Name
each_once [] = []
each_once (x ∷ xs) = x ∷ filter (λ y. not (bytes_eq y x)) (each_once xs)

-- the new name of an action's copy; no text where it has none
abbrev pub copy_text : (Name → Option Name) → Name → Name
copy_text copy name = unwrap_or (copy name) []

-- the copy, as a table lists it
abbrev pub copy_name : (Name → Option Name) → Name → ActionName
copy_name copy name = action_name.Declared (copy_text copy name)

-- the widths of the parameters of an action
abbrev pub widths_of_action : List Decl → Name → List ℕ
widths_of_action ds name = option_map_or (parameter_widths ds) (action_number ds name) []

-- the copy of an action, as the scope of the control declares it: under the name of the action for the control plane
pub record CopyListed (ds : List Decl) (s : Scope) (copy : Name → Option Name) (name : Name) : Type 0 where
  pub copied : copy name ≡ Some (copy_text copy name)
  pub parameters : List Handed
  pub sort : sort_of s (copy_text copy name) ≡ an_action name parameters
  pub widths : map handed_width parameters ≡ widths_of_action ds name

-- a table of P4_16 that is written for a table of P4_14
pub record TableIs (c : Lowering) (ds : List Decl) (b : Surroundings) (copy : Name → Option Name) (t : Table) (u : Table16) : Type 0 where
  pub plane : table_plane u ≡ t.name
  pub keys : keys_of u.properties ≡ map (key_of (words_of c) ds) (reads_of t.attributes)
  pub keys_fit : KeysFit c.layout ds (reads_of t.attributes)
  pub actions : actions_of u.properties ≡ map (copy_name copy) (each_once (listed_in t))
  pub listed : Each (CopyListed ds b.scope copy) (listed_in t)
  pub size : size16 u ≡ size14 t
  pub direct : direct_of b.setting.syntax b.locals u ≡ direct_counter ds t.name
