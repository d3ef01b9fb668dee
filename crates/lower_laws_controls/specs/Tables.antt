-- A table of P4_14 and the table of P4_16 that does the same (this project's own; P4_14 1.0.5, "Table Declarations";
-- P4_16 1.2, "Tables", "Match-action unit execution semantics").
use Rattle.std.specs.Prelude.{◌≡◌, ℕ, ◌<◌, length, slice_index_or, List, [], Option, Some, None, map, unwrap_or}
use Rattle.std.specs.Option.{option_map_or}
use Rattle.match_core.specs.Fits.{FitsFill, action_at}
use Rattle.p414_syntax.specs.declared.tables.Table.{Table}
use Rattle.p414_syntax.specs.Attributes.{default_action_of as default14, default_arguments_of as arguments14}
use Rattle.p414_syntax.specs.Names.{Name, find_name}
use Rattle.p414_syntax.specs.Arguments.{action_number}
use Rattle.p414_sem.specs.Effects.{Moment as Moment14}
use Rattle.p414_sem.specs.Signatures.{table_sig as sig14, actions_in_order, parameter_widths}
use Rattle.p414_sem.specs.Controls.{Setting as Setting14, signature_number, fill_of as fill14, kept_arguments, keys_of}
use Rattle.p416_syntax.specs.declared.controls.Action16.{Action16}
use Rattle.p416_syntax.specs.declared.controls.ActionName.{ActionName}
use Rattle.p416_syntax.specs.declared.controls.ActionName.TheVariants as action_name
use Rattle.p416_syntax.specs.declared.controls.Table16.{Table16}
use Rattle.p416_syntax.specs.Properties.{default_action_of as default16, default_arguments_of as arguments16}
use Rattle.p416_syntax.specs.Tables.{action_plane}
use Rattle.p416_syntax.specs.Uses.{arguments_of}
use Rattle.p416_syntax.specs.Totals.{size_value as literal_in}
use Rattle.v1_core.specs.Frames.{Moment}
use Rattle.v1_core.specs.Signatures.{table_sig as sig16, table_number, planes_of}
use Rattle.v1_core.specs.Surroundings.{Surroundings, action_named}
use Rattle.v1_core.specs.Tables.{name_of_number, key_values}
use Rattle.lower_laws_base.specs.Context.{StateLayout, Aside}
use Rattle.lower_laws_base.specs.Alike.{FitWidths, ActsAlike}
use Rattle.lower_laws_controls.specs.Alike.{Level}

-- the action of a table with this number, by its name
abbrev pub named_at : Table → ℕ → Name
named_at t i = slice_index_or (actions_in_order t) i []

-- the widths of the parameters of the action with this number
abbrev pub widths_at : Setting14 → Table → ℕ → List ℕ
widths_at d t i = (action_at (sig14 d.decls t) i).widths

-- the action of both tables with this number
pub record ActionStands (g : StateLayout) (d : Setting14) (b : Surroundings) (act : Action16 → Moment → Moment) (copy : Name → Option Name) (t : Table) (u : Table16) (i : ℕ) : Type 0 where
  pub action : ℕ
  pub text : Name
  pub of : Action16
  pub listed14 : action_number d.decls (named_at t i) ≡ Some action
  pub copied : copy (named_at t i) ≡ Some text
  pub numbered : name_of_number b.scope u i ≡ text
  pub listed16 : action_named b text ≡ Some of
  pub acts : ActsAlike g d b act (sig14 d.decls t).direct action (widths_at d t i) of

-- the default of the program: the same action, and the same arguments
abbrev pub DefaultStands : Setting14 → Surroundings → (Name → Option Name) → Table → Table16 → Option Name → Option ActionName → Type 0
DefaultStands d b copy t u None None = Unit {0}
DefaultStands d b copy t u (Some name) (Some (action_name.Declared text)) =
    (copy name ≡ Some text) × (action_plane b.scope (action_name.Declared text) ≡ name)
    × ((i : ℕ) × (find_name (actions_in_order t) name ≡ Some i)
    × FitWidths (widths_at d t i) (kept_arguments (option_map_or (parameter_widths d.decls) (action_number d.decls name) []) (unwrap_or (arguments14 t.attributes) [])))
    × (map literal_in (option_map_or arguments_of (arguments16 u.properties) []) ≡ kept_arguments (option_map_or (parameter_widths d.decls) (action_number d.decls name) []) (unwrap_or (arguments14 t.attributes) []))
DefaultStands d b copy t u _ _ = ⊥

-- The tables have one signature, one number, one fill, keys that give the same, and actions that do the same.
pub record TableAlike (g : StateLayout) (d : Setting14) (b : Surroundings) (act : Action16 → Moment → Moment) (copy : Name → Option Name) (t : Table) (u : Table16) : Type 0 where
  pub entries : b.setting.entries ≡ d.entries
  pub fill : FitsFill (sig14 d.decls t) (fill14 d t)
  pub number : table_number b.setting.syntax u ≡ signature_number d.decls t
  pub signature : sig16 b.setting.syntax b.locals b.scope u ≡ sig14 d.decls t
  pub planes : planes_of b.scope u ≡ actions_in_order t
  pub keys : (aside : Aside) (m : Moment14) (n : Moment) → Level g aside m n → key_values b n u ≡ keys_of d.decls m.state t
  pub each : (i : ℕ) → i < length (actions_in_order t) → ActionStands g d b act copy t u i
  pub default : DefaultStands d b copy t u (default14 t.attributes) (default16 u.properties)
