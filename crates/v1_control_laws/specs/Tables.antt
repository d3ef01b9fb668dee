-- What is asked of a table of a block and of what fills it (P4_16 1.2, "Tables", "Match-action unit invocation").
use Rattle.std.specs.Prelude.{◌≡◌, ℕ, ◌<◌, List, [], ◌∷◌, length, map, filter_map, Some, option_and_then}
use Rattle.match_core.specs.Fits.{FitsFill, action_at}
use Rattle.match_core.specs.Tables.{filled_of}
use Rattle.p416_syntax.specs.declared.controls.Action16.{Action16}
use Rattle.p416_syntax.specs.declared.controls.TableKey.{TableKey}
use Rattle.p416_syntax.specs.declared.controls.Table16.{Table16}
use Rattle.p416_syntax.specs.declared.controls.Control16.{Control16}
use Rattle.p416_syntax.specs.declared.parts.Param.{Param}
use Rattle.p416_syntax.specs.Properties.{keys_of, default_action_of}
use Rattle.p416_syntax.specs.Names.{Name}
use Rattle.p416_syntax.specs.Kinds.{bits}
use Rattle.p416_syntax.specs.Scopes.{Scope}
use Rattle.p416_syntax.specs.Declarations.{action_in}
use Rattle.v1_core.specs.Slots.{parameter_kind}
use Rattle.v1_core.specs.Signatures.{key_scope, planes_of, table_sig}
use Rattle.v1_core.specs.declared.block.Block.{Block}
use Rattle.v1_core.specs.Surroundings as meaning
use Rattle.v1_core.specs.Surroundings.{Setting}
use Rattle.v1_core.specs.Tables as meaning_tables
use Rattle.v1_core.specs.Tables.{name_of_number, own_default, fill_of}
use Rattle.v1_core.specs.Blocks.{around_control}
use Rattle.v1_ready_blocks.specs.Tables as ready
use Rattle.v1_ready_statements.specs.Around.{ActionPlace, Around, Found, action_found}
use Rattle.v1_ready_statements.specs.Blocks as ready_blocks
use Rattle.v1_ready_statements.specs.Blocks.{table_ready}
use Rattle.v1_block_laws.specs.Variables.{scope_in_control, control_seats}
use Rattle.v1_block_laws.specs.Keeping.{Each, KeyKeeps}
use Rattle.v1_call_laws.specs.Telling.{ToldNone}

-- a block with these actions, which are those that it declares
abbrev pub around_of : meaning.Surroundings → List ActionPlace → Around
around_of S actions = record { syntax = S.setting.syntax; locals = S.locals; actions = actions }

abbrev pub action_of : ActionPlace → Action16
action_of a = a.of

abbrev pub AreDeclared : meaning.Surroundings → List ActionPlace → Type 0
AreDeclared S actions = map action_of actions ≡ filter_map action_in S.locals

-- parameters that are bits
abbrev pub HaveBits : Scope → List Param → Type 0
HaveBits s [] = Unit {0}
HaveBits s (p ∷ parameters) = ((width : ℕ) × (parameter_kind s p ≡ bits width)) × HaveBits s parameters

-- an action has so many parameters, which are bits
pub record Takes (s : Scope) (f : Found) (count : ℕ) : Type 0 where
  pub many : count ≡ length f.place.of.parameters
  pub bits : HaveBits s f.place.of.parameters

-- a key keeps the rules on types and sizes, and no stack tells anything in it
abbrev pub KeyFits : Scope → TableKey → Type 0
KeyFits s k = KeyKeeps s k × ToldNone (key_scope s) k.exp

-- The keys of a table, its actions and its own default, which have as many numbers as these take
pub record TableKeeps (S : meaning.Surroundings) (actions : List ActionPlace) (t : Table16) : Type 0 where
  pub keys : Each (KeyFits S.scope) (keys_of t.properties)
  pub calls : (number : ℕ) (f : Found) → number < length (planes_of S.scope t) → action_found (around_of S actions) (name_of_number S.scope t number) ≡ Some f → Takes S.scope f (length (action_at (table_sig S.setting.syntax S.locals S.scope t) number).widths)
  pub default : (k : meaning_tables.Chosen) (f : Found) → option_and_then (own_default S.scope t) (default_action_of t.properties) ≡ Some k → action_found (around_of S actions) k.called ≡ Some f → Takes S.scope f (length k.arguments)

-- so of a table, with what fills it
pub record TableFits (S : meaning.Surroundings) (actions : List ActionPlace) (t : Table16) : Type 0 where
  pub keys : Each (KeyFits S.scope) (keys_of t.properties)
  pub calls : (number : ℕ) (f : Found) → number < length (planes_of S.scope t) → action_found (around_of S actions) (name_of_number S.scope t number) ≡ Some f → Takes S.scope f (length (action_at (table_sig S.setting.syntax S.locals S.scope t) number).widths)
  pub default : (k : meaning_tables.Chosen) (f : Found) → option_and_then (own_default S.scope t) (default_action_of t.properties) ≡ Some k → action_found (around_of S actions) k.called ≡ Some f → Takes S.scope f (length k.arguments)
  pub fill : FitsFill (table_sig S.setting.syntax S.locals S.scope t) (fill_of S t)

-- the table has what fills that of the program
pub record IsFilled (S : meaning.Surroundings) (t : Table16) (f : ready.Fill) (r : ready.Table) : Type 0 where
  pub table : ready.table_of f r ≡ filled_of (table_sig S.setting.syntax S.locals S.scope t) (fill_of S t)
  pub fill : ready.fill_of f r ≡ fill_of S t

-- so each table of a control
abbrev pub TablesFit : Setting → Block → Control16 → ready.Fill → Type 0
TablesFit c place k fill =
    (text : Name) (t : Table16) (r : ready.Table) → meaning.table_named (around_control c place k) text ≡ Some t →
    table_ready (ready_blocks.around_control c.syntax k) (scope_in_control c.syntax k) (control_seats c.syntax place k) t ≡ Some r →
    TableFits (around_control c place k) (ready_blocks.around_control c.syntax k).actions t
    × IsFilled (around_control c place k) t fill r
