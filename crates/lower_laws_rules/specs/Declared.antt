-- What declarations ask for, so that they break no rule (this project's own, the limits, too; P4_16 1.2, "Header
-- types", "Header stacks", "Derived types", "Tables", "Control-plane API annotations", "Control blocks", "Packet
-- parsing").
use Rattle.std.specs.Prelude.{◌≡◌, ◌⊎◌, ℕ, ◌<◌, ◌≤◌, ◌^◌, ◌%◌, true, false, List, [], ◌∷◌, map, flat_map, filter_map, sum_by, codes, Option, Some, None}
use Rattle.std.specs.List.{AllByRecursion, AllZip}
use Rattle.digraph.specs.Expansions.{HasCycle}
use Rattle.p416_syntax.specs.declared.parts.Type16.{Type16}
use Rattle.p416_syntax.specs.declared.parts.Type16.TheVariants.{Named}
use Rattle.p416_syntax.specs.declared.controls.Local.{Local}
use Rattle.p416_syntax.specs.declared.controls.Local.TheVariants as local
use Rattle.p416_syntax.specs.declared.controls.Control16.{Control16}
use Rattle.p416_syntax.specs.declared.parsers.State.{State}
use Rattle.p416_syntax.specs.declared.parsers.Parser16.{Parser16}
use Rattle.p416_syntax.specs.declared.program.Decl16.{Decl16}
use Rattle.p416_syntax.specs.Names.{Name, has_name, repeats}
use Rattle.p416_syntax.specs.Kinds.{Kind, bits, header, struct, direct_counter}
use Rattle.p416_syntax.specs.Scopes.{Scope, Handed, a_type, an_action, an_object, sort_of, called_of}
use Rattle.p416_syntax.specs.Uses.{of_block_parameter}
use Rattle.p416_syntax.specs.Declarations.{parameter_uses, key_uses, local_uses, declaration_uses, control_names, control_scope, parser_names, parser_scope, state_name, state_uses, tables_in, counters_in}
use Rattle.p416_syntax.specs.Tables.{has_bad_keys}
use Rattle.p416_syntax.specs.ParserStates.{idle_graph}
use Rattle.p416_syntax.specs.Breaks.{ParserBreaks, HasCallCycle}
use Rattle.agreement_of_meanings.specs.Shown.{NamedField, width_of}
use Rattle.lower_laws_rules.specs.Keeping.{Keeps, Part}
use Rattle.lower_laws_rules.specs.Written.{TypedField, Default, TableText}

-- a field of 1 to 128 bits
abbrev pub FitsWidth : NamedField → Type 0
FitsWidth f = (0 < f.width) × (f.width ≤ 128)

-- a field by its name
abbrev pub name_of_field : NamedField → Name
name_of_field f = f.called

-- a header's fields: their names differ, and their bits come to whole octets, one at least ("Header types")
pub record HeaderFits (fields : List NamedField) : Type 0 where
  pub differ : repeats (map name_of_field fields) ≡ false
  pub widths : AllByRecursion FitsWidth fields
  pub some : 0 < sum_by width_of fields
  pub octets : sum_by width_of fields % 8 ≡ 0

-- a member's type is a header, a stack of 1 to 256 headers, or a struct
abbrev pub TypeIsThere : Scope → Name → Option ℕ → Type 0
TypeIsThere s type None = (sort_of s type ≡ a_type (header type)) ⊎ (sort_of s type ≡ a_type (struct type))
TypeIsThere s type (Some n) = (sort_of s type ≡ a_type (header type)) × (0 < n) × (n ≤ 256)

-- a member of a struct has such a type
abbrev pub FieldIsThere : Scope → TypedField → Type 0
FieldIsThere s f = TypeIsThere s f.type f.size

-- an argument of so many bits, without a direction
abbrev pub bits_given : ℕ → Handed
bits_given width = record { is_directed = false; is_written = false; kind = bits width }

-- an action that tables may list, by its control-plane name and the widths of its parameters
pub record Listed : Type 0 where
  pub plane : Name
  pub widths : List ℕ

-- an action by its control-plane name
abbrev pub plane_of : Listed → Name
plane_of l = l.plane

-- the scope knows the action so: under this text, with parameters of these widths
abbrev pub IsListed : Scope → Name → Listed → Type 0
IsListed s text l = sort_of s text ≡ an_action l.plane (map bits_given l.widths)

-- it is one of the table's actions, and its arguments fit these widths
pub record DefaultFits (s : Scope) (actions : List Name) (d : Default) : Type 0 where
  pub among : has_name actions d.action ≡ true
  pub plane : Name
  pub known : sort_of s d.action ≡ an_action plane (map bits_given d.widths)
  pub values : AllZip (λ (width value : ℕ). value < 2 ^ width) d.widths d.values

-- a default action that may be there is one of the table's, and its arguments fit
abbrev pub FitsDefault : Scope → List Name → Option Default → Type 0
FitsDefault s actions None = Unit {0}
FitsDefault s actions (Some d) = DefaultFits s actions d

-- a direct counter that may be there is an object of the scope
abbrev pub FitsCounters : Scope → Option Name → Type 0
FitsCounters s None = Unit {0}
FitsCounters s (Some text) = sort_of s text ≡ an_object direct_counter

-- a table in the scope of its control; the actions that it lists are these
pub record TableFits (s : Scope) (t : TableText) (listed : List Listed) : Type 0 where
  pub keys : Keeps (flat_map (key_uses s) t.keys) []
  pub good : has_bad_keys t.keys ≡ false
  pub actions : AllZip (IsListed s) t.actions listed
  pub apart : repeats (map plane_of listed) ≡ false
  pub counters : FitsCounters s t.counters
  pub default : FitsDefault s t.actions t.default

-- the kind of a variable of a struct
abbrev pub type_held : Type16 → List Kind
type_held (Named type size) = struct type ∷ []
type_held _ = []

-- what a declaration of a control is that T12's sums count: only variables are
abbrev pub local_held : Local → List Kind
local_held (local.Var v) = type_held v.of
local_held _ = []

-- a declaration of a control breaks no rule
abbrev pub LocalKeeps : Scope → Local → Type 0
LocalKeeps s l = Keeps (local_uses s l) (local_held l)

-- What is asked of a control at the top: its names differ, no direct counter belongs to two tables, and its parameters,
-- declarations and statements break no rule.
pub record ControlFits (s : Scope) (c : Control16) : Type 0 where
  pub names : repeats (map called_of (control_names s.names c)) ≡ false
  pub counters : repeats (filter_map counters_in (tables_in c)) ≡ false
  pub parameters : Keeps (flat_map (parameter_uses s of_block_parameter) c.parameters) []
  pub locals : AllByRecursion (LocalKeeps (control_scope s c)) c.locals
  pub deep : ℕ
  pub few : deep ≤ 399
  pub body : Part (control_scope s c) (control_scope s c) [] deep c.body

-- what the variables of a control are that T12's sums count
abbrev pub control_held : Control16 → List Kind
control_held c = flat_map local_held c.locals

-- a state of a parser breaks no rule
abbrev pub StateKeeps : Scope → State → Type 0
StateKeeps s x = Keeps (state_uses s x) []

-- What is asked of a parser at the top, which has no variables: its names differ, its parameters and states break no
-- rule, one state is called `start`, and none follow each other in a circle without an extraction.
pub record ParserFits (s : Scope) (p : Parser16) : Type 0 where
  pub names : repeats (map called_of (parser_names s.names p)) ≡ false
  pub parameters : Keeps (flat_map (parameter_uses s of_block_parameter) p.parameters) []
  pub bare : p.vars ≡ []
  pub states : AllByRecursion (StateKeeps (parser_scope s p)) p.states
  pub start : has_name (map state_name p.states) (codes "start") ≡ true
  pub acyclic : HasCycle (idle_graph p) → ⊥

-- a declaration breaks no rule by itself, and T12's sums count these of its variables
pub record DeclarationKeeps (s : Scope) (d : Decl16) (held : List Kind) : Type 0 where
  pub keeps : Keeps (declaration_uses s d) held
  pub states : ParserBreaks d → ⊥
  pub calls : HasCallCycle s d → ⊥
