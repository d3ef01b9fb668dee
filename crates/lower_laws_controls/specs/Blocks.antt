-- Blocks between which moments stand, the variables with which a block begins and which end with it, and what stands
-- for a control of P4_14 (this project's own; P4_14 1.0.5, "Packet Processing and Control Flow"; P4_16 1.2, "Control
-- blocks", "Variable declarations").
use Rattle.std.specs.Prelude.{◌≡◌, List, [], None, codes}
use Rattle.std.specs.List.{AllZip}
use Rattle.state_store.specs.Ports.{drop_port}
use Rattle.fabric.specs.declared.items.RequestKind.{RequestKind}
use Rattle.p416_syntax.specs.declared.parsers.Var.{Var}
use Rattle.p416_syntax.specs.Names.{Name}
use Rattle.p416_syntax.specs.Kinds.{struct}
use Rattle.p416_syntax.specs.Scopes.{Scope, kind_of_type}
use Rattle.v1_core.specs.Values.{member_in}
use Rattle.v1_core.specs.Frames.{Frame, Moment, Owner, owned, request_of}
use Rattle.v1_core.specs.Passes.{egress_spec}
use Rattle.lower_laws_base.specs.Context.{Local, StateLayout, HasRoot, HasMembers}

-- The layout of a block, where moments between blocks are measured by another one: it has variables, and may have fewer
-- parameters.
pub record Inside (g h : StateLayout) : Type 0 where
  pub is : h ≡ record g { has = h.has; variables = h.variables }
  pub has : (o : Owner) → HasRoot h o → HasRoot g o
  pub bare : g.variables ≡ []

-- the structs of all parameters of a block have their members in order
abbrev pub HasAll : StateLayout → Frame → Type 0
HasAll g f = (o : Owner) → HasRoot g o → HasMembers (g.members o) (owned f o)

-- a variable of a block holds a struct and has no initial value
pub record VariableIs (s : Scope) (v : Var) (l : Local) : Type 0 where
  pub initial : v.initial ≡ None
  pub is : l ≡ record { called = v.name; kind = kind_of_type s.names v.of }
  pub type : Name
  pub struct_is : kind_of_type s.names v.of ≡ struct type

-- the variables of a block are structs without initial values, and these locals
abbrev pub VariablesAre : Scope → List Var → List Local → Type 0
VariablesAre s vars ls = AllZip (VariableIs s) vars ls

-- what a packet that is dropped has been through
pub record IsDropped (before after : Moment) : Type 0 where
  pub store : after.store ≡ before.store
  pub events : after.frame.events ≡ before.frame.events
  pub requests : (kind : RequestKind) → request_of after.frame kind ≡ request_of before.frame kind
  pub port : egress_spec after.frame ≡ drop_port
  pub error : member_in after.frame.standard (codes "parser_error") ≡ member_in before.frame.standard (codes "parser_error")
  pub checksum : member_in after.frame.standard (codes "checksum_error") ≡ member_in before.frame.standard (codes "checksum_error")
