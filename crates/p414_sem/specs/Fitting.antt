-- Which states, preserved sets, held values, items and stores are those of a program: each number is below 2 ^ width of its
-- field, and each part is there that the program declares (P4_14 1.0.5, "Header Type Declarations", "Standard Intrinsic Metadata").
use Rattle.std.specs.Prelude.{◌≡◌, ℕ, ◌^◌, ◌<◌, ◌≤◌, true, false, List, [], ◌∷◌, length, replicate, All, IfSome, Option, Some, None}
use Rattle.std.specs.List.{AllZip}
use Rattle.p4x_bits.specs.BitLists.{IsOctets}
use Rattle.p414_syntax.specs.declared.lexeme.Literal.{Literal}
use Rattle.state_store.specs.Ports.{IsPort}
use Rattle.fabric.specs.declared.items.Event.{Event}
use Rattle.fabric.specs.declared.items.Item.{Item as QueueItem}
use Rattle.match_core.specs.Fits.{Fits}
use Rattle.match_core.specs.Stores.{IsStoreOf}
use Rattle.p414_syntax.specs.declared.syntax.Decl.{Decl}
use Rattle.p414_syntax.specs.declared.syntax.Decl.TheVariants as decl
use Rattle.p414_syntax.specs.declared.syntax.Sort.TheVariants as sort
use Rattle.p414_syntax.specs.Names.{declared_in}
use Rattle.p414_syntax.specs.Totals.{elements_of}
use Rattle.p414_syntax.specs.Expansion.{lists}
use Rattle.p414_sem.specs.declared.requests.Request14.{Request14}
use Rattle.p414_sem.specs.State.{Header, Instance, State}
use Rattle.p414_sem.specs.Packing.{widths_of_type}
use Rattle.p414_sem.specs.Expanded.{IsExpanded}
use Rattle.p414_sem.specs.Signatures.{signature14}
use Rattle.p414_sem.specs.Controls.{Setting}
use Rattle.p414_sem.specs.Passes.{Preserved, Held}
use Rattle.p414_sem.specs.Runs.{Between}

-- one number for each of these widths, below 2 ^ width
abbrev pub FitWidths : List ℕ → List ℕ → Type 0
FitWidths widths numbers = AllZip (λ (width number : ℕ). number < 2 ^ width) widths numbers

-- a header with fields of these widths, which are 0 where it is invalid
pub record FitsHeader (widths : List ℕ) (h : Header) : Type 0 where
  pub numbers : FitWidths widths h.numbers
  pub zeros : h.valid ≡ false → h.numbers ≡ replicate (length widths) 0

-- A header has one element, and its place is 0. A stack has as many as it declares; its place is that of an element, or
-- the one behind the last.

abbrev pub greatest_place : Option Literal → ℕ
greatest_place (Some n) = n.value
greatest_place None = 0

pub record FitsElements (widths : List ℕ) (size : Option Literal) (i : Instance) : Type 0 where
  pub each : All (FitsHeader widths) i.elements
  pub count : length i.elements ≡ elements_of size
  pub place : i.place ≤ greatest_place size

-- metadata is valid
pub record FitsMetadata (widths : List ℕ) (i : Instance) : Type 0 where
  pub numbers : List ℕ
  pub is : i ≡ record { elements = record { valid = true; numbers = numbers } ∷ []; place = 0 }
  pub fit : FitWidths widths numbers

abbrev pub FitsInstance : List Decl → Decl → Instance → Type 0
FitsInstance ds (decl.Header x) i = FitsElements (widths_of_type ds x.header_type) x.size i
FitsInstance ds (decl.Metadata x) i = FitsMetadata (widths_of_type ds x.header_type) i
FitsInstance ds _ i = ⊥

-- a session has 32 bits, and a list is one that the program declares
pub record FitsRequest (ds : List Decl) (r : Request14) : Type 0 where
  pub session : r.session < 2 ^ 32
  pub list : IfSome r.list (λ number. number < length (lists ds))

-- an application of a table, whose numbers have 32 bits
pub record FitsEvent (e : Event) : Type 0 where
  pub table : e.table < 2 ^ 32
  pub entry : IfSome e.entry (λ number. number < 2 ^ 32)
  pub action : IfSome e.action (λ number. number < 2 ^ 32)

-- a state of the program
pub record IsState (ds : List Decl) (s : State) : Type 0 where
  pub instances : AllZip (FitsInstance ds) (declared_in sort.Instance ds) s.instances
  pub unparsed : IsOctets s.unparsed
  pub ingress_port : s.ingress_port < 2 ^ 9
  pub egress_spec : s.egress_spec < 2 ^ 9
  pub egress_port : s.egress_port < 2 ^ 9
  pub packet_length : s.packet_length < 2 ^ 32
  pub instance_type : s.instance_type < 2 ^ 32
  pub clone_i2e : IfSome s.clone_i2e (FitsRequest ds)
  pub clone_e2e : IfSome s.clone_e2e (FitsRequest ds)
  pub resubmit : IfSome s.resubmit (FitsRequest ds)
  pub recirculate : IfSome s.recirculate (FitsRequest ds)
  pub events : All FitsEvent s.events

-- What a control runs with is of one program: what the declarations come to, and entries that fit their signature.
pub record IsSetting (c : Setting) : Type 0 where
  pub expanded : IsExpanded c.decls c.expanded
  pub entries : Fits c.entries (signature14 c.decls)

-- a preserved set of the program: a number for each field of metadata, and none for a header
abbrev pub FitsPreserved : List Decl → Decl → List ℕ → Type 0
FitsPreserved ds (decl.Metadata x) numbers = FitWidths (widths_of_type ds x.header_type) numbers
FitsPreserved ds _ numbers = numbers ≡ []

abbrev pub IsPreserved : List Decl → Preserved → Type 0
IsPreserved ds q = AllZip (FitsPreserved ds) (declared_in sort.Instance ds) q

-- a held value of the program: a state whose packet came in on a port
pub record IsHeld (ds : List Decl) (held : Held) : Type 0 where
  pub state : IsState ds held.state
  pub port : IsPort held.state.ingress_port

-- an item of the program, whose numbers fit the types that carry them
pub record IsItem (ds : List Decl) (came : QueueItem Preserved) : Type 0 where
  pub octets : IsOctets came.octets
  pub port : IsPort came.port
  pub instance : came.instance < 2 ^ 32
  pub kept : IsPreserved ds came.kept

-- what may stand between two calls of a pass
pub record IsBetween (c : Setting) (b : Between) : Type 0 where
  pub store : IsStoreOf (signature14 c.decls) c.entries b.store
  pub events : All FitsEvent b.events
