-- Which values are of a kind, and which entries, items, frames, preserved values and held values are those of a program: each
-- number is below 2 ^ width, each part is there that the type declares, and the fields of an invalid header are 0 (P4_16
-- 1.2, "P4 data types", "Operations on headers", "Operations on header stacks").
use Rattle.std.specs.Prelude.{◌≡◌, ℕ, suc, ◌^◌, ◌<◌, ◌≤◌, false, List, [], ◌∷◌, length, All, IfSome}
use Rattle.std.specs.List.{AllZip}
use Rattle.p4x_bits.specs.BitLists.{IsOctets}
use Rattle.state_store.specs.Ports.{IsPort}
use Rattle.match_core.specs.Fits.{Fits}
use Rattle.match_core.specs.Stores.{IsStoreOf}
use Rattle.fabric.specs.declared.items.Event.{Event}
use Rattle.fabric.specs.declared.items.Item.{Item}
use Rattle.p416_syntax.specs.declared.program.Syntax16.{Syntax16}
use Rattle.p416_syntax.specs.Kinds.{Kind, bits, boolean, error_code, header, stack, struct}
use Rattle.p416_syntax.specs.Scopes.{Layout, FieldKind, fields_in}
use Rattle.p416_syntax.specs.BuiltIn.{standard}
use Rattle.p416_syntax.specs.Declarations.{layouts_of}
use Rattle.p416_syntax.specs.Main.{headers_kind, metadata_kind}
use Rattle.p416_syntax.specs.Totals.{bits_in}
use Rattle.v1_core.specs.Values.{Field, Header, Value, a_number, a_truth, an_error, a_header, a_stack, no_members, a_member, cleared}
use Rattle.v1_core.specs.Frames.{Request, Frame}
use Rattle.v1_core.specs.Signatures.{signature16}
use Rattle.v1_core.specs.Surroundings.{Setting}
use Rattle.v1_core.specs.Passes.{Between, Held}
use Rattle.v1_core.specs.Slots.{variable_kinds}
use Rattle.v1_core.specs.Numbered.{Numbered, frame_in, nobody}

-- a field of a header type
pub record FitsField (f : FieldKind) (of : Field) : Type 0 where
  pub called : of.called ≡ f.called
  pub width : of.width ≡ bits_in f.kind
  pub number : of.number < 2 ^ of.width

-- a header with these fields, which are 0 where it is invalid
pub record FitsHeader (fields : List FieldKind) (h : Header) : Type 0 where
  pub each : AllZip FitsField fields h.fields
  pub zeros : h.valid ≡ false → h ≡ cleared false h

-- a stack of so many elements; its place is that of an element, or the one behind the last
pub record FitsStack (fields : List FieldKind) (size place : ℕ) (elements : List Header) : Type 0 where
  pub each : All (FitsHeader fields) elements
  pub count : length elements ≡ size
  pub place_within : place ≤ size

-- the members of a struct, in order
abbrev pub FitsMembers : (Kind → Value → Type 0) → List FieldKind → Value → Type 0
FitsMembers P [] no_members = Unit {0}
FitsMembers P (f ∷ fields) (a_member called of rest) = (called ≡ f.called) × P f.kind of × FitsMembers P fields rest
FitsMembers P _ _ = ⊥

-- a value of a kind, through so many structs within each other
abbrev pub FitsWithin : List Layout → ℕ → Kind → Value → Type 0
FitsWithin layouts n (bits width) (a_number w number) = (w ≡ width) × (number < 2 ^ width)
FitsWithin layouts n boolean (a_truth holds) = Unit {0}
FitsWithin layouts n error_code (an_error number) = number < 4
FitsWithin layouts n (header type) (a_header h) = FitsHeader (fields_in layouts type) h
FitsWithin layouts n (stack type size) (a_stack place elements) = FitsStack (fields_in layouts type) size place elements
FitsWithin layouts (suc n) (struct type) v = FitsMembers (λ k of. FitsWithin layouts n k of) (fields_in layouts type) v
FitsWithin layouts _ _ _ = ⊥

abbrev pub FitsKind : List Layout → Kind → Value → Type 0
FitsKind layouts k v = FitsWithin layouts (length layouts) k v

-- a session has 32 bits, and the number of a list has 8
pub record FitsRequest (r : Request) : Type 0 where
  pub session : r.0 < 2 ^ 32
  pub list : r.1 < 2 ^ 8

-- an application of a table, whose numbers have 32 bits
pub record FitsEvent (e : Event) : Type 0 where
  pub table : e.table < 2 ^ 32
  pub entry : IfSome e.entry (λ number. number < 2 ^ 32)
  pub action : IfSome e.action (λ number. number < 2 ^ 32)

-- a frame of the program, between two blocks
pub record IsFrame (syntax : Syntax16) (f : Frame) : Type 0 where
  pub headers : FitsKind (layouts_of syntax.decls) (headers_kind syntax) f.headers
  pub metadata : FitsKind (layouts_of syntax.decls) (metadata_kind syntax) f.metadata
  pub standard_metadata : FitsKind (layouts_of syntax.decls) standard f.standard
  pub variables : f.variables ≡ no_members
  pub inner : f.inner ≡ no_members
  pub clone_i2e : IfSome f.clone_i2e FitsRequest
  pub clone_e2e : IfSome f.clone_e2e FitsRequest
  pub resubmit : IfSome f.resubmit FitsRequest
  pub recirculate : IfSome f.recirculate FitsRequest
  pub events : All FitsEvent f.events

-- the values of the program whose parts have numbers: between two blocks they are a frame
pub record IsNumbered (syntax : Syntax16) (x : Numbered) : Type 0 where
  pub frame : IsFrame syntax (frame_in nobody x)
  pub variables : AllZip (FitsKind (layouts_of syntax.decls)) (variable_kinds syntax) x.variables

-- a preserved value of the program
abbrev pub IsPreserved : Syntax16 → Value → Type 0
IsPreserved syntax v = FitsKind (layouts_of syntax.decls) (metadata_kind syntax) v

-- a held value of the program
pub record IsHeld (syntax : Syntax16) (held : Held) : Type 0 where
  pub frame : IsFrame syntax held.frame
  pub unparsed : IsOctets held.unparsed
  pub port : IsPort held.port

-- an item of the program, whose numbers fit the types that carry them
pub record IsItem (syntax : Syntax16) (came : Item Value) : Type 0 where
  pub octets : IsOctets came.octets
  pub port : IsPort came.port
  pub instance : came.instance < 2 ^ 32
  pub kept : IsPreserved syntax came.kept

-- entries of the program
abbrev pub IsSetting : Setting → Type 0
IsSetting c = Fits c.entries (signature16 c.syntax)

-- what may stand between two calls of a pass
pub record IsBetween (c : Setting) (b : Between) : Type 0 where
  pub store : IsStoreOf (signature16 c.syntax) c.entries b.store
  pub work : b.work < 2 ^ 64
  pub events : All FitsEvent b.events
