-- What stands around the statements of a block of P4_16, what they see, and how a moment of them stands to one of P4_14
-- (this project's own; P4_14 1.0.5, "Headers and Fields", "Actions", "Standard Intrinsic Metadata"; P4_16 1.2, "Name
-- resolution", "L-values", "Variable declarations"; `v1model.p4`, `standard_metadata_t`).
use Rattle.std.specs.Prelude.{◌≡◌, ◌≢◌, ℕ, ◌<◌, ◌≤◌, ◌^◌, Bool, true, false, List, [], ◌∷◌, ◌++◌, length, get_or, slice_index, slice_index_or, is_some, Option, Some, None, codes}
use Rattle.std.specs.Option.{option_map_or}
use Rattle.state_store.specs.declared.shapes.Shape.{Shape}
use Rattle.state_store.specs.declared.shapes.Shape.TheVariants.{Counter, Direct, Register, Meter}
use Rattle.state_store.specs.State.{Contents, shape_at, IsStore}
use Rattle.p414_sem.specs.declared.standard.Standard.{Standard}
use Rattle.p414_sem.specs.declared.parsed.Parsed.{Parsed}
use Rattle.p414_sem.specs.Slots.{Slot, standard, declared, Element}
use Rattle.p414_sem.specs.State.{Instance, State, instance_at, place_of, standard_number}
use Rattle.p414_sem.specs.Operations.{Source, number, field, parameter}
use Rattle.p414_sem.specs.Effects.{Moment as Moment14}
use Rattle.p416_syntax.specs.Tree.{name}
use Rattle.p416_syntax.specs.Names.{Name, has_name}
use Rattle.p416_syntax.specs.Kinds.{ObjectKind, counter, direct_counter, register, meter, Kind, Enumeration, hash_algorithm, counter_type, meter_type, clone_type, bits, error_code, header, stack, struct, unknown}
use Rattle.p416_syntax.specs.BuiltIn.{functions, standard_name}
use Rattle.p416_syntax.specs.Scopes.{Scope, Sort, a_value, an_object as of_object, a_function as of_function, an_enumeration as of_enumeration, undeclared, sort_of, fields_in}
use Rattle.p416_syntax.specs.Expressions.{field_kind_in}
use Rattle.v1_core.specs.Values.{Value, no_value, no_members, a_member, a_number, an_error, Step, to_member, member_in, fitted}
use Rattle.v1_core.specs.Frames.{Moment, Frame, Hit, Owner, of_headers, of_metadata, of_standard, of_variables, Reference, whole, stepped, owned, place_value}
use Rattle.v1_core.specs.Surroundings.{World, by_root}
use Rattle.v1_core.specs.Calls.{object_in}
use Rattle.agreement_of_meanings.specs.Shown.{NamedField, Shown, as_header, as_stack, as_metadata, name_of, fields_of, is_metadata, owner_of, field_at, shown_at, NamesDiffer, standard_word, standard_width, element}
use Rattle.agreement_of_meanings.specs.Agrees.{NewNames, Agrees, IsElement, Corresponds, stop_of}

-- The parameters and variables that statements see beside the parameters of the block, the innermost first; so stand the
-- variables of a block, too.

-- a parameter or a variable by its name and its kind
pub record Local : Type 0 where
  pub called : Name
  pub kind : Kind

-- what stands where a list of them has none
abbrev pub no_local : Local
no_local = record { called = []; kind = unknown }

-- the parameter or variable at this place of the list
abbrev pub local_at : List Local → ℕ → Local
local_at ls j = slice_index_or ls j no_local

-- the value at this place of the list
abbrev pub value_at : List Value → ℕ → Value
value_at vs j = slice_index_or vs j no_value

-- what parameters and variables hold, as they stand in a frame
abbrev pub inner_of : List Local → List Value → Value
inner_of [] vs = no_members
inner_of (l ∷ ls) [] = no_members
inner_of (l ∷ ls) (v ∷ vs) = a_member l.called v (inner_of ls vs)

-- no two parameters or variables have one name
abbrev pub AreDistinct : List Local → Type 0
AreDistinct ls = (j k : ℕ) → j < length ls → k < length ls → j ≢ k → (local_at ls j).called ≢ (local_at ls k).called

-- no parameter or variable has this name
abbrev pub HasNone : List Local → Name → Type 0
HasNone ls text = (j : ℕ) → j < length ls → (local_at ls j).called ≢ text

-- What moments are measured by: the new names of the instances and lists, how many elements each instance has, which
-- parameters the block has, the members of their structs in order, the variables of the block, and the shapes of the objects.
pub record StateLayout : Type 0 where
  pub names : NewNames
  pub size_of : ℕ → ℕ
  pub has : Owner → Bool
  pub members : Owner → List Name
  pub variables : List Local
  pub shapes : List Shape

-- how the instance with this number is shown
abbrev pub shown_on : StateLayout → ℕ → Shown
shown_on g i = shown_at g.names.instances i

-- the block has this parameter, which is one of the three that P4_14 speaks of
abbrev pub HasRoot : StateLayout → Owner → Type 0
HasRoot g of_headers = g.has of_headers ≡ true
HasRoot g of_metadata = g.has of_metadata ≡ true
HasRoot g of_standard = g.has of_standard ≡ true
HasRoot g _ = ⊥

-- an object by its new name, its kind, and the bits of its cells where it is a register
pub record ObjectName : Type 0 where
  pub called : Name
  pub kind : ObjectKind
  pub width : ℕ

-- what stands where a list of objects has none
abbrev pub no_object : ObjectName
no_object = record { called = []; kind = counter; width = 0 }

-- the object with this number
abbrev pub object_at : List ObjectName → ℕ → ObjectName
object_at objects j = slice_index_or objects j no_object

-- the cells of an object are of this shape
abbrev pub IsShapeOf : ObjectName → Shape → Type 0
IsShapeOf o (Counter kind cells) = o.kind ≡ counter
IsShapeOf o (Direct kind cells) = o.kind ≡ direct_counter
IsShapeOf o (Register width cells) = (o.kind ≡ register) × (o.width ≡ width)
IsShapeOf o (Meter cells) = o.kind ≡ meter

-- What the lowering writes: the new names of instances and lists, how many elements each instance has, and the new names
-- of the parameters of the block, of the variables that hold copies of these, of objects by their numbers in P4_14, of the
-- variables of a primitive by its number, and of the parameters of the action.
pub record Words : Type 0 where
  pub names : NewNames
  pub size_of : ℕ → ℕ
  pub root : Owner → Name
  pub copy : Owner → Name
  pub objects : List ObjectName
  pub spare : ℕ → ℕ → Name
  pub parameters : List NamedField

-- the packet, as a parser or the deparser has it
pub record PacketName : Type 0 where
  pub called : Name
  pub kind : Kind

-- What stands around statements: the layout, the new names as in `Words`, which parameters of the block can be written, what
-- struct types they have, what type each instance has, and what actions and tables do.
pub record Lowering : Type 0 where
  pub layout : StateLayout
  pub root : Owner → Name
  pub copy : Owner → Name
  pub objects : List ObjectName
  pub spare : ℕ → ℕ → Name
  pub parameters : List NamedField
  pub can_write : Owner → Bool
  pub root_type : Owner → Name
  pub type_of : ℕ → Name
  pub packet : Option PacketName
  pub world : World

-- the words among what stands around statements
abbrev pub words_of : Lowering → Words
words_of c = record {
  names = c.layout.names;
  size_of = c.layout.size_of;
  root = c.root;
  copy = c.copy;
  objects = c.objects;
  spare = c.spare;
  parameters = c.parameters;
}

-- how the instance with this number is shown
abbrev pub shown_in : Lowering → ℕ → Shown
shown_in c i = shown_on c.layout i

-- how all instances are shown
abbrev pub instances_of : Lowering → List Shown
instances_of c = c.layout.names.instances

-- the kind of an instance's member with this type and number of elements: a header, a stack or a struct (P4_16 1.2,
-- "Header types", "Header stacks", "Derived types")
abbrev pub instance_kind : Shown → Name → ℕ → Kind
instance_kind (as_header called fields) type size = header type
instance_kind (as_stack called fields) type size = stack type size
instance_kind (as_metadata called fields) type size = struct type

-- the kind of an element: a header, also where it is one of a stack, or a struct of metadata
abbrev pub element_kind : Shown → Name → Kind
element_kind (as_header called fields) type = header type
element_kind (as_stack called fields) type = header type
element_kind (as_metadata called fields) type = struct type

-- Where operands are read: where the parameters of the block stand, or where their copies stand, which hold the moment at the
-- entry of an action.
pub data At : Type 0 where
  now : At
  entry : At

-- the name of a parameter of the block, or of its copy
abbrev pub root_at : Words → At → Owner → Name
root_at w now o = w.root o
root_at w entry o = w.copy o

-- what owns a parameter's value there: the parameter itself, or the variables of the block
abbrev pub owner_at : At → Owner → Owner
owner_at now o = o
owner_at entry o = of_variables

-- the steps from the owner to it: to the member of a copy
abbrev pub steps_at : Words → At → Owner → List Step
steps_at w now o = []
steps_at w entry o = to_member (w.copy o) ∷ []

-- a whole parameter there: itself, or the member of its copy
abbrev pub base_at : Words → At → Owner → Reference
base_at w at o = record { owner = owner_at at o; steps = steps_at w at o; slice = None }

-- the same part of a parameter, or of its copy
abbrev pub at_place : Words → At → Reference → Reference
at_place w at r = record { owner = owner_at at r.owner; steps = steps_at w at r.owner ++ r.steps; slice = r.slice }

-- a parameter has a copy among the variables of the block
pub record IsCopied (c : Lowering) (o : Owner) : Type 0 where
  pub place : ℕ
  pub within : place < length c.layout.variables
  pub stands : local_at c.layout.variables place ≡ record { called = c.copy o; kind = struct (c.root_type o) }

-- each parameter of the block has a copy of its own
pub record Copies (c : Lowering) : Type 0 where
  pub copied : (o : Owner) → HasRoot c.layout o → IsCopied c o
  pub differ : (o p : Owner) → HasRoot c.layout o → HasRoot c.layout p → c.copy o ≡ c.copy p → o ≡ p

-- where operands are read stands what is asked
abbrev pub HasAt : Lowering → At → Type 0
HasAt c now = Unit {0}
HasAt c entry = Copies c

-- What a block sees beside its parameters and variables of statements: by this all that a scope declares is named once.
pub data Item : Type 0 where
  a_root : (of : Owner) → Item
  a_copy : (of : Owner) → Item
  an_object : (number : ℕ) → Item
  a_function : (called : Name) → Item
  an_enumeration : (of : Enumeration) → Item
  the_packet : Item

-- the block sees this item
abbrev pub IsItem : Lowering → Item → Type 0
IsItem c (a_root o) = HasRoot c.layout o
IsItem c (a_copy o) = IsCopied c o
IsItem c (an_object j) = j < length c.objects
IsItem c (a_function called) = has_name functions called ≡ true
IsItem c (an_enumeration e) = Unit {0}
IsItem c the_packet = is_some c.packet ≡ true

-- the names of the enumerations of `v1model.p4`
abbrev pub enumeration_name : Enumeration → Name
enumeration_name hash_algorithm = codes "HashAlgorithm"
enumeration_name counter_type = codes "CounterType"
enumeration_name meter_type = codes "MeterType"
enumeration_name clone_type = codes "CloneType"

-- a packet by its name
abbrev pub packet_name : PacketName → Name
packet_name p = p.called

-- a packet is a value that can't be written
abbrev pub packet_sort : PacketName → Sort
packet_sort p = a_value p.kind false

-- the name of an item that a block sees
abbrev pub item_name : Lowering → Item → Name
item_name c (a_root o) = c.root o
item_name c (a_copy o) = c.copy o
item_name c (an_object j) = (object_at c.objects j).called
item_name c (a_function called) = called
item_name c (an_enumeration e) = enumeration_name e
item_name c the_packet = option_map_or packet_name c.packet []

-- what the name of an item stands for
abbrev pub item_sort : Lowering → Item → Sort
item_sort c (a_root o) = a_value (struct (c.root_type o)) (c.can_write o)
item_sort c (a_copy o) = a_value (struct (c.root_type o)) true
item_sort c (an_object j) = of_object (object_at c.objects j).kind
item_sort c (a_function called) = of_function
item_sort c (an_enumeration e) = of_enumeration e
item_sort c the_packet = option_map_or packet_sort c.packet undeclared

-- What a scope declares: the only facts on names, kinds and widths that proofs rest on.
pub record Declares (c : Lowering) (s : Scope) : Type 0 where
  pub differ : NamesDiffer (instances_of c)
  pub apart : AreDistinct c.layout.variables
  pub named : (x : Item) → IsItem c x → sort_of s (item_name c x) ≡ item_sort c x
  pub rooted : (o : Owner) → HasRoot c.layout o → by_root c.world.around.roots (c.root o) ≡ whole o
  pub copied : (o : Owner) → IsCopied c o → by_root c.world.around.roots (c.copy o) ≡ stepped (whole of_variables) (to_member (c.copy o))
  pub numbered : (j : ℕ) → j < length c.objects → object_in c.world (name (object_at c.objects j).called) ≡ j
  pub stored : length c.objects ≤ length c.layout.shapes
  pub shape : (j : ℕ) → j < length c.objects → IsShapeOf (object_at c.objects j) (shape_at c.layout.shapes j)
  pub instance : (i : ℕ) → i < length (instances_of c) → HasRoot c.layout (owner_of (shown_in c i)) → field_kind_in (fields_in s.layouts (c.root_type (owner_of (shown_in c i)))) (name_of (shown_in c i)) ≡ Some (instance_kind (shown_in c i) (c.type_of i) (c.layout.size_of i))
  pub field : (i k : ℕ) → i < length (instances_of c) → HasRoot c.layout (owner_of (shown_in c i)) → k < length (fields_of (shown_in c i)) → field_kind_in (fields_in s.layouts (c.type_of i)) (field_at (fields_of (shown_in c i)) k).called ≡ Some (bits (field_at (fields_of (shown_in c i)) k).width)
  pub standard_is : HasRoot c.layout of_standard → c.root_type of_standard ≡ standard_name
  pub standard : (which : Standard) → HasRoot c.layout of_standard → field_kind_in (fields_in s.layouts (c.root_type of_standard)) (standard_word which) ≡ Some (bits (standard_width which))
  pub error : HasRoot c.layout of_standard → field_kind_in (fields_in s.layouts (c.root_type of_standard)) (codes "parser_error") ≡ Some error_code
  pub checksum : HasRoot c.layout of_standard → field_kind_in (fields_in s.layouts (c.root_type of_standard)) (codes "checksum_error") ≡ Some (bits 1)

-- a scope with these parameters and variables of statements
pub record Sees (c : Lowering) (s : Scope) (ls : List Local) : Type 0 where
  pub declares : Declares c s
  pub locals : (j : ℕ) → j < length ls → (can : Bool) × (sort_of s (local_at ls j).called ≡ a_value (local_at ls j).kind can)
  pub distinct : AreDistinct ls
  pub apart : (x : Item) → IsItem c x → HasNone ls (item_name c x)

-- a name that nothing has that statements see (P4_16, "Name resolution")
pub record IsFresh (c : Lowering) (ls : List Local) (called : Name) : Type 0 where
  pub locals : HasNone ls called
  pub items : (x : Item) → IsItem c x → called ≢ item_name c x

-- the names of the variables of primitives from a number on
pub record Spares (c : Lowering) (ls : List Local) (b : ℕ) : Type 0 where
  pub free : (a i : ℕ) → b ≤ a → IsFresh c ls (c.spare a i)
  pub differ : (a i d j : ℕ) → c.spare a i ≡ c.spare d j → (a ≡ d) × (i ≡ j)

-- which elements and slots a block reaches

-- an element that is there, in a parameter that the block has
abbrev pub IsPart : StateLayout → Element → Type 0
IsPart g at =
    (at.instance < length g.names.instances) × (at.element < g.size_of at.instance) × HasRoot g (owner_of (shown_on g at.instance))

-- a field that is there, in a parameter that the block has
abbrev pub IsSlot : StateLayout → Slot → Type 0
IsSlot g (standard which) = HasRoot g of_standard
IsSlot g (declared i e k) =
    (i < length g.names.instances) × (e < g.size_of i) × HasRoot g (owner_of (shown_on g i)) × (k < length (fields_of (shown_on g i)))

-- States of the program: the forms and bounds that a state of P4_14 keeps, from names and sizes alone.

-- an element of an instance: of a form that its sort can have, with a number for each field within its width
pub record IsShaped (x : Shown) (i : Instance) (e : ℕ) : Type 0 where
  pub which : IsElement x i e
  pub count : length (element i e).numbers ≡ length (fields_of x)
  pub bounds : (k : ℕ) → k < length (fields_of x) → get_or (element i e).numbers k 0 < 2 ^ (field_at (fields_of x) k).width

-- as many instances as are shown, each with its elements and a place within them, and standard fields within their
-- widths
pub record Shaped (g : StateLayout) (s : State) : Type 0 where
  pub count : length s.instances ≡ length g.names.instances
  pub sizes : (i : ℕ) → i < length g.names.instances → length (instance_at s i).elements ≡ g.size_of i
  pub places : (i : ℕ) → i < length g.names.instances → place_of s i ≤ g.size_of i
  pub each : (i e : ℕ) → i < length g.names.instances → e < g.size_of i → IsShaped (shown_on g i) (instance_at s i) e
  pub standard : (which : Standard) → standard_number s which < 2 ^ standard_width which

-- values

-- a struct with these members in this order (P4_16 1.2, "Operations on struct types")
abbrev pub HasMembers : List Name → Value → Type 0
HasMembers [] no_members = Unit {0}
HasMembers [] v = ⊥
HasMembers (x ∷ xs) (a_member called of rest) = (called ≡ x) × HasMembers xs rest
HasMembers (x ∷ xs) v = ⊥

-- what is written whole, as a header, a stack or a struct (P4_16 1.2, "Assignment statement")
abbrev pub IsWhole : Value → Type 0
IsWhole v = (x : Value) → fitted v x ≡ x

-- some parameter or variable of statements holds this value
pub record Holds (ls : List Local) (vs : List Value) (l : Local) (v : Value) : Type 0 where
  pub place : ℕ
  pub within : place < length ls
  pub stands : local_at ls place ≡ l
  pub holds : value_at vs place ≡ v

-- a parameter of an action, as a local: bits of its width
abbrev pub local_of : NamedField → Local
local_of f = record { called = f.called; kind = bits f.width }

-- the argument of a parameter, which stands somewhere among the parameters and variables
pub record IsGiven (parameters : List NamedField) (ls : List Local) (vs : List Value) (arguments : List ℕ) (j : ℕ) : Type 0 where
  pub holds : Holds ls vs (local_of (field_at parameters j)) (a_number (field_at parameters j).width (slice_index arguments j))
  pub fits : slice_index arguments j < 2 ^ (field_at parameters j).width

-- the arguments of all parameters stand among them
abbrev pub AreGiven : List NamedField → List Local → List Value → List ℕ → Type 0
AreGiven parameters ls vs arguments = (j : ℕ) → j < length parameters → IsGiven parameters ls vs arguments j

-- moments

-- What no part of P4_14 speaks of: the errors in standard metadata by their numbers, what was emitted, and the entry that was
-- hit.
pub record Aside : Type 0 where
  pub error : ℕ
  pub checksum : ℕ
  pub emitted : List ℕ
  pub hit : Option Hit

-- the variables of the block, whatever they hold
pub record HasVariables (ls : List Local) (f : Frame) : Type 0 where
  pub values : List Value
  pub count : length values ≡ length ls
  pub is : f.variables ≡ inner_of ls values
  pub whole : (j : ℕ) → j < length ls → IsWhole (value_at values j)

-- a store of the program's objects, by their shapes
pub record Stored (shapes : List Shape) (store : Contents) : Type 0 where
  pub shapes_are : store.shapes ≡ shapes
  pub is_store : IsStore store

-- A moment of statements whose parameters and variables hold these values, beside a moment of P4_14 and the rest.
pub record Stands (g : StateLayout) (ls : List Local) (vs : List Value) (k : Aside) (m : Moment14) (n : Moment) : Type 0 where
  pub both : Corresponds g.names m n
  pub shaped : Shaped g m.state
  pub stored : Stored g.shapes m.store
  pub inner : n.frame.inner ≡ inner_of ls vs
  pub count : length vs ≡ length ls
  pub variables : HasVariables g.variables n.frame
  pub members : (o : Owner) → HasRoot g o → HasMembers (g.members o) (owned n.frame o)
  pub error : member_in n.frame.standard (codes "parser_error") ≡ an_error k.error
  pub checksum : member_in n.frame.standard (codes "checksum_error") ≡ a_number 1 k.checksum
  pub emitted : n.emitted ≡ k.emitted
  pub hit : n.hit ≡ k.hit

-- Where operands are read in a frame stands what shows this state.
pub record Seen (c : Lowering) (at : At) (r : State) (f : Frame) : Type 0 where
  pub frame : Frame
  pub agrees : Agrees c.layout.names r frame
  pub shaped : Shaped c.layout r
  pub same : (o : Owner) → HasRoot c.layout o → place_value f (base_at (words_of c) at o) ≡ owned frame o

-- Operands are read in the moment r: the moment as it stands, or the one that the copies hold, whose stacks have the places
-- that they have now.
abbrev pub Reads : Lowering → At → Moment14 → Moment14 → Frame → Type 0
Reads c now r m f = r ≡ m
Reads c entry r m f = Seen c entry r.state f × ((i : ℕ) → place_of m.state i ≡ place_of r.state i)

-- All that operands ask of a frame: names, parameters and variables of statements, arguments, and a state that is read.
pub record Looks (c : Lowering) (s : Scope) (ls : List Local) (vs : List Value) (arguments : List ℕ) (at : At) (r : State) (f : Frame) : Type 0 where
  pub sees : Sees c s ls
  pub inner : f.inner ≡ inner_of ls vs
  pub count : length vs ≡ length ls
  pub given : AreGiven c.parameters ls vs arguments
  pub has : HasAt c at
  pub seen : Seen c at r f

-- an operand that the block can have: its field or its parameter is there
abbrev pub SourceFits : Lowering → Source → Type 0
SourceFits c (number z) = Unit {0}
SourceFits c (field slot) = IsSlot c.layout slot
SourceFits c (parameter j) = j < length c.parameters

-- a header or an element of a stack that the block reaches, and no metadata
abbrev pub IsHeaderPart : StateLayout → Element → Type 0
IsHeaderPart g at = IsPart g at × (is_metadata (shown_on g at.instance) ≡ false)

-- both parsers ended in the same way: but for the error, the moment still stands beside the other
pub record Halted (g : StateLayout) (k : Aside) (end : Parsed) (m : Moment14) (n : Moment) : Type 0 where
  pub moment : Moment
  pub stands : Stands g [] [] k m moment
  pub is : n ≡ record moment { stopped = stop_of end }
