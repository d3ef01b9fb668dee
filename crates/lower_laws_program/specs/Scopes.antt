-- What a block's own scope tells beside the names at the top: parameters, variables, states, actions and tables (this
-- project's own; P4_16 1.2, "Name resolution", "Control blocks", "Packet parsing"; `v1model.p4`, the enumerations).
use Rattle.std.specs.Prelude.{◌≡◌, ℕ, ◌<◌, ◌≤◌, Bool, true, false, List, [], ◌∷◌, ◌++◌, length, is_some, Option}
use Rattle.std.specs.List.{AllByRecursion}
use Rattle.std.specs.Option.{option_map_or}
use Rattle.std.specs.Str.{bytes_eq}
use Rattle.state_store.specs.State.{shape_at}
use Rattle.p416_syntax.specs.declared.parts.Note.{Note}
use Rattle.p416_syntax.specs.declared.controls.Instance.{Instance}
use Rattle.p416_syntax.specs.declared.program.Decl16.TheVariants as decl
use Rattle.p416_syntax.specs.Tree.{name}
use Rattle.p416_syntax.specs.Names.{Name}
use Rattle.p416_syntax.specs.Kinds.{hash_algorithm, counter_type, meter_type, clone_type, struct}
use Rattle.p416_syntax.specs.BuiltIn.{functions}
use Rattle.p416_syntax.specs.Scopes.{Known, Scope, a_value, an_object, undeclared, sort_of}
use Rattle.p416_syntax.specs.Declarations.{instance_name, instance_sort, top_names, layouts_of}
use Rattle.v1_core.specs.Values.{to_member}
use Rattle.v1_core.specs.Frames.{Owner, of_variables, whole, stepped}
use Rattle.v1_core.specs.Surroundings.{World, by_root}
use Rattle.v1_core.specs.Calls.{object_in}
use Rattle.agreement_of_meanings.specs.Shown.{NamedField}
use Rattle.lower_laws_base.specs.Context.{Local, AreDistinct, StateLayout, HasRoot, ObjectName, object_at, IsShapeOf, PacketName, Lowering, IsCopied, packet_name, packet_sort, enumeration_name}
use Rattle.lower_laws_program.specs.Program.{root_name, root_struct, Parts, decls_of}
use Rattle.lower_laws_program.specs.TypesFit.{TypeWords}
use Rattle.lower_laws_states.specs.Expansions.{Has}

-- what is told of one block
pub record BlockWords : Type 0 where
  pub has : Owner → Bool
  pub variables : List Local
  pub copy : Owner → Name
  pub objects : List ObjectName
  pub spare : ℕ → ℕ → Name
  pub parameters : List NamedField
  pub can_write : Owner → Bool
  pub packet : Option PacketName

-- the layout of a block
abbrev pub block_layout : StateLayout → BlockWords → StateLayout
block_layout g b = record { names = g.names; size_of = g.size_of; has = b.has; members = g.members; variables = b.variables; shapes = g.shapes }

-- what stands around the statements of a block
abbrev pub block_lowering : StateLayout → TypeWords → BlockWords → World → Lowering
block_lowering g t b w = record {
  layout = block_layout g b;
  root = root_name;
  copy = b.copy;
  objects = b.objects;
  spare = b.spare;
  parameters = b.parameters;
  can_write = b.can_write;
  root_type = root_struct;
  type_of = t.type_of;
  packet = b.packet;
  world = w;
}

-- none of these nearer names is this one (P4_16, "Name resolution")
abbrev pub IsClear : List Known → Name → Type 0
IsClear [] text = Unit {0}
IsClear (k ∷ near) text = (bytes_eq k.called text ≡ false) × IsClear near text

-- the names of the enumerations that statements use
abbrev pub enumerations : List Name
enumerations =
    enumeration_name hash_algorithm ∷ enumeration_name counter_type ∷ enumeration_name meter_type ∷ enumeration_name clone_type ∷ []

-- an object at the top under this name, which nothing nearer hides
pub record IsDeclared (p : Parts) (near : List Known) (o : ObjectName) : Type 0 where
  pub notes : List Note
  pub instance : Instance
  pub has : Has p.types (decl.Instance notes instance)
  pub named : instance_name instance ≡ o.called
  pub sort : instance_sort instance ≡ an_object o.kind
  pub clear : IsClear near o.called

-- What the scope of a block promises: its own names stand before those at the top, its parameters, copies and packet
-- are what they are said to be, nothing nearer hides a built-in name or an object, and objects have their numbers and
-- shapes.
pub record NearFits (g : StateLayout) (t : TypeWords) (p : Parts) (b : BlockWords) (w : World) (s : Scope) (near : List Known) : Type 0 where
  pub names_are : s.names ≡ near ++ top_names (decls_of p)
  pub layouts_are : s.layouts ≡ layouts_of (decls_of p)
  pub apart : AreDistinct b.variables
  pub roots : (o : Owner) → HasRoot (block_layout g b) o → sort_of s (root_name o) ≡ a_value (struct (root_struct o)) (b.can_write o)
  pub copies : (o : Owner) → IsCopied (block_lowering g t b w) o → sort_of s (b.copy o) ≡ a_value (struct (root_struct o)) true
  pub packet : is_some b.packet ≡ true → sort_of s (option_map_or packet_name b.packet []) ≡ option_map_or packet_sort b.packet undeclared
  pub rooted : (o : Owner) → HasRoot (block_layout g b) o → by_root w.around.roots (root_name o) ≡ whole o
  pub copied : (o : Owner) → IsCopied (block_lowering g t b w) o → by_root w.around.roots (b.copy o) ≡ stepped (whole of_variables) (to_member (b.copy o))
  pub functions_clear : AllByRecursion (IsClear near) functions
  pub enumerations_clear : AllByRecursion (IsClear near) enumerations
  pub objects : (j : ℕ) → j < length b.objects → IsDeclared p near (object_at b.objects j)
  pub numbered : (j : ℕ) → j < length b.objects → object_in w (name (object_at b.objects j).called) ≡ j
  pub stored : length b.objects ≤ length g.shapes
  pub shape : (j : ℕ) → j < length b.objects → IsShapeOf (object_at b.objects j) (shape_at g.shapes j)
