-- The slots of a program's frames that a pass reads and writes by itself, as they were found (this project's own).
use Rattle.std.specs.Prelude.{◌≡◌, ◌⊎◌, ℕ, ◌+◌, ◌<◌, ◌≤◌, List, [], ◌∷◌, length, map, slice_index, Some, None, All, codes}
use Rattle.p416_syntax.specs.declared.lexeme.Literal16.{Literal16}
use Rattle.p416_syntax.specs.declared.parts.Type16.TheVariants as type_of
use Rattle.p416_syntax.specs.declared.parts.StructField.{StructField}
use Rattle.p416_syntax.specs.declared.program.Decl16.{Decl16}
use Rattle.p416_syntax.specs.declared.program.Syntax16.{Syntax16}
use Rattle.p416_syntax.specs.Names.{Name}
use Rattle.p416_syntax.specs.Kinds.{Kind, struct}
use Rattle.p416_syntax.specs.Scopes.{fields_in, kind_of_type}
use Rattle.p416_syntax.specs.Declarations.{top_names, layouts_of, struct_field}
use Rattle.p416_syntax.specs.Main.{metadata_kind}
use Rattle.v1_core.specs.Values.{to_member}
use Rattle.v1_core.specs.Slots.{the_standard, FramePart, part_with}
use Rattle.v1_core.specs.Passes.{struct_called}
use Rattle.v1_core.specs.Seats.{some_bits, slot_form, Start}
use Rattle.v1_core.specs.Programs.{layout16, part_seat}
use Rattle.v1_pass_slots.specs.declared.slots.Slots.{Slots}
use Rattle.v1_pass_slots.specs.declared.slots.PassSlots.{PassSlots}
use Rattle.v1_pass_slots.specs.Starts.{metadata_start, standard_start, variables_start}
use Rattle.v1_pass_slots.specs.Lists.{all_lists}

-- a field of the standard metadata
abbrev pub standard_part : Name → FramePart
standard_part word = part_with the_standard (to_member word ∷ [])

-- it stands in this slot, which has so many bits
pub record IsStandard (s : Syntax16) (word : Name) (width slot : ℕ) : Type 0 where
  pub depth : ℕ
  pub start : Start
  pub begins : start.slot ≡ slot
  pub seat :
      part_seat s (standard_part word)
      ≡ Some (record { depth = depth; form = slot_form (some_bits width); start = start; owner = None })
  pub within : slot < length (layout16 s).widths
  pub wide : slice_index (layout16 s).widths slot ≡ width

-- between these stand slots alone
pub record AreSlots (b e : Start) (slots : Slots) : Type 0 where
  pub from : slots.from ≡ b.slot
  pub to : slots.to ≡ e.slot
  pub headers : e.header ≡ b.header
  pub stacks : e.stack ≡ b.stack

-- the struct with a name has these fields
pub record IsStruct (ds : List Decl16) (text : Name) (fields : List StructField) : Type 0 where
  pub called : struct_called ds text ≡ fields
  pub kinds : fields_in (layouts_of ds) text ≡ map (struct_field (top_names ds)) fields

-- a field of bits
pub record IsBits (f : StructField) : Type 0 where
  pub width : Literal16
  pub of : f.of ≡ type_of.Bit width

-- a field that is a struct of bits
pub record IsInner (ds : List Decl16) (f : StructField) : Type 0 where
  pub text : Name
  pub fields : List StructField
  pub of : f.of ≡ type_of.Named text None
  pub kind : kind_of_type (top_names ds) f.of ≡ struct text
  pub is : IsStruct ds text fields
  pub bits : All IsBits fields

abbrev pub IsMetadataField : List Decl16 → StructField → Type 0
IsMetadataField ds f = IsBits f ⊎ IsInner ds f

-- metadata of a kind, with the lists of each of its slots
pub record IsMetadata (ds : List Decl16) (k : Kind) (lists : List (List ℕ)) : Type 0 where
  pub text : Name
  pub fields : List StructField
  pub kind : k ≡ struct text
  pub is : IsStruct ds text fields
  pub each : All (IsMetadataField ds) fields
  pub lists_are : lists ≡ all_lists ds fields
  pub deep : 2 ≤ length (layouts_of ds)

-- the slots that a pass reads and writes by itself
pub record ArePassSlots (s : Syntax16) (p : PassSlots) : Type 0 where
  pub ingress_port : IsStandard s (codes "ingress_port") 9 p.fields.ingress_port
  pub egress_spec : IsStandard s (codes "egress_spec") 9 p.fields.egress_spec
  pub egress_port : IsStandard s (codes "egress_port") 9 p.fields.egress_port
  pub packet_length : IsStandard s (codes "packet_length") 32 p.fields.packet_length
  pub instance_type : IsStandard s (codes "instance_type") 32 p.fields.instance_type
  pub standard : AreSlots (standard_start s) (variables_start s) p.standard
  pub metadata : AreSlots (metadata_start s) (standard_start s) p.metadata
  pub standard_order : p.standard.from ≤ p.standard.to
  pub lists : IsMetadata s.decls (metadata_kind s) p.lists.items
  pub count : p.metadata.to ≡ p.metadata.from + length p.lists.items
