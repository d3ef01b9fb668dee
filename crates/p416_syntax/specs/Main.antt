-- T11: `main` hasn't six blocks with their parameters (`v1model.p4`): a parser of a packet that is read, H, M and the standard
-- metadata; verify and compute of H and M; ingress and egress of H, M and the standard metadata; a deparser of a packet
-- that is written and H. H is a struct of headers and stacks, M one of bits and of structs of bits; all blocks have the
-- same two.
use Rattle.std.specs.Prelude.{ℕ, zero, suc, Bool, true, false, ◌&&◌, ◌||◌, if◌then◌else◌, List, [], ◌∷◌, map, Option, Some, None}
use Rattle.std.specs.List.{list_all}
use Rattle.std.specs.Str.{bytes_eq}
use Rattle.p416_syntax.specs.declared.parts.Direction.{Direction}
use Rattle.p416_syntax.specs.declared.parts.Direction.TheVariants.{In, Out, InOut}
use Rattle.p416_syntax.specs.declared.parts.Param.{Param}
use Rattle.p416_syntax.specs.declared.program.Decl16.{Decl16}
use Rattle.p416_syntax.specs.declared.program.Decl16.TheVariants as decl
use Rattle.p416_syntax.specs.declared.program.Syntax16.{Syntax16}
use Rattle.p416_syntax.specs.Names.{Name}
use Rattle.p416_syntax.specs.Kinds.{Kind, struct, packet_in, packet_out, unknown, is_same_kind, is_bits, is_header, is_stack}
use Rattle.p416_syntax.specs.Scopes.{Known, Layout, FieldKind, fields_in, kind_of_type}
use Rattle.p416_syntax.specs.BuiltIn.{standard}
use Rattle.p416_syntax.specs.Declarations.{top_names, layouts_of}

-- where a name stands in `main`, counted from this place on
abbrev pub positions_from : ℕ → List Name → Name → List ℕ
positions_from n [] text = []
positions_from n (block ∷ blocks) text =
    if bytes_eq block text then n ∷ positions_from (suc n) blocks text else positions_from (suc n) blocks text

abbrev pub positions_of : Syntax16 → Name → List ℕ
positions_of s text = positions_from 0 s.main text

-- the blocks

-- what a block is
pub data BlockSort : Type 0 where
  a_parser : BlockSort
  a_control : BlockSort

-- a parameter by its direction and its kind
pub record Shape : Type 0 where
  pub direction : Option Direction
  pub kind : Kind

abbrev pub shape : Option Direction → Kind → Shape
shape direction kind = record { direction = direction; kind = kind }

abbrev pub parameter_shape : List Known → Param → Shape
parameter_shape names p = shape p.direction (kind_of_type names p.of)

-- a block with its parameters
pub record BlockShape : Type 0 where
  pub sort : BlockSort
  pub parameters : List Shape

abbrev pub block_in : List Known → Name → Decl16 → Option BlockShape
block_in names text (decl.Parser p) = if bytes_eq p.name text then Some (record { sort = a_parser; parameters = map (parameter_shape names) p.parameters }) else None
block_in names text (decl.Control c) = if bytes_eq c.name text then Some (record { sort = a_control; parameters = map (parameter_shape names) c.parameters }) else None
block_in names text _ = None

abbrev pub or_else : {A : Type 0} → Option A → Option A → Option A
or_else (Some x) y = Some x
or_else None y = y

abbrev pub block_of : List Known → List Decl16 → Name → Option BlockShape
block_of names [] text = None
block_of names (d ∷ ds) text = or_else (block_in names text d) (block_of names ds text)

-- the blocks that are wanted

abbrev pub is_same_direction : Option Direction → Option Direction → Bool
is_same_direction None None = true
is_same_direction (Some In) (Some In) = true
is_same_direction (Some Out) (Some Out) = true
is_same_direction (Some InOut) (Some InOut) = true
is_same_direction _ _ = false

-- a packet is of the same kind as another
abbrev pub is_same_parameter_kind : Kind → Kind → Bool
is_same_parameter_kind packet_in packet_in = true
is_same_parameter_kind packet_out packet_out = true
is_same_parameter_kind a b = is_same_kind a b

abbrev pub is_same_shape : Shape → Shape → Bool
is_same_shape a b = is_same_direction a.direction b.direction && is_same_parameter_kind a.kind b.kind

abbrev pub are_same_shapes : List Shape → List Shape → Bool
are_same_shapes [] [] = true
are_same_shapes (a ∷ xs) (b ∷ ys) = is_same_shape a b && are_same_shapes xs ys
are_same_shapes _ _ = false

abbrev pub is_same_sort : BlockSort → BlockSort → Bool
is_same_sort a_parser a_parser = true
is_same_sort a_control a_control = true
is_same_sort _ _ = false

abbrev pub is_block : BlockShape → Option BlockShape → Bool
is_block wanted None = false
is_block wanted (Some b) = is_same_sort wanted.sort b.sort && are_same_shapes wanted.parameters b.parameters

abbrev pub a_control_of : List Shape → BlockShape
a_control_of parameters = record { sort = a_control; parameters = parameters }

abbrev pub checksum_block : Kind → Kind → BlockShape
checksum_block h m = a_control_of (shape (Some InOut) h ∷ shape (Some InOut) m ∷ [])

abbrev pub pipeline_block : Kind → Kind → BlockShape
pipeline_block h m = a_control_of (shape (Some InOut) h ∷ shape (Some InOut) m ∷ shape (Some InOut) standard ∷ [])

-- the six blocks of H and M, in order
abbrev pub wanted_blocks : Kind → Kind → List BlockShape
wanted_blocks h m =
    record {
      sort = a_parser;
      parameters = shape None packet_in ∷ shape (Some Out) h ∷ shape (Some InOut) m ∷ shape (Some InOut) standard ∷ [];
    }
    ∷ checksum_block h m ∷ pipeline_block h m ∷ pipeline_block h m ∷ checksum_block h m
    ∷ a_control_of (shape None packet_out ∷ shape (Some In) h ∷ []) ∷ []

abbrev pub are_blocks : List Known → List Decl16 → List BlockShape → List Name → Bool
are_blocks names ds [] [] = true
are_blocks names ds (wanted ∷ more) (text ∷ main) = is_block wanted (block_of names ds text) && are_blocks names ds more main
are_blocks names ds _ _ = false

-- H and M

abbrev pub is_header_field : FieldKind → Bool
is_header_field f = is_header f.kind || is_stack f.kind

abbrev pub is_bits_field : FieldKind → Bool
is_bits_field f = is_bits f.kind

abbrev pub is_struct_where : (FieldKind → Bool) → List Layout → Kind → Bool
is_struct_where test layouts (struct type) = list_all test (fields_in layouts type)
is_struct_where test layouts _ = false

abbrev pub is_metadata_field : List Layout → FieldKind → Bool
is_metadata_field layouts f = is_bits f.kind || is_struct_where is_bits_field layouts f.kind

abbrev pub are_headers : List Layout → Kind → Bool
are_headers layouts k = is_struct_where is_header_field layouts k

abbrev pub is_metadata : List Layout → Kind → Bool
is_metadata layouts k = is_struct_where (is_metadata_field layouts) layouts k

-- the kinds of the second and the third parameter of the first block

abbrev pub kind_at : ℕ → List Shape → Kind
kind_at n [] = unknown
kind_at zero (a ∷ shapes) = a.kind
kind_at (suc n) (a ∷ shapes) = kind_at n shapes

abbrev pub block_kind : ℕ → Option BlockShape → Kind
block_kind n None = unknown
block_kind n (Some b) = kind_at n b.parameters

abbrev pub first_block : Syntax16 → Option BlockShape
first_block s = of s.main
  where
    of : List Name → Option BlockShape
    of [] = None
    of (text ∷ main) = block_of (top_names s.decls) s.decls text

abbrev pub headers_kind : Syntax16 → Kind
headers_kind s = block_kind 1 (first_block s)

abbrev pub metadata_kind : Syntax16 → Kind
metadata_kind s = block_kind 2 (first_block s)

abbrev pub is_main : Syntax16 → Bool
is_main s =
    are_blocks (top_names s.decls) s.decls (wanted_blocks (headers_kind s) (metadata_kind s)) s.main
    && (are_headers (layouts_of s.decls) (headers_kind s) && is_metadata (layouts_of s.decls) (metadata_kind s))
