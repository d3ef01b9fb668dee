-- The parameters of a block of an accepted program: headers, metadata, standard metadata and packets, as T11 wants them.
use Rattle.std.proofs.Common.{◌≡◌, ℕ, zero, suc, ◌<◌, ◌&&◌, Bool, true, false, cond, Option, Some, None, List, [], ◌∷◌, ◌++◌, length, map, get_or, refl, sym, ap, ◌∙◌, subst, arith}
use Rattle.std.specs.List.{AllZip}
use Rattle.std.specs.Str.{bytes_eq}
use Rattle.std.proofs.lemmas.Slice.Eq.{bytes_eq-Decides}
use Rattle.p416_syntax.specs.declared.parts.Param.{Param}
use Rattle.p416_syntax.specs.declared.parts.Direction.{Direction}
use Rattle.p416_syntax.specs.declared.parts.Direction.TheVariants.{In, Out, InOut}
use Rattle.p416_syntax.specs.declared.parsers.Parser16.{Parser16}
use Rattle.p416_syntax.specs.declared.controls.Control16.{Control16}
use Rattle.p416_syntax.specs.declared.program.Decl16.{Decl16}
use Rattle.p416_syntax.specs.declared.program.Decl16.TheVariants as decl
use Rattle.p416_syntax.specs.declared.program.Syntax16.{Syntax16}
use Rattle.p416_syntax.specs.Names.{Name}
use Rattle.p416_syntax.specs.Kinds.{Kind, bits, unsized, boolean, error_code, header, stack, struct, packet_in, packet_out, errors, enumeration, one_of, table, applied, object, items, nothing, unknown}
use Rattle.p416_syntax.specs.Scopes.{a_value, Layout as TypeLayout, FieldKind, Known, kind_of_type, is_written, known_parameter, sort_in}
use Rattle.p416_syntax.specs.BuiltIn.{standard, standard_name}
use Rattle.p416_syntax.specs.Declarations.{parameter_name, top_names, layouts_of}
use Rattle.p416_syntax.specs.Main.{a_parser, Shape, shape, parameter_shape, BlockShape, or_else, block_of, is_same_direction, is_same_parameter_kind, is_same_shape, are_same_shapes, is_block, a_control_of, checksum_block, pipeline_block, wanted_blocks, are_blocks, is_header_field, is_metadata_field, is_struct_where, are_headers, is_metadata, headers_kind, metadata_kind, is_main}
use Rattle.v1_core.specs.declared.block.Block.{Block}
use Rattle.v1_core.specs.declared.block.Block.TheVariants.{Verify, Ingress, Egress, Compute, Deparse}
use Rattle.v1_core.specs.Frames.{Owner, of_headers, of_metadata, of_standard}
use Rattle.v1_core.specs.Surroundings.{rooted}
use Rattle.v1_core.specs.Parsing.{parser_called, parser_of, parser_owners}
use Rattle.v1_core.specs.Blocks.{control_called, control_at, owners_of, position_of}
use Rattle.v1_core.specs.Seats.{form_of}
use Rattle.v1_ready_forms.specs.Named.{NamedSeat, seat_of_name, root_seat, seat_of_root}
use Rattle.v1_ready_laws.specs.Rules.{SortSeated}
use Rattle.v1_block_laws.proofs.Tests.{left_true, right_true}
use Rattle.v1_block_laws.proofs.Naming.{Seated}

-- kinds of parameters

struct_same : (type : Name) (k : Kind) → is_same_parameter_kind (struct type) k ≡ true → struct type ≡ k
struct_same type (struct other) same = ap struct ((bytes_eq-Decides type other).0 same)
struct_same type (bits width) same = absurd (cc same)
struct_same type unsized same = absurd (cc same)
struct_same type boolean same = absurd (cc same)
struct_same type error_code same = absurd (cc same)
struct_same type (header other) same = absurd (cc same)
struct_same type (stack other size) same = absurd (cc same)
struct_same type packet_in same = absurd (cc same)
struct_same type packet_out same = absurd (cc same)
struct_same type errors same = absurd (cc same)
struct_same type (enumeration of) same = absurd (cc same)
struct_same type (one_of of) same = absurd (cc same)
struct_same type table same = absurd (cc same)
struct_same type applied same = absurd (cc same)
struct_same type (object of) same = absurd (cc same)
struct_same type items same = absurd (cc same)
struct_same type nothing same = absurd (cc same)
struct_same type unknown same = absurd (cc same)

packet_in_unseated : (k : Kind) (can : Bool) → is_same_parameter_kind packet_in k ≡ true → SortSeated (a_value k can) None
packet_in_unseated packet_in can same = tt
packet_in_unseated (bits width) can same = absurd (cc same)
packet_in_unseated unsized can same = absurd (cc same)
packet_in_unseated boolean can same = absurd (cc same)
packet_in_unseated error_code can same = absurd (cc same)
packet_in_unseated (header other) can same = absurd (cc same)
packet_in_unseated (stack other size) can same = absurd (cc same)
packet_in_unseated (struct other) can same = absurd (cc same)
packet_in_unseated packet_out can same = absurd (cc same)
packet_in_unseated errors can same = absurd (cc same)
packet_in_unseated (enumeration of) can same = absurd (cc same)
packet_in_unseated (one_of of) can same = absurd (cc same)
packet_in_unseated table can same = absurd (cc same)
packet_in_unseated applied can same = absurd (cc same)
packet_in_unseated (object of) can same = absurd (cc same)
packet_in_unseated items can same = absurd (cc same)
packet_in_unseated nothing can same = absurd (cc same)
packet_in_unseated unknown can same = absurd (cc same)

packet_out_unseated : (k : Kind) (can : Bool) → is_same_parameter_kind packet_out k ≡ true → SortSeated (a_value k can) None
packet_out_unseated packet_out can same = tt
packet_out_unseated (bits width) can same = absurd (cc same)
packet_out_unseated unsized can same = absurd (cc same)
packet_out_unseated boolean can same = absurd (cc same)
packet_out_unseated error_code can same = absurd (cc same)
packet_out_unseated (header other) can same = absurd (cc same)
packet_out_unseated (stack other size) can same = absurd (cc same)
packet_out_unseated (struct other) can same = absurd (cc same)
packet_out_unseated packet_in can same = absurd (cc same)
packet_out_unseated errors can same = absurd (cc same)
packet_out_unseated (enumeration of) can same = absurd (cc same)
packet_out_unseated (one_of of) can same = absurd (cc same)
packet_out_unseated table can same = absurd (cc same)
packet_out_unseated applied can same = absurd (cc same)
packet_out_unseated (object of) can same = absurd (cc same)
packet_out_unseated items can same = absurd (cc same)
packet_out_unseated nothing can same = absurd (cc same)
packet_out_unseated unknown can same = absurd (cc same)

-- a parameter whose kind is wanted stands at the seat of its owner
abbrev Owns : Syntax16 → Owner → Shape → Type 0
Owns syntax owner wanted =
    (k : Kind) (can : Bool) → is_same_parameter_kind wanted.kind k ≡ true → SortSeated (a_value k can) (root_seat syntax owner)

-- a struct
abbrev IsStruct : Kind → Type 0
IsStruct k = (type : Name) × (struct type ≡ k)

struct_is : (test : FieldKind → Bool) (layouts : List TypeLayout) (k : Kind) → is_struct_where test layouts k ≡ true → IsStruct k
struct_is test layouts (struct type) is = (type, refl)
struct_is test layouts (bits width) is = absurd (cc is)
struct_is test layouts unsized is = absurd (cc is)
struct_is test layouts boolean is = absurd (cc is)
struct_is test layouts error_code is = absurd (cc is)
struct_is test layouts (header type) is = absurd (cc is)
struct_is test layouts (stack type size) is = absurd (cc is)
struct_is test layouts packet_in is = absurd (cc is)
struct_is test layouts packet_out is = absurd (cc is)
struct_is test layouts errors is = absurd (cc is)
struct_is test layouts (enumeration of) is = absurd (cc is)
struct_is test layouts (one_of of) is = absurd (cc is)
struct_is test layouts table is = absurd (cc is)
struct_is test layouts applied is = absurd (cc is)
struct_is test layouts (object of) is = absurd (cc is)
struct_is test layouts items is = absurd (cc is)
struct_is test layouts nothing is = absurd (cc is)
struct_is test layouts unknown is = absurd (cc is)

struct_matches : (wanted k : Kind) → IsStruct wanted → is_same_parameter_kind wanted k ≡ true → wanted ≡ k
struct_matches wanted k is same =
    sym is.1 ∙ struct_same is.0 k (subst (λ (w : Kind). is_same_parameter_kind w k ≡ true) (sym is.1) same)

headers_owned : (syntax : Syntax16) (d : Option Direction) → IsStruct (headers_kind syntax) → Owns syntax of_headers (shape d (headers_kind syntax))
headers_owned syntax d is k can same = ap form_of (struct_matches (headers_kind syntax) k is same)

metadata_owned : (syntax : Syntax16) (d : Option Direction) → IsStruct (metadata_kind syntax) → Owns syntax of_metadata (shape d (metadata_kind syntax))
metadata_owned syntax d is k can same = ap form_of (struct_matches (metadata_kind syntax) k is same)

standard_owned : (syntax : Syntax16) (d : Option Direction) → Owns syntax of_standard (shape d standard)
standard_owned syntax d k can same = ap form_of (struct_same standard_name k same)

-- parameters one behind another

pub roots_seated : (syntax : Syntax16) (tops names : List Known) (seats : List NamedSeat) (owners : List Owner) (shapes : List Shape) (ps : List Param) → AllZip (Owns syntax) owners shapes → are_same_shapes shapes (map (parameter_shape tops) ps) ≡ true → Seated names seats → Seated (map (known_parameter tops) ps ++ names) (map (seat_of_root syntax) (rooted (map parameter_name ps) owners) ++ seats)
roots_seated syntax tops names seats [] [] [] owns same seated text = seated text
roots_seated syntax tops names seats [] [] (p ∷ ps) owns same seated text = absurd (cc same)
roots_seated syntax tops names seats [] (x ∷ shapes) ps owns same seated text = absurd owns
roots_seated syntax tops names seats (o ∷ owners) [] ps owns same seated text = absurd owns
roots_seated syntax tops names seats (o ∷ owners) (x ∷ shapes) [] owns same seated text = absurd (cc same)
roots_seated syntax tops names seats (o ∷ owners) (x ∷ shapes) (p ∷ ps) owns same seated text =
    by (bytes_eq p.name text) (roots_seated syntax tops names seats owners shapes ps owns.1 (right_true first more same) seated text) where
      first : Bool
      first = is_same_shape x (parameter_shape tops p)

      more : Bool
      more = are_same_shapes shapes (map (parameter_shape tops) ps)

      kind : Kind
      kind = kind_of_type tops p.of

      by : (b : Bool) → SortSeated (sort_in (map (known_parameter tops) ps ++ names) text) (seat_of_name (map (seat_of_root syntax) (rooted (map parameter_name ps) owners) ++ seats) text) → SortSeated (cond b (a_value kind (is_written p.direction)) (sort_in (map (known_parameter tops) ps ++ names) text)) (cond b (root_seat syntax o) (seat_of_name (map (seat_of_root syntax) (rooted (map parameter_name ps) owners) ++ seats) text))
      by true rest = owns.0 kind (is_written p.direction) (right_true (is_same_direction x.direction p.direction) (is_same_parameter_kind x.kind kind) (left_true first more same))
      by false rest = rest

-- blocks in `main`

block_at : (names : List Known) (ds : List Decl16) (wanted : List BlockShape) (main : List Name) (n : ℕ) (other : BlockShape) → n < length wanted → are_blocks names ds wanted main ≡ true → is_block (get_or wanted n other) (block_of names ds (get_or main n [])) ≡ true
block_at names ds [] main n other within are = absurd (omega (arith, within))
block_at names ds (w ∷ wanted) [] n other within are = absurd (cc are)
block_at names ds (w ∷ wanted) (text ∷ main) zero other within are = left_true (is_block w (block_of names ds text)) (are_blocks names ds wanted main) are
block_at names ds (w ∷ wanted) (text ∷ main) (suc n) other within are =
    block_at names ds wanted main n other (omega (arith, within)) (right_true (is_block w (block_of names ds text)) (are_blocks names ds wanted main) are)

abbrev a_parser_of : List Shape → BlockShape
a_parser_of shapes = record { sort = a_parser; parameters = shapes }

control_shapes : (names : List Known) (ds : List Decl16) (text : Name) (c : Control16) (shapes : List Shape) → control_called ds text ≡ Some c → is_block (a_control_of shapes) (block_of names ds text) ≡ true → are_same_shapes shapes (map (parameter_shape names) c.parameters) ≡ true
control_shapes names [] text c shapes e is = absurd (cc e)
control_shapes names (decl.Header x ∷ ds) text c shapes e is = control_shapes names ds text c shapes e is
control_shapes names (decl.Struct x ∷ ds) text c shapes e is = control_shapes names ds text c shapes e is
control_shapes names (decl.Instance notes i ∷ ds) text c shapes e is = control_shapes names ds text c shapes e is
control_shapes names (decl.Parser k ∷ ds) text c shapes e is = by (bytes_eq k.name text) (control_shapes names ds text c shapes e) is where
  by : (b : Bool) → (is_block (a_control_of shapes) (block_of names ds text) ≡ true → are_same_shapes shapes (map (parameter_shape names) c.parameters) ≡ true) → is_block (a_control_of shapes) (or_else (cond b (Some (a_parser_of (map (parameter_shape names) k.parameters))) None) (block_of names ds text)) ≡ true → are_same_shapes shapes (map (parameter_shape names) c.parameters) ≡ true
  by true rest here = absurd (cc here)
  by false rest here = rest here
control_shapes names (decl.Control k ∷ ds) text c shapes e is = by (bytes_eq k.name text) (control_shapes names ds text c shapes) e is where
  by : (b : Bool) → (control_called ds text ≡ Some c → is_block (a_control_of shapes) (block_of names ds text) ≡ true → are_same_shapes shapes (map (parameter_shape names) c.parameters) ≡ true) → cond b (Some k) (control_called ds text) ≡ Some c → is_block (a_control_of shapes) (or_else (cond b (Some (a_control_of (map (parameter_shape names) k.parameters))) None) (block_of names ds text)) ≡ true → are_same_shapes shapes (map (parameter_shape names) c.parameters) ≡ true
  by true rest found here =
      let one : k ≡ c = cc found in
      subst (λ (x : Control16). are_same_shapes shapes (map (parameter_shape names) x.parameters) ≡ true) one here
  by false rest found here = rest found here

parser_shapes : (names : List Known) (ds : List Decl16) (text : Name) (p : Parser16) (shapes : List Shape) → parser_called ds text ≡ Some p → is_block (a_parser_of shapes) (block_of names ds text) ≡ true → are_same_shapes shapes (map (parameter_shape names) p.parameters) ≡ true
parser_shapes names [] text p shapes e is = absurd (cc e)
parser_shapes names (decl.Header x ∷ ds) text p shapes e is = parser_shapes names ds text p shapes e is
parser_shapes names (decl.Struct x ∷ ds) text p shapes e is = parser_shapes names ds text p shapes e is
parser_shapes names (decl.Instance notes i ∷ ds) text p shapes e is = parser_shapes names ds text p shapes e is
parser_shapes names (decl.Control k ∷ ds) text p shapes e is = by (bytes_eq k.name text) (parser_shapes names ds text p shapes e) is where
  by : (b : Bool) → (is_block (a_parser_of shapes) (block_of names ds text) ≡ true → are_same_shapes shapes (map (parameter_shape names) p.parameters) ≡ true) → is_block (a_parser_of shapes) (or_else (cond b (Some (a_control_of (map (parameter_shape names) k.parameters))) None) (block_of names ds text)) ≡ true → are_same_shapes shapes (map (parameter_shape names) p.parameters) ≡ true
  by true rest here = absurd (cc here)
  by false rest here = rest here
parser_shapes names (decl.Parser k ∷ ds) text p shapes e is = by (bytes_eq k.name text) (parser_shapes names ds text p shapes) e is where
  by : (b : Bool) → (parser_called ds text ≡ Some p → is_block (a_parser_of shapes) (block_of names ds text) ≡ true → are_same_shapes shapes (map (parameter_shape names) p.parameters) ≡ true) → cond b (Some k) (parser_called ds text) ≡ Some p → is_block (a_parser_of shapes) (or_else (cond b (Some (a_parser_of (map (parameter_shape names) k.parameters))) None) (block_of names ds text)) ≡ true → are_same_shapes shapes (map (parameter_shape names) p.parameters) ≡ true
  by true rest found here =
      let one : k ≡ p = cc found in
      subst (λ (x : Parser16). are_same_shapes shapes (map (parameter_shape names) x.parameters) ≡ true) one here
  by false rest found here = rest found here

-- the blocks of an accepted program

module _ (syntax : Syntax16) (whole : is_main syntax ≡ true) where
  abbrev blocks : Bool
  blocks = are_blocks (top_names syntax.decls) syntax.decls (wanted_blocks (headers_kind syntax) (metadata_kind syntax)) syntax.main

  abbrev structs : Bool
  structs = are_headers (layouts_of syntax.decls) (headers_kind syntax) && is_metadata (layouts_of syntax.decls) (metadata_kind syntax)

  are_wanted : blocks ≡ true
  are_wanted = left_true blocks structs whole

  both : structs ≡ true
  both = right_true blocks structs whole

  headers_are : IsStruct (headers_kind syntax)
  headers_are = struct_is is_header_field (layouts_of syntax.decls) (headers_kind syntax) (left_true (are_headers (layouts_of syntax.decls) (headers_kind syntax)) (is_metadata (layouts_of syntax.decls) (metadata_kind syntax)) both)

  metadata_are : IsStruct (metadata_kind syntax)
  metadata_are = struct_is (is_metadata_field (layouts_of syntax.decls)) (layouts_of syntax.decls) (metadata_kind syntax) (right_true (are_headers (layouts_of syntax.decls) (headers_kind syntax)) (is_metadata (layouts_of syntax.decls) (metadata_kind syntax)) both)

  -- the parameters that a control at a place is to have
  abbrev wanted_of : Block → List Shape
  wanted_of Verify = (checksum_block (headers_kind syntax) (metadata_kind syntax)).parameters
  wanted_of Ingress = (pipeline_block (headers_kind syntax) (metadata_kind syntax)).parameters
  wanted_of Egress = (pipeline_block (headers_kind syntax) (metadata_kind syntax)).parameters
  wanted_of Compute = (checksum_block (headers_kind syntax) (metadata_kind syntax)).parameters
  wanted_of Deparse = shape None packet_out ∷ shape (Some In) (headers_kind syntax) ∷ []

  abbrev wanted_at : Block → BlockShape
  wanted_at block = get_or (wanted_blocks (headers_kind syntax) (metadata_kind syntax)) (position_of block) (a_control_of [])

  control_wanted : (block : Block) → wanted_at block ≡ a_control_of (wanted_of block)
  control_wanted Verify = refl
  control_wanted Ingress = refl
  control_wanted Egress = refl
  control_wanted Compute = refl
  control_wanted Deparse = refl

  position_within : (block : Block) → position_of block < length (wanted_blocks (headers_kind syntax) (metadata_kind syntax))
  position_within Verify = omega arith
  position_within Ingress = omega arith
  position_within Egress = omega arith
  position_within Compute = omega arith
  position_within Deparse = omega arith

  owned : (block : Block) → AllZip (Owns syntax) (owners_of block) (wanted_of block)
  owned Verify = (headers_owned syntax (Some InOut) headers_are, (metadata_owned syntax (Some InOut) metadata_are, tt))
  owned Ingress = (headers_owned syntax (Some InOut) headers_are, (metadata_owned syntax (Some InOut) metadata_are, (standard_owned syntax (Some InOut), tt)))
  owned Egress = (headers_owned syntax (Some InOut) headers_are, (metadata_owned syntax (Some InOut) metadata_are, (standard_owned syntax (Some InOut), tt)))
  owned Compute = (headers_owned syntax (Some InOut) headers_are, (metadata_owned syntax (Some InOut) metadata_are, tt))
  owned Deparse = (packet_out_unseated, (headers_owned syntax (Some In) headers_are, tt))

  pub control_roots_seated : (block : Block) (c : Control16) (names : List Known) (seats : List NamedSeat) → control_at syntax block ≡ Some c → Seated names seats → Seated (map (known_parameter (top_names syntax.decls)) c.parameters ++ names) (map (seat_of_root syntax) (rooted (map parameter_name c.parameters) (owners_of block)) ++ seats)
  control_roots_seated block c names seats found seated =
      roots_seated syntax (top_names syntax.decls) names seats (owners_of block) (wanted_of block) c.parameters (owned block)
      (control_shapes (top_names syntax.decls) syntax.decls (get_or syntax.main (position_of block) []) c (wanted_of block) found
      (subst (λ (w : BlockShape). is_block w (block_of (top_names syntax.decls) syntax.decls (get_or syntax.main (position_of block) [])) ≡ true) (control_wanted block)
      (block_at (top_names syntax.decls) syntax.decls (wanted_blocks (headers_kind syntax) (metadata_kind syntax)) syntax.main (position_of block) (a_control_of []) (position_within block) are_wanted)))
      seated

  abbrev parser_wanted : List Shape
  parser_wanted = shape None packet_in ∷ shape (Some Out) (headers_kind syntax) ∷ shape (Some InOut) (metadata_kind syntax) ∷ shape (Some InOut) standard ∷ []

  parser_owned : AllZip (Owns syntax) parser_owners parser_wanted
  parser_owned = (packet_in_unseated, (headers_owned syntax (Some Out) headers_are, (metadata_owned syntax (Some InOut) metadata_are, (standard_owned syntax (Some InOut), tt))))

  pub parser_roots_seated : (p : Parser16) (names : List Known) (seats : List NamedSeat) → parser_of syntax ≡ Some p → Seated names seats → Seated (map (known_parameter (top_names syntax.decls)) p.parameters ++ names) (map (seat_of_root syntax) (rooted (map parameter_name p.parameters) parser_owners) ++ seats)
  parser_roots_seated p names seats found seated =
      roots_seated syntax (top_names syntax.decls) names seats parser_owners parser_wanted p.parameters parser_owned
      (parser_shapes (top_names syntax.decls) syntax.decls (get_or syntax.main 0 []) p parser_wanted found
      (block_at (top_names syntax.decls) syntax.decls (wanted_blocks (headers_kind syntax) (metadata_kind syntax)) syntax.main 0 (a_control_of []) (omega arith) are_wanted))
      seated
