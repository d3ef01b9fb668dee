-- A control of an accepted program has parameters, the first of which is a name of one of the packet's values.
use Rattle.std.proofs.Common.{◌≡◌, ℕ, zero, suc, ◌<◌, ◌&&◌, Bool, true, false, cond, Some, None, List, [], ◌∷◌, length, map, get_or, refl, subst, arith, bytes_eq}
use Rattle.p416_syntax.specs.declared.parts.Param.{Param}
use Rattle.p416_syntax.specs.declared.parts.Direction.TheVariants.{In}
use Rattle.p416_syntax.specs.declared.controls.Control16.{Control16}
use Rattle.p416_syntax.specs.declared.program.Decl16.{Decl16}
use Rattle.p416_syntax.specs.declared.program.Decl16.TheVariants as decl
use Rattle.p416_syntax.specs.declared.program.Syntax16.{Syntax16}
use Rattle.p416_syntax.specs.Names.{Name}
use Rattle.p416_syntax.specs.Kinds.{packet_out}
use Rattle.p416_syntax.specs.Scopes.{Known}
use Rattle.p416_syntax.specs.Declarations.{parameter_name, top_names, layouts_of}
use Rattle.p416_syntax.specs.Main.{a_parser, Shape, shape, parameter_shape, BlockShape, or_else, block_of, are_same_shapes, is_block, a_control_of, checksum_block, pipeline_block, wanted_blocks, are_blocks, are_headers, is_metadata, headers_kind, metadata_kind, is_main}
use Rattle.p416_syntax.specs.Breaks.{program_rules, BreaksNone}
use Rattle.v1_core.specs.declared.block.Block.{Block}
use Rattle.v1_core.specs.declared.block.Block.TheVariants.{Verify, Ingress, Egress, Compute, Deparse}
use Rattle.v1_core.specs.Frames.{Owner}
use Rattle.v1_core.specs.Surroundings.{Root, rooted}
use Rattle.v1_core.specs.Blocks.{control_called, control_at, owners_of, position_of}
use Rattle.v1_block_laws.specs.Variables.{control_roots}
use Rattle.v1_block_laws.proofs.Tests.{left_true, right_true}
use Rattle.v1_block_laws.proofs.Accepted.{main_kept}

-- blocks in `main`

block_at : (names : List Known) (ds : List Decl16) (wanted : List BlockShape) (main : List Name) (n : ℕ) (other : BlockShape) → n < length wanted → are_blocks names ds wanted main ≡ true → is_block (get_or wanted n other) (block_of names ds (get_or main n [])) ≡ true
block_at names ds [] main n other within are = absurd (omega (arith, within))
block_at names ds (w ∷ wanted) [] n other within are = absurd (cc are)
block_at names ds (w ∷ wanted) (text ∷ main) zero other within are = left_true (is_block w (block_of names ds text)) (are_blocks names ds wanted main) are
block_at names ds (w ∷ wanted) (text ∷ main) (suc n) other within are =
    block_at names ds wanted main n other (omega (arith, within)) (right_true (is_block w (block_of names ds text)) (are_blocks names ds wanted main) are)

control_shapes : (names : List Known) (ds : List Decl16) (text : Name) (c : Control16) (shapes : List Shape) → control_called ds text ≡ Some c → is_block (a_control_of shapes) (block_of names ds text) ≡ true → are_same_shapes shapes (map (parameter_shape names) c.parameters) ≡ true
control_shapes names [] text c shapes e is = absurd (cc e)
control_shapes names (decl.Header x ∷ ds) text c shapes e is = control_shapes names ds text c shapes e is
control_shapes names (decl.Struct x ∷ ds) text c shapes e is = control_shapes names ds text c shapes e is
control_shapes names (decl.Instance notes i ∷ ds) text c shapes e is = control_shapes names ds text c shapes e is
control_shapes names (decl.Parser k ∷ ds) text c shapes e is = by (bytes_eq k.name text) (control_shapes names ds text c shapes e) is where
  by : (b : Bool) → (is_block (a_control_of shapes) (block_of names ds text) ≡ true → are_same_shapes shapes (map (parameter_shape names) c.parameters) ≡ true) → is_block (a_control_of shapes) (or_else (cond b (Some (record { sort = a_parser; parameters = map (parameter_shape names) k.parameters })) None) (block_of names ds text)) ≡ true → are_same_shapes shapes (map (parameter_shape names) c.parameters) ≡ true
  by true rest here = absurd (cc here)
  by false rest here = rest here
control_shapes names (decl.Control k ∷ ds) text c shapes e is = by (bytes_eq k.name text) (control_shapes names ds text c shapes) e is where
  by : (b : Bool) → (control_called ds text ≡ Some c → is_block (a_control_of shapes) (block_of names ds text) ≡ true → are_same_shapes shapes (map (parameter_shape names) c.parameters) ≡ true) → cond b (Some k) (control_called ds text) ≡ Some c → is_block (a_control_of shapes) (or_else (cond b (Some (a_control_of (map (parameter_shape names) k.parameters))) None) (block_of names ds text)) ≡ true → are_same_shapes shapes (map (parameter_shape names) c.parameters) ≡ true
  by true rest found here =
      let one : k ≡ c = cc found in
      subst (λ (x : Control16). are_same_shapes shapes (map (parameter_shape names) x.parameters) ≡ true) one here
  by false rest found here = rest found here

-- so it has a parameter where one is wanted
pub record HasRoot (roots : List Root) : Type 0 where
  pub first : Root
  pub others : List Root
  pub are : roots ≡ first ∷ others

abbrev StartsWith : List Shape → Type 0
StartsWith [] = ⊥
StartsWith (x ∷ shapes) = Unit {0}

abbrev OneOwner : List Owner → Type 0
OneOwner [] = ⊥
OneOwner (o ∷ owners) = Unit {0}

has_root : (names : List Known) (shapes : List Shape) (ps : List Param) (owners : List Owner) → StartsWith shapes → OneOwner owners → are_same_shapes shapes (map (parameter_shape names) ps) ≡ true → HasRoot (rooted (map parameter_name ps) owners)
has_root names [] ps owners h one same = absurd h
has_root names (x ∷ shapes) [] owners h one same = absurd (cc same)
has_root names (x ∷ shapes) (p ∷ ps) [] h one same = absurd one
has_root names (x ∷ shapes) (p ∷ ps) (o ∷ owners) h one same = record { first = record { called = p.name; owner = o }; others = rooted (map parameter_name ps) owners; are = refl }

module _ (syntax : Syntax16) (whole : is_main syntax ≡ true) where
  abbrev all_blocks : Bool
  all_blocks = are_blocks (top_names syntax.decls) syntax.decls (wanted_blocks (headers_kind syntax) (metadata_kind syntax)) syntax.main

  abbrev structs : Bool
  structs = are_headers (layouts_of syntax.decls) (headers_kind syntax) && is_metadata (layouts_of syntax.decls) (metadata_kind syntax)

  are_wanted : all_blocks ≡ true
  are_wanted = left_true all_blocks structs whole

  abbrev wanted_of : Block → List Shape
  wanted_of Verify = (checksum_block (headers_kind syntax) (metadata_kind syntax)).parameters
  wanted_of Ingress = (pipeline_block (headers_kind syntax) (metadata_kind syntax)).parameters
  wanted_of Egress = (pipeline_block (headers_kind syntax) (metadata_kind syntax)).parameters
  wanted_of Compute = (checksum_block (headers_kind syntax) (metadata_kind syntax)).parameters
  wanted_of Deparse = shape None packet_out ∷ shape (Some In) (headers_kind syntax) ∷ []

  abbrev wanted_at : Block → BlockShape
  wanted_at block = get_or (wanted_blocks (headers_kind syntax) (metadata_kind syntax)) (position_of block) (a_control_of [])

  control_wanted : (block : Block) → wanted_at block ≡ a_control_of (wanted_of block)
  control_wanted Verify = refl
  control_wanted Ingress = refl
  control_wanted Egress = refl
  control_wanted Compute = refl
  control_wanted Deparse = refl

  position_within : (block : Block) → position_of block < length (wanted_blocks (headers_kind syntax) (metadata_kind syntax))
  position_within Verify = omega arith
  position_within Ingress = omega arith
  position_within Egress = omega arith
  position_within Compute = omega arith
  position_within Deparse = omega arith

  one_wanted : (block : Block) → StartsWith (wanted_of block)
  one_wanted Verify = tt
  one_wanted Ingress = tt
  one_wanted Egress = tt
  one_wanted Compute = tt
  one_wanted Deparse = tt

  one_owner : (block : Block) → OneOwner (owners_of block)
  one_owner Verify = tt
  one_owner Ingress = tt
  one_owner Egress = tt
  one_owner Compute = tt
  one_owner Deparse = tt

  rooted_so : (block : Block) (c : Control16) → control_at syntax block ≡ Some c → HasRoot (control_roots block c)
  rooted_so block c found =
      has_root (top_names syntax.decls) (wanted_of block) c.parameters (owners_of block) (one_wanted block) (one_owner block)
      (control_shapes (top_names syntax.decls) syntax.decls (get_or syntax.main (position_of block) []) c (wanted_of block) found
      (subst (λ (w : BlockShape). is_block w (block_of (top_names syntax.decls) syntax.decls (get_or syntax.main (position_of block) [])) ≡ true) (control_wanted block)
      (block_at (top_names syntax.decls) syntax.decls (wanted_blocks (headers_kind syntax) (metadata_kind syntax)) syntax.main (position_of block) (a_control_of []) (position_within block) are_wanted)))

pub control_rooted : (syntax : Syntax16) (block : Block) (c : Control16) → BreaksNone syntax program_rules → control_at syntax block ≡ Some c → HasRoot (control_roots block c)
control_rooted syntax block c keeps found = rooted_so syntax (main_kept syntax keeps) block c found
