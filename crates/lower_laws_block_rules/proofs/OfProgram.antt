-- The parser and the deparser of a program that is put together break no rule.
use Rattle.std.proofs.Common.{◌≡◌, inl, inr, false, List, [], ◌∷◌, ◌++◌, length, map, refl, sym, ap, ◌∙◌, arith}
use Rattle.std.specs.Prelude.{codes}
use Rattle.std.proofs.lemmas.List.{map-append}
use Rattle.p414_syntax.specs.declared.syntax.Decl.{Decl}
use Rattle.p414_sem.specs.Slots.{standard, declared}
use Rattle.p414_sem.specs.declared.standard.Standard.TheVariants.{IngressPort, EgressSpec, EgressPort, PacketLength, InstanceType}
use Rattle.p414_sem.specs.Expanded.{Expanded}
use Rattle.p416_syntax.specs.declared.program.Decl16.{Decl16}
use Rattle.p416_syntax.specs.Names.{Name, repeats}
use Rattle.p416_syntax.specs.Kinds.{packet_in, packet_out}
use Rattle.p416_syntax.specs.BuiltIn.{standard_name, standard as standard_kind}
use Rattle.p416_syntax.specs.Scopes.{Scope, a_type, known, sort_of}
use Rattle.p416_syntax.specs.Main.{positions_of}
use Rattle.p416_syntax.specs.Breaks.{scope_of}
use Rattle.v1_core.specs.Surroundings.{World}
use Rattle.v1_core.specs.Frames.{of_headers, of_metadata}
use Rattle.lower_laws_base.specs.Context.{StateLayout}
use Rattle.lower_laws_program.specs.Program.{root_struct, Parts, blocks_of, syntax_of, DeclaresOnce}
use Rattle.lower_laws_program.specs.TypesFit.{TypeWords, TypesFit}
use Rattle.lower_laws_program.specs.Scopes.{BlockWords, block_lowering}
use Rattle.lower_laws_program.proofs.Tops.{decl_name}
use Rattle.lower_laws_program.proofs.Layouts.{type_sorts, built_sorts, decls_once}
use Rattle.lower_laws_rules.proofs.Names.{stands_at_once}
use Rattle.lower_laws_block_rules.specs.Widths.{SlotsWide}
use Rattle.lower_laws_block_rules.specs.Wholes.{IsStruct}
use Rattle.lower_laws_block_rules.specs.Program.{LayoutWide}
use Rattle.lower_laws_block_rules.proofs.NewNames.{last_once}

-- on the layout of a block fields have as many bits
pub wide_here : (g : StateLayout) (t : TypeWords) (b : BlockWords) (w : World) → LayoutWide g → SlotsWide (block_lowering g t b w)
wide_here g t b w wide (standard IngressPort) is = (omega arith, omega arith)
wide_here g t b w wide (standard EgressSpec) is = (omega arith, omega arith)
wide_here g t b w wide (standard EgressPort) is = (omega arith, omega arith)
wide_here g t b w wide (standard PacketLength) is = (omega arith, omega arith)
wide_here g t b w wide (standard InstanceType) is = (omega arith, omega arith)
wide_here g t b w wide (declared i e k) is = wide i k is.0 is.3

module _ (g : StateLayout) (ds : List Decl) (x : Expanded) (t : TypeWords) (p : Parts) (fits : TypesFit g ds x t p.types) (once : DeclaresOnce p) where
  -- types at the top, in the scope of each block

  abbrev top : Decl16 → Scope
  top d = scope_of (syntax_of p) d

  pub struct_headers : (d : Decl16) → IsStruct (top d) (root_struct of_headers)
  struct_headers d = type_sorts g ds x t p fits once _ fits.headers_struct

  pub struct_metadata : (d : Decl16) → IsStruct (top d) (root_struct of_metadata)
  struct_metadata d = type_sorts g ds x t p fits once _ fits.metadata_struct

  pub struct_standard : (d : Decl16) → IsStruct (top d) standard_name
  struct_standard d = built_sorts g ds x t p fits once (known (a_type standard_kind) standard_name) (inr (inr (inl refl)))

  pub type_in : (d : Decl16) → sort_of (top d) (codes "packet_in") ≡ a_type packet_in
  type_in d = built_sorts g ds x t p fits once (known (a_type packet_in) (codes "packet_in")) (inl refl)

  pub type_out : (d : Decl16) → sort_of (top d) (codes "packet_out") ≡ a_type packet_out
  type_out d = built_sorts g ds x t p fits once (known (a_type packet_out) (codes "packet_out")) (inr (inl refl))

  -- each block stands once in `main`
  main_once : repeats (syntax_of p).main ≡ false
  main_once = last_once (map decl_name p.types) (map decl_name (blocks_of p)) (ap repeats (sym (map-append decl_name p.types (blocks_of p))) ∙ decls_once g ds x t p fits once)

  pub placed : (before after : List Name) (text : Name) → (syntax_of p).main ≡ before ++ text ∷ after → positions_of (syntax_of p) text ≡ length before ∷ []
  placed before after text is = stands_at_once (syntax_of p) before after text is main_once
