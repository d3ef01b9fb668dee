-- The program that is put together: types and objects, and six blocks with their parameters under fixed names (this
-- project's own; P4_16 1.2, "Control blocks", "Packet parsing", "Derived types"; `v1model.p4`, `V1Switch` and the
-- parameters of its blocks).
use Rattle.std.specs.Prelude.{◌≡◌, ◌⊎◌, ℕ, false, List, [], ◌∷◌, ◌++◌, Option, Some, None, codes}
use Rattle.p416_syntax.specs.declared.parts.Type16.{Type16}
use Rattle.p416_syntax.specs.declared.parts.Type16.TheVariants as type_of
use Rattle.p416_syntax.specs.declared.parts.Direction.{Direction}
use Rattle.p416_syntax.specs.declared.parts.Direction.TheVariants as direction
use Rattle.p416_syntax.specs.declared.parts.Param.{Param}
use Rattle.p416_syntax.specs.declared.parsers.Parser16.{Parser16}
use Rattle.p416_syntax.specs.declared.controls.Control16.{Control16}
use Rattle.p416_syntax.specs.declared.program.Decl16.{Decl16}
use Rattle.p416_syntax.specs.declared.program.Decl16.TheVariants as decl
use Rattle.p416_syntax.specs.declared.program.Syntax16.{Syntax16}
use Rattle.p416_syntax.specs.Names.{Name}
use Rattle.p416_syntax.specs.BuiltIn.{standard_name}
use Rattle.p416_syntax.specs.Unknown.{declares_twice}
use Rattle.v1_core.specs.Frames.{Owner, of_headers, of_metadata, of_standard}
use Rattle.lower_laws_base.specs.Mirror.{plain}

-- fixed names

-- the name of a parameter of a block
abbrev pub root_name : Owner → Name
root_name of_headers = codes "hdr"
root_name of_metadata = codes "meta"
root_name of_standard = codes "sm"
root_name _ = []

-- the name of the type of a parameter of a block
abbrev pub root_struct : Owner → Name
root_struct of_headers = codes "hs"
root_struct of_metadata = codes "ms"
root_struct of_standard = standard_name
root_struct _ = []

-- the name of the packet
abbrev pub packet_called : Name
packet_called = codes "packet"

-- the type of this name (P4_16, "P4 data types")
abbrev pub named_type : Name → Type16
named_type text = type_of.Named text None

-- a stack of so many (P4_16, "Header stacks")
abbrev pub stack_type : Name → ℕ → Type16
stack_type text size = type_of.Named text (Some (plain size))

-- bits (P4_16, "Base types")
abbrev pub bit_type : ℕ → Type16
bit_type width = type_of.Bit (plain width)

-- parameters

-- a parameter with a direction, its type and its name
abbrev pub parameter : Option Direction → Name → Name → Param
parameter d type text = record { direction = d; of = named_type type; name = text }

-- one of the three parameters of a block
abbrev pub root_parameter : Direction → Owner → Param
root_parameter d o = parameter (Some d) (root_struct o) (root_name o)

-- the parameters of the parser (`v1model.p4`, `Parser`)
abbrev pub parser_parameters : List Param
parser_parameters =
    parameter None (codes "packet_in") packet_called ∷ root_parameter direction.Out of_headers ∷ root_parameter direction.InOut of_metadata
    ∷ root_parameter direction.InOut of_standard ∷ []

-- those of the deparser (`v1model.p4`, `Deparser`)
abbrev pub deparser_parameters : List Param
deparser_parameters = parameter None (codes "packet_out") packet_called ∷ root_parameter direction.In of_headers ∷ []

-- those of the blocks that verify and update (`v1model.p4`, `VerifyChecksum`, `ComputeChecksum`)
abbrev pub checksum_parameters : List Param
checksum_parameters = root_parameter direction.InOut of_headers ∷ root_parameter direction.InOut of_metadata ∷ []

-- those of ingress and egress (`v1model.p4`, `Ingress`, `Egress`)
abbrev pub pipeline_parameters : List Param
pipeline_parameters =
    root_parameter direction.InOut of_headers ∷ root_parameter direction.InOut of_metadata ∷ root_parameter direction.InOut of_standard ∷ []

-- what each part of the lowering gives: types and objects, and the six blocks
pub record Parts : Type 0 where
  pub types : List Decl16
  pub parser : Parser16
  pub verify : Control16
  pub ingress : Control16
  pub egress : Control16
  pub compute : Control16
  pub deparser : Control16

-- the six blocks in the order of `main`
abbrev pub blocks_of : Parts → List Decl16
blocks_of p =
    decl.Parser p.parser ∷ decl.Control p.verify ∷ decl.Control p.ingress ∷ decl.Control p.egress ∷ decl.Control p.compute
    ∷ decl.Control p.deparser ∷ []

-- all declarations: types and objects first
abbrev pub decls_of : Parts → List Decl16
decls_of p = p.types ++ blocks_of p

-- the whole program: all declarations, and `main` with the blocks
abbrev pub syntax_of : Parts → Syntax16
syntax_of p = record {
  decls = decls_of p;
  main = p.parser.name ∷ p.verify.name ∷ p.ingress.name ∷ p.egress.name ∷ p.compute.name ∷ p.deparser.name ∷ [];
}

-- no name is declared twice at the top, nor is a built-in one
abbrev pub DeclaresOnce : Parts → Type 0
DeclaresOnce p = declares_twice (decls_of p) ≡ false
