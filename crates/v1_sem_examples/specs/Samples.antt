-- The program of the examples, of which each changes a part.
use Rattle.std.specs.Prelude.{ℕ, List, [], ◌∷◌, ◌++◌, Some, None, codes}
use Rattle.p416_syntax.specs.declared.parts.Type16.TheVariants.{Named}
use Rattle.p416_syntax.specs.declared.parts.Direction.{Direction}
use Rattle.p416_syntax.specs.declared.parts.Direction.TheVariants.{In, Out, InOut}
use Rattle.p416_syntax.specs.declared.parts.Param.{Param}
use Rattle.p416_syntax.specs.declared.parts.StructField.{StructField}
use Rattle.p416_syntax.specs.declared.parsers.Var.{Var}
use Rattle.p416_syntax.specs.declared.parsers.State.{State}
use Rattle.p416_syntax.specs.declared.controls.Local.{Local}
use Rattle.p416_syntax.specs.declared.program.Decl16.{Decl16}
use Rattle.p416_syntax.specs.declared.program.Decl16.TheVariants as decl
use Rattle.p416_syntax.specs.declared.program.Syntax16.{Syntax16}
use Rattle.p416_syntax.specs.Tree.{Exp16, Stmt16, assign}
use Rattle.p416_syntax.specs.Names.{Name}
use Rattle.v1_sem_examples.specs.Parts.{n, number, bit_field, named, bits_type, struct_field, listed_field, param, hdr, field, sm, statements, extract, emit, state, accept}

-- Q1: its header has 14 octets, and its ingress sends on port 3

abbrev pub headers_param : Direction → Param
headers_param d = param (Some d) (named (codes "hs")) (codes "hdr")

abbrev pub metadata_param : Param
metadata_param = param (Some InOut) (named (codes "ms")) (codes "meta")

abbrev pub standard_param : Param
standard_param = param (Some InOut) (named (codes "standard_metadata_t")) (codes "sm")

abbrev pub parser_params : List Param
parser_params = param None (named (codes "packet_in")) (codes "p") ∷ headers_param Out ∷ metadata_param ∷ standard_param ∷ []

abbrev pub checksum_params : List Param
checksum_params = headers_param InOut ∷ metadata_param ∷ []

abbrev pub pipeline_params : List Param
pipeline_params = headers_param InOut ∷ metadata_param ∷ standard_param ∷ []

abbrev pub deparser_params : List Param
deparser_params = param None (named (codes "packet_out")) (codes "p") ∷ headers_param In ∷ []

abbrev pub control : Name → List Param → List Local → Stmt16 → Decl16
control called parameters locals body =
    decl.Control (record { name = called; parameters = parameters; locals = locals; body = body })

abbrev pub to_port_3 : Stmt16
to_port_3 = assign (sm (codes "egress_spec")) (n 9 3)

-- the names of the blocks
abbrev pub main : List Name
main = codes "P" ∷ codes "V" ∷ codes "I" ∷ codes "E" ∷ codes "C" ∷ codes "D" ∷ []

-- what is changed
pub record Sample : Type 0 where
  -- the types, and what else stands at the top
  pub types : List Decl16
  pub variables : List Var
  pub states : List State
  pub verify_locals : List Local
  pub verify : List Stmt16
  pub ingress_locals : List Local
  pub ingress : List Stmt16
  pub egress_locals : List Local
  pub egress : List Stmt16
  pub compute_locals : List Local
  pub compute : List Stmt16
  pub deparser : List Stmt16

abbrev pub program : Sample → Syntax16
program s = record {
  decls =
      s.types
      ++ (decl.Parser (record { name = codes "P"; parameters = parser_params; vars = s.variables; states = s.states })
      ∷ control (codes "V") checksum_params s.verify_locals (statements s.verify)
      ∷ control (codes "I") pipeline_params s.ingress_locals (statements s.ingress)
      ∷ control (codes "E") pipeline_params s.egress_locals (statements s.egress)
      ∷ control (codes "C") checksum_params s.compute_locals (statements s.compute)
      ∷ control (codes "D") deparser_params [] (statements s.deparser)
      ∷ []);
  main = main;
}

abbrev pub q1 : Sample
q1 = record {
  types =
      decl.Header (record {
        name = codes "h_t";
        fields = bit_field 48 (codes "a") ∷ bit_field 48 (codes "b") ∷ bit_field 16 (codes "c") ∷ [];
      })
      ∷ decl.Struct (record { name = codes "hs"; fields = struct_field (named (codes "h_t")) (codes "h") ∷ [] })
      ∷ decl.Struct (record { name = codes "ms"; fields = [] })
      ∷ [];
  variables = [];
  states = state (codes "start") (extract (hdr (codes "h")) ∷ []) accept ∷ [];
  verify_locals = [];
  verify = [];
  ingress_locals = [];
  ingress = to_port_3 ∷ [];
  egress_locals = [];
  egress = [];
  compute_locals = [];
  compute = [];
  deparser = emit (hdr (codes "h")) ∷ [];
}

-- two headers of fields x, y and z, a stack of two, and this metadata
abbrev pub types_with : List StructField → List Decl16
types_with fields =
    decl.Header (record {
      name = codes "h_t";
      fields = bit_field 8 (codes "x") ∷ bit_field 8 (codes "y") ∷ bit_field 16 (codes "z") ∷ [];
    })
    ∷ decl.Header (record { name = codes "e_t"; fields = bit_field 8 (codes "v") ∷ [] })
    ∷ decl.Struct (record {
      name = codes "hs";
      fields =
          struct_field (named (codes "h_t")) (codes "h") ∷ struct_field (named (codes "h_t")) (codes "i")
          ∷ struct_field (Named (codes "e_t") (Some (number 2))) (codes "s") ∷ [];
    })
    ∷ decl.Struct (record { name = codes "ms"; fields = fields })
    ∷ []

-- metadata k and l, of which list 1 preserves k
abbrev pub small_types : List Decl16
small_types = types_with (listed_field 1 (bits_type 8) (codes "k") ∷ struct_field (bits_type 8) (codes "l") ∷ [])

-- it extracts h, sends on port 3 and emits h, i and s
abbrev pub small : Sample
small = record {
  types = small_types;
  variables = [];
  states = state (codes "start") (extract (hdr (codes "h")) ∷ []) accept ∷ [];
  verify_locals = [];
  verify = [];
  ingress_locals = [];
  ingress = to_port_3 ∷ [];
  egress_locals = [];
  egress = [];
  compute_locals = [];
  compute = [];
  deparser = emit (hdr (codes "h")) ∷ emit (hdr (codes "i")) ∷ emit (hdr (codes "s")) ∷ [];
}

-- the same with these statements in front of the one that sends
abbrev pub doing : List Stmt16 → Sample
doing xs = record small { ingress = xs ++ to_port_3 ∷ [] }

-- the same with these statements of the parser behind `extract`
abbrev pub parsing : List Stmt16 → Sample
parsing xs = record small { states = state (codes "start") (extract (hdr (codes "h")) ∷ xs) accept ∷ [] }

-- `hdr.h.x`, `hdr.h.y`, `hdr.h.z`
abbrev pub h_x : Exp16
h_x = field (codes "h") (codes "x")

abbrev pub h_y : Exp16
h_y = field (codes "h") (codes "y")

abbrev pub h_z : Exp16
h_z = field (codes "h") (codes "z")

-- the packet of most examples: x is 0x12, y is 0x34, z is 0
abbrev pub packet : List ℕ
packet = 0x12 ∷ 0x34 ∷ 0 ∷ 0 ∷ []
