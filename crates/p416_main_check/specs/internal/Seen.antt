-- What a block of code is among those of the rules, and the names of structs that were looked through.
use Rattle.std.specs.Prelude.{◌≡◌, true, List, [], ◌∷◌, map, Some, None}
use Rattle.p416_syntax.specs.declared.parts.Direction.TheVariants.{In, Out, InOut}
use Rattle.p416_syntax.specs.declared.parts.Param.{Param}
use Rattle.p416_syntax.specs.declared.program.Decl16.{Decl16}
use Rattle.p416_syntax.specs.Names.{Name, has_name}
use Rattle.p416_syntax.specs.Kinds.{Kind, struct, packet_in, packet_out}
use Rattle.p416_syntax.specs.BuiltIn.{standard}
use Rattle.p416_syntax.specs.Declarations.{layouts_of}
use Rattle.p416_syntax.specs.Scopes.{Known, kind_of_type}
use Rattle.p416_syntax.specs.Main.{BlockShape, a_parser, a_control, shape, a_control_of, parameter_shape, is_struct_where, is_bits_field}
use Rattle.p416_main_check.specs.declared.block.Block.{Block}
use Rattle.p416_main_check.specs.declared.block.Block.TheVariants as block

abbrev pub seen_block : List Known → Block → BlockShape
seen_block names (block.Parser ps) = record { sort = a_parser; parameters = map (parameter_shape names) ps.now }
seen_block names (block.Control ps) = record { sort = a_control; parameters = map (parameter_shape names) ps.now }

-- the kind of a parameter
abbrev pub parameter_kind : List Known → Param → Kind
parameter_kind names p = kind_of_type names p.of

-- the first and the last of the six blocks
abbrev pub parser_block : Kind → Kind → BlockShape
parser_block h m = record {
  sort = a_parser;
  parameters = shape None packet_in ∷ shape (Some Out) h ∷ shape (Some InOut) m ∷ shape (Some InOut) standard ∷ [];
}

abbrev pub deparser_block : Kind → BlockShape
deparser_block h = a_control_of (shape None packet_out ∷ shape (Some In) h ∷ [])

-- each of these is the name of a struct of bits alone
abbrev pub AreOfBits : List Decl16 → List Name → Type 0
AreOfBits ds names = (text : Name) → has_name names text ≡ true → is_struct_where is_bits_field (layouts_of ds) (struct text) ≡ true
