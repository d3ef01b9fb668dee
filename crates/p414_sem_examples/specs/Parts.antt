-- Short names for the parts of a program.
use Rattle.std.specs.Prelude.{ℕ, List, [], ◌∷◌, Some, None, codes}
use Rattle.p414_syntax.specs.declared.lexeme.Literal.{Literal}
use Rattle.p414_syntax.specs.declared.parts.Sign.TheVariants.{Minus}
use Rattle.p414_syntax.specs.declared.parts.Number.{Number}
use Rattle.p414_syntax.specs.declared.parts.Inst.{Inst}
use Rattle.p414_syntax.specs.declared.parts.Ref.{Ref}
use Rattle.p414_syntax.specs.declared.headers.FieldWidth.TheVariants.{Bits}
use Rattle.p414_syntax.specs.declared.headers.Field.{Field}
use Rattle.p414_syntax.specs.declared.actions.Arg.{Arg}
use Rattle.p414_syntax.specs.declared.actions.Arg.TheVariants as arg
use Rattle.p414_syntax.specs.declared.actions.Call.{Call}
use Rattle.p414_syntax.specs.declared.tables.TableAttr.TheVariants as table_attr
use Rattle.p414_syntax.specs.declared.parsers.PStmt.TheVariants as pstmt
use Rattle.p414_syntax.specs.declared.parsers.Return.{Return}
use Rattle.p414_syntax.specs.declared.syntax.Decl.{Decl}
use Rattle.p414_syntax.specs.declared.syntax.Decl.TheVariants as decl
use Rattle.p414_syntax.specs.Names.{Name}

abbrev pub plain : ℕ → Literal
plain n = record { width = None; value = n }

abbrev pub positive : ℕ → Number
positive n = record { sign = None; literal = plain n }

abbrev pub negative : ℕ → Number
negative n = record { sign = Some Minus; literal = plain n }

abbrev pub named : Name → Inst
named name = record { name = name; index = None }

abbrev pub of : Name → Name → Ref
of instance field = record { instance = named instance; field = field }

abbrev pub field : Name → ℕ → Field
field name width = record { name = name; width = Bits (plain width); attributes = [] }

abbrev pub saturating : Name → ℕ → Field
saturating name width = record { name = name; width = Bits (plain width); attributes = codes "saturating" ∷ [] }

-- arguments
abbrev pub n : ℕ → Arg
n value = arg.Number (positive value)

abbrev pub minus : ℕ → Arg
minus value = arg.Number (negative value)

abbrev pub at : Name → Name → Arg
at instance field = arg.Field (of instance field)

abbrev pub by_name : Name → Arg
by_name name = arg.Instance (named name)

abbrev pub call : Name → List Arg → Call
call name arguments = record { name = name; arguments = arguments }

-- modify_field(standard_metadata.egress_spec, 3)
abbrev pub to_port_3 : Call
to_port_3 = call (codes "modify_field") (at (codes "standard_metadata") (codes "egress_spec") ∷ n 3 ∷ [])

-- declarations
abbrev pub type : Name → List Field → Decl
type name fields = decl.HeaderType (record { name = name; fields = fields; tails = [] })

abbrev pub header : Name → Name → Decl
header header_type name = decl.Header (record { header_type = header_type; name = name; size = None })

abbrev pub state : Name → Inst → Return → Decl
state name instance end =
    decl.Parser (record { name = name; statements = pstmt.Extract instance ∷ []; end = end })

abbrev pub action : Name → List Name → List Call → Decl
action name parameters calls = decl.Action (record { name = name; parameters = parameters; calls = calls })

-- a table without keys, with one action, which is its default
abbrev pub table : Name → Name → Decl
table name action =
    decl.Table (record {
      name = name;
      attributes = table_attr.Actions (action ∷ []) ∷ table_attr.DefaultAction action (Some []) ∷ [];
    })
