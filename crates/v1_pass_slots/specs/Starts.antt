-- Where the metadata, the standard metadata and the variables of a program's frames begin (this project's own).
use Rattle.std.specs.Prelude.{length}
use Rattle.p416_syntax.specs.declared.program.Syntax16.{Syntax16}
use Rattle.p416_syntax.specs.Kinds.{Kind}
use Rattle.p416_syntax.specs.BuiltIn.{standard}
use Rattle.p416_syntax.specs.Declarations.{layouts_of}
use Rattle.p416_syntax.specs.Main.{headers_kind, metadata_kind}
use Rattle.v1_core.specs.Seats.{form_of, Start, behind}
use Rattle.v1_core.specs.Programs.{first_start}

-- where what stands behind a value of the program begins
abbrev pub start_behind : Syntax16 → Kind → Start → Start
start_behind syntax k b = behind (layouts_of syntax.decls) (length (layouts_of syntax.decls)) (form_of k) b

-- the metadata stands behind the headers, then the standard metadata, then the variables
abbrev pub metadata_start : Syntax16 → Start
metadata_start syntax = start_behind syntax (headers_kind syntax) first_start

abbrev pub standard_start : Syntax16 → Start
standard_start syntax = start_behind syntax (metadata_kind syntax) (metadata_start syntax)

abbrev pub variables_start : Syntax16 → Start
variables_start syntax = start_behind syntax standard (standard_start syntax)
