-- Which header types have headers, by the names of the types that headers have (this project's own; P4_14 1.0.5, "Header Type Declarations").
use Rattle.std.specs.Prelude.{Bool, List, Option, Some, None}
use Rattle.p414_syntax.specs.declared.syntax.Decl.{Decl}
use Rattle.p414_syntax.specs.declared.syntax.Decl.TheVariants as decl
use Rattle.p414_syntax.specs.Names.{Name, has_name}
use Rattle.p414_syntax.specs.Views.{HeaderTypeTree}

-- the type of a header
abbrev pub used_in : Decl → Option Name
used_in (decl.Header x) = Some x.header_type
used_in _ = None

-- a header type is among these names
abbrev pub has_of : List Name → HeaderTypeTree → Bool
has_of names t = has_name names t.name
