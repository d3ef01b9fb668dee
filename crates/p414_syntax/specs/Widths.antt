-- C3: a field, register or output width is outside 1 to 128. C5: the type of a header instance has a total width that
-- is 0 or no multiple of 8, or `current` takes no bits or goes past the 128th (P4_14 1.0.5, "Header Type
-- Declarations", "Registers", "Checksums and Hash-value Generators", "Parser Specification"; the limits are this
-- project's own). A type that only metadata has isn't judged by C5, nor one with a field of width `*`.
use Rattle.std.specs.Prelude.{◌+◌, ◌%◌, Bool, false, not, ◌||◌, ◌&&◌, nat_lt, nat_eq, List}
use Rattle.std.specs.List.{list_any}
use Rattle.std.specs.Option.{option_map_or}
use Rattle.p414_syntax.specs.declared.lexeme.Literal.{Literal}
use Rattle.p414_syntax.specs.declared.headers.FieldWidth.{FieldWidth}
use Rattle.p414_syntax.specs.declared.headers.FieldWidth.TheVariants.{Bits, Rest}
use Rattle.p414_syntax.specs.declared.headers.Field.{Field}
use Rattle.p414_syntax.specs.declared.parsers.PValue.{PValue}
use Rattle.p414_syntax.specs.declared.parsers.PValue.TheVariants as pvalue
use Rattle.p414_syntax.specs.declared.parsers.PStmt.{PStmt}
use Rattle.p414_syntax.specs.declared.parsers.PStmt.TheVariants as pstmt
use Rattle.p414_syntax.specs.declared.parsers.Return.{Return}
use Rattle.p414_syntax.specs.declared.parsers.Return.TheVariants as end_of
use Rattle.p414_syntax.specs.declared.syntax.Decl.{Decl}
use Rattle.p414_syntax.specs.declared.syntax.Decl.TheVariants as decl
use Rattle.p414_syntax.specs.Views.{HeaderTypeTree}
use Rattle.p414_syntax.specs.Attributes.{width_of}
use Rattle.p414_syntax.specs.Fields.{type_of, type_bits, has_rest}

abbrev pub is_bad_width : Literal → Bool
is_bad_width n = nat_lt n.value 1 || nat_lt 128 n.value

-- `*` is no number; that it stands there is judged by C25
abbrev pub is_bad_field_width : FieldWidth → Bool
is_bad_field_width (Bits n) = is_bad_width n
is_bad_field_width Rest = false

abbrev pub is_bad_field : Field → Bool
is_bad_field f = is_bad_field_width f.width

-- a width in a declaration: those of a type's fields, of a register's cells, and of what a calculation gives
abbrev pub declares_bad_width : Decl → Bool
declares_bad_width (decl.HeaderType x) = list_any is_bad_field x.fields
declares_bad_width (decl.Register x) = option_map_or is_bad_width (width_of x.attributes) false
declares_bad_width (decl.FieldListCalculation x) = is_bad_width x.output_width
declares_bad_width _ = false

abbrev pub has_bad_width : List Decl → Bool
has_bad_width ds = list_any declares_bad_width ds

-- a type has no bits, or octets that aren't whole; a type with a field of width `*` isn't judged
abbrev pub is_unaligned : HeaderTypeTree → Bool
is_unaligned t = not (has_rest t) && (nat_eq (type_bits t) 0 || not (nat_eq (type_bits t % 8) 0))

abbrev pub is_unaligned_header : List Decl → Decl → Bool
is_unaligned_header ds (decl.Header x) = option_map_or is_unaligned (type_of ds x.header_type) false
is_unaligned_header ds _ = false

-- `current` takes no bits, or goes past the 128th
abbrev pub looks_too_far : PValue → Bool
looks_too_far (pvalue.Current offset bits) = nat_eq bits.value 0 || nat_lt 128 (offset.value + bits.value)
looks_too_far _ = false

abbrev pub statement_looks_too_far : PStmt → Bool
statement_looks_too_far (pstmt.SetMetadata r v) = looks_too_far v
statement_looks_too_far _ = false

abbrev pub return_looks_too_far : Return → Bool
return_looks_too_far (end_of.Select vs cs) = list_any looks_too_far vs
return_looks_too_far _ = false

abbrev pub state_looks_too_far : Decl → Bool
state_looks_too_far (decl.Parser x) = list_any statement_looks_too_far x.statements || return_looks_too_far x.end
state_looks_too_far _ = false

abbrev pub has_bad_layout : List Decl → Bool
has_bad_layout ds = list_any (is_unaligned_header ds) ds || list_any state_looks_too_far ds
