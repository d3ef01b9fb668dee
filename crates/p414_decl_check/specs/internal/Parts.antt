-- Parts of the rules that private functions decide.
use Rattle.std.specs.Prelude.{◌+◌, Bool, false, ◌||◌, nat_eq, nat_lt, Option}
use Rattle.std.specs.Option.{option_map_or}
use Rattle.std.specs.Prelude.{List}
use Rattle.p414_syntax.specs.declared.lexeme.Literal.{Literal}
use Rattle.p414_syntax.specs.declared.parts.Inst.{Inst}
use Rattle.p414_syntax.specs.declared.syntax.Decl.{Decl}
use Rattle.p414_syntax.specs.Names.{Name}
use Rattle.p414_syntax.specs.Uses.{of_latest}
use Rattle.p414_syntax.specs.Unknown.{is_unknown}
use Rattle.p414_syntax.specs.Widths.{is_bad_width}

-- what was extracted last lacks the field
abbrev pub lacks_field : List Decl → Option Inst → Name → Bool
lacks_field ds last field = is_unknown ds (of_latest last field)

-- a width is given, and bad
abbrev pub is_bad_given : Option Literal → Bool
is_bad_given width = option_map_or is_bad_width width false

-- `current` with this offset and width takes no bits, or goes past the 128th
abbrev pub is_too_far : Literal → Literal → Bool
is_too_far offset bits = nat_eq bits.value 0 || nat_lt 128 (offset.value + bits.value)
