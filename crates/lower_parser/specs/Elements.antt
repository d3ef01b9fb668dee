-- Which element an extraction names (this project's own).
use Rattle.std.specs.Prelude.{ℕ, Option, Some, None}
use Rattle.p414_syntax.specs.declared.parts.Inst.{Inst}
use Rattle.p414_ready_parser.specs.Rows.{fixed_element}

-- the element that was extracted last; none where it is the next one of a stack, or where nothing was extracted
abbrev pub element_in : Option Inst → Option ℕ
element_in None = None
element_in (Some i) = fixed_element i.index
