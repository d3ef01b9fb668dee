-- What the rules ask of states of parsers, beside what their meaning asks (this project's own, the limits, too; P4_14
-- 1.0.5, "Parser Specification"; P4_16 1.2, "Select expressions", "Packet lookahead").
use Rattle.std.specs.Prelude.{◌≡◌, false, List, Option, None}
use Rattle.std.specs.List.{list_any, AllByRecursion}
use Rattle.p414_syntax.specs.declared.parts.Inst.{Inst}
use Rattle.p414_syntax.specs.declared.parsers.PValue.{PValue}
use Rattle.p414_syntax.specs.declared.parsers.Return.{Return}
use Rattle.p414_syntax.specs.declared.parsers.Return.TheVariants as end_of
use Rattle.p414_syntax.specs.declared.parsers.Parser.{Parser}
use Rattle.p414_syntax.specs.declared.syntax.Decl.{Decl}
use Rattle.p414_syntax.specs.Selects.{value_bits}
use Rattle.p414_syntax.specs.Uses.{last_of}
use Rattle.p414_syntax.specs.Widths.{looks_too_far, statement_looks_too_far}
use Rattle.lower_laws_block_rules.specs.Widths.{IsWidth}

-- a value of a select: `current` takes some bits, of the next 128 (C5), and each value has 1 to 128 bits (C2, C3; no number stands
-- there)
abbrev pub SelectValue : List Decl → Option Inst → PValue → Type 0
SelectValue ds last v = (looks_too_far v ≡ false) × IsWidth (value_bits ds last v)

-- each value of the select that ends a state is so
abbrev pub EndHere : List Decl → Option Inst → Return → Type 0
EndHere ds last (end_of.Select vs cases) = AllByRecursion (SelectValue ds last) vs
EndHere ds last _ = Unit {0}

-- a state of the program: neither its statements nor its select look too far ahead
pub record StateHere (ds : List Decl) (x : Parser) : Type 0 where
  pub statements : list_any statement_looks_too_far x.statements ≡ false
  pub end : EndHere ds (last_of None x.statements) x.end
