-- C6: `latest` stands before any extract of its state, or a select joins over 128 bits (P4_14 1.0.5, "Parser
-- Specification"; the limit is this project's own). Fields of width `*`, and those of standard metadata that are left
-- out, count as 0 bits.
use Rattle.std.specs.Prelude.{ℕ, Bool, true, false, ◌||◌, nat_lt, List, Option, Some, None, sum_by, unwrap_or}
use Rattle.std.specs.List.{list_any}
use Rattle.p414_syntax.specs.declared.parts.Inst.{Inst}
use Rattle.p414_syntax.specs.declared.parsers.PValue.{PValue}
use Rattle.p414_syntax.specs.declared.parsers.PValue.TheVariants as pvalue
use Rattle.p414_syntax.specs.declared.parsers.Return.{Return}
use Rattle.p414_syntax.specs.declared.parsers.Return.TheVariants as end_of
use Rattle.p414_syntax.specs.declared.syntax.Decl.{Decl}
use Rattle.p414_syntax.specs.declared.syntax.Decl.TheVariants as decl
use Rattle.p414_syntax.specs.Names.{Name}
use Rattle.p414_syntax.specs.Fields.{ref_width, width_of}
use Rattle.p414_syntax.specs.Uses.{Use, of_latest, uses, last_of}

-- nothing was extracted before
abbrev pub is_early : Use → Bool
is_early (of_latest None field) = true
is_early _ = false

-- the bits of a field of what was extracted last; 0 where it isn't there
abbrev pub latest_bits : List Decl → Option Inst → Name → ℕ
latest_bits ds (Some i) field = unwrap_or (width_of ds i.name field) 0
latest_bits ds None field = 0

-- the bits of a value in a select, where `last` was extracted last; no number stands there
abbrev pub value_bits : List Decl → Option Inst → PValue → ℕ
value_bits ds last (pvalue.Current offset bits) = bits.value
value_bits ds last (pvalue.Latest field) = latest_bits ds last field
value_bits ds last (pvalue.Field r) = unwrap_or (ref_width ds r) 0
value_bits ds last (pvalue.Number n) = 0

abbrev pub joins_too_much : List Decl → Option Inst → Return → Bool
joins_too_much ds last (end_of.Select vs cs) = nat_lt 128 (sum_by (value_bits ds last) vs)
joins_too_much ds last _ = false

abbrev pub state_joins_too_much : List Decl → Decl → Bool
state_joins_too_much ds (decl.Parser x) = joins_too_much ds (last_of None x.statements) x.end
state_joins_too_much ds _ = false

abbrev pub has_bad_select : List Decl → Bool
has_bad_select ds = list_any is_early (uses ds) || list_any (state_joins_too_much ds) ds
