-- Where a line breaks a rule (this project's own).
use Rattle.std.specs.Prelude.{ℕ, Some}
use Rattle.p4x_fault.specs.declared.Fault.{Fault}
use Rattle.p4x_fault.specs.declared.Rule.{Rule}

-- the fault of a line that breaks a rule: its place is the line's column 1
abbrev pub at_line : Rule → ℕ → Fault
at_line rule line = record { rule = rule; place = Some (record { line = line; column = 1 }) }
