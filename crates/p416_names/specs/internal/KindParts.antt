-- Parts of what operators make.
use Rattle.std.specs.Prelude.{ℕ, suc, ◌-◌, ◌||◌, nat_lt, nat_le, if◌then◌else◌}
use Rattle.p416_syntax.specs.Kinds.{Kind, bits, unknown}
use Rattle.p416_syntax.specs.Expressions.{is_chosen}

-- a value that may be chosen
abbrev pub chosen_kind : Kind → Kind
chosen_kind a = if is_chosen a then a else unknown

-- the bits from `high` down to `low` of so many
abbrev pub slice_of : ℕ → ℕ → ℕ → Kind
slice_of w high low = if nat_lt high low || nat_le w high then unknown else bits (suc high - low)
