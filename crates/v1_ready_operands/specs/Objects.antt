-- The methods of stateful objects, by the number of the object, where tables have these numbers and `packet_length` stands in this slot:
-- as those of v1_ready_statements, which ask the block for these alone.
use Rattle.std.specs.Prelude.{ℕ, List, [], Option, Some, option_map}
use Rattle.p416_syntax.specs.Tree.{Exp16}
use Rattle.p416_syntax.specs.Names.{Name}
use Rattle.p416_syntax.specs.Scopes.{Scope}
use Rattle.p416_syntax.specs.Calls.{any_bits, index_place}
use Rattle.v1_ready_forms.specs.Named.{NamedSeat}
use Rattle.v1_ready_blocks.specs.declared.externs.Extern.TheVariants as extern
use Rattle.v1_ready_blocks.specs.Statements.{Deed}
use Rattle.v1_ready_statements.specs.Targets.{target_given}
use Rattle.v1_ready_statements.specs.Given.{join_option, given_at}
use Rattle.v1_ready_statements.specs.Called.{executes}
use Rattle.v1_ready_operands.specs.Functions.{value_by}

-- `c.count(i)`
abbrev pub count_by : Scope → List NamedSeat → (Name → Option ℕ) → Option ℕ → ℕ → List Exp16 → Option Deed
count_by s seats tables slot number es =
    executes (option_map (λ at. extern.Count number at) slot) (value_by s seats tables index_place (given_at es 0))

-- `d.count()`
abbrev pub count_entry_by : Option ℕ → ℕ → Option Deed
count_entry_by slot number = executes (option_map (λ at. extern.CountEntry number at) slot) (Some [])

-- `r.read(v, i)`
abbrev pub read_by : Scope → List NamedSeat → (Name → Option ℕ) → ℕ → List Exp16 → Option Deed
read_by s seats tables number es =
    executes (option_map (λ to. extern.Read number to) (target_given s seats (given_at es 0)))
    (value_by s seats tables index_place (given_at es 1))

-- `r.write(i, v)`
abbrev pub write_by : Scope → List NamedSeat → (Name → Option ℕ) → ℕ → List Exp16 → Option Deed
write_by s seats tables number es =
    executes (Some (extern.Write number))
    (join_option (value_by s seats tables index_place (given_at es 0)) (value_by s seats tables any_bits (given_at es 1)))

-- `m.execute_meter(i, v)`
abbrev pub meter_by : Scope → List NamedSeat → (Name → Option ℕ) → ℕ → List Exp16 → Option Deed
meter_by s seats tables number es =
    executes (option_map (λ to. extern.ExecuteMeter number to) (target_given s seats (given_at es 1)))
    (value_by s seats tables index_place (given_at es 0))
