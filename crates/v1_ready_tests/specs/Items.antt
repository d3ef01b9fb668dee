-- The items of a list in braces, where tables have these numbers.
use Rattle.std.specs.Prelude.{ℕ, List, [], ◌∷◌, Option, Some, option_map}
use Rattle.p416_syntax.specs.Tree.{Exp16, argument, listed}
use Rattle.p416_syntax.specs.Names.{Name}
use Rattle.p416_syntax.specs.Scopes.{Scope}
use Rattle.p416_syntax.specs.Calls.{any_bits}
use Rattle.v1_ready_forms.specs.Named.{NamedSeat}
use Rattle.v1_ready_blocks.specs.Arguments.{Argument, an_item}
use Rattle.v1_ready_statements.specs.Tested.{ready_test}
use Rattle.v1_ready_statements.specs.Given.{join_option}

abbrev pub items_by : Scope → List NamedSeat → (Name → Option ℕ) → Exp16 → Option (List Argument)
items_by s seats tables (argument before last) =
    join_option (items_by s seats tables before) (option_map (λ t. an_item t ∷ []) (ready_test s seats tables any_bits last))
items_by s seats tables _ = Some []

abbrev pub list_by : Scope → List NamedSeat → (Name → Option ℕ) → Exp16 → Option (List Argument)
list_by s seats tables (listed es) = items_by s seats tables es
list_by s seats tables _ = Some []
