-- Parts of a case from one on, by the places of their keys.
use Rattle.std.specs.Prelude.{ℕ, ◌+◌, Bool, true, ◌&&◌, List, [], ◌∷◌, slice_get, Option, Some, None}
use Rattle.p416_syntax.specs.declared.parsers.Simple.{Simple}
use Rattle.p416_syntax.specs.Kinds.{Kind}
use Rattle.v1_core.specs.Values.{Value}
use Rattle.v1_ready_selects.specs.declared.rows.KeyTest.{KeyTest}
use Rattle.v1_ready_selects.specs.declared.rows.KeyTest.TheVariants as key_test
use Rattle.v1_ready_selects.specs.Selects.{takes}
use Rattle.v1_ready_selects.specs.Rows.{test_of_part}

-- a part, where there is a key of this kind for it
abbrev pub test_for : Option Kind → Simple → KeyTest
test_for None part = key_test.Never
test_for (Some k) part = test_of_part k part

abbrev pub test_at : List Kind → ℕ → Simple → KeyTest
test_at kinds place part = test_for (slice_get kinds place) part

abbrev pub tests_from : List Kind → ℕ → List Simple → List KeyTest
tests_from kinds place [] = []
tests_from kinds place (part ∷ parts) = test_at kinds place part ∷ tests_from kinds (place + 1) parts

-- a key, where there is one
abbrev pub takes_for : KeyTest → Option Value → Bool
takes_for t None = true
takes_for t (Some v) = takes t v

abbrev pub takes_at : List Value → ℕ → KeyTest → Bool
takes_at values place t = takes_for t (slice_get values place)

abbrev pub takes_from : List Value → ℕ → List KeyTest → Bool
takes_from values place [] = true
takes_from values place (t ∷ tests) = takes_at values place t && takes_from values (place + 1) tests
