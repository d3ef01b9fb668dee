-- What a value of a kind is: a number, a truth value, an error (P4_16 1.2, "P4 data types", "Expressions").
use Rattle.std.specs.Prelude.{◌≡◌, ◌<◌, ℕ, Bool}
use Rattle.p416_syntax.specs.Kinds.{Kind, bits, unsized, boolean, error_code}
use Rattle.v1_core.specs.Values.{Value, a_number, a_truth, an_error}

abbrev pub IsNumber : Value → Type 0
IsNumber v = (width : ℕ) × ((number : ℕ) × (v ≡ a_number width number))

abbrev pub IsTruth : Value → Type 0
IsTruth v = (holds : Bool) × (v ≡ a_truth holds)

-- one of the four errors
abbrev pub IsError : Value → Type 0
IsError v = (number : ℕ) × ((v ≡ an_error number) × (number < 4))

abbrev pub IsOfClass : Kind → Value → Type 0
IsOfClass (bits width) v = IsNumber v
IsOfClass unsized v = IsNumber v
IsOfClass boolean v = IsTruth v
IsOfClass error_code v = IsError v
IsOfClass k v = Unit {0}
