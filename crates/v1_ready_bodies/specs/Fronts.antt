-- What was made, in front of what is made behind it.
use Rattle.std.specs.Prelude.{List, ◌++◌, Option, Some, None}

abbrev pub in_front : {A : Type 0} → List A → Option (List A) → Option (List A)
in_front xs None = None
in_front xs (Some rest) = Some (xs ++ rest)
