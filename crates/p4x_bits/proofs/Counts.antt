-- What the sums of `checked_add` and `checked_mul` are.
use Rattle.std.proofs.Common.{◌≡◌, ℕ, Option, Some, SomeIff, sym, subst}

pub some_is : (r : Option ℕ) (P : Type 0) (value n : ℕ) → SomeIff r P value → r ≡ Some n → value ≡ n
some_is r P value n s e = let Q : Option ℕ → Type 0 = λ o. SomeIff o P value in sym (subst Q e s).1
