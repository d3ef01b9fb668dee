-- What one step of a parser does to its stack of symbols, and to what is built.
use Rattle.std.specs.Prelude.{◌≡◌, ℕ, Bool, true, false, List, Option, Some, None, Result, Ok, Err}
use Rattle.predictive_parser.specs.Machine.{Move, Takes, Passes, Stops}

module _ {S B : Type 0} where
  -- the word stands for no token, and this is held; or it can't stand for none
  abbrev pub Passing : Bool → Move S B → (B → Type 0) → Type 0
  Passing true (Passes next) holds = holds next
  Passing true Stops holds = ⊥
  Passing true (Takes more next) holds = ⊥
  Passing false (Passes next) holds = ⊥
  Passing false Stops holds = Unit {0}
  Passing false (Takes more next) holds = ⊥

  -- the token is taken, and this is left to find and held; or no symbol can take it
  abbrev pub Settles : Bool → Option (List S × B) → List S → (B → Type 0) → Type 0
  Settles true (Some left) new holds = (new ≡ left.0) × holds left.1
  Settles true None new holds = ⊥
  Settles false (Some left) new holds = ⊥
  Settles false None new holds = Unit {0}

module _ {B : Type 0} where
  -- each symbol that was left stands for no token, and this is held; or one can't
  abbrev pub Finishes : Bool → ℕ → Result B ℕ → (B → Type 0) → Type 0
  Finishes true place (Ok end) holds = holds end
  Finishes true place (Err at) holds = ⊥
  Finishes false place (Ok end) holds = ⊥
  Finishes false place (Err at) holds = place ≡ at
