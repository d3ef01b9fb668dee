-- What parsing answers.
use Rattle.std.specs.Prelude.{◌≡◌, ◌⊎◌, ℕ, suc, ◌<◌, List, ◌++◌, length, take, Result, Ok, Err}
use Rattle.predictive_parser.specs.declared.parser.ParseError.{ParseError}
use Rattle.predictive_parser.specs.declared.parser.ParseError.TheVariants.{Memory, Refused}

-- Where the machine builds something, the answer stands for it; where it refuses a token, the answer is
-- the number of that token. Memory may run out in any case.
abbrev pub Parses : {R B : Type 0} → Result R ParseError → Result B ℕ → (R → B → Type 0) → Type 0
Parses (Ok value) (Ok end) holds = holds value end
Parses (Ok value) (Err at) holds = ⊥
Parses (Err Memory) answer holds = Unit {0}
Parses (Err (Refused place)) (Ok end) holds = ⊥
Parses (Err (Refused place)) (Err at) holds = place ≡ at

-- the answer is such a value, unless memory ran out
abbrev pub Gives : {R : Type 0} → Result R ParseError → (R → Type 0) → Type 0
Gives (Ok value) holds = holds value
Gives (Err Memory) holds = Unit {0}
Gives (Err (Refused place)) holds = ⊥

module _ {V T : Type 0} (Spells : V → List T → Type 0) where
  -- a list of tokens that spells something begins with these
  abbrev pub Begins : List T → Type 0
  Begins front = (more : List T) × (value : V) × Spells value (front ++ more)

  -- The token with this number is the first that can't stand where it stands: the tokens before it begin
  -- a list that spells something, and those up to it don't. Or the tokens end too early: they begin such
  -- a list, spell nothing themselves, and this is their number.
  pub record IsRefusedAt (tokens : List T) (at : ℕ) : Type 0 where
    pub before : Begins (take at tokens)
    pub behind : ((at < length tokens) × (Begins (take (suc at) tokens) → ⊥)) ⊎ ((at ≡ length tokens) × ((value : V) → Spells value tokens → ⊥))
