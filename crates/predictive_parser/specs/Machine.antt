-- A machine that reads a list of tokens by a list of symbols that it has still to find, the next one
-- first (this project's own; the machine of a predictive parser, as textbooks on compilers have it). What
-- a symbol does depends on the next token alone, and on what is built so far.
use Rattle.std.specs.Prelude.{ℕ, ◌+◌, List, [], ◌∷◌, ◌++◌, Option, Some, None, Result, Ok, Err}

-- What a symbol does at the next token, or at the end of the tokens: it takes the token, then these
-- symbols are to be found in its place, and this is what is built; or it stands for no token, and this
-- is what is built; or neither can be.
pub data Move (S B : Type 0) : Type 0 where
  Takes : List S → B → Move S B
  Passes : B → Move S B
  Stops : Move S B

module _ {S T B : Type 0} (move : S → Option T → B → Move S B) where
  -- what is left to find behind a symbol that moves so before these symbols, and what is built;
  -- `rest` says it where the symbol stands for no token
  abbrev pub moved : Move S B → List S → (B → Option (List S × B)) → Option (List S × B)
  moved (Takes more built) symbols rest = Some (more ++ symbols, built)
  moved (Passes built) symbols rest = rest built
  moved Stops symbols rest = None

  -- what is left to find once the next token is taken, and what is built; none where no symbol can
  -- take it
  abbrev pub settle : List S → B → T → Option (List S × B)
  settle [] built token = None
  settle (symbol ∷ symbols) built token = moved (move symbol (Some token) built) symbols (λ next. settle symbols next token)

  abbrev pub ended : Move S B → ℕ → (B → Result B ℕ) → Result B ℕ
  ended (Takes more built) place rest = Err place
  ended (Passes built) place rest = rest built
  ended Stops place rest = Err place

  -- what is built behind the last token, of which there were so many, if each symbol that is left can
  -- stand for no token
  abbrev pub finish : List S → B → ℕ → Result B ℕ
  finish [] built place = Ok built
  finish (symbol ∷ symbols) built place = ended (move symbol None built) place (λ next. finish symbols next place)

  abbrev pub goes_on : Option (List S × B) → ℕ → (List S → B → Result B ℕ) → Result B ℕ
  goes_on None place rest = Err place
  goes_on (Some left) place rest = rest left.0 left.1

  -- What is built of the tokens, before which so many were taken; or the place of the first that can't
  -- stand where it stands, which is the number of the tokens before it. Where the tokens end too early,
  -- that is the number of all of them.
  abbrev pub run : List S → B → ℕ → List T → Result B ℕ
  run symbols built place [] = finish symbols built place
  run symbols built place (token ∷ tokens) =
      goes_on (settle symbols built token) place (λ left next. run left next (place + 1) tokens)

-- the next token, if there is one
abbrev pub next_of : {T : Type 0} → List T → Option T
next_of [] = None
next_of (token ∷ tokens) = Some token
