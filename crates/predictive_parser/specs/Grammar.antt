-- A grammar as a predictive parser reads it: for each word the rows that it may stand for, of which the
-- first that fits the next token is taken (this project's own). C are the classes of tokens, A the
-- actions, W the words, T the tokens, and B is what is built.
use Rattle.std.specs.Prelude.{ℕ, Bool, if◌then◌else◌, List, [], ◌∷◌, ◌++◌, map, Option, Some, None, Result}
use Rattle.predictive_parser.specs.declared.symbol.Symbol.{Symbol}
use Rattle.predictive_parser.specs.declared.symbol.Symbol.TheVariants.{Token, Put, Word}
use Rattle.predictive_parser.specs.declared.symbol.Otherwise.{Otherwise}
use Rattle.predictive_parser.specs.declared.symbol.Otherwise.TheVariants.{Refuse, Pass, Build}
use Rattle.predictive_parser.specs.Machine.{Move, Takes, Passes, Stops, run}

-- A row of a word: a class, for the first token, and the symbols that follow that token. Or all rows of
-- another word that are no such references themselves, with these symbols behind each.
pub data Row (C A W T : Type 0) : Type 0 where
  Plain : C → (T → List (Symbol C A W)) → Row C A W T
  Like : W → List (Symbol C A W) → Row C A W T

-- a row whose symbols are the same at each token of the class
infix 5 ◌⇒◌
abbrev pub ◌⇒◌ : {C A W T : Type 0} → C → List (Symbol C A W) → Row C A W T
first ⇒ rest = Plain first (λ token. rest)

pub record Grammar (C A W T B : Type 0) : Type 0 where
  -- whether a token is of a class, where so much is built
  pub accepts : C → T → B → Bool
  -- what is built once a token of the class is taken
  pub shift : C → T → B → B
  -- what is built once the action is done
  pub put : A → B → B
  -- the rows of a word, the first first
  pub rows : W → List (Row C A W T)
  -- what a word does where none of its rows fits
  pub otherwise : W → Otherwise A

-- a row that names no other word
pub record Line (C A W T : Type 0) : Type 0 where
  pub first : C
  pub rest : T → List (Symbol C A W)

-- the same line with more symbols behind it
abbrev pub with_more : {C A W T : Type 0} → List (Symbol C A W) → Line C A W T → Line C A W T
with_more more line = record { first = line.first; rest = λ token. line.rest token ++ more }

-- the rows that name no other word
abbrev pub plain_lines : {C A W T : Type 0} → List (Row C A W T) → List (Line C A W T)
plain_lines [] = []
plain_lines (Plain first rest ∷ rows) = record { first = first; rest = rest } ∷ plain_lines rows
plain_lines (Like word more ∷ rows) = plain_lines rows

module _ {C A W T B : Type 0} (grammar : Grammar C A W T B) where
  -- rows, where those that name another word are written out
  abbrev pub lines_of : List (Row C A W T) → List (Line C A W T)
  lines_of [] = []
  lines_of (Plain first rest ∷ rows) = record { first = first; rest = rest } ∷ lines_of rows
  lines_of (Like word more ∷ rows) = map (with_more more) (plain_lines (grammar.rows word)) ++ lines_of rows

  -- the class and the symbols of the first line that fits a token
  abbrev pub first_fit : T → B → List (Line C A W T) → Option (C × List (Symbol C A W))
  first_fit token built [] = None
  first_fit token built (line ∷ lines) =
      if grammar.accepts line.first token built then Some (line.first, line.rest token) else first_fit token built lines

  -- what is built where the word stands for no token, if it can
  abbrev pub passed : Otherwise A → B → Move (Symbol C A W) B
  passed Refuse built = Stops
  passed Pass built = Passes built
  passed (Build action) built = Passes (grammar.put action built)

  abbrev pub taken : Option (C × List (Symbol C A W)) → W → T → B → Move (Symbol C A W) B
  taken (Some fit) word token built = Takes fit.1 (grammar.shift fit.0 token built)
  taken None word token built = passed (grammar.otherwise word) built

  -- what a symbol does at the next token
  abbrev pub move : Symbol C A W → Option T → B → Move (Symbol C A W) B
  move (Token class) None built = Stops
  move (Token class) (Some token) built = if grammar.accepts class token built then Takes [] (grammar.shift class token built) else Stops
  move (Put action) next built = Passes (grammar.put action built)
  move (Word word) None built = passed (grammar.otherwise word) built
  move (Word word) (Some token) built = taken (first_fit token built (lines_of (grammar.rows word))) word token built

  -- what is built of the tokens that the word stands for, or the place of the first token that can't
  -- stand where it stands
  abbrev pub parse : W → B → List T → Result B ℕ
  parse word built tokens = run move (Word word ∷ []) built 0 tokens
