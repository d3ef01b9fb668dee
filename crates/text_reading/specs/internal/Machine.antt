-- What a reader answers, by what the division of its text and the parser answer.
use Rattle.std.specs.Prelude.{◌≡◌, ℕ, List, Result, Ok, Err}
use Rattle.p4x_fault.specs.declared.Fault.{Fault}
use Rattle.token_division.specs.declared.division.Token.{Token}
use Rattle.token_division.specs.declared.division.Lex.{Lex}
use Rattle.token_division.specs.declared.division.Lex.TheVariants as lex_error
use Rattle.token_division.specs.Division.{Front, division}
use Rattle.text_reading.specs.declared.error.ReadError.{ReadError}
use Rattle.text_reading.specs.declared.error.ReadError.TheVariants.{Memory, Refused}
use Rattle.text_reading.specs.Reading.{fault_at}

-- why the division into tokens stops, as a reader says it
abbrev pub from_lex : Lex → ReadError
from_lex lex_error.Memory = Memory
from_lex (lex_error.Refused fault) = Refused fault

-- Where the parser builds something, the answer stands for it; where it refuses a token of the text, the answer is S1 there.
-- Memory may run out in any case.
abbrev pub IsParsed : {K V B : Type 0} → List ℕ → List (Token K) → Result B ℕ → Result V ReadError → (V → B → Type 0) → Type 0
IsParsed text tokens (Ok end) (Ok value) holds = holds value end
IsParsed text tokens (Ok end) (Err Memory) holds = Unit {0}
IsParsed text tokens (Ok end) (Err (Refused fault)) holds = ⊥
IsParsed text tokens (Err at) (Ok value) holds = ⊥
IsParsed text tokens (Err at) (Err Memory) holds = Unit {0}
IsParsed text tokens (Err at) (Err (Refused fault)) holds = fault ≡ fault_at text tokens at

-- the same, of a text that is divided into tokens or is not; `parsed` is what the parser answers for its tokens
abbrev pub IsReadBy : {K V B : Type 0} → List ℕ → Result (List (Token K)) Fault → (List (Token K) → Result B ℕ)
    → Result V ReadError → (V → B → Type 0) → Type 0
IsReadBy text (Ok tokens) parsed result holds = IsParsed text tokens (parsed tokens) result holds
IsReadBy text (Err fault) parsed (Ok value) holds = ⊥
IsReadBy text (Err fault) parsed (Err Memory) holds = Unit {0}
IsReadBy text (Err fault) parsed (Err (Refused other)) holds = other ≡ fault

-- The answer is the fault at which the division into tokens stops; or it stands for what the parser builds of the tokens, or
-- is S1 at the token that the parser refuses. Memory may run out in any case.
abbrev pub IsRead : {K V B : Type 0} → Front K → (List ℕ → List (Token K) → Result B ℕ) → (V → B → Type 0) → List ℕ
    → Result V ReadError → Type 0
IsRead front parsed holds text result = IsReadBy text (division front text) (parsed text) result holds
