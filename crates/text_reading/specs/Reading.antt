-- What the reading of a text answers, in a language that is given by three things: what its texts may begin with (`front`),
-- by which they are divided into tokens of the kinds K; what a grammar sees of these (`seen`), lists of T; and which lists
-- of T spell which value (`Spells`). S1 and the places are this project's own.
use Rattle.std.specs.Prelude.{◌≡◌, ◌⊎◌, ℕ, List, Option, Some, None, Result, Ok, Err, slice_get}
use Rattle.p4x_fault.specs.declared.Rule.TheVariants.{S}
use Rattle.p4x_fault.specs.declared.Place.{Place}
use Rattle.p4x_fault.specs.declared.Fault.{Fault}
use Rattle.token_division.specs.declared.division.Token.{Token}
use Rattle.token_division.specs.Division.{Front, place_after, division}
use Rattle.predictive_parser.specs.Answers.{IsRefusedAt}
use Rattle.text_reading.specs.declared.error.ReadError.{ReadError}
use Rattle.text_reading.specs.declared.error.ReadError.TheVariants.{Memory, Refused}

-- the place of a token, or the place behind the text
abbrev pub place_at : {K : Type 0} → List ℕ → Option (Token K) → Place
place_at text (Some token) = token.place
place_at text None = place_after text

-- S1 at the token with this number, or behind the text where there is none
abbrev pub fault_at : {K : Type 0} → List ℕ → List (Token K) → ℕ → Fault
fault_at text tokens at = record { rule = S 1; place = Some (place_at text (slice_get tokens at)) }

module _ {K T V : Type 0} (front : Front K) (seen : List ℕ → List (Token K) → List T) (Spells : V → List T → Type 0) where
  -- The text reads as this value: it is divided into tokens that the value is spelled with.
  pub record Reads (text : List ℕ) (value : V) : Type 0 where
    pub tokens : List (Token K)
    pub divided : division front text ≡ Ok tokens
    pub spelled : Spells value (seen text tokens)

  -- The text is divided into tokens, and the fault is S1 at the first of them that can't stand where it stands: the tokens
  -- before it begin a list that spells something, and those up to it don't. Or it is S1 behind the text, where the tokens
  -- spell nothing and begin a list that spells something.
  pub record IsSyntaxFault (text : List ℕ) (fault : Fault) : Type 0 where
    pub tokens : List (Token K)
    pub at : ℕ
    pub divided : division front text ≡ Ok tokens
    pub refused : IsRefusedAt Spells (seen text tokens) at
    pub fault_is : fault ≡ fault_at text tokens at

  -- The text is refused with this fault: it is that at which the division into tokens stops, or else one of the syntax.
  abbrev pub IsRefused : List ℕ → Fault → Type 0
  IsRefused text fault = (division front text ≡ Err fault) ⊎ IsSyntaxFault text fault

-- what is said of a refusal, which isn't want of memory
abbrev pub IfRefused : {V : Type 0} → Result V ReadError → (Fault → Type 0) → Type 0
IfRefused (Ok value) holds = Unit {0}
IfRefused (Err Memory) holds = Unit {0}
IfRefused (Err (Refused fault)) holds = holds fault

-- the answer is this, unless memory ran out
abbrev pub Answers : {V : Type 0} → Result V ReadError → Result V Fault → Type 0
Answers (Ok value) (Ok other) = value ≡ other
Answers (Ok value) (Err fault) = ⊥
Answers (Err Memory) answer = Unit {0}
Answers (Err (Refused fault)) (Ok other) = ⊥
Answers (Err (Refused fault)) (Err other) = fault ≡ other
