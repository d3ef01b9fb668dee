-- From what the division and the parser answer to the clauses that a reader is known by.
use Rattle.std.proofs.Common.{◌≡◌, ℕ, List, Result, Ok, Err, refl, sym, ap, ◌∙◌, subst, inl, inr}
use Rattle.std.specs.Prelude.{IfOk}
use Rattle.std.specs.Result.{IsErrAnd}
use Rattle.p4x_fault.specs.declared.Fault.{Fault}
use Rattle.token_division.specs.declared.division.Token.{Token}
use Rattle.token_division.specs.Division.{Front, division}
use Rattle.predictive_parser.specs.Grammar.{Grammar, parse}
use Rattle.predictive_parser.specs.Answers.{IsRefusedAt}
use Rattle.predictive_parser.proofs.Languages.{IsLanguage, spells_one}
use Rattle.predictive_parser.proofs.Refused.{spells_never, refused_once}
use Rattle.text_reading.specs.declared.error.ReadError.{ReadError}
use Rattle.text_reading.specs.declared.error.ReadError.TheVariants.{Memory, Refused}
use Rattle.text_reading.specs.Reading.{fault_at, Reads, IsSyntaxFault, IsRefused, IfRefused, Answers}
use Rattle.text_reading.specs.internal.Machine.{IsParsed, IsReadBy, IsRead}

-- a division gives one list of tokens
same_tokens : {E T : Type 0} (r : Result T E) (a b : T) → r ≡ Ok a → r ≡ Ok b → a ≡ b
same_tokens r a b e f = cc

err_never : {E T : Type 0} (r : Result T E) (a : E) (b : T) → r ≡ Err a → r ≡ Ok b → ⊥
err_never r a b e f = cc

-- an error of the parser is the reader's
pub parsed_err : {K R S B : Type 0} (text : List ℕ) (tokens : List (Token K)) (error : ReadError) (answer : Result B ℕ) (result : Result S ReadError) (P : R → B → Type 0) (Q : S → B → Type 0)
    → IsErrAnd result (λ other. other ≡ error) → IsParsed text tokens answer (Err error) P → IsParsed text tokens answer result Q
parsed_err text tokens error answer (Ok x) P Q e h = absurd e
parsed_err text tokens Memory (Ok end) (Err other) P Q e h = subst (λ o. IsParsed text tokens (Ok end) (Err o) Q) (sym e) tt
parsed_err text tokens Memory (Err at) (Err other) P Q e h = subst (λ o. IsParsed text tokens (Err at) (Err o) Q) (sym e) tt
parsed_err text tokens (Refused fault) (Ok end) (Err other) P Q e h = absurd h
parsed_err text tokens (Refused fault) (Err at) (Err other) P Q e h = subst (λ o. IsParsed text tokens (Err at) (Err o) Q) (sym e) h

module _ {K C A W T B V : Type 0} (front : Front K) (seen : List ℕ → List (Token K) → List T) (Spells : V → List T → Type 0)
    (grammar : Grammar C A W T B) (word : W) (built : B) (holds : V → B → Type 0) where
  -- The grammar reads exactly what is spelled, it refuses the first token that can't stand where it stands, and a value
  -- stands for what is built of it and of no other.
  pub record ReadsExactly : Type 0 where
    pub after : V → B
    pub language : IsLanguage grammar word built Spells after
    pub refuses : (tokens : List T) (at : ℕ) → parse grammar word built tokens ≡ Err at → IsRefusedAt Spells tokens at
    pub stands : (value : V) → holds value (after value)
    pub tells : (value other : V) → holds value (after other) → value ≡ other

  -- what the parser answers for the tokens of a text
  abbrev pub parsed_of : List ℕ → List (Token K) → Result B ℕ
  parsed_of text tokens = parse grammar word built (seen text tokens)

  module _ (exactly : ReadsExactly) where
    one_value : (value other : V) (tokens : List T) → Spells value tokens → Spells other tokens → value ≡ other
    one_value value other tokens h k =
        exactly.tells value other
        (subst (holds value) (spells_one grammar word built Spells exactly.after exactly.language value other tokens h k) (exactly.stands value))

    spelled_by : (text : List ℕ) (tokens : List (Token K)) (value : V) (o : Result B ℕ) → parsed_of text tokens ≡ o
        → IsParsed text tokens o (Ok value) holds → Spells value (seen text tokens)
    spelled_by text tokens value (Ok end) e h =
        let r = exactly.language.sound (seen text tokens) end e in
        let s : value ≡ r.0 = exactly.tells value r.0 (subst (holds value) (sym r.2) h) in
        subst (λ v. Spells v (seen text tokens)) (sym s) r.1
    spelled_by text tokens value (Err at) e h = absurd h

    fault_by : (text : List ℕ) (tokens : List (Token K)) (fault : Fault) (o : Result B ℕ) → parsed_of text tokens ≡ o
        → IsParsed {V = V} text tokens o (Err (Refused fault)) holds → division front text ≡ Ok tokens → IsSyntaxFault front seen Spells text fault
    fault_by text tokens fault (Ok end) e h d = absurd h
    fault_by text tokens fault (Err at) e h d =
        record { tokens = tokens; at = at; divided = d; refused = exactly.refuses (seen text tokens) at e; fault_is = h }

    -- what is answered the text reads as
    pub found : (text : List ℕ) (r : Result V ReadError) → IsRead front parsed_of holds text r → IfOk r (Reads front seen Spells text)
    found text (Err error) h = tt
    found text (Ok value) h = go (division front text) refl h
      where
        go : (d : Result (List (Token K)) Fault) → division front text ≡ d → IsReadBy text d (parsed_of text) (Ok value) holds → Reads front seen Spells text value
        go (Ok tokens) e k = record { tokens = tokens; divided = e; spelled = spelled_by text tokens value (parsed_of text tokens) refl k }
        go (Err fault) e k = absurd k

    -- with the fault that is answered it is refused
    pub refused : (text : List ℕ) (r : Result V ReadError) → IsRead front parsed_of holds text r → IfRefused r (IsRefused front seen Spells text)
    refused text (Ok value) h = tt
    refused text (Err Memory) h = tt
    refused text (Err (Refused fault)) h = go (division front text) refl h
      where
        go : (d : Result (List (Token K)) Fault) → division front text ≡ d → IsReadBy {V = V} text d (parsed_of text) (Err (Refused fault)) holds → IsRefused front seen Spells text fault
        go (Ok tokens) e k = inr (fault_by text tokens fault (parsed_of text tokens) refl k e)
        go (Err other) e k = inl (e ∙ ap Err (sym k))

    -- a text reads as one value at most
    pub one : (text : List ℕ) (value other : V) → Reads front seen Spells text value → Reads front seen Spells text other → value ≡ other
    one text value other h k =
        let e = same_tokens (division front text) h.tokens k.tokens h.divided k.divided in
        one_value value other (seen text k.tokens) (subst (λ ts. Spells value (seen text ts)) e h.spelled) k.spelled

    -- a text that is refused reads as nothing
    never : (text : List ℕ) (fault : Fault) (value : V) → IsRefused front seen Spells text fault → Reads front seen Spells text value → ⊥
    never text fault value (inl e) h = err_never (division front text) fault h.tokens e h.divided
    never text fault value (inr r) h =
        let e = same_tokens (division front text) h.tokens r.tokens h.divided r.divided in
        spells_never Spells (seen text r.tokens) r.at r.refused value (subst (λ ts. Spells value (seen text ts)) e h.spelled)

    -- a text is refused with one fault at most
    same_fault : (text : List ℕ) (fault other : Fault) → IsRefused front seen Spells text fault → IsRefused front seen Spells text other → fault ≡ other
    same_fault text fault other (inl e) (inl f) = cc
    same_fault text fault other (inl e) (inr r) = absurd (err_never (division front text) fault r.tokens e r.divided)
    same_fault text fault other (inr r) (inl f) = absurd (err_never (division front text) other r.tokens f r.divided)
    same_fault text fault other (inr r) (inr t) =
        let e = same_tokens (division front text) r.tokens t.tokens r.divided t.divided in
        let n : r.at ≡ t.at = refused_once Spells (seen text t.tokens) r.at t.at (subst (λ ts. IsRefusedAt Spells (seen text ts) r.at) e r.refused) t.refused in
        r.fault_is ∙ ap (λ ts. fault_at text ts r.at) e ∙ ap (λ m. fault_at text t.tokens m) n ∙ sym t.fault_is

    -- what a text reads as is answered, unless memory runs out
    pub accepts : (text : List ℕ) (r : Result V ReadError) → IsRead front parsed_of holds text r → (value : V) → Reads front seen Spells text value → Answers r (Ok value)
    accepts text (Ok other) h value k = one text other value (found text (Ok other) h) k
    accepts text (Err Memory) h value k = tt
    accepts text (Err (Refused fault)) h value k = absurd (never text fault value (refused text (Err (Refused fault)) h) k)

    -- and so is the fault that it is refused with
    pub refuses : (text : List ℕ) (r : Result V ReadError) → IsRead front parsed_of holds text r → (fault : Fault) → IsRefused front seen Spells text fault → Answers r (Err fault)
    refuses text (Ok value) h fault k = absurd (never text fault value k (found text (Ok value) h))
    refuses text (Err Memory) h fault k = tt
    refuses text (Err (Refused other)) h fault k = same_fault text other fault (refused text (Err (Refused other)) h) k
