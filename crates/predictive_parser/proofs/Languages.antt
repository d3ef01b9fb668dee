-- What parsing answers, in a grammar that reads exactly what is spelled.
use Rattle.std.proofs.Common.{◌≡◌, ◌≢◌, ◌⊎◌, ℕ, suc, true, ◌+◌, ◌<◌, List, [], ◌∷◌, ◌++◌, length, take, Result, Ok, Err, refl, sym, ap, ◌∙◌, subst, inl, inr, arith, append_assoc, length-append}
use Rattle.predictive_parser.specs.declared.symbol.Symbol.TheVariants.{Word}
use Rattle.predictive_parser.specs.Machine.{run}
use Rattle.predictive_parser.specs.Grammar.{Grammar, move, parse}
use Rattle.predictive_parser.specs.Answers.{Begins, IsRefusedAt, Parses, Gives}
use Rattle.predictive_parser.specs.declared.parser.ParseError.{ParseError}
use Rattle.predictive_parser.specs.declared.parser.ParseError.TheVariants.{Memory, Refused}
use Rattle.std.specs.Prelude.{IfOk, IsErrOf}
use Rattle.predictive_parser.proofs.Refusals.{RefusedAt, refused, BeginsAt}
use Rattle.predictive_parser.proofs.Closings.{Closing, IsClosed, begins_word}

take_front : {T : Type 0} (front back : List T) → take (length front) (front ++ back) ≡ front
take_front [] back = refl
take_front (token ∷ front) back = ap (λ ts. token ∷ ts) (take_front front back)

module _ {C A W T B V : Type 0} (grammar : Grammar C A W T B) (word : W) (built : B) (Spells : V → List T → Type 0) (after : V → B) where
  -- the word is read of the tokens that spell something, and builds that
  pub record IsLanguage : Type 0 where
    pub sound : (tokens : List T) (end : B) → parse grammar word built tokens ≡ Ok end → (value : V) × Spells value tokens × (after value ≡ end)
    pub complete : (value : V) (tokens : List T) → Spells value tokens → parse grammar word built tokens ≡ Ok (after value)

  module _ (language : IsLanguage) where
    ok_same : (c d : B) (r : Result B ℕ) → r ≡ Ok c → r ≡ Ok d → c ≡ d
    ok_same c d r e f = cc

    -- tokens spell one thing at most, as far as what is built tells
    pub spells_one : (value other : V) (tokens : List T) → Spells value tokens → Spells other tokens → after value ≡ after other
    spells_one value other tokens h k = ok_same (after value) (after other) (parse grammar word built tokens) (language.complete value tokens h) (language.complete other tokens k)

    -- where the machine refuses a token, that is the first that can't stand there
    pub refused_at : (closing : Closing grammar) → ((w : W) → closing.stands w ≡ true → IsClosed grammar closing w) → (tokens : List T) (at : ℕ) → closing.stands word ≡ true → parse grammar word built tokens ≡ Err at → IsRefusedAt Spells tokens at
    refused_at closing closed tokens at t e = record { before = begin (begins_word grammar closing closed word built tokens at t e); behind = stop (refused (move grammar) tokens (Word word ∷ []) built 0 at e) }
      where
        begin : BeginsAt (move grammar) (Word word ∷ []) built 0 tokens at → Begins Spells (take at tokens)
        begin r =
            let n : at ≡ length r.front = omega (arith, r.counts) in
            let s = language.sound (r.front ++ r.more) r.end r.reads in
            let t : take at tokens ≡ r.front = ap (λ ts. take at ts) r.whole ∙ ap (λ m. take m (r.front ++ r.back)) n ∙ take_front r.front r.back in
            (r.more, s.0, subst (λ ts. Spells s.0 (ts ++ r.more)) (sym t) s.1)

        at_end : (front : List T) → 0 + length front ≡ at → tokens ≡ front → ((end : B) → run (move grammar) (Word word ∷ []) built 0 front ≢ Ok end) → (at ≡ length tokens) × ((value : V) → Spells value tokens → ⊥)
        at_end front c w n =
            let l = ap length w in
            (omega (arith, c, l), λ value h. n (after value) (language.complete value front (subst (Spells value) w h)))

        inside : (front back : List T) (token : T) → 0 + length front ≡ at → tokens ≡ front ++ token ∷ back → ((more : List T) (end : B) → run (move grammar) (Word word ∷ []) built 0 (front ++ token ∷ more) ≢ Ok end) → (at < length tokens) × (Begins Spells (take (suc at) tokens) → ⊥)
        inside front back token c w n =
            let l = ap length w ∙ length-append front (token ∷ back) in
            let k : suc at ≡ length (front ++ token ∷ []) = omega (arith, c, length-append front (token ∷ [])) in
            let t : take (suc at) tokens ≡ front ++ token ∷ [] =
            ap (λ ts. take (suc at) ts) (w ∙ sym (append_assoc front (token ∷ []) back)) ∙ ap (λ m. take m ((front ++ token ∷ []) ++ back)) k ∙ take_front (front ++ token ∷ []) back in (
              omega (arith, c, l),
              λ b.
                  n b.0 (after b.1) (language.complete b.1 (front ++ token ∷ b.0)
                  (subst (Spells b.1) (ap (λ ts. ts ++ b.0) t ∙ append_assoc front (token ∷ []) b.0) b.2)),
            )

        stop : RefusedAt (move grammar) (Word word ∷ []) built 0 tokens at → ((at < length tokens) × (Begins Spells (take (suc at) tokens) → ⊥)) ⊎ ((at ≡ length tokens) × ((value : V) → Spells value tokens → ⊥))
        stop r = elim r.never [ inl h ↦ inr (at_end r.front r.counts h.0 h.1) | inr h ↦ inl (inside r.front h.1 h.0 r.counts h.2 h.3) ]

    -- From the answer of a reader to the clauses that it is known by.
    pub found : {R : Type 0} (r : Result R ParseError) (tokens : List T) (holds : R → B → Type 0) → Parses r (parse grammar word built tokens) holds → IfOk r (λ x. (value : V) × holds x (after value) × Spells value tokens)
    found (Ok x) tokens holds h = go (parse grammar word built tokens) refl h
      where
        go : (o : Result B ℕ) → parse grammar word built tokens ≡ o → Parses (Ok x) o holds → (value : V) × holds x (after value) × Spells value tokens
        go (Ok end) e k = let s = language.sound tokens end e in (s.0, subst (holds x) (sym s.2) k, s.1)
        go (Err at) e k = absurd k
    found (Err error) tokens holds h = tt

    pub gives : {R : Type 0} (r : Result R ParseError) (tokens : List T) (holds : R → B → Type 0) → Parses r (parse grammar word built tokens) holds → (value : V) → Spells value tokens → Gives r (λ x. holds x (after value))
    gives (Ok x) tokens holds h value s = subst (λ o. Parses (Ok x) o holds) (language.complete value tokens s) h
    gives (Err Memory) tokens holds h value s = tt
    gives {R} (Err (Refused place)) tokens holds h value s = subst (λ o. Parses {R = R} (Err (Refused place)) o holds) (language.complete value tokens s) h

    pub refuses : {R : Type 0} (closing : Closing grammar) → ((w : W) → closing.stands w ≡ true → IsClosed grammar closing w) → closing.stands word ≡ true → (r : Result R ParseError) (tokens : List T) (holds : R → B → Type 0) → Parses r (parse grammar word built tokens) holds → (at : ℕ) → IsErrOf r (Refused at) → IsRefusedAt Spells tokens at
    refuses closing closed t (Ok x) tokens holds h at e = cc
    refuses closing closed t (Err Memory) tokens holds h at e = cc
    refuses {R} closing closed t (Err (Refused place)) tokens holds h at e = go (parse grammar word built tokens) refl h
      where
        go : (o : Result B ℕ) → parse grammar word built tokens ≡ o → Parses {R = R} (Err (Refused place)) o holds → IsRefusedAt Spells tokens at
        go (Ok end) q k = absurd k
        go (Err other) q k = let n : other ≡ at = cc in refused_at closing closed tokens at t (q ∙ ap Err n)
