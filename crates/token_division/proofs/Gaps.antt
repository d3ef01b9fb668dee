-- Trivia between tokens, a piece at a time.
use Rattle.std.proofs.Common.{◌≡◌, ℕ, ◌<◌, List, [], ◌∷◌, ◌++◌, take, drop, refl, sym, subst, arith}
use Rattle.token_division.specs.declared.division.Token.{Token}
use Rattle.token_division.specs.Trivia.{Trivia, span, TriviaReach, IsTriviaFrom, HasTriviaBetween}

module _ (trivia : Trivia) (text : List ℕ) where
  reach_more : (ends : List ℕ) («from» mid to : ℕ) → TriviaReach trivia text ends «from» mid → mid < to → trivia (take mid text) (span mid to text) (drop to text) → TriviaReach trivia text (ends ++ to ∷ []) «from» to
  reach_more [] start mid to h l p = (omega (arith, h), subst (λ k. trivia (take k text) (span k to text) (drop to text)) (sym h) p, refl)
  reach_more (end ∷ ends) start mid to h l p = (h.0, h.1, reach_more ends end mid to h.2 l p)

  -- one more piece of trivia
  pub more_trivia : {K : Type 0} (tokens : List (Token K)) (start mid to : ℕ) → HasTriviaBetween trivia text start tokens mid → mid < to → trivia (take mid text) (span mid to text) (drop to text) → HasTriviaBetween trivia text start tokens to
  more_trivia [] start mid to h l p = (h.0 ++ to ∷ [], reach_more h.0 start mid to h.1 l p)
  more_trivia (token ∷ tokens) start mid to h l p = (h.0, more_trivia tokens token.to mid to h.1 l p)

  -- one more token
  pub more_tokens : {K : Type 0} (tokens : List (Token K)) (start mid : ℕ) (token : Token K) → HasTriviaBetween trivia text start tokens mid → token.from ≡ mid → HasTriviaBetween trivia text start (tokens ++ token ∷ []) token.to
  more_tokens [] start mid token h e = (subst (λ k. IsTriviaFrom trivia text start k) (sym e) h, ([], refl))
  more_tokens (first ∷ tokens) start mid token h e = (h.0, more_tokens tokens first.to mid token h.1 e)
