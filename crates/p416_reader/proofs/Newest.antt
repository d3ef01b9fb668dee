-- The newest place of a stack of places.
use Rattle.std.proofs.Common.{◌≡◌, ℕ, ◌<◌, List, [], ◌∷◌, map, subst, ap, arith}
use Rattle.p416_syntax.specs.Tree.{Exp16, exp_at}
use Rattle.predictive_parser.specs.Values.{newest}
use Rattle.p416_reader.specs.internal.Actions.{first_exp}
use Rattle.p416_reader.specs.internal.Forest.{AllBelow}

pub newest_below : (n : ℕ) (es : List ℕ) (place : ℕ) → AllBelow n es → ((other : ℕ) → newest other es ≡ place) → place < n
newest_below n [] place h is = let zero_is = is 0 in let one_is = is 1 in absurd (omega (arith, zero_is, one_is))
newest_below n (e ∷ es) place h is = subst (λ p. p < n) (is 0) h.0

pub newest_exp : (exps : List Exp16) (es : List ℕ) (place : ℕ) → ((other : ℕ) → newest other es ≡ place) → first_exp (map (exp_at exps) es) ≡ exp_at exps place
newest_exp exps [] place is = let zero_is = is 0 in let one_is = is 1 in absurd (omega (arith, zero_is, one_is))
newest_exp exps (e ∷ es) place is = ap (exp_at exps) (is 0)
