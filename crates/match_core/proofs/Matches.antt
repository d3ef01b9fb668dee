-- Laws of matching, for the loops that go over keys.
use Rattle.std.proofs.Common.{◌≡◌, ◌≢◌, ℕ, suc, false, ◌⊎◌, inl, inr, List, [], ◌∷◌, length, refl, ap}
use Rattle.std.proofs.Math.Bool.{and-false}
use Rattle.match_core.specs.declared.signatures.KeySpec.{KeySpec}
use Rattle.match_core.specs.declared.entries.KeyMatch.{KeyMatch}
use Rattle.match_core.specs.Matching.{matches_one, matches}

-- lists of different lengths don't match
pub matches-differ : (specs : List KeySpec) (ones : List KeyMatch) (values : List ℕ) → (length ones ≢ length specs) ⊎ (length values ≢ length specs) → matches specs ones values ≡ false
matches-differ [] [] [] (inl differ) = absurd (differ refl)
matches-differ [] [] [] (inr differ) = absurd (differ refl)
matches-differ (spec ∷ specs) (one ∷ ones) (value ∷ values) differ =
    let rest = matches-differ specs ones values
    (elim differ [ inl d ↦ inl (λ e. d (ap (λ (n : ℕ). suc n) e)) | inr d ↦ inr (λ e. d (ap (λ (n : ℕ). suc n) e)) ]) in
    rw rest (and-false (matches_one spec.width one value))
matches-differ [] [] (value ∷ values) differ = refl
matches-differ [] (one ∷ ones) values differ = refl
matches-differ (spec ∷ specs) [] values differ = refl
matches-differ (spec ∷ specs) (one ∷ ones) [] differ = refl
