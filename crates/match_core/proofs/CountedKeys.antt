-- What counts of the keys of an entry, key by key.
use Rattle.std.proofs.Common.{◌≡◌, ℕ, ◌+◌, ◌<◌, ◌≤◌, min, inl, inr, List, [], ◌∷◌, ◌++◌, length, drop, get_or, refl, sym, ◌∙◌, arith, append_assoc}
use Rattle.std.proofs.lemmas.Bool.{cases_lt}
use Rattle.std.proofs.lemmas.List.{drop_more, drop_all, append-nil}
use Rattle.match_core.specs.declared.signatures.KeySpec.{KeySpec}
use Rattle.match_core.specs.declared.entries.KeyMatch.{KeyMatch}
use Rattle.match_core.specs.Identity.{counted, counted_all}

-- one more key is counted
pub counted_turn : (specs : List KeySpec) (ones : List KeyMatch) (i : ℕ) (d : KeySpec) (e : KeyMatch) (all key : List ℕ) (first second : ℕ) → i < min (length specs) (length ones) → counted (get_or specs i d).width (get_or ones i e) ≡ first ∷ second ∷ [] → all ≡ key ++ counted_all (drop i specs) (drop i ones) → all ≡ ((key ++ first ∷ []) ++ second ∷ []) ++ counted_all (drop (i + 1) specs) (drop (i + 1) ones)
counted_turn specs ones i d e all key first second lt is so_far =
    let spec : drop i specs ≡ get_or specs i d ∷ drop (i + 1) specs = drop_more specs i d (omega arith) in
    let one : drop i ones ≡ get_or ones i e ∷ drop (i + 1) ones = drop_more ones i e (omega arith) in
    so_far ∙ (rw (spec, one, is) (sym (rw (append_assoc (key ++ first ∷ []) (second ∷ []) _, append_assoc key (first ∷ []) _) refl)))

no_keys : (specs : List KeySpec) → counted_all specs [] ≡ []
no_keys [] = refl
no_keys (spec ∷ specs) = refl

nothing_counted : (specs : List KeySpec) (ones : List KeyMatch) (i : ℕ) → min (length specs) (length ones) ≤ i → counted_all (drop i specs) (drop i ones) ≡ []
nothing_counted specs ones i le =
    elim (cases_lt i (length specs)) [
      | inl more ↦ let none : drop i ones ≡ [] = drop_all i ones (omega arith) in rw none (no_keys (drop i specs))
      | inr few ↦ let none : drop i specs ≡ [] = drop_all i specs few in rw none refl
    ]

-- all keys are counted
pub counted_end : (specs : List KeySpec) (ones : List KeyMatch) (i : ℕ) (all key : List ℕ) → min (length specs) (length ones) ≤ i → all ≡ key ++ counted_all (drop i specs) (drop i ones) → all ≡ key
counted_end specs ones i all key le so_far = so_far ∙ (rw (nothing_counted specs ones i le) (append-nil key))
