-- Spaces at the end of a text.
use Rattle.std.proofs.Common.{◌≡◌, ℕ, zero, suc, ◌+◌, ◌≤◌, List, [], ◌∷◌, ◌++◌, length, take, replicate, refl, sym, ap, ◌∙◌, arith, append_assoc, length-append, take-take}
use Rattle.std.proofs.Math.Seq.{take-append_seam}

pub old_again : (old new more : List ℕ) → new ≡ old ++ more → take (length old) new ≡ old
old_again old new more e = ap (take (length old)) e ∙ take-append_seam old more

one_more : (octet n : ℕ) → replicate n octet ++ octet ∷ [] ≡ replicate (suc n) octet
one_more octet zero = refl
one_more octet (suc n) = ap (λ xs. octet ∷ xs) (one_more octet n)

pub octet_more : (old now : List ℕ) (octet n : ℕ) → now ≡ old ++ replicate n octet → now ++ octet ∷ [] ≡ old ++ replicate (n + 1) octet
octet_more old now octet n e =
    let m : suc n ≡ n + 1 = omega arith in
    ap (λ xs. xs ++ octet ∷ []) e ∙ append_assoc old (replicate n octet) (octet ∷ []) ∙ ap (λ xs. old ++ xs) (one_more octet n) ∙ ap (λ k. old ++ replicate k octet) m

-- what was there before more was put there
pub old_again_behind : (old mid new more : List ℕ) → mid ≡ old ++ more → take (length mid) new ≡ mid → take (length old) new ≡ old
old_again_behind old mid new more e f =
    let n : length old ≤ length mid = omega (arith, ap length e ∙ length-append old more) in
    sym (take-take (length old) (length mid) new n) ∙ ap (take (length old)) (f ∙ e) ∙ take-append_seam old more

-- what is put there in two parts
pub put_behind : (old mid new xs ys : List ℕ) → mid ≡ old ++ xs → new ≡ mid ++ ys → new ≡ old ++ (xs ++ ys)
put_behind old mid new xs ys p q = q ∙ ap (λ zs. zs ++ ys) p ∙ append_assoc old xs ys
