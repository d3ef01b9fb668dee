-- One more from the inside out.
use Rattle.std.proofs.Common.{◌≡◌, ℕ, zero, suc, ◌-◌, ◌<◌, ◌≤◌, Option, List, [], ◌∷◌, length, drop, get_or, sym, ap, ◌∙◌, arith}
use Rattle.std.proofs.Math.Seq.{drop-cons}
use Rattle.v1_ready_blocks.specs.Tests.{Source}
use Rattle.v1_ready_nodes.specs.Held.{Held, Grows}
use Rattle.v1_ready_operands.specs.declared.found.Found.{Found as CodeFound}
use Rattle.v1_ready_operands.specs.internal.Coded.{seen_found, seen_founds, IsFoundIn, AreFoundIn}
use Rattle.v1_ready_operands.specs.internal.SourcePasses.{join_one, joined}
use Rattle.v1_ready_operands.proofs.KeepingSources.{found_kept}

dropped : {A : Type 0} (xs : List A) (left : ℕ) (d : A) → 0 < left → left ≤ length xs → drop (left - 1) xs ≡ get_or xs (left - 1) d ∷ drop left xs
dropped xs left d some within =
    let next : suc (left - 1) ≡ left = omega arith in
    drop-cons xs (left - 1) d (omega arith) ∙ ap (λ n. get_or xs (left - 1) d ∷ drop n xs) next

pub found_at : (h : Held) (fs : List CodeFound) (i : ℕ) (d : CodeFound) → AreFoundIn h fs → i < length fs → IsFoundIn h (get_or fs i d)
found_at h [] i d among within = absurd (omega arith)
found_at h (f ∷ fs) zero d among within = among.0
found_at h (f ∷ fs) (suc i) d among within = found_at h fs i d among.1 (omega arith)

pub join_turn : (h g : Held) (fs : List CodeFound) (left : ℕ) (f d : CodeFound) (xs ys : List (Option Source)) → Grows h g → IsFoundIn h f → 0 < left → left ≤ length fs → f ≡ get_or fs (left - 1) d → xs ≡ joined (seen_founds h (drop left fs)) → ys ≡ join_one (seen_found g f) xs
    → ys ≡ joined (seen_founds h (drop (left - 1) fs))
join_turn h g fs left f d xs ys grows among some within f_is is so =
    so
    ∙ (ap (λ x. join_one x xs) (found_kept h g grows f among)
    ∙ (ap (λ x. join_one (seen_found h x) xs) f_is
    ∙ (ap (join_one (seen_found h (get_or fs (left - 1) d))) is
    ∙ sym (ap (λ x. joined (seen_founds h x)) (dropped fs left d some within)))))
