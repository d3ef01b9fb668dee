-- Loops over the octets of a text.
use Rattle.std.proofs.Common.{◌≡◌, ℕ, suc, ◌+◌, ◌<◌, true, false, List, ◌∷◌, get_or, drop, length, refl, sym, ap, ◌∙◌, subst, arith, cond, add-one, drop-cons, codes, Option, Some, None}
use Rattle.std.specs.Option.{option_map}
use Rattle.token_division.specs.Pieces.{begins, close_size}

more_once : (at : ℕ) (o : Option ℕ) → option_map (λ n. at + n) (option_map suc o) ≡ option_map (λ n. at + 1 + n) o
more_once at None = refl
more_once at (Some n) = ap Some (omega arith)

open_there : (octet : ℕ) (text : List ℕ) → begins (octet ∷ text) (codes "*/") ≡ false → close_size (octet ∷ text) ≡ option_map suc (close_size text)
open_there octet text e = ap (λ t. cond t (Some 2) (option_map suc (close_size text))) e

-- where no `*/` begins, the comment goes on
pub close_more : (text : List ℕ) (at : ℕ) → at < length text → begins (drop at text) (codes "*/") ≡ false → option_map (λ n. at + n) (close_size (drop at text)) ≡ option_map (λ n. at + 1 + n) (close_size (drop (at + 1) text))
close_more text at l e =
    let d = drop-cons text at 0 l in
    let f = subst (λ (xs : List ℕ). begins xs (codes "*/") ≡ false) d e in
    ap (λ (xs : List ℕ). option_map (λ n. at + n) (close_size xs)) d ∙ ap (option_map (λ n. at + n)) (open_there (get_or text at 0) (drop (suc at) text) f)
    ∙ more_once at (close_size (drop (suc at) text)) ∙ ap (λ k. option_map (λ n. at + 1 + n) (close_size (drop k text))) (sym (add-one at))

closed_there : (octet : ℕ) (text : List ℕ) → begins (octet ∷ text) (codes "*/") ≡ true → close_size (octet ∷ text) ≡ Some 2
closed_there octet text e = ap (λ t. cond t (Some 2) (option_map suc (close_size text))) e

pub close_found : (text : List ℕ) (at : ℕ) → at < length text → begins (drop at text) (codes "*/") ≡ true → option_map (λ n. at + n) (close_size (drop at text)) ≡ Some (at + 2)
close_found text at l e =
    let d = drop-cons text at 0 l in
    let f = subst (λ (xs : List ℕ). begins xs (codes "*/") ≡ true) d e in
    ap (λ (xs : List ℕ). option_map (λ n. at + n) (close_size xs)) d ∙ ap (option_map (λ n. at + n)) (closed_there (get_or text at 0) (drop (suc at) text) f)
