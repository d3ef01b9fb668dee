-- What is found in a table of marks.
use Rattle.std.proofs.Common.{◌≡◌, ℕ, zero, suc, ◌≤◌, Bool, true, false, List, [], ◌∷◌, length, refl, ap, subst, arith, cond, Option, Some, None}
use Rattle.std.specs.Prelude.{nat_le, ◌&&◌, All}
use Rattle.std.specs.List.{list_all}
use Rattle.std.proofs.lemmas.Bool.Decides.{nat_tests}
use Rattle.std.proofs.lemmas.List.Elements.{All-cons}
use Rattle.token_division.specs.Pieces.{begins, mark_at, is_longest_first}

-- it is a mark of the table that the text begins with
pub mark_begins : {M : Type 0} (t : M → List ℕ) (text : List ℕ) (mark : M) (marks : List M) → mark_at t marks text ≡ Some mark → begins text (t mark) ≡ true
mark_begins t text mark [] e = absurd (cc)
mark_begins {M} t text mark (first ∷ marks) e = go (begins text (t first)) refl e (mark_begins t text mark marks)
  where
    go : (b : Bool) → begins text (t first) ≡ b → cond b (Some first) (mark_at t marks text) ≡ Some mark → (mark_at t marks text ≡ Some mark → begins text (t mark) ≡ true) → begins text (t mark) ≡ true
    go true f e later = let q : first ≡ mark = cc in subst (λ (m : M). begins text (t m) ≡ true) q f
    go false f e later = later e

both_left : (a b : Bool) → (a && b) ≡ true → a ≡ true
both_left true b e = refl
both_left false b e = absurd (cc)

both_right : (a b : Bool) → (a && b) ≡ true → b ≡ true
both_right true b e = e
both_right false b e = absurd (cc)

no_longer : {M : Type 0} (t : M → List ℕ) (n : ℕ) (marks : List M) → list_all (λ other. nat_le (length (t other)) n) marks ≡ true → All (λ other. length (t other) ≤ n) marks
no_longer t n [] e k d l = absurd (omega arith)
no_longer t n (first ∷ marks) e zero d l = let h = both_left (nat_le (length (t first)) n) (list_all (λ other. nat_le (length (t other)) n) marks) e in grind (arith, nat_tests)
no_longer t n (first ∷ marks) e (suc k) d l = no_longer t n marks (both_right (nat_le (length (t first)) n) (list_all (λ other. nat_le (length (t other)) n) marks) e) k d (omega arith)

-- the text begins with no mark that has more octets
abbrev IsNoLonger : {M : Type 0} → (M → List ℕ) → List ℕ → ℕ → M → Type 0
IsNoLonger t text size other = begins text (t other) ≡ true → length (t other) ≤ size

-- of the marks that the text begins with it is the longest, where longer marks stand first
pub mark_longest : {M : Type 0} (t : M → List ℕ) (text : List ℕ) (mark : M) (marks : List M) → is_longest_first t marks ≡ true → mark_at t marks text ≡ Some mark → All (IsNoLonger t text (length (t mark))) marks
mark_longest t text mark [] s e = λ k d l. absurd (omega arith)
mark_longest {M} t text mark (first ∷ marks) s e = go (begins text (t first)) refl e (mark_longest t text mark marks (both_right (list_all (λ other. nat_le (length (t other)) (length (t first))) marks) (is_longest_first t marks) s))
  where
    go : (b : Bool) → begins text (t first) ≡ b → cond b (Some first) (mark_at t marks text) ≡ Some mark → (mark_at t marks text ≡ Some mark → All (IsNoLonger t text (length (t mark))) marks) → All (IsNoLonger t text (length (t mark))) (first ∷ marks)
    go true f e later =
        let q : first ≡ mark = cc in
        let n : length (t first) ≡ length (t mark) = ap (λ (m : M). length (t m)) q in
        let h = no_longer t (length (t first)) marks (both_left (list_all (λ other. nat_le (length (t other)) (length (t first))) marks) (is_longest_first t marks) s) in
        All-cons (IsNoLonger t text (length (t mark))) first marks (λ b. omega (arith, n)) (λ k d l b. omega (arith, n, h k d l))
    go false f e later = All-cons (IsNoLonger t text (length (t mark))) first marks (λ b. absurd (cc)) (later e)
