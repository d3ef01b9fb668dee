-- What the comments of a text are, and why there is none.
use Rattle.std.proofs.Common.{◌≡◌, ◌⊎◌, inl, inr, ℕ, zero, suc, ◌+◌, ◌<◌, ◌≤◌, Bool, true, false, nat_eq, List, [], ◌∷◌, ◌++◌, length, get_or, take, drop, refl, sym, ap, ◌∙◌, subst, arith, cond, codes, append_assoc, take-append-drop, take-take, Option, Some, None, Result, Ok, Err}
use Rattle.std.specs.Prelude.{not}
use Rattle.std.specs.Option.{option_map}
use Rattle.std.specs.List.{AllPass, prefix_len}
use Rattle.std.specs.Cmp.Lexicographic.{same_text, pointwise}
use Rattle.std.proofs.Math.Nat.{eq-or-lt_of_le}
use Rattle.std.proofs.lemmas.List.{get_or-take, get_or-drop, drop_all, length-take-le}
use Rattle.std.proofs.lemmas.List.Sums.{prefix_len-le-length, prefix_len_passes, prefix_len_stops}
use Rattle.std.proofs.lemmas.Bool.Decides.{nat_tests}
use Rattle.p4x_fault.specs.declared.Rule.{Rule}
use Rattle.p4x_fault.specs.declared.Rule.TheVariants.{L}
use Rattle.token_division.specs.Octets.{is_line_feed, is_on_line}
use Rattle.token_division.specs.Pieces.{begins, close_size, closed_size, comment_size}
use Rattle.token_division.specs.Trivia.{StandsIn, IsLineComment, IsBlockComment, BeginsOpenComment, EndsLine}
use Rattle.token_division.proofs.Places.{take-add}

-- runs
pub run_passes : (p : ℕ → Bool) (text : List ℕ) → AllPass p (take (prefix_len p text) text)
run_passes p text k d l =
    let within = length-take-le (prefix_len p text) text (prefix_len-le-length p text) in
    let m : k < prefix_len p text = omega (arith, within) in
    ap p (get_or-take (prefix_len p text) text k d m) ∙ prefix_len_passes p text k d m

pub run_front : (p : ℕ → Bool) (run rest : List ℕ) → AllPass p run → prefix_len p (run ++ rest) ≡ length run + prefix_len p rest
run_front p [] rest h = omega arith
run_front p (octet ∷ run) rest h =
    let more = run_front p run rest (λ k d l. h (suc k) d (omega arith)) in
    ap (λ t. cond t (1 + prefix_len p (run ++ rest)) 0) (h 0 0 (omega arith)) ∙ omega (arith, more)

-- what a text begins with
pub begins_as : (text octets : List ℕ) → begins text octets ≡ true → take (length octets) text ≡ octets
begins_as text octets e = sym (same_text octets (take (length octets) text) (sym e))

pub begins_in : (text octets : List ℕ) (n : ℕ) → length octets ≤ n → begins text octets ≡ true → begins (take n text) octets ≡ true
begins_in text octets n l e = ap (pointwise nat_eq octets) (take-take (length octets) n text l) ∙ e

pub line_holds : (text octets : List ℕ) → AllPass is_on_line octets → begins text octets ≡ true → length octets ≤ prefix_len is_on_line text
line_holds text octets h e =
    let whole : octets ++ drop (length octets) text ≡ text = ap (λ xs. xs ++ drop (length octets) text) (sym (begins_as text octets e)) ∙ take-append-drop (length octets) text in
    omega (arith, sym (ap (prefix_len is_on_line) whole), run_front is_on_line octets (drop (length octets) text) h)

feed_is : (octet : ℕ) → is_on_line octet ≡ false → octet ≡ 10
feed_is octet e = let f : is_line_feed octet ≡ true = by (is_line_feed octet) e in grind (arith, nat_tests)
  where
    by : (t : Bool) → not t ≡ false → t ≡ true
    by true e = refl
    by false e = absurd (cc)

-- behind the octets up to the end of the first line
pub line_ends : (text : List ℕ) → EndsLine (drop (prefix_len is_on_line text) text)
line_ends text =
    let size = prefix_len is_on_line text in
    let same : size + 0 ≡ size = omega arith in
    elim (eq-or-lt_of_le (prefix_len-le-length is_on_line text)) [
      | inl e ↦ inl (drop_all size text (omega (arith, e)))
      | inr l ↦ inr (get_or-drop size text 0 0 ∙ ap (λ k. get_or text k 0) same ∙ feed_is (get_or text size 0) (prefix_len_stops is_on_line text 0 l))
    ]

-- where a comment ends
nothing_begins : (at : ℕ) → begins (drop at []) (codes "*/") ≡ true → ⊥
nothing_begins at e = let f : begins [] (codes "*/") ≡ true = ap (λ xs. begins xs (codes "*/")) (sym (drop_all at [] (omega arith))) ∙ e in cc

star_is_open : (at : ℕ) → begins (drop at (codes "*")) (codes "*/") ≡ true → ⊥
star_is_open zero e = cc
star_is_open (suc at) e = nothing_begins at e

same_first : (inside text : List ℕ) (n : ℕ) → take n text ≡ inside ++ codes "*/" → take 1 text ≡ take 1 (inside ++ codes "*")
same_first [] [] zero e = absurd (cc)
same_first [] [] (suc n) e = absurd (cc)
same_first [] (octet ∷ text) zero e = absurd (cc)
same_first [] (octet ∷ text) (suc n) e = ap (take 1) e
same_first (first ∷ inside) [] zero e = absurd (cc)
same_first (first ∷ inside) [] (suc n) e = absurd (cc)
same_first (first ∷ inside) (octet ∷ text) zero e = absurd (cc)
same_first (first ∷ inside) (octet ∷ text) (suc n) e = ap (take 1) e

abbrev ClosedIn : List ℕ → ℕ → Type 0
ClosedIn text size = (inside : List ℕ) × (take size text ≡ inside ++ codes "*/") × (StandsIn (codes "*/") (inside ++ codes "*") → ⊥)

closed : (text : List ℕ) (size : ℕ) → close_size text ≡ Some size → ClosedIn text size
closed [] size e = absurd (cc)
closed (octet ∷ text) size e = by (begins (octet ∷ text) (codes "*/")) refl (close_size text) refl (closed text) e
  where
    further : (n : ℕ) → begins (octet ∷ text) (codes "*/") ≡ false → ClosedIn text n → ClosedIn (octet ∷ text) (suc n)
    further n b h =
        let same : begins (octet ∷ h.0 ++ codes "*") (codes "*/") ≡ begins (octet ∷ text) (codes "*/") = ap (λ xs. pointwise nat_eq (codes "*/") (octet ∷ xs)) (sym (same_first h.0 text n h.1)) in
        (octet ∷ h.0, ap (λ xs. octet ∷ xs) h.1, λ s. at_each s.0 s.1 same)
      where
        at_each : (at : ℕ) → begins (drop at (octet ∷ h.0 ++ codes "*")) (codes "*/") ≡ true → begins (octet ∷ h.0 ++ codes "*") (codes "*/") ≡ begins (octet ∷ text) (codes "*/") → ⊥
        at_each zero s same = absurd (let f = sym s ∙ same ∙ b in cc)
        at_each (suc at) s same = h.2 (at, s)

    by : (t : Bool) → begins (octet ∷ text) (codes "*/") ≡ t → (o : Option ℕ) → close_size text ≡ o → ((n : ℕ) → close_size text ≡ Some n → ClosedIn text n) → cond t (Some 2) (option_map suc o) ≡ Some size → ClosedIn (octet ∷ text) size
    by true b o f more e = let two : 2 ≡ size = cc in subst (ClosedIn (octet ∷ text)) two ([], begins_as (octet ∷ text) (codes "*/") b, λ s. star_is_open s.0 s.1)
    by false b None f more e = absurd (cc)
    by false b (Some n) f more e = let next : suc n ≡ size = cc in subst (ClosedIn (octet ∷ text)) next (further n b (more n f))

still_open : (text : List ℕ) → close_size text ≡ None → (at : ℕ) → begins (drop at text) (codes "*/") ≡ true → ⊥
still_open [] e at s = nothing_begins at s
still_open (octet ∷ text) e at s = by (begins (octet ∷ text) (codes "*/")) refl (close_size text) refl e at s (still_open text)
  where
    by : (t : Bool) → begins (octet ∷ text) (codes "*/") ≡ t → (o : Option ℕ) → close_size text ≡ o → cond t (Some 2) (option_map suc o) ≡ None → (at : ℕ) → begins (drop at (octet ∷ text)) (codes "*/") ≡ true → (close_size text ≡ None → (at : ℕ) → begins (drop at text) (codes "*/") ≡ true → ⊥) → ⊥
    by true b o f e at s more = absurd (cc)
    by false b (Some n) f e at s more = absurd (cc)
    by false b None f e zero s more = absurd (let g = sym s ∙ b in cc)
    by false b None f e (suc at) s more = more f at s

slashes_on_line : AllPass is_on_line (codes "//")
slashes_on_line zero d l = refl
slashes_on_line (suc zero) d l = refl
slashes_on_line (suc (suc k)) d l = absurd (omega arith)

abbrev pub IsComment : List ℕ → ℕ → Type 0
IsComment text size = (IsLineComment (take size text) × EndsLine (drop size text)) ⊎ IsBlockComment (take size text)

line_comment : (text : List ℕ) → begins text (codes "//") ≡ true → IsLineComment (take (prefix_len is_on_line text) text) × EndsLine (drop (prefix_len is_on_line text) text)
line_comment text e = ((begins_in text (codes "//") (prefix_len is_on_line text) (line_holds text (codes "//") slashes_on_line e) e, run_passes is_on_line text), line_ends text)

block_comment : (text : List ℕ) (n : ℕ) → begins text (codes "/*") ≡ true → ClosedIn (drop 2 text) n → IsBlockComment (take (n + 2) text)
block_comment text n e h =
    let size : n + 2 ≡ 2 + n = omega arith in
    (h.0, ap (λ k. take k text) size ∙ take-add 2 n text ∙ ap (λ xs. xs ++ take n (drop 2 text)) (begins_as text (codes "/*") e) ∙ ap (λ xs. codes "/*" ++ xs) h.1, h.2)

-- what is taken as a comment is one
pub comment_taken : (text : List ℕ) (size : ℕ) → comment_size text ≡ Ok size → IsComment text size
comment_taken text size e = by (begins text (codes "//")) refl (begins text (codes "/*")) refl (close_size (drop 2 text)) refl e
  where
    by : (line : Bool) → begins text (codes "//") ≡ line → (block : Bool) → begins text (codes "/*") ≡ block → (o : Option ℕ) → close_size (drop 2 text) ≡ o → cond line (Ok (prefix_len is_on_line text)) (cond block (closed_size o) (Err (L 1))) ≡ Ok size → IsComment text size
    by true f block g o h e = let q : prefix_len is_on_line text ≡ size = cc in subst (IsComment text) q (inl (line_comment text f))
    by false f true g (Some n) h e = let q : n + 2 ≡ size = cc in subst (IsComment text) q (inr (block_comment text n g (closed (drop 2 text) n h)))
    by false f true g None h e = absurd (cc)
    by false f false g o h e = absurd (cc)

-- a comment that isn't closed, or none
abbrev pub IsNoComment : List ℕ → Rule → Type 0
IsNoComment text rule = ((rule ≡ L 2) × BeginsOpenComment text) ⊎ ((rule ≡ L 1) × (begins text (codes "//") ≡ false) × (begins text (codes "/*") ≡ false))

pub comment_refused : (text : List ℕ) (rule : Rule) → comment_size text ≡ Err rule → IsNoComment text rule
comment_refused text rule e = by (begins text (codes "//")) refl (begins text (codes "/*")) refl (close_size (drop 2 text)) refl e
  where
    by : (line : Bool) → begins text (codes "//") ≡ line → (block : Bool) → begins text (codes "/*") ≡ block → (o : Option ℕ) → close_size (drop 2 text) ≡ o → cond line (Ok (prefix_len is_on_line text)) (cond block (closed_size o) (Err (L 1))) ≡ Err rule → IsNoComment text rule
    by true f block g o h e = absurd (cc)
    by false f true g (Some n) h e = absurd (cc)
    by false f true g None h e = let q : rule ≡ L 2 = cc in inl (q, (g, λ s. still_open (drop 2 text) h s.0 s.1))
    by false f false g o h e = let q : rule ≡ L 1 = cc in inr (q, f, g)
