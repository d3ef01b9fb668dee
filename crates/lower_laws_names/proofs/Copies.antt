-- The copies of a pipeline are each one thing.
use Rattle.std.proofs.Common.{◌≡◌, ℕ, suc, ◌+◌, ◌<◌, Bool, true, false, ◌&&◌, ◌||◌, not, cond, List, [], ◌∷◌, ◌++◌, length, map, refl, sym, ap, ◌∙◌, subst, arith}
use Rattle.std.specs.List.{list_any, filter}
use Rattle.std.specs.Prelude.{is_some}
use Rattle.std.specs.Str.{bytes_eq}
use Rattle.std.proofs.lemmas.Bool.{true≢false}
use Rattle.std.proofs.lemmas.List.Folds.{list_any-append}
use Rattle.std.proofs.lemmas.Slice.Eq.{bytes_eq-Decides}
use Rattle.p414_syntax.specs.declared.tables.Table.{Table}
use Rattle.p414_syntax.specs.declared.syntax.Decl.{Decl}
use Rattle.p414_syntax.specs.declared.syntax.Sort.TheVariants as sort
use Rattle.p414_syntax.specs.Names.{Name}
use Rattle.p414_syntax.specs.Tables.{tables, listed_in}
use Rattle.p414_sem.specs.Signatures.{direct_counter}
use Rattle.lower_laws_names.specs.Reaches.{Outer, declared, copy, IsIn, AreTwo, AreIn, IsNoneOf, AreEachOnce}
use Rattle.lower_laws_names.specs.Copies.{Listing, lines_from, listings_from, listings, Copy, is_same_bit, is_same_table, plain_copy, counted_copy, one_if, copies_behind, copies, in_pipeline, outers}

-- lines are numbered

abbrev pub AreNumbered : ℕ → List Listing → Type 0
AreNumbered k [] = Unit {0}
AreNumbered k (l ∷ ls) = (l.number ≡ k) × AreNumbered (k + 1) ls

both_numbered : (k : ℕ) (xs ys : List Listing) → AreNumbered k xs → AreNumbered (k + length xs) ys → AreNumbered k (xs ++ ys)
both_numbered k [] ys a b = let e : k + 0 ≡ k = omega arith in subst (λ (n : ℕ). AreNumbered n ys) e b
both_numbered k (x ∷ xs) ys a b =
    let e : k + suc (length xs) ≡ k + 1 + length xs = omega arith in
    (a.0, both_numbered (k + 1) xs ys a.1 (subst (λ (n : ℕ). AreNumbered n ys) e b))

lines_numbered : (counted egress : Bool) (table k : ℕ) (names : List Name) → AreNumbered k (lines_from counted egress table k names)
lines_numbered counted egress table k [] = tt
lines_numbered counted egress table k (n ∷ names) = (refl, lines_numbered counted egress table (k + 1) names)

lines_count : (counted egress : Bool) (table k : ℕ) (names : List Name) → length (lines_from counted egress table k names) ≡ length names
lines_count counted egress table k [] = refl
lines_count counted egress table k (n ∷ names) = ap suc (lines_count counted egress table (k + 1) names)

module _ (ds : List Decl) (egress : ℕ → Bool) where
  pub listings_numbered : (table k : ℕ) (ts : List Table) → AreNumbered k (listings_from ds egress table k ts)
  listings_numbered table k [] = tt
  listings_numbered table k (t ∷ ts) =
      let e : k + length (listed_in t) ≡ k + length (lines_from (is_some (direct_counter ds t.name)) (egress table) table k (listed_in t)) = ap (λ (n : ℕ). k + n) (sym (lines_count (is_some (direct_counter ds t.name)) (egress table) table k (listed_in t))) in
      both_numbered k (lines_from (is_some (direct_counter ds t.name)) (egress table) table k (listed_in t)) (listings_from ds egress (table + 1) (k + length (listed_in t)) ts) (lines_numbered (is_some (direct_counter ds t.name)) (egress table) table k (listed_in t)) (subst (λ (n : ℕ). AreNumbered n (listings_from ds egress (table + 1) (k + length (listed_in t)) ts)) e (listings_numbered (table + 1) (k + length (listed_in t)) ts))

-- one pipeline

pub same_bits : (a b : Bool) → is_same_bit a b ≡ true → a ≡ b
same_bits true true e = refl
same_bits true false e = cc
same_bits false true e = cc
same_bits false false e = refl

pub same_itself : (b : Bool) → is_same_bit b b ≡ true
same_itself true = refl
same_itself false = refl

-- a line of this pipeline with this action
abbrev pub seen : Bool → Name → List Listing → Bool
seen e n before = list_any (λ (m : Listing). is_same_bit e m.in_egress && bytes_eq n m.action) before

seen_more : (e : Bool) (n : Name) (before : List Listing) (l : Listing) → seen e n before ≡ true → seen e n (before ++ l ∷ []) ≡ true
seen_more e n before l h = list_any-append (λ (m : Listing). is_same_bit e m.in_egress && bytes_eq n m.action) before (l ∷ []) ∙ (rw h refl)

seen_last : (before : List Listing) (l : Listing) → seen l.in_egress l.action (before ++ l ∷ []) ≡ true
seen_last before l =
    list_any-append (λ (m : Listing). is_same_bit l.in_egress m.in_egress && bytes_eq l.action m.action) before (l ∷ [])
    ∙ (rw (same_itself l.in_egress, (bytes_eq-Decides l.action l.action).1 refl) (or_true (seen l.in_egress l.action before)))
  where
    or_true : (b : Bool) → (b || (true || false)) ≡ true
    or_true true = refl
    or_true false = refl

-- an outer name before those of further copies
abbrev pub put : Bool → Bool → Outer → List Outer → List Outer
put b c o rest = cond b (cond c (o ∷ rest) rest) rest

put_is : (e b : Bool) (c : Copy) (rest : List Copy) → outers e (one_if b c ++ rest) ≡ put b (in_pipeline e c) c.outer (outers e rest)
put_is e true c rest = by (in_pipeline e c)
  where
    by : (f : Bool) → map (λ (d : Copy). d.outer) (cond f (c ∷ filter (in_pipeline e) rest) (filter (in_pipeline e) rest)) ≡ cond f (c.outer ∷ outers e rest) (outers e rest)
    by true = refl
    by false = refl
put_is e false c rest = refl

pub none_put : (o : Outer) (b c : Bool) (p : Outer) (rest : List Outer) → (b ≡ true → c ≡ true → AreTwo o p) → IsNoneOf o rest → IsNoneOf o (put b c p rest)
none_put o true true p rest two none = (two refl refl, none)
none_put o true false p rest two none = none
none_put o false c p rest two none = none

once_put : (b c : Bool) (p : Outer) (rest : List Outer) → (b ≡ true → c ≡ true → IsNoneOf p rest) → AreEachOnce rest → AreEachOnce (put b c p rest)
once_put true true p rest none once = (none refl refl, once)
once_put true false p rest none once = once
once_put false c p rest none once = once

pub in_put : (ds : List Decl) (b c : Bool) (p : Outer) (rest : List Outer) → IsIn ds p → AreIn ds rest → AreIn ds (put b c p rest)
in_put ds true true p rest h r = (h, r)
in_put ds true false p rest h r = r
in_put ds false c p rest h r = r

-- the copies of the first line, and those of the others
pub behind_is : (e : Bool) (before : List Listing) (l : Listing) (ls : List Listing)
    → outers e (copies_behind before (l ∷ ls))
    ≡ put (not (seen l.in_egress l.action before)) (is_same_bit e l.in_egress) (declared sort.Action l.action) (put (l.is_counted && not (list_any (is_same_table l) before)) (is_same_bit e l.in_egress) (copy l.number l.action) (outers e (copies_behind (before ++ l ∷ []) ls)))
behind_is e before l ls =
    let rest : List Copy = copies_behind (before ++ l ∷ []) ls in
    put_is e (not (seen l.in_egress l.action before)) (plain_copy l) (one_if (l.is_counted && not (list_any (is_same_table l) before)) (counted_copy l) ++ rest)
    ∙ ap (put (not (seen l.in_egress l.action before)) (is_same_bit e l.in_egress) (declared sort.Action l.action)) (put_is e (l.is_counted && not (list_any (is_same_table l) before)) (counted_copy l) rest)

not_again : (e : Bool) (n : Name) (before : List Listing) (l : Listing) → seen e n before ≡ true → not (seen l.in_egress l.action before) ≡ true → is_same_bit e l.in_egress ≡ true → AreTwo (declared sort.Action n) (declared sort.Action l.action)
not_again e n before l h new same s eq =
    let there : seen l.in_egress l.action before ≡ true = ap (λ (b : Bool). seen b l.action before) (sym (same_bits e l.in_egress same)) ∙ (ap (λ (m : Name). seen e m before) (sym eq) ∙ h) in
    true≢false (sym new ∙ ap not there)

no_plain : (e : Bool) (n : Name) (before ls : List Listing) → seen e n before ≡ true → IsNoneOf (declared sort.Action n) (outers e (copies_behind before ls))
no_plain e n before [] h = tt
no_plain e n before (l ∷ ls) h =
    let rest : List Outer = outers e (copies_behind (before ++ l ∷ []) ls) in
    let counted : Bool = l.is_counted && not (list_any (is_same_table l) before) in
    let further : IsNoneOf (declared sort.Action n) rest = no_plain e n (before ++ l ∷ []) ls (seen_more e n before l h) in
    let behind : IsNoneOf (declared sort.Action n) (put counted (is_same_bit e l.in_egress) (copy l.number l.action) rest) = none_put (declared sort.Action n) counted (is_same_bit e l.in_egress) (copy l.number l.action) rest (λ p q. tt) further in
    subst (IsNoneOf (declared sort.Action n)) (sym (behind_is e before l ls)) (none_put (declared sort.Action n) (not (seen l.in_egress l.action before)) (is_same_bit e l.in_egress) (declared sort.Action l.action) (put counted (is_same_bit e l.in_egress) (copy l.number l.action) rest) (λ p q. not_again e n before l h p q) behind)

no_copy : (e : Bool) (j : ℕ) (a : Name) (k : ℕ) (before ls : List Listing) → j < k → AreNumbered k ls → IsNoneOf (copy j a) (outers e (copies_behind before ls))
no_copy e j a k before [] lt ns = tt
no_copy e j a k before (l ∷ ls) lt ns =
    let rest : List Outer = outers e (copies_behind (before ++ l ∷ []) ls) in
    let counted : Bool = l.is_counted && not (list_any (is_same_table l) before) in
    let further : IsNoneOf (copy j a) rest = no_copy e j a (k + 1) (before ++ l ∷ []) ls (omega arith) ns.1 in
    let behind : IsNoneOf (copy j a) (put counted (is_same_bit e l.in_egress) (copy l.number l.action) rest) = none_put (copy j a) counted (is_same_bit e l.in_egress) (copy l.number l.action) rest (λ p q same. omega (arith, ns.0)) further in
    subst (IsNoneOf (copy j a)) (sym (behind_is e before l ls)) (none_put (copy j a) (not (seen l.in_egress l.action before)) (is_same_bit e l.in_egress) (declared sort.Action l.action) (put counted (is_same_bit e l.in_egress) (copy l.number l.action) rest) (λ p q. tt) behind)

once_behind : (e : Bool) (k : ℕ) (before ls : List Listing) → AreNumbered k ls → AreEachOnce (outers e (copies_behind before ls))
once_behind e k before [] ns = tt
once_behind e k before (l ∷ ls) ns =
    let rest : List Outer = outers e (copies_behind (before ++ l ∷ []) ls) in
    let counted : Bool = l.is_counted && not (list_any (is_same_table l) before) in
    let further : AreEachOnce rest = once_behind e (k + 1) (before ++ l ∷ []) ls ns.1 in
    let behind : AreEachOnce (put counted (is_same_bit e l.in_egress) (copy l.number l.action) rest) = once_put counted (is_same_bit e l.in_egress) (copy l.number l.action) rest (λ p q. no_copy e l.number l.action (k + 1) (before ++ l ∷ []) ls (omega (arith, ns.0)) ns.1) further in
    subst AreEachOnce (sym (behind_is e before l ls)) (once_put (not (seen l.in_egress l.action before)) (is_same_bit e l.in_egress) (declared sort.Action l.action) (put counted (is_same_bit e l.in_egress) (copy l.number l.action) rest) (λ p q. none_put (declared sort.Action l.action) counted (is_same_bit e l.in_egress) (copy l.number l.action) rest (λ r t. tt) (no_plain e l.action (before ++ l ∷ []) ls (subst (λ (b : Bool). seen b l.action (before ++ l ∷ []) ≡ true) (sym (same_bits e l.in_egress q)) (seen_last before l)))) behind)

pub copies_once : (ds : List Decl) (egress : ℕ → Bool) (e : Bool) → AreEachOnce (outers e (copies ds egress))
copies_once ds egress e = once_behind e 0 [] (listings ds egress) (listings_numbered ds egress 0 0 (tables ds))
