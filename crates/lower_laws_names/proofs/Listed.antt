-- Each action of a table has its copy in the table's pipeline.
use Rattle.std.proofs.Common.{◌≡◌, ◌⊎◌, ℕ, ◌+◌, Bool, true, false, ◌&&◌, ◌||◌, not, cond, nat_eq, Some, List, [], ◌∷◌, ◌++◌, length, refl, sym, ap, ◌∙◌, subst, inl, inr}
use Rattle.std.specs.List.{list_any}
use Rattle.std.specs.Prelude.{is_some}
use Rattle.std.specs.Str.{bytes_eq}
use Rattle.std.proofs.lemmas.Bool.{and_parts, and_from, or_cases, both_ways, eqb-true, eq-eqb}
use Rattle.std.proofs.lemmas.List.Folds.{list_any-append}
use Rattle.std.proofs.lemmas.Slice.Eq.{bytes_eq-Decides}
use Rattle.p414_syntax.specs.declared.tables.Table.{Table}
use Rattle.p414_syntax.specs.declared.syntax.Decl.{Decl}
use Rattle.p414_syntax.specs.declared.syntax.Sort.TheVariants as sort
use Rattle.p414_syntax.specs.Names.{Name}
use Rattle.p414_syntax.specs.Tables.{tables, listed_in}
use Rattle.p414_sem.specs.Signatures.{direct_counter}
use Rattle.lower_laws_names.specs.Reaches.{Outer, declared, copy}
use Rattle.lower_laws_names.specs.Declared.{Among}
use Rattle.lower_laws_names.specs.Copies.{Listing, lines_from, listings_from, listings, is_same_bit, is_same_table, copies_behind, copies, outers, listing_outer, outer_in, IsFound}
use Rattle.lower_laws_names.proofs.Copies.{seen, put, behind_is, same_bits, same_itself}

-- what is put stands there

put_head : (b c : Bool) (o : Outer) (rest : List Outer) → b ≡ true → c ≡ true → Among o (put b c o rest)
put_head true true o rest e f = inl refl
put_head true false o rest e f = cc
put_head false c o rest e f = cc

put_tail : (b c : Bool) (p o : Outer) (rest : List Outer) → Among o rest → Among o (put b c p rest)
put_tail true true p o rest h = inr h
put_tail true false p o rest h = h
put_tail false c p o rest h = h

seen_either : (e : Bool) (n : Name) (before : List Listing) (l : Listing) → seen e n (before ++ l ∷ []) ≡ true
    → (seen e n before ≡ true) ⊎ ((is_same_bit e l.in_egress && bytes_eq n l.action) ≡ true)
seen_either e n before l h =
    elim (or_cases (seen e n before) (seen e n (l ∷ [])) (sym (list_any-append (λ (m : Listing). is_same_bit e m.in_egress && bytes_eq n m.action) before (l ∷ [])) ∙ h)) [
      | inl s ↦ inl s
      | inr s ↦ inr (last (is_same_bit e l.in_egress && bytes_eq n l.action) s)
    ]
  where
    last : (b : Bool) → (b || false) ≡ true → b ≡ true
    last true e = refl
    last false e = e

-- the plain copy, put here or before
plain_put : (e : Bool) (before : List Listing) (l : Listing) (ls : List Listing) → is_same_bit e l.in_egress ≡ true
    → (seen l.in_egress l.action before ≡ true) ⊎ Among (declared sort.Action l.action) (outers e (copies_behind before (l ∷ ls)))
plain_put e before l ls same = by (seen l.in_egress l.action before) refl
  where
    rest : List Outer
    rest = put (l.is_counted && not (list_any (is_same_table l) before)) (is_same_bit e l.in_egress) (copy l.number l.action) (outers e (copies_behind (before ++ l ∷ []) ls))

    by : (b : Bool) → seen l.in_egress l.action before ≡ b → (seen l.in_egress l.action before ≡ true) ⊎ Among (declared sort.Action l.action) (outers e (copies_behind before (l ∷ ls)))
    by true f = inl f
    by false f = inr (subst (Among (declared sort.Action l.action)) (sym (behind_is e before l ls)) (put_head (not (seen l.in_egress l.action before)) (is_same_bit e l.in_egress) (declared sort.Action l.action) rest (ap not f) same))

further : (e : Bool) (before : List Listing) (l : Listing) (ls : List Listing) (o : Outer) → Among o (outers e (copies_behind (before ++ l ∷ []) ls)) → Among o (outers e (copies_behind before (l ∷ ls)))
further e before l ls o h =
    subst (Among o) (sym (behind_is e before l ls)) (put_tail (not (seen l.in_egress l.action before)) (is_same_bit e l.in_egress) (declared sort.Action l.action) o _ (put_tail (l.is_counted && not (list_any (is_same_table l) before)) (is_same_bit e l.in_egress) (copy l.number l.action) o _ h))

-- a line's action has its plain copy
plain_found : (e : Bool) (n : Name) (before ls : List Listing) → list_any (λ (m : Listing). is_same_bit e m.in_egress && bytes_eq n m.action) ls ≡ true
    → (seen e n before ≡ true) ⊎ Among (declared sort.Action n) (outers e (copies_behind before ls))
plain_found e n before [] h = cc
plain_found e n before (l ∷ ls) h = by (is_same_bit e l.in_egress && bytes_eq n l.action) refl (plain_found e n (before ++ l ∷ []) ls)
  where
    here : (is_same_bit e l.in_egress && bytes_eq n l.action) ≡ true → (seen e n before ≡ true) ⊎ Among (declared sort.Action n) (outers e (copies_behind before (l ∷ ls)))
    here f =
        let both = and_parts (is_same_bit e l.in_egress) (bytes_eq n l.action) f in
        let bit = same_bits e l.in_egress both.0 in
        let name = (bytes_eq-Decides n l.action).0 both.1 in
        elim (plain_put e before l ls both.0) [
          | inl s ↦ inl (ap (λ (b : Bool). seen b n before) bit ∙ (ap (λ (m : Name). seen l.in_egress m before) name ∙ s))
          | inr a ↦ inr (subst (λ (m : Name). Among (declared sort.Action m) (outers e (copies_behind before (l ∷ ls)))) (sym name) a)
        ]

    or_false : (b c : Bool) → (b || c) ≡ true → b ≡ false → c ≡ true
    or_false true c f g = cc
    or_false false c f g = f

    by : (b : Bool) → (is_same_bit e l.in_egress && bytes_eq n l.action) ≡ b
        → (list_any (λ (m : Listing). is_same_bit e m.in_egress && bytes_eq n m.action) ls ≡ true → (seen e n (before ++ l ∷ []) ≡ true) ⊎ Among (declared sort.Action n) (outers e (copies_behind (before ++ l ∷ []) ls)))
        → (seen e n before ≡ true) ⊎ Among (declared sort.Action n) (outers e (copies_behind before (l ∷ ls)))
    by true f rest = here f
    by false f rest =
        elim (rest (or_false (is_same_bit e l.in_egress && bytes_eq n l.action) (list_any (λ (m : Listing). is_same_bit e m.in_egress && bytes_eq n m.action) ls) h f)) [
          | inl s ↦ elim (seen_either e n before l s) [ inl t ↦ inl t | inr t ↦ here t ]
          | inr a ↦ inr (further e before l ls (declared sort.Action n) a)
        ]

-- lines know their pipeline

abbrev pub AreOf : (ℕ → Bool) → List Listing → Type 0
AreOf egress [] = Unit {0}
AreOf egress (l ∷ ls) = (l.in_egress ≡ egress l.table) × AreOf egress ls

both_of : (egress : ℕ → Bool) (xs ys : List Listing) → AreOf egress xs → AreOf egress ys → AreOf egress (xs ++ ys)
both_of egress [] ys a b = b
both_of egress (x ∷ xs) ys a b = (a.0, both_of egress xs ys a.1 b)

lines_of : (egress : ℕ → Bool) (counted : Bool) (table k : ℕ) (names : List Name) → AreOf egress (lines_from counted (egress table) table k names)
lines_of egress counted table k [] = tt
lines_of egress counted table k (n ∷ names) = (refl, lines_of egress counted table (k + 1) names)

listings_of : (ds : List Decl) (egress : ℕ → Bool) (table k : ℕ) (ts : List Table) → AreOf egress (listings_from ds egress table k ts)
listings_of ds egress table k [] = tt
listings_of ds egress table k (t ∷ ts) =
    both_of egress (lines_from (is_some (direct_counter ds t.name)) (egress table) table k (listed_in t)) (listings_from ds egress (table + 1) (k + length (listed_in t)) ts) (lines_of egress (is_some (direct_counter ds t.name)) table k (listed_in t)) (listings_of ds egress (table + 1) (k + length (listed_in t)) ts)

-- a line of a table

abbrev at_table : ℕ → Name → Listing → Bool
at_table table action m = nat_eq m.table table && bytes_eq m.action action

-- its line is in the pipeline
in_line : (egress : ℕ → Bool) (ls : List Listing) (table : ℕ) (action : Name) (o : Outer) → AreOf egress ls → outer_in ls table action ≡ Some o
    → list_any (λ (m : Listing). is_same_bit (egress table) m.in_egress && bytes_eq action m.action) ls ≡ true
in_line egress [] table action o of e = cc
in_line egress (l ∷ ls) table action o of e = by (at_table table action l) refl (in_line egress ls table action o of.1) e
  where
    or_right : (b c : Bool) → c ≡ true → (b || c) ≡ true
    or_right true c e = refl
    or_right false c e = e

    by : (b : Bool) → at_table table action l ≡ b → (outer_in ls table action ≡ Some o → list_any (λ (m : Listing). is_same_bit (egress table) m.in_egress && bytes_eq action m.action) ls ≡ true)
        → cond b (Some (listing_outer l)) (outer_in ls table action) ≡ Some o → list_any (λ (m : Listing). is_same_bit (egress table) m.in_egress && bytes_eq action m.action) (l ∷ ls) ≡ true
    by true f rest g =
        let both = and_parts (nat_eq l.table table) (bytes_eq l.action action) f in
        let bit : l.in_egress ≡ egress table = of.0 ∙ ap egress (eqb-true l.table table both.0) in
        let name : action ≡ l.action = sym ((bytes_eq-Decides l.action action).0 both.1) in
        rw (ap (is_same_bit (egress table)) bit ∙ same_itself (egress table), (bytes_eq-Decides action l.action).1 name) refl
    by false f rest g = or_right (is_same_bit (egress table) l.in_egress && bytes_eq action l.action) (list_any (λ (m : Listing). is_same_bit (egress table) m.in_egress && bytes_eq action m.action) ls) (rest g)

eq_either : (j k : ℕ) → nat_eq j k ≡ true → nat_eq k j ≡ true
eq_either j k e = eq-eqb k j (sym (eqb-true j k e))

-- the copy that counts is put where the table's line first stands
counted_found : (egress : ℕ → Bool) (table : ℕ) (action : Name) (o : Outer) (before ls : List Listing) → AreOf egress ls
    → list_any (λ (m : Listing). nat_eq table m.table && bytes_eq action m.action) before ≡ false → outer_in ls table action ≡ Some o
    → (o ≡ declared sort.Action action) ⊎ Among o (outers (egress table) (copies_behind before ls))
counted_found egress table action o before [] of none e = cc
counted_found egress table action o before (l ∷ ls) of none e =
    by (at_table table action l) refl (counted_found egress table action o (before ++ l ∷ []) ls of.1) e
  where
    kind : (c : Bool) → l.is_counted ≡ c → l.table ≡ table → l.action ≡ action → cond c (copy l.number l.action) (declared sort.Action l.action) ≡ o → (o ≡ declared sort.Action action) ⊎ Among o (outers (egress table) (copies_behind before (l ∷ ls)))
    kind false f t n g = inl (sym g ∙ ap (λ (m : Name). declared sort.Action m) n)
    kind true f t n g =
        let new : list_any (is_same_table l) before ≡ false = ap (λ (k : ℕ). list_any (λ (m : Listing). nat_eq k m.table && bytes_eq l.action m.action) before) t ∙ (ap (λ (a : Name). list_any (λ (m : Listing). nat_eq table m.table && bytes_eq a m.action) before) n ∙ none) in
        let put_here : (l.is_counted && not (list_any (is_same_table l) before)) ≡ true = and_from l.is_counted (not (list_any (is_same_table l) before)) f (ap not new) in
        let same : is_same_bit (egress table) l.in_egress ≡ true = ap (is_same_bit (egress table)) (of.0 ∙ ap egress t) ∙ same_itself (egress table) in
        inr (subst (λ (p : Outer). Among p (outers (egress table) (copies_behind before (l ∷ ls)))) g (subst (Among (copy l.number l.action)) (sym (behind_is (egress table) before l ls)) (put_tail (not (seen l.in_egress l.action before)) (is_same_bit (egress table) l.in_egress) (declared sort.Action l.action) (copy l.number l.action) _ (put_head (l.is_counted && not (list_any (is_same_table l) before)) (is_same_bit (egress table) l.in_egress) (copy l.number l.action) (outers (egress table) (copies_behind (before ++ l ∷ []) ls)) put_here same))))

    other_line : at_table table action l ≡ false → (nat_eq table l.table && bytes_eq action l.action) ≡ false
    other_line f = apart (nat_eq table l.table && bytes_eq action l.action) refl
      where
        apart : (b : Bool) → (nat_eq table l.table && bytes_eq action l.action) ≡ b → b ≡ false
        apart false g = refl
        apart true g =
            let both = and_parts (nat_eq table l.table) (bytes_eq action l.action) g in
            absurd (both_ways (at_table table action l) f (and_from (nat_eq l.table table) (bytes_eq l.action action) (eq_either table l.table both.0) ((bytes_eq-Decides l.action action).1 (sym ((bytes_eq-Decides action l.action).0 both.1)))))

    by : (b : Bool) → at_table table action l ≡ b
        → (list_any (λ (m : Listing). nat_eq table m.table && bytes_eq action m.action) (before ++ l ∷ []) ≡ false → outer_in ls table action ≡ Some o → (o ≡ declared sort.Action action) ⊎ Among o (outers (egress table) (copies_behind (before ++ l ∷ []) ls)))
        → cond b (Some (listing_outer l)) (outer_in ls table action) ≡ Some o → (o ≡ declared sort.Action action) ⊎ Among o (outers (egress table) (copies_behind before (l ∷ ls)))
    by true f rest g =
        let both = and_parts (nat_eq l.table table) (bytes_eq l.action action) f in
        let is : listing_outer l ≡ o = cc in
        kind l.is_counted refl (eqb-true l.table table both.0) ((bytes_eq-Decides l.action action).0 both.1) is
    by false f rest g =
        let more : list_any (λ (m : Listing). nat_eq table m.table && bytes_eq action m.action) (before ++ l ∷ []) ≡ false = list_any-append (λ (m : Listing). nat_eq table m.table && bytes_eq action m.action) before (l ∷ []) ∙ (rw (none, other_line f) refl) in
        elim (rest more g) [ inl h ↦ inl h | inr h ↦ inr (further (egress table) before l ls o h) ]

pub each_found : (ds : List Decl) (egress : ℕ → Bool) → IsFound ds egress
each_found ds egress table action o e =
    let of = listings_of ds egress 0 0 (tables ds) in
    elim (counted_found egress table action o [] (listings ds egress) of refl e) [
      | inr h ↦ h
      | inl plain ↦ elim (plain_found (egress table) action [] (listings ds egress) (in_line egress (listings ds egress) table action o of e)) [
        | inl none ↦ cc
        | inr h ↦ subst (λ (p : Outer). Among p (outers (egress table) (copies ds egress))) (sym plain) h
      ]
    ]
