-- Where the copies of actions come from: each from a line of a table.
use Rattle.std.proofs.Common.{◌≡◌, ◌⊎◌, inl, inr, ℕ, suc, ◌+◌, ◌<◌, Bool, true, false, cond, not, ◌&&◌, Some, List, [], ◌∷◌, ◌++◌, length, refl, sym, ap, ◌∙◌, subst, arith}
use Rattle.std.specs.Prelude.{is_some, nat_eq, slice_get}
use Rattle.std.specs.List.{list_any}
use Rattle.std.specs.Str.{bytes_eq}
use Rattle.std.proofs.lemmas.Slice.Eq.{bytes_eq-Decides}
use Rattle.std.proofs.lemmas.Bool.Decides.{nat_tests}
use Rattle.p414_syntax.specs.declared.syntax.Decl.{Decl}
use Rattle.p414_syntax.specs.declared.tables.Table.{Table}
use Rattle.p414_syntax.specs.Names.{Name}
use Rattle.p414_syntax.specs.Tables.{listed_in}
use Rattle.p414_sem.specs.Signatures.{direct_counter}
use Rattle.lower_laws_names.specs.Reaches.{Outer}
use Rattle.lower_laws_names.specs.Copies.{Listing, lines_from, listings_from, Copy, is_same_pipeline, is_same_table, plain_copy, counted_copy, one_if, copies_behind, listing_outer, outer_in}
use Rattle.lower_laws_states.specs.Expansions.{Has}
use Rattle.lower_laws_states.proofs.Members.{has_apart}

-- a copy is the plain one of a line, or the one that counts for the line's table
pub record IsOf (ls : List Listing) (c : Copy) : Type 0 where
  pub line : Listing
  pub has : Has ls line
  pub is : (c ≡ plain_copy line) ⊎ ((line.is_counted ≡ true) × (c ≡ counted_copy line))

later : (l : Listing) (ls : List Listing) (c : Copy) → IsOf ls c → IsOf (l ∷ ls) c
later l ls c of = record { line = of.line; has = inr of.has; is = of.is }

one_has : (b : Bool) (c d : Copy) → Has (one_if b c) d → (b ≡ true) × (c ≡ d)
one_has true c d (inl same) = (refl, same)
one_has true c d (inr h) = absurd h
one_has false c d h = absurd h

first_true : (a b : Bool) → (a && b) ≡ true → a ≡ true
first_true true b e = refl
first_true false b e = absurd (cc e)

pub copies_of : (before ls : List Listing) (c : Copy) → Has (copies_behind before ls) c → IsOf ls c
copies_of before [] c h = absurd h
copies_of before (l ∷ ls) c h =
    parted (has_apart (one_if p (plain_copy l)) (one_if q (counted_copy l) ++ copies_behind (before ++ l ∷ []) ls) c h)
    (λ h. later l ls c (copies_of (before ++ l ∷ []) ls c h))
  where
    p : Bool
    p = not (list_any (is_same_pipeline l) before)

    q : Bool
    q = l.is_counted && not (list_any (is_same_table l) before)

    parted : Has (one_if p (plain_copy l)) c ⊎ Has (one_if q (counted_copy l) ++ copies_behind (before ++ l ∷ []) ls) c → (Has (copies_behind (before ++ l ∷ []) ls) c → IsOf (l ∷ ls) c) → IsOf (l ∷ ls) c
    parted (inl h) more = record { line = l; has = inl refl; is = inl (sym (one_has p (plain_copy l) c h).1) }
    parted (inr h) more = at (has_apart (one_if q (counted_copy l)) (copies_behind (before ++ l ∷ []) ls) c h) where
      at : Has (one_if q (counted_copy l)) c ⊎ Has (copies_behind (before ++ l ∷ []) ls) c → IsOf (l ∷ ls) c
      at (inl h) = let o = one_has q (counted_copy l) c h in record { line = l; has = inl refl; is = inr (first_true l.is_counted _ o.0, sym o.1) }
      at (inr h) = more h

-- the lines of a table: of an action that it lists, counted where it has a direct counter

pub record IsLineOf (ds : List Decl) (egress : ℕ → Bool) (table : ℕ) (ts : List Table) (l : Listing) : Type 0 where
  pub place : ℕ
  pub of : Table
  pub there : slice_get ts place ≡ Some of
  pub table_is : l.table ≡ table + place
  pub listed : Has (listed_in of) l.action
  pub counted : l.is_counted ≡ is_some (direct_counter ds of.name)
  pub in_egress : l.in_egress ≡ egress l.table

record IsLineFrom (counted e : Bool) (table : ℕ) (names : List Name) (l : Listing) : Type 0 where
  pub table_is : l.table ≡ table
  pub listed : Has names l.action
  pub counted_is : l.is_counted ≡ counted
  pub in_egress : l.in_egress ≡ e

line_from : (counted e : Bool) (table number : ℕ) (names : List Name) (l : Listing) → Has (lines_from counted e table number names) l → IsLineFrom counted e table names l
line_from counted e table number [] l h = absurd h
line_from counted e table number (n ∷ names) l (inl same) = subst (IsLineFrom counted e table (n ∷ names)) same (record { table_is = refl; listed = inl refl; counted_is = refl; in_egress = refl })
line_from counted e table number (n ∷ names) l (inr h) =
    let more = line_from counted e table (number + 1) names l h in
    record { table_is = more.table_is; listed = inr more.listed; counted_is = more.counted_is; in_egress = more.in_egress }

pub line_of : (ds : List Decl) (egress : ℕ → Bool) (table number : ℕ) (ts : List Table) (l : Listing) → Has (listings_from ds egress table number ts) l → IsLineOf ds egress table ts l
line_of ds egress table number [] l h = absurd h
line_of ds egress table number (t ∷ ts) l h =
    by (has_apart (lines_from (is_some (direct_counter ds t.name)) (egress table) table number (listed_in t)) (listings_from ds egress (table + 1) (number + length (listed_in t)) ts) l h)
    (λ h. line_of ds egress (table + 1) (number + length (listed_in t)) ts l h)
  where
    by : Has (lines_from (is_some (direct_counter ds t.name)) (egress table) table number (listed_in t)) l ⊎ Has (listings_from ds egress (table + 1) (number + length (listed_in t)) ts) l → (Has (listings_from ds egress (table + 1) (number + length (listed_in t)) ts) l → IsLineOf ds egress (table + 1) ts l) → IsLineOf ds egress table (t ∷ ts) l
    by (inl h) more =
        let f = line_from (is_some (direct_counter ds t.name)) (egress table) table number (listed_in t) l h in
        record { place = 0; of = t; there = refl; table_is = omega (arith, f.table_is); listed = f.listed; counted = f.counted_is; in_egress = f.in_egress ∙ ap egress (sym f.table_is) }
    by (inr h) more =
        let f = more h in
        record { place = suc f.place; of = f.of; there = f.there; table_is = omega (arith, f.table_is); listed = f.listed; counted = f.counted; in_egress = f.in_egress }

-- what a table calls an action comes from a line of the table
pub record IsFrom (ls : List Listing) (table : ℕ) (action : Name) (o : Outer) : Type 0 where
  pub line : Listing
  pub has : Has ls line
  pub outer : listing_outer line ≡ o
  pub action_is : line.action ≡ action
  pub table_is : line.table ≡ table

pub outer_from : (ls : List Listing) (table : ℕ) (action : Name) (o : Outer) → outer_in ls table action ≡ Some o → IsFrom ls table action o
outer_from [] table action o e = absurd (cc e)
outer_from (l ∷ ls) table action o e = by (nat_eq l.table table) (bytes_eq l.action action) refl refl e (λ f. outer_from ls table action o f) where
  by : (a b : Bool) → nat_eq l.table table ≡ a → bytes_eq l.action action ≡ b → cond (a && b) (Some (listing_outer l)) (outer_in ls table action) ≡ Some o → (outer_in ls table action ≡ Some o → IsFrom ls table action o) → IsFrom (l ∷ ls) table action o
  by true true p q e more = record { line = l; has = inl refl; outer = cc e; action_is = (bytes_eq-Decides l.action action).0 q; table_is = grind (arith, nat_tests, p) }
  by true false p q e more = let f = more e in record { line = f.line; has = inr f.has; outer = f.outer; action_is = f.action_is; table_is = f.table_is }
  by false b p q e more = let f = more e in record { line = f.line; has = inr f.has; outer = f.outer; action_is = f.action_is; table_is = f.table_is }
