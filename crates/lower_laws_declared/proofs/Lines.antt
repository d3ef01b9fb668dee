-- Each action that a table lists has its copy, and two of them have two names (C1, C2).
use Rattle.std.proofs.Common.{◌≡◌, ◌≢◌, inl, inr, ℕ, zero, suc, ◌+◌, ◌<◌, ◌≤◌, Bool, true, false, ◌&&◌, cond, Some, List, [], ◌∷◌, ◌++◌, length, refl, sym, ap, ◌∙◌, subst, arith}
use Rattle.std.specs.Prelude.{is_some, nat_eq, slice_get}
use Rattle.std.specs.Str.{bytes_eq}
use Rattle.std.proofs.lemmas.Bool.{and_parts, and_from, eq-eqb}
use Rattle.std.proofs.lemmas.Slice.Eq.{bytes_eq-Decides}
use Rattle.p414_syntax.specs.declared.tables.Table.{Table}
use Rattle.p414_syntax.specs.declared.syntax.Decl.{Decl}
use Rattle.p414_syntax.specs.declared.syntax.Sort.TheVariants as sort
use Rattle.p414_syntax.specs.Names.{Name}
use Rattle.p414_syntax.specs.Tables.{tables, listed_in}
use Rattle.p414_sem.specs.Signatures.{direct_counter}
use Rattle.lower_laws_names.specs.Reaches.{Outer, declared, copy, outer_name, IsIn, AreTwo}
use Rattle.lower_laws_names.proofs.Proved.{outer_names_differ}
use Rattle.lower_laws_names.specs.Copies.{Listing, lines_from, listings_from, listings, LinesFit, listing_outer, outer_in}
use Rattle.lower_laws_names.proofs.Copies.{AreNumbered, listings_numbered}
use Rattle.lower_laws_states.specs.Expansions.{Has}
use Rattle.lower_laws_states.proofs.Members.{has_left, has_right}

-- a line of this table with this action
pub record IsLine (ls : List Listing) (table : ℕ) (action : Name) : Type 0 where
  pub line : Listing
  pub has : Has ls line
  pub of_table : line.table ≡ table
  pub of_action : line.action ≡ action

-- what the table calls the action, from a line
pub record IsOuterOf (ls : List Listing) (table : ℕ) (action : Name) : Type 0 where
  pub outer : Outer
  pub found : outer_in ls table action ≡ Some outer

at_table : ℕ → Name → Listing → Bool
at_table table action l = nat_eq l.table table && bytes_eq l.action action

pub outer_there : (ls : List Listing) (table : ℕ) (action : Name) → IsLine ls table action → IsOuterOf ls table action
outer_there [] table action is = absurd is.has
outer_there (l ∷ ls) table action is = by (nat_eq l.table table && bytes_eq l.action action) refl is.has (λ h. outer_there ls table action (record { line = is.line; has = h; of_table = is.of_table; of_action = is.of_action })) where
  by : (b : Bool) → (nat_eq l.table table && bytes_eq l.action action) ≡ b → Has (l ∷ ls) is.line → (Has ls is.line → IsOuterOf ls table action) → IsOuterOf (l ∷ ls) table action
  by true e h rest = record { outer = listing_outer l; found = ap (λ (b : Bool). cond b (Some (listing_outer l)) (outer_in ls table action)) e }
  by false e (inr h) rest = let r = rest h in record { outer = r.outer; found = ap (λ (b : Bool). cond b (Some (listing_outer l)) (outer_in ls table action)) e ∙ r.found }
  by false e (inl same) rest =
      absurd (cc (e, and_from (nat_eq l.table table) (bytes_eq l.action action) (eq-eqb l.table table (ap (λ (m : Listing). m.table) same ∙ is.of_table)) ((bytes_eq-Decides l.action action).1 (ap (λ (m : Listing). m.action) same ∙ is.of_action))))

-- and back
pub outer_line : (ls : List Listing) (table : ℕ) (action : Name) (o : Outer) → outer_in ls table action ≡ Some o → (l : Listing) × Has ls l × (listing_outer l ≡ o) × (l.action ≡ action)
outer_line [] table action o e = absurd (cc e)
outer_line (l ∷ ls) table action o e = by (nat_eq l.table table && bytes_eq l.action action) refl e (outer_line ls table action o) where
  by : (b : Bool) → (nat_eq l.table table && bytes_eq l.action action) ≡ b → cond b (Some (listing_outer l)) (outer_in ls table action) ≡ Some o → (outer_in ls table action ≡ Some o → (m : Listing) × Has ls m × (listing_outer m ≡ o) × (m.action ≡ action)) → (m : Listing) × Has (l ∷ ls) m × (listing_outer m ≡ o) × (m.action ≡ action)
  by true f g rest = (l, inl refl, cc g, (bytes_eq-Decides l.action action).0 (and_parts (nat_eq l.table table) (bytes_eq l.action action) f).1)
  by false f g rest = let r = rest g in (r.0, inr r.1, r.2, r.3)

-- the lines of a table

line_of : (counted egress : Bool) (table number : ℕ) (names : List Name) (action : Name) → Has names action → IsLine (lines_from counted egress table number names) table action
line_of counted egress table number [] action h = absurd h
line_of counted egress table number (n ∷ names) action (inl e) = record { line = _; has = inl refl; of_table = refl; of_action = e }
line_of counted egress table number (n ∷ names) action (inr h) =
    let r = line_of counted egress table (number + 1) names action h in
    record { line = r.line; has = inr r.has; of_table = r.of_table; of_action = r.of_action }

pub line_there : (ds : List Decl) (egress : ℕ → Bool) (table number : ℕ) (ts : List Table) (k : ℕ) (t : Table) → slice_get ts k ≡ Some t → (action : Name) → Has (listed_in t) action → IsLine (listings_from ds egress table number ts) (table + k) action
line_there ds egress table number [] k t e action h = absurd (cc e)
line_there ds egress table number (u ∷ ts) zero t e action h =
    let same : u ≡ t = cc e in
    let r = line_of (is_some (direct_counter ds u.name)) (egress table) table number (listed_in u) action (subst (λ (v : Table). Has (listed_in v) action) (sym same) h) in
    record { line = r.line; has = has_left (lines_from (is_some (direct_counter ds u.name)) (egress table) table number (listed_in u)) _ r.line r.has; of_table = omega (arith, r.of_table); of_action = r.of_action }
line_there ds egress table number (u ∷ ts) (suc k) t e action h =
    let r = line_there ds egress (table + 1) (number + length (listed_in u)) ts k t e action h in
    record { line = r.line; has = has_right (lines_from (is_some (direct_counter ds u.name)) (egress table) table number (listed_in u)) _ r.line r.has; of_table = omega (arith, r.of_table); of_action = r.of_action }

-- two lines have two numbers

above : (k : ℕ) (ls : List Listing) (l : Listing) → AreNumbered k ls → Has ls l → k ≤ l.number
above k [] l ns h = absurd h
above k (m ∷ ls) l ns (inl e) = omega (arith, ns.0, ap (λ (x : Listing). x.number) e)
above k (m ∷ ls) l ns (inr h) = let r = above (k + 1) ls l ns.1 h in omega (arith, r)

pub one_line : (k : ℕ) (ls : List Listing) (l m : Listing) → AreNumbered k ls → Has ls l → Has ls m → l.number ≡ m.number → l ≡ m
one_line k [] l m ns h g same = absurd h
one_line k (n ∷ ls) l m ns (inl e) (inl f) same = sym e ∙ f
one_line k (n ∷ ls) l m ns (inl e) (inr g) same = absurd (omega (arith, above (k + 1) ls m ns.1 g, ns.0, ap (λ (x : Listing). x.number) e, same))
one_line k (n ∷ ls) l m ns (inr h) (inl f) same = absurd (omega (arith, above (k + 1) ls l ns.1 h, ns.0, ap (λ (x : Listing). x.number) f, same))
one_line k (n ∷ ls) l m ns (inr h) (inr g) same = one_line (k + 1) ls l m ns.1 h g same

-- two actions have two copies

line_in : (ds : List Decl) (ls : List Listing) (l : Listing) → LinesFit ds ls → Has ls l → IsIn ds (listing_outer l)
line_in ds [] l fit h = absurd h
line_in ds (m ∷ ls) l fit (inr h) = line_in ds ls l fit.2 h
line_in ds (m ∷ ls) l fit (inl e) = subst (λ (x : Listing). IsIn ds (listing_outer x)) e (by m.is_counted) where
  by : (b : Bool) → IsIn ds (cond b (copy m.number m.action) (declared sort.Action m.action))
  by true = fit.1
  by false = (tt, fit.0)

lines_two : (ls : List Listing) (l m : Listing) → AreNumbered 0 ls → Has ls l → Has ls m → l.action ≢ m.action → AreTwo (listing_outer l) (listing_outer m)
lines_two ls l m ns h g apart = by l.is_counted m.is_counted where
  by : (b c : Bool) → AreTwo (cond b (copy l.number l.action) (declared sort.Action l.action)) (cond c (copy m.number m.action) (declared sort.Action m.action))
  by true true = λ same. apart (ap (λ (x : Listing). x.action) (one_line 0 ls l m ns h g same))
  by true false = tt
  by false true = tt
  by false false = λ e same. apart same

pub copies_apart : (ds : List Decl) (egress : ℕ → Bool) → LinesFit ds (listings ds egress) → (table : ℕ) (a e : Name) (o q : Outer) → outer_in (listings ds egress) table a ≡ Some o → outer_in (listings ds egress) table e ≡ Some q → outer_name ds o ≡ outer_name ds q → a ≡ e
copies_apart ds egress fit table a e o q f g same = by (bytes_eq a e) refl where
  l : (l : Listing) × Has (listings ds egress) l × (listing_outer l ≡ o) × (l.action ≡ a)
  l = outer_line (listings ds egress) table a o f

  m : (l : Listing) × Has (listings ds egress) l × (listing_outer l ≡ q) × (l.action ≡ e)
  m = outer_line (listings ds egress) table e q g

  by : (b : Bool) → bytes_eq a e ≡ b → a ≡ e
  by true is = (bytes_eq-Decides a e).0 is
  by false is =
      absurd (outer_names_differ.two ds (listing_outer l.0) (listing_outer m.0) (line_in ds (listings ds egress) l.0 fit l.1) (line_in ds (listings ds egress) m.0 fit m.1)
      (lines_two (listings ds egress) l.0 m.0 (listings_numbered ds egress 0 0 (tables ds)) l.1 m.1 (λ z. absurd (cc (is, (bytes_eq-Decides a e).1 (sym l.3 ∙ z ∙ m.3)))))
      (ap (outer_name ds) l.2 ∙ same ∙ ap (outer_name ds) (sym m.2)))
