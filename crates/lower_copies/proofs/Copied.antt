-- The copies of actions by the names that came before are those of the definitions.
use Rattle.std.proofs.Common.{◌≡◌, ℕ, suc, ◌+◌, ◌<◌, ◌≤◌, Bool, true, false, ◌&&◌, ◌||◌, not, cond, nat_eq, List, [], ◌∷◌, ◌++◌, length, map, filter_map, Option, Some, None, refl, sym, ap, ap₂, ◌∙◌, subst, arith}
use Rattle.std.specs.List.{list_any}
use Rattle.std.specs.Prelude.{is_some, option_map, slice_index_or}
use Rattle.std.specs.Str.{bytes_eq}
use Rattle.std.proofs.lemmas.Bool.{true≢false, eqb-true, eq-eqb}
use Rattle.std.proofs.lemmas.List.{append_assoc, append-nil}
use Rattle.std.proofs.lemmas.List.Folds.{list_any-append}
use Rattle.std.proofs.lemmas.Slice.Eq.{bytes_eq-Decides}
use Rattle.p414_syntax.specs.declared.objects.Stateful.{Stateful}
use Rattle.p414_syntax.specs.declared.syntax.Decl.{Decl}
use Rattle.p414_syntax.specs.declared.syntax.Decl.TheVariants as decl
use Rattle.p414_syntax.specs.declared.tables.Table.{Table}
use Rattle.p414_syntax.specs.Attributes.{direct_table_of}
use Rattle.p414_syntax.specs.Names.{Name, has_name}
use Rattle.p414_syntax.specs.Tables.{tables, listed_in}
use Rattle.p414_sem.specs.Signatures.{counts_entries_of, first_name, direct_counter}
use Rattle.lower_laws_names.specs.Copies.{Listing, lines_from, listings_from, Copy, is_same_bit, plain_copy, counted_copy, one_if, copies_behind, copies}
use Rattle.lower_laws_names.proofs.Copies.{same_itself}
use Rattle.lower_names.specs.Picked.{with_name}
use Rattle.lower_names.proofs.Named.{or_false, bytes_turned, with_has, names_it, picked_have}
use Rattle.lower_copies.specs.Copying.{action_copy, StandsBy, direct_in, directs_from, line_copies, table_copies, names_behind, lines_at, copies_from}

-- tables with a counter

abbrev pub counts : Name → Decl → Bool
counts n d = names_it direct_in n d

some_if : (b : Bool) (y : Name) → is_some (cond b (Some y) None) ≡ b
some_if true y = refl
some_if false y = refl

entry_is : (n : Name) (d : Decl) → is_some (counts_entries_of n d) ≡ counts n d
entry_is n (decl.Counter x) = by (direct_table_of x.attributes) refl where
  by : (o : Option Name) → direct_table_of x.attributes ≡ o → is_some (counts_entries_of n (decl.Counter x)) ≡ counts n (decl.Counter x)
  by None e = rw e refl
  by (Some t) e = rw e (some_if (bytes_eq t n) x.name ∙ bytes_turned t n)
entry_is n _ = refl

entries_are : (n : Name) (ds : List Decl) → is_some (first_name (filter_map (counts_entries_of n) ds)) ≡ list_any (counts n) ds
entries_are n [] = refl
entries_are n (d ∷ ds) =
    by (counts_entries_of n d) refl ∙ ap₂ (λ a b. a || b) (entry_is n d) (entries_are n ds)
  where
    by : (o : Option Name) → counts_entries_of n d ≡ o → is_some (first_name (filter_map (counts_entries_of n) (d ∷ ds))) ≡ (is_some (counts_entries_of n d) || is_some (first_name (filter_map (counts_entries_of n) ds)))
    by None e = rw e refl
    by (Some x) e = rw e refl

some_mapped : (f : Name → ℕ) (o : Option Name) → is_some (option_map f o) ≡ is_some o
some_mapped f None = refl
some_mapped f (Some x) = refl

directs_are : (ds : List Decl) (n : Name) → has_name (directs_from [] ds) n ≡ is_some (direct_counter ds n)
directs_are ds n =
    picked_have direct_in [] ds n ∙ sym (entries_are n ds) ∙ sym (some_mapped _ (first_name (filter_map (counts_entries_of n) ds)))

-- names of lines

abbrev pub has_line : (Listing → Bool) → Name → List Listing → Bool
has_line p n before = list_any (λ (m : Listing). p m && bytes_eq n m.action) before

-- the names are those of the lines that count
abbrev pub AreNamesOf : (Listing → Bool) → List Listing → List Name → Type 0
AreNamesOf p before names = (n : Name) → has_name names n ≡ has_line p n before

and_one : (b c : Bool) → b ≡ true → ((b && c) || false) ≡ c
and_one true true e = refl
and_one true false e = refl
and_one false c e = cc

and_none : (b c : Bool) → b ≡ false → ((b && c) || false) ≡ false
and_none false c e = refl
and_none true c e = cc

names_more : (p : Listing → Bool) (before : List Listing) (names : List Name) (l : Listing) → p l ≡ true → AreNamesOf p before names → AreNamesOf p (before ++ l ∷ []) (with_name names l.action)
names_more p before names l here are n =
    with_has names l.action n
    ∙ ap₂ (λ a b. a || b) (are n) (sym (and_one (p l) (bytes_eq n l.action) here))
    ∙ sym (list_any-append (λ (m : Listing). p m && bytes_eq n m.action) before (l ∷ []))

names_other : (p : Listing → Bool) (before : List Listing) (names : List Name) (l : Listing) → p l ≡ false → AreNamesOf p before names → AreNamesOf p (before ++ l ∷ []) names
names_other p before names l here are n =
    are n
    ∙ sym (or_false (has_line p n before))
    ∙ ap (λ b. has_line p n before || b) (sym (and_none (p l) (bytes_eq n l.action) here))
    ∙ sym (list_any-append (λ (m : Listing). p m && bytes_eq n m.action) before (l ∷ []))

abbrev pub stands_in : Bool → Listing → Bool
stands_in e m = is_same_bit e m.in_egress

abbrev pub is_of_table : ℕ → Listing → Bool
is_of_table t m = nat_eq t m.table

lines_more : (c e : Bool) (t k : ℕ) (names : List Name) (before : List Listing) (known : List Name) → AreNamesOf (stands_in e) before known → AreNamesOf (stands_in e) (before ++ lines_from c e t k names) (names_behind known (lines_from c e t k names))
lines_more c e t k [] before known are = subst (λ (b : List Listing). AreNamesOf (stands_in e) b known) (sym (append-nil before)) are
lines_more c e t k (n ∷ names) before known are =
    let l : Listing = record { table = t; number = k; action = n; is_counted = c; in_egress = e } in
    let ls = lines_from c e t (k + 1) names in
    subst (λ (b : List Listing). AreNamesOf (stands_in e) b (names_behind (with_name known n) ls)) (append_assoc before (l ∷ []) ls)
    (lines_more c e t (k + 1) names (before ++ l ∷ []) (with_name known n) (names_more (stands_in e) before known l (same_itself e) are))

lines_other : (c f : Bool) (t k : ℕ) (names : List Name) (e : Bool) (before : List Listing) (known : List Name) → is_same_bit e f ≡ false → AreNamesOf (stands_in e) before known → AreNamesOf (stands_in e) (before ++ lines_from c f t k names) known
lines_other c f t k [] e before known apart are = subst (λ (b : List Listing). AreNamesOf (stands_in e) b known) (sym (append-nil before)) are
lines_other c f t k (n ∷ names) e before known apart are =
    let l : Listing = record { table = t; number = k; action = n; is_counted = c; in_egress = f } in
    let ls = lines_from c f t (k + 1) names in
    subst (λ (b : List Listing). AreNamesOf (stands_in e) b known) (append_assoc before (l ∷ []) ls)
    (lines_other c f t (k + 1) names e (before ++ l ∷ []) known apart (names_other (stands_in e) before known l apart are))

-- the lines of a table

table_same : (c e : Bool) (t k : ℕ) (names : List Name) (before : List Listing) (pipeline own : List Name) (rest : List Listing) → AreNamesOf (stands_in e) before pipeline → AreNamesOf (is_of_table t) before own → copies_behind before (lines_from c e t k names ++ rest) ≡ table_copies pipeline own (lines_from c e t k names) ++ copies_behind (before ++ lines_from c e t k names) rest
table_same c e t k [] before pipeline own rest are owned = ap (λ (b : List Listing). copies_behind b rest) (sym (append-nil before))
table_same c e t k (n ∷ names) before pipeline own rest are owned =
    let l : Listing = record { table = t; number = k; action = n; is_counted = c; in_egress = e } in
    let ls = lines_from c e t (k + 1) names in
    let plain : List Copy = one_if (not (has_name pipeline n)) (plain_copy l) in
    let counted : List Copy = one_if (c && not (has_name own n)) (counted_copy l) in
    let further : List Copy = table_copies (with_name pipeline n) (with_name own n) ls in
    let behind : List Copy = copies_behind ((before ++ l ∷ []) ++ ls) rest in
    let first : copies_behind before (l ∷ (ls ++ rest)) ≡ plain ++ (counted ++ copies_behind (before ++ l ∷ []) (ls ++ rest)) =
    ap₂ (λ a b. one_if (not a) (plain_copy l) ++ (one_if (c && not b) (counted_copy l) ++ copies_behind (before ++ l ∷ []) (ls ++ rest))) (sym (are n)) (sym (owned n)) in
    let then : copies_behind (before ++ l ∷ []) (ls ++ rest) ≡ further ++ behind =
    table_same c e t (k + 1) names (before ++ l ∷ []) (with_name pipeline n) (with_name own n) rest
    (names_more (stands_in e) before pipeline l (same_itself e) are) (names_more (is_of_table t) before own l (eq-eqb t t refl) owned) in
    first
    ∙ ap (λ (r : List Copy). plain ++ (counted ++ r)) then
    ∙ sym (append_assoc (plain ++ counted) further behind ∙ append_assoc plain counted (further ++ behind))
    ∙ ap (λ (b : List Listing). ((plain ++ counted) ++ further) ++ copies_behind b rest) (append_assoc before (l ∷ []) ls)

-- no line of a table before its own

none_of : (c e : Bool) (t k : ℕ) (names : List Name) (u : ℕ) (n : Name) → nat_eq u t ≡ false → has_line (is_of_table u) n (lines_from c e t k names) ≡ false
none_of c e t k [] u n apart = refl
none_of c e t k (m ∷ names) u n apart = rw (apart, none_of c e t (k + 1) names u n apart) refl

abbrev pub AreBelow : ℕ → List Listing → Type 0
AreBelow table before = (u : ℕ) → table ≤ u → (n : Name) → has_line (is_of_table u) n before ≡ false

numbers_apart : (u t : ℕ) → t < u → nat_eq u t ≡ false
numbers_apart u t less = by (nat_eq u t) refl where
  by : (b : Bool) → nat_eq u t ≡ b → b ≡ false
  by false e = refl
  by true e = let same : u ≡ t = eqb-true u t e in absurd (omega (arith, same, less))

below_more : (c e : Bool) (table k : ℕ) (names : List Name) (before : List Listing) → AreBelow table before → AreBelow (table + 1) (before ++ lines_from c e table k names)
below_more c e table k names before below u from n =
    list_any-append (λ (m : Listing). is_of_table u m && bytes_eq n m.action) before (lines_from c e table k names)
    ∙ ap₂ (λ a b. a || b) (below u (omega (arith, from)) n) (none_of c e table k names u n (numbers_apart u table (omega (arith, from))))

-- all tables

abbrev pub lines : Bool → Bool → ℕ → ℕ → Table → List Listing
lines c e table number t = lines_from c e table number (listed_in t)

side_is : (f : Bool) (before : List Listing) (ins outs : List Name) → AreNamesOf (stands_in false) before ins → AreNamesOf (stands_in true) before outs → AreNamesOf (stands_in f) before (cond f outs ins)
side_is true before ins outs a b = b
side_is false before ins outs a b = a

ins_are : (f c : Bool) (t k : ℕ) (names : List Name) (before : List Listing) (ins : List Name) → AreNamesOf (stands_in false) before ins → AreNamesOf (stands_in false) (before ++ lines_from c f t k names) (cond f ins (names_behind ins (lines_from c f t k names)))
ins_are true c t k names before ins are = lines_other c true t k names false before ins refl are
ins_are false c t k names before ins are = lines_more c false t k names before ins are

outs_are : (f c : Bool) (t k : ℕ) (names : List Name) (before : List Listing) (outs : List Name) → AreNamesOf (stands_in true) before outs → AreNamesOf (stands_in true) (before ++ lines_from c f t k names) (cond f (names_behind outs (lines_from c f t k names)) outs)
outs_are true c t k names before outs are = lines_more c true t k names before outs are
outs_are false c t k names before outs are = lines_other c false t k names true before outs refl are

module _ (ds : List Decl) (counted : List Name) (flags : List Bool) (egress : ℕ → Bool) (known : (n : Name) → has_name counted n ≡ is_some (direct_counter ds n)) where
  flag : ℕ → Bool
  flag table = slice_index_or flags table false

  all_same : (ts : List Table) (table number : ℕ) (before : List Listing) (ins outs : List Name) → ((u : ℕ) → u < length ts → slice_index_or flags (table + u) false ≡ egress (table + u)) → AreNamesOf (stands_in false) before ins → AreNamesOf (stands_in true) before outs → AreBelow table before → copies_from counted flags ins outs table number ts ≡ copies_behind before (listings_from ds egress table number ts)
  all_same [] table number before ins outs stands in_is out_is below = refl
  all_same (t ∷ ts) table number before ins outs stands in_is out_is below =
      let f : Bool = slice_index_or flags table false in
      let c : Bool = has_name counted t.name in
      let names : List Name = listed_in t in
      let ls : List Listing = lines_from c f table number names in
      let rest : List Listing = listings_from ds egress (table + 1) (number + length names) ts in
      let same : table + 0 ≡ table = omega arith in
      let here : slice_index_or flags table false ≡ egress table = subst (λ (k : ℕ). slice_index_or flags k false ≡ egress k) same (stands 0 (omega arith)) in
      let first : copies_behind before (lines_from (is_some (direct_counter ds t.name)) (egress table) table number names ++ rest) ≡ copies_behind before (ls ++ rest) =
      ap₂ (λ a b. copies_behind before (lines_from a b table number names ++ rest)) (sym (known t.name)) (sym here) in
      let own : AreNamesOf (is_of_table table) before [] = λ n. sym (below table (omega arith) n) in
      let split : copies_behind before (ls ++ rest) ≡ table_copies (cond f outs ins) [] ls ++ copies_behind (before ++ ls) rest =
      table_same c f table number names before (cond f outs ins) [] rest (side_is f before ins outs in_is out_is) own in
      let further : copies_from counted flags (cond f ins (names_behind ins ls)) (cond f (names_behind outs ls) outs) (table + 1) (number + length names) ts ≡ copies_behind (before ++ ls) rest =
      all_same ts (table + 1) (number + length names) (before ++ ls) (cond f ins (names_behind ins ls)) (cond f (names_behind outs ls) outs) (λ u less. next u (stands (suc u) (omega (arith, less))))
      (ins_are f c table number names before ins in_is) (outs_are f c table number names before outs out_is) (below_more c f table number names before below) in
      ap (λ (r : List Copy). table_copies (cond f outs ins) [] ls ++ r) further ∙ sym (first ∙ split)
    where
      next : (u : ℕ) → slice_index_or flags (table + suc u) false ≡ egress (table + suc u) → slice_index_or flags ((table + 1) + u) false ≡ egress ((table + 1) + u)
      next u e =
          let same : table + suc u ≡ (table + 1) + u = omega arith in
          subst (λ (k : ℕ). slice_index_or flags k false ≡ egress k) same e

  whole_same : StandsBy ds egress flags → copies_from counted flags [] [] 0 0 (tables ds) ≡ copies ds egress
  whole_same stands = all_same (tables ds) 0 0 [] [] [] from (λ n. refl) (λ n. refl) (λ u le n. refl) where
    from : (u : ℕ) → u < length (tables ds) → slice_index_or flags (0 + u) false ≡ egress (0 + u)
    from u less =
        let same : u ≡ 0 + u = omega arith in
        subst (λ (k : ℕ). slice_index_or flags k false ≡ egress k) same (stands u less)

pub copies_same : (ds : List Decl) (counted : List Name) (flags : List Bool) (egress : ℕ → Bool) → counted ≡ directs_from [] ds → StandsBy ds egress flags → map (action_copy ds) (copies_from counted flags [] [] 0 0 (tables ds)) ≡ map (action_copy ds) (copies ds egress)
copies_same ds counted flags egress is stands =
    ap (map (action_copy ds)) (whole_same ds counted flags egress (λ n. ap (λ (names : List Name). has_name names n) is ∙ directs_are ds n) stands)
