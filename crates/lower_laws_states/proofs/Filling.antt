-- What fills a table fits the signature of the table.
use Rattle.std.proofs.Common.{◌≡◌, ◌⊎◌, inl, inr, ℕ, zero, suc, Bool, true, false, Option, Some, None, List, [], ◌∷◌, length, map, fold, get_or, slice_get, refl, sym, ap, ◌∙◌, subst}
use Rattle.std.specs.Prelude.{filter_map, option_and_then, option_map, unwrap_or}
use Rattle.std.specs.BTreeSet.{insert_key}
use Rattle.std.specs.Cmp.Lexicographic.{slice_cmp}
use Rattle.std.specs.List.{cons_option}
use Rattle.std.specs.Ordering.{match_ordering, nat_cmp, is_eq}
use Rattle.std.specs.Str.{bytes_eq}
use Rattle.std.specs.declared.cmp.Ordering.{Ordering}
use Rattle.std.specs.declared.cmp.Ordering.TheVariants.{Less, Equal, Greater}
use Rattle.std.proofs.lemmas.List.Quantifiers.{position-Some}
use Rattle.std.proofs.lemmas.Map.Text.{is_eq-slice_cmp}
use Rattle.std.proofs.lemmas.Option.{slice_get-get_or, slice_get-map, get_or_from_slice_get}
use Rattle.std.proofs.lemmas.Slice.Eq.{bytes_eq-Decides}
use Rattle.match_core.specs.Fits.{Fits, FitsFill}
use Rattle.p414_syntax.specs.declared.tables.Table.{Table}
use Rattle.p414_syntax.specs.declared.syntax.Decl.{Decl}
use Rattle.p414_syntax.specs.declared.syntax.Decl.TheVariants as decl
use Rattle.p414_syntax.specs.declared.syntax.Sort.TheVariants as sort
use Rattle.p414_syntax.specs.Names.{Name, find_name, has_name, names_in}
use Rattle.p414_syntax.specs.Tables.{tables, table_number}
use Rattle.p414_sem.specs.Operations.{in_order}
use Rattle.p414_sem.specs.Signatures.{table_sig, table_of, signature14}
use Rattle.p414_sem.specs.Controls.{Setting, no_fill, fill_of}
use Rattle.lower_laws_states.specs.Expansions.{Has}
use Rattle.lower_laws_states.proofs.Instances.{all_zip_at}
use Rattle.lower_laws_states.proofs.Members.{same_name, none_passes}
use Rattle.lower_laws_states.proofs.Declared.{found_has}
use Rattle.lower_laws_states.proofs.Used.{none_found}

-- names in order

cmp_same : (a b : Name) → slice_cmp nat_cmp a b ≡ Equal → a ≡ b
cmp_same a b e = same_name a b (sym (is_eq-slice_cmp a b) ∙ ap is_eq e)

insert_has : (names : List Name) (name other : Name) → (Has names other ⊎ (other ≡ name)) → Has (insert_key (slice_cmp nat_cmp) names name) other
insert_has [] name other (inl h) = absurd h
insert_has [] name other (inr e) = inl (sym e)
insert_has (n ∷ names) name other h = by (slice_cmp nat_cmp name n) refl h (insert_has names name other) where
  by : (r : Ordering) → slice_cmp nat_cmp name n ≡ r → (Has (n ∷ names) other ⊎ (other ≡ name)) → ((Has names other ⊎ (other ≡ name)) → Has (insert_key (slice_cmp nat_cmp) names name) other) → Has (match_ordering r (name ∷ n ∷ names) (n ∷ names) (n ∷ insert_key (slice_cmp nat_cmp) names name)) other
  by Less is (inl h) rest = inr h
  by Less is (inr e) rest = inl (sym e)
  by Equal is (inl h) rest = h
  by Equal is (inr e) rest = inl (sym (cmp_same name n is) ∙ sym e)
  by Greater is (inl (inl e)) rest = inl e
  by Greater is (inl (inr h)) rest = inr (rest (inl h))
  by Greater is (inr e) rest = inr (rest (inr e))

folded_has : (names kept : List Name) (name : Name) → (Has kept name ⊎ Has names name) → Has (fold (insert_key (slice_cmp nat_cmp)) kept names) name
folded_has [] kept name (inl h) = h
folded_has [] kept name (inr h) = absurd h
folded_has (n ∷ names) kept name (inl h) = folded_has names _ name (inl (insert_has kept n name (inl h)))
folded_has (n ∷ names) kept name (inr (inl e)) = folded_has names _ name (inl (insert_has kept n name (inr (sym e))))
folded_has (n ∷ names) kept name (inr (inr h)) = folded_has names _ name (inr h)

pub in_order_has : (names : List Name) (name : Name) → Has names name → Has (in_order names) name
in_order_has names name h = folded_has names [] name (inr h)

insert_of : (names : List Name) (name other : Name) → Has (insert_key (slice_cmp nat_cmp) names name) other → Has names other ⊎ (name ≡ other)
insert_of [] name other (inl e) = inr e
insert_of [] name other (inr h) = absurd h
insert_of (n ∷ names) name other h = by (slice_cmp nat_cmp name n) h (insert_of names name other) where
  by : (r : Ordering) → Has (match_ordering r (name ∷ n ∷ names) (n ∷ names) (n ∷ insert_key (slice_cmp nat_cmp) names name)) other → (Has (insert_key (slice_cmp nat_cmp) names name) other → Has names other ⊎ (name ≡ other)) → Has (n ∷ names) other ⊎ (name ≡ other)
  by Less (inl e) rest = inr e
  by Less (inr h) rest = inl h
  by Equal h rest = inl h
  by Greater (inl e) rest = inl (inl e)
  by Greater (inr h) rest = of (rest h) where
    of : Has names other ⊎ (name ≡ other) → Has (n ∷ names) other ⊎ (name ≡ other)
    of (inl h) = inl (inr h)
    of (inr e) = inr e

folded_of : (names kept : List Name) (name : Name) → Has (fold (insert_key (slice_cmp nat_cmp)) kept names) name → Has kept name ⊎ Has names name
folded_of [] kept name h = inl h
folded_of (n ∷ names) kept name h = by (folded_of names (insert_key (slice_cmp nat_cmp) kept n) name h) where
  of : Has kept name ⊎ (n ≡ name) → Has kept name ⊎ Has (n ∷ names) name
  of (inl h) = inl h
  of (inr e) = inr (inl e)

  by : Has (insert_key (slice_cmp nat_cmp) kept n) name ⊎ Has names name → Has kept name ⊎ Has (n ∷ names) name
  by (inl h) = of (insert_of kept n name h)
  by (inr h) = inr (inr h)

of_in_order : (names : List Name) (name : Name) → Has (in_order names) name → Has names name
of_in_order names name h = by (folded_of names [] name h) where
  by : Has [] name ⊎ Has names name → Has names name
  by (inl h) = absurd h
  by (inr h) = h

-- tables by name

abbrev name_of : Table → Name
name_of t = t.name

pub table_names : (ds : List Decl) → names_in sort.Table ds ≡ map name_of (tables ds)
table_names [] = refl
table_names (decl.Table x ∷ ds) = ap (λ l. x.name ∷ l) (table_names ds)
table_names (_ ∷ ds) = table_names ds

pub has_found : (names : List Name) (name : Name) → Has names name → (k : ℕ) × (find_name names name ≡ Some k) × (slice_get names k ≡ Some name)
has_found names name h = by (find_name names name) refl where
  any : (list : List Name) → Has list name → has_name list name ≡ true
  any list h = of (has_name list name) refl where
    of : (b : Bool) → has_name list name ≡ b → b ≡ true
    of true e = refl
    of false e = absurd (cc (none_passes (bytes_eq name) list name e h, (bytes_eq-Decides name name).1 refl))

  by : (o : Option ℕ) → find_name names name ≡ o → (k : ℕ) × (find_name names name ≡ Some k) × (slice_get names k ≡ Some name)
  by None e = absurd (cc (none_found names name e, any names h))
  by (Some k) e =
      let at = position-Some (bytes_eq name) names k [] e in
      (k, e, slice_get-get_or names k [] at.0 ∙ ap Some (sym (same_name name (get_or names k []) at.1)))

pub table_numbered : (ds : List Decl) (name : Name) (t : Table) → table_of ds name ≡ Some t → (k : ℕ) × (table_number ds name ≡ Some k) × (slice_get (tables ds) k ≡ Some t)
table_numbered ds name t e = by (table_number ds name) refl e where
  by : (o : Option ℕ) → table_number ds name ≡ o → option_and_then (slice_get (tables ds)) o ≡ Some t → (k : ℕ) × (table_number ds name ≡ Some k) × (slice_get (tables ds) k ≡ Some t)
  by None is e = absurd (cc e)
  by (Some k) is e = (k, is, e)

-- a table that is found by a name has it
pub named_so : (ds : List Decl) (name : Name) (t : Table) → table_of ds name ≡ Some t → t.name ≡ name
named_so ds name t e =
    let n = table_numbered ds name t e in
    let there : slice_get (names_in sort.Table ds) n.0 ≡ Some t.name = ap (λ l. slice_get l n.0) (table_names ds) ∙ (slice_get-map name_of (tables ds) n.0 ∙ ap (option_map name_of) n.2) in
    sym (same_name name (get_or (names_in sort.Table ds) n.0 []) (position-Some (bytes_eq name) (names_in sort.Table ds) n.0 [] n.1).1 ∙ get_or_from_slice_get (names_in sort.Table ds) n.0 t.name [] there)

pub each_there : (ds : List Decl) (name : Name) → Has (names_in sort.Table ds) name → (t : Table) × (table_of ds name ≡ Some t)
each_there ds name h =
    let n = has_found (names_in sort.Table ds) name h in
    by n.0 n.1 (slice_get (tables ds) n.0) refl (sym (slice_get-map name_of (tables ds) n.0) ∙ (ap (λ l. slice_get l n.0) (sym (table_names ds)) ∙ n.2))
  where
    by : (k : ℕ) → find_name (names_in sort.Table ds) name ≡ Some k → (o : Option Table) → slice_get (tables ds) k ≡ o → option_map name_of (slice_get (tables ds) k) ≡ Some name → (t : Table) × (table_of ds name ≡ Some t)
    by k found None is e = absurd (cc (ap (option_map name_of) is, e))
    by k found (Some t) is e = (t, ap (λ (o : Option ℕ). option_and_then (slice_get (tables ds)) o) found ∙ is)

-- where a function gives something of each, all stay at their places
kept_place : {X Y : Type 0} (h : X → Option Y) (xs : List X) (k : ℕ) (x : X) (y : Y) → ((z : X) → Has xs z → (w : Y) × (h z ≡ Some w)) → slice_get xs k ≡ Some x → h x ≡ Some y → slice_get (filter_map h xs) k ≡ Some y
kept_place h [] k x y all e f = absurd (cc e)
kept_place {X} {Y} h (z ∷ xs) k x y all e f = subst (λ (o : Option Y). slice_get (cons_option o (filter_map h xs)) k ≡ Some y) (sym (all z (inl refl)).1) (by k e (λ k e. kept_place h xs k x y (λ w there. all w (inr there)) e f)) where
  by : (k : ℕ) → slice_get (z ∷ xs) k ≡ Some x → ((k : ℕ) → slice_get xs k ≡ Some x → slice_get (filter_map h xs) k ≡ Some y) → slice_get ((all z (inl refl)).0 ∷ filter_map h xs) k ≡ Some y
  by zero e rest = sym (all z (inl refl)).1 ∙ (ap h (cc e) ∙ f)
  by (suc k) e rest = rest k e

-- what fills a table fits its signature
pub fill_fits : (c : Setting) → Fits c.entries (signature14 c.decls) → (name : Name) (t : Table) → table_of c.decls name ≡ Some t → FitsFill (table_sig c.decls t) (fill_of c t)
unfolding signature14
fill_fits c entries name t e =
    let ds = c.decls in
    let names = in_order (names_in sort.Table ds) in
    let own : table_of ds t.name ≡ Some t = ap (table_of ds) (named_so ds name t e) ∙ e in
    let numbered = table_numbered ds t.name t own in
    let n = has_found names t.name (in_order_has (names_in sort.Table ds) t.name (found_has (names_in sort.Table ds) t.name numbered.0 numbered.1)) in
    let placed : slice_get (map (table_sig ds) (filter_map (table_of ds) names)) n.0 ≡ Some (table_sig ds t) =
    slice_get-map (table_sig ds) (filter_map (table_of ds) names) n.0
    ∙ ap (option_map (table_sig ds)) (kept_place (table_of ds) names n.0 t.name t (λ other h. each_there ds other (of_in_order (names_in sort.Table ds) other h)) n.2 own) in
    subst (λ (o : Option ℕ). FitsFill (table_sig ds t) (get_or c.entries.tables (unwrap_or o (length names)) no_fill)) (sym n.1)
    (all_zip_at FitsFill _ c.entries.tables n.0 (table_sig ds t) no_fill entries.tables placed)
