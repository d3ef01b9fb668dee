-- The tables of a program by their names, and in the order of the signature.
use Rattle.std.proofs.Common.{◌≡◌, ℕ, zero, suc, ◌+◌, ◌<◌, ◌≤◌, Bool, true, false, cond, List, [], ◌∷◌, ◌++◌, length, get_or, map, position, slice_get, All, Option, Some, None, option_map, option_and_then, refl, sym, ap, ◌∙◌, subst, arith}
use Rattle.std.specs.Prelude.{filter_map, fold, unwrap_or}
use Rattle.std.specs.BTreeSet.{insert_key}
use Rattle.std.specs.Cmp.Lexicographic.{slice_cmp}
use Rattle.std.specs.List.{cons_option, position_from}
use Rattle.std.specs.Ordering.{nat_cmp}
use Rattle.std.specs.Str.{bytes_eq}
use Rattle.std.proofs.lemmas.Iterator.Adapters.{position_from-zero}
use Rattle.std.proofs.lemmas.List.Elements.{All-nil, All-cons}
use Rattle.std.proofs.lemmas.List.Quantifiers.{position-Some}
use Rattle.std.proofs.lemmas.Map.Views.{All-insert_key}
use Rattle.std.proofs.lemmas.Option.{get_or_from_slice_get, slice_get-get_or, slice_get-map, slice_get_within}
use Rattle.std.proofs.lemmas.Slice.Eq.{bytes_eq-Decides}
use Rattle.match_core.specs.declared.signatures.TableSig.{TableSig}
use Rattle.p414_syntax.specs.declared.syntax.Decl.{Decl}
use Rattle.p414_syntax.specs.declared.syntax.Decl.TheVariants as decl
use Rattle.p414_syntax.specs.declared.syntax.Sort.TheVariants as sort
use Rattle.p414_syntax.specs.declared.tables.Table.{Table}
use Rattle.p414_syntax.specs.Names.{Name, declaration_of, declared_in, find_name, names_in, number_of, numbered}
use Rattle.p414_syntax.specs.Tables.{table_in, table_number, tables}
use Rattle.p414_sem.specs.Controls.{signature_number}
use Rattle.p414_sem.specs.Operations.{in_order}
use Rattle.p414_sem.specs.Signatures.{signature14, table_of, table_sig, tables_in_order}
use Rattle.p414_ready_controls.specs.Nodes.{place_among, table_name, table_place}

name_is : (xs ys : Name) → bytes_eq xs ys ≡ true → xs ≡ ys
name_is xs ys e = (bytes_eq-Decides xs ys).0 e

name_same : (xs : Name) → bytes_eq xs xs ≡ true
name_same xs = (bytes_eq-Decides xs xs).1 refl

-- names and declarations of tables

abbrev name_of : Table → Name
name_of t = t.name

abbrev as_table : Table → Decl
as_table t = decl.Table t

names_are : (ds : List Decl) → names_in sort.Table ds ≡ map name_of (tables ds)
names_are [] = refl
names_are (decl.Table x ∷ ds) = ap (λ (l : List Name). x.name ∷ l) (names_are ds)
names_are (decl.HeaderType x ∷ ds) = names_are ds
names_are (decl.Header x ∷ ds) = names_are ds
names_are (decl.Metadata x ∷ ds) = names_are ds
names_are (decl.FieldList x ∷ ds) = names_are ds
names_are (decl.FieldListCalculation x ∷ ds) = names_are ds
names_are (decl.CalculatedField x ∷ ds) = names_are ds
names_are (decl.Parser x ∷ ds) = names_are ds
names_are (decl.Action x ∷ ds) = names_are ds
names_are (decl.Counter x ∷ ds) = names_are ds
names_are (decl.Meter x ∷ ds) = names_are ds
names_are (decl.Register x ∷ ds) = names_are ds
names_are (decl.Control x ∷ ds) = names_are ds
names_are (decl.LeftOut x ∷ ds) = names_are ds

declared_are : (ds : List Decl) → declared_in sort.Table ds ≡ map as_table (tables ds)
declared_are [] = refl
declared_are (decl.Table x ∷ ds) = ap (λ (l : List Decl). decl.Table x ∷ l) (declared_are ds)
declared_are (decl.HeaderType x ∷ ds) = declared_are ds
declared_are (decl.Header x ∷ ds) = declared_are ds
declared_are (decl.Metadata x ∷ ds) = declared_are ds
declared_are (decl.FieldList x ∷ ds) = declared_are ds
declared_are (decl.FieldListCalculation x ∷ ds) = declared_are ds
declared_are (decl.CalculatedField x ∷ ds) = declared_are ds
declared_are (decl.Parser x ∷ ds) = declared_are ds
declared_are (decl.Action x ∷ ds) = declared_are ds
declared_are (decl.Counter x ∷ ds) = declared_are ds
declared_are (decl.Meter x ∷ ds) = declared_are ds
declared_are (decl.Register x ∷ ds) = declared_are ds
declared_are (decl.Control x ∷ ds) = declared_are ds
declared_are (decl.LeftOut x ∷ ds) = declared_are ds

-- the declaration of a name is its table

by_number : (ds : List Decl) (o : Option ℕ) (t : Table) → option_and_then (numbered sort.Table ds) o ≡ Some (decl.Table t) → option_and_then (slice_get (tables ds)) o ≡ Some t
by_number ds None t e = absurd (cc e)
by_number ds (Some n) t e =
    of_table (slice_get (tables ds) n)
    (sym (ap (λ (l : List Decl). slice_get l n) (declared_are ds) ∙ slice_get-map as_table (tables ds) n) ∙ e) where
      of_table : (o : Option Table) → option_map as_table o ≡ Some (decl.Table t) → o ≡ Some t
      of_table None f = absurd (cc f)
      of_table (Some x) f = cc f

pub declared_table : (ds : List Decl) (name : Name) (t : Table) → declaration_of sort.Table ds name ≡ Some (decl.Table t) → table_of ds name ≡ Some t
declared_table ds name t e = by_number ds (number_of sort.Table ds name) t e

-- a table that a name finds has that name

named_at : (ds : List Decl) (name : Name) (o : Option ℕ) (t : Table) → table_number ds name ≡ o → option_and_then (slice_get (tables ds)) o ≡ Some t → t.name ≡ name
named_at ds name None t is e = absurd (cc e)
named_at ds name (Some n) t is e =
    let there = position-Some (bytes_eq name) (names_in sort.Table ds) n [] is in
    let at : slice_get (names_in sort.Table ds) n ≡ Some t.name =
    ap (λ (l : List Name). slice_get l n) (names_are ds) ∙ (slice_get-map name_of (tables ds) n ∙ ap (option_map name_of) e) in
    sym (get_or_from_slice_get (names_in sort.Table ds) n t.name [] at)
    ∙ sym (name_is name (get_or (names_in sort.Table ds) n []) there.1)

pub named_so : (ds : List Decl) (name : Name) (t : Table) → table_of ds name ≡ Some t → t.name ≡ name
named_so ds name t e = named_at ds name (table_number ds name) t refl e

-- each name of a table finds one

pub record IsTableName (ds : List Decl) (name : Name) : Type 0 where
  pub table : Table
  pub is : table_of ds name ≡ Some table

first_or : (name : Name) (i : ℕ) (x : Name) (names : List Name) (b : Bool) → bytes_eq name x ≡ b → (n : ℕ) × (position_from (bytes_eq name) (i + 1) names ≡ Some n) → (n : ℕ) × (position_from (bytes_eq name) i (x ∷ names) ≡ Some n)
first_or name i x names true f rest =
    (i, ap (λ (b : Bool). cond b (Some i) (position_from (bytes_eq name) (i + 1) names)) f)
first_or name i x names false f rest =
    (rest.0, ap (λ (b : Bool). cond b (Some i) (position_from (bytes_eq name) (i + 1) names)) f ∙ rest.1)

found_in : (names : List Name) (name : Name) (i k : ℕ) → k < length names → bytes_eq name (get_or names k []) ≡ true → (n : ℕ) × (position_from (bytes_eq name) i names ≡ Some n)
found_in [] name i k lt e = absurd (omega (arith, lt))
found_in (x ∷ names) name i zero lt e =
    (i, ap (λ (b : Bool). cond b (Some i) (position_from (bytes_eq name) (i + 1) names)) e)
found_in (x ∷ names) name i (suc k) lt e =
    first_or name i x names (bytes_eq name x) refl (found_in names name (i + 1) k (omega (arith, lt)) e)

there_is : {X : Type 0} (xs : List X) (n : ℕ) → n < length xs → (x : X) × (slice_get xs n ≡ Some x)
there_is [] n lt = absurd (omega (arith, lt))
there_is (x ∷ xs) zero lt = (x, refl)
there_is (x ∷ xs) (suc n) lt = there_is xs n (omega (arith, lt))

same_length : {X Y : Type 0} (f : X → Y) (xs : List X) → length (map f xs) ≡ length xs
same_length f [] = refl
same_length f (x ∷ xs) = ap suc (same_length f xs)

is_table_name : (ds : List Decl) (k : ℕ) → k < length (names_in sort.Table ds) → IsTableName ds (get_or (names_in sort.Table ds) k [])
is_table_name ds k lt = record { table = table.0; is = ap (option_and_then (slice_get (tables ds))) at ∙ table.1 } where
  name : Name
  name = get_or (names_in sort.Table ds) k []

  found : (n : ℕ) × (position_from (bytes_eq name) 0 (names_in sort.Table ds) ≡ Some n)
  found = found_in (names_in sort.Table ds) name 0 k lt (name_same name)

  at : table_number ds name ≡ Some found.0
  at = position_from-zero (bytes_eq name) (names_in sort.Table ds) ∙ found.1

  within : found.0 < length (tables ds)
  within =
      let inside : found.0 < length (names_in sort.Table ds) = (position-Some (bytes_eq name) (names_in sort.Table ds) found.0 [] at).0 in
      omega (arith, inside, ap length (names_are ds), same_length name_of (tables ds))

  table : (t : Table) × (slice_get (tables ds) found.0 ≡ Some t)
  table = there_is (tables ds) found.0 within

-- names in order are tables' names still

ordered : (P : Name → Type 0) (names before : List Name) → All P before → All P names → All P (fold (insert_key (slice_cmp nat_cmp)) before names)
ordered P [] before done left = done
ordered P (name ∷ names) before done left =
    ordered P names (insert_key (slice_cmp nat_cmp) before name)
    (All-insert_key (slice_cmp nat_cmp) name P before done (left 0 [] (omega arith)))
    (λ k d lt. left (suc k) d (omega arith))

all_named : (ds : List Decl) → All (IsTableName ds) (in_order (names_in sort.Table ds))
all_named ds =
    ordered (IsTableName ds) (names_in sort.Table ds) [] (All-nil (IsTableName ds))
    (λ k d lt. subst (IsTableName ds) (other_default (names_in sort.Table ds) k d lt) (is_table_name ds k lt)) where
      other_default : (names : List Name) (k : ℕ) (d : Name) → k < length names → get_or names k [] ≡ get_or names k d
      other_default [] k d lt = absurd (omega (arith, lt))
      other_default (x ∷ names) zero d lt = refl
      other_default (x ∷ names) (suc k) d lt = other_default names k d (omega (arith, lt))

-- the tables in order have the names in order

one_table : (ds : List Decl) (name : Name) (rest : List Name) (o : Option Table) → table_of ds name ≡ o → IsTableName ds name → map table_name (map (table_sig ds) (filter_map (table_of ds) rest)) ≡ rest → map table_name (map (table_sig ds) (cons_option o (filter_map (table_of ds) rest))) ≡ name ∷ rest
one_table ds name rest None e is same = absurd (cc (e, is.is))
one_table ds name rest (Some t) e is same =
    ap (λ (n : Name). n ∷ map table_name (map (table_sig ds) (filter_map (table_of ds) rest))) (named_so ds name t e)
    ∙ ap (λ (l : List Name). name ∷ l) same

tables_of_names : (ds : List Decl) (names : List Name) → All (IsTableName ds) names → map table_name (map (table_sig ds) (filter_map (table_of ds) names)) ≡ names
tables_of_names ds [] all = refl
tables_of_names ds (name ∷ names) all =
    one_table ds name names (table_of ds name) refl (all 0 [] (omega arith))
    (tables_of_names ds names (λ k d lt. all (suc k) d (omega arith)))

-- The names of the tables of the signature are those of all tables, in the order of their octets.
pub tables_named : (ds : List Decl) → map table_name (signature14 ds).tables ≡ in_order (names_in sort.Table ds)
unfolding signature14
tables_named ds = tables_of_names ds (in_order (names_in sort.Table ds)) (all_named ds)

-- a table in order is the one that its name finds

picked_by : {X Y : Type 0} (f : X → Option Y) (x : X) (xs : List X) (o : Option Y) → f x ≡ o → (n : ℕ) (y : Y) → slice_get (cons_option o (filter_map f xs)) n ≡ Some y → ((k : ℕ) → slice_get (filter_map f xs) k ≡ Some y → (z : X) × (f z ≡ Some y)) → (z : X) × (f z ≡ Some y)
picked_by f x xs None is n y e rest = rest n e
picked_by f x xs (Some w) is zero y e rest = (x, is ∙ e)
picked_by f x xs (Some w) is (suc n) y e rest = rest n e

picked : {X Y : Type 0} (f : X → Option Y) (xs : List X) (n : ℕ) (y : Y) → slice_get (filter_map f xs) n ≡ Some y → (x : X) × (f x ≡ Some y)
picked f [] n y e = absurd (cc e)
picked f (x ∷ xs) n y e = picked_by f x xs (f x) refl n y e (λ k h. picked f xs k y h)

pub table_itself : (ds : List Decl) (n : ℕ) (t : Table) → slice_get (tables_in_order ds) n ≡ Some t → table_of ds t.name ≡ Some t
table_itself ds n t e =
    let from = picked (table_of ds) (in_order (names_in sort.Table ds)) n t e in
    ap (table_of ds) (named_so ds from.0 t from.1) ∙ from.1

-- the table with a number in the signature is the one with the name that has this number

placed : (names : List Name) (name : Name) (n : ℕ) (o : Option ℕ) → find_name names name ≡ o → n < length names → n ≡ unwrap_or o (length names) → get_or names n [] ≡ name
placed names name n None e lt is = absurd (omega (arith, lt, is))
placed names name n (Some k) e lt is =
    let there = position-Some (bytes_eq name) names k [] e in
    ap (λ (i : ℕ). get_or names i []) is ∙ sym (name_is name (get_or names k []) there.1)

name_at : (ds : List Decl) (n : ℕ) (t : Table) → slice_get (tables_in_order ds) n ≡ Some t → slice_get (map table_name (signature14 ds).tables) n ≡ Some t.name
unfolding signature14
name_at ds n t e =
    slice_get-map table_name (map (table_sig ds) (tables_in_order ds)) n
    ∙ ap (option_map table_name) (slice_get-map (table_sig ds) (tables_in_order ds) n ∙ ap (option_map (table_sig ds)) e)

pub table_placed : (ds : List Decl) (n : ℕ) (t : Table) (name : Name) → slice_get (tables_in_order ds) n ≡ Some t → n ≡ table_place ds name → table_of ds name ≡ Some t
table_placed ds n t name e is =
    let names = map table_name (signature14 ds).tables in
    let at : slice_get names n ≡ Some t.name = name_at ds n t e in
    let within : n < length names = slice_get_within names n t.name at in
    let same : t.name ≡ name = sym (get_or_from_slice_get names n t.name [] at) ∙ placed names name n (find_name names name) refl within is in
    ap (table_of ds) (sym same) ∙ table_itself ds n t e

-- and its number is the place
pub number_is : (ds : List Decl) (n : ℕ) (t : Table) (name : Name) → table_of ds name ≡ Some t → n ≡ table_place ds name → signature_number ds t ≡ n
number_is ds n t name e is =
    ap (λ (l : List Name). unwrap_or (find_name l t.name) (length l)) (sym (tables_named ds))
    ∙ (ap (table_place ds) (named_so ds name t e) ∙ sym is)
