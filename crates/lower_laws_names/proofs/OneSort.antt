-- What the rules on names say of each sort, and that the new names of a sort don't repeat.
use Rattle.std.proofs.Common.{◌≡◌, ◌≢◌, ℕ, zero, suc, ◌+◌, ◌<◌, ◌≤◌, ◌^◌, Bool, true, false, ◌||◌, not, cond, Option, Some, None, List, [], ◌∷◌, ◌++◌, length, map, refl, sym, ap, ◌∙◌, arith}
use Rattle.std.specs.List.{list_any, prefix_len, cons_option}
use Rattle.std.specs.Str.{bytes_eq}
use Rattle.std.proofs.lemmas.Bool.{true≢false, lt-ltb}
use Rattle.std.proofs.lemmas.List.{append_assoc}
use Rattle.std.proofs.lemmas.List.Folds.{list_any-append}
use Rattle.std.proofs.lemmas.Slice.Eq.{bytes_eq-Decides}
use Rattle.p414_syntax.specs.declared.syntax.Decl.{Decl}
use Rattle.p414_syntax.specs.declared.syntax.Sort.{Sort}
use Rattle.p414_syntax.specs.declared.syntax.Sort.TheVariants.{HeaderType, Instance, Parse, Action, Table, List as AList, Calculation, Object}
use Rattle.std.specs.Prelude.{slice_get, option_and_then}
use Rattle.p414_syntax.specs.Views.{HeaderTypeTree}
use Rattle.p414_syntax.specs.Fields.{types, type_of}
use Rattle.p414_syntax.specs.Names.{Name, find_name, has_name, repeats_behind, repeats, name_in, names_in, number_of, field_name}
use Rattle.p414_syntax.specs.Twice.{sorts, is_reserved, repeats_in, has_field_twice, repeats_within, declares_twice}
use Rattle.p416_syntax.specs.Names.{repeats as repeats16}
use Rattle.lower_laws_names.specs.Made.{called}
use Rattle.lower_laws_names.specs.NewNames.{thing, things_of}
use Rattle.lower_laws_names.specs.Reaches.{AreProper, IsApartFrom, AreAllApart, IsNumbered}
use Rattle.lower_laws_names.proofs.Sorts.{proper, one_sort}
use Rattle.lower_laws_names.proofs.Lists.{called_once, not_again, itself}

-- a name among names has a number

record Found (names : List Name) (n : Name) : Type 0 where
  number : ℕ
  is : find_name names n ≡ Some number
  below : number < length names

below_by : (p : Name → Bool) (xs : List Name) → list_any p xs ≡ true → prefix_len (λ x. not (p x)) xs < length xs
below_by p [] e = absurd (true≢false (sym e))
below_by p (x ∷ xs) e = by (p x) refl (λ f. below_by p xs (or_false (p x) (list_any p xs) e f))
  where
    or_false : (b c : Bool) → (b || c) ≡ true → b ≡ false → c ≡ true
    or_false true c f g = cc
    or_false false c f g = f

    by : (b : Bool) → p x ≡ b → (p x ≡ false → prefix_len (λ y. not (p y)) xs < length xs) → cond (not b) (1 + prefix_len (λ y. not (p y)) xs) 0 < suc (length xs)
    by true f rest = omega arith
    by false f rest = omega (arith, rest f)

found : (names : List Name) (n : Name) → has_name names n ≡ true → Found names n
found names n e =
    let below = below_by (bytes_eq n) names e in
    record {
      number = prefix_len (λ x. not (bytes_eq n x)) names;
      is = ap (λ (b : Bool). cond b (Some (prefix_len (λ x. not (bytes_eq n x)) names)) None) (lt-ltb (prefix_len (λ x. not (bytes_eq n x)) names) (length names) below);
      below = below;
    }

some_more : {A : Type 0} (o : Option A) (xs : List A) (n : ℕ) → length xs ≤ n → length (cons_option o xs) ≤ suc n
some_more None xs n le = omega arith
some_more (Some x) xs n le = omega arith

pub few_named : (s : Sort) (ds : List Decl) → length (names_in s ds) ≤ length ds
few_named s [] = omega arith
few_named s (d ∷ ds) = some_more (name_in s d) (names_in s ds) (length ds) (few_named s ds)

pub is_numbered : (ds : List Decl) (s : Sort) (n : Name) → length ds ≤ 2 ^ 32 → has_name (names_in s ds) n ≡ true → IsNumbered ds s n
is_numbered ds s n few has =
    let f = found (names_in s ds) n has in
    record { number = f.number; found = f.is; small = omega (arith, f.below, few_named s ds) }

abbrev pub AreNumbered : List Decl → Sort → List Name → Type 0
AreNumbered ds s [] = Unit {0}
AreNumbered ds s (n ∷ names) = IsNumbered ds s n × AreNumbered ds s names

numbered_behind : (ds : List Decl) (s : Sort) (before names : List Name) → length ds ≤ 2 ^ 32 → names_in s ds ≡ before ++ names → AreNumbered ds s names
numbered_behind ds s before [] few e = tt
numbered_behind ds s before (n ∷ names) few e =
    let again : names_in s ds ≡ (before ++ n ∷ []) ++ names = e ∙ sym (append_assoc before (n ∷ []) names) in
    let has : has_name (names_in s ds) n ≡ true = ap (λ (l : List Name). has_name l n) again ∙ (list_any-append (bytes_eq n) (before ++ n ∷ []) names ∙ (rw (itself before n) refl)) in
    (is_numbered ds s n few has, numbered_behind ds s (before ++ n ∷ []) names few again)

pub all_numbered : (ds : List Decl) (s : Sort) → length ds ≤ 2 ^ 32 → AreNumbered ds s (names_in s ds)
all_numbered ds s few = numbered_behind ds s [] (names_in s ds) few refl

-- no sort of a program has a name twice

or_parts : (a b : Bool) → (a || b) ≡ false → (a ≡ false) × (b ≡ false)
or_parts true b e = cc
or_parts false b e = (refl, e)

record Tested (ds : List Decl) : Type 0 where
  sorts : list_any (repeats_in ds) sorts ≡ false
  fields : list_any has_field_twice (types ds) ≡ false
  within : list_any repeats_within ds ≡ false

tested : (ds : List Decl) → declares_twice ds ≡ false → Tested ds
tested ds e =
    let a = or_parts (list_any (repeats_in ds) sorts) (list_any has_field_twice (types ds) || list_any repeats_within ds) e in
    let b = or_parts (list_any has_field_twice (types ds)) (list_any repeats_within ds) a.1 in
    record { sorts = a.0; fields = b.0; within = b.1 }

of_sort : (ds : List Decl) (s : Sort) → repeats_in ds s ≡ false → repeats (names_in s ds) ≡ false
of_sort ds s e = (or_parts (list_any (is_reserved s) (names_in s ds)) (repeats (names_in s ds)) e).1

pub sort_once : (ds : List Decl) → declares_twice ds ≡ false → (s : Sort) → repeats (names_in s ds) ≡ false
sort_once ds e s = of_sort ds s (by s)
  where
    r : Sort → Bool
    r = repeats_in ds

    t1 : (r HeaderType ≡ false) × ((r Instance || (r Parse || (r Action || (r Table || (r AList || (r Calculation || (r Object || false))))))) ≡ false)
    t1 = or_parts (r HeaderType) _ (tested ds e).sorts

    t2 : (r Instance ≡ false) × ((r Parse || (r Action || (r Table || (r AList || (r Calculation || (r Object || false)))))) ≡ false)
    t2 = or_parts (r Instance) _ t1.1

    t3 : (r Parse ≡ false) × ((r Action || (r Table || (r AList || (r Calculation || (r Object || false))))) ≡ false)
    t3 = or_parts (r Parse) _ t2.1

    t4 : (r Action ≡ false) × ((r Table || (r AList || (r Calculation || (r Object || false)))) ≡ false)
    t4 = or_parts (r Action) _ t3.1

    t5 : (r Table ≡ false) × ((r AList || (r Calculation || (r Object || false))) ≡ false)
    t5 = or_parts (r Table) _ t4.1

    t6 : (r AList ≡ false) × ((r Calculation || (r Object || false)) ≡ false)
    t6 = or_parts (r AList) _ t5.1

    t7 : (r Calculation ≡ false) × ((r Object || false) ≡ false)
    t7 = or_parts (r Calculation) _ t6.1

    by : (s : Sort) → repeats_in ds s ≡ false
    by HeaderType = t1.0
    by Instance = t2.0
    by Parse = t3.0
    by Action = t4.0
    by Table = t5.0
    by AList = t6.0
    by Calculation = t7.0
    by Object = (or_parts (r Object) false t7.1).0

-- one sort

module _ (ds : List Decl) where
  from_sort : (s : Sort) (n : Name) (names : List Name) → IsNumbered ds s n → AreNumbered ds s names → has_name names n ≡ false → IsApartFrom (thing ds s n) (map (thing ds s) names)
  from_sort s n [] d es none = tt
  from_sort s n (m ∷ names) d es none =
      let both = or_parts (bytes_eq n m) (has_name names n) none in
      let differ : n ≢ m = λ same. true≢false (sym ((bytes_eq-Decides n m).1 same) ∙ both.0) in
      (one_sort ds s n m d es.0 differ, from_sort s n names d es.1 both.1)

  sort_behind : (s : Sort) (before names : List Name) → AreNumbered ds s names → repeats_behind before names ≡ false → AreAllApart (map (thing ds s) names)
  sort_behind s before [] es none = tt
  sort_behind s before (n ∷ names) es none =
      let both = or_parts (has_name before n) (repeats_behind (before ++ n ∷ []) names) none in
      (from_sort s n names es.0 es.1 (not_again (before ++ n ∷ []) names n (itself before n) both.1), sort_behind s (before ++ n ∷ []) names es.1 both.1)

  pub sort_apart : (s : Sort) → length ds ≤ 2 ^ 32 → declares_twice ds ≡ false → AreAllApart (things_of ds s)
  sort_apart s few once = sort_behind s [] (names_in s ds) (all_numbered ds s few) (sort_once ds once s)

  all_proper : (s : Sort) (names : List Name) → AreNumbered ds s names → AreProper (map (thing ds s) names)
  all_proper s [] es = tt
  all_proper s (n ∷ names) es = (proper ds s n es.0, all_proper s names es.1)

  pub sort_proper : (s : Sort) → length ds ≤ 2 ^ 32 → AreProper (things_of ds s)
  sort_proper s few = all_proper s (names_in s ds) (all_numbered ds s few)

  pub sort_names_once : (s : Sort) → length ds ≤ 2 ^ 32 → declares_twice ds ≡ false → repeats16 (map called (things_of ds s)) ≡ false
  sort_names_once s few once = called_once (things_of ds s) (sort_proper s few) (sort_apart s few once)

-- fields and parameters

test_at : {A : Type 0} (p : A → Bool) (xs : List A) (i : ℕ) (x : A) → list_any p xs ≡ false → slice_get xs i ≡ Some x → p x ≡ false
test_at p [] i x e f = cc
test_at p (y ∷ xs) zero x e f = let same : y ≡ x = cc in ap p (sym same) ∙ (or_parts (p y) (list_any p xs) e).0
test_at p (y ∷ xs) (suc i) x e f = test_at p xs i x (or_parts (p y) (list_any p xs) e).1 f

pub fields_tested : (ds : List Decl) → declares_twice ds ≡ false → (type : Name) (t : HeaderTypeTree) → type_of ds type ≡ Some t → repeats (map field_name t.fields) ≡ false
fields_tested ds e type t f = by (number_of HeaderType ds type) f
  where
    by : (o : Option ℕ) → option_and_then (slice_get (types ds)) o ≡ Some t → has_field_twice t ≡ false
    by None g = cc
    by (Some i) g = test_at has_field_twice (types ds) i t (tested ds e).fields g
