-- The new names of instances and of their fields differ.
use Rattle.std.proofs.Common.{◌≡◌, ◌≢◌, ℕ, zero, suc, ◌+◌, ◌<◌, ◌≤◌, ◌^◌, false, Option, Some, None, List, [], ◌∷◌, length, map, filter_map, get_or, refl, sym, ap, ◌∙◌, inl, inr, arith}
use Rattle.std.specs.Option.{option_map_or}
use Rattle.std.proofs.lemmas.Bool.{cases_order}
use Rattle.std.proofs.lemmas.List.{get_or-map, length-map}
use Rattle.p414_syntax.specs.declared.lexeme.Literal.{Literal}
use Rattle.p414_syntax.specs.declared.headers.Field.{Field}
use Rattle.p414_syntax.specs.declared.syntax.Decl.{Decl}
use Rattle.p414_syntax.specs.declared.syntax.Decl.TheVariants as decl
use Rattle.p414_syntax.specs.declared.syntax.Sort.TheVariants as sort
use Rattle.p414_syntax.specs.Views.{HeaderTypeTree}
use Rattle.p414_syntax.specs.Names.{Name, name_in, names_in, field_name, repeats}
use Rattle.p414_syntax.specs.Fields.{type_of}
use Rattle.agreement_of_meanings.specs.Shown.{name_of, fields_of, field_at, shown_at, nothing_shown, FieldsDiffer, NamesDiffer}
use Rattle.lower_laws_names.specs.Made.{Thing, called}
use Rattle.lower_laws_names.specs.NewNames.{thing, things_of, new_name, numbered_from, numbered, field_thing}
use Rattle.lower_laws_names.specs.Reaches.{IsProper, AreApart, AreProper, IsApartFrom, AreAllApart}
use Rattle.lower_laws_names.proofs.Things.{apart_differ}
use Rattle.lower_laws_names.proofs.Sorts.{turned}
use Rattle.lower_laws_names.proofs.Lists.{numbered_apart, numbered_proper, field_proper}
use Rattle.lower_laws_names.proofs.OneSort.{sort_apart, sort_proper, fields_tested}
use Rattle.lower_laws_names.specs.Instances.{named_from, type_fields, named_fields, shown_header, shown_in, shown_instances, HasNames}

-- things of a list by their places

proper_at : (xs : List Thing) (k : ℕ) (d : Thing) → AreProper xs → k < length xs → IsProper (get_or xs k d)
proper_at [] k d p lt = absurd (omega arith)
proper_at (x ∷ xs) zero d p lt = p.0
proper_at (x ∷ xs) (suc k) d p lt = proper_at xs k d p.1 (omega arith)

apart_from_at : (x : Thing) (ys : List Thing) (k : ℕ) (d : Thing) → IsApartFrom x ys → k < length ys → AreApart x (get_or ys k d)
apart_from_at x [] k d a lt = absurd (omega arith)
apart_from_at x (y ∷ ys) zero d a lt = a.0
apart_from_at x (y ∷ ys) (suc k) d a lt = apart_from_at x ys k d a.1 (omega arith)

apart_at : (xs : List Thing) (j k : ℕ) (d : Thing) → AreAllApart xs → j < k → k < length xs → AreApart (get_or xs j d) (get_or xs k d)
apart_at [] j k d a lt below = absurd (omega arith)
apart_at (x ∷ xs) j zero d a lt below = absurd (omega arith)
apart_at (x ∷ xs) zero (suc k) d a lt below = apart_from_at x xs k d a.0 (omega arith)
apart_at (x ∷ xs) (suc j) (suc k) d a lt below = apart_at xs j k d a.1 (omega arith) (omega arith)

abbrev pub no_thing : Thing
no_thing = record { letter = 0; number = 0; name = []; stays = false }

pub places_differ : (xs : List Thing) (j k : ℕ) → AreProper xs → AreAllApart xs → j < length xs → k < length xs → j ≢ k
    → called (get_or xs j no_thing) ≢ called (get_or xs k no_thing)
places_differ xs j k p a below under differ =
    let one = proper_at xs j no_thing p below in
    let other = proper_at xs k no_thing p under in
    elim (cases_order j k) [
      | inl same ↦ absurd (differ same)
      | inr (inl lt) ↦ apart_differ (get_or xs j no_thing) (get_or xs k no_thing) one other (apart_at xs j k no_thing a lt under)
      | inr (inr lt) ↦ apart_differ (get_or xs j no_thing) (get_or xs k no_thing) one other (turned (get_or xs k no_thing) (get_or xs j no_thing) (apart_at xs k j no_thing a lt below))
    ]

-- fields

called_at : (number : ℕ) (fields : List Field) (k : ℕ) → k < length (named_from number fields)
    → (field_at (named_from number fields) k).called ≡ called (get_or (numbered_from field_thing number (map field_name fields)) k no_thing)
called_at number [] k lt = absurd (omega arith)
called_at number (f ∷ fields) zero lt = refl
called_at number (f ∷ fields) (suc k) lt = called_at (number + 1) fields k (omega arith)

count_named : (number : ℕ) (fields : List Field) → length (numbered_from field_thing number (map field_name fields)) ≡ length (named_from number fields)
count_named number [] = refl
count_named number (f ∷ fields) = ap suc (count_named (number + 1) fields)

fields_differ : (fields : List Field) → repeats (map field_name fields) ≡ false → length fields ≤ 2 ^ 32 → FieldsDiffer (named_from 0 fields)
fields_differ fields once few j k below under differ same =
    let xs : List Thing = numbered field_thing (map field_name fields) in
    let count = count_named 0 fields in
    let p : AreProper xs = numbered_proper field_thing field_proper (map field_name fields) (omega (arith, length-map fields field_name)) in
    let a : AreAllApart xs = numbered_apart field_thing (record { number = λ i n. refl; name = λ i n. refl }) (map field_name fields) once in
    places_differ xs j k p a (omega arith) (omega arith) differ (sym (called_at 0 fields j below) ∙ (same ∙ called_at 0 fields k under))

no_fields_differ : FieldsDiffer []
no_fields_differ j k below under differ same = absurd (omega arith)

module _ (ds : List Decl) (h : HasNames ds) where
  type_fields_differ : (type : Name) → FieldsDiffer (named_fields ds type)
  type_fields_differ type = by (type_of ds type) refl
    where
      by : (o : Option HeaderTypeTree) → type_of ds type ≡ o → FieldsDiffer (option_map_or type_fields o [])
      by None e = no_fields_differ
      by (Some t) e = fields_differ t.fields (fields_tested ds h.once type t e) (h.few_fields type t e)

  header_fields : (type name : Name) (size : Option Literal) → FieldsDiffer (fields_of (shown_header ds type name size))
  header_fields type name None = type_fields_differ type
  header_fields type name (Some n) = type_fields_differ type

  each_fields : (es : List Decl) (k : ℕ) → k < length (filter_map (shown_in ds) es) → FieldsDiffer (fields_of (shown_at (filter_map (shown_in ds) es) k))
  each_fields [] k lt = absurd (omega arith)
  each_fields (decl.Header x ∷ es) zero lt = header_fields x.header_type x.name x.size
  each_fields (decl.Header x ∷ es) (suc k) lt = each_fields es k (omega arith)
  each_fields (decl.Metadata x ∷ es) zero lt = type_fields_differ x.header_type
  each_fields (decl.Metadata x ∷ es) (suc k) lt = each_fields es k (omega arith)
  each_fields (d ∷ es) k lt = each_fields es k lt

  -- instances

  header_name : (type name : Name) (size : Option Literal) → name_of (shown_header ds type name size) ≡ new_name ds sort.Instance name
  header_name type name None = refl
  header_name type name (Some n) = refl

  pub shown_names : (es : List Decl) → map name_of (filter_map (shown_in ds) es) ≡ map (new_name ds sort.Instance) (filter_map (name_in sort.Instance) es)
  shown_names [] = refl
  shown_names (decl.Header x ∷ es) = rw (header_name x.header_type x.name x.size, shown_names es) refl
  shown_names (decl.Metadata x ∷ es) = ap (λ (ns : List Name). new_name ds sort.Instance x.name ∷ ns) (shown_names es)
  shown_names (d ∷ es) = shown_names es

  pub shown_count : length (shown_instances ds) ≡ length (names_in sort.Instance ds)
  shown_count =
      sym (length-map (shown_instances ds) name_of) ∙ (ap (λ (ns : List Name). length ns) (shown_names ds) ∙ length-map (names_in sort.Instance ds) (new_name ds sort.Instance))

  -- the new name at a place is that of the name which is declared there
  pub shown_name : (k : ℕ) → k < length (shown_instances ds) → name_of (shown_at (shown_instances ds) k) ≡ new_name ds sort.Instance (get_or (names_in sort.Instance ds) k [])
  shown_name k lt =
      sym (get_or-map name_of (shown_instances ds) k nothing_shown [] lt)
      ∙ (ap (λ (ns : List Name). get_or ns k []) (shown_names ds)
      ∙ get_or-map (new_name ds sort.Instance) (names_in sort.Instance ds) k [] [] (omega (arith, shown_count)))

  thing_name : (k : ℕ) → k < length (shown_instances ds) → called (get_or (things_of ds sort.Instance) k no_thing) ≡ new_name ds sort.Instance (get_or (names_in sort.Instance ds) k [])
  thing_name k lt = ap called (get_or-map (thing ds sort.Instance) (names_in sort.Instance ds) k [] no_thing (omega (arith, shown_count)))

  instances_differ : (j k : ℕ) → j < length (shown_instances ds) → k < length (shown_instances ds) → j ≢ k → name_of (shown_at (shown_instances ds) j) ≢ name_of (shown_at (shown_instances ds) k)
  instances_differ j k below under differ same =
      let count : length (things_of ds sort.Instance) ≡ length (shown_instances ds) = length-map (names_in sort.Instance ds) (thing ds sort.Instance) ∙ sym shown_count in
      let left = shown_name j below ∙ sym (thing_name j below) in
      let right = shown_name k under ∙ sym (thing_name k under) in
      places_differ (things_of ds sort.Instance) j k (sort_proper ds sort.Instance h.few) (sort_apart ds sort.Instance h.few h.once) (omega arith) (omega arith) differ (sym left ∙ (same ∙ right))

  pub names_differ : NamesDiffer (shown_instances ds)
  names_differ = record {
    instances = λ j k below under differ kind. instances_differ j k below under differ;
    fields = λ k lt. each_fields ds k lt;
  }
