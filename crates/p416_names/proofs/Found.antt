-- The first of those with a name, found by its place.
use Rattle.std.proofs.Common.{◌≡◌, inl, inr, ℕ, suc, ◌+◌, ◌<◌, ◌≤◌, Bool, true, false, not, ◌||◌, cond, nat_eq, nat_lt, Option, Some, None, unwrap_or, List, [], ◌∷◌, ◌++◌, length, map, refl, sym, ap, ◌∙◌, arith, filter, flat_map, slice_get}
use Rattle.std.specs.Prelude.{position, option_and_then}
use Rattle.std.specs.Option.{option_map, option_map_or}
use Rattle.std.specs.List.{position_or_len}
use Rattle.std.specs.Str.{bytes_eq}
use Rattle.std.proofs.lemmas.Bool.{cases_eq, ne_eqb, lt-ltb, ltb-true}
use Rattle.std.proofs.lemmas.List.{length-map}
use Rattle.std.proofs.lemmas.List.Quantifiers.{position-Some}
use Rattle.std.proofs.lemmas.Option.{slice_get_cases}
use Rattle.p416_syntax.specs.declared.program.Decl16.{Decl16}
use Rattle.p416_syntax.specs.declared.program.Decl16.TheVariants as decl
use Rattle.name_numbers.specs.Names.{find_name}
use Rattle.p416_syntax.specs.Names.{Name, has_name}
use Rattle.p416_syntax.specs.Kinds.{Kind}
use Rattle.p416_syntax.specs.BuiltIn.{built_in, standard_layout}
use Rattle.p416_syntax.specs.Scopes.{Sort, Known, FieldKind, Layout, a_function, undeclared, known, sort_in, fields_in, kind_of_type}
use Rattle.p416_syntax.specs.Expressions.{field_kind_in}
use Rattle.p416_syntax.specs.Declarations.{top_name, top_names, layouts_of, field_name, member_name, bit_field, struct_field, layout_in}
use Rattle.p416_syntax.specs.Unknown.{declared_name}
use Rattle.p416_syntax.specs.declared.lexeme.Literal16.{Literal16}
use Rattle.p416_syntax.specs.declared.parts.Type16.TheVariants.{Named}
use Rattle.p416_names.specs.Seen.{kind_of_named}
use Rattle.p416_names.specs.internal.Tables.{is_type, field_names, fields_of, bits_of_field, kind_of_field, kind_at, field_in, field_at, fields_at, sort_of_decl, sort_at, declared_sort}

-- equal either way round

nat_either : (x y : ℕ) → nat_eq x y ≡ nat_eq y x
nat_either x y =
    elim (cases_eq x y) [
      | inl same ↦ rw same refl
      | inr apart ↦ rw (ne_eqb x y apart, ne_eqb y x (λ same. apart (sym same))) refl
    ]

pub bytes_either : (xs ys : List ℕ) → bytes_eq xs ys ≡ bytes_eq ys xs
bytes_either [] [] = refl
bytes_either [] (y ∷ ys) = refl
bytes_either (x ∷ xs) [] = refl
bytes_either (x ∷ xs) (y ∷ ys) = rw (nat_either x y, bytes_either xs ys) refl

-- the place of the first that passes, from the front on

same_order : (a b c d : ℕ) → ((a < b) → c < d) → ((c < d) → a < b) → nat_lt a b ≡ nat_lt c d
same_order a b c d f g = by_value (nat_lt a b) refl where
  by_value : (t : Bool) → nat_lt a b ≡ t → nat_lt a b ≡ nat_lt c d
  by_value true e = e ∙ sym (lt-ltb _ _ (f (ltb-true _ _ e)))
  by_value false e = e ∙ by_other (nat_lt c d) refl where
    by_other : (u : Bool) → nat_lt c d ≡ u → false ≡ nat_lt c d
    by_other true h = absurd (cc (e, lt-ltb _ _ (g (ltb-true _ _ h))))
    by_other false h = sym h

suc_of : (b : Bool) (n : ℕ) → cond b (Some (suc n)) None ≡ option_map suc (cond b (Some n) None)
suc_of true n = refl
suc_of false n = refl

position_past : {X : Type 0} (p : X → Bool) (x : X) (xs : List X) → p x ≡ false → position p (x ∷ xs) ≡ option_map suc (position p xs)
position_past p x xs e =
    let n : position_or_len p (x ∷ xs) ≡ suc (position_or_len p xs) = ap (λ b. cond (not b) (1 + position_or_len p xs) 0) e ∙ more (position_or_len p xs) in
    ap (λ k. cond (nat_lt k (suc (length xs))) (Some k) None) n
    ∙ (ap (λ b. cond b (Some (suc (position_or_len p xs))) None) (same_order (suc (position_or_len p xs)) (suc (length xs)) (position_or_len p xs) (length xs) (λ h. omega arith) (λ h. omega arith))
    ∙ suc_of (nat_lt (position_or_len p xs) (length xs)) (position_or_len p xs))
  where
    more : (m : ℕ) → 1 + m ≡ suc m
    more m = omega arith

position_here : {X : Type 0} (p : X → Bool) (x : X) (xs : List X) → p x ≡ true → position p (x ∷ xs) ≡ Some 0
position_here p x xs e =
    let n : position_or_len p (x ∷ xs) ≡ 0 = ap (λ b. cond (not b) (1 + position_or_len p xs) 0) e in
    ap (λ k. cond (nat_lt k (suc (length xs))) (Some k) None) n
    ∙ ap (λ b. cond b (Some 0) None) (lt-ltb 0 (suc (length xs)) (omega arith))

-- the first of these with a name

abbrev pub first_named : {X : Type 0} → (X → Name) → List X → Name → Option X
first_named called xs text = option_and_then (slice_get xs) (find_name (map called xs) text)

next_place : {X : Type 0} (x : X) (xs : List X) (o : Option ℕ) → option_and_then (slice_get (x ∷ xs)) (option_map suc o) ≡ option_and_then (slice_get xs) o
next_place x xs None = refl
next_place x xs (Some n) = refl

first_by : {X : Type 0} (called : X → Name) (x : X) (xs : List X) (text : Name) (b : Bool) → bytes_eq text (called x) ≡ b → first_named called (x ∷ xs) text ≡ cond b (Some x) (first_named called xs text)
first_by called x xs text true is = ap (option_and_then (slice_get (x ∷ xs))) (position_here (bytes_eq text) (called x) (map called xs) is)
first_by called x xs text false is =
    ap (option_and_then (slice_get (x ∷ xs))) (position_past (bytes_eq text) (called x) (map called xs) is)
    ∙ next_place x xs (find_name (map called xs) text)

pub first_step : {X : Type 0} (called : X → Name) (x : X) (xs : List X) (text : Name) → first_named called (x ∷ xs) text ≡ cond (bytes_eq (called x) text) (Some x) (first_named called xs text)
first_step called x xs text = first_by called x xs text (bytes_eq (called x) text) (bytes_either text (called x))

map_within : {X Y : Type 0} (f : X → Y) (xs : List X) (o : Option ℕ) → option_and_then (λ place. option_map f (slice_get xs place)) o ≡ option_map f (option_and_then (slice_get xs) o)
map_within f xs None = refl
map_within f xs (Some n) = refl

-- what a name is declared as at the top

sort_step : (b : Bool) (d : Decl16) (o : Option Decl16) (other : Sort) → cond b (sort_of_decl d) (unwrap_or (option_map sort_of_decl o) other) ≡ unwrap_or (option_map sort_of_decl (cond b (Some d) o)) other
sort_step true d o other = refl
sort_step false d o other = refl

sort_first : (ds : List Decl16) (rest : List Known) (text : Name) → sort_in (map top_name ds ++ rest) text ≡ unwrap_or (option_map sort_of_decl (first_named declared_name ds text)) (sort_in rest text)
sort_first [] rest text = refl
sort_first (d ∷ ds) rest text =
    ap (λ s. cond (bytes_eq (declared_name d) text) (sort_of_decl d) s) (sort_first ds rest text)
    ∙ (sort_step (bytes_eq (declared_name d) text) d (first_named declared_name ds text) (sort_in rest text)
    ∙ ap (λ o. unwrap_or (option_map sort_of_decl o) (sort_in rest text)) (sym (first_step declared_name d ds text)))

pub sort_declared : (ds : List Decl16) (rest : List Known) (text : Name) → sort_in (map top_name ds ++ rest) text ≡ unwrap_or (declared_sort ds text) (sort_in rest text)
sort_declared ds rest text = sort_first ds rest text ∙ ap (λ o. unwrap_or o (sort_in rest text)) (sym (map_within sort_of_decl ds (find_name (map declared_name ds) text)))

pub declared_there : (ds : List Decl16) (names : List Name) (text : Name) (p : ℕ) → names ≡ map declared_name ds → find_name names text ≡ Some p → sort_at ds p ≡ declared_sort ds text
declared_there ds names text p are is = ap (option_and_then (sort_at ds)) (sym is ∙ ap (λ ns. find_name ns text) are)

pub built_in_past : (ds : List Decl16) (text : Name) → declared_sort ds text ≡ None → sort_in built_in text ≡ sort_in (top_names ds) text
built_in_past ds text past = sym (sort_declared ds built_in text ∙ ap (λ o. unwrap_or o (sort_in built_in text)) past)

-- a type by its name, and the size of a stack
pub named_type : (names : List Known) (text : Name) (size : Option Literal16) → kind_of_named (sort_in names text) size ≡ kind_of_type names (Named text size)
named_type names text None = refl
named_type names text (Some size) = refl

pub declared_past : (ds : List Decl16) (text : Name) (s : Sort) → declared_sort ds text ≡ Some s → s ≡ sort_in (top_names ds) text
declared_past ds text s is = sym (sort_declared ds built_in text ∙ ap (λ o. unwrap_or o (sort_in built_in text)) is)

-- functions

function_step : (b c : Bool) → cond b a_function (cond c a_function undeclared) ≡ cond (b || c) a_function undeclared
function_step true c = refl
function_step false c = refl

pub function_or_not : (names : List Name) (text : Name) → sort_in (map (known a_function) names) text ≡ cond (has_name names text) a_function undeclared
function_or_not [] text = refl
function_or_not (name ∷ names) text =
    ap (λ s. cond (bytes_eq name text) a_function s) (function_or_not names text)
    ∙ (function_step (bytes_eq name text) (has_name names text)
    ∙ ap (λ b. cond (b || has_name names text) a_function undeclared) (bytes_either name text))

-- fields

module _ {X : Type 0} (called : X → Name) (kind : X → Kind) (field : X → FieldKind) (named : (x : X) → (field x).called ≡ called x) (is : (x : X) → (field x).kind ≡ kind x) where
  kind_step : (b : Bool) (x : X) (o : Option X) → cond b (Some ((field x).kind)) (option_map kind o) ≡ option_map kind (cond b (Some x) o)
  kind_step true x o = ap Some (is x)
  kind_step false x o = refl

  pub field_first : (xs : List X) (word : Name) → field_kind_in (map field xs) word ≡ option_map kind (first_named called xs word)
  field_first [] word = refl
  field_first (x ∷ xs) word =
      ap (λ o. cond (bytes_eq (field x).called word) (Some (field x).kind) o) (field_first xs word)
      ∙ (ap (λ name. cond (bytes_eq name word) (Some (field x).kind) (option_map kind (first_named called xs word))) (named x)
      ∙ (kind_step (bytes_eq (called x) word) x (first_named called xs word)
      ∙ ap (option_map kind) (sym (first_step called x xs word))))

pub field_at_name : (names : List Known) (d : Decl16) (word : Name) → field_kind_in (fields_of names d) word ≡ option_and_then (kind_at names d) (find_name (field_names d) word)
field_at_name names (decl.Header h) word =
    field_first field_name bits_of_field bit_field (λ f. refl) (λ f. refl) h.fields word ∙ sym (map_within bits_of_field h.fields (find_name (map field_name h.fields) word))
field_at_name names (decl.Struct x) word =
    field_first member_name (kind_of_field names) (struct_field names) (λ f. refl) (λ f. refl) x.fields word
    ∙ sym (map_within (kind_of_field names) x.fields (find_name (map member_name x.fields) word))
field_at_name names (decl.Instance notes i) word = refl
field_at_name names (decl.Parser p) word = refl
field_at_name names (decl.Control c) word = refl

-- types

fields_step : (names : List Known) (b : Bool) (d : Decl16) (o : Option Decl16) (other : List FieldKind)
    → cond b (fields_of names d) (option_map_or (fields_of names) o other) ≡ option_map_or (fields_of names) (cond b (Some d) o) other
fields_step names true d o other = refl
fields_step names false d o other = refl

fields_more : (names : List Known) (d : Decl16) (ds : List Decl16) (rest : List Layout) (text : Name)
    → fields_in (flat_map (layout_in names) ds ++ rest) text ≡ option_map_or (fields_of names) (first_named declared_name (filter is_type ds) text) (fields_in rest text)
    → cond (bytes_eq (declared_name d) text) (fields_of names d) (fields_in (flat_map (layout_in names) ds ++ rest) text) ≡ option_map_or (fields_of names) (first_named declared_name (d ∷ filter is_type ds) text) (fields_in rest text)
fields_more names d ds rest text is =
    ap (λ fs. cond (bytes_eq (declared_name d) text) (fields_of names d) fs) is
    ∙ (fields_step names (bytes_eq (declared_name d) text) d (first_named declared_name (filter is_type ds) text) (fields_in rest text)
    ∙ ap (λ o. option_map_or (fields_of names) o (fields_in rest text)) (sym (first_step declared_name d (filter is_type ds) text)))

pub fields_first : (names : List Known) (ds : List Decl16) (rest : List Layout) (text : Name) → fields_in (flat_map (layout_in names) ds ++ rest) text ≡ option_map_or (fields_of names) (first_named declared_name (filter is_type ds) text) (fields_in rest text)
fields_first names [] rest text = refl
fields_first names (decl.Header h ∷ ds) rest text = fields_more names (decl.Header h) ds rest text (fields_first names ds rest text)
fields_first names (decl.Struct x ∷ ds) rest text = fields_more names (decl.Struct x) ds rest text (fields_first names ds rest text)
fields_first names (decl.Instance notes i ∷ ds) rest text = fields_first names ds rest text
fields_first names (decl.Parser p ∷ ds) rest text = fields_first names ds rest text
fields_first names (decl.Control c ∷ ds) rest text = fields_first names ds rest text

-- the type at the place that was found, and what is built in where none was

place_found : {X : Type 0} (called : X → Name) (xs : List X) (text : Name) (p : ℕ) → find_name (map called xs) text ≡ Some p → (x : X) × (slice_get xs p ≡ Some x)
place_found {X} called xs text p e =
    let within : p < length (map called xs) = (position-Some (bytes_eq text) (map called xs) p [] e).0 in
    let short : length (map called xs) ≡ length xs = length-map xs called in
    elim (slice_get_cases xs p).1 [
      | inl found ↦ (found.0, found.2)
      | inr past ↦ let shorter : length xs ≤ p = past.0 in let never : ⊥ = omega arith in absurd never
    ]

pub field_there : (ds : List Decl16) (of word : Name) (p : ℕ) → find_name (map declared_name (filter is_type ds)) of ≡ Some p → field_at ds p word ≡ field_kind_in (fields_in (layouts_of ds) of) word
field_there ds of word p e =
    let found = place_found declared_name (filter is_type ds) of p e in
    let first : first_named declared_name (filter is_type ds) of ≡ Some found.0 = ap (option_and_then (slice_get (filter is_type ds))) e ∙ found.1 in
    ap (option_and_then (field_in (top_names ds) word)) found.1
    ∙ sym (ap (λ fs. field_kind_in fs word) (fields_first (top_names ds) ds (standard_layout ∷ []) of ∙ ap (λ o. option_map_or (fields_of (top_names ds)) o (fields_in (standard_layout ∷ []) of)) first))

pub field_past : (ds : List Decl16) (of word : Name) → find_name (map declared_name (filter is_type ds)) of ≡ None → field_kind_in (fields_in (standard_layout ∷ []) of) word ≡ field_kind_in (fields_in (layouts_of ds) of) word
field_past ds of word e =
    sym (ap (λ fs. field_kind_in fs word) (fields_first (top_names ds) ds (standard_layout ∷ []) of ∙ ap (λ o. option_map_or (fields_of (top_names ds)) (option_and_then (slice_get (filter is_type ds)) o) (fields_in (standard_layout ∷ []) of)) e))

pub fields_there : (ds : List Decl16) (of : Name) (p : ℕ) → find_name (map declared_name (filter is_type ds)) of ≡ Some p → fields_at ds p ≡ fields_in (layouts_of ds) of
fields_there ds of p e =
    let found = place_found declared_name (filter is_type ds) of p e in
    let first : first_named declared_name (filter is_type ds) of ≡ Some found.0 = ap (option_and_then (slice_get (filter is_type ds))) e ∙ found.1 in
    ap (λ o. option_map_or (fields_of (top_names ds)) o []) found.1
    ∙ sym (fields_first (top_names ds) ds (standard_layout ∷ []) of ∙ ap (λ o. option_map_or (fields_of (top_names ds)) o (fields_in (standard_layout ∷ []) of)) first)

pub fields_past : (ds : List Decl16) (of : Name) → find_name (map declared_name (filter is_type ds)) of ≡ None → fields_in (standard_layout ∷ []) of ≡ fields_in (layouts_of ds) of
fields_past ds of e =
    sym (fields_first (top_names ds) ds (standard_layout ∷ []) of ∙ ap (λ o. option_map_or (fields_of (top_names ds)) (option_and_then (slice_get (filter is_type ds)) o) (fields_in (standard_layout ∷ []) of)) e)
