-- The first declaration with a name, and the fields of the type that it declares.
use Rattle.std.proofs.Common.{◌≡◌, ◌⊎◌, inl, inr, ℕ, zero, suc, ◌+◌, ◌<◌, Bool, true, false, not, ◌||◌, cond, nat_lt, Some, None, List, [], ◌∷◌, ◌++◌, length, map, refl, sym, ap, ◌∙◌, subst, arith, flat_map, slice_get}
use Rattle.std.specs.Prelude.{position}
use Rattle.std.specs.Option.{option_map}
use Rattle.std.specs.List.{position_or_len}
use Rattle.std.specs.Str.{bytes_eq}
use Rattle.std.proofs.lemmas.Bool.{lt-ltb, ltb-true}
use Rattle.std.proofs.lemmas.Slice.Eq.{bytes_eq-Decides}
use Rattle.p416_syntax.specs.declared.program.Decl16.{Decl16}
use Rattle.p416_syntax.specs.declared.program.Decl16.TheVariants as decl
use Rattle.p416_syntax.specs.Names.{Name, has_name, repeats}
use Rattle.p416_syntax.specs.BuiltIn.{built_in, standard_layout, standard_name}
use Rattle.p416_syntax.specs.Scopes.{Known, called_of, Layout, sort_in, fields_in}
use Rattle.p416_syntax.specs.Declarations.{top_name, top_names, layouts_of, layout_in, bit_field, struct_field}
use Rattle.p416_syntax.specs.Unknown.{declared_name, declaration_number, declares_twice}
use Rattle.p416_names.specs.internal.Tables.{fields_of}
use Rattle.p416_names.proofs.Found.{bytes_either}

-- the place of the first that passes, from the front on

same_order : (a b c d : ℕ) → ((a < b) → c < d) → ((c < d) → a < b) → nat_lt a b ≡ nat_lt c d
same_order a b c d f g = by_value (nat_lt a b) refl where
  by_value : (t : Bool) → nat_lt a b ≡ t → nat_lt a b ≡ nat_lt c d
  by_value true e = e ∙ sym (lt-ltb _ _ (f (ltb-true _ _ e)))
  by_value false e = e ∙ by_other (nat_lt c d) refl where
    by_other : (u : Bool) → nat_lt c d ≡ u → false ≡ nat_lt c d
    by_other true h = absurd (cc (e, lt-ltb _ _ (g (ltb-true _ _ h))))
    by_other false h = sym h

suc_of : (b : Bool) (n : ℕ) → cond b (Some (suc n)) None ≡ option_map suc (cond b (Some n) None)
suc_of true n = refl
suc_of false n = refl

position_past : {X : Type 0} (p : X → Bool) (x : X) (xs : List X) → p x ≡ false → position p (x ∷ xs) ≡ option_map suc (position p xs)
position_past p x xs e =
    let n : position_or_len p (x ∷ xs) ≡ suc (position_or_len p xs) = ap (λ b. cond (not b) (1 + position_or_len p xs) 0) e ∙ more (position_or_len p xs) in
    ap (λ k. cond (nat_lt k (suc (length xs))) (Some k) None) n
    ∙ (ap (λ b. cond b (Some (suc (position_or_len p xs))) None) (same_order (suc (position_or_len p xs)) (suc (length xs)) (position_or_len p xs) (length xs) (λ h. omega arith) (λ h. omega arith))
    ∙ suc_of (nat_lt (position_or_len p xs) (length xs)) (position_or_len p xs))
  where
    more : (m : ℕ) → 1 + m ≡ suc m
    more m = omega arith

position_here : {X : Type 0} (p : X → Bool) (x : X) (xs : List X) → p x ≡ true → position p (x ∷ xs) ≡ Some 0
position_here p x xs e =
    let n : position_or_len p (x ∷ xs) ≡ 0 = ap (λ b. cond (not b) (1 + position_or_len p xs) 0) e in
    ap (λ k. cond (nat_lt k (suc (length xs))) (Some k) None) n
    ∙ ap (λ b. cond b (Some 0) None) (lt-ltb 0 (suc (length xs)) (omega arith))

-- either half of a test that fails

left_fails : (a b : Bool) → (a || b) ≡ false → a ≡ false
left_fails true b e = e
left_fails false b e = refl

right_fails : (a b : Bool) → (a || b) ≡ false → b ≡ false
right_fails true b e = absurd (never e) where
  never : true ≡ false → ⊥
  never h = cc
right_fails false b e = e

-- a declaration has the name, and no earlier one
pub record IsDeclared (ds : List Decl16) (rest : List Known) (text : Name) : Type 0 where
  pub number : ℕ
  pub of : Decl16
  pub at : declaration_number ds text ≡ Some number
  pub there : slice_get ds number ≡ Some of
  pub named : bytes_eq text (declared_name of) ≡ true
  pub means : sort_in (map top_name ds ++ rest) text ≡ (top_name of).sort

-- no declaration has it
pub record IsUndeclared (ds : List Decl16) (rest : List Known) (text : Name) : Type 0 where
  pub none : declaration_number ds text ≡ None
  pub means : sort_in (map top_name ds ++ rest) text ≡ sort_in rest text
  pub fields : (names : List Known) (layouts : List Layout) → fields_in (flat_map (layout_in names) ds ++ layouts) text ≡ fields_in layouts text

-- the fields of a type behind a declaration of another name, and in front of it
layouts_past : (names : List Known) (d : Decl16) (ds : List Decl16) (layouts : List Layout) (text : Name) → bytes_eq (declared_name d) text ≡ false → fields_in (flat_map (layout_in names) (d ∷ ds) ++ layouts) text ≡ fields_in (flat_map (layout_in names) ds ++ layouts) text
layouts_past names (decl.Header h) ds layouts text e = ap (λ b. cond b (map bit_field h.fields) (fields_in (flat_map (layout_in names) ds ++ layouts) text)) e
layouts_past names (decl.Struct x) ds layouts text e = ap (λ b. cond b (map (struct_field names) x.fields) (fields_in (flat_map (layout_in names) ds ++ layouts) text)) e
layouts_past names (decl.Instance notes i) ds layouts text e = refl
layouts_past names (decl.Parser p) ds layouts text e = refl
layouts_past names (decl.Control c) ds layouts text e = refl

find_step : (d : Decl16) (ds : List Decl16) (rest : List Known) (text : Name) → IsDeclared ds rest text ⊎ IsUndeclared ds rest text → (b : Bool) → bytes_eq text (declared_name d) ≡ b → IsDeclared (d ∷ ds) rest text ⊎ IsUndeclared (d ∷ ds) rest text
find_step d ds rest text found true e = inl (record {
  number = 0;
  of = d;
  at = position_here (bytes_eq text) (declared_name d) (map declared_name ds) e;
  there = refl;
  named = e;
  means = ap (λ b. cond b (top_name d).sort (sort_in (map top_name ds ++ rest) text)) (bytes_either (declared_name d) text ∙ e);
})
find_step d ds rest text (inl f) false e = inl (record {
  number = suc f.number;
  of = f.of;
  at = position_past (bytes_eq text) (declared_name d) (map declared_name ds) e ∙ ap (option_map suc) f.at;
  there = f.there;
  named = f.named;
  means = ap (λ b. cond b (top_name d).sort (sort_in (map top_name ds ++ rest) text)) (bytes_either (declared_name d) text ∙ e) ∙ f.means;
})
find_step d ds rest text (inr u) false e = inr (record {
  none = position_past (bytes_eq text) (declared_name d) (map declared_name ds) e ∙ ap (option_map suc) u.none;
  means = ap (λ b. cond b (top_name d).sort (sort_in (map top_name ds ++ rest) text)) (bytes_either (declared_name d) text ∙ e) ∙ u.means;
  fields = λ names layouts. layouts_past names d ds layouts text (bytes_either (declared_name d) text ∙ e) ∙ u.fields names layouts;
})

pub finds : (ds : List Decl16) (rest : List Known) (text : Name) → IsDeclared ds rest text ⊎ IsUndeclared ds rest text
finds [] rest text = inr (record { none = refl; means = refl; fields = λ names layouts. refl })
finds (d ∷ ds) rest text = find_step d ds rest text (finds ds rest text) (bytes_eq text (declared_name d)) refl

-- where no name stands twice

names_are : (ds : List Decl16) (rest : List Known) → map called_of (map top_name ds ++ rest) ≡ map declared_name ds ++ map called_of rest
names_are [] rest = refl
names_are (d ∷ ds) rest = ap (λ l. declared_name d ∷ l) (names_are ds rest)

-- a name that stands behind isn't one of these
absent : (names : List Known) (ds : List Decl16) (layouts : List Layout) (others : List Name) (text : Name) → has_name (map declared_name ds ++ others) text ≡ false
    → (fields_in (flat_map (layout_in names) ds ++ layouts) text ≡ fields_in layouts text) × (has_name others text ≡ false)
absent names [] layouts others text e = (refl, e)
absent names (d ∷ ds) layouts others text e =
    let more = absent names ds layouts others text (right_fails (bytes_eq text (declared_name d)) (has_name (map declared_name ds ++ others) text) e) in (
      layouts_past names d ds layouts text (bytes_either (declared_name d) text ∙ left_fails (bytes_eq text (declared_name d)) (has_name (map declared_name ds ++ others) text) e) ∙ more.0,
      more.1,
    )

differs : (text : Name) (ds : List Decl16) (others : List Name) (i : ℕ) (d : Decl16) → slice_get ds i ≡ Some d → has_name (map declared_name ds ++ others) text ≡ false → bytes_eq text (declared_name d) ≡ false
differs text [] others i d there e = absurd (never there) where
  never : None ≡ Some d → ⊥
  never h = cc
differs text (x ∷ ds) others zero d there e = subst (λ y. bytes_eq text (declared_name y) ≡ false) (some_is there) (left_fails (bytes_eq text (declared_name x)) (has_name (map declared_name ds ++ others) text) e) where
  some_is : Some x ≡ Some d → x ≡ d
  some_is h = cc
differs text (x ∷ ds) others (suc i) d there e = differs text ds others i d there (right_fails (bytes_eq text (declared_name x)) (has_name (map declared_name ds ++ others) text) e)

same_octets : (xs : List ℕ) → bytes_eq xs xs ≡ true
same_octets xs = (bytes_eq-Decides xs xs).1 refl

layout_here : (names : List Known) (d : Decl16) (ds : List Decl16) (layouts : List Layout) → fields_in (flat_map (layout_in names) ds ++ layouts) (declared_name d) ≡ [] → fields_in (flat_map (layout_in names) (d ∷ ds) ++ layouts) (declared_name d) ≡ fields_of names d
layout_here names (decl.Header h) ds layouts none = ap (λ b. cond b (map bit_field h.fields) (fields_in (flat_map (layout_in names) ds ++ layouts) h.name)) (same_octets h.name)
layout_here names (decl.Struct x) ds layouts none = ap (λ b. cond b (map (struct_field names) x.fields) (fields_in (flat_map (layout_in names) ds ++ layouts) x.name)) (same_octets x.name)
layout_here names (decl.Instance notes i) ds layouts none = none
layout_here names (decl.Parser p) ds layouts none = none
layout_here names (decl.Control c) ds layouts none = none

own_in : (names : List Known) (ds : List Decl16) (layouts : List Layout) (others : List Name) (i : ℕ) (d : Decl16) → slice_get ds i ≡ Some d → repeats (map declared_name ds ++ others) ≡ false → ((text : Name) → has_name others text ≡ false → fields_in layouts text ≡ [])
    → (fields_in (flat_map (layout_in names) ds ++ layouts) (declared_name d) ≡ fields_of names d) × (has_name others (declared_name d) ≡ false)
own_in names [] layouts others i d there once outside = absurd (never there) where
  never : None ≡ Some d → ⊥
  never h = cc
own_in names (x ∷ ds) layouts others zero d there once outside = subst (λ y. (fields_in (flat_map (layout_in names) (x ∷ ds) ++ layouts) (declared_name y) ≡ fields_of names y) × (has_name others (declared_name y) ≡ false)) (some_is there) here where
  some_is : Some x ≡ Some d → x ≡ d
  some_is h = cc

  here : (fields_in (flat_map (layout_in names) (x ∷ ds) ++ layouts) (declared_name x) ≡ fields_of names x) × (has_name others (declared_name x) ≡ false)
  here =
      let gone = absent names ds layouts others (declared_name x) (left_fails (has_name (map declared_name ds ++ others) (declared_name x)) (repeats (map declared_name ds ++ others)) once) in
      (layout_here names x ds layouts (gone.0 ∙ outside (declared_name x) gone.1), gone.1)
own_in names (x ∷ ds) layouts others (suc i) d there once outside =
    let more = own_in names ds layouts others i d there (right_fails (has_name (map declared_name ds ++ others) (declared_name x)) (repeats (map declared_name ds ++ others)) once) outside in
    let apart : bytes_eq (declared_name x) (declared_name d) ≡ false = differs (declared_name x) ds others i d there (left_fails (has_name (map declared_name ds ++ others) (declared_name x)) (repeats (map declared_name ds ++ others)) once) in
    (layouts_past names x ds layouts (declared_name d) apart ∙ more.0, more.1)

not_among : (names : List Name) (k : ℕ) (name text : Name) → slice_get names k ≡ Some name → has_name names text ≡ false → bytes_eq text name ≡ false
not_among [] k name text there e = absurd (never there) where
  never : None ≡ Some name → ⊥
  never h = cc
not_among (x ∷ names) zero name text there e = subst (λ y. bytes_eq text y ≡ false) (some_is there) (left_fails (bytes_eq text x) (has_name names text) e) where
  some_is : Some x ≡ Some name → x ≡ name
  some_is h = cc
not_among (x ∷ names) (suc k) name text there e = not_among names k name text there (right_fails (bytes_eq text x) (has_name names text) e)

standard_only : (text : Name) → has_name (map called_of built_in) text ≡ false → fields_in (standard_layout ∷ []) text ≡ []
standard_only text e = ap (λ b. cond b standard_layout.fields []) (bytes_either standard_name text ∙ not_among (map called_of built_in) 2 standard_name text refl e)

-- the fields of the type that a declaration declares are its own; and its name isn't built in

pub own_fields : (ds : List Decl16) (i : ℕ) (d : Decl16) → declares_twice ds ≡ false → slice_get ds i ≡ Some d → fields_in (layouts_of ds) (declared_name d) ≡ fields_of (top_names ds) d
own_fields ds i d once there = (own_in (top_names ds) ds (standard_layout ∷ []) (map called_of built_in) i d there (ap repeats (sym (names_are ds built_in)) ∙ once) standard_only).0

pub not_built_in : (ds : List Decl16) (i : ℕ) (d : Decl16) → declares_twice ds ≡ false → slice_get ds i ≡ Some d → has_name (map called_of built_in) (declared_name d) ≡ false
not_built_in ds i d once there = (own_in (top_names ds) ds (standard_layout ∷ []) (map called_of built_in) i d there (ap repeats (sym (names_are ds built_in)) ∙ once) standard_only).1

-- octets that are found equal are the same
pub same_name : (xs ys : List ℕ) → bytes_eq xs ys ≡ true → xs ≡ ys
same_name xs ys e = (bytes_eq-Decides xs ys).0 e
