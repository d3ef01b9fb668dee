-- Where no struct holds itself, as many structs within each other are counted as there are types.
use Rattle.std.proofs.Common.{◌≡◌, ◌⊎◌, inl, inr, ℕ, zero, suc, ◌+◌, ◌<◌, ◌≤◌, Bool, true, false, ◌&&◌, cond, nat_lt, Some, None, List, [], ◌∷◌, length, map, flat_map, sum_by, refl, sym, ap, ◌∙◌, subst, arith, slice_get}
use Rattle.std.specs.Prelude.{slice_index_or}
use Rattle.std.specs.Str.{bytes_eq}
use Rattle.std.proofs.lemmas.Bool.{lt-ltb, ltb-true}
use Rattle.std.proofs.lemmas.Bool.Decides.{nat_tests}
use Rattle.std.proofs.lemmas.List.{length-append}
use Rattle.digraph.specs.Graphs.{Among, IsEdge}
use Rattle.p416_syntax.specs.declared.parts.Struct16.{Struct16}
use Rattle.p416_syntax.specs.declared.program.Decl16.{Decl16}
use Rattle.p416_syntax.specs.declared.program.Decl16.TheVariants as decl
use Rattle.p416_syntax.specs.Names.{Name, has_name}
use Rattle.p416_syntax.specs.Kinds.{Kind, struct, is_struct}
use Rattle.p416_syntax.specs.BuiltIn.{standard, standard_name, standard_layout, built_in}
use Rattle.p416_syntax.specs.Scopes.{called_of, fields_in}
use Rattle.p416_syntax.specs.Declarations.{top_names, layouts_of, layout_in}
use Rattle.p416_syntax.specs.Unknown.{declared_name, declares_twice, held_by, struct_graph}
use Rattle.p416_names.specs.internal.Tables.{fields_of}
use Rattle.p416_type_totals.proofs.Finding.{IsDeclared, IsUndeclared, finds, same_name, own_fields, not_built_in}
use Rattle.p416_type_totals.proofs.Agreeing.{are_plain, plain_agree, bits_agree, decl_agrees}

-- what a node of the graph leads to
pub held_at : (all ds : List Decl16) (i : ℕ) (d : Decl16) → slice_get ds i ≡ Some d → slice_index_or (map (held_by all) ds) i [] ≡ held_by all d
held_at all [] i d e = absurd (never e) where
  never : None ≡ Some d → ⊥
  never h = cc
held_at all (x ∷ ds) zero d e = ap (held_by all) (some_is e) where
  some_is : Some x ≡ Some d → x ≡ d
  some_is h = cc
held_at all (x ∷ ds) (suc i) d e = held_at all ds i d e

-- how many structs have numbers that pass, counted from this number on

abbrev pub is_struct_decl : Decl16 → Bool
is_struct_decl (decl.Struct x) = true
is_struct_decl _ = false

abbrev pub one_if : Bool → ℕ
one_if true = 1
one_if false = 0

abbrev pub structs_where : (ℕ → Bool) → ℕ → List Decl16 → ℕ
structs_where low from [] = 0
structs_where low from (d ∷ ds) = one_if (is_struct_decl d && low from) + structs_where low (suc from) ds

one_le : (a b c : Bool) → (b ≡ true → c ≡ true) → one_if (a && b) ≤ one_if (a && c)
one_le true true c h = rw (h refl) (omega arith)
one_le true false c h = omega arith
one_le false b c h = omega arith

structs_le : (low high : ℕ → Bool) → ((k : ℕ) → low k ≡ true → high k ≡ true) → (from : ℕ) (ds : List Decl16) → structs_where low from ds ≤ structs_where high from ds
structs_le low high h from [] = omega arith
structs_le low high h from (d ∷ ds) =
    let a = one_le (is_struct_decl d) (low from) (high from) (h from) in
    let b = structs_le low high h (suc from) ds in
    omega (arith, a, b)

one_less : (b c : Bool) → b ≡ false → c ≡ true → suc (one_if (true && b)) ≤ one_if (true && c)
one_less b c e f = rw (e, f) (omega arith)

-- a struct that passes one test and not the other
structs_less : (low high : ℕ → Bool) → ((k : ℕ) → low k ≡ true → high k ≡ true) → (from : ℕ) (ds : List Decl16) (j : ℕ) (x : Struct16) → slice_get ds j ≡ Some (decl.Struct x) → low (from + j) ≡ false → high (from + j) ≡ true
    → suc (structs_where low from ds) ≤ structs_where high from ds
structs_less low high h from [] j x there e f = absurd (never there) where
  never : None ≡ Some (decl.Struct x) → ⊥
  never g = cc
structs_less low high h from (d ∷ ds) zero x there e f =
    let same : d ≡ decl.Struct x = some_is there in
    let here : from + 0 ≡ from = omega arith in
    let a : suc (one_if (is_struct_decl d && low from)) ≤ one_if (is_struct_decl d && high from) =
    subst (λ y. suc (one_if (is_struct_decl y && low from)) ≤ one_if (is_struct_decl y && high from)) (sym same) (one_less (low from) (high from) (ap low (sym here) ∙ e) (ap high (sym here) ∙ f)) in
    let b = structs_le low high h (suc from) ds in
    omega (arith, a, b)
  where
    some_is : Some d ≡ Some (decl.Struct x) → d ≡ decl.Struct x
    some_is g = cc
structs_less low high h from (d ∷ ds) (suc j) x there e f =
    let on : from + suc j ≡ suc from + j = omega arith in
    let a = one_le (is_struct_decl d) (low from) (high from) (h from) in
    let b = structs_less low high h (suc from) ds j x there (ap low (sym on) ∙ e) (ap high (sym on) ∙ f) in
    omega (arith, a, b)

-- there are no more of them than types
structs_within : (all : List Decl16) (low : ℕ → Bool) (from : ℕ) (ds : List Decl16) → structs_where low from ds ≤ length (flat_map (layout_in (top_names all)) ds)
structs_within all low from [] = omega arith
structs_within all low from (decl.Header h ∷ ds) = let b = structs_within all low (suc from) ds in omega (arith, b)
structs_within all low from (decl.Struct x ∷ ds) = let a = at_most (low from) in let b = structs_within all low (suc from) ds in omega (arith, a, b) where
  at_most : (b : Bool) → one_if (true && b) ≤ 1
  at_most true = omega arith
  at_most false = omega arith
structs_within all low from (decl.Instance notes i ∷ ds) = let b = structs_within all low (suc from) ds in omega (arith, b)
structs_within all low from (decl.Parser p ∷ ds) = let b = structs_within all low (suc from) ds in omega (arith, b)
structs_within all low from (decl.Control c ∷ ds) = let b = structs_within all low (suc from) ds in omega (arith, b)

-- fields of no declared type
undeclared_plain : (b : Bool) → are_plain (cond b standard_layout.fields []) ≡ true
undeclared_plain true = refl
undeclared_plain false = refl

module _ (ds : List Decl16) (once : declares_twice ds ≡ false) (numbers : ℕ → ℕ) (falls : (a b : ℕ) → IsEdge (struct_graph ds) a b → numbers b < numbers a) where
  -- the types that are declared
  abbrev pub count : ℕ
  count = length (flat_map (layout_in (top_names ds)) ds)

  abbrev pub lower : ℕ → ℕ → Bool
  lower i k = nat_lt (numbers k) (numbers i)

  abbrev pub rank : ℕ → ℕ
  rank i = structs_where (lower i) 0 ds

  rank_falls : (i j : ℕ) (x : Struct16) → numbers j < numbers i → slice_get ds j ≡ Some (decl.Struct x) → rank j < rank i
  rank_falls i j x less there =
      let here : 0 + j ≡ j = omega arith in
      structs_less (lower j) (lower i) (λ k h. lt-ltb _ _ (let below = ltb-true (numbers k) (numbers j) h in omega (arith, below, less))) 0 ds j x there (ap (lower j) here ∙ not_less (numbers j)) (ap (lower i) here ∙ lt-ltb _ _ less)
    where
      not_less : (n : ℕ) → nat_lt n n ≡ false
      not_less n = grind (arith, nat_tests)

  rank_within : (i : ℕ) (x : Struct16) → slice_get ds i ≡ Some (decl.Struct x) → rank i < count
  rank_within i x there =
      let here : 0 + i ≡ i = omega arith in
      let a = structs_less (lower i) (λ k. true) (λ k h. refl) 0 ds i x there (ap (lower i) here ∙ not_less (numbers i)) refl in
      let b = structs_within ds (λ k. true) 0 ds in
      omega (arith, a, b)
    where
      not_less : (n : ℕ) → nat_lt n n ≡ false
      not_less n = grind (arith, nat_tests)

  -- the standard metadata isn't declared
  pub standard_undeclared : IsUndeclared ds built_in standard_name
  standard_undeclared = by_found (finds ds built_in standard_name) where
    by_found : IsDeclared ds built_in standard_name ⊎ IsUndeclared ds built_in standard_name → IsUndeclared ds built_in standard_name
    by_found (inr u) = u
    by_found (inl f) = absurd (never (subst (λ text. has_name (map called_of built_in) text ≡ false) (sym (same_name standard_name (declared_name f.of) f.named)) (not_built_in ds f.number f.of once f.there))) where
      never : has_name (map called_of built_in) standard_name ≡ false → ⊥
      never h = cc

  pub standard_fields : fields_in (layouts_of ds) standard_name ≡ standard_layout.fields
  standard_fields = standard_undeclared.fields (top_names ds) (standard_layout ∷ [])

  module _ (counted : ℕ → Kind → ℕ) (nested : (n : ℕ) (type : Name) → counted (suc n) (struct type) ≡ sum_by (λ f. counted n f.kind) (fields_in (layouts_of ds) type)) (plain : (n m : ℕ) (k : Kind) → is_struct k ≡ false → counted n k ≡ counted m k) where
    at_standard : (n m : ℕ) → counted (suc n) standard ≡ counted (suc m) standard
    at_standard n m =
        nested n standard_name
        ∙ (ap (sum_by (λ f. counted n f.kind)) standard_fields
        ∙ (plain_agree (counted n) (counted m) (plain n m) standard_layout.fields refl
        ∙ (ap (sum_by (λ f. counted m f.kind)) (sym standard_fields)
        ∙ sym (nested m standard_name))))

    deeper : (n i j : ℕ) (d : Decl16) (x : Struct16) → slice_get ds i ≡ Some d → rank i < suc n → Among j (held_by ds d) → slice_get ds j ≡ Some (decl.Struct x)
        → ((k : ℕ) (y : Decl16) → slice_get ds k ≡ Some y → rank k < n → sum_by (λ f. counted (suc n) f.kind) (fields_of (top_names ds) y) ≡ sum_by (λ f. counted n f.kind) (fields_of (top_names ds) y))
        → counted (suc (suc n)) (struct x.name) ≡ counted (suc n) (struct x.name)
    deeper n i j d x there less among at steadies =
        let down = rank_falls i j x (falls i j (subst (Among j) (sym (held_at ds ds i d there)) among)) at in
        let fields : fields_in (layouts_of ds) x.name ≡ fields_of (top_names ds) (decl.Struct x) = own_fields ds j (decl.Struct x) once at in
        nested (suc n) x.name
        ∙ (ap (sum_by (λ f. counted (suc n) f.kind)) fields
        ∙ (steadies j (decl.Struct x) at (omega (arith, down, less))
        ∙ (ap (sum_by (λ f. counted n f.kind)) (sym fields)
        ∙ sym (nested n x.name))))

    steady : (n i : ℕ) (d : Decl16) → slice_get ds i ≡ Some d → rank i < n → sum_by (λ f. counted (suc n) f.kind) (fields_of (top_names ds) d) ≡ sum_by (λ f. counted n f.kind) (fields_of (top_names ds) d)
    steady zero i d there less = absurd (omega (arith, less))
    steady (suc n) i d there less = decl_agrees ds (counted (suc (suc n))) (counted (suc n)) (plain (suc (suc n)) (suc n)) (at_standard (suc n) n) d (λ j x among at own. deeper n i j d x there less among at (steady n))

    steady_decl : (i : ℕ) (d : Decl16) → slice_get ds i ≡ Some d → sum_by (λ f. counted count f.kind) (fields_of (top_names ds) d) ≡ sum_by (λ f. counted (suc count) f.kind) (fields_of (top_names ds) d)
    steady_decl i (decl.Header h) there = bits_agree (counted count) (counted (suc count)) (plain count (suc count)) h.fields
    steady_decl i (decl.Struct x) there = sym (steady count i (decl.Struct x) there (rank_within i x there))
    steady_decl i (decl.Instance notes o) there = refl
    steady_decl i (decl.Parser p) there = refl
    steady_decl i (decl.Control c) there = refl

    steady_type : (type : Name) → sum_by (λ f. counted count f.kind) (fields_in (layouts_of ds) type) ≡ sum_by (λ f. counted (suc count) f.kind) (fields_in (layouts_of ds) type)
    steady_type type = by_found (finds ds built_in type) where
      by_found : IsDeclared ds built_in type ⊎ IsUndeclared ds built_in type → sum_by (λ f. counted count f.kind) (fields_in (layouts_of ds) type) ≡ sum_by (λ f. counted (suc count) f.kind) (fields_in (layouts_of ds) type)
      by_found (inl f) =
          subst (λ fields. sum_by (λ y. counted count y.kind) fields ≡ sum_by (λ y. counted (suc count) y.kind) fields)
          (sym (ap (fields_in (layouts_of ds)) (same_name type (declared_name f.of) f.named) ∙ own_fields ds f.number f.of once f.there))
          (steady_decl f.number f.of f.there)
      by_found (inr u) =
          subst (λ fields. sum_by (λ y. counted count y.kind) fields ≡ sum_by (λ y. counted (suc count) y.kind) fields) (sym (u.fields (top_names ds) (standard_layout ∷ [])))
          (plain_agree (counted count) (counted (suc count)) (plain count (suc count)) (fields_in (standard_layout ∷ []) type) (undeclared_plain (bytes_eq standard_name type)))

    types_are : length (layouts_of ds) ≡ suc count
    types_are = length-append (flat_map (layout_in (top_names ds)) ds) (standard_layout ∷ []) ∙ one_more count where
      one_more : (n : ℕ) → n + 1 ≡ suc n
      one_more n = omega arith

    -- a struct counts what its fields count
    pub settled : (type : Name) → counted (length (layouts_of ds)) (struct type) ≡ sum_by (λ f. counted (length (layouts_of ds)) f.kind) (fields_in (layouts_of ds) type)
    settled type = subst (λ n. counted n (struct type) ≡ sum_by (λ f. counted n f.kind) (fields_in (layouts_of ds) type)) (sym types_are) (nested count type ∙ steady_type type)
