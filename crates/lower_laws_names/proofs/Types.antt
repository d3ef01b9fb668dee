-- What the declarations of types mean in the scope of a text that begins with them.
use Rattle.std.proofs.Common.{◌≡◌, Bool, true, false, ◌||◌, cond, Option, Some, None, List, [], ◌∷◌, ◌++◌, map, filter_map, refl, sym, ap, ◌∙◌, subst, inl, inr}
use Rattle.std.specs.List.{filter, flat_map, cons_option}
use Rattle.std.specs.Str.{bytes_eq}
use Rattle.std.proofs.lemmas.List.{append_assoc, map-append}
use Rattle.std.proofs.lemmas.Slice.Eq.{bytes_eq-Decides}
use Rattle.p416_syntax.specs.declared.parts.StructField.{StructField}
use Rattle.p416_syntax.specs.declared.program.Decl16.{Decl16}
use Rattle.p416_syntax.specs.declared.program.Decl16.TheVariants as decl16
use Rattle.p416_syntax.specs.Names.{Name, has_name, repeats}
use Rattle.p416_syntax.specs.Kinds.{bits}
use Rattle.p416_syntax.specs.Scopes.{called_of, Known, sort_in, Layout, fields_in, kind_of_type}
use Rattle.p416_syntax.specs.Declarations.{top_name, bit_field as bit_kind, struct_field as struct_kind, layout_in, member_name}
use Rattle.p416_syntax.specs.Expressions.{field_kind_in}
use Rattle.agreement_of_meanings.specs.Shown.{NamedField}
use Rattle.lower_laws_names.specs.Types.{bit_field}
use Rattle.lower_laws_names.specs.Declared.{Among, decl_name}

-- lists

pub among_left : {A : Type 0} (a : A) (xs ys : List A) → Among a xs → Among a (xs ++ ys)
among_left {A} a [] ys h = absurd h
among_left {A} a (x ∷ xs) ys (inl e) = inl e
among_left {A} a (x ∷ xs) ys (inr h) = inr (among_left a xs ys h)

pub among_right : {A : Type 0} (a : A) (xs ys : List A) → Among a ys → Among a (xs ++ ys)
among_right {A} a [] ys h = h
among_right {A} a (x ∷ xs) ys h = inr (among_right a xs ys h)

pub among_map : {A B : Type 0} (f : A → B) (a : A) (xs : List A) → Among a xs → Among (f a) (map f xs)
among_map {A} {B} f a [] h = absurd h
among_map {A} {B} f a (x ∷ xs) (inl e) = inl (ap f e)
among_map {A} {B} f a (x ∷ xs) (inr h) = inr (among_map f a xs h)

pub among_filter : {A : Type 0} (p : A → Bool) (a : A) (xs : List A) → p a ≡ true → Among a xs → Among a (filter p xs)
among_filter {A} p a [] e h = absurd h
among_filter {A} p a (x ∷ xs) e (inl same) = subst (λ (b : Bool). Among a (cond b (x ∷ filter p xs) (filter p xs))) (sym (ap p same ∙ e)) (inl same)
among_filter {A} p a (x ∷ xs) e (inr h) = by (p x) (among_filter p a xs e h)
  where
    by : (b : Bool) → Among a (filter p xs) → Among a (cond b (x ∷ filter p xs) (filter p xs))
    by true g = inr g
    by false g = g

pub among_some : {A B : Type 0} (f : A → Option B) (a : A) (b : B) (xs : List A) → f a ≡ Some b → Among a xs → Among b (filter_map f xs)
among_some {A} {B} f a b [] e h = absurd h
among_some {A} {B} f a b (x ∷ xs) e (inl same) = subst (λ (o : Option B). Among b (cons_option o (filter_map f xs))) (sym (ap f same ∙ e)) (inl refl)
among_some {A} {B} f a b (x ∷ xs) e (inr h) = by (f x) (among_some f a b xs e h)
  where
    by : (o : Option B) → Among b (filter_map f xs) → Among b (cons_option o (filter_map f xs))
    by (Some y) g = inr g
    by None g = g

pub or_parts : (a b : Bool) → (a || b) ≡ false → (a ≡ false) × (b ≡ false)
or_parts true b e = cc
or_parts false b e = (refl, e)

-- a name that is none of these is not one of them
pub other : (ns : List Name) (n m : Name) → has_name ns n ≡ false → Among m ns → bytes_eq n m ≡ false
other [] n m e h = absurd h
other (k ∷ ns) n m e (inl same) = ap (bytes_eq n) (sym same) ∙ (or_parts (bytes_eq n k) (has_name ns n) e).0
other (k ∷ ns) n m e (inr h) = other ns n m (or_parts (bytes_eq n k) (has_name ns n) e).1 h

pub itself : (n : Name) → bytes_eq n n ≡ true
itself n = (bytes_eq-Decides n n).1 refl

-- at the top

pub found_sort : (ds : List Decl16) (more : List Known) (d : Decl16) → repeats (map decl_name ds) ≡ false → Among d ds → sort_in (map top_name ds ++ more) (decl_name d) ≡ (top_name d).sort
found_sort [] more d once h = absurd h
found_sort (e ∷ ds) more d once (inl same) =
    ap (λ (b : Bool). cond b (top_name e).sort (sort_in (map top_name ds ++ more) (decl_name d))) (ap (λ (n : Name). bytes_eq (decl_name e) n) (ap decl_name (sym same)) ∙ itself (decl_name e))
    ∙ ap (λ (x : Decl16). (top_name x).sort) same
found_sort (e ∷ ds) more d once (inr h) =
    let both = or_parts (has_name (map decl_name ds) (decl_name e)) (repeats (map decl_name ds)) once in
    rw (other (map decl_name ds) (decl_name e) (decl_name d) both.0 (among_map decl_name d ds h)) (found_sort ds more d both.1 h)

passed : (names : List Known) (e : Decl16) (rest : List Layout) (n : Name) → bytes_eq (decl_name e) n ≡ false → fields_in (layout_in names e ++ rest) n ≡ fields_in rest n
passed names (decl16.Header h) rest n apart = rw apart refl
passed names (decl16.Struct x) rest n apart = rw apart refl
passed names (decl16.Instance notes i) rest n apart = refl
passed names (decl16.Parser p) rest n apart = refl
passed names (decl16.Control c) rest n apart = refl

pub found_fields : (names : List Known) (ds : List Decl16) (more : List Layout) (d : Decl16) (l : Layout) → repeats (map decl_name ds) ≡ false → Among d ds
    → layout_in names d ≡ l ∷ [] → l.called ≡ decl_name d → fields_in (flat_map (layout_in names) ds ++ more) (decl_name d) ≡ l.fields
found_fields names [] more d l once h e f = absurd h
found_fields names (x ∷ ds) more d l once (inl same) e f =
    ap (λ (ls : List Layout). fields_in ((ls ++ flat_map (layout_in names) ds) ++ more) (decl_name d)) (ap (layout_in names) same ∙ e)
    ∙ (rw (f, itself (decl_name d)) refl)
found_fields names (x ∷ ds) more d l once (inr h) e f =
    let both = or_parts (has_name (map decl_name ds) (decl_name x)) (repeats (map decl_name ds)) once in
    ap (λ (ls : List Layout). fields_in ls (decl_name d)) (append_assoc (layout_in names x) (flat_map (layout_in names) ds) more)
    ∙ (passed names x (flat_map (layout_in names) ds ++ more) (decl_name d) (other (map decl_name ds) (decl_name x) (decl_name d) both.0 (among_map decl_name d ds h))
    ∙ found_fields names ds more d l both.1 h e f)

-- members

pub found_member : (names : List Known) (fields : List StructField) (f : StructField) → repeats (map member_name fields) ≡ false → Among f fields
    → field_kind_in (map (struct_kind names) fields) f.name ≡ Some (kind_of_type names f.of)
found_member names [] f once h = absurd h
found_member names (g ∷ fields) f once (inl same) =
    ap (λ (b : Bool). cond b (Some (kind_of_type names g.of)) (field_kind_in (map (struct_kind names) fields) f.name)) (ap (λ (n : Name). bytes_eq g.name n) (ap member_name (sym same)) ∙ itself g.name)
    ∙ ap (λ (x : StructField). Some (kind_of_type names x.of)) same
found_member names (g ∷ fields) f once (inr h) =
    let both = or_parts (has_name (map member_name fields) g.name) (repeats (map member_name fields)) once in
    rw (other (map member_name fields) g.name f.name both.0 (among_map member_name f fields h)) (found_member names fields f both.1 h)

abbrev pub called_in : NamedField → Name
called_in f = f.called

-- the fields of a header type, and those of a struct of metadata
pub found_bits : (fields : List NamedField) (f : NamedField) → repeats (map called_in fields) ≡ false → Among f fields
    → field_kind_in (map bit_kind (map bit_field fields)) f.called ≡ Some (bits f.width)
found_bits [] f once h = absurd h
found_bits (g ∷ fields) f once (inl same) =
    ap (λ (b : Bool). cond b (Some (bits g.width)) (field_kind_in (map bit_kind (map bit_field fields)) f.called)) (ap (λ (n : Name). bytes_eq g.called n) (ap called_in (sym same)) ∙ itself g.called)
    ∙ ap (λ (x : NamedField). Some (bits x.width)) same
found_bits (g ∷ fields) f once (inr h) =
    let both = or_parts (has_name (map called_in fields) g.called) (repeats (map called_in fields)) once in
    rw (other (map called_in fields) g.called f.called both.0 (among_map called_in f fields h)) (found_bits fields f both.1 h)

-- what is built in

abbrev pub NoneCalled : Name → List Decl16 → Type 0
NoneCalled n [] = Unit {0}
NoneCalled n (d ∷ ds) = (bytes_eq (decl_name d) n ≡ false) × NoneCalled n ds

pub none_called : (ds : List Decl16) (more : List Known) (n : Name) → repeats (map called_of (map top_name ds ++ more)) ≡ false → Among n (map called_of more) → NoneCalled n ds
none_called [] more n once h = tt
none_called (d ∷ ds) more n once h =
    let both = or_parts (has_name (map called_of (map top_name ds ++ more)) (decl_name d)) (repeats (map called_of (map top_name ds ++ more))) once in
    let there : Among n (map called_of (map top_name ds ++ more)) = subst (Among n) (sym (map-append called_of (map top_name ds) more)) (among_right n (map called_of (map top_name ds)) (map called_of more) h) in
    (other (map called_of (map top_name ds ++ more)) (decl_name d) n both.0 there, none_called ds more n both.1 h)

pub sort_behind : (ds : List Decl16) (more : List Known) (n : Name) → NoneCalled n ds → sort_in (map top_name ds ++ more) n ≡ sort_in more n
sort_behind [] more n none = refl
sort_behind (d ∷ ds) more n none = rw none.0 (sort_behind ds more n none.1)

pub fields_behind : (names : List Known) (ds : List Decl16) (more : List Layout) (n : Name) → NoneCalled n ds → fields_in (flat_map (layout_in names) ds ++ more) n ≡ fields_in more n
fields_behind names [] more n none = refl
fields_behind names (d ∷ ds) more n none =
    ap (λ (ls : List Layout). fields_in ls n) (append_assoc (layout_in names d) (flat_map (layout_in names) ds) more)
    ∙ (passed names d (flat_map (layout_in names) ds ++ more) n none.0 ∙ fields_behind names ds more n none.1)
