-- What declared types give: the kinds of their members, and how many fields and octets T12 counts.
use Rattle.std.proofs.Common.{◌<◌, subst, arith, ◌≡◌, ℕ, suc, ◌+◌, ◌/◌, Bool, true, false, ◌&&◌, cond, List, [], ◌∷◌, ◌++◌, length, map, flat_map, Some, refl, sym, ap, ◌∙◌}
use Rattle.std.specs.Prelude.{sum_by, codes, not, is_none}
use Rattle.std.specs.Str.{bytes_eq}
use Rattle.std.specs.List.{fold, AllByRecursion}
use Rattle.std.proofs.lemmas.Bool.{false≢true}
use Rattle.std.proofs.lemmas.Slice.Eq.{bytes_eq-Decides}
use Rattle.p416_syntax.specs.declared.parts.Type16.TheVariants.{Named}
use Rattle.p416_syntax.specs.declared.parts.Struct16.{Struct16}
use Rattle.p416_syntax.specs.declared.program.Decl16.{Decl16}
use Rattle.p416_syntax.specs.declared.program.Decl16.TheVariants as decl
use Rattle.p416_syntax.specs.Tree.{Exp16, member}
use Rattle.p416_syntax.specs.Names.{Name, has_name, repeats}
use Rattle.p416_syntax.specs.Kinds.{Kind, bits, struct, is_plain}
use Rattle.p416_syntax.specs.BuiltIn.{built_in, standard, standard_layout, standard_name}
use Rattle.p416_syntax.specs.Scopes.{Scope, Known, Layout, FieldKind, called_of, fields_in, kind_of_type}
use Rattle.p416_syntax.specs.Calls.{Place}
use Rattle.p416_syntax.specs.Expressions.{kind_of, field_kind_in, member_kind}
use Rattle.p416_syntax.specs.Uses.{an_expression}
use Rattle.p416_syntax.specs.Unknown.{is_unknown_member, declares_twice, declared_name}
use Rattle.p416_syntax.specs.Declarations.{top_name, top_names, bit_field, struct_field, layout_in, layouts_of}
use Rattle.p416_syntax.specs.Totals.{field_bits, header_fields, header_octets, fields_within, octets_within, fields_of_kind, octets_of_kind}
use Rattle.agreement_of_meanings.specs.Shown.{NamedField, width_of}
use Rattle.lower_laws_rules.specs.Keeping.{Fine, is_open}
use Rattle.lower_laws_rules.proofs.Places.{opened}
use Rattle.lower_laws_rules.specs.Written.{bit_field16, header16, MarkedField, marked_field16, metadata16, TypedField, typed_field16, struct16, size16}
use Rattle.lower_laws_rules.specs.Whole.{IsIn}
use Rattle.lower_laws_rules.proofs.Found.{left_false, right_false, is_itself, one_layout, grouped, header_found, struct_found}

twice : {X Y Z : Type 0} (g : Y → Z) (f : X → Y) (xs : List X) → map g (map f xs) ≡ map (λ x. g (f x)) xs
twice g f [] = refl
twice g f (x ∷ xs) = ap (λ ys. g (f x) ∷ ys) (twice g f xs)

-- members

field_apart : {X : Type 0} (g : X → FieldKind) (before after : List X) (f x : X) → has_name (map (λ y. (g y).called) (before ++ f ∷ after)) (g x).called ≡ false → bytes_eq (g x).called (g f).called ≡ false
field_apart g [] after f x e = left_false _ _ e
field_apart g (y ∷ before) after f x e = field_apart g before after f x (right_false _ _ e)

named_field : {X : Type 0} (g : X → FieldKind) (before after : List X) (f : X) → repeats (map (λ y. (g y).called) (before ++ f ∷ after)) ≡ false → field_kind_in (map g (before ++ f ∷ after)) (g f).called ≡ Some (g f).kind
named_field g [] after f e = ap (λ b. cond b (Some (g f).kind) (field_kind_in (map g after) (g f).called)) (is_itself (g f).called)
named_field g (x ∷ before) after f e = ap (λ b. cond b (Some (g x).kind) (field_kind_in (map g (before ++ f ∷ after)) (g f).called)) (field_apart g before after f x (left_false _ _ e)) ∙ named_field g before after f (right_false _ _ e)

abbrev pub bits_kind : NamedField → FieldKind
bits_kind f = record { called = f.called; kind = bits f.width }

abbrev pub marked_kind : MarkedField → FieldKind
marked_kind f = record { called = f.field.called; kind = bits f.field.width }

abbrev pub typed_kind : List Known → TypedField → FieldKind
typed_kind names f = record { called = f.called; kind = kind_of_type names (Named f.type (size16 f.size)) }

pub header_layout : (ds : List Decl16) (called : Name) (fields : List NamedField) → IsIn ds (decl.Header (header16 called fields)) → declares_twice ds ≡ false → fields_in (layouts_of ds) called ≡ map bits_kind fields
header_layout ds called fields in_it once = header_found ds (header16 called fields) in_it once ∙ twice bit_field bit_field16 fields

pub metadata_layout : (ds : List Decl16) (called : Name) (fields : List MarkedField) → IsIn ds (decl.Struct (metadata16 called fields)) → declares_twice ds ≡ false → fields_in (layouts_of ds) called ≡ map marked_kind fields
metadata_layout ds called fields in_it once = struct_found ds (metadata16 called fields) in_it once ∙ twice (struct_field (top_names ds)) marked_field16 fields

pub struct_layout : (ds : List Decl16) (called : Name) (fields : List TypedField) → IsIn ds (decl.Struct (struct16 called fields)) → declares_twice ds ≡ false → fields_in (layouts_of ds) called ≡ map (typed_kind (top_names ds)) fields
struct_layout ds called fields in_it once = struct_found ds (struct16 called fields) in_it once ∙ twice (struct_field (top_names ds)) typed_field16 fields

-- a field of a header; of metadata; a member of H or of M
pub header_field : (ds : List Decl16) (called : Name) (before after : List NamedField) (f : NamedField) → IsIn ds (decl.Header (header16 called (before ++ f ∷ after))) → declares_twice ds ≡ false → repeats (map (λ (x : NamedField). x.called) (before ++ f ∷ after)) ≡ false → field_kind_in (fields_in (layouts_of ds) called) f.called ≡ Some (bits f.width)
header_field ds called before after f in_it once differ = ap (λ fs. field_kind_in fs f.called) (header_layout ds called (before ++ f ∷ after) in_it once) ∙ named_field bits_kind before after f differ

pub metadata_field : (ds : List Decl16) (called : Name) (before after : List MarkedField) (f : MarkedField) → IsIn ds (decl.Struct (metadata16 called (before ++ f ∷ after))) → declares_twice ds ≡ false → repeats (map (λ (x : MarkedField). x.field.called) (before ++ f ∷ after)) ≡ false → field_kind_in (fields_in (layouts_of ds) called) f.field.called ≡ Some (bits f.field.width)
metadata_field ds called before after f in_it once differ = ap (λ fs. field_kind_in fs f.field.called) (metadata_layout ds called (before ++ f ∷ after) in_it once) ∙ named_field marked_kind before after f differ

pub struct_member : (ds : List Decl16) (called : Name) (before after : List TypedField) (f : TypedField) → IsIn ds (decl.Struct (struct16 called (before ++ f ∷ after))) → declares_twice ds ≡ false → repeats (map (λ (x : TypedField). x.called) (before ++ f ∷ after)) ≡ false → field_kind_in (fields_in (layouts_of ds) called) f.called ≡ Some (kind_of_type (top_names ds) (Named f.type (size16 f.size)))
struct_member ds called before after f in_it once differ = ap (λ fs. field_kind_in fs f.called) (struct_layout ds called (before ++ f ∷ after) in_it once) ∙ named_field (typed_kind (top_names ds)) before after f differ

-- standard metadata is as it is built in
other_name : (ds : List Decl16) (more : List Known) (text : Name) → has_name (map called_of more) text ≡ true → repeats (map called_of (map top_name ds ++ more)) ≡ false → AllByRecursion (λ d. bytes_eq (declared_name d) text ≡ false) ds
other_name [] more text has once = tt
other_name (d ∷ ds) more text has once = (apart d (map top_name ds) (left_false _ _ once), other_name ds more text has (right_false _ _ once)) where
  beyond : (xs : List Known) (x : Name) → has_name (map called_of (xs ++ more)) x ≡ false → has_name (map called_of more) x ≡ false
  beyond [] x e = e
  beyond (y ∷ xs) x e = beyond xs x (right_false _ _ e)

  apart : (z : Decl16) (xs : List Known) → has_name (map called_of (xs ++ more)) (declared_name z) ≡ false → bytes_eq (declared_name z) text ≡ false
  apart z xs e = by (bytes_eq (declared_name z) text) refl where
    by : (b : Bool) → bytes_eq (declared_name z) text ≡ b → bytes_eq (declared_name z) text ≡ false
    by false is = is
    by true is = absurd (false≢true (sym (beyond xs (declared_name z) e) ∙ ap (has_name (map called_of more)) ((bytes_eq-Decides (declared_name z) text).0 is) ∙ has))

past_layouts : (names : List Known) (ds : List Decl16) (rest : List Layout) (text : Name) → AllByRecursion (λ d. bytes_eq (declared_name d) text ≡ false) ds → fields_in (flat_map (layout_in names) ds ++ rest) text ≡ fields_in rest text
past_layouts names [] rest text all = refl
past_layouts names (d ∷ ds) rest text all =
    ap (λ ls. fields_in ls text) (grouped (layout_in names d) (flat_map (layout_in names) ds) rest)
    ∙ one_layout names d (flat_map (layout_in names) ds ++ rest) text all.0 ∙ past_layouts names ds rest text all.1

pub standard_found : (ds : List Decl16) → declares_twice ds ≡ false → fields_in (layouts_of ds) standard_name ≡ standard_layout.fields
standard_found ds once = past_layouts (top_names ds) ds (standard_layout ∷ []) standard_name (other_name ds built_in standard_name refl once)

-- So no member `mcast_grp` of standard metadata is named, wherever an expression stands: T1 would be broken.
no_group : (p : Place) (s : Scope) (e : Exp16) → is_open p ≡ true → fields_in s.layouts standard_name ≡ standard_layout.fields → kind_of s e ≡ standard → is_unknown_member s p e (codes "mcast_grp") ≡ true
no_group p s e opens fields kind =
    (opened p opens).of_member s e (codes "mcast_grp")
    ∙ ap (λ (k : Kind). is_none (member_kind s.layouts k (codes "mcast_grp")) && not (is_plain k)) kind
    ∙ ap (λ fs. is_none (field_kind_in fs (codes "mcast_grp")) && true) fields

pub never_multicast : (ds : List Decl16) (s : Scope) (p : Place) (e : Exp16) → declares_twice ds ≡ false → s.layouts ≡ layouts_of ds → kind_of s e ≡ standard → is_open p ≡ true → Fine (an_expression s p (member e (codes "mcast_grp"))) → ⊥
never_multicast ds s p e once layouts kind opens fine = false≢true (sym fine.t1 ∙ no_group p s e opens (ap (λ ls. fields_in ls standard_name) layouts ∙ standard_found ds once) kind)

-- T12: what H and M count

sum_same : {X : Type 0} (f g : X → ℕ) (xs : List X) → AllByRecursion (λ x. f x ≡ g x) xs → (a : ℕ) → fold (λ (n : ℕ) (x : X). n + f x) a xs ≡ fold (λ (n : ℕ) (x : X). n + g x) a xs
sum_same f g [] all a = refl
sum_same {X} f g (y ∷ ys) all a = ap (λ n. fold (λ (m : ℕ) (x : X). m + f x) (a + n) ys) all.0 ∙ sum_same f g ys all.1 (a + g y)

sum_map : {X Y : Type 0} (h : X → Y) (f : Y → ℕ) (xs : List X) (a : ℕ) → fold (λ (n : ℕ) (y : Y). n + f y) a (map h xs) ≡ fold (λ (n : ℕ) (x : X). n + f (h x)) a xs
sum_map h f [] a = refl
sum_map h f (x ∷ xs) a = sum_map h f xs (a + f (h x))

-- a struct that is declared and the standard one are two layouts at least
two_layouts : (ls : List Layout) → 0 < length ls → (n : ℕ) × (length (ls ++ standard_layout ∷ []) ≡ suc (suc n))
two_layouts [] some = absurd (omega (arith, some))
two_layouts (l ∷ ls) some = by ls where
  by : (ks : List Layout) → (n : ℕ) × (suc (length (ks ++ standard_layout ∷ [])) ≡ suc (suc n))
  by [] = (0, refl)
  by (k ∷ ks) = (length (ks ++ standard_layout ∷ []), refl)

some_layout : (names : List Known) (before after : List Decl16) (x : Struct16) → 0 < length (flat_map (layout_in names) (before ++ decl.Struct x ∷ after))
some_layout names [] after x = omega arith
some_layout names (y ∷ before) after x = longer (layout_in names y) (flat_map (layout_in names) (before ++ decl.Struct x ∷ after)) (some_layout names before after x) where
  longer : (xs ys : List Layout) → 0 < length ys → 0 < length (xs ++ ys)
  longer [] ys some = some
  longer (z ∷ xs) ys some = omega arith

layout_count : (ds : List Decl16) (x : Struct16) → IsIn ds (decl.Struct x) → (n : ℕ) × (length (layouts_of ds) ≡ suc (suc n))
layout_count ds x in_it = two_layouts (flat_map (layout_in (top_names ds)) ds) (subst (λ (z : List Decl16). 0 < length (flat_map (layout_in (top_names ds)) z)) (sym in_it.is) (some_layout (top_names ds) in_it.before in_it.after x))

-- A struct whose members count so many each: headers, stacks and structs of bits do so at every depth but none.
pub fields_sum : (ds : List Decl16) (called : Name) (fields : List TypedField) (count : TypedField → ℕ) → IsIn ds (decl.Struct (struct16 called fields)) → declares_twice ds ≡ false → ((n : ℕ) → AllByRecursion (λ f. fields_within (layouts_of ds) (suc n) (typed_kind (top_names ds) f).kind ≡ count f) fields) → fields_of_kind (layouts_of ds) (struct called) ≡ sum_by count fields
fields_sum ds called fields count in_it once each =
    let some = layout_count ds (struct16 called fields) in_it in
    ap (λ n. fields_within (layouts_of ds) n (struct called)) some.1
    ∙ ap (sum_by (λ f. fields_within (layouts_of ds) (suc some.0) f.kind)) (struct_layout ds called fields in_it once)
    ∙ sum_map (typed_kind (top_names ds)) (λ f. fields_within (layouts_of ds) (suc some.0) f.kind) fields 0
    ∙ sum_same (λ f. fields_within (layouts_of ds) (suc some.0) (typed_kind (top_names ds) f).kind) count fields (each some.0) 0

pub octets_sum : (ds : List Decl16) (called : Name) (fields : List TypedField) (count : TypedField → ℕ) → IsIn ds (decl.Struct (struct16 called fields)) → declares_twice ds ≡ false → ((n : ℕ) → AllByRecursion (λ f. octets_within (layouts_of ds) (suc n) (typed_kind (top_names ds) f).kind ≡ count f) fields) → octets_of_kind (layouts_of ds) (struct called) ≡ sum_by count fields
octets_sum ds called fields count in_it once each =
    let some = layout_count ds (struct16 called fields) in_it in
    ap (λ n. octets_within (layouts_of ds) n (struct called)) some.1
    ∙ ap (sum_by (λ f. octets_within (layouts_of ds) (suc some.0) f.kind)) (struct_layout ds called fields in_it once)
    ∙ sum_map (typed_kind (top_names ds)) (λ f. octets_within (layouts_of ds) (suc some.0) f.kind) fields 0
    ∙ sum_same (λ f. octets_within (layouts_of ds) (suc some.0) (typed_kind (top_names ds) f).kind) count fields (each some.0) 0

-- what metadata counts: its fields, and no octets
ones : {X : Type 0} (xs : List X) (a : ℕ) → fold (λ (n : ℕ) (x : X). n + 1) a xs ≡ a + length xs
ones [] a = omega arith
ones (x ∷ xs) a = let more = ones xs (a + 1) in omega (arith, more)

zeros : {X : Type 0} (xs : List X) (a : ℕ) → fold (λ (n : ℕ) (x : X). n + 0) a xs ≡ a
zeros [] a = refl
zeros (x ∷ xs) a = let more = zeros xs (a + 0) in omega (arith, more)

pub metadata_counts : (ds : List Decl16) (n : ℕ) (called : Name) (fields : List MarkedField) → IsIn ds (decl.Struct (metadata16 called fields)) → declares_twice ds ≡ false → fields_within (layouts_of ds) (suc n) (struct called) ≡ length fields
metadata_counts ds n called fields in_it once =
    ap (sum_by (λ f. fields_within (layouts_of ds) n f.kind)) (metadata_layout ds called fields in_it once)
    ∙ sum_map marked_kind (λ f. fields_within (layouts_of ds) n f.kind) fields 0 ∙ ones fields 0 ∙ plainly (length fields) where
      plainly : (k : ℕ) → 0 + k ≡ k
      plainly k = omega arith

pub metadata_weighs : (ds : List Decl16) (n : ℕ) (called : Name) (fields : List MarkedField) → IsIn ds (decl.Struct (metadata16 called fields)) → declares_twice ds ≡ false → octets_within (layouts_of ds) (suc n) (struct called) ≡ 0
metadata_weighs ds n called fields in_it once =
    ap (sum_by (λ f. octets_within (layouts_of ds) n f.kind)) (metadata_layout ds called fields in_it once)
    ∙ sum_map marked_kind (λ f. octets_within (layouts_of ds) n f.kind) fields 0 ∙ zeros fields 0

-- what a header counts, from its fields
lengths : {X Y : Type 0} (f : X → Y) (xs : List X) → length (map f xs) ≡ length xs
lengths f [] = refl
lengths f (x ∷ xs) = ap suc (lengths f xs)

pub header_counts : (ds : List Decl16) (called : Name) (fields : List NamedField) → IsIn ds (decl.Header (header16 called fields)) → declares_twice ds ≡ false → header_fields (layouts_of ds) called ≡ length fields
header_counts ds called fields in_it once = ap (λ fs. length fs) (header_layout ds called fields in_it once) ∙ lengths bits_kind fields

pub header_weighs : (ds : List Decl16) (called : Name) (fields : List NamedField) → IsIn ds (decl.Header (header16 called fields)) → declares_twice ds ≡ false → header_octets (layouts_of ds) called ≡ sum_by width_of fields / 8
header_weighs ds called fields in_it once = ap (λ fs. sum_by field_bits fs / 8) (header_layout ds called fields in_it once) ∙ ap (λ n. n / 8) (sum_map bits_kind field_bits fields 0)
