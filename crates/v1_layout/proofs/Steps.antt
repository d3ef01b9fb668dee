-- A struct that is taken apart.
use Rattle.std.proofs.Common.{◌≡◌, ℕ, zero, suc, ◌+◌, ◌<◌, List, [], ◌∷◌, ◌++◌, map, refl, sym, ap, ◌∙◌, arith}
use Rattle.p416_syntax.specs.Kinds.{Kind}
use Rattle.p416_syntax.specs.Scopes.{Layout as TypeLayout, FieldKind, fields_in}
use Rattle.p416_names.specs.declared.kind.Kind.{Kind as CodeKind}
use Rattle.p416_names.specs.SeenKinds.{seen_kind}
use Rattle.v1_core.specs.Layouts.{Layout, with_header_part}
use Rattle.v1_core.specs.Seats.{struct_form, form_of}
use Rattle.v1_core.specs.Programs.{field_width, with_elements, with_members, with_value}
use Rattle.v1_layout.specs.declared.values.Left.{Left}
use Rattle.v1_layout.specs.Left.{kind_of_field, kind_width, left_at, laid_out, member_steps, steps_of, steps}

pub one_element_more : (widths : List ℕ) (n : ℕ) (l : Layout) → with_elements widths (n + 1) l ≡ with_header_part (with_elements widths n l) widths
one_element_more widths n l = ap (λ (k : ℕ). with_elements widths k l) next ∙ more n l where
  next : n + 1 ≡ suc n
  next = omega arith

  more : (k : ℕ) (m : Layout) → with_elements widths (suc k) m ≡ with_header_part (with_elements widths k m) widths
  more zero m = refl
  more (suc k) m = more k (with_header_part m widths)

-- the widths of fields by their kinds
pub widths_are : (kinds : List CodeKind) (fields : List FieldKind) → map seen_kind kinds ≡ map kind_of_field fields → map (λ k. kind_width (seen_kind k)) kinds ≡ map field_width fields
widths_are [] [] e = refl
widths_are [] (f ∷ fields) e = absurd (cc e)
widths_are (k ∷ kinds) [] e = absurd (cc e)
widths_are (k ∷ kinds) (f ∷ fields) e =
    let first : seen_kind k ≡ f.kind = cc e in
    let rest : map seen_kind kinds ≡ map kind_of_field fields = cc e in
    ap (λ (y : Kind). kind_width y ∷ map (λ k. kind_width (seen_kind k)) kinds) first
    ∙ ap (λ (r : List ℕ). field_width f ∷ r) (widths_are kinds fields rest)

members_same : (types : List TypeLayout) (depth : ℕ) (fields : List FieldKind) (kinds : List CodeKind) (old : List Left) (l : Layout) → map seen_kind kinds ≡ map kind_of_field fields → laid_out types (map (left_at depth) kinds ++ old) l ≡ laid_out types old (with_members (λ k m. with_value types depth k m) fields l)
members_same types depth [] [] old l e = refl
members_same types depth (f ∷ fields) [] old l e = absurd (cc e)
members_same types depth [] (k ∷ kinds) old l e = absurd (cc e)
members_same types depth (f ∷ fields) (k ∷ kinds) old l e =
    let first : seen_kind k ≡ f.kind = cc e in
    let rest : map seen_kind kinds ≡ map kind_of_field fields = cc e in
    ap (λ (y : Kind). laid_out types (map (left_at depth) kinds ++ old) (with_value types depth (form_of y) l)) first
    ∙ members_same types depth fields kinds old (with_value types depth (form_of f.kind) l) rest

pub members_laid : (types : List TypeLayout) (n depth : ℕ) (name : List ℕ) (kinds : List CodeKind) (new old : List Left) (l : Layout) → n ≡ depth + 1 → new ≡ map (left_at depth) kinds ++ old → map seen_kind kinds ≡ map kind_of_field (fields_in types name) → laid_out types new l ≡ laid_out types old (with_value types n (struct_form name) l)
members_laid types n depth name kinds new old l deep is e =
    let next : n ≡ suc depth = omega arith in
    ap (λ (r : List Left). laid_out types r l) is ∙ members_same types depth (fields_in types name) kinds old l e
    ∙ ap (λ (k : ℕ). laid_out types old (with_value types k (struct_form name) l)) (sym next)

member_count : (types : List TypeLayout) (depth : ℕ) (fields : List FieldKind) (kinds : List CodeKind) (old : List Left) → map seen_kind kinds ≡ map kind_of_field fields → steps types (map (left_at depth) kinds ++ old) ≡ member_steps (λ k. steps_of types depth k) fields + steps types old
member_count types depth [] [] old e = omega arith
member_count types depth (f ∷ fields) [] old e = absurd (cc e)
member_count types depth [] (k ∷ kinds) old e = absurd (cc e)
member_count types depth (f ∷ fields) (k ∷ kinds) old e =
    let first : seen_kind k ≡ f.kind = cc e in
    let rest : map seen_kind kinds ≡ map kind_of_field fields = cc e in
    let same : steps_of types depth (form_of (seen_kind k)) ≡ steps_of types depth (form_of f.kind) = ap (λ (y : Kind). steps_of types depth (form_of y)) first in
    let more : steps types (map (left_at depth) kinds ++ old) ≡ member_steps (λ k. steps_of types depth k) fields + steps types old = member_count types depth fields kinds old rest in
    omega arith

pub members_fewer : (types : List TypeLayout) (n depth : ℕ) (name : List ℕ) (kinds : List CodeKind) (new old : List Left) → n ≡ depth + 1 → new ≡ map (left_at depth) kinds ++ old → map seen_kind kinds ≡ map kind_of_field (fields_in types name) → steps types new < steps_of types n (struct_form name) + steps types old
members_fewer types n depth name kinds new old deep is e =
    let next : n ≡ suc depth = omega arith in
    let whole : steps_of types n (struct_form name) ≡ 1 + member_steps (λ k. steps_of types depth k) (fields_in types name) = ap (λ (k : ℕ). steps_of types k (struct_form name)) next in
    let count : steps types new ≡ member_steps (λ k. steps_of types depth k) (fields_in types name) + steps types old =
    ap (λ (r : List Left). steps types r) is ∙ member_count types depth (fields_in types name) kinds old e in
    omega arith

-- a struct that isn't looked into

pub none_laid : (types : List TypeLayout) (n : ℕ) (name : List ℕ) (old : List Left) (l : Layout) → n ≡ 0 → laid_out types old l ≡ laid_out types old (with_value types n (struct_form name) l)
none_laid types n name old l e = ap (λ (k : ℕ). laid_out types old (with_value types k (struct_form name) l)) (sym e)

pub one_fewer : (types : List TypeLayout) (n : ℕ) (name : List ℕ) (old : List Left) → n ≡ 0 → steps types old < steps_of types n (struct_form name) + steps types old
one_fewer types n name old e =
    let one : steps_of types n (struct_form name) ≡ 1 = ap (λ (k : ℕ). steps_of types k (struct_form name)) e in
    omega arith
