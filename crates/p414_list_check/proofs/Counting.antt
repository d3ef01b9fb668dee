-- Lengths, and fields of `standard_metadata`, of what items come to by themselves.
use Rattle.std.proofs.Common.{◌≡◌, ℕ, ◌+◌, ◌||◌, Bool, true, false, cond, is_some, List, [], ◌∷◌, ◌++◌, length, map, sum_by, Option, Some, None, refl, sym, ap, ◌∙◌, arith}
use Rattle.std.proofs.lemmas.List.Sums.{sum_by-cons}
use Rattle.p414_syntax.specs.declared.parts.Inst.{Inst}
use Rattle.p414_syntax.specs.declared.calculations.Item.{Item}
use Rattle.p414_syntax.specs.declared.calculations.Item.TheVariants as item
use Rattle.p414_syntax.specs.declared.syntax.Decl.{Decl}
use Rattle.p414_syntax.specs.Names.{Name}
use Rattle.p414_syntax.specs.Primitives.{is_standard, ports, counts}
use Rattle.p414_syntax.specs.Expansion.{list_number, inner_number, own_items, fields_of, field_item}
use Rattle.p414_list_check.specs.internal.Measures.{one, standard, own_length, own_standard}
use Rattle.p414_list_check.proofs.Expanding.{CountsOwn}

ones : (i : Inst) (names : List Name) → sum_by one (map (field_item i) names) ≡ length names
ones i [] = refl
ones i (n ∷ names) =
    let a : sum_by one (map (field_item i) (n ∷ names)) ≡ 1 + sum_by one (map (field_item i) names) = sum_by-cons one (field_item i n) (map (field_item i) names) in
    let b = ones i names in
    omega arith

length_alone : (ds : List Decl) (i : Item) → inner_number ds i ≡ None → sum_by one (own_items ds i) ≡ own_length ds i
length_alone ds (item.Instance i) e =
    ones i (fields_of ds i.name) ∙ sym (ap (λ o. cond (is_some o) 0 (length (fields_of ds i.name))) e)
length_alone ds item.Payload e = refl
length_alone ds (item.Number n) e = refl
length_alone ds (item.Field r) e = refl

length_inner : (ds : List Decl) (i : Item) (l : ℕ) → inner_number ds i ≡ Some l → own_length ds i ≡ 0
length_inner ds (item.Instance i) l e = ap (λ o. cond (is_some o) 0 (length (fields_of ds i.name))) e
length_inner ds item.Payload l e = absurd (cc e)
length_inner ds (item.Number n) l e = absurd (cc e)
length_inner ds (item.Field r) l e = absurd (cc e)

pub counts_lengths : (ds : List Decl) → CountsOwn ds one (own_length ds)
counts_lengths ds = record { alone = length_alone ds; inner = length_inner ds }

abbrev one_if : Bool → ℕ
one_if b = cond b 1 0

abbrev five_if : Bool → ℕ
five_if b = cond b 5 0

zero_more : (n : ℕ) → 0 + n ≡ n
zero_more n = omega arith

none_standard : (i : Inst) (names : List Name) → is_standard i.name ≡ false → sum_by standard (map (field_item i) names) ≡ 0
none_standard i [] e = refl
none_standard i (n ∷ names) e =
    let a : sum_by standard (map (field_item i) (n ∷ names)) ≡ one_if (is_standard i.name) + sum_by standard (map (field_item i) names) = sum_by-cons standard (field_item i n) (map (field_item i) names) in
    let b : sum_by standard (map (field_item i) names) ≡ 0 = none_standard i names e in
    let c : one_if (is_standard i.name) ≡ 0 = ap one_if e in
    omega arith

all_standard : (i : Inst) (names : List Name) → is_standard i.name ≡ true → sum_by standard (map (field_item i) names) ≡ length names
all_standard i [] e = refl
all_standard i (n ∷ names) e =
    let a : sum_by standard (map (field_item i) (n ∷ names)) ≡ one_if (is_standard i.name) + sum_by standard (map (field_item i) names) = sum_by-cons standard (field_item i n) (map (field_item i) names) in
    let b : sum_by standard (map (field_item i) names) ≡ length names = all_standard i names e in
    let c : one_if (is_standard i.name) ≡ 1 = ap one_if e in
    omega arith

five : (other : List Name) (b : Bool) → b ≡ true → length (cond b (ports ++ counts) other) ≡ 5
five other b e = ap (λ t. length (cond t (ports ++ counts) other)) e

instance_standard : (ds : List Decl) (i : Inst) (b : Bool) → is_standard i.name ≡ b → sum_by standard (map (field_item i) (fields_of ds i.name)) ≡ five_if b
instance_standard ds i true e = all_standard i (fields_of ds i.name) e ∙ five _ (is_standard i.name) e
instance_standard ds i false e = none_standard i (fields_of ds i.name) e

standard_alone : (ds : List Decl) (i : Item) → inner_number ds i ≡ None → sum_by standard (own_items ds i) ≡ own_standard i
standard_alone ds (item.Instance i) e = instance_standard ds i (is_standard i.name) refl
standard_alone ds item.Payload e = refl
standard_alone ds (item.Number n) e = refl
standard_alone ds (item.Field r) e = zero_more (one_if (is_standard r.instance.name))

-- what stands for a list isn't `standard_metadata`, which is an instance
not_standard : (declared indexed : Bool) (o : Option ℕ) (l : ℕ) (b : Bool) → cond ((b || declared) || indexed) None o ≡ Some l → five_if b ≡ 0
not_standard declared indexed o l true e = absurd (cc e)
not_standard declared indexed o l false e = refl

standard_inner : (ds : List Decl) (i : Item) (l : ℕ) → inner_number ds i ≡ Some l → own_standard i ≡ 0
standard_inner ds (item.Instance i) l e = not_standard _ _ (list_number ds i.name) l (is_standard i.name) e
standard_inner ds item.Payload l e = absurd (cc e)
standard_inner ds (item.Number n) l e = absurd (cc e)
standard_inner ds (item.Field r) l e = absurd (cc e)

pub counts_standard : (ds : List Decl) → CountsOwn ds standard own_standard
counts_standard ds = record { alone = standard_alone ds; inner = standard_inner ds }
