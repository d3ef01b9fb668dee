-- Types, headers, structs and objects break no rule.
use Rattle.std.proofs.Common.{◌≡◌, ◌≢◌, ◌⊎◌, inl, inr, eqb, ℕ, ◌+◌, ◌<◌, ◌≤◌, ◌^◌, ◌%◌, true, false, ◌&&◌, List, [], ◌∷◌, ◌++◌, map, flat_map, Option, Some, None, refl, ap, ap₂, ◌∙◌, arith}
use Rattle.std.specs.Prelude.{not, nat_eq, sum_by}
use Rattle.std.specs.List.{list_any, fold, AllByRecursion}
use Rattle.std.proofs.lemmas.Bool.Decides.{eqb_tells}
use Rattle.p416_syntax.specs.declared.parts.BitField.{BitField}
use Rattle.p416_syntax.specs.declared.parts.Note.{Note}
use Rattle.p416_syntax.specs.declared.parts.Type16.TheVariants.{Bit, Named}
use Rattle.p416_syntax.specs.declared.parts.CounterType.{CounterType}
use Rattle.p416_syntax.specs.declared.parts.MeterType.{MeterType}
use Rattle.p416_syntax.specs.declared.parts.Member.TheVariants as member_of
use Rattle.p416_syntax.specs.declared.controls.Instance.TheVariants as instance
use Rattle.p416_syntax.specs.Tree.{literal}
use Rattle.p416_syntax.specs.Names.{Name, repeats}
use Rattle.p416_syntax.specs.Kinds.{Kind, bits, header, struct}
use Rattle.p416_syntax.specs.Scopes.{Scope, Sort, a_type, sort_of, stack_kind, type_sort}
use Rattle.p416_syntax.specs.Uses.{a_number, TypePlace, of_field, of_variable, of_action_parameter, of_block_parameter, of_lookahead, type_uses}
use Rattle.p416_syntax.specs.Declarations.{field_name, field_width, header_uses, member_name, note_uses, struct_field_uses, struct_uses, object_uses}
use Rattle.p416_syntax.specs.Unknown.{is_type_sort}
use Rattle.p416_syntax.specs.Sizes.{bits_of_field, has_bad_width, is_no_octets}
use Rattle.p416_syntax.specs.Types.{is_misplaced}
use Rattle.p416_syntax.specs.Totals.{is_held, is_compound, if_held}
use Rattle.agreement_of_meanings.specs.Shown.{NamedField, width_of}
use Rattle.lower_laws_base.specs.Mirror.{plain, sized}
use Rattle.lower_laws_rules.specs.Keeping.{Keeps}
use Rattle.lower_laws_rules.specs.Written.{bit_field16, header16, marks16, MarkedField, marked_field16, metadata16, TypedField, typed_field16, struct16, size16}
use Rattle.lower_laws_rules.specs.Declared.{FitsWidth, name_of_field, HeaderFits, TypeIsThere, FieldIsThere}
use Rattle.lower_laws_rules.proofs.Lists.{neither, both_false, none_kept, behind_kept, first_kept}
use Rattle.lower_laws_rules.proofs.Places.{not_less}
use Rattle.lower_laws_rules.proofs.Sound.{width_fine, sits_literal}
use Rattle.lower_laws_rules.proofs.Calls.{sits_kept}
use Rattle.lower_laws_rules.proofs.Parts.{names_fine}

-- types

place_of_bits : (p : TypePlace) (width : ℕ) → is_misplaced p (bits width) ≡ false
place_of_bits of_field width = refl
place_of_bits of_variable width = refl
place_of_bits of_action_parameter width = refl
place_of_bits of_block_parameter width = refl
place_of_bits of_lookahead width = refl

pub bits_type : (s : Scope) (p : TypePlace) (width : ℕ) → 0 < width → width ≤ 128 → Keeps (type_uses s p (Bit (plain width))) []
bits_type s p width some most =
    first_kept (record { t1 = refl; t2 = refl; t3 = place_of_bits p width; t4 = refl; t5 = refl; t6 = refl; t8 = refl; t9 = refl; t10 = refl; calls = refl }) refl
    (ap (λ b. if_held b (bits width)) (both_false (is_held p) false refl))
    (first_kept (width_fine width some most) refl refl none_kept)

pub named_type : (s : Scope) (p : TypePlace) (text : Name) (k : Kind) → sort_of s text ≡ a_type k → is_misplaced p k ≡ false → Keeps (type_uses s p (Named text None)) (if_held (is_held p && is_compound k) k)
named_type s p text k known fits = record {
  fine = (record { t1 = ap (λ (x : Sort). not (is_type_sort x)) known; t2 = refl; t3 = ap (λ (x : Sort). is_misplaced p (type_sort x)) known ∙ fits; t4 = refl; t5 = refl; t6 = refl; t8 = refl; t9 = refl; t10 = refl; calls = refl }, tt);
  shallow = refl;
  holds = ap (λ (x : Sort). if_held (is_held p && is_compound (type_sort x)) (type_sort x) ++ []) known ∙ none_behind (if_held (is_held p && is_compound k) k);
} where
  none_behind : (ks : List Kind) → ks ++ [] ≡ ks
  none_behind [] = refl
  none_behind (x ∷ ks) = ap (λ (zs : List Kind). x ∷ zs) (none_behind ks)

pub stack_type : (s : Scope) (text type : Name) (size : ℕ) → sort_of s text ≡ a_type (header type) → 0 < size → size ≤ 256 → Keeps (type_uses s of_field (Named text (Some (plain size)))) []
stack_type s text type size known some most =
    first_kept (record { t1 = ap (λ (x : Sort). not (is_type_sort x)) known; t2 = refl; t3 = ap (λ (x : Sort). is_misplaced of_field (stack_kind size (type_sort x))) known; t4 = refl; t5 = refl; t6 = refl; t8 = refl; t9 = refl; t10 = refl; calls = refl }) refl refl
    (first_kept (record { t1 = refl; t2 = neither _ _ (not_less size 1 (omega (arith, some))) (not_less 256 size most); t3 = refl; t4 = refl; t5 = refl; t6 = refl; t8 = refl; t9 = refl; t10 = refl; calls = refl }) refl refl none_kept)

-- headers

names_map : {X Y : Type 0} (f : X → Y) (g : Y → Name) (h : X → Name) → ((x : X) → g (f x) ≡ h x) → (xs : List X) → map g (map f xs) ≡ map h xs
names_map f g h same [] = refl
names_map f g h same (x ∷ xs) = ap₂ (λ a b. a ∷ b) (same x) (names_map f g h same xs)

widths_sum : (fields : List NamedField) → sum_by bits_of_field (map bit_field16 fields) ≡ sum_by width_of fields
widths_sum fields = from 0 fields where
  from : (a : ℕ) (fs : List NamedField) → fold (λ (n : ℕ) (f : BitField). n + bits_of_field f) a (map bit_field16 fs) ≡ fold (λ (n : ℕ) (f : NamedField). n + width_of f) a fs
  from a [] = refl
  from a (f ∷ fs) = from (a + f.width) fs

widths_kept : (fields : List NamedField) → AllByRecursion FitsWidth fields → Keeps (map field_width (map bit_field16 fields)) []
widths_kept [] all = none_kept
widths_kept (f ∷ fields) all = first_kept (width_fine f.width all.0.0 all.0.1) refl refl (widths_kept fields all.1)

whole_octets : (n : ℕ) → 0 < n → n % 8 ≡ 0 → is_no_octets n ≡ false
whole_octets n some even = neither _ _ (other n some) (ap (λ m. not (nat_eq m 0)) even) where
  other : (m : ℕ) → 0 < m → nat_eq m 0 ≡ false
  other m more = by (eqb_tells m 0) where
    by : ((eqb m 0 ≡ true) × (m ≡ 0)) ⊎ ((eqb m 0 ≡ false) × (m ≢ 0)) → eqb m 0 ≡ false
    by (inl same) = absurd (omega (arith, same.1, more))
    by (inr apart) = apart.0

pub header_kept : (called : Name) (fields : List NamedField) → HeaderFits fields → Keeps (header_uses (header16 called fields)) []
header_kept called fields fits =
    first_kept (names_fine _ (ap repeats (names_map bit_field16 field_name name_of_field (λ f. refl) fields) ∙ fits.differ)) refl refl
    (first_kept (record { t1 = refl; t2 = both_false (not (list_any has_bad_width (map bit_field16 fields))) _ (ap is_no_octets (widths_sum fields) ∙ whole_octets _ fits.some fits.octets); t3 = refl; t4 = refl; t5 = refl; t6 = refl; t8 = refl; t9 = refl; t10 = refl; calls = refl }) refl refl
    (widths_kept fields fits.widths))

-- structs

numbers_kept : (ns : List ℕ) → Keeps (map a_number (map plain ns ++ [])) []
numbers_kept [] = none_kept
numbers_kept (n ∷ ns) = first_kept (record { t1 = refl; t2 = refl; t3 = refl; t4 = refl; t5 = refl; t6 = refl; t8 = refl; t9 = refl; t10 = refl; calls = refl }) refl refl (numbers_kept ns)

pub marks_kept : (marks : List ℕ) → Keeps (note_uses (marks16 marks)) []
marks_kept [] = none_kept
marks_kept (n ∷ ns) = numbers_kept (n ∷ ns)

-- a struct, member by member
pub struct_kept : {X : Type 0} (s : Scope) (called : Name) (write : X → _) (name_in : X → Name) (P : X → Type 0) → ((x : X) → member_name (write x) ≡ name_in x) → ((x : X) → P x → Keeps (struct_field_uses s (write x)) []) → (xs : List X) → repeats (map name_in xs) ≡ false → AllByRecursion P xs → Keeps (struct_uses s (record { name = called; fields = map write xs })) []
struct_kept s called write name_in P same each xs differ all =
    first_kept (names_fine _ (ap repeats (names_map write member_name name_in same xs) ∙ differ)) refl refl (by xs all) where
      by : (xs : List _) → AllByRecursion P xs → Keeps (flat_map (struct_field_uses s) (map write xs)) []
      by [] all = none_kept
      by (x ∷ xs) all = behind_kept (each x all.0) (by xs all.1)

abbrev pub marked_name : MarkedField → Name
marked_name f = f.field.called

abbrev pub FitsMarked : MarkedField → Type 0
FitsMarked f = FitsWidth f.field

pub metadata_kept : (s : Scope) (called : Name) (fields : List MarkedField) → repeats (map marked_name fields) ≡ false → AllByRecursion FitsMarked fields → Keeps (struct_uses s (metadata16 called fields)) []
metadata_kept s called fields differ widths =
    struct_kept s called marked_field16 marked_name FitsMarked (λ f. refl) (λ f w. behind_kept (marks_kept f.marks) (bits_type s of_field f.field.width w.0 w.1)) fields differ widths

abbrev pub typed_name : TypedField → Name
typed_name f = f.called

type_there : (s : Scope) (type : Name) (size : Option ℕ) → TypeIsThere s type size → Keeps (type_uses s of_field (Named type (size16 size))) []
type_there s type None (inl known) = named_type s of_field type (header type) known refl
type_there s type None (inr known) = named_type s of_field type (struct type) known refl
type_there s type (Some n) is = stack_type s type type n is.0 is.1 is.2

pub members_kept : (s : Scope) (called : Name) (fields : List TypedField) → repeats (map typed_name fields) ≡ false → AllByRecursion (FieldIsThere s) fields → Keeps (struct_uses s (struct16 called fields)) []
members_kept s called fields differ there =
    struct_kept s called typed_field16 typed_name (FieldIsThere s) (λ f. refl) (λ f is. type_there s f.type f.size is) fields differ there

-- objects

pub counter_kept : (s : Scope) (notes : List Note) (of : CounterType) (cells : ℕ) (called : Name) → Keeps (note_uses notes) [] → cells < 2 ^ 32 → Keeps (object_uses s notes (instance.Counter (literal (sized 32 cells)) (member_of.CounterType of) called)) []
counter_kept s notes of cells called noted fits =
    behind_kept noted (first_kept (record { t1 = refl; t2 = refl; t3 = refl; t4 = refl; t5 = refl; t6 = refl; t8 = refl; t9 = refl; t10 = refl; calls = refl }) refl refl (sits_kept (sits_literal s 32 cells fits) (omega arith)))

pub direct_counter_kept : (s : Scope) (notes : List Note) (of : CounterType) (called : Name) → Keeps (note_uses notes) [] → Keeps (object_uses s notes (instance.DirectCounter (member_of.CounterType of) called)) []
direct_counter_kept s notes of called noted =
    behind_kept noted (first_kept (record { t1 = refl; t2 = refl; t3 = refl; t4 = refl; t5 = refl; t6 = refl; t8 = refl; t9 = refl; t10 = refl; calls = refl }) refl refl none_kept)

pub register_kept : (s : Scope) (notes : List Note) (width cells : ℕ) (called : Name) → Keeps (note_uses notes) [] → 0 < width → width ≤ 128 → cells < 2 ^ 32 → Keeps (object_uses s notes (instance.Register (plain width) (literal (sized 32 cells)) called)) []
register_kept s notes width cells called noted some most fits =
    behind_kept noted (first_kept (width_fine width some most) refl refl (sits_kept (sits_literal s 32 cells fits) (omega arith)))

pub meter_kept : (s : Scope) (notes : List Note) (of : MeterType) (cells : ℕ) (called : Name) → Keeps (note_uses notes) [] → cells < 2 ^ 32 → Keeps (object_uses s notes (instance.Meter (literal (sized 32 cells)) (member_of.MeterType of) called)) []
meter_kept s notes of cells called noted fits =
    behind_kept noted (first_kept (record { t1 = refl; t2 = refl; t3 = refl; t4 = refl; t5 = refl; t6 = refl; t8 = refl; t9 = refl; t10 = refl; calls = refl }) refl refl (sits_kept (sits_literal s 32 cells fits) (omega arith)))
