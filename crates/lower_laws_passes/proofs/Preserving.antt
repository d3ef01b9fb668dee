-- Preserved sets correspond.
use Rattle.std.proofs.Common.{◌≡◌, ℕ, zero, suc, ◌<◌, Bool, true, false, cond, Some, List, [], ◌∷◌, length, get_or, refl, sym, ap, ◌∙◌, subst, arith}
use Rattle.std.specs.Str.{bytes_eq}
use Rattle.p416_syntax.specs.declared.parts.StructField.{StructField}
use Rattle.p416_syntax.specs.declared.program.Decl16.{Decl16}
use Rattle.p416_syntax.specs.Names.{Name}
use Rattle.v1_core.specs.Values.{Value, a_number, a_truth, an_error, a_header, a_stack, no_members, a_member, a_symbol, some_bits, no_value, member_in}
use Rattle.v1_core.specs.Passes.{is_in_list, number_if_in_list, fields_of_type, preserved_in}
use Rattle.agreement_of_meanings.specs.Shown.{NamedField, shown_members}
use Rattle.std.specs.Prelude.{map}
use Rattle.lower_laws_base.specs.Context.{HasMembers}
use Rattle.lower_laws_passes.specs.Preserving.{Aligned, field_named, struct_field_at}
use Rattle.lower_laws_passes.specs.Types.{member_of}

-- P4_16: by place

-- what a list preserves of one member
abbrev pub one_kept : List Decl16 → ℕ → StructField → Value → Value
one_kept ds list f (a_number width number) = a_number width (number_if_in_list list f number)
one_kept ds list f of = preserved_in ds list (fields_of_type ds f.of) of

one_by_one : (ds : List Decl16) (list : ℕ) (f : StructField) (fields : List StructField) (called : Name) (of rest : Value) → preserved_in ds list (f ∷ fields) (a_member called of rest) ≡ a_member called (one_kept ds list f of) (preserved_in ds list fields rest)
one_by_one ds list f fields called (a_number width number) rest = refl
one_by_one ds list f fields called (a_truth b) rest = refl
one_by_one ds list f fields called (an_error k) rest = refl
one_by_one ds list f fields called (a_header h) rest = refl
one_by_one ds list f fields called (a_stack p es) rest = refl
one_by_one ds list f fields called no_members rest = refl
one_by_one ds list f fields called (a_member a b d) rest = refl
one_by_one ds list f fields called (a_symbol w) rest = refl
one_by_one ds list f fields called (some_bits bs) rest = refl
one_by_one ds list f fields called no_value rest = refl

pub member_kept : (ds : List Decl16) (list : ℕ) (fields : List StructField) (v : Value) (word : Name) (f : StructField) → Aligned fields v → field_named fields word ≡ Some f → member_in (preserved_in ds list fields v) word ≡ one_kept ds list f (member_in v word)
member_kept ds list [] v word f aligned is = absurd (cc is)
member_kept ds list (g ∷ fields) (a_member called of rest) word f aligned is =
    ap (λ z. member_in z word) (one_by_one ds list g fields called of rest)
    ∙ by (bytes_eq called word) (subst (λ z. cond (bytes_eq z word) (Some g) (field_named fields word) ≡ Some f) (sym aligned.0) is) (member_kept ds list fields rest word f aligned.1) where
      by : (b : Bool) → cond b (Some g) (field_named fields word) ≡ Some f → (field_named fields word ≡ Some f → member_in (preserved_in ds list fields rest) word ≡ one_kept ds list f (member_in rest word)) → cond b (one_kept ds list g of) (member_in (preserved_in ds list fields rest) word) ≡ one_kept ds list f (cond b of (member_in rest word))
      by true e more = let same : g ≡ f = cc e in ap (λ z. one_kept ds list z of) same
      by false e more = more e
member_kept ds list (g ∷ fields) (a_number width number) word f aligned is = absurd aligned
member_kept ds list (g ∷ fields) (a_truth b) word f aligned is = absurd aligned
member_kept ds list (g ∷ fields) (an_error k) word f aligned is = absurd aligned
member_kept ds list (g ∷ fields) (a_header h) word f aligned is = absurd aligned
member_kept ds list (g ∷ fields) (a_stack p es) word f aligned is = absurd aligned
member_kept ds list (g ∷ fields) no_members word f aligned is = absurd aligned
member_kept ds list (g ∷ fields) (a_symbol w) word f aligned is = absurd aligned
member_kept ds list (g ∷ fields) (some_bits bs) word f aligned is = absurd aligned
member_kept ds list (g ∷ fields) no_value word f aligned is = absurd aligned

pub aligned_of : (fields : List StructField) (v : Value) → HasMembers (map member_of fields) v → Aligned fields v
aligned_of [] v has = tt
aligned_of (f ∷ fields) (a_member called of rest) has = (has.0, aligned_of fields rest has.1)
aligned_of (f ∷ fields) (a_number a b) has = absurd has
aligned_of (f ∷ fields) (a_truth a) has = absurd has
aligned_of (f ∷ fields) (an_error a) has = absurd has
aligned_of (f ∷ fields) (a_header a) has = absurd has
aligned_of (f ∷ fields) (a_stack a b) has = absurd has
aligned_of (f ∷ fields) no_members has = absurd has
aligned_of (f ∷ fields) (a_symbol a) has = absurd has
aligned_of (f ∷ fields) (some_bits a) has = absurd has
aligned_of (f ∷ fields) no_value has = absurd has

-- the members of a struct stay in their places
pub members_kept : (ds : List Decl16) (list : ℕ) (xs : List Name) (fields : List StructField) (v : Value) → HasMembers xs v → HasMembers xs (preserved_in ds list fields v)
members_kept ds list xs [] v has = has
members_kept ds list (x ∷ xs) (f ∷ fields) (a_member called of rest) has =
    subst (HasMembers (x ∷ xs)) (sym (one_by_one ds list f fields called of rest)) (has.0, members_kept ds list xs fields rest has.1)
members_kept ds list [] (f ∷ fields) (a_member called of rest) has = absurd has
members_kept ds list xs (f ∷ fields) no_members has = has
members_kept ds list xs (f ∷ fields) (a_number a b) has = has
members_kept ds list xs (f ∷ fields) (a_truth a) has = has
members_kept ds list xs (f ∷ fields) (an_error a) has = has
members_kept ds list xs (f ∷ fields) (a_header a) has = has
members_kept ds list xs (f ∷ fields) (a_stack a b) has = has
members_kept ds list xs (f ∷ fields) (a_symbol a) has = has
members_kept ds list xs (f ∷ fields) (some_bits a) has = has
members_kept ds list xs (f ∷ fields) no_value has = has

-- the numbers of one struct
abbrev pub numbers_kept : ℕ → List StructField → List ℕ → List ℕ
numbers_kept list [] numbers = numbers
numbers_kept list (f ∷ fields) [] = []
numbers_kept list (f ∷ fields) (n ∷ numbers) = number_if_in_list list f n ∷ numbers_kept list fields numbers

inside_kept : (ds : List Decl16) (list : ℕ) (inner : List StructField) (fields : List NamedField) (numbers : List ℕ) → preserved_in ds list inner (shown_members fields numbers) ≡ shown_members fields (numbers_kept list inner numbers)
inside_kept ds list [] fields numbers = refl
inside_kept ds list (g ∷ inner) [] numbers = nothing numbers where
  nothing : (numbers : List ℕ) → preserved_in ds list (g ∷ inner) no_members ≡ shown_members [] (numbers_kept list (g ∷ inner) numbers)
  nothing numbers = refl
inside_kept ds list (g ∷ inner) (f ∷ fields) [] = refl
inside_kept ds list (g ∷ inner) (f ∷ fields) (n ∷ numbers) =
    ap (a_member f.called (a_number f.width (number_if_in_list list g n))) (inside_kept ds list inner fields numbers)

pub struct_kept : (ds : List Decl16) (list : ℕ) (f : StructField) (inner : List StructField) (fields : List NamedField) (numbers : List ℕ) → fields_of_type ds f.of ≡ inner → one_kept ds list f (shown_members fields numbers) ≡ shown_members fields (numbers_kept list inner numbers)
struct_kept ds list f inner fields numbers is = whole fields numbers ∙ ap (λ z. preserved_in ds list z (shown_members fields numbers)) is ∙ inside_kept ds list inner fields numbers where
  whole : (fields : List NamedField) (numbers : List ℕ) → one_kept ds list f (shown_members fields numbers) ≡ preserved_in ds list (fields_of_type ds f.of) (shown_members fields numbers)
  whole [] numbers = refl
  whole (g ∷ fields) [] = refl
  whole (g ∷ fields) (n ∷ numbers) = refl

pub number_kept : (list : ℕ) (inner : List StructField) (numbers : List ℕ) (f : ℕ) → f < length numbers → length inner ≡ length numbers → get_or (numbers_kept list inner numbers) f 0 ≡ cond (is_in_list list (struct_field_at inner f)) (get_or numbers f 0) 0
number_kept list [] numbers f lt count = absurd (omega (arith, lt, count))
number_kept list (g ∷ inner) [] f lt count = absurd (omega (arith, lt))
number_kept list (g ∷ inner) (n ∷ numbers) zero lt count = refl
number_kept list (g ∷ inner) (n ∷ numbers) (suc f) lt count = number_kept list inner numbers f (omega (arith, lt)) (omega (arith, count))

pub length_kept : (list : ℕ) (inner : List StructField) (numbers : List ℕ) → length (numbers_kept list inner numbers) ≡ length numbers
length_kept list [] numbers = refl
length_kept list (g ∷ inner) [] = refl
length_kept list (g ∷ inner) (n ∷ numbers) = ap suc (length_kept list inner numbers)
