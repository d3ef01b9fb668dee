-- What stands at a place among arguments, and how numbers, targets and sources are kept.
use Rattle.std.proofs.Common.{◌≡◌, ℕ, zero, suc, ◌-◌, Bool, true, false, cond, List, [], ◌∷◌, length, map, slice_get, Option, Some, None, option_map, pos, neg_ℤ, refl, sym, ap, ap₂, ◌∙◌, arith}
use Rattle.std.specs.Prelude.{unwrap_or, option_and_then}
use Rattle.std.specs.Option.{option_map_or}
use Rattle.std.proofs.lemmas.Option.{slice_get-map, unwrap_or-slice_get}
use Rattle.p414_syntax.specs.declared.headers.Field.{Field}
use Rattle.p414_syntax.specs.declared.parts.Ref.{Ref}
use Rattle.p414_syntax.specs.declared.syntax.Decl.{Decl}
use Rattle.p414_syntax.specs.Views.{HeaderTypeTree}
use Rattle.p414_syntax.specs.Names.{Name, find_name, field_name}
use Rattle.p414_syntax.specs.Fields.{instance_type}
use Rattle.p414_syntax.specs.Expansion.{type_fields}
use Rattle.p414_syntax.specs.Primitives.{is_standard}
use Rattle.p414_syntax.specs.ActionExpansion.{given_for}
use Rattle.p414_syntax.specs.Arguments.{Argument, number_argument, field_argument, parameter_argument, name_argument}
use Rattle.p414_sem.specs.Operations.{Source, field, write, argument_at, element_count, list_at}
use Rattle.p414_sem.specs.Slots.{Target, field_number, is_saturating, is_saturating_in, is_saturating_ref}
use Rattle.p414_wholes.specs.declared.whole.Whole.TheVariants as whole
use Rattle.p414_wholes.specs.Shown.{kept_whole}
use Rattle.p414_ready_actions.specs.declared.words.Join.{Join}
use Rattle.p414_ready_actions.specs.declared.words.Join.TheVariants as join
use Rattle.p414_ready_actions.specs.declared.rows.ReadySource.{ReadySource}
use Rattle.p414_ready_actions.specs.declared.rows.ReadySource.TheVariants as ready_source
use Rattle.p414_ready_actions.specs.declared.rows.ReadyTarget.{ReadyTarget}
use Rattle.p414_ready_actions.specs.declared.rows.ReadyTerm.{ReadyTerm}
use Rattle.p414_ready_actions.specs.declared.rows.ReadyPrimitive.TheVariants as ready
use Rattle.p414_ready_actions.specs.Rows.{kept_primitive, kept_source, kept_target, kept_term}
use Rattle.p414_ready_actions.specs.Words.{called_with, joined_by, joined_row}
use Rattle.p414_ready_actions.specs.internal.Places.{count_by, is_saturating_number, list_by}

-- places

mapped_there : {X Y : Type 0} (f : X → Y) (xs : List X) (n : ℕ) (x : X) → slice_get xs n ≡ Some x → slice_get (map f xs) n ≡ Some (f x)
mapped_there f xs n x is = slice_get-map f xs n ∙ ap (option_map f) is

mapped_none : {X Y : Type 0} (f : X → Y) (xs : List X) (n : ℕ) → slice_get xs n ≡ None → slice_get (map f xs) n ≡ None
mapped_none f xs n is = slice_get-map f xs n ∙ ap (option_map f) is

pub some_there : {X : Type 0} (f : X → Argument) (xs : List X) (n : ℕ) (x : X) → slice_get xs n ≡ Some x → f x ≡ argument_at (called_with (map f xs)) n
some_there f xs n x is =
    sym (ap (λ (o : Option Argument). unwrap_or o (number_argument (record { sign = None; literal = record { width = None; value = 0 } }))) (mapped_there f xs n x is))
    ∙ unwrap_or-slice_get (map f xs) n (number_argument (record { sign = None; literal = record { width = None; value = 0 } }))

pub none_there : {X : Type 0} (f : X → Argument) (xs : List X) (n : ℕ) → slice_get xs n ≡ None → number_argument (record { sign = None; literal = record { width = None; value = 0 } }) ≡ argument_at (called_with (map f xs)) n
none_there f xs n is =
    sym (ap (λ (o : Option Argument). unwrap_or o (number_argument (record { sign = None; literal = record { width = None; value = 0 } }))) (mapped_none f xs n is))
    ∙ unwrap_or-slice_get (map f xs) n (number_argument (record { sign = None; literal = record { width = None; value = 0 } }))

pub given_there : {X : Type 0} (f : X → Argument) (xs : List X) (n : ℕ) (x : X) → slice_get xs n ≡ Some x → f x ≡ given_for (map f xs) (parameter_argument n)
given_there f xs n x is = sym (ap (λ (o : Option Argument). unwrap_or o (parameter_argument n)) (mapped_there f xs n x is))

pub given_none : {X : Type 0} (f : X → Argument) (xs : List X) (n : ℕ) → slice_get xs n ≡ None → parameter_argument n ≡ given_for (map f xs) (parameter_argument n)
given_none f xs n is = sym (ap (λ (o : Option Argument). unwrap_or o (parameter_argument n)) (mapped_none f xs n is))

-- the definitions by cases on what stands at a place are the plain ones

counted_by : (a : Argument) (i : List Argument) → slice_get i 1 ≡ Some a → count_by a ≡ element_count (called_with i)
counted_by (number_argument n) i is = rw is refl
counted_by (field_argument r) i is = rw is refl
counted_by (parameter_argument n) i is = rw is refl
counted_by (name_argument r) i is = rw is refl

pub count_there : {X : Type 0} (f : X → Argument) (xs : List X) (x : X) (n : ℕ) → slice_get xs 1 ≡ Some x → n ≡ count_by (f x) → n ≡ element_count (called_with (map f xs))
count_there f xs x n is e = e ∙ counted_by (f x) (map f xs) (mapped_there f xs 1 x is)

pub count_none : {X : Type 0} (f : X → Argument) (xs : List X) → slice_get xs 1 ≡ None → 1 ≡ element_count (called_with (map f xs))
count_none f xs is = rw (mapped_none f xs 1 is) refl

listed_by : (ds : List Decl) (a : Argument) (i : List Argument) (place : ℕ) → slice_get i place ≡ Some a → list_by ds a ≡ list_at ds (called_with i) place
listed_by ds (number_argument n) i place is = rw is refl
listed_by ds (field_argument r) i place is = rw is refl
listed_by ds (parameter_argument n) i place is = rw is refl
listed_by ds (name_argument r) i place is = rw is refl

pub list_there : {X : Type 0} (ds : List Decl) (f : X → Argument) (xs : List X) (x : X) (place : ℕ) (o : Option ℕ) → slice_get xs place ≡ Some x → o ≡ list_by ds (f x) → o ≡ list_at ds (called_with (map f xs)) place
list_there ds f xs x place o is e = e ∙ listed_by ds (f x) (map f xs) place (mapped_there f xs place x is)

pub list_none : {X : Type 0} (ds : List Decl) (f : X → Argument) (xs : List X) (place : ℕ) → slice_get xs place ≡ None → None ≡ list_at ds (called_with (map f xs)) place
list_none ds f xs place is = rw (mapped_none f xs place is) refl

-- numbers with a minus sign

pub minus_none : (value : ℕ) → value ≡ 0 → whole.Plus 0 ≡ kept_whole (neg_ℤ (pos value))
minus_none zero e = refl
minus_none (suc n) e = absurd (cc e)

pub minus_some : (value : ℕ) → (value ≡ 0 → ⊥) → whole.Minus (value - 1) ≡ kept_whole (neg_ℤ (pos value))
minus_some zero some = absurd (some refl)
minus_some (suc n) some = let same : suc n - 1 ≡ n = omega arith in ap whole.Minus same

-- a field is saturating by its number as by its name

by_number : (fields : List Field) (o : Option ℕ) (count : ℕ) → slice_get fields count ≡ None → option_map_or is_saturating (slice_get fields (unwrap_or o count)) false ≡ option_map_or is_saturating (option_and_then (slice_get fields) o) false
by_number fields (Some n) count past = refl
by_number fields None count past = ap (λ (f : Option Field). option_map_or is_saturating f false) past

none_past : {X Y : Type 0} (f : X → Y) (xs : List X) → slice_get xs (length (map f xs)) ≡ None
none_past f [] = refl
none_past f (x ∷ xs) = none_past f xs

in_type : (o : Option HeaderTypeTree) (name : Name) → option_map_or (λ (t : HeaderTypeTree). option_map_or is_saturating (slice_get t.fields (unwrap_or (find_name (option_map_or type_fields o []) name) (length (option_map_or type_fields o [])))) false) o false ≡ option_map_or (is_saturating_in name) o false
in_type None name = refl
in_type (Some t) name = by_number t.fields (find_name (map field_name t.fields) name) (length (map field_name t.fields)) (none_past field_name t.fields)

pub same_saturating : (ds : List Decl) (r : Ref) (n : ℕ) (is : Bool) → is_standard r.instance.name ≡ false → n ≡ field_number ds r.instance.name r.field → is ≡ is_saturating_number ds r.instance.name n → is ≡ is_saturating_ref ds r
same_saturating ds r n is other number told =
    told
    ∙ (ap (is_saturating_number ds r.instance.name) number
    ∙ (in_type (instance_type ds r.instance.name) r.field
    ∙ sym (ap (λ b. cond b false (option_map_or (is_saturating_in r.field) (instance_type ds r.instance.name) false)) other)))

-- sources that are joined

joined_kept : (j : Join) (a b : Source) → joined_row j (kept_source a) (kept_source b) ≡ kept_term (joined_by j a b)
joined_kept join.OnMask a b = refl
joined_kept join.Sum a b = refl
joined_kept join.Difference a b = refl
joined_kept join.And a b = refl
joined_kept join.Or a b = refl
joined_kept join.Xor a b = refl
joined_kept join.LeftShift a b = refl
joined_kept join.RightShift a b = refl

pub writes_kept : (sums : Bool) (t : Target) (j : Join) (a b : Source) (kept : ReadyTarget) (term : ReadyTerm) (first second : ReadySource) → kept ≡ kept_target sums t → first ≡ kept_source a → second ≡ kept_source b → term ≡ joined_row j first second → ready.Write kept term ≡ kept_primitive (write sums t (joined_by j a b))
writes_kept sums t j a b kept term first second is e f joined =
    ap₂ ready.Write is (joined ∙ (ap₂ (joined_row j) e f ∙ joined_kept j a b))

pub changes_kept : (t : Target) (j : Join) (b : Source) (kept : ReadyTarget) (term : ReadyTerm) (second : ReadySource) → kept ≡ kept_target true t → second ≡ kept_source b → term ≡ joined_row j (ready_source.Field kept.slot) second → ready.Write kept term ≡ kept_primitive (write true t (joined_by j (field t.slot) b))
changes_kept t j b kept term second is f joined =
    ap₂ ready.Write is
    (joined ∙ (ap₂ (joined_row j) (ap (λ (k : ReadyTarget). ready_source.Field k.slot) is) f ∙ joined_kept j (field t.slot) b))
