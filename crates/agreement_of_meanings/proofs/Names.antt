-- Names that differ, members and fields by their names, and what instances are shown as.
use Rattle.std.proofs.Common.{◌≡◌, ◌≢◌, ℕ, zero, suc, ◌<◌, ◌%◌, ◌^◌, Bool, true, false, cond, Some, List, [], ◌∷◌, length, get_or, set, refl, sym, ap, ◌∙◌, subst, arith}
use Rattle.std.proofs.lemmas.Bool.Decides.{not_from_Decides}
use Rattle.std.proofs.lemmas.Slice.Eq.{bytes_eq-Decides}
use Rattle.std.specs.Str.{bytes_eq}
use Rattle.p414_sem.specs.State.{Header as Header14, Instance, with_field as with_field14}
use Rattle.p416_syntax.specs.Names.{Name}
use Rattle.v1_core.specs.Values.{Field, Header, Value, a_number, a_truth, an_error, a_header, a_stack, no_members, a_member, a_symbol, some_bits, no_value, number_in, to_member, member_in, with_member, part_of, with_part, fitted, field_in, field_value, with_field, with_header_field}
use Rattle.agreement_of_meanings.specs.Shown.{NamedField, field_at, FieldsDiffer, Shown, as_header, as_stack, as_metadata, shown_fields, shown_header, shown_members, shown_value, element}

-- names

pub same_name : (a : Name) → bytes_eq a a ≡ true
same_name a = (bytes_eq-Decides a a).1 refl

pub other_name : (a b : Name) → a ≢ b → bytes_eq a b ≡ false
other_name a b differ = by (bytes_eq a b) refl where
  by : (t : Bool) → bytes_eq a b ≡ t → bytes_eq a b ≡ false
  by true e = absurd (differ ((bytes_eq-Decides a b).0 e))
  by false e = e

pub differ_names : (a b : Name) → bytes_eq a b ≡ false → a ≢ b
differ_names a b e same = not_from_Decides (bytes_eq a b) (bytes_eq-Decides a b) e same

-- members

-- something stands there
abbrev pub is_there : Value → Bool
is_there (a_number width number) = true
is_there (a_truth holds) = true
is_there (an_error number) = true
is_there (a_header of) = true
is_there (a_stack place elements) = true
is_there no_members = true
is_there (a_member called of rest) = true
is_there (a_symbol word) = true
is_there (some_bits items) = true
is_there no_value = false

pub part_is : (v : Value) (word : Name) → is_there (member_in v word) ≡ true → part_of v (to_member word) ≡ member_in v word
part_is (a_number width number) word e = refl
part_is (a_truth holds) word e = refl
part_is (an_error number) word e = refl
part_is (a_header of) word e = absurd (cc e)
part_is (a_stack place elements) word e = refl
part_is no_members word e = refl
part_is (a_member called of rest) word e = refl
part_is (a_symbol w) word e = refl
part_is (some_bits items) word e = refl
part_is no_value word e = refl

pub put_is : (v : Value) (word : Name) (y : Value) → is_there (member_in v word) ≡ true → with_part v (to_member word) y ≡ with_member v word y
put_is (a_number width number) word y e = refl
put_is (a_truth holds) word y e = refl
put_is (an_error number) word y e = refl
put_is (a_header of) word y e = absurd (cc e)
put_is (a_stack place elements) word y e = refl
put_is no_members word y e = refl
put_is (a_member called of rest) word y e = refl
put_is (a_symbol w) word y e = refl
put_is (some_bits items) word y e = refl
put_is no_value word y e = refl

pub member_same : (v : Value) (word : Name) (y : Value) → is_there (member_in v word) ≡ true → member_in (with_member v word y) word ≡ y
member_same (a_number width number) word y e = absurd (cc e)
member_same (a_truth holds) word y e = absurd (cc e)
member_same (an_error number) word y e = absurd (cc e)
member_same (a_header of) word y e = absurd (cc e)
member_same (a_stack place elements) word y e = absurd (cc e)
member_same no_members word y e = absurd (cc e)
member_same (a_member called of rest) word y e = by (bytes_eq called word) refl (λ there. member_same rest word y there) where
  by : (t : Bool) → bytes_eq called word ≡ t → (is_there (member_in rest word) ≡ true → member_in (with_member rest word y) word ≡ y) → member_in (with_member (a_member called of rest) word y) word ≡ y
  by true same further = rw same (rw same refl)
  by false other further = rw other (rw other (further (subst (λ t. is_there (cond t of (member_in rest word)) ≡ true) other e)))
member_same (a_symbol w) word y e = absurd (cc e)
member_same (some_bits items) word y e = absurd (cc e)
member_same no_value word y e = absurd (cc e)

pub member_other : (v : Value) (word other : Name) (y : Value) → word ≢ other → member_in (with_member v word y) other ≡ member_in v other
member_other (a_number width number) word other y differ = refl
member_other (a_truth holds) word other y differ = refl
member_other (an_error number) word other y differ = refl
member_other (a_header of) word other y differ = refl
member_other (a_stack place elements) word other y differ = refl
member_other no_members word other y differ = refl
member_other (a_member called of rest) word other y differ = by (bytes_eq called word) refl (member_other rest word other y differ) where
  by : (t : Bool) → bytes_eq called word ≡ t → member_in (with_member rest word y) other ≡ member_in rest other → member_in (with_member (a_member called of rest) word y) other ≡ member_in (a_member called of rest) other
  by true same further =
      let away : bytes_eq called other ≡ false = other_name called other (λ is. differ (sym ((bytes_eq-Decides called word).0 same) ∙ is)) in
      rw same (rw away refl)
  by false apart further = rw apart (ap (λ z. cond (bytes_eq called other) of z) further)
member_other (a_symbol w) word other y differ = refl
member_other (some_bits items) word other y differ = refl
member_other no_value word other y differ = refl

-- fields

-- the field with this name is that with this number, and no earlier one has its name
abbrev pub IsFieldAt : List NamedField → Name → ℕ → Type 0
IsFieldAt [] word k = ⊥
IsFieldAt (f ∷ fields) word zero = f.called ≡ word
IsFieldAt (f ∷ fields) word (suc k) = (f.called ≢ word) × IsFieldAt fields word k

pub field_is_at : (fields : List NamedField) (k : ℕ) → FieldsDiffer fields → k < length fields → IsFieldAt fields (field_at fields k).called k
field_is_at [] k differ lt = absurd (omega (arith, lt))
field_is_at (f ∷ fields) zero differ lt = refl
field_is_at (f ∷ fields) (suc k) differ lt = (
  differ 0 (suc k) (omega arith) lt (λ e. absurd (omega (arith, e))),
  field_is_at fields k (λ i j a b apart. differ (suc i) (suc j) (omega arith) (omega arith) (λ e. apart (omega (arith, e)))) (omega arith),
)

abbrev pub a_field : NamedField → ℕ → Field
a_field f n = record { called = f.called; width = f.width; number = n }

pub field_found : (fields : List NamedField) (numbers : List ℕ) (word : Name) (k : ℕ) → length numbers ≡ length fields → IsFieldAt fields word k → field_in (shown_fields fields numbers) word ≡ Some (a_field (field_at fields k) (get_or numbers k 0))
field_found [] numbers word k count at = absurd at
field_found (f ∷ fields) [] word k count at = absurd (omega (arith, count))
field_found (f ∷ fields) (n ∷ numbers) word zero count at =
    let same : bytes_eq f.called word ≡ true = (bytes_eq-Decides f.called word).1 at in rw same refl
field_found (f ∷ fields) (n ∷ numbers) word (suc k) count at =
    let other : bytes_eq f.called word ≡ false = other_name f.called word at.0 in
    rw other (field_found fields numbers word k (omega arith) at.1)

pub field_written : (fields : List NamedField) (numbers : List ℕ) (word : Name) (k n : ℕ) → IsFieldAt fields word k → with_field (shown_fields fields numbers) word n ≡ shown_fields fields (set numbers k n)
field_written [] numbers word k n at = absurd at
field_written (f ∷ fields) [] word zero n at = refl
field_written (f ∷ fields) [] word (suc k) n at = refl
field_written (f ∷ fields) (m ∷ numbers) word zero n at =
    let same : bytes_eq f.called word ≡ true = (bytes_eq-Decides f.called word).1 at in rw same refl
field_written (f ∷ fields) (m ∷ numbers) word (suc k) n at =
    let other : bytes_eq f.called word ≡ false = other_name f.called word at.0 in
    rw other (ap (λ rest. a_field f m ∷ rest) (field_written fields numbers word k n at.1))

-- a header's field with another number, cut to its width
pub header_field : (fields : List NamedField) (h : Header14) (word : Name) (k : ℕ) (v : Value) → length h.numbers ≡ length fields → IsFieldAt fields word k → with_header_field (shown_header fields h) word (fitted (field_value h.valid (field_in (shown_fields fields h.numbers) word)) v) ≡ shown_header fields (cond h.valid (with_field14 h k (number_in v % 2 ^ (field_at fields k).width)) h)
header_field fields h word k v count at = by h.valid refl where
  by : (b : Bool) → h.valid ≡ b → with_header_field (shown_header fields h) word (fitted (field_value h.valid (field_in (shown_fields fields h.numbers) word)) v) ≡ shown_header fields (cond h.valid (with_field14 h k (number_in v % 2 ^ (field_at fields k).width)) h)
  by true e =
      let found : field_in (shown_fields fields h.numbers) word ≡ Some (a_field (field_at fields k) (get_or h.numbers k 0)) = field_found fields h.numbers word k count at in
      rw (found, e) (ap (λ (fs : List Field). let x : Header = record { valid = true; fields = fs } in x) (field_written fields h.numbers word k (number_in v % 2 ^ (field_at fields k).width) at))
  by false e = rw e refl

pub header_read : (fields : List NamedField) (h : Header14) (word : Name) (k : ℕ) → length h.numbers ≡ length fields → IsFieldAt fields word k → field_value h.valid (field_in (shown_fields fields h.numbers) word) ≡ a_number (field_at fields k).width (cond h.valid (get_or h.numbers k 0) 0)
header_read fields h word k count at = ap (field_value h.valid) (field_found fields h.numbers word k count at)

-- metadata

pub number_found : (fields : List NamedField) (numbers : List ℕ) (word : Name) (k : ℕ) → length numbers ≡ length fields → IsFieldAt fields word k → member_in (shown_members fields numbers) word ≡ a_number (field_at fields k).width (get_or numbers k 0)
number_found [] numbers word k count at = absurd at
number_found (f ∷ fields) [] word k count at = absurd (omega (arith, count))
number_found (f ∷ fields) (n ∷ numbers) word zero count at =
    let same : bytes_eq f.called word ≡ true = (bytes_eq-Decides f.called word).1 at in rw same refl
number_found (f ∷ fields) (n ∷ numbers) word (suc k) count at =
    let other : bytes_eq f.called word ≡ false = other_name f.called word at.0 in
    rw other (number_found fields numbers word k (omega arith) at.1)

pub number_written : (fields : List NamedField) (numbers : List ℕ) (word : Name) (k n : ℕ) → length numbers ≡ length fields → IsFieldAt fields word k → with_member (shown_members fields numbers) word (a_number (field_at fields k).width n) ≡ shown_members fields (set numbers k n)
number_written [] numbers word k n count at = absurd at
number_written (f ∷ fields) [] word k n count at = absurd (omega (arith, count))
number_written (f ∷ fields) (m ∷ numbers) word zero n count at =
    let same : bytes_eq f.called word ≡ true = (bytes_eq-Decides f.called word).1 at in rw same refl
number_written (f ∷ fields) (m ∷ numbers) word (suc k) n count at =
    let other : bytes_eq f.called word ≡ false = other_name f.called word at.0 in
    rw other (ap (a_member f.called (a_number f.width m)) (number_written fields numbers word k n (omega arith) at.1))

-- what is shown is there
pub shown_there : (x : Shown) (i : Instance) → is_there (shown_value x i) ≡ true
shown_there (as_header called fields) i = refl
shown_there (as_stack called fields) i = refl
shown_there (as_metadata called fields) i = by fields (element i 0).numbers where
  by : (fields : List NamedField) (numbers : List ℕ) → is_there (shown_members fields numbers) ≡ true
  by [] numbers = refl
  by (f ∷ fields) [] = refl
  by (f ∷ fields) (n ∷ numbers) = refl
