-- Where a part alone differs, the whole is the old whole with that part replaced.
use Rattle.std.proofs.Common.{◌≡◌, ◌⊎◌, inl, inr, ℕ, zero, suc, ◌+◌, ◌*◌, ◌<◌, ◌≤◌, Bool, true, false, cond, Option, Some, None, List, [], ◌∷◌, length, get_or, set, refl, sym, ap, ◌∙◌, subst, arith, IfSome}
use Rattle.std.specs.Str.{bytes_eq}
use Rattle.p416_syntax.specs.Names.{Name}
use Rattle.p416_syntax.specs.Scopes.{Layout as TypeLayout, FieldKind, fields_in}
use Rattle.p416_syntax.specs.Totals.{bits_in}
use Rattle.v1_core.specs.Values.{Field, Header, Value, a_header, a_stack, a_member, no_header, number_in, header_in, Step, to_member, to_element, part_of, part_at, member_in, with_field, with_header_field, with_member, with_part, with_part_at, fitted}
use Rattle.v1_core.specs.Layouts.{Layout}
use Rattle.v1_core.specs.Cells.{Cells, owner_valid, slot_value, header_valid, stack_place}
use Rattle.v1_core.specs.Seats.{Form, slot_form, header_form, stack_form, struct_form, no_form, form_of, Start, moved, behind_members, behind, Seat, seat, behind_seat, member_seat, field_form, field_seat, element_seat, seat_behind, seat_at}
use Rattle.v1_core.specs.PackedValues.{field_values, header_value, element_values, member_values, value_from, seat_value}
use Rattle.v1_core.specs.Laid.{AreFields, IsHeader, AreElements, AreMembers, IsLaid}
use Rattle.v1_core.proofs.Starts.{Before, at_once, members_before, ends_behind, Within, within_more}
use Rattle.v1_core.proofs.Same.{Same, narrow, fields_same, header_same, elements_same, members_same, value_same}
use Rattle.v1_core.proofs.Reading.{by_truth, member_part}

pub some_weaker : {A : Type 0} (P Q : A → Type 0) (o : Option A) → ((x : A) → P x → Q x) → IfSome o P → IfSome o Q
some_weaker P Q None f h = tt
some_weaker P Q (Some x) f h = f x h

-- a value with another one in the place of the part to which steps lead, as it is
abbrev pub replaced : List Step → Value → Value → Value
replaced [] x old = x
replaced (step ∷ path) x old = with_part old step (replaced path x (part_of old step))

-- a write replaces the part by what fits it
pub write_replaces : (path : List Step) (v old : Value) → with_part_at path v old ≡ replaced path (fitted (part_at path old) v) old
write_replaces [] v old = refl
write_replaces (step ∷ path) v old = ap (with_part old step) (write_replaces path v (part_of old step))

pub member_put : (v : Form → Start → Value) (next : Form → Start → Start) (fields : List FieldKind) (b : Start) (word : Name) (x : Value) → with_part (member_values v next fields b) (to_member word) x ≡ with_member (member_values v next fields b) word x
member_put v next [] b word x = refl
member_put v next (f ∷ fields) b word x = refl

-- the part t of a value from b to e is the only one that differs
pub record Puts (types : List TypeLayout) (c d : Cells) (x : Value) (b e : Start) (before after : Value) (t : Seat) : Type 0 where
  pub within : Within types b e t
  pub put : Same c d b t.start → Same c d (behind_seat types t) e → (owner_valid c.valids t.owner ≡ true → x ≡ seat_value types d t) → before ≡ after

-- fields

pub record PutsField (types : List TypeLayout) (c d : Cells) (header : ℕ) (fields : List FieldKind) (word : Name) (b : Start) (t : Seat) : Type 0 where
  pub begins : b.slot ≤ t.start.slot
  pub ends : t.start.slot < b.slot + length fields
  pub header_is : t.start.header ≡ b.header
  pub stack_is : t.start.stack ≡ b.stack
  pub owner_is : t.owner ≡ Some header
  pub behind_is : behind_seat types t ≡ moved t.start 1 0 0
  pub number_is : number_in (seat_value types d t) ≡ slot_value d t.start.slot
  pub put : ((i : ℕ) → b.slot ≤ i → i < t.start.slot → slot_value c i ≡ slot_value d i) → ((i : ℕ) → t.start.slot < i → i < b.slot + length fields → slot_value c i ≡ slot_value d i) → with_field (field_values fields c b) word (slot_value d t.start.slot) ≡ field_values fields d b

field_put : (types : List TypeLayout) (c d : Cells) (n header : ℕ) (fields : List FieldKind) (b : Start) (word : Name) → IfSome (field_seat header n fields b word) (PutsField types c d header fields word b)
field_put types c d n header [] b word = tt
field_put types c d n header (f ∷ fields) b word =
    let width = bits_in f.kind in
    let next = moved b 1 0 0 in
    let own : Seat = record { depth = n; form = field_form f; start = b; owner = Some header } in
    let first : Cells → Field = λ c. record { called = f.called; width = width; number = slot_value c b.slot } in
    by_truth (λ (same : Bool). bytes_eq f.called word ≡ same → IfSome (cond same (Some own) (field_seat header n fields next word)) (PutsField types c d header (f ∷ fields) word b))
    (λ e. record {
      begins = omega arith;
      ends = omega arith;
      header_is = refl;
      stack_is = refl;
      owner_is = refl;
      behind_is = refl;
      number_is = refl;
      put = λ l m. rw e (ap (λ (r : List Field). first d ∷ r) (fields_same fields c d next (λ i le lt. m i (omega arith) (omega arith))));
    })
    (λ e. some_weaker (PutsField types c d header fields word next) (PutsField types c d header (f ∷ fields) word b) (field_seat header n fields next word)
    (λ t h. record {
      begins = omega (arith, h.begins);
      ends = omega (arith, h.ends);
      header_is = h.header_is ∙ omega arith;
      stack_is = h.stack_is ∙ omega arith;
      owner_is = h.owner_is;
      behind_is = h.behind_is;
      number_is = h.number_is;
      put = λ l m. rw e (ap (λ (m : ℕ). record { called = f.called; width = width; number = m } ∷ with_field (field_values fields c next) word (slot_value d t.start.slot)) (l b.slot (omega arith) (omega (arith, h.begins)))
          ∙ ap (λ (r : List Field). first d ∷ r) (h.put (λ i le lt. l i (omega arith) lt) (λ i lt le. m i lt (omega arith))));
    }) (field_put types c d n header fields next word))
    (bytes_eq f.called word) refl

pub split_first : (a i : ℕ) → a ≤ i → (a ≡ i) ⊎ (a + 1 ≤ i)
split_first zero zero le = inl refl
split_first zero (suc i) le = inr (omega arith)
split_first (suc a) zero le = absurd (omega arith)
split_first (suc a) (suc i) le = up (split_first a i (omega arith)) where
  up : (a ≡ i) ⊎ (a + 1 ≤ i) → (suc a ≡ suc i) ⊎ (suc a + 1 ≤ suc i)
  up (inl e) = inl (ap suc e)
  up (inr l) = inr (omega arith)

-- all fields of an invalid header read 0
off_fields : (c : Cells) (header : ℕ) (fields : List FieldKind) (b : Start) → AreFields c.layout header (length fields) b → header_valid c header ≡ false → (i : ℕ) → b.slot ≤ i → i < b.slot + length fields → slot_value c i ≡ 0
off_fields c header [] b laid off i le lt = absurd (omega arith)
off_fields c header (f ∷ fields) b laid off i le lt =
    by (split_first b.slot i le) (λ l. off_fields c header fields (moved b 1 0 0) laid.1 off i l (omega arith)) where
      here : slot_value c b.slot ≡ 0
      here = subst (λ (o : Option ℕ). cond (owner_valid c.valids o) (get_or c.numbers b.slot 0) 0 ≡ 0) (sym laid.0.owned) (rw off refl)

      by : (b.slot ≡ i) ⊎ (b.slot + 1 ≤ i) → (b.slot + 1 ≤ i → slot_value c i ≡ 0) → slot_value c i ≡ 0
      by (inl e) rest = subst (λ (j : ℕ). slot_value c j ≡ 0) e here
      by (inr l) rest = rest l

-- a header with another field
header_put : (types : List TypeLayout) (c d : Cells) (n : ℕ) (fields : List FieldKind) (b : Start) (word : Name) (x : Value) → AreFields c.layout b.header (length fields) b → d.layout ≡ c.layout → IfSome (field_seat b.header n fields b word) (Puts types c d x b (moved b (length fields) 1 0) (a_header (with_header_field (header_value fields c b) word x)) (a_header (header_value fields d b)))
header_put types c d n fields b word x laid layout =
    some_weaker (PutsField types c d b.header fields word b) (Puts types c d x b (moved b (length fields) 1 0) (a_header (with_header_field (header_value fields c b) word x)) (a_header (header_value fields d b))) (field_seat b.header n fields b word)
    (λ t h. record {
      within = record {
        begins = record { slot = h.begins; header = omega (arith, h.header_is); stack = omega (arith, h.stack_is) };
        ends = rw h.behind_is (record { slot = omega (arith, h.ends); header = omega (arith, h.header_is); stack = omega (arith, h.stack_is) });
      };
      put = λ l m live. ap (λ (h : Header). a_header h) (put_at t h l (subst (λ (s : Start). Same c d s (moved b (length fields) 1 0)) h.behind_is m) live);
    }) (field_put types c d n b.header fields b word) where
      put_at : (t : Seat) → PutsField types c d b.header fields word b t → Same c d b t.start → Same c d (moved t.start 1 0 0) (moved b (length fields) 1 0) → (owner_valid c.valids t.owner ≡ true → x ≡ seat_value types d t) → with_header_field (header_value fields c b) word x ≡ header_value fields d b
      put_at t h l m live =
          let valid : header_valid c b.header ≡ header_valid d b.header = m.headers b.header (omega (arith, h.header_is)) (omega arith) in
          by_truth (λ (v : Bool). header_valid c b.header ≡ v → cond v (record { valid = true; fields = with_field (field_values fields c b) word (number_in x) }) (header_value fields c b) ≡ header_value fields d b)
          (λ on.
          let is : x ≡ seat_value types d t = live (subst (λ (o : Option ℕ). owner_valid c.valids o ≡ true) (sym h.owner_is) on) in
          let number : number_in x ≡ slot_value d t.start.slot = ap number_in is ∙ h.number_is in
          ap (λ (m : ℕ). record { valid = true; fields = with_field (field_values fields c b) word m }) number
          ∙ ap (λ (r : List Field). record { valid = true; fields = r }) (h.put (λ i le lt. l.slots i le lt) (λ i lt le. m.slots i (omega arith) le))
          ∙ ap (λ (v : Bool). record { valid = v; fields = field_values fields d b }) (sym on ∙ valid))
          (λ off.
          let laid_d : AreFields d.layout b.header (length fields) b = subst (λ (y : Layout). AreFields y b.header (length fields) b) (sym layout) laid in
          ap (λ (v : Bool). record { valid = v; fields = field_values fields c b }) valid
          ∙ ap (λ (r : List Field). record { valid = header_valid d b.header; fields = r })
          (fields_same fields c d b (λ i le lt. off_fields c b.header fields b laid off i le lt ∙ sym (off_fields d b.header fields b laid_d (sym valid ∙ off) i le lt))))
          (header_valid c b.header) refl

-- elements
element_put : (types : List TypeLayout) (c d : Cells) (path : List Step) (n : ℕ) (type : Name) (fields : List FieldKind) (x : Value) → ((a : Start) → IsHeader c.layout (length fields) a → IfSome (seat_at types path (seat n (header_form type) a)) (Puts types c d x a (moved a (length fields) 1 0) (replaced path x (a_header (header_value fields c a))) (a_header (header_value fields d a)))) → (size : ℕ) (b : Start) (i : ℕ) → AreElements c.layout (length fields) size b → IfSome (seat_behind (λ t. seat_at types path t) (element_seat n type (length fields) size b i)) (λ t. Within types b (moved b (size * length fields) size 0) t × (Same c d b t.start → Same c d (behind_seat types t) (moved b (size * length fields) size 0) → (owner_valid c.valids t.owner ≡ true → x ≡ seat_value types d t) → set (element_values fields c size b) i (header_in (replaced path x (a_header (get_or (element_values fields c size b) i no_header)))) ≡ element_values fields d size b))
element_put types c d path n type fields x each zero b i laid = tt
element_put types c d path n type fields x each (suc size) b zero laid =
    let count = length fields in
    let more : (suc size) * count ≡ count + size * count = omega arith in
    let next = moved b count 1 0 in
    let end = moved b ((suc size) * count) (suc size) 0 in
    let inner = moved next (size * count) size 0 in
    let less : Before next end = record { slot = omega arith; header = omega arith; stack = omega arith } in
    let last : Before inner end = record { slot = omega arith; header = omega arith; stack = omega arith } in
    let old = a_header (header_value fields c b) in
    some_weaker (Puts types c d x b next (replaced path x old) (a_header (header_value fields d b)))
    (λ t. Within types b end t × (Same c d b t.start → Same c d (behind_seat types t) end → (owner_valid c.valids t.owner ≡ true → x ≡ seat_value types d t) → header_in (replaced path x old) ∷ element_values fields c size next ≡ header_value fields d b ∷ element_values fields d size next))
    (seat_at types path (seat n (header_form type) b))
    (λ t h. (
      within_more types b b next end t (at_once b) less h.within,
      λ l m live.
          ap (λ (v : Value). header_in v ∷ element_values fields c size next) (h.put l (narrow c d (behind_seat types t) (behind_seat types t) next end (at_once (behind_seat types t)) less m) live)
          ∙ ap (λ (r : List Header). header_value fields d b ∷ r) (elements_same fields c d size next (narrow c d (behind_seat types t) next inner end h.within.ends last m)),
    ))
    (each b laid.0)
element_put types c d path n type fields x each (suc size) b (suc i) laid =
    let count = length fields in
    let more : (suc size) * count ≡ count + size * count = omega arith in
    let next = moved b count 1 0 in
    let end = moved b ((suc size) * count) (suc size) 0 in
    let inner = moved next (size * count) size 0 in
    let behind : Before b next = record { slot = omega arith; header = omega arith; stack = omega arith } in
    let last : Before inner end = record { slot = omega arith; header = omega arith; stack = omega arith } in
    let other : Value = replaced path x (a_header (get_or (element_values fields c size next) i no_header)) in
    some_weaker
    (λ t. Within types next inner t × (Same c d next t.start → Same c d (behind_seat types t) inner → (owner_valid c.valids t.owner ≡ true → x ≡ seat_value types d t) → set (element_values fields c size next) i (header_in other) ≡ element_values fields d size next))
    (λ t. Within types b end t × (Same c d b t.start → Same c d (behind_seat types t) end → (owner_valid c.valids t.owner ≡ true → x ≡ seat_value types d t) → header_value fields c b ∷ set (element_values fields c size next) i (header_in other) ≡ header_value fields d b ∷ element_values fields d size next))
    (seat_behind (λ t. seat_at types path t) (element_seat n type (length fields) size next i))
    (λ t h. (
      within_more types b next inner end t behind last h.0,
      λ l m live.
          ap (λ (y : Header). y ∷ set (element_values fields c size next) i (header_in other)) (header_same fields c d b (narrow c d b b next t.start (at_once b) h.0.begins l))
          ∙ ap (λ (r : List Header). header_value fields d b ∷ r)
          (h.1 (narrow c d b next t.start t.start behind (at_once t.start) l) (narrow c d (behind_seat types t) (behind_seat types t) inner end (at_once (behind_seat types t)) last m) live),
    ))
    (element_put types c d path n type fields x each size next i laid.1)

-- members
member_write : (types : List TypeLayout) (c d : Cells) (path : List Step) (n : ℕ) (x : Value) → ((k : Form) (a : Start) → IsLaid c.layout types n k a → IfSome (seat_at types path (seat n k a)) (Puts types c d x a (behind types n k a) (replaced path x (value_from types c n k a)) (value_from types d n k a))) → (fields : List FieldKind) (b : Start) (word : Name) → AreMembers (λ k s. IsLaid c.layout types n k s) (λ k s. behind types n k s) fields b → IfSome (seat_behind (λ t. seat_at types path t) (member_seat (λ k s. behind types n k s) n fields b word)) (Puts types c d x b (behind_members (λ k s. behind types n k s) fields b) (with_member (member_values (λ k s. value_from types c n k s) (λ k s. behind types n k s) fields b) word (replaced path x (member_in (member_values (λ k s. value_from types c n k s) (λ k s. behind types n k s) fields b) word))) (member_values (λ k s. value_from types d n k s) (λ k s. behind types n k s) fields b))
member_write types c d path n x each [] b word laid = tt
member_write types c d path n x each (f ∷ fields) b word laid =
    let k = form_of f.kind in
    let grow : Form → Start → Start = λ k s. behind types n k s in
    let next = behind types n k b in
    let end = behind_members grow fields next in
    let vc : Form → Start → Value = λ k s. value_from types c n k s in
    let vd : Form → Start → Value = λ k s. value_from types d n k s in
    let first = value_from types c n k b in
    let others = member_values vc grow fields next in
    let whole : Value = a_member f.called (value_from types d n k b) (member_values vd grow fields next) in
    let grows : (k : Form) (s : Start) → Before s (behind types n k s) = λ k s. ends_behind types n k s in
    let rest : Before next end = members_before grow grows fields next in
    by_truth (λ (same : Bool). IfSome (seat_behind (λ t. seat_at types path t) (cond same (Some (seat n k b)) (member_seat grow n fields next word)))
    (Puts types c d x b end
    (cond same (a_member f.called (replaced path x (cond same first (member_in others word))) others) (a_member f.called first (with_member others word (replaced path x (cond same first (member_in others word))))))
    whole))
    (some_weaker (Puts types c d x b next (replaced path x first) (value_from types d n k b)) (Puts types c d x b end (a_member f.called (replaced path x first) others) whole) (seat_at types path (seat n k b))
    (λ t h. record {
      within = within_more types b b next end t (at_once b) rest h.within;
      put = λ l m live. ap (λ (v : Value). a_member f.called v others) (h.put l (narrow c d (behind_seat types t) (behind_seat types t) next end (at_once (behind_seat types t)) rest m) live)
          ∙ ap (λ (v : Value). a_member f.called (value_from types d n k b) v)
          (members_same c d vc vd grow grows (λ k s y. value_same types c d n k s y) fields next (narrow c d (behind_seat types t) next end end h.within.ends (at_once end) m));
    }) (each k b laid.0))
    (some_weaker (Puts types c d x next end (with_member others word (replaced path x (member_in others word))) (member_values vd grow fields next)) (Puts types c d x b end (a_member f.called first (with_member others word (replaced path x (member_in others word)))) whole) (seat_behind (λ t. seat_at types path t) (member_seat grow n fields next word))
    (λ t h. record {
      within = within_more types b next end end t (grows k b) (at_once end) h.within;
      put = λ l m live. ap (λ (v : Value). a_member f.called v (with_member others word (replaced path x (member_in others word)))) (value_same types c d n k b (narrow c d b b next t.start (at_once b) h.within.begins l))
          ∙ ap (λ (v : Value). a_member f.called (value_from types d n k b) v) (h.put (narrow c d b next t.start t.start (grows k b) (at_once t.start) l) m live);
    }) (member_write types c d path n x each fields next word laid.1))
    (bytes_eq f.called word)

-- nothing is behind a slot
field_none : (types : List TypeLayout) (step : Step) (path : List Step) (n header : ℕ) (fields : List FieldKind) (b : Start) (word : Name) (P : Seat → Type 0) → IfSome (seat_behind (λ t. seat_at types (step ∷ path) t) (field_seat header n fields b word)) P
field_none types step path n header [] b word P = tt
field_none types (to_member w) path n header (f ∷ fields) b word P =
    by_truth (λ (same : Bool). IfSome (seat_behind (λ t. seat_at types (to_member w ∷ path) t) (cond same (Some (record { depth = n; form = field_form f; start = b; owner = Some header })) (field_seat header n fields (moved b 1 0 0) word))) P)
    tt (field_none types (to_member w) path n header fields (moved b 1 0 0) word P) (bytes_eq f.called word)
field_none types (to_element i) path n header (f ∷ fields) b word P =
    by_truth (λ (same : Bool). IfSome (seat_behind (λ t. seat_at types (to_element i ∷ path) t) (cond same (Some (record { depth = n; form = field_form f; start = b; owner = Some header })) (field_seat header n fields (moved b 1 0 0) word))) P)
    tt (field_none types (to_element i) path n header fields (moved b 1 0 0) word P) (bytes_eq f.called word)

-- a field found, as the part at which nothing more follows
found_only : (types : List TypeLayout) (P : Seat → Type 0) (o : Option Seat) → IfSome o P → IfSome (seat_behind (λ t. seat_at types [] t) o) P
found_only types P None h = tt
found_only types P (Some t) h = h

header_write : (types : List TypeLayout) (c d : Cells) (path : List Step) (n : ℕ) (fields : List FieldKind) (b : Start) (word : Name) (x : Value) → AreFields c.layout b.header (length fields) b → d.layout ≡ c.layout → IfSome (seat_behind (λ t. seat_at types path t) (field_seat b.header n fields b word)) (Puts types c d x b (moved b (length fields) 1 0) (a_header (with_header_field (header_value fields c b) word (replaced path x (part_of (a_header (header_value fields c b)) (to_member word))))) (a_header (header_value fields d b)))
header_write types c d [] n fields b word x laid layout =
    found_only types (Puts types c d x b (moved b (length fields) 1 0) (a_header (with_header_field (header_value fields c b) word x)) (a_header (header_value fields d b))) (field_seat b.header n fields b word) (header_put types c d n fields b word x laid layout)
header_write types c d (step ∷ path) n fields b word x laid layout =
    field_none types step path n b.header fields b word (Puts types c d x b (moved b (length fields) 1 0) (a_header (with_header_field (header_value fields c b) word (replaced (step ∷ path) x (part_of (a_header (header_value fields c b)) (to_member word))))) (a_header (header_value fields d b)))

-- where the part at steps alone differs, the whole is the old whole with that part replaced
pub seat_write : (types : List TypeLayout) (c d : Cells) (path : List Step) (n : ℕ) (k : Form) (b : Start) (x : Value) → d.layout ≡ c.layout → IsLaid c.layout types n k b → IfSome (seat_at types path (seat n k b)) (Puts types c d x b (behind types n k b) (replaced path x (value_from types c n k b)) (value_from types d n k b))
seat_write types c d [] n k b x layout laid = record {
  within = record { begins = at_once b; ends = at_once (behind types n k b) };
  put = λ l m live. live refl;
}
seat_write types c d (to_member word ∷ path) n (slot_form of) b x layout laid = tt
seat_write types c d (to_element i ∷ path) n (slot_form of) b x layout laid = tt
seat_write types c d (to_member word ∷ path) n (header_form type) b x layout laid =
    header_write types c d path n (fields_in types type) b word x laid.each layout
seat_write types c d (to_element i ∷ path) n (header_form type) b x layout laid = tt
seat_write types c d (to_member word ∷ path) n (stack_form type size) b x layout laid = tt
seat_write types c d (to_element i ∷ path) n (stack_form type size) b x layout laid =
    let fields = fields_in types type in
    let inner = moved b (size * length fields) size 0 in
    let end = moved b (size * length fields) size 1 in
    let less : Before inner end = record { slot = omega arith; header = omega arith; stack = omega arith } in
    let new : List Header = set (element_values fields c size b) i (header_in (replaced path x (a_header (get_or (element_values fields c size b) i no_header)))) in
    some_weaker
    (λ t. Within types b inner t × (Same c d b t.start → Same c d (behind_seat types t) inner → (owner_valid c.valids t.owner ≡ true → x ≡ seat_value types d t) → new ≡ element_values fields d size b))
    (Puts types c d x b end (a_stack (stack_place c b.stack) new) (a_stack (stack_place d b.stack) (element_values fields d size b)))
    (seat_behind (λ t. seat_at types path t) (element_seat n type (length fields) size b i))
    (λ t h. record {
      within = within_more types b b inner end t (at_once b) less h.0;
      put = λ l m live. ap (λ (p : ℕ). a_stack p new) (m.stacks b.stack (omega (arith, h.0.ends.stack)) (omega arith))
          ∙ ap (λ (r : List Header). a_stack (stack_place d b.stack) r)
          (h.1 l (narrow c d (behind_seat types t) (behind_seat types t) inner end (at_once (behind_seat types t)) less m) live);
    })
    (element_put types c d path n type fields x (λ a h. seat_write types c d path n (header_form type) a x layout h) size b i laid.1)
seat_write types c d (to_member word ∷ path) zero (struct_form type) b x layout laid = tt
seat_write types c d (to_element i ∷ path) zero (struct_form type) b x layout laid = tt
seat_write types c d (to_member word ∷ path) (suc n) (struct_form type) b x layout laid =
    let grow : Form → Start → Start = λ k s. behind types n k s in
    let fields = fields_in types type in
    let old = member_values (λ k s. value_from types c n k s) grow fields b in
    subst (λ (v : Value). IfSome (seat_behind (λ t. seat_at types path t) (member_seat grow n fields b word)) (Puts types c d x b (behind_members grow fields b) (with_part old (to_member word) (replaced path x v)) (member_values (λ k s. value_from types d n k s) grow fields b)))
    (sym (member_part (λ k s. value_from types c n k s) grow fields b word))
    (subst (λ (v : Value). IfSome (seat_behind (λ t. seat_at types path t) (member_seat grow n fields b word)) (Puts types c d x b (behind_members grow fields b) v (member_values (λ k s. value_from types d n k s) grow fields b)))
    (sym (member_put (λ k s. value_from types c n k s) grow fields b word (replaced path x (member_in old word))))
    (member_write types c d path n x (λ k a h. seat_write types c d path n k a x layout h) fields b word laid))
seat_write types c d (to_element i ∷ path) (suc n) (struct_form type) b x layout laid = tt
seat_write types c d (to_member word ∷ path) n no_form b x layout laid = tt
seat_write types c d (to_element i ∷ path) n no_form b x layout laid = tt
