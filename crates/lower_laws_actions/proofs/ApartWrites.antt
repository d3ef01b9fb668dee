-- What a change of a state leaves of its parts; the store may change as long as the registers stay.
use Rattle.std.proofs.Common.{◌≡◌, ◌≢◌, ◌⊎◌, inl, inr, eqb, ℕ, Bool, true, false, cond, Option, List, length, get_or, set, refl, sym, ap, ap₂, ◌∙◌, subst}
use Rattle.std.specs.Prelude.{◌&&◌, slice_index}
use Rattle.std.proofs.lemmas.List.{get_or-set_other, length-set}
use Rattle.std.proofs.lemmas.Bool.Decides.{eqb_tells}
use Rattle.state_store.specs.State.{Contents}
use Rattle.fabric.specs.declared.items.RequestKind.{RequestKind}
use Rattle.fabric.specs.declared.items.RequestKind.TheVariants.{CloneI2E, CloneE2E, Resubmit, Recirculate}
use Rattle.p414_sem.specs.declared.requests.Request14.{Request14}
use Rattle.p414_sem.specs.declared.standard.Standard.{Standard}
use Rattle.p414_sem.specs.declared.standard.Standard.TheVariants.{IngressPort, EgressSpec, EgressPort, PacketLength, InstanceType}
use Rattle.p414_sem.specs.Slots.{Element, Slot, standard, declared}
use Rattle.p414_sem.specs.State.{Header, Instance, State, no_instance, no_header, header_at, place_of, is_valid, standard_number, read, with_standard, with_elements, with_header, with_field, written, with_request}
use Rattle.p414_sem.specs.Effects.{Moment}
use Rattle.lower_laws_actions.specs.Apart.{Part, number_of, form_of, whole_of, elements_of, cells_of, standard_place, is_same_element, is_written, is_replaced, is_moved}
use Rattle.lower_laws_actions.specs.Same.{SameCells, Same}
use Rattle.lower_laws_actions.proofs.ApartStates.{other_instance, other_header, this_header}

-- moments whose registers are the same, with any states
abbrev pub SameRegisters : Contents → Contents → Type 0
SameRegisters a b = (object : ℕ) → SameCells a b object

abbrev pub moment : State → Contents → Moment
moment s store = record { state = s; store = store }

-- numbers of headers

number_of_other : (s t : State) (i e f : ℕ) → header_at s i e ≡ header_at t i e → read s (declared i e f) ≡ read t (declared i e f)
number_of_other s t i e f same = ap (λ (h : Header). cond h.valid (slice_index h.numbers f) 0) same

-- standard metadata

other_standard : (s : State) (a b : Standard) (n : ℕ) → eqb (standard_place a) (standard_place b) ≡ false → standard_number s b ≡ standard_number (with_standard s a n) b
other_standard s IngressPort IngressPort n differ = absurd (cc differ)
other_standard s IngressPort EgressSpec n differ = refl
other_standard s IngressPort EgressPort n differ = refl
other_standard s IngressPort PacketLength n differ = refl
other_standard s IngressPort InstanceType n differ = refl
other_standard s EgressSpec EgressSpec n differ = absurd (cc differ)
other_standard s EgressSpec IngressPort n differ = refl
other_standard s EgressSpec EgressPort n differ = refl
other_standard s EgressSpec PacketLength n differ = refl
other_standard s EgressSpec InstanceType n differ = refl
other_standard s EgressPort EgressPort n differ = absurd (cc differ)
other_standard s EgressPort IngressPort n differ = refl
other_standard s EgressPort EgressSpec n differ = refl
other_standard s EgressPort PacketLength n differ = refl
other_standard s EgressPort InstanceType n differ = refl
other_standard s PacketLength PacketLength n differ = absurd (cc differ)
other_standard s PacketLength IngressPort n differ = refl
other_standard s PacketLength EgressSpec n differ = refl
other_standard s PacketLength EgressPort n differ = refl
other_standard s PacketLength InstanceType n differ = refl
other_standard s InstanceType InstanceType n differ = absurd (cc differ)
other_standard s InstanceType IngressPort n differ = refl
other_standard s InstanceType EgressSpec n differ = refl
other_standard s InstanceType EgressPort n differ = refl
other_standard s InstanceType PacketLength n differ = refl

instances_stay : (s : State) (a : Standard) (n : ℕ) → s.instances ≡ (with_standard s a n).instances
instances_stay s IngressPort n = refl
instances_stay s EgressSpec n = refl
instances_stay s EgressPort n = refl
instances_stay s PacketLength n = refl
instances_stay s InstanceType n = refl

-- instances alone decide all parts but standard metadata and registers
same_instances : (s t : State) (a b : Contents) → SameRegisters a b → s.instances ≡ t.instances → (x : Part) → ((which : Standard) → x ≡ number_of (standard which) → standard_number s which ≡ standard_number t which) → Same (moment s a) (moment t b) x
same_instances s t a b cells same (number_of (standard which)) numbers = numbers which refl
same_instances s t a b cells same (number_of (declared i e f)) numbers = number_of_other s t i e f (ap (λ (l : List Instance). get_or (get_or l i no_instance).elements e no_header) same)
same_instances s t a b cells same (form_of header) numbers =
    let is : header_at s header.instance header.element ≡ header_at t header.instance header.element = ap (λ (l : List Instance). get_or (get_or l header.instance no_instance).elements header.element no_header) same in
    (ap (λ (h : Header). h.valid) is, ap (λ (h : Header). length h.numbers) is)
same_instances s t a b cells same (whole_of header) numbers = ap (λ (l : List Instance). get_or (get_or l header.instance no_instance).elements header.element no_header) same
same_instances s t a b cells same (elements_of instance) numbers = ap (λ (l : List Instance). (get_or l instance no_instance).elements) same
same_instances s t a b cells same (cells_of object) numbers = cells object

standard_kept : (s : State) (which : Standard) (n : ℕ) (a b : Contents) → SameRegisters a b → (x : Part) → is_written (standard which) x ≡ false → Same (moment s a) (moment (with_standard s which n) b) x
standard_kept s which n a b cells x differ =
    same_instances s (with_standard s which n) a b cells (instances_stay s which n) x
    (λ other is. other_standard s which other n (subst (λ (y : Part). is_written (standard which) y ≡ false) is differ))

-- headers

pub replaced_kept : (s : State) (at : Element) (h : Header) (a b : Contents) → SameRegisters a b → (x : Part) → is_replaced at x ≡ false → Same (moment s a) (moment (with_header s at.instance at.element h) b) x
replaced_kept s at h a b cells (number_of (standard which)) differ = refl
replaced_kept s at h a b cells (number_of (declared i e f)) differ =
    number_of_other s (with_header s at.instance at.element h) i e f (sym (other_header s at.instance at.element i e h differ))
replaced_kept s at h a b cells (form_of header) differ =
    let is = sym (other_header s at.instance at.element header.instance header.element h differ) in
    (ap (λ (g : Header). g.valid) is, ap (λ (g : Header). length g.numbers) is)
replaced_kept s at h a b cells (whole_of header) differ = sym (other_header s at.instance at.element header.instance header.element h differ)
replaced_kept s at h a b cells (elements_of instance) differ = ap (λ (x : Instance). x.elements) (sym (other_instance s at.instance instance _ differ))
replaced_kept s at h a b cells (cells_of object) differ = cells object

-- stacks

pub moved_kept : (s : State) (stack : ℕ) (elements : List Header) (a b : Contents) → SameRegisters a b → (x : Part) → is_moved stack x ≡ false → Same (moment s a) (moment (with_elements s stack elements) b) x
moved_kept s stack elements a b cells (number_of (standard which)) differ = refl
moved_kept s stack elements a b cells (number_of (declared i e f)) differ =
    number_of_other s (with_elements s stack elements) i e f (ap (λ (x : Instance). get_or x.elements e no_header) (sym (other_instance s stack i _ differ)))
moved_kept s stack elements a b cells (form_of header) differ =
    let is = ap (λ (x : Instance). get_or x.elements header.element no_header) (sym (other_instance s stack header.instance (record { elements = elements; place = place_of s stack }) differ)) in
    (ap (λ (g : Header). g.valid) is, ap (λ (g : Header). length g.numbers) is)
moved_kept s stack elements a b cells (whole_of header) differ = ap (λ (x : Instance). get_or x.elements header.element no_header) (sym (other_instance s stack header.instance _ differ))
moved_kept s stack elements a b cells (elements_of instance) differ = ap (λ (x : Instance). x.elements) (sym (other_instance s stack instance _ differ))
moved_kept s stack elements a b cells (cells_of object) differ = cells object

-- fields of headers

-- the header that is written keeps its form, and the numbers of its other fields
record OneWritten (f : ℕ) (old new : Header) : Type 0 where
  valid : old.valid ≡ new.valid
  count : length old.numbers ≡ length new.numbers
  others : (g : ℕ) → eqb f g ≡ false → slice_index old.numbers g ≡ slice_index new.numbers g

one_written : (s : State) (i e f n : ℕ) → OneWritten f (header_at s i e) (header_at (with_header s i e (with_field (header_at s i e) f n)) i e)
one_written s i e f n =
    this_header (λ h. OneWritten f (header_at s i e) h) s i e (with_field (header_at s i e) f n)
    (record { valid = refl; count = sym (length-set (header_at s i e).numbers f n); others = λ g differ. other g differ (eqb_tells f g) })
    (record { valid = refl; count = refl; others = λ g differ. refl })
  where
    other : (g : ℕ) → eqb f g ≡ false → ((eqb f g ≡ true) × (f ≡ g)) ⊎ ((eqb f g ≡ false) × (f ≢ g)) → slice_index (header_at s i e).numbers g ≡ slice_index (set (header_at s i e).numbers f n) g
    other g differ (inl is) = absurd (cc (differ, is.0))
    other g differ (inr is) = sym (get_or-set_other (header_at s i e).numbers f g n 0 (λ x. is.1 (sym x)))

-- two elements are one, or tell themselves apart
same_or_not : (i e j k : ℕ) → ((eqb i j ≡ true) × (eqb e k ≡ true) × (i ≡ j) × (e ≡ k)) ⊎ (eqb i j && eqb e k ≡ false)
same_or_not i e j k = by (eqb_tells i j) (eqb_tells e k) where
  by : ((eqb i j ≡ true) × (i ≡ j)) ⊎ ((eqb i j ≡ false) × (i ≢ j)) → ((eqb e k ≡ true) × (e ≡ k)) ⊎ ((eqb e k ≡ false) × (e ≢ k)) → ((eqb i j ≡ true) × (eqb e k ≡ true) × (i ≡ j) × (e ≡ k)) ⊎ (eqb i j && eqb e k ≡ false)
  by (inl one) (inl other) = inl (one.0, other.0, one.1, other.1)
  by (inl one) (inr other) = inr (ap₂ (λ x y. x && y) one.0 other.0)
  by (inr one) _ = inr (ap (λ x. x && eqb e k) one.0)

module _ (s : State) (i e f n : ℕ) (a b : Contents) (cells : SameRegisters a b) where
  abbrev new : State
  new = with_header s i e (with_field (header_at s i e) f n)

  same_form : (j k : ℕ) → (is_valid s j k ≡ is_valid new j k) × (length (header_at s j k).numbers ≡ length (header_at new j k).numbers)
  same_form j k = by (same_or_not i e j k) where
    by : ((eqb i j ≡ true) × (eqb e k ≡ true) × (i ≡ j) × (e ≡ k)) ⊎ (eqb i j && eqb e k ≡ false) → (is_valid s j k ≡ is_valid new j k) × (length (header_at s j k).numbers ≡ length (header_at new j k).numbers)
    by (inl is) =
        let w = one_written s i e f n in
        subst (λ y. (is_valid s y k ≡ is_valid new y k) × (length (header_at s y k).numbers ≡ length (header_at new y k).numbers)) is.2
        (subst (λ y. (is_valid s i y ≡ is_valid new i y) × (length (header_at s i y).numbers ≡ length (header_at new i y).numbers)) is.3 (w.valid, w.count))
    by (inr differ) =
        let is = sym (other_header s i e j k (with_field (header_at s i e) f n) differ) in
        (ap (λ (g : Header). g.valid) is, ap (λ (g : Header). length g.numbers) is)

  same_number : (j k g : ℕ) → eqb i j && eqb e k && eqb f g ≡ false → read s (declared j k g) ≡ read new (declared j k g)
  same_number j k g differ = by (same_or_not i e j k) where
    by : ((eqb i j ≡ true) × (eqb e k ≡ true) × (i ≡ j) × (e ≡ k)) ⊎ (eqb i j && eqb e k ≡ false) → read s (declared j k g) ≡ read new (declared j k g)
    by (inl is) =
        let w = one_written s i e f n in
        subst (λ y. read s (declared y k g) ≡ read new (declared y k g)) is.2
        (subst (λ y. read s (declared i y g) ≡ read new (declared i y g)) is.3
        (ap₂ (λ (v : Bool) (m : ℕ). cond v m 0) w.valid (w.others g (sym (ap₂ (λ x y. x && y && eqb f g) is.0 is.1) ∙ differ))))
    by (inr other) = number_of_other s new j k g (sym (other_header s i e j k _ other))

  pub field_kept : (x : Part) → is_written (declared i e f) x ≡ false → Same (moment s a) (moment new b) x
  field_kept (number_of (standard which)) differ = refl
  field_kept (number_of (declared j k g)) differ = same_number j k g differ
  field_kept (form_of header) differ = same_form header.instance header.element
  field_kept (whole_of header) differ = sym (other_header s i e header.instance header.element _ (turned header.instance header.element differ)) where
    turned : (j k : ℕ) → is_same_element (record { instance = j; element = k }) (record { instance = i; element = e }) ≡ false → eqb i j && eqb e k ≡ false
    turned j k is = by (same_or_not i e j k) where
      by : ((eqb i j ≡ true) × (eqb e k ≡ true) × (i ≡ j) × (e ≡ k)) ⊎ (eqb i j && eqb e k ≡ false) → eqb i j && eqb e k ≡ false
      by (inl one) = absurd (cc (is, ap₂ (λ x y. x && y) (ap (λ y. eqb y i) (sym one.2) ∙ ap (λ y. eqb i y) one.2 ∙ one.0) (ap (λ y. eqb y e) (sym one.3) ∙ ap (λ y. eqb e y) one.3 ∙ one.1)))
      by (inr differ) = differ
  field_kept (elements_of instance) differ = ap (λ (x : Instance). x.elements) (sym (other_instance s i instance _ (by (eqb_tells i instance)))) where
    by : ((eqb i instance ≡ true) × (i ≡ instance)) ⊎ ((eqb i instance ≡ false) × (i ≢ instance)) → eqb i instance ≡ false
    by (inl is) = absurd (cc (differ, ap (λ y. eqb instance y) is.1 ∙ ap (λ y. eqb y instance) (sym is.1) ∙ is.0))
    by (inr other) = other.0
  field_kept (cells_of object) differ = cells object

-- any field

pub unchanged_kept : (s : State) (a b : Contents) → SameRegisters a b → (x : Part) → Same (moment s a) (moment s b) x
unchanged_kept s a b cells x = same_instances s s a b cells refl x (λ which is. refl)

pub written_kept : (s : State) (slot : Slot) (n : ℕ) (a b : Contents) → SameRegisters a b → (x : Part) → is_written slot x ≡ false → Same (moment s a) (moment (written s slot n) b) x
written_kept s (standard which) n a b cells x differ = standard_kept s which n a b cells x differ
written_kept s (declared i e f) n a b cells x differ = by (is_valid s i e) where
  by : (v : Bool) → Same (moment s a) (moment (cond v (with_header s i e (with_field (header_at s i e) f n)) s) b) x
  by true = field_kept s i e f n a b cells x differ
  by false = unchanged_kept s a b cells x

-- requests

pub asked_kept : (s : State) (kind : RequestKind) (request : Option Request14) (a b : Contents) → SameRegisters a b → (x : Part) → Same (moment s a) (moment (with_request s kind request) b) x
asked_kept s CloneI2E request a b cells x = same_instances s (with_request s CloneI2E request) a b cells refl x (λ which is. numbers which) where
  numbers : (which : Standard) → standard_number s which ≡ standard_number (with_request s CloneI2E request) which
  numbers IngressPort = refl
  numbers EgressSpec = refl
  numbers EgressPort = refl
  numbers PacketLength = refl
  numbers InstanceType = refl
asked_kept s CloneE2E request a b cells x = same_instances s (with_request s CloneE2E request) a b cells refl x (λ which is. numbers which) where
  numbers : (which : Standard) → standard_number s which ≡ standard_number (with_request s CloneE2E request) which
  numbers IngressPort = refl
  numbers EgressSpec = refl
  numbers EgressPort = refl
  numbers PacketLength = refl
  numbers InstanceType = refl
asked_kept s Resubmit request a b cells x = same_instances s (with_request s Resubmit request) a b cells refl x (λ which is. numbers which) where
  numbers : (which : Standard) → standard_number s which ≡ standard_number (with_request s Resubmit request) which
  numbers IngressPort = refl
  numbers EgressSpec = refl
  numbers EgressPort = refl
  numbers PacketLength = refl
  numbers InstanceType = refl
asked_kept s Recirculate request a b cells x = same_instances s (with_request s Recirculate request) a b cells refl x (λ which is. numbers which) where
  numbers : (which : Standard) → standard_number s which ≡ standard_number (with_request s Recirculate request) which
  numbers IngressPort = refl
  numbers EgressSpec = refl
  numbers EgressPort = refl
  numbers PacketLength = refl
  numbers InstanceType = refl
