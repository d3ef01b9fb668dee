-- What keeps a state of P4_14 one of the program: instances of the same form, numbers that fit, headers with as many numbers.
use Rattle.std.proofs.Common.{◌≡◌, ◌≢◌, ◌⊎◌, inl, inr, eqb, ℕ, ◌<◌, ◌≤◌, ◌^◌, Bool, true, false, cond, List, length, get_or, set, refl, sym, ap, ◌∙◌, subst, arith}
use Rattle.std.proofs.lemmas.List.{get_or-set_same, get_or-set_other, length-set, length-replicate, get_or-replicate}
use Rattle.std.proofs.lemmas.Nat.{pow_pos}
use Rattle.std.proofs.lemmas.Bool.Decides.{eqb_tells}
use Rattle.p414_sem.specs.declared.standard.Standard.{Standard}
use Rattle.p414_sem.specs.declared.standard.Standard.TheVariants.{IngressPort, EgressSpec, EgressPort, PacketLength, InstanceType}
use Rattle.p414_sem.specs.Slots.{Slot, standard, declared, Element}
use Rattle.p414_sem.specs.State.{Header, Instance, State, no_instance, no_header, instance_at, place_of, is_valid, standard_number, with_standard, with_instance, with_elements, with_header, with_field, written, cleared, read as read14}
use Rattle.agreement_of_meanings.specs.Shown.{Shown, as_header, as_stack, as_metadata, is_metadata, fields_of, field_at, slot_width, element, standard_width}
use Rattle.agreement_of_meanings.specs.Agrees.{IsElement, HasElement, HasSlot}
use Rattle.lower_laws_base.specs.Context.{StateLayout, shown_on, IsPart, IsSlot, IsShaped, Shaped}

-- a header as it may stand there
pub record FitsThere (x : Shown) (h : Header) : Type 0 where
  pub count : length h.numbers ≡ length (fields_of x)
  pub bounds : (k : ℕ) → k < length (fields_of x) → get_or h.numbers k 0 < 2 ^ (field_at (fields_of x) k).width

-- metadata stays valid
abbrev pub StaysMetadata : Shown → Header → Type 0
StaysMetadata (as_header called fields) h = Unit {0}
StaysMetadata (as_stack called fields) h = Unit {0}
StaysMetadata (as_metadata called fields) h = h.valid ≡ true

pub not_metadata : (x : Shown) (h : Header) → is_metadata x ≡ false → StaysMetadata x h
not_metadata (as_header called fields) h is = tt
not_metadata (as_stack called fields) h is = tt
not_metadata (as_metadata called fields) h is = absurd (cc is)

pub zeros_fit : (x : Shown) (valid : Bool) (h : Header) → length h.numbers ≡ length (fields_of x) → FitsThere x (cleared valid h)
zeros_fit x valid h count = record {
  count = length-replicate (length h.numbers) 0 ∙ count;
  bounds = λ k lt. subst (λ z. z < 2 ^ (field_at (fields_of x) k).width) (sym (get_or-replicate (length h.numbers) k 0 0 (omega (arith, count)))) (pow_pos (field_at (fields_of x) k).width);
}

-- an instance as it may stand there
pub record InstanceFits (x : Shown) (size : ℕ) (i : Instance) : Type 0 where
  pub size_is : length i.elements ≡ size
  pub place : i.place ≤ size
  pub each : (e : ℕ) → e < size → IsShaped x i e

abbrev with_element : Instance → ℕ → Header → Instance
with_element i e h = record { elements = set i.elements e h; place = i.place }

is_element : (x : Shown) (i j : Instance) (e : ℕ) → (element i e).valid ≡ (element j e).valid → IsElement x i e → IsElement x j e
is_element (as_header called fields) i j e same is = is
is_element (as_stack called fields) i j e same is = is
is_element (as_metadata called fields) i j e same is = (is.0, sym same ∙ is.1)

new_element : (x : Shown) (i j : Instance) (e : ℕ) → StaysMetadata x (element j e) → IsElement x i e → IsElement x j e
new_element (as_header called fields) i j e stays is = is
new_element (as_stack called fields) i j e stays is = is
new_element (as_metadata called fields) i j e stays is = (is.0, stays)

-- an element of an instance, once another or the same one was set
one_set : (x : Shown) (i : Instance) (a e : ℕ) (h : Header) → FitsThere x h → StaysMetadata x h → a < length i.elements → IsShaped x i e → IsShaped x (with_element i a h) e
one_set x i a e h fits stays lt old = by (eqb_tells e a) where
  by : ((eqb e a ≡ true) × (e ≡ a)) ⊎ ((eqb e a ≡ false) × (e ≢ a)) → IsShaped x (with_element i a h) e
  by (inl same) =
      let is : element (with_element i a h) e ≡ h = ap (λ b. get_or (set i.elements a h) b no_header) same.1 ∙ get_or-set_same i.elements a h no_header lt in
      record {
        which = new_element x i (with_element i a h) e (subst (StaysMetadata x) (sym is) stays) old.which;
        count = ap (λ (g : Header). length g.numbers) is ∙ fits.count;
        bounds = λ k b. subst (λ (g : Header). get_or g.numbers k 0 < 2 ^ (field_at (fields_of x) k).width) (sym is) (fits.bounds k b);
      }
  by (inr other) =
      let is : element (with_element i a h) e ≡ element i e = get_or-set_other i.elements a e h no_header other.1 in
      record {
        which = is_element x i (with_element i a h) e (ap (λ (g : Header). g.valid) (sym is)) old.which;
        count = ap (λ (g : Header). length g.numbers) is ∙ old.count;
        bounds = λ k b. subst (λ (g : Header). get_or g.numbers k 0 < 2 ^ (field_at (fields_of x) k).width) (sym is) (old.bounds k b);
      }

-- a stack of which each element fits
pub stack_fits : (called : _) (fields : _) (i : Instance) (size : ℕ) → length i.elements ≡ size → i.place ≤ size → ((e : ℕ) → e < size → FitsThere (as_stack called fields) (element i e)) → InstanceFits (as_stack called fields) size i
stack_fits called fields i size count place each = record { size_is = count; place = place; each = λ e lt. record { which = tt; count = (each e lt).count; bounds = (each e lt).bounds } }

module _ (g : StateLayout) (s : State) (shaped : Shaped g s) where
  pub fits_at : (i : ℕ) → i < length g.names.instances → InstanceFits (shown_on g i) (g.size_of i) (instance_at s i)
  fits_at i lt = record { size_is = shaped.sizes i lt; place = shaped.places i lt; each = λ e b. shaped.each i e lt b }

  pub header_fits : (i e : ℕ) → i < length g.names.instances → e < g.size_of i → FitsThere (shown_on g i) (element (instance_at s i) e)
  header_fits i e lt b = let x = shaped.each i e lt b in record { count = x.count; bounds = x.bounds }

  -- another instance in place of one
  pub shaped_instance : (k : ℕ) (new : Instance) → k < length g.names.instances → InstanceFits (shown_on g k) (g.size_of k) new → Shaped g (with_instance s k new)
  shaped_instance k new lt fits = record {
    count = length-set s.instances k new ∙ shaped.count;
    sizes = λ i a. (at i a (eqb_tells i k)).size_is;
    places = λ i a. (at i a (eqb_tells i k)).place;
    each = λ i e a b. (at i a (eqb_tells i k)).each e b;
    standard = shaped.standard;
  } where
    at : (i : ℕ) → i < length g.names.instances → ((eqb i k ≡ true) × (i ≡ k)) ⊎ ((eqb i k ≡ false) × (i ≢ k)) → InstanceFits (shown_on g i) (g.size_of i) (instance_at (with_instance s k new) i)
    at i a (inl same) =
        let now : instance_at (with_instance s k new) i ≡ new = ap (λ j. get_or (set s.instances k new) j no_instance) same.1 ∙ get_or-set_same s.instances k new no_instance (omega (arith, shaped.count, lt)) in
        subst (λ (z : Instance). InstanceFits (shown_on g i) (g.size_of i) z) (sym now)
        (subst (λ j. InstanceFits (shown_on g j) (g.size_of j) new) (sym same.1) fits)
    at i a (inr other) =
        subst (λ (z : Instance). InstanceFits (shown_on g i) (g.size_of i) z) (sym (get_or-set_other s.instances k i new no_instance other.1)) (fits_at i a)

  -- a header that fits is put in place of another one
  pub shaped_header : (at : Element) (h : Header) → at.instance < length g.names.instances → at.element < g.size_of at.instance → FitsThere (shown_on g at.instance) h → StaysMetadata (shown_on g at.instance) h → Shaped g (with_header s at.instance at.element h)
  shaped_header at h a b fits stays =
      let old = instance_at s at.instance in
      shaped_instance at.instance (with_element old at.element h) a (record {
        size_is = length-set old.elements at.element h ∙ shaped.sizes at.instance a;
        place = shaped.places at.instance a;
        each = λ e lt. one_set (shown_on g at.instance) old at.element e h fits stays (omega (arith, shaped.sizes at.instance a, b)) (shaped.each at.instance e a lt);
      })

  standard_fits : (which other : Standard) (n : ℕ) → n < 2 ^ standard_width which → standard_number (with_standard s which n) other < 2 ^ standard_width other
  standard_fits IngressPort IngressPort n lt = lt
  standard_fits EgressSpec EgressSpec n lt = lt
  standard_fits EgressPort EgressPort n lt = lt
  standard_fits PacketLength PacketLength n lt = lt
  standard_fits InstanceType InstanceType n lt = lt
  standard_fits IngressPort EgressSpec n lt = shaped.standard EgressSpec
  standard_fits IngressPort EgressPort n lt = shaped.standard EgressPort
  standard_fits IngressPort PacketLength n lt = shaped.standard PacketLength
  standard_fits IngressPort InstanceType n lt = shaped.standard InstanceType
  standard_fits EgressSpec IngressPort n lt = shaped.standard IngressPort
  standard_fits EgressSpec EgressPort n lt = shaped.standard EgressPort
  standard_fits EgressSpec PacketLength n lt = shaped.standard PacketLength
  standard_fits EgressSpec InstanceType n lt = shaped.standard InstanceType
  standard_fits EgressPort IngressPort n lt = shaped.standard IngressPort
  standard_fits EgressPort EgressSpec n lt = shaped.standard EgressSpec
  standard_fits EgressPort PacketLength n lt = shaped.standard PacketLength
  standard_fits EgressPort InstanceType n lt = shaped.standard InstanceType
  standard_fits PacketLength IngressPort n lt = shaped.standard IngressPort
  standard_fits PacketLength EgressSpec n lt = shaped.standard EgressSpec
  standard_fits PacketLength EgressPort n lt = shaped.standard EgressPort
  standard_fits PacketLength InstanceType n lt = shaped.standard InstanceType
  standard_fits InstanceType IngressPort n lt = shaped.standard IngressPort
  standard_fits InstanceType EgressSpec n lt = shaped.standard EgressSpec
  standard_fits InstanceType EgressPort n lt = shaped.standard EgressPort
  standard_fits InstanceType PacketLength n lt = shaped.standard PacketLength

  -- another state with the same instances, whose standard metadata fits
  pub shaped_like : (t : State) → t.instances ≡ s.instances → ((which : Standard) → standard_number t which < 2 ^ standard_width which) → Shaped g t
  shaped_like t same fits = record {
    count = ap length same ∙ shaped.count;
    sizes = λ i a. ap (λ (l : List Instance). length (get_or l i no_instance).elements) same ∙ shaped.sizes i a;
    places = λ i a. subst (λ (l : List Instance). (get_or l i no_instance).place ≤ g.size_of i) (sym same) (shaped.places i a);
    each = λ i e a b. subst (λ (l : List Instance). IsShaped (shown_on g i) (get_or l i no_instance) e) (sym same) (shaped.each i e a b);
    standard = fits;
  }

  standard_instances : (which : Standard) (n : ℕ) → (with_standard s which n).instances ≡ s.instances
  standard_instances IngressPort n = refl
  standard_instances EgressSpec n = refl
  standard_instances EgressPort n = refl
  standard_instances PacketLength n = refl
  standard_instances InstanceType n = refl

  field_fits : (x : Shown) (i : Instance) (e k n : ℕ) → IsShaped x i e → k < length (fields_of x) → n < 2 ^ (field_at (fields_of x) k).width → FitsThere x (with_field (element i e) k n)
  field_fits x i e k n old lt fits = record {
    count = length-set (element i e).numbers k n ∙ old.count;
    bounds = λ j b. by j b (eqb_tells j k);
  } where
    by : (j : ℕ) → j < length (fields_of x) → ((eqb j k ≡ true) × (j ≡ k)) ⊎ ((eqb j k ≡ false) × (j ≢ k)) → get_or (set (element i e).numbers k n) j 0 < 2 ^ (field_at (fields_of x) j).width
    by j b (inl same) =
        subst (λ z. get_or (set (element i e).numbers k n) z 0 < 2 ^ (field_at (fields_of x) z).width) (sym same.1)
        (subst (λ z. z < 2 ^ (field_at (fields_of x) k).width) (sym (get_or-set_same (element i e).numbers k n 0 (omega (arith, old.count)))) fits)
    by j b (inr other) =
        subst (λ z. z < 2 ^ (field_at (fields_of x) j).width) (sym (get_or-set_other (element i e).numbers k j n 0 other.1)) (old.bounds j b)

  field_stays : (x : Shown) (i : Instance) (e k n : ℕ) → IsElement x i e → StaysMetadata x (with_field (element i e) k n)
  field_stays (as_header called fields) i e k n is = tt
  field_stays (as_stack called fields) i e k n is = tt
  field_stays (as_metadata called fields) i e k n is = is.1

  -- a number that fits is written to a field
  pub shaped_written : (slot : Slot) (n : ℕ) → IsSlot g slot → n < 2 ^ slot_width g.names.instances slot → Shaped g (written s slot n)
  shaped_written (standard which) n is lt = shaped_like (with_standard s which n) (standard_instances which n) (λ other. standard_fits which other n lt)
  shaped_written (declared i e k) n is lt = by (is_valid s i e) where
    old : IsShaped (shown_on g i) (instance_at s i) e
    old = shaped.each i e is.0 is.1

    by : (valid : Bool) → Shaped g (cond valid (with_header s i e (with_field (element (instance_at s i) e) k n)) s)
    by true =
        shaped_header (record { instance = i; element = e }) (with_field (element (instance_at s i) e) k n) is.0 is.1
        (field_fits (shown_on g i) (instance_at s i) e k n old is.3 lt) (field_stays (shown_on g i) (instance_at s i) e k n old.which)
    by false = shaped

  -- what is asked for by number is there

  pub has_part : (at : Element) → IsPart g at → HasElement g.names.instances s at.instance at.element
  has_part at is =
      let x = shaped.each at.instance at.element is.0 is.1 in
      record { instance = is.0; within = omega (arith, shaped.sizes at.instance is.0, is.1); which = x.which; numbers = x.count }

  pub has_slot : (slot : Slot) → IsSlot g slot → HasSlot g.names.instances s slot
  has_slot (standard which) is = tt
  has_slot (declared i e k) is = (has_part (record { instance = i; element = e }) (is.0, is.1, is.2), is.3)

  pub slot_bounded : (slot : Slot) → IsSlot g slot → read14 s slot < 2 ^ slot_width g.names.instances slot
  slot_bounded (standard which) is = shaped.standard which
  slot_bounded (declared i e k) is = by (element (instance_at s i) e).valid ((shaped.each i e is.0 is.1).bounds k is.3) where
    by : (valid : Bool) → get_or (element (instance_at s i) e).numbers k 0 < 2 ^ slot_width g.names.instances (declared i e k) → cond valid (get_or (element (instance_at s i) e).numbers k 0) 0 < 2 ^ slot_width g.names.instances (declared i e k)
    by true lt = lt
    by false lt = pow_pos (slot_width g.names.instances (declared i e k))

-- the places of stacks

pub place_with : (s : State) (k i : ℕ) (elements : List Header) → k < length s.instances → place_of (with_elements s k elements) i ≡ place_of s i
place_with s k i elements lt = by (record { elements = elements; place = place_of s k }) refl (eqb_tells i k) where
  by : (new : Instance) → new.place ≡ place_of s k → ((eqb i k ≡ true) × (i ≡ k)) ⊎ ((eqb i k ≡ false) × (i ≢ k)) → place_of (with_instance s k new) i ≡ place_of s i
  by new is (inl same) =
      ap (λ j. (get_or (set s.instances k new) j no_instance).place) same.1
      ∙ ap (λ (x : Instance). x.place) (get_or-set_same s.instances k new no_instance lt) ∙ is ∙ ap (place_of s) (sym same.1)
  by new is (inr other) = ap (λ (x : Instance). x.place) (get_or-set_other s.instances k i new no_instance other.1)

abbrev pub HasIt : State → Slot → Type 0
HasIt s (standard which) = Unit {0}
HasIt s (declared i e k) = i < length s.instances

pub place_written : (s : State) (slot : Slot) (n i : ℕ) → HasIt s slot → place_of (written s slot n) i ≡ place_of s i
place_written s (standard IngressPort) n i has = refl
place_written s (standard EgressSpec) n i has = refl
place_written s (standard EgressPort) n i has = refl
place_written s (standard PacketLength) n i has = refl
place_written s (standard InstanceType) n i has = refl
place_written s (declared k e f) n i has = by (is_valid s k e) where
  by : (valid : Bool) → place_of (cond valid (with_header s k e (with_field (element (instance_at s k) e) f n)) s) i ≡ place_of s i
  by true = place_with s k i (set (instance_at s k).elements e (with_field (element (instance_at s k) e) f n)) has
  by false = refl
