-- Instances, elements and fields that are written, and what is read of them.
use Rattle.std.proofs.Common.{◌≡◌, ◌≢◌, ◌⊎◌, inl, inr, eqb, ℕ, ◌<◌, ◌%◌, ◌^◌, Bool, true, false, cond, List, [], ◌∷◌, length, get_or, set, map, refl, sym, ap, ◌∙◌, subst, arith}
use Rattle.std.proofs.lemmas.List.{get_or-set_same, get_or-set_other, set-get_or, get_or-map, map-set, length-set}
use Rattle.std.proofs.lemmas.Bool.Decides.{eqb_tells}
use Rattle.fabric.specs.declared.items.RequestKind.{RequestKind}
use Rattle.fabric.specs.declared.items.RequestKind.TheVariants.{CloneI2E, CloneE2E, Resubmit, Recirculate}
use Rattle.p414_sem.specs.declared.standard.Standard.{Standard}
use Rattle.p414_sem.specs.declared.standard.Standard.TheVariants.{IngressPort, EgressSpec, EgressPort, PacketLength, InstanceType}
use Rattle.p414_sem.specs.Slots.{Slot, standard, declared}
use Rattle.p414_sem.specs.State.{Header as Header14, Instance, State, no_instance, no_header as no_header14, instance_at, is_valid, standard_number, with_instance, with_standard, with_field as with_field14, read as read14, written, request_of as request14}
use Rattle.p416_syntax.specs.Names.{Name}
use Rattle.v1_core.specs.Values.{Header, Value, a_number, a_header, a_stack, no_header, number_in, to_member, to_element, member_in, with_member, part_of, with_part, fitted, field_in, field_value, with_header_field}
use Rattle.v1_core.specs.Frames.{Frame, of_headers, of_metadata, of_standard, owned, with_owned, read, write, request_of as request16}
use Rattle.agreement_of_meanings.specs.Shown.{NamedField, field_at, Shown, as_header, as_stack, as_metadata, shown_at, name_of, fields_of, is_metadata, owner_of, NamesDiffer, FieldsDiffer, shown_header, shown_members, shown_value, element, IsShown, AreShown, standard_word, standard_width, reference, field_reference, slot_reference, slot_width}
use Rattle.agreement_of_meanings.specs.Agrees.{NewNames, Agrees, RequestsAgree, IsElement, HasSlot}
use Rattle.agreement_of_meanings.proofs.Names.{is_there, part_is, put_is, member_same, member_other, differ_names, field_is_at, header_field, header_read, number_found, number_written, shown_there}

-- whole instances

-- a frame with what an instance is shown as, in place of what x was shown as
abbrev pub with_shown : Frame → Shown → Instance → Frame
with_shown f x i = with_owned f (owner_of x) (with_member (owned f (owner_of x)) (name_of x) (shown_value x i))

there : (f : Frame) (x : Shown) (i : Instance) → IsShown f x i → is_there (member_in (owned f (owner_of x)) (name_of x)) ≡ true
there f x i shown = ap is_there shown ∙ shown_there x i

-- the written instance is shown, and the others still are
put_same : (f : Frame) (x : Shown) (old new : Instance) → IsShown f x old → IsShown (with_shown f x new) x new
put_same f (as_header called fields) old new shown = member_same f.headers called (shown_value (as_header called fields) new) (there f (as_header called fields) old shown)
put_same f (as_stack called fields) old new shown = member_same f.headers called (shown_value (as_stack called fields) new) (there f (as_stack called fields) old shown)
put_same f (as_metadata called fields) old new shown = member_same f.metadata called (shown_value (as_metadata called fields) new) (there f (as_metadata called fields) old shown)

put_other : (f : Frame) (x y : Shown) (new i : Instance) → (is_metadata x ≡ is_metadata y → name_of x ≢ name_of y) → IsShown f y i → IsShown (with_shown f x new) y i
put_other f (as_header a fs) (as_header b gs) new i differ shown = member_other f.headers a b (shown_value (as_header a fs) new) (differ refl) ∙ shown
put_other f (as_header a fs) (as_stack b gs) new i differ shown = member_other f.headers a b (shown_value (as_header a fs) new) (differ refl) ∙ shown
put_other f (as_header a fs) (as_metadata b gs) new i differ shown = shown
put_other f (as_stack a fs) (as_header b gs) new i differ shown = member_other f.headers a b (shown_value (as_stack a fs) new) (differ refl) ∙ shown
put_other f (as_stack a fs) (as_stack b gs) new i differ shown = member_other f.headers a b (shown_value (as_stack a fs) new) (differ refl) ∙ shown
put_other f (as_stack a fs) (as_metadata b gs) new i differ shown = shown
put_other f (as_metadata a fs) (as_header b gs) new i differ shown = shown
put_other f (as_metadata a fs) (as_stack b gs) new i differ shown = shown
put_other f (as_metadata a fs) (as_metadata b gs) new i differ shown = member_other f.metadata a b (shown_value (as_metadata a fs) new) (differ refl) ∙ shown

standard_kept : (f : Frame) (x : Shown) (i : Instance) → (with_shown f x i).standard ≡ f.standard
standard_kept f (as_header called fields) i = refl
standard_kept f (as_stack called fields) i = refl
standard_kept f (as_metadata called fields) i = refl

pub requests_by16 : (f g : Frame) → f.clone_i2e ≡ g.clone_i2e → f.clone_e2e ≡ g.clone_e2e → f.resubmit ≡ g.resubmit → f.recirculate ≡ g.recirculate → (kind : RequestKind) → request16 f kind ≡ request16 g kind
requests_by16 f g a b c d CloneI2E = a
requests_by16 f g a b c d CloneE2E = b
requests_by16 f g a b c d Resubmit = c
requests_by16 f g a b c d Recirculate = d

pub requests_by14 : (s t : State) → s.clone_i2e ≡ t.clone_i2e → s.clone_e2e ≡ t.clone_e2e → s.resubmit ≡ t.resubmit → s.recirculate ≡ t.recirculate → (kind : RequestKind) → request14 s kind ≡ request14 t kind
requests_by14 s t a b c d CloneI2E = a
requests_by14 s t a b c d CloneE2E = b
requests_by14 s t a b c d Resubmit = c
requests_by14 s t a b c d Recirculate = d

request_kept : (f : Frame) (x : Shown) (i : Instance) (kind : RequestKind) → request16 (with_shown f x i) kind ≡ request16 f kind
request_kept f (as_header called fields) i kind = requests_by16 (with_shown f (as_header called fields) i) f refl refl refl refl kind
request_kept f (as_stack called fields) i kind = requests_by16 (with_shown f (as_stack called fields) i) f refl refl refl refl kind
request_kept f (as_metadata called fields) i kind = requests_by16 (with_shown f (as_metadata called fields) i) f refl refl refl refl kind

pub events_kept : (f : Frame) (x : Shown) (i : Instance) → (with_shown f x i).events ≡ f.events
events_kept f (as_header called fields) i = refl
events_kept f (as_stack called fields) i = refl
events_kept f (as_metadata called fields) i = refl

request_same : (s : State) (k : ℕ) (i : Instance) (kind : RequestKind) → request14 (with_instance s k i) kind ≡ request14 s kind
request_same s k i kind = requests_by14 (with_instance s k i) s refl refl refl refl kind

standard_same : (s : State) (k : ℕ) (i : Instance) (which : Standard) → standard_number (with_instance s k i) which ≡ standard_number s which
standard_same s k i IngressPort = refl
standard_same s k i EgressSpec = refl
standard_same s k i EgressPort = refl
standard_same s k i PacketLength = refl
standard_same s k i InstanceType = refl

-- an instance of these with a number, once that with the number k, which x shows, is another one
put_each : (xs : List Shown) (instances : List Instance) (f : Frame) (k : ℕ) (x : Shown) (new : Instance) → NamesDiffer xs → k < length xs → shown_at xs k ≡ x → AreShown xs instances f → (j : ℕ) → j < length xs → IsShown (with_shown f x new) (shown_at xs j) (get_or (set instances k new) j no_instance)
put_each xs instances f k x new differ lt is shown j below = by (eqb_tells j k) where
  by : ((eqb j k ≡ true) × (j ≡ k)) ⊎ ((eqb j k ≡ false) × (j ≢ k)) → IsShown (with_shown f x new) (shown_at xs j) (get_or (set instances k new) j no_instance)
  by (inl same) =
      subst (λ m. IsShown (with_shown f x new) (shown_at xs m) (get_or (set instances k new) m no_instance)) (sym same.1)
      (subst (λ y. IsShown (with_shown f x new) y (get_or (set instances k new) k no_instance)) (sym is)
      (subst (λ i. IsShown (with_shown f x new) x i) (sym (get_or-set_same instances k new no_instance (omega (arith, lt, shown.count))))
      (put_same f x (get_or instances k no_instance) new (subst (λ y. IsShown f y (get_or instances k no_instance)) is (shown.each k lt)))))
  by (inr other) =
      subst (λ i. IsShown (with_shown f x new) (shown_at xs j) i) (sym (get_or-set_other instances k j new no_instance other.1))
      (put_other f x (shown_at xs j) new (get_or instances j no_instance)
      (λ owners. subst (λ y. name_of y ≢ name_of (shown_at xs j)) is (differ.instances k j lt below (λ e. other.1 (sym e)) (ap is_metadata is ∙ owners)))
      (shown.each j below))

-- another instance in the state, shown in the frame
pub instance_put : (names : NewNames) (s : State) (f : Frame) (k : ℕ) (x : Shown) (new : Instance) → NamesDiffer names.instances → k < length names.instances → shown_at names.instances k ≡ x → Agrees names s f → Agrees names (with_instance s k new) (with_shown f x new)
instance_put names s f k x new differ lt is agrees = record {
  instances = record {
    count = length-set s.instances k new ∙ agrees.instances.count;
    each = put_each names.instances s.instances f k x new differ lt is agrees.instances;
  };
  standard = λ which. ap (λ v. member_in v (standard_word which)) (standard_kept f x new) ∙ agrees.standard which ∙ ap (a_number (standard_width which)) (sym (standard_same s k new which));
  requests = λ kind. subst (λ r. RequestsAgree names.marks r (request16 (with_shown f x new) kind)) (sym (request_same s k new kind))
      (subst (λ q. RequestsAgree names.marks (request14 s kind) q) (sym (request_kept f x new kind)) (agrees.requests kind));
}

-- what stands at a name

-- the reference of an instance reads what it is shown as, and a write to it or to a part of it is one to its name
pub instance_part : (f : Frame) (x : Shown) (i : Instance) → IsShown f x i → part_of (owned f (owner_of x)) (to_member (name_of x)) ≡ shown_value x i
instance_part f x i shown = part_is (owned f (owner_of x)) (name_of x) (there f x i shown) ∙ shown

pub instance_written : (f : Frame) (x : Shown) (i new : Instance) → IsShown f x i → with_owned f (owner_of x) (with_part (owned f (owner_of x)) (to_member (name_of x)) (shown_value x new)) ≡ with_shown f x new
instance_written f x i new shown = ap (with_owned f (owner_of x)) (put_is (owned f (owner_of x)) (name_of x) (shown_value x new) (there f x i shown))

-- fields

-- an instance with another number in a field, where that is one of a valid header
abbrev pub with_number : Instance → ℕ → ℕ → ℕ → Instance
with_number i e k n =
    record { elements = set i.elements e (cond (element i e).valid (with_field14 (element i e) k n) (element i e)); place = i.place }

pub elements_of_map : (fields : List NamedField) (elements : List Header14) (e : ℕ) → e < length elements → get_or (map (shown_header fields) elements) e no_header ≡ shown_header fields (get_or elements e no_header14)
elements_of_map fields elements e lt = get_or-map (shown_header fields) elements e no_header14 no_header lt

part_of_members : (fields : List NamedField) (numbers : List ℕ) (word : Name) → part_of (shown_members fields numbers) (to_member word) ≡ member_in (shown_members fields numbers) word
part_of_members [] numbers word = refl
part_of_members (f ∷ fields) [] word = refl
part_of_members (f ∷ fields) (n ∷ numbers) word = refl

put_to_members : (fields : List NamedField) (numbers : List ℕ) (word : Name) (y : Value) → with_part (shown_members fields numbers) (to_member word) y ≡ with_member (shown_members fields numbers) word y
put_to_members [] numbers word y = refl
put_to_members (f ∷ fields) [] word y = refl
put_to_members (f ∷ fields) (n ∷ numbers) word y = refl

field_put_header : (f : Frame) (called : Name) (fields : List NamedField) (i : Instance) (k : ℕ) (v : Value) → IsShown f (as_header called fields) i → FieldsDiffer fields → k < length fields → 0 < length i.elements → length (element i 0).numbers ≡ length fields → write (field_reference (as_header called fields) 0 k) v f ≡ with_shown f (as_header called fields) (with_number i 0 k (number_in v % 2 ^ (field_at fields k).width))
field_put_header f called fields i k v shown differ lt some count =
    let x = as_header called fields in
    let word = (field_at fields k).called in
    let h = element i 0 in
    let new = with_number i 0 k (number_in v % 2 ^ (field_at fields k).width) in
    ap (λ p. with_owned f of_headers (with_part f.headers (to_member called) (with_part p (to_member word) (fitted (part_of p (to_member word)) v)))) (instance_part f x i shown)
    ∙ ap (λ g. with_owned f of_headers (with_part f.headers (to_member called) (a_header g))) (header_field fields h word k v count (field_is_at fields k differ lt))
    ∙ ap (λ (g : Header14). with_owned f of_headers (with_part f.headers (to_member called) (a_header (shown_header fields g)))) (sym (get_or-set_same i.elements 0 (cond h.valid (with_field14 h k (number_in v % 2 ^ (field_at fields k).width)) h) no_header14 some))
    ∙ instance_written f x i new shown

field_put_stack : (f : Frame) (called : Name) (fields : List NamedField) (i : Instance) (e k : ℕ) (v : Value) → IsShown f (as_stack called fields) i → FieldsDiffer fields → k < length fields → e < length i.elements → length (element i e).numbers ≡ length fields → write (field_reference (as_stack called fields) e k) v f ≡ with_shown f (as_stack called fields) (with_number i e k (number_in v % 2 ^ (field_at fields k).width))
field_put_stack f called fields i e k v shown differ lt some count =
    let x = as_stack called fields in
    let word = (field_at fields k).called in
    let h = element i e in
    let all : List Header = map (shown_header fields) i.elements in
    let new = with_number i e k (number_in v % 2 ^ (field_at fields k).width) in
    ap (λ p. with_owned f of_headers (with_part f.headers (to_member called) (with_part p (to_element e) (with_part (part_of p (to_element e)) (to_member word) (fitted (part_of (part_of p (to_element e)) (to_member word)) v))))) (instance_part f x i shown)
    ∙ ap (λ (g : Header). with_owned f of_headers (with_part f.headers (to_member called) (a_stack i.place (set all e (with_header_field g word (fitted (field_value g.valid (field_in g.fields word)) v)))))) (elements_of_map fields i.elements e some)
    ∙ ap (λ (g : Header). with_owned f of_headers (with_part f.headers (to_member called) (a_stack i.place (set all e g)))) (header_field fields h word k v count (field_is_at fields k differ lt))
    ∙ ap (λ (l : List Header). with_owned f of_headers (with_part f.headers (to_member called) (a_stack i.place l))) (sym (map-set (shown_header fields) i.elements e (cond h.valid (with_field14 h k (number_in v % 2 ^ (field_at fields k).width)) h)))
    ∙ instance_written f x i new shown

field_put_metadata : (f : Frame) (called : Name) (fields : List NamedField) (i : Instance) (k : ℕ) (v : Value) → IsShown f (as_metadata called fields) i → FieldsDiffer fields → k < length fields → 0 < length i.elements → (element i 0).valid ≡ true → length (element i 0).numbers ≡ length fields → write (field_reference (as_metadata called fields) 0 k) v f ≡ with_shown f (as_metadata called fields) (with_number i 0 k (number_in v % 2 ^ (field_at fields k).width))
field_put_metadata f called fields i k v shown differ lt some valid count =
    let x = as_metadata called fields in
    let word = (field_at fields k).called in
    let h = element i 0 in
    let n = number_in v % 2 ^ (field_at fields k).width in
    let at = field_is_at fields k differ lt in
    let new = with_number i 0 k n in
    let same : element new 0 ≡ with_field14 h k n =
    get_or-set_same i.elements 0 (cond h.valid (with_field14 h k n) h) no_header14 some ∙ ap (λ (b : Bool). cond b (with_field14 h k n) h) valid in
    ap (λ p. with_owned f of_metadata (with_part f.metadata (to_member called) (with_part p (to_member word) (fitted (part_of p (to_member word)) v)))) (instance_part f x i shown)
    ∙ ap (λ z. with_owned f of_metadata (with_part f.metadata (to_member called) (with_part (shown_members fields h.numbers) (to_member word) (fitted z v)))) (part_of_members fields h.numbers word ∙ number_found fields h.numbers word k count at)
    ∙ ap (λ z. with_owned f of_metadata (with_part f.metadata (to_member called) z)) (put_to_members fields h.numbers word (a_number (field_at fields k).width n) ∙ number_written fields h.numbers word k n count at)
    ∙ ap (λ (g : Header14). with_owned f of_metadata (with_part f.metadata (to_member called) (shown_members fields g.numbers))) (sym same)
    ∙ instance_written f x i new shown

pub field_put : (f : Frame) (x : Shown) (i : Instance) (e k : ℕ) (v : Value) → IsShown f x i → FieldsDiffer (fields_of x) → k < length (fields_of x) → e < length i.elements → IsElement x i e → length (element i e).numbers ≡ length (fields_of x) → write (field_reference x e k) v f ≡ with_shown f x (with_number i e k (number_in v % 2 ^ (field_at (fields_of x) k).width))
field_put f (as_header called fields) i e k v shown differ lt some is count =
    subst (λ m. m < length i.elements → length (element i m).numbers ≡ length fields → write (field_reference (as_header called fields) m k) v f ≡ with_shown f (as_header called fields) (with_number i m k (number_in v % 2 ^ (field_at fields k).width))) (sym is)
    (field_put_header f called fields i k v shown differ lt) some count
field_put f (as_stack called fields) i e k v shown differ lt some is count = field_put_stack f called fields i e k v shown differ lt some count
field_put f (as_metadata called fields) i e k v shown differ lt some is count =
    subst (λ m. m < length i.elements → (element i m).valid ≡ true → length (element i m).numbers ≡ length fields → write (field_reference (as_metadata called fields) m k) v f ≡ with_shown f (as_metadata called fields) (with_number i m k (number_in v % 2 ^ (field_at fields k).width))) (sym is.0)
    (field_put_metadata f called fields i k v shown differ lt) some (subst (λ m. (element i m).valid ≡ true) (sym is.0) (subst (λ m. (element i m).valid ≡ true) is.0 is.1)) count

field_read_header : (f : Frame) (called : Name) (fields : List NamedField) (i : Instance) (k : ℕ) → IsShown f (as_header called fields) i → FieldsDiffer fields → k < length fields → length (element i 0).numbers ≡ length fields → read f (field_reference (as_header called fields) 0 k) ≡ a_number (field_at fields k).width (cond (element i 0).valid (get_or (element i 0).numbers k 0) 0)
field_read_header f called fields i k shown differ lt count =
    ap (λ p. part_of p (to_member (field_at fields k).called)) (instance_part f (as_header called fields) i shown)
    ∙ header_read fields (element i 0) (field_at fields k).called k count (field_is_at fields k differ lt)

field_read_stack : (f : Frame) (called : Name) (fields : List NamedField) (i : Instance) (e k : ℕ) → IsShown f (as_stack called fields) i → FieldsDiffer fields → k < length fields → e < length i.elements → length (element i e).numbers ≡ length fields → read f (field_reference (as_stack called fields) e k) ≡ a_number (field_at fields k).width (cond (element i e).valid (get_or (element i e).numbers k 0) 0)
field_read_stack f called fields i e k shown differ lt some count =
    ap (λ p. part_of (part_of p (to_element e)) (to_member (field_at fields k).called)) (instance_part f (as_stack called fields) i shown)
    ∙ ap (λ (g : Header). field_value g.valid (field_in g.fields (field_at fields k).called)) (elements_of_map fields i.elements e some)
    ∙ header_read fields (element i e) (field_at fields k).called k count (field_is_at fields k differ lt)

field_read_metadata : (f : Frame) (called : Name) (fields : List NamedField) (i : Instance) (k : ℕ) → IsShown f (as_metadata called fields) i → FieldsDiffer fields → k < length fields → (element i 0).valid ≡ true → length (element i 0).numbers ≡ length fields → read f (field_reference (as_metadata called fields) 0 k) ≡ a_number (field_at fields k).width (cond (element i 0).valid (get_or (element i 0).numbers k 0) 0)
field_read_metadata f called fields i k shown differ lt valid count =
    ap (λ p. part_of p (to_member (field_at fields k).called)) (instance_part f (as_metadata called fields) i shown)
    ∙ part_of_members fields (element i 0).numbers (field_at fields k).called
    ∙ number_found fields (element i 0).numbers (field_at fields k).called k count (field_is_at fields k differ lt)
    ∙ ap (λ (b : Bool). a_number (field_at fields k).width (cond b (get_or (element i 0).numbers k 0) 0)) (sym valid)

pub field_read : (f : Frame) (x : Shown) (i : Instance) (e k : ℕ) → IsShown f x i → FieldsDiffer (fields_of x) → k < length (fields_of x) → e < length i.elements → IsElement x i e → length (element i e).numbers ≡ length (fields_of x) → read f (field_reference x e k) ≡ a_number (field_at (fields_of x) k).width (cond (element i e).valid (get_or (element i e).numbers k 0) 0)
field_read f (as_header called fields) i e k shown differ lt some is count =
    subst (λ m. length (element i m).numbers ≡ length fields → read f (field_reference (as_header called fields) m k) ≡ a_number (field_at fields k).width (cond (element i m).valid (get_or (element i m).numbers k 0) 0)) (sym is)
    (field_read_header f called fields i k shown differ lt) count
field_read f (as_stack called fields) i e k shown differ lt some is count = field_read_stack f called fields i e k shown differ lt some count
field_read f (as_metadata called fields) i e k shown differ lt some is count =
    subst (λ m. (element i m).valid ≡ true → length (element i m).numbers ≡ length fields → read f (field_reference (as_metadata called fields) m k) ≡ a_number (field_at fields k).width (cond (element i m).valid (get_or (element i m).numbers k 0) 0)) (sym is.0)
    (field_read_metadata f called fields i k shown differ lt) is.1 count

-- standard metadata

standard_there : (names : NewNames) (s : State) (f : Frame) (which : Standard) → Agrees names s f → is_there (member_in f.standard (standard_word which)) ≡ true
standard_there names s f which agrees = ap is_there (agrees.standard which)

standard_numbers : (s : State) (which : Standard) (n : ℕ) → standard_number (with_standard s which n) which ≡ n
standard_numbers s IngressPort n = refl
standard_numbers s EgressSpec n = refl
standard_numbers s EgressPort n = refl
standard_numbers s PacketLength n = refl
standard_numbers s InstanceType n = refl

-- two fields are one, or have other names and numbers of their own
abbrev AreApart : Standard → Standard → Type 0
AreApart a b = (standard_word a ≢ standard_word b) × ((s : State) (n : ℕ) → standard_number (with_standard s a n) b ≡ standard_number s b)

standard_cases : (a b : Standard) → (a ≡ b) ⊎ AreApart a b
standard_cases IngressPort IngressPort = inl refl
standard_cases IngressPort EgressSpec = inr (differ_names _ _ refl, λ s n. refl)
standard_cases IngressPort EgressPort = inr (differ_names _ _ refl, λ s n. refl)
standard_cases IngressPort PacketLength = inr (differ_names _ _ refl, λ s n. refl)
standard_cases IngressPort InstanceType = inr (differ_names _ _ refl, λ s n. refl)
standard_cases EgressSpec IngressPort = inr (differ_names _ _ refl, λ s n. refl)
standard_cases EgressSpec EgressSpec = inl refl
standard_cases EgressSpec EgressPort = inr (differ_names _ _ refl, λ s n. refl)
standard_cases EgressSpec PacketLength = inr (differ_names _ _ refl, λ s n. refl)
standard_cases EgressSpec InstanceType = inr (differ_names _ _ refl, λ s n. refl)
standard_cases EgressPort IngressPort = inr (differ_names _ _ refl, λ s n. refl)
standard_cases EgressPort EgressSpec = inr (differ_names _ _ refl, λ s n. refl)
standard_cases EgressPort EgressPort = inl refl
standard_cases EgressPort PacketLength = inr (differ_names _ _ refl, λ s n. refl)
standard_cases EgressPort InstanceType = inr (differ_names _ _ refl, λ s n. refl)
standard_cases PacketLength IngressPort = inr (differ_names _ _ refl, λ s n. refl)
standard_cases PacketLength EgressSpec = inr (differ_names _ _ refl, λ s n. refl)
standard_cases PacketLength EgressPort = inr (differ_names _ _ refl, λ s n. refl)
standard_cases PacketLength PacketLength = inl refl
standard_cases PacketLength InstanceType = inr (differ_names _ _ refl, λ s n. refl)
standard_cases InstanceType IngressPort = inr (differ_names _ _ refl, λ s n. refl)
standard_cases InstanceType EgressSpec = inr (differ_names _ _ refl, λ s n. refl)
standard_cases InstanceType EgressPort = inr (differ_names _ _ refl, λ s n. refl)
standard_cases InstanceType PacketLength = inr (differ_names _ _ refl, λ s n. refl)
standard_cases InstanceType InstanceType = inl refl

instances_stay : (s : State) (which : Standard) (n : ℕ) → (with_standard s which n).instances ≡ s.instances
instances_stay s IngressPort n = refl
instances_stay s EgressSpec n = refl
instances_stay s EgressPort n = refl
instances_stay s PacketLength n = refl
instances_stay s InstanceType n = refl

requests_stay : (s : State) (which : Standard) (n : ℕ) (kind : RequestKind) → request14 (with_standard s which n) kind ≡ request14 s kind
requests_stay s IngressPort n kind = requests_by14 (with_standard s IngressPort n) s refl refl refl refl kind
requests_stay s EgressSpec n kind = requests_by14 (with_standard s EgressSpec n) s refl refl refl refl kind
requests_stay s EgressPort n kind = requests_by14 (with_standard s EgressPort n) s refl refl refl refl kind
requests_stay s PacketLength n kind = requests_by14 (with_standard s PacketLength n) s refl refl refl refl kind
requests_stay s InstanceType n kind = requests_by14 (with_standard s InstanceType n) s refl refl refl refl kind

pub shown_stays : (f g : Frame) (x : Shown) (i : Instance) → f.headers ≡ g.headers → f.metadata ≡ g.metadata → IsShown f x i → IsShown g x i
shown_stays f g (as_header called fields) i a b shown = ap (λ v. member_in v called) (sym a) ∙ shown
shown_stays f g (as_stack called fields) i a b shown = ap (λ v. member_in v called) (sym a) ∙ shown
shown_stays f g (as_metadata called fields) i a b shown = ap (λ v. member_in v called) (sym b) ∙ shown

standard_write : (names : NewNames) (s : State) (f : Frame) (which : Standard) (v : Value) → Agrees names s f → write (reference of_standard (to_member (standard_word which) ∷ [])) v f ≡ with_owned f of_standard (with_member f.standard (standard_word which) (a_number (standard_width which) (number_in v % 2 ^ standard_width which)))
standard_write names s f which v agrees =
    let word = standard_word which in
    ap (λ z. with_owned f of_standard (with_part f.standard (to_member word) (fitted z v))) (part_is f.standard word (standard_there names s f which agrees) ∙ agrees.standard which)
    ∙ ap (with_owned f of_standard) (put_is f.standard word (a_number (standard_width which) (number_in v % 2 ^ standard_width which)) (standard_there names s f which agrees))

standard_each : (names : NewNames) (s : State) (f : Frame) (which other : Standard) (n : ℕ) → Agrees names s f → member_in (with_member f.standard (standard_word which) (a_number (standard_width which) n)) (standard_word other) ≡ a_number (standard_width other) (standard_number (with_standard s which n) other)
standard_each names s f which other n agrees = by (standard_cases which other) where
  by : (which ≡ other) ⊎ AreApart which other → member_in (with_member f.standard (standard_word which) (a_number (standard_width which) n)) (standard_word other) ≡ a_number (standard_width other) (standard_number (with_standard s which n) other)
  by (inl same) = subst (λ o. member_in (with_member f.standard (standard_word which) (a_number (standard_width which) n)) (standard_word o) ≡ a_number (standard_width o) (standard_number (with_standard s which n) o)) same
      (member_same f.standard (standard_word which) (a_number (standard_width which) n) (standard_there names s f which agrees) ∙ ap (a_number (standard_width which)) (sym (standard_numbers s which n)))
  by (inr apart) = member_other f.standard (standard_word which) (standard_word other) (a_number (standard_width which) n) apart.0 ∙ agrees.standard other ∙ ap (a_number (standard_width other)) (sym (apart.1 s n))

standard_put : (names : NewNames) (s : State) (f : Frame) (which : Standard) (n : ℕ) → Agrees names s f → Agrees names (with_standard s which n) (with_owned f of_standard (with_member f.standard (standard_word which) (a_number (standard_width which) n)))
standard_put names s f which n agrees =
    let g : Frame = with_owned f of_standard (with_member f.standard (standard_word which) (a_number (standard_width which) n)) in
    record {
      instances = record {
        count = ap length (instances_stay s which n) ∙ agrees.instances.count;
        each = λ k lt. subst (λ is. IsShown g (shown_at names.instances k) (get_or is k no_instance)) (sym (instances_stay s which n))
            (shown_stays f g (shown_at names.instances k) (get_or s.instances k no_instance) refl refl (agrees.instances.each k lt));
      };
      standard = λ other. standard_each names s f which other n agrees;
      requests = λ kind. subst (λ r. RequestsAgree names.marks r (request16 g kind)) (sym (requests_stay s which n kind))
          (subst (λ q. RequestsAgree names.marks (request14 s kind) q) (requests_by16 f g refl refl refl refl kind) (agrees.requests kind));
    }

-- slots

-- a state in which a field of a valid header has another number
number_is : (s : State) (i e k n : ℕ) → with_instance s i (with_number (instance_at s i) e k n) ≡ written s (declared i e k) n
number_is s i e k n = by (is_valid s i e) refl where
  by : (b : Bool) → is_valid s i e ≡ b → with_instance s i (with_number (instance_at s i) e k n) ≡ written s (declared i e k) n
  by true valid = rw valid refl
  by false valid = rw valid (ap (λ (l : List Header14). with_instance s i (record { elements = l; place = (instance_at s i).place })) (set-get_or (instance_at s i).elements e no_header14)
      ∙ ap (λ (l : List Instance). record s { instances = l }) (set-get_or s.instances i no_instance))

pub slot_put : (names : NewNames) (s : State) (f : Frame) (slot : Slot) (v : Value) → NamesDiffer names.instances → Agrees names s f → HasSlot names.instances s slot → Agrees names (written s slot (number_in v % 2 ^ slot_width names.instances slot)) (write (slot_reference names.instances slot) v f)
slot_put names s f (standard which) v differ agrees has =
    subst (Agrees names (with_standard s which (number_in v % 2 ^ standard_width which))) (sym (standard_write names s f which v agrees))
    (standard_put names s f which (number_in v % 2 ^ standard_width which) agrees)
slot_put names s f (declared i e k) v differ agrees has =
    let x = shown_at names.instances i in
    let old = instance_at s i in
    let n = number_in v % 2 ^ slot_width names.instances (declared i e k) in
    subst (Agrees names (written s (declared i e k) n)) (sym (field_put f x old e k v (agrees.instances.each i has.0.instance) (differ.fields i has.0.instance) has.1 has.0.within has.0.which has.0.numbers))
    (subst (λ t. Agrees names t (with_shown f x (with_number old e k n))) (number_is s i e k n)
    (instance_put names s f i x (with_number old e k n) differ has.0.instance refl agrees))

pub slot_read : (names : NewNames) (s : State) (f : Frame) (slot : Slot) → NamesDiffer names.instances → Agrees names s f → HasSlot names.instances s slot → read f (slot_reference names.instances slot) ≡ a_number (slot_width names.instances slot) (read14 s slot)
slot_read names s f (standard which) differ agrees has = part_is f.standard (standard_word which) (standard_there names s f which agrees) ∙ agrees.standard which
slot_read names s f (declared i e k) differ agrees has =
    field_read f (shown_at names.instances i) (instance_at s i) e k (agrees.instances.each i has.0.instance) (differ.fields i has.0.instance) has.1 has.0.within has.0.which has.0.numbers
