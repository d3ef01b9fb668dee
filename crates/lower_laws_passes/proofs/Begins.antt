-- An item as its pass begins.
use Rattle.lower_laws_base.specs.Types.{ShownDecl}
use Rattle.lower_laws_base.proofs.Blank.{SizeFits, size_fits, blank_fits}
use Rattle.state_store.specs.State.{Contents}
use Rattle.lower_laws_base.specs.Context.{StateLayout, shown_on, IsShaped, Stored}
use Rattle.lower_laws_base.proofs.Shapes.{InstanceFits}
use Rattle.lower_laws_base.specs.Between.{Beside}
use Rattle.lower_laws_passes.specs.Preserving.{KeptOne, KeptAlike}
use Rattle.lower_laws_passes.specs.Types.{TypesAlike}
use Rattle.lower_laws_passes.specs.Held.{FrameStands, fit_nine}
use Rattle.lower_laws_passes.proofs.Standards.{standard_like}
use Rattle.lower_laws_passes.proofs.Fresh.{with_numbers, fresh_is}
use Rattle.lower_laws_passes.proofs.Held.{beside_of}
use Rattle.std.proofs.Common.{◌≡◌, ℕ, zero, suc, ◌<◌, ◌%◌, ◌^◌, true, false, List, [], ◌∷◌, length, get_or, map, refl, sym, ap, ap₂, ◌∙◌, subst, arith}
use Rattle.std.specs.Prelude.{slice_index_or}
use Rattle.std.proofs.lemmas.Nat.{pow_pos, mod_below}
use Rattle.fabric.specs.declared.items.Item.{Item}
use Rattle.fabric.specs.declared.items.RequestKind.{RequestKind}
use Rattle.fabric.specs.declared.items.RequestKind.TheVariants.{CloneI2E, CloneE2E, Resubmit, Recirculate}
use Rattle.fabric.specs.Twins.{AlikeItem}
use Rattle.p414_syntax.specs.declared.syntax.Decl.{Decl}
use Rattle.p414_syntax.specs.declared.syntax.Decl.TheVariants as decl
use Rattle.p414_syntax.specs.declared.syntax.Sort.TheVariants as sort
use Rattle.p414_syntax.specs.Names.{declared_in}
use Rattle.p414_sem.specs.declared.standard.Standard.{Standard}
use Rattle.p414_sem.specs.declared.standard.Standard.TheVariants.{IngressPort, EgressSpec, EgressPort, PacketLength, InstanceType}
use Rattle.p414_sem.specs.State.{Instance, State, no_instance, instance_at, standard_number, blank_instance, new_instance, request_of as request14}
use Rattle.p414_sem.specs.Expanded.{Expanded}
use Rattle.p414_sem.specs.Passes.{Preserved, with_preserved_in, with_preserved_from, begins}
use Rattle.v1_core.specs.Values.{Value, member_in}
use Rattle.v1_core.specs.Frames.{Frame, request_of as request16}
use Rattle.v1_core.specs.Surroundings.{Setting}
use Rattle.v1_core.specs.Passes.{Between, new_frame, item_moment}
use Rattle.agreement_of_meanings.specs.Shown.{Shown, as_header, as_stack, as_metadata, is_metadata, name_of, fields_of, field_at, shown_value, IsShown, standard_width}
use Rattle.agreement_of_meanings.specs.Agrees.{RequestsAgree}

-- an instance as a pass begins
abbrev pub begun_as : Shown → ℕ → List ℕ → Instance
begun_as (as_metadata called fields) size numbers = record { elements = record { valid = true; numbers = numbers } ∷ []; place = 0 }
begun_as x size numbers = blank_instance false size (length (fields_of x))

begun_is : (ds : List Decl) (d : Decl) (x : Shown) (size : ℕ) (numbers : List ℕ) → ShownDecl ds d x size → with_preserved_in d numbers (new_instance ds d) ≡ begun_as x size numbers
begun_is ds (decl.Header h) (as_header called fields) size numbers is = ap₂ (blank_instance false) (is.1 ∙ sym is.0) is.2
begun_is ds (decl.Header h) (as_stack called fields) size numbers is = ap₂ (blank_instance false) is.0 is.1
begun_is ds (decl.Metadata m) (as_metadata called fields) size numbers is = refl
begun_is ds (decl.Header h) (as_metadata called fields) size numbers is = absurd is
begun_is ds (decl.Metadata m) (as_header called fields) size numbers is = absurd is
begun_is ds (decl.Metadata m) (as_stack called fields) size numbers is = absurd is
begun_is ds _ x size numbers is = absurd is

from_at : (ds all : List Decl) (q : Preserved) (k : ℕ) (d : Decl) → length q ≡ length all → k < length all → get_or (with_preserved_from all q (map (new_instance ds) all)) k no_instance ≡ with_preserved_in (get_or all k d) (slice_index_or q k []) (new_instance ds (get_or all k d))
from_at ds [] q k d count lt = absurd (omega (arith, lt))
from_at ds (x ∷ all) [] k d count lt = absurd (omega (arith, count))
from_at ds (x ∷ all) (n ∷ q) zero d count lt = refl
from_at ds (x ∷ all) (n ∷ q) (suc k) d count lt = from_at ds all q k d (omega (arith, count)) (omega (arith, lt))

from_length : (ds all : List Decl) (q : Preserved) → length q ≡ length all → length (with_preserved_from all q (map (new_instance ds) all)) ≡ length all
from_length ds [] q count = refl
from_length ds (x ∷ all) [] count = absurd (omega (arith, count))
from_length ds (x ∷ all) (n ∷ q) count = ap suc (from_length ds all q (omega (arith, count)))

-- it is of the program

abbrev NumbersFit : Shown → List ℕ → Type 0
NumbersFit (as_metadata called fields) numbers = (length numbers ≡ length fields) × ((k : ℕ) → k < length fields → get_or numbers k 0 < 2 ^ (field_at fields k).width)
NumbersFit x numbers = Unit {0}

numbers_fit : (x : Shown) (numbers : List ℕ) (v : Value) → (is_metadata x ≡ true → KeptOne x numbers v) → NumbersFit x numbers
numbers_fit (as_header called fields) numbers v one = tt
numbers_fit (as_stack called fields) numbers v one = tt
numbers_fit (as_metadata called fields) numbers v one = let k = one refl in (k.count, k.bounds)

pub begun_fits : (x : Shown) (size : ℕ) (numbers : List ℕ) → SizeFits x size → NumbersFit x numbers → InstanceFits x size (begun_as x size numbers)
begun_fits (as_header called fields) size numbers one fit = blank_fits (as_header called fields) size refl one
begun_fits (as_stack called fields) size numbers one fit = blank_fits (as_stack called fields) size refl one
begun_fits (as_metadata called fields) size numbers one fit =
    record { size_is = sym one; place = omega arith; each = each } where
      each : (e : ℕ) → e < size → IsShaped (as_metadata called fields) (begun_as (as_metadata called fields) size numbers) e
      each e lt =
          let first : e ≡ 0 = omega (arith, lt, one) in
          subst (λ z. IsShaped (as_metadata called fields) (begun_as (as_metadata called fields) size numbers) z) (sym first)
          (record { which = (refl, refl); count = fit.0; bounds = fit.1 })

-- and shown
begun_shown : (f : Frame) (x : Shown) (size : ℕ) (numbers : List ℕ) → (is_metadata x ≡ false → member_in f.headers (name_of x) ≡ shown_value x (blank_instance false size (length (fields_of x)))) → (is_metadata x ≡ true → KeptOne x numbers f.metadata) → IsShown f x (begun_as x size numbers)
begun_shown f (as_header called fields) size numbers zeros one = zeros refl
begun_shown f (as_stack called fields) size numbers zeros one = zeros refl
begun_shown f (as_metadata called fields) size numbers zeros one = (one refl).shown

module _ (g : StateLayout) (ds : List Decl) (x : Expanded) (c16 : Setting) (types : TypesAlike g ds x c16.syntax) (i : Item Preserved) (j : Item Value) (same : AlikeItem fit_nine (KeptAlike g) i j) where
  abbrev t : State
  t = begins ds i

  abbrev octets : ℕ
  octets = length j.octets % 2 ^ 32

  abbrev f : Frame
  f = new_frame c16.syntax j.port octets j.instance j.kept

  abbrev all : List Decl
  all = declared_in sort.Instance ds

  counted : length i.kept ≡ length all
  counted = same.preserved.count ∙ sym types.shown.all

  many : length t.instances ≡ length g.names.instances
  many = from_length ds all i.kept counted ∙ types.shown.all

  -- what there is of each instance
  record There (k : ℕ) : Type 0 where
    is : instance_at t k ≡ begun_as (shown_on g k) (g.size_of k) (slice_index_or i.kept k [])
    fits : InstanceFits (shown_on g k) (g.size_of k) (instance_at t k)

  there_by : (d : Decl) (k : ℕ) → k < length g.names.instances → There k
  there_by d k lt =
      let its = types.shown.each k lt d in
      let is : instance_at t k ≡ begun_as (shown_on g k) (g.size_of k) (slice_index_or i.kept k []) =
      from_at ds all i.kept k d counted (omega (arith, types.shown.all, lt))
      ∙ begun_is ds (get_or all k d) (shown_on g k) (g.size_of k) (slice_index_or i.kept k []) its in
      record {
        is = is;
        fits = subst (λ (z : Instance). InstanceFits (shown_on g k) (g.size_of k) z) (sym is)
            (begun_fits (shown_on g k) (g.size_of k) (slice_index_or i.kept k []) (size_fits ds (get_or all k d) (shown_on g k) (g.size_of k) its)
            (numbers_fit (shown_on g k) (slice_index_or i.kept k []) f.metadata (λ b. same.preserved.each k lt b)));
      }

  there : (k : ℕ) → k < length g.names.instances → There k
  there k lt = by all refl where
    by : (ds' : List Decl) → declared_in sort.Instance ds ≡ ds' → There k
    by [] e = absurd (omega (arith, ap length e, types.shown.all, lt))
    by (d ∷ rest) e = there_by d k lt

  shown : (k : ℕ) → k < length g.names.instances → IsShown f (shown_on g k) (instance_at t k)
  shown k lt =
      subst (IsShown f (shown_on g k)) (sym (there k lt).is)
      (begun_shown f (shown_on g k) (g.size_of k) (slice_index_or i.kept k []) (λ is. types.zeros.headers k lt is) (λ is. same.preserved.each k lt is))

  kind_fits : j.instance < 2 ^ 32
  kind_fits = subst (λ z. z < 2 ^ 32) same.instance same.fits_instance

  port_fits : j.port < 2 ^ 9
  port_fits = subst (λ z. z < 2 ^ 9) same.port same.fits_port

  numbers : (which : Standard) → standard_number (with_numbers t j.port octets j.instance) which ≡ standard_number t which
  numbers IngressPort = sym same.port
  numbers EgressSpec = refl
  numbers EgressPort = refl
  numbers PacketLength = ap (λ l. length l % 2 ^ 32) (sym same.octets)
  numbers InstanceType = sym same.instance

  none_asked : (kind : RequestKind) → RequestsAgree g.names.marks (request14 t kind) (request16 f kind)
  none_asked CloneI2E = tt
  none_asked CloneE2E = tt
  none_asked Resubmit = tt
  none_asked Recirculate = tt

  fits_standard : (which : Standard) → standard_number t which < 2 ^ standard_width which
  fits_standard IngressPort = same.fits_port
  fits_standard EgressSpec = pow_pos 9
  fits_standard EgressPort = pow_pos 9
  fits_standard PacketLength = mod_below (length i.octets) (2 ^ 32) (pow_pos 32)
  fits_standard InstanceType = same.fits_instance

  frame_begins : FrameStands g t f
  frame_begins = record {
    instances = record { count = many; each = shown };
    shaped = record {
      count = many;
      sizes = λ k lt. (there k lt).fits.size_is;
      places = λ k lt. (there k lt).fits.place;
      each = λ k e lt b. (there k lt).fits.each e b;
      standard = fits_standard;
    };
    standard = standard_like g (with_numbers t j.port octets j.instance) t 0 0 f.standard numbers
        (fresh_is g c16.syntax types.zeros t j.port octets j.instance port_fits (mod_below (length j.octets) (2 ^ 32) (pow_pos 32)) kind_fits);
    headers = types.zeros.header_members;
    metadata = same.preserved.members;
    variables = refl;
    inner = refl;
  }

  pub item_begins : (b : Between) (store : Contents) → Stored g.shapes store → b.store ≡ store → Beside g 0 0 (record { state = t; store = store }) (item_moment c16 b j)
  item_begins b store stored kept = beside_of g t store b f j.octets frame_begins stored kept (sym same.octets) refl none_asked
