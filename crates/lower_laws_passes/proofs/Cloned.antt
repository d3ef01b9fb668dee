-- A clone made behind egress.
use Rattle.lower_laws_base.specs.Types.{ZerosAlike, ShownDecl, DeclsShown}
use Rattle.p414_sem.specs.Effects.{Moment as Moment14}
use Rattle.lower_laws_base.specs.Context.{StateLayout, shown_on, IsShaped}
use Rattle.lower_laws_base.proofs.Shapes.{InstanceFits, fits_at}
use Rattle.lower_laws_base.specs.Between.{between, Beside}
use Rattle.lower_laws_passes.specs.Preserving.{KeptOne, KeptAlike}
use Rattle.lower_laws_passes.specs.Held.{HeldAlive}
use Rattle.lower_laws_passes.proofs.Standards.{standard_like}
use Rattle.lower_laws_passes.proofs.Fresh.{with_numbers, fresh_is}
use Rattle.lower_laws_passes.proofs.Held.{frame_of}
use Rattle.std.proofs.Common.{◌≡◌, ℕ, zero, suc, ◌<◌, ◌^◌, true, List, [], ◌∷◌, length, get_or, refl, sym, ap, ◌∙◌, subst, arith}
use Rattle.std.specs.Prelude.{codes, slice_index_or}
use Rattle.std.proofs.lemmas.Nat.{pow_pos}
use Rattle.p414_syntax.specs.declared.syntax.Decl.{Decl}
use Rattle.p414_syntax.specs.declared.syntax.Decl.TheVariants as decl
use Rattle.p414_syntax.specs.declared.syntax.Sort.TheVariants as sort
use Rattle.p414_syntax.specs.Names.{declared_in}
use Rattle.p414_sem.specs.declared.standard.Standard.{Standard}
use Rattle.p414_sem.specs.declared.standard.Standard.TheVariants.{IngressPort, EgressSpec, EgressPort, PacketLength, InstanceType}
use Rattle.p414_sem.specs.State.{Instance, State, no_instance, instance_at, standard_number}
use Rattle.p414_sem.specs.Passes.{Preserved, with_preserved_in, with_preserved_from, cloned as cloned14}
use Rattle.p416_syntax.specs.declared.program.Syntax16.{Syntax16}
use Rattle.v1_core.specs.Values.{Value, number_in, member_in}
use Rattle.v1_core.specs.Frames.{Frame, Moment, Request, standard_number as number16}
use Rattle.v1_core.specs.Passes.{Held, preserved as preserved16, cloned}
use Rattle.agreement_of_meanings.specs.Shown.{Shown, as_header, as_stack, as_metadata, is_metadata, IsShown, standard_word, standard_width}
use Rattle.agreement_of_meanings.specs.Agrees.{Agrees}
use Rattle.agreement_of_meanings.proofs.Names.{is_there, part_is}

-- a field of standard metadata, read by itself
pub number_read : (g : StateLayout) (s : State) (f : Frame) → Agrees g.names s f → (which : Standard) → number16 f (standard_word which) ≡ standard_number s which
number_read g s f agrees which =
    let there = agrees.standard which in
    ap number_in (part_is f.standard (standard_word which) (ap is_there there) ∙ there)

from_any : (all : List Decl) (q : Preserved) (l : List Instance) (k : ℕ) (d : Decl) → length q ≡ length all → length l ≡ length all → k < length all → get_or (with_preserved_from all q l) k no_instance ≡ with_preserved_in (get_or all k d) (slice_index_or q k []) (get_or l k no_instance)
from_any [] q l k d count same lt = absurd (omega (arith, lt))
from_any (x ∷ all) [] l k d count same lt = absurd (omega (arith, count))
from_any (x ∷ all) (n ∷ q) [] k d count same lt = absurd (omega (arith, same))
from_any (x ∷ all) (n ∷ q) (i ∷ l) zero d count same lt = refl
from_any (x ∷ all) (n ∷ q) (i ∷ l) (suc k) d count same lt = from_any all q l k d (omega (arith, count)) (omega (arith, same)) (omega (arith, lt))

from_count : (all : List Decl) (q : Preserved) (l : List Instance) → length q ≡ length all → length l ≡ length all → length (with_preserved_from all q l) ≡ length all
from_count [] q l count same = by q l same where
  by : (q : Preserved) (l : List Instance) → length l ≡ 0 → length (with_preserved_from [] q l) ≡ 0
  by q [] e = refl
  by q (i ∷ l) e = absurd (omega (arith, e))
from_count (x ∷ all) [] l count same = absurd (omega (arith, count))
from_count (x ∷ all) (n ∷ q) [] count same = absurd (omega (arith, same))
from_count (x ∷ all) (n ∷ q) (i ∷ l) count same = ap suc (from_count all q l (omega (arith, count)) (omega (arith, same)))

-- metadata is what is preserved, and a header is as it was
abbrev cloned_as : Shown → List ℕ → Instance → Instance
cloned_as (as_metadata called fields) numbers i = record { elements = record { valid = true; numbers = numbers } ∷ []; place = i.place }
cloned_as x numbers i = i

cloned_is : (ds : List Decl) (d : Decl) (x : Shown) (size : ℕ) (numbers : List ℕ) (i : Instance) → ShownDecl ds d x size → with_preserved_in d numbers i ≡ cloned_as x numbers i
cloned_is ds (decl.Header h) (as_header called fields) size numbers i is = refl
cloned_is ds (decl.Header h) (as_stack called fields) size numbers i is = refl
cloned_is ds (decl.Metadata m) (as_metadata called fields) size numbers i is = refl
cloned_is ds (decl.Header h) (as_metadata called fields) size numbers i is = absurd is
cloned_is ds (decl.Metadata m) (as_header called fields) size numbers i is = absurd is
cloned_is ds (decl.Metadata m) (as_stack called fields) size numbers i is = absurd is
cloned_is ds _ x size numbers i is = absurd is

cloned_shown : (f h : Frame) (x : Shown) (numbers : List ℕ) (i : Instance) → h.headers ≡ f.headers → IsShown f x i → (is_metadata x ≡ true → KeptOne x numbers h.metadata) → IsShown h x (cloned_as x numbers i)
cloned_shown f h (as_header called fields) numbers i same shown one = ap (λ v. member_in v called) same ∙ shown
cloned_shown f h (as_stack called fields) numbers i same shown one = ap (λ v. member_in v called) same ∙ shown
cloned_shown f h (as_metadata called fields) numbers i same shown one = (one refl).shown

cloned_fits : (x : Shown) (size : ℕ) (numbers : List ℕ) (v : Value) (i : Instance) → (is_metadata x ≡ true → (size ≡ 1) × KeptOne x numbers v) → InstanceFits x size i → InstanceFits x size (cloned_as x numbers i)
cloned_fits (as_header called fields) size numbers v i one fits = fits
cloned_fits (as_stack called fields) size numbers v i one fits = fits
cloned_fits (as_metadata called fields) size numbers v i one fits = record { size_is = sym (one refl).0; place = fits.place; each = each } where
  each : (e : ℕ) → e < size → IsShaped (as_metadata called fields) (cloned_as (as_metadata called fields) numbers i) e
  each e lt =
      subst (λ z. IsShaped (as_metadata called fields) (cloned_as (as_metadata called fields) numbers i) z) (sym (fits.each e lt).which.0)
      (record { which = (refl, refl); count = (one refl).1.count; bounds = (one refl).1.bounds })

module _ (g : StateLayout) (ds : List Decl) (syntax : Syntax16) (shown : DeclsShown g ds) (zeros : ZerosAlike g syntax) (sized : (k : ℕ) → k < length g.names.instances → is_metadata (shown_on g k) ≡ true → g.size_of k ≡ 1) (x : Moment14) (m : Moment) (beside : Beside g 0 0 x m) (q : Preserved) (r : Request) (kept : KeptAlike g q (preserved16 syntax m.frame r)) (port : ℕ) (arrived : port ≡ x.state.ingress_port) where
  abbrev s : State
  s = x.state

  abbrev u : State
  u = (cloned14 ds q s).state

  abbrev h : Held
  h = cloned syntax port m r

  abbrev octets : ℕ
  octets = number16 m.frame (codes "packet_length")

  counted : length q ≡ length (declared_in sort.Instance ds)
  counted = kept.count ∙ sym shown.all

  many : length s.instances ≡ length (declared_in sort.Instance ds)
  many = beside.shaped.count ∙ sym shown.all

  all_there : length u.instances ≡ length g.names.instances
  all_there = from_count (declared_in sort.Instance ds) q s.instances counted many ∙ shown.all

  there : (k : ℕ) → k < length g.names.instances → instance_at u k ≡ cloned_as (shown_on g k) (slice_index_or q k []) (instance_at s k)
  there k lt = by (declared_in sort.Instance ds) refl where
    by : (ds' : List Decl) → declared_in sort.Instance ds ≡ ds' → instance_at u k ≡ cloned_as (shown_on g k) (slice_index_or q k []) (instance_at s k)
    by [] e = absurd (omega (arith, ap length e, shown.all, lt))
    by (d ∷ rest) e =
        from_any (declared_in sort.Instance ds) q s.instances k d counted many (omega (arith, shown.all, lt))
        ∙ cloned_is ds (get_or (declared_in sort.Instance ds) k d) (shown_on g k) (g.size_of k) (slice_index_or q k []) (instance_at s k) (shown.each k lt d)

  fits_there : (k : ℕ) → k < length g.names.instances → InstanceFits (shown_on g k) (g.size_of k) (instance_at u k)
  fits_there k lt =
      subst (λ (z : Instance). InstanceFits (shown_on g k) (g.size_of k) z) (sym (there k lt))
      (cloned_fits (shown_on g k) (g.size_of k) (slice_index_or q k []) h.frame.metadata (instance_at s k) (λ is. (sized k lt is, kept.each k lt is)) (fits_at (between g) s beside.shaped k lt))

  length_is : octets ≡ s.packet_length
  length_is = number_read g s m.frame beside.both.packet.agrees PacketLength

  numbers : (which : Standard) → standard_number (with_numbers s port octets 0) which ≡ standard_number u which
  numbers IngressPort = arrived
  numbers EgressSpec = refl
  numbers EgressPort = refl
  numbers PacketLength = length_is
  numbers InstanceType = refl

  fits : (which : Standard) → standard_number u which < 2 ^ standard_width which
  fits IngressPort = beside.shaped.standard IngressPort
  fits EgressSpec = pow_pos 9
  fits EgressPort = pow_pos 9
  fits PacketLength = beside.shaped.standard PacketLength
  fits InstanceType = pow_pos 32

  pub cloned_alive : HeldAlive g u h
  cloned_alive = record {
    stands = record {
      instances = record {
        count = all_there;
        each = λ k lt.
            subst (IsShown h.frame (shown_on g k)) (sym (there k lt))
            (cloned_shown m.frame h.frame (shown_on g k) (slice_index_or q k []) (instance_at s k) refl (beside.both.packet.agrees.instances.each k lt) (λ is. kept.each k lt is));
      };
      shaped = record {
        count = all_there;
        sizes = λ k lt. (fits_there k lt).size_is;
        places = λ k lt. (fits_there k lt).place;
        each = λ k e lt b. (fits_there k lt).each e b;
        standard = fits;
      };
      standard = standard_like g (with_numbers s port octets 0) u 0 0 h.frame.standard numbers
          (fresh_is g syntax zeros s port octets 0 (subst (λ n. n < 2 ^ 9) (sym arrived) (beside.shaped.standard IngressPort)) (subst (λ n. n < 2 ^ 32) (sym length_is) (beside.shaped.standard PacketLength)) (pow_pos 32));
      headers = (frame_of g x m beside).headers;
      metadata = kept.members;
      variables = refl;
      inner = refl;
    };
    unparsed = beside.both.packet.unparsed;
    port = arrived;
  }
