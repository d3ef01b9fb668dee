-- As parsing begins, the headers of both are invalid; and what the parser's law gives for the passes.
use Rattle.p414_sem.specs.Effects.{Moment as Moment14}
use Rattle.v1_core.specs.Frames.{Owner, of_headers, of_metadata, of_standard, of_variables, of_inner, of_nothing, owned}
use Rattle.lower_laws_base.specs.Context.{StateLayout, shown_on, HasRoot, HasMembers, Shaped, Stands, Lowering, shown_in}
use Rattle.lower_laws_base.proofs.States.{variables_left}
use Rattle.lower_laws_base.proofs.Shapes.{InstanceFits, fits_at}
use Rattle.lower_laws_base.specs.Between.{quiet}
use Rattle.lower_laws_base.specs.Types.{ShownDecl, DeclsShown, ZerosAlike}
use Rattle.lower_laws_base.proofs.Blank.{SizeFits, size_fits, blank_fits}
use Rattle.lower_laws_parser.specs.Parsing.{Origin, Going}
use Rattle.lower_laws_parser.specs.Starts.{headers_off}
use Rattle.std.proofs.Common.{◌≡◌, ℕ, zero, suc, ◌<◌, ◌^◌, false, List, [], ◌∷◌, length, get_or, map, replicate, refl, sym, ap, ap₂, ◌∙◌, subst, arith}
use Rattle.p414_syntax.specs.declared.syntax.Decl.{Decl}
use Rattle.p414_syntax.specs.declared.syntax.Decl.TheVariants as decl
use Rattle.p414_syntax.specs.declared.syntax.Sort.TheVariants as sort
use Rattle.p414_syntax.specs.Names.{declared_in}
use Rattle.p414_sem.specs.State.{Header, Instance, State, no_header, no_instance, instance_at, blank, blank_instance, cleared, request_of as request14}
use Rattle.p414_sem.specs.Parsing.{begun_instance, begun_instances}
use Rattle.v1_core.specs.Values.{a_number, member_in}
use Rattle.v1_core.specs.Frames.{Frame, Moment, request_of as request16}
use Rattle.v1_core.specs.Surroundings.{Setting}
use Rattle.v1_core.specs.Parsing.{without_headers}
use Rattle.agreement_of_meanings.specs.Shown.{Shown, as_header, as_stack, as_metadata, is_metadata, name_of, fields_of, shown_value, element, IsShown, standard_width}
use Rattle.agreement_of_meanings.specs.Agrees.{Agrees, RequestsAgree}
use Rattle.agreement_of_meanings.proofs.Written.{requests_by14, requests_by16}
use Rattle.agreement_of_meanings.proofs.Extracted.{numbers_by}

all_blank : (n : ℕ) (hs : List Header) → ((e : ℕ) → e < length hs → length (get_or hs e no_header).numbers ≡ n) → map (cleared false) hs ≡ replicate (length hs) (blank false n)
all_blank n [] each = refl
all_blank n (h ∷ hs) each =
    ap₂ (λ (a : Header) (l : List Header). a ∷ l) (ap (blank false) (each 0 (omega arith))) (all_blank n hs (λ e lt. each (suc e) (omega (arith, lt))))

-- an instance as parsing begins
abbrev off_as : Shown → ℕ → Instance → Instance
off_as (as_metadata called fields) size i = i
off_as x size i = blank_instance false size (length (fields_of x))

off_blank : (fields : ℕ) (size : ℕ) (i : Instance) → length i.elements ≡ size → ((e : ℕ) → e < length i.elements → length (element i e).numbers ≡ fields) → (let x : Instance = record { elements = map (cleared false) i.elements; place = 0 } in x) ≡ blank_instance false size fields
off_blank fields size i count each =
    ap (λ (l : List Header). let x : Instance = record { elements = l; place = 0 } in x) (all_blank fields i.elements each ∙ ap (λ n. replicate n (blank false fields)) count)

off_is : (ds : List Decl) (d : Decl) (x : Shown) (size : ℕ) (i : Instance) → ShownDecl ds d x size → length i.elements ≡ size → ((e : ℕ) → e < length i.elements → length (element i e).numbers ≡ length (fields_of x)) → begun_instance d i ≡ off_as x size i
off_is ds (decl.Header h) (as_header called fields) size i is count each = off_blank (length fields) size i count each
off_is ds (decl.Header h) (as_stack called fields) size i is count each = off_blank (length fields) size i count each
off_is ds (decl.Metadata m) (as_metadata called fields) size i is count each = refl
off_is ds (decl.Header h) (as_metadata called fields) size i is count each = absurd is
off_is ds (decl.Metadata m) (as_header called fields) size i is count each = absurd is
off_is ds (decl.Metadata m) (as_stack called fields) size i is count each = absurd is
off_is ds _ x size i is count each = absurd is

off_at : (all : List Decl) (l : List Instance) (k : ℕ) (d : Decl) → length l ≡ length all → k < length all → get_or (begun_instances all l) k no_instance ≡ begun_instance (get_or all k d) (get_or l k no_instance)
off_at [] l k d same lt = absurd (omega (arith, lt))
off_at (x ∷ all) [] k d same lt = absurd (omega (arith, same))
off_at (x ∷ all) (i ∷ l) zero d same lt = refl
off_at (x ∷ all) (i ∷ l) (suc k) d same lt = off_at all l k d (omega (arith, same)) (omega (arith, lt))

off_count : (all : List Decl) (l : List Instance) → length l ≡ length all → length (begun_instances all l) ≡ length all
off_count [] l same = refl
off_count (x ∷ all) [] same = absurd (omega (arith, same))
off_count (x ∷ all) (i ∷ l) same = ap suc (off_count all l (omega (arith, same)))

off_shown : (f : Frame) (x : Shown) (size : ℕ) (i : Instance) (g : Frame) → g.metadata ≡ f.metadata → (is_metadata x ≡ false → member_in g.headers (name_of x) ≡ shown_value x (blank_instance false size (length (fields_of x)))) → IsShown f x i → IsShown g x (off_as x size i)
off_shown f (as_header called fields) size i g same zeros shown = zeros refl
off_shown f (as_stack called fields) size i g same zeros shown = zeros refl
off_shown f (as_metadata called fields) size i g same zeros shown = ap (λ v. member_in v called) same ∙ shown

off_fits : (x : Shown) (size : ℕ) (i : Instance) → SizeFits x size → InstanceFits x size i → InstanceFits x size (off_as x size i)
off_fits (as_header called fields) size i one old = blank_fits (as_header called fields) size refl one
off_fits (as_stack called fields) size i one old = blank_fits (as_stack called fields) size refl one
off_fits (as_metadata called fields) size i one old = old

abbrev pub origin : ℕ → Moment14 → Moment → Origin
origin sum x m = record { aside = quiet 0 sum; store = x.store; frame = m.frame }

module _ (g : StateLayout) (ds : List Decl) (shown : DeclsShown g ds) (t : State) (shaped : Shaped g t) where
  many : length t.instances ≡ length (declared_in sort.Instance ds)
  many = shaped.count ∙ sym shown.all

  pub record There (k : ℕ) : Type 0 where
    pub is : instance_at (headers_off ds t) k ≡ off_as (shown_on g k) (g.size_of k) (instance_at t k)
    pub fits : InstanceFits (shown_on g k) (g.size_of k) (instance_at (headers_off ds t) k)

  pub off_all : length (headers_off ds t).instances ≡ length g.names.instances
  off_all = off_count (declared_in sort.Instance ds) t.instances many ∙ shown.all

  there_by : (d : Decl) (k : ℕ) → k < length g.names.instances → There k
  there_by d k lt =
      let its = shown.each k lt d in
      let old = fits_at g t shaped k lt in
      let is : instance_at (headers_off ds t) k ≡ off_as (shown_on g k) (g.size_of k) (instance_at t k) =
      off_at (declared_in sort.Instance ds) t.instances k d many (omega (arith, shown.all, lt))
      ∙ off_is ds (get_or (declared_in sort.Instance ds) k d) (shown_on g k) (g.size_of k) (instance_at t k) its old.size_is
      (λ j within. (old.each j (omega (arith, within, old.size_is))).count) in
      record {
        is = is;
        fits = subst (λ (z : Instance). InstanceFits (shown_on g k) (g.size_of k) z) (sym is)
            (off_fits (shown_on g k) (g.size_of k) (instance_at t k) (size_fits ds (get_or (declared_in sort.Instance ds) k d) (shown_on g k) (g.size_of k) its) old);
      }

  pub there : (k : ℕ) → k < length g.names.instances → There k
  there k lt = by (declared_in sort.Instance ds) refl where
    by : (all : List Decl) → declared_in sort.Instance ds ≡ all → There k
    by [] e = absurd (omega (arith, ap length e, shown.all, lt))
    by (d ∷ rest) e = there_by d k lt

module _ (c : Lowering) (ds : List Decl) (setting : Setting) (shown : DeclsShown c.layout ds) (zeros : ZerosAlike c.layout setting.syntax) (sum : ℕ) (x : Moment14) (m : Moment) (stands : Stands c.layout [] [] (quiet 0 sum) x m) where
  abbrev t : State
  t = x.state

  abbrev f : Frame
  f = (without_headers setting m).frame

  off_agrees : Agrees c.layout.names (headers_off ds t) f
  off_agrees = record {
    instances = record {
      count = off_all c.layout ds shown t stands.shaped;
      each = λ k lt.
          subst (IsShown f (shown_in c k)) (sym (there c.layout ds shown t stands.shaped k lt).is)
          (off_shown m.frame (shown_in c k) (c.layout.size_of k) (instance_at t k) f refl (λ is. zeros.headers k lt is) (stands.both.packet.agrees.instances.each k lt));
    };
    standard = λ which. stands.both.packet.agrees.standard which ∙ ap (λ n. a_number (standard_width which) n) (numbers_by t (headers_off ds t) refl refl refl refl refl which);
    requests = λ kind. subst (λ r. RequestsAgree c.layout.names.marks r (request16 f kind)) (requests_by14 t (headers_off ds t) refl refl refl refl kind)
        (subst (λ q. RequestsAgree c.layout.names.marks (request14 t kind) q) (requests_by16 m.frame f refl refl refl refl kind) (stands.both.packet.agrees.requests kind));
  }

  members : (o : Owner) → HasRoot c.layout o → HasMembers (c.layout.members o) (owned f o)
  members of_headers is = zeros.header_members
  members of_metadata is = stands.members of_metadata is
  members of_standard is = stands.members of_standard is
  members of_variables is = absurd is
  members of_inner is = absurd is
  members of_nothing is = absurd is

  pub off_going : Going c (origin sum x m) (headers_off ds t) (without_headers setting m)
  off_going = record {
    stands = record {
      both = record { packet = record { agrees = off_agrees; unparsed = stands.both.packet.unparsed; events = stands.both.packet.events; runs = stands.both.packet.runs }; store = stands.both.store };
      shaped = record {
        count = off_all c.layout ds shown t stands.shaped;
        sizes = λ k lt. (there c.layout ds shown t stands.shaped k lt).fits.size_is;
        places = λ k lt. (there c.layout ds shown t stands.shaped k lt).fits.place;
        each = λ k e lt b. (there c.layout ds shown t stands.shaped k lt).fits.each e b;
        standard = λ which. subst (λ n. n < 2 ^ standard_width which) (numbers_by t (headers_off ds t) refl refl refl refl refl which) (stands.shaped.standard which);
      };
      stored = stands.stored;
      inner = stands.inner;
      count = refl;
      variables = variables_left c.layout [] [] (quiet 0 sum) c.layout.variables m.frame f refl stands.variables;
      members = members;
      error = stands.error;
      checksum = stands.checksum;
      emitted = stands.emitted;
      hit = stands.hit;
    };
    requests = record { clone_i2e = refl; clone_e2e = refl; resubmit = refl; recirculate = refl; events = refl };
  }
