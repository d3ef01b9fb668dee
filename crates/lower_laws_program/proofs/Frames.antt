-- For each state whose requests name no list but those that are marked stands a frame that agrees.
use Rattle.std.proofs.Common.{◌≡◌, ◌≢◌, ℕ, zero, suc, ◌<◌, Bool, true, false, cond, Option, Some, None, List, [], ◌∷◌, length, get_or, refl, sym, ap, ◌∙◌, arith}
use Rattle.std.specs.Prelude.{unwrap_or, not}
use Rattle.fabric.specs.declared.items.RequestKind.{RequestKind}
use Rattle.fabric.specs.declared.items.RequestKind.TheVariants.{CloneI2E, CloneE2E, Resubmit, Recirculate}
use Rattle.p414_sem.specs.declared.requests.Request14.{Request14}
use Rattle.p414_sem.specs.declared.standard.Standard.{Standard}
use Rattle.p414_sem.specs.declared.standard.Standard.TheVariants.{IngressPort, EgressSpec, EgressPort, PacketLength, InstanceType}
use Rattle.p414_sem.specs.State.{Instance, State, no_instance, standard_number, request_of as request_of14}
use Rattle.p416_syntax.specs.Names.{Name}
use Rattle.v1_core.specs.Values.{a_member, a_number, member_in}
use Rattle.v1_core.specs.Frames.{owned, request_of as request_of16}
use Rattle.agreement_of_meanings.specs.Shown.{Shown, as_header, as_stack, as_metadata, name_of, is_metadata, owner_of, shown_at, shown_value, NamesDiffer, standard_word, standard_width}
use Rattle.agreement_of_meanings.specs.Agrees.{Marked, NewNames, MarksNone, ListsAgree, RequestsAgree, Agrees}
use Rattle.agreement_of_meanings.proofs.Names.{same_name, other_name}
use Rattle.lower_laws_program.specs.Frames.{is_in, members_shown, list_shown, request_shown, frame_shown, ListMarked, RequestMarked, RequestsMarked}

abbrev Apart : List Shown → Type 0
Apart xs = (j k : ℕ) → j < length xs → k < length xs → j ≢ k → is_metadata (shown_at xs j) ≡ is_metadata (shown_at xs k) → name_of (shown_at xs j) ≢ name_of (shown_at xs k)

in_it : (b : Bool) (x : Shown) → is_metadata x ≡ b → is_in b x ≡ true
in_it true x is = is
in_it false x is = ap not is

in_so : (b : Bool) (x : Shown) → is_in b x ≡ true → is_metadata x ≡ b
in_so true x is = is
in_so false (as_header called fields) is = refl
in_so false (as_stack called fields) is = refl
in_so false (as_metadata called fields) is = absurd (cc is)

member_shown : (b : Bool) (xs : List Shown) (instances : List Instance) → Apart xs → length instances ≡ length xs → (k : ℕ) → k < length xs → is_metadata (shown_at xs k) ≡ b → member_in (members_shown b xs instances) (name_of (shown_at xs k)) ≡ shown_value (shown_at xs k) (get_or instances k no_instance)
member_shown b [] instances apart count k lt is = absurd (omega (arith, lt))
member_shown b (x ∷ xs) [] apart count k lt is = absurd (cc count)
member_shown b (x ∷ xs) (i ∷ instances) apart count zero lt is =
    ap (λ z. member_in (cond z (a_member (name_of x) (shown_value x i) (members_shown b xs instances)) (members_shown b xs instances)) (name_of x)) (in_it b x is)
    ∙ ap (λ z. cond z (shown_value x i) (member_in (members_shown b xs instances) (name_of x))) (same_name (name_of x))
member_shown b (x ∷ xs) (i ∷ instances) apart count (suc k) lt is =
    by (member_shown b xs instances (λ j m jt mt differ. apart (suc j) (suc m) (omega (arith, jt)) (omega (arith, mt)) (λ e. differ (omega (arith, e)))) (omega (arith, count)) k (omega (arith, lt)) is) (is_in b x) refl where
      word : Name
      word = name_of (shown_at xs k)

      by : member_in (members_shown b xs instances) word ≡ shown_value (shown_at xs k) (get_or instances k no_instance) → (z : Bool) → is_in b x ≡ z → member_in (cond z (a_member (name_of x) (shown_value x i) (members_shown b xs instances)) (members_shown b xs instances)) word ≡ shown_value (shown_at xs k) (get_or instances k no_instance)
      by later true e =
          ap (λ t. cond t (shown_value x i) (member_in (members_shown b xs instances) word))
          (other_name (name_of x) word (apart zero (suc k) (omega (arith, lt)) lt (λ e. absurd (omega (arith, e))) (in_so b x e ∙ sym is)))
          ∙ later
      by later false e = later

owned_is : (names : NewNames) (s : State) (x : Shown) → owned (frame_shown names s) (owner_of x) ≡ members_shown (is_metadata x) names.instances s.instances
owned_is names s (as_header called fields) = refl
owned_is names s (as_stack called fields) = refl
owned_is names s (as_metadata called fields) = refl

lists_agree : (marks : List Marked) (list : Option ℕ) → MarksNone marks 0 → ListMarked marks list → ListsAgree marks list (list_shown marks list)
lists_agree marks None none is = none
lists_agree marks (Some list) none is = is.1 ∙ ap (λ o. Some (unwrap_or o 0)) (sym is.1)

requests_agree : (marks : List Marked) (r : Option Request14) → MarksNone marks 0 → RequestMarked marks r → RequestsAgree marks r (request_shown marks r)
requests_agree marks None none is = tt
requests_agree marks (Some r) none is = (refl, lists_agree marks r.list none is)

-- The state's instances are those that have names, and no list is marked with 0.
pub frame_agrees : (names : NewNames) (s : State) → NamesDiffer names.instances → MarksNone names.marks 0 → length s.instances ≡ length names.instances → RequestsMarked names s → Agrees names s (frame_shown names s)
frame_agrees names s differ none count marked = record {
  instances = record { count = count; each = λ k lt. ap (λ v. member_in v (name_of (shown_at names.instances k))) (owned_is names s (shown_at names.instances k)) ∙ member_shown (is_metadata (shown_at names.instances k)) names.instances s.instances differ.instances count k lt refl };
  standard = standards;
  requests = requests;
} where
  standards : (which : Standard) → member_in (frame_shown names s).standard (standard_word which) ≡ a_number (standard_width which) (standard_number s which)
  standards IngressPort = refl
  standards EgressSpec = refl
  standards EgressPort = refl
  standards PacketLength = refl
  standards InstanceType = refl

  requests : (kind : RequestKind) → RequestsAgree names.marks (request_of14 s kind) (request_of16 (frame_shown names s) kind)
  requests CloneI2E = requests_agree names.marks _ none (marked CloneI2E)
  requests CloneE2E = requests_agree names.marks _ none (marked CloneE2E)
  requests Resubmit = requests_agree names.marks _ none (marked Resubmit)
  requests Recirculate = requests_agree names.marks _ none (marked Recirculate)
