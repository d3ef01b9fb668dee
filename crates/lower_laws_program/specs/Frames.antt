-- A frame that shows a state: what the declarations promise to all that stands on them (this project's own; P4_14
-- 1.0.5, "Headers and Fields", "Standard Intrinsic Metadata", "Clone", "Resubmit", "Recirculate"; `v1model.p4`,
-- `standard_metadata_t`).
use Rattle.std.specs.Prelude.{◌≡◌, ℕ, Bool, true, false, not, if◌then◌else◌, List, [], ◌∷◌, codes, unwrap_or, Option, Some, None}
use Rattle.fabric.specs.declared.items.RequestKind.{RequestKind}
use Rattle.fabric.specs.declared.items.RequestKind.TheVariants.{CloneI2E, CloneE2E, Resubmit, Recirculate}
use Rattle.p414_sem.specs.declared.requests.Request14.{Request14}
use Rattle.p414_sem.specs.declared.standard.Standard.{Standard}
use Rattle.p414_sem.specs.declared.standard.Standard.TheVariants.{IngressPort, EgressSpec, EgressPort, PacketLength, InstanceType}
use Rattle.p414_sem.specs.State.{Instance, State, standard_number, request_of as request14}
use Rattle.v1_core.specs.Values.{Value, no_members, a_member, a_number, an_error}
use Rattle.v1_core.specs.Frames.{Frame, Request}
use Rattle.agreement_of_meanings.specs.Shown.{Shown, name_of, is_metadata, shown_value, standard_word, standard_width}
use Rattle.agreement_of_meanings.specs.Agrees.{Marked, NewNames, mark_of}

-- the instance stands in the struct of metadata, or in the other one
abbrev pub is_in : Bool → Shown → Bool
is_in true x = is_metadata x
is_in false x = not (is_metadata x)

-- the instances of the struct of metadata, or of the other one, in order
abbrev pub members_shown : Bool → List Shown → List Instance → Value
members_shown metadata [] instances = no_members
members_shown metadata (x ∷ xs) [] = no_members
members_shown metadata (x ∷ xs) (i ∷ instances) =
    if is_in metadata x then a_member (name_of x) (shown_value x i) (members_shown metadata xs instances) else members_shown metadata xs instances

-- standard metadata with the numbers of a state, and without errors
abbrev pub standard_shown : State → Value
standard_shown s =
    let of = λ (which : Standard) (rest : Value). a_member (standard_word which) (a_number (standard_width which) (standard_number s which)) rest in
    of IngressPort
    (of EgressSpec
    (of EgressPort
    (of PacketLength
    (of InstanceType
    (a_member (codes "parser_error") (an_error 0) (a_member (codes "checksum_error") (a_number 1 0) no_members))))))

-- the mark of a list, 0 without one
abbrev pub list_shown : List Marked → Option ℕ → ℕ
list_shown marks None = 0
list_shown marks (Some list) = unwrap_or (mark_of marks list) 0

-- a request with the mark of its list
abbrev pub request_shown : List Marked → Option Request14 → Option Request
request_shown marks None = None
request_shown marks (Some r) = Some (r.session, list_shown marks r.list)

-- the frame that shows a state, without variables and events
abbrev pub frame_shown : NewNames → State → Frame
frame_shown names s = record {
  headers = members_shown false names.instances s.instances;
  metadata = members_shown true names.instances s.instances;
  standard = standard_shown s;
  variables = no_members;
  inner = no_members;
  clone_i2e = request_shown names.marks (request14 s CloneI2E);
  clone_e2e = request_shown names.marks (request14 s CloneE2E);
  resubmit = request_shown names.marks (request14 s Resubmit);
  recirculate = request_shown names.marks (request14 s Recirculate);
  events = [];
}

-- there is no list, or it has a mark
abbrev pub ListMarked : List Marked → Option ℕ → Type 0
ListMarked marks None = Unit {0}
ListMarked marks (Some list) = (number : ℕ) × (mark_of marks list ≡ Some number)

-- the list of a request, if there is one, has a mark
abbrev pub RequestMarked : List Marked → Option Request14 → Type 0
RequestMarked marks None = Unit {0}
RequestMarked marks (Some r) = ListMarked marks r.list

-- requests name no list but those that are marked
abbrev pub RequestsMarked : NewNames → State → Type 0
RequestsMarked names s = (kind : RequestKind) → RequestMarked names.marks (request14 s kind)
