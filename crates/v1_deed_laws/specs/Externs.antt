-- That each extern does to a packed frame, to the store and to the requests what it does to the frame of the program (`core.p4`,
-- `v1model.p4`). Indices and sessions are below 2 ^ 32, as the rules on types want them.
use Rattle.std.specs.Prelude.{◌≡◌, ℕ, ◌^◌, ◌<◌, ◌≤◌, Bool, List, [], ◌∷◌, length, if◌then◌else◌, Some, None, option_map, IfSome, codes}
use Rattle.p416_syntax.specs.declared.parts.HashAlgorithm.{HashAlgorithm}
use Rattle.fabric.specs.declared.items.RequestKind.{RequestKind}
use Rattle.p416_syntax.specs.declared.program.Syntax16.{Syntax16}
use Rattle.p416_syntax.specs.Names.{Name}
use Rattle.p416_syntax.specs.Breaks.{BreaksNone, program_rules}
use Rattle.v1_core.specs.Values.{to_member}
use Rattle.v1_core.specs.Frames as sem
use Rattle.v1_core.specs.Frames.{Reference, stepped}
use Rattle.v1_core.specs.Slots.{the_standard, part_with, variable_kinds}
use Rattle.v1_core.specs.Numbered.{InScope}
use Rattle.v1_core.specs.Externs.Objects as objects
use Rattle.v1_core.specs.Externs.Hashes as hashes
use Rattle.v1_core.specs.Externs.Checksums as checksums
use Rattle.v1_core.specs.Externs.Ports as ports
use Rattle.v1_core.specs.Externs.Requests as requests
use Rattle.v1_core.specs.Seats.{some_bits, slot_form, Seat}
use Rattle.v1_core.specs.Programs.{part_seat}
use Rattle.v1_core.specs.Scopes.{IsScope}
use Rattle.v1_ready_blocks.specs.declared.places.Target.{Target}
use Rattle.v1_ready_blocks.specs.declared.externs.Extern.TheVariants as extern
use Rattle.v1_ready_blocks.specs.Moments.{Moment}
use Rattle.v1_ready_blocks.specs.Places.{seen_slice}
use Rattle.v1_ready_blocks.specs.Externs.{Given, number_at, holds_at, value_at, result_by, executed}
use Rattle.v1_parser_laws.specs.Shown.{Shows}
use Rattle.v1_place_laws.specs.Finding.{IsAt}

-- bits that an l-value means stand at this target
pub record IsTarget (syntax : Syntax16) (who : InScope) (r : Reference) (to : Target) : Type 0 where
  pub seat : Seat
  pub at : IsAt syntax who r (option_map seen_slice to.slice) seat
  pub width : ℕ
  pub form : seat.form ≡ slot_form (some_bits width)
  pub slot : to.slot ≡ seat.start.slot
  -- no slot and no slice has more than 128 bits
  pub narrow : width ≤ 128
  pub cut : IfSome to.slice (λ s. s.width ≤ 128)

-- a field of standard metadata stands in this slot
pub record IsStandard (syntax : Syntax16) (word : Name) (width slot : ℕ) : Type 0 where
  pub seat : Seat
  pub at : part_seat syntax (part_with the_standard (to_member word ∷ [])) ≡ Some seat
  pub form : seat.form ≡ slot_form (some_bits width)
  pub slot_is : slot ≡ seat.start.slot

-- objects

abbrev pub CountShows : Type 0
CountShows =
    (syntax : Syntax16) (who : InScope) (object slot : ℕ) (g : Given) (m : sem.Moment) (n : Moment) →
    IsStandard syntax (codes "packet_length") 32 slot → number_at g 0 < 2 ^ 32 → BreaksNone syntax program_rules →
    Shows syntax who m n →
    Shows syntax who (objects.count object (number_at g 0) m) (executed (extern.Count object slot) g n)

abbrev pub CountEntryShows : Type 0
CountEntryShows =
    (syntax : Syntax16) (who : InScope) (object slot : ℕ) (g : Given) (m : sem.Moment) (n : Moment) →
    IsStandard syntax (codes "packet_length") 32 slot → BreaksNone syntax program_rules → Shows syntax who m n →
    Shows syntax who (objects.count_entry object m) (executed (extern.CountEntry object slot) g n)

abbrev pub ReadShows : Type 0
ReadShows =
    (syntax : Syntax16) (who : InScope) (object : ℕ) (r : Reference) (to : Target) (g : Given) (m : sem.Moment)
    (n : Moment) →
    BreaksNone syntax program_rules → IsScope (length (variable_kinds syntax)) who → IsTarget syntax who r to →
    number_at g 0 < 2 ^ 32 → Shows syntax who m n →
    Shows syntax who (objects.register_read object r (number_at g 0) m) (executed (extern.Read object to) g n)

abbrev pub WriteShows : Type 0
WriteShows =
    (syntax : Syntax16) (who : InScope) (object : ℕ) (g : Given) (m : sem.Moment) (n : Moment) → number_at g 0 < 2 ^ 32 →
    Shows syntax who m n →
    Shows syntax who (objects.register_write object (number_at g 0) (number_at g 1) m) (executed (extern.Write object) g n)

abbrev pub MeterShows : Type 0
MeterShows =
    (syntax : Syntax16) (who : InScope) (object : ℕ) (r : Reference) (to : Target) (g : Given) (m : sem.Moment)
    (n : Moment) →
    BreaksNone syntax program_rules → IsScope (length (variable_kinds syntax)) who → IsTarget syntax who r to →
    number_at g 0 < 2 ^ 32 → Shows syntax who m n →
    Shows syntax who (objects.execute_meter object (number_at g 0) r m) (executed (extern.ExecuteMeter object to) g n)

-- hashes and checksums, by the algorithm of a name

abbrev pub IsAlgorithm : Name → HashAlgorithm → Type 0
IsAlgorithm word algorithm = (list : List Bool) → hashes.result_of word list ≡ result_by algorithm list

abbrev pub HashShows : Type 0
HashShows =
    (syntax : Syntax16) (who : InScope) (r : Reference) (to : Target) (word : Name) (algorithm : HashAlgorithm) (g : Given)
    (m : sem.Moment) (n : Moment) →
    BreaksNone syntax program_rules → IsScope (length (variable_kinds syntax)) who → IsTarget syntax who r to →
    IsAlgorithm word algorithm → Shows syntax who m n →
    Shows syntax who (hashes.hash r word (number_at g 0) g.list (number_at g 1) m) (executed (extern.Hash algorithm to) g n)

-- the octets that aren't parsed may follow the list
abbrev pub with_octets : Bool → sem.Moment → List Bool → List Bool
with_octets payload m list = if payload then checksums.with_payload m list else list

abbrev pub VerifyShows : Type 0
VerifyShows =
    (syntax : Syntax16) (who : InScope) (word : Name) (algorithm : HashAlgorithm) (payload : Bool) (slot : ℕ) (g : Given)
    (m : sem.Moment) (n : Moment) →
    IsStandard syntax (codes "checksum_error") 1 slot → IsAlgorithm word algorithm → BreaksNone syntax program_rules →
    Shows syntax who m n →
    Shows syntax who (checksums.verify_checksum (holds_at g 0) (with_octets payload m g.list) (value_at g 1) word m)
    (executed (extern.Verify algorithm payload slot) g n)

abbrev pub UpdateShows : Type 0
UpdateShows =
    (syntax : Syntax16) (who : InScope) (r : Reference) (to : Target) (word : Name) (algorithm : HashAlgorithm)
    (payload : Bool) (g : Given) (m : sem.Moment) (n : Moment) →
    BreaksNone syntax program_rules → IsScope (length (variable_kinds syntax)) who → IsTarget syntax who r to →
    IsAlgorithm word algorithm → Shows syntax who m n →
    Shows syntax who (checksums.update_checksum (holds_at g 0) (with_octets payload m g.list) r word m)
    (executed (extern.Update algorithm payload to) g n)

-- the port that drops

abbrev pub DropShows : Type 0
DropShows =
    (syntax : Syntax16) (who : InScope) (r : Reference) (to : Target) (g : Given) (m : sem.Moment) (n : Moment) →
    BreaksNone syntax program_rules → IsScope (length (variable_kinds syntax)) who →
    IsTarget syntax who (stepped r (to_member (codes "egress_spec"))) to → to.slice ≡ None → Shows syntax who m n →
    Shows syntax who (ports.mark_to_drop r m) (executed (extern.MarkToDrop to.slot) g n)

-- requests

abbrev pub RequestShows : Type 0
RequestShows =
    (syntax : Syntax16) (who : InScope) (kind : RequestKind) (list : ℕ) (g : Given) (m : sem.Moment) (n : Moment) →
    Shows syntax who m n → Shows syntax who (requests.requested kind 0 list m) (executed (extern.Request kind list) g n)

abbrev pub CloneShows : Type 0
CloneShows =
    (syntax : Syntax16) (who : InScope) (kind : RequestKind) (list : ℕ) (g : Given) (m : sem.Moment) (n : Moment) →
    number_at g 0 < 2 ^ 32 → Shows syntax who m n →
    Shows syntax who (requests.requested kind (number_at g 0) list m) (executed (extern.Clone kind list) g n)
