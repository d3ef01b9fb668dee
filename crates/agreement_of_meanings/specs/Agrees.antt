-- When a packet's state under P4_14 and its frame under P4_16 agree, and when what further runs on them agrees (this project's
-- own).
use Rattle.std.specs.Prelude.{◌≡◌, ◌≢◌, ℕ, ◌^◌, ◌<◌, ◌==◌, if◌then◌else◌, true, List, [], ◌∷◌, length, Option, Some, None}
use Rattle.fabric.specs.declared.items.RequestKind.{RequestKind}
use Rattle.p414_sem.specs.declared.requests.Request14.{Request14}
use Rattle.p414_sem.specs.declared.standard.Standard.{Standard}
use Rattle.p414_sem.specs.declared.parsed.Parsed.{Parsed}
use Rattle.p414_sem.specs.declared.parsed.Parsed.TheVariants.{Accepted, OutOfPacket, OutOfBounds, UnhandledSelect}
use Rattle.p414_sem.specs.Slots.{Slot, standard, declared}
use Rattle.p414_sem.specs.State.{Instance, State, instance_at, standard_number, request_of as request14}
use Rattle.p414_sem.specs.Effects.{Moment as Moment14}
use Rattle.p414_sem.specs.Parsing.{Progress, goes_on, stops, Step, to, ended}
use Rattle.p416_syntax.specs.declared.parsers.Target.{Target}
use Rattle.p416_syntax.specs.Names.{Name}
use Rattle.p416_syntax.specs.Kinds.{bits}
use Rattle.v1_core.specs.declared.parser_error.ParserError.{ParserError}
use Rattle.v1_core.specs.declared.parser_error.ParserError.TheVariants.{PacketTooShort, StackOutOfBounds, NoMatch}
use Rattle.v1_core.specs.Values.{a_number, member_in}
use Rattle.v1_core.specs.Frames.{Request, Frame, Moment, request_of as request16}
use Rattle.v1_core.specs.Parsing.{Keys, Onward, finished, to_target}
use Rattle.agreement_of_meanings.specs.Shown.{Shown, as_header, as_stack, as_metadata, fields_of, shown_at, AreShown, standard_word, standard_width, element}

-- a preserved list by its number, and the number that marks its fields
pub record Marked : Type 0 where
  pub list : ℕ
  pub number : ℕ

-- the new names: of each instance in the order of declaration, and the marks of the lists that are preserved
pub record NewNames : Type 0 where
  pub instances : List Shown
  pub marks : List Marked

abbrev pub mark_of : List Marked → ℕ → Option ℕ
mark_of [] list = None
mark_of (m ∷ marks) list = if m.list == list then Some m.number else mark_of marks list

-- no list is marked with this number
abbrev pub MarksNone : List Marked → ℕ → Type 0
MarksNone [] number = Unit {0}
MarksNone (m ∷ marks) number = (m.number ≢ number) × MarksNone marks number

-- a request names the same list, or none in both
abbrev pub ListsAgree : List Marked → Option ℕ → ℕ → Type 0
ListsAgree marks None number = MarksNone marks number
ListsAgree marks (Some list) number = mark_of marks list ≡ Some number

abbrev pub RequestsAgree : List Marked → Option Request14 → Option Request → Type 0
RequestsAgree marks None None = Unit {0}
RequestsAgree marks (Some r) (Some q) = (q.0 ≡ r.session) × ListsAgree marks r.list q.1
RequestsAgree marks _ _ = ⊥

-- a frame shows what a state is: each instance, standard metadata, and the requests of each kind
pub record Agrees (names : NewNames) (s : State) (f : Frame) : Type 0 where
  pub instances : AreShown names.instances s.instances f
  pub standard : (which : Standard) → member_in f.standard (standard_word which) ≡ a_number (standard_width which) (standard_number s which)
  pub requests : (kind : RequestKind) → RequestsAgree names.marks (request14 s kind) (request16 f kind)

-- which parts a state has: an element of an instance, with a number for each field; that of a header and of metadata is 0, and
-- metadata is valid

abbrev pub IsElement : Shown → Instance → ℕ → Type 0
IsElement (as_header called fields) i e = e ≡ 0
IsElement (as_stack called fields) i e = Unit {0}
IsElement (as_metadata called fields) i e = (e ≡ 0) × ((element i e).valid ≡ true)

pub record HasElement (xs : List Shown) (s : State) (i e : ℕ) : Type 0 where
  pub instance : i < length xs
  pub within : e < length (instance_at s i).elements
  pub which : IsElement (shown_at xs i) (instance_at s i) e
  pub numbers : length (element (instance_at s i) e).numbers ≡ length (fields_of (shown_at xs i))

abbrev pub HasSlot : List Shown → State → Slot → Type 0
HasSlot xs s (standard which) = Unit {0}
HasSlot xs s (declared i e k) = HasElement xs s i e × (k < length (fields_of (shown_at xs i)))

-- a packet that nothing stopped: the frame agrees, the same octets aren't parsed yet, and the same tables were applied
pub record GoesOn (names : NewNames) (s : State) (m : Moment) : Type 0 where
  pub agrees : Agrees names s m.frame
  pub unparsed : m.unparsed ≡ s.unparsed
  pub events : m.frame.events ≡ s.events
  pub runs : m.stopped ≡ None

-- with equal stores
pub record Corresponds (names : NewNames) (m : Moment14) (n : Moment) : Type 0 where
  pub packet : GoesOn names m.state n
  pub store : n.store ≡ m.store

-- parsing

-- the error that stops the parser of P4_16 where parsing ends so
abbrev pub stop_of : Parsed → Option ParserError
stop_of Accepted = None
stop_of OutOfPacket = Some PacketTooShort
stop_of OutOfBounds = Some StackOutOfBounds
stop_of UnhandledSelect = Some NoMatch

-- behind some statements of a state of the parser: both go on, or both are stopped, by the same error
abbrev pub ProgressAgrees : NewNames → Progress → Moment → Type 0
ProgressAgrees names (goes_on latest s) m = GoesOn names s m
ProgressAgrees names (stops end s) m = m.stopped ≡ stop_of end

-- behind a state: both go on with the state of a name, or both end, and so
abbrev pub StepAgrees : NewNames → (Name → Target) → Step → Onward → Type 0
StepAgrees names next (to name s) o = (m : Moment) × (o ≡ to_target (next name) m) × GoesOn names s m
StepAgrees names next (ended end s) o = (m : Moment) × (o ≡ finished m) × (m.stopped ≡ stop_of end)

-- the key of a select: one number of so many bits, or none where it goes past the end of the packet
abbrev pub KeyAgrees : NewNames → ℕ → State → Option ℕ → Keys → Type 0
KeyAgrees names width s None x = x.moment.stopped ≡ stop_of OutOfPacket
KeyAgrees names width s (Some key) x =
    (x.keys ≡ record { kind = bits width; value = a_number width key } ∷ []) × (key < 2 ^ width) × GoesOn names s x.moment
