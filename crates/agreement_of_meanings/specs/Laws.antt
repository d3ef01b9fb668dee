-- What corresponds in the two meanings (this project's own).
use Rattle.std.specs.Prelude.{◌≡◌, ℕ, ◌%◌, ◌^◌, ◌<◌, false, length, List, Option, Some, None}
use Rattle.p414_syntax.specs.declared.lexeme.Literal.{Literal}
use Rattle.p414_syntax.specs.declared.parts.Index.TheVariants.{At, Next}
use Rattle.p414_syntax.specs.declared.parsers.Case.{Case}
use Rattle.p414_syntax.specs.declared.syntax.Decl.{Decl}
use Rattle.p414_syntax.specs.declared.tables.Table.{Table}
use Rattle.p414_sem.specs.Slots.{Slot}
use Rattle.p414_sem.specs.State.{State, instance_at, place_of, written, read as read14}
use Rattle.p414_sem.specs.Parsing.{extracted as extracted14, selects}
use Rattle.p414_sem.specs.Effects.{Moment as Moment14}
use Rattle.p414_sem.specs.Controls.{Setting as Setting14, keys_of, found as found14, application_of}
use Rattle.p416_syntax.specs.declared.parsers.Target.{Target}
use Rattle.p416_syntax.specs.declared.controls.Action16.{Action16}
use Rattle.p416_syntax.specs.declared.controls.Table16.{Table16}
use Rattle.p416_syntax.specs.Names.{Name}
use Rattle.v1_core.specs.Values.{Value, a_number, number_in}
use Rattle.v1_core.specs.Frames.{Frame, Moment, read, write}
use Rattle.v1_core.specs.Surroundings.{Surroundings}
use Rattle.v1_core.specs.Tables.{key_values, found as found16, applied_by}
use Rattle.v1_core.specs.Externs.Packets.{extract}
use Rattle.v1_core.specs.Parsing.{Keys, selected}
use Rattle.agreement_of_meanings.specs.Shown.{NamedField, as_stack, shown_at, is_metadata, NamesDiffer, instance_reference, element_reference, slot_reference, slot_width}
use Rattle.agreement_of_meanings.specs.Agrees.{NewNames, Agrees, HasElement, HasSlot, GoesOn, Corresponds, ProgressAgrees, StepAgrees, KeyAgrees}
use Rattle.agreement_of_meanings.specs.Lowered.{IsNamed, extracts_next, select_cases, LeadToStates}
use Rattle.agreement_of_meanings.specs.Tables.{IsAlike, AppliedAgree}

-- a field reads as the same number
abbrev pub FieldsReadAlike : Type 0
FieldsReadAlike =
    (names : NewNames) (s : State) (f : Frame) (slot : Slot) → NamesDiffer names.instances → Agrees names s f →
    HasSlot names.instances s slot →
    read f (slot_reference names.instances slot) ≡ a_number (slot_width names.instances slot) (read14 s slot)

-- A number of any width that is written to a field leaves what agrees; so does one that is written to a field of a header that
-- is invalid.
abbrev pub FieldsAreWrittenAlike : Type 0
FieldsAreWrittenAlike =
    (names : NewNames) (s : State) (f : Frame) (slot : Slot) (v : Value) → NamesDiffer names.instances →
    Agrees names s f → HasSlot names.instances s slot →
    Agrees names (written s slot (number_in v % 2 ^ slot_width names.instances slot)) (write (slot_reference names.instances slot) v f)

-- a header that is extracted
abbrev pub HeadersAreExtractedAlike : Type 0
HeadersAreExtractedAlike =
    (names : NewNames) (ds : List Decl) (name : Name) (k : ℕ) (s : State) (m : Moment) → NamesDiffer names.instances →
    IsNamed ds names.instances name k → is_metadata (shown_at names.instances k) ≡ false →
    HasElement names.instances s k 0 → GoesOn names s m →
    ProgressAgrees names (extracted14 ds (record { name = name; index = None }) s) (extract (element_reference (shown_at names.instances k) 0) None m)

-- an element of a stack by its number
abbrev pub ElementsAreExtractedAlike : Type 0
ElementsAreExtractedAlike =
    (names : NewNames) (ds : List Decl) (name : Name) (n : Literal) (k : ℕ) (s : State) (m : Moment) →
    NamesDiffer names.instances → IsNamed ds names.instances name k →
    is_metadata (shown_at names.instances k) ≡ false → HasElement names.instances s k n.value → GoesOn names s m →
    ProgressAgrees names (extracted14 ds (record { name = name; index = Some (At n) }) s) (extract (element_reference (shown_at names.instances k) n.value) None m)

-- the next element of a stack, also where the stack is full
abbrev pub NextIsExtractedAlike : Type 0
NextIsExtractedAlike =
    (names : NewNames) (ds : List Decl) (name : Name) (k : ℕ) (called : Name) (fields : List NamedField) (s : State) (m : Moment) →
    NamesDiffer names.instances → IsNamed ds names.instances name k → k < length names.instances →
    shown_at names.instances k ≡ as_stack called fields →
    (place_of s k < length (instance_at s k).elements → HasElement names.instances s k (place_of s k)) → GoesOn names s m →
    ProgressAgrees names (extracted14 ds (record { name = name; index = Some Next }) s) (extracts_next (instance_reference (shown_at names.instances k)) m)

-- a select on one key, which leads to the state of the same name or ends with the same error
abbrev pub SelectsLeadAlike : Type 0
SelectsLeadAlike =
    (names : NewNames) (next : Name → Target) (width : ℕ) (s : State) (cases : List Case) (key : Option ℕ) (x : Keys) →
    LeadToStates cases → KeyAgrees names width s key x →
    StepAgrees names next (selects width cases s key) (selected (select_cases width next cases) x)

-- a table with one action, on the same keys
abbrev pub TablesApplyAlike : Type 0
TablesApplyAlike =
    (names : NewNames) (c : Setting14) (b : Surroundings) (act : Action16 → Moment → Moment) (t : Table) (u : Table16) (action : ℕ) (a : Action16) (m : Moment14) (n : Moment) →
    IsAlike names c b act t u action a → key_values b n u ≡ keys_of c.decls m.state t → Corresponds names m n →
    AppliedAgree names n (application_of c t (found14 c m.state t) m) (applied_by b act u (found16 b n u) n)
