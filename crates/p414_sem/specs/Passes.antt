-- The passes of a packet (P4_14 1.0.5, "Packet Processing and Control Flow", "Deparsing", "Clone", "Resubmit",
-- "Recirculate"; what is preserved, what an exception does, and the order behind a pipeline are this project's own).
use Rattle.std.specs.Prelude.{ℕ, Bool, true, false, ◌==◌, if◌then◌else◌, List, [], ◌∷◌, ◌++◌, flat_map, map, fold, slice_index_or, slice_set, replicate, Option, Some, None, option_map}
use Rattle.std.specs.Option.{option_map_or}
use Rattle.state_store.specs.Ports.{drop_port}
use Rattle.state_store.specs.State.{Contents}
use Rattle.fabric.specs.declared.items.Event.{Event}
use Rattle.fabric.specs.declared.items.Item.{Item as QueueItem}
use Rattle.fabric.specs.declared.items.IngressEnd.{IngressEnd}
use Rattle.fabric.specs.declared.items.IngressNext.{IngressNext}
use Rattle.fabric.specs.declared.items.IngressNext.TheVariants as after_ingress
use Rattle.fabric.specs.declared.items.EgressEnd.{EgressEnd}
use Rattle.fabric.specs.declared.items.EgressNext.{EgressNext}
use Rattle.fabric.specs.declared.items.EgressNext.TheVariants as after_egress
use Rattle.p414_syntax.specs.declared.calculations.Item.{Item}
use Rattle.p414_syntax.specs.declared.calculations.Item.TheVariants as item
use Rattle.p414_syntax.specs.declared.syntax.Decl.{Decl}
use Rattle.p414_syntax.specs.declared.syntax.Decl.TheVariants as decl
use Rattle.p414_syntax.specs.declared.syntax.Sort.TheVariants as sort
use Rattle.p414_syntax.specs.Names.{declared_in, numbered}
use Rattle.p414_syntax.specs.Totals.{fields_of_type}
use Rattle.p414_sem.specs.declared.parsed.Parsed.{Parsed}
use Rattle.p414_sem.specs.declared.parsed.Parsed.TheVariants.{Accepted, OutOfPacket, OutOfBounds, UnhandledSelect}
use Rattle.p414_sem.specs.declared.requests.Request14.{Request14}
use Rattle.p414_sem.specs.Slots.{Slot, standard, declared, slot_of}
use Rattle.p414_sem.specs.State.{State, Header, Instance, instance_at, new_state, read, without_requests}
use Rattle.p414_sem.specs.Packing.{widths_of_type, bits_in, octets_in}
use Rattle.p414_sem.specs.Expanded.{Expanded, items_in_list}
use Rattle.p414_sem.specs.Parsing.{Parse, parsed}
use Rattle.p414_sem.specs.Effects.{Moment}
use Rattle.p414_sem.specs.Controls.{Setting, control_run}
use Rattle.p414_sem.specs.CalculatedFields.{fails_verification, updated}

-- what is preserved

-- A preserved set gives each field of metadata a number: for each instance, in the order of declaration, one for each
-- field of metadata, and none for a header. What isn't preserved is 0.
abbrev pub Preserved : Type 0
Preserved = List (List ℕ)

abbrev pub none_in : List Decl → Decl → List ℕ
none_in ds (decl.Metadata x) = replicate (fields_of_type ds x.header_type) 0
none_in ds _ = []

abbrev pub none_preserved : List Decl → Preserved
none_preserved ds = map (none_in ds) (declared_in sort.Instance ds)

-- a number put into a preserved set; `standard_metadata` has no effect there, and headers have no place there
abbrev pub preserving_slot : State → Preserved → Slot → Preserved
preserving_slot s q (standard which) = q
preserving_slot s q (declared i e f) = slice_set q i (slice_set (slice_index_or q i []) f (read s (declared i e f)))

abbrev pub preserving_item : List Decl → State → Preserved → Item → Preserved
preserving_item ds s q (item.Field r) = preserving_slot s q (slot_of ds r)
preserving_item ds s q _ = q

-- what a request preserves: the fields of its list, if it has one, as they stand
abbrev pub preserved_by : List Decl → Expanded → State → Option ℕ → Preserved
preserved_by ds x s list =
    fold (preserving_item ds s) (none_preserved ds) (option_map_or (items_in_list x) list [])

abbrev pub preserved : List Decl → Expanded → State → Request14 → Preserved
preserved ds x s request = preserved_by ds x s request.list

-- the metadata of a new item is what is preserved; headers stay as they are
abbrev pub with_preserved_in : Decl → List ℕ → Instance → Instance
with_preserved_in (decl.Metadata x) numbers i =
    record { elements = record { valid = true; numbers = numbers } ∷ []; place = i.place }
with_preserved_in _ numbers i = i

abbrev pub with_preserved_from : List Decl → Preserved → List Instance → List Instance
with_preserved_from (d ∷ ds) (numbers ∷ q) (i ∷ instances) =
    with_preserved_in d numbers i ∷ with_preserved_from ds q instances
with_preserved_from _ _ instances = instances

abbrev pub with_preserved : List Decl → Preserved → State → State
with_preserved ds q s = record s { instances = with_preserved_from (declared_in sort.Instance ds) q s.instances }

-- an item as its pass begins
abbrev pub begins : List Decl → QueueItem Preserved → State
begins ds came = with_preserved ds came.kept (new_state ds came.octets came.port came.instance)

-- what stays

-- what is held of a packet between ingress and egress: its state, and whether parsing it ended in an exception
pub record Held : Type 0 where
  pub state : State
  pub failed : Bool

-- an answer, with the store and the applications of tables
pub record Ended (A : Type 0) : Type 0 where
  pub answer : A
  pub store : Contents
  pub events : List Event

-- ingress

abbrev pub is_accepted : Parsed → Bool
is_accepted Accepted = true
is_accepted OutOfPacket = false
is_accepted OutOfBounds = false
is_accepted UnhandledSelect = false

-- the clone that was asked for: its session, and what is preserved
abbrev pub asked_clone : List Decl → Expanded → State → Request14 → ℕ × Preserved
asked_clone ds x s request = (request.session, preserved ds x s request)

-- Egress begins with nothing requested, and its own events.
abbrev pub handed_on : State → Held
handed_on s = record { state = record (without_requests s) { events = [] }; failed = false }

-- after ingress: a resubmitted packet ends the pass, then a dropped one, and else the packet goes on to egress
abbrev pub next_after : List Decl → Expanded → State → Option Request14 → IngressNext Preserved Held
next_after ds x s (Some request) = after_ingress.Resubmit (preserved ds x s request)
next_after ds x s None = if s.egress_spec == drop_port then after_ingress.Drop else after_ingress.Go s.egress_spec (handed_on s)

abbrev pub ingress_end : List Decl → Expanded → Moment → Ended (IngressEnd Preserved Held)
ingress_end ds x m = record {
  answer =
      record {
        clone = option_map (asked_clone ds x m.state) m.state.clone_i2e;
        next = next_after ds x m.state m.state.resubmit;
      };
  store = m.store;
  events = m.state.events;
}

-- an exception drops the packet: no table is applied, and no clone is made
abbrev pub dropped : Contents → Ended (IngressEnd Preserved Held)
dropped store = record { answer = record { clone = None; next = after_ingress.Drop }; store = store; events = [] }

-- after parsing: an exception drops the packet, a sum that is wrong too, and else the control `ingress` runs
abbrev pub after_parsing : Setting → Contents → Parse → Ended (IngressEnd Preserved Held)
after_parsing c store p =
    if is_accepted p.end then
    if fails_verification c.decls c.expanded p.state then dropped store
    else
    ingress_end c.decls c.expanded (control_run c c.expanded.ingress (record { state = p.state; store = store }))
    else dropped store

-- parsing, verification and the control `ingress`
unfoldable pub ingress14 : Setting → Contents → QueueItem Preserved → Ended (IngressEnd Preserved Held)
ingress14 c store came = after_parsing c store (parsed c.decls (begins c.decls came))

-- parsing alone; what is held keeps the exception
abbrev pub held_of : Parse → Held
held_of p = record { state = p.state; failed = if is_accepted p.end then false else true }

unfoldable pub reparse14 : Setting → Contents → QueueItem Preserved → Ended Held
reparse14 c store came = record { answer = held_of (parsed c.decls (begins c.decls came)); store = store; events = [] }

-- egress

-- a packet leaves as its valid headers in their order, a stack's elements by index, and then what wasn't parsed

abbrev pub header_octets : List ℕ → Header → List ℕ
header_octets widths h = if h.valid then octets_in (bits_in widths h.numbers) else []

-- the octets of an instance: its valid elements by index, and none of metadata
abbrev pub octets_of : List Decl → Decl → Instance → List ℕ
octets_of ds (decl.Header x) i = flat_map (header_octets (widths_of_type ds x.header_type)) i.elements
octets_of ds _ i = []

abbrev pub octets_at : List Decl → State → ℕ → List ℕ
octets_at ds s n =
    option_map_or (λ (d : Decl). octets_of ds d (instance_at s n)) (numbered sort.Instance ds n) []

abbrev pub deparsed : List Decl → Expanded → State → List ℕ
deparsed ds x s = flat_map (octets_at ds s) x.order ++ s.unparsed

-- as egress begins: on this port, of this kind, with nothing requested
abbrev pub egress_begins : State → ℕ → ℕ → State
egress_begins s port kind =
    record (without_requests s) { egress_spec = 0; egress_port = port; instance_type = kind; events = [] }

-- A clone made behind egress has the headers, the octets that weren't parsed, the packet's length and its port of
-- arrival; its metadata is what is preserved. Its stacks keep their places, and the other fields of `standard_metadata`
-- are 0 until its egress begins.
abbrev pub cloned : List Decl → Preserved → State → Held
cloned ds q s = record {
  state =
      record (without_requests (with_preserved ds q s)) {
        egress_spec = 0;
        egress_port = 0;
        instance_type = 0;
        events = [];
      };
  failed = false;
}

abbrev pub asked_egress_clone : List Decl → Expanded → State → Request14 → ℕ × Held
asked_egress_clone ds x s request = (request.session, cloned ds (preserved ds x s request) s)

-- Updated and put together, the packet takes another pass if recirculate was asked for, else it is sent. What is
-- preserved is taken at the end of the control.
abbrev pub leaves : List Decl → Expanded → State → Option Request14 → EgressNext Preserved
leaves ds x s (Some request) = after_egress.Recirculate (deparsed ds x (updated ds x s)) (preserved ds x s request)
leaves ds x s None = after_egress.Send (deparsed ds x (updated ds x s))

abbrev pub egress_end : List Decl → Expanded → Moment → Ended (EgressEnd Preserved Held)
egress_end ds x m = record {
  answer =
      record {
        clone = option_map (asked_egress_clone ds x m.state) m.state.clone_e2e;
        end =
            if m.state.egress_spec == drop_port then after_egress.Drop else leaves ds x m.state m.state.recirculate;
      };
  store = m.store;
  events = m.state.events;
}

-- what is held with an exception is dropped
abbrev pub dropped_in_egress : Contents → Ended (EgressEnd Preserved Held)
dropped_in_egress store =
    record { answer = record { clone = None; end = after_egress.Drop }; store = store; events = [] }

-- the control `egress`, the clone, and then update and deparsing
unfoldable pub egress14 : Setting → Contents → Held → ℕ → ℕ → Ended (EgressEnd Preserved Held)
egress14 c store held port kind =
    if held.failed then dropped_in_egress store
    else
    egress_end c.decls c.expanded
    (control_run c c.expanded.egress (record { state = egress_begins held.state port kind; store = store }))
