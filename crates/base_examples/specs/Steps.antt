-- What the small runners do with an item: its first octet tells. What is preserved is a number.
use Rattle.std.specs.Prelude.{ℕ, ◌+◌, ◌%◌, Bool, ◌==◌, nat_lt, ◌&&◌, ◌||◌, if◌then◌else◌, List, [], ◌∷◌, ◌++◌, Option, Some, None}
use Rattle.fabric.specs.declared.items.Item.{Item}
use Rattle.fabric.specs.declared.items.Event.{Event}
use Rattle.fabric.specs.declared.items.IngressEnd.{IngressEnd}
use Rattle.fabric.specs.declared.items.IngressNext.{IngressNext}
use Rattle.fabric.specs.declared.items.IngressNext.TheVariants as ingress
use Rattle.fabric.specs.declared.items.EgressEnd.{EgressEnd}
use Rattle.fabric.specs.declared.items.EgressNext.TheVariants as egress

-- the first octet, 0 where there is none
abbrev pub code_of : List ℕ → ℕ
code_of [] = 0
code_of (octet ∷ octets) = octet

-- The session of the clone that ingress asks for: 7 of a packet 1, which is dropped, and once of packets 6 and 7; 9,
-- which no session has, of a packet 5.
abbrev pub ingress_session : ℕ → ℕ → Option ℕ
ingress_session code kept =
    if code == 1 then Some 7 else
    if code == 5 then Some 9 else
    if (code == 6 || code == 7) && kept == 0 then Some 7 else None

-- A packet 2 is resubmitted twice and a packet 6 once.
abbrev pub is_resubmitted : ℕ → ℕ → Bool
is_resubmitted code kept = (code == 2 && nat_lt kept 2) || (code == 6 && kept == 0)

-- a clone that preserves this number
abbrev pub asked : ℕ → Option ℕ → Option (ℕ × ℕ)
asked kept None = None
asked kept (Some session) = Some (session, kept)

-- The item goes to egress on port 3, where it isn't resubmitted or dropped.
abbrev pub after : Item ℕ → ℕ → IngressNext ℕ (List ℕ)
after item code =
    if is_resubmitted code item.kept then ingress.Resubmit ((item.kept + 1) % 256) else
    if code == 1 then ingress.Drop else ingress.Go 3 item.octets

abbrev pub ingress_end : Item ℕ → IngressEnd ℕ (List ℕ)
ingress_end item = record {
  clone = asked item.kept (ingress_session (code_of item.octets) item.kept);
  next = after item (code_of item.octets);
}

-- Egress of packets 4 and 7 asks for a clone, of session 8, the first time.
abbrev pub is_cloned : ℕ → ℕ → Bool
is_cloned code instance = (code == 4 || code == 7) && instance == 0

-- A packet 3 is recirculated again and again, and a packet 7 once.
abbrev pub is_recirculated : ℕ → ℕ → Bool
is_recirculated code instance = code == 3 || (code == 7 && instance == 0)

-- Else it is sent, with its kind at its end.
abbrev pub egress_end : List ℕ → ℕ → EgressEnd ℕ (List ℕ)
egress_end held instance = record {
  clone = if is_cloned (code_of held) instance then Some (8, held) else None;
  end = if is_recirculated (code_of held) instance then egress.Recirculate held 1 else egress.Send (held ++ instance % 256 ∷ []);
}

-- the one event of ingress: a miss of table 0, whose action has the number of the first octet
abbrev pub applied : List ℕ → Event
applied octets = record { table = 0; entry = None; action = Some (code_of octets) }
