-- The ports of a packet, and the clone sessions. P4_14 1.0.5, "Standard Intrinsic Metadata", and v1model.p4 give the
-- widths; the numbers, and that the last port drops, are this project's own.
use Rattle.std.specs.Prelude.{◌≡◌, ℕ, ◌<◌, ◌≤◌, List, length, All, slice_index_or}
use Rattle.state_store.specs.declared.ports.Session.{Session}

-- the greatest port that a packet comes in on or leaves on
abbrev pub greatest_port : ℕ
greatest_port = 510

-- the port that drops: what is sent there leaves nowhere
abbrev pub drop_port : ℕ
drop_port = 511

-- the greatest number of a clone session
abbrev pub greatest_session : ℕ
greatest_session = 32767

-- a port that a packet can come in on, and leave on
abbrev pub IsPort : ℕ → Type 0
IsPort port = port ≤ greatest_port

-- a clone session whose number and port are in their ranges (P4_14 1.0.5, "Clone"; v1model.p4, `clone`)
pub record IsSession (session : Session) : Type 0 where
  pub number : session.number ≤ greatest_session
  pub port : IsPort session.port

-- no number stands twice
abbrev pub AreDistinct : List Session → Type 0
AreDistinct sessions =
    (i j : ℕ) (d : Session) → i < length sessions → j < length sessions →
    (slice_index_or sessions i d).number ≡ (slice_index_or sessions j d).number → i ≡ j

-- the clone sessions of a run
pub record AreSessions (sessions : List Session) : Type 0 where
  pub each : All IsSession sessions
  pub distinct : AreDistinct sessions
