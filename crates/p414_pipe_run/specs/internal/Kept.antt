-- What the passes keep from one call to the next.
use Rattle.std.specs.Prelude.{◌≡◌, Bool, true, Option, IfSome}
use Rattle.state_store.specs.State.{Contents}
use Rattle.match_core.specs.Stores.{shapes_of}
use Rattle.p414_layout.specs.Shapes.{layout_of}
use Rattle.p414_ready_tables.specs.Loaded.{Loaded}
use Rattle.p414_sem.specs.Signatures.{signature14}
use Rattle.p414_state.specs.Packets.{Packet}

-- The store has the program's objects, but for after want of memory in a control. A state that isn't used any more is laid out as the
-- program declares.
pub record AreKept (loaded : Loaded) (usable : Bool) (store : Contents) (spare : Option Packet) : Type 0 where
  pub shapes : usable ≡ true → store.shapes ≡ shapes_of (signature14 loaded.decls) loaded.entries
  pub layout : IfSome spare (λ state. state.layout ≡ layout_of loaded.decls)
