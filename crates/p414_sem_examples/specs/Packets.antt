-- One pass of a packet that comes in, as a function that computes.
use Rattle.std.specs.Prelude.{ℕ, List, [], ◌∷◌, map, Option, Some, None}
use Rattle.state_store.specs.State.{Contents}
use Rattle.match_core.specs.declared.entries.Entries.{Entries}
use Rattle.match_core.specs.declared.entries.TableFill.{TableFill}
use Rattle.match_core.specs.declared.signatures.TableSig.{TableSig}
use Rattle.match_core.specs.declared.signatures.ObjectSig.{ObjectSig}
use Rattle.match_core.specs.Stores.{first_store}
use Rattle.fabric.specs.declared.items.IngressNext.{IngressNext}
use Rattle.fabric.specs.declared.items.IngressNext.TheVariants as after_ingress
use Rattle.fabric.specs.declared.items.EgressNext.{EgressNext}
use Rattle.fabric.specs.declared.items.EgressNext.TheVariants as after_egress
use Rattle.p414_syntax.specs.declared.syntax.Decl.{Decl}
use Rattle.p414_syntax.specs.declared.syntax.Rule14.{Rule14}
use Rattle.p414_sem.specs.Expanded.{Expanded}
use Rattle.p414_sem.specs.Controls.{Setting}
use Rattle.p414_sem.specs.Signatures.{signature14}
use Rattle.p414_sem.specs.Passes.{Preserved, Held, none_preserved, ingress14, egress14}

abbrev pub no_entries : TableSig → TableFill
no_entries t = record { entries = []; default = None }

abbrev pub no_colours : ObjectSig → List ℕ
no_colours o = []

-- entries that fill no table, and hand these colours to the first object
abbrev pub only_colours : List Decl → List ℕ → Entries
only_colours ds colours = record {
  tables = map no_entries (signature14 ds).tables;
  sessions = [];
  colours = colours ∷ [];
}

abbrev pub setting : List Decl → Expanded → Rule14 → List ℕ → Setting
setting ds x rule colours = record { decls = ds; expanded = x; rule = rule; entries = only_colours ds colours }

abbrev pub first : Setting → Contents
first c = first_store (signature14 c.decls) c.entries

-- what leaves: the port and the octets, and the store behind it
pub record Leaves : Type 0 where
  pub sent : Option (ℕ × List ℕ)
  pub store : Contents

abbrev pub behind_egress : ℕ → Contents → EgressNext Preserved → Leaves
behind_egress port store after_egress.Drop = record { sent = None; store = store }
behind_egress port store (after_egress.Recirculate octets q) = record { sent = None; store = store }
behind_egress port store (after_egress.Send octets) = record { sent = Some (port, octets); store = store }

abbrev pub behind_ingress : Setting → Contents → IngressNext Preserved Held → Leaves
behind_ingress c store (after_ingress.Resubmit q) = record { sent = None; store = store }
behind_ingress c store after_ingress.Drop = record { sent = None; store = store }
behind_ingress c store (after_ingress.Go port held) =
    let ended = egress14 c store held port 0 in behind_egress port ended.store ended.answer.end

-- the pass of a packet that came in on port 0
abbrev pub pass : Setting → Contents → List ℕ → Leaves
pass c store octets =
    let ended =
    ingress14 c store (record { octets = octets; port = 0; instance = 0; kept = none_preserved c.decls }) in
    behind_ingress c ended.store ended.answer.next

-- what leaves of the first packet
abbrev pub sent : Setting → List ℕ → Option (ℕ × List ℕ)
sent c octets = (pass c (first c) octets).sent

-- what leaves of the second one
abbrev pub sent_second : Setting → List ℕ → Option (ℕ × List ℕ)
sent_second c octets = (pass c (pass c (first c) octets).store octets).sent
