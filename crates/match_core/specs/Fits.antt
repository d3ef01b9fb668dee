-- When entries fit a signature.
use Rattle.std.specs.Prelude.{◌≡◌, ℕ, ◌^◌, ◌<◌, ◌≤◌, false, List, [], length, All, IfSome, slice_index_or}
use Rattle.std.specs.List.{AllZip}
use Rattle.state_store.specs.declared.shapes.Shape.{Shape}
use Rattle.state_store.specs.declared.shapes.Shape.TheVariants.{Counter, Direct, Register, Meter}
use Rattle.state_store.specs.Ports.{AreSessions}
use Rattle.match_core.specs.declared.signatures.KeyKind.TheVariants as kind
use Rattle.match_core.specs.declared.signatures.KeySpec.{KeySpec}
use Rattle.match_core.specs.declared.signatures.ActionSig.{ActionSig}
use Rattle.match_core.specs.declared.signatures.TableSig.{TableSig}
use Rattle.match_core.specs.declared.signatures.ObjectSig.{ObjectSig}
use Rattle.match_core.specs.declared.signatures.Signature.{Signature}
use Rattle.match_core.specs.declared.entries.KeyMatch.{KeyMatch}
use Rattle.match_core.specs.declared.entries.KeyMatch.TheVariants.{Exact, Ternary, Lpm, Range}
use Rattle.match_core.specs.declared.entries.Entry.{Entry}
use Rattle.match_core.specs.declared.entries.TableFill.{TableFill}
use Rattle.match_core.specs.declared.entries.Entries.{Entries}
use Rattle.match_core.specs.Matching.{by_priority}

-- what an entry asks of a key is of the key's kind, and its numbers are within the key's width
abbrev pub FitsKey : KeySpec → KeyMatch → Type 0
FitsKey spec (Exact value) = (spec.kind ≡ kind.Exact) × (value < 2 ^ spec.width)
FitsKey spec (Ternary value mask) = (spec.kind ≡ kind.Ternary) × (value < 2 ^ spec.width) × (mask < 2 ^ spec.width)
FitsKey spec (Lpm value length) = (spec.kind ≡ kind.Lpm) × (value < 2 ^ spec.width) × (length ≤ spec.width)
FitsKey spec (Range low high) = (spec.kind ≡ kind.Range) × (low ≤ high) × (high < 2 ^ spec.width)

-- an entry has as many keys as its table, each of which fits
abbrev pub FitsKeys : List KeySpec → Entry → Type 0
FitsKeys specs entry = AllZip FitsKey specs entry.keys

abbrev pub action_at : TableSig → ℕ → ActionSig
action_at table action = slice_index_or table.actions action (record { name = []; widths = [] })

-- a call names an action of the table, and has as many arguments as it, each within its width
pub record FitsCall (table : TableSig) (action : ℕ) (arguments : List ℕ) : Type 0 where
  pub listed : action < length table.actions
  pub widths : AllZip (λ width value. value < 2 ^ width) (action_at table action).widths arguments

-- an entry of a table: its keys, its priority, which is 0 where the table has neither ternary nor range keys, and its
-- call
pub record FitsEntry (table : TableSig) (entry : Entry) : Type 0 where
  pub keys : FitsKeys table.keys entry
  pub priority : entry.priority < 2 ^ 31
  pub no_priority : by_priority table.keys ≡ false → entry.priority ≡ 0
  pub call : FitsCall table entry.action entry.arguments

-- what fills a table: no more entries than its size, and none where it has no keys, so that it never hits
pub record FitsFill (table : TableSig) (fill : TableFill) : Type 0 where
  pub size : length fill.entries ≤ table.size
  pub no_keys : table.keys ≡ [] → fill.entries ≡ []
  pub entries : All (FitsEntry table) fill.entries
  pub call : IfSome fill.default (λ call. FitsCall table call.action call.arguments)

-- a meter's colours are 0, 1 and 2, and nothing else has colours
abbrev pub FitsColours : Shape → List ℕ → Type 0
FitsColours (Counter kind cells) colours = colours ≡ []
FitsColours (Direct kind cells) colours = colours ≡ []
FitsColours (Register width cells) colours = colours ≡ []
FitsColours (Meter cells) colours = All (λ colour. colour ≤ 2) colours

-- entries have one fill for each table of the signature, and one list of colours for each object; all
-- that stands in them is of its kind and within its width, size and range (this project's own; the
-- control plane of P4_14 1.0.5 and P4_16 1.2 is left open by both)
pub record Fits (entries : Entries) (signature : Signature) : Type 0 where
  pub tables : AllZip FitsFill signature.tables entries.tables
  pub sessions : AreSessions entries.sessions
  pub colours : AllZip (λ (object : ObjectSig). FitsColours object.shape) signature.objects entries.colours
