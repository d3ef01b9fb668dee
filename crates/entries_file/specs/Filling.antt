-- What was read so far, and what a line adds to it.
use Rattle.std.specs.Prelude.{ℕ, ◌++◌, List, [], ◌∷◌, length, replicate, slice_index_or, slice_set, Some, None}
use Rattle.state_store.specs.declared.ports.Session.{Session}
use Rattle.match_core.specs.declared.signatures.TableSig.{TableSig}
use Rattle.match_core.specs.declared.signatures.Signature.{Signature}
use Rattle.match_core.specs.declared.entries.Entry.{Entry}
use Rattle.match_core.specs.declared.entries.DefaultCall.{DefaultCall}
use Rattle.match_core.specs.declared.entries.TableFill.{TableFill}
use Rattle.match_core.specs.declared.entries.Entries.{Entries}

-- a table without entries and without a default
abbrev pub empty_fill : TableFill
empty_fill = record { entries = []; default = None }

-- before the first line: one empty fill for each table, and no colours for each object
abbrev pub nothing : Signature → Entries
nothing g = record {
  tables = replicate (length g.tables) empty_fill;
  sessions = [];
  colours = replicate (length g.objects) [];
}

-- the table with this number, and what was read for it
abbrev pub table_at : Signature → ℕ → TableSig
table_at g table =
    slice_index_or g.tables table (record { name = []; keys = []; actions = []; size = 0; direct = None })

-- what was read for the table with this number
abbrev pub fill_at : Entries → ℕ → TableFill
fill_at read table = slice_index_or read.tables table empty_fill

-- the colours that were read for the object with this number
abbrev pub colours_at : Entries → ℕ → List ℕ
colours_at read object = slice_index_or read.colours object []

-- the table's entries, and this one behind them
abbrev pub entry_put : List TableFill → ℕ → Entry → List TableFill
entry_put fills table entry =
    let fill = slice_index_or fills table empty_fill in
    slice_set fills table (record { entries = fill.entries ++ entry ∷ []; default = fill.default })

-- what was read, with one more entry of a table
abbrev pub with_entry : Entries → ℕ → Entry → Entries
with_entry read table entry = record read { tables = entry_put read.tables table entry }

-- this default in place of one that was set before
abbrev pub default_put : List TableFill → ℕ → DefaultCall → List TableFill
default_put fills table call =
    let fill = slice_index_or fills table empty_fill in
    slice_set fills table (record { entries = fill.entries; default = Some call })

-- what was read, with the default of a table
abbrev pub with_default : Entries → ℕ → DefaultCall → Entries
with_default read table call = record read { tables = default_put read.tables table call }

-- what was read, with one more session
abbrev pub with_session : Entries → Session → Entries
with_session read session = record read { sessions = read.sessions ++ session ∷ [] }

-- the object's colours, and these behind them
abbrev pub with_colours : Entries → ℕ → List ℕ → Entries
with_colours read object more = record read { colours = slice_set read.colours object (colours_at read object ++ more) }
