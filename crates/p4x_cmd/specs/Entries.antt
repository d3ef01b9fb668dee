-- What stands in the tables of a program (P4_16 1.2, "Match-action unit invocation"; the form of entries is this project's own).
use Rattle.std.specs.Prelude.{ℕ, [], map, None, slice_index_or}
use Rattle.match_core.specs.declared.signatures.Signature.{Signature}
use Rattle.match_core.specs.declared.entries.TableFill.{TableFill}
use Rattle.match_core.specs.declared.entries.Entries.{Entries}

-- no entry, and no default of the entries file
abbrev pub no_fill : TableFill
no_fill = record { entries = []; default = None }

-- nothing stands in any table, there is no session, and no object has a colour
abbrev pub no_entries : Signature → Entries
no_entries g = record { tables = map (λ _. no_fill) g.tables; sessions = []; colours = map (λ _. []) g.objects }

-- what stands in the table of a number
abbrev pub fill_at : Entries → ℕ → TableFill
fill_at e i = slice_index_or e.tables i no_fill
