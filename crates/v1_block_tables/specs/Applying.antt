-- What parts of an application come to (P4_16 1.2, "Match-action unit execution semantics").
use Rattle.std.specs.Prelude.{ℕ, List, slice_index_or, Option}
use Rattle.match_core.specs.declared.entries.Entry.{Entry}
use Rattle.match_core.specs.declared.entries.DefaultCall.{DefaultCall}
use Rattle.v1_ready_blocks.specs.Tables.{Chosen}
use Rattle.v1_statement_run.specs.declared.run.Hit.{Hit}
use Rattle.v1_statement_run.specs.declared.run.Run.{Run}
use Rattle.v1_block_tables.specs.declared.calls.Call.{Call}
use Rattle.v1_block_tables.specs.declared.spare.Spare.{Spare}

-- calls

abbrev pub seen_call : Call → Chosen
seen_call c = record { action = c.action; number = c.number; arguments = c.arguments.now }

-- where a table lists these actions
abbrev pub called_by : List ℕ → ℕ → List ℕ → Chosen
called_by actions number arguments =
    record { action = slice_index_or actions number 0; number = number; arguments = arguments }

abbrev pub called_entry : List ℕ → Entry → Chosen
called_entry actions e = called_by actions e.action e.arguments

abbrev pub called_default : List ℕ → DefaultCall → Chosen
called_default actions d = called_by actions d.action d.arguments

-- what a run keeps while an action runs: other arguments of externs, and the entry for which it runs

abbrev pub lent_run : Spare → Option Hit → Run → Run
lent_run s hit r = record r { values = s.values; list = s.list; hit = hit }

abbrev pub lent_spare : Run → Spare → Spare
lent_spare r s = record s { values = r.values; list = r.list }
