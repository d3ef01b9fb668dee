-- What the work has before anything is written, and what it is blamed on behind that.
use Rattle.std.specs.Prelude.{◌⊎◌}
use Rattle.p4x_io.specs.Desk.{DeskView, Rose}
use Rattle.p414_ready_tables.specs.Loaded.{Loaded}
use Rattle.command_words.specs.Words.{Run14Files}
use Rattle.file_work.specs.Works.{Held}
use Rattle.p414_syntax.specs.declared.syntax.Rule14.{Rule14}
use Rattle.run14_cmd.specs.declared.beginning.Beginning.{Beginning}
use Rattle.run14_cmd.specs.Run14.{Begins}

-- the files of the command are these
abbrev pub BeginsWith : Run14Files → Held → Beginning → Type 0
BeginsWith f files b = Begins f files b.program b.entries b.ports

-- what is made ready
abbrev pub loaded : Rule14 → Beginning → Loaded
loaded rule b = record { decls = b.program.decls; rule = rule; entries = b.entries }

-- an own count of the capture or of an output
abbrev pub RunRose : Run14Files → DeskView → DeskView → Type 0
RunRose f old new =
    Rose (old.reads f.capture) (new.reads f.capture) ⊎ Rose (old.writes f.sent) (new.writes f.sent)
    ⊎ Rose (old.writes f.report) (new.writes f.report)
