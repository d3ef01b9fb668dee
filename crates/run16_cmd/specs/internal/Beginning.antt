-- What the work has before anything is written, and what it is blamed on behind that (this project's own).
use Rattle.std.specs.Prelude.{◌⊎◌}
use Rattle.p4x_io.specs.Desk.{DeskView, Rose}
use Rattle.command_words.specs.Words.{Run16Files}
use Rattle.file_work.specs.Works.{Held}
use Rattle.run16_cmd.specs.declared.beginning.Beginning.{Beginning}
use Rattle.run16_cmd.specs.Run16.{Begins}

-- the files of the command are these
abbrev pub BeginsWith : Run16Files → Held → Beginning → Type 0
BeginsWith f files b = Begins f files b.program b.entries b.ports

-- an own count of the capture or of an output
abbrev pub RunRose : Run16Files → DeskView → DeskView → Type 0
RunRose f old new =
    Rose (old.reads f.capture) (new.reads f.capture) ⊎ Rose (old.writes f.sent) (new.writes f.sent)
    ⊎ Rose (old.writes f.report) (new.writes f.report)
