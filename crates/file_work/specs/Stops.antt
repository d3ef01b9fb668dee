-- Why a command ends without status 0: its status and its line (this project's own).
use Rattle.std.specs.Prelude.{ℕ, List, codes, Result, Ok, Err}
use Rattle.p4x_fault.specs.Fault.{refusal_line}
use Rattle.file_work.specs.declared.stop.Limited.{Limited}
use Rattle.file_work.specs.declared.stop.Limited.TheVariants.{Program as TheProgram, Entries, Ports, Capture, Text as TheText}
use Rattle.file_work.specs.declared.stop.Stop.{Stop}
use Rattle.file_work.specs.declared.stop.Stop.TheVariants.{Fault, Usage, Program, Judged, Unfit, Refused, Limit, Memory, Text}

-- the status
abbrev pub stop_code : Stop → ℕ
stop_code Fault = 1
stop_code Usage = 2
stop_code Program = 3
stop_code (Judged fault) = 3
stop_code (Unfit fault) = 4
stop_code (Refused fault) = 5
stop_code (Limit file) = 6
stop_code Memory = 7
stop_code (Text fault) = 8

-- the line of a file that is over its limit
abbrev pub limit_line : Limited → List ℕ
limit_line TheProgram = codes "limit program\n"
limit_line Entries = codes "limit entries\n"
limit_line Ports = codes "limit ports\n"
limit_line Capture = codes "limit capture\n"
limit_line TheText = codes "limit text\n"

-- the line
abbrev pub stop_line : Stop → List ℕ
stop_line Fault = codes "fault\n"
stop_line Usage = codes "usage\n"
stop_line Program = codes "refused C25\n"
stop_line (Judged fault) = refusal_line fault
stop_line (Unfit fault) = refusal_line fault
stop_line (Refused fault) = refusal_line fault
stop_line (Limit file) = limit_line file
stop_line Memory = codes "no memory\n"
stop_line (Text fault) = refusal_line fault

-- the line of what the work ended with: its own, or that of what stopped it
abbrev pub line_of : Result (List ℕ) Stop → List ℕ
line_of (Ok line) = line
line_of (Err stop) = stop_line stop

-- the status of what the work ended with: 0, or that of what stopped it
abbrev pub code_of : Result (List ℕ) Stop → ℕ
code_of (Ok line) = 0
code_of (Err stop) = stop_code stop
