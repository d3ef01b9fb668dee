-- How contracts see the commands of the code (this project's own).
use Rattle.std.specs.Prelude.{option_map}
use Rattle.command_words.specs.declared.command.CarryNames.{CarryNames}
use Rattle.command_words.specs.declared.command.Run14Names.{Run14Names}
use Rattle.command_words.specs.declared.command.Run16Names.{Run16Names}
use Rattle.command_words.specs.declared.command.Command.{Command as Read}
use Rattle.command_words.specs.declared.command.Command.TheVariants.{Carry, Check, Order, Run14, Run16}
use Rattle.command_words.specs.Words.{CarryFiles, Run14Files, Run16Files, Command, carry, check, order, run14, run16}

-- the files that names are of
abbrev pub files_of : CarryNames → CarryFiles
files_of n = record {
  program = n.program.now;
  entries = n.entries.now;
  capture = n.capture.now;
  ports = option_map (λ name. name.now) n.ports;
  text = n.text.now;
  sent = n.sent.now;
  report = n.report.now;
  passes = n.passes;
}

abbrev pub run14_files_of : Run14Names → Run14Files
run14_files_of n = record {
  program = n.program.now;
  entries = n.entries.now;
  capture = n.capture.now;
  ports = option_map (λ name. name.now) n.ports;
  sent = n.sent.now;
  report = n.report.now;
  rule = n.rule;
  passes = n.passes;
}

abbrev pub run16_files_of : Run16Names → Run16Files
run16_files_of n = record {
  text = n.text.now;
  entries = n.entries.now;
  capture = n.capture.now;
  ports = option_map (λ name. name.now) n.ports;
  sent = n.sent.now;
  report = n.report.now;
  passes = n.passes;
}

-- the command that was read
abbrev pub command_of : Read → Command
command_of (Carry names) = carry (files_of names)
command_of (Check program) = check program.now
command_of (Order program) = order program.now
command_of (Run14 names) = run14 (run14_files_of names)
command_of (Run16 names) = run16 (run16_files_of names)
