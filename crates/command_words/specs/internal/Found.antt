-- How contracts see the options that were found (this project's own).
use Rattle.std.specs.Prelude.{option_map}
use Rattle.command_words.specs.declared.options.Found.{Found}
use Rattle.command_words.specs.Words.{Options}

-- the values of options
abbrev pub options_of : Found → Options
options_of f = record {
  text = option_map (λ value. value.now) f.text;
  sent = option_map (λ value. value.now) f.sent;
  report = option_map (λ value. value.now) f.report;
  ports = option_map (λ value. value.now) f.ports;
  rule = option_map (λ value. value.now) f.rule;
  passes = option_map (λ value. value.now) f.passes;
}
