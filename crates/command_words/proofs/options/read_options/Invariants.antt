use Rattle.std.proofs.Common.{◌≡◌, map, string_bytes, length}
use Rattle.command_words.specs.Words.{no_options, options_in}
use Rattle.command_words.specs.internal.Found.{options_of}
use Rattle.command_words.proofs.options.read_options.Given as goal

abbrev pub invariant-loop-rest : goal.invariant-loop-rest
invariant-loop-rest l = options_in (map string_bytes l.rest) (options_of l.found) ≡ options_in (map string_bytes l.words) no_options

abbrev pub decreases-loop-rest : goal.decreases-loop-rest
decreases-loop-rest l = length l.rest
