use Rattle.std.proofs.Common.{◌≡◌, ◌++◌, map, drop}
use Rattle.std.specs.List.{list_any, filter_map}
use Rattle.entries_file.specs.Numbers.{number_up_to}
use Rattle.entries_file.specs.Rules.{is_no_colour}
use Rattle.entries_file.proofs.arguments.read_colours.Given as goal

abbrev pub invariant-loop-word : goal.invariant-loop-word
invariant-loop-word l =
    let texts = map (λ word. word.now) l.words in
    record {
      colours_only : list_any is_no_colour texts ≡ list_any is_no_colour (drop l.word-index texts);
      found : filter_map (number_up_to 2) texts ≡ l.colours ++ filter_map (number_up_to 2) (drop l.word-index texts);
    }
