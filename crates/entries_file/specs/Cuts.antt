-- Words that are cut at a mark (this project's own).
use Rattle.std.specs.Prelude.{nat_eq, [], ◌∷◌, length, drop, Option, Some, None, if◌then◌else◌}
use Rattle.std.specs.Option.{option_map}
use Rattle.std.specs.List.{starts_with}
use Rattle.text_lines.specs.Words.{Word}

-- the parts of a word in front of a mark and behind it, where the mark stands for the first time
abbrev pub cut : Word → Word → Option (Word × Word)
cut mark [] = None
cut mark (octet ∷ word) =
    if starts_with nat_eq (octet ∷ word) mark then Some ([], drop (length mark) (octet ∷ word))
    else option_map (λ parts. (octet ∷ parts.0, parts.1)) (cut mark word)
