-- The line that tells of a refusal (this project's own).
use Rattle.std.specs.Prelude.{ℕ, List, [], ◌++◌, Option, Some, None, codes, decimal}
use Rattle.p4x_fault.specs.declared.Rule.{Rule}
use Rattle.p4x_fault.specs.declared.Rule.TheVariants.{L, S, C, T, E, K, P, G, X}
use Rattle.p4x_fault.specs.declared.Place.{Place}
use Rattle.p4x_fault.specs.declared.Fault.{Fault}

-- a rule by its name: the letter of its family and its number there, as `C13`
abbrev pub rule_name : Rule → List ℕ
rule_name (L n) = codes "L" ++ decimal n
rule_name (S n) = codes "S" ++ decimal n
rule_name (C n) = codes "C" ++ decimal n
rule_name (T n) = codes "T" ++ decimal n
rule_name (E n) = codes "E" ++ decimal n
rule_name (K n) = codes "K" ++ decimal n
rule_name (P n) = codes "P" ++ decimal n
rule_name (G n) = codes "G" ++ decimal n
rule_name (X n) = codes "X" ++ decimal n

-- the beginning of the line that a place is on
abbrev pub line_start : Place → Place
line_start place = record { line = place.line; column = 1 }

abbrev pub line_start_of : Option Place → Option Place
line_start_of None = None
line_start_of (Some place) = Some (line_start place)

-- The place that a refusal tells. A rule of tokens or syntax is broken at an octet, a rule of a file
-- that is read line by line on a line, and the others in the program or the file as a whole.
abbrev pub told_place : Rule → Option Place → Option Place
told_place (L n) place = place
told_place (S n) place = place
told_place (C n) place = None
told_place (T n) place = None
told_place (K n) place = None
told_place (E n) place = line_start_of place
told_place (P n) place = line_start_of place
told_place (G n) place = line_start_of place
told_place (X n) place = line_start_of place

-- ` at LINE:COLUMN`, or nothing where no place is told
abbrev pub place_text : Option Place → List ℕ
place_text None = []
place_text (Some place) = codes " at " ++ decimal place.line ++ codes ":" ++ decimal place.column

-- `refused RULE`, and the place where one is told, ended by a line feed
abbrev pub refusal_line : Fault → List ℕ
refusal_line fault =
    codes "refused " ++ rule_name fault.rule ++ place_text (told_place fault.rule fault.place) ++ codes "\n"
