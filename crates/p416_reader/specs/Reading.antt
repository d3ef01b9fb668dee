-- Which P4_16 text reads as which syntax, and with which fault a text is refused. What a syntax is spelled with stands in
-- `Spells16` of p416_syntax, after P4_16 1.2, "P4 grammar"; the rules L1 to L4 and S1, and their places, are this project's own.
use Rattle.std.specs.Prelude.{ℕ, List}
use Rattle.p4x_fault.specs.declared.Fault.{Fault}
use Rattle.p416_tok.specs.Front.{front}
use Rattle.p416_syntax.specs.declared.program.Syntax16.{Syntax16}
use Rattle.p416_syntax.specs.Spells.{Spells16}
use Rattle.text_reading.specs.Reading.{Reads, IsRefused}
use Rattle.p416_reader.specs.Seen.{seen16}

-- The text reads as this syntax: it is divided into tokens that the syntax is spelled with.
abbrev pub Reads16 : List ℕ → Syntax16 → Type 0
Reads16 = Reads front seen16 Spells16

-- The text is refused with this fault: it is that at which the division into tokens stops; or the text is divided into
-- tokens, and it is S1 at the first of them that no program has where it stands, or behind the text, where it ends too
-- early.
abbrev pub IsRefused16 : List ℕ → Fault → Type 0
IsRefused16 = IsRefused front seen16 Spells16
