-- Which P4_14 text reads as which syntax, and with which fault a text is refused. The numbers are those of P4_14 1.0.5,
-- "Value Specifications"; names, marks and the grammar are those of its "Summary of P4 BNF" (`Spells` of p414_syntax); the
-- rules L1 to L4 and S1, and their places, are this project's own.
use Rattle.std.specs.Prelude.{ℕ, List}
use Rattle.p4x_fault.specs.declared.Fault.{Fault}
use Rattle.p414_tok.specs.Front.{front}
use Rattle.p414_tok.specs.Lexemes.{lexemes}
use Rattle.p414_syntax.specs.declared.syntax.Syntax14.{Syntax14}
use Rattle.p414_syntax.specs.Spells.{Spells}
use Rattle.text_reading.specs.Reading.{Reads, IsRefused}

-- The text reads as this syntax: it is divided into tokens that the syntax is spelled with.
abbrev pub Reads14 : List ℕ → Syntax14 → Type 0
Reads14 = Reads front lexemes Spells

-- The text is refused with this fault: it is that at which the division into tokens stops; or the text is divided into
-- tokens, and it is S1 at the first of them that no program has where it stands, or behind the text, where it ends too
-- early.
abbrev pub IsRefused14 : List ℕ → Fault → Type 0
IsRefused14 = IsRefused front lexemes Spells
