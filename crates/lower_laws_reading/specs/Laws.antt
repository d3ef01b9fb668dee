-- How many tokens a program has that was read (a law of this project's own; P4_14 1.0.5, "Summary of P4 BNF").
use Rattle.std.specs.Prelude.{ℕ, ◌≤◌, List, length}
use Rattle.p414_syntax.specs.declared.syntax.Syntax14.{Syntax14}
use Rattle.p414_syntax.specs.Written.{written}
use Rattle.p414_reader.specs.Reading.{Reads14}

-- A program that a text reads as is written with no more tokens than the text has octets.
abbrev pub TextsAreBrief : Type 0
TextsAreBrief = (text : List ℕ) (s : Syntax14) → Reads14 text s → length (written s) ≤ length text
