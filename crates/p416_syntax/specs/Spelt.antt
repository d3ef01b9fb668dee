-- Which syntaxes a text can have (P4_16 1.2, "P4 grammar"; the bounds on widths and values are this project's own).
use Rattle.std.specs.Prelude.{Bool, ◌&&◌}
use Rattle.std.specs.List.{list_all}
use Rattle.p416_syntax.specs.declared.program.Syntax16.{Syntax16}
use Rattle.p416_syntax.specs.Tokens.{is_spelt_seen}
use Rattle.p416_syntax.specs.Written.{written}
use Rattle.p416_syntax.specs.Conditions.{is_syntax, without_parentheses}

-- The syntax keeps to the grammar, with no parentheses in it, and each token that it is written with is one that a text
-- can have: its names are identifiers and not reserved, its strings are identifiers, and its numbers fit.
abbrev pub is_spelt16 : Syntax16 → Bool
is_spelt16 s = is_syntax without_parentheses s && list_all is_spelt_seen (written s)
