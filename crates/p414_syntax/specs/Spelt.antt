-- Which syntaxes a text can have (P4_14 1.0.5, "Summary of P4 BNF"; the bounds on widths and values are this project's
-- own).
use Rattle.std.specs.Prelude.{Bool, ◌&&◌}
use Rattle.std.specs.List.{list_all}
use Rattle.p414_syntax.specs.SpeltLexemes.{is_spelt_lexeme}
use Rattle.p414_syntax.specs.declared.syntax.Syntax14.{Syntax14}
use Rattle.p414_syntax.specs.Written.{written}
use Rattle.p414_syntax.specs.Conditions.{is_syntax}

-- The syntax keeps to the grammar, and each token that it is written with is one that a text can have: its names are
-- identifiers, and its numbers fit.
abbrev pub is_spelt14 : Syntax14 → Bool
is_spelt14 s = is_syntax s && list_all is_spelt_lexeme (written s)
