-- Numbers as a text can have them: without a width below 2 ^ 128, with a width of 1 to 128 bits below 2 ^ width (P4_14
-- 1.0.5, "Value Specifications"; the bounds and the definitions are this project's own).
use Rattle.std.specs.Prelude.{◌≡◌, true, List}
use Rattle.std.specs.List.{list_all}
use Rattle.p414_syntax.specs.SpeltLexemes.{is_spelt_lexeme, is_spelt_literal}
use Rattle.p414_syntax.specs.declared.calculations.Item.{Item}
use Rattle.p414_syntax.specs.declared.calculations.Item.TheVariants as item
use Rattle.p414_syntax.specs.declared.syntax.Decl.{Decl}
use Rattle.p414_syntax.specs.Conditions.{is_decl}
use Rattle.p414_syntax.specs.Written.{written_decl}
use Rattle.p414_syntax.specs.Arguments.{Argument, number_argument}
use Rattle.std.specs.Prelude.{flat_map}

-- Declarations as a text can have them: each token is one of a text, and each declaration keeps to the grammar. Whatever is read
-- from a text is so.
pub record IsSpelt (ds : List Decl) : Type 0 where
  pub tokens : list_all is_spelt_lexeme (flat_map written_decl ds) ≡ true
  pub grammar : list_all is_decl ds ≡ true

-- an argument that is a number is one that a text can have
abbrev pub IsFitting : Argument → Type 0
IsFitting (number_argument n) = is_spelt_literal n.literal ≡ true
IsFitting _ = Unit {0}

-- an item that is a number is one that a text can have
abbrev pub IsFittingItem : Item → Type 0
IsFittingItem (item.Number n) = is_spelt_literal n ≡ true
IsFittingItem _ = Unit {0}
