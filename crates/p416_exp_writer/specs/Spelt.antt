-- Which expressions can be written: those of whose tokens each can stand in a text.
use Rattle.std.specs.Prelude.{Bool}
use Rattle.std.specs.List.{list_all}
use Rattle.p416_syntax.specs.declared.parts.Type16.{Type16}
use Rattle.p416_syntax.specs.declared.node.CastType.{CastType}
use Rattle.p416_syntax.specs.Tree.{Exp16}
use Rattle.p416_syntax.specs.Tokens.{is_spelt_seen}
use Rattle.p416_syntax.specs.Written.{written_exp, written_type, written_cast}

abbrev pub is_spelt_exp : Exp16 → Bool
is_spelt_exp e = list_all is_spelt_seen (written_exp e)

abbrev pub is_spelt_type : Type16 → Bool
is_spelt_type of = list_all is_spelt_seen (written_type of)

abbrev pub is_spelt_cast : CastType → Bool
is_spelt_cast to = list_all is_spelt_seen (written_cast to)
