use Rattle.std.proofs.Common.{◌≡◌, ◌++◌, drop}
use Rattle.std.specs.Prelude.{IsTrue}
use Rattle.p416_syntax.specs.Written.{after_commas}
use Rattle.p416_spelling.specs.Words.{words16}
use Rattle.p416_decl_writer.specs.Tokens.{are_spelt}
use Rattle.p416_decl_writer.proofs.lists.write_after_commas.Given as goal

abbrev pub invariant-loop-item : goal.invariant-loop-item
invariant-loop-item g l =
    (l.sheet ++ words16 (after_commas g.T.Written.full (drop l.item-index l.items)) ≡ l.fn.sheet ++ words16 (after_commas g.T.Written.full l.items))
    × IsTrue (are_spelt (after_commas g.T.Written.plain (drop l.item-index l.items)))
