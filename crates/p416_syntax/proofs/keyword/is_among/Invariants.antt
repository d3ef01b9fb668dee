use Rattle.std.proofs.Common.{◌≡◌, drop}
use Rattle.p416_syntax.specs.Keywords.{is_among16}
use Rattle.p416_syntax.proofs.keyword.is_among.Given as goal

abbrev pub invariant-loop-other : goal.invariant-loop-other
invariant-loop-other l = is_among16 l.text (drop l.other-index l.words) ≡ is_among16 l.text l.words
