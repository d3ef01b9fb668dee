-- How many statements a walk outside every `if` comes to.
use Rattle.std.proofs.Common.{ℕ, suc, ◌+◌}
use Rattle.p416_syntax.specs.Tree.{Stmt16, then, block}

abbrev pub walked : Stmt16 → ℕ
walked ((then) before last) = suc (walked before + walked last)
walked (block body) = suc (walked body)
walked _ = 1
