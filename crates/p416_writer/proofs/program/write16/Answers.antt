use Rattle.std.proofs.Common.{◌≡◌, IfOk, subst}
use Rattle.p416_syntax.specs.declared.program.Syntax16.{Syntax16}
use Rattle.p416_reader.specs.Reading.{Reads16}
use Rattle.p416_writer.proofs.program.write16.Goals as goal

pub returns-clause-alone : goal.returns-clause-alone
returns-clause-alone c =
    subst (λ (s : Syntax16). IfOk c.write_syntax16.result (λ text. (other : Syntax16) → Reads16 text other → other ≡ s)) c.syntax.ensures.is c.write_syntax16.ensures.alone
