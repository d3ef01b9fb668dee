use Rattle.std.proofs.Common.{◌≡◌, subst}
use Rattle.p416_syntax.specs.declared.program.Syntax16.{Syntax16}
use Rattle.p416_reader.specs.Reading.{Reads16}
use Rattle.one_table_text.proofs.text.text_of.Goals as goal

pub returns-clause-alone : goal.returns-clause-alone
returns-clause-alone c =
    subst (λ (s : Syntax16). (other : Syntax16) → Reads16 c.in_ok-text.text other → other ≡ s) c.in_ok-program.ensures c.in_ok-text.ensures.alone
