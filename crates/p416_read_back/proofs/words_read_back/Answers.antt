use Rattle.p416_read_back.proofs.Back.{reads_alone}
use Rattle.p416_read_back.proofs.words_read_back.Goals as goal

pub returns-clause-alone : goal.returns-clause-alone
returns-clause-alone c text syntax other h d r = reads_alone text syntax other h d r
