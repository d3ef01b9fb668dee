use Rattle.p416_read_back.proofs.Back.{reads_back, reads_alone}
use Rattle.p416_writer.proofs.write.write_syntax16.Goals as goal

pub returns-clause-reads : goal.returns-clause-reads
returns-clause-reads c = reads_back c.in_ok-text.text c.args.syntax.now c.requires c.in_ok-text.ensures

pub returns-clause-alone : goal.returns-clause-alone
returns-clause-alone c other reading = reads_alone c.in_ok-text.text c.args.syntax.now other c.requires c.in_ok-text.ensures reading
