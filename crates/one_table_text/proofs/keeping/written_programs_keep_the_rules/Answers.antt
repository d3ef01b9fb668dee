use Rattle.one_table_text.proofs.Rules.{breaks_none}
use Rattle.one_table_text.proofs.keeping.written_programs_keep_the_rules.Goals as goal

pub returns : goal.returns
returns c = breaks_none
