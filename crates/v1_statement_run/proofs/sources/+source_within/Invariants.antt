use Rattle.v1_statement_run.proofs.sources.+source_within.Given as goal

abbrev pub decreases-source_within : goal.decreases-source_within
decreases-source_within g l = l.place
