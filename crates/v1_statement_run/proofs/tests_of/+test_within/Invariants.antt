use Rattle.v1_statement_run.proofs.tests_of.+test_within.Given as goal

abbrev pub decreases-test_within : goal.decreases-test_within
decreases-test_within g l = l.place
