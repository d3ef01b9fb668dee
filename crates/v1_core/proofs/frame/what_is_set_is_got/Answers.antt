use Rattle.v1_core.proofs.Frames.{set_got, set_others, set_nothing}
use Rattle.v1_core.proofs.frame.what_is_set_is_got.Goals as goal

pub returns-clause-got : goal.returns-clause-got
returns-clause-got c = set_got

pub returns-clause-others : goal.returns-clause-others
returns-clause-others c = set_others

pub returns-clause-nothing : goal.returns-clause-nothing
returns-clause-nothing c = set_nothing
