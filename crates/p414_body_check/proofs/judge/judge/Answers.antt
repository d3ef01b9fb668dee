use Rattle.p414_body_check.proofs.Exactly.{has_start}
use Rattle.p414_body_check.proofs.judge.judge.Goals as goal

pub judge_parser-requires : goal.judge_parser-requires
judge_parser-requires c = has_start c.args.syntax.now.decls c.in_ok-names.ensures.0
