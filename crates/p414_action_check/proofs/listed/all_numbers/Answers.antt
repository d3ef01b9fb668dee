use Rattle.std.proofs.Common.{ℕ, List, ◌++◌, Option, flat_map, ap, ◌∙◌}
use Rattle.p414_syntax.specs.Tables.{tables}
use Rattle.p414_action_check.specs.internal.Counted.{listed_numbers}
use Rattle.p414_action_check.proofs.Loops.{numbers_are}
use Rattle.p414_action_check.proofs.listed.all_numbers.Goals as goal

pub loop-decl-init : goal.loop-decl-init
loop-decl-init c = ap (λ (l : List (Option ℕ)). l ++ flat_map (listed_numbers c.args.names.now) (tables c.args.names.now)) c.new-found.ensures.items ∙ numbers_are c.args.names.now
