use Rattle.std.proofs.Common.{List, subst}
use Rattle.p414_syntax.specs.declared.syntax.Decl.{Decl}
use Rattle.p414_syntax.specs.Breaks.{declaration_rules}
use Rattle.p414_decl_check.specs.Answers.{IsAnswer}
use Rattle.p414_decl_check.proofs.Judging.{least_of_all}
use Rattle.p414_decl_check.proofs.declarations.decls.Goals as goal

pub returns-clause-least : goal.returns-clause-least
returns-clause-least c =
    least_of_all c.args.syntax.now c.names_in.result (subst (λ (ds : List Decl). IsAnswer ds declaration_rules c.names_in.result) c.as_slice.ensures c.names_in.ensures)
