use Rattle.std.proofs.Common.{ap, ◌∷◌, ◌∙◌}
use Rattle.p416_syntax.specs.Tree.{Stmt16}
use Rattle.std.proofs.lemmas.Result.{on_ok_weaker}
use Rattle.p416_reader.proofs.Kept.{with_stmts, stmt_leaf_of}
use Rattle.p416_reader.proofs.forest.Forest.statement.Goals as goal

pub returns : goal.returns
returns c = on_ok_weaker c.push_stmt.result (λ h. h ∙ ap (λ (s : Stmt16). with_stmts (s ∷ c.args.self.now.trees.stmts) c.args.self.now.trees) (stmt_leaf_of _ _ c.args.node c.requires)) c.push_stmt.ensures
