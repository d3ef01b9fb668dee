use Rattle.std.proofs.Common.{ap, ◌∷◌, ◌∙◌}
use Rattle.p414_syntax.specs.Tree.{Expr}
use Rattle.std.proofs.lemmas.Result.{on_ok_weaker}
use Rattle.p414_reader.proofs.Kept.{with_exprs, leaf_of}
use Rattle.p414_reader.proofs.forest.Forest.expression.Goals as goal

pub returns : goal.returns
returns c = on_ok_weaker c.push_expr.result (λ h. h ∙ ap (λ (e : Expr). with_exprs (e ∷ c.args.self.now.trees.exprs) c.args.self.now.trees) (leaf_of _ c.args.node c.requires)) c.push_expr.ensures
