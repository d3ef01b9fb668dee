use Rattle.std.proofs.Common.{ap, ◌∷◌, ◌∙◌}
use Rattle.p416_syntax.specs.Tree.{Exp16}
use Rattle.std.proofs.lemmas.Result.{on_ok_weaker}
use Rattle.p416_reader.proofs.Kept.{with_exps, leaf_of}
use Rattle.p416_reader.proofs.forest.Forest.expression.Goals as goal

pub returns : goal.returns
returns c = on_ok_weaker c.push_exp.result (λ h. h ∙ ap (λ (e : Exp16). with_exps (e ∷ c.args.self.now.trees.exps) c.args.self.now.trees) (leaf_of _ c.args.node c.requires)) c.push_exp.ensures
