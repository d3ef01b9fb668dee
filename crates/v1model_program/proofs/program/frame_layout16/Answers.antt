use Rattle.std.proofs.Common.{◌≡◌, IfOk, subst}
use Rattle.p416_syntax.specs.declared.program.Syntax16.{Syntax16}
use Rattle.v1_core.specs.Layouts.{Layout}
use Rattle.v1_core.specs.Programs.{layout16}
use Rattle.v1model_program.proofs.program.frame_layout16.Goals as goal

pub returns : goal.returns
returns c =
    subst (λ (s : Syntax16). IfOk c.layout_of_program.result (λ (l : Layout). l ≡ layout16 s)) c.syntax-syntax.ensures.is c.layout_of_program.ensures
