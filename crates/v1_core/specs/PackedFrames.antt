-- A packed frame of a program.
use Rattle.std.specs.Prelude.{◌≡◌}
use Rattle.p416_syntax.specs.declared.program.Syntax16.{Syntax16}
use Rattle.v1_core.specs.Cells.{Cells, AreWhole}
use Rattle.v1_core.specs.Programs.{layout16}

pub record IsFrameOf (syntax : Syntax16) (c : Cells) : Type 0 where
  pub layout : c.layout ≡ layout16 syntax
  pub whole : AreWhole c
