-- The names of a program.
use Rattle.std.specs.Prelude.{◌≡◌}
use Rattle.p416_syntax.specs.declared.program.Syntax16.{Syntax16}
use Rattle.p416_signature.specs.internal.Gathered.{AreObjects}
use Rattle.v1_core.specs.Signatures.{table_names}
use Rattle.v1_ready_whole.specs.declared.names.ProgramNames.{ProgramNames}

pub record AreProgramNames (syntax : Syntax16) (n : ProgramNames) : Type 0 where
  pub places : n.places ≡ syntax.main
  pub objects : AreObjects syntax n.objects
  pub tables : n.tables ≡ table_names syntax
