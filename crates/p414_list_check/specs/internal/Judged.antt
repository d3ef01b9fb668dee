-- What C8 asks of lists that are expanded.
use Rattle.std.specs.Prelude.{◌⊎◌, List}
use Rattle.p414_syntax.specs.declared.syntax.Decl.{Decl}
use Rattle.p414_syntax.specs.Lists.{HoldsItself, ListTooLong, InputsAreBad}

abbrev pub IsExpandedBadly : List Decl → Type 0
IsExpandedBadly ds = HoldsItself ds ⊎ ListTooLong ds ⊎ InputsAreBad ds
