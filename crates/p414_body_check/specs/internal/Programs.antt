-- What is kept of a program.
use Rattle.std.specs.Prelude.{◌≡◌, List}
use Rattle.p414_syntax.specs.declared.syntax.Syntax14.{Syntax14}
use Rattle.p414_syntax.specs.Names.{Name}
use Rattle.p414_numbers.specs.Sorts.{names_by_sort}
use Rattle.p414_body_check.specs.Answers.{IsAccepted}

-- a syntax that breaks no rule, and the names of each sort
pub record IsProgram (s : Syntax14) (numbers : List (List Name)) : Type 0 where
  pub accepted : IsAccepted s
  pub numbered : numbers ≡ names_by_sort s.decls
