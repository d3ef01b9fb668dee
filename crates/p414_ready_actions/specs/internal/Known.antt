-- What is known of a program's actions.
use Rattle.std.specs.Prelude.{◌≡◌, Bool, List, map}
use Rattle.p414_syntax.specs.declared.syntax.Decl.{Decl}
use Rattle.p414_syntax.specs.declared.syntax.Sort.TheVariants as sort
use Rattle.p414_syntax.specs.Names.{Name, names_in}
use Rattle.p414_syntax.specs.Arguments.{Invocation, invocations_of, actions}
use Rattle.p414_sem.specs.Operations.{in_order}
use Rattle.p414_ready_actions.specs.internal.Empty.{AreEmpty}

-- the calls of each action, the objects in the order of their names, the calculations, and which actions come to nothing
pub record AreKnown (ds : List Decl) (bodies : List (List Invocation)) (of_objects of_calculations : List Name) (marks : List Bool) : Type 0 where
  pub calls : bodies ≡ map invocations_of (actions ds)
  pub objects : of_objects ≡ in_order (names_in sort.Object ds)
  pub calculations : of_calculations ≡ names_in sort.Calculation ds
  pub empty : AreEmpty ds marks
