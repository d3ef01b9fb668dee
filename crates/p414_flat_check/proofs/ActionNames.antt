-- The action of a name is the declaration of that name among the actions.
use Rattle.std.proofs.Common.{◌≡◌, ℕ, zero, suc, List, [], ◌∷◌, Option, Some, None, option_and_then, slice_get, refl}
use Rattle.p414_syntax.specs.declared.syntax.Decl.{Decl}
use Rattle.p414_syntax.specs.declared.syntax.Decl.TheVariants as decl
use Rattle.p414_syntax.specs.declared.syntax.Sort.TheVariants as sort
use Rattle.p414_syntax.specs.Names.{Name, declared_in, number_of, numbered, declaration_of}
use Rattle.p414_syntax.specs.Arguments.{actions, action_in, action_of}

-- the action with this number
numbered_action : (ds : List Decl) (n : ℕ) → slice_get (actions ds) n ≡ option_and_then action_in (slice_get (declared_in sort.Action ds) n)
numbered_action [] n = refl
numbered_action (decl.Action x ∷ ds) zero = refl
numbered_action (decl.Action x ∷ ds) (suc n) = numbered_action ds n
numbered_action (decl.FieldList x ∷ ds) n = numbered_action ds n
numbered_action (decl.HeaderType x ∷ ds) n = numbered_action ds n
numbered_action (decl.Header x ∷ ds) n = numbered_action ds n
numbered_action (decl.Metadata x ∷ ds) n = numbered_action ds n
numbered_action (decl.FieldListCalculation x ∷ ds) n = numbered_action ds n
numbered_action (decl.CalculatedField x ∷ ds) n = numbered_action ds n
numbered_action (decl.Parser x ∷ ds) n = numbered_action ds n
numbered_action (decl.Table x ∷ ds) n = numbered_action ds n
numbered_action (decl.Counter x ∷ ds) n = numbered_action ds n
numbered_action (decl.Meter x ∷ ds) n = numbered_action ds n
numbered_action (decl.Register x ∷ ds) n = numbered_action ds n
numbered_action (decl.Control x ∷ ds) n = numbered_action ds n
numbered_action (decl.LeftOut x ∷ ds) n = numbered_action ds n

by_number : (ds : List Decl) (o : Option ℕ) → option_and_then (slice_get (actions ds)) o ≡ option_and_then action_in (option_and_then (numbered sort.Action ds) o)
by_number ds None = refl
by_number ds (Some n) = numbered_action ds n

pub same_action : (ds : List Decl) (name : Name) → action_of ds name ≡ option_and_then action_in (declaration_of sort.Action ds name)
same_action ds name = by_number ds (number_of sort.Action ds name)
