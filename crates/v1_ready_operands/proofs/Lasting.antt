-- Arguments with none behind them.
use Rattle.std.proofs.Common.{◌≡◌, Option, Some, None, List, [], ◌∷◌, refl, ap, ◌∙◌}
use Rattle.std.proofs.lemmas.List.{append-nil}
use Rattle.std.specs.Prelude.{option_map}
use Rattle.v1_ready_blocks.specs.Tests.{Test}
use Rattle.v1_ready_blocks.specs.Arguments.{Argument, a_value}
use Rattle.v1_ready_statements.specs.Given.{join_option}

pub value_last : (t : Option Test) (none : Option (List Argument)) → none ≡ Some [] → join_option (option_map (λ x. a_value x ∷ []) t) none ≡ option_map (λ x. a_value x ∷ []) t
value_last None none is = refl
value_last (Some t) none is = ap (join_option (Some (a_value t ∷ []))) is

pub list_last : (xs none : Option (List Argument)) → none ≡ Some [] → join_option xs none ≡ xs
list_last None none is = refl
list_last (Some xs) none is = ap (join_option (Some xs)) is ∙ ap Some (append-nil xs)
