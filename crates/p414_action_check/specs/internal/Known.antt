-- What is known where C15 is asked.
use Rattle.std.specs.Prelude.{◌≡◌, ℕ, false, List}
use Rattle.digraph.specs.Expansions.{AreSizes}
use Rattle.p414_syntax.specs.declared.syntax.Decl.{Decl}
use Rattle.p414_syntax.specs.Twice.{declares_twice}
use Rattle.p414_syntax.specs.Unknown.{has_unknown_name}
use Rattle.p414_syntax.specs.Lists.{HoldsItself}
use Rattle.p414_syntax.specs.Calls.{has_wrong_call}
use Rattle.p414_list_check.specs.Lengths.{AreLengths}
use Rattle.p414_action_check.specs.internal.Counted.{action_graph, input_lengths, own_counts}

pub record IsKnown (ds : List Decl) : Type 0 where
  pub once : declares_twice ds ≡ false
  pub named : has_unknown_name ds ≡ false
  pub apart : HoldsItself ds → ⊥
  pub right : has_wrong_call ds ≡ false

-- these are how many items each calculation takes, but at most 65,537
pub record AreInputs (ds : List Decl) (inputs : List ℕ) : Type 0 where
  pub lengths : List ℕ
  pub long : AreLengths ds lengths
  pub is : inputs ≡ input_lengths ds lengths

-- these are how many primitives each action comes to, but at most 65,537
pub record AreActionSizes (ds : List Decl) (sizes : List ℕ) : Type 0 where
  pub lengths : List ℕ
  pub long : AreLengths ds lengths
  pub known : AreSizes (action_graph ds) (own_counts ds (input_lengths ds lengths)) 65537 sizes
