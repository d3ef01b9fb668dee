-- The sizes of the nodes of the graph of actions say what the actions come to.
use Rattle.std.proofs.Common.{◌≡◌, ℕ, suc, zero, ◌+◌, ◌<◌, ◌≤◌, min, List, [], ◌∷◌, ◌++◌, length, get_or, map, sum_by, slice_get, slice_index, Option, Some, None, refl, sym, ap, ◌∙◌, subst, arith}
use Rattle.std.specs.Option.{option_map_or}
use Rattle.std.proofs.lemmas.List.{length-map}
use Rattle.std.proofs.lemmas.List.Sums.{sum_by-append, sum_by-cons}
use Rattle.digraph.specs.Graphs.{successors}
use Rattle.digraph.specs.Expansions as calls
use Rattle.digraph.specs.Expansions.{AreSizes, size_of}
use Rattle.p414_syntax.specs.declared.actions.Action.{Action}
use Rattle.p414_syntax.specs.declared.syntax.Decl.{Decl}
use Rattle.p414_syntax.specs.Names.{Name}
use Rattle.p414_syntax.specs.Arguments.{Invocation, invocations_of, actions, action_number}
use Rattle.p414_syntax.specs.ActionExpansion.{called_in, CallsExpand, ActionExpands}
use Rattle.p414_syntax.specs.Actions.{ActionsJoin}
use Rattle.p414_list_check.proofs.Expanding.{get_within, at_row}
use Rattle.p414_list_check.proofs.Sized.{cut_sum, there_within}
use Rattle.p414_action_check.specs.internal.Counted.{action_graph, primitive_count, own_count, calls_count, own_counts, total_from}
use Rattle.p414_action_check.proofs.Numbers.{named_within}
use Rattle.p414_action_check.proofs.Given.{GivesValues}
use Rattle.p414_action_check.proofs.Expanding.{row_count, comes, come_from, SomeCalls}

-- what is counted of the action with a number

count_there : (ds : List Decl) (inputs : List ℕ) (bodies : List Action) (n : ℕ) → get_or (map (calls_count ds inputs) (map invocations_of bodies)) n 0 ≡ min 65537 (option_map_or (λ a. sum_by (own_count ds inputs) (invocations_of a)) (slice_get bodies n) 0)
count_there ds inputs [] n = omega arith
count_there ds inputs (a ∷ bodies) zero = refl
count_there ds inputs (a ∷ bodies) (suc n) = count_there ds inputs bodies n

count_at : (ds : List Decl) (inputs : List ℕ) (n : ℕ) → slice_index (own_counts ds inputs) n ≡ min 65537 (row_count ds inputs n)
count_at ds inputs n = count_there ds inputs (actions ds) n

pub node_within : (ds : List Decl) (n : ℕ) (a : Action) → slice_get (actions ds) n ≡ Some a → n < length (action_graph ds)
node_within ds n a there =
    let h : n < length (actions ds) = there_within (actions ds) n a there in
    let same : length (action_graph ds) ≡ length (actions ds) = length-map (actions ds) (called_in ds) in
    omega arith

module _ (ds : List Decl) (inputs : List ℕ) (values : GivesValues ds) (sizes : List ℕ) (known : AreSizes (action_graph ds) (own_counts ds inputs) 65537 sizes) where
  -- the size of an action's node is what is counted of the primitives that the action comes to
  pub size_is : (n : ℕ) (a : Action) (all : List Invocation) → slice_get (actions ds) n ≡ Some a → CallsExpand ds (invocations_of a) all → slice_index sizes n ≡ min 65537 (sum_by (primitive_count ds inputs) all)
  size_is n a all there e =
      let h = comes ds inputs values (invocations_of a) all e (values.within n a there) in
      let row : successors (action_graph ds) n ≡ called_in ds a = at_row (called_in ds) (actions ds) n a there in
      let first : row_count ds inputs n ≡ sum_by (own_count ds inputs) (invocations_of a) = ap (λ o. option_map_or (λ x. sum_by (own_count ds inputs) (invocations_of x)) o 0) there in
      let known_size : slice_index sizes n ≡ min 65537 (size_of (own_counts ds inputs) (n ∷ h.0)) = known.size n h.0 (node_within ds n a there) (subst (λ ns. calls.Expands (action_graph ds) ns h.0) (sym row) h.1) in
      let b1 : min 65537 (sum_by (slice_index (own_counts ds inputs)) (n ∷ h.0)) ≡ min 65537 (sum_by (row_count ds inputs) (n ∷ h.0)) = cut_sum 65537 (slice_index (own_counts ds inputs)) (row_count ds inputs) (count_at ds inputs) (n ∷ h.0) in
      let b2 : sum_by (row_count ds inputs) (n ∷ h.0) ≡ row_count ds inputs n + sum_by (row_count ds inputs) h.0 = sum_by-cons (row_count ds inputs) n h.0 in
      let b3 : sum_by (primitive_count ds inputs) all ≡ sum_by (own_count ds inputs) (invocations_of a) + sum_by (row_count ds inputs) h.0 = h.2 in
      known_size ∙ (b1 ∙ ap (min 65537) (b2 ∙ (ap (λ k. k + sum_by (row_count ds inputs) h.0) first ∙ sym b3)))

  -- each action comes to some primitives
  pub some_calls : (n : ℕ) (a : Action) → slice_get (actions ds) n ≡ Some a → SomeCalls ds (invocations_of a)
  some_calls n a there =
      let row : successors (action_graph ds) n ≡ called_in ds a = at_row (called_in ds) (actions ds) n a there in
      let h = known.expands n (node_within ds n a there) in
      come_from ds (successors (action_graph ds) n) h.0 h.1 (invocations_of a) (sym row)

  -- actions with these names, joined

  pub joined_total : (names : List Name) (all : List Invocation) (so_far : ℕ) → so_far ≤ 65537 → ActionsJoin ds names all → total_from 65537 sizes so_far (map (action_number ds) names) ≡ Some (min 65537 (so_far + sum_by (primitive_count ds inputs) all))
  joined_total [] all so_far within none =
      let e : sum_by (primitive_count ds inputs) all ≡ 0 = ap (sum_by (primitive_count ds inputs)) none in
      let n : so_far ≡ min 65537 (so_far + sum_by (primitive_count ds inputs) all) = omega arith in
      ap Some n
  joined_total (name ∷ names) all so_far within (number, first, rest, named, there, behind, is) =
      let one : slice_index sizes number ≡ min 65537 (sum_by (primitive_count ds inputs) first) = size_is number there.action first there.numbered there.expands in
      let whole : sum_by (primitive_count ds inputs) all ≡ sum_by (primitive_count ds inputs) first + sum_by (primitive_count ds inputs) rest = ap (sum_by (primitive_count ds inputs)) is ∙ sum_by-append (primitive_count ds inputs) first rest in
      let next : ℕ = min 65537 (so_far + slice_index sizes number) in
      let below : next ≤ 65537 = omega arith in
      let turn : total_from 65537 sizes so_far (action_number ds name ∷ map (action_number ds) names) ≡ total_from 65537 sizes next (map (action_number ds) names) = ap (λ o. total_from 65537 sizes so_far (o ∷ map (action_number ds) names)) named in
      let same : min 65537 (next + sum_by (primitive_count ds inputs) rest) ≡ min 65537 (so_far + sum_by (primitive_count ds inputs) all) = omega arith in
      turn ∙ (joined_total names rest next below behind ∙ ap Some same)

  join_first : (name : Name) (names : List Name) (o : Option ℕ) (so_far k : ℕ) → action_number ds name ≡ o → total_from 65537 sizes so_far (o ∷ map (action_number ds) names) ≡ Some k → ((next : ℕ) → total_from 65537 sizes next (map (action_number ds) names) ≡ Some k → (all : List Invocation) × ActionsJoin ds names all) → (all : List Invocation) × ActionsJoin ds (name ∷ names) all
  join_first name names None so_far k is e more = absurd (cc e)
  join_first name names (Some n) so_far k is e more =
      let a = get_within (actions ds) n (named_within ds name n is) in
      let first = some_calls n a.0 a.1 in
      let rest = more (min 65537 (so_far + slice_index sizes n)) e in
      let expands : ActionExpands ds n first.0 = record { action = a.0; numbered = a.1; expands = first.1 } in
      (first.0 ++ rest.0, (n, first.0, rest.0, is, expands, rest.1, refl))

  -- where all names have a number, the actions join
  pub some_join : (names : List Name) (so_far k : ℕ) → total_from 65537 sizes so_far (map (action_number ds) names) ≡ Some k → (all : List Invocation) × ActionsJoin ds names all
  some_join [] so_far k e = ([], refl)
  some_join (name ∷ names) so_far k e = join_first name names (action_number ds name) so_far k refl e (λ next h. some_join names next k h)
