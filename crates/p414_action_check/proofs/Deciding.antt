-- The sizes of actions decide whether an action is too long, and whether all of them are.
use Rattle.std.proofs.Common.{◌≡◌, ℕ, ◌+◌, ◌<◌, min, true, false, nat_lt, List, length, map, sum_by, slice_get, slice_index, Option, Some, None, refl, sym, ap, ◌∙◌, subst, arith}
use Rattle.std.proofs.lemmas.Bool.{lt-ltb, ltb-true}
use Rattle.std.specs.List.{list_any}
use Rattle.std.proofs.lemmas.List.{length-map}
use Rattle.digraph.specs.Expansions.{AreSizes}
use Rattle.p414_syntax.specs.declared.actions.Action.{Action}
use Rattle.p414_syntax.specs.declared.syntax.Decl.{Decl}
use Rattle.p414_syntax.specs.Unknown.{has_unknown_name}
use Rattle.p414_syntax.specs.Arguments.{Invocation, invocations_of, actions, action_number}
use Rattle.p414_syntax.specs.ActionExpansion.{called_in, CallsExpand}
use Rattle.p414_syntax.specs.Actions.{ActionTooLong, ActionsTooLong, ActionsJoin, Count, all_listed}
use Rattle.p414_list_check.specs.Lengths.{AreLengths}
use Rattle.p414_list_check.proofs.Expanding.{get_within}
use Rattle.p414_list_check.proofs.Deciding.{cut_order, over_at, place_over}
use Rattle.p414_action_check.specs.internal.Counted.{action_graph, input_lengths, primitive_count, own_counts, total_from, exceeds}
use Rattle.p414_action_check.proofs.Given.{GivesValues}
use Rattle.p414_action_check.proofs.Hashing.{count_is, some_count}
use Rattle.p414_action_check.proofs.Sized.{size_is, some_calls, joined_total, some_join, node_within}

module _ (ds : List Decl) (values : GivesValues ds) (lengths : List ℕ) (long : AreLengths ds lengths) (sizes : List ℕ) (known : AreSizes (action_graph ds) (own_counts ds (input_lengths ds lengths)) 65537 sizes) where
  over_is : (n : ℕ) (a : Action) (all : List Invocation) (total : ℕ) → slice_get (actions ds) n ≡ Some a → CallsExpand ds (invocations_of a) all → Count ds all total → nat_lt 4096 (slice_index sizes n) ≡ nat_lt 4096 total
  over_is n a all total there e count =
      ap (nat_lt 4096) (size_is ds (input_lengths ds lengths) values sizes known n a all there e ∙ sym (count_is ds lengths long all total count))
      ∙ cut_order 4096 65537 total (omega arith)

  pub long_is : has_unknown_name ds ≡ false → list_any (nat_lt 4096) sizes ≡ true → ActionTooLong ds
  long_is names e =
      let p = place_over 4096 sizes e in
      let same : length sizes ≡ length (action_graph ds) = known.each in
      let rows : length (action_graph ds) ≡ length (actions ds) = length-map (actions ds) (called_in ds) in
      let a = get_within (actions ds) p.0 (omega arith) in
      let all = some_calls ds (input_lengths ds lengths) values sizes known p.0 a.0 a.1 in
      let count = some_count ds lengths long names all.0 in
      record {
        number = p.0;
        all = all.0;
        total = count.0;
        expands = record { action = a.0; numbered = a.1; expands = all.1 };
        counts = count.1;
        long = ltb-true _ _ (sym (over_is p.0 a.0 all.0 count.0 a.1 all.1 count.1) ∙ p.2);
      }

  pub none_long : list_any (nat_lt 4096) sizes ≡ false → ActionTooLong ds → ⊥
  none_long e h =
      let within : h.number < length sizes = subst (λ n. h.number < n) (sym known.each) (node_within ds h.number h.expands.action h.expands.numbered) in
      let over : nat_lt 4096 (slice_index sizes h.number) ≡ true = over_is h.number h.expands.action h.all h.total h.expands.numbered h.expands.expands h.counts ∙ lt-ltb _ _ h.long in
      cc (e, over_at 4096 sizes h.number within over)

  abbrev pub total_listed : Option ℕ
  total_listed = total_from 65537 sizes 0 (map (action_number ds) (all_listed ds))

  zero_more : (n : ℕ) → 0 + n ≡ n
  zero_more n = omega arith

  -- of all expansions together the total says whether they are too long
  total_is : (all : List Invocation) (total : ℕ) → ActionsJoin ds (all_listed ds) all → Count ds all total → exceeds total_listed 65536 ≡ nat_lt 65536 total
  total_is all total joins count =
      let t : total_listed ≡ Some (min 65537 (0 + sum_by (primitive_count ds (input_lengths ds lengths)) all)) = joined_total ds (input_lengths ds lengths) values sizes known (all_listed ds) all 0 (omega arith) joins in
      ap (λ o. exceeds o 65536) t
      ∙ (ap (λ n. nat_lt 65536 (min 65537 n)) (zero_more (sum_by (primitive_count ds (input_lengths ds lengths)) all))
      ∙ (ap (nat_lt 65536) (sym (count_is ds lengths long all total count)) ∙ cut_order 65536 65537 total (omega arith)))

  some_over : (o : Option ℕ) (most : ℕ) → exceeds o most ≡ true → (n : ℕ) × (o ≡ Some n)
  some_over None most e = absurd (cc e)
  some_over (Some n) most e = (n, refl)

  pub listed_long : has_unknown_name ds ≡ false → exceeds total_listed 65536 ≡ true → ActionsTooLong ds
  listed_long names e =
      let n = some_over total_listed 65536 e in
      let all = some_join ds (input_lengths ds lengths) values sizes known (all_listed ds) 0 n.0 n.1 in
      let count = some_count ds lengths long names all.0 in
      record { all = all.0; total = count.0; joined = all.1; counts = count.1; long = ltb-true _ _ (sym (total_is all.0 count.0 all.1 count.1) ∙ e) }

  pub listed_short : exceeds total_listed 65536 ≡ false → ActionsTooLong ds → ⊥
  listed_short e h = cc (e, total_is h.all h.total h.joined h.counts, lt-ltb _ _ h.long)
