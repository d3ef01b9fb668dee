-- From what the calls on a graph of lists answer to what is said of the lists.
use Rattle.std.proofs.Common.{◌≡◌, ℕ, ◌||◌, Bool, true, false, nat_lt, min, List, length, inl, inr, Option, Some, None, MatchOption, Result, sym, ap, ◌∙◌, subst}
use Rattle.std.specs.Global.{Vec}
use Rattle.std.specs.Prelude.{IfOk}
use Rattle.std.specs.List.{list_any}
use Rattle.std.proofs.lemmas.List.{length-map}
use Rattle.std.proofs.lemmas.Result.{IfOk-weaker}
use Rattle.digraph.specs.Graphs.{IsClosed}
use Rattle.digraph.specs.Expansions.{AreSizes, HasCycle}
use Rattle.p414_syntax.specs.declared.calculations.Item.{Item}
use Rattle.p414_syntax.specs.declared.syntax.Decl.{Decl}
use Rattle.p414_syntax.specs.Expansion.{lists}
use Rattle.p414_syntax.specs.Lists.{HoldsItself, InputsAreBad}
use Rattle.p414_list_check.specs.internal.Expanded.{list_row, list_graph, capped_count, own_counts, total_from, input_numbers}
use Rattle.p414_list_check.specs.internal.Measures.{one, own_length, own_standard, exceeds}
use Rattle.p414_syntax.specs.Exact.{IsExact}
use Rattle.p414_list_check.specs.internal.Judged.{IsExpandedBadly}
use Rattle.p414_list_check.specs.Lengths.{AreLengths}
use Rattle.p414_list_check.proofs.Holding.{closed, holds_none, holds_itself}
use Rattle.p414_list_check.proofs.Sized.{size_is, some_items}
use Rattle.p414_list_check.proofs.Counting.{counts_lengths}
use Rattle.p414_list_check.proofs.Deciding.{ones, long_is, none_long, inputs_are, acyclic_is}
use Rattle.p414_list_check.proofs.Loops.{numbers_are}

pub closed_by : (ds : List Decl) (g : List (List ℕ)) → g ≡ list_graph ds → IsClosed g
closed_by ds g e = subst (λ (n : List (List ℕ)). IsClosed n) (sym e) (closed ds)

pub own_each : (ds : List Decl) (own : Item → ℕ) (g : List (List ℕ)) (counts : List ℕ) → g ≡ list_graph ds → counts ≡ own_counts 65537 own ds → length counts ≡ length g
own_each ds own g counts e h =
    ap length h
    ∙ (length-map (lists ds) (capped_count 65537 own) ∙ (sym (length-map (lists ds) (list_row ds)) ∙ ap length (sym e)))

pub sizes_by : {E : Type 0} (result : Result (Option (Vec ℕ)) E) (g graph : List (List ℕ)) (counts own : List ℕ) → g ≡ graph → counts ≡ own → IfOk result (λ found. MatchOption found (HasCycle g) (λ s. AreSizes g counts 65537 s.items)) → IfOk result (λ found. MatchOption found (HasCycle graph) (λ s. AreSizes graph own 65537 s.items))
sizes_by result g graph counts own e h known =
    subst (λ (o : List ℕ). IfOk result (λ found. MatchOption found (HasCycle graph) (λ s. AreSizes graph o 65537 s.items))) h
    (subst (λ (n : List (List ℕ)). IfOk result (λ found. MatchOption found (HasCycle n) (λ s. AreSizes n counts 65537 s.items))) e known)

pub inputs_by : (ds : List Decl) (lengths : List ℕ) → AreSizes (list_graph ds) (own_counts 65537 (own_length ds) ds) 65537 lengths
    → (standards : List ℕ) → AreSizes (list_graph ds) (own_counts 65537 own_standard ds) 65537 standards
    → (inputs : List (Option ℕ)) (bad : Bool) → inputs ≡ input_numbers ds → bad ≡ (exceeds (total_from 65537 lengths 0 inputs) 65536 || exceeds (total_from 65537 standards 0 inputs) 0) → IsExact bad (InputsAreBad ds)
inputs_by ds lengths known standards known_standards inputs bad e is =
    inputs_are ds lengths known standards known_standards bad
    (sym (is ∙ ap (λ (l : List (Option ℕ)). exceeds (total_from 65537 lengths 0 l) 65536 || exceeds (total_from 65537 standards 0 l) 0) (e ∙ numbers_are ds)))

pub cycle_there : (ds : List Decl) (own : List ℕ) (found : Option (Vec ℕ)) → MatchOption found (HasCycle (list_graph ds)) (λ s. AreSizes (list_graph ds) own 65537 s.items) → found ≡ None → HasCycle (list_graph ds)
cycle_there ds own found h e =
    subst (λ (o : Option (Vec ℕ)). MatchOption o (HasCycle (list_graph ds)) (λ s. AreSizes (list_graph ds) own 65537 s.items)) e h

pub too_long_is : (ds : List Decl) (lengths : List ℕ) → AreSizes (list_graph ds) (own_counts 65537 (own_length ds) ds) 65537 lengths → list_any (nat_lt 4096) lengths ≡ true → IsExpandedBadly ds
too_long_is ds lengths known long = inr (inl (long_is ds lengths known long))

pub expanded_on : {E : Type 0} (ds : List Decl) (lengths : List ℕ) → AreSizes (list_graph ds) (own_counts 65537 (own_length ds) ds) 65537 lengths → list_any (nat_lt 4096) lengths ≡ false → (result : Result Bool E) → IfOk result (λ bad. IsExact bad (InputsAreBad ds)) → IfOk result (λ bad. IsExact bad (IsExpandedBadly ds))
expanded_on ds lengths known short result h =
    IfOk-weaker result (λ bad. IsExact bad (InputsAreBad ds)) (λ bad. IsExact bad (IsExpandedBadly ds)) (λ bad inputs. acyclic_is ds bad (holds_none ds known.acyclic) (none_long ds lengths known short) inputs) h

-- the sizes of the graph of lists are the lengths of the lists
pub lengths_are : (ds : List Decl) (found : Option (Vec ℕ)) → MatchOption found (HasCycle (list_graph ds)) (λ s. AreSizes (list_graph ds) (own_counts 65537 (own_length ds) ds) 65537 s.items) → MatchOption found (HoldsItself ds) (λ s. AreLengths ds s.items)
lengths_are ds None cycle = holds_itself ds cycle
lengths_are ds (Some s) known =
    record {
      each = known.each ∙ length-map (lists ds) (list_row ds);
      comes = some_items ds one (own_length ds) (counts_lengths ds) 65537 s.items known;
      long = λ l items all there e. size_is ds one (own_length ds) (counts_lengths ds) 65537 s.items known l items all there e ∙ ap (min 65537) (ones all);
    }
