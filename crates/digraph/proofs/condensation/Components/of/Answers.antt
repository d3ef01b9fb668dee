use Rattle.std.proofs.Common.{◌≡◌, ◌∙◌, ℕ, sym, ap, subst, length, None, List, [], ◌<◌, arith, Some, slice_get}
use Rattle.digraph.specs.declared.search.Mark.TheVariants.{New}
use Rattle.digraph.specs.internal.Search.{State, Searching, IsListed, fresh}
use Rattle.digraph.proofs.Visiting.{fresh_searching, fresh_listed, are_components}
use Rattle.digraph.proofs.condensation.Components.of.Goals as goal

-- before the first root
begun : (g : List (List ℕ)) (s : State) (n : ℕ) → n ≡ length g → s ≡ fresh n → record { searching : Searching g None s; listed : IsListed s; ended : s.path ≡ []; reached : (a : ℕ) → a < 0 → slice_get s.marks a ≡ Some New → ⊥ }
begun g s n same e =
    let is : s ≡ fresh (length g) = e ∙ ap fresh same in
    record {
      searching = subst (λ (t : State). Searching g None t) (sym is) (fresh_searching g);
      listed = subst IsListed (sym is) (fresh_listed (length g));
      ended = ap (λ (t : State). t.path) is;
      reached = λ a lt. absurd (omega (arith, lt));
    }

pub loop-root-init : goal.loop-root-init
loop-root-init c = begun c.args.graph.now c.in_ok-search.search c.len.result c.len.ensures c.in_ok-search.ensures

pub returns : goal.returns
returns c =
    let v = c.loop-root.invariant in
    let a = are_components c.args.graph.now c.loop-root.search v.searching v.listed v.ended (λ a lt. v.reached a (omega (arith, lt, c.loop-root-test.false, c.len-root-end.ensures))) in
    let n = c.in_ok-numbers.ensures in
    rw (n.0, n.1, n.2) a
