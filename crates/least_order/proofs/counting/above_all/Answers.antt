use Rattle.std.proofs.Common.{List, ℕ, ⊎_elim, sym, subst, arith}
use Rattle.std.proofs.lemmas.List.{take_all}
use Rattle.digraph.specs.Graphs.{Among}
use Rattle.least_order.proofs.Adding.{among_more}
use Rattle.least_order.proofs.counting.above_all.Goals as goal

pub loop-number-preserved : goal.loop-number-preserved
loop-number-preserved c = record {
  least = omega (arith, c.loop-number.invariant.least, c.in_ok-count.ensures.least);
  above = λ x among.
      ⊎_elim
      (λ old. let lt = c.loop-number.invariant.above x old in omega (arith, lt, c.in_ok-count.ensures.least))
      (λ same. omega (arith, same, c.in_ok-count.ensures.above))
      ((among_more c.args.numbers.now c.loop-number.number-index x c.loop-number-test.true).0 among);
}

pub returns-clause-above : goal.returns-clause-above
returns-clause-above c x among =
    c.loop-number.invariant.above x (subst (λ (xs : List ℕ). Among x xs) (sym (take_all c.loop-number.number-index c.args.numbers.now c.loop-number-test.false)) among)
