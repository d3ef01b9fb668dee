use Rattle.std.proofs.Common.{ℕ, ◌∙◌, length, get_or, sym, ap, arith}
use Rattle.std.specs.Ordering.{nat_cmp}
use Rattle.match_core.specs.internal.Groups.{group_of}
use Rattle.match_core.proofs.GroupSearch.{compare_next, compare_here, compare_end, group_get, group_length}
use Rattle.match_core.proofs.groups.compare_values.Goals as goal

pub loop-i-preserved : goal.loop-i-preserved
loop-i-preserved c =
    let many = group_length c.args.specs.now c.args.key.now c.requires in
    compare_next c.args.values.now (group_of c.args.specs.now c.args.key.now) c.loop-i.i c.cmp-order.result _ (omega arith) (omega (arith, many))
    (c.cmp-order.ensures ∙ ap (λ (n : ℕ). nat_cmp (get_or c.args.values.now c.loop-i.i 0) n) (c.group_part.ensures ∙ sym (group_get c.args.specs.now c.args.key.now c.loop-i.i _ (omega arith) (omega arith))))
    c.if-is_ne.ensures c.loop-i.invariant

pub returns-then-is_ne : goal.returns-then-is_ne
returns-then-is_ne c =
    let many = group_length c.args.specs.now c.args.key.now c.requires in
    compare_here c.args.values.now (group_of c.args.specs.now c.args.key.now) c.loop-i.i c.cmp-order.result _ (omega arith) (omega (arith, many))
    (c.cmp-order.ensures ∙ ap (λ (n : ℕ). nat_cmp (get_or c.args.values.now c.loop-i.i 0) n) (c.group_part.ensures ∙ sym (group_get c.args.specs.now c.args.key.now c.loop-i.i _ (omega arith) (omega arith))))
    c.if-is_ne.ensures c.loop-i.invariant

pub returns : goal.returns
returns c =
    let many = group_length c.args.specs.now c.args.key.now c.requires in
    c.cmp.ensures
    ∙ compare_end c.args.values.now (group_of c.args.specs.now c.args.key.now) c.loop-i.i (length c.args.values.now) (length c.args.key.now) _ (omega arith) (omega (arith, many))
    (omega arith) (omega arith) (omega arith) c.loop-i.invariant
