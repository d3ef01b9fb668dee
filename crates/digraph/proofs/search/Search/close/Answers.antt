use Rattle.std.proofs.Common.{◌∙◌, ◌+◌, ◌≤◌, sym, ap, subst, length, drop, ◌++◌, arith}
use Rattle.std.proofs.lemmas.Option.{slice_get_within}
use Rattle.digraph.specs.declared.search.Mark.TheVariants.{Open}
use Rattle.digraph.specs.internal.Search.{AreWaiting, kept, shed}
use Rattle.digraph.proofs.Marking.{shed_first, popped}
use Rattle.digraph.proofs.Closing.{first_waits, pop_waiting, popped_marks, popped_order, closed_now}
use Rattle.digraph.proofs.search.Search.close.Goals as goal

pub index_mut-requires : goal.index_mut-requires
index_mut-requires c =
    let w = subst (AreWaiting c.loop-node.self-inside.marks.items) c.in-Some.ensures.1 c.loop-node.invariant.waiting in
    let lt = slice_get_within c.loop-node.self-inside.marks.items c.in-Some.node (Open (length c.pop_beyond.new.self)) (first_waits c.loop-node.self-inside.marks.items c.in-Some.node c.pop_beyond.new.self w) in
    omega (arith, lt, c.loop-node.self-inside.marks.ok.0)

pub loop-node-preserved : goal.loop-node-preserved
loop-node-preserved c =
    let v = c.loop-node.invariant in
    let w = subst (AreWaiting c.loop-node.self-inside.marks.items) c.in-Some.ensures.1 v.waiting in
    let le : c.args.begin ≤ length c.pop_beyond.new.self = (let e = ap length c.in-Some.ensures.1 in omega (arith, e, c.in-Some.ensures.0)) in
    record {
      waiting = pop_waiting c.loop-node.self-inside.marks.items c.in-Some.node c.loop-node.self-inside.count c.pop_beyond.new.self w;
      marks = popped_marks c.args.begin c.loop-node.self-inside.count c.args.self.now.count c.in-Some.node (length c.pop_beyond.new.self) c.loop-node.self-inside.marks.items v.count (first_waits c.loop-node.self-inside.marks.items c.in-Some.node c.pop_beyond.new.self w) le ∙ v.marks;
      kept = sym (shed_first c.args.begin c.in-Some.node c.pop_beyond.new.self le).0 ∙ (sym (ap (kept c.args.begin) c.in-Some.ensures.1) ∙ v.kept);
      order = ap (λ order. order ++ shed c.args.begin c.pop_beyond.new.self) c.in_ok-push.ensures.items
          ∙ (popped_order c.args.begin c.in-Some.node c.loop-node.self-inside.order.items c.pop_beyond.new.self le
          ∙ (ap (λ waiting. c.loop-node.self-inside.order.items ++ shed c.args.begin waiting) (sym c.in-Some.ensures.1) ∙ v.order));
      begins = v.begins;
      path = v.path;
      count = v.count;
    }

pub returns : goal.returns
returns c =
    let v = c.loop-node.invariant in
    let e = c.in_default.ensures in
    closed_now c.args.self.now c.args.begin (record { marks = c.loop-node.self-inside.marks.items; waiting = c.pop_beyond.new.self; begins = c.pop.new.self; path = c.loop-node.self-inside.path; order = c.loop-node.self-inside.order.items; count = c.loop-node.self-inside.count + 1 })
    (subst (AreWaiting c.loop-node.self-inside.marks.items) (sym e.1) v.waiting)
    (let n = ap length e.1 in omega (arith, n, e.0))
    v.marks
    (ap (kept c.args.begin) e.1 ∙ v.kept)
    (ap (λ waiting. c.loop-node.self-inside.order.items ++ shed c.args.begin waiting) e.1 ∙ v.order)
    (popped c.pop.result c.loop-node.self-inside.begins c.pop.new.self c.pop.ensures ∙ ap (drop 1) v.begins)
    v.path
    (ap (λ n. n + 1) v.count)
