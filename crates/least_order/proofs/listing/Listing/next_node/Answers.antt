use Rattle.std.proofs.Common.{rules, inl, refl, sym, subst}
use Rattle.digraph.specs.Graphs.{Among}
use Rattle.least_order.specs.internal.Listing.{Progress}
use Rattle.least_order.proofs.listing.Listing.next_node.Goals as goal

pub offset_bounds-homes-label : goal.offset_bounds-homes-label
offset_bounds-homes-label c =
    let lt = c.requires c.in-Some-pop_first.label (subst (λ (p : Progress). Among c.in-Some-pop_first.label p.ready) c.self.view_is (subst (λ xs. Among c.in-Some-pop_first.label xs) (sym c.in-Some-pop_first.ensures.removal) (inl refl))) in
    search (rules, lt)

pub bounds-homes-label : goal.bounds-homes-label
bounds-homes-label c =
    c.requires c.in-Some-pop_first.label (subst (λ (p : Progress). Among c.in-Some-pop_first.label p.ready) c.self.view_is (subst (λ xs. Among c.in-Some-pop_first.label xs) (sym c.in-Some-pop_first.ensures.removal) (inl refl)))
