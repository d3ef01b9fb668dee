use Rattle.std.proofs.Common.{◌≡◌, ◌+◌, ◌∙◌, ap, arith, get_or}
use Rattle.std.specs.Prelude.{unwrap_or}
use Rattle.digraph.proofs.PartLaws.{parts_at, starts_at}
use Rattle.digraph.proofs.graph.part_bounds.Goals as goal

pub returns-clause-order : goal.returns-clause-order
returns-clause-order c =
    let e : c.unwrap_or-end.result ≡ get_or c.args.starts.now (c.args.place + 1) c.args.len = c.unwrap_or-end.ensures ∙ (ap (λ o. unwrap_or o c.args.len) c.copied.ensures ∙ c.get.ensures.lookup.4 (omega arith) c.args.len) in
    rw e ((starts_at c.args.starts.now c.args.place c.args.len c.requires.starts c.requires.place).0)

pub returns-clause-within : goal.returns-clause-within
returns-clause-within c =
    let e : c.unwrap_or-end.result ≡ get_or c.args.starts.now (c.args.place + 1) c.args.len = c.unwrap_or-end.ensures ∙ (ap (λ o. unwrap_or o c.args.len) c.copied.ensures ∙ c.get.ensures.lookup.4 (omega arith) c.args.len) in
    rw e ((starts_at c.args.starts.now c.args.place c.args.len c.requires.starts c.requires.place).1)

pub returns-clause-part : goal.returns-clause-part
returns-clause-part c items is =
    let e : c.unwrap_or-end.result ≡ get_or c.args.starts.now (c.args.place + 1) c.args.len = c.unwrap_or-end.ensures ∙ (ap (λ o. unwrap_or o c.args.len) c.copied.ensures ∙ c.get.ensures.lookup.4 (omega arith) c.args.len) in
    rw (e, ← is) (parts_at c.args.starts.now items c.args.place c.requires.place)
