use Rattle.std.proofs.Common.{rules, ◌≡◌, ◌≤◌, length, get_or, ap, ◌∙◌, subst}
use Rattle.match_core.specs.declared.signatures.Signature.{Signature}
use Rattle.match_core.specs.declared.signatures.TableSig.{TableSig}
use Rattle.p414_ready_tables.proofs.Kept.{MadeSo, all_ready, one_ready}
use Rattle.p414_ready_tables.proofs.making.tables_of.Goals as goal

pub loop-sig-preserved : goal.loop-sig-preserved
loop-sig-preserved c =
    let same : c.sig-item.result ≡ get_or c.as_slice-sig-items.result.now c.loop-sig.sig-index c.sig-item.result =
    cc c.sig-item.is in
    one_ready c.args.slots.now c.as_slice-sig-items.result.now c.loop-sig.sig-index c.sig-item.result c.loop-sig.tables
    c.push.new.self c.in_ok-table_named.field-0
    (c.as_slice-sig-items.ensures ∙ ap (λ (g : Signature). g.tables) c.requires) c.loop-sig-test.true
    (subst (λ (s : TableSig). MadeSo c.args.slots.now s c.in_ok-table_named.field-0) same c.in_ok-table_named.ensures)
    c.in_ok-push.ensures.ok c.loop-sig.invariant

pub returns : goal.returns
returns c =
    let end : length c.as_slice-sig-items.result.now ≤ c.loop-sig.sig-index = search rules in
    all_ready c.args.slots.now c.as_slice-sig-items.result.now c.loop-sig.sig-index c.loop-sig.tables
    (c.as_slice-sig-items.ensures ∙ ap (λ (g : Signature). g.tables) c.requires) end c.loop-sig.invariant
