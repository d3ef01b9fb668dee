use Rattle.std.proofs.Common.{map, filter_map, ap, ◌∙◌}
use Rattle.p416_names.specs.SeenKinds.{referred}
use Rattle.p416_scopes.specs.Seen.{seen_scope}
use Rattle.v1_core.specs.Signatures.{in_order}
use Rattle.v1_ready_statements.specs.Blocks.{all_of}
use Rattle.v1_ready_tables.specs.internal.Listed.{seen_listed, listed_in, row_plane, number_among}
use Rattle.v1_ready_tables.proofs.Telling.{numbers_are, placed_are}
use Rattle.v1_ready_tables.proofs.actions.table_actions.Goals as goal

pub ready_default-requires : goal.ready_default-requires
ready_default-requires c =
    let s = seen_scope c.args.scope.now in
    let rows = map seen_listed c.in_ok-listed.listed.items in
    let names = map referred c.in_ok-names.names.items in
    placed_are s c.args.table.now rows names names (c.in_ok-listed.ensures ∙ ap (filter_map (listed_in s)) c.actions.ensures) (c.in_ok-names.ensures ∙ ap (λ l. map row_plane (map seen_listed l)) c.deref.ensures.value) c.in_ok-ordered.ordered.items c.in_ok-placed.placed
    (c.in_ok-ordered.ensures ∙ ap (λ l. in_order (map referred l)) c.deref-2.ensures.value) c.in_ok-placed.ensures

pub returns-clause-numbers : goal.returns-clause-numbers
returns-clause-numbers c =
    let s = seen_scope c.args.scope.now in
    let actions = c.args.actions.now in
    let named = c.in_ok-named.named in
    let rows = map seen_listed c.in_ok-listed.listed.items in
    let names = map referred c.in_ok-names.names.items in
    numbers_are s c.args.table.now rows names named (c.in_ok-listed.ensures ∙ ap (filter_map (listed_in s)) c.actions.ensures) (c.in_ok-names.ensures ∙ ap (λ l. map row_plane (map seen_listed l)) c.deref.ensures.value) actions c.in_ok-ordered.ordered.items c.in_ok-numbers.numbers
    c.in_ok-named.ensures (c.in_ok-ordered.ensures ∙ ap (λ l. in_order (map referred l)) c.deref-2.ensures.value)
    (c.in_ok-numbers.ensures
    ∙ (ap (λ l. all_of (λ name. number_among actions (map seen_listed l) named name.now) c.deref-4.result.now) c.deref-3.ensures.value
    ∙ ap (all_of (λ name. number_among actions rows named name.now)) c.deref-4.ensures.value))
