use Rattle.std.proofs.Common.{◌≡◌, map, option_map, IfOk, sym, ap, subst, ◌∙◌}
use Rattle.p416_syntax.specs.Subtrees.{subexpressions}
use Rattle.p416_syntax.specs.Declarations.{top_names}
use Rattle.p416_names.specs.SeenKinds.{seen_kind}
use Rattle.p416_scopes.specs.Seen.{seen_scope}
use Rattle.p416_typing.specs.Rows.{left_of}
use Rattle.v1_ready_program.specs.Seen.{seen_seats}
use Rattle.v1_ready_places.specs.Seen.{seen_meant}
use Rattle.v1_ready_places.specs.internal.Chains.{chained}
use Rattle.v1_ready_places.proofs.Chained.{lefts_known, chain_whole}
use Rattle.v1_ready_places.proofs.chain.ready_place.Goals as goal

pub first_meant-requires-clause-kinds : goal.first_meant-requires-clause-kinds
first_meant-requires-clause-kinds c =
    let s = seen_scope c.args.around.scope.now in
    ap (map seen_kind) c.deref-2.ensures.value
    ∙ (c.in_ok-kinds.ensures
    ∙ (lefts_known s (top_names c.args.around.scope.now.top.now) c.in_ok-views.field-0.rows (subexpressions c.args.target.now) c.in_ok-views.ensures.rows
    ∙ ap (map (left_of s)) (sym (c.deref.ensures.value ∙ c.in_ok-views.ensures.views))))

pub returns : goal.returns
returns c =
    let s = seen_scope c.args.around.scope.now in
    let seats = seen_seats c.args.around.seats.now in
    subst (λ due. IfOk c.first_meant.result (λ found. option_map seen_meant found ≡ due))
    (ap (chained s seats) (c.deref.ensures.value ∙ c.in_ok-views.ensures.views) ∙ chain_whole s seats c.args.target.now) c.first_meant.ensures
