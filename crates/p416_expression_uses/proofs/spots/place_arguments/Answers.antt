use Rattle.std.proofs.Common.{rules}
use Rattle.std.proofs.lemmas.Result.{on_ok_weaker}
use Rattle.p416_syntax.specs.Heads.{of_exp_head}
use Rattle.p416_syntax.specs.Declarations.{top_names}
use Rattle.p416_calls.specs.Seen.{seen_place}
use Rattle.p416_expression_uses.specs.Seen.{wanted_in, otherwise_in}
use Rattle.p416_expression_uses.specs.internal.Runs.{seen_spot, seen_spots}
use Rattle.p416_expression_uses.proofs.Running.{list_told}
use Rattle.p416_expression_uses.proofs.spots.place_arguments.Goals as goal

pub returns : goal.returns
returns c =
    on_ok_weaker c.fill_parts.result
    (λ put. list_told (wanted_in (top_names c.args.top.now) c.args.given) (otherwise_in c.args.given) c.args.count c.saturating_sub.result (seen_place c.place.result)
    (seen_spot (top_names c.args.top.now) c.single-last.result) (of_exp_head c.args.head) (seen_spots (top_names c.args.top.now) c.args.spots.now)
    (seen_spots (top_names c.args.top.now) c.fill_parts.new.spots) (search (rules, c.saturating_sub.ensures)) c.place.ensures (c.single-last.ensures (top_names c.args.top.now))
    (put (top_names c.args.top.now)))
    c.fill_parts.ensures
