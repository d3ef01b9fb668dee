use Rattle.std.proofs.Common.{◌≡◌}
use Rattle.lower_laws_translated.specs.Translated.{is_in_egress}
use Rattle.lower_decls.proofs.Egress.{stands_by}
use Rattle.lower_decls.proofs.lowered.all_copies.Goals as goal

pub returns : goal.returns
returns c x expanded =
    c.in_ok-found.ensures (is_in_egress c.args.names.now x)
    (stands_by c.args.names.now c.in_ok-in_egress.in_egress.items c.deref.result.now c.requires c.in_ok-in_egress.ensures c.deref.ensures.value x expanded)
