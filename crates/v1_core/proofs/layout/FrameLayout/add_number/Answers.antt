use Rattle.std.proofs.Common.{◌∷◌, [], arith}
use Rattle.v1_core.proofs.Frames.{parts_wider, parts_lone, narrow_one}
use Rattle.v1_core.proofs.layout.FrameLayout.add_number.Goals as goal

pub invariant_of-self-in_err-push-2 : goal.invariant_of-self-in_err-push-2
invariant_of-self-in_err-push-2 c =
    rw (c.in_ok-push.ensures.items, c.in_err-push-2.ensures.items)
    (parts_wider c.self.inside.widths.items (c.args.width ∷ []) c.self.inside.owners.items c.self.inside.headers.items c.self.invariant (narrow_one c.args.width c.requires))

pub invariant_of-self-2 : goal.invariant_of-self-2
invariant_of-self-2 c =
    rw (c.in_ok-push.ensures.items, c.in_ok-push-2.ensures.items)
    (parts_lone c.self.inside.widths.items c.args.width c.self.inside.owners.items c.self.inside.headers.items c.self.invariant c.requires (omega (arith, c.len.ensures, c.len-2.ensures, c.if-len.false, c.self.inside.widths.ok.0, c.self.inside.owners.ok.0)))
