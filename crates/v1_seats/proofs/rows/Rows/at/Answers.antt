use Rattle.std.proofs.Common.{sym, ap, ◌∙◌, slice_get}
use Rattle.p416_syntax.specs.Declarations.{layouts_of}
use Rattle.v1_seats.proofs.Naming.{row_at}
use Rattle.v1_seats.proofs.rows.Rows.at.Goals as goal

pub returns-in-Some : goal.returns-in-Some
returns-in-Some c =
    rw (← c.self.view_is)
    (row_at (layouts_of c.self.inside.top.now) c.self.inside.numbers c.self.inside.rows.items c.args.number c.in-Some.row.now c.self.invariant (ap (λ rs. slice_get rs c.args.number) (sym c.deref.ensures.value) ∙ c.in-Some.ensures))
