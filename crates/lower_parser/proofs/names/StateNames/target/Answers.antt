use Rattle.std.proofs.Common.{◌≡◌, ◌∙◌, sym, ap, get_or, List}
use Rattle.p414_syntax.specs.Names.{Name}
use Rattle.lower_parser.proofs.Leading.{leads_seen}
use Rattle.lower_parser.proofs.names.StateNames.target.Goals as goal

pub returns-in_ok-from_slice-in-Some : goal.returns-in_ok-from_slice-in-Some
returns-in_ok-from_slice-in-Some c =
    leads_seen c.self.inside.names.now c.args.self.now c.args.name.now c.in_ok-from_slice-in-Some.field-0 c.index-as_slice-number.result c.in-Some.number _ c.self.inside.called c.self.view_is c.self.invariant (sym c.find.ensures ∙ c.in-Some.is)
    (c.in_ok-from_slice-in-Some.ensures ∙ c.as_slice-called.ensures ∙ c.index-as_slice-number.is ∙ ap (λ (xs : List Name). get_or xs c.in-Some.number c.index-as_slice-number.result) c.as_slice.ensures)
