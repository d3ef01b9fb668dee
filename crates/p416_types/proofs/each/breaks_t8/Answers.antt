use Rattle.p416_types.proofs.Exactly.{t8_found, t8_else}
use Rattle.p416_types.proofs.each.breaks_t8.Goals as goal

pub returns-then-is_found : goal.returns-then-is_found
returns-then-is_found c = t8_found c.args.syntax.now c.args.found.now c.is_found.result c.requires.found c.is_found.ensures c.if-is_found.true

pub returns : goal.returns
returns c =
    t8_else c.args.syntax.now c.args.found.now c.is_found.result c.args.top.now c.args.places.now c.in_ok-cycle.cycle c.requires.top c.requires.places c.requires.found c.is_found.ensures c.if-is_found.false c.in_ok-cycle.ensures
