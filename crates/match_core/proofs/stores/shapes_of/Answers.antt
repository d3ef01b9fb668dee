use Rattle.std.proofs.Common.{◌≡◌, ◌<◌, [], None, length, arith, ap}
use Rattle.std.proofs.lemmas.List.{take_all}
use Rattle.match_core.proofs.Building.{can_build, as_many_fills}
use Rattle.match_core.proofs.Sizing.{sized_more, all_sized}
use Rattle.match_core.proofs.stores.shapes_of.Goals as goal

pub overflow_cast-entries : goal.overflow_cast-entries
overflow_cast-entries c =
    let within : c.loop-i.i < length c.args.signature.now.tables = rw c.as_slice-tables.ensures at (let w : c.loop-i.i < length c.as_slice-tables.result.now = omega arith in w) in
    let few = (can_build c.args.signature.now c.args.entries.now c.loop-i.i (record { name = []; keys = []; actions = []; size = 0; direct = None }) c.index-fills-i.result c.requires.signature c.requires.fits within).few in
    let same = rw c.as_slice-fills.ensures at c.len-entries.ensures in
    omega (arith, few, same)

pub loop-i-preserved : goal.loop-i-preserved
loop-i-preserved c =
    rw (c.resize.ensures, c.len-entries.ensures)
    (sized_more c.args.signature.now.objects c.as_slice-tables.result.now c.as_slice-fills.result.now c.loop-i.i _ _ c.loop-i.shapes.items
    (rw c.as_slice-tables.ensures c.requires.signature.counters) (omega arith) (omega arith) c.loop-i.invariant)

pub returns : goal.returns
returns c =
    let many = as_many_fills c.args.signature.now c.args.entries.now c.requires.fits in
    let ends : c.loop-i.i ≡ length c.args.signature.now.tables = omega (arith, many, ap length c.as_slice-tables.ensures, ap length c.as_slice-fills.ensures) in
    all_sized c.args.signature.now c.args.entries.now c.loop-i.shapes.items
    (rw (c.as_slice-tables.ensures, c.as_slice-fills.ensures, take_all c.loop-i.i c.args.signature.now.tables (omega arith), take_all c.loop-i.i c.args.entries.now.tables (omega arith)) at c.loop-i.invariant)
