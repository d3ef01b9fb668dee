use Rattle.std.proofs.Common.{◌≡◌, ◌<◌, length, arith, ap}
use Rattle.std.proofs.lemmas.List.{take_all}
use Rattle.match_core.proofs.Building.{can_build, as_many_fills, filled_more}
use Rattle.match_core.proofs.table.build_tables.Goals as goal

pub build-requires-clause-few : goal.build-requires-clause-few
build-requires-clause-few c =
    let within : c.loop-i.i < length c.args.signature.now.tables = omega (arith, ap length c.as_slice-sigs.ensures) in
    let can = can_build c.args.signature.now c.args.entries.now c.loop-i.i c.index-sigs-i.result c.index-fills-i.result c.requires.signature c.requires.fits within in
    rw (c.as_slice.ensures, c.as_slice-fills.ensures) can.few

pub build-requires-clause-fits : goal.build-requires-clause-fits
build-requires-clause-fits c =
    let within : c.loop-i.i < length c.args.signature.now.tables = omega (arith, ap length c.as_slice-sigs.ensures) in
    let can = can_build c.args.signature.now c.args.entries.now c.loop-i.i c.index-sigs-i.result c.index-fills-i.result c.requires.signature c.requires.fits within in
    rw (c.as_slice.ensures, c.as_slice-in-loop-i.ensures, c.as_slice-sigs.ensures, c.as_slice-fills.ensures) can.fits

pub loop-i-preserved : goal.loop-i-preserved
loop-i-preserved c =
    filled_more c.as_slice-sigs.result.now c.as_slice-fills.result.now c.loop-i.i c.index-sigs-i.result c.index-fills-i.result c.loop-i.tables c.push.new.self c.in_ok-table.table c.as_slice-in-loop-i.result.now c.as_slice.result.now
    (omega arith) (omega arith) c.loop-i.invariant c.in_ok-push.ensures.ok c.in_ok-table.ensures c.as_slice-in-loop-i.ensures c.as_slice.ensures

pub returns : goal.returns
returns c =
    let many = as_many_fills c.args.signature.now c.args.entries.now c.requires.fits in
    let ends : c.loop-i.i ≡ length c.args.signature.now.tables = omega (arith, many, ap length c.as_slice-sigs.ensures, ap length c.as_slice-fills.ensures) in
    rw (c.as_slice-sigs.ensures, c.as_slice-fills.ensures, take_all c.loop-i.i c.args.signature.now.tables (omega arith), take_all c.loop-i.i c.args.entries.now.tables (omega arith)) at c.loop-i.invariant
