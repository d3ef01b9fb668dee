use Rattle.std.proofs.Common.{refl}
use Rattle.std.specs.Ordering.{nat_cmp}
use Rattle.match_core.specs.declared.levels.Level.{Level}
use Rattle.match_core.proofs.InLevels.{level_made}
use Rattle.match_core.proofs.levels.level_of.Goals as goal

pub returns : goal.returns
returns c =
    let level : Level = record { bits = c.args.bits; map = c.in_ok-map.map } in
    let made = level_made nat_cmp c.args.levels.now.items c.insert.new.self.items c.place_of-place.result level c.requires
    (rw c.deref.ensures.value at c.place_of-place.ensures.within) (rw c.deref.ensures.value at c.place_of-place.ensures.more) (rw c.deref.ensures.value at c.place_of-place.ensures.rest)
    (rw c.deref-2.ensures.value at (c.if-stands_at.ensures.other refl)) c.in_ok-map.ensures c.in_ok-insert.ensures.items in
    record { levels = made.are; within = made.within; bits = made.bits_are; same = made.same }
