use Rattle.std.proofs.Common.{ℕ, arith}
use Rattle.std.specs.Ordering.{nat_cmp}
use Rattle.match_core.specs.internal.Codes.{part_by}
use Rattle.match_core.proofs.InLevels.{level_found, none_longer}
use Rattle.match_core.proofs.plain.find_number.Goals as goal

pub returns-in-Some : goal.returns-in-Some
returns-in-Some c =
    let spec = c.args.spec in
    let found = level_found nat_cmp c.args.levels.now (λ (b : ℕ). part_by spec.kind spec.width b c.args.value) c.loop-level.level-index c.level-item.result c.in-Some.found c.requires (omega arith) c.loop-level.invariant c.level-item.is c.in-Some.ensures in
    record { bits = found.bits; is = found.is; longest = found.longest }

pub returns : goal.returns
returns c =
    let spec = c.args.spec in
    λ bits. none_longer nat_cmp c.args.levels.now (λ (b : ℕ). part_by spec.kind spec.width b c.args.value) c.loop-level.level-index bits c.requires c.loop-level.invariant (λ d lt. absurd (omega arith))
