use Rattle.std.proofs.Common.{ap, subst, ◌∙◌}
use Rattle.std.specs.Ordering.{nat_cmp}
use Rattle.match_core.specs.declared.levels.Level.{Level}
use Rattle.match_core.specs.internal.Maps.{IsPut}
use Rattle.match_core.proofs.InLevels.{set_levels, put_at_place}
use Rattle.match_core.proofs.levels.put.Goals as goal

pub returns-clause-levels : goal.returns-clause-levels
returns-clause-levels c =
    set_levels nat_cmp c.level_of.new.levels.items c.in_ok-place.place c.index_mut.result.now (record { bits = c.index_mut.result.now.bits; map = c.put.new.self }) c.in_ok-place.ensures.levels c.in_ok-place.ensures.within
    (ap (λ (l : Level). l.bits) c.index_mut.ensures.value)

pub returns-clause-put : goal.returns-clause-put
returns-clause-put c =
    put_at_place nat_cmp c.args.levels.now.items c.level_of.new.levels.items c.in_ok-place.place c.index_mut.result.now (record { bits = c.index_mut.result.now.bits; map = c.put.new.self }) c.args.bits c.args.key c.args.number
    c.in_ok-place.ensures.same c.in_ok-place.ensures.levels c.in_ok-place.ensures.within (c.in_ok-place.ensures.bits c.index_mut.result.now)
    (ap (λ (l : Level). l.bits) c.index_mut.ensures.value ∙ c.in_ok-place.ensures.bits c.index_mut.result.now)
    (subst (λ (l : Level). IsPut nat_cmp l.map c.put.new.self c.args.key c.args.number) c.index_mut.ensures.value c.in_ok-put.ensures)
