use Rattle.std.proofs.Common.{rules, ◌∙◌, ap, sym}
use Rattle.std.specs.Ordering.{nat_cmp}
use Rattle.std.specs.Cmp.Lexicographic.{slice_cmp}
use Rattle.std.proofs.lemmas.Fn.{always_returns_same}
use Rattle.match_core.specs.declared.groups.Group.{Group}
use Rattle.match_core.specs.internal.Groups.{group_of}
use Rattle.match_core.proofs.GroupSearch.{found_place, no_place}
use Rattle.match_core.proofs.groups.levels_of.Goals as goal

pub returns-in-Ok : goal.returns-in-Ok
returns-in-Ok c =
    let asked = group_of c.args.specs.now c.args.key.now in
    let equal = c.in-Ok.ensures.position (λ (group : Group). slice_cmp nat_cmp group.values asked) (always_returns_same _ _ _ (λ a r g called. (search rules, search rules))) in
    c.as_slice.ensures.value ∙ ap (λ (group : Group). group.levels.items) (sym c.index-groups-place.is) ∙ found_place c.args.groups.now c.requires.order asked c.in-Ok.place c.index-groups-place.result c.in-Ok.ensures.bound c.index-groups-place.is equal

pub returns-in-Err : goal.returns-in-Err
returns-in-Err c =
    let asked = group_of c.args.specs.now c.args.key.now in
    let parts = c.in-Err.ensures.position (λ (group : Group). slice_cmp nat_cmp group.values asked) (always_returns_same _ _ _ (λ a r g called. (search rules, search rules))) in
    no_place c.args.groups.now c.requires.order asked c.in-Err.field-0 c.in-Err.ensures.bound parts
