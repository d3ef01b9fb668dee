use Rattle.std.proofs.Common.{sym, ap, ◌∙◌}
use Rattle.p416_calls.specs.Seen.{seen_place, unasked}
use Rattle.p416_calls.proofs.Places.{get_or_map}
use Rattle.p416_calls.proofs.wanted.listed_place.Goals as goal

-- src/wanted.rt:123:1
pub returns : goal.returns
returns c = ap seen_place c.place_at.ensures ∙ sym (get_or_map seen_place c.args.places.now c.args.number unasked)
