use Rattle.std.proofs.Common.{◌∙◌, refl, sym}
use Rattle.p414_ready_parser.specs.declared.rows.ReadyValue.TheVariants.{Current}
use Rattle.p414_ready_parser.specs.declared.rows.SelectPart.{SelectPart}
use Rattle.p414_parse_run.proofs.Joining.{room_first, rest_few, room_here, room_behind, joined, unjoined}
use Rattle.p414_parse_run.proofs.selects.key.Goals as goal

-- what would stand past the last value
abbrev none : SelectPart
none = record { value = Current 0 0; width = 0 }

pub loop-part-init : goal.loop-part-init
loop-part-init c = record { few = c.requires.bits; room = room_first c.args.parts.now c.requires.bits; joined = refl }

pub join-front-requires-clause-fits : goal.join-front-requires-clause-fits
join-front-requires-clause-fits c = room_here c.args.parts.now c.loop-part.part-index c.loop-part.front none c.loop-part-test.true c.loop-part.invariant.room

pub returns-in-None : goal.returns-in-None
returns-in-None c =
    unjoined c.args.element c.args.state.now.state c.args.parts.now c.loop-part.part-index c.loop-part.front none _ c.loop-part-test.true (sym c.in-None.is ∙ c.number.ensures) c.loop-part.invariant.joined

pub loop-part-preserved : goal.loop-part-preserved
loop-part-preserved c = record {
  few = rest_few c.args.parts.now c.loop-part.part-index none c.loop-part-test.true c.loop-part.invariant.few;
  room = rw c.join-front.ensures (room_behind c.args.parts.now c.loop-part.part-index c.loop-part.front c.in-Some.value none c.loop-part-test.true c.loop-part.invariant.room);
  joined = rw c.join-front.ensures (joined c.args.element c.args.state.now.state c.args.parts.now c.loop-part.part-index c.loop-part.front c.in-Some.value none _ c.loop-part-test.true (sym c.in-Some.is ∙ c.number.ensures) c.loop-part.invariant.joined);
}
