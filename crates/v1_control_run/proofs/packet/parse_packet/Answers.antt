use Rattle.std.proofs.Common.{refl}
use Rattle.v1_control_run.proofs.Runs.{begun_works, left_frame, left_rests, packet_runs}
use Rattle.v1_control_run.proofs.packet.parse_packet.Goals as goal

pub parse_ready-requires-clause-works : goal.parse_ready-requires-clause-works
parse_ready-requires-clause-works c =
    begun_works _ _ _ _ _ _ c.requires.program c.requires.frame c.requires.spare c.in_ok-begin.ensures.begins c.in_ok-begin.ensures.waiting refl c.args.octets.now

pub parse_ready-requires-clause-fits : goal.parse_ready-requires-clause-fits
parse_ready-requires-clause-fits c = c.requires.program.parser.fits c.args.octets.now

pub returns-clause-spare : goal.returns-clause-spare
returns-clause-spare c = left_rests _ _ _ _ _ c.requires.program c.in_ok-error.ensures.works

pub returns-clause-frame : goal.returns-clause-frame
returns-clause-frame c =
    left_frame _ _ _ _ c.args.machine.now (record { parsed = 0; run = c.begin.new.run; room = c.args.machine.now.room }) c.requires.program c.requires.frame c.requires.spare c.in_ok-begin.ensures.begins c.in_ok-begin.ensures.waiting refl c.args.octets.now
    c.parse_ready.new.frame c.parse_ready.new.store c.parse_ready.new.machine c.in_ok-error.ensures.moment

pub returns-clause-within : goal.returns-clause-within
returns-clause-within c = c.in_ok-error.ensures.works.within

pub returns-clause-parses : goal.returns-clause-parses
returns-clause-parses c =
    packet_runs _ _ _ _ c.args.machine.now (record { parsed = 0; run = c.begin.new.run; room = c.args.machine.now.room }) c.requires.program c.requires.frame c.requires.spare c.in_ok-begin.ensures.begins c.in_ok-begin.ensures.waiting refl c.args.octets.now
    c.parse_ready.new.frame c.parse_ready.new.store c.parse_ready.new.machine c.in_ok-error.error c.in_ok-error.ensures.error c.in_ok-error.ensures.moment c.in_ok-end_silently.ensures
