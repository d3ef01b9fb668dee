use Rattle.std.proofs.Common.{◌≡◌, ◌++◌, option_to_list, arith, rules}
use Rattle.pcap_io.proofs.Numbered.{one_more_line, bad_line, all_lines, ports_fit}
use Rattle.pcap_io.proofs.ports.read_ports.Goals as goal

pub returns-in-Err-clause-is : goal.returns-in-Err-clause-is
returns-in-Err-clause-is c = bad_line _ _ _ _ _ _ c.in-Err.rule _ c.lines.invariant.so_far c.in-Some.ensures.next c.in-Err.ensures.is c.at_line.ensures

pub lines-preserved : goal.lines-preserved
lines-preserved c =
    let added : c.add_port.new.list ≡ c.lines.list ++ option_to_list c.in-Ok.port = search rules in
    record {
      so_far = one_more_line _ _ _ _ _ _ _ c.in-Ok.port c.lines.invariant.so_far c.in-Some.ensures.next c.in-Ok.ensures.is added;
      counted = omega (arith, c.lines.invariant.counted, c.in-Some.ensures.shorter);
      fits = ports_fit _ _ c.in-Ok.port c.lines.invariant.fits c.in-Ok.ensures.fits added;
    }

pub returns-clause-is : goal.returns-clause-is
returns-clause-is c = all_lines _ _ _ _ c.lines.invariant.so_far c.in_default.ensures.none
