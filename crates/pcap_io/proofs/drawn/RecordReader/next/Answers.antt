use Rattle.std.proofs.Common.{◌≡◌, true, [], drop, refl, arith, rules, length-drop}
use Rattle.pcap_io.specs.Captures.{is_whole, captured_length}
use Rattle.pcap_io.proofs.Whole.{whole_within}
use Rattle.pcap_io.proofs.Drawing.{still_opened, unopened, one_drawn, none_drawn}
use Rattle.pcap_io.proofs.drawn.RecordReader.next.Goals as goal

pub returns-in_default-clause-reads : goal.returns-in_default-clause-reads
returns-in_default-clause-reads c =
    let p = c.self.inside in
    rw (← c.self.view_is) (unopened p.head p.fault _ (search rules) (search rules) c.self.invariant.1)

pub invariant_of-self : goal.invariant_of-self
invariant_of-self c =
    let p = c.self.inside in
    let left = drop p.place p.octets.items in
    let whole : is_whole c.in-Some.head.order left ≡ true = search rules in
    let size : c.len.result ≡ captured_length c.in-Some.head.order left = search rules in
    (omega (arith, whole_within _ _ whole, size, length-drop p.place p.octets.items, c.self.invariant.0), still_opened p.head c.in-Some.head p.fault _ (search rules))

pub returns-in-Some-found-clause-reads : goal.returns-in-Some-found-clause-reads
returns-in-Some-found-clause-reads c =
    let p = c.self.inside in
    rw (← c.self.view_is) (one_drawn p.head p.fault c.in-Some.head p.octets.items _ c.in-Some-found.one p.place c.len.result (search rules) (search rules) (search rules) (search rules) (search rules) refl)

pub returns-in-None-clause-reads : goal.returns-in-None-clause-reads
returns-in-None-clause-reads c =
    let p = c.self.inside in
    rw (← c.self.view_is) (none_drawn p.head p.fault c.in-Some.head p.octets.items p.place c.progress_at-progress.result (search rules) (search rules) (search rules) (rw c.deref-in-None.ensures.value at (c.progress_at-progress.ensures.read [])))
