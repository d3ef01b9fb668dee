use Rattle.std.proofs.Common.{◌≡◌, ◌∷◌, [], sym, ◌∙◌, subst, rules}
use Rattle.pcap_io.specs.Captures.{behind, IsRecord}
use Rattle.pcap_io.specs.Reader.{rest_of}
use Rattle.run_stream.specs.internal.Streams.{view_of, after_all}
use Rattle.run_stream.proofs.Streams.{turn_ran, turn_rest, turn_known, none_left, left_known, left_drained}
use Rattle.run_stream.proofs.stream.Stream.run_all.Goals as goal

pub records-preserved : goal.records-preserved
records-preserved g c =
    let so = c.records.invariant in
    let old = c.records.reader in
    let new = c.next.new.self in
    let one = c.in-Some.one in
    let r = g.R.Runner in
    let before = view_of c.records.self (r.store c.records.runner) (r.done c.records.runner) in
    let after = view_of c.run.new.self (r.store c.run.new.runner) (r.done c.run.new.runner) in
    let taken : rest_of old ≡ behind (one ∷ []) (rest_of new) = search rules in
    let fits : IsRecord one = search rules in
    record {
      setting = c.in_ok-spare.ensures.setting ∙ so.setting;
      ran =
          subst (λ (s : r.Setting). after_all (r.outcome s) (rest_of new).records after ≡ after_all (r.outcome s) (rest_of old).records before) so.setting
          (turn_ran (r.outcome (r.setting c.records.runner)) old new one before after taken c.in_ok-spare.ensures.ran)
          ∙ so.ran;
      rest = turn_rest old new one taken ∙ so.rest;
      known = λ later. so.known (turn_known old new one taken fits later);
      ports = c.run.ensures.ports;
    }

pub returns-clause-ran : goal.returns-clause-ran
returns-clause-ran g c =
    sym (none_left (g.R.Runner.outcome (g.R.Runner.setting c.args.runner.now)) c.records.reader c.next.new.self _ (search rules) (search rules)) ∙ c.records.invariant.ran

pub returns-clause-taken : goal.returns-clause-taken
returns-clause-taken g c = left_drained c.args.reader.now c.records.reader c.next.new.self c.records.invariant.rest (search rules) (search rules)

pub returns-clause-known : goal.returns-clause-known
returns-clause-known g c = c.records.invariant.known (left_known c.records.reader c.next.new.self (search rules) (search rules))
