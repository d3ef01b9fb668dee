use Rattle.std.proofs.Common.{◌≡◌, ◌++◌, ◌∷◌, [], rules, refl}
use Rattle.pcap_io.proofs.Whole.{record_is, one_more, all_taken, still_in_front, still_fit}
use Rattle.pcap_io.proofs.records.take_records.Goals as goal

pub records-preserved : goal.records-preserved
records-preserved c =
    let pushed : c.push_back.new.self.items ≡ c.records.records.items ++ c.in_ok-make_record.field-0 ∷ [] = search rules in
    let one_is = record_is c.args.head.order c.records.rest.now _ _ _ _ c.in_ok-make_record.ensures.value c.in-Some.ensures.captured c.word-seconds.ensures c.word-fraction.ensures in
    record {
      order = refl;
      so_far = one_more _ _ _ _ _ _ _ _ _ _ c.records.invariant.so_far c.in-Some.ensures.whole one_is c.records.invariant.rest c.in-Some.ensures.size c.split_at.ensures.back pushed;
      rest = c.split_at.ensures.back;
      within = search rules;
      front = still_in_front _ _ _ _ c.records.invariant.front pushed;
      fits = λ fit. still_fit _ _ _ (c.records.invariant.fits fit) c.in_ok-make_record.ensures.fits pushed;
    }

pub returns-clause-read : goal.returns-clause-read
returns-clause-read c = all_taken _ _ _ _ _ _ c.records.invariant.so_far c.in_default.ensures.none c.records.invariant.rest
