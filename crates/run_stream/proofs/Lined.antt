-- What a command delivers, from what the run over the capture does.
use Rattle.std.proofs.Common.{inl, inr, ℕ, List, Option, Ok, Err, refl, ap}
use Rattle.file_work.specs.declared.stop.Stop.{Stop}
use Rattle.file_work.specs.declared.stop.Stop.TheVariants.{Memory}
use Rattle.file_work.specs.Works as works
use Rattle.run_stream.specs.declared.counts.Counts.{Counts}
use Rattle.run_stream.specs.Captured.{Reports, Delivers, IsLoose, DeliversLine, lined}
use Rattle.run_stream.proofs.Pieces.{exact_part}

module _ (word : List ℕ) (sent sent' report report' : Option (Option (List ℕ))) (r : Reports) where
  -- the run stopped
  pub line_stops : (stop : Stop) → Delivers r (Err stop) sent sent' report report' → DeliversLine word r (Err stop) sent sent' report report'
  line_stops stop (inl d) = inl (ap (lined word) d.0, d.1, d.2)
  line_stops stop (inr d) = inr (loose d.0, d.1, d.2)
    where
      loose : IsLoose (Err stop) → works.IsLoose (Err stop)
      loose (inl is) = inl (ap (lined word) is)
      loose (inr is) = inr (ap (lined word) is)

  -- it was done, and its line was made
  pub line_ends : (counts : Counts) → Delivers r (Ok counts) sent sent' report report' → DeliversLine word r (lined word (Ok counts)) sent sent' report report'
  line_ends counts (inl d) = inl (ap (lined word) d.0, d.1, d.2)
  line_ends counts (inr (inl is, a, b)) = absurd (cc is)
  line_ends counts (inr (inr is, a, b)) = absurd (cc is)

  -- it was done, and there was no memory for its line
  pub line_lacks : (counts : Counts) → Delivers r (Ok counts) sent sent' report report' → DeliversLine word r (Err Memory) sent sent' report report'
  line_lacks counts (inl d) = inr (inr refl, exact_part sent sent' r.sent d.1, exact_part report report' r.report d.2)
  line_lacks counts (inr (inl is, a, b)) = absurd (cc is)
  line_lacks counts (inr (inr is, a, b)) = absurd (cc is)
