use Rattle.std.proofs.Common.{Bool, List}
use Rattle.least_order.specs.internal.Listing.{work_of}
use Rattle.least_order.proofs.Turns.{IsUnderway}
use Rattle.least_order.proofs.listing.list_marks.Given as goal

abbrev pub invariant-loop-listing : goal.invariant-loop-listing
invariant-loop-listing l = (taken : List Bool) × IsUnderway l.edges l.marks taken l.listing

abbrev pub decreases-loop-listing : goal.decreases-loop-listing
decreases-loop-listing l = work_of l.listing
