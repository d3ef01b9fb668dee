use Rattle.std.proofs.Common.{◌≤◌, ℕ, List, length, None}
use Rattle.p4x_io.specs.Desk.{Reads}

-- where no file is told, a count within the slice is all that there is to say
pub reads_untold : (place n : ℕ) (slice : List ℕ) → n ≤ length slice → Reads None place n slice
reads_untold place n slice fits = record {
  fits = fits;
  there = λ e. cc;
  octets = λ text e. absurd (cc);
  inside = λ text e some. absurd (cc);
  end = λ text e none. absurd (cc);
}
