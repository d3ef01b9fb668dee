use Rattle.std.proofs.Common.{◌≡◌, ◌∙◌, ◌≤◌, ℕ, List, Option, length, take}
use Rattle.p4x_io.specs.Desk.{Reads}

-- what was read into a slice was read into another with the same octets in front
pub reads_front : (file : Option (Option (List ℕ))) (place n : ℕ) (one slice : List ℕ) → Reads file place n one → n ≤ length slice → take n slice ≡ take n one → Reads file place n slice
reads_front file place n one slice r fits same = record {
  fits = fits;
  there = r.there;
  octets = λ text e. same ∙ r.octets text e;
  inside = r.inside;
  end = r.end;
}
