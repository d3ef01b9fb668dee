use Rattle.std.proofs.Common.{◌≡◌, ℕ, ◌≤◌, ◌+◌, ◌++◌, List, take}
use Rattle.p4x_fault.specs.declared.Place.{Place}
use Rattle.token_division.specs.Division.{place_after}
use Rattle.token_division.proofs.division.place_behind.Given as goal

abbrev place : ℕ → ℕ → Place
place line column = record { line = line; column = column }

abbrev pub invariant-loop-octet : goal.invariant-loop-octet
invariant-loop-octet l = record {
  line : l.line ≤ l.fn.place.line + l.octet-index;
  column : l.column ≤ l.fn.place.column + l.octet-index;
  is : (before : List ℕ) → l.fn.place ≡ place_after before → place l.line l.column ≡ place_after (before ++ take l.octet-index l.piece);
}
