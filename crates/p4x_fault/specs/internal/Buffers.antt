-- A line that grows in a buffer (this project's own).
use Rattle.std.specs.Prelude.{◌≡◌, ℕ, length, drop, List, ◌++◌}

-- where a buffer began with a line of length `at` and is otherwise as it was, it begins afterwards
-- with the line and the octets behind it, and is otherwise as it was
abbrev pub Adds : List ℕ → ℕ → List ℕ → List ℕ → Type 0
Adds octets at old new =
    (line first : List ℕ) → length line ≡ at → old ≡ line ++ drop (length line) first →
    new ≡ (line ++ octets) ++ drop (length (line ++ octets)) first
