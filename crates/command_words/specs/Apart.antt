-- Names of files that are apart (this project's own).
use Rattle.std.specs.Prelude.{ℕ, Bool, true, not, ◌&&◌, List, [], ◌∷◌}
use Rattle.std.specs.List.{list_any}
use Rattle.std.specs.Str.{bytes_eq}
use Rattle.p4x_io.specs.Desk.{NoneIs}

-- the name is one of the names
abbrev pub is_among : List ℕ → List (List ℕ) → Bool
is_among name names = list_any (λ other. bytes_eq name other) names

-- no output is an input or another output
abbrev pub are_apart : List (List ℕ) → List (List ℕ) → Bool
are_apart inputs [] = true
are_apart inputs (out ∷ outs) = not (is_among out inputs) && (not (is_among out outs) && are_apart inputs outs)

-- the same as a fact
abbrev pub AreApart : List (List ℕ) → List (List ℕ) → Type 0
AreApart inputs [] = Unit {0}
AreApart inputs (out ∷ outs) = NoneIs out inputs × NoneIs out outs × AreApart inputs outs
