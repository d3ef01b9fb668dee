-- How many edges lead to a node.
use Rattle.std.specs.Prelude.{ℕ, ◌+◌, ◌==◌, Bool, true, false, List, [], ◌∷◌, if◌then◌else◌}

-- 1 for the same number, 0 for another
abbrev pub same_count : ℕ → ℕ → ℕ
same_count x y = if x == y then 1 else 0

-- how often x stands in the list
abbrev pub occurs : ℕ → List ℕ → ℕ
occurs x [] = 0
occurs x (y ∷ ys) = same_count x y + occurs x ys

-- how many edges lead to b from nodes that weren't taken
abbrev pub owing : List (List ℕ) → List Bool → ℕ → ℕ
owing [] taken b = 0
owing (targets ∷ g) [] b = occurs b targets + owing g [] b
owing (targets ∷ g) (true ∷ taken) b = owing g taken b
owing (targets ∷ g) (false ∷ taken) b = occurs b targets + owing g taken b
