-- Expressions that are still to be walked, each with how deep it may be.
use Rattle.std.specs.Prelude.{ℕ, ◌-◌, Bool, nat_lt, List, [], ◌∷◌, length}
use Rattle.p414_syntax.specs.Tree.{Expr, valid, truth, field, number, parenthesized, unary, binary}
use Rattle.p414_syntax.specs.Subtrees.{subexpressions}
use Rattle.p414_syntax.specs.Nesting.{depth}
use Rattle.p414_flat_check.specs.declared.depths.Room.{Room}

abbrev pub room : ℕ → Expr → Room
room levels e = record { expression = e; levels = levels }

abbrev pub two_rooms : ℕ → Expr → Expr → List Room
two_rooms levels a b = room levels b ∷ room levels a ∷ []

-- the operands of an expression that may be so deep, the last of them in front
abbrev pub rooms_within : ℕ → Expr → List Room
rooms_within levels (valid i) = []
rooms_within levels (truth b) = []
rooms_within levels (field r) = []
rooms_within levels (number n) = []
rooms_within levels (parenthesized a) = room levels a ∷ []
rooms_within levels (unary o a) = room (levels - 1) a ∷ []
rooms_within levels (binary o a b) = two_rooms (levels - 1) a b

-- an expression is deeper than it may be
abbrev pub is_beyond : Room → Bool
is_beyond r = nat_lt r.levels (depth r.expression)

-- how many expressions are still to be walked
abbrev pub work_of : Room → ℕ
work_of r = length (subexpressions r.expression)
