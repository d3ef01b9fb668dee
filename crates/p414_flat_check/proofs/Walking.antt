-- Whether an expression is too deep, asked of the expressions that are still to be walked.
use Rattle.std.proofs.Common.{◌≡◌, ℕ, ◌<◌, Bool, true, false, ◌||◌, ltb, List, [], ◌∷◌, ◌++◌, refl, sym, ap, ◌∙◌, arith}
use Rattle.std.specs.List.{list_any}
use Rattle.std.proofs.lemmas.List.Folds.{list_any-append}
use Rattle.p414_syntax.specs.Tree.{Expr, valid, truth, field, number, parenthesized, unary, binary}
use Rattle.p414_syntax.specs.Nesting.{depth}
use Rattle.p414_flat_check.specs.declared.depths.Room.{Room}
use Rattle.p414_flat_check.specs.internal.Rooms.{is_beyond}

-- a tree is 1 deep at least
deep : (e : Expr) → 0 < depth e
deep (valid i) = omega arith
deep (truth b) = omega arith
deep (field r) = omega arith
deep (number n) = omega arith
deep (parenthesized a) = deep a
deep (unary o a) = omega arith
deep (binary o a b) = omega arith

-- what is found where the walk has come to an expression that may not be there

beyond : (levels n : ℕ) → levels ≡ 0 → 0 < n → ltb levels n ≡ true
beyond levels n none h = grind arith

or_last : (a b : Bool) → b ≡ true → true ≡ (a || (b || false))
or_last true b e = refl
or_last false b e = rw e refl

pub found_now : (before left : List Room) (next : Room) → before ≡ left ++ next ∷ [] → next.levels ≡ 0 → (is_deep : Bool) → list_any is_beyond before ≡ is_deep → true ≡ is_deep
found_now before left next is none is_deep same =
    or_last (list_any is_beyond left) (is_beyond next) (beyond next.levels (depth next.expression) none (deep next.expression))
    ∙ (sym (ap (list_any is_beyond) is ∙ list_any-append is_beyond left (next ∷ [])) ∙ same)
