-- Expressions and statements that are still to be walked, each with how many levels may still stand there.
use Rattle.std.specs.Prelude.{ℕ, ◌-◌, Bool, true, false, not, ◌&&◌, nat_eq, nat_lt, List, [], ◌∷◌}
use Rattle.p416_syntax.specs.Tree.{Exp16, member, index, slice, call, lookahead, cast, unary, binary, choice, no_arguments, argument, listed, Stmt16, then, block, if_then, if_else, switch, case_of}
use Rattle.p416_syntax.specs.Statements.{nesting}
use Rattle.p416_syntax.specs.Totals.{depth}
use Rattle.p416_depth_check.specs.declared.expressions.ExpLeft.{ExpLeft}
use Rattle.p416_depth_check.specs.declared.blocks.StmtLeft.{StmtLeft}

-- expressions

abbrev pub exp_left : ℕ → Exp16 → ExpLeft
exp_left levels e = record { of = e; levels = levels }

abbrev pub exp_is_deep : ExpLeft → Bool
exp_is_deep x = nat_lt x.levels (depth x.of)

-- an argument list, which is no level
abbrev pub is_list : Exp16 → Bool
is_list no_arguments = true
is_list (argument before last) = true
is_list _ = false

abbrev pub is_exp_beyond : ExpLeft → Bool
is_exp_beyond x = not (is_list x.of) && nat_eq x.levels 0

-- what stands directly within an expression
abbrev pub parts_of : ℕ → Exp16 → List ExpLeft
parts_of n (member e word) = exp_left (n - 1) e ∷ []
parts_of n (index e at) = exp_left (n - 1) e ∷ []
parts_of n (slice e high low) = exp_left (n - 1) e ∷ []
parts_of n (call e given) = exp_left (n - 1) e ∷ exp_left (n - 1) given ∷ []
parts_of n (lookahead e to given) = exp_left (n - 1) e ∷ exp_left (n - 1) given ∷ []
parts_of n (cast to e) = exp_left (n - 1) e ∷ []
parts_of n (unary operator e) = exp_left (n - 1) e ∷ []
parts_of n (binary operator a b) = exp_left (n - 1) a ∷ exp_left (n - 1) b ∷ []
parts_of n (choice c a b) = exp_left (n - 1) c ∷ exp_left (n - 1) a ∷ exp_left (n - 1) b ∷ []
parts_of n (argument before last) = exp_left n before ∷ exp_left n last ∷ []
parts_of n (listed es) = exp_left (n - 1) es ∷ []
parts_of n _ = []

abbrev pub parts_left : ExpLeft → List ExpLeft
parts_left x = parts_of x.levels x.of

-- statements

abbrev pub stmt_left : ℕ → Stmt16 → StmtLeft
stmt_left levels x = record { of = x; levels = levels }

abbrev pub stmt_is_deep : StmtLeft → Bool
stmt_is_deep x = nat_lt x.levels (nesting x.of)

-- a block, or a case with its own
abbrev pub is_nest : Stmt16 → Bool
is_nest (block body) = true
is_nest (case_of before label body) = true
is_nest _ = false

abbrev pub is_stmt_beyond : StmtLeft → Bool
is_stmt_beyond x = is_nest x.of && nat_eq x.levels 0

-- what stands directly within a statement
abbrev pub within_of : ℕ → Stmt16 → List StmtLeft
within_of n ((then) before last) = stmt_left n before ∷ stmt_left n last ∷ []
within_of n (block body) = stmt_left (n - 1) body ∷ []
within_of n (if_then c positive) = stmt_left n positive ∷ []
within_of n (if_else c positive negative) = stmt_left n positive ∷ stmt_left n negative ∷ []
within_of n (switch table cases) = stmt_left n cases ∷ []
within_of n (case_of before label body) = stmt_left n before ∷ stmt_left (n - 1) body ∷ []
within_of n _ = []

abbrev pub within_left : StmtLeft → List StmtLeft
within_left x = within_of x.levels x.of
