-- What stands directly within a statement or an expression, the first of it in front.
use Rattle.std.specs.Prelude.{List, [], ◌∷◌}
use Rattle.p416_syntax.specs.Tree.{Exp16, literal, truth, error, name, member, index, slice, call, lookahead, cast, unary, binary, choice, parenthesized, no_arguments, argument, listed, Stmt16, no_statements, then, block, empty, var, var_is, assign, expression, if_then, if_else, switch, no_cases, case_of}

-- what stands directly within a statement
abbrev pub within : Stmt16 → List Stmt16
within no_statements = []
within (then a b) = a ∷ b ∷ []
within (block a) = a ∷ []
within empty = []
within (var of called) = []
within (var_is of called a) = []
within (assign a b) = []
within (expression a) = []
within (if_then a b) = b ∷ []
within (if_else a b c) = b ∷ c ∷ []
within (switch table a) = a ∷ []
within no_cases = []
within (case_of a label b) = a ∷ b ∷ []

-- what stands directly within an expression or an argument list
abbrev pub expressions_within : Exp16 → List Exp16
expressions_within (literal number) = []
expressions_within (truth value) = []
expressions_within error = []
expressions_within (name text) = []
expressions_within (member a word) = a ∷ []
expressions_within (index a at) = a ∷ []
expressions_within (slice a high low) = a ∷ []
expressions_within (call a b) = a ∷ b ∷ []
expressions_within (lookahead a to b) = a ∷ b ∷ []
expressions_within (cast to a) = a ∷ []
expressions_within (unary operator a) = a ∷ []
expressions_within (binary operator a b) = a ∷ b ∷ []
expressions_within (choice a b c) = a ∷ b ∷ c ∷ []
expressions_within (parenthesized a) = a ∷ []
expressions_within no_arguments = []
expressions_within (argument a b) = a ∷ b ∷ []
expressions_within (listed a) = a ∷ []
