-- An expression is gone through from the outside in: which of its parts are looked at for applications of tables. What a call is given,
-- the parts of a `lookahead` and the items of a list aren't.
use Rattle.std.specs.Prelude.{Bool, false, ◌&&◌, ◌||◌, List, [], ◌∷◌, ◌++◌}
use Rattle.p416_syntax.specs.Tree.{Exp16, member, index, slice, call, lookahead, cast, unary, binary, choice, parenthesized, argument, listed}
use Rattle.p416_syntax.specs.Scopes.{Scope}
use Rattle.v1_ready_statements.specs.Tested.{is_application}

abbrev pub front_looked : List Bool → Bool
front_looked [] = false
front_looked (x ∷ xs) = x

abbrev pub rest_looked : List Bool → List Bool
rest_looked [] = []
rest_looked (x ∷ xs) = xs

-- the parts of an expression, where it is looked at or not
abbrev pub parts_looked : Bool → Exp16 → List Bool
parts_looked here (member e word) = here ∷ []
parts_looked here (index e at) = here ∷ []
parts_looked here (slice e high low) = here ∷ []
parts_looked here (call e given) = here ∷ false ∷ []
parts_looked here (lookahead e to given) = false ∷ false ∷ []
parts_looked here (cast to e) = here ∷ []
parts_looked here (unary operator e) = here ∷ []
parts_looked here (binary operator a b) = here ∷ here ∷ []
parts_looked here (choice c a b) = here ∷ here ∷ here ∷ []
parts_looked here (parenthesized e) = false ∷ []
parts_looked here (argument before last) = false ∷ false ∷ []
parts_looked here (listed es) = false ∷ []
parts_looked here _ = []

abbrev pub any_looked : Scope → List Bool → List Exp16 → Bool
any_looked s looked [] = false
any_looked s looked (e ∷ es) =
    (front_looked looked && is_application s e)
    || any_looked s (parts_looked (front_looked looked) e ++ rest_looked looked) es
