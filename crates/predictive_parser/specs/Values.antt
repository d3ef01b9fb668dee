-- Stacks of what is built: values of one sort that aren't part of another yet, as a list with the newest first.
use Rattle.std.specs.Prelude.{List, [], ◌∷◌, ◌++◌, Option, Some, None}

-- the newest of a stack, or another where there is none
abbrev pub newest : {A : Type 0} → A → List A → A
newest other [] = other
newest other (x ∷ xs) = x

-- the others
abbrev pub older : {A : Type 0} → List A → List A
older [] = []
older (x ∷ xs) = xs

-- a stack of lists, where more is put behind the newest list
abbrev pub extended : {A : Type 0} → List A → List (List A) → List (List A)
extended more [] = more ∷ []
extended more (list ∷ lists) = (list ++ more) ∷ lists

-- a stack of lists that may be missing, where one more is put behind the newest list
abbrev pub extended_option : {A : Type 0} → A → List (Option (List A)) → List (Option (List A))
extended_option x [] = Some (x ∷ []) ∷ []
extended_option x (None ∷ lists) = Some (x ∷ []) ∷ lists
extended_option x (Some list ∷ lists) = Some (list ++ x ∷ []) ∷ lists
