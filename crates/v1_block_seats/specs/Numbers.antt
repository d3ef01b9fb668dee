-- The numbers of the actions of a control: each has that of its first parameter (this project's own).
use Rattle.std.specs.Prelude.{ℕ, ◌+◌, List, [], ◌∷◌, ◌++◌, length}
use Rattle.p416_syntax.specs.declared.controls.Local.{Local}
use Rattle.p416_syntax.specs.declared.controls.Local.TheVariants as local
use Rattle.p416_syntax.specs.Scopes.{Scope}
use Rattle.v1_core.specs.Slots.{local_kinds}

abbrev pub own_action : ℕ → Local → List ℕ
own_action n (local.Action a) = n ∷ []
own_action n _ = []

-- in the order of the text, where the first variable or parameter has this number
abbrev pub actions_from : Scope → ℕ → List Local → List ℕ
actions_from s n [] = []
actions_from s n (x ∷ locals) = own_action n x ++ actions_from s (n + length (local_kinds s x)) locals
