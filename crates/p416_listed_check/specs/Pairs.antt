-- Names with the names of actions.
use Rattle.std.specs.Prelude.{Bool, false, ◌&&◌}
use Rattle.std.specs.Borrow.{Bor}
use Rattle.std.specs.Str.{bytes_eq}
use Rattle.p416_syntax.specs.declared.controls.ActionName.{ActionName}
use Rattle.p416_syntax.specs.declared.controls.ActionName.TheVariants as action_name
use Rattle.p416_syntax.specs.Names.{Name}

-- a name and that of an action
abbrev pub Pair : Type 0
Pair = Name × Name

abbrev pub shown_pair : Bor Name × Bor Name → Pair
shown_pair k = (k.0.now, k.1.now)

abbrev pub is_same_pair : Pair → Pair → Bool
is_same_pair a b = bytes_eq a.0 b.0 && bytes_eq a.1 b.1

-- a pair is that of this name and an action that is listed
abbrev pub is_listed_pair : Pair → Name → ActionName → Bool
is_listed_pair p called (action_name.Declared text) = is_same_pair p (called, text)
is_listed_pair p called action_name.NoAction = false
