-- Counters with the actions that their tables list.
use Rattle.std.specs.Prelude.{Bool, false, not, List, Option, Some, None}
use Rattle.std.specs.List.{list_any}
use Rattle.p416_syntax.specs.declared.controls.ActionName.{ActionName}
use Rattle.p416_syntax.specs.declared.controls.Table16.{Table16}
use Rattle.p416_syntax.specs.Properties.{actions_of, counters_of}
use Rattle.p416_syntax.specs.Names.{Name}
use Rattle.p416_expression_uses.specs.Found.{CountedIn}
use Rattle.p416_listed_check.specs.Pairs.{Pair, is_same_pair, is_listed_pair}

-- a pair is that of a table's counter and an action that it lists
abbrev pub is_pair_by : Pair → Option Name → List ActionName → Bool
is_pair_by p (Some counter) actions = list_any (is_listed_pair p counter) actions
is_pair_by p None actions = false

abbrev pub is_pair_of : Pair → Table16 → Bool
is_pair_of p t = is_pair_by p (counters_of t.properties) (actions_of t.properties)

-- what is counted isn't among these
abbrev pub is_missing : List Pair → CountedIn → Bool
is_missing pairs c = not (list_any (is_same_pair (c.counter, c.action)) pairs)
