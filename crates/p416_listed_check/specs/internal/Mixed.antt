-- Actions of which the first with their control-plane name is another.
use Rattle.std.specs.Prelude.{ℕ, Bool, false, not, List, map, slice_get, Option, Some, None}
use Rattle.std.specs.Option.{option_map_or}
use Rattle.name_numbers.specs.Names.{find_name}
use Rattle.p416_syntax.specs.declared.controls.ActionName.{ActionName}
use Rattle.p416_syntax.specs.Scopes.{Scope}
use Rattle.p416_syntax.specs.Tables.{is_same_action, action_plane}

abbrev pub is_other : ActionName → ActionName → Bool
is_other a b = not (is_same_action b a)

-- another action stands at a place
abbrev pub is_other_at : List ActionName → ℕ → ActionName → Bool
is_other_at actions place a = option_map_or (is_other a) (slice_get actions place) false

abbrev pub is_other_where : List ActionName → Option ℕ → ActionName → Bool
is_other_where actions (Some place) a = is_other_at actions place a
is_other_where actions None a = false

abbrev pub is_mixed : Scope → List ActionName → ActionName → Bool
is_mixed s actions a = is_other_where actions (find_name (map (action_plane s) actions) (action_plane s a)) a
