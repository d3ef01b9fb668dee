-- What the arguments of primitives stand for: the last of the cases of `places_of`, in two runs.
use Rattle.std.specs.Prelude.{if◌then◌else◌, List, [], ◌∷◌, Option, Some, None, codes}
use Rattle.std.specs.Str.{bytes_eq}
use Rattle.p414_syntax.specs.Names.{Name, has_name}
use Rattle.p414_syntax.specs.Primitives.{stack_moves, without_arguments, one_list, clones, hash}
use Rattle.p414_syntax.specs.declared.place.ArgumentPlace.{ArgumentPlace}
use Rattle.p414_syntax.specs.declared.place.ArgumentPlace.TheVariants.{Target, Source, Unsigned, Stack, Elements, Counter, Register, Meter, Calculation, List as AList}

abbrev pub last_places : Name → Option (List ArgumentPlace)
last_places name =
    if bytes_eq name hash then Some (Target ∷ Unsigned ∷ Calculation ∷ Unsigned ∷ [])
    else if has_name without_arguments name then Some []
    else if has_name one_list name then Some (AList ∷ [])
    else if has_name clones name then Some (Unsigned ∷ AList ∷ [])
    else None

abbrev pub object_places : Name → Option (List ArgumentPlace)
object_places name =
    if has_name stack_moves name then Some (Stack ∷ Elements ∷ [])
    else if bytes_eq name (codes "count") then Some (Counter ∷ Unsigned ∷ [])
    else if bytes_eq name (codes "register_read") then Some (Target ∷ Register ∷ Unsigned ∷ [])
    else if bytes_eq name (codes "register_write") then Some (Register ∷ Unsigned ∷ Source ∷ [])
    else if bytes_eq name (codes "execute_meter") then Some (Meter ∷ Unsigned ∷ Target ∷ [])
    else last_places name
