-- Names, each once, in the order in which they first stand.
use Rattle.std.specs.Prelude.{if◌then◌else◌, List, [], ◌∷◌, ◌++◌}
use Rattle.p414_syntax.specs.Names.{Name, has_name}

-- those of these names that don't stand among the names before them, each once
abbrev pub distinct_behind : List Name → List Name → List Name
distinct_behind before [] = []
distinct_behind before (name ∷ names) =
    if has_name before name then distinct_behind before names
    else name ∷ distinct_behind (before ++ name ∷ []) names

abbrev pub distinct : List Name → List Name
distinct names = distinct_behind [] names
