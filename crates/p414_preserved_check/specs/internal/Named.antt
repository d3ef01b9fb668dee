-- The field lists and the calculations that calls name.
use Rattle.std.specs.Prelude.{ℕ, Bool, not, ◌&&◌, if◌then◌else◌, List, [], ◌∷◌, ◌++◌, flat_map}
use Rattle.std.specs.List.{list_any}
use Rattle.std.specs.Option.{option_map_or}
use Rattle.p414_syntax.specs.declared.syntax.Decl.{Decl}
use Rattle.p414_syntax.specs.declared.place.ArgumentPlace.{ArgumentPlace}
use Rattle.p414_syntax.specs.declared.place.ArgumentPlace.TheVariants as place
use Rattle.p414_syntax.specs.Names.{Name, has_name}
use Rattle.p414_syntax.specs.Primitives.{primitive_places}
use Rattle.p414_syntax.specs.Arguments.{Argument, name_argument, Invocation, PlacedArgument, placed}
use Rattle.p414_syntax.specs.Lists.{calculation_of, input_names}
use Rattle.p414_syntax.specs.Preserved.{list_at}
use Rattle.p414_preserved_check.specs.declared.named.Wanted.{Wanted}
use Rattle.p414_preserved_check.specs.declared.named.Wanted.TheVariants.{List as AList, Calculation}
use Rattle.p414_preserved_check.specs.internal.Marks.{is_missing, is_marked_name}

-- the name of the calculation that an argument names, where one is wanted
abbrev pub calculation_at : ArgumentPlace → Argument → List Name
calculation_at place.Calculation (name_argument i) = i.name ∷ []
calculation_at _ _ = []

-- the name of what is wanted, if an argument names it there
abbrev pub named_at : Wanted → ArgumentPlace → Argument → List Name
named_at AList p a = list_at p a
named_at Calculation p a = calculation_at p a

abbrev pub named_as : Wanted → PlacedArgument → List Name
named_as wanted a = named_at wanted a.wanted a.argument

-- such names in the arguments of a call, in one call, and in all calls
abbrev pub named_among : Wanted → List ArgumentPlace → List Argument → List Name
named_among wanted places arguments = flat_map (named_as wanted) (placed places arguments)

abbrev pub named_in : Wanted → Invocation → List Name
named_in wanted i = named_among wanted (primitive_places i.callee) i.arguments

abbrev pub named_by : Wanted → List Invocation → List Name
named_by wanted calls = flat_map (named_in wanted) calls

-- the lists of the calculation with a name
abbrev pub inputs_of : List Decl → Name → List Name
inputs_of ds name = option_map_or input_names (calculation_of ds name) []

abbrev pub some_input_missing : List Decl → Name → Bool
some_input_missing ds name = list_any (is_missing ds) (inputs_of ds name)

abbrev pub some_input_marked : List Decl → List ℕ → Name → Bool
some_input_marked ds marks name = list_any (is_marked_name ds marks) (inputs_of ds name)

-- the same as of the lists of all these calculations together
abbrev pub inputs_marked : List Decl → List ℕ → List Name → Bool
inputs_marked ds marks names = not (list_any (some_input_missing ds) names) && list_any (some_input_marked ds marks) names

-- a name is put behind these, unless it is there
abbrev pub added : List Name → Name → List Name
added known name = if has_name known name then known else known ++ name ∷ []
