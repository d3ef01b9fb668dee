-- The actions of a program as a graph, and what is counted of their calls.
use Rattle.std.specs.Prelude.{ℕ, ◌+◌, max, min, Bool, ◌&&◌, true, false, cond, is_some, nat_lt, List, [], ◌∷◌, map, filter_map, sum_by, slice_index, Option, Some, None}
use Rattle.std.specs.List.{list_any}
use Rattle.std.specs.Option.{option_map_or}
use Rattle.p414_syntax.specs.declared.calculations.FieldListCalculation.{FieldListCalculation}
use Rattle.p414_syntax.specs.declared.tables.Table.{Table}
use Rattle.p414_syntax.specs.declared.syntax.Decl.{Decl}
use Rattle.p414_syntax.specs.declared.syntax.Sort.TheVariants as sort
use Rattle.p414_syntax.specs.declared.place.ArgumentPlace.{ArgumentPlace}
use Rattle.p414_syntax.specs.declared.place.ArgumentPlace.TheVariants as place
use Rattle.p414_syntax.specs.Names.{Name, number_of}
use Rattle.p414_syntax.specs.Uses.{first_place, further_places}
use Rattle.p414_syntax.specs.Expansion.{list_number}
use Rattle.p414_syntax.specs.Lists.{calculation_in}
use Rattle.p414_syntax.specs.Arguments.{Argument, name_argument, Invocation, invocations_of, actions, action_number, PlacedArgument, placed_in}
use Rattle.p414_syntax.specs.ActionExpansion.{called_in}
use Rattle.p414_syntax.specs.Actions.{distinct_listed}

-- each action leads to the actions that it calls
abbrev pub action_graph : List Decl → List (List ℕ)
action_graph ds = map (called_in ds) (actions ds)

-- the calculations of a program, in order, and what the lists of each come to, at most 65,537

abbrev pub calculations : List Decl → List FieldListCalculation
calculations ds = filter_map calculation_in ds

-- what the list with this name comes to, by what each list comes to
abbrev pub list_length : List Decl → List ℕ → Name → ℕ
list_length ds lengths name = option_map_or (slice_index lengths) (list_number ds name) 0

abbrev pub input_length : List Decl → List ℕ → FieldListCalculation → ℕ
input_length ds lengths c = min 65537 (sum_by (list_length ds lengths) c.input)

abbrev pub input_lengths : List Decl → List ℕ → List ℕ
input_lengths ds lengths = map (input_length ds lengths) (calculations ds)

-- what a hash is over: of an argument, by what each calculation comes to

abbrev pub length_at : List Decl → List ℕ → ArgumentPlace → Argument → ℕ
length_at ds inputs place.Calculation (name_argument i) =
    option_map_or (slice_index inputs) (number_of sort.Calculation ds i.name) 0
length_at ds inputs _ _ = 0

abbrev pub hashed_length : List Decl → List ℕ → PlacedArgument → ℕ
hashed_length ds inputs a = length_at ds inputs a.wanted a.argument

-- the same of the first of these places, and of all
abbrev pub first_length : List Decl → List ℕ → Option ArgumentPlace → Argument → ℕ
first_length ds inputs (Some p) x = length_at ds inputs p x
first_length ds inputs None x = 0

abbrev pub placed_length : List Decl → List ℕ → List ArgumentPlace → List Argument → ℕ
placed_length ds inputs ps [] = 0
placed_length ds inputs ps (x ∷ xs) =
    first_length ds inputs (first_place ps) x + placed_length ds inputs (further_places ps) xs

-- how many a primitive counts, and a call by itself: a call of an action is none
abbrev pub primitive_count : List Decl → List ℕ → Invocation → ℕ
primitive_count ds inputs i = max 1 (min 65537 (sum_by (hashed_length ds inputs) (placed_in ds i)))

abbrev pub own_count : List Decl → List ℕ → Invocation → ℕ
own_count ds inputs i = cond (is_some (action_number ds i.callee)) 0 (primitive_count ds inputs i)

-- what the calls of an action count by themselves, but at most the limit
abbrev pub calls_count : List Decl → List ℕ → List Invocation → ℕ
calls_count ds inputs calls = min 65537 (sum_by (own_count ds inputs) calls)

abbrev pub own_counts : List Decl → List ℕ → List ℕ
own_counts ds inputs = map (calls_count ds inputs) (map invocations_of (actions ds))

-- the numbers of the actions that a table lists, each once
abbrev pub listed_numbers : List Decl → Table → List (Option ℕ)
listed_numbers ds t = map (action_number ds) (distinct_listed t)

-- what the actions with these numbers come to together, but at most the limit; nothing where one has no number
abbrev pub total_from : ℕ → List ℕ → ℕ → List (Option ℕ) → Option ℕ
total_from limit sizes so_far [] = Some so_far
total_from limit sizes so_far (None ∷ rest) = None
total_from limit sizes so_far (Some n ∷ rest) = total_from limit sizes (min limit (so_far + slice_index sizes n)) rest

-- the total, if there is one, is over a number
abbrev pub exceeds : Option ℕ → ℕ → Bool
exceeds (Some n) most = nat_lt most n
exceeds None most = false

-- what is given for a parameter is never a name

abbrev pub is_named : Argument → Bool
is_named (name_argument i) = true
is_named _ = false

abbrev pub gives_name : List Decl → Invocation → Bool
gives_name ds i = is_some (action_number ds i.callee) && list_any is_named i.arguments
