-- The parameters of an action while its calls are gone through: each with the most bits that were asked of it so far.
use Rattle.std.specs.Prelude.{ℕ, ◌+◌, max, Bool, ◌&&◌, if◌then◌else◌, List, [], ◌∷◌, length, map, filter_map, fold, replicate, slice_index_or, slice_set, Option, Some, None, codes, unwrap_or}
use Rattle.std.specs.Str.{bytes_eq}
use Rattle.p414_syntax.specs.declared.actions.Action.{Action}
use Rattle.p414_syntax.specs.declared.syntax.Decl.{Decl}
use Rattle.p414_syntax.specs.declared.place.ArgumentPlace.{ArgumentPlace}
use Rattle.p414_syntax.specs.Names.{Name, has_name}
use Rattle.p414_syntax.specs.Arguments.{Argument, parameter_argument, Invocation, PlacedArgument, placed_argument, placed_in, action_number}
use Rattle.p414_sem.specs.Signatures.{indexed, first_of, is_unsigned, register_bits, target_bits}

-- an argument with its place, if it has one
abbrev pub placed_with : Option ArgumentPlace → Argument → List PlacedArgument
placed_with None argument = []
placed_with (Some wanted) argument = placed_argument wanted argument ∷ []

-- the greater of what was asked before, if anything was, and these bits
abbrev pub asked_more : Option ℕ → ℕ → ℕ
asked_more None bits = bits
asked_more (Some before) bits = max before bits

-- these bits are asked of the parameter with this number
abbrev pub noted : List (Option ℕ) → ℕ → ℕ → List (Option ℕ)
noted row p bits = slice_set row p (Some (asked_more (slice_index_or row p None) bits))

-- they are asked of an argument
abbrev pub noted_argument : List (Option ℕ) → Argument → ℕ → List (Option ℕ)
noted_argument row (parameter_argument p) bits = noted row p bits
noted_argument row _ bits = row

-- what is asked of the arguments of a call, of which the first stands at the place k
abbrev pub noted_from : (ℕ → ArgumentPlace → ℕ) → List (Option ℕ) → ℕ → List PlacedArgument → List (Option ℕ)
noted_from bits row k [] = row
noted_from bits row k (a ∷ rest) = noted_from bits (noted_argument row a.argument (bits k a.wanted)) (k + 1) rest

-- what a call asks of its arguments

abbrev pub row_at : List (List ℕ) → ℕ → List ℕ
row_at rows action = slice_index_or rows action []

abbrev pub other_bits : List Decl → Name → List PlacedArgument → ℕ
other_bits ds callee arguments =
    if bytes_eq callee (codes "register_write") then first_of (filter_map (register_bits ds) arguments)
    else first_of (filter_map (target_bits ds) arguments)

abbrev pub primitive_bits : Bool → ℕ → ArgumentPlace → ℕ
primitive_bits with_index other wanted = if is_unsigned wanted && with_index then 32 else other

abbrev pub noted_in_action : List ℕ → List (Option ℕ) → ℕ → List PlacedArgument → List (Option ℕ)
noted_in_action widths row k arguments = noted_from (λ place wanted. slice_index_or widths place 8) row k arguments

abbrev pub noted_in_primitive : Bool → ℕ → List (Option ℕ) → List PlacedArgument → List (Option ℕ)
noted_in_primitive with_index other row [] = row
noted_in_primitive with_index other row (a ∷ rest) =
    noted_in_primitive with_index other (noted_argument row a.argument (primitive_bits with_index other a.wanted)) rest

abbrev pub noted_by : List Decl → List (List ℕ) → List (Option ℕ) → Invocation → Option ℕ → List (Option ℕ)
noted_by ds rows row i (Some callee) = noted_in_action (row_at rows callee) row 0 (placed_in ds i)
noted_by ds rows row i None =
    noted_in_primitive (has_name indexed i.callee) (other_bits ds i.callee (placed_in ds i)) row (placed_in ds i)

abbrev pub noted_invocation : List Decl → List (List ℕ) → List (Option ℕ) → Invocation → List (Option ℕ)
noted_invocation ds rows row i = noted_by ds rows row i (action_number ds i.callee)

abbrev pub noted_calls : List Decl → List (List ℕ) → List (Option ℕ) → List Invocation → List (Option ℕ)
noted_calls ds rows row calls = fold (noted_invocation ds rows) row calls

-- the width of a parameter of which so much is asked
abbrev pub width_of : Option ℕ → ℕ
width_of asked = unwrap_or asked 8

-- the widths of so many parameters of an action with these calls
abbrev pub widths_at : List Decl → List (List ℕ) → ℕ → List Invocation → List ℕ
widths_at ds rows count calls = map width_of (noted_calls ds rows (replicate count None) calls)

abbrev pub parameter_count : Action → ℕ
parameter_count a = length a.parameters
