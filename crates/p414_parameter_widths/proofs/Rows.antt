-- The parameters of an action, as bits are asked of them.
use Rattle.std.proofs.Common.{◌≡◌, ℕ, ◌<◌, ◌≤◌, ◌+◌, Bool, List, [], ◌∷◌, length, get_or, set, Option, Some, None, refl, sym, ap, ◌∙◌, length-set}
use Rattle.std.proofs.lemmas.List.{get_or_default, set_past}
use Rattle.p414_syntax.specs.declared.syntax.Decl.{Decl}
use Rattle.p414_syntax.specs.declared.place.ArgumentPlace.{ArgumentPlace}
use Rattle.p414_syntax.specs.Arguments.{Argument, number_argument, field_argument, parameter_argument, name_argument, Invocation, PlacedArgument, placed_in, action_number}
use Rattle.p414_parameter_widths.specs.internal.Noting.{asked_more, noted, noted_argument, noted_from, noted_in_primitive, primitive_bits, noted_by, noted_invocation, noted_calls}

pub noted_within : (row : List (Option ℕ)) (p bits n : ℕ) (d : Option ℕ) → p < length row → n ≡ asked_more (get_or row p d) bits → set row p (Some n) ≡ noted row p bits
noted_within row p bits n d lt is = ap (λ k. set row p (Some k)) (is ∙ ap (λ o. asked_more o bits) (get_or_default row p d None lt))

pub noted_beyond : (row : List (Option ℕ)) (p bits : ℕ) → length row ≤ p → row ≡ noted row p bits
noted_beyond row p bits le = sym (set_past row p _ le)

-- how many parameters there are stays

pub argument_length : (row : List (Option ℕ)) (a : Argument) (bits : ℕ) → length (noted_argument row a bits) ≡ length row
argument_length row (number_argument n) bits = refl
argument_length row (field_argument r) bits = refl
argument_length row (name_argument i) bits = refl
argument_length row (parameter_argument p) bits = length-set row p _

pub from_length : (bits : ℕ → ArgumentPlace → ℕ) (row : List (Option ℕ)) (k : ℕ) (args : List PlacedArgument) → length (noted_from bits row k args) ≡ length row
from_length bits row k [] = refl
from_length bits row k (a ∷ rest) = from_length bits (noted_argument row a.argument (bits k a.wanted)) (k + 1) rest ∙ argument_length row a.argument (bits k a.wanted)

-- a primitive asks the same wherever an argument stands
pub primitive_is : (b : Bool) (other : ℕ) (row : List (Option ℕ)) (k : ℕ) (args : List PlacedArgument) → noted_in_primitive b other row args ≡ noted_from (λ place wanted. primitive_bits b other wanted) row k args
primitive_is b other row k [] = refl
primitive_is b other row k (a ∷ rest) = primitive_is b other (noted_argument row a.argument (primitive_bits b other a.wanted)) (k + 1) rest

pub by_length : (ds : List Decl) (rows : List (List ℕ)) (row : List (Option ℕ)) (i : Invocation) (o : Option ℕ) → length (noted_by ds rows row i o) ≡ length row
by_length ds rows row i (Some callee) = from_length _ row 0 (placed_in ds i)
by_length ds rows row i None = ap length (primitive_is _ _ row 0 (placed_in ds i)) ∙ from_length _ row 0 (placed_in ds i)

pub calls_length : (ds : List Decl) (rows : List (List ℕ)) (row : List (Option ℕ)) (calls : List Invocation) → length (noted_calls ds rows row calls) ≡ length row
calls_length ds rows row [] = refl
calls_length ds rows row (i ∷ calls) = calls_length ds rows (noted_invocation ds rows row i) calls ∙ by_length ds rows row i (action_number ds i.callee)
