-- C13: a call has a wrong number of arguments or one of a wrong form, as it is written or, where C15 isn't broken,
-- after expansion, or an expression has a truth value where a number is wanted or a number where a truth value is
-- wanted (P4_14 1.0.5, "Primitive Actions", "Actions", "Packet Processing and Control Flow"; that both sides of
-- copy_header have one type, and that push and pop take 1 to 256 elements, are this project's own). What is a
-- parameter has every form here: C27 judges where it may not stand, and the call judges what is given for it. Of a
-- primitive that is left out nothing is asked.
use Rattle.std.specs.Prelude.{ℕ, ◌+◌, ◌⊎◌, Bool, true, false, not, ◌||◌, ◌&&◌, nat_lt, nat_eq, is_some, is_none, if◌then◌else◌, IsTrue, List, [], ◌∷◌, ◌++◌, length, flat_map, Option, Some, None, codes, option_to_list, option_and_then}
use Rattle.std.specs.List.{list_any, list_all}
use Rattle.std.specs.Option.{option_map_or}
use Rattle.std.specs.Str.{bytes_eq}
use Rattle.p414_syntax.specs.declared.parts.Sign.{Sign}
use Rattle.p414_syntax.specs.declared.parts.Sign.TheVariants.{Plus, Minus}
use Rattle.p414_syntax.specs.declared.parts.Number.{Number}
use Rattle.p414_syntax.specs.declared.parts.Inst.{Inst}
use Rattle.p414_syntax.specs.declared.syntax.Decl.{Decl}
use Rattle.p414_syntax.specs.declared.syntax.Decl.TheVariants as decl
use Rattle.p414_syntax.specs.declared.syntax.Sort.TheVariants as sort
use Rattle.p414_syntax.specs.Attributes.{direct_table_of}
use Rattle.p414_syntax.specs.declared.place.ArgumentPlace.{ArgumentPlace}
use Rattle.p414_syntax.specs.declared.place.ArgumentPlace.TheVariants as place
use Rattle.p414_syntax.specs.Names.{Name, has_name, declaration_of, is_declared}
use Rattle.p414_syntax.specs.Primitives.{stack_moves, one_list, clones}
use Rattle.p414_syntax.specs.Fields.{is_header, stack_size, instance_of, type_name_in}
use Rattle.p414_syntax.specs.Arguments.{Argument, number_argument, field_argument, parameter_argument, name_argument, Invocation, PlacedArgument, all_invocations, wanted_of, placed}
use Rattle.p414_syntax.specs.ActionExpansion.{ActionExpands}
use Rattle.p414_syntax.specs.Actions.{HasBadAction}
use Rattle.p414_syntax.specs.Expressions.{has_mistyped_expression}

-- how many arguments

-- the primitives whose last argument may be left out
abbrev pub with_optional_last : List Name
with_optional_last = codes "modify_field" ∷ stack_moves ++ (one_list ++ clones)

abbrev pub optional_count : Name → ℕ
optional_count callee = if has_name with_optional_last callee then 1 else 0

abbrev pub is_wrong_count : Name → ℕ → ℕ → Bool
is_wrong_count callee wanted given = nat_lt wanted given || nat_lt (given + optional_count callee) wanted

-- numbers; `-0` isn't negative, and a number of elements has no sign

abbrev pub is_minus_sign : Option Sign → Bool
is_minus_sign (Some Minus) = true
is_minus_sign (Some Plus) = false
is_minus_sign None = false

abbrev pub is_negative : Number → Bool
is_negative n = is_minus_sign n.sign && not (nat_eq n.literal.value 0)

abbrev pub is_element_count : Number → Bool
is_element_count n = is_none n.sign && not (nat_lt n.literal.value 1 || nat_lt 256 n.literal.value)

abbrev pub takes_number : ArgumentPlace → Number → Bool
takes_number place.Source n = true
takes_number place.Unsigned n = not (is_negative n)
takes_number place.Elements n = is_element_count n
takes_number _ n = false

abbrev pub takes_field : ArgumentPlace → Bool
takes_field place.Target = true
takes_field place.Source = true
takes_field place.Unsigned = true
takes_field _ = false

-- names; the counter that `count` counts isn't direct

abbrev pub is_indirect_counter : Decl → Bool
is_indirect_counter (decl.Counter x) = is_none (direct_table_of x.attributes)
is_indirect_counter _ = false

abbrev pub is_register : Decl → Bool
is_register (decl.Register x) = true
is_register _ = false

abbrev pub is_meter : Decl → Bool
is_meter (decl.Meter x) = true
is_meter _ = false

-- the object with this name is of this kind
abbrev pub is_object : (Decl → Bool) → List Decl → Name → Bool
is_object is_kind ds name = option_map_or is_kind (declaration_of sort.Object ds name) false

abbrev pub is_stack : List Decl → Name → Bool
is_stack ds name = is_some (stack_size ds name)

-- a name without an index
abbrev pub takes_bare_name : List Decl → ArgumentPlace → Name → Bool
takes_bare_name ds place.Stack name = is_stack ds name
takes_bare_name ds place.Counter name = is_object is_indirect_counter ds name
takes_bare_name ds place.Register name = is_object is_register ds name
takes_bare_name ds place.Meter name = is_object is_meter ds name
takes_bare_name ds place.Calculation name = is_declared sort.Calculation ds name
takes_bare_name ds place.List name = is_declared sort.List ds name
takes_bare_name ds _ name = false

-- a header may be an element of a stack; an index that isn't right is judged by C4
abbrev pub takes_name : List Decl → ArgumentPlace → Inst → Bool
takes_name ds place.Header i = is_header ds i.name
takes_name ds p i = is_none i.index && takes_bare_name ds p i.name

abbrev pub takes : List Decl → ArgumentPlace → Argument → Bool
takes ds p (number_argument n) = takes_number p n
takes ds p (field_argument r) = takes_field p
takes ds p (parameter_argument n) = true
takes ds p (name_argument i) = takes_name ds p i

abbrev pub is_wrong_argument : List Decl → PlacedArgument → Bool
is_wrong_argument ds a = not (takes ds a.wanted a.argument)

-- the names of the types of the headers that are copied

abbrev pub type_names : List Decl → Argument → List Name
type_names ds (name_argument i) = option_to_list (option_and_then type_name_in (instance_of ds i.name))
type_names ds _ = []

abbrev pub differ : List Name → Bool
differ [] = false
differ (name ∷ names) = not (list_all (bytes_eq name) names)

abbrev pub copies_other_type : List Decl → Invocation → Bool
copies_other_type ds i =
    bytes_eq i.callee (codes "copy_header") && differ (flat_map (type_names ds) i.arguments)

-- a call whose arguments aren't those that are wanted
abbrev pub takes_others : List Decl → Invocation → List ArgumentPlace → Bool
takes_others ds i places =
    is_wrong_count i.callee (length places) (length i.arguments)
    || list_any (is_wrong_argument ds) (placed places i.arguments)

abbrev pub is_wrong_call : List Decl → Invocation → Bool
is_wrong_call ds i = option_map_or (takes_others ds i) (wanted_of ds i.callee) false || copies_other_type ds i

-- as it is written
abbrev pub has_wrong_call : List Decl → Bool
has_wrong_call ds = list_any (is_wrong_call ds) (all_invocations ds)

-- after expansion
pub record ExpandsToWrongCall (ds : List Decl) : Type 0 where
  pub number : ℕ
  pub all : List Invocation
  pub expands : ActionExpands ds number all
  pub wrong : IsTrue (list_any (is_wrong_call ds) all)

abbrev pub HasWrongCall : List Decl → Type 0
HasWrongCall ds =
    IsTrue (has_wrong_call ds || has_mistyped_expression ds) ⊎ ((HasBadAction ds → ⊥) × ExpandsToWrongCall ds)
