-- Which ready test an expression is at its place, also where tables are applied in it; and which parts a header, a stack or a
-- struct is that is chosen (P4_16 1.2, "Expressions", "Match-action unit invocation"). What applies no table is a ready
-- expression.
use Rattle.std.specs.Prelude.{ℕ, suc, ◌-◌, Bool, true, false, ◌||◌, if◌then◌else◌, List, Option, Some, None, option_map, codes}
use Rattle.std.specs.Str.{bytes_eq}
use Rattle.p416_syntax.specs.declared.lexeme.Literal16.{Literal16}
use Rattle.p416_syntax.specs.declared.node.CastType.{CastType}
use Rattle.p416_syntax.specs.declared.node.CastType.TheVariants as cast_to
use Rattle.p416_syntax.specs.declared.node.BinaryOperator.{BinaryOperator}
use Rattle.p416_syntax.specs.declared.node.BinaryOperator.TheVariants.{And, Or}
use Rattle.p416_syntax.specs.Tree.{Exp16, name, member, index, slice, call, cast, unary, binary, choice}
use Rattle.p416_syntax.specs.Names.{Name}
use Rattle.p416_syntax.specs.Kinds.{Kind, boolean, header, stack, errors, enumeration, applied}
use Rattle.p416_syntax.specs.Scopes.{Layout, Scope}
use Rattle.p416_syntax.specs.Calls.{Place, value, any_bits, owner, a_stack}
use Rattle.p416_syntax.specs.Expressions.{kind_of}
use Rattle.p416_syntax.specs.Uses.{unary_place, left_place, right_place, cast_place, chosen_place}
use Rattle.v1_core.specs.Expressions.{name_in}
use Rattle.v1_core.specs.Ready.{Ready}
use Rattle.v1_ready_forms.specs.Named.{NamedSeat, seat_of_name}
use Rattle.v1_ready_forms.specs.Ways.{Way, its_value, its_validity, through_member, through_element, through_told, which_of}
use Rattle.v1_ready_forms.specs.Spots.{Spot, spot_with, spot_behind, told_spot}
use Rattle.v1_core.specs.Values.{to_member, to_element}
use Rattle.v1_ready_forms.specs.Expressions.{asked_ready}
use Rattle.v1_ready_blocks.specs.declared.nodes.Single.TheVariants as single
use Rattle.v1_ready_blocks.specs.declared.places.RangePlace.{RangePlace}
use Rattle.v1_ready_blocks.specs.Tests.{Test, plain, hits, misses, alone, both, either, pair, choice as test_choice, Source, parts, chosen}
use Rattle.v1_place_laws.specs.Places.{range_place_of}

abbrev pub is_applied : Kind → Bool
is_applied applied = true
is_applied _ = false

-- `t.apply()`
abbrev pub is_application : Scope → Exp16 → Bool
is_application s (call e given) = is_applied (kind_of s (call e given))
is_application s _ = false

-- an expression in which a table is applied
abbrev pub applies : Scope → Exp16 → Bool
applies s (member e word) = applies s e
applies s (index e at) = applies s e
applies s (slice e high low) = applies s e
applies s (call e given) = is_application s (call e given) || applies s e
applies s (cast to e) = applies s e
applies s (unary operator e) = applies s e
applies s (binary operator a b) = applies s a || applies s b
applies s (choice c a b) = applies s c || applies s a || applies s b
applies s _ = false

-- Tables are found by their names in the block.

abbrev pub with_two : (Test → Test → Test) → Option Test → Option Test → Option Test
with_two f (Some a) (Some b) = Some (f a b)
with_two f _ _ = None

abbrev pub with_three : (Test → Test → Test → Test) → Option Test → Option Test → Option Test → Option Test
with_three f (Some a) (Some b) (Some c) = Some (f a b c)
with_three f _ _ _ = None

abbrev pub only_value : Way → Option Test → Option Test
only_value its_value t = t
only_value _ t = None

-- `hit` and `miss` of an application of a table
abbrev pub applied_test : (Name → Option ℕ) → Exp16 → Name → Option Test
applied_test tables (call (member t word) given) told =
    option_map (if bytes_eq told (codes "hit") then hits else misses) (tables (name_in t))
applied_test tables _ told = None

abbrev pub slice_test : Literal16 → Literal16 → Test → Test
slice_test high low t = alone (single.Slice low.value (suc high.value - low.value)) t

abbrev pub cast_test : CastType → Test → Test
cast_test (cast_to.Bit w) t = alone (single.ToBits w.value) t
cast_test cast_to.Bool t = alone single.ToTruth t

abbrev pub binary_test : BinaryOperator → Test → Test → Test
binary_test And a b = both a b
binary_test Or a b = either a b
binary_test operator a b = pair operator a b

-- the member with this word of an expression, which is of a kind, and in which a table is applied
abbrev pub part_test : Kind → Name → Way → (Way → Option Test) → Option Test
part_test errors word way of = None
part_test (enumeration enum) word way of = None
part_test (stack type size) word way of = of (through_told (which_of word) way)
part_test _ word way of = of (through_member word way)

-- or that is itself the application of a table
abbrev pub member_test : Bool → Option Test → Option Test → Option Test
member_test true told of = told
member_test false told of = of

abbrev pub method_test : Kind → Way → (Way → Option Test) → Option Test
method_test (header type) way of = only_value way (of its_validity)
method_test _ way of = None

-- what applies no table is a ready expression
abbrev pub by_application : Bool → Option Ready → Option Test → Option Test
by_application true r t = t
by_application false r t = option_map plain r

-- what is asked of an expression at its place, where tables have these numbers
abbrev pub asked_test : Scope → List NamedSeat → (Name → Option ℕ) → Place → Way → Exp16 → Option Test
asked_test s seats tables p way (member e word) =
    by_application (applies s e) (asked_ready s seats p way (member e word))
    (member_test (is_application s e) (only_value way (applied_test tables e word))
    (part_test (kind_of s e) word way (λ further. asked_test s seats tables owner further e)))
asked_test s seats tables p way (index e at) =
    by_application (applies s e) (asked_ready s seats p way (index e at))
    (asked_test s seats tables a_stack (through_element at.value way) e)
asked_test s seats tables p way (slice e high low) =
    by_application (applies s e) (asked_ready s seats p way (slice e high low))
    (only_value way (option_map (slice_test high low) (asked_test s seats tables any_bits its_value e)))
asked_test s seats tables p way (call (member e word) given) =
    by_application (applies s e) (asked_ready s seats p way (call (member e word) given))
    (method_test (kind_of s e) way (λ further. asked_test s seats tables owner further e))
asked_test s seats tables p way (cast to e) =
    by_application (applies s e) (asked_ready s seats p way (cast to e))
    (only_value way (option_map (cast_test to) (asked_test s seats tables (cast_place to) its_value e)))
asked_test s seats tables p way (unary operator e) =
    by_application (applies s e) (asked_ready s seats p way (unary operator e))
    (only_value way
    (option_map (alone (single.Operator operator))
    (asked_test s seats tables (unary_place p operator (kind_of s e)) its_value e)))
asked_test s seats tables p way (binary operator a b) =
    by_application (applies s a || applies s b) (asked_ready s seats p way (binary operator a b))
    (only_value way
    (with_two (binary_test operator)
    (asked_test s seats tables (left_place p operator (kind_of s a) (kind_of s b)) its_value a)
    (asked_test s seats tables (right_place p operator (kind_of s a) (kind_of s b)) its_value b)))
asked_test s seats tables p way (choice c a b) =
    by_application (applies s c || applies s a || applies s b) (asked_ready s seats p way (choice c a b))
    (with_three test_choice (asked_test s seats tables (value boolean) its_value c)
    (asked_test s seats tables (chosen_place p (kind_of s a) (kind_of s b)) way a)
    (asked_test s seats tables (chosen_place p (kind_of s a) (kind_of s b)) way b))
asked_test s seats tables p way e = option_map plain (asked_ready s seats p way e)

-- the ready test that gives the value of an expression at its place
abbrev pub ready_test : Scope → List NamedSeat → (Name → Option ℕ) → Place → Exp16 → Option Test
ready_test s seats tables p e = asked_test s seats tables p its_value e

-- headers, stacks and structs

abbrev pub range_behind : (Spot → Option RangePlace) → Option Spot → Option RangePlace
range_behind further None = None
range_behind further (Some x) = further x

-- the parts that a way from a spot leads to
abbrev pub way_range : List Layout → Way → Spot → Option RangePlace
way_range types its_value x = range_place_of types x
way_range types its_validity x = None
way_range types (through_member word way) x = range_behind (way_range types way) (spot_behind types (to_member word) x)
way_range types (through_element number way) x =
    range_behind (way_range types way) (spot_behind types (to_element number) x)
way_range types (through_told which way) x = range_behind (way_range types way) (told_spot types which x)

abbrev pub with_chosen : Option Test → Option Source → Option Source → Option Source
with_chosen (Some c) (Some a) (Some b) = Some (chosen c a b)
with_chosen _ _ _ = None

abbrev pub member_source : Kind → Name → Way → (Way → Option Source) → Option Source
member_source (stack type size) word way of = of (through_told (which_of word) way)
member_source _ word way of = of (through_member word way)

-- the parts that are asked of an expression
abbrev pub asked_source : Scope → List NamedSeat → (Name → Option ℕ) → Way → Exp16 → Option Source
asked_source s seats tables way (name text) =
    option_map parts (range_behind (way_range s.layouts way) (spot_with None (seat_of_name seats text)))
asked_source s seats tables way (member e word) =
    member_source (kind_of s e) word way (λ further. asked_source s seats tables further e)
asked_source s seats tables way (index e at) = asked_source s seats tables (through_element at.value way) e
asked_source s seats tables way (choice c a b) =
    with_chosen (ready_test s seats tables (value boolean) c) (asked_source s seats tables way a)
    (asked_source s seats tables way b)
asked_source s seats tables way _ = None

-- the header, the stack or the struct that an expression is
abbrev pub ready_source : Scope → List NamedSeat → (Name → Option ℕ) → Exp16 → Option Source
ready_source s seats tables e = asked_source s seats tables its_value e
