-- An expression in which tables may be applied is gone through twice: from the outside in, to find what is asked of each part and
-- how it is made, and from the inside out, to make it: as a ready expression, where no table is applied in it, else as a test.
use Rattle.std.specs.Prelude.{ℕ, Bool, true, false, ◌||◌, if◌then◌else◌, List, [], ◌∷◌, ◌++◌, Option, None, option_map, codes}
use Rattle.std.specs.Str.{bytes_eq}
use Rattle.p416_syntax.specs.Tree.{Exp16, member, index, slice, call, lookahead, cast, unary, binary, choice, parenthesized, argument, listed}
use Rattle.p416_syntax.specs.Names.{Name}
use Rattle.p416_syntax.specs.Kinds.{Kind}
use Rattle.p416_syntax.specs.Scopes.{Scope}
use Rattle.p416_syntax.specs.Calls.{any_bits}
use Rattle.p416_syntax.specs.Expressions.{kind_of}
use Rattle.p416_typing.specs.Rows.{row_of}
use Rattle.v1_core.specs.Expressions.{name_in}
use Rattle.v1_core.specs.Ready.{Ready}
use Rattle.v1_ready_forms.specs.Named.{NamedSeat}
use Rattle.v1_ready_blocks.specs.declared.nodes.Single.TheVariants as single
use Rattle.v1_ready_blocks.specs.Tests.{Test, plain, hits, misses, alone, choice as test_choice}
use Rattle.v1_ready_program.specs.internal.Passes.{Ask, passed, asked, called, Plan, nothing, leaf, same, sliced, to_bits, to_truth, unary_by, binary_by, choice_by, is_alone, front, behind_front, parts_asked, planned, Parts, made, ready_by}
use Rattle.v1_ready_statements.specs.Tested.{is_applied, is_application, applies, with_two, with_three, binary_test, asked_test}

-- from the outside in

-- nothing but the value is asked of an expression; and it is the application of a table
pub record Mark : Type 0 where
  pub alone : Bool
  pub applied : Bool

abbrev pub is_value_asked : Ask → Bool
is_value_asked (asked p way) = is_alone way
is_value_asked _ = false

abbrev pub applied_call : Exp16 → Kind → Bool
applied_call (call e given) k = is_applied k
applied_call _ k = false

abbrev pub mark_of : Scope → Ask → Exp16 → Mark
mark_of s q e = record { alone = is_value_asked q; applied = applied_call e (kind_of s e) }

pub record Marked : Type 0 where
  pub mark : Mark
  pub plan : Plan

abbrev pub marked : Scope → List NamedSeat → Ask → Exp16 → Marked
marked s seats q e = record { mark = mark_of s q e; plan = planned s seats (row_of s e) q e }

abbrev pub marked_plans : Scope → List NamedSeat → List Ask → List Exp16 → List Marked
marked_plans s seats qs [] = []
marked_plans s seats qs (e ∷ es) =
    marked s seats (front qs) e ∷ marked_plans s seats (parts_asked (row_of s e) (front qs) e ++ behind_front qs) es

-- from the inside out

-- what is made of an expression: a ready expression, where it applies no table, or a test
pub data Made : Type 0 where
  plainly : (is : Option Ready) → Made
  tested : (is_applied : Bool) (is : Option Test) → Made

abbrev pub as_ready : Made → Option Ready
as_ready (plainly r) = r
as_ready (tested own t) = None

abbrev pub as_test : Made → Option Test
as_test (plainly r) = option_map plain r
as_test (tested own t) = t

abbrev pub has_table : Made → Bool
has_table (plainly r) = false
has_table (tested own t) = true

-- it is itself the application of a table
abbrev pub is_table : Made → Bool
is_table (plainly r) = false
is_table (tested own t) = own

-- at most three parts, and what stands behind them

pub record MadeParts : Type 0 where
  pub first : Made
  pub second : Made
  pub third : Made

abbrev pub no_made : Made
no_made = plainly None

abbrev pub front_made : List Made → Made
front_made [] = no_made
front_made (v ∷ vs) = v

abbrev pub rest_made : List Made → List Made
rest_made [] = []
rest_made (v ∷ vs) = vs

abbrev pub no_made_parts : MadeParts
no_made_parts = record { first = no_made; second = no_made; third = no_made }

abbrev pub only_made : Made → MadeParts
only_made v = record { first = v; second = no_made; third = no_made }

abbrev pub pair_made : List Made → MadeParts
pair_made vs = record { first = front_made vs; second = front_made (rest_made vs); third = no_made }

abbrev pub three_made : List Made → MadeParts
three_made vs =
    record { first = front_made vs; second = front_made (rest_made vs); third = front_made (rest_made (rest_made vs)) }

abbrev pub parts_made : Exp16 → List Made → MadeParts
parts_made (member e word) vs = only_made (front_made vs)
parts_made (index e at) vs = only_made (front_made vs)
parts_made (slice e high low) vs = only_made (front_made vs)
parts_made (call e given) vs = pair_made vs
parts_made (lookahead e to given) vs = pair_made vs
parts_made (cast to e) vs = only_made (front_made vs)
parts_made (unary operator e) vs = only_made (front_made vs)
parts_made (binary operator a b) vs = pair_made vs
parts_made (choice c a b) vs = three_made vs
parts_made (parenthesized e) vs = only_made (front_made vs)
parts_made (argument before last) vs = pair_made vs
parts_made (listed es) vs = only_made (front_made vs)
parts_made e vs = no_made_parts

abbrev pub behind_made : Exp16 → List Made → List Made
behind_made (member e word) vs = rest_made vs
behind_made (index e at) vs = rest_made vs
behind_made (slice e high low) vs = rest_made vs
behind_made (call e given) vs = rest_made (rest_made vs)
behind_made (lookahead e to given) vs = rest_made (rest_made vs)
behind_made (cast to e) vs = rest_made vs
behind_made (unary operator e) vs = rest_made vs
behind_made (binary operator a b) vs = rest_made (rest_made vs)
behind_made (choice c a b) vs = rest_made (rest_made (rest_made vs))
behind_made (parenthesized e) vs = rest_made vs
behind_made (argument before last) vs = rest_made (rest_made vs)
behind_made (listed es) vs = rest_made vs
behind_made e vs = vs

abbrev pub ready_parts : MadeParts → Parts
ready_parts x = record { first = as_ready x.first; second = as_ready x.second; third = as_ready x.third }

-- a table is applied in an expression with these parts
abbrev pub has_tables : Bool → Exp16 → MadeParts → Bool
has_tables own (member e word) x = has_table x.first
has_tables own (index e at) x = has_table x.first
has_tables own (slice e high low) x = has_table x.first
has_tables own (call e given) x = own || has_table x.first
has_tables own (cast to e) x = has_table x.first
has_tables own (unary operator e) x = has_table x.first
has_tables own (binary operator a b) x = has_table x.first || has_table x.second
has_tables own (choice c a b) x = has_table x.first || has_table x.second || has_table x.third
has_tables own e x = false

-- the test of a plan with these parts
abbrev pub test_by_plan : Plan → MadeParts → Option Test
test_by_plan nothing x = None
test_by_plan (leaf r) x = None
test_by_plan same x = as_test x.first
test_by_plan (sliced place width) x = option_map (alone (single.Slice place width)) (as_test x.first)
test_by_plan (to_bits width) x = option_map (alone (single.ToBits width)) (as_test x.first)
test_by_plan to_truth x = option_map (alone single.ToTruth) (as_test x.first)
test_by_plan (unary_by operator) x = option_map (alone (single.Operator operator)) (as_test x.first)
test_by_plan (binary_by operator) x = with_two (binary_test operator) (as_test x.first) (as_test x.second)
test_by_plan choice_by x = with_three test_choice (as_test x.first) (as_test x.second) (as_test x.third)

-- the table that is applied

abbrev pub callee_table : (Name → Option ℕ) → Exp16 → Option ℕ
callee_table tables (member t word) = tables (name_in t)
callee_table tables _ = None

abbrev pub applied_table : (Name → Option ℕ) → Exp16 → Option ℕ
applied_table tables (call e given) = callee_table tables e
applied_table tables _ = None

abbrev pub told_by : Name → ℕ → Test
told_by word table = if bytes_eq word (codes "hit") then hits table else misses table

abbrev pub told_test : (Name → Option ℕ) → Exp16 → Name → Option Test
told_test tables e word = option_map (told_by word) (applied_table tables e)

abbrev pub told_alone : (Name → Option ℕ) → Bool → Exp16 → Name → Option Test
told_alone tables true e word = told_test tables e word
told_alone tables false e word = None

abbrev pub member_by_plan : (Name → Option ℕ) → Bool → Bool → Exp16 → Name → Option Test → Option Test
member_by_plan tables asked_alone true e word t = told_alone tables asked_alone e word
member_by_plan tables asked_alone false e word t = t

abbrev pub test_member : (Name → Option ℕ) → Marked → Exp16 → Name → MadeParts → Option Test
test_member tables p e word x =
    member_by_plan tables p.mark.alone (is_table x.first) e word (test_by_plan p.plan x)

-- `hit` and `miss` of an application are told by it
abbrev pub test_made : (Name → Option ℕ) → Marked → Exp16 → MadeParts → Option Test
test_made tables p (member e word) x = test_member tables p e word x
test_made tables p e x = test_by_plan p.plan x

abbrev pub made_of : (Name → Option ℕ) → Marked → Exp16 → MadeParts → Made
made_of tables p e x =
    if has_tables p.mark.applied e x then tested p.mark.applied (test_made tables p e x)
    else plainly (made p.plan (ready_parts x))

-- an expression in place of its parts
abbrev pub made_step : (Name → Option ℕ) → Marked → Exp16 → List Made → List Made
made_step tables p e vs = made_of tables p e (parts_made e vs) ∷ behind_made e vs

abbrev pub all_made : (Name → Option ℕ) → List Marked → List Exp16 → List Made
all_made tables [] es = []
all_made tables (p ∷ ps) [] = []
all_made tables (p ∷ ps) (e ∷ es) = made_step tables p e (all_made tables ps es)

-- what is asked of an expression

abbrev pub test_by : Scope → List NamedSeat → (Name → Option ℕ) → Ask → Exp16 → Option Test
test_by s seats tables passed e = None
test_by s seats tables (asked p way) e = asked_test s seats tables p way e
test_by s seats tables (called way) e = asked_test s seats tables any_bits way (call e e)

abbrev pub chosen_made : Bool → Bool → Option Ready → Option Test → Made
chosen_made has own r t = if has then tested own t else plainly r

abbrev pub made_by : Scope → List NamedSeat → (Name → Option ℕ) → Ask → Exp16 → Made
made_by s seats tables q e =
    chosen_made (applies s e) (is_application s e) (ready_by s seats q e) (test_by s seats tables q e)
