-- The values of expressions, and what l-values mean (P4_16 1.2, "Expressions", "Expression evaluation order", "Conditional operator",
-- "L-values", "Operations on headers", "Operations on header stacks", "Match-action unit invocation", "Packet lookahead"). An expression is evaluated from
-- left to right, and `&&`, `||` and `? :` evaluate what they need. In a control it may apply tables, and in a parser raise
-- an error. What a name means and of which kind an expression is, is said by the rules on types; a number without a width
-- has that of its place.
use Rattle.std.specs.Prelude.{ℕ, suc, ◌+◌, ◌-◌, ◌*◌, ◌%◌, ◌^◌, Bool, not, ◌==◌, nat_lt, if◌then◌else◌, [], length, take, codes, Option, Some, None, unwrap_or, position}
use Rattle.std.specs.Str.{bytes_eq}
use Rattle.p4x_bits.specs.BitLists.{num, octet_bits}
use Rattle.p416_syntax.specs.declared.lexeme.Literal16.{Literal16}
use Rattle.p416_syntax.specs.declared.node.BinaryOperator.TheVariants.{And, Or}
use Rattle.p416_syntax.specs.Tree.{Exp16, literal, truth, name, member, index, slice, call, lookahead, cast, unary, binary, choice}
use Rattle.p416_syntax.specs.Names.{Name}
use Rattle.p416_syntax.specs.Kinds.{Kind, bits, boolean, header, stack, errors, enumeration, table}
use Rattle.p416_syntax.specs.Scopes.{Scope, kind_of_type}
use Rattle.p416_syntax.specs.BuiltIn.{error_names}
use Rattle.p416_syntax.specs.Calls.{Place, value, any_bits, owner, a_stack as an_indexed_stack}
use Rattle.p416_syntax.specs.Expressions.{kind_of}
use Rattle.p416_syntax.specs.Uses.{unary_place, left_place, right_place, cast_place, chosen_place}
use Rattle.p416_syntax.specs.Literals.{width_of_place}
use Rattle.v1_core.specs.declared.parser_error.ParserError.TheVariants.{PacketTooShort, StackOutOfBounds}
use Rattle.v1_core.specs.Values.{Value, a_number, a_truth, an_error, no_members, a_member, a_symbol, no_value, number_in, is_true, header_in, place_in, elements_in, to_member, to_element, part_of, Slice, sliced}
use Rattle.v1_core.specs.Numbers.{unary_value, binary_value, cast_value}
use Rattle.v1_core.specs.Frames.{Moment, raised, Reference, nowhere, stepped, sliced_to, read}
use Rattle.v1_core.specs.Surroundings.{Surroundings, Applied, World, named}

-- a value, and what evaluating it leaves
pub record Valued : Type 0 where
  pub value : Value
  pub moment : Moment

abbrev pub valued : Value → Moment → Valued
valued v m = record { value = v; moment = m }

-- literals

-- the width that is written, else that of the place
abbrev pub literal_width : Place → Option ℕ → ℕ
literal_width p (Some width) = width
literal_width p None = unwrap_or (width_of_place p) 0

abbrev pub literal_number : Place → Literal16 → Value
literal_number p n = let width = literal_width p n.width in a_number width (n.value % 2 ^ width)

-- the number of an error in the order of `error`
abbrev pub number_of_error : Name → ℕ
number_of_error word = unwrap_or (position (bytes_eq word) error_names) (length error_names)

-- stacks

abbrev pub is_last : Name → Bool
is_last word = bytes_eq word (codes "last")

-- `next` is the element at the stack's place, `last` the one before it
abbrev pub element_by : Name → ℕ → ℕ
element_by word place = if is_last word then place - 1 else place

-- `next` of a full stack, and `last` of one at place 0, is none
abbrev pub is_beyond : Name → ℕ → ℕ → Bool
is_beyond word place size = if is_last word then place == 0 else not (nat_lt place size)

-- what is left where the stack has that element, or the error
abbrev pub bounded : Name → Value → Moment → Moment
bounded word v m = if is_beyond word (place_in v) (length (elements_in v)) then raised StackOutOfBounds m else m

-- members

-- what an application of a table tells has `hit` and `miss`
abbrev pub applied_value : Bool → Value
applied_value hit = a_member (codes "hit") (a_truth hit) (a_member (codes "miss") (a_truth (not hit)) no_members)

-- the member with this word of something of a kind
abbrev pub member_value : Kind → Name → Valued → Valued
member_value errors word x = valued (an_error (number_of_error word)) x.moment
member_value (enumeration e) word x = valued (a_symbol word) x.moment
member_value (stack type size) word x =
    valued (part_of x.value (to_element (element_by word (place_in x.value)))) (bounded word x.value x.moment)
member_value _ word x = valued (part_of x.value (to_member word)) x.moment

-- slices

-- `e[high:low]` has both of these bits
abbrev pub slice_of : Literal16 → Literal16 → Slice
slice_of high low = record { low = low.value; width = suc high.value - low.value }

abbrev pub slice_value : Slice → Valued → Valued
slice_value s x = valued (a_number s.width (sliced s (number_in x.value))) x.moment

-- calls that give a value

-- a name by itself
abbrev pub name_in : Exp16 → Name
name_in (name text) = text
name_in _ = []

-- `t.apply()` as a value
abbrev pub told : Applied → Valued
told a = valued (applied_value a.hit) a.moment

-- of a table it is `apply`, of a header `isValid`
abbrev pub method_value : World → Kind → Exp16 → Valued → Valued
method_value w table e x = told (w.apply (name_in e) x.moment)
method_value w (header type) e x = valued (a_truth (header_in x.value).valid) x.moment
method_value w _ e x = valued no_value x.moment

-- at least so many bits are left
abbrev pub has_bits : Moment → ℕ → Bool
has_bits m count = nat_lt count (8 * length m.unparsed + 1)

-- the bits in front, which stay there; where too few are left an error is raised
abbrev pub lookahead_bits : ℕ → Moment → Valued
lookahead_bits width m =
    if has_bits m width then valued (a_number width (num (take width (octet_bits m.unparsed)))) m
    else valued (a_number width 0) (raised PacketTooShort m)

abbrev pub lookahead_value : Kind → Moment → Valued
lookahead_value (bits width) m = lookahead_bits width m
lookahead_value _ m = valued no_value m

-- the value of an expression at its place
abbrev pub value_of : World → Scope → Place → Exp16 → Moment → Valued
value_of w s p (literal n) m = valued (literal_number p n) m
value_of w s p (truth holds) m = valued (a_truth holds) m
value_of w s p (name text) m = valued (read m.frame (named w.around m.frame text)) m
value_of w s p (member e word) m = member_value (kind_of s e) word (value_of w s owner e m)
value_of w s p (index e at) m =
    let x = value_of w s an_indexed_stack e m in valued (part_of x.value (to_element at.value)) x.moment
value_of w s p (slice e high low) m = slice_value (slice_of high low) (value_of w s any_bits e m)
value_of w s p (call (member e word) given) m = method_value w (kind_of s e) e (value_of w s owner e m)
value_of w s p (lookahead e to given) m = lookahead_value (kind_of_type s.names to) m
value_of w s p (cast to e) m = let x = value_of w s (cast_place to) e m in valued (cast_value to x.value) x.moment
value_of w s p (unary operator e) m =
    let x = value_of w s (unary_place p operator (kind_of s e)) e m in valued (unary_value operator x.value) x.moment
value_of w s p (binary And a b) m =
    let x = value_of w s (value boolean) a m in
    if is_true x.value then value_of w s (value boolean) b x.moment else x
value_of w s p (binary Or a b) m =
    let x = value_of w s (value boolean) a m in
    if is_true x.value then x else value_of w s (value boolean) b x.moment
value_of w s p (binary operator a b) m =
    let x = value_of w s (left_place p operator (kind_of s a) (kind_of s b)) a m in
    let y = value_of w s (right_place p operator (kind_of s a) (kind_of s b)) b x.moment in
    valued (binary_value operator x.value y.value) y.moment
value_of w s p (choice c a b) m =
    let x = value_of w s (value boolean) c m in
    if is_true x.value then value_of w s (chosen_place p (kind_of s a) (kind_of s b)) a x.moment
    else value_of w s (chosen_place p (kind_of s a) (kind_of s b)) b x.moment
value_of w s p _ m = valued no_value m

-- what an l-value means, and what finding it leaves

pub record Referred : Type 0 where
  pub reference : Reference
  pub moment : Moment

abbrev pub referred : Reference → Moment → Referred
referred r m = record { reference = r; moment = m }

-- the member with this word of what is meant, which is of a kind
abbrev pub member_reference : Kind → Name → Referred → Referred
member_reference (stack type size) word x =
    let v = read x.moment.frame x.reference in
    referred (stepped x.reference (to_element (element_by word (place_in v)))) (bounded word v x.moment)
member_reference _ word x = referred (stepped x.reference (to_member word)) x.moment

abbrev pub reference_of : Surroundings → Scope → Exp16 → Moment → Referred
reference_of b s (name text) m = referred (named b m.frame text) m
reference_of b s (member e word) m = member_reference (kind_of s e) word (reference_of b s e m)
reference_of b s (index e at) m =
    let x = reference_of b s e m in referred (stepped x.reference (to_element at.value)) x.moment
reference_of b s (slice e high low) m =
    let x = reference_of b s e m in referred (sliced_to x.reference (slice_of high low)) x.moment
reference_of b s _ m = referred nowhere m
