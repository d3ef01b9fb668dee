-- The rows of an expression from the innermost outwards: each takes those of its parts off a stack, and puts its own there.
use Rattle.std.specs.Prelude.{ℕ, ◌+◌, false, nat_eq, if◌then◌else◌, List, [], ◌∷◌, None, codes}
use Rattle.std.specs.Str.{bytes_eq}
use Rattle.p416_syntax.specs.Tree.{Exp16, member, index, slice, call, lookahead, cast, unary, binary, choice, parenthesized, no_arguments, argument, listed}
use Rattle.p416_syntax.specs.Names.{Name}
use Rattle.p416_syntax.specs.Kinds.{Kind, unknown}
use Rattle.p416_syntax.specs.Scopes.{Scope, kind_of_type}
use Rattle.p416_syntax.specs.Calls.{method_signature, ingress_position, egress_position}
use Rattle.p416_syntax.specs.Expressions.{known_kind, member_kind, element_kind, slice_kind, call_kind, lookahead_kind, unary_kind, binary_kind, same_choice}
use Rattle.p416_typing.specs.Rows.{RowOf, row_of}

-- what is known of nothing
abbrev pub no_row : RowOf
no_row = record { kind = unknown; left = unknown; right = unknown; callee = None; called = None; count = 0; given = 0; clone = []; first = []; given_first = []; can_write = false }

abbrev pub kind_row : Kind → RowOf
kind_row k = record no_row { kind = k }

abbrev pub top_of : List RowOf → RowOf
top_of [] = no_row
top_of (v ∷ vs) = v

abbrev pub rest_of : List RowOf → List RowOf
rest_of [] = []
rest_of (v ∷ vs) = vs

-- where a clone is made by the member with this word
abbrev pub word_positions : Name → List ℕ
word_positions word = if bytes_eq word (codes "I2E") then ingress_position ∷ [] else egress_position ∷ []

-- an expression by the rows of its parts

abbrev pub member_row : Scope → RowOf → Name → RowOf
member_row s v word =
    record no_row { kind = known_kind (member_kind s.layouts v.kind word); left = v.kind; callee = method_signature v.kind word; clone = word_positions word; can_write = v.can_write }

abbrev pub part_row : Kind → RowOf → RowOf
part_row k v = record no_row { kind = k; left = v.kind; can_write = v.can_write }

abbrev pub call_row : RowOf → RowOf → RowOf
call_row v given = record no_row { kind = call_kind v.callee; called = v.callee; given = given.count; given_first = given.first }

abbrev pub lookahead_row : Kind → RowOf → RowOf → RowOf
lookahead_row to v given = record no_row { kind = lookahead_kind v.kind to; left = v.kind; given = given.count; given_first = given.first }

abbrev pub pair_row : Kind → Kind → Kind → RowOf
pair_row k a b = record no_row { kind = k; left = a; right = b }

abbrev pub argument_row : RowOf → RowOf → RowOf
argument_row before last =
    record no_row { count = before.count + 1; first = if nat_eq before.count 0 then last.clone else before.first }

-- the stack of rows with that of this expression in place of those of its parts, the first part's foremost
abbrev pub pushed : Scope → Exp16 → List RowOf → List RowOf
pushed s (member e word) vs = member_row s (top_of vs) word ∷ rest_of vs
pushed s (index e at) vs = part_row (element_kind (top_of vs).kind) (top_of vs) ∷ rest_of vs
pushed s (slice e high low) vs = part_row (slice_kind (top_of vs).kind high low) (top_of vs) ∷ rest_of vs
pushed s (call e given) vs = call_row (top_of vs) (top_of (rest_of vs)) ∷ rest_of (rest_of vs)
pushed s (lookahead e to given) vs =
    lookahead_row (kind_of_type s.names to) (top_of vs) (top_of (rest_of vs)) ∷ rest_of (rest_of vs)
pushed s (cast to e) vs = row_of s (cast to no_arguments) ∷ rest_of vs
pushed s (unary operator e) vs = pair_row (unary_kind operator (top_of vs).kind) (top_of vs).kind unknown ∷ rest_of vs
pushed s (binary operator a b) vs =
    pair_row (binary_kind operator (top_of vs).kind (top_of (rest_of vs)).kind) (top_of vs).kind (top_of (rest_of vs)).kind
    ∷ rest_of (rest_of vs)
pushed s (choice c a b) vs =
    pair_row (same_choice (top_of (rest_of vs)).kind (top_of (rest_of (rest_of vs))).kind) (top_of (rest_of vs)).kind (top_of (rest_of (rest_of vs))).kind
    ∷ rest_of (rest_of (rest_of vs))
pushed s (parenthesized e) vs = no_row ∷ rest_of vs
pushed s (argument before last) vs = argument_row (top_of vs) (top_of (rest_of vs)) ∷ rest_of (rest_of vs)
pushed s (listed es) vs = row_of s (listed no_arguments) ∷ rest_of vs
pushed s e vs = row_of s e ∷ vs

-- the stack behind these expressions, of which the last one is the innermost
abbrev pub values_of : Scope → List Exp16 → List RowOf
values_of s [] = []
values_of s (e ∷ es) = pushed s e (values_of s es)

-- what is known of each of them
abbrev pub rows_of : Scope → List Exp16 → List RowOf
rows_of s [] = []
rows_of s (e ∷ es) = top_of (values_of s (e ∷ es)) ∷ rows_of s es
