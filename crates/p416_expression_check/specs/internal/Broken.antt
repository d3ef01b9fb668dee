-- The tests of single rules, by what is known of the expression: what it is, what its parts are, and what it calls.
use Rattle.std.specs.Prelude.{ℕ, Bool, true, false, not, ◌&&◌, nat_eq, is_none, if◌then◌else◌, List, [], ◌∷◌, Option, Some, None}
use Rattle.std.specs.List.{list_all}
use Rattle.std.specs.Option.{option_map_or}
use Rattle.p416_syntax.specs.Tree.{Exp16, name, member, index, slice, call, lookahead, binary}
use Rattle.p416_syntax.specs.declared.rule.ProgramRule.{ProgramRule}
use Rattle.p416_syntax.specs.declared.rule.ProgramRule.TheVariants.{T1, T2, T3, T4, T5, T6, T8, T10}
use Rattle.p416_syntax.specs.Names.{Name}
use Rattle.p416_syntax.specs.Kinds.{Kind, is_plain, is_stack}
use Rattle.p416_syntax.specs.Scopes.{Scope, Layout, Part, sort_of}
use Rattle.p416_syntax.specs.Calls.{Place, callee, Stand, anywhere, at_positions, in_its_actions, by_clone_type, Signature, parser_position}
use Rattle.p416_syntax.specs.Expressions.{member_kind}
use Rattle.p416_syntax.specs.Uses.{an_expression}
use Rattle.p416_syntax.specs.Unknown.{fits_place, has_lookahead}
use Rattle.p416_syntax.specs.Sizes.{leaves_stack, leaves_bits, joins_too_many}
use Rattle.p416_syntax.specs.Types.{takes}
use Rattle.p416_syntax.specs.Literals.{overflows}
use Rattle.p416_syntax.specs.Writes.{is_written_place}
use Rattle.p416_syntax.specs.Arguments.{takes_other_count}
use Rattle.p416_syntax.specs.Applications.{applies_nothing, is_applied}
use Rattle.p416_syntax.specs.Externs.{is_some_position, is_allowed_at, are_allowed, is_action_part, is_parser_part, is_place_word}
use Rattle.p416_typing.specs.Rows.{RowOf}

-- T1

abbrev pub unknown_member_by : List Layout → Place → Kind → Option Signature → Name → Bool
unknown_member_by layouts callee of called word = is_none called && not (is_plain of)
unknown_member_by layouts p of called word = is_none (member_kind layouts of word) && not (is_plain of)

abbrev pub unknown_by : Scope → Place → Kind → Option Signature → Exp16 → Bool
unknown_by s p left called (name text) = not (fits_place p (sort_of s text))
unknown_by s p left called (member e word) = unknown_member_by s.layouts p left called word
unknown_by s p left called (lookahead e to given) = not (has_lookahead left)
unknown_by s p left called _ = false

-- T2

abbrev pub leaves_by : Kind → Kind → Exp16 → Bool
leaves_by left right (index e at) = leaves_stack left at
leaves_by left right (slice e high low) = leaves_bits left high low
leaves_by left right (binary operator a b) = joins_too_many operator left right
leaves_by left right _ = false

-- T6

abbrev pub takes_other_by : Option Signature → ℕ → Bool
takes_other_by called given = option_map_or (takes_other_count given) called false

abbrev pub miscounted_by : Option Signature → ℕ → Exp16 → Bool
miscounted_by called n (call e given) = takes_other_by called n
miscounted_by called n (lookahead e to given) = not (nat_eq n 0)
miscounted_by called n _ = false

-- T8

abbrev pub application_by : Kind → Exp16 → Bool
application_by k (call e given) = is_applied k
application_by k _ = false

-- T10

abbrev pub all_allowed : List ℕ → List ℕ → Bool
all_allowed allowed positions = list_all (is_allowed_at allowed) positions

abbrev pub may_stand_by : List ℕ → Part → List ℕ → Stand → Bool
may_stand_by positions part first anywhere = true
may_stand_by positions part first (at_positions allowed) = are_allowed allowed positions
may_stand_by positions part first in_its_actions = is_some_position positions && is_action_part part
may_stand_by positions part first by_clone_type = are_allowed first positions

abbrev pub elsewhere_by : List ℕ → Part → List ℕ → Signature → Bool
elsewhere_by positions part first signature = not (may_stand_by positions part first signature.stands)

abbrev pub stands_elsewhere_by : List ℕ → Part → List ℕ → Option Signature → Bool
stands_elsewhere_by positions part first called = option_map_or (elsewhere_by positions part first) called false

abbrev pub outside_parser_by : Kind → Name → Part → Bool
outside_parser_by of word part = (is_stack of && is_place_word word) && not (is_parser_part part)

abbrev pub misplaced_by : List ℕ → Part → Kind → Option Signature → List ℕ → Exp16 → Bool
misplaced_by positions part left called first (call e given) = stands_elsewhere_by positions part first called
misplaced_by positions part left called first (lookahead e to given) = not (are_allowed (parser_position ∷ []) positions)
misplaced_by positions part left called first (member e word) = outside_parser_by left word part
misplaced_by positions part left called first _ = false

-- the first of them that holds

abbrev pub lower_by : Scope → Place → RowOf → Exp16 → Option ProgramRule
lower_by s p r e =
    if unknown_by s p r.left r.callee e then Some T1 else if leaves_by r.left r.right e then Some T2
    else if not (takes p e r.kind) then Some T3 else if overflows (an_expression s p e) then Some T4 else None

abbrev pub higher_by : Scope → Place → RowOf → Exp16 → Option ProgramRule
higher_by s p r e =
    if is_written_place p && not r.can_write then Some T5 else if miscounted_by r.called r.given e then Some T6
    else if applies_nothing s.part && application_by r.kind e then Some T8
    else if misplaced_by s.positions s.part r.left r.called r.given_first e then Some T10 else None
