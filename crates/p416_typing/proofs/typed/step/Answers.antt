use Rattle.std.proofs.Common.{◌∷◌, map, sym, ap, ◌∙◌}
use Rattle.p416_syntax.specs.Tree.{member}
use Rattle.p416_syntax.specs.Declarations.{top_names}
use Rattle.p416_scopes.specs.Seen.{seen_scope}
use Rattle.p416_typing.specs.Seen.{seen_row}
use Rattle.p416_typing.specs.internal.Steps.{kind_row, pushed}
use Rattle.p416_typing.proofs.typed.step.Goals as goal

pub returns-in-Literal : goal.returns-in-Literal
returns-in-Literal c =
    rw c.in-Literal.is
    (ap (λ r. r ∷ map (seen_row (top_names c.args.scope.now.top.now)) c.args.values.now)
    (sym (c.kind_row.ensures (top_names c.args.scope.now.top.now) ∙ ap kind_row (c.literal_kind.ensures (seen_scope c.args.scope.now)))))

pub returns-in-Member : goal.returns-in-Member
returns-in-Member c =
    rw c.in-Member.is
    (ap (λ w. pushed (seen_scope c.args.scope.now) (member c.in-Member.field-0 w) (map (seen_row (top_names c.args.scope.now.top.now)) c.args.values.now)) (sym c.as_slice-in-Member.ensures)
    ∙ c.member_step.ensures c.in-Member.field-0)

pub returns-in-Index : goal.returns-in-Index
returns-in-Index c = rw c.in-Index.is (c.index_step.ensures (top_names c.args.scope.now.top.now) (seen_scope c.args.scope.now) c.in-Index.field-0 c.in-Index.field-1)

pub returns-in-Slice : goal.returns-in-Slice
returns-in-Slice c = rw c.in-Slice.is (c.slice_step.ensures (top_names c.args.scope.now.top.now) (seen_scope c.args.scope.now) c.in-Slice.field-0)

pub returns-in-Call : goal.returns-in-Call
returns-in-Call c = rw c.in-Call.is (c.call_step.ensures (top_names c.args.scope.now.top.now) (seen_scope c.args.scope.now) c.in-Call.field-0 c.in-Call.field-1)

pub returns-in-Lookahead : goal.returns-in-Lookahead
returns-in-Lookahead c = rw c.in-Lookahead.is (c.lookahead_step.ensures c.in-Lookahead.field-0 c.in-Lookahead.field-2)

pub returns-in-Cast : goal.returns-in-Cast
returns-in-Cast c = rw c.in-Cast.is (c.cast_step.ensures (top_names c.args.scope.now.top.now) (seen_scope c.args.scope.now) c.in-Cast.field-1)

pub returns-in-Unary : goal.returns-in-Unary
returns-in-Unary c = rw c.in-Unary.is (c.unary_step.ensures (top_names c.args.scope.now.top.now) (seen_scope c.args.scope.now) c.in-Unary.field-1)

pub returns-in-Binary : goal.returns-in-Binary
returns-in-Binary c = rw c.in-Binary.is (c.binary_step.ensures (top_names c.args.scope.now.top.now) (seen_scope c.args.scope.now) c.in-Binary.field-1 c.in-Binary.field-2)

pub returns-in-Choice : goal.returns-in-Choice
returns-in-Choice c = rw c.in-Choice.is (c.choice_step.ensures (top_names c.args.scope.now.top.now) (seen_scope c.args.scope.now) c.in-Choice.field-0 c.in-Choice.field-1 c.in-Choice.field-2)

pub returns-in-Listed : goal.returns-in-Listed
returns-in-Listed c = rw c.in-Listed.is (c.listed_step.ensures (top_names c.args.scope.now.top.now) (seen_scope c.args.scope.now) c.in-Listed.field-0)

pub returns-in_ok-row-in-Argument : goal.returns-in_ok-row-in-Argument
returns-in_ok-row-in-Argument c =
    rw c.in-Argument.is (c.in_ok-row-in-Argument.ensures (top_names c.args.scope.now.top.now) (seen_scope c.args.scope.now) c.in-Argument.field-0 c.in-Argument.field-1)
