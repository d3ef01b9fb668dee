use Rattle.std.proofs.Common.{ap, ◌∙◌}
use Rattle.p416_syntax.specs.Tables.{has_shared_names}
use Rattle.p416_types.proofs.Exactly.{t9_found, t9_outside, t9_else}
use Rattle.p416_types.proofs.each.breaks_t9.Goals as goal

pub returns-then-is_found : goal.returns-then-is_found
returns-then-is_found c = t9_found c.args.syntax.now c.args.found.now c.is_found.result c.requires.found c.is_found.ensures c.if-is_found.true

pub returns-then-outside : goal.returns-then-outside
returns-then-outside c = t9_outside c.args.syntax.now c.args.outside c.requires.outside c.if-outside.true

pub returns : goal.returns
returns c =
    t9_else c.args.syntax.now c.args.found.now c.is_found.result c.args.outside c.in_ok-shared.shared c.requires.found c.is_found.ensures c.if-is_found.false c.requires.outside c.if-outside.false (c.in_ok-shared.ensures ∙ ap has_shared_names c.as_slice-decls.ensures)
