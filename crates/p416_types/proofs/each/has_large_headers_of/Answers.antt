use Rattle.std.proofs.Common.{sym}
use Rattle.p416_types.proofs.each.has_large_headers_of.Goals as goal

pub returns : goal.returns
returns c =
    c.has_large_headers.ensures c.args.syntax.now c.requires.totals (sym (c.main_kinds-kinds.ensures.headers c.args.syntax.now c.requires.top (sym c.as_slice-main.ensures)))
    (sym (c.main_kinds-kinds.ensures.metadata c.args.syntax.now c.requires.top (sym c.as_slice-main.ensures)))
