use Rattle.std.proofs.Common.{rules}
use Rattle.p416_syntax.specs.Declarations.{top_scope}
use Rattle.p416_scopes.specs.Seen.{seen_scope}
use Rattle.p416_uses.proofs.ParserUses.{parser_told}
use Rattle.p416_uses.proofs.parsers.see_parser.Goals as goal

pub returns : goal.returns
returns c =
    parser_told c.args.found.now c.see_head.new.found c.see_vars.new.found c.see_states.new.found (top_scope c.args.top.now c.args.positions.now) _ c.args.parser.now c.in_ok-see_head.ensures c.in_ok-scope.ensures.scope
    (search rules) (search rules)
