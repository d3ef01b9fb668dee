use Rattle.std.proofs.Common.{sym, ap, subst, option_map, ◌∙◌}
use Rattle.std.specs.Prelude.{IfSome, option_copied}
use Rattle.v1_ready_parser.specs.Places.{seen_parser, IsParserIn}
use Rattle.v1_ready_whole.specs.Ready.{IsReadyParser}
use Rattle.v1_ready_whole.proofs.Making.{parser_made}
use Rattle.v1_ready_whole.proofs.parser.parser_in.Goals as goal

pub returns : goal.returns
returns c =
    let p = c.args.program in
    let l = c.args.layout.now in
    let new = c.parser_of_standing.new.nodes in
    let ready = c.in-Some-found.ready in
    let made = c.with_code.result in
    subst (λ r. IsReadyParser p.syntax.now l c.args.shapes.now made.states r) (sym c.with_code.ensures.parser)
    (parser_made p.syntax.now l c.args.shapes.now c.in-Some.parser.now c.in_ok-nodes.nodes new ready made.states (sym c.parser_of.ensures ∙ ap option_copied c.in-Some.is) c.in_ok-nodes.ensures.is c.in_ok-found.ensures.grows (sym (ap (option_map (seen_parser new)) c.in-Some-found.is) ∙ c.in_ok-found.ensures.parser)
    (subst (λ v. IfSome v (IsParserIn new)) c.in-Some-found.is c.in_ok-found.ensures.within) (c.is_over.ensures c.if-not-is_over.false) c.with_code.ensures.code c.with_code.ensures.runs)
