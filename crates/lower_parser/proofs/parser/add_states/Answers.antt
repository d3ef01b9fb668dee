use Rattle.std.proofs.Common.{◌≡◌, ◌∙◌, ◌++◌, ◌∷◌, [], ap, arith}
use Rattle.std.specs.Borrow.{Bor}
use Rattle.p414_syntax.specs.declared.parsers.Parser.{Parser}
use Rattle.p416_syntax.specs.declared.parsers.State.{State}
use Rattle.lower_laws_parser.specs.Words.{state_of}
use Rattle.lower_parser.specs.Written.{parser_names}
use Rattle.lower_parser.proofs.Starting.{state_turn}
use Rattle.lower_parser.proofs.parser.add_states.Goals as goal

pub loop-i-preserved : goal.loop-i-preserved
loop-i-preserved c =
    let f = state_of c.args.names.now (parser_names c.args.names.now) in
    state_turn c.args.names.now c.args.found.now c.loop-i.i c.index-found-i.result f c.loop-i.made c.push.new.self _ c.requires.found (omega (arith, c.loop-i-test.true))
    (c.in_ok-push.ensures.ok ∙ ap (λ (s : State). c.loop-i.made ++ s ∷ []) (c.in_ok-state.ensures ∙ ap (λ (b : Bor Parser). state_of c.args.names.now (parser_names c.args.names.now) b.now) c.index-found-i.is))
    c.loop-i.invariant
