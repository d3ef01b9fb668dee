use Rattle.std.proofs.Common.{◌≡◌, ◌∙◌, ap, sym, refl}
use Rattle.predictive_parser.specs.Machine.{finish}
use Rattle.predictive_parser.specs.Grammar.{move}
use Rattle.predictive_parser.proofs.Turns.{finish_put, finish_pass, finish_stop, finish_token, finish_end}
use Rattle.predictive_parser.proofs.parser.finish.Goals as goal

pub loop-symbol-preserved-in_ok-put-in-Put : goal.loop-symbol-preserved-in_ok-put-in-Put
loop-symbol-preserved-in_ok-put-in-Put g c = record {
  finishes = λ place.
      let r = finish_put g.B.Lookahead.grammar (λ b. g.B.Lookahead.held c.put.new.self ≡ b) c.in-Put.action c.in-Some.symbol c.args.stack.now c.loop-symbol.stack c.pop.new.self (g.B.Lookahead.held c.args.builder.now) (g.B.Lookahead.held c.loop-symbol.builder) place
      (c.loop-symbol.invariant.finishes place) c.in-Some.ensures c.in-Put.is (c.in_ok-put-in-Put.ensures.builds) in
      r.2 ∙ ap (λ b. finish (move g.B.Lookahead.grammar) c.pop.new.self b place) (sym r.1);
  tokens = c.in_ok-put-in-Put.ensures.tokens ∙ c.loop-symbol.invariant.tokens;
}

pub returns-in-Token-clause-finishes : goal.returns-in-Token-clause-finishes
returns-in-Token-clause-finishes g c = λ place.
    finish_token g.B.Lookahead.grammar (λ b. g.B.Lookahead.held c.loop-symbol.builder ≡ b) c.in-Token.field-0 c.in-Some.symbol c.args.stack.now c.loop-symbol.stack c.pop.new.self (g.B.Lookahead.held c.args.builder.now) (g.B.Lookahead.held c.loop-symbol.builder) place
    (c.loop-symbol.invariant.finishes place) c.in-Some.ensures c.in-Token.is

pub returns-then-not-branch-clause-finishes : goal.returns-then-not-branch-clause-finishes
returns-then-not-branch-clause-finishes g c = λ place.
    finish_stop g.B.Lookahead.grammar (λ b. g.B.Lookahead.held c.pass.new.builder ≡ b) c.in-Word.word c.in-Some.symbol c.args.stack.now c.loop-symbol.stack c.pop.new.self (g.B.Lookahead.held c.args.builder.now) (g.B.Lookahead.held c.loop-symbol.builder) place c.in_ok-pass-in-Word.field-0
    (c.loop-symbol.invariant.finishes place) c.in-Some.ensures c.in-Word.is c.if-not-branch.true (c.in_ok-pass-in-Word.ensures.passes)

pub loop-symbol-preserved : goal.loop-symbol-preserved
loop-symbol-preserved g c = record {
  finishes = λ place.
      let r = finish_pass g.B.Lookahead.grammar (λ b. g.B.Lookahead.held c.pass.new.builder ≡ b) c.in-Word.word c.in-Some.symbol c.args.stack.now c.loop-symbol.stack c.pop.new.self (g.B.Lookahead.held c.args.builder.now) (g.B.Lookahead.held c.loop-symbol.builder) place c.in_ok-pass-in-Word.field-0
      (c.loop-symbol.invariant.finishes place) c.in-Some.ensures c.in-Word.is c.if-not-branch.false (c.in_ok-pass-in-Word.ensures.passes) in
      r.2 ∙ ap (λ b. finish (move g.B.Lookahead.grammar) c.pop.new.self b place) (sym r.1);
  tokens = c.in_ok-pass-in-Word.ensures.tokens ∙ c.loop-symbol.invariant.tokens;
}

pub returns-clause-finishes : goal.returns-clause-finishes
returns-clause-finishes g c = λ place.
    finish_end g.B.Lookahead.grammar (λ b. g.B.Lookahead.held c.loop-symbol.builder ≡ b) c.args.stack.now c.loop-symbol.stack (g.B.Lookahead.held c.args.builder.now) (g.B.Lookahead.held c.loop-symbol.builder) place (c.loop-symbol.invariant.finishes place) c.in_default.ensures.0 refl
