use Rattle.std.proofs.Common.{◌≡◌, ◌∙◌, ap, sym, Some}
use Rattle.std.specs.Prelude.{slice_get}
use Rattle.predictive_parser.specs.Machine.{settle}
use Rattle.predictive_parser.specs.Grammar.{move}
use Rattle.predictive_parser.proofs.Turns.{settle_put, settle_token, settle_row, chosen_accepts, settle_pass, settle_stop, settle_end}
use Rattle.predictive_parser.proofs.parser.settle.Goals as goal

pub loop-symbol-preserved-in_ok-put-in-Put : goal.loop-symbol-preserved-in_ok-put-in-Put
loop-symbol-preserved-in_ok-put-in-Put g c = record {
  settles = λ token t.
      let r = settle_put g.B.Lookahead.grammar (λ b. g.B.Lookahead.held c.put.new.self ≡ b) c.in-Put.action c.in-Some.symbol c.args.stack.now c.loop-symbol.stack c.pop.new.self (g.B.Lookahead.held c.args.builder.now) (g.B.Lookahead.held c.loop-symbol.builder) token
      (c.loop-symbol.invariant.settles token t) c.in-Some.ensures c.in-Put.is (c.in_ok-put-in-Put.ensures.builds) in
      r.2 ∙ ap (λ b. settle (move g.B.Lookahead.grammar) c.pop.new.self b token) (sym r.1);
  tokens = c.in_ok-put-in-Put.ensures.tokens ∙ c.loop-symbol.invariant.tokens;
}

pub returns-in_ok-shift-in-Token-clause-settles : goal.returns-in_ok-shift-in-Token-clause-settles
returns-in_ok-shift-in-Token-clause-settles g c = λ token t.
    let s : slice_get (g.B.Lookahead.tokens c.loop-symbol.builder) c.args.place ≡ Some token = ap (λ ts. slice_get ts c.args.place) c.loop-symbol.invariant.tokens ∙ t in
    let a = c.accepts-fits.ensures token s in
    settle_token g.B.Lookahead.grammar (λ b. g.B.Lookahead.held c.shift.new.self ≡ b) c.in-Token.class c.in-Some.symbol c.args.stack.now c.loop-symbol.stack c.pop.new.self (g.B.Lookahead.held c.args.builder.now) (g.B.Lookahead.held c.loop-symbol.builder) token c.accepts-fits.result
    (c.loop-symbol.invariant.settles token t) c.in-Some.ensures c.in-Token.is a (λ yes. c.in_ok-shift-in-Token.ensures.builds token s (sym a ∙ yes))

pub returns-else-fits-clause-settles : goal.returns-else-fits-clause-settles
returns-else-fits-clause-settles g c = λ token t.
    let s : slice_get (g.B.Lookahead.tokens c.loop-symbol.builder) c.args.place ≡ Some token = ap (λ ts. slice_get ts c.args.place) c.loop-symbol.invariant.tokens ∙ t in
    settle_token g.B.Lookahead.grammar (λ b. g.B.Lookahead.held c.loop-symbol.builder ≡ b) c.in-Token.class c.in-Some.symbol c.args.stack.now c.loop-symbol.stack c.pop.new.self (g.B.Lookahead.held c.args.builder.now) (g.B.Lookahead.held c.loop-symbol.builder) token c.accepts-fits.result
    (c.loop-symbol.invariant.settles token t) c.in-Some.ensures c.in-Token.is (c.accepts-fits.ensures token s) (λ yes. let no = c.if-fits.false in cc)

pub returns-in-Some-2-clause-settles : goal.returns-in-Some-2-clause-settles
returns-in-Some-2-clause-settles g c = λ token t.
    let s : slice_get (g.B.Lookahead.tokens c.loop-symbol.builder) c.args.place ≡ Some token = ap (λ ts. slice_get ts c.args.place) c.loop-symbol.invariant.tokens ∙ t in
    let k = c.in_ok-first-in-Word.ensures.chooses token s in
    let a = chosen_accepts g.B.Lookahead.grammar (λ b. g.B.Lookahead.held c.loop-symbol.builder ≡ b) c.in-Word.word c.in-Some-2.first c.in_ok-first-in-Word.field-0 c.pop.new.self c.choose.new.stack (g.B.Lookahead.held c.loop-symbol.builder) token c.in-Some-2.is k in
    settle_row g.B.Lookahead.grammar (λ b. g.B.Lookahead.held c.shift-in-Some-2.new.self ≡ b) c.in-Word.word c.in-Some.symbol c.args.stack.now c.loop-symbol.stack c.pop.new.self c.choose.new.stack (g.B.Lookahead.held c.args.builder.now) (g.B.Lookahead.held c.loop-symbol.builder) token c.in_ok-first-in-Word.field-0 c.in-Some-2.first
    (c.loop-symbol.invariant.settles token t) c.in-Some.ensures c.in-Word.is c.in-Some-2.is k (c.in_ok-shift-in-Word.ensures.builds token s a)

pub returns-then-not-branch-clause-settles : goal.returns-then-not-branch-clause-settles
returns-then-not-branch-clause-settles g c = λ token t.
    let s : slice_get (g.B.Lookahead.tokens c.loop-symbol.builder) c.args.place ≡ Some token = ap (λ ts. slice_get ts c.args.place) c.loop-symbol.invariant.tokens ∙ t in
    settle_stop g.B.Lookahead.grammar (λ b. g.B.Lookahead.held c.pass.new.builder ≡ b) c.in-Word.word c.in-Some.symbol c.args.stack.now c.loop-symbol.stack c.pop.new.self c.choose.new.stack (g.B.Lookahead.held c.args.builder.now) (g.B.Lookahead.held c.loop-symbol.builder) token c.in_ok-first-in-Word.field-0 c.in_ok-pass-in-Word.field-0
    (c.loop-symbol.invariant.settles token t) c.in-Some.ensures c.in-Word.is c.in_default-2.not-Some (c.in_ok-first-in-Word.ensures.chooses token s) c.if-not-branch.true (c.in_ok-pass-in-Word.ensures.passes)

pub loop-symbol-preserved : goal.loop-symbol-preserved
loop-symbol-preserved g c = record {
  settles = λ token t.
      let s : slice_get (g.B.Lookahead.tokens c.loop-symbol.builder) c.args.place ≡ Some token = ap (λ ts. slice_get ts c.args.place) c.loop-symbol.invariant.tokens ∙ t in
      let r = settle_pass g.B.Lookahead.grammar (λ b. g.B.Lookahead.held c.pass.new.builder ≡ b) c.in-Word.word c.in-Some.symbol c.args.stack.now c.loop-symbol.stack c.pop.new.self c.choose.new.stack (g.B.Lookahead.held c.args.builder.now) (g.B.Lookahead.held c.loop-symbol.builder) token c.in_ok-first-in-Word.field-0 c.in_ok-pass-in-Word.field-0
      (c.loop-symbol.invariant.settles token t) c.in-Some.ensures c.in-Word.is c.in_default-2.not-Some (c.in_ok-first-in-Word.ensures.chooses token s) c.if-not-branch.false (c.in_ok-pass-in-Word.ensures.passes) in
      r.2 ∙ ap (λ b. settle (move g.B.Lookahead.grammar) c.choose.new.stack b token) (sym r.1);
  tokens = c.in_ok-pass-in-Word.ensures.tokens ∙ c.loop-symbol.invariant.tokens;
}

pub returns-clause-settles : goal.returns-clause-settles
returns-clause-settles g c = λ token t.
    settle_end g.B.Lookahead.grammar (λ b. g.B.Lookahead.held c.loop-symbol.builder ≡ b) c.args.stack.now c.loop-symbol.stack c.pop.new.self (g.B.Lookahead.held c.args.builder.now) (g.B.Lookahead.held c.loop-symbol.builder) token (c.loop-symbol.invariant.settles token t) c.in_default.ensures.0
