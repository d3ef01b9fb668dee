use Rattle.std.proofs.Common.{◌≡◌, ◌++◌, List, OnOk, sym, subst}
use Rattle.p416_syntax.specs.Heads.{of_exp_head}
use Rattle.v1_ready_forms.specs.Ways.{Way}
use Rattle.v1_ready_program.specs.internal.Ways.{way_at}
use Rattle.v1_ready_program.specs.internal.Coded.{seen_ask, seen_asks, IsAskIn}
use Rattle.v1_ready_operands.specs.internal.SourcePasses.{parts_by}
use Rattle.v1_ready_operands.proofs.Seeking.{on_ok}
use Rattle.v1_ready_operands.proofs.found.push_parts.Goals as goal

pub returns-in-Asked-clause-within : goal.returns-in-Asked-clause-within
returns-in-Asked-clause-within c =
    on_ok c.push_asked.result (λ within n asked further all. within n (subst (IsAskIn n) c.in-Asked.is asked) further all) c.push_asked.ensures.within

pub returns-in-Passed-clause-parts : goal.returns-in-Passed-clause-parts
returns-in-Passed-clause-parts c =
    subst (λ q. OnOk c.fill_parts.result ((ways : List Way) → seen_asks ways c.fill_parts.new.asks ≡ parts_by (seen_ask ways q) (way_at ways c.args.further) (of_exp_head c.args.head) ++ seen_asks ways c.args.asks.now))
    (sym c.in-Passed.is) c.fill_parts.ensures.asks

pub returns-in-Passed-clause-within : goal.returns-in-Passed-clause-within
returns-in-Passed-clause-within c = on_ok c.fill_parts.result (λ within n asked further all. within n tt all) c.fill_parts.ensures.within

pub returns-in-Called-clause-parts : goal.returns-in-Called-clause-parts
returns-in-Called-clause-parts c =
    subst
    (λ q. OnOk c.fill_parts-in-Called.result ((ways : List Way) → seen_asks ways c.fill_parts-in-Called.new.asks ≡ parts_by (seen_ask ways q) (way_at ways c.args.further) (of_exp_head c.args.head) ++ seen_asks ways c.args.asks.now))
    (sym c.in-Called.is) c.fill_parts-in-Called.ensures.asks

pub returns-in-Called-clause-within : goal.returns-in-Called-clause-within
returns-in-Called-clause-within c =
    on_ok c.fill_parts-in-Called.result (λ within n asked further all. within n tt all) c.fill_parts-in-Called.ensures.within
