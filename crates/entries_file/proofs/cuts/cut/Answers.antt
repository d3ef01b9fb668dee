use Rattle.std.proofs.Common.{◌≡◌, ◌∙◌, sym, List, ℕ, nat_eq, true, false, arith, subst}
use Rattle.std.specs.List.{starts_with}
use Rattle.entries_file.specs.Cuts.{cut}
use Rattle.entries_file.proofs.CutLaws.{fronted-nothing, cut_on, cut_here, cut_end}
use Rattle.entries_file.proofs.cuts.cut.Goals as goal

pub loop-at-init : goal.loop-at-init
loop-at-init c = sym (fronted-nothing (cut c.args.mark.now c.args.word.now))

pub loop-at-preserved : goal.loop-at-preserved
loop-at-preserved c =
    let test : starts_with nat_eq c.split_at.result.1.now c.args.mark.now ≡ false = sym c.starts_with.ensures.value ∙ c.if-starts_with.false in
    c.loop-at.invariant ∙ cut_on c.args.mark.now c.args.word.now c.loop-at.at (omega arith)
    (subst (λ (w : List ℕ). starts_with nat_eq w c.args.mark.now ≡ false) c.split_at.ensures.back test)

pub returns-then-starts_with : goal.returns-then-starts_with
returns-then-starts_with c =
    let test : starts_with nat_eq c.split_at.result.1.now c.args.mark.now ≡ true = sym c.starts_with.ensures.value ∙ c.if-starts_with.true in
    let here = cut_here c.args.mark.now c.args.word.now c.loop-at.at (omega arith)
    (subst (λ (w : List ℕ). starts_with nat_eq w c.args.mark.now ≡ true) c.split_at.ensures.back test) in
    rw (c.split_at.ensures.front, c.split_at-then-starts_with.ensures.back, c.split_at.ensures.back) (sym (c.loop-at.invariant ∙ here))

pub returns : goal.returns
returns c = sym (c.loop-at.invariant ∙ cut_end c.args.mark.now c.args.word.now c.loop-at.at (omega arith))
