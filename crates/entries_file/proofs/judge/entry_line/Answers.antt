use Rattle.std.proofs.Common.{◌≡◌, ◌∙◌, ◌-◌, sym, ap, subst, refl, map, take, drop, length}
use Rattle.entries_file.specs.Reading.{Judgement, judge_form, judge_call, judge_entry}
use Rattle.entries_file.specs.Forms.{entry_form}
use Rattle.entries_file.specs.internal.Drafts.{drafted, IsJudged}
use Rattle.entries_file.proofs.WordLaws.{entry_short, entry_at}
use Rattle.entries_file.proofs.judge.entry_line.Goals as goal

pub returns-in_default : goal.returns-in_default
returns-in_default c =
    ap (judge_form c.args.signature.now (drafted c.args.draft.now)) (entry_short (λ word. word.now) c.args.words.now c.in_default.len_below)

pub returns-in-Ok : goal.returns-in-Ok
returns-in-Ok c =
    let g = c.args.signature.now in
    let words = c.args.words.now in
    let rest = take (length words - 2) (drop 2 words) in
    let form = entry_at (λ word. word.now) words rest c.split_at.result.0.now c.split_at-in-Ok.result.1.now _ _ c.in-Some.at c.in-len2-up.len_at_least refl c.in-Some.ensures.is c.split_at.ensures.front (c.split_at-in-Ok.ensures.back ∙ ap (drop 1) c.split_at.ensures.back) in
    let called : judge_form g (drafted c.args.draft.now) (entry_form (map (λ word. word.now) words)) ≡ judge_entry g (drafted c.args.draft.now) (map (λ word. word.now) c.split_at.result.0.now) (map (λ word. word.now) c.split_at-in-Ok.result.1.now) c.in-Ok.call =
    ap (judge_form g (drafted c.args.draft.now)) form
    ∙ ap (λ call. judge_call call (judge_entry g (drafted c.args.draft.now) (map (λ word. word.now) c.split_at.result.0.now) (map (λ word. word.now) c.split_at-in-Ok.result.1.now))) (sym c.in-Ok.ensures.is) in
    subst (λ (judgement : Judgement). IsJudged g judgement c.judge_entry.new.draft c.judge_entry.result) (sym called) c.judge_entry.ensures
