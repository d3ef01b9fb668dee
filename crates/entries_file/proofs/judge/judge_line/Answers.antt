use Rattle.std.proofs.Common.{◌≡◌, ◌∙◌, ap, subst, map, List, ℕ}
use Rattle.text_lines.specs.Words.{words_of}
use Rattle.entries_file.specs.Reading.{judge_line, judge_words}
use Rattle.entries_file.specs.internal.Drafts.{drafted, IsJudged}
use Rattle.entries_file.proofs.judge.judge_line.Goals as goal

pub returns : goal.returns
unfolding judge_line
returns c =
    let texts : map (λ word. word.now) c.deref.result.now ≡ words_of c.args.line.now = ap (map (λ word. word.now)) c.deref.ensures.value ∙ c.in_ok-words.ensures in
    subst (λ (ws : List (List ℕ)). IsJudged c.args.signature.now (judge_words c.args.signature.now (drafted c.args.draft.now) ws) c.judge_words.new.draft c.judge_words.result) texts c.judge_words.ensures
