use Rattle.std.proofs.Common.{ap, ◌∙◌, List, drop, ◌++◌, ◌∷◌, []}
use Rattle.token_sheet.specs.Words.{Word, word, joined}
use Rattle.token_sheet.proofs.Put.{grown_by_two}
use Rattle.token_sheet.proofs.sheet.Sheet.put_joined.Goals as goal

pub invariant_of-self-2 : goal.invariant_of-self-2
invariant_of-self-2 g c = (grown_by_two g.L.Spelling.front g.L.Spelling.parts g.L.Spelling.meets g.L.Spelling.spells g.L.Spelling.begins_line g.met.L.Spelling.is_spelling c.self.inside.text c.add_two.new.text c.self.inside.last c.self.inside.start c.in_ok-self-inside.field-0 c.self.inside.is_first c.args.first c.args.second c.args.octets.now c.args.more.now c.split_at.result.1.now c.blanks_before-blanks.result c.self.invariant (c.split_at.ensures.back ∙ ap (drop c.self.inside.start) c.as_slice.ensures) c.blanks_before-blanks.ensures (record { first_spelled = c.requires.first; second_spelled = c.requires.second; parted = c.requires.parted; meet = c.requires.meet; inside = c.requires.inside }) c.in_ok-self-inside.ensures.ok c.in_ok-self-inside.ensures.start).ready

pub returns-clause-ok : goal.returns-clause-ok
returns-clause-ok g c =
    (grown_by_two g.L.Spelling.front g.L.Spelling.parts g.L.Spelling.meets g.L.Spelling.spells g.L.Spelling.begins_line g.met.L.Spelling.is_spelling c.self.inside.text c.add_two.new.text c.self.inside.last c.self.inside.start c.in_ok-self-inside.field-0 c.self.inside.is_first c.args.first c.args.second c.args.octets.now c.args.more.now c.split_at.result.1.now c.blanks_before-blanks.result c.self.invariant (c.split_at.ensures.back ∙ ap (drop c.self.inside.start) c.as_slice.ensures) c.blanks_before-blanks.ensures (record { first_spelled = c.requires.first; second_spelled = c.requires.second; parted = c.requires.parted; meet = c.requires.meet; inside = c.requires.inside }) c.in_ok-self-inside.ensures.ok c.in_ok-self-inside.ensures.start).words
    ∙ ap (λ (ws : List (Word g.row.L-Kind.Denot)). ws ++ joined c.args.first c.args.octets.now ∷ word c.args.second c.args.more.now ∷ []) c.self.view_is
