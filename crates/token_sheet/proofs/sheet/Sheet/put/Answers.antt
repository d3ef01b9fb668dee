use Rattle.std.proofs.Common.{ap, ◌∙◌, List, drop, ◌++◌, ◌∷◌, []}
use Rattle.token_sheet.specs.Words.{Word, word}
use Rattle.token_sheet.proofs.Put.{grown}
use Rattle.token_sheet.proofs.sheet.Sheet.put.Goals as goal

pub invariant_of-self-2 : goal.invariant_of-self-2
invariant_of-self-2 g c = (grown g.L.Spelling.front g.L.Spelling.parts g.L.Spelling.meets g.L.Spelling.spells g.L.Spelling.begins_line g.met.L.Spelling.is_spelling c.self.inside.text c.add.new.text c.self.inside.last c.self.inside.start c.in_ok-self-inside.field-0 c.self.inside.is_first c.args.kind c.args.octets.now c.split_at.result.1.now c.blanks_before-blanks.result c.self.invariant (c.split_at.ensures.back ∙ ap (drop c.self.inside.start) c.as_slice.ensures) c.blanks_before-blanks.ensures c.requires c.in_ok-self-inside.ensures.ok c.in_ok-self-inside.ensures.start).ready

pub returns-clause-ok : goal.returns-clause-ok
returns-clause-ok g c =
    (grown g.L.Spelling.front g.L.Spelling.parts g.L.Spelling.meets g.L.Spelling.spells g.L.Spelling.begins_line g.met.L.Spelling.is_spelling c.self.inside.text c.add.new.text c.self.inside.last c.self.inside.start c.in_ok-self-inside.field-0 c.self.inside.is_first c.args.kind c.args.octets.now c.split_at.result.1.now c.blanks_before-blanks.result c.self.invariant (c.split_at.ensures.back ∙ ap (drop c.self.inside.start) c.as_slice.ensures) c.blanks_before-blanks.ensures c.requires c.in_ok-self-inside.ensures.ok c.in_ok-self-inside.ensures.start).words
    ∙ ap (λ (ws : List (Word g.row.L-Kind.Denot)). ws ++ word c.args.kind c.args.octets.now ∷ []) c.self.view_is
