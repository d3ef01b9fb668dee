use Rattle.std.proofs.Common.{◌≡◌, List, [], ◌∷◌, map, refl, ap, ap₂, ◌∙◌}
use Rattle.p414_syntax.specs.declared.headers.TypeTail.{TypeTail}
use Rattle.p414_syntax.specs.declared.headers.TypeTail.TheVariants.{Length, MaxLength}
use Rattle.p414_syntax.specs.Tree.{Trees}
use Rattle.p414_syntax.specs.Views.{tail_tree}
use Rattle.p414_syntax.specs.Written.{tail_word}
use Rattle.p414_syntax.specs.Conditions.{is_among}
use Rattle.predictive_parser.specs.Values.{newest}
use Rattle.p414_reader.specs.internal.Forest.{Rooted, tail_text}
use Rattle.p414_reader.proofs.Kept.{map_newest}
use Rattle.p414_reader.proofs.forest.Forest.has_tail.Goals as goal

text_is : (nodes : Trees) (tail : TypeTail) → tail_text tail ≡ tail_word (tail_tree nodes tail)
text_is nodes (Length place) = refl
text_is nodes (MaxLength place) = refl

texts_are : (nodes : Trees) (tails : List TypeTail) → map tail_text tails ≡ map tail_word (map (tail_tree nodes) tails)
texts_are nodes [] = refl
texts_are nodes (tail ∷ tails) = ap₂ ◌∷◌ (text_is nodes tail) (texts_are nodes tails)

pub returns : goal.returns
returns c =
    let nodes = c.self.inside.nodes in
    let tree = tail_tree nodes in
    c.has_word.ensures
    ∙ ap₂ is_among c.text.ensures (
    texts_are nodes _
    ∙ ap (map tail_word)
    (ap (map tree) c.newest_list.ensures ∙ map_newest tree c.self.inside.tails ∙ ap (λ (f : Rooted). newest [] f.trees.tails) c.self.view_is)
    )
