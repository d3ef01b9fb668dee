use Rattle.std.proofs.Common.{◌≡◌, ◌∙◌, sym, ap, Bool, false, ◌||◌}
use Rattle.p416_syntax.specs.Keywords.{is_reserved16}
use Rattle.p414_syntax.specs.Names.{has_name}
use Rattle.lower_laws_names.specs.Words.{further}
use Rattle.lower_laws_names.proofs.Things.{words_parts}
use Rattle.lower_names.proofs.words.is_word.Goals as goal

pub returns-else-is_reserved : goal.returns-else-is_reserved
returns-else-is_reserved c =
    let none : is_reserved16 c.args.name.now ≡ false = sym c.is_reserved.ensures ∙ c.if-is_reserved.false in
    let all = words_parts c.args.name.now ∙ ap (λ (b : Bool). b || has_name further c.args.name.now) none in
    c.is_among.ensures ∙ sym all
