-- Whether a text is one of the words of a list's items.
use Rattle.std.proofs.Common.{◌≡◌, ℕ, List, [], ◌∷◌, map, refl, ap}
use Rattle.std.specs.Prelude.{◌||◌}
use Rattle.std.specs.List.{list_any}
use Rattle.std.specs.Str.{bytes_eq}
use Rattle.p414_syntax.specs.Conditions.{is_among}

pub among_words : {A : Type 0} (word_of : A → List ℕ) (text : List ℕ) (items : List A) → list_any (λ item. bytes_eq text (word_of item)) items ≡ is_among text (map word_of items)
among_words word_of text [] = refl
among_words word_of text (item ∷ items) = ap (λ found. bytes_eq text (word_of item) || found) (among_words word_of text items)
