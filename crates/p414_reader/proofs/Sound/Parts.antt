-- That the rows of names, numbers, instances and fields have the meaning of their words.
use Rattle.std.proofs.Common.{◌≡◌, List, [], ◌∷◌, Option, Some, None, refl, sym, ap}
use Rattle.predictive_parser.proofs.Meanings.{RowsShow, NoneShows}
use Rattle.p414_syntax.specs.declared.parts.Sign.TheVariants as sign
use Rattle.p414_syntax.specs.declared.parts.Number.{Number}
use Rattle.p414_syntax.specs.declared.parts.Index.TheVariants as index
use Rattle.p414_reader.specs.declared.symbols.Word.TheVariants as word
use Rattle.p414_reader.specs.declared.symbols.PartWord.{PartWord}
use Rattle.p414_reader.specs.declared.symbols.PartWord.TheVariants as part
use Rattle.p414_reader.specs.declared.built.Built.{Built}
use Rattle.p414_reader.specs.internal.Rows.{grammar14}
use Rattle.p414_reader.proofs.Meaning.{with_arguments, meaning14}
use Rattle.p414_reader.proofs.Lists.{by_value, with_arguments_list}
use Rattle.p414_reader.proofs.Fixed.{fixed14, by_name, by_number}

abbrev with_arguments_of : Built → List (Option (List Number)) → Built
with_arguments_of built lists = record built { parts = record built.parts { arguments = lists } }

arguments_are : (numbers : List Number) (built : Built) → with_arguments_of built (Some numbers ∷ built.parts.arguments) ≡ with_arguments_of built (with_arguments numbers (Some [] ∷ built.parts.arguments))
arguments_are numbers built = ap (with_arguments_of built) (sym (with_arguments_list numbers [] built.parts.arguments))

pub rows_mean : (w : PartWord) (built : Built) → RowsShow grammar14 fixed14 meaning14 (word.Part w) built (grammar14.rows (word.Part w))
rows_mean part.MoreNames built = (by_name _ (λ text. by_value _ _ (λ names. (text ∷ names, refl, refl))), tt)
rows_mean part.NameLines built = (by_name _ (λ text. by_value _ _ (λ names. (text ∷ names, refl, refl))), tt)
rows_mean part.IndexOption built = (by_value _ _ (λ index. (Some index, refl, refl)), tt)
rows_mean part.IndexIn built = (by_number _ (λ n. (index.At n, refl, refl)), ((index.Next, refl, refl), ((index.Last, refl, refl), tt)))
rows_mean part.Inst built = (by_name _ (λ text. by_value _ _ (λ index. (record { name = text; index = index }, refl, refl))), tt)
rows_mean part.FieldOption built = (by_name _ (λ text. (Some text, refl, refl)), tt)
rows_mean part.Ref built =
    (by_name _ (λ text. by_value _ _ (λ index. by_name _ (λ field. (record { instance = record { name = text; index = index }; field = field }, refl, refl)))), tt)
rows_mean part.Number built = (
  by_number _ (λ n. (record { sign = Some sign.Plus; literal = n }, refl, refl)),
  (by_number _ (λ n. (record { sign = Some sign.Minus; literal = n }, refl, refl)), (by_number _ (λ n. (record { sign = None; literal = n }, refl, refl)), tt)),
)
rows_mean part.Arguments built = (by_value _ _ (λ numbers. (Some numbers, refl, arguments_are numbers built)), tt)
rows_mean part.NumberList built = (by_value _ _ (λ number. by_value _ _ (λ numbers. (number ∷ numbers, refl, refl))), tt)
rows_mean part.MoreNumbers built = (by_value _ _ (λ number. by_value _ _ (λ numbers. (number ∷ numbers, refl, refl))), tt)
rows_mean part.MaskOption built = (by_number _ (λ n. (Some n, refl, refl)), tt)

pub none_means : (w : PartWord) (built : Built) → NoneShows grammar14 fixed14 meaning14 (word.Part w) built (grammar14.otherwise (word.Part w))
none_means part.MoreNames built = ([], refl, refl)
none_means part.NameLines built = ([], refl, refl)
none_means part.IndexOption built = (None, refl, refl)
none_means part.IndexIn built = tt
none_means part.Inst built = tt
none_means part.FieldOption built = (None, refl, refl)
none_means part.Ref built = tt
none_means part.Number built = tt
none_means part.Arguments built = (None, refl, refl)
none_means part.NumberList built = ([], refl, refl)
none_means part.MoreNumbers built = ([], refl, refl)
none_means part.MaskOption built = (None, refl, refl)
