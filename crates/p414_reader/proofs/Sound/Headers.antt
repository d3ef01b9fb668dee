-- That the rows of header types, header instances and metadata have the meaning of their words.
use Rattle.std.proofs.Common.{ℕ, Bool, true, false, List, [], ◌∷◌, map, Some, None, refl, sym, ap}
use Rattle.std.specs.List.{flat_map, list_all}
use Rattle.predictive_parser.proofs.Meanings.{RowsShow, NoneShows}
use Rattle.p414_syntax.specs.declared.headers.FieldWidth.TheVariants as width
use Rattle.p414_syntax.specs.declared.headers.Initial.{Initial}
use Rattle.p414_syntax.specs.Words.{name, keyword, brace_open, brace_close, semicolon, colon}
use Rattle.p414_syntax.specs.Views.{length_is, max_length_is}
use Rattle.p414_syntax.specs.Written.{written_expr, written_width, written_field_attributes, written_field, tail_word, written_tail, written_number, written_initial}
use Rattle.p414_syntax.specs.Conditions.{is_expr, is_tail}
use Rattle.p414_syntax.specs.declared.keyword.Keyword.TheVariants as key
use Rattle.p414_reader.specs.declared.symbols.Word.TheVariants as word
use Rattle.p414_reader.specs.declared.symbols.HeaderWord.{HeaderWord}
use Rattle.p414_reader.specs.declared.symbols.HeaderWord.TheVariants as header
use Rattle.predictive_parser.specs.Values.{newest, older}
use Rattle.p414_reader.specs.internal.Rows.{grammar14}
use Rattle.p414_reader.specs.declared.built.Built.{Built}
use Rattle.p414_reader.proofs.Meaning.{meaning14}
use Rattle.p414_reader.proofs.Lists.{by_value, by_kept, by_kept_two, both, end_joined, end_joined_two, extended_by_list, stay_none, stay_extended}
use Rattle.p414_reader.proofs.Fixed.{fixed14, by_name, by_number, by_new}

-- what is built with these lists of names, or of initial values, the newest of which is taken

abbrev with_names : Built → List (List (List ℕ)) → Built
with_names built lists = record built { parts = record built.parts { name_lists = lists } }

abbrev with_initials : Built → Bool → List (List Initial) → Built
with_initials built stands lists =
    record built {
      headers = record built.headers {
        initials = older lists;
        initials_options = Some (record { values = newest [] lists; semicolon = stands }) ∷ built.headers.initials_options;
      };
    }

pub rows_mean : (w : HeaderWord) (built : Built) → RowsShow grammar14 fixed14 meaning14 (word.Header w) built (grammar14.rows (word.Header w))
rows_mean header.Fields built = (
  by_name _ (λ text. by_value _ _ (λ width. by_value _ _ (λ names. by_value _ _ (λ fields. (
    record { name = text; width = width; attributes = names } ∷ fields,
    ap (λ us. name text ∷ colon ∷ us) (end_joined_two (written_width width) (written_field_attributes names) semicolon (flat_map written_field fields)),
    refl,
  ))))),
  tt,
)
rows_mean header.Width built = (by_number _ (λ n. (width.Bits n, refl, refl)), ((width.Rest, refl, refl), tt))
rows_mean header.Attributes built =
    (by_name _ (λ text. by_value _ _ (λ names. (text ∷ names, refl, ap (with_names built) (sym (extended_by_list names (text ∷ []) built.parts.name_lists))))), tt)
rows_mean header.Tails built = (
  by_new key.Length (map tail_word (newest [] built.bodies.tails)) _ (λ new. by_kept _ _ _ (λ e ok. by_kept_two _ _ _ _ (λ tails oks stay. (
    length_is e ∷ tails,
    (
      ap (λ us. keyword key.Length ∷ colon ∷ us) (end_joined (written_expr e) semicolon (flat_map written_tail tails)),
      both (is_expr 0 e) (list_all is_tail tails) (ok refl) oks,
      stay_extended tail_word (length_is e) tails built.bodies.tails new stay,
    ),
    refl,
  )))),
  (
    by_new key.MaxLength (map tail_word (newest [] built.bodies.tails)) _ (λ new. by_kept _ _ _ (λ e ok. by_kept_two _ _ _ _ (λ tails oks stay. (
      max_length_is e ∷ tails,
      (
        ap (λ us. keyword key.MaxLength ∷ colon ∷ us) (end_joined (written_expr e) semicolon (flat_map written_tail tails)),
        both (is_expr 0 e) (list_all is_tail tails) (ok refl) oks,
        stay_extended tail_word (max_length_is e) tails built.bodies.tails new stay,
      ),
      refl,
    )))),
    tt,
  ),
)
rows_mean header.Size built = (by_number _ (λ n. (Some n, refl, refl)), tt)
rows_mean header.MetadataEnd built = (
  (None, refl, refl),
  (
    by_value _ _ (λ initials. by_value _ _ (λ stands. (
      Some (record { values = initials; semicolon = stands }),
      ap (λ us. brace_open ∷ us) (end_joined (flat_map written_initial initials) brace_close _),
      ap (with_initials built stands) (sym (extended_by_list initials [] built.headers.initials)),
    ))),
    tt,
  ),
)
rows_mean header.Initials built = (
  by_name _ (λ text. by_value _ _ (λ number. by_value _ _ (λ initials. (
    record { field = text; value = number } ∷ initials,
    ap (λ us. name text ∷ colon ∷ us) (end_joined (written_number number) semicolon (flat_map written_initial initials)),
    refl,
  )))),
  tt,
)
rows_mean header.Semicolon built = ((true, refl, refl), tt)

pub none_means : (w : HeaderWord) (built : Built) → NoneShows grammar14 fixed14 meaning14 (word.Header w) built (grammar14.otherwise (word.Header w))
none_means header.Fields built = ([], refl, refl)
none_means header.Width built = tt
none_means header.Attributes built = ([], refl, refl)
none_means header.Tails built = ([], (refl, refl, stay_none (map tail_word (newest [] built.bodies.tails))), refl)
none_means header.Size built = (None, refl, refl)
none_means header.MetadataEnd built = tt
none_means header.Initials built = ([], refl, refl)
none_means header.Semicolon built = (false, refl, refl)
