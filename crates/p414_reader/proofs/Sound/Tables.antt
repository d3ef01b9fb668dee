-- That the rows of tables have the meaning of their words.
use Rattle.std.proofs.Common.{◌≡◌, ℕ, true, false, List, [], ◌∷◌, ◌++◌, map, codes, Option, Some, None, refl, append_assoc}
use Rattle.std.specs.List.{flat_map, list_all}
use Rattle.std.proofs.lemmas.Bool.{or_right}
use Rattle.predictive_parser.proofs.Meanings.{RowsShow, NoneShows}
use Rattle.p414_syntax.specs.declared.keyword.Keyword.TheVariants as key
use Rattle.p414_syntax.specs.declared.lexeme.Lexeme.{Lexeme}
use Rattle.p414_syntax.specs.declared.lexeme.Literal.{Literal}
use Rattle.p414_syntax.specs.declared.parts.Index.{Index}
use Rattle.p414_syntax.specs.declared.tables.TableAttr.TheVariants as attr
use Rattle.p414_syntax.specs.Written.{written_option, written_index, written_mask, written_read, table_word}
use Rattle.p414_syntax.specs.Words.{name, semicolon, colon, dot}
use Rattle.p414_syntax.specs.Conditions.{is_among, is_table_attr, has_word, table_needs}
use Rattle.p414_reader.specs.declared.symbols.Word.TheVariants as word
use Rattle.p414_reader.specs.declared.symbols.TableWord.{TableWord}
use Rattle.p414_reader.specs.declared.symbols.TableWord.TheVariants as table
use Rattle.predictive_parser.specs.Values.{newest}
use Rattle.p414_reader.specs.internal.Actions.{key_of}
use Rattle.p414_reader.specs.internal.Rows.{grammar14}
use Rattle.p414_reader.specs.declared.built.Built.{Built}
use Rattle.p414_reader.proofs.Meaning.{meaning14, written_dot, extended_by, table_words}
use Rattle.p414_reader.proofs.Needs.{not_needed, still_needed}
use Rattle.p414_reader.proofs.Lists.{both, extended_by_list, stay_extended, stay_none}
use Rattle.p414_reader.proofs.Fixed.{fixed14, by_name, by_number, by_new}

-- the tokens of a line of `reads`, and more behind it, in the order in which they are read
read_tokens : (text : List ℕ) (i : Option Index) (field : Option (List ℕ)) (mask : Option Literal) (kind : List ℕ) (more : List Lexeme) →
    name text ∷ (written_option written_index i ++ (written_option written_dot field ++ (written_option written_mask mask ++ colon ∷ name kind ∷ semicolon ∷ more)))
    ≡ written_read (record { key = key_of (record { name = text; index = i }) field; mask = mask; kind = kind }) ++ more
read_tokens text i None mask kind more = simp append_assoc
read_tokens text i (Some f) mask kind more =
    let front = written_option written_index i in
    let field = dot ∷ name f ∷ [] in
    let mask = written_option written_mask mask in
    let end = colon ∷ name kind ∷ semicolon ∷ [] in
    rw (append_assoc (front ++ field) (mask ++ end) more, append_assoc front field ((mask ++ end) ++ more), append_assoc mask end more)

pub rows_mean : (w : TableWord) (built : Built) → RowsShow grammar14 fixed14 meaning14 (word.Table w) built (grammar14.rows (word.Table w))
rows_mean table.Attr b = (
  by_new key.Reads (table_words b) _ (λ new us reads e. rw e (attr.Reads reads, (refl, refl, refl, new), rw (extended_by_list reads [] b.tables.reads))),
  (
    by_new key.MinSize (table_words b) _ (λ new. by_number _ (λ n. (attr.MinSize n, (refl, refl, refl, new), refl))),
    (
      by_new key.MaxSize (table_words b) _ (λ new. by_number _ (λ n. (attr.MaxSize n, (refl, refl, refl, new), refl))),
      (
        by_new key.Size (table_words b) _ (λ new. by_number _ (λ n. (attr.Size n, (refl, refl, refl, new), refl))),
        (
          by_new key.SupportTimeout (table_words b) _ (λ new us on e. rw e (attr.SupportTimeout on, (refl, refl, refl, new), refl)),
          (
            by_new key.DefaultAction (table_words b) _ (λ new. by_name _ (λ text us arguments e.
                rw e (attr.DefaultAction text arguments, (refl, refl, refl, new), refl))),
            tt,
          ),
        ),
      ),
    ),
  ),
)
rows_mean table.Attrs b = (
  by_name _ (λ text us names e vs attrs s.
      rw (e, s.0) (
        attr.Actions (text ∷ names) ∷ attrs,
        (
          simp append_assoc,
          s.1,
          refl,
          λ h. stay_extended table_word (attr.Actions (newest [] (extended_by names ((text ∷ []) ∷ b.parts.name_lists)))) attrs b.tables.attributes (not_needed table_needs (codes "actions") (table_words b) refl h) s.2,
        ),
        rw (extended_by_list names (text ∷ []) b.parts.name_lists),
      )),
  (
    by_name _ (λ text vs attrs s.
        rw s.0 (
          attr.ActionProfile text ∷ attrs,
          (
            refl,
            s.1,
            refl,
            λ h. stay_extended table_word (attr.ActionProfile text) attrs b.tables.attributes (not_needed table_needs (codes "action_profile") (table_words b) refl h) s.2,
          ),
          refl,
        )),
    (
      λ us a s vs attrs f.
          rw (s.0, f.0) (
            a ∷ attrs,
            (
              refl,
              both (is_table_attr a) (list_all is_table_attr attrs) s.1 f.1,
              or_right (is_among (table_word a) table_needs) (has_word table_needs (map table_word attrs)) f.2,
              λ h. stay_extended table_word a attrs b.tables.attributes s.3 (f.3 (still_needed table_word table_needs a b.tables.attributes s.2 h)),
            ),
            refl,
          ),
      tt,
    ),
  ),
)
rows_mean table.MoreAttrs b = (
  by_new key.Actions (table_words b) _ (λ new. by_name _ (λ text us names e vs attrs s.
      rw (e, s.0) (
        attr.Actions (text ∷ names) ∷ attrs,
        (
          simp append_assoc,
          s.1,
          stay_extended table_word (attr.Actions (newest [] (extended_by names ((text ∷ []) ∷ b.parts.name_lists)))) attrs b.tables.attributes new s.2,
        ),
        rw (extended_by_list names (text ∷ []) b.parts.name_lists),
      ))),
  (
    by_new key.ActionProfile (table_words b) _ (λ new. by_name _ (λ text vs attrs s.
        rw s.0 (
          attr.ActionProfile text ∷ attrs,
          (refl, s.1, stay_extended table_word (attr.ActionProfile text) attrs b.tables.attributes new s.2),
          refl,
        ))),
    (
      λ us a s vs attrs f.
          rw (s.0, f.0) (
            a ∷ attrs,
            (refl, both (is_table_attr a) (list_all is_table_attr attrs) s.1 f.1, stay_extended table_word a attrs b.tables.attributes s.3 f.2),
            refl,
          ),
      tt,
    ),
  ),
)
rows_mean table.Timeout b = ((true, refl, refl), ((false, refl, refl), tt))
rows_mean table.Reads b = (
  by_name _ (λ text us index e vs field f ws mask g. by_name _ (λ kind xs reads h.
      rw (e, f, g, h) (record { key = key_of (record { name = text; index = index }) field; mask = mask; kind = kind } ∷ reads, read_tokens text index field mask kind (flat_map written_read reads), refl))),
  tt,
)

pub none_means : (w : TableWord) (built : Built) → NoneShows grammar14 fixed14 meaning14 (word.Table w) built (grammar14.otherwise (word.Table w))
none_means table.Attr b = tt
none_means table.Attrs b = tt
none_means table.MoreAttrs b = ([], (refl, refl, stay_none (table_words b)), refl)
none_means table.Timeout b = tt
none_means table.Reads b = ([], refl, refl)
