-- That the rows of groups of tokens and of declarations have the meaning of their words.
use Rattle.std.proofs.Common.{◌≡◌, ℕ, suc, true, ◌&&◌, List, [], ◌∷◌, ◌++◌, map, codes, Option, Some, None, refl, sym, ap, ◌∙◌, append_assoc, append-nil}
use Rattle.std.specs.List.{flat_map, list_all}
use Rattle.predictive_parser.specs.Values.{extended_option}
use Rattle.predictive_parser.proofs.Meanings.{RowsShow, NoneShows}
use Rattle.p414_syntax.specs.declared.keyword.Keyword.TheVariants as key
use Rattle.p414_syntax.specs.declared.lexeme.Lexeme.{Lexeme}
use Rattle.p414_syntax.specs.declared.syntax.LeftOutKind.TheVariants as left_out
use Rattle.p414_syntax.specs.declared.syntax.Decl.TheVariants as decl
use Rattle.p414_syntax.specs.Tree.{no_statements}
use Rattle.p414_syntax.specs.Words.{name, keyword, brace_open, brace_close, paren_open, paren_close, semicolon}
use Rattle.p414_syntax.specs.Written.{written_option, in_braces, attribute, written_literal, name_line, by_commas, written_name, written_field, tail_word, written_tail, written_size, written_item, written_ref, written_calc, written_pstmt, written_return, written_call, table_word, written_table_attr, state_word, written_state_attr, written_stmt, written_decl}
use Rattle.p414_syntax.specs.Conditions.{Brace, opens, closes, neither, brace_of, behind_brace, is_balanced, all_different, is_tail, is_pstmt, is_return, is_table_attr, has_word, table_needs, counter_needs, register_needs, is_decl}
use Rattle.p414_reader.specs.declared.symbols.Word.TheVariants as word
use Rattle.p414_reader.specs.declared.built.Built.{Built}
use Rattle.p414_reader.specs.internal.Classes.{is_neither}
use Rattle.p414_reader.specs.internal.Rows.{grammar14}
use Rattle.p414_reader.proofs.Meaning.{meaning14, with_tokens}
use Rattle.p414_reader.proofs.Lists.{both, extended_by_list, with_tokens_list}
use Rattle.p414_reader.proofs.Fixed.{fixed14, by_name, by_number}
use Rattle.p414_reader.proofs.Blocks.{block_of, with_stmts_is, written_block, is_block}

-- groups of tokens

-- a token that is no brace changes no depth
same_depth : (token : Lexeme) (depth : ℕ) (tokens : List Lexeme) → is_neither (brace_of token) ≡ true → is_balanced depth (token ∷ tokens) ≡ is_balanced depth tokens
same_depth token depth tokens ok = go (brace_of token) ok
  where
    go : (b : Brace) → is_neither b ≡ true → behind_brace b depth (λ d. is_balanced d tokens) ≡ is_balanced depth tokens
    go opens e = cc
    go closes e = cc
    go neither e = refl

with_tokens_append : (us vs : List Lexeme) (groups : List (Option (List Lexeme))) → with_tokens (us ++ vs) groups ≡ with_tokens vs (with_tokens us groups)
with_tokens_append [] vs groups = refl
with_tokens_append (u ∷ us) vs groups = with_tokens_append us vs (extended_option u groups)

pub group_rows_mean : (b : Built) → RowsShow grammar14 fixed14 meaning14 word.Group b (grammar14.rows word.Group)
group_rows_mean b = (
  λ token ok us tokens f. rw f.0 (token ∷ tokens, (refl, λ depth more. same_depth token depth (tokens ++ more) ok ∙ f.1 depth more), refl),
  (
    λ us inner f vs tokens g. rw (f.0, g.0) (
      brace_open ∷ (inner ++ brace_close ∷ tokens),
      (refl, λ depth more. ap (is_balanced (suc depth)) (append_assoc inner (brace_close ∷ tokens) more) ∙ f.1 (suc depth) (brace_close ∷ (tokens ++ more)) ∙ g.1 depth more),
      rw (with_tokens_append inner (brace_close ∷ tokens) (extended_option brace_open b.groups)),
    ),
    tt,
  ),
)

pub group_none_means : (b : Built) → NoneShows grammar14 fixed14 meaning14 word.Group b (grammar14.otherwise word.Group)
group_none_means b = ([], (refl, λ depth more. refl), refl)

pub end_rows_mean : (b : Built) → RowsShow grammar14 fixed14 meaning14 word.LeftOutEnd b (grammar14.rows word.LeftOutEnd)
end_rows_mean b = (
  (None, (refl, refl), refl),
  (λ us tokens f. rw f.0 (Some tokens, (refl, ap (is_balanced 0) (sym (append-nil tokens)) ∙ f.1 0 []), rw (with_tokens_list tokens [] b.groups)), tt),
)

-- declarations

-- the tokens of declarations, and more behind them, in the order in which they are read

two_braced : (first second more : List Lexeme) → first ++ brace_close ∷ (second ++ brace_close ∷ more) ≡ (((first ++ brace_close ∷ []) ++ second) ++ brace_close ∷ []) ++ more
two_braced first second more =
    rw (
      append_assoc ((first ++ brace_close ∷ []) ++ second) (brace_close ∷ []) more,
      append_assoc (first ++ brace_close ∷ []) second (brace_close ∷ more),
      append_assoc first (brace_close ∷ []) (second ++ brace_close ∷ more),
    )

entry_tokens : (front first second more : List Lexeme) → front ++ brace_open ∷ (first ++ (second ++ brace_close ∷ more)) ≡ (front ++ in_braces (first ++ second)) ++ more
entry_tokens front first second more =
    rw (
      append_assoc front (brace_open ∷ ((first ++ second) ++ brace_close ∷ [])) more,
      append_assoc (first ++ second) (brace_close ∷ []) more,
      append_assoc first second (brace_close ∷ more),
    )

parser_tokens : (first second more : List Lexeme) → first ++ (second ++ brace_close ∷ more) ≡ ((first ++ second) ++ brace_close ∷ []) ++ more
parser_tokens first second more = rw (append_assoc (first ++ second) (brace_close ∷ []) more, append_assoc first second (brace_close ∷ more))

action_tokens : (first second more : List Lexeme) → first ++ paren_close ∷ brace_open ∷ (second ++ brace_close ∷ more) ≡ ((first ++ paren_close ∷ []) ++ in_braces second) ++ more
action_tokens first second more =
    rw (
      append_assoc (first ++ paren_close ∷ []) (brace_open ∷ (second ++ brace_close ∷ [])) more,
      append_assoc first (paren_close ∷ []) (brace_open ∷ ((second ++ brace_close ∷ []) ++ more)),
      append_assoc second (brace_close ∷ []) more,
    )

pub decl_rows_mean : (b : Built) → RowsShow grammar14 fixed14 meaning14 word.Decls b (grammar14.rows word.Decls)
decl_rows_mean b = (
  by_name _ (λ text us fields e vs tails s ws ds h.
      let d = decl.HeaderType (record { name = text; fields = fields; tails = tails }) in
      rw (e, s.0, h.0) (
        d ∷ ds,
        (
          ap (λ (xs : List Lexeme). keyword key.HeaderType ∷ name text ∷ brace_open ∷ keyword key.Fields ∷ brace_open ∷ xs)
              (two_braced (flat_map written_field fields) (flat_map written_tail tails) (flat_map written_decl ds)),
          both (is_decl d) (list_all is_decl ds) (both (list_all is_tail tails) (all_different (map tail_word tails)) s.1 (s.2 refl)) h.1,
        ),
        rw (extended_by_list fields [] b.headers.fields, extended_by_list tails [] b.bodies.tails, append_assoc b.decls (d ∷ []) ds),
      )),
  (
    by_name _ (λ type_. by_name _ (λ text us size e vs ds h.
        let d = decl.Header (record { header_type = type_; name = text; size = size }) in
        rw (e, h.0) (d ∷ ds, (rw (append_assoc (written_option written_size size) (semicolon ∷ []) (flat_map written_decl ds)), h.1), rw (append_assoc b.decls (d ∷ []) ds)))),
    (
      by_name _ (λ type_. by_name _ (λ text us initials e vs ds h.
          let d = decl.Metadata (record { header_type = type_; name = text; initials = initials }) in
          rw (e, h.0) (d ∷ ds, (refl, h.1), rw (append_assoc b.decls (d ∷ []) ds)))),
      (
        by_name _ (λ text us items s vs ds h.
            let d = decl.FieldList (record { name = text; items = items }) in
            rw (s.0, h.0) (
              d ∷ ds,
              (rw (append_assoc (flat_map written_item items) (brace_close ∷ []) (flat_map written_decl ds)), both (is_decl d) (list_all is_decl ds) s.1 h.1),
              rw (extended_by_list items [] b.calculations.items, append_assoc b.decls (d ∷ []) ds),
            )),
        (
          by_name _ (λ text. by_name _ (λ first us names e. by_name _ (λ algorithm. by_number _ (λ n vs ds h.
              let d = decl.FieldListCalculation (record { name = text; input = first ∷ names; algorithm = algorithm; output_width = n }) in
              rw (e, h.0) (
                d ∷ ds,
                (
                  ap (λ (xs : List Lexeme). keyword key.FieldListCalculation ∷ name text ∷ brace_open ∷ keyword key.Input ∷ brace_open ∷ xs)
                      (two_braced (flat_map name_line (first ∷ names)) (attribute (codes "algorithm") (written_name algorithm) ++ attribute (codes "output_width") (written_literal n)) (flat_map written_decl ds)),
                  h.1,
                ),
                rw (extended_by_list names (first ∷ []) b.parts.name_lists, append_assoc b.decls (d ∷ []) ds),
              ))))),
          (
            λ us r e vs entry f ws entries g xs ds h.
                let d = decl.CalculatedField (record { field = r; entries = entry ∷ entries }) in
                rw (e, f, g, h.0) (
                  d ∷ ds,
                  (ap (λ (xs : List Lexeme). keyword key.CalculatedField ∷ xs) (entry_tokens (written_ref r) (written_calc entry) (flat_map written_calc entries) (flat_map written_decl ds)), h.1),
                  rw (extended_by_list entries (entry ∷ []) b.calculations.entries, append_assoc b.decls (d ∷ []) ds),
                ),
            (
              by_name _ (λ text us statements s vs end f ws ds h.
                  let d = decl.Parser (record { name = text; statements = statements; end = end }) in
                  rw (s.0, f.0, h.0) (
                    d ∷ ds,
                    (
                      ap (λ (xs : List Lexeme). keyword key.Parser ∷ name text ∷ brace_open ∷ xs) (parser_tokens (flat_map written_pstmt statements) (written_return end) (flat_map written_decl ds)),
                      both (is_decl d) (list_all is_decl ds) (both (list_all is_pstmt statements) (is_return end) s.1 f.1) h.1,
                    ),
                    rw (extended_by_list statements [] b.states.statements, append_assoc b.decls (d ∷ []) ds),
                  )),
              (
                by_name _ (λ text us parameters e vs calls f ws ds h.
                    let d = decl.Action (record { name = text; parameters = parameters; calls = calls }) in
                    rw (e, f, h.0) (
                      d ∷ ds,
                      (ap (λ (xs : List Lexeme). keyword key.Action ∷ name text ∷ paren_open ∷ xs) (action_tokens (by_commas written_name parameters) (flat_map written_call calls) (flat_map written_decl ds)), h.1),
                      rw (extended_by_list parameters [] b.parts.name_lists, extended_by_list calls [] b.calls.calls, append_assoc b.decls (d ∷ []) ds),
                    )),
                (
                  by_name _ (λ text us attrs s vs ds h.
                      let d = decl.Table (record { name = text; attributes = attrs }) in
                      rw (s.0, h.0) (
                        d ∷ ds,
                        (
                          rw (append_assoc (flat_map written_table_attr attrs) (brace_close ∷ []) (flat_map written_decl ds)),
                          both (is_decl d) (list_all is_decl ds)
                              (both (list_all is_table_attr attrs) (all_different (map table_word attrs) && has_word table_needs (map table_word attrs)) s.1
                              (both (all_different (map table_word attrs)) (has_word table_needs (map table_word attrs)) (s.3 refl refl) s.2)) h.1,
                        ),
                        rw (extended_by_list attrs [] b.tables.attributes, append_assoc b.decls (d ∷ []) ds),
                      )),
                  (
                    by_name _ (λ text us attrs s vs ds h.
                        let d = decl.Counter (record { name = text; attributes = attrs }) in
                        rw (s.0, h.0) (
                          d ∷ ds,
                          (
                            rw (append_assoc (flat_map written_state_attr attrs) (brace_close ∷ []) (flat_map written_decl ds)),
                            both (is_decl d) (list_all is_decl ds) (both (all_different (map state_word attrs)) (has_word counter_needs (map state_word attrs)) (s.2 refl refl) s.1) h.1,
                          ),
                          rw (extended_by_list attrs [] b.objects, append_assoc b.decls (d ∷ []) ds),
                        )),
                    (
                      by_name _ (λ text us attrs s vs ds h.
                          let d = decl.Meter (record { name = text; attributes = attrs }) in
                          rw (s.0, h.0) (
                            d ∷ ds,
                            (
                              rw (append_assoc (flat_map written_state_attr attrs) (brace_close ∷ []) (flat_map written_decl ds)),
                              both (is_decl d) (list_all is_decl ds) (both (all_different (map state_word attrs)) (has_word counter_needs (map state_word attrs)) (s.2 refl refl) s.1) h.1,
                            ),
                            rw (extended_by_list attrs [] b.objects, append_assoc b.decls (d ∷ []) ds),
                          )),
                      (
                        by_name _ (λ text us attrs s vs ds h.
                            let d = decl.Register (record { name = text; attributes = attrs }) in
                            rw (s.0, h.0) (
                              d ∷ ds,
                              (
                                rw (append_assoc (flat_map written_state_attr attrs) (brace_close ∷ []) (flat_map written_decl ds)),
                                both (is_decl d) (list_all is_decl ds) (both (all_different (map state_word attrs)) (has_word register_needs (map state_word attrs)) (s.2 refl refl) s.1) h.1,
                              ),
                              rw (extended_by_list attrs [] b.objects, append_assoc b.decls (d ∷ []) ds),
                            )),
                        (
                          by_name _ (λ text us ss f vs ds h.
                              let d = decl.Control (record { name = text; body = block_of ss }) in
                              rw (f.0, h.0) (
                                d ∷ ds,
                                (
                                  rw (written_block ss, append_assoc (flat_map written_stmt ss) (brace_close ∷ []) (flat_map written_decl ds)),
                                  both (is_decl d) (list_all is_decl ds) (is_block ss f.1) h.1,
                                ),
                                rw (with_stmts_is ss no_statements b.bodies.stmts, append_assoc b.decls (d ∷ []) ds),
                              )),
                          (
                            by_name _ (λ text us group f vs ds h.
                                let d = decl.LeftOut (record { kind = left_out.ParserValueSet; name = text; group = group }) in
                                rw (f.0, h.0) (d ∷ ds, (refl, both (is_decl d) (list_all is_decl ds) f.1 h.1), rw (append_assoc b.decls (d ∷ []) ds))),
                            (
                              by_name _ (λ text us group f vs ds h.
                                  let d = decl.LeftOut (record { kind = left_out.ParserException; name = text; group = group }) in
                                  rw (f.0, h.0) (d ∷ ds, (refl, both (is_decl d) (list_all is_decl ds) f.1 h.1), rw (append_assoc b.decls (d ∷ []) ds))),
                              (
                                by_name _ (λ text us group f vs ds h.
                                    let d = decl.LeftOut (record { kind = left_out.ActionProfile; name = text; group = group }) in
                                    rw (f.0, h.0) (d ∷ ds, (refl, both (is_decl d) (list_all is_decl ds) f.1 h.1), rw (append_assoc b.decls (d ∷ []) ds))),
                                (
                                  by_name _ (λ text us group f vs ds h.
                                      let d = decl.LeftOut (record { kind = left_out.ActionSelector; name = text; group = group }) in
                                      rw (f.0, h.0) (d ∷ ds, (refl, both (is_decl d) (list_all is_decl ds) f.1 h.1), rw (append_assoc b.decls (d ∷ []) ds))),
                                  tt,
                                ),
                              ),
                            ),
                          ),
                        ),
                      ),
                    ),
                  ),
                ),
              ),
            ),
          ),
        ),
      ),
    ),
  ),
)

pub decl_none_means : (b : Built) → NoneShows grammar14 fixed14 meaning14 word.Decls b (grammar14.otherwise word.Decls)
decl_none_means b = ([], (refl, refl), rw (append-nil b.decls))
