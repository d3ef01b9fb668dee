-- That the rows of parser states have the meaning of their words.
use Rattle.std.proofs.Common.{◌≡◌, ℕ, Bool, true, false, cond, List, [], ◌∷◌, ◌++◌, codes, Option, Some, None, refl, sym, ap, ap₂, ◌∙◌, append_assoc}
use Rattle.std.specs.List.{flat_map, list_all}
use Rattle.predictive_parser.proofs.Meanings.{RowsShow, NoneShows}
use Rattle.p414_syntax.specs.declared.keyword.Keyword.TheVariants as key
use Rattle.p414_syntax.specs.declared.lexeme.Lexeme.TheVariants.{Number}
use Rattle.p414_syntax.specs.declared.parts.Index.{Index}
use Rattle.p414_syntax.specs.declared.parts.Ref.{Ref}
use Rattle.p414_syntax.specs.declared.parsers.PValue.{PValue}
use Rattle.p414_syntax.specs.declared.parsers.PValue.TheVariants as value
use Rattle.p414_syntax.specs.declared.parsers.PStmt.TheVariants as pstmt
use Rattle.p414_syntax.specs.declared.parsers.Masked.{Masked}
use Rattle.p414_syntax.specs.declared.parsers.CaseValues.TheVariants as case_values
use Rattle.p414_syntax.specs.declared.parsers.CaseTarget.{CaseTarget}
use Rattle.p414_syntax.specs.declared.parsers.CaseTarget.TheVariants as target
use Rattle.p414_syntax.specs.declared.parsers.Case.{Case}
use Rattle.p414_syntax.specs.declared.parsers.Return.TheVariants as end_of
use Rattle.p414_syntax.specs.Words.{name, keyword, paren_open, paren_close, brace_open, brace_close, semicolon, colon, comma, dot}
use Rattle.p414_syntax.specs.Written.{written_option, after_commas, written_index, written_inst, written_ref, written_pvalue, written_pstmt, written_mask, written_masked, written_target, written_case}
use Rattle.p414_syntax.specs.Conditions.{is_bare, is_pvalue, is_select_value, is_pstmt, is_case}
use Rattle.p414_reader.specs.declared.symbols.Word.TheVariants as word
use Rattle.p414_reader.specs.declared.symbols.StateWord.{StateWord}
use Rattle.p414_reader.specs.declared.symbols.StateWord.TheVariants as state
use Rattle.predictive_parser.specs.Values.{newest, older, extended}
use Rattle.p414_reader.specs.internal.Actions.{value_of}
use Rattle.p414_reader.specs.internal.Rows.{grammar14}
use Rattle.p414_reader.specs.declared.built.Built.{Built}
use Rattle.p414_reader.proofs.Meaning.{meaning14}
use Rattle.p414_reader.proofs.Lists.{by_value, by_kept, both, not_false, bare_spelled, end_joined, ends_joined, extended_by_list}
use Rattle.p414_reader.proofs.Fixed.{fixed14, by_name, by_number}

select_is_value : (v : PValue) → is_select_value v ≡ true → is_pvalue v ≡ true
select_is_value (value.Current offset bits) e = refl
select_is_value (value.Latest f) e = refl
select_is_value (value.Field r) e = e
select_is_value (value.Number n) e = refl

-- a field as the value that it is

value_spelled : (text : List ℕ) (index : Option Index) (field : List ℕ) → name text ∷ (written_option written_index index ++ dot ∷ name field ∷ []) ≡ written_pvalue (value_of (record { instance = record { name = text; index = index }; field = field }))
value_spelled text index field = go (is_bare (codes "latest") (record { name = text; index = index })) refl
  where
    go : (b : Bool) → is_bare (codes "latest") (record { name = text; index = index }) ≡ b → name text ∷ (written_option written_index index ++ dot ∷ name field ∷ []) ≡ written_pvalue (cond b (value.Latest field) (value.Field (record { instance = record { name = text; index = index }; field = field })))
    go true e = ap (λ us. us ++ dot ∷ name field ∷ []) (bare_spelled text (codes "latest") index e)
    go false e = refl

value_kept : (r : Ref) → is_select_value (value_of r) ≡ true
value_kept r = go (is_bare (codes "latest") r.instance) refl
  where
    go : (b : Bool) → is_bare (codes "latest") r.instance ≡ b → is_select_value (cond b (value.Latest r.field) (value.Field r)) ≡ true
    go true e = refl
    go false e = not_false (is_bare (codes "latest") r.instance) e

-- what is built with these lists of values and of cases, or of masked values, the newest of which are taken

abbrev with_select : Built → List (List PValue) → List (List Case) → Built
with_select built values cases =
    record built {
      states = record built.states {
        value_lists = older values;
        cases = older cases;
        ends = end_of.Select (newest [] values) (newest [] cases) ∷ built.states.ends;
      };
    }

abbrev with_case : Built → CaseTarget → List (List Masked) → Built
with_case built t lists =
    record built {
      states = record built.states {
        masked = older lists;
        cases = extended (record { values = case_values.Values (newest [] lists); target = t } ∷ []) built.states.cases;
      };
    }

-- a select, as it is read
select_spelled : (v : PValue) (vs : List PValue) (c : Case) (cs : List Case) → written_pvalue v ++ (after_commas written_pvalue vs ++ paren_close ∷ brace_open ∷ (written_case c ++ (flat_map written_case cs ++ brace_close ∷ []))) ≡ ((written_pvalue v ++ after_commas written_pvalue vs) ++ paren_close ∷ []) ++ brace_open ∷ ((written_case c ++ flat_map written_case cs) ++ brace_close ∷ [])
select_spelled v vs c cs =
    sym (append_assoc (written_pvalue v) (after_commas written_pvalue vs) (paren_close ∷ brace_open ∷ (written_case c ++ (flat_map written_case cs ++ brace_close ∷ []))))
    ∙ end_joined (written_pvalue v ++ after_commas written_pvalue vs) paren_close (brace_open ∷ (written_case c ++ (flat_map written_case cs ++ brace_close ∷ [])))
    ∙ ap (λ us. ((written_pvalue v ++ after_commas written_pvalue vs) ++ paren_close ∷ []) ++ brace_open ∷ us) (sym (append_assoc (written_case c) (flat_map written_case cs) (brace_close ∷ [])))

pub rows_mean : (w : StateWord) (built : Built) → RowsShow grammar14 fixed14 meaning14 (word.State w) built (grammar14.rows (word.State w))
rows_mean state.Statements built = (
  by_value _ _ (λ instance. by_kept _ _ _ (λ ss ok. (
    pstmt.Extract instance ∷ ss,
    (ap (λ us. keyword key.Extract ∷ paren_open ∷ us) (ends_joined (written_inst instance) paren_close semicolon (flat_map written_pstmt ss)), ok),
    refl,
  ))),
  (
    by_value _ _ (λ r. by_kept _ _ _ (λ v ok. by_kept _ _ _ (λ ss oks. (
      pstmt.SetMetadata r v ∷ ss,
      (
        ap (λ us. keyword key.SetMetadata ∷ paren_open ∷ us)
            (sym (append_assoc (written_ref r) (comma ∷ written_pvalue v) (paren_close ∷ semicolon ∷ flat_map written_pstmt ss))
            ∙ ends_joined (written_ref r ++ comma ∷ written_pvalue v) paren_close semicolon (flat_map written_pstmt ss)),
        both (is_pvalue v) (list_all is_pstmt ss) ok oks,
      ),
      refl,
    )))),
    tt,
  ),
)
rows_mean state.Value built =
    (by_value _ _ (λ n. (value.Number n, (refl, refl), refl)), (by_kept _ _ _ (λ v ok. (v, (refl, select_is_value v ok), refl)), tt))
rows_mean state.SelectValue built = (
  λ us v e. (v, e, refl),
  (
    λ us v e. (v, e, refl),
    (
      by_name _ (λ text. by_value _ _ (λ index. by_name _ (λ field. (
        value_of (record { instance = record { name = text; index = index }; field = field }),
        (value_spelled text index field, value_kept (record { instance = record { name = text; index = index }; field = field })),
        refl,
      )))),
      tt,
    ),
  ),
)
rows_mean state.AfterCurrent built = (
  by_number _ (λ offset. by_number _ (λ bits. (value.Current offset bits, (refl, refl), refl))),
  (
    by_name _ (λ field. (value.Field (record { instance = record { name = codes "current"; index = None }; field = field }), (refl, refl), refl)),
    (
      by_value _ _ (λ index. by_name _ (λ field.
          (value.Field (record { instance = record { name = codes "current"; index = Some index }; field = field }), (refl, refl), refl))),
      tt,
    ),
  ),
)
rows_mean state.AfterLatest built = (
  by_name _ (λ field. (value.Latest field, (refl, refl), refl)),
  (
    by_value _ _ (λ index. by_name _ (λ field.
        (value.Field (record { instance = record { name = codes "latest"; index = Some index }; field = field }), (refl, refl), refl))),
    tt,
  ),
)
rows_mean state.MoreValues built =
    (by_kept _ _ _ (λ v ok. by_kept _ _ _ (λ vs oks. (v ∷ vs, (refl, both (is_select_value v) (list_all is_select_value vs) ok oks), refl))), tt)
rows_mean state.Return built =
    (λ us end e. (end, e, refl), (by_name _ (λ text. (end_of.ParseError text, (refl, refl), refl)), tt))
rows_mean state.AfterReturn built =
    (λ us end e. (end, e, refl), (by_name _ (λ text. (end_of.State text, (refl, refl), refl)), tt))
rows_mean state.AfterSelect built = (
  (end_of.State (codes "select"), (refl, refl), refl),
  (
    by_kept _ _ _ (λ v ok. by_kept _ _ _ (λ vs oks. by_kept _ _ _ (λ c okc. by_kept _ _ _ (λ cs okcs. (
      end_of.Select (v ∷ vs) (c ∷ cs),
      (
        ap (λ us. keyword key.Return ∷ keyword key.Select ∷ paren_open ∷ us) (select_spelled v vs c cs),
        both (list_all is_select_value (v ∷ vs)) (list_all is_case (c ∷ cs))
            (both (is_select_value v) (list_all is_select_value vs) ok oks) (both (is_case c) (list_all is_case cs) okc okcs),
      ),
      ap₂ (with_select built) (sym (extended_by_list vs (v ∷ []) built.states.value_lists)) (sym (extended_by_list cs (c ∷ []) built.states.cases)),
    ))))),
    tt,
  ),
)
rows_mean state.Case built = (
  by_value _ _ (λ t. (record { values = case_values.Default; target = t }, (refl, refl), refl)),
  (
    by_number _ (λ n. by_value _ _ (λ mask. by_value _ _ (λ ms. by_value _ _ (λ t. (
      record { values = case_values.Values (record { value = n; mask = mask } ∷ ms); target = t },
      (
        ap (λ us. Number n ∷ us)
            (sym (append_assoc (written_option written_mask mask) (after_commas written_masked ms) (colon ∷ (written_target t ++ semicolon ∷ [])))),
        refl,
      ),
      ap (with_case built t) (sym (extended_by_list ms (record { value = n; mask = mask } ∷ []) built.states.masked)),
    ))))),
    tt,
  ),
)
rows_mean state.Cases built =
    (by_kept _ _ _ (λ c ok. by_kept _ _ _ (λ cs oks. (c ∷ cs, (refl, both (is_case c) (list_all is_case cs) ok oks), refl))), tt)
rows_mean state.MoreMasked built =
    (by_number _ (λ n. by_value _ _ (λ mask. by_value _ _ (λ ms. (record { value = n; mask = mask } ∷ ms, refl, refl)))), tt)
rows_mean state.Target built =
    (λ us t e. (t, e, refl), (by_name _ (λ text. (target.State text, refl, refl)), tt))
rows_mean state.AfterError built = (by_name _ (λ text. (target.ParseError text, refl, refl)), tt)

pub none_means : (w : StateWord) (built : Built) → NoneShows grammar14 fixed14 meaning14 (word.State w) built (grammar14.otherwise (word.State w))
none_means state.Statements built = ([], (refl, refl), refl)
none_means state.Value built = tt
none_means state.SelectValue built = tt
none_means state.AfterCurrent built = tt
none_means state.AfterLatest built = tt
none_means state.MoreValues built = ([], (refl, refl), refl)
none_means state.Return built = tt
none_means state.AfterReturn built = tt
none_means state.AfterSelect built = tt
none_means state.Case built = tt
none_means state.Cases built = ([], (refl, refl), refl)
none_means state.MoreMasked built = ([], refl, refl)
none_means state.Target built = tt
none_means state.AfterError built = (target.State (codes "parse_error"), refl, refl)
