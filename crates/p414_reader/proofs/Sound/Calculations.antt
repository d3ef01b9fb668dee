-- That the rows of field lists, calculations and calculated fields have the meaning of their words.
use Rattle.std.proofs.Common.{◌≡◌, ℕ, Bool, true, false, cond, List, [], ◌∷◌, ◌++◌, codes, Option, Some, None, refl, sym, ap, ◌∙◌, append_assoc}
use Rattle.std.specs.List.{flat_map, list_all}
use Rattle.predictive_parser.proofs.Meanings.{RowsShow, NoneShows}
use Rattle.p414_syntax.specs.declared.lexeme.Literal.{Literal}
use Rattle.p414_syntax.specs.declared.lexeme.Lexeme.TheVariants.{Number}
use Rattle.p414_syntax.specs.declared.parts.Index.{Index}
use Rattle.p414_syntax.specs.declared.parts.Inst.{Inst}
use Rattle.p414_syntax.specs.declared.calculations.Item.TheVariants as item
use Rattle.p414_syntax.specs.declared.calculations.CalcUse.TheVariants as calc_use
use Rattle.p414_syntax.specs.declared.calculations.CalcCond.TheVariants as condition
use Rattle.p414_syntax.specs.Words.{name, semicolon, dot, equal}
use Rattle.p414_syntax.specs.Written.{written_option, written_index, written_item, written_cond}
use Rattle.p414_syntax.specs.Conditions.{is_bare, is_item}
use Rattle.p414_reader.specs.declared.symbols.Word.TheVariants as word
use Rattle.p414_reader.specs.declared.symbols.CalculationWord.{CalculationWord}
use Rattle.p414_reader.specs.declared.symbols.CalculationWord.TheVariants as calculation
use Rattle.p414_reader.specs.declared.built.Built.{Built}
use Rattle.p414_reader.specs.internal.Actions.{item_of}
use Rattle.p414_reader.specs.internal.Rows.{grammar14}
use Rattle.p414_reader.proofs.Meaning.{written_dot, meaning14}
use Rattle.p414_reader.proofs.Lists.{by_value, by_kept, both, not_false, bare_spelled, end_joined_two}
use Rattle.p414_reader.proofs.Fixed.{fixed14, by_name, by_number}

-- an instance, or a field of it, as the item that they are
item_spelled : (text : List ℕ) (index : Option Index) (field : Option (List ℕ)) → name text ∷ (written_option written_index index ++ (written_option written_dot field ++ semicolon ∷ [])) ≡ written_item (item_of (record { name = text; index = index }) field)
item_spelled text index None = go (is_bare (codes "payload") (record { name = text; index = index })) refl
  where
    go : (b : Bool) → is_bare (codes "payload") (record { name = text; index = index }) ≡ b → name text ∷ (written_option written_index index ++ semicolon ∷ []) ≡ written_item (cond b item.Payload (item.Instance (record { name = text; index = index })))
    go true e = ap (λ us. us ++ semicolon ∷ []) (bare_spelled text (codes "payload") index e)
    go false e = refl
item_spelled text index (Some f) = ap (λ us. name text ∷ us) (sym (append_assoc (written_option written_index index) (dot ∷ name f ∷ []) (semicolon ∷ [])))

item_kept : (i : Inst) (field : Option (List ℕ)) → is_item (item_of i field) ≡ true
item_kept i None = go (is_bare (codes "payload") i) refl
  where
    go : (b : Bool) → is_bare (codes "payload") i ≡ b → is_item (cond b item.Payload (item.Instance i)) ≡ true
    go true e = refl
    go false e = not_false (is_bare (codes "payload") i) e
item_kept i (Some f) = refl

-- the condition that a field is a number, where the field's instance has this name
field_spelled : (text : List ℕ) (index : Option Index) (field : List ℕ) (n : Literal) → name text ∷ (written_option written_index index ++ dot ∷ name field ∷ equal ∷ Number n ∷ []) ≡ written_cond (condition.Equal (record { instance = record { name = text; index = index }; field = field }) n)
field_spelled text index field n = ap (λ us. name text ∷ us) (sym (append_assoc (written_option written_index index) (dot ∷ name field ∷ []) (equal ∷ Number n ∷ [])))

pub rows_mean : (w : CalculationWord) (built : Built) → RowsShow grammar14 fixed14 meaning14 (word.Calculation w) built (grammar14.rows (word.Calculation w))
rows_mean calculation.Items built = (
  by_number _ (λ n. by_kept _ _ _ (λ items ok. (item.Number n ∷ items, (refl, ok), refl))),
  (
    by_name _ (λ text. by_value _ _ (λ index. by_value _ _ (λ field. by_kept _ _ _ (λ items ok. (
      item_of (record { name = text; index = index }) field ∷ items,
      (
        ap (λ us. name text ∷ us) (end_joined_two (written_option written_index index) (written_option written_dot field) semicolon (flat_map written_item items))
            ∙ ap (λ us. us ++ flat_map written_item items) (item_spelled text index field),
        both (is_item (item_of (record { name = text; index = index }) field)) (list_all is_item items) (item_kept (record { name = text; index = index }) field) ok,
      ),
      refl,
    ))))),
    tt,
  ),
)
rows_mean calculation.Calc built = (
  by_name _ (λ text. by_value _ _ (λ condition. (record { used_to = calc_use.Update; calculation = text; condition = condition }, refl, refl))),
  (by_name _ (λ text. by_value _ _ (λ condition. (record { used_to = calc_use.Verify; calculation = text; condition = condition }, refl, refl))), tt),
)
rows_mean calculation.Calcs built = (by_value _ _ (λ entry. by_value _ _ (λ entries. (entry ∷ entries, refl, refl))), tt)
rows_mean calculation.CalcIf built = (by_value _ _ (λ c. (Some c, refl, refl)), tt)
rows_mean calculation.CalcCond built = (
  λ us c e. (c, e, refl),
  (
    by_name _ (λ text. by_value _ _ (λ index. by_name _ (λ field. by_number _ (λ n.
        (condition.Equal (record { instance = record { name = text; index = index }; field = field }) n, field_spelled text index field n, refl))))),
    tt,
  ),
)
rows_mean calculation.AfterValid built = (
  by_value _ _ (λ instance. (condition.Valid instance, refl, refl)),
  (
    by_name _ (λ field. by_number _ (λ n. (condition.Equal (record { instance = record { name = codes "valid"; index = None }; field = field }) n, refl, refl))),
    (
      by_value _ _ (λ index. by_name _ (λ field. by_number _ (λ n.
          (condition.Equal (record { instance = record { name = codes "valid"; index = Some index }; field = field }) n, refl, refl)))),
      tt,
    ),
  ),
)

pub none_means : (w : CalculationWord) (built : Built) → NoneShows grammar14 fixed14 meaning14 (word.Calculation w) built (grammar14.otherwise (word.Calculation w))
none_means calculation.Items built = ([], (refl, refl), refl)
none_means calculation.Calc built = tt
none_means calculation.Calcs built = ([], refl, refl)
none_means calculation.CalcIf built = (None, refl, refl)
none_means calculation.CalcCond built = tt
none_means calculation.AfterValid built = tt
