-- That the rows of expressions have the meaning of their words.
use Rattle.std.proofs.Common.{◌≡◌, ℕ, suc, Bool, true, false, ◌&&◌, nat_le, if◌then◌else◌, List, [], ◌∷◌, codes, Option, Some, None, refl, sym, ap, subst, ◌∙◌, append_assoc, append-nil, bytes_eq, le_trans, le_refl, leb-true, le-leb}
use Rattle.std.specs.Option.{unwrap_or}
use Rattle.predictive_parser.proofs.Meanings.{Shows, MeansWord, RowsShow, NoneShows}
use Rattle.p414_syntax.specs.declared.keyword.Keyword.TheVariants as key
use Rattle.p414_syntax.specs.declared.lexeme.Lexeme.{Lexeme}
use Rattle.p414_syntax.specs.declared.lexeme.Lexeme.TheVariants as lexeme
use Rattle.p414_syntax.specs.declared.mark.Mark.TheVariants as mark
use Rattle.p414_syntax.specs.declared.node.UnaryOperator.{UnaryOperator}
use Rattle.p414_syntax.specs.declared.node.UnaryOperator.TheVariants as unary_of
use Rattle.p414_syntax.specs.declared.node.BinaryOperator.{BinaryOperator}
use Rattle.p414_syntax.specs.declared.node.BinaryOperator.TheVariants as binary_of
use Rattle.p414_syntax.specs.Tree.{Expr, valid, truth, field, number, parenthesized, unary, binary}
use Rattle.p414_syntax.specs.Words.{name, keyword, paren_open, paren_close, dot}
use Rattle.p414_syntax.specs.Operators.{unary_token, unary_power, binary_token, binary_power}
use Rattle.p414_syntax.specs.Written.{written_option, written_index, written_inst, written_expr}
use Rattle.p414_syntax.specs.Conditions.{is_expression_name, is_expr}
use Rattle.p414_reader.specs.declared.symbols.Word.TheVariants as word
use Rattle.p414_reader.specs.declared.symbols.BodyWord.TheVariants as body
use Rattle.predictive_parser.specs.Values.{older}
use Rattle.p414_reader.specs.internal.Classes.{prefix_of, infix_of, is_prefix, is_infix}
use Rattle.p414_reader.specs.internal.Rows.{grammar14, prefix_rest, infix_rest}
use Rattle.p414_reader.specs.declared.built.Built.{Built}
use Rattle.p414_reader.proofs.Meaning.{meaning14, with_operators, last_expr}
use Rattle.p414_reader.proofs.Lists.{both, left_true, right_true, text_is}
use Rattle.p414_reader.proofs.Fixed.{fixed14, by_named, by_number}

-- What is shown of each operator is shown of each token that is accepted as one.
by_prefix : (least : ℕ) (P : Lexeme → Option UnaryOperator → Type 0) → ((operator : UnaryOperator) → nat_le least (unary_power operator) ≡ true → P (unary_token operator) (Some operator)) → (token : Lexeme) → is_prefix least (prefix_of token) ≡ true → P token (prefix_of token)
by_prefix least P f (lexeme.Number n) ok = cc
by_prefix least P f (lexeme.Mark mark.Minus) ok = f unary_of.Negate ok
by_prefix least P f (lexeme.Mark mark.Tilde) ok = f unary_of.Complement ok
by_prefix least P f (lexeme.Mark m) ok = cc
by_prefix least P f (lexeme.Name text) ok = go (bytes_eq (codes "not") text) refl ok
  where
    go : (yes : Bool) → bytes_eq (codes "not") text ≡ yes → is_prefix least (if yes then Some unary_of.Not else None) ≡ true → P (lexeme.Name text) (if yes then Some unary_of.Not else None)
    go true e h = subst (λ (t : List ℕ). P (lexeme.Name t) (Some unary_of.Not)) (sym (text_is (codes "not") text e)) (f unary_of.Not h)
    go false e h = cc

by_infix : (least most : ℕ) (P : Lexeme → Option BinaryOperator → Type 0) → ((operator : BinaryOperator) → is_infix least most (Some operator) ≡ true → P (binary_token operator) (Some operator)) → (token : Lexeme) → is_infix least most (infix_of token) ≡ true → P token (infix_of token)
by_infix least most P f (lexeme.Number n) ok = cc
by_infix least most P f (lexeme.Mark mark.Star) ok = f binary_of.Multiply ok
by_infix least most P f (lexeme.Mark mark.Plus) ok = f binary_of.Add ok
by_infix least most P f (lexeme.Mark mark.Minus) ok = f binary_of.Subtract ok
by_infix least most P f (lexeme.Mark mark.ShiftLeft) ok = f binary_of.ShiftLeft ok
by_infix least most P f (lexeme.Mark mark.ShiftRight) ok = f binary_of.ShiftRight ok
by_infix least most P f (lexeme.Mark mark.Ampersand) ok = f binary_of.BitAnd ok
by_infix least most P f (lexeme.Mark mark.Caret) ok = f binary_of.BitXor ok
by_infix least most P f (lexeme.Mark mark.Bar) ok = f binary_of.BitOr ok
by_infix least most P f (lexeme.Mark mark.Less) ok = f binary_of.Less ok
by_infix least most P f (lexeme.Mark mark.LessEqual) ok = f binary_of.LessEqual ok
by_infix least most P f (lexeme.Mark mark.Greater) ok = f binary_of.Greater ok
by_infix least most P f (lexeme.Mark mark.GreaterEqual) ok = f binary_of.GreaterEqual ok
by_infix least most P f (lexeme.Mark mark.Equal) ok = f binary_of.Equal ok
by_infix least most P f (lexeme.Mark mark.NotEqual) ok = f binary_of.NotEqual ok
by_infix least most P f (lexeme.Mark m) ok = cc
by_infix least most P f (lexeme.Name text) ok = is_and (bytes_eq (codes "and") text) refl ok
  where
    is_or : (yes : Bool) → bytes_eq (codes "or") text ≡ yes → is_infix least most (if yes then Some binary_of.Or else None) ≡ true → P (lexeme.Name text) (if yes then Some binary_of.Or else None)
    is_or true e h = subst (λ (t : List ℕ). P (lexeme.Name t) (Some binary_of.Or)) (sym (text_is (codes "or") text e)) (f binary_of.Or h)
    is_or false e h = cc

    is_and : (yes : Bool) → bytes_eq (codes "and") text ≡ yes → is_infix least most (if yes then Some binary_of.And else (if bytes_eq (codes "or") text then Some binary_of.Or else None)) ≡ true → P (lexeme.Name text) (if yes then Some binary_of.And else (if bytes_eq (codes "or") text then Some binary_of.Or else None))
    is_and true e h = subst (λ (t : List ℕ). P (lexeme.Name t) (Some binary_of.And)) (sym (text_is (codes "and") text e)) (f binary_of.And h)
    is_and false e h = is_or (bytes_eq (codes "or") text) refl h

-- how tightly operators bind

within_trans : (p q r : ℕ) → nat_le p q ≡ true → nat_le q r ≡ true → nat_le p r ≡ true
within_trans p q r e f = le-leb p r (le_trans (leb-true p q e) (leb-true q r f))

within_same : (p : ℕ) → nat_le p p ≡ true
within_same p = le-leb p p (le_refl p)

unary_within : (operator : UnaryOperator) → nat_le (unary_power operator) 12 ≡ true
unary_within unary_of.Negate = refl
unary_within unary_of.Complement = refl
unary_within unary_of.Not = refl

binary_within : (operator : BinaryOperator) → nat_le (suc (binary_power operator)) 12 ≡ true
binary_within binary_of.Multiply = refl
binary_within binary_of.Add = refl
binary_within binary_of.Subtract = refl
binary_within binary_of.ShiftLeft = refl
binary_within binary_of.ShiftRight = refl
binary_within binary_of.BitAnd = refl
binary_within binary_of.BitXor = refl
binary_within binary_of.BitOr = refl
binary_within binary_of.Less = refl
binary_within binary_of.LessEqual = refl
binary_within binary_of.Greater = refl
binary_within binary_of.GreaterEqual = refl
binary_within binary_of.Equal = refl
binary_within binary_of.NotEqual = refl
binary_within binary_of.And = refl
binary_within binary_of.Or = refl

-- an expression whose operators bind tightly may stand where they have to bind less tightly
pub expr_weaker : (p q : ℕ) (e : Expr) → nat_le p q ≡ true → is_expr q e ≡ true → is_expr p e ≡ true
expr_weaker p q (valid i) h k = k
expr_weaker p q (truth value) h k = k
expr_weaker p q (field r) h k = k
expr_weaker p q (number n) h k = k
expr_weaker p q (parenthesized e) h k = k
expr_weaker p q (unary operator e) h k =
    let n = unary_power operator in
    both (nat_le p n) (is_expr n e) (within_trans p q n h (left_true (nat_le q n) (is_expr n e) k)) (right_true (nat_le q n) (is_expr n e) k)
expr_weaker p q (binary operator a b) h k =
    let n = binary_power operator in
    let sides = is_expr n a && is_expr (suc n) b in
    both (nat_le p n) sides (within_trans p q n h (left_true (nat_le q n) sides k)) (right_true (nat_le q n) sides k)

-- what the newest expression is once its operators are read
with_operators_is : (o : Option Expr) (e : Expr) (es : List Expr) → with_operators o (e ∷ es) ≡ unwrap_or o e ∷ es
with_operators_is None e es = refl
with_operators_is (Some f) e es = refl

pub expr_rows : (least : ℕ) (b : Built) → RowsShow grammar14 fixed14 meaning14 (word.Body (body.Expr least)) b (grammar14.rows (word.Body (body.Expr least)))
expr_rows least b =
    let es = b.bodies.exprs in (
      by_number _ (λ n us o s. (unwrap_or o (number n), (s.0, λ h. s.1 h refl), rw (with_operators_is o (number n) es))),
      (
        λ us o s. (unwrap_or o (truth true), (s.0, λ h. s.1 h refl), rw (with_operators_is o (truth true) es)),
        (
          λ us o s. (unwrap_or o (truth false), (s.0, λ h. s.1 h refl), rw (with_operators_is o (truth false) es)),
          (
            λ us i f vs o s. rw f.0 (
              unwrap_or o (valid i),
              (ap (λ ws. keyword key.Valid ∷ paren_open ∷ ws) (sym (append_assoc (written_inst i) (paren_close ∷ []) vs)) ∙ s.0, λ h. s.1 h f.1),
              rw (with_operators_is o (valid i) es),
            ),
            (
              λ us e f vs o s. rw f.0 (
                unwrap_or o (parenthesized e),
                (ap (λ ws. paren_open ∷ ws) (sym (append_assoc (written_expr e) (paren_close ∷ []) vs)) ∙ s.0, λ h. s.1 h (f.1 refl)),
                rw (with_operators_is o (parenthesized e) es),
              ),
              (
                by_prefix least
                    (λ (t : Lexeme) (p : Option UnaryOperator). Shows grammar14 fixed14 meaning14 (prefix_rest least p) b (λ more. t ∷ more) (MeansWord grammar14 fixed14 meaning14 (word.Body (body.Expr least)) b))
                    (λ operator ok us e f vs o s. rw f.0 (
                      unwrap_or o (unary operator e),
                      (s.0, λ h. s.1 ok (both (nat_le (unary_power operator) (unary_power operator)) (is_expr (unary_power operator) e) (within_same (unary_power operator)) (f.1 (unary_within operator)))),
                      rw (with_operators_is o (unary operator e) es),
                    )),
                (
                  by_named is_expression_name _ (λ text ok us i e. by_named is_expression_name _ (λ inner okay vs o s.
                      rw e (
                        unwrap_or o (field (record { instance = record { name = text; index = i }; field = inner })),
                        (
                          ap (λ ws. name text ∷ ws) (sym (append_assoc (written_option written_index i) (dot ∷ name inner ∷ []) vs)) ∙ s.0,
                          λ h. s.1 h (both (is_expression_name text) (is_expression_name inner) ok okay),
                        ),
                        rw (with_operators_is o (field (record { instance = record { name = text; index = i }; field = inner })) es),
                      ))),
                  tt,
                ),
              ),
            ),
          ),
        ),
      ),
    )

pub operators_rows : (least most : ℕ) (b : Built) → RowsShow grammar14 fixed14 meaning14 (word.Body (body.Operators least most)) b (grammar14.rows (word.Body (body.Operators least most)))
operators_rows least most b = (
  by_infix least most
      (λ (t : Lexeme) (p : Option BinaryOperator). Shows grammar14 fixed14 meaning14 (infix_rest least p) b (λ more. t ∷ more) (MeansWord grammar14 fixed14 meaning14 (word.Body (body.Operators least most)) b))
      (λ operator ok us e f vs o s.
      let n = binary_power operator in
      let a = last_expr b in
      rw f.0 (
        Some (unwrap_or o (binary operator a e)),
        (
          sym (append_assoc (written_expr a) (binary_token operator ∷ written_expr e) vs) ∙ s.0,
          λ h k. s.1 (left_true (nat_le least n) (nat_le n most) ok)
              (both (nat_le n n) (is_expr n a && is_expr (suc n) e) (within_same n)
              (both (is_expr n a) (is_expr (suc n) e) (expr_weaker n most a (right_true (nat_le least n) (nat_le n most) ok) k) (f.1 (binary_within operator)))),
        ),
        rw (with_operators_is o (binary operator a e) (older b.bodies.exprs)),
      )),
  tt,
)

pub operators_none : (least most : ℕ) (b : Built) → NoneShows grammar14 fixed14 meaning14 (word.Body (body.Operators least most)) b (grammar14.otherwise (word.Body (body.Operators least most)))
operators_none least most b = (None, (append-nil (written_expr (last_expr b)), λ h k. expr_weaker least most (last_expr b) h k), refl)

pub instance_rows : (b : Built) → RowsShow grammar14 fixed14 meaning14 (word.Body body.ExprInst) b (grammar14.rows (word.Body body.ExprInst))
instance_rows b = (by_named is_expression_name _ (λ text ok us i e. rw e (record { name = text; index = i }, (refl, ok), refl)), tt)
