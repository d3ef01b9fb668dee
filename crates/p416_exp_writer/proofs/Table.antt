-- What the table of layouts says of each expression: its words, that they can be written, and that the work falls.
use Rattle.std.proofs.Common.{◌≡◌, ◌+◌, ◌<◌, Bool, true, false, List, [], ◌∷◌, ◌++◌, refl, sym, ap, ◌∙◌, arith, append_assoc, append-nil}
use Rattle.std.specs.Prelude.{◌&&◌}
use Rattle.std.specs.List.{list_all}
use Rattle.std.proofs.lemmas.List.{map-append}
use Rattle.std.proofs.lemmas.List.Folds.{list_all-append}
use Rattle.std.proofs.lemmas.Bool.{and_from, and_parts}
use Rattle.p416_syntax.specs.SpeltLexemes.{is_identifier16, is_spelt_literal16}
use Rattle.p416_syntax.specs.declared.node.UnaryOperator.{UnaryOperator}
use Rattle.p416_syntax.specs.declared.node.UnaryOperator.TheVariants as prefix
use Rattle.p416_syntax.specs.declared.node.BinaryOperator.{BinaryOperator}
use Rattle.p416_syntax.specs.declared.node.BinaryOperator.TheVariants as operator_of
use Rattle.p416_syntax.specs.declared.views.ExpHead.{ExpHead}
use Rattle.p416_syntax.specs.declared.views.ExpHead.TheVariants as head
use Rattle.p416_syntax.specs.Tree.{Exp16, literal, truth, error, name, member, index, slice, call, lookahead, cast, unary, binary, choice, parenthesized, no_arguments, argument, listed}
use Rattle.p416_syntax.specs.Heads.{of_exp_head}
use Rattle.p416_syntax.specs.Operators.{unary_token, binary_tokens}
use Rattle.p416_syntax.specs.Tokens.{Seen16, id, number, mark, opens, seen_word, lookahead_text, dot, bracket_open, bracket_close, colon, comma, greater, question, paren_open, paren_close, brace_open, brace_close, in_parens, is_spelt_seen}
use Rattle.p416_syntax.specs.Written.{written_exp, written_type, written_cast, comma_behind}
use Rattle.token_sheet.specs.declared.blanks.Gap.{Gap}
use Rattle.p416_spelling.specs.Words.{word16, words16}
use Rattle.p416_sheet.specs.Tokens.{words_put, is_put}
use Rattle.p416_parentheses.specs.Expressions.{wrapped, within, full, full_base}
use Rattle.p416_exp_writer.specs.Spelt.{is_spelt_exp}
use Rattle.p416_exp_writer.specs.Layouts.{all_said, are_spelt_works, exp_weight, all_weight, prefix_mark, operator_token, is_no_arguments, argument_layout, layout, wrapped_layout}
use Rattle.p416_spelling.proofs.Keywords.{spelt_word}

both : (xs ys : List Seen16) → words16 xs ++ words16 ys ≡ words16 (xs ++ ys)
both xs ys = sym (map-append word16 xs ys)

prefix_is : (o : UnaryOperator) → mark (prefix_mark o) ≡ unary_token o
prefix_is prefix.Not = refl
prefix_is prefix.Complement = refl
prefix_is prefix.Negate = refl

operator_is : (o : BinaryOperator) → words_put (operator_token o) ≡ words16 (binary_tokens o)
operator_is operator_of.Multiply = refl
operator_is operator_of.Add = refl
operator_is operator_of.Subtract = refl
operator_is operator_of.SaturatingAdd = refl
operator_is operator_of.SaturatingSubtract = refl
operator_is operator_of.Concatenate = refl
operator_is operator_of.ShiftLeft = refl
operator_is operator_of.ShiftRight = refl
operator_is operator_of.BitAnd = refl
operator_is operator_of.BitXor = refl
operator_is operator_of.BitOr = refl
operator_is operator_of.Less = refl
operator_is operator_of.LessEqual = refl
operator_is operator_of.Greater = refl
operator_is operator_of.GreaterEqual = refl
operator_is operator_of.Equal = refl
operator_is operator_of.NotEqual = refl
operator_is operator_of.And = refl
operator_is operator_of.Or = refl

-- the comma in front of the last argument
no_comma : (e : Exp16) → is_no_arguments e ≡ true → e ≡ no_arguments
no_comma (literal n) h = absurd (cc)
no_comma (truth value) h = absurd (cc)
no_comma error h = absurd (cc)
no_comma (name text) h = absurd (cc)
no_comma (member e word) h = absurd (cc)
no_comma (index e at) h = absurd (cc)
no_comma (slice e high low) h = absurd (cc)
no_comma (call e given) h = absurd (cc)
no_comma (lookahead e of given) h = absurd (cc)
no_comma (cast to e) h = absurd (cc)
no_comma (unary o e) h = absurd (cc)
no_comma (binary o a b) h = absurd (cc)
no_comma (choice c a b) h = absurd (cc)
no_comma (parenthesized e) h = absurd (cc)
no_comma no_arguments h = refl
no_comma (argument before last) h = absurd (cc)
no_comma (listed items) h = absurd (cc)

a_comma : (e : Exp16) → is_no_arguments e ≡ false → comma_behind (within e) ≡ comma ∷ []
a_comma (literal n) h = refl
a_comma (truth value) h = refl
a_comma error h = refl
a_comma (name text) h = refl
a_comma (member e word) h = refl
a_comma (index e at) h = refl
a_comma (slice e high low) h = refl
a_comma (call e given) h = refl
a_comma (lookahead e of given) h = refl
a_comma (cast to e) h = refl
a_comma (unary o e) h = refl
a_comma (binary o a b) h = refl
a_comma (choice c a b) h = refl
a_comma (parenthesized e) h = refl
a_comma no_arguments h = absurd (cc)
a_comma (argument before last) h = refl
a_comma (listed items) h = refl

argument_said : (t : Bool) (gap : Gap) (before last : Exp16) → is_no_arguments before ≡ t → all_said (argument_layout t gap before last) ≡ words16 (written_exp (within before) ++ (comma_behind (within before) ++ written_exp (full last)))
argument_said true gap before last h =
    append-nil (words16 (written_exp (full last)))
    ∙ ap (λ e. words16 (written_exp (within e) ++ (comma_behind (within e) ++ written_exp (full last)))) (sym (no_comma before h))
argument_said false gap before last h =
    ap (λ ws. words16 (written_exp (within before)) ++ word16 comma ∷ ws) (append-nil (words16 (written_exp (full last))))
    ∙ both (written_exp (within before)) (comma ∷ written_exp (full last))
    ∙ ap (λ xs. words16 (written_exp (within before) ++ (xs ++ written_exp (full last)))) (sym (a_comma before h))

-- the words of each layout
pub layout_said : (gap : Gap) (h : ExpHead) → all_said (layout gap h) ≡ words16 (written_exp (within (of_exp_head h)))
layout_said gap (head.Literal n) = refl
layout_said gap (head.Truth true) = refl
layout_said gap (head.Truth false) = refl
layout_said gap head.Error = refl
layout_said gap (head.Name text) = refl
layout_said gap (head.Member e word) = both (written_exp (full_base e)) (dot ∷ seen_word word.now ∷ [])
layout_said gap (head.Index e at) = both (written_exp (full_base e)) (bracket_open ∷ number at ∷ bracket_close ∷ [])
layout_said gap (head.Slice e high low) = both (written_exp (full_base e)) (bracket_open ∷ number high ∷ colon ∷ number low ∷ bracket_close ∷ [])
layout_said gap (head.Call e given) =
    ap (λ ws. words16 (written_exp (full_base e)) ++ word16 paren_open ∷ ws) (both (written_exp (within given)) (paren_close ∷ []))
    ∙ both (written_exp (full_base e)) (in_parens (written_exp (within given)))
layout_said gap (head.Lookahead e of given) =
    let before = dot ∷ id lookahead_text ∷ opens ∷ (written_type of.now ++ greater ∷ paren_open ∷ []) in
    let behind = written_exp (within given) ++ paren_close ∷ [] in
    ap (λ ws. words16 (written_exp (full_base e)) ++ (words16 before ++ ws)) (both (written_exp (within given)) (paren_close ∷ []))
    ∙ ap (λ ws. words16 (written_exp (full_base e)) ++ ws) (both before behind)
    ∙ both (written_exp (full_base e)) (before ++ behind)
    ∙ ap (λ xs. words16 (written_exp (full_base e) ++ dot ∷ id lookahead_text ∷ opens ∷ xs)) (append_assoc (written_type of.now) (greater ∷ paren_open ∷ []) behind)
layout_said gap (head.Cast to e) =
    ap (λ ws. words16 (in_parens (written_cast to)) ++ ws) (append-nil (words16 (written_exp (full e)))) ∙ both (in_parens (written_cast to)) (written_exp (full e))
layout_said gap (head.Unary o e) =
    (λ i. word16 (prefix_is o i) ∷ append-nil (words16 (written_exp (full e))) i)
layout_said gap (head.Binary o a b) =
    (λ i. words16 (written_exp (full a)) ++ (operator_is o i ++ append-nil (words16 (written_exp (full b))) i))
    ∙ ap (λ ws. words16 (written_exp (full a)) ++ ws) (both (binary_tokens o) (written_exp (full b)))
    ∙ both (written_exp (full a)) (binary_tokens o ++ written_exp (full b))
layout_said gap (head.Choice c a b) =
    ap (λ ws. words16 (written_exp (full c)) ++ word16 question ∷ (words16 (written_exp (full a)) ++ word16 colon ∷ ws)) (append-nil (words16 (written_exp (full b))))
    ∙ ap (λ ws. words16 (written_exp (full c)) ++ word16 question ∷ ws) (both (written_exp (full a)) (colon ∷ written_exp (full b)))
    ∙ both (written_exp (full c)) (question ∷ (written_exp (full a) ++ colon ∷ written_exp (full b)))
layout_said gap head.NoArguments = refl
layout_said gap (head.Argument before last) = argument_said (is_no_arguments before) gap before last refl
layout_said gap (head.Listed items) = ap (λ ws. word16 brace_open ∷ ws) (both (written_exp (within items)) (brace_close ∷ []))

pub wrapped_said : (t : Bool) (gap : Gap) (h : ExpHead) (e : Exp16) → e ≡ of_exp_head h → all_said (wrapped_layout t gap h e) ≡ words16 (written_exp (wrapped t (within e)))
wrapped_said true gap h e q = ap (λ ws. word16 paren_open ∷ ws) (both (written_exp (within e)) (paren_close ∷ []))
wrapped_said false gap h e q = layout_said gap h ∙ ap (λ x. words16 (written_exp (within x))) (sym q)

-- each part can be written
record IsSpeltTwo (xs ys : List Seen16) : Type 0 where
  pub first : list_all is_spelt_seen xs ≡ true
  pub second : list_all is_spelt_seen ys ≡ true

two : (xs ys : List Seen16) → list_all is_spelt_seen (xs ++ ys) ≡ true → IsSpeltTwo xs ys
two xs ys h = let parts = and_parts (list_all is_spelt_seen xs) (list_all is_spelt_seen ys) (sym (list_all-append is_spelt_seen xs ys) ∙ h) in record { first = parts.0; second = parts.1 }

head_tail : (x : Seen16) (xs : List Seen16) → list_all is_spelt_seen (x ∷ xs) ≡ true → (is_spelt_seen x ≡ true) × (list_all is_spelt_seen xs ≡ true)
head_tail x xs h = and_parts (is_spelt_seen x) (list_all is_spelt_seen xs) h

and_true : (a : Bool) → a ≡ true → (a && true) ≡ true
and_true a h = and_from a true h refl

argument_spelt : (t : Bool) (gap : Gap) (before last : Exp16) → is_no_arguments before ≡ t → list_all is_spelt_seen (written_exp before ++ (comma_behind before ++ written_exp last)) ≡ true → are_spelt_works (argument_layout t gap before last) ≡ true
argument_spelt true gap before last q h = and_true (is_spelt_exp last) (two (comma_behind before) (written_exp last) (two (written_exp before) (comma_behind before ++ written_exp last) h).second).second
argument_spelt false gap before last q h =
    let parts = two (written_exp before) (comma_behind before ++ written_exp last) h in
    and_from (is_spelt_exp before) (is_spelt_exp last && true) parts.first (and_true (is_spelt_exp last) (two (comma_behind before) (written_exp last) parts.second).second)

operator_spelt : (o : BinaryOperator) → is_put (operator_token o) ≡ true
operator_spelt operator_of.Multiply = refl
operator_spelt operator_of.Add = refl
operator_spelt operator_of.Subtract = refl
operator_spelt operator_of.SaturatingAdd = refl
operator_spelt operator_of.SaturatingSubtract = refl
operator_spelt operator_of.Concatenate = refl
operator_spelt operator_of.ShiftLeft = refl
operator_spelt operator_of.ShiftRight = refl
operator_spelt operator_of.BitAnd = refl
operator_spelt operator_of.BitXor = refl
operator_spelt operator_of.BitOr = refl
operator_spelt operator_of.Less = refl
operator_spelt operator_of.LessEqual = refl
operator_spelt operator_of.Greater = refl
operator_spelt operator_of.GreaterEqual = refl
operator_spelt operator_of.Equal = refl
operator_spelt operator_of.NotEqual = refl
operator_spelt operator_of.And = refl
operator_spelt operator_of.Or = refl

pub layout_spelt : (gap : Gap) (h : ExpHead) → is_spelt_exp (of_exp_head h) ≡ true → are_spelt_works (layout gap h) ≡ true
layout_spelt gap (head.Literal n) h = h
layout_spelt gap (head.Truth value) h = refl
layout_spelt gap head.Error h = refl
layout_spelt gap (head.Name text) h = and_true (is_identifier16 text.now) (and_parts (is_identifier16 text.now) _ (head_tail (id text.now) [] h).0).0
layout_spelt gap (head.Member e word) h =
    let parts = two (written_exp e) (dot ∷ seen_word word.now ∷ []) h in
    and_from (is_spelt_exp e) (is_identifier16 word.now && true) parts.first (and_true (is_identifier16 word.now) (spelt_word word.now (head_tail (seen_word word.now) [] parts.second).0))
layout_spelt gap (head.Index e at) h =
    let parts = two (written_exp e) (bracket_open ∷ number at ∷ bracket_close ∷ []) h in
    and_from (is_spelt_exp e) (is_spelt_literal16 at && true) parts.first (and_true (is_spelt_literal16 at) (head_tail (number at) (bracket_close ∷ []) parts.second).0)
layout_spelt gap (head.Slice e high low) h =
    let parts = two (written_exp e) (bracket_open ∷ number high ∷ colon ∷ number low ∷ bracket_close ∷ []) h in
    let more = head_tail (number high) (colon ∷ number low ∷ bracket_close ∷ []) parts.second in
    and_from (is_spelt_exp e) ((is_spelt_literal16 high && is_spelt_literal16 low) && true) parts.first
    (and_true (is_spelt_literal16 high && is_spelt_literal16 low) (and_from (is_spelt_literal16 high) (is_spelt_literal16 low) more.0 (head_tail (number low) (bracket_close ∷ []) more.1).0))
layout_spelt gap (head.Call e given) h =
    let parts = two (written_exp e) (in_parens (written_exp given)) h in
    let inside = two (written_exp given) (paren_close ∷ []) parts.second in
    and_from (is_spelt_exp e) (is_spelt_exp given && true) parts.first (and_true (is_spelt_exp given) inside.first)
layout_spelt gap (head.Lookahead e of given) h =
    let parts = two (written_exp e) (dot ∷ id lookahead_text ∷ opens ∷ (written_type of.now ++ greater ∷ in_parens (written_exp given))) h in
    let more = two (written_type of.now) (greater ∷ in_parens (written_exp given)) parts.second in
    let inside = two (written_exp given) (paren_close ∷ []) more.second in
    and_from (is_spelt_exp e) (list_all is_spelt_seen (written_type of.now) && (is_spelt_exp given && true)) parts.first
    (and_from (list_all is_spelt_seen (written_type of.now)) (is_spelt_exp given && true) more.first (and_true (is_spelt_exp given) inside.first))
layout_spelt gap (head.Cast to e) h =
    let parts = two (in_parens (written_cast to)) (written_exp e) h in
    let inside = two (written_cast to) (paren_close ∷ []) parts.first in
    and_from (list_all is_spelt_seen (written_cast to)) (is_spelt_exp e && true) inside.first (and_true (is_spelt_exp e) parts.second)
layout_spelt gap (head.Unary o e) h = and_true (is_spelt_exp e) (head_tail (unary_token o) (written_exp e) h).1
layout_spelt gap (head.Binary o a b) h =
    let parts = two (written_exp a) (binary_tokens o ++ written_exp b) h in
    let more = two (binary_tokens o) (written_exp b) parts.second in
    and_from (is_spelt_exp a) (is_put (operator_token o) && (is_spelt_exp b && true)) parts.first
    (and_from (is_put (operator_token o)) (is_spelt_exp b && true) (operator_spelt o) (and_true (is_spelt_exp b) more.second))
layout_spelt gap (head.Choice c a b) h =
    let parts = two (written_exp c) (question ∷ (written_exp a ++ colon ∷ written_exp b)) h in
    let more = two (written_exp a) (colon ∷ written_exp b) parts.second in
    and_from (is_spelt_exp c) (is_spelt_exp a && (is_spelt_exp b && true)) parts.first
    (and_from (is_spelt_exp a) (is_spelt_exp b && true) more.first (and_true (is_spelt_exp b) more.second))
layout_spelt gap head.NoArguments h = refl
layout_spelt gap (head.Argument before last) h = argument_spelt (is_no_arguments before) gap before last refl h
layout_spelt gap (head.Listed items) h = and_true (is_spelt_exp items) (two (written_exp items) (brace_close ∷ []) h).first

pub wrapped_spelt : (t : Bool) (gap : Gap) (h : ExpHead) (e : Exp16) → e ≡ of_exp_head h → is_spelt_exp e ≡ true → are_spelt_works (wrapped_layout t gap h e) ≡ true
wrapped_spelt true gap h e q s = and_true (is_spelt_exp e) s
wrapped_spelt false gap h e q s = layout_spelt gap h (ap is_spelt_exp (sym q) ∙ s)

-- the work falls
pub layout_lighter : (gap : Gap) (h : ExpHead) → all_weight (layout gap h) < exp_weight (of_exp_head h)
layout_lighter gap (head.Literal n) = omega arith
layout_lighter gap (head.Truth value) = omega arith
layout_lighter gap head.Error = omega arith
layout_lighter gap (head.Name text) = omega arith
layout_lighter gap (head.Member e word) = omega arith
layout_lighter gap (head.Index e at) = omega arith
layout_lighter gap (head.Slice e high low) = omega arith
layout_lighter gap (head.Call e given) = omega arith
layout_lighter gap (head.Lookahead e of given) = omega arith
layout_lighter gap (head.Cast to e) = omega arith
layout_lighter gap (head.Unary o e) = omega arith
layout_lighter gap (head.Binary o a b) = omega arith
layout_lighter gap (head.Choice c a b) = omega arith
layout_lighter gap head.NoArguments = omega arith
layout_lighter gap (head.Argument before last) = by (is_no_arguments before)
  where
    by : (t : Bool) → all_weight (argument_layout t gap before last) < 20 + (exp_weight before + exp_weight last)
    by true = omega arith
    by false = omega arith
layout_lighter gap (head.Listed items) = omega arith
