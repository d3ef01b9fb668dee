-- An expression that is written with tokens is read of them. An expression is gone through from its leftmost operand on: that
-- is read by itself, then what binds most tightly behind it, then its operators.
use Rattle.std.proofs.Common.{◌≡◌, ℕ, suc, ◌<◌, Bool, true, false, not, cond, ◌&&◌, ◌||◌, nat_eq, nat_le, List, [], ◌∷◌, ◌++◌, Option, Some, None, refl, sym, ap, ◌∙◌, subst, arith, append_assoc, append-nil, bytes_eq, if◌then◌else◌}
use Rattle.std.proofs.lemmas.Bool.{eqb-true, lt-leb}
use Rattle.predictive_parser.specs.declared.symbol.Symbol.TheVariants.{Put}
use Rattle.predictive_parser.specs.declared.symbol.Symbol.TheVariants as symbol
use Rattle.predictive_parser.specs.Machine.{Passes, next_of}
use Rattle.predictive_parser.specs.Grammar.{Like, lines_of, plain_lines, first_fit, move}
use Rattle.predictive_parser.proofs.Chains.{passes, row}
use Rattle.p416_syntax.specs.declared.keyword.Keyword16.{Keyword16}
use Rattle.p416_syntax.specs.declared.keyword.Keyword16.TheVariants as key
use Rattle.p416_syntax.specs.declared.lexeme.Literal16.{Literal16}
use Rattle.p416_syntax.specs.declared.mark.Mark16.TheVariants as mark_of
use Rattle.p416_syntax.specs.Keywords.{keyword_text16, all_keywords16, is_reserved16, is_among16}
use Rattle.p416_syntax.specs.declared.node.UnaryOperator.{UnaryOperator}
use Rattle.p416_syntax.specs.declared.node.UnaryOperator.TheVariants as unary_of
use Rattle.p416_syntax.specs.declared.node.BinaryOperator.{BinaryOperator}
use Rattle.p416_syntax.specs.declared.node.BinaryOperator.TheVariants as binary_of
use Rattle.p416_syntax.specs.Tree.{Exp16, literal, truth, error, name, member, index, slice, call, lookahead, cast, unary, binary, choice, parenthesized, no_arguments, argument, listed}
use Rattle.p416_syntax.specs.Tokens.{Seen16, id, quoted, number, mark, joined, opens, keyword_among, seen_as, seen_word, lookahead_text, dot, colon, greater, question, paren_open, bracket_open, bracket_close, in_parens}
use Rattle.p416_syntax.specs.Operators.{unary_token, binary_tokens, binary_power}
use Rattle.p416_syntax.specs.Written.{written_exp, written_type}
use Rattle.p416_reader.specs.declared.symbols.Class.{Class}
use Rattle.p416_reader.specs.declared.symbols.Class.TheVariants as class
use Rattle.p416_reader.specs.declared.symbols.Known.TheVariants as known
use Rattle.p416_reader.specs.declared.symbols.Action.TheVariants as action
use Rattle.p416_reader.specs.declared.symbols.BodyAction.TheVariants as act
use Rattle.p416_reader.specs.declared.symbols.Word.{Word}
use Rattle.p416_reader.specs.declared.symbols.Word.TheVariants as word
use Rattle.p416_reader.specs.declared.symbols.BodyWord.TheVariants as body
use Rattle.p416_reader.specs.declared.built.Built.{Built}
use Rattle.p416_reader.specs.internal.Classes.{is_mark, is_quoted, is_infix, infix_of}
use Rattle.p416_reader.specs.internal.Rows as rows
use Rattle.p416_reader.specs.internal.Rows.{Sym, Rows, grammar16, body_sym, infix_rest, question_rest}
use Rattle.p416_reader.proofs.Forms.{is_of, dotted}
use Rattle.p416_reader.proofs.Meaning.{put_suffix}
use Rattle.p416_reader.proofs.Closing.{is_some}
use Rattle.p416_reader.proofs.Lists.{left_true, right_true, neither_left}
use Rattle.p416_reader.proofs.ExpressionLaws.{is_many}
use Rattle.p416_reader.proofs.Readings.{Goes, Calm, ◌▷◌, reads, does, builds, not_true, is_word, takes_row, like}
use Rattle.p416_reader.proofs.Complete.Parts.{never}

abbrev pub operators_sym : ℕ → ℕ → Sym
operators_sym least most = body_sym (body.Operators least most)

abbrev pub operand : Sym
operand = body_sym body.Operand

abbrev pub postfix : Sym
postfix = body_sym body.Postfix

abbrev pub CalmOperand : List Seen16 → Type 0
CalmOperand rest = Calm (word.Body body.Operand) rest

abbrev pub CalmExp : List Seen16 → Type 0
CalmExp rest = Calm (word.Body body.Exp) rest

-- the leftmost operand, and the tokens behind it

abbrev pub head : Exp16 → Exp16
head (binary operator x y) = head x
head (choice c x y) = head c
head e = e

abbrev pub behind : Exp16 → List Seen16
behind (binary operator x y) = behind x ++ (binary_tokens operator ++ written_exp y)
behind (choice c x y) = behind c ++ question ∷ (written_exp x ++ colon ∷ written_exp y)
behind e = []

pub written_head : (e : Exp16) → written_exp e ≡ written_exp (head e) ++ behind e
written_head (binary operator x y) =
    ap (λ ts. ts ++ (binary_tokens operator ++ written_exp y)) (written_head x) ∙ append_assoc (written_exp (head x)) (behind x) (binary_tokens operator ++ written_exp y)
written_head (choice c x y) =
    ap (λ ts. ts ++ question ∷ (written_exp x ++ colon ∷ written_exp y)) (written_head c) ∙ append_assoc (written_exp (head c)) (behind c) (question ∷ (written_exp x ++ colon ∷ written_exp y))
written_head (literal n) = refl
written_head (truth value) = sym (append-nil (written_exp (truth value)))
written_head error = refl
written_head (name text) = refl
written_head (member e text) = sym (append-nil (written_exp (member e text)))
written_head (index e n) = sym (append-nil (written_exp (index e n)))
written_head (slice e high low) = sym (append-nil (written_exp (slice e high low)))
written_head (call e xs) = sym (append-nil (written_exp (call e xs)))
written_head (lookahead e of xs) = sym (append-nil (written_exp (lookahead e of xs)))
written_head (cast to e) = sym (append-nil (written_exp (cast to e)))
written_head (unary operator e) = sym (append-nil (written_exp (unary operator e)))
written_head (parenthesized e) = sym (append-nil (written_exp (parenthesized e)))
written_head no_arguments = refl
written_head (argument x y) = sym (append-nil (written_exp (argument x y)))
written_head (listed xs) = sym (append-nil (written_exp (listed xs)))

-- what members, elements, slices and calls stand behind, and their tokens

abbrev pub root : Exp16 → Exp16
root (member e text) = root e
root (index e n) = root e
root (slice e high low) = root e
root (call e xs) = root e
root (lookahead e of xs) = root e
root e = e

abbrev pub suffixes : Exp16 → List Seen16
suffixes (member e text) = suffixes e ++ dot ∷ seen_word text ∷ []
suffixes (index e n) = suffixes e ++ bracket_open ∷ number n ∷ bracket_close ∷ []
suffixes (slice e high low) = suffixes e ++ bracket_open ∷ number high ∷ colon ∷ number low ∷ bracket_close ∷ []
suffixes (call e xs) = suffixes e ++ in_parens (written_exp xs)
suffixes (lookahead e of xs) = suffixes e ++ dot ∷ id lookahead_text ∷ opens ∷ (written_type of ++ greater ∷ in_parens (written_exp xs))
suffixes e = []

root_more : (e : Exp16) (ts : List Seen16) → written_exp e ≡ written_exp (root e) ++ suffixes e → written_exp e ++ ts ≡ written_exp (root e) ++ (suffixes e ++ ts)
root_more e ts h = ap (λ us. us ++ ts) h ∙ append_assoc (written_exp (root e)) (suffixes e) ts

pub written_root : (e : Exp16) → written_exp e ≡ written_exp (root e) ++ suffixes e
written_root (member e text) = root_more e (dot ∷ seen_word text ∷ []) (written_root e)
written_root (index e n) = root_more e (bracket_open ∷ number n ∷ bracket_close ∷ []) (written_root e)
written_root (slice e high low) = root_more e (bracket_open ∷ number high ∷ colon ∷ number low ∷ bracket_close ∷ []) (written_root e)
written_root (call e xs) = root_more e (in_parens (written_exp xs)) (written_root e)
written_root (lookahead e of xs) = root_more e (dot ∷ id lookahead_text ∷ opens ∷ (written_type of ++ greater ∷ in_parens (written_exp xs))) (written_root e)
written_root (literal n) = refl
written_root (truth value) = sym (append-nil (written_exp (truth value)))
written_root error = refl
written_root (name text) = refl
written_root (cast to e) = sym (append-nil (written_exp (cast to e)))
written_root (unary operator e) = sym (append-nil (written_exp (unary operator e)))
written_root (binary operator x y) = sym (append-nil (written_exp (binary operator x y)))
written_root (choice c x y) = sym (append-nil (written_exp (choice c x y)))
written_root (parenthesized e) = sym (append-nil (written_exp (parenthesized e)))
written_root no_arguments = refl
written_root (argument x y) = sym (append-nil (written_exp (argument x y)))
written_root (listed xs) = sym (append-nil (written_exp (listed xs)))

-- what an expression begins with

pub data First : Type 0 where
  number_first : (n : Literal16) → First
  true_first : First
  false_first : First
  error_first : First
  name_first : (text : List ℕ) → First
  paren_first : First
  unary_first : (operator : UnaryOperator) → First

abbrev pub token_of : First → Seen16
token_of (number_first n) = number n
token_of true_first = quoted key.True
token_of false_first = quoted key.False
token_of error_first = quoted key.Error
token_of (name_first text) = id text
token_of paren_first = paren_open
token_of (unary_first operator) = unary_token operator

pub record Begins (e : Exp16) : Type 0 where
  pub first : First
  pub more : List Seen16
  pub whole : written_exp e ≡ token_of first ∷ more

more_behind : (e : Exp16) (x : Exp16) (ts : List Seen16) → written_exp x ≡ written_exp e ++ ts → Begins e → Begins x
more_behind e x ts h r = record { first = r.first; more = r.more ++ ts; whole = h ∙ ap (λ us. us ++ ts) r.whole }

pub begins : (q : ℕ) (e : Exp16) → is_of q e ≡ true → Begins e
begins q (literal n) h = record { first = number_first n; more = []; whole = refl }
begins q (truth true) h = record { first = true_first; more = []; whole = refl }
begins q (truth false) h = record { first = false_first; more = []; whole = refl }
begins q error h = record { first = error_first; more = []; whole = refl }
begins q (name text) h = record { first = name_first text; more = []; whole = refl }
begins q (member e text) h = more_behind e (member e text) _ refl (begins 12 e h)
begins q (index e n) h = more_behind e (index e n) _ refl (begins 12 e h)
begins q (slice e high low) h = more_behind e (slice e high low) _ refl (begins 12 e h)
begins q (call e xs) h = more_behind e (call e xs) _ refl (begins 12 e (left_true (is_of 12 e) (is_many true xs) h))
begins q (lookahead e of xs) h = more_behind e (lookahead e of xs) _ refl (begins 12 e (left_true (is_of 12 e) (is_many true xs) h))
begins q (cast to e) h = record { first = paren_first; more = _; whole = refl }
begins q (unary operator e) h = record { first = unary_first operator; more = _; whole = refl }
begins q (binary operator x y) h =
    let p = binary_power operator in
    more_behind x (binary operator x y) _ refl (begins p x (left_true (is_of p x) (is_of (suc p) y) (right_true (nat_le q p) (is_of p x && is_of (suc p) y) h)))
begins q (choice c x y) h =
    more_behind c (choice c x y) _ refl (begins 1 c (left_true (is_of 1 c) (is_of 0 x && is_of 0 y) (right_true (nat_le q 0) (is_of 1 c && (is_of 0 x && is_of 0 y)) h)))
begins q (parenthesized e) h = record { first = paren_first; more = _; whole = refl }
begins q no_arguments h = absurd (never h)
begins q (argument x y) h = absurd (never h)
begins q (listed xs) h = absurd (never h)

-- none of the tokens that other rows begin with
pub record IsApart (t : Seen16) : Type 0 where
  pub bit : is_quoted key.Bit t ≡ false
  pub bool : is_quoted key.Bool t ≡ false
  pub default : is_quoted key.Default t ≡ false
  pub any : is_quoted key.Underscore t ≡ false
  pub brace : is_mark mark_of.BraceOpen t ≡ false

pub apart : (f : First) → IsApart (token_of f)
apart (number_first n) = record { bit = refl; bool = refl; default = refl; any = refl; brace = refl }
apart true_first = record { bit = refl; bool = refl; default = refl; any = refl; brace = refl }
apart false_first = record { bit = refl; bool = refl; default = refl; any = refl; brace = refl }
apart error_first = record { bit = refl; bool = refl; default = refl; any = refl; brace = refl }
apart (name_first text) = record { bit = refl; bool = refl; default = refl; any = refl; brace = refl }
apart paren_first = record { bit = refl; bool = refl; default = refl; any = refl; brace = refl }
apart (unary_first unary_of.Not) = record { bit = refl; bool = refl; default = refl; any = refl; brace = refl }
apart (unary_first unary_of.Complement) = record { bit = refl; bool = refl; default = refl; any = refl; brace = refl }
apart (unary_first unary_of.Negate) = record { bit = refl; bool = refl; default = refl; any = refl; brace = refl }

-- the row of an operand that takes the token
record Fits (b : Built) (t : Seen16) : Type 0 where
  fit : Class × List Sym
  found : first_fit grammar16 t b (plain_lines (grammar16.rows (word.Body body.Operand))) ≡ Some fit

operand_fits : (b : Built) (f : First) → Fits b (token_of f)
operand_fits b (number_first n) = record { fit = _; found = refl }
operand_fits b true_first = record { fit = _; found = refl }
operand_fits b false_first = record { fit = _; found = refl }
operand_fits b error_first = record { fit = _; found = refl }
operand_fits b (name_first text) = record { fit = _; found = refl }
operand_fits b paren_first = record { fit = _; found = refl }
operand_fits b (unary_first unary_of.Not) = record { fit = _; found = refl }
operand_fits b (unary_first unary_of.Complement) = record { fit = _; found = refl }
operand_fits b (unary_first unary_of.Negate) = record { fit = _; found = refl }

-- a word that is read like an operand where none of its rows before takes the token
pub like_operand : (w : Word) (before : Rows) (more symbols : List Sym) (b : Built) (e : Exp16) (rest : List Seen16) → Begins e
    → grammar16.rows w ≡ before ++ Like (word.Body body.Operand) more ∷ []
    → ((f : First) → first_fit grammar16 (token_of f) b (lines_of grammar16 before) ≡ None)
    → Goes (symbol.Word w ∷ symbols) b (written_exp e ++ rest) (operand ∷ (more ++ symbols)) b (written_exp e ++ rest)
like_operand w before more symbols b e rest r is none =
    subst (λ ts. Goes (symbol.Word w ∷ symbols) b (ts ++ rest) (operand ∷ (more ++ symbols)) b (ts ++ rest)) (sym r.whole)
    (let o = operand_fits b r.first in like w (word.Body body.Operand) before more symbols b (token_of r.first) (r.more ++ rest) o.fit is (none r.first) refl o.found)

-- words behind a dot

word_texts : (text : List ℕ) (words : List Keyword16) (k : Keyword16) → keyword_among text words ≡ Some k → text ≡ keyword_text16 k
word_texts text [] k h = cc
word_texts text (w ∷ words) k h = go (bytes_eq text (keyword_text16 w)) refl h (word_texts text words k)
  where
    go : (s : Bool) → bytes_eq text (keyword_text16 w) ≡ s → (if s then Some w else keyword_among text words) ≡ Some k → (keyword_among text words ≡ Some k → text ≡ keyword_text16 k) → text ≡ keyword_text16 k
    go true e j f = let same_word : w ≡ k = cc in sym (is_word text (keyword_text16 w) e) ∙ ap keyword_text16 same_word
    go false e j f = f j

not_words : (text : List ℕ) (words : List Keyword16) → keyword_among text words ≡ None → is_among16 text words ≡ false
not_words text [] h = refl
not_words text (w ∷ words) h = go (bytes_eq text (keyword_text16 w)) h (not_words text words)
  where
    go : (s : Bool) → (if s then Some w else keyword_among text words) ≡ None → (keyword_among text words ≡ None → is_among16 text words ≡ false) → (s || is_among16 text words) ≡ false
    go true j f = cc
    go false j f = f j

abbrev after_dot : Sym
after_dot = body_sym body.AfterDot

abbrev Dotted : List ℕ → Seen16 → Type 0
Dotted text token =
    (symbols : List Sym) (b : Built) (more : List Seen16) → Calm (word.Body body.AfterDot) more
    → Goes (after_dot ∷ symbols) b (token ∷ more) symbols (put_suffix (dotted text) b) more

dotted_lookahead : Dotted lookahead_text (id lookahead_text)
dotted_lookahead symbols b more c = reads (id lookahead_text ∷ []) refl ▷ builds (word.Body body.AfterLookahead) _ symbols b more refl refl c

abbrev known_row : List Sym
known_row = body_sym body.AfterLookahead ∷ []

abbrev word_row : List Sym
word_row = Put (action.Body act.Member) ∷ []

dotted_free : (text : List ℕ) → is_reserved16 text ≡ false → bytes_eq lookahead_text text ≡ false → Dotted text (id text)
dotted_free text r l symbols b more c =
    row grammar16 (word.Body body.AfterDot) symbols b (id text) more (class.AnyWord, word_row)
    (ap (λ (t : Bool). cond t (Some (class.Known known.Lookahead, known_row)) (cond (not (is_reserved16 text)) (Some (class.AnyWord, word_row)) None)) l
    ∙ ap (λ (t : Bool). cond (not t) (Some (class.AnyWord, word_row)) None) r)
    ▷ does

pub dotted_word : (text : List ℕ) → Dotted text (seen_word text)
dotted_word text = go (keyword_among text all_keywords16) refl
  where
    by_text : (s : Bool) → bytes_eq lookahead_text text ≡ s → is_reserved16 text ≡ false → Dotted text (id text)
    by_text true e r = subst (λ t. Dotted t (id t)) (sym (is_word lookahead_text text e)) dotted_lookahead
    by_text false e r = dotted_free text r e

    quoted_one : (k : Keyword16) → Dotted (keyword_text16 k) (quoted k)
    quoted_one k symbols b more c = reads (quoted k ∷ []) refl ▷ does

    go : (o : Option Keyword16) → keyword_among text all_keywords16 ≡ o → Dotted text (seen_as text o)
    go None e = by_text (bytes_eq lookahead_text text) refl (not_words text all_keywords16 e)
    go (Some k) e = subst (λ t. Dotted t (quoted k)) (sym (word_texts text all_keywords16 k e)) (quoted_one k)

-- operators between operands

abbrev pub power_of : Option BinaryOperator → ℕ
power_of None = 0
power_of (Some operator) = binary_power operator

-- how tightly the operator binds that the next token is or begins, if it is one between operands
abbrev pub next_power : List Seen16 → ℕ
next_power [] = 0
next_power (t ∷ ts) = power_of (infix_of t)

pub record IsOperator (operator : BinaryOperator) (ts : List Seen16) : Type 0 where
  pub above : nat_le 1 (binary_power operator) ≡ true
  pub below : nat_le (binary_power operator) 10 ≡ true
  pub calm : CalmOperand (binary_tokens operator ++ ts)
  pub power : next_power (binary_tokens operator ++ ts) ≡ binary_power operator

pub is_operator : (operator : BinaryOperator) (ts : List Seen16) → IsOperator operator ts
is_operator binary_of.Multiply ts = record { above = refl; below = refl; calm = refl; power = refl }
is_operator binary_of.Add ts = record { above = refl; below = refl; calm = refl; power = refl }
is_operator binary_of.Subtract ts = record { above = refl; below = refl; calm = refl; power = refl }
is_operator binary_of.SaturatingAdd ts = record { above = refl; below = refl; calm = refl; power = refl }
is_operator binary_of.SaturatingSubtract ts = record { above = refl; below = refl; calm = refl; power = refl }
is_operator binary_of.Concatenate ts = record { above = refl; below = refl; calm = refl; power = refl }
is_operator binary_of.ShiftLeft ts = record { above = refl; below = refl; calm = refl; power = refl }
is_operator binary_of.ShiftRight ts = record { above = refl; below = refl; calm = refl; power = refl }
is_operator binary_of.BitAnd ts = record { above = refl; below = refl; calm = refl; power = refl }
is_operator binary_of.BitXor ts = record { above = refl; below = refl; calm = refl; power = refl }
is_operator binary_of.BitOr ts = record { above = refl; below = refl; calm = refl; power = refl }
is_operator binary_of.Less ts = record { above = refl; below = refl; calm = refl; power = refl }
is_operator binary_of.LessEqual ts = record { above = refl; below = refl; calm = refl; power = refl }
is_operator binary_of.Greater ts = record { above = refl; below = refl; calm = refl; power = refl }
is_operator binary_of.GreaterEqual ts = record { above = refl; below = refl; calm = refl; power = refl }
is_operator binary_of.Equal ts = record { above = refl; below = refl; calm = refl; power = refl }
is_operator binary_of.NotEqual ts = record { above = refl; below = refl; calm = refl; power = refl }
is_operator binary_of.And ts = record { above = refl; below = refl; calm = refl; power = refl }
is_operator binary_of.Or ts = record { above = refl; below = refl; calm = refl; power = refl }

-- an operator is taken where it may follow
abbrev Followed : ℕ → ℕ → BinaryOperator → Type 0
Followed least most operator =
    (symbols : List Sym) (b : Built) (ts : List Seen16) → (nat_le least (binary_power operator) && nat_le (binary_power operator) most) ≡ true
    → Goes (operators_sym least most ∷ symbols) b (binary_tokens operator ++ ts) (rows.infix_symbols least operator ++ symbols) b ts

-- the first token of it
taken : (least most : ℕ) (operator : BinaryOperator) (t : Seen16) (symbols : List Sym) (b : Built) (ts : List Seen16) → infix_of t ≡ Some operator → (nat_le least (binary_power operator) && nat_le (binary_power operator) most) ≡ true
    → Goes (operators_sym least most ∷ symbols) b (t ∷ ts) (infix_rest least (infix_of t) ++ symbols) b ts
taken least most operator t symbols b ts i h =
    takes_row (word.Body (body.Operators least most)) (class.Infix least most) (infix_rest least (infix_of t)) _ symbols b t ts
    (ap (λ o. is_infix least most o) i ∙ h) refl

pub infix_taken : (least most : ℕ) (operator : BinaryOperator) → Followed least most operator
infix_taken least most binary_of.Multiply symbols b ts h = taken least most _ (mark mark_of.Star) symbols b ts refl h
infix_taken least most binary_of.Add symbols b ts h = taken least most _ (mark mark_of.Plus) symbols b ts refl h
infix_taken least most binary_of.Subtract symbols b ts h = taken least most _ (mark mark_of.Minus) symbols b ts refl h
infix_taken least most binary_of.SaturatingAdd symbols b ts h = taken least most _ (mark mark_of.SaturatingPlus) symbols b ts refl h
infix_taken least most binary_of.SaturatingSubtract symbols b ts h = taken least most _ (mark mark_of.SaturatingMinus) symbols b ts refl h
infix_taken least most binary_of.Concatenate symbols b ts h = taken least most _ (mark mark_of.PlusPlus) symbols b ts refl h
infix_taken least most binary_of.ShiftLeft symbols b ts h = taken least most _ (mark mark_of.ShiftLeft) symbols b ts refl h
infix_taken least most binary_of.ShiftRight symbols b ts h = taken least most _ joined symbols b (greater ∷ ts) refl h ▷ reads (greater ∷ []) refl
infix_taken least most binary_of.BitAnd symbols b ts h = taken least most _ (mark mark_of.Ampersand) symbols b ts refl h
infix_taken least most binary_of.BitXor symbols b ts h = taken least most _ (mark mark_of.Caret) symbols b ts refl h
infix_taken least most binary_of.BitOr symbols b ts h = taken least most _ (mark mark_of.Bar) symbols b ts refl h
infix_taken least most binary_of.Less symbols b ts h = taken least most _ (mark mark_of.Less) symbols b ts refl h
infix_taken least most binary_of.LessEqual symbols b ts h = taken least most _ (mark mark_of.LessEqual) symbols b ts refl h
infix_taken least most binary_of.Greater symbols b ts h = taken least most _ (mark mark_of.Greater) symbols b ts refl h
infix_taken least most binary_of.GreaterEqual symbols b ts h = taken least most _ (mark mark_of.GreaterEqual) symbols b ts refl h
infix_taken least most binary_of.Equal symbols b ts h = taken least most _ (mark mark_of.Equal) symbols b ts refl h
infix_taken least most binary_of.NotEqual symbols b ts h = taken least most _ (mark mark_of.NotEqual) symbols b ts refl h
infix_taken least most binary_of.And symbols b ts h = taken least most _ (mark mark_of.AndAnd) symbols b ts refl h
infix_taken least most binary_of.Or symbols b ts h = taken least most _ (mark mark_of.OrOr) symbols b ts refl h

-- `?` is taken where no operator has to bind, and an operator binds in front of it
pub question_taken : (most : ℕ) (symbols : List Sym) (b : Built) (ts : List Seen16) → nat_le 1 most ≡ true
    → Goes (operators_sym 0 most ∷ symbols) b (question ∷ ts) (question_rest ++ symbols) b ts
question_taken most symbols b ts h =
    takes_row (word.Body (body.Operators 0 most)) (class.Question 0 most) question_rest None symbols b question ts h refl

and_false : (a b : Bool) → b ≡ false → (a && b) ≡ false
and_false true b e = e
and_false false b e = refl

some_least : (least : ℕ) → 0 < least → nat_eq least 0 ≡ false
some_least least h = go (nat_eq least 0) refl
  where
    go : (s : Bool) → nat_eq least 0 ≡ s → s ≡ false
    go false e = refl
    go true e = let z = eqb-true least 0 e in absurd (omega (arith, z, h))

no_question : (t : Seen16) (least most : ℕ) → 0 < least → (is_mark mark_of.Question t && (nat_eq least 0 && nat_le 1 most)) ≡ false
no_question t least most h = and_false (is_mark mark_of.Question t) (nat_eq least 0 && nat_le 1 most) (ap (λ (s : Bool). s && nat_le 1 most) (some_least least h))

-- An operator that binds less is left, and so is `?`.
pub leave : (least most : ℕ) (symbols : List Sym) (b : Built) (ts : List Seen16) → next_power ts < least → Goes (operators_sym least most ∷ symbols) b ts symbols b ts
leave least most symbols b ts h = passes grammar16 (operators_sym least most) symbols b b ts (moves ts h)
  where
    go : (t : Seen16) (o : Option BinaryOperator) → infix_of t ≡ o → power_of o < least → move grammar16 (operators_sym least most) (Some t) b ≡ Passes b
    go t None e l = let q = no_question t least most (omega (arith, l)) in rw (e, q) refl
    go t (Some operator) e l = let q = no_question t least most (omega (arith, l)) in rw (e, lt-leb least (binary_power operator) l, q) refl

    moves : (us : List Seen16) → next_power us < least → move grammar16 (operators_sym least most) (next_of us) b ≡ Passes b
    moves [] l = refl
    moves (t ∷ us) l = go t (infix_of t) refl l

-- what no operator follows
pub none_next : (rest : List Seen16) → CalmExp rest → next_power rest ≡ 0
none_next [] c = refl
none_next (t ∷ rest) c = go (infix_of t) (neither_left (is_some (infix_of t)) _ (not_true _ c))
  where
    go : (o : Option BinaryOperator) → is_some o ≡ false → power_of o ≡ 0
    go None e = refl
    go (Some operator) e = cc

-- what stands behind the leftmost operand doesn't belong to it
pub calm_behind : (e : Exp16) (rest : List Seen16) → CalmOperand rest → CalmOperand (behind e ++ rest)
calm_behind (binary operator x y) rest c =
    subst CalmOperand (sym (append_assoc (behind x) (binary_tokens operator ++ written_exp y) rest))
    (calm_behind x ((binary_tokens operator ++ written_exp y) ++ rest)
    (subst CalmOperand (sym (append_assoc (binary_tokens operator) (written_exp y) rest)) (is_operator operator (written_exp y ++ rest)).calm))
calm_behind (choice d x y) rest c =
    subst CalmOperand (sym (append_assoc (behind d) (question ∷ (written_exp x ++ colon ∷ written_exp y)) rest))
    (calm_behind d (question ∷ ((written_exp x ++ colon ∷ written_exp y) ++ rest)) refl)
calm_behind (literal n) rest c = c
calm_behind (truth value) rest c = c
calm_behind error rest c = c
calm_behind (name text) rest c = c
calm_behind (member e text) rest c = c
calm_behind (index e n) rest c = c
calm_behind (slice e high low) rest c = c
calm_behind (call e xs) rest c = c
calm_behind (lookahead e of xs) rest c = c
calm_behind (cast to e) rest c = c
calm_behind (unary operator e) rest c = c
calm_behind (parenthesized e) rest c = c
calm_behind no_arguments rest c = c
calm_behind (argument x y) rest c = c
calm_behind (listed xs) rest c = c
