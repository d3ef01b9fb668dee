-- That the rows of expressions have the meaning of their words.
use Rattle.std.proofs.Common.{◌≡◌, ℕ, suc, Bool, true, false, ◌&&◌, ◌||◌, nat_eq, nat_le, if◌then◌else◌, List, [], ◌∷◌, ◌++◌, Option, Some, None, refl, sym, ap, ap₂, subst, ◌∙◌, append_assoc, append-nil, bytes_eq}
use Rattle.std.specs.List.{flat_map, list_all}
use Rattle.predictive_parser.proofs.Meanings.{Shows, MeansWord, RowsShow}
use Rattle.predictive_parser.specs.Values.{older}
use Rattle.p416_syntax.specs.declared.keyword.Keyword16.{Keyword16}
use Rattle.p416_syntax.specs.declared.keyword.Keyword16.TheVariants as key
use Rattle.p416_syntax.specs.declared.mark.Mark16.{Mark16}
use Rattle.p416_syntax.specs.declared.mark.Mark16.TheVariants as mark_of
use Rattle.p416_syntax.specs.Keywords.{keyword_text16, all_keywords16, is_reserved16, is_among16}
use Rattle.p416_syntax.specs.declared.parts.Type16.{Type16}
use Rattle.p416_syntax.specs.declared.node.CastType.TheVariants as cast_to
use Rattle.p416_syntax.specs.declared.node.UnaryOperator.TheVariants as unary_of
use Rattle.p416_syntax.specs.declared.node.BinaryOperator.{BinaryOperator}
use Rattle.p416_syntax.specs.declared.node.BinaryOperator.TheVariants as binary_of
use Rattle.p416_syntax.specs.Tree.{Exp16, literal, truth, error, name, member, index, slice, call, lookahead, cast, unary, binary, choice, parenthesized, no_arguments, argument, listed}
use Rattle.p416_syntax.specs.Tokens.{Seen16, id, quoted, number, mark, string, annotation, include_line, joined, opens, keyword_among, seen_as, seen_word, lookahead_text, dot, colon, comma, less, greater, question, paren_open, paren_close, brace_open, brace_close}
use Rattle.p416_syntax.specs.Operators.{binary_tokens, binary_power}
use Rattle.p416_syntax.specs.Written.{after_commas, by_commas, written_exp, written_type}
use Rattle.p416_syntax.specs.Conditions.{is_parenthesized}
use Rattle.p416_reader.specs.declared.symbols.Word.TheVariants as word
use Rattle.p416_reader.specs.declared.symbols.BodyWord.{BodyWord}
use Rattle.p416_reader.specs.declared.symbols.BodyWord.TheVariants as body
use Rattle.p416_reader.specs.declared.symbols.BodyAction.TheVariants as act
use Rattle.p416_reader.specs.declared.built.Built.{Built}
use Rattle.p416_reader.specs.internal.Classes.{infix_of, is_infix, is_mark}
use Rattle.p416_reader.specs.internal.Actions.{first_exp, last_literal, put_body, with_exps}
use Rattle.p416_reader.specs.internal.Rows.{Sym, grammar16, infix_more, infix_symbols, infix_rest, operator_rows}
use Rattle.p416_reader.proofs.Forms.{is_full, is_of, is_argument, arguments_of, Suffix, dotted, at, cut, called, looked, written_suffix, is_suffix, with_suffixes, Tail, by, chosen, written_tail, is_tail, with_tail}
use Rattle.p416_reader.proofs.Meaning.{meaning16, after_all, with_exp, put_suffix, put_argument, put_tail}
use Rattle.p416_reader.proofs.Lists.{both}
use Rattle.p416_reader.proofs.Fixed.{fixed16, by_name, by_number, by_word, by_test, is_mark_only}
use Rattle.p416_reader.proofs.ExpressionLaws.{weaker, written_arguments, bare_arguments, are_many, arguments_built, written_suffixes, suffixes_are, suffixes_built, written_tails, tail_is, tails_built}

abbrev pub Means : BodyWord → Built → List Seen16 → Built → Type 0
Means w b us end = MeansWord grammar16 fixed16 meaning16 (word.Body w) b us end

abbrev pub Rows : BodyWord → Built → Type 0
Rows w b = RowsShow grammar16 fixed16 meaning16 (word.Body w) b (grammar16.rows (word.Body w))

-- words behind a dot

free_among : (text : List ℕ) (words : List Keyword16) → is_among16 text words ≡ false → keyword_among text words ≡ None
free_among text [] h = refl
free_among text (word ∷ words) h = go (bytes_eq text (keyword_text16 word)) h (free_among text words)
  where
    go : (same : Bool) → (same || is_among16 text words) ≡ false → (is_among16 text words ≡ false → keyword_among text words ≡ None) → (if same then Some word else keyword_among text words) ≡ None
    go true e f = cc
    go false e f = f e

pub free_word : (text : List ℕ) → is_reserved16 text ≡ false → seen_word text ≡ id text
free_word text h = ap (seen_as text) (free_among text all_keywords16 h)

pub quoted_word : (k : Keyword16) → seen_word (keyword_text16 k) ≡ quoted k
quoted_word key.V1Switch = refl
quoted_word key.Main = refl
quoted_word key.Header = refl
quoted_word key.Bit = refl
quoted_word key.Struct = refl
quoted_word key.Parser = refl
quoted_word key.Control = refl
quoted_word key.Apply = refl
quoted_word key.Bool = refl
quoted_word key.In = refl
quoted_word key.Out = refl
quoted_word key.InOut = refl
quoted_word key.Counter = refl
quoted_word key.DirectCounter = refl
quoted_word key.Register = refl
quoted_word key.Meter = refl
quoted_word key.Action = refl
quoted_word key.Table = refl
quoted_word key.Key = refl
quoted_word key.Actions = refl
quoted_word key.NoAction = refl
quoted_word key.Size = refl
quoted_word key.Counters = refl
quoted_word key.DefaultAction = refl
quoted_word key.State = refl
quoted_word key.Transition = refl
quoted_word key.Select = refl
quoted_word key.Accept = refl
quoted_word key.Reject = refl
quoted_word key.Default = refl
quoted_word key.Underscore = refl
quoted_word key.If = refl
quoted_word key.Else = refl
quoted_word key.Switch = refl
quoted_word key.ActionRun = refl
quoted_word key.True = refl
quoted_word key.False = refl
quoted_word key.Error = refl

-- an expression may stand as an argument
pub argument_is : (e : Exp16) → is_full e ≡ true → is_argument e ≡ true
argument_is (literal n) h = h
argument_is (truth value) h = h
argument_is error h = h
argument_is (name text) h = h
argument_is (member e text) h = h
argument_is (index e n) h = h
argument_is (slice e high low) h = h
argument_is (call e xs) h = h
argument_is (lookahead e of xs) h = h
argument_is (cast to e) h = h
argument_is (unary operator e) h = h
argument_is (binary operator x y) h = h
argument_is (choice x y z) h = h
argument_is (parenthesized e) h = h
argument_is no_arguments h = h
argument_is (argument x y) h = h
argument_is (listed xs) h = cc

-- an operand and operators behind it

pub full_tokens : (e : Exp16) (t : Tail) (us vs : List Seen16) → us ≡ written_exp e → vs ≡ written_tail t → us ++ vs ≡ written_exp (with_tail e t)
full_tokens e t us vs f g = ap₂ ◌++◌ f g ∙ sym (written_tails e t)

pub full_is : (e : Exp16) (t : Tail) → is_of 11 e ≡ true → is_tail 0 11 t ≡ true → is_full (with_tail e t) ≡ true
full_is e t h k = tail_is 0 11 e t refl h k

pub full_built : (e : Exp16) (t : Tail) (b : Built) → with_exp (with_tail e t) b ≡ put_tail t (with_exp e b)
full_built e t b = tails_built e t b.bodies.exps b

-- an operand that begins so, and what stands behind it
operand : (e : Exp16) (front : List Seen16) → front ≡ written_exp e → is_of 12 e ≡ true → (ss : List Suffix) (us : List Seen16) → ((us ≡ flat_map written_suffix ss) × (list_all is_suffix ss ≡ true)) → (b : Built) → Means body.Operand b (front ++ us) (after_all put_suffix ss (with_exp e b))
operand e front f k ss us h b = (
  with_suffixes e ss,
  (ap₂ ◌++◌ f h.0 ∙ sym (written_suffixes e ss), weaker 11 12 (with_suffixes e ss) refl (suffixes_are e ss k h.1)),
  suffixes_built e ss b.bodies.exps b,
)

-- members and the like behind something without parentheses aren't parentheses either
pub plain_suffixes : (e : Exp16) (ss : List Suffix) → is_parenthesized e ≡ false → is_parenthesized (with_suffixes e ss) ≡ false
plain_suffixes e [] h = h
plain_suffixes e (dotted text ∷ ss) h = plain_suffixes (member e text) ss refl
plain_suffixes e (at n ∷ ss) h = plain_suffixes (index e n) ss refl
plain_suffixes e (cut high low ∷ ss) h = plain_suffixes (slice e high low) ss refl
plain_suffixes e (called es ∷ ss) h = plain_suffixes (call e (arguments_of es)) ss refl
plain_suffixes e (looked of es ∷ ss) h = plain_suffixes (lookahead e of (arguments_of es)) ss refl

plain_operand : (e : Exp16) (front : List Seen16) → front ≡ written_exp e → is_of 12 e ≡ true → is_parenthesized e ≡ false → (ss : List Suffix) (us : List Seen16) → ((us ≡ flat_map written_suffix ss) × (list_all is_suffix ss ≡ true)) → (b : Built) → Means body.PlainOperand b (front ++ us) (after_all put_suffix ss (with_exp e b))
unfolding operand
plain_operand e front f h plain ss us k b =
    let m = operand e front f h ss us k b in
    (with_suffixes e ss, (m.1.0, m.1.1, plain_suffixes e ss plain), m.2)

pub operand_rows : (b : Built) → Rows body.Operand b
operand_rows b = (
  by_number _ (λ n us ss h. operand (literal n) (number n ∷ []) refl refl ss us h b),
  (
    λ us ss h. operand (truth true) (quoted key.True ∷ []) refl refl ss us h b,
    (
      λ us ss h. operand (truth false) (quoted key.False ∷ []) refl refl ss us h b,
      (
        λ us ss h. operand error (quoted key.Error ∷ []) refl refl ss us h b,
        (
          by_name _ (λ text us ss h. operand (name text) (id text ∷ []) refl refl ss us h b),
          (
            λ us e h. (e, (h.0, h.1), refl),
            (
              λ us e h. (unary unary_of.Not e, (ap (λ ws. mark mark_of.Bang ∷ ws) h.0, h.1), refl),
              (
                λ us e h. (unary unary_of.Complement e, (ap (λ ws. mark mark_of.Tilde ∷ ws) h.0, h.1), refl),
                (λ us e h. (unary unary_of.Negate e, (ap (λ ws. mark mark_of.Minus ∷ ws) h.0, h.1), refl), tt),
              ),
            ),
          ),
        ),
      ),
    ),
  ),
)

pub plain_operand_rows : (b : Built) → Rows body.PlainOperand b
plain_operand_rows b = (
  by_number _ (λ n us ss h. plain_operand (literal n) (number n ∷ []) refl refl refl ss us h b),
  (
    λ us ss h. plain_operand (truth true) (quoted key.True ∷ []) refl refl refl ss us h b,
    (
      λ us ss h. plain_operand (truth false) (quoted key.False ∷ []) refl refl refl ss us h b,
      (
        λ us ss h. plain_operand error (quoted key.Error ∷ []) refl refl refl ss us h b,
        (
          by_name _ (λ text us ss h. plain_operand (name text) (id text ∷ []) refl refl refl ss us h b),
          (
            λ us e h. (unary unary_of.Not e, (ap (λ ws. mark mark_of.Bang ∷ ws) h.0, h.1, refl), refl),
            (
              λ us e h. (unary unary_of.Complement e, (ap (λ ws. mark mark_of.Tilde ∷ ws) h.0, h.1, refl), refl),
              (λ us e h. (unary unary_of.Negate e, (ap (λ ws. mark mark_of.Minus ∷ ws) h.0, h.1, refl), refl), tt),
            ),
          ),
        ),
      ),
    ),
  ),
)

paren_tokens : (e : Exp16) (t : Tail) (ss : List Suffix) (us vs ws : List Seen16) → us ≡ written_exp e → vs ≡ written_tail t → ws ≡ flat_map written_suffix ss
    → paren_open ∷ (us ++ (vs ++ paren_close ∷ ws)) ≡ written_exp (with_suffixes (parenthesized (with_tail e t)) ss)
paren_tokens e t ss us vs ws f g h =
    ap (λ l. paren_open ∷ l) (sym (append_assoc us vs (paren_close ∷ ws)) ∙ ap₂ (λ l m. l ++ paren_close ∷ m) (full_tokens e t us vs f g) h
    ∙ sym (append_assoc (written_exp (with_tail e t)) (paren_close ∷ []) (flat_map written_suffix ss)))
    ∙ sym (written_suffixes (parenthesized (with_tail e t)) ss)

pub paren_rows : (b : Built) → Rows body.AfterParen b
paren_rows b = (
  by_number _ (λ n us e h. (cast (cast_to.Bit n) e, (ap (λ ws. paren_open ∷ quoted key.Bit ∷ less ∷ number n ∷ greater ∷ paren_close ∷ ws) h.0, h.1), refl)),
  (
    λ us e h. (cast cast_to.Bool e, (ap (λ ws. paren_open ∷ quoted key.Bool ∷ paren_close ∷ ws) h.0, h.1), refl),
    (
      λ us e h vs t k ws ss m.
          let inner = parenthesized (with_tail e t) in (
            with_suffixes inner ss,
            (
              paren_tokens e t ss us vs ws h.0 k.0 m.0,
              weaker 11 12 (with_suffixes inner ss) refl (suffixes_are inner ss (full_is e t h.1 k.1) m.1),
            ),
            suffixes_built inner ss b.bodies.exps b ∙ ap (after_all put_suffix ss) (full_built e t b),
          ),
      tt,
    ),
  ),
)

-- the arguments of a call, built
call_built : (es : List Exp16) (b : Built) → put_suffix (called es) b ≡ put_body act.Call (after_all put_argument es (with_exps (no_arguments ∷ b.bodies.exps) b))
call_built es b = ap (put_body act.Call) (sym (arguments_built es no_arguments b.bodies.exps b))

pub some_postfix_rows : (b : Built) → Rows body.SomePostfix b
some_postfix_rows b = (
  λ us s h vs ss k. ((s, ss), (ap₂ ◌++◌ h.0 k.0, h.1, k.1), refl),
  (
    by_number _ (λ n us s h vs ss k. ((s, ss), (ap₂ ◌++◌ h.0 k.0, h.1, k.1), refl)),
    (
      λ us es h vs ss k. (
        (called es, ss),
        (
          ap (λ l. paren_open ∷ l) (ap₂ (λ l m. l ++ paren_close ∷ m) h.0 k.0 ∙ sym (append_assoc (by_commas written_exp es) (paren_close ∷ []) (flat_map written_suffix ss))),
          h.1,
          k.1,
        ),
        ap (after_all put_suffix ss) (call_built es b),
      ),
      tt,
    ),
  ),
)

lookahead_tokens : (of : Type16) (es : List Exp16) (us vs : List Seen16) → us ≡ written_type of → vs ≡ by_commas written_exp es
    → dot ∷ id lookahead_text ∷ opens ∷ (us ++ greater ∷ paren_open ∷ (vs ++ paren_close ∷ [])) ≡ written_suffix (looked of es)
lookahead_tokens of es us vs f g = ap₂ (λ l m. dot ∷ id lookahead_text ∷ opens ∷ (l ++ greater ∷ paren_open ∷ (m ++ paren_close ∷ []))) f g

lookahead_built : (of : Type16) (es : List Exp16) (b : Built) → put_suffix (looked of es) b ≡ put_body act.Lookahead (after_all put_argument es (with_exps (no_arguments ∷ b.bodies.exps) (record b { parts = record b.parts { types = of ∷ b.parts.types } })))
lookahead_built of es b = ap (put_body act.Lookahead) (sym (arguments_built es no_arguments b.bodies.exps (record b { parts = record b.parts { types = of ∷ b.parts.types } })))

pub dot_rows : (b : Built) → Rows body.AfterDot b
dot_rows b = (
  λ us s h. (s, (h.0, h.1), refl),
  (
    by_word _ (λ text free. (dotted text, (ap (λ t. dot ∷ t ∷ []) (sym (free_word text free)), refl), refl))
        (λ k. (dotted (keyword_text16 k), (ap (λ t. dot ∷ t ∷ []) (sym (quoted_word k)), refl), refl)),
    tt,
  ),
)

-- arguments

listed_tokens : (es xs : List Exp16) (us vs : List Seen16) → us ≡ by_commas written_exp es → vs ≡ after_commas written_exp xs → brace_open ∷ (us ++ brace_close ∷ vs) ≡ written_exp (listed (arguments_of es)) ++ after_commas written_exp xs
listed_tokens es xs us vs f g =
    ap (λ l. brace_open ∷ l) (ap₂ (λ l m. l ++ brace_close ∷ m) (f ∙ sym (written_arguments es)) g ∙ sym (append_assoc (written_exp (arguments_of es)) (brace_close ∷ []) (after_commas written_exp xs)))

listed_is : (es : List Exp16) → list_all is_full es ≡ true → is_argument (listed (arguments_of es)) ≡ true
listed_is es h = are_many false no_arguments es refl h

listed_built : (es : List Exp16) (b : Built) → put_argument (listed (arguments_of es)) b ≡ put_body act.AddArgument (put_body act.Listed (after_all put_argument es (with_exps (no_arguments ∷ b.bodies.exps) b)))
listed_built es b =
    ap (λ x. with_exps (argument (first_exp b.bodies.exps) (listed x) ∷ older b.bodies.exps) b) (bare_arguments no_arguments es)
    ∙ ap (λ c. put_body act.AddArgument (put_body act.Listed c)) (sym (arguments_built es no_arguments b.bodies.exps b))

added_built : (e : Exp16) (t : Tail) (b : Built) → put_argument (with_tail e t) b ≡ put_body act.AddArgument (put_tail t (with_exp e b))
added_built e t b = ap (put_body act.AddArgument) (full_built e t b)

-- the first of a list, whose others stand behind it
first_tokens : (e : Exp16) (t : Tail) (xs : List Exp16) (us vs ws : List Seen16) → us ≡ written_exp e → vs ≡ written_tail t → ws ≡ after_commas written_exp xs → us ++ (vs ++ ws) ≡ written_exp (with_tail e t) ++ after_commas written_exp xs
first_tokens e t xs us vs ws f g h = sym (append_assoc us vs ws) ∙ ap₂ ◌++◌ (full_tokens e t us vs f g) h

pub args_rows : (b : Built) → Rows body.Args b
args_rows b = (
  λ us es h vs xs k. (
    listed (arguments_of es) ∷ xs,
    (listed_tokens es xs us vs h.0 k.0, both (is_argument (listed (arguments_of es))) (list_all is_argument xs) (listed_is es h.1) k.1),
    ap (after_all put_argument xs) (listed_built es b),
  ),
  (
    λ us e h vs t k ws xs m. (
      with_tail e t ∷ xs,
      (first_tokens e t xs us vs ws h.0 k.0 m.0, both (is_argument (with_tail e t)) (list_all is_argument xs) (argument_is (with_tail e t) (full_is e t h.1 k.1)) m.1),
      ap (after_all put_argument xs) (added_built e t b),
    ),
    tt,
  ),
)

pub arg_rows : (b : Built) → Rows body.Arg b
arg_rows b = (
  λ us es h. (
    listed (arguments_of es),
    (listed_tokens es [] us [] h.0 refl ∙ append-nil (written_exp (listed (arguments_of es))), listed_is es h.1),
    listed_built es b,
  ),
  (
    λ us e h vs t k. (with_tail e t, (full_tokens e t us vs h.0 k.0, argument_is (with_tail e t) (full_is e t h.1 k.1)), added_built e t b),
    tt,
  ),
)

-- operators

by_infix : (least most : ℕ) (P : Seen16 → Option BinaryOperator → Type 0)
    → ((m : Mark16) (operator : BinaryOperator) → binary_tokens operator ≡ mark m ∷ [] → is_infix least most (Some operator) ≡ true → P (mark m) (Some operator))
    → (is_infix least most (Some binary_of.ShiftRight) ≡ true → P joined (Some binary_of.ShiftRight))
    → (token : Seen16) → is_infix least most (infix_of token) ≡ true → P token (infix_of token)
by_infix least most P f g (id text) ok = cc
by_infix least most P f g (quoted k) ok = cc
by_infix least most P f g (number n) ok = cc
by_infix least most P f g (string text) ok = cc
by_infix least most P f g (annotation a) ok = cc
by_infix least most P f g (include_line i) ok = cc
by_infix least most P f g opens ok = cc
by_infix least most P f g joined ok = g ok
by_infix least most P f g (mark mark_of.Less) ok = f mark_of.Less binary_of.Less refl ok
by_infix least most P f g (mark mark_of.Greater) ok = f mark_of.Greater binary_of.Greater refl ok
by_infix least most P f g (mark mark_of.LessEqual) ok = f mark_of.LessEqual binary_of.LessEqual refl ok
by_infix least most P f g (mark mark_of.GreaterEqual) ok = f mark_of.GreaterEqual binary_of.GreaterEqual refl ok
by_infix least most P f g (mark mark_of.Equal) ok = f mark_of.Equal binary_of.Equal refl ok
by_infix least most P f g (mark mark_of.NotEqual) ok = f mark_of.NotEqual binary_of.NotEqual refl ok
by_infix least most P f g (mark mark_of.ShiftLeft) ok = f mark_of.ShiftLeft binary_of.ShiftLeft refl ok
by_infix least most P f g (mark mark_of.Plus) ok = f mark_of.Plus binary_of.Add refl ok
by_infix least most P f g (mark mark_of.PlusPlus) ok = f mark_of.PlusPlus binary_of.Concatenate refl ok
by_infix least most P f g (mark mark_of.Minus) ok = f mark_of.Minus binary_of.Subtract refl ok
by_infix least most P f g (mark mark_of.SaturatingPlus) ok = f mark_of.SaturatingPlus binary_of.SaturatingAdd refl ok
by_infix least most P f g (mark mark_of.SaturatingMinus) ok = f mark_of.SaturatingMinus binary_of.SaturatingSubtract refl ok
by_infix least most P f g (mark mark_of.Star) ok = f mark_of.Star binary_of.Multiply refl ok
by_infix least most P f g (mark mark_of.Ampersand) ok = f mark_of.Ampersand binary_of.BitAnd refl ok
by_infix least most P f g (mark mark_of.AndAnd) ok = f mark_of.AndAnd binary_of.And refl ok
by_infix least most P f g (mark mark_of.Bar) ok = f mark_of.Bar binary_of.BitOr refl ok
by_infix least most P f g (mark mark_of.OrOr) ok = f mark_of.OrOr binary_of.Or refl ok
by_infix least most P f g (mark mark_of.Caret) ok = f mark_of.Caret binary_of.BitXor refl ok
by_infix least most P f g (mark m) ok = cc

binary_within : (operator : BinaryOperator) → nat_le (suc (binary_power operator)) 11 ≡ true
binary_within binary_of.Multiply = refl
binary_within binary_of.Add = refl
binary_within binary_of.Subtract = refl
binary_within binary_of.SaturatingAdd = refl
binary_within binary_of.SaturatingSubtract = refl
binary_within binary_of.Concatenate = refl
binary_within binary_of.ShiftLeft = refl
binary_within binary_of.ShiftRight = refl
binary_within binary_of.BitAnd = refl
binary_within binary_of.BitXor = refl
binary_within binary_of.BitOr = refl
binary_within binary_of.Less = refl
binary_within binary_of.LessEqual = refl
binary_within binary_of.Greater = refl
binary_within binary_of.GreaterEqual = refl
binary_within binary_of.Equal = refl
binary_within binary_of.NotEqual = refl
binary_within binary_of.And = refl
binary_within binary_of.Or = refl

-- an operator with one token has nothing more in front of its right operand
one_token : (operator : BinaryOperator) (m : Mark16) (more : List Sym) → binary_tokens operator ≡ mark m ∷ [] → infix_more operator more ≡ more
one_token binary_of.Multiply m more e = refl
one_token binary_of.Add m more e = refl
one_token binary_of.Subtract m more e = refl
one_token binary_of.SaturatingAdd m more e = refl
one_token binary_of.SaturatingSubtract m more e = refl
one_token binary_of.Concatenate m more e = refl
one_token binary_of.ShiftLeft m more e = refl
one_token binary_of.ShiftRight m more e = cc
one_token binary_of.BitAnd m more e = refl
one_token binary_of.BitXor m more e = refl
one_token binary_of.BitOr m more e = refl
one_token binary_of.Less m more e = refl
one_token binary_of.LessEqual m more e = refl
one_token binary_of.Greater m more e = refl
one_token binary_of.GreaterEqual m more e = refl
one_token binary_of.Equal m more e = refl
one_token binary_of.NotEqual m more e = refl
one_token binary_of.And m more e = refl
one_token binary_of.Or m more e = refl

-- an operator with its right operand and the operators behind it
infix_shown : (least most : ℕ) (operator : BinaryOperator) → is_infix least most (Some operator) ≡ true → (b : Built) (e : Exp16) (t rest : Tail) (us vs ws : List Seen16)
    → ((us ≡ written_exp e) × (is_of 11 e ≡ true)) → ((vs ≡ written_tail t) × (is_tail (suc (binary_power operator)) 11 t ≡ true)) → ((ws ≡ written_tail rest) × (is_tail least (binary_power operator) rest ≡ true))
    → (tokens : List Seen16) → tokens ≡ binary_tokens operator ++ (us ++ (vs ++ ws))
    → (tokens ≡ written_tail (by operator (with_tail e t) rest)) × (is_tail least most (by operator (with_tail e t) rest) ≡ true) × (put_tail (by operator (with_tail e t) rest) b ≡ put_tail rest (put_body (act.Binary operator) (put_tail t (with_exp e b))))
infix_shown least most operator ok b e t rest us vs ws h k l tokens f =
    let n = binary_power operator in (
      f ∙ ap (λ x. binary_tokens operator ++ x) (sym (append_assoc us vs ws) ∙ ap₂ ◌++◌ (full_tokens e t us vs h.0 k.0) l.0),
      both (nat_le least n && nat_le n most) (is_of (suc n) (with_tail e t) && is_tail least n rest) ok
          (both (is_of (suc n) (with_tail e t)) (is_tail least n rest) (tail_is (suc n) 11 e t (binary_within operator) h.1 k.1) l.1),
      ap (λ c. put_tail rest (put_body (act.Binary operator) c)) (full_built e t b),
    )

abbrev pub OperatorsShow : BodyWord → ℕ → ℕ → Built → Type 0
OperatorsShow w least most b = RowsShow grammar16 fixed16 meaning16 (word.Body w) b (operator_rows least most)

pub operators_rows : (least most : ℕ) (b : Built) → OperatorsShow (body.Operators least most) least most b
operators_rows least most b = (
  by_infix least most
      (λ (t : Seen16) (p : Option BinaryOperator). Shows grammar16 fixed16 meaning16 (infix_rest least p) b (λ more. t ∷ more) (Means (body.Operators least most) b))
      (λ m operator f ok.
      subst (λ xs. Shows grammar16 fixed16 meaning16 xs b (λ more. mark m ∷ more) (Means (body.Operators least most) b)) (sym (one_token operator m (infix_symbols least operator) f))
      (λ us e h vs t k ws rest l.
      let r = infix_shown least most operator ok b e t rest us vs ws h k l (mark m ∷ (us ++ (vs ++ ws))) (ap (λ x. x ++ (us ++ (vs ++ ws))) (sym f)) in
      (by operator (with_tail e t) rest, (r.0, r.1), r.2)))
      (λ ok us e h vs t k ws rest l.
      let r = infix_shown least most binary_of.ShiftRight ok b e t rest us vs ws h k l (joined ∷ greater ∷ (us ++ (vs ++ ws))) refl in
      (by binary_of.ShiftRight (with_tail e t) rest, (r.0, r.1), r.2)),
  (
    by_test question (is_mark mark_of.Question) (nat_eq least 0 && nat_le 1 most) _ (is_mark_only mark_of.Question) (λ bounds us e h vs f k. (
      chosen e f,
      (ap₂ (λ l m. question ∷ (l ++ colon ∷ m)) h.0 k.0, both (nat_eq least 0 && nat_le 1 most) (is_full e && is_full f) bounds (both (is_full e) (is_full f) h.1 k.1)),
      refl,
    )),
    tt,
  ),
)

pub some_operators_rows : (b : Built) → OperatorsShow body.SomeOperators 0 11 b
some_operators_rows b = (
  by_infix 0 11
      (λ (t : Seen16) (p : Option BinaryOperator). Shows grammar16 fixed16 meaning16 (infix_rest 0 p) b (λ more. t ∷ more) (Means body.SomeOperators b))
      (λ m operator f ok.
      subst (λ xs. Shows grammar16 fixed16 meaning16 xs b (λ more. mark m ∷ more) (Means body.SomeOperators b)) (sym (one_token operator m (infix_symbols 0 operator) f))
      (λ us e h vs t k ws rest l.
      let r = infix_shown 0 11 operator ok b e t rest us vs ws h k l (mark m ∷ (us ++ (vs ++ ws))) (ap (λ x. x ++ (us ++ (vs ++ ws))) (sym f)) in
      (by operator (with_tail e t) rest, (r.0, r.1, refl), r.2)))
      (λ ok us e h vs t k ws rest l.
      let r = infix_shown 0 11 binary_of.ShiftRight ok b e t rest us vs ws h k l (joined ∷ greater ∷ (us ++ (vs ++ ws))) refl in
      (by binary_of.ShiftRight (with_tail e t) rest, (r.0, r.1, refl), r.2)),
  (
    by_test question (is_mark mark_of.Question) true _ (is_mark_only mark_of.Question) (λ bounds us e h vs f k. (
      chosen e f,
      (ap₂ (λ l m. question ∷ (l ++ colon ∷ m)) h.0 k.0, both (is_full e) (is_full f) h.1 k.1, refl),
      refl,
    )),
    tt,
  ),
)

-- the words for expressions

pub exp_rows : (b : Built) → Rows body.Exp b
exp_rows b = (λ us e h vs t k. (with_tail e t, (full_tokens e t us vs h.0 k.0, full_is e t h.1 k.1), full_built e t b), tt)

pub lookahead_rows : (b : Built) → Rows body.AfterLookahead b
lookahead_rows b = (λ us of h vs es k. (looked of es, (lookahead_tokens of es us vs h k.0, k.1), lookahead_built of es b), tt)

pub more_args_rows : (b : Built) → Rows body.MoreArgs b
more_args_rows b =
    (λ us e h vs xs k. (e ∷ xs, (ap (λ l. comma ∷ l) (ap₂ ◌++◌ h.0 k.0), both (is_argument e) (list_all is_argument xs) h.1 k.1), refl), tt)

pub items_rows : (b : Built) → Rows body.Items b
items_rows b = (
  λ us e h vs t k ws xs m. (
    with_tail e t ∷ xs,
    (first_tokens e t xs us vs ws h.0 k.0 m.0, both (is_full (with_tail e t)) (list_all is_full xs) (full_is e t h.1 k.1) m.1),
    ap (after_all put_argument xs) (added_built e t b),
  ),
  tt,
)

pub more_items_rows : (b : Built) → Rows body.MoreItems b
more_items_rows b =
    (λ us e h vs xs k. (e ∷ xs, (ap (λ l. comma ∷ l) (ap₂ ◌++◌ h.0 k.0), both (is_full e) (list_all is_full xs) h.1 k.1), refl), tt)

pub number_rows : (b : Built) → Rows body.AfterNumber b
number_rows b = ((at (last_literal b.parts), (refl, refl), refl), (by_number _ (λ n. (cut (last_literal b.parts) n, (refl, refl), refl)), tt))

pub postfix_rows : (b : Built) → Rows body.Postfix b
postfix_rows b = (λ us ss h. (ss.0 ∷ ss.1, (h.0, both (is_suffix ss.0) (list_all is_suffix ss.1) h.1 h.2), refl), tt)
