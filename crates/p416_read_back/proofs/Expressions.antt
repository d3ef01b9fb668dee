-- The tokens of an expression with its parentheses are told apart.
use Rattle.std.proofs.Common.{◌≡◌, ℕ, suc, Bool, true, false, List, [], ◌∷◌, ◌++◌, refl, sym, ap, ◌∙◌, subst, append_assoc, Option, Some, None}
use Rattle.std.specs.Prelude.{◌&&◌}
use Rattle.std.specs.Str.{bytes_eq}
use Rattle.std.proofs.lemmas.Bool.{and_parts}
use Rattle.p416_syntax.specs.declared.keyword.Keyword16.{Keyword16}
use Rattle.p416_syntax.specs.declared.keyword.Keyword16.TheVariants as key
use Rattle.p416_syntax.specs.declared.lexeme.Literal16.{Literal16}
use Rattle.p416_syntax.specs.Keywords.{all_keywords16}
use Rattle.p416_syntax.specs.declared.parts.Type16.{Type16}
use Rattle.p416_syntax.specs.declared.parts.Type16.TheVariants as type_of
use Rattle.p416_syntax.specs.declared.node.CastType.{CastType}
use Rattle.p416_syntax.specs.declared.node.CastType.TheVariants as cast_to
use Rattle.p416_syntax.specs.declared.node.UnaryOperator.{UnaryOperator}
use Rattle.p416_syntax.specs.declared.node.UnaryOperator.TheVariants as prefix
use Rattle.p416_syntax.specs.declared.node.BinaryOperator.{BinaryOperator}
use Rattle.p416_syntax.specs.declared.node.BinaryOperator.TheVariants as operator_of
use Rattle.p416_syntax.specs.Tree.{Exp16, literal, truth, error, name, member, index, slice, call, lookahead, cast, unary, binary, choice, parenthesized, no_arguments, argument, listed}
use Rattle.p416_syntax.specs.Operators.{postfix_power, prefix_power, binary_power, choice_power, unary_token, binary_tokens}
use Rattle.p416_syntax.specs.Tokens.{Seen16, id, quoted, number, opens, seen_word, seen_as, keyword_among, lookahead_text, dot, greater, bracket_open, bracket_close, paren_open, paren_close, brace_open, brace_close, colon, comma, question, in_parens, in_braces}
use Rattle.p416_syntax.specs.Written.{written_exp, written_type, written_cast, comma_behind}
use Rattle.p416_syntax.specs.Conditions.{without_parentheses, one, many, is_exp_at, is_exp, are_arguments}
use Rattle.token_sheet.specs.Words.{word}
use Rattle.p416_parentheses.specs.Expressions.{is_wrapped, is_wrapped_base, wrapped, within, full, full_base}
use Rattle.p416_spelling.specs.Words.{word16}
use Rattle.p416_spelling.proofs.Keywords.{seen_words}
use Rattle.p416_reader.specs.Seen.{is_greater_kind, is_dot_kind}
use Rattle.p416_read_back.proofs.Told.{W, State, kind_is, word_is, follows, Told, after, after_append, IsSafe, IsClosed, Good, Free, Chunk, IsPlain, free_good, free_chunk, good_nothing, good_append, good_cons, good_one, free_closed, free_append, free_cons}

-- tokens that aren't told by their neighbours
pub plain_id : (text : List ℕ) → IsPlain (id text)
plain_id text = record { fits_always = λ p behind. tt; safe = λ p. (refl, refl) }

pub plain_word : (w : Keyword16) → IsPlain (quoted w)
plain_word w = record { fits_always = λ p behind. tt; safe = λ p. (refl, refl) }

pub plain_number : (n : Literal16) → IsPlain (number n)
plain_number n = record { fits_always = λ p behind. tt; safe = λ p. (refl, refl) }

pub plain_paren_open : IsPlain paren_open
plain_paren_open = record { fits_always = λ p behind. tt; safe = λ p. (refl, refl) }

pub plain_paren_close : IsPlain paren_close
plain_paren_close = record { fits_always = λ p behind. tt; safe = λ p. (refl, refl) }

pub plain_brace_open : IsPlain brace_open
plain_brace_open = record { fits_always = λ p behind. tt; safe = λ p. (refl, refl) }

pub plain_brace_close : IsPlain brace_close
plain_brace_close = record { fits_always = λ p behind. tt; safe = λ p. (refl, refl) }

pub plain_colon : IsPlain colon
plain_colon = record { fits_always = λ p behind. tt; safe = λ p. (refl, refl) }

pub plain_comma : IsPlain comma
plain_comma = record { fits_always = λ p behind. tt; safe = λ p. (refl, refl) }

plain_question : IsPlain question
plain_question = record { fits_always = λ p behind. tt; safe = λ p. (refl, refl) }

plain_greater : IsPlain greater
plain_greater = record { fits_always = λ p behind. tt; safe = λ p. (refl, refl) }

plain_seen : (text : List ℕ) → IsPlain (seen_word text)
plain_seen text = by (keyword_among text all_keywords16)
  where
    by : (o : Option Keyword16) → IsPlain (seen_as text o)
    by None = plain_id text
    by (Some w) = plain_word w

plain_prefix : (o : UnaryOperator) → IsPlain (unary_token o)
plain_prefix prefix.Not = record { fits_always = λ p behind. tt; safe = λ p. (refl, refl) }
plain_prefix prefix.Complement = record { fits_always = λ p behind. tt; safe = λ p. (refl, refl) }
plain_prefix prefix.Negate = record { fits_always = λ p behind. tt; safe = λ p. (refl, refl) }

pub free_parens : (xs : List Seen16) → Good xs → Free (in_parens xs)
free_parens xs h = free_closed paren_open paren_close xs plain_paren_open plain_paren_close refl refl h

pub good_parens : (xs : List Seen16) → Good xs → Good (in_parens xs)
good_parens xs h = free_good (in_parens xs) (free_parens xs h)

pub good_braces : (xs : List Seen16) → Good xs → Good (in_braces xs)
good_braces xs h = good_cons brace_open (xs ++ brace_close ∷ []) plain_brace_open (good_append xs (brace_close ∷ []) h (good_one brace_close plain_brace_close))

free_braces : (xs : List Seen16) → Good xs → Free (in_braces xs)
free_braces xs h = free_closed brace_open brace_close xs plain_brace_open plain_brace_close refl refl h

-- types
type_goes : (of : Type16) (p : State) (rest : List Seen16) → Told (after p (written_type of)) rest → Told p (written_type of ++ rest)
type_goes (type_of.Bit width) p rest t = (tt, (refl, (tt, (tt, t))))
type_goes type_of.Bool p rest t = (tt, t)
type_goes (type_of.Named text None) p rest t = (tt, t)
type_goes (type_of.Named text (Some size)) p rest t = (tt, (tt, (tt, (tt, t))))

type_ends : (of : Type16) (p : State) → IsSafe (after p (written_type of))
type_ends (type_of.Bit width) p = (refl, refl)
type_ends type_of.Bool p = (refl, refl)
type_ends (type_of.Named text None) p = (refl, refl)
type_ends (type_of.Named text (Some size)) p = (refl, refl)

pub good_type : (of : Type16) → Good (written_type of)
good_type of = record { goes = λ p rest s t. type_goes of p rest t; ends = λ p s. type_ends of p }

good_cast : (to : CastType) → Good (written_cast to)
good_cast (cast_to.Bit width) = record { goes = λ p rest s t. (tt, (refl, (tt, (tt, t)))); ends = λ p s. (refl, refl) }
good_cast cast_to.Bool = record { goes = λ p rest s t. (tt, t); ends = λ p s. (refl, refl) }

-- what stands behind an operand
and_false : (a b : Bool) → b ≡ false → (a && b) ≡ false
and_false true b h = h
and_false false b h = refl

first_false : (a b : Bool) → a ≡ false → (a && b) ≡ false
first_false true b h = absurd (cc)
first_false false b h = refl

good_member : (text : List ℕ) → Good (dot ∷ seen_word text ∷ [])
good_member text = record {
  goes = λ p rest s t. (tt, ((plain_seen text).fits_always (p.1, Some (word16 dot)) rest, t));
  ends = λ p s. (plain_seen text).safe (Some (word16 dot));
}

chunk_member : (text : List ℕ) → bytes_eq lookahead_text text ≡ false → Chunk (dot ∷ seen_word text ∷ [])
chunk_member text h = record {
  good = good_member text;
  closes = λ p s. record {
    no_greater = ap (λ (w : W). kind_is is_greater_kind (Some w)) (seen_words text);
    no_less = refl;
    no_lookahead = ap (λ (w : W). follows (Some (word16 dot)) (Some w)) (seen_words text) ∙ first_false (bytes_eq lookahead_text text) true h;
  };
}

chunk_index : (n : Literal16) → Chunk (bracket_open ∷ number n ∷ bracket_close ∷ [])
chunk_index n = record {
  good = record { goes = λ p rest s t. (tt, (tt, (tt, t))); ends = λ p s. (refl, refl) };
  closes = λ p s. record { no_greater = refl; no_less = refl; no_lookahead = refl };
}

chunk_slice : (high low : Literal16) → Chunk (bracket_open ∷ number high ∷ colon ∷ number low ∷ bracket_close ∷ [])
chunk_slice high low = record {
  good = record { goes = λ p rest s t. (tt, (tt, (tt, (tt, (tt, t))))); ends = λ p s. (refl, refl) };
  closes = λ p s. record { no_greater = refl; no_less = refl; no_lookahead = refl };
}

-- `.lookahead<TYPE>(..)`
chunk_lookahead : (of : Type16) (xs : List Seen16) → Good xs → Chunk (dot ∷ id lookahead_text ∷ opens ∷ (written_type of ++ greater ∷ in_parens xs))
chunk_lookahead of xs h =
    let parens = free_parens xs h in
    let opened : State → State = λ p. (Some (word16 (id lookahead_text)), Some (word16 opens)) in
    let behind : State → State = λ p. after (opened p) (written_type of) in
    let last : (p : State) → after (opened p) (written_type of ++ greater ∷ in_parens xs) ≡ after ((behind p).1, Some (word16 greater)) (in_parens xs) = λ p. after_append (opened p) (written_type of) (greater ∷ in_parens xs) in
    record {
      good = record {
        goes = λ p rest s t.
            let inside : (written_type of ++ greater ∷ in_parens xs) ++ rest ≡ written_type of ++ greater ∷ paren_open ∷ ((xs ++ paren_close ∷ []) ++ rest) = append_assoc (written_type of) (greater ∷ in_parens xs) rest in (
              tt,
              (
                tt,
                (
                  (refl, (of, (xs ++ paren_close ∷ []) ++ rest, inside)),
                  subst (λ (zs : List Seen16). Told (opened p) zs) (sym inside)
                      (type_goes of (opened p) (greater ∷ paren_open ∷ ((xs ++ paren_close ∷ []) ++ rest))
                      (tt, parens.goes ((behind p).1, Some (word16 greater)) rest (subst (λ (q : State). Told q rest) (last p) t))),
                ),
              ),
            );
        ends = λ p s. subst (λ (q : State). IsSafe q) (sym (last p)) (parens.ends ((behind p).1, Some (word16 greater)));
      };
      closes = λ p s. subst (λ (q : State). IsClosed q) (sym (last p)) (parens.closes ((behind p).1, Some (word16 greater)) (refl, refl));
    }

-- an operator between two operands
operator_goes : (o : BinaryOperator) (p : State) (rest : List Seen16) → IsClosed p → Told (after p (binary_tokens o)) rest → Told p (binary_tokens o ++ rest)
operator_goes operator_of.Multiply p rest c t = (tt, t)
operator_goes operator_of.Add p rest c t = (tt, t)
operator_goes operator_of.Subtract p rest c t = (tt, t)
operator_goes operator_of.SaturatingAdd p rest c t = (tt, t)
operator_goes operator_of.SaturatingSubtract p rest c t = (tt, t)
operator_goes operator_of.Concatenate p rest c t = (tt, t)
operator_goes operator_of.ShiftLeft p rest c t = (tt, t)
operator_goes operator_of.ShiftRight p rest c t = ((c.no_greater, c.no_less), (tt, t))
operator_goes operator_of.BitAnd p rest c t = (tt, t)
operator_goes operator_of.BitXor p rest c t = (tt, t)
operator_goes operator_of.BitOr p rest c t = (tt, t)
operator_goes operator_of.Less p rest c t = (c.no_lookahead, t)
operator_goes operator_of.LessEqual p rest c t = (tt, t)
operator_goes operator_of.Greater p rest c t = (tt, t)
operator_goes operator_of.GreaterEqual p rest c t = (tt, t)
operator_goes operator_of.Equal p rest c t = (tt, t)
operator_goes operator_of.NotEqual p rest c t = (tt, t)
operator_goes operator_of.And p rest c t = (tt, t)
operator_goes operator_of.Or p rest c t = (tt, t)

good_binary : (xs ys : List Seen16) (o : BinaryOperator) → Free xs → Free ys → Good (xs ++ (binary_tokens o ++ ys))
good_binary xs ys o a b = record {
  goes = λ p rest s t.
      let q = after p xs in
      let r = after q (binary_tokens o) in
      let whole : (xs ++ (binary_tokens o ++ ys)) ++ rest ≡ xs ++ (binary_tokens o ++ (ys ++ rest)) = append_assoc xs (binary_tokens o ++ ys) rest ∙ ap (λ zs. xs ++ zs) (append_assoc (binary_tokens o) ys rest) in
      let states : after p (xs ++ (binary_tokens o ++ ys)) ≡ after r ys = after_append p xs (binary_tokens o ++ ys) ∙ after_append q (binary_tokens o) ys in
      subst (λ (zs : List Seen16). Told p zs) (sym whole) (a.goes p (binary_tokens o ++ (ys ++ rest)) (operator_goes o q (ys ++ rest) (a.closes p s) (b.goes r rest (subst (λ (u : State). Told u rest) states t))));
  ends = λ p s.
      let q = after p xs in
      let states : after p (xs ++ (binary_tokens o ++ ys)) ≡ after (after q (binary_tokens o)) ys = after_append p xs (binary_tokens o ++ ys) ∙ after_append q (binary_tokens o) ys in
      subst (λ (u : State). IsSafe u) (sym states) (b.ends (after q (binary_tokens o)));
}

-- what is shown of each expression
pub record IsTold (e : Exp16) : Type 0 where
  pub good : Good (written_exp (within e))
  pub free : is_wrapped e ≡ false → Free (written_exp (within e))

free_wrapped : (t : Bool) (e : Exp16) → (t ≡ false → Free (written_exp (within e))) → Good (written_exp (within e)) → Free (written_exp (wrapped t (within e)))
free_wrapped true e f g = free_parens (written_exp (within e)) g
free_wrapped false e f g = f refl

free_full : (e : Exp16) → IsTold e → Free (written_exp (full e))
free_full e h = free_wrapped (is_wrapped e) e h.free h.good

not_wrapped : (e : Exp16) → is_wrapped_base e ≡ false → is_wrapped e ≡ false
not_wrapped (literal n) h = refl
not_wrapped (truth value) h = refl
not_wrapped error h = refl
not_wrapped (name text) h = refl
not_wrapped (member e word) h = h
not_wrapped (index e at) h = refl
not_wrapped (slice e high low) h = refl
not_wrapped (call e given) h = refl
not_wrapped (lookahead e of given) h = refl
not_wrapped (cast to e) h = refl
not_wrapped (unary o e) h = refl
not_wrapped (binary o a b) h = h
not_wrapped (choice c a b) h = h
not_wrapped (parenthesized e) h = refl
not_wrapped no_arguments h = refl
not_wrapped (argument before last) h = refl
not_wrapped (listed items) h = refl

free_base : (e : Exp16) → IsTold e → Free (written_exp (full_base e))
free_base e h = free_wrapped (is_wrapped_base e) e (λ b. h.free (not_wrapped e b)) h.good

-- one that is free
told_free : (e : Exp16) → Free (written_exp (within e)) → IsTold e
told_free e f = record { good = free_good (written_exp (within e)) f; free = λ _. f }

-- one that isn't, with parentheses around it
told_good : (e : Exp16) → is_wrapped e ≡ true → Good (written_exp (within e)) → IsTold e
told_good e w g = record { good = g; free = λ f. absurd (let z = sym w ∙ f in cc) }

free_number : (n : Literal16) → Free (number n ∷ [])
free_number n = record { goes = λ p rest t. (tt, t); ends = λ p. (refl, refl); closes = λ p s. record { no_greater = refl; no_less = s.1; no_lookahead = refl } }

free_key : (w : Keyword16) → Free (quoted w ∷ [])
free_key w = record { goes = λ p rest t. (tt, t); ends = λ p. (refl, refl); closes = λ p s. record { no_greater = refl; no_less = s.1; no_lookahead = and_false (word_is (bytes_eq lookahead_text) (Some (word16 (quoted w)))) (kind_is is_dot_kind p.1) s.0 } }

free_name : (text : List ℕ) → Free (id text ∷ [])
free_name text = record { goes = λ p rest t. (tt, t); ends = λ p. (refl, refl); closes = λ p s. record { no_greater = refl; no_less = s.1; no_lookahead = and_false (word_is (bytes_eq lookahead_text) (Some (word16 (id text)))) (kind_is is_dot_kind p.1) s.0 } }

good_comma : (e : Exp16) → Good (comma_behind e)
good_comma (literal n) = good_one comma plain_comma
good_comma (truth value) = good_one comma plain_comma
good_comma error = good_one comma plain_comma
good_comma (name text) = good_one comma plain_comma
good_comma (member e text) = good_one comma plain_comma
good_comma (index e at) = good_one comma plain_comma
good_comma (slice e high low) = good_one comma plain_comma
good_comma (call e given) = good_one comma plain_comma
good_comma (lookahead e of given) = good_one comma plain_comma
good_comma (cast to e) = good_one comma plain_comma
good_comma (unary o e) = good_one comma plain_comma
good_comma (binary o a b) = good_one comma plain_comma
good_comma (choice c a b) = good_one comma plain_comma
good_comma (parenthesized e) = good_one comma plain_comma
good_comma no_arguments = good_nothing
good_comma (argument before last) = good_one comma plain_comma
good_comma (listed items) = good_one comma plain_comma

mutual
  pub told_one : (e : Exp16) (l : ℕ) (x : Bool) → is_exp_at without_parentheses (one l x) e ≡ true → IsTold e
  told_one (literal n) l x h = told_free (literal n) (free_number n)
  told_one (truth true) l x h = told_free (truth true) (free_key key.True)
  told_one (truth false) l x h = told_free (truth false) (free_key key.False)
  told_one error l x h = told_free error (free_key key.Error)
  told_one (name text) l x h = told_free (name text) (free_name text)
  told_one (member e text) l x h =
      let base = free_base e (told_one e postfix_power false h) in
      record {
        good = good_append (written_exp (full_base e)) (dot ∷ seen_word text ∷ []) (free_good (written_exp (full_base e)) base) (good_member text);
        free = λ w. free_append (written_exp (full_base e)) (dot ∷ seen_word text ∷ []) base (chunk_member text w);
      }
  told_one (index e at) l x h = told_free (index e at) (free_append (written_exp (full_base e)) (bracket_open ∷ number at ∷ bracket_close ∷ []) (free_base e (told_one e postfix_power false h)) (chunk_index at))
  told_one (slice e high low) l x h = told_free (slice e high low) (free_append (written_exp (full_base e)) (bracket_open ∷ number high ∷ colon ∷ number low ∷ bracket_close ∷ []) (free_base e (told_one e postfix_power false h)) (chunk_slice high low))
  told_one (call e given) l x h =
      let parts = and_parts (is_exp_at without_parentheses (one postfix_power false) e) (is_exp_at without_parentheses (many true) given) h in
      told_free (call e given) (free_append (written_exp (full_base e)) (in_parens (written_exp (within given))) (free_base e (told_one e postfix_power false parts.0)) (free_chunk (in_parens (written_exp (within given))) (free_parens (written_exp (within given)) (told_many given true parts.1))))
  told_one (lookahead e of given) l x h =
      let parts = and_parts (is_exp_at without_parentheses (one postfix_power false) e) (is_exp_at without_parentheses (many true) given) h in
      told_free (lookahead e of given) (free_append (written_exp (full_base e)) (dot ∷ id lookahead_text ∷ opens ∷ (written_type of ++ greater ∷ in_parens (written_exp (within given)))) (free_base e (told_one e postfix_power false parts.0)) (chunk_lookahead of (written_exp (within given)) (told_many given true parts.1)))
  told_one (cast to e) l x h = told_free (cast to e) (free_append (in_parens (written_cast to)) (written_exp (full e)) (free_parens (written_cast to) (good_cast to)) (free_chunk (written_exp (full e)) (free_full e (told_one e prefix_power false h))))
  told_one (unary o e) l x h = told_free (unary o e) (free_cons (unary_token o) (written_exp (full e)) (plain_prefix o) (free_full e (told_one e prefix_power false h)))
  told_one (binary o a b) l x h =
      let parts = and_parts (is_exp_at without_parentheses (one (binary_power o) false) a) (is_exp_at without_parentheses (one (suc (binary_power o)) false) b) h in
      told_good (binary o a b) refl (good_binary (written_exp (full a)) (written_exp (full b)) o (free_full a (told_one a (binary_power o) false parts.0)) (free_full b (told_one b (suc (binary_power o)) false parts.1)))
  told_one (choice c a b) l x h =
      let parts = and_parts (is_exp_at without_parentheses (one (suc choice_power) false) c) (is_exp_at without_parentheses (one 0 false) a && is_exp_at without_parentheses (one choice_power false) b) h in
      let more = and_parts (is_exp_at without_parentheses (one 0 false) a) (is_exp_at without_parentheses (one choice_power false) b) parts.1 in
      let holds = written_exp (full a) in
      let other = written_exp (full b) in
      told_good (choice c a b) refl
      (good_append (written_exp (full c)) (question ∷ (holds ++ colon ∷ other)) (free_good (written_exp (full c)) (free_full c (told_one c (suc choice_power) false parts.0)))
      (good_cons question (holds ++ colon ∷ other) plain_question
      (good_append holds (colon ∷ other) (free_good holds (free_full a (told_one a 0 false more.0))) (good_cons colon other plain_colon (free_good other (free_full b (told_one b choice_power false more.1)))))))
  told_one (parenthesized e) l x h = absurd (cc)
  told_one no_arguments l x h = absurd (cc)
  told_one (argument before last) l x h = absurd (cc)
  told_one (listed items) l x h = told_free (listed items) (free_braces (written_exp (within items)) (told_many items false (and_parts x (is_exp_at without_parentheses (many false) items) h).1))

  pub told_many : (e : Exp16) (x : Bool) → is_exp_at without_parentheses (many x) e ≡ true → Good (written_exp (within e))
  told_many (literal n) x h = absurd (cc)
  told_many (truth value) x h = absurd (cc)
  told_many error x h = absurd (cc)
  told_many (name text) x h = absurd (cc)
  told_many (member e text) x h = absurd (cc)
  told_many (index e at) x h = absurd (cc)
  told_many (slice e high low) x h = absurd (cc)
  told_many (call e given) x h = absurd (cc)
  told_many (lookahead e of given) x h = absurd (cc)
  told_many (cast to e) x h = absurd (cc)
  told_many (unary o e) x h = absurd (cc)
  told_many (binary o a b) x h = absurd (cc)
  told_many (choice c a b) x h = absurd (cc)
  told_many (parenthesized e) x h = absurd (cc)
  told_many no_arguments x h = good_nothing
  told_many (argument before last) x h =
      let parts = and_parts (is_exp_at without_parentheses (many x) before) (is_exp_at without_parentheses (one 0 x) last) h in
      let behind = written_exp (full last) in
      good_append (written_exp (within before)) (comma_behind (within before) ++ behind) (told_many before x parts.0)
      (good_append (comma_behind (within before)) behind (good_comma (within before)) (free_good behind (free_full last (told_one last 0 x parts.1))))
  told_many (listed items) x h = absurd (cc)

pub good_full : (e : Exp16) → is_exp without_parentheses e ≡ true → Good (written_exp (full e))
good_full e h = free_good (written_exp (full e)) (free_full e (told_one e 0 false h))

pub good_within : (e : Exp16) → is_exp without_parentheses e ≡ true → Good (written_exp (within e))
good_within e h = (told_one e 0 false h).good

pub good_arguments : (e : Exp16) → are_arguments without_parentheses e ≡ true → Good (written_exp (within e))
good_arguments e h = told_many e false h
