-- Keysets that are written with tokens are read of them. What stands in parentheses may be a tuple, or the beginning of an
-- expression, which is told by what stands behind it.
use Rattle.std.proofs.Common.{◌≡◌, ◌⊎◌, ℕ, suc, nat_le, Bool, true, false, not, ◌&&◌, List, [], ◌∷◌, ◌++◌, map, refl, sym, ap, ◌∙◌, subst, append_assoc, inl, inr}
use Rattle.std.specs.List.{list_all}
use Rattle.predictive_parser.specs.declared.symbol.Symbol.TheVariants.{Put}
use Rattle.predictive_parser.specs.Grammar.{◌⇒◌}
use Rattle.p416_syntax.specs.declared.keyword.Keyword16.TheVariants as key
use Rattle.p416_syntax.specs.declared.node.CastType.{CastType}
use Rattle.p416_syntax.specs.declared.node.CastType.TheVariants as cast_to
use Rattle.p416_syntax.specs.declared.node.UnaryOperator.TheVariants as unary_of
use Rattle.p416_syntax.specs.declared.node.BinaryOperator.{BinaryOperator}
use Rattle.p416_syntax.specs.declared.node.BinaryOperator.TheVariants as binary_of
use Rattle.p416_syntax.specs.declared.parsers.Simple.{Simple}
use Rattle.p416_syntax.specs.declared.parsers.Simple.TheVariants as simple
use Rattle.p416_syntax.specs.declared.parsers.Keyset.{Keyset}
use Rattle.p416_syntax.specs.declared.parsers.Keyset.TheVariants as keyset
use Rattle.p416_syntax.specs.Tree.{Exp16, literal, truth, error, name, member, index, slice, call, lookahead, cast, unary, binary, choice, parenthesized, no_arguments, argument, listed}
use Rattle.p416_syntax.specs.Tokens.{Seen16, quoted, number, dot, dots, mask, colon, comma, less, greater, question, paren_open, paren_close, bracket_open}
use Rattle.p416_syntax.specs.Operators.{binary_tokens, binary_power}
use Rattle.p416_syntax.specs.Written.{after_commas, written_exp, written_simple, written_keyset}
use Rattle.p416_syntax.specs.Parentheses.{bare_exp, bare_simple, bare_keyset}
use Rattle.p416_syntax.specs.Conditions.{with_parentheses, is_simple, is_parenthesized, is_keyset}
use Rattle.p416_reader.specs.declared.symbols.Class.TheVariants as class
use Rattle.p416_reader.specs.declared.symbols.Action.TheVariants as action
use Rattle.p416_reader.specs.declared.symbols.BodyAction.TheVariants as act
use Rattle.p416_reader.specs.declared.symbols.StateAction.TheVariants as state_act
use Rattle.p416_reader.specs.declared.symbols.Word.TheVariants as word
use Rattle.p416_reader.specs.declared.symbols.BodyWord.TheVariants as body
use Rattle.p416_reader.specs.declared.symbols.StateWord.TheVariants as state
use Rattle.p416_reader.specs.declared.built.Built.{Built}
use Rattle.p416_reader.specs.internal.Actions.{cleared}
use Rattle.p416_reader.specs.internal.Rows as rows
use Rattle.p416_reader.specs.internal.Rows.{Sym, Rows, state_sym}
use Rattle.p416_reader.proofs.Forms.{is_full, is_of, SimpleEnd, alone, masked, ranged, written_end, is_simple_end, simple_with, bare_end}
use Rattle.p416_reader.proofs.Meaning.{after_word, with_exp, put_keyset, add_simple}
use Rattle.p416_reader.proofs.Lists.{left_true, right_true, all_added}
use Rattle.p416_reader.proofs.ExpressionLaws.{is_many, weaker}
use Rattle.p416_reader.proofs.Readings.{Goes, Calm, ReadsCalm, ◌▷◌, reads, does, from, giving, skips, builds, calmer, first_of, calm_commas, not_true}
use Rattle.p416_reader.proofs.Complete.Parts.{never, same}
use Rattle.p416_reader.proofs.Complete.Expressions.{operators_sym, operand, postfix, CalmExp, head, behind, written_head, root, suffixes, written_root, First, number_first, true_first, false_first, error_first, name_first, paren_first, unary_first, token_of, Begins, begins, apart, like_operand, calm_behind}
use Rattle.p416_reader.proofs.Complete.Trees.{facts, full_read, exp_read, own_head, operand_at}

-- what stands behind an expression

pub reads_end : (end : SimpleEnd) → is_simple_end end ≡ true → ReadsCalm (word.State state.SimpleEnd) end (written_end end)
reads_end alone h symbols b rest c = builds (word.State state.SimpleEnd) (action.State state_act.SimpleValue) symbols b rest refl refl c
reads_end (masked m) h symbols b rest c =
    reads (mask ∷ []) refl ▷ does ▷ exp_read m h _ _ rest (calmer (word.Body body.Exp) (word.State state.SimpleEnd) rest refl c) ▷ does
reads_end (ranged m) h symbols b rest c =
    reads (dots ∷ []) refl ▷ does ▷ exp_read m h _ _ rest (calmer (word.Body body.Exp) (word.State state.SimpleEnd) rest refl c) ▷ does

calm_end : (end : SimpleEnd) (rest : List Seen16) → Calm (word.State state.SimpleEnd) rest → CalmExp (written_end end ++ rest)
calm_end alone rest c = calmer (word.Body body.Exp) (word.State state.SimpleEnd) rest refl c
calm_end (masked m) rest c = refl
calm_end (ranged m) rest c = refl

-- a simple keyset

abbrev simple_rows : Rows
simple_rows =
    (class.Word key.Default ⇒ Put (action.State state_act.SimpleDefault) ∷ []) ∷ (class.Word key.Underscore ⇒ Put (action.State state_act.SimpleAny) ∷ []) ∷ []

valued : (e : Exp16) (end : SimpleEnd) → is_full e ≡ true → is_simple_end end ≡ true → (symbols : List Sym) (b : Built) (rest : List Seen16) → Calm (word.State state.SimpleEnd) rest
    → Goes (state_sym state.Simple ∷ symbols) b (written_exp e ++ (written_end end ++ rest)) symbols (after_word (word.State state.SimpleEnd) end (with_exp e b)) rest
valued e end h k symbols b rest c =
    like_operand (word.State state.Simple) simple_rows (operators_sym 0 11 ∷ state_sym state.SimpleEnd ∷ []) symbols b e (written_end end ++ rest) (begins 0 e h) refl (λ f. let a = apart f in rw (a.default, a.any) refl)
    ▷ full_read e h _ b (written_end end ++ rest) (calm_end end rest c)
    ▷ reads_end end k symbols (with_exp e b) rest c

pub reads_simple : (s : Simple) → is_simple with_parentheses s ≡ true → ReadsCalm (word.State state.Simple) s (written_simple s)
reads_simple simple.Default h symbols b rest c = reads (quoted key.Default ∷ []) refl ▷ does
reads_simple simple.Any h symbols b rest c = reads (quoted key.Underscore ∷ []) refl ▷ does
reads_simple (simple.Value e) h symbols b rest c = valued e alone h refl symbols b rest c
reads_simple (simple.Mask e m) h symbols b rest c =
    from _ (append_assoc (written_exp e) (mask ∷ written_exp m) rest) (valued e (masked m) (left_true (is_full e) (is_full m) h) (right_true (is_full e) (is_full m) h) symbols b rest c)
reads_simple (simple.Range e m) h symbols b rest c =
    from _ (append_assoc (written_exp e) (dots ∷ written_exp m) rest) (valued e (ranged m) (left_true (is_full e) (is_full m) h) (right_true (is_full e) (is_full m) h) symbols b rest c)

abbrev are_simple : List Simple → Bool
are_simple ss = list_all (is_simple with_parentheses) ss

pub reads_more_simples : (ss : List Simple) → are_simple ss ≡ true → ReadsCalm (word.State state.MoreSimples) ss (after_commas written_simple ss)
reads_more_simples [] h symbols b rest c = skips (word.State state.MoreSimples) symbols b rest refl refl c
reads_more_simples (s ∷ ss) h symbols b rest c =
    from _ (first_of (λ x. comma ∷ written_simple x) s ss rest)
    (reads (comma ∷ []) refl
    ▷ reads_simple s (left_true (is_simple with_parentheses s) (are_simple ss) h) _ _ (after_commas written_simple ss ++ rest)
    (calm_commas (word.State state.Simple) written_simple ss rest refl (calmer (word.State state.Simple) (word.State state.MoreSimples) rest refl c))
    ▷ does ▷ reads_more_simples ss (right_true (is_simple with_parentheses s) (are_simple ss) h) symbols _ rest c)

-- tuples

abbrev with_simples : Built → List (List Simple) → Built
with_simples b ls = record (cleared b) { states = record b.states { simple_lists = ls } }

-- the rest of a tuple whose first part is read
tuple_rest : (s : Simple) (ss : List Simple) → are_simple ss ≡ true → (symbols : List Sym) (b : Built) (rest : List Seen16)
    → Goes (state_sym state.MoreSimples ∷ rows.paren_close ∷ Put (action.State state_act.KeysetTuple) ∷ symbols) (with_simples b ((bare_simple s ∷ []) ∷ b.states.simple_lists)) (after_commas written_simple ss ++ paren_close ∷ rest)
    symbols (put_keyset (keyset.Tuple (bare_simple s ∷ map bare_simple ss)) b) rest
tuple_rest s ss h symbols b rest =
    giving (all_added add_simple bare_simple (with_simples b) (λ x ls. refl) ss (bare_simple s ∷ []) b.states.simple_lists)
    (reads_more_simples ss h _ (with_simples b ((bare_simple s ∷ []) ∷ b.states.simple_lists)) (paren_close ∷ rest) refl)
    ▷ reads (paren_close ∷ []) refl ▷ does

abbrev after_keyset : List Sym → List Sym
after_keyset symbols =
    rows.colon ∷ state_sym state.Target ∷ rows.semicolon ∷ Put (action.State state_act.AddCase) ∷ state_sym state.SelectCases ∷ symbols

abbrev KeysetReads : Keyset → Type 0
KeysetReads k =
    (symbols : List Sym) (b : Built) (rest : List Seen16)
    → Goes (state_sym state.SelectCases ∷ symbols) b (written_keyset k ++ colon ∷ rest) (after_keyset symbols) (put_keyset (bare_keyset k) b) (colon ∷ rest)

tuple_tokens : (s : Simple) (ss : List Simple) (rest : List Seen16)
    → written_keyset (keyset.Tuple (s ∷ ss)) ++ rest ≡ paren_open ∷ (written_simple s ++ (after_commas written_simple ss ++ paren_close ∷ rest))
tuple_tokens s ss rest =
    ap (λ ts. paren_open ∷ ts)
    (append_assoc (written_simple s ++ after_commas written_simple ss) (paren_close ∷ []) rest ∙ append_assoc (written_simple s) (after_commas written_simple ss) (paren_close ∷ rest))

abbrev tuple_end : List Sym
tuple_end = Put (action.State state_act.OneSimple) ∷ state_sym state.MoreSimples ∷ rows.paren_close ∷ Put (action.State state_act.KeysetTuple) ∷ []

abbrev one_end : List Sym
one_end = operators_sym 0 11 ∷ state_sym state.SimpleEnd ∷ Put (action.State state_act.KeysetOne) ∷ []

abbrev keyset_rows : Rows
keyset_rows =
    (class.Word key.Default ⇒ Put (action.State state_act.SimpleDefault) ∷ tuple_end)
    ∷ (class.Word key.Underscore ⇒ Put (action.State state_act.SimpleAny) ∷ tuple_end)
    ∷ (class.Word key.Bit ⇒ rows.less ∷ rows.a_number ∷ rows.greater ∷ rows.paren_close ∷ operand ∷ Put (action.Body act.CastBit) ∷ one_end)
    ∷ (class.Word key.Bool ⇒ rows.paren_close ∷ operand ∷ Put (action.Body act.CastBool) ∷ one_end)
    ∷ []

-- an expression behind the parenthesis that a keyset begins with
opened_read : (e : Exp16) → is_full e ≡ true → (symbols : List Sym) (b : Built) (rest : List Seen16) → CalmExp rest
    → Goes (state_sym state.SelectCases ∷ symbols) b (paren_open ∷ (written_exp e ++ rest)) (state_sym state.KeysetParenEnd ∷ after_keyset symbols) (with_exp e b) rest
opened_read e h symbols b rest c =
    reads (paren_open ∷ []) refl
    ▷ like_operand (word.State state.KeysetParen) keyset_rows (operators_sym 0 11 ∷ state_sym state.KeysetParenEnd ∷ []) (after_keyset symbols) b e rest (begins 0 e h) refl
    (λ f. let a = apart f in rw (a.default, a.any, a.bit, a.bool) refl)
    ▷ full_read e h _ b rest c

value_tuple : (e : Exp16) (ss : List Simple) → is_full e ≡ true → are_simple ss ≡ true → KeysetReads (keyset.Tuple (simple.Value e ∷ ss))
value_tuple e [] h k symbols b rest =
    from _ (tuple_tokens (simple.Value e) [] (colon ∷ rest))
    (opened_read e h symbols b (paren_close ∷ colon ∷ rest) refl ▷ reads (paren_close ∷ []) refl
    ▷ builds (word.State state.AfterKeysetParen) (action.State state_act.TupleOfOne) _ (with_exp e b) (colon ∷ rest) refl refl refl)
value_tuple e (s ∷ ss) h k symbols b rest =
    let hs = left_true (is_simple with_parentheses s) (are_simple ss) k in
    let hss = right_true (is_simple with_parentheses s) (are_simple ss) k in
    from _ (tuple_tokens (simple.Value e) (s ∷ ss) (colon ∷ rest) ∙ ap (λ ts. paren_open ∷ (written_exp e ++ ts)) (first_of (λ x. comma ∷ written_simple x) s ss (paren_close ∷ colon ∷ rest)))
    (opened_read e h symbols b (comma ∷ (written_simple s ++ (after_commas written_simple ss ++ paren_close ∷ colon ∷ rest))) refl
    ▷ reads (comma ∷ []) refl ▷ does ▷ does
    ▷ reads_simple s hs _ _ (after_commas written_simple ss ++ paren_close ∷ colon ∷ rest) (calm_commas (word.State state.Simple) written_simple ss (paren_close ∷ colon ∷ rest) refl refl)
    ▷ does
    ▷ giving (all_added add_simple bare_simple (with_simples b) (λ x ls. refl) ss (simple.Value (bare_exp e) ∷ bare_simple s ∷ []) b.states.simple_lists)
    (reads_more_simples ss hss _ (with_simples b ((simple.Value (bare_exp e) ∷ bare_simple s ∷ []) ∷ b.states.simple_lists)) (paren_close ∷ colon ∷ rest) refl)
    ▷ reads (paren_close ∷ []) refl ▷ does)

tuple_read : (s : Simple) (ss : List Simple) → is_simple with_parentheses s ≡ true → are_simple ss ≡ true → KeysetReads (keyset.Tuple (s ∷ ss))
tuple_read simple.Default ss h k symbols b rest =
    from _ (tuple_tokens simple.Default ss (colon ∷ rest))
    (reads (paren_open ∷ quoted key.Default ∷ []) refl ▷ does ▷ does ▷ tuple_rest simple.Default ss k (after_keyset symbols) b (colon ∷ rest))
tuple_read simple.Any ss h k symbols b rest =
    from _ (tuple_tokens simple.Any ss (colon ∷ rest))
    (reads (paren_open ∷ quoted key.Underscore ∷ []) refl ▷ does ▷ does ▷ tuple_rest simple.Any ss k (after_keyset symbols) b (colon ∷ rest))
tuple_read (simple.Value e) ss h k symbols b rest = value_tuple e ss h k symbols b rest
tuple_read (simple.Mask e m) ss h k symbols b rest =
    from _ (tuple_tokens (simple.Mask e m) ss (colon ∷ rest) ∙ ap (λ ts. paren_open ∷ ts) (append_assoc (written_exp e) (mask ∷ written_exp m) (after_commas written_simple ss ++ paren_close ∷ colon ∷ rest)))
    (opened_read e (left_true (is_full e) (is_full m) h) symbols b (mask ∷ (written_exp m ++ (after_commas written_simple ss ++ paren_close ∷ colon ∷ rest))) refl
    ▷ reads (mask ∷ []) refl ▷ does
    ▷ exp_read m (right_true (is_full e) (is_full m) h) _ _ (after_commas written_simple ss ++ paren_close ∷ colon ∷ rest) (calm_commas (word.Body body.Exp) written_simple ss (paren_close ∷ colon ∷ rest) refl refl)
    ▷ does ▷ does ▷ tuple_rest (simple.Mask e m) ss k (after_keyset symbols) b (colon ∷ rest))
tuple_read (simple.Range e m) ss h k symbols b rest =
    from _ (tuple_tokens (simple.Range e m) ss (colon ∷ rest) ∙ ap (λ ts. paren_open ∷ ts) (append_assoc (written_exp e) (dots ∷ written_exp m) (after_commas written_simple ss ++ paren_close ∷ colon ∷ rest)))
    (opened_read e (left_true (is_full e) (is_full m) h) symbols b (dots ∷ (written_exp m ++ (after_commas written_simple ss ++ paren_close ∷ colon ∷ rest))) refl
    ▷ reads (dots ∷ []) refl ▷ does
    ▷ exp_read m (right_true (is_full e) (is_full m) h) _ _ (after_commas written_simple ss ++ paren_close ∷ colon ∷ rest) (calm_commas (word.Body body.Exp) written_simple ss (paren_close ∷ colon ∷ rest) refl refl)
    ▷ does ▷ does ▷ tuple_rest (simple.Range e m) ss k (after_keyset symbols) b (colon ∷ rest))

-- an expression that begins with no parenthesis

abbrev is_paren : First → Bool
is_paren paren_first = true
is_paren f = false

abbrev PlainBegun : Seen16 → Type 0
PlainBegun t =
    (symbols : List Sym) (b : Built) (ts : List Seen16)
    → Goes (state_sym state.SelectCases ∷ symbols) b (t ∷ ts) (operand ∷ operators_sym 0 11 ∷ state_sym state.SimpleEnd ∷ Put (action.State state_act.KeysetOne) ∷ after_keyset symbols) b (t ∷ ts)

plain_begun : (f : First) → is_paren f ≡ false → PlainBegun (token_of f)
plain_begun (number_first n) h symbols b ts = same refl
plain_begun true_first h symbols b ts = same refl
plain_begun false_first h symbols b ts = same refl
plain_begun error_first h symbols b ts = same refl
plain_begun (name_first text) h symbols b ts = same refl
plain_begun paren_first h symbols b ts = absurd (never (sym h))
plain_begun (unary_first unary_of.Not) h symbols b ts = same refl
plain_begun (unary_first unary_of.Complement) h symbols b ts = same refl
plain_begun (unary_first unary_of.Negate) h symbols b ts = same refl

-- a keyset that is an expression and what stands behind it
abbrev OneReads : Exp16 → SimpleEnd → Type 0
OneReads e end =
    (symbols : List Sym) (b : Built) (rest : List Seen16)
    → Goes (state_sym state.SelectCases ∷ symbols) b (written_exp e ++ (written_end end ++ colon ∷ rest)) (after_keyset symbols) (put_keyset (keyset.One (simple_with (bare_exp e) (bare_end end))) b) (colon ∷ rest)

plain_one : (e : Exp16) (end : SimpleEnd) (r : Begins e) → is_full e ≡ true → is_simple_end end ≡ true → is_paren r.first ≡ false → OneReads e end
plain_one e end r h k p symbols b rest =
    subst (λ ts. Goes (state_sym state.SelectCases ∷ symbols) b (ts ++ (written_end end ++ colon ∷ rest)) (operand ∷ operators_sym 0 11 ∷ state_sym state.SimpleEnd ∷ Put (action.State state_act.KeysetOne) ∷ after_keyset symbols) b (ts ++ (written_end end ++ colon ∷ rest))) (sym r.whole)
    (plain_begun r.first p symbols b (r.more ++ (written_end end ++ colon ∷ rest)))
    ▷ full_read e h _ b (written_end end ++ colon ∷ rest) (calm_end end (colon ∷ rest) refl)
    ▷ reads_end end k _ (with_exp e b) (colon ∷ rest) refl ▷ does

-- the operators behind the leftmost operand, and the end
tail_end : (e : Exp16) (end : SimpleEnd) → is_full e ≡ true → is_simple_end end ≡ true → (symbols : List Sym) (b : Built) (rest : List Seen16)
    → Goes (operators_sym 0 11 ∷ state_sym state.SimpleEnd ∷ Put (action.State state_act.KeysetOne) ∷ after_keyset symbols) (with_exp (head e) b) (behind e ++ (written_end end ++ colon ∷ rest))
    (after_keyset symbols) (put_keyset (keyset.One (simple_with (bare_exp e) (bare_end end))) b) (colon ∷ rest)
tail_end e end h k symbols b rest =
    (facts e).tail h _ b (written_end end ++ colon ∷ rest) (calm_end end (colon ∷ rest) refl)
    ▷ reads_end end k _ (with_exp e b) (colon ∷ rest) refl ▷ does

calm_operand_end : (e : Exp16) (end : SimpleEnd) (rest : List Seen16) → Calm (word.Body body.Operand) (behind e ++ (written_end end ++ colon ∷ rest))
calm_operand_end e end rest = calm_behind e (written_end end ++ colon ∷ rest) (calmer (word.Body body.Operand) (word.Body body.Exp) (written_end end ++ colon ∷ rest) refl (calm_end end (colon ∷ rest) refl))

-- a cast at the beginning
cast_one : (to : CastType) (x e : Exp16) (end : SimpleEnd) → head e ≡ cast to x → is_of 11 x ≡ true → is_full e ≡ true → is_simple_end end ≡ true → OneReads e end
cast_one (cast_to.Bit w) x e end d hx h k symbols b rest =
    from _ (ap (λ ts. ts ++ (written_end end ++ colon ∷ rest)) (written_head e) ∙ append_assoc (written_exp (head e)) (behind e) (written_end end ++ colon ∷ rest)
    ∙ ap (λ y. written_exp y ++ (behind e ++ (written_end end ++ colon ∷ rest))) d)
    (reads (paren_open ∷ quoted key.Bit ∷ less ∷ number w ∷ greater ∷ paren_close ∷ []) refl
    ▷ operand_at x (facts x) hx _ _ (behind e ++ (written_end end ++ colon ∷ rest)) (calm_operand_end e end rest)
    ▷ does
    ▷ subst (λ y. Goes (operators_sym 0 11 ∷ state_sym state.SimpleEnd ∷ Put (action.State state_act.KeysetOne) ∷ after_keyset symbols) (with_exp y b) (behind e ++ (written_end end ++ colon ∷ rest)) (after_keyset symbols) (put_keyset (keyset.One (simple_with (bare_exp e) (bare_end end))) b) (colon ∷ rest)) d (tail_end e end h k symbols b rest))
cast_one cast_to.Bool x e end d hx h k symbols b rest =
    from _ (ap (λ ts. ts ++ (written_end end ++ colon ∷ rest)) (written_head e) ∙ append_assoc (written_exp (head e)) (behind e) (written_end end ++ colon ∷ rest)
    ∙ ap (λ y. written_exp y ++ (behind e ++ (written_end end ++ colon ∷ rest))) d)
    (reads (paren_open ∷ quoted key.Bool ∷ paren_close ∷ []) refl
    ▷ operand_at x (facts x) hx _ b (behind e ++ (written_end end ++ colon ∷ rest)) (calm_operand_end e end rest)
    ▷ does
    ▷ subst (λ y. Goes (operators_sym 0 11 ∷ state_sym state.SimpleEnd ∷ Put (action.State state_act.KeysetOne) ∷ after_keyset symbols) (with_exp y b) (behind e ++ (written_end end ++ colon ∷ rest)) (after_keyset symbols) (put_keyset (keyset.One (simple_with (bare_exp e) (bare_end end))) b) (colon ∷ rest)) d (tail_end e end h k symbols b rest))

-- what begins behind the parentheses

data Next : Type 0 where
  dot_next : Next
  bracket_next : Next
  paren_next : Next

abbrev next_token : Next → Seen16
next_token dot_next = dot
next_token bracket_next = bracket_open
next_token paren_next = paren_open

-- the tokens begin so, if there are any
abbrev Begun : {A : Type 0} → (A → Seen16) → List Seen16 → Type 0
Begun {A} token ts = (ts ≡ []) ⊎ ((a : A) × (more : List Seen16) × (ts ≡ token a ∷ more))

begun_more : {A : Type 0} (token : A → Seen16) (ts : List Seen16) (a : A) (more : List Seen16) → Begun token ts → Begun token (ts ++ token a ∷ more)
begun_more token ts a more (inl e) = inr (a, more, ap (λ us. us ++ token a ∷ more) e)
begun_more token ts a more (inr p) = inr (p.0, p.1 ++ token a ∷ more, ap (λ us. us ++ token a ∷ more) p.2)

suffixes_begun : (e : Exp16) → Begun next_token (suffixes e)
suffixes_begun (member e text) = begun_more next_token (suffixes e) dot_next _ (suffixes_begun e)
suffixes_begun (index e n) = begun_more next_token (suffixes e) bracket_next _ (suffixes_begun e)
suffixes_begun (slice e high low) = begun_more next_token (suffixes e) bracket_next _ (suffixes_begun e)
suffixes_begun (call e xs) = begun_more next_token (suffixes e) paren_next _ (suffixes_begun e)
suffixes_begun (lookahead e of xs) = begun_more next_token (suffixes e) dot_next _ (suffixes_begun e)
suffixes_begun (literal n) = inl refl
suffixes_begun (truth value) = inl refl
suffixes_begun error = inl refl
suffixes_begun (name text) = inl refl
suffixes_begun (cast to e) = inl refl
suffixes_begun (unary operator e) = inl refl
suffixes_begun (binary operator x y) = inl refl
suffixes_begun (choice d x y) = inl refl
suffixes_begun (parenthesized e) = inl refl
suffixes_begun no_arguments = inl refl
suffixes_begun (argument x y) = inl refl
suffixes_begun (listed xs) = inl refl

not_nil : (ts : List Seen16) (t : Seen16) (more : List Seen16) → ts ++ t ∷ more ≡ [] → ⊥
not_nil [] t more e = cc
not_nil (u ∷ ts) t more e = cc

own_root : (e : Exp16) → suffixes e ≡ [] → root e ≡ e
own_root (member e text) h = absurd (not_nil (suffixes e) _ _ h)
own_root (index e n) h = absurd (not_nil (suffixes e) _ _ h)
own_root (slice e high low) h = absurd (not_nil (suffixes e) _ _ h)
own_root (call e xs) h = absurd (not_nil (suffixes e) _ _ h)
own_root (lookahead e of xs) h = absurd (not_nil (suffixes e) _ _ h)
own_root (literal n) h = refl
own_root (truth value) h = refl
own_root error h = refl
own_root (name text) h = refl
own_root (cast to e) h = refl
own_root (unary operator e) h = refl
own_root (binary operator x y) h = refl
own_root (choice d x y) h = refl
own_root (parenthesized e) h = refl
own_root no_arguments h = refl
own_root (argument x y) h = refl
own_root (listed xs) h = refl

-- Behind the parentheses the next token goes on with the expression in them as with an operand.
abbrev Continues : List Sym → Seen16 → Type 0
Continues more t =
    (symbols : List Sym) (b : Built) (ts : List Seen16)
    → Goes (state_sym state.AfterKeysetParen ∷ symbols) b (t ∷ ts) (more ++ (operators_sym 0 11 ∷ state_sym state.SimpleEnd ∷ Put (action.State state_act.KeysetOne) ∷ symbols)) b (t ∷ ts)

suffix_continues : (n : Next) → Continues (postfix ∷ []) (next_token n)
suffix_continues dot_next symbols b ts = same refl
suffix_continues bracket_next symbols b ts = same refl
suffix_continues paren_next symbols b ts = same refl

record Follows (ts : List Seen16) : Type 0 where
  first : Seen16
  more : List Seen16
  whole : ts ≡ first ∷ more
  goes : Continues [] first

follows_more : (ts us : List Seen16) → Follows ts → Follows (ts ++ us)
follows_more ts us r = record { first = r.first; more = r.more ++ us; whole = ap (λ vs. vs ++ us) r.whole; goes = r.goes }

operator_follows : (operator : BinaryOperator) (us : List Seen16) → Follows (binary_tokens operator ++ us)
operator_follows binary_of.Multiply us = record { first = _; more = us; whole = refl; goes = λ symbols b ts. same refl }
operator_follows binary_of.Add us = record { first = _; more = us; whole = refl; goes = λ symbols b ts. same refl }
operator_follows binary_of.Subtract us = record { first = _; more = us; whole = refl; goes = λ symbols b ts. same refl }
operator_follows binary_of.SaturatingAdd us = record { first = _; more = us; whole = refl; goes = λ symbols b ts. same refl }
operator_follows binary_of.SaturatingSubtract us = record { first = _; more = us; whole = refl; goes = λ symbols b ts. same refl }
operator_follows binary_of.Concatenate us = record { first = _; more = us; whole = refl; goes = λ symbols b ts. same refl }
operator_follows binary_of.ShiftLeft us = record { first = _; more = us; whole = refl; goes = λ symbols b ts. same refl }
operator_follows binary_of.ShiftRight us = record { first = _; more = greater ∷ us; whole = refl; goes = λ symbols b ts. same refl }
operator_follows binary_of.BitAnd us = record { first = _; more = us; whole = refl; goes = λ symbols b ts. same refl }
operator_follows binary_of.BitXor us = record { first = _; more = us; whole = refl; goes = λ symbols b ts. same refl }
operator_follows binary_of.BitOr us = record { first = _; more = us; whole = refl; goes = λ symbols b ts. same refl }
operator_follows binary_of.Less us = record { first = _; more = us; whole = refl; goes = λ symbols b ts. same refl }
operator_follows binary_of.LessEqual us = record { first = _; more = us; whole = refl; goes = λ symbols b ts. same refl }
operator_follows binary_of.Greater us = record { first = _; more = us; whole = refl; goes = λ symbols b ts. same refl }
operator_follows binary_of.GreaterEqual us = record { first = _; more = us; whole = refl; goes = λ symbols b ts. same refl }
operator_follows binary_of.Equal us = record { first = _; more = us; whole = refl; goes = λ symbols b ts. same refl }
operator_follows binary_of.NotEqual us = record { first = _; more = us; whole = refl; goes = λ symbols b ts. same refl }
operator_follows binary_of.And us = record { first = _; more = us; whole = refl; goes = λ symbols b ts. same refl }
operator_follows binary_of.Or us = record { first = _; more = us; whole = refl; goes = λ symbols b ts. same refl }

question_follows : (us : List Seen16) → Follows (question ∷ us)
question_follows us = record { first = _; more = us; whole = refl; goes = λ symbols b ts. same refl }

follows_joined : (ts us : List Seen16) → (ts ≡ []) ⊎ Follows ts → Follows us → (ts ++ us ≡ []) ⊎ Follows (ts ++ us)
follows_joined ts us (inl e) r = inr (subst (λ vs. Follows (vs ++ us)) (sym e) r)
follows_joined ts us (inr q) r = inr (follows_more ts us q)

behind_follows : (e : Exp16) → (behind e ≡ []) ⊎ Follows (behind e)
behind_follows (binary operator x y) = follows_joined (behind x) _ (behind_follows x) (operator_follows operator (written_exp y))
behind_follows (choice d x y) = follows_joined (behind d) _ (behind_follows d) (question_follows _)
behind_follows (literal n) = inl refl
behind_follows (truth value) = inl refl
behind_follows error = inl refl
behind_follows (name text) = inl refl
behind_follows (member e text) = inl refl
behind_follows (index e n) = inl refl
behind_follows (slice e high low) = inl refl
behind_follows (call e xs) = inl refl
behind_follows (lookahead e of xs) = inl refl
behind_follows (cast to e) = inl refl
behind_follows (unary operator e) = inl refl
behind_follows (parenthesized e) = inl refl
behind_follows no_arguments = inl refl
behind_follows (argument x y) = inl refl
behind_follows (listed xs) = inl refl

no_follow : (ts us : List Seen16) → Follows us → ts ++ us ≡ [] → ⊥
no_follow ts us r e = not_nil ts r.first r.more (ap (λ vs. ts ++ vs) (sym r.whole) ∙ e)

own_operand : (e : Exp16) → behind e ≡ [] → head e ≡ e
own_operand (binary operator x y) h = absurd (no_follow (behind x) _ (operator_follows operator (written_exp y)) h)
own_operand (choice d x y) h = absurd (no_follow (behind d) _ (question_follows _) h)
own_operand (literal n) h = refl
own_operand (truth value) h = refl
own_operand error h = refl
own_operand (name text) h = refl
own_operand (member e text) h = refl
own_operand (index e n) h = refl
own_operand (slice e high low) h = refl
own_operand (call e xs) h = refl
own_operand (lookahead e of xs) h = refl
own_operand (cast to e) h = refl
own_operand (unary operator e) h = refl
own_operand (parenthesized e) h = refl
own_operand no_arguments h = refl
own_operand (argument x y) h = refl
own_operand (listed xs) h = refl

-- what an expression begins with: no parenthesis, that of a cast, or another

data Lead (e : Exp16) : Type 0 where
  plain_lead : (r : Begins e) (h : is_paren r.first ≡ false) → Lead e
  cast_lead : (to : CastType) (x : Exp16) (h : head e ≡ cast to x) (k : is_of 11 x ≡ true) → Lead e
  open_lead : (i : Exp16) (h : root (head e) ≡ parenthesized i) (k : is_full i ≡ true) (l : is_of 12 (head e) ≡ true) → Lead e

abbrev more_begins : (e x : Exp16) (ts : List Seen16) → written_exp x ≡ written_exp e ++ ts → Begins e → Begins x
more_begins e x ts w r = record { first = r.first; more = r.more ++ ts; whole = w ∙ ap (λ us. us ++ ts) r.whole }

lead_behind : (e x : Exp16) (ts : List Seen16) → written_exp x ≡ written_exp e ++ ts → head x ≡ head e → Lead e → Lead x
lead_behind e x ts w d (plain_lead r h) = plain_lead (more_begins e x ts w r) h
lead_behind e x ts w d (cast_lead to y h k) = cast_lead to y (d ∙ h) k
lead_behind e x ts w d (open_lead i h k l) = open_lead i (ap root d ∙ h) k (subst (λ y. is_of 12 y ≡ true) (sym d) l)

lead_post : (e x : Exp16) (ts : List Seen16) → written_exp x ≡ written_exp e ++ ts → head x ≡ x → root x ≡ root e → is_of 12 e ≡ true → is_of 12 x ≡ true → Lead e → Lead x
lead_post e x ts w d s p q (plain_lead r h) = plain_lead (more_begins e x ts w r) h
lead_post e x ts w d s p q (cast_lead to y h k) =
    let own = own_head e (weaker 11 12 e refl p) in
    absurd (never (subst (λ z. is_of 12 z ≡ true) (sym own ∙ h) p))
lead_post e x ts w d s p q (open_lead i h k l) =
    let own = own_head e (weaker 11 12 e refl p) in
    open_lead i (ap root d ∙ s ∙ ap root (sym own) ∙ h) k (subst (λ y. is_of 12 y ≡ true) (sym d) q)

lead : (q : ℕ) (e : Exp16) → is_of q e ≡ true → Lead e
lead q (literal n) h = plain_lead (record { first = number_first n; more = []; whole = refl }) refl
lead q (truth true) h = plain_lead (record { first = true_first; more = []; whole = refl }) refl
lead q (truth false) h = plain_lead (record { first = false_first; more = []; whole = refl }) refl
lead q error h = plain_lead (record { first = error_first; more = []; whole = refl }) refl
lead q (name text) h = plain_lead (record { first = name_first text; more = []; whole = refl }) refl
lead q (member e text) h = lead_post e (member e text) _ refl refl refl h h (lead 12 e h)
lead q (index e n) h = lead_post e (index e n) _ refl refl refl h h (lead 12 e h)
lead q (slice e high low) h = lead_post e (slice e high low) _ refl refl refl h h (lead 12 e h)
lead q (call e xs) h = let k = left_true (is_of 12 e) (is_many true xs) h in lead_post e (call e xs) _ refl refl refl k h (lead 12 e k)
lead q (lookahead e of xs) h = let k = left_true (is_of 12 e) (is_many true xs) h in lead_post e (lookahead e of xs) _ refl refl refl k h (lead 12 e k)
lead q (cast to e) h = cast_lead to e refl (right_true (nat_le q 11) (is_of 11 e) h)
lead q (unary operator e) h = plain_lead (record { first = unary_first operator; more = _; whole = refl }) refl
lead q (binary operator x y) h =
    let p = binary_power operator in
    lead_behind x (binary operator x y) _ refl refl (lead p x (left_true (is_of p x) (is_of (suc p) y) (right_true (nat_le q p) (is_of p x && is_of (suc p) y) h)))
lead q (choice d x y) h =
    lead_behind d (choice d x y) _ refl refl (lead 1 d (left_true (is_of 1 d) (is_of 0 x && is_of 0 y) (right_true (nat_le q 0) (is_of 1 d && (is_of 0 x && is_of 0 y)) h)))
lead q (parenthesized e) h = open_lead e refl h h
lead q no_arguments h = absurd (never h)
lead q (argument x y) h = absurd (never h)
lead q (listed xs) h = absurd (never h)

-- an expression in parentheses at the beginning

abbrev BehindParen : Exp16 → SimpleEnd → Exp16 → Type 0
BehindParen e end i =
    (symbols : List Sym) (b : Built) (rest : List Seen16)
    → Goes (state_sym state.AfterKeysetParen ∷ after_keyset symbols) (with_exp i b) (suffixes (head e) ++ (behind e ++ (written_end end ++ colon ∷ rest))) (after_keyset symbols) (put_keyset (keyset.One (simple_with (bare_exp e) (bare_end end))) b) (colon ∷ rest)

behind_suffixes : (e : Exp16) (end : SimpleEnd) → is_full e ≡ true → is_simple_end end ≡ true → is_of 12 (head e) ≡ true → (n : Next) (more : List Seen16) → suffixes (head e) ≡ next_token n ∷ more → BehindParen e end (root (head e))
behind_suffixes e end h k l n more w symbols b rest =
    subst (λ ts. Goes (state_sym state.AfterKeysetParen ∷ after_keyset symbols) (with_exp (root (head e)) b) (ts ++ (behind e ++ (written_end end ++ colon ∷ rest))) (postfix ∷ operators_sym 0 11 ∷ state_sym state.SimpleEnd ∷ Put (action.State state_act.KeysetOne) ∷ after_keyset symbols) (with_exp (root (head e)) b) (ts ++ (behind e ++ (written_end end ++ colon ∷ rest)))) (sym w)
    (suffix_continues n (after_keyset symbols) (with_exp (root (head e)) b) (more ++ (behind e ++ (written_end end ++ colon ∷ rest))))
    ▷ (facts (head e)).post l (operators_sym 0 11 ∷ state_sym state.SimpleEnd ∷ Put (action.State state_act.KeysetOne) ∷ after_keyset symbols) b (behind e ++ (written_end end ++ colon ∷ rest)) (calmer (word.Body body.AfterDot) (word.Body body.Operand) (behind e ++ (written_end end ++ colon ∷ rest)) refl (calm_operand_end e end rest))
    ▷ skips (word.Body body.Postfix) _ (with_exp (head e) b) (behind e ++ (written_end end ++ colon ∷ rest)) refl refl (calmer (word.Body body.Postfix) (word.Body body.Operand) (behind e ++ (written_end end ++ colon ∷ rest)) refl (calm_operand_end e end rest))
    ▷ tail_end e end h k symbols b rest

behind_operators : (e : Exp16) (end : SimpleEnd) → is_full e ≡ true → is_simple_end end ≡ true → Follows (behind e) → (symbols : List Sym) (b : Built) (rest : List Seen16)
    → Goes (state_sym state.AfterKeysetParen ∷ after_keyset symbols) (with_exp (head e) b) (behind e ++ (written_end end ++ colon ∷ rest)) (after_keyset symbols) (put_keyset (keyset.One (simple_with (bare_exp e) (bare_end end))) b) (colon ∷ rest)
behind_operators e end h k r symbols b rest =
    subst (λ ts. Goes (state_sym state.AfterKeysetParen ∷ after_keyset symbols) (with_exp (head e) b) (ts ++ (written_end end ++ colon ∷ rest)) (operators_sym 0 11 ∷ state_sym state.SimpleEnd ∷ Put (action.State state_act.KeysetOne) ∷ after_keyset symbols) (with_exp (head e) b) (ts ++ (written_end end ++ colon ∷ rest))) (sym r.whole)
    (r.goes (after_keyset symbols) (with_exp (head e) b) (r.more ++ (written_end end ++ colon ∷ rest)))
    ▷ tail_end e end h k symbols b rest

-- nothing but what ends the keyset stands behind the parentheses
behind_end : (e : Exp16) (end : SimpleEnd) → is_simple_end end ≡ true → (end ≡ alone → ⊥) → (symbols : List Sym) (b : Built) (rest : List Seen16)
    → Goes (state_sym state.AfterKeysetParen ∷ after_keyset symbols) (with_exp e b) (written_end end ++ colon ∷ rest) (after_keyset symbols) (put_keyset (keyset.One (simple_with (bare_exp e) (bare_end end))) b) (colon ∷ rest)
behind_end e alone k n symbols b rest = absurd (n refl)
behind_end e (masked m) k n symbols b rest = reads (mask ∷ []) refl ▷ does ▷ exp_read m k _ _ (colon ∷ rest) refl ▷ does ▷ does
behind_end e (ranged m) k n symbols b rest = reads (dots ∷ []) refl ▷ does ▷ exp_read m k _ _ (colon ∷ rest) refl ▷ does ▷ does

behind_alone : (e : Exp16) (end : SimpleEnd) → is_full e ≡ true → is_simple_end end ≡ true → (is_parenthesized e ≡ true → end ≡ alone → ⊥) → (i : Exp16) → head e ≡ parenthesized i → (behind e ≡ []) ⊎ Follows (behind e) → (symbols : List Sym) (b : Built) (rest : List Seen16)
    → Goes (state_sym state.AfterKeysetParen ∷ after_keyset symbols) (with_exp (head e) b) (behind e ++ (written_end end ++ colon ∷ rest)) (after_keyset symbols) (put_keyset (keyset.One (simple_with (bare_exp e) (bare_end end))) b) (colon ∷ rest)
behind_alone e end h k n i d (inr r) symbols b rest = behind_operators e end h k r symbols b rest
behind_alone e end h k n i d (inl z) symbols b rest =
    let own = own_operand e z in
    let paren : is_parenthesized e ≡ true = subst (λ y. is_parenthesized y ≡ true) (sym d ∙ own) refl in
    subst (λ y. Goes (state_sym state.AfterKeysetParen ∷ after_keyset symbols) (with_exp y b) (behind e ++ (written_end end ++ colon ∷ rest)) (after_keyset symbols) (put_keyset (keyset.One (simple_with (bare_exp e) (bare_end end))) b) (colon ∷ rest)) (sym own)
    (from _ (ap (λ ts. ts ++ (written_end end ++ colon ∷ rest)) z) (behind_end e end k (n paren) symbols b rest))

behind_read : (e : Exp16) (end : SimpleEnd) → is_full e ≡ true → is_simple_end end ≡ true → (is_parenthesized e ≡ true → end ≡ alone → ⊥) → (i : Exp16) → root (head e) ≡ parenthesized i → is_of 12 (head e) ≡ true → Begun next_token (suffixes (head e)) → BehindParen e end (root (head e))
behind_read e end h k n i d l (inr p) = behind_suffixes e end h k l p.0 p.1 p.2
behind_read e end h k n i d l (inl z) = λ symbols b rest.
    let own = own_root (head e) z in
    from _ (ap (λ ts. ts ++ (behind e ++ (written_end end ++ colon ∷ rest))) z)
    (subst (λ y. Goes (state_sym state.AfterKeysetParen ∷ after_keyset symbols) (with_exp y b) (behind e ++ (written_end end ++ colon ∷ rest)) (after_keyset symbols) (put_keyset (keyset.One (simple_with (bare_exp e) (bare_end end))) b) (colon ∷ rest)) (sym own)
    (behind_alone e end h k n i (sym own ∙ d) (behind_follows e) symbols b rest))

open_tokens : (e i : Exp16) (ts : List Seen16) → root (head e) ≡ parenthesized i → written_exp e ++ ts ≡ paren_open ∷ (written_exp i ++ paren_close ∷ (suffixes (head e) ++ (behind e ++ ts)))
open_tokens e i ts d =
    ap (λ us. us ++ ts) (written_head e) ∙ append_assoc (written_exp (head e)) (behind e) ts
    ∙ ap (λ us. us ++ (behind e ++ ts)) (written_root (head e)) ∙ append_assoc (written_exp (root (head e))) (suffixes (head e)) (behind e ++ ts)
    ∙ ap (λ y. written_exp y ++ (suffixes (head e) ++ (behind e ++ ts))) d
    ∙ ap (λ us. paren_open ∷ us) (append_assoc (written_exp i) (paren_close ∷ []) (suffixes (head e) ++ (behind e ++ ts)))

open_one : (e : Exp16) (end : SimpleEnd) → is_full e ≡ true → is_simple_end end ≡ true → (is_parenthesized e ≡ true → end ≡ alone → ⊥) → (i : Exp16) → root (head e) ≡ parenthesized i → is_full i ≡ true → is_of 12 (head e) ≡ true → OneReads e end
open_one e end h k n i d hi l symbols b rest =
    from _ (open_tokens e i (written_end end ++ colon ∷ rest) d)
    (opened_read i hi symbols b (paren_close ∷ (suffixes (head e) ++ (behind e ++ (written_end end ++ colon ∷ rest)))) refl
    ▷ reads (paren_close ∷ []) refl
    ▷ subst (λ y. Goes (state_sym state.AfterKeysetParen ∷ after_keyset symbols) (with_exp y b) (suffixes (head e) ++ (behind e ++ (written_end end ++ colon ∷ rest))) (after_keyset symbols) (put_keyset (keyset.One (simple_with (bare_exp e) (bare_end end))) b) (colon ∷ rest)) d
    (behind_read e end h k n i d l (suffixes_begun (head e)) symbols b rest))

one_read : (e : Exp16) (end : SimpleEnd) → is_full e ≡ true → is_simple_end end ≡ true → (is_parenthesized e ≡ true → end ≡ alone → ⊥) → OneReads e end
one_read e end h k n = go (lead 0 e h)
  where
    go : Lead e → OneReads e end
    go (plain_lead r p) = plain_one e end r h k p
    go (cast_lead to x d hx) = cast_one to x e end d hx h k
    go (open_lead i d hi l) = open_one e end h k n i d hi l

pub reads_keyset : (k : Keyset) → is_keyset with_parentheses k ≡ true → KeysetReads k
reads_keyset (keyset.Tuple []) h = absurd (never h)
reads_keyset (keyset.Tuple (s ∷ ss)) h = tuple_read s ss (left_true (is_simple with_parentheses s) (are_simple ss) h) (right_true (is_simple with_parentheses s) (are_simple ss) h)
reads_keyset (keyset.One simple.Default) h = λ symbols b rest. reads (quoted key.Default ∷ []) refl ▷ does ▷ does
reads_keyset (keyset.One simple.Any) h = λ symbols b rest. reads (quoted key.Underscore ∷ []) refl ▷ does ▷ does
reads_keyset (keyset.One (simple.Value e)) h =
    one_read e alone (left_true (is_full e) (not (is_parenthesized e)) h) refl (λ p q. absurd (never (sym (not_true (is_parenthesized e) (right_true (is_full e) (not (is_parenthesized e)) h)) ∙ p)))
reads_keyset (keyset.One (simple.Mask e m)) h = λ symbols b rest.
    let g = left_true (is_full e && is_full m) true h in
    from _ (append_assoc (written_exp e) (mask ∷ written_exp m) (colon ∷ rest)) (one_read e (masked m) (left_true (is_full e) (is_full m) g) (right_true (is_full e) (is_full m) g) (λ p q. cc) symbols b rest)
reads_keyset (keyset.One (simple.Range e m)) h = λ symbols b rest.
    let g = left_true (is_full e && is_full m) true h in
    from _ (append_assoc (written_exp e) (dots ∷ written_exp m) (colon ∷ rest)) (one_read e (ranged m) (left_true (is_full e) (is_full m) g) (right_true (is_full e) (is_full m) g) (λ p q. cc) symbols b rest)
