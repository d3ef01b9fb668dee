-- Expressions and argument lists that are written with tokens are read of them, by induction on their trees.
use Rattle.std.proofs.Common.{◌≡◌, ℕ, suc, ◌<◌, ◌≤◌, Bool, true, false, ◌&&◌, nat_le, List, [], ◌∷◌, ◌++◌, refl, sym, ap, ◌∙◌, subst, arith, append_assoc, leb-true}
use Rattle.std.proofs.lemmas.Bool.{le-leb}
use Rattle.predictive_parser.specs.declared.symbol.Symbol.TheVariants.{Put}
use Rattle.predictive_parser.specs.declared.symbol.Symbol.TheVariants as symbol
use Rattle.predictive_parser.specs.Grammar.{◌⇒◌}
use Rattle.predictive_parser.proofs.Chains.{here}
use Rattle.p416_syntax.specs.declared.keyword.Keyword16.TheVariants as key
use Rattle.p416_syntax.specs.declared.mark.Mark16.TheVariants as mark_of
use Rattle.p416_syntax.specs.declared.lexeme.Literal16.{Literal16}
use Rattle.p416_syntax.specs.declared.parts.Type16.{Type16}
use Rattle.p416_syntax.specs.declared.node.CastType.{CastType}
use Rattle.p416_syntax.specs.declared.node.CastType.TheVariants as cast_to
use Rattle.p416_syntax.specs.declared.node.UnaryOperator.{UnaryOperator}
use Rattle.p416_syntax.specs.declared.node.UnaryOperator.TheVariants as unary_of
use Rattle.p416_syntax.specs.declared.node.BinaryOperator.{BinaryOperator}
use Rattle.p416_syntax.specs.Tree.{Exp16, literal, truth, error, name, member, index, slice, call, lookahead, cast, unary, binary, choice, parenthesized, no_arguments, argument, listed}
use Rattle.p416_syntax.specs.Tokens.{Seen16, id, quoted, number, opens, seen_word, lookahead_text, dot, colon, comma, less, greater, question, paren_open, paren_close, brace_open, brace_close, bracket_open, bracket_close, in_parens}
use Rattle.p416_syntax.specs.Operators.{unary_token, binary_tokens, binary_power}
use Rattle.p416_syntax.specs.Written.{written_exp, written_type}
use Rattle.p416_syntax.specs.Parentheses.{bare_exp}
use Rattle.p416_reader.specs.declared.symbols.Class.TheVariants as class
use Rattle.p416_reader.specs.declared.symbols.Action.TheVariants as action
use Rattle.p416_reader.specs.declared.symbols.BodyAction.TheVariants as act
use Rattle.p416_reader.specs.declared.symbols.Word.{Word}
use Rattle.p416_reader.specs.declared.symbols.Word.TheVariants as word
use Rattle.p416_reader.specs.declared.symbols.BodyWord.TheVariants as body
use Rattle.p416_reader.specs.declared.symbols.PartWord.TheVariants as part_word
use Rattle.p416_reader.specs.declared.built.Built.{Built}
use Rattle.p416_reader.specs.internal.Actions.{with_exps}
use Rattle.p416_reader.specs.internal.Rows as rows
use Rattle.p416_reader.specs.internal.Rows.{Sym, Rows, grammar16, body_sym}
use Rattle.p416_reader.proofs.Forms.{is_of}
use Rattle.p416_reader.proofs.Meaning.{after_word, with_exp, put_argument}
use Rattle.p416_reader.proofs.Lists.{both, left_true, right_true}
use Rattle.p416_reader.proofs.ExpressionLaws.{is_many, is_one}
use Rattle.p416_reader.proofs.Readings.{Goes, Calm, ◌▷◌, reads, does, from, skips, calmer}
use Rattle.p416_reader.proofs.Complete.Parts.{never, reads_type}
use Rattle.p416_reader.proofs.Complete.Expressions.{operators_sym, operand, postfix, CalmOperand, CalmExp, head, behind, written_head, root, suffixes, written_root, begins, apart, like_operand, dotted_word, next_power, is_operator, infix_taken, question_taken, leave, none_next, calm_behind}

-- what is shown of an expression

abbrev pub RootReads : Exp16 → Type 0
RootReads r =
    (symbols : List Sym) (b : Built) (more : List Seen16) → Goes (operand ∷ symbols) b (written_exp r ++ more) (postfix ∷ symbols) (with_exp r b) more

abbrev pub PostReads : Exp16 → Type 0
PostReads e =
    (symbols : List Sym) (b : Built) (more : List Seen16) → Calm (word.Body body.AfterDot) more
    → Goes (postfix ∷ symbols) (with_exp (root e) b) (suffixes e ++ more) (postfix ∷ symbols) (with_exp e b) more

abbrev pub OperandReads : Exp16 → Type 0
OperandReads h =
    (symbols : List Sym) (b : Built) (rest : List Seen16) → CalmOperand rest → Goes (operand ∷ symbols) b (written_exp h ++ rest) symbols (with_exp h b) rest

-- the operators behind the leftmost operand, where those that follow bind no tighter
abbrev pub LevelBy : ℕ → Exp16 → List Seen16 → Exp16 → Type 0
LevelBy q h ts e =
    (m : ℕ) (symbols : List Sym) (b : Built) (rest : List Seen16) → m ≤ q → q ≤ 11 → CalmOperand rest → next_power rest ≤ q
    → (r : ℕ) × (q ≤ r) × Goes (operators_sym m 11 ∷ symbols) (with_exp h b) (ts ++ rest) (operators_sym m r ∷ symbols) (with_exp e b) rest

-- the same, where none follow
abbrev pub TailBy : Exp16 → List Seen16 → Exp16 → Type 0
TailBy h ts e =
    (symbols : List Sym) (b : Built) (rest : List Seen16) → CalmExp rest → Goes (operators_sym 0 11 ∷ symbols) (with_exp h b) (ts ++ rest) symbols (with_exp e b) rest

abbrev pub FullReads : Exp16 → Type 0
FullReads e =
    (symbols : List Sym) (b : Built) (rest : List Seen16) → CalmExp rest → Goes (operand ∷ operators_sym 0 11 ∷ symbols) b (written_exp e ++ rest) symbols (with_exp e b) rest

abbrev pub ExpReads : Exp16 → Type 0
ExpReads e =
    (symbols : List Sym) (b : Built) (rest : List Seen16) → CalmExp rest → Goes (body_sym body.Exp ∷ symbols) b (written_exp e ++ rest) symbols (with_exp e b) rest

-- arguments, where lists may stand in their place, and items of a list

abbrev pub args_word : Bool → Word
args_word true = word.Body body.Args
args_word false = word.Body body.Items

abbrev pub more_word : Bool → Word
more_word true = word.Body body.MoreArgs
more_word false = word.Body body.MoreItems

abbrev FirstItem : Bool → Exp16 → Type 0
FirstItem lists e =
    (symbols : List Sym) (b : Built) (rest : List Seen16) → CalmExp rest
    → Goes (symbol.Word (args_word lists) ∷ symbols) b (written_exp e ++ rest) (symbol.Word (more_word lists) ∷ symbols) (put_argument e b) rest

abbrev LaterItem : Bool → Exp16 → Type 0
LaterItem lists e =
    (symbols : List Sym) (b : Built) (rest : List Seen16) → CalmExp rest
    → Goes (symbol.Word (more_word lists) ∷ symbols) b (comma ∷ (written_exp e ++ rest)) (symbol.Word (more_word lists) ∷ symbols) (put_argument e b) rest

pub record ItemReads (lists : Bool) (e : Exp16) : Type 0 where
  pub first : FirstItem lists e
  pub later : LaterItem lists e

abbrev pub SomeRead : Bool → Exp16 → Type 0
SomeRead lists t =
    (symbols : List Sym) (b : Built) (es : List Exp16) (more : List Seen16) → CalmExp more
    → Goes (symbol.Word (args_word lists) ∷ symbols) (with_exps (no_arguments ∷ es) b) (written_exp t ++ more) (symbol.Word (more_word lists) ∷ symbols) (with_exps (bare_exp t ∷ es) b) more

abbrev pub ManyRead : Bool → Exp16 → Type 0
ManyRead lists (argument x y) = SomeRead lists (argument x y)
ManyRead lists _ = Unit {0}

abbrev pub AllRead : Bool → Exp16 → Type 0
AllRead lists t =
    (symbols : List Sym) (b : Built) (es : List Exp16) (rest : List Seen16) → Calm (args_word lists) rest
    → Goes (symbol.Word (args_word lists) ∷ symbols) (with_exps (no_arguments ∷ es) b) (written_exp t ++ rest) symbols (with_exps (bare_exp t ∷ es) b) rest

abbrev is_choice : Exp16 → Bool
is_choice (choice c x y) = true
is_choice e = false

pub record Facts (e : Exp16) : Type 0 where
  pub root_reads : is_of 12 e ≡ true → RootReads (root e)
  pub post : is_of 12 e ≡ true → PostReads e
  pub operand_reads : (q : ℕ) → is_of q e ≡ true → OperandReads (head e)
  pub level : (q : ℕ) → is_of q e ≡ true → is_choice e ≡ false → LevelBy q (head e) (behind e) e
  pub tail : is_of 0 e ≡ true → TailBy (head e) (behind e) e
  pub many : (lists : Bool) → is_many lists e ≡ true → ManyRead lists e
  pub all : (lists : Bool) → is_many lists e ≡ true → AllRead lists e
  pub item : (lists : Bool) → is_one lists e ≡ true → ItemReads lists e

-- what follows from what

operand_of : (e : Exp16) → RootReads (root e) → PostReads e → OperandReads e
operand_of e f g symbols b rest c =
    from _ (ap (λ ts. ts ++ rest) (written_root e) ∙ append_assoc (written_exp (root e)) (suffixes e) rest)
    (f symbols b (suffixes e ++ rest) ▷ g symbols b rest (calmer (word.Body body.AfterDot) (word.Body body.Operand) rest refl c)
    ▷ skips (word.Body body.Postfix) symbols (with_exp e b) rest refl refl (calmer (word.Body body.Postfix) (word.Body body.Operand) rest refl c))

full_of : (e : Exp16) → OperandReads (head e) → TailBy (head e) (behind e) e → FullReads e
full_of e f g symbols b rest c =
    from _ (ap (λ ts. ts ++ rest) (written_head e) ∙ append_assoc (written_exp (head e)) (behind e) rest)
    (f (operators_sym 0 11 ∷ symbols) b (behind e ++ rest) (calm_behind e rest (calmer (word.Body body.Operand) (word.Body body.Exp) rest refl c)) ▷ g symbols b rest c)

exp_of : (e : Exp16) → is_of 0 e ≡ true → FullReads e → ExpReads e
exp_of e h f symbols b rest c =
    like_operand (word.Body body.Exp) [] (operators_sym 0 11 ∷ []) symbols b e rest (begins 0 e h) refl (λ x. refl) ▷ f symbols b rest c

stays : (q : ℕ) (e : Exp16) → LevelBy q e [] e
stays q e m symbols b rest h k c l = (11, k, here grammar16 _ _ _)

tail_of : (h : Exp16) (ts : List Seen16) (e : Exp16) → LevelBy 0 h ts e → TailBy h ts e
tail_of h ts e f symbols b rest c =
    let n = none_next rest c in
    let r = f 0 symbols b rest (omega arith) (omega arith) (calmer (word.Body body.Operand) (word.Body body.Exp) rest refl c) (omega (arith, n)) in
    r.2 ▷ skips (word.Body (body.Operators 0 r.0)) symbols (with_exp e b) rest refl refl (calmer (word.Body (body.Operators 0 r.0)) (word.Body body.Exp) rest refl c)

-- items

abbrev brace_rows : List Sym → Rows
brace_rows more =
    (class.Mark mark_of.BraceOpen ⇒ Put (action.Body act.NoArguments) ∷ body_sym body.Items ∷ rows.brace_close ∷ Put (action.Body act.Listed) ∷ Put (action.Body act.AddArgument) ∷ more) ∷ []

item_first : (lists : Bool) (e : Exp16) → is_of 0 e ≡ true → FullReads e → FirstItem lists e
item_first true e h f symbols b rest c =
    like_operand (word.Body body.Args) (brace_rows (body_sym body.MoreArgs ∷ [])) (operators_sym 0 11 ∷ Put (action.Body act.AddArgument) ∷ body_sym body.MoreArgs ∷ []) symbols b e rest (begins 0 e h) refl (λ x. rw (apart x).brace refl)
    ▷ f _ b rest c ▷ does
item_first false e h f symbols b rest c =
    like_operand (word.Body body.Items) [] (operators_sym 0 11 ∷ Put (action.Body act.AddArgument) ∷ body_sym body.MoreItems ∷ []) symbols b e rest (begins 0 e h) refl (λ x. refl)
    ▷ f _ b rest c ▷ does

item_later : (lists : Bool) (e : Exp16) → is_of 0 e ≡ true → FullReads e → LaterItem lists e
item_later true e h f symbols b rest c =
    reads (comma ∷ []) refl
    ▷ like_operand (word.Body body.Arg) (brace_rows []) (operators_sym 0 11 ∷ Put (action.Body act.AddArgument) ∷ []) (body_sym body.MoreArgs ∷ symbols) b e rest (begins 0 e h) refl (λ x. rw (apart x).brace refl)
    ▷ f _ b rest c ▷ does
item_later false e h f symbols b rest c =
    reads (comma ∷ []) refl ▷ exp_of e h f (Put (action.Body act.AddArgument) ∷ body_sym body.MoreItems ∷ symbols) b rest c ▷ does

item_of : (lists : Bool) (e : Exp16) → is_of 0 e ≡ true → FullReads e → ItemReads lists e
item_of lists e h f = record { first = item_first lists e h f; later = item_later lists e h f }

-- a list in braces

listed_tokens : (xs : Exp16) (rest : List Seen16) → written_exp (listed xs) ++ rest ≡ brace_open ∷ (written_exp xs ++ brace_close ∷ rest)
listed_tokens xs rest = ap (λ ts. brace_open ∷ ts) (append_assoc (written_exp xs) (brace_close ∷ []) rest)

listed_first : (xs : Exp16) → AllRead false xs → FirstItem true (listed xs)
listed_first xs f symbols b rest c =
    from _ (listed_tokens xs rest)
    (reads (brace_open ∷ []) refl ▷ does ▷ f _ b b.bodies.exps (brace_close ∷ rest) refl ▷ reads (brace_close ∷ []) refl ▷ does ▷ does)

listed_later : (xs : Exp16) → AllRead false xs → LaterItem true (listed xs)
listed_later xs f symbols b rest c =
    from _ (ap (λ ts. comma ∷ ts) (listed_tokens xs rest))
    (reads (comma ∷ brace_open ∷ []) refl ▷ does ▷ f _ b b.bodies.exps (brace_close ∷ rest) refl ▷ reads (brace_close ∷ []) refl ▷ does ▷ does)

listed_item : (lists : Bool) (xs : Exp16) → Facts xs → is_one lists (listed xs) ≡ true → ItemReads lists (listed xs)
listed_item true xs f h = record { first = listed_first xs (f.all false h); later = listed_later xs (f.all false h) }
listed_item false xs f h = absurd (never h)

-- arguments one behind another

many_of : (lists : Bool) (before last : Exp16) → ManyRead lists before → ItemReads lists last → is_many lists before ≡ true → SomeRead lists (argument before last)
many_of lists no_arguments last f g h = λ symbols b es more c. g.first symbols (with_exps (no_arguments ∷ es) b) more c
many_of lists (argument x y) last f g h = λ symbols b es more c.
    from _ (append_assoc (written_exp (argument x y)) (comma ∷ written_exp last) more)
    (f symbols b es (comma ∷ (written_exp last ++ more)) refl ▷ g.later symbols (with_exps (bare_exp (argument x y) ∷ es) b) more c)
many_of lists (literal n) last f g h = absurd (never h)
many_of lists (truth value) last f g h = absurd (never h)
many_of lists error last f g h = absurd (never h)
many_of lists (name text) last f g h = absurd (never h)
many_of lists (member e text) last f g h = absurd (never h)
many_of lists (index e n) last f g h = absurd (never h)
many_of lists (slice e high low) last f g h = absurd (never h)
many_of lists (call e xs) last f g h = absurd (never h)
many_of lists (lookahead e of xs) last f g h = absurd (never h)
many_of lists (cast to e) last f g h = absurd (never h)
many_of lists (unary operator e) last f g h = absurd (never h)
many_of lists (binary operator x y) last f g h = absurd (never h)
many_of lists (choice d x y) last f g h = absurd (never h)
many_of lists (parenthesized e) last f g h = absurd (never h)
many_of lists (listed xs) last f g h = absurd (never h)

none_read : (lists : Bool) → AllRead lists no_arguments
none_read true symbols b es rest c = skips (word.Body body.Args) symbols (with_exps (no_arguments ∷ es) b) rest refl refl c
none_read false symbols b es rest c = skips (word.Body body.Items) symbols (with_exps (no_arguments ∷ es) b) rest refl refl c

some_read : (lists : Bool) (x y : Exp16) → SomeRead lists (argument x y) → AllRead lists (argument x y)
some_read true x y f symbols b es rest c =
    f symbols b es rest (calmer (word.Body body.Exp) (word.Body body.Args) rest refl c)
    ▷ skips (word.Body body.MoreArgs) symbols _ rest refl refl (calmer (word.Body body.MoreArgs) (word.Body body.Args) rest refl c)
some_read false x y f symbols b es rest c =
    f symbols b es rest (calmer (word.Body body.Exp) (word.Body body.Items) rest refl c)
    ▷ skips (word.Body body.MoreItems) symbols _ rest refl refl (calmer (word.Body body.MoreItems) (word.Body body.Items) rest refl c)

-- what binds most tightly

abbrev paren_rows : Rows
paren_rows =
    (class.Word key.Bit ⇒ rows.less ∷ rows.a_number ∷ rows.greater ∷ rows.paren_close ∷ operand ∷ Put (action.Body act.CastBit) ∷ [])
    ∷ (class.Word key.Bool ⇒ rows.paren_close ∷ operand ∷ Put (action.Body act.CastBool) ∷ [])
    ∷ []

paren_root : (e : Exp16) → is_of 0 e ≡ true → FullReads e → RootReads (parenthesized e)
paren_root e h f symbols b more =
    from _ (ap (λ ts. paren_open ∷ ts) (append_assoc (written_exp e) (paren_close ∷ []) more))
    (reads (paren_open ∷ []) refl
    ▷ like_operand (word.Body body.AfterParen) paren_rows (operators_sym 0 11 ∷ rows.paren_close ∷ postfix ∷ []) symbols b e (paren_close ∷ more) (begins 0 e h) refl (λ x. let a = apart x in rw (a.bit, a.bool) refl)
    ▷ f (rows.paren_close ∷ postfix ∷ symbols) b (paren_close ∷ more) refl
    ▷ reads (paren_close ∷ []) refl)

truth_root : (value : Bool) → RootReads (truth value)
truth_root true symbols b more = reads (quoted key.True ∷ []) refl ▷ does
truth_root false symbols b more = reads (quoted key.False ∷ []) refl ▷ does

member_post : (e : Exp16) (text : List ℕ) → PostReads e → PostReads (member e text)
member_post e text f symbols b more c =
    from _ (append_assoc (suffixes e) (dot ∷ seen_word text ∷ []) more)
    (f symbols b (dot ∷ seen_word text ∷ more) refl ▷ reads (dot ∷ []) refl ▷ dotted_word text (postfix ∷ symbols) (with_exp e b) more c)

index_post : (e : Exp16) (n : Literal16) → PostReads e → PostReads (index e n)
index_post e n f symbols b more c =
    from _ (append_assoc (suffixes e) (bracket_open ∷ number n ∷ bracket_close ∷ []) more)
    (f symbols b (bracket_open ∷ number n ∷ bracket_close ∷ more) refl ▷ reads (bracket_open ∷ number n ∷ bracket_close ∷ []) refl ▷ does)

slice_post : (e : Exp16) (high low : Literal16) → PostReads e → PostReads (slice e high low)
slice_post e high low f symbols b more c =
    from _ (append_assoc (suffixes e) (bracket_open ∷ number high ∷ colon ∷ number low ∷ bracket_close ∷ []) more)
    (f symbols b (bracket_open ∷ number high ∷ colon ∷ number low ∷ bracket_close ∷ more) refl ▷ reads (bracket_open ∷ number high ∷ colon ∷ number low ∷ bracket_close ∷ []) refl ▷ does)

call_post : (e xs : Exp16) → PostReads e → AllRead true xs → PostReads (call e xs)
call_post e xs f g symbols b more c =
    from _ (append_assoc (suffixes e) (in_parens (written_exp xs)) more ∙ ap (λ ts. suffixes e ++ paren_open ∷ ts) (append_assoc (written_exp xs) (paren_close ∷ []) more))
    (f symbols b (paren_open ∷ (written_exp xs ++ paren_close ∷ more)) refl ▷ reads (paren_open ∷ []) refl ▷ does
    ▷ g _ (with_exp e b) (bare_exp e ∷ b.bodies.exps) (paren_close ∷ more) refl ▷ reads (paren_close ∷ []) refl ▷ does)

lookahead_post : (e : Exp16) (of : Type16) (xs : Exp16) → PostReads e → AllRead true xs → PostReads (lookahead e of xs)
lookahead_post e of xs f g symbols b more c =
    from _
    (append_assoc (suffixes e) (dot ∷ id lookahead_text ∷ opens ∷ (written_type of ++ greater ∷ in_parens (written_exp xs))) more
    ∙ ap (λ ts. suffixes e ++ dot ∷ id lookahead_text ∷ opens ∷ ts)
    (append_assoc (written_type of) (greater ∷ in_parens (written_exp xs)) more
    ∙ ap (λ ts. written_type of ++ greater ∷ paren_open ∷ ts) (append_assoc (written_exp xs) (paren_close ∷ []) more)))
    (f symbols b (dot ∷ id lookahead_text ∷ opens ∷ (written_type of ++ greater ∷ paren_open ∷ (written_exp xs ++ paren_close ∷ more))) refl
    ▷ reads (dot ∷ id lookahead_text ∷ opens ∷ []) refl
    ▷ reads_type of _ _ (greater ∷ paren_open ∷ (written_exp xs ++ paren_close ∷ more)) refl
    ▷ reads (greater ∷ paren_open ∷ []) refl ▷ does
    ▷ g _ (after_word (word.Part part_word.TypeOf) of (with_exp e b)) (bare_exp e ∷ b.bodies.exps) (paren_close ∷ more) refl ▷ reads (paren_close ∷ []) refl ▷ does)

-- operators in front of an operand

unary_read : (operator : UnaryOperator) (e : Exp16) → OperandReads e → OperandReads (unary operator e)
unary_read unary_of.Not e f symbols b rest c = reads (unary_token unary_of.Not ∷ []) refl ▷ f _ b rest c ▷ does
unary_read unary_of.Complement e f symbols b rest c = reads (unary_token unary_of.Complement ∷ []) refl ▷ f _ b rest c ▷ does
unary_read unary_of.Negate e f symbols b rest c = reads (unary_token unary_of.Negate ∷ []) refl ▷ f _ b rest c ▷ does

cast_read : (to : CastType) (e : Exp16) → OperandReads e → OperandReads (cast to e)
cast_read (cast_to.Bit w) e f symbols b rest c = reads (paren_open ∷ quoted key.Bit ∷ less ∷ number w ∷ greater ∷ paren_close ∷ []) refl ▷ f _ _ rest c ▷ does
cast_read cast_to.Bool e f symbols b rest c = reads (paren_open ∷ quoted key.Bool ∷ paren_close ∷ []) refl ▷ f _ b rest c ▷ does

-- operators between operands

no_choice : (q : ℕ) (e : Exp16) → 1 ≤ q → is_of q e ≡ true → is_choice e ≡ false
no_choice q (choice c x y) l h =
    let z = leb-true q 0 (left_true (nat_le q 0) (is_of 1 c && (is_of 0 x && is_of 0 y)) h) in absurd (omega (arith, l, z))
no_choice q (literal n) l h = refl
no_choice q (truth value) l h = refl
no_choice q error l h = refl
no_choice q (name text) l h = refl
no_choice q (member e text) l h = refl
no_choice q (index e n) l h = refl
no_choice q (slice e high low) l h = refl
no_choice q (call e xs) l h = refl
no_choice q (lookahead e of xs) l h = refl
no_choice q (cast to e) l h = refl
no_choice q (unary operator e) l h = refl
no_choice q (binary operator x y) l h = refl
no_choice q (parenthesized e) l h = refl
no_choice q no_arguments l h = refl
no_choice q (argument x y) l h = refl
no_choice q (listed xs) l h = refl

-- between operands no operator binds so tightly as in front of one
too_tight : (q : ℕ) (operator : BinaryOperator) (x y : Exp16) → 11 ≤ q → is_of q (binary operator x y) ≡ true → ⊥
too_tight q operator x y l h =
    let p = binary_power operator in
    let m = leb-true q p (left_true (nat_le q p) (is_of p x && is_of (suc p) y) h) in
    let n = leb-true p 10 (is_operator operator []).below in
    omega (arith, l, m, n)

pub own_head : (e : Exp16) → is_of 11 e ≡ true → head e ≡ e
own_head (binary operator x y) h = absurd (too_tight 11 operator x y (omega arith) h)
own_head (choice c x y) h = absurd (never h)
own_head (literal n) h = refl
own_head (truth value) h = refl
own_head error h = refl
own_head (name text) h = refl
own_head (member e text) h = refl
own_head (index e n) h = refl
own_head (slice e high low) h = refl
own_head (call e xs) h = refl
own_head (lookahead e of xs) h = refl
own_head (cast to e) h = refl
own_head (unary operator e) h = refl
own_head (parenthesized e) h = refl
own_head no_arguments h = refl
own_head (argument x y) h = refl
own_head (listed xs) h = refl

pub operand_at : (e : Exp16) → Facts e → is_of 11 e ≡ true → OperandReads e
operand_at e f h = subst OperandReads (own_head e h) (f.operand_reads 11 h)

binary_level : (q : ℕ) (operator : BinaryOperator) (x y : Exp16) → Facts x → Facts y → is_of q (binary operator x y) ≡ true
    → LevelBy q (head x) (behind x ++ (binary_tokens operator ++ written_exp y)) (binary operator x y)
binary_level q operator x y f g h m symbols b rest k t c l =
    let p = binary_power operator in
    let le = leb-true q p (left_true (nat_le q p) (is_of p x && is_of (suc p) y) h) in
    let sides = right_true (nat_le q p) (is_of p x && is_of (suc p) y) h in
    let hx = left_true (is_of p x) (is_of (suc p) y) sides in
    let hy = right_true (is_of p x) (is_of (suc p) y) sides in
    let o = is_operator operator (written_exp y ++ rest) in
    let one : 1 ≤ p = leb-true 1 p o.above in
    let ten : p ≤ 10 = leb-true p 10 o.below in
    let mp : m ≤ p = omega (arith, k, le) in
    let p11 : p ≤ 11 = omega (arith, ten) in
    let s11 : suc p ≤ 11 = omega (arith, ten) in
    let s1 : 1 ≤ suc p = omega arith in
    let id : suc p ≤ suc p = omega arith in
    let id' : p ≤ p = omega arith in
    let less : next_power rest ≤ suc p = omega (arith, le, l) in
    let lower : next_power rest < suc p = omega (arith, le, l) in
    let r = f.level p hx (no_choice p x one hx) m symbols b (binary_tokens operator ++ (written_exp y ++ rest)) mp p11 o.calm (subst (λ n. n ≤ p) (sym o.power) id') in
    let s = g.level (suc p) hy (no_choice (suc p) y s1 hy) (suc p) (Put (action.Body (act.Binary operator)) ∷ operators_sym m p ∷ symbols) (with_exp x b) rest id s11 c less in (
      p,
      le,
      from _ (append_assoc (behind x) (binary_tokens operator ++ written_exp y) rest ∙ ap (λ ts. behind x ++ ts) (append_assoc (binary_tokens operator) (written_exp y) rest))
          (r.2
          ▷ infix_taken m r.0 operator symbols (with_exp x b) (written_exp y ++ rest) (both (nat_le m p) (nat_le p r.0) (le-leb m p mp) (le-leb p r.0 r.1))
          ▷ from (written_exp y ++ rest) (ap (λ ts. ts ++ rest) (written_head y) ∙ append_assoc (written_exp (head y)) (behind y) rest)
          (g.operand_reads (suc p) hy _ (with_exp x b) (behind y ++ rest) (calm_behind y rest c))
          ▷ s.2
          ▷ leave (suc p) s.0 _ (with_exp y (with_exp x b)) rest lower ▷ does),
    )

full_facts : (e : Exp16) → Facts e → is_of 0 e ≡ true → FullReads e
full_facts e f h = full_of e (f.operand_reads 0 h) (f.tail h)

choice_tail : (d x y : Exp16) → Facts d → Facts x → Facts y → is_of 0 (choice d x y) ≡ true
    → TailBy (head d) (behind d ++ question ∷ (written_exp x ++ colon ∷ written_exp y)) (choice d x y)
choice_tail d x y f g k h symbols b rest c =
    let hd = left_true (is_of 1 d) (is_of 0 x && is_of 0 y) h in
    let sides = right_true (is_of 1 d) (is_of 0 x && is_of 0 y) h in
    let hx = left_true (is_of 0 x) (is_of 0 y) sides in
    let hy = right_true (is_of 0 x) (is_of 0 y) sides in
    let one : 1 ≤ 1 = omega arith in
    let r = f.level 1 hd (no_choice 1 d one hd) 0 symbols b (question ∷ (written_exp x ++ colon ∷ (written_exp y ++ rest))) (omega arith) (omega arith) refl (omega arith) in
    from _ (append_assoc (behind d) (question ∷ (written_exp x ++ colon ∷ written_exp y)) rest ∙ ap (λ ts. behind d ++ question ∷ ts) (append_assoc (written_exp x) (colon ∷ written_exp y) rest))
    (r.2
    ▷ question_taken r.0 symbols (with_exp d b) (written_exp x ++ colon ∷ (written_exp y ++ rest)) (le-leb 1 r.0 r.1)
    ▷ exp_of x hx (full_facts x g hx) _ (with_exp d b) (colon ∷ (written_exp y ++ rest)) refl
    ▷ reads (colon ∷ []) refl
    ▷ exp_of y hy (full_facts y k hy) _ (with_exp x (with_exp d b)) rest c ▷ does)

-- all that is shown

facts_of : (e : Exp16) → head e ≡ e → behind e ≡ [] → ((lists : Bool) → is_many lists e ≡ true → ⊥) → ((lists : Bool) → is_one lists e ≡ true → is_of 0 e ≡ true)
    → (is_of 12 e ≡ true → RootReads (root e)) → (is_of 12 e ≡ true → PostReads e) → ((q : ℕ) → is_of q e ≡ true → OperandReads e) → Facts e
facts_of e hd bh none one f g operands = record {
  root_reads = f;
  post = g;
  operand_reads = λ q h. subst OperandReads (sym hd) (operands q h);
  level = λ q h c. level_is q;
  tail = λ h. tail_of (head e) (behind e) e (level_is 0);
  many = λ lists h. absurd (none lists h);
  all = λ lists h. absurd (none lists h);
  item = λ lists h. item_of lists e (one lists h) (full_of e (subst OperandReads (sym hd) (operands 0 (one lists h))) (tail_of (head e) (behind e) e (level_is 0)));
}
  where
    level_is : (q : ℕ) → LevelBy q (head e) (behind e) e
    level_is q = subst (λ x. LevelBy q x (behind e) e) (sym hd) (subst (λ ts. LevelBy q e ts e) (sym bh) (stays q e))

post_facts : (e : Exp16) → head e ≡ e → behind e ≡ [] → ((lists : Bool) → is_many lists e ≡ true → ⊥) → ((lists : Bool) → is_one lists e ≡ true → is_of 0 e ≡ true)
    → ((q : ℕ) → is_of q e ≡ true → is_of 12 e ≡ true) → (is_of 12 e ≡ true → RootReads (root e)) → (is_of 12 e ≡ true → PostReads e) → Facts e
post_facts e hd bh none one tight f g = facts_of e hd bh none one f g (λ q h. operand_of e (f (tight q h)) (g (tight q h)))

argument_read : (lists : Bool) (before last : Exp16) → Facts before → Facts last → is_many lists (argument before last) ≡ true → SomeRead lists (argument before last)
argument_read lists before last f g h =
    let first = left_true (is_many lists before) (is_one lists last) h in
    many_of lists before last (f.many lists first) (g.item lists (right_true (is_many lists before) (is_one lists last) h)) first

pub facts : (e : Exp16) → Facts e
facts (literal n) = post_facts (literal n) refl refl (λ lists h. never h) (λ lists h. refl) (λ q h. refl) (λ h symbols b more. reads (number n ∷ []) refl ▷ does) (λ h symbols b more c. here grammar16 _ _ _)
facts (truth value) = post_facts (truth value) refl refl (λ lists h. never h) (λ lists h. refl) (λ q h. refl) (λ h. truth_root value) (λ h symbols b more c. here grammar16 _ _ _)
facts error = post_facts error refl refl (λ lists h. never h) (λ lists h. refl) (λ q h. refl) (λ h symbols b more. reads (quoted key.Error ∷ []) refl ▷ does) (λ h symbols b more c. here grammar16 _ _ _)
facts (name text) = post_facts (name text) refl refl (λ lists h. never h) (λ lists h. refl) (λ q h. refl) (λ h symbols b more. reads (id text ∷ []) refl ▷ does) (λ h symbols b more c. here grammar16 _ _ _)
facts (parenthesized e) =
    let f = facts e in
    post_facts (parenthesized e) refl refl (λ lists h. never h) (λ lists h. h) (λ q h. h) (λ h. paren_root e h (full_facts e f h)) (λ h symbols b more c. here grammar16 _ _ _)
facts (member e text) =
    let f = facts e in
    post_facts (member e text) refl refl (λ lists h. never h) (λ lists h. h) (λ q h. h) (λ h. f.root_reads h) (λ h. member_post e text (f.post h))
facts (index e n) =
    let f = facts e in
    post_facts (index e n) refl refl (λ lists h. never h) (λ lists h. h) (λ q h. h) (λ h. f.root_reads h) (λ h. index_post e n (f.post h))
facts (slice e high low) =
    let f = facts e in
    post_facts (slice e high low) refl refl (λ lists h. never h) (λ lists h. h) (λ q h. h) (λ h. f.root_reads h) (λ h. slice_post e high low (f.post h))
facts (call e xs) =
    let f = facts e in
    let g = facts xs in
    post_facts (call e xs) refl refl (λ lists h. never h) (λ lists h. h) (λ q h. h) (λ h. f.root_reads (left_true (is_of 12 e) (is_many true xs) h))
    (λ h. call_post e xs (f.post (left_true (is_of 12 e) (is_many true xs) h)) (g.all true (right_true (is_of 12 e) (is_many true xs) h)))
facts (lookahead e of xs) =
    let f = facts e in
    let g = facts xs in
    post_facts (lookahead e of xs) refl refl (λ lists h. never h) (λ lists h. h) (λ q h. h) (λ h. f.root_reads (left_true (is_of 12 e) (is_many true xs) h))
    (λ h. lookahead_post e of xs (f.post (left_true (is_of 12 e) (is_many true xs) h)) (g.all true (right_true (is_of 12 e) (is_many true xs) h)))
facts (cast to e) =
    let f = facts e in
    facts_of (cast to e) refl refl (λ lists h. never h) (λ lists h. h) (λ h. absurd (never h)) (λ h. absurd (never h))
    (λ q h. cast_read to e (operand_at e f (right_true (nat_le q 11) (is_of 11 e) h)))
facts (unary operator e) =
    let f = facts e in
    facts_of (unary operator e) refl refl (λ lists h. never h) (λ lists h. h) (λ h. absurd (never h)) (λ h. absurd (never h))
    (λ q h. unary_read operator e (operand_at e f (right_true (nat_le q 11) (is_of 11 e) h)))
facts (binary operator x y) =
    let f = facts x in
    let g = facts y in
    let p = binary_power operator in
    let first : (q : ℕ) → is_of q (binary operator x y) ≡ true → OperandReads (head x) = λ q h. f.operand_reads p (left_true (is_of p x) (is_of (suc p) y) (right_true (nat_le q p) (is_of p x && is_of (suc p) y) h)) in
    let last : is_of 0 (binary operator x y) ≡ true → TailBy (head x) (behind (binary operator x y)) (binary operator x y) = λ h. tail_of (head x) (behind (binary operator x y)) (binary operator x y) (binary_level 0 operator x y f g h) in
    record {
      root_reads = λ h. absurd (too_tight 12 operator x y (omega arith) h);
      post = λ h. absurd (too_tight 12 operator x y (omega arith) h);
      operand_reads = first;
      level = λ q h c. binary_level q operator x y f g h;
      tail = last;
      many = λ lists h. absurd (never h);
      all = λ lists h. absurd (never h);
      item = λ lists h. item_of lists (binary operator x y) h (full_of (binary operator x y) (first 0 h) (last h));
    }
facts (choice d x y) =
    let f = facts d in
    let g = facts x in
    let k = facts y in
    let first : (q : ℕ) → is_of q (choice d x y) ≡ true → OperandReads (head d) = λ q h. f.operand_reads 1 (left_true (is_of 1 d) (is_of 0 x && is_of 0 y) (right_true (nat_le q 0) (is_of 1 d && (is_of 0 x && is_of 0 y)) h)) in
    record {
      root_reads = λ h. absurd (never h);
      post = λ h. absurd (never h);
      operand_reads = first;
      level = λ q h c. cc;
      tail = λ h. choice_tail d x y f g k h;
      many = λ lists h. absurd (never h);
      all = λ lists h. absurd (never h);
      item = λ lists h. item_of lists (choice d x y) h (full_of (choice d x y) (first 0 h) (choice_tail d x y f g k h));
    }
facts no_arguments = record {
  root_reads = λ h. absurd (never h);
  post = λ h. absurd (never h);
  operand_reads = λ q h. absurd (never h);
  level = λ q h c. absurd (never h);
  tail = λ h. absurd (never h);
  many = λ lists h. tt;
  all = λ lists h. none_read lists;
  item = λ lists h. absurd (never h);
}
facts (argument before last) =
    let f = facts before in
    let g = facts last in
    record {
      root_reads = λ h. absurd (never h);
      post = λ h. absurd (never h);
      operand_reads = λ q h. absurd (never h);
      level = λ q h c. absurd (never h);
      tail = λ h. absurd (never h);
      many = λ lists h. argument_read lists before last f g h;
      all = λ lists h. some_read lists before last (argument_read lists before last f g h);
      item = λ lists h. absurd (never h);
    }
facts (listed xs) =
    let f = facts xs in
    record {
      root_reads = λ h. absurd (never h);
      post = λ h. absurd (never h);
      operand_reads = λ q h. absurd (never h);
      level = λ q h c. absurd (never h);
      tail = λ h. absurd (never h);
      many = λ lists h. absurd (never h);
      all = λ lists h. absurd (never h);
      item = λ lists h. listed_item lists xs f h;
    }

-- An expression is read before a token that doesn't go on with it.
pub full_read : (e : Exp16) → is_of 0 e ≡ true → FullReads e
full_read e h = full_facts e (facts e) h

pub exp_read : (e : Exp16) → is_of 0 e ≡ true → ExpReads e
exp_read e h = exp_of e h (full_read e h)

pub all_read : (lists : Bool) (t : Exp16) → is_many lists t ≡ true → AllRead lists t
all_read lists t h = (facts t).all lists h
