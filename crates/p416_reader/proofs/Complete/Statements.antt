-- Statements that are written with tokens are read of them.
use Rattle.std.proofs.Common.{◌≡◌, ℕ, Bool, true, false, not, ◌&&◌, List, [], ◌∷◌, ◌++◌, Some, None, refl, sym, ap, ◌∙◌, subst, append_assoc}
use Rattle.predictive_parser.specs.declared.symbol.Symbol.TheVariants.{Put}
use Rattle.predictive_parser.proofs.Chains.{here}
use Rattle.p416_syntax.specs.declared.keyword.Keyword16.TheVariants as key
use Rattle.p416_syntax.specs.declared.parts.Type16.{Type16}
use Rattle.p416_syntax.specs.declared.parts.Type16.TheVariants as kind
use Rattle.p416_syntax.specs.declared.node.CaseLabel.{CaseLabel}
use Rattle.p416_syntax.specs.declared.node.CaseLabel.TheVariants as label
use Rattle.p416_syntax.specs.declared.node.UnaryOperator.TheVariants as unary_of
use Rattle.p416_syntax.specs.Tree.{Exp16, literal, truth, error, name, member, index, slice, call, lookahead, cast, unary, binary, choice, parenthesized, no_arguments, argument, listed, Stmt16, no_statements, block, empty, var, var_is, assign, expression, if_then, if_else, switch, no_cases, case_of}
use Rattle.p416_syntax.specs.Tree as tree
use Rattle.p416_syntax.specs.Tokens.{Seen16, id, quoted, number, dot, colon, semicolon, equals, less, greater, paren_open, paren_close, brace_open, brace_close, bracket_open, bracket_close, in_parens, in_braces}
use Rattle.p416_syntax.specs.Written.{written_exp, written_type, written_stmt}
use Rattle.p416_syntax.specs.Parentheses.{bare_exp, bare_stmt}
use Rattle.p416_syntax.specs.Conditions.{with_parentheses, is_call, is_stmt, statements, cases, ends_in_if}
use Rattle.p416_reader.specs.declared.symbols.Class.TheVariants as class
use Rattle.p416_reader.specs.declared.symbols.Action.TheVariants as action
use Rattle.p416_reader.specs.declared.symbols.BodyAction.TheVariants as act
use Rattle.p416_reader.specs.declared.symbols.Word.TheVariants as word
use Rattle.p416_reader.specs.declared.symbols.BodyWord.TheVariants as body
use Rattle.p416_reader.specs.declared.built.Built.{Built}
use Rattle.p416_reader.specs.internal.Classes.{with_name}
use Rattle.p416_reader.specs.internal.Actions.{with_stmts, with_stmt}
use Rattle.p416_reader.specs.internal.Rows as rows
use Rattle.p416_reader.specs.internal.Rows.{Sym, grammar16, body_sym}
use Rattle.p416_reader.proofs.Forms.{is_full}
use Rattle.p416_reader.proofs.Meaning.{with_exp, put_stmt, is_statement}
use Rattle.p416_reader.proofs.Lists.{left_true, right_true}
use Rattle.p416_reader.proofs.Readings.{Goes, Calm, ◌▷◌, reads, does, from, skips, builds, calmer, not_true, takes_row}
use Rattle.p416_reader.proofs.Complete.Parts.{never, same}
use Rattle.p416_reader.proofs.Complete.Expressions.{operators_sym, operand, CalmExp, First, number_first, true_first, false_first, error_first, name_first, paren_first, unary_first, token_of, begins}
use Rattle.p416_reader.proofs.Complete.Trees.{exp_read, full_read}

abbrev pub stmts_sym : Sym
stmts_sym = body_sym body.Stmts

abbrev pub stmt_sym : Sym
stmt_sym = body_sym body.Stmt

-- no `else` stands there
abbrev pub NoElse : List Seen16 → Type 0
NoElse rest = Calm (word.Body body.ElseOption) rest

-- what a statement begins with

data Start : Type 0 where
  brace_start : Start
  empty_start : Start
  bit_start : Start
  bool_start : Start
  if_start : Start
  switch_start : Start
  exp_start : (f : First) → Start

abbrev start_token : Start → Seen16
start_token brace_start = brace_open
start_token empty_start = semicolon
start_token bit_start = quoted key.Bit
start_token bool_start = quoted key.Bool
start_token if_start = quoted key.If
start_token switch_start = quoted key.Switch
start_token (exp_start f) = token_of f

record Starts (s : Stmt16) : Type 0 where
  start : Start
  more : List Seen16
  whole : written_stmt s ≡ start_token start ∷ more

starts_exp : (e : Exp16) (s : Stmt16) (ts : List Seen16) → written_stmt s ≡ written_exp e ++ ts → is_full e ≡ true → Starts s
starts_exp e s ts h k =
    let r = begins 0 e k in
    record { start = exp_start r.first; more = r.more ++ ts; whole = h ∙ ap (λ us. us ++ ts) r.whole }

starts_var : (of : Type16) (text : List ℕ) → Starts (var of text)
starts_var (kind.Bit w) text = record { start = bit_start; more = _; whole = refl }
starts_var kind.Bool text = record { start = bool_start; more = _; whole = refl }
starts_var (kind.Named n size) text = record { start = exp_start (name_first n); more = _; whole = refl }

starts_var_is : (of : Type16) (text : List ℕ) (value : Exp16) → Starts (var_is of text value)
starts_var_is (kind.Bit w) text value = record { start = bit_start; more = _; whole = refl }
starts_var_is kind.Bool text value = record { start = bool_start; more = _; whole = refl }
starts_var_is (kind.Named n size) text value = record { start = exp_start (name_first n); more = _; whole = refl }

starts : (s : Stmt16) → is_statement s ≡ true → Starts s
starts (block ss) h = record { start = brace_start; more = _; whole = refl }
starts empty h = record { start = empty_start; more = _; whole = refl }
starts (var of text) h = starts_var of text
starts (var_is of text value) h = starts_var_is of text value
starts (assign target value) h = starts_exp target (assign target value) _ refl (left_true (is_full target) (is_full value) h)
starts (expression e) h = starts_exp e (expression e) _ refl (left_true (is_full e) (is_call e) h)
starts (if_then c s) h = record { start = if_start; more = _; whole = refl }
starts (if_else c s o) h = record { start = if_start; more = _; whole = refl }
starts (switch table cs) h = record { start = switch_start; more = _; whole = refl }
starts no_statements h = absurd (never h)
starts (tree.then x y) h = absurd (never h)
starts no_cases h = absurd (never h)
starts (case_of x l y) h = absurd (never h)

-- In a list of statements the next one is read as a statement, and put behind the others.
abbrev Listed : Seen16 → Type 0
Listed t =
    (symbols : List Sym) (b : Built) (ts : List Seen16) → Goes (stmts_sym ∷ symbols) b (t ∷ ts) (stmt_sym ∷ Put (action.Body act.Then) ∷ stmts_sym ∷ symbols) b (t ∷ ts)

listed_first : (f : First) → Listed (token_of f)
listed_first (number_first n) symbols b ts = same refl
listed_first true_first symbols b ts = same refl
listed_first false_first symbols b ts = same refl
listed_first error_first symbols b ts = same refl
listed_first (name_first text) symbols b ts = same refl
listed_first paren_first symbols b ts = same refl
listed_first (unary_first unary_of.Not) symbols b ts = same refl
listed_first (unary_first unary_of.Complement) symbols b ts = same refl
listed_first (unary_first unary_of.Negate) symbols b ts = same refl

listed_start : (s : Start) → Listed (start_token s)
listed_start brace_start symbols b ts = same refl
listed_start empty_start symbols b ts = same refl
listed_start bit_start symbols b ts = same refl
listed_start bool_start symbols b ts = same refl
listed_start if_start symbols b ts = same refl
listed_start switch_start symbols b ts = same refl
listed_start (exp_start f) symbols b ts = listed_first f symbols b ts

listed_stmt : (s : Stmt16) → is_statement s ≡ true → (symbols : List Sym) (b : Built) (rest : List Seen16)
    → Goes (stmts_sym ∷ symbols) b (written_stmt s ++ rest) (stmt_sym ∷ Put (action.Body act.Then) ∷ stmts_sym ∷ symbols) b (written_stmt s ++ rest)
listed_stmt s h symbols b rest =
    let r = starts s h in
    subst (λ ts. Goes (stmts_sym ∷ symbols) b (ts ++ rest) (stmt_sym ∷ Put (action.Body act.Then) ∷ stmts_sym ∷ symbols) b (ts ++ rest)) (sym r.whole) (listed_start r.start symbols b (r.more ++ rest))

-- a statement doesn't begin with `else`
no_else_first : (f : First) (ts : List Seen16) → NoElse (token_of f ∷ ts)
no_else_first (number_first n) ts = refl
no_else_first true_first ts = refl
no_else_first false_first ts = refl
no_else_first error_first ts = refl
no_else_first (name_first text) ts = refl
no_else_first paren_first ts = refl
no_else_first (unary_first unary_of.Not) ts = refl
no_else_first (unary_first unary_of.Complement) ts = refl
no_else_first (unary_first unary_of.Negate) ts = refl

no_else_start : (s : Start) (ts : List Seen16) → NoElse (start_token s ∷ ts)
no_else_start brace_start ts = refl
no_else_start empty_start ts = refl
no_else_start bit_start ts = refl
no_else_start bool_start ts = refl
no_else_start if_start ts = refl
no_else_start switch_start ts = refl
no_else_start (exp_start f) ts = no_else_first f ts

no_else : (s : Stmt16) (rest : List Seen16) → is_statement s ≡ true → NoElse (written_stmt s ++ rest)
no_else s rest h = let r = starts s h in subst (λ ts. NoElse (ts ++ rest)) (sym r.whole) (no_else_start r.start (r.more ++ rest))

-- A statement that begins with an expression: the expression is read, and what ends the statement is left.

abbrev is_name_first : First → Bool
is_name_first (name_first text) = true
is_name_first f = false

abbrev end_sym : Bool → Sym
end_sym true = body_sym body.NamedEnd
end_sym false = body_sym body.StmtEnd

exp_begun : (f : First) (symbols : List Sym) (b : Built) (ts : List Seen16)
    → Goes (stmt_sym ∷ symbols) b (token_of f ∷ ts) (operand ∷ operators_sym 0 11 ∷ end_sym (is_name_first f) ∷ symbols) b (token_of f ∷ ts)
exp_begun (number_first n) symbols b ts = same refl
exp_begun true_first symbols b ts = same refl
exp_begun false_first symbols b ts = same refl
exp_begun error_first symbols b ts = same refl
exp_begun (name_first text) symbols b ts = same refl
exp_begun paren_first symbols b ts = same refl
exp_begun (unary_first unary_of.Not) symbols b ts = same refl
exp_begun (unary_first unary_of.Complement) symbols b ts = same refl
exp_begun (unary_first unary_of.Negate) symbols b ts = same refl

record Ended (e : Exp16) : Type 0 where
  named : Bool
  by : (symbols : List Sym) (b : Built) (rest : List Seen16) → CalmExp rest → Goes (stmt_sym ∷ symbols) b (written_exp e ++ rest) (end_sym named ∷ symbols) (with_exp e b) rest

exp_ended : (e : Exp16) → is_full e ≡ true → Ended e
exp_ended e h =
    let r = begins 0 e h in
    record {
      named = is_name_first r.first;
      by = λ symbols b rest c.
          subst (λ ts. Goes (stmt_sym ∷ symbols) b (ts ++ rest) (operand ∷ operators_sym 0 11 ∷ end_sym (is_name_first r.first) ∷ symbols) b (ts ++ rest)) (sym r.whole) (exp_begun r.first symbols b (r.more ++ rest))
          ▷ full_read e h (end_sym (is_name_first r.first) ∷ symbols) b rest c;
    }

end_assign : (named : Bool) (symbols : List Sym) (b : Built) (ts : List Seen16)
    → Goes (end_sym named ∷ symbols) b (equals ∷ ts) (body_sym body.Exp ∷ rows.semicolon ∷ Put (action.Body act.Assign) ∷ symbols) b ts
end_assign true symbols b ts = reads (equals ∷ []) refl
end_assign false symbols b ts = reads (equals ∷ []) refl

end_call : (named : Bool) (symbols : List Sym) (b : Built) (ts : List Seen16) (e : Exp16) → is_call (bare_exp e) ≡ true
    → Goes (end_sym named ∷ symbols) (with_exp e b) (semicolon ∷ ts) (Put (action.Body act.Expression) ∷ symbols) (with_exp e b) ts
end_call true symbols b ts e h =
    takes_row (word.Body body.NamedEnd) class.CallEnd (Put (action.Body act.Expression) ∷ []) None symbols (with_exp e b) semicolon ts h refl
end_call false symbols b ts e h =
    takes_row (word.Body body.StmtEnd) class.CallEnd (Put (action.Body act.Expression) ∷ []) None symbols (with_exp e b) semicolon ts h refl

bare_call : (e : Exp16) → is_call e ≡ true → is_call (bare_exp e) ≡ true
bare_call (call e xs) h = refl
bare_call (lookahead e of xs) h = refl
bare_call (parenthesized e) h = bare_call e h
bare_call (literal n) h = absurd (never h)
bare_call (truth value) h = absurd (never h)
bare_call error h = absurd (never h)
bare_call (name text) h = absurd (never h)
bare_call (member e text) h = absurd (never h)
bare_call (index e n) h = absurd (never h)
bare_call (slice e high low) h = absurd (never h)
bare_call (cast to e) h = absurd (never h)
bare_call (unary operator e) h = absurd (never h)
bare_call (binary operator x y) h = absurd (never h)
bare_call (choice c x y) h = absurd (never h)
bare_call no_arguments h = absurd (never h)
bare_call (argument x y) h = absurd (never h)
bare_call (listed xs) h = absurd (never h)

bare_ends : (s : Stmt16) → ends_in_if (bare_stmt s) ≡ ends_in_if s
bare_ends no_statements = refl
bare_ends (tree.then x y) = refl
bare_ends (block ss) = refl
bare_ends empty = refl
bare_ends (var of text) = refl
bare_ends (var_is of text value) = refl
bare_ends (assign target value) = refl
bare_ends (expression e) = refl
bare_ends (if_then c s) = refl
bare_ends (if_else c s o) = bare_ends o
bare_ends (switch table cs) = refl
bare_ends no_cases = refl
bare_ends (case_of x l y) = refl

-- what is shown of a statement, of a list of statements and of a list of cases

abbrev StmtReads : Stmt16 → Type 0
StmtReads s =
    (symbols : List Sym) (b : Built) (rest : List Seen16) → (ends_in_if s ≡ true → NoElse rest) → Goes (stmt_sym ∷ symbols) b (written_stmt s ++ rest) symbols (put_stmt s b) rest

-- whether the last of these statements ends in an `if` without `else`
abbrev list_open : Stmt16 → Bool → Bool
list_open (tree.then before last) is_open = ends_in_if (bare_stmt last)
list_open s is_open = is_open

abbrev pub after_list : Stmt16 → List Stmt16 → Built → Built
after_list t ss b = with_stmt (list_open t b.bodies.is_open) b.bodies.exps (bare_stmt t ∷ ss) b

abbrev ListReads : Stmt16 → Type 0
ListReads t =
    (symbols : List Sym) (b : Built) (ss : List Stmt16) (rest : List Seen16) → NoElse rest
    → Goes (stmts_sym ∷ symbols) (with_stmts (no_statements ∷ ss) b) (written_stmt t ++ rest) (stmts_sym ∷ symbols) (after_list t ss b) rest

abbrev cases_sym : Sym
cases_sym = body_sym body.Cases

abbrev CasesRead : Stmt16 → Type 0
CasesRead t =
    (symbols : List Sym) (b : Built) (es : List Exp16) (ss : List Stmt16) (rest : List Seen16)
    → Goes (cases_sym ∷ symbols) (with_stmt false es (no_cases ∷ ss) b) (written_stmt t ++ rest) (cases_sym ∷ symbols) (with_stmt false es (bare_stmt t ∷ ss) b) rest

record StmtFacts (s : Stmt16) : Type 0 where
  list : is_stmt with_parentheses statements s ≡ true → ListReads s
  stmt : is_statement s ≡ true → StmtReads s
  case : is_stmt with_parentheses cases s ≡ true → CasesRead s

-- a list of statements with its closing brace
closed_list : (t : Stmt16) → ListReads t → (symbols : List Sym) (b : Built) (ss : List Stmt16) (rest : List Seen16)
    → Goes (stmts_sym ∷ rows.brace_close ∷ symbols) (with_stmts (no_statements ∷ ss) b) (written_stmt t ++ brace_close ∷ rest) symbols (after_list t ss b) rest
closed_list t f symbols b ss rest =
    f (rows.brace_close ∷ symbols) b ss (brace_close ∷ rest) refl
    ▷ skips (word.Body body.Stmts) (rows.brace_close ∷ symbols) (after_list t ss b) (brace_close ∷ rest) refl refl refl
    ▷ reads (brace_close ∷ []) refl

-- statements

block_read : (t : Stmt16) → ListReads t → StmtReads (block t)
block_read t f symbols b rest c =
    from _ (ap (λ ts. brace_open ∷ ts) (append_assoc (written_stmt t) (brace_close ∷ []) rest))
    (reads (brace_open ∷ []) refl ▷ does ▷ closed_list t f (Put (action.Body act.Block) ∷ symbols) b b.bodies.stmts rest ▷ does)

var_read : (of : Type16) (text : List ℕ) → StmtReads (var of text)
var_read (kind.Bit w) text symbols b rest c = reads (quoted key.Bit ∷ less ∷ number w ∷ greater ∷ id text ∷ semicolon ∷ []) refl ▷ does
var_read kind.Bool text symbols b rest c = reads (quoted key.Bool ∷ id text ∷ semicolon ∷ []) refl ▷ does
var_read (kind.Named n None) text symbols b rest c = reads (id n ∷ id text ∷ semicolon ∷ []) refl ▷ does
var_read (kind.Named n (Some m)) text symbols b rest c = reads (id n ∷ bracket_open ∷ number m ∷ bracket_close ∷ id text ∷ semicolon ∷ []) refl ▷ does

var_tokens : (of : Type16) (text : List ℕ) (value : Exp16) (rest : List Seen16)
    → written_stmt (var_is of text value) ++ rest ≡ written_type of ++ id text ∷ equals ∷ (written_exp value ++ semicolon ∷ rest)
var_tokens of text value rest =
    append_assoc (written_type of) _ rest ∙ ap (λ ts. written_type of ++ id text ∷ equals ∷ ts) (append_assoc (written_exp value) (semicolon ∷ []) rest)

var_is_read : (of : Type16) (text : List ℕ) (value : Exp16) → is_full value ≡ true → StmtReads (var_is of text value)
var_is_read (kind.Bit w) text value h symbols b rest c =
    from _ (var_tokens (kind.Bit w) text value rest)
    (reads (quoted key.Bit ∷ less ∷ number w ∷ greater ∷ id text ∷ equals ∷ []) refl ▷ exp_read value h _ _ (semicolon ∷ rest) refl ▷ reads (semicolon ∷ []) refl ▷ does)
var_is_read kind.Bool text value h symbols b rest c =
    from _ (var_tokens kind.Bool text value rest)
    (reads (quoted key.Bool ∷ id text ∷ equals ∷ []) refl ▷ exp_read value h _ _ (semicolon ∷ rest) refl ▷ reads (semicolon ∷ []) refl ▷ does)
var_is_read (kind.Named n None) text value h symbols b rest c =
    from _ (var_tokens (kind.Named n None) text value rest)
    (reads (id n ∷ id text ∷ equals ∷ []) refl ▷ exp_read value h _ _ (semicolon ∷ rest) refl ▷ reads (semicolon ∷ []) refl ▷ does)
var_is_read (kind.Named n (Some m)) text value h symbols b rest c =
    from _ (var_tokens (kind.Named n (Some m)) text value rest)
    (reads (id n ∷ bracket_open ∷ number m ∷ bracket_close ∷ id text ∷ equals ∷ []) refl ▷ exp_read value h _ _ (semicolon ∷ rest) refl ▷ reads (semicolon ∷ []) refl ▷ does)

assign_read : (target value : Exp16) → is_full target ≡ true → is_full value ≡ true → StmtReads (assign target value)
assign_read target value h k symbols b rest c =
    let r = exp_ended target h in
    from _ (append_assoc (written_exp target) (equals ∷ (written_exp value ++ semicolon ∷ [])) rest ∙ ap (λ ts. written_exp target ++ equals ∷ ts) (append_assoc (written_exp value) (semicolon ∷ []) rest))
    (r.by symbols b (equals ∷ (written_exp value ++ semicolon ∷ rest)) refl
    ▷ end_assign r.named symbols (with_exp target b) (written_exp value ++ semicolon ∷ rest)
    ▷ exp_read value k _ (with_exp target b) (semicolon ∷ rest) refl ▷ reads (semicolon ∷ []) refl ▷ does)

expression_read : (e : Exp16) → is_full e ≡ true → is_call e ≡ true → StmtReads (expression e)
expression_read e h k symbols b rest c =
    let r = exp_ended e h in
    from _ (append_assoc (written_exp e) (semicolon ∷ []) rest)
    (r.by symbols b (semicolon ∷ rest) refl ▷ end_call r.named symbols b rest e (bare_call e k) ▷ does)

if_tokens : (c : Exp16) (ts rest : List Seen16) → (quoted key.If ∷ (in_parens (written_exp c) ++ ts)) ++ rest ≡ quoted key.If ∷ paren_open ∷ (written_exp c ++ paren_close ∷ (ts ++ rest))
if_tokens c ts rest =
    ap (λ us. quoted key.If ∷ paren_open ∷ us) (append_assoc (written_exp c ++ paren_close ∷ []) ts rest ∙ append_assoc (written_exp c) (paren_close ∷ []) (ts ++ rest))

-- up to the statement behind the condition
condition_read : (c : Exp16) → is_full c ≡ true → (symbols : List Sym) (b : Built) (rest : List Seen16)
    → Goes (stmt_sym ∷ symbols) b (quoted key.If ∷ paren_open ∷ (written_exp c ++ paren_close ∷ rest)) (stmt_sym ∷ body_sym body.ElseOption ∷ symbols) (with_exp c b) rest
condition_read c h symbols b rest =
    reads (quoted key.If ∷ paren_open ∷ []) refl ▷ exp_read c h _ b (paren_close ∷ rest) refl ▷ reads (paren_close ∷ []) refl

if_read : (c : Exp16) (s : Stmt16) → is_full c ≡ true → StmtReads s → StmtReads (if_then c s)
if_read c s h f symbols b rest n =
    from _ (if_tokens c (written_stmt s) rest)
    (condition_read c h symbols b (written_stmt s ++ rest)
    ▷ f (body_sym body.ElseOption ∷ symbols) (with_exp c b) rest (λ e. n refl)
    ▷ builds (word.Body body.ElseOption) (action.Body act.If) symbols _ rest refl refl (n refl))

else_read : (c : Exp16) (s o : Stmt16) → is_full c ≡ true → StmtReads s → ends_in_if s ≡ false → StmtReads o → StmtReads (if_else c s o)
else_read c s o h f closed g symbols b rest n =
    from _ (if_tokens c (written_stmt s ++ quoted key.Else ∷ written_stmt o) rest ∙ ap (λ ts. quoted key.If ∷ paren_open ∷ (written_exp c ++ paren_close ∷ ts)) (append_assoc (written_stmt s) (quoted key.Else ∷ written_stmt o) rest))
    (condition_read c h symbols b (written_stmt s ++ quoted key.Else ∷ (written_stmt o ++ rest))
    ▷ f (body_sym body.ElseOption ∷ symbols) (with_exp c b) (quoted key.Else ∷ (written_stmt o ++ rest)) (λ e. absurd (never (sym closed ∙ e)))
    ▷ takes_row (word.Body body.ElseOption) class.Else (stmt_sym ∷ Put (action.Body act.IfElse) ∷ []) None symbols (put_stmt s (with_exp c b)) (quoted key.Else) (written_stmt o ++ rest) (ap not (bare_ends s ∙ closed)) refl
    ▷ g (Put (action.Body act.IfElse) ∷ symbols) (put_stmt s (with_exp c b)) rest n ▷ does)

switch_tokens : (table : List ℕ) (cs : Stmt16) (rest : List Seen16)
    → written_stmt (switch table cs) ++ rest
    ≡ quoted key.Switch ∷ paren_open ∷ id table ∷ dot ∷ quoted key.Apply ∷ paren_open ∷ paren_close ∷ dot ∷ quoted key.ActionRun ∷ paren_close ∷ brace_open ∷ (written_stmt cs ++ brace_close ∷ rest)
switch_tokens table cs rest =
    ap (λ ts. quoted key.Switch ∷ paren_open ∷ id table ∷ dot ∷ quoted key.Apply ∷ paren_open ∷ paren_close ∷ dot ∷ quoted key.ActionRun ∷ paren_close ∷ brace_open ∷ ts) (append_assoc (written_stmt cs) (brace_close ∷ []) rest)

switch_read : (table : List ℕ) (cs : Stmt16) → CasesRead cs → StmtReads (switch table cs)
switch_read table cs f symbols b rest c =
    from _ (switch_tokens table cs rest)
    (reads (quoted key.Switch ∷ paren_open ∷ id table ∷ dot ∷ quoted key.Apply ∷ paren_open ∷ paren_close ∷ dot ∷ quoted key.ActionRun ∷ paren_close ∷ brace_open ∷ []) refl ▷ does
    ▷ f _ (with_name table b) b.bodies.exps b.bodies.stmts (brace_close ∷ rest)
    ▷ skips (word.Body body.Cases) _ _ (brace_close ∷ rest) refl refl refl
    ▷ reads (brace_close ∷ []) refl ▷ does)

-- lists

then_read : (before last : Stmt16) → ListReads before → StmtReads last → is_statement last ≡ true → ListReads (tree.then before last)
then_read before last f g h symbols b ss rest c =
    from _ (append_assoc (written_stmt before) (written_stmt last) rest)
    (f symbols b ss (written_stmt last ++ rest) (no_else last rest h)
    ▷ listed_stmt last h symbols (after_list before ss b) rest
    ▷ g (Put (action.Body act.Then) ∷ stmts_sym ∷ symbols) (after_list before ss b) rest (λ e. c) ▷ does)

case_tokens : (before : Stmt16) (l t : List Seen16) (rest : List Seen16)
    → (written_stmt before ++ (l ++ colon ∷ in_braces t)) ++ rest ≡ written_stmt before ++ (l ++ colon ∷ brace_open ∷ (t ++ brace_close ∷ rest))
case_tokens before l t rest =
    append_assoc (written_stmt before) (l ++ colon ∷ in_braces t) rest
    ∙ ap (λ ts. written_stmt before ++ ts) (append_assoc l (colon ∷ in_braces t) rest ∙ ap (λ ts. l ++ colon ∷ brace_open ∷ ts) (append_assoc t (brace_close ∷ []) rest))

case_read : (before : Stmt16) (l : CaseLabel) (t : Stmt16) → CasesRead before → ListReads t → CasesRead (case_of before l t)
case_read before label.Default t f g symbols b es ss rest =
    from _ (case_tokens before (quoted key.Default ∷ []) (written_stmt t) rest)
    (f symbols b es ss (quoted key.Default ∷ colon ∷ brace_open ∷ (written_stmt t ++ brace_close ∷ rest))
    ▷ reads (quoted key.Default ∷ colon ∷ brace_open ∷ []) refl ▷ does
    ▷ closed_list t g _ (with_stmt false es (bare_stmt before ∷ ss) b) (bare_stmt before ∷ ss) rest ▷ does)
case_read before (label.Action text) t f g symbols b es ss rest =
    from _ (case_tokens before (id text ∷ []) (written_stmt t) rest)
    (f symbols b es ss (id text ∷ colon ∷ brace_open ∷ (written_stmt t ++ brace_close ∷ rest))
    ▷ reads (id text ∷ colon ∷ brace_open ∷ []) refl ▷ does
    ▷ closed_list t g _ (with_name text (with_stmt false es (bare_stmt before ∷ ss) b)) (bare_stmt before ∷ ss) rest ▷ does)

-- all that is shown

only_stmt : (s : Stmt16) → (is_stmt with_parentheses statements s ≡ true → ⊥) → (is_stmt with_parentheses cases s ≡ true → ⊥) → (is_statement s ≡ true → StmtReads s) → StmtFacts s
only_stmt s f g h = record { list = λ k. absurd (f k); stmt = h; case = λ k. absurd (g k) }

else_by : (c : Exp16) (s o : Stmt16) → StmtFacts s → StmtFacts o → is_statement (if_else c s o) ≡ true → StmtReads (if_else c s o)
else_by c s o f g k =
    let sides = right_true (is_full c) ((is_statement s && not (ends_in_if s)) && is_statement o) k in
    let first = left_true (is_statement s && not (ends_in_if s)) (is_statement o) sides in
    else_read c s o (left_true (is_full c) ((is_statement s && not (ends_in_if s)) && is_statement o) k)
    (f.stmt (left_true (is_statement s) (not (ends_in_if s)) first)) (not_true (ends_in_if s) (right_true (is_statement s) (not (ends_in_if s)) first))
    (g.stmt (right_true (is_statement s && not (ends_in_if s)) (is_statement o) sides))

stmt_facts : (s : Stmt16) → StmtFacts s
stmt_facts no_statements = record {
  list = λ k symbols b ss rest c. here grammar16 _ _ _;
  stmt = λ k. absurd (never k);
  case = λ k. absurd (never k);
}
stmt_facts (tree.then before last) =
    let f = stmt_facts before in
    let g = stmt_facts last in
    record {
      list = λ k.
          let kb = left_true (is_stmt with_parentheses statements before) (is_statement last) k in
          let kl = right_true (is_stmt with_parentheses statements before) (is_statement last) k in
          then_read before last (f.list kb) (g.stmt kl) kl;
      stmt = λ k. absurd (never k);
      case = λ k. absurd (never k);
    }
stmt_facts (block t) = let f = stmt_facts t in only_stmt (block t) (λ k. never k) (λ k. never k) (λ k. block_read t (f.list k))
stmt_facts empty = only_stmt empty (λ k. never k) (λ k. never k) (λ k symbols b rest c. reads (semicolon ∷ []) refl ▷ does)
stmt_facts (var of text) = only_stmt (var of text) (λ k. never k) (λ k. never k) (λ k. var_read of text)
stmt_facts (var_is of text value) = only_stmt (var_is of text value) (λ k. never k) (λ k. never k) (λ k. var_is_read of text value k)
stmt_facts (assign target value) =
    only_stmt (assign target value) (λ k. never k) (λ k. never k) (λ k. assign_read target value (left_true (is_full target) (is_full value) k) (right_true (is_full target) (is_full value) k))
stmt_facts (expression e) =
    only_stmt (expression e) (λ k. never k) (λ k. never k) (λ k. expression_read e (left_true (is_full e) (is_call e) k) (right_true (is_full e) (is_call e) k))
stmt_facts (if_then c s) =
    let f = stmt_facts s in
    only_stmt (if_then c s) (λ k. never k) (λ k. never k) (λ k. if_read c s (left_true (is_full c) (is_statement s) k) (f.stmt (right_true (is_full c) (is_statement s) k)))
stmt_facts (if_else c s o) =
    let f = stmt_facts s in
    let g = stmt_facts o in
    only_stmt (if_else c s o) (λ k. never k) (λ k. never k) (λ k. else_by c s o f g k)
stmt_facts (switch table cs) = let f = stmt_facts cs in only_stmt (switch table cs) (λ k. never k) (λ k. never k) (λ k. switch_read table cs (f.case k))
stmt_facts no_cases = record {
  list = λ k. absurd (never k);
  stmt = λ k. absurd (never k);
  case = λ k symbols b es ss rest. here grammar16 _ _ _;
}
stmt_facts (case_of before l t) =
    let f = stmt_facts before in
    let g = stmt_facts t in
    record {
      list = λ k. absurd (never k);
      stmt = λ k. absurd (never k);
      case = λ k.
          case_read before l t (f.case (left_true (is_stmt with_parentheses cases before) (is_stmt with_parentheses statements t) k))
          (g.list (right_true (is_stmt with_parentheses cases before) (is_stmt with_parentheses statements t) k));
    }

-- A list of statements is read up to a token that begins none.
pub list_read : (t : Stmt16) → is_stmt with_parentheses statements t ≡ true → (symbols : List Sym) (b : Built) (ss : List Stmt16) (rest : List Seen16) → Calm (word.Body body.Stmts) rest
    → Goes (stmts_sym ∷ symbols) (with_stmts (no_statements ∷ ss) b) (written_stmt t ++ rest) symbols (after_list t ss b) rest
list_read t h symbols b ss rest c =
    (stmt_facts t).list h symbols b ss rest (calmer (word.Body body.ElseOption) (word.Body body.Stmts) rest refl c)
    ▷ skips (word.Body body.Stmts) symbols (after_list t ss b) rest refl refl c

-- The same with its closing brace.
pub braced_read : (t : Stmt16) → is_stmt with_parentheses statements t ≡ true → (symbols : List Sym) (b : Built) (ss : List Stmt16) (rest : List Seen16)
    → Goes (stmts_sym ∷ rows.brace_close ∷ symbols) (with_stmts (no_statements ∷ ss) b) (written_stmt t ++ brace_close ∷ rest) symbols (after_list t ss b) rest
braced_read t h symbols b ss rest = closed_list t ((stmt_facts t).list h) symbols b ss rest
