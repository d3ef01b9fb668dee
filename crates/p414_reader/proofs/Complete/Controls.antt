-- Statements that are spelled with tokens are read of them.
use Rattle.std.proofs.Common.{◌≡◌, ℕ, Bool, true, false, not, ◌&&◌, ◌||◌, List, [], ◌∷◌, ◌++◌, codes, Some, refl, sym, ap, subst, ◌∙◌, append_assoc, bytes_eq}
use Rattle.std.specs.List.{list_any}
use Rattle.predictive_parser.specs.declared.symbol.Symbol.TheVariants.{Put}
use Rattle.predictive_parser.specs.Machine.{Takes, Passes, next_of}
use Rattle.predictive_parser.specs.Grammar.{Plain, move}
use Rattle.predictive_parser.proofs.Chains.{here, then, reads, put, takes, passes, like_last}
use Rattle.predictive_parser.proofs.Closings.{pass}
use Rattle.p414_syntax.specs.declared.lexeme.Lexeme.{Lexeme}
use Rattle.p414_syntax.specs.declared.mark.Mark.TheVariants as mark
use Rattle.p414_syntax.specs.declared.node.Label.{Label}
use Rattle.p414_syntax.specs.declared.node.Label.TheVariants as label
use Rattle.p414_syntax.specs.declared.node.UnaryOperator.{UnaryOperator}
use Rattle.p414_syntax.specs.declared.node.UnaryOperator.TheVariants as unary_operator
use Rattle.p414_syntax.specs.Tree as tree
use Rattle.p414_syntax.specs.Tree.{Expr, valid, truth, field, number, parenthesized, unary, binary, Stmt, no_statements, apply, apply_branches, if_then, call, no_else, else_block, else_if, no_branches, branch}
use Rattle.p414_syntax.specs.Words.{name, keyword, brace_open, brace_close, paren_open, paren_close, semicolon}
use Rattle.p414_syntax.specs.Operators.{unary_token, binary_token}
use Rattle.p414_syntax.specs.Written.{written_expr, written_stmt, label_text}
use Rattle.p414_syntax.specs.Conditions.{is_among, all_different, is_expr, own_labels, is_label, labels_of, is_outcome, is_mixed, are_labels, block, statement, behind_if, branches, is_stmt}
use Rattle.p414_reader.specs.declared.symbols.Class.TheVariants as class
use Rattle.p414_syntax.specs.declared.keyword.Keyword.TheVariants as key
use Rattle.p414_reader.specs.declared.symbols.Action.TheVariants as action
use Rattle.p414_reader.specs.declared.symbols.BodyAction.TheVariants as body
use Rattle.p414_reader.specs.declared.symbols.Word.TheVariants as word
use Rattle.p414_reader.specs.declared.symbols.BodyWord.TheVariants as body_word
use Rattle.p414_reader.specs.declared.built.Built.{Built}
use Rattle.p414_reader.specs.internal.Classes.{is_mark, is_named, may_follow, with_name, with_label}
use Rattle.p414_reader.specs.internal.Actions.{with_expr, label_of}
use Rattle.p414_reader.specs.internal.Rows as rows
use Rattle.p414_reader.specs.internal.Rows.{Sym, grammar14, body_sym, block_sym}
use Rattle.p414_reader.proofs.Meaning.{else_call}
use Rattle.p414_reader.proofs.Lists.{left_true, right_true, both, not_true, neither_left, neither_right, text_is, text_differs}
use Rattle.p414_reader.proofs.Closing.{closing14, closed14}
use Rattle.p414_reader.proofs.Complete.Expressions.{Goes, from, expr_read}

-- one more tree of statements on the stack
abbrev pub push : Stmt → Built → Built
push s b = record b { bodies = record b.bodies { stmts = s ∷ b.bodies.stmts } }

abbrev pub stmts_sym : Sym
stmts_sym = body_sym body_word.Statements

-- the statements of one list behind those of another
abbrev grafted : Stmt → Stmt → Stmt
grafted (tree.then before last) s = tree.then (grafted before s) last
grafted no_statements s = s
grafted (apply table) s = s
grafted (apply_branches table bs) s = s
grafted (if_then condition inside other) s = s
grafted (call control) s = s
grafted no_else s = s
grafted (else_block inside) s = s
grafted (else_if inner) s = s
grafted no_branches s = s
grafted (branch before l inside) s = s

grafted_none : (t : Stmt) → is_stmt block t ≡ true → grafted t no_statements ≡ t
grafted_none no_statements h = refl
grafted_none (tree.then before last) h = ap (λ s. tree.then s last) (grafted_none before (left_true _ _ h))
grafted_none (apply table) h = cc
grafted_none (apply_branches table bs) h = cc
grafted_none (if_then condition inside other) h = cc
grafted_none (call control) h = cc
grafted_none no_else h = cc
grafted_none (else_block inside) h = cc
grafted_none (else_if inner) h = cc
grafted_none no_branches h = cc
grafted_none (branch before l inside) h = cc

abbrev is_else : Lexeme → Bool
is_else t = is_named (bytes_eq (codes "else")) t

abbrev begins_else : List Lexeme → Bool
begins_else [] = false
begins_else (t ∷ ts) = is_else t

-- Whether a word `else` could still go on with the statement, or with what stands behind its block.
abbrev is_open : Stmt → Bool
is_open no_else = true
is_open (else_if inner) = is_open inner
is_open (if_then condition inside other) = is_open other
is_open (else_block inside) = false
is_open no_statements = false
is_open (tree.then before last) = false
is_open (apply table) = false
is_open (apply_branches table bs) = false
is_open (call control) = false
is_open no_branches = false
is_open (branch before l inside) = false

-- the call of a control

abbrev Calls : List ℕ → Type 0
Calls text =
    (symbols : List Sym) (b : Built) (s : Stmt) (rest : List Lexeme)
    → Goes (stmts_sym ∷ symbols) (push s b) (name text ∷ paren_open ∷ paren_close ∷ semicolon ∷ rest) (stmts_sym ∷ symbols) (push (tree.then s (call text)) b) rest

calls_apply : Calls (codes "apply")
calls_apply symbols b s rest =
    then (reads grammar14 (keyword key.Apply ∷ paren_open ∷ paren_close ∷ semicolon ∷ []) refl)
    (put grammar14 (action.Body (body.AddCallOf key.Apply)) (stmts_sym ∷ symbols) (push s b) rest)

calls_if : Calls (codes "if")
calls_if symbols b s rest =
    then (reads grammar14 (keyword key.If ∷ paren_open ∷ paren_close ∷ semicolon ∷ []) refl)
    (put grammar14 (action.Body (body.AddCallOf key.If)) (stmts_sym ∷ symbols) (push s b) rest)

-- a name that begins no other statement
name_taken : (text : List ℕ) (b : Built) → bytes_eq (codes "apply") text ≡ false → bytes_eq (codes "if") text ≡ false → move grammar14 stmts_sym (Some (name text)) b ≡ Takes (rows.paren_open ∷ rows.paren_close ∷ rows.semicolon ∷ Put (action.Body body.AddCall) ∷ stmts_sym ∷ []) (with_name text b)
name_taken text b e f = rw (e, f) refl

calls_other : (text : List ℕ) → bytes_eq (codes "apply") text ≡ false → bytes_eq (codes "if") text ≡ false → Calls text
calls_other text e f symbols b s rest =
    then (takes grammar14 stmts_sym symbols _ (push s b) (with_name text (push s b)) (name text) _ (name_taken text (push s b) e f))
    (then (reads grammar14 (paren_open ∷ paren_close ∷ semicolon ∷ []) refl)
    (put grammar14 (action.Body body.AddCall) (stmts_sym ∷ symbols) (with_name text (push s b)) rest))

calls : (text : List ℕ) → Calls text
calls text = go (bytes_eq (codes "apply") text) (bytes_eq (codes "if") text) refl refl
  where
    go : (a i : Bool) → bytes_eq (codes "apply") text ≡ a → bytes_eq (codes "if") text ≡ i → Calls text
    go true i e f = subst Calls (sym (text_is (codes "apply") text e)) calls_apply
    go false true e f = subst Calls (sym (text_is (codes "if") text f)) calls_if
    go false false e f = calls_other text e f

-- what an expression begins with: no closing parenthesis

record Begins (e : Expr) : Type 0 where
  first : Lexeme
  more : List Lexeme
  whole : written_expr e ≡ first ∷ more
  no_close : is_mark mark.ParenClose first ≡ false

no_close_unary : (o : UnaryOperator) → is_mark mark.ParenClose (unary_token o) ≡ false
no_close_unary unary_operator.Negate = refl
no_close_unary unary_operator.Complement = refl
no_close_unary unary_operator.Not = refl

begins : (e : Expr) → Begins e
begins (valid i) = record { first = _; more = _; whole = refl; no_close = refl }
begins (truth true) = record { first = _; more = _; whole = refl; no_close = refl }
begins (truth false) = record { first = _; more = _; whole = refl; no_close = refl }
begins (field r) = record { first = _; more = _; whole = refl; no_close = refl }
begins (number n) = record { first = _; more = _; whole = refl; no_close = refl }
begins (parenthesized e) = record { first = _; more = _; whole = refl; no_close = refl }
begins (unary o e) = record { first = _; more = _; whole = refl; no_close = no_close_unary o }
begins (binary o x y) =
    let r = begins x in
    record { first = r.first; more = r.more ++ binary_token o ∷ written_expr y; whole = ap (λ ts. ts ++ binary_token o ∷ written_expr y) r.whole; no_close = r.no_close }

-- what follows the condition of an `if` in a list of statements
abbrev if_rest : List Sym
if_rest = rows.paren_close ∷ block_sym (body_sym body_word.ElseOption ∷ Put (action.Body body.AddIf) ∷ [])

-- behind `if (` a condition is read as an expression
condition_like : (e : Expr) (symbols : List Sym) (b : Built) (rest : List Lexeme)
    → Goes (body_sym body_word.AfterIf ∷ symbols) b (written_expr e ++ rest) (body_sym (body_word.Expr 0) ∷ (if_rest ++ symbols)) b (written_expr e ++ rest)
condition_like e symbols b rest = go (begins e)
  where
    go : Begins e → Goes (body_sym body_word.AfterIf ∷ symbols) b (written_expr e ++ rest) (body_sym (body_word.Expr 0) ∷ (if_rest ++ symbols)) b (written_expr e ++ rest)
    go r =
        subst (λ ts. Goes (body_sym body_word.AfterIf ∷ symbols) b (ts ++ rest) (body_sym (body_word.Expr 0) ∷ (if_rest ++ symbols)) b (ts ++ rest)) (sym r.whole)
        (like_last grammar14 (word.Body body_word.AfterIf) (word.Body (body_word.Expr 0)) (Plain (class.Mark mark.ParenClose) (λ t. rows.semicolon ∷ Put (action.Body (body.AddCallOf key.If)) ∷ []) ∷ []) if_rest symbols b r.first (r.more ++ rest) refl (rw r.no_close refl) refl refl refl)

-- a block of statements in braces, whose opening brace is read

abbrev BlockReads : Stmt → Type 0
BlockReads t =
    (symbols : List Sym) (b : Built) (s : Stmt) (rest : List Lexeme) → begins_else rest ≡ false
    → Goes (stmts_sym ∷ symbols) (push s b) (written_stmt t ++ rest) (stmts_sym ∷ symbols) (push (grafted t s) b) rest

-- the same where a call of the control `else` follows
abbrev BlockCalls : Stmt → Type 0
BlockCalls t =
    (symbols : List Sym) (b : Built) (s : Stmt) (rest : List Lexeme)
    → Goes (stmts_sym ∷ symbols) (push s b) (written_stmt t ++ (else_call ++ rest)) (stmts_sym ∷ symbols) (push (tree.then (grafted t s) (call (codes "else"))) b) rest

abbrev StmtReads : Stmt → Type 0
StmtReads l =
    (symbols : List Sym) (b : Built) (s : Stmt) (rest : List Lexeme) → (is_open l ≡ true → begins_else rest ≡ false)
    → Goes (stmts_sym ∷ symbols) (push s b) (written_stmt l ++ rest) (stmts_sym ∷ symbols) (push (tree.then s l) b) rest

abbrev StmtCalls : Stmt → Type 0
StmtCalls l =
    (symbols : List Sym) (b : Built) (s : Stmt) (rest : List Lexeme)
    → Goes (stmts_sym ∷ symbols) (push s b) (written_stmt l ++ (else_call ++ rest)) (stmts_sym ∷ symbols) (push (tree.then (tree.then s l) (call (codes "else"))) b) rest

-- what stands behind a block is on the stack, and whether a call of `else` follows
abbrev push_else : Stmt → Bool → Built → Built
push_else o calls_else b = record b { bodies = record b.bodies { stmts = o ∷ b.bodies.stmts; else_calls = calls_else ∷ b.bodies.else_calls } }

abbrev ElseReads : Stmt → Type 0
ElseReads o =
    (symbols : List Sym) (b : Built) (rest : List Lexeme) → (is_open o ≡ true → begins_else rest ≡ false)
    → Goes (body_sym body_word.ElseOption ∷ symbols) b (written_stmt o ++ rest) symbols (push_else o false b) rest

abbrev ElseCalls : Stmt → Type 0
ElseCalls o =
    (symbols : List Sym) (b : Built) (rest : List Lexeme) → is_open o ≡ true
    → Goes (body_sym body_word.ElseOption ∷ symbols) b (written_stmt o ++ (else_call ++ rest)) symbols (push_else o true b) rest

-- a block with its closing brace
closed_block : (t : Stmt) → is_stmt block t ≡ true → BlockReads t → (symbols : List Sym) (b : Built) (rest : List Lexeme)
    → Goes (stmts_sym ∷ rows.brace_close ∷ symbols) (push no_statements b) (written_stmt t ++ brace_close ∷ rest) symbols (push t b) rest
closed_block t h f symbols b rest =
    subst (λ s. Goes (stmts_sym ∷ rows.brace_close ∷ symbols) (push no_statements b) (written_stmt t ++ brace_close ∷ rest) symbols (push s b) rest) (grafted_none t h)
    (then (f (rows.brace_close ∷ symbols) b no_statements (brace_close ∷ rest) refl)
    (then (pass grammar14 closing14 closed14 (word.Body body_word.Statements) (rows.brace_close ∷ symbols) (push (grafted t no_statements) b) (brace_close ∷ rest) refl refl refl)
    (reads grammar14 (brace_close ∷ []) refl)))

-- no word `else` stands there
no_else_read : (symbols : List Sym) (b : Built) (rest : List Lexeme) → begins_else rest ≡ false → Goes (body_sym body_word.ElseOption ∷ symbols) b rest symbols (push_else no_else false b) rest
no_else_read symbols b rest h = passes grammar14 (body_sym body_word.ElseOption) symbols b (push_else no_else false b) rest (moves rest h)
  where
    moves : (ts : List Lexeme) → begins_else ts ≡ false → move grammar14 (body_sym body_word.ElseOption) (next_of ts) b ≡ Passes (push_else no_else false b)
    moves [] k = refl
    moves (t ∷ ts) k = rw k refl

-- an `if` statement up to what stands behind its block
if_read : (c : Expr) (t : Stmt) → is_expr 0 c ≡ true → is_stmt block t ≡ true → BlockReads t → (symbols : List Sym) (b : Built) (rest : List Lexeme)
    → Goes (body_sym (body_word.Expr 0) ∷ (if_rest ++ symbols)) b (written_expr c ++ (paren_close ∷ brace_open ∷ (written_stmt t ++ brace_close ∷ rest)))
    (body_sym body_word.ElseOption ∷ Put (action.Body body.AddIf) ∷ symbols) (push t (with_expr c b)) rest
if_read c t hc ht f symbols b rest =
    then (expr_read c _ b _ hc refl)
    (then (reads grammar14 (paren_close ∷ brace_open ∷ []) refl)
    (then (put grammar14 (action.Body body.NoStatements) _ (with_expr c b) _)
    (closed_block t ht f (body_sym body_word.ElseOption ∷ Put (action.Body body.AddIf) ∷ symbols) (with_expr c b) rest)))

-- the same behind `else if (`
else_if_rest : List Sym
else_if_rest = rows.paren_close ∷ block_sym (body_sym body_word.ElseOption ∷ Put (action.Body body.ElseIf) ∷ [])

else_if_read : (c : Expr) (t : Stmt) → is_expr 0 c ≡ true → is_stmt block t ≡ true → BlockReads t → (symbols : List Sym) (b : Built) (rest : List Lexeme)
    → Goes (body_sym body_word.ElseOption ∷ symbols) b (keyword key.Else ∷ keyword key.If ∷ paren_open ∷ (written_expr c ++ (paren_close ∷ brace_open ∷ (written_stmt t ++ brace_close ∷ rest))))
    (body_sym body_word.ElseOption ∷ Put (action.Body body.ElseIf) ∷ symbols) (push t (with_expr c b)) rest
else_if_read c t hc ht f symbols b rest =
    then (reads grammar14 (keyword key.Else ∷ keyword key.If ∷ paren_open ∷ []) refl)
    (then (expr_read c _ b _ hc refl)
    (then (reads grammar14 (paren_close ∷ brace_open ∷ []) refl)
    (then (put grammar14 (action.Body body.NoStatements) _ (with_expr c b) _)
    (closed_block t ht f (body_sym body_word.ElseOption ∷ Put (action.Body body.ElseIf) ∷ symbols) (with_expr c b) rest))))

-- the tokens of an `if` statement, with more behind them
if_tokens : (c : Expr) (t o : Stmt) (rest : List Lexeme)
    → written_stmt (if_then c t o) ++ rest ≡ keyword key.If ∷ paren_open ∷ (written_expr c ++ (paren_close ∷ brace_open ∷ (written_stmt t ++ brace_close ∷ (written_stmt o ++ rest))))
if_tokens c t o rest =
    ap (λ ts. keyword key.If ∷ paren_open ∷ ts)
    (append_assoc (written_expr c ++ paren_close ∷ []) _ rest
    ∙ append_assoc (written_expr c) (paren_close ∷ []) _
    ∙ ap (λ ts. written_expr c ++ paren_close ∷ brace_open ∷ ts)
    (append_assoc (written_stmt t ++ brace_close ∷ []) (written_stmt o) rest ∙ append_assoc (written_stmt t) (brace_close ∷ []) (written_stmt o ++ rest)))

if_reads : (c : Expr) (t o : Stmt) → is_expr 0 c ≡ true → is_stmt block t ≡ true → BlockReads t → ElseReads o → StmtReads (if_then c t o)
if_reads c t o hc ht f g symbols b s rest k =
    from (written_stmt (if_then c t o) ++ rest) (if_tokens c t o rest)
    (then (reads grammar14 (keyword key.If ∷ paren_open ∷ []) refl)
    (then (condition_like c (stmts_sym ∷ symbols) (push s b) _)
    (then (if_read c t hc ht f (stmts_sym ∷ symbols) (push s b) (written_stmt o ++ rest))
    (then (g (Put (action.Body body.AddIf) ∷ stmts_sym ∷ symbols) (push t (with_expr c (push s b))) rest k)
    (put grammar14 (action.Body body.AddIf) (stmts_sym ∷ symbols) (push_else o false (push t (with_expr c (push s b)))) rest)))))

-- the same with a call of `else` behind it, which the statement takes
if_calls : (c : Expr) (t o : Stmt) → is_expr 0 c ≡ true → is_stmt block t ≡ true → BlockReads t → ElseCalls o → is_open o ≡ true → StmtCalls (if_then c t o)
if_calls c t o hc ht f g k symbols b s rest =
    from (written_stmt (if_then c t o) ++ (else_call ++ rest)) (if_tokens c t o (else_call ++ rest))
    (then (reads grammar14 (keyword key.If ∷ paren_open ∷ []) refl)
    (then (condition_like c (stmts_sym ∷ symbols) (push s b) _)
    (then (if_read c t hc ht f (stmts_sym ∷ symbols) (push s b) (written_stmt o ++ (else_call ++ rest)))
    (then (g (Put (action.Body body.AddIf) ∷ stmts_sym ∷ symbols) (push t (with_expr c (push s b))) rest k)
    (put grammar14 (action.Body body.AddIf) (stmts_sym ∷ symbols) (push_else o true (push t (with_expr c (push s b)))) rest)))))

-- labels

any_append : {A : Type 0} (f : A → Bool) (xs : List A) (y : A) → list_any f (xs ++ y ∷ []) ≡ (list_any f xs || f y)
any_append f [] y = go (f y)
  where
    go : (b : Bool) → (b || false) ≡ b
    go true = refl
    go false = refl
any_append f (x ∷ xs) y = go (f x) (any_append f xs y)
  where
    go : (b : Bool) → list_any f (xs ++ y ∷ []) ≡ (list_any f xs || f y) → (b || list_any f (xs ++ y ∷ [])) ≡ ((b || list_any f xs) || f y)
    go true e = refl
    go false e = e

-- a text that isn't among these and one more
among_less : (text : List ℕ) (texts : List (List ℕ)) (other : List ℕ) → is_among text (texts ++ other ∷ []) ≡ false → (is_among text texts ≡ false) × (bytes_eq text other ≡ false)
among_less text texts other h =
    let e = sym (any_append (bytes_eq text) texts other) ∙ h in
    (neither_left (is_among text texts) (bytes_eq text other) e, neither_right (is_among text texts) (bytes_eq text other) e)

different_less : (texts : List (List ℕ)) (text : List ℕ) → all_different (texts ++ text ∷ []) ≡ true → (all_different texts ≡ true) × (is_among text texts ≡ false)
different_less [] text h = (refl, refl)
different_less (t ∷ texts) text h =
    let l = among_less t texts text (not_true (is_among t (texts ++ text ∷ [])) (left_true (not (is_among t (texts ++ text ∷ []))) (all_different (texts ++ text ∷ [])) h)) in
    let r = different_less texts text (right_true (not (is_among t (texts ++ text ∷ []))) (all_different (texts ++ text ∷ [])) h) in
    (rw (l.0, r.0) refl, rw (text_differs t text l.1, r.1) refl)

mixed_less : (a b c d : Bool) → not ((a || c) && (b || d)) ≡ true → not (a && b) ≡ true
mixed_less true true c d h = h
mixed_less true false c d h = refl
mixed_less false b c d h = refl

unmixed_less : (texts : List (List ℕ)) (text : List ℕ) → not (is_mixed (texts ++ text ∷ [])) ≡ true → not (is_mixed texts) ≡ true
unmixed_less texts text h =
    mixed_less (list_any is_outcome texts) (list_any (λ t. not (is_outcome t)) texts) (is_outcome text) (not (is_outcome text))
    (sym (ap not (ap (λ a. a && list_any (λ t. not (is_outcome t)) (texts ++ text ∷ [])) (any_append is_outcome texts text) ∙ ap (λ b. (list_any is_outcome texts || is_outcome text) && b) (any_append (λ t. not (is_outcome t)) texts text))) ∙ h)

-- labels of which the last may follow the others
labels_less : (texts : List (List ℕ)) (text : List ℕ) → are_labels (texts ++ text ∷ []) ≡ true → (are_labels texts ≡ true) × (may_follow texts text ≡ true)
labels_less texts text h =
    let d = different_less texts text (left_true (all_different (texts ++ text ∷ [])) (not (is_mixed (texts ++ text ∷ []))) h) in
    let m = right_true (all_different (texts ++ text ∷ [])) (not (is_mixed (texts ++ text ∷ []))) h in
    (both (all_different texts) (not (is_mixed texts)) d.0 (unmixed_less texts text m), both (not (is_among text texts)) (not (is_mixed (texts ++ text ∷ []))) (ap not d.1) m)

-- a label is that of its text
label_back : (l : Label) → is_label l ≡ true → label_of (label_text l) ≡ l
label_back label.Hit h = refl
label_back label.Miss h = refl
label_back label.Default h = refl
label_back (label.Action a) h =
    let n = not_true (is_among a own_labels) h in
    let n1 = neither_right (bytes_eq a (codes "hit")) (is_among a (codes "miss" ∷ codes "default" ∷ [])) n in
    let n2 = neither_right (bytes_eq a (codes "miss")) (is_among a (codes "default" ∷ [])) n1 in
    rw (
      text_differs a (codes "hit") (neither_left (bytes_eq a (codes "hit")) (is_among a (codes "miss" ∷ codes "default" ∷ [])) n),
      text_differs a (codes "miss") (neither_left (bytes_eq a (codes "miss")) (is_among a (codes "default" ∷ [])) n1),
      text_differs a (codes "default") (neither_left (bytes_eq a (codes "default")) false n2),
    ) refl

-- branches

abbrev branches_sym : Sym
branches_sym = body_sym body_word.Branches

-- a list of branches is on the stack, with its labels
abbrev branching : Stmt → List (List ℕ) → Built → Built
branching bs labels b = record b { bodies = record b.bodies { stmts = bs ∷ b.bodies.stmts; labels = labels ∷ b.bodies.labels } }

abbrev BranchesRead : Stmt → Type 0
BranchesRead bs =
    (symbols : List Sym) (b : Built) (rest : List Lexeme)
    → Goes (branches_sym ∷ symbols) (branching no_branches [] b) (written_stmt bs ++ rest) (branches_sym ∷ symbols) (branching bs (labels_of bs) b) rest

label_taken : (text : List ℕ) (b : Built) (bs : Stmt) (labels : List (List ℕ)) → may_follow labels text ≡ true
    → move grammar14 branches_sym (Some (name text)) (branching bs labels b) ≡ Takes (block_sym (Put (action.Body body.AddBranch) ∷ branches_sym ∷ [])) (with_label text (branching bs labels b))
label_taken text b bs labels h = rw h refl

-- one more branch behind others
branch_read : (before : Stmt) (l : Label) (t : Stmt) → is_label l ≡ true → may_follow (labels_of before) (label_text l) ≡ true → is_stmt block t ≡ true → BranchesRead before → BlockReads t → BranchesRead (branch before l t)
branch_read before l t hl hm ht f g symbols b rest =
    from (written_stmt (branch before l t) ++ rest)
    (append_assoc (written_stmt before) (name (label_text l) ∷ brace_open ∷ (written_stmt t ++ brace_close ∷ [])) rest
    ∙ ap (λ ts. written_stmt before ++ name (label_text l) ∷ brace_open ∷ ts) (append_assoc (written_stmt t) (brace_close ∷ []) rest))
    (then (f symbols b (name (label_text l) ∷ brace_open ∷ (written_stmt t ++ brace_close ∷ rest)))
    (then (takes grammar14 branches_sym symbols _ (branching before (labels_of before) b) (with_label (label_text l) (branching before (labels_of before) b)) (name (label_text l)) _ (label_taken (label_text l) b before (labels_of before) hm))
    (then (reads grammar14 (brace_open ∷ []) refl)
    (then (put grammar14 (action.Body body.NoStatements) _ (with_label (label_text l) (branching before (labels_of before) b)) _)
    (then (closed_block t ht g (Put (action.Body body.AddBranch) ∷ branches_sym ∷ symbols) (with_label (label_text l) (branching before (labels_of before) b)) rest)
    (subst (λ k. Goes (Put (action.Body body.AddBranch) ∷ branches_sym ∷ symbols) (push t (with_label (label_text l) (branching before (labels_of before) b))) rest (branches_sym ∷ symbols) (branching (branch before k t) (labels_of before ++ label_text l ∷ []) b) rest) (label_back l hl)
    (put grammar14 (action.Body body.AddBranch) (branches_sym ∷ symbols) (push t (with_label (label_text l) (branching before (labels_of before) b))) rest)))))))

apply_read : (table : List ℕ) → StmtReads (apply table)
apply_read table symbols b s rest k =
    then (reads grammar14 (keyword key.Apply ∷ paren_open ∷ name table ∷ paren_close ∷ semicolon ∷ []) refl)
    (put grammar14 (action.Body body.AddApply) (stmts_sym ∷ symbols) (with_name table (push s b)) rest)

apply_branches_read : (table : List ℕ) (bs : Stmt) → BranchesRead bs → StmtReads (apply_branches table bs)
apply_branches_read table bs f symbols b s rest k =
    from (written_stmt (apply_branches table bs) ++ rest) (ap (λ ts. keyword key.Apply ∷ paren_open ∷ name table ∷ paren_close ∷ brace_open ∷ ts) (append_assoc (written_stmt bs) (brace_close ∷ []) rest))
    (then (reads grammar14 (keyword key.Apply ∷ paren_open ∷ name table ∷ paren_close ∷ brace_open ∷ []) refl)
    (then (put grammar14 (action.Body body.NoBranches) _ (with_name table (push s b)) _)
    (then (f (rows.brace_close ∷ Put (action.Body body.AddApplyBranches) ∷ stmts_sym ∷ symbols) (with_name table (push s b)) (brace_close ∷ rest))
    (then (pass grammar14 closing14 closed14 (word.Body body_word.Branches) _ (branching bs (labels_of bs) (with_name table (push s b))) (brace_close ∷ rest) refl refl refl)
    (then (reads grammar14 (brace_close ∷ []) refl)
    (put grammar14 (action.Body body.AddApplyBranches) (stmts_sym ∷ symbols) (branching bs (labels_of bs) (with_name table (push s b))) rest))))))

-- what stands behind `else`

else_block_read : (t : Stmt) → is_stmt block t ≡ true → BlockReads t → ElseReads (else_block t)
else_block_read t ht f symbols b rest k =
    from (written_stmt (else_block t) ++ rest) (ap (λ ts. keyword key.Else ∷ brace_open ∷ ts) (append_assoc (written_stmt t) (brace_close ∷ []) rest))
    (then (reads grammar14 (keyword key.Else ∷ brace_open ∷ []) refl)
    (then (put grammar14 (action.Body body.NoStatements) _ b _)
    (then (closed_block t ht f (Put (action.Body body.ElseBlock) ∷ symbols) b rest)
    (put grammar14 (action.Body body.ElseBlock) symbols (push t b) rest))))

no_else_calls : ElseCalls no_else
no_else_calls symbols b rest k =
    then (reads grammar14 else_call refl) (put grammar14 (action.Body body.NoElseThenCall) symbols b rest)

else_if_reads : (c : Expr) (t o : Stmt) → is_expr 0 c ≡ true → is_stmt block t ≡ true → BlockReads t → ElseReads o → ElseReads (else_if (if_then c t o))
else_if_reads c t o hc ht f g symbols b rest k =
    from (written_stmt (else_if (if_then c t o)) ++ rest) (ap (λ ts. keyword key.Else ∷ ts) (if_tokens c t o rest))
    (then (else_if_read c t hc ht f symbols b (written_stmt o ++ rest))
    (then (g (Put (action.Body body.ElseIf) ∷ symbols) (push t (with_expr c b)) rest k)
    (put grammar14 (action.Body body.ElseIf) symbols (push_else o false (push t (with_expr c b))) rest)))

else_if_calls : (c : Expr) (t o : Stmt) → is_expr 0 c ≡ true → is_stmt block t ≡ true → BlockReads t → ElseCalls o → ElseCalls (else_if (if_then c t o))
else_if_calls c t o hc ht f g symbols b rest k =
    from (written_stmt (else_if (if_then c t o)) ++ (else_call ++ rest)) (ap (λ ts. keyword key.Else ∷ ts) (if_tokens c t o (else_call ++ rest)))
    (then (else_if_read c t hc ht f symbols b (written_stmt o ++ (else_call ++ rest)))
    (then (g (Put (action.Body body.ElseIf) ∷ symbols) (push t (with_expr c b)) rest k)
    (put grammar14 (action.Body body.ElseIf) symbols (push_else o true (push t (with_expr c b))) rest)))

-- a statement that no `else` goes on with, and a call of `else` behind it
then_calls : (l : Stmt) → is_open l ≡ false → StmtReads l → StmtCalls l
then_calls l h f symbols b s rest =
    then (f symbols b s (else_call ++ rest) (λ k. cc)) (calls (codes "else") symbols b (tree.then s l) rest)

-- a statement behind others
then_reads : (before last : Stmt) (symbols : List Sym) (b : Built) (s : Stmt) (rest : List Lexeme) → BlockReads before → StmtReads last → begins_else (written_stmt last ++ rest) ≡ false → begins_else rest ≡ false
    → Goes (stmts_sym ∷ symbols) (push s b) (written_stmt (tree.then before last) ++ rest) (stmts_sym ∷ symbols) (push (grafted (tree.then before last) s) b) rest
then_reads before last symbols b s rest f g h k =
    from (written_stmt (tree.then before last) ++ rest) (append_assoc (written_stmt before) (written_stmt last) rest)
    (then (f symbols b s (written_stmt last ++ rest) h) (g symbols b (grafted before s) rest (λ o. k)))

-- the same with a call of `else` behind it
then_call_reads : (before last : Stmt) (symbols : List Sym) (b : Built) (s : Stmt) (rest : List Lexeme) → BlockReads before → StmtCalls last → begins_else (written_stmt last ++ (else_call ++ rest)) ≡ false
    → Goes (stmts_sym ∷ symbols) (push s b) (written_stmt (tree.then before last) ++ (else_call ++ rest)) (stmts_sym ∷ symbols) (push (tree.then (grafted (tree.then before last) s) (call (codes "else"))) b) rest
then_call_reads before last symbols b s rest f g h =
    from (written_stmt (tree.then before last) ++ (else_call ++ rest)) (append_assoc (written_stmt before) (written_stmt last) (else_call ++ rest))
    (then (f symbols b s (written_stmt last ++ (else_call ++ rest)) h) (g symbols b (grafted before s) rest))

-- a call of a control whose name is `else` isn't told from what stands behind an `if` block by its first token
else_named : (text : List ℕ) (rest : List Lexeme) → bytes_eq (codes "else") text ≡ false → begins_else (name text ∷ rest) ≡ false
else_named text rest h = h

call_behind : (before : Stmt) (text : List ℕ) → BlockReads before → BlockCalls before → BlockReads (tree.then before (call text))
call_behind before text f g symbols b s rest k = go (bytes_eq (codes "else") text) refl
  where
    go : (e : Bool) → bytes_eq (codes "else") text ≡ e → Goes (stmts_sym ∷ symbols) (push s b) (written_stmt (tree.then before (call text)) ++ rest) (stmts_sym ∷ symbols) (push (tree.then (grafted before s) (call text)) b) rest
    go false e = then_reads before (call text) symbols b s rest f (λ symbols b s rest o. calls text symbols b s rest) e k
    go true e =
        subst (λ word. Goes (stmts_sym ∷ symbols) (push s b) (written_stmt (tree.then before (call word)) ++ rest) (stmts_sym ∷ symbols) (push (tree.then (grafted before s) (call word)) b) rest) (sym (text_is (codes "else") text e))
        (from ((written_stmt before ++ else_call) ++ rest) (append_assoc (written_stmt before) else_call rest) (g symbols b s rest))

call_behind_calls : (before : Stmt) (text : List ℕ) → BlockReads before → BlockCalls before → BlockCalls (tree.then before (call text))
call_behind_calls before text f g symbols b s rest = go (bytes_eq (codes "else") text) refl
  where
    go : (e : Bool) → bytes_eq (codes "else") text ≡ e → Goes (stmts_sym ∷ symbols) (push s b) (written_stmt (tree.then before (call text)) ++ (else_call ++ rest)) (stmts_sym ∷ symbols) (push (tree.then (tree.then (grafted before s) (call text)) (call (codes "else"))) b) rest
    go false e = then_call_reads before (call text) symbols b s rest f (then_calls (call text) refl (λ symbols b s rest o. calls text symbols b s rest)) e
    go true e =
        subst (λ word. Goes (stmts_sym ∷ symbols) (push s b) (written_stmt (tree.then before (call word)) ++ (else_call ++ rest)) (stmts_sym ∷ symbols) (push (tree.then (tree.then (grafted before s) (call word)) (call (codes "else"))) b) rest) (sym (text_is (codes "else") text e))
        (from ((written_stmt before ++ else_call) ++ (else_call ++ rest)) (append_assoc (written_stmt before) else_call (else_call ++ rest))
        (then (g symbols b s (else_call ++ rest)) (calls (codes "else") symbols b (tree.then (grafted before s) (call (codes "else"))) rest)))

if_calls_either : (c : Expr) (t o : Stmt) → is_expr 0 c ≡ true → is_stmt block t ≡ true → BlockReads t → ElseReads o → ElseCalls o → StmtCalls (if_then c t o)
if_calls_either c t o hc ht f g k = go (is_open o) refl
  where
    go : (p : Bool) → is_open o ≡ p → StmtCalls (if_then c t o)
    go true e = if_calls c t o hc ht f k e
    go false e = then_calls (if_then c t o) e (if_reads c t o hc ht f g)

if_stmt_calls : (c : Expr) (t o : Stmt) → is_stmt statement (if_then c t o) ≡ true → (is_stmt block t ≡ true → BlockReads t) → (is_stmt behind_if o ≡ true → ElseReads o) → (is_stmt behind_if o ≡ true → ElseCalls o) → StmtCalls (if_then c t o)
if_stmt_calls c t o h f g k =
    let r = right_true (is_expr 0 c) (is_stmt block t && is_stmt behind_if o) h in
    let ht = left_true (is_stmt block t) (is_stmt behind_if o) r in
    let ho = right_true (is_stmt block t) (is_stmt behind_if o) r in
    if_calls_either c t o (left_true (is_expr 0 c) (is_stmt block t && is_stmt behind_if o) h) ht (f ht) (g ho) (k ho)

pub never : false ≡ true → ⊥
never e = cc

never_and : (a : Bool) → (a && false) ≡ true → ⊥
never_and true e = cc
never_and false e = cc

mutual
  block_reads : (t : Stmt) → is_stmt block t ≡ true → BlockReads t
  block_reads no_statements h = λ symbols b s rest k. here grammar14 (stmts_sym ∷ symbols) (push s b) rest
  block_reads (tree.then before (apply table)) h = λ symbols b s rest k.
      then_reads before (apply table) symbols b s rest (block_reads before (left_true _ _ h)) (apply_read table) refl k
  block_reads (tree.then before (apply_branches table bs)) h = λ symbols b s rest k.
      then_reads before (apply_branches table bs) symbols b s rest (block_reads before (left_true (is_stmt block before) (is_stmt statement (apply_branches table bs)) h)) (stmt_reads (apply_branches table bs) (right_true (is_stmt block before) (is_stmt statement (apply_branches table bs)) h)) refl k
  block_reads (tree.then before (if_then c t o)) h = λ symbols b s rest k.
      then_reads before (if_then c t o) symbols b s rest (block_reads before (left_true (is_stmt block before) (is_stmt statement (if_then c t o)) h)) (stmt_reads (if_then c t o) (right_true (is_stmt block before) (is_stmt statement (if_then c t o)) h)) refl k
  block_reads (tree.then before (call text)) h =
      call_behind before text (block_reads before (left_true (is_stmt block before) true h)) (block_calls before (left_true (is_stmt block before) true h))
  block_reads (tree.then before no_statements) h = λ symbols b s rest k. absurd (never_and (is_stmt block before) h)
  block_reads (tree.then before (tree.then x y)) h = λ symbols b s rest k. absurd (never_and (is_stmt block before) h)
  block_reads (tree.then before no_else) h = λ symbols b s rest k. absurd (never_and (is_stmt block before) h)
  block_reads (tree.then before (else_block t)) h = λ symbols b s rest k. absurd (never_and (is_stmt block before) h)
  block_reads (tree.then before (else_if t)) h = λ symbols b s rest k. absurd (never_and (is_stmt block before) h)
  block_reads (tree.then before no_branches) h = λ symbols b s rest k. absurd (never_and (is_stmt block before) h)
  block_reads (tree.then before (branch x l t)) h = λ symbols b s rest k. absurd (never_and (is_stmt block before) h)
  block_reads (apply table) h = λ symbols b s rest k. absurd (never h)
  block_reads (apply_branches table bs) h = λ symbols b s rest k. absurd (never h)
  block_reads (if_then c t o) h = λ symbols b s rest k. absurd (never h)
  block_reads (call text) h = λ symbols b s rest k. absurd (never h)
  block_reads no_else h = λ symbols b s rest k. absurd (never h)
  block_reads (else_block t) h = λ symbols b s rest k. absurd (never h)
  block_reads (else_if t) h = λ symbols b s rest k. absurd (never h)
  block_reads no_branches h = λ symbols b s rest k. absurd (never h)
  block_reads (branch before l t) h = λ symbols b s rest k. absurd (never h)

  block_calls : (t : Stmt) → is_stmt block t ≡ true → BlockCalls t
  block_calls no_statements h = λ symbols b s rest. calls (codes "else") symbols b s rest
  block_calls (tree.then before (apply table)) h = λ symbols b s rest.
      then_call_reads before (apply table) symbols b s rest (block_reads before (left_true (is_stmt block before) true h)) (then_calls (apply table) refl (apply_read table)) refl
  block_calls (tree.then before (apply_branches table bs)) h = λ symbols b s rest.
      then_call_reads before (apply_branches table bs) symbols b s rest (block_reads before (left_true (is_stmt block before) (is_stmt statement (apply_branches table bs)) h)) (then_calls (apply_branches table bs) refl (stmt_reads (apply_branches table bs) (right_true (is_stmt block before) (is_stmt statement (apply_branches table bs)) h))) refl
  block_calls (tree.then before (if_then c t o)) h = λ symbols b s rest.
      then_call_reads before (if_then c t o) symbols b s rest (block_reads before (left_true (is_stmt block before) (is_stmt statement (if_then c t o)) h)) (if_stmt_calls c t o (right_true (is_stmt block before) (is_stmt statement (if_then c t o)) h) (λ k. block_reads t k) (λ k. else_reads o k) (λ k. else_calls o k)) refl
  block_calls (tree.then before (call text)) h =
      call_behind_calls before text (block_reads before (left_true (is_stmt block before) true h)) (block_calls before (left_true (is_stmt block before) true h))
  block_calls (tree.then before no_statements) h = λ symbols b s rest. absurd (never_and (is_stmt block before) h)
  block_calls (tree.then before (tree.then x y)) h = λ symbols b s rest. absurd (never_and (is_stmt block before) h)
  block_calls (tree.then before no_else) h = λ symbols b s rest. absurd (never_and (is_stmt block before) h)
  block_calls (tree.then before (else_block t)) h = λ symbols b s rest. absurd (never_and (is_stmt block before) h)
  block_calls (tree.then before (else_if t)) h = λ symbols b s rest. absurd (never_and (is_stmt block before) h)
  block_calls (tree.then before no_branches) h = λ symbols b s rest. absurd (never_and (is_stmt block before) h)
  block_calls (tree.then before (branch x l t)) h = λ symbols b s rest. absurd (never_and (is_stmt block before) h)
  block_calls (apply table) h = λ symbols b s rest. absurd (never h)
  block_calls (apply_branches table bs) h = λ symbols b s rest. absurd (never h)
  block_calls (if_then c t o) h = λ symbols b s rest. absurd (never h)
  block_calls (call text) h = λ symbols b s rest. absurd (never h)
  block_calls no_else h = λ symbols b s rest. absurd (never h)
  block_calls (else_block t) h = λ symbols b s rest. absurd (never h)
  block_calls (else_if t) h = λ symbols b s rest. absurd (never h)
  block_calls no_branches h = λ symbols b s rest. absurd (never h)
  block_calls (branch before l t) h = λ symbols b s rest. absurd (never h)

  stmt_reads : (l : Stmt) → is_stmt statement l ≡ true → StmtReads l
  stmt_reads (apply table) h = apply_read table
  stmt_reads (apply_branches table bs) h =
      apply_branches_read table bs (branches_read bs (left_true (is_stmt branches bs) (are_labels (labels_of bs)) h) (right_true (is_stmt branches bs) (are_labels (labels_of bs)) h))
  stmt_reads (if_then c t o) h =
      let k = right_true (is_expr 0 c) (is_stmt block t && is_stmt behind_if o) h in
      if_reads c t o (left_true (is_expr 0 c) (is_stmt block t && is_stmt behind_if o) h) (left_true (is_stmt block t) (is_stmt behind_if o) k)
      (block_reads t (left_true (is_stmt block t) (is_stmt behind_if o) k)) (else_reads o (right_true (is_stmt block t) (is_stmt behind_if o) k))
  stmt_reads (call text) h = λ symbols b s rest o. calls text symbols b s rest
  stmt_reads no_statements h = λ symbols b s rest k. absurd (never h)
  stmt_reads (tree.then x y) h = λ symbols b s rest k. absurd (never h)
  stmt_reads no_else h = λ symbols b s rest k. absurd (never h)
  stmt_reads (else_block t) h = λ symbols b s rest k. absurd (never h)
  stmt_reads (else_if t) h = λ symbols b s rest k. absurd (never h)
  stmt_reads no_branches h = λ symbols b s rest k. absurd (never h)
  stmt_reads (branch x l t) h = λ symbols b s rest k. absurd (never h)

  else_reads : (o : Stmt) → is_stmt behind_if o ≡ true → ElseReads o
  else_reads no_else h = λ symbols b rest k. no_else_read symbols b rest (k refl)
  else_reads (else_block t) h = else_block_read t h (block_reads t h)
  else_reads (else_if (if_then c t o)) h =
      let k = right_true (is_expr 0 c) (is_stmt block t && is_stmt behind_if o) h in
      else_if_reads c t o (left_true (is_expr 0 c) (is_stmt block t && is_stmt behind_if o) h) (left_true (is_stmt block t) (is_stmt behind_if o) k)
      (block_reads t (left_true (is_stmt block t) (is_stmt behind_if o) k)) (else_reads o (right_true (is_stmt block t) (is_stmt behind_if o) k))
  else_reads (else_if no_statements) h = λ symbols b rest k. absurd (never h)
  else_reads (else_if (tree.then x y)) h = λ symbols b rest k. absurd (never h)
  else_reads (else_if (apply table)) h = λ symbols b rest k. absurd (never h)
  else_reads (else_if (apply_branches table bs)) h = λ symbols b rest k. absurd (never h)
  else_reads (else_if (call text)) h = λ symbols b rest k. absurd (never h)
  else_reads (else_if no_else) h = λ symbols b rest k. absurd (never h)
  else_reads (else_if (else_block t)) h = λ symbols b rest k. absurd (never h)
  else_reads (else_if (else_if t)) h = λ symbols b rest k. absurd (never h)
  else_reads (else_if no_branches) h = λ symbols b rest k. absurd (never h)
  else_reads (else_if (branch x l t)) h = λ symbols b rest k. absurd (never h)
  else_reads no_statements h = λ symbols b rest k. absurd (never h)
  else_reads (tree.then x y) h = λ symbols b rest k. absurd (never h)
  else_reads (apply table) h = λ symbols b rest k. absurd (never h)
  else_reads (apply_branches table bs) h = λ symbols b rest k. absurd (never h)
  else_reads (if_then c t o) h = λ symbols b rest k. absurd (never h)
  else_reads (call text) h = λ symbols b rest k. absurd (never h)
  else_reads no_branches h = λ symbols b rest k. absurd (never h)
  else_reads (branch x l t) h = λ symbols b rest k. absurd (never h)

  else_calls : (o : Stmt) → is_stmt behind_if o ≡ true → ElseCalls o
  else_calls no_else h = no_else_calls
  else_calls (else_block t) h = λ symbols b rest k. absurd (never k)
  else_calls (else_if (if_then c t o)) h =
      let k = right_true (is_expr 0 c) (is_stmt block t && is_stmt behind_if o) h in
      else_if_calls c t o (left_true (is_expr 0 c) (is_stmt block t && is_stmt behind_if o) h) (left_true (is_stmt block t) (is_stmt behind_if o) k)
      (block_reads t (left_true (is_stmt block t) (is_stmt behind_if o) k)) (else_calls o (right_true (is_stmt block t) (is_stmt behind_if o) k))
  else_calls (else_if no_statements) h = λ symbols b rest k. absurd (never h)
  else_calls (else_if (tree.then x y)) h = λ symbols b rest k. absurd (never h)
  else_calls (else_if (apply table)) h = λ symbols b rest k. absurd (never h)
  else_calls (else_if (apply_branches table bs)) h = λ symbols b rest k. absurd (never h)
  else_calls (else_if (call text)) h = λ symbols b rest k. absurd (never h)
  else_calls (else_if no_else) h = λ symbols b rest k. absurd (never h)
  else_calls (else_if (else_block t)) h = λ symbols b rest k. absurd (never h)
  else_calls (else_if (else_if t)) h = λ symbols b rest k. absurd (never h)
  else_calls (else_if no_branches) h = λ symbols b rest k. absurd (never h)
  else_calls (else_if (branch x l t)) h = λ symbols b rest k. absurd (never h)
  else_calls no_statements h = λ symbols b rest k. absurd (never h)
  else_calls (tree.then x y) h = λ symbols b rest k. absurd (never h)
  else_calls (apply table) h = λ symbols b rest k. absurd (never h)
  else_calls (apply_branches table bs) h = λ symbols b rest k. absurd (never h)
  else_calls (if_then c t o) h = λ symbols b rest k. absurd (never h)
  else_calls (call text) h = λ symbols b rest k. absurd (never h)
  else_calls no_branches h = λ symbols b rest k. absurd (never h)
  else_calls (branch x l t) h = λ symbols b rest k. absurd (never h)

  branches_read : (bs : Stmt) → is_stmt branches bs ≡ true → are_labels (labels_of bs) ≡ true → BranchesRead bs
  branches_read no_branches h k = λ symbols b rest. here grammar14 (branches_sym ∷ symbols) (branching no_branches [] b) rest
  branches_read (branch before l t) h k =
      let r = right_true (is_stmt branches before) (is_label l && is_stmt block t) h in
      let ht = right_true (is_label l) (is_stmt block t) r in
      let m = labels_less (labels_of before) (label_text l) k in
      branch_read before l t (left_true (is_label l) (is_stmt block t) r) m.1 ht (branches_read before (left_true (is_stmt branches before) (is_label l && is_stmt block t) h) m.0) (block_reads t ht)
  branches_read no_statements h k = λ symbols b rest. absurd (never h)
  branches_read (tree.then x y) h k = λ symbols b rest. absurd (never h)
  branches_read (apply table) h k = λ symbols b rest. absurd (never h)
  branches_read (apply_branches table bs) h k = λ symbols b rest. absurd (never h)
  branches_read (if_then c t o) h k = λ symbols b rest. absurd (never h)
  branches_read (call text) h k = λ symbols b rest. absurd (never h)
  branches_read no_else h k = λ symbols b rest. absurd (never h)
  branches_read (else_block t) h k = λ symbols b rest. absurd (never h)
  branches_read (else_if t) h k = λ symbols b rest. absurd (never h)

-- A block of statements is read up to its closing brace.
pub body_read : (t : Stmt) (symbols : List Sym) (b : Built) (rest : List Lexeme) → is_stmt block t ≡ true → Goes (stmts_sym ∷ rows.brace_close ∷ symbols) (push no_statements b) (written_stmt t ++ brace_close ∷ rest) symbols (push t b) rest
body_read t symbols b rest h = closed_block t h (block_reads t h) symbols b rest
