-- That the rows of expressions and controls have the meaning of their words.
use Rattle.std.proofs.Common.{◌≡◌, Bool, true, false, ◌&&◌, cond, List, [], ◌∷◌, ◌++◌, map, codes, refl, sym, ap, ◌∙◌, append_assoc, append-nil}
use Rattle.std.specs.List.{flat_map, list_all}
use Rattle.std.proofs.lemmas.List.Concat.{flat_map-append}
use Rattle.std.proofs.lemmas.List.Folds.{list_all-append}
use Rattle.predictive_parser.proofs.Meanings.{RowsShow, NoneShows}
use Rattle.p414_syntax.specs.declared.keyword.Keyword.TheVariants as key
use Rattle.p414_syntax.specs.declared.lexeme.Lexeme.{Lexeme}
use Rattle.p414_syntax.specs.Tree.{Stmt, no_statements, apply, apply_branches, if_then, call, no_else, else_block, else_if, no_branches}
use Rattle.p414_syntax.specs.Words.{keyword, brace_open, brace_close, paren_open, paren_close}
use Rattle.p414_syntax.specs.Written.{in_parens, in_braces, written_expr, written_stmt}
use Rattle.p414_syntax.specs.Conditions.{is_expr, is_label, are_labels, labels_of, statement, behind_if, block, branches, is_stmt}
use Rattle.p414_reader.specs.declared.symbols.Word.TheVariants as word
use Rattle.p414_reader.specs.declared.symbols.BodyWord.{BodyWord}
use Rattle.p414_reader.specs.declared.symbols.BodyWord.TheVariants as body
use Rattle.predictive_parser.specs.Values.{newest}
use Rattle.p414_reader.specs.internal.Classes.{may_follow}
use Rattle.p414_reader.specs.internal.Actions.{label_of, with_else_call}
use Rattle.p414_reader.specs.internal.Rows.{grammar14}
use Rattle.p414_reader.specs.declared.built.Built.{Built}
use Rattle.p414_reader.proofs.Meaning.{meaning14, else_call, written_branch, is_branch, branch_text, last_labels, with_stmts}
use Rattle.p414_reader.proofs.Lists.{both, extended_by_list}
use Rattle.p414_reader.proofs.Fixed.{fixed14, by_name, by_named}
use Rattle.p414_reader.proofs.Blocks.{block_of, branches_of, with_stmts_is, with_stmts_append, written_block, is_block, with_branches_is, written_branches, are_branches, labels_of_branches, label_is, labels_more}
use Rattle.p414_reader.proofs.Sound.Expressions.{expr_rows, operators_rows, operators_none, instance_rows}

-- the call of the control `else` behind an `if` statement, where one stands
abbrev else_calls : Bool → List Stmt
else_calls true = call (codes "else") ∷ []
else_calls false = []

else_calls_written : (calls : Bool) → cond calls else_call [] ≡ flat_map written_stmt (else_calls calls)
else_calls_written true = refl
else_calls_written false = refl

else_calls_stand : (calls : Bool) → list_all (is_stmt statement) (else_calls calls) ≡ true
else_calls_stand true = refl
else_calls_stand false = refl

else_calls_put : (calls : Bool) (stack : List Stmt) → with_else_call calls stack ≡ with_stmts (else_calls calls) stack
else_calls_put true stack = refl
else_calls_put false stack = refl

-- the tokens of an `if` statement behind its word, and more behind it, in the order in which they are read
if_tokens : (condition inside other more : List Lexeme) →
    paren_open ∷ (condition ++ paren_close ∷ brace_open ∷ (inside ++ brace_close ∷ (other ++ more)))
    ≡ (in_parens condition ++ (in_braces inside ++ other)) ++ more
if_tokens condition inside other more =
    ap (λ (ws : List Lexeme). paren_open ∷ ws)
    (rw (
      append_assoc (condition ++ paren_close ∷ []) (brace_open ∷ ((inside ++ brace_close ∷ []) ++ other)) more,
      append_assoc condition (paren_close ∷ []) (brace_open ∷ (((inside ++ brace_close ∷ []) ++ other) ++ more)),
      append_assoc (inside ++ brace_close ∷ []) other more,
      append_assoc inside (brace_close ∷ []) (other ++ more),
    ))

statement_rows : (b : Built) → RowsShow grammar14 fixed14 meaning14 (word.Body body.Statements) b (grammar14.rows (word.Body body.Statements))
statement_rows b = (
  λ us s f vs ss g. rw g.0 (
    s ∷ ss,
    (ap (λ (ws : List Lexeme). ws ++ flat_map written_stmt ss) f.0, both (is_stmt statement s) (list_all (is_stmt statement) ss) f.1 g.1),
    refl,
  ),
  (
    λ us ss f vs more g. rw g.0 (
      ss ++ more,
      (
        ap (λ (ws : List Lexeme). ws ++ flat_map written_stmt more) f.0 ∙ sym (flat_map-append written_stmt ss more),
        list_all-append (is_stmt statement) ss more ∙ both (list_all (is_stmt statement) ss) (list_all (is_stmt statement) more) f.1 g.1,
      ),
      rw (with_stmts_append ss more b.bodies.stmts),
    ),
    (by_name _ (λ text us ss g. rw g.0 (call text ∷ ss, (refl, g.1), refl)), tt),
  ),
)

apply_rows : (b : Built) → RowsShow grammar14 fixed14 meaning14 (word.Body body.ApplyEnd) b (grammar14.rows (word.Body body.ApplyEnd))
apply_rows b = (
  (apply (newest [] b.parts.names), (refl, refl), refl),
  (
    λ us bs f. rw f.0 (
      apply_branches (newest [] b.parts.names) (branches_of bs),
      (
        rw (written_branches bs),
        both (is_stmt branches (branches_of bs)) (are_labels (labels_of (branches_of bs))) (are_branches bs f.1) (rw (labels_of_branches bs) (f.2 refl)),
      ),
      rw (with_branches_is bs no_branches b.bodies.stmts, extended_by_list (map branch_text bs) [] b.bodies.labels),
    ),
    tt,
  ),
)

if_rows : (b : Built) → RowsShow grammar14 fixed14 meaning14 (word.Body body.AfterIf) b (grammar14.rows (word.Body body.AfterIf))
if_rows b = (
  (call (codes "if") ∷ [], (refl, refl), refl),
  (
    λ us e f vs ss g ws el h. rw (f.0, g.0, h.0) (
      if_then e (block_of ss) el.other ∷ else_calls el.calls,
      (
        rw (written_block ss, ← (else_calls_written el.calls)) (ap (λ (ws : List Lexeme). keyword key.If ∷ ws) (if_tokens (written_expr e) (flat_map written_stmt ss) (written_stmt el.other) (cond el.calls else_call []))),
        both (is_stmt statement (if_then e (block_of ss) el.other)) (list_all (is_stmt statement) (else_calls el.calls))
            (both (is_expr 0 e) (is_stmt block (block_of ss) && is_stmt behind_if el.other) (f.1 refl)
            (both (is_stmt block (block_of ss)) (is_stmt behind_if el.other) (is_block ss g.1) h.1))
            (else_calls_stand el.calls),
      ),
      rw (with_stmts_is ss no_statements b.bodies.stmts, else_calls_put el.calls),
    ),
    tt,
  ),
)

else_rows : (b : Built) → RowsShow grammar14 fixed14 meaning14 (word.Body body.AfterElse) b (grammar14.rows (word.Body body.AfterElse))
else_rows b = (
  λ us ss f. rw f.0 (
    record { other = else_block (block_of ss); calls = false },
    (rw (written_block ss, append-nil (flat_map written_stmt ss ++ brace_close ∷ [])), is_block ss f.1),
    rw (with_stmts_is ss no_statements b.bodies.stmts),
  ),
  (
    λ us e f vs ss g ws el h. rw (f.0, g.0, h.0) (
      record { other = else_if (if_then e (block_of ss) el.other); calls = el.calls },
      (
        rw (written_block ss) (ap (λ (ws : List Lexeme). keyword key.Else ∷ keyword key.If ∷ ws) (if_tokens (written_expr e) (flat_map written_stmt ss) (written_stmt el.other) (cond el.calls else_call []))),
        both (is_expr 0 e) (is_stmt block (block_of ss) && is_stmt behind_if el.other) (f.1 refl)
            (both (is_stmt block (block_of ss)) (is_stmt behind_if el.other) (is_block ss g.1) h.1),
      ),
      rw (with_stmts_is ss no_statements b.bodies.stmts),
    ),
    ((record { other = no_else; calls = true }, (refl, refl), refl), tt),
  ),
)

branch_rows : (b : Built) → RowsShow grammar14 fixed14 meaning14 (word.Body body.Branches) b (grammar14.rows (word.Body body.Branches))
branch_rows b = (
  by_named (may_follow (last_labels b)) _ (λ text ok us ss f vs bs g.
      let l = label_is text in
      rw (f.0, g.0) (
        record { label = label_of text; inside = block_of ss } ∷ bs,
        (
          rw (l.0, written_block ss, append_assoc (flat_map written_stmt ss) (brace_close ∷ []) (flat_map written_branch bs)),
          both (is_branch (record { label = label_of text; inside = block_of ss })) (list_all is_branch bs)
              (both (is_label (label_of text)) (is_stmt block (block_of ss)) l.1 (is_block ss f.1)) g.1,
          λ h. rw l.0 (labels_more text (map branch_text bs) b.bodies.labels ok g.2 h),
        ),
        rw (with_stmts_is ss no_statements b.bodies.stmts, l.0),
      )),
  tt,
)

pub rows_mean : (w : BodyWord) (built : Built) → RowsShow grammar14 fixed14 meaning14 (word.Body w) built (grammar14.rows (word.Body w))
rows_mean (body.Expr least) b = expr_rows least b
rows_mean (body.Operators least most) b = operators_rows least most b
rows_mean body.ExprInst b = instance_rows b
rows_mean body.Statements b = statement_rows b
rows_mean body.AfterApply b = ((call (codes "apply"), (refl, refl), refl), (by_name _ (λ text us s f. (s, (f.0, f.1), refl)), tt))
rows_mean body.ApplyEnd b = apply_rows b
rows_mean body.AfterIf b = if_rows b
rows_mean body.ElseOption b = (λ us el f. (el, (f.0, f.1), refl), tt)
rows_mean body.AfterElse b = else_rows b
rows_mean body.Branches b = branch_rows b

pub none_means : (w : BodyWord) (built : Built) → NoneShows grammar14 fixed14 meaning14 (word.Body w) built (grammar14.otherwise (word.Body w))
none_means (body.Expr least) b = tt
none_means (body.Operators least most) b = operators_none least most b
none_means body.ExprInst b = tt
none_means body.Statements b = ([], (refl, refl), refl)
none_means body.AfterApply b = tt
none_means body.ApplyEnd b = tt
none_means body.AfterIf b = tt
none_means body.ElseOption b = (record { other = no_else; calls = false }, (refl, refl), refl)
none_means body.AfterElse b = tt
none_means body.Branches b = ([], (refl, refl, λ h. rw (append-nil (last_labels b)) h), refl)
