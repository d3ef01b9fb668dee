-- That the rows of statements have the meaning of their words.
use Rattle.std.proofs.Common.{◌≡◌, ℕ, true, not, ◌&&◌, List, [], ◌∷◌, ◌++◌, Option, Some, None, refl, sym, ap, ap₂, subst, ◌∙◌, append_assoc, append-nil}
use Rattle.std.specs.List.{flat_map, list_all}
use Rattle.predictive_parser.proofs.Meanings.{NoneShows}
use Rattle.p416_syntax.specs.declared.keyword.Keyword16.TheVariants as key
use Rattle.p416_syntax.specs.declared.mark.Mark16.TheVariants as mark_of
use Rattle.p416_syntax.specs.declared.parts.Type16.{Type16}
use Rattle.p416_syntax.specs.declared.parts.Type16.TheVariants as kind
use Rattle.p416_syntax.specs.declared.node.CaseLabel.TheVariants as label
use Rattle.p416_syntax.specs.Tree.{Exp16, name, index, Stmt16, no_statements, block, empty, var, var_is, assign, expression, if_then, if_else, switch, no_cases}
use Rattle.p416_syntax.specs.Tokens.{Seen16, id, quoted, number, dot, colon, equals, semicolon, less, greater, lookahead_text, paren_open, paren_close, brace_open, brace_close}
use Rattle.p416_syntax.specs.Written.{written_option, written_exp, written_initial, written_var_of, written_stmt}
use Rattle.p416_syntax.specs.Conditions.{is_option, is_call, ends_in_if}
use Rattle.p416_reader.specs.declared.symbols.Word.TheVariants as word
use Rattle.p416_reader.specs.declared.symbols.BodyWord.{BodyWord}
use Rattle.p416_reader.specs.declared.symbols.BodyWord.TheVariants as body
use Rattle.p416_reader.specs.declared.symbols.BodyAction.TheVariants as act
use Rattle.p416_reader.specs.declared.built.Built.{Built}
use Rattle.p416_reader.specs.internal.Classes.{is_type_like, last_exp, is_mark, is_quoted}
use Rattle.p416_reader.specs.internal.Actions.{put_body, with_stmts}
use Rattle.p416_reader.specs.internal.Rows.{grammar16}
use Rattle.p416_reader.proofs.Forms.{is_full, is_of, Suffix, written_suffix, is_suffix, dotted, with_suffixes, Tail, done, written_tail, is_tail, with_tail, stmts_of, CasePart, written_case_part, cases_on, End, assigned, ended, NamedEnd, plain, declared}
use Rattle.p416_reader.proofs.Meaning.{meaning16, after_all, with_exp, put_suffix, put_tail, is_statement, are_statements, add_stmt, put_stmt, put_end, var_of, put_var_end, put_named_end, put_else, put_case_part, is_case_part, EndSpells, NamedEndSpells, ElseSpells}
use Rattle.p416_reader.proofs.Lists.{both, not_true, not_false}
use Rattle.p416_reader.proofs.Fixed.{fixed16, by_name, by_number, by_name_where, by_test, is_mark_only, is_quoted_only}
use Rattle.p416_reader.proofs.ExpressionLaws.{weaker, written_suffixes, suffixes_are, suffixes_built, written_tails, tails_built, call_is, open_is, Named, by_itself, indexed, named_is, written_stmts, stmts_are, stmts_built, written_cases, cases_are, cases_built}
use Rattle.p416_reader.proofs.Sound.Expressions as exps
use Rattle.p416_reader.proofs.Sound.Expressions.{Means, Rows, full_tokens, full_is, full_built}

-- blocks

block_tokens : (ss : List Stmt16) (us : List Seen16) → us ≡ flat_map written_stmt ss → brace_open ∷ (us ++ brace_close ∷ []) ≡ written_stmt (block (stmts_of ss))
block_tokens ss us f = ap (λ l. brace_open ∷ (l ++ brace_close ∷ [])) (f ∙ sym (written_stmts ss))

block_built : (ss : List Stmt16) (b : Built) → put_stmt (block (stmts_of ss)) b ≡ put_body act.Block (after_all add_stmt ss (with_stmts (no_statements ∷ b.bodies.stmts) b))
block_built ss b = ap (put_body act.Block) (sym (stmts_built ss b.bodies.is_open b.bodies.exps b.bodies.stmts b))

-- variables

var_written : (of : Type16) (text : List ℕ) (i : Option Exp16) → written_stmt (var_of of text i) ≡ written_var_of of text i
var_written of text None = refl
var_written of text (Some value) = refl

var_stands : (of : Type16) (text : List ℕ) (i : Option Exp16) → is_option is_full i ≡ true → is_statement (var_of of text i) ≡ true
var_stands of text None h = refl
var_stands of text (Some value) h = h

var_built : (of : Type16) (text : List ℕ) (i : Option Exp16) (b : Built) → put_stmt (var_of of text i) b ≡ put_var_end i (record b { parts = record b.parts { names = text ∷ b.parts.names; types = of ∷ b.parts.types } })
var_built of text None b = refl
var_built of text (Some value) b = refl

-- statements that begin with an expression

ends_plain : (e : Exp16) (end : End) (us : List Seen16) (b : Built) → is_full e ≡ true → EndSpells end (with_exp e b) us → Means body.Stmt b (written_exp e ++ us) (put_end end (with_exp e b))
ends_plain e (assigned value) us b h k = (assign e value, (ap (λ l. written_exp e ++ l) k.0, both (is_full e) (is_full value) h k.1), refl)
ends_plain e ended us b h k = (expression e, (ap (λ l. written_exp e ++ l) k.0, both (is_full e) (is_call e) h (sym (call_is e) ∙ k.1)), refl)

-- the same of a name, which may be a type
ends_declared : (text : List ℕ) (e : Exp16) → Named text e → (name_of : List ℕ) (i : Option Exp16) (us : List Seen16) (b : Built) → us ≡ id name_of ∷ (written_option written_initial i ++ semicolon ∷ []) → is_option is_full i ≡ true
    → Means body.Stmt b (written_exp e ++ us) (put_named_end (declared name_of i) (with_exp e b))
ends_declared text e by_itself name_of None us b f h = (var (kind.Named text None) name_of, (ap (λ l. id text ∷ l) f, refl), refl)
ends_declared text e by_itself name_of (Some value) us b f h = (var_is (kind.Named text None) name_of value, (ap (λ l. id text ∷ l) f, h), refl)
ends_declared text e (indexed n) name_of None us b f h = (var (kind.Named text (Some n)) name_of, (ap (λ l. written_exp (index (name text) n) ++ l) f, refl), refl)
ends_declared text e (indexed n) name_of (Some value) us b f h = (var_is (kind.Named text (Some n)) name_of value, (ap (λ l. written_exp (index (name text) n) ++ l) f, h), refl)

ends_named : (text : List ℕ) (ss : List Suffix) (t : Tail) (end : NamedEnd) (us : List Seen16) (b : Built) → is_full (with_tail (with_suffixes (name text) ss) t) ≡ true
    → NamedEndSpells end (with_exp (with_tail (with_suffixes (name text) ss) t) b) us
    → Means body.Stmt b (written_exp (with_tail (with_suffixes (name text) ss) t) ++ us) (put_named_end end (with_exp (with_tail (with_suffixes (name text) ss) t) b))
ends_named text ss t (plain end) us b h k = ends_plain (with_tail (with_suffixes (name text) ss) t) end us b h k
ends_named text ss t (declared name_of i) us b h k =
    ends_declared text (with_tail (with_suffixes (name text) ss) t) (named_is text ss t k.2) name_of i us b k.0 k.1

-- the same meaning of equal tokens and what is built
means_same : (w : BodyWord) (b end other : Built) (us vs : List Seen16) → us ≡ vs → end ≡ other → Means w b vs other → Means w b us end
means_same w b end other us vs e f m = subst (λ ts. Means w b ts end) (sym e) (subst (λ c. Means w b vs c) (sym f) m)

named_built : (text : List ℕ) (ss : List Suffix) (t : Tail) (b : Built) → with_exp (with_tail (with_suffixes (name text) ss) t) b ≡ put_tail t (after_all put_suffix ss (with_exp (name text) b))
named_built text ss t b = tails_built (with_suffixes (name text) ss) t b.bodies.exps b ∙ ap (put_tail t) (suffixes_built (name text) ss b.bodies.exps b)

named_tokens : (text : List ℕ) (ss : List Suffix) (t : Tail) (us vs ws : List Seen16) → us ≡ flat_map written_suffix ss → vs ≡ written_tail t → id text ∷ (us ++ (vs ++ ws)) ≡ written_exp (with_tail (with_suffixes (name text) ss) t) ++ ws
named_tokens text ss t us vs ws f g =
    ap (λ l. id text ∷ l) (sym (append_assoc us vs ws))
    ∙ ap (λ l. l ++ ws) (ap₂ (λ l m. id text ∷ (l ++ m)) f g ∙ ap (λ l. l ++ written_tail t) (sym (written_suffixes (name text) ss)) ∙ sym (written_tails (with_suffixes (name text) ss) t))

named_stmt : (text : List ℕ) (ss : List Suffix) (t : Tail) (end : NamedEnd) (us vs ws : List Seen16) (b : Built) → ((us ≡ flat_map written_suffix ss) × (list_all is_suffix ss ≡ true)) → ((vs ≡ written_tail t) × (is_tail 0 11 t ≡ true))
    → NamedEndSpells end (put_tail t (after_all put_suffix ss (with_exp (name text) b))) ws
    → Means body.Stmt b (id text ∷ (us ++ (vs ++ ws))) (put_named_end end (put_tail t (after_all put_suffix ss (with_exp (name text) b))))
named_stmt text ss t end us vs ws b h k m =
    let e = with_tail (with_suffixes (name text) ss) t in
    let built = named_built text ss t b in
    let full = full_is (with_suffixes (name text) ss) t (weaker 11 12 (with_suffixes (name text) ss) refl (suffixes_are (name text) ss refl h.1)) k.1 in
    means_same body.Stmt b (put_named_end end (put_tail t (after_all put_suffix ss (with_exp (name text) b)))) (put_named_end end (with_exp e b)) (id text ∷ (us ++ (vs ++ ws))) (written_exp e ++ ws)
    (named_tokens text ss t us vs ws h.0 k.0) (ap (put_named_end end) (sym built))
    (ends_named text ss t end ws b full (subst (λ c. NamedEndSpells end c ws) (sym built) m))

-- `if`

if_tokens : (c : Exp16) (us vs ws : List Seen16) → us ≡ written_exp c → paren_open ∷ (us ++ paren_close ∷ (vs ++ ws)) ≡ (paren_open ∷ (written_exp c ++ paren_close ∷ [])) ++ (vs ++ ws)
if_tokens c us vs ws f = ap (λ l. paren_open ∷ l) (ap (λ l. l ++ paren_close ∷ (vs ++ ws)) f ∙ sym (append_assoc (written_exp c) (paren_close ∷ []) (vs ++ ws)))

if_stmt : (c : Exp16) (s : Stmt16) (other : Option Stmt16) (us vs ws : List Seen16) (b : Built) → ((us ≡ written_exp c) × (is_full c ≡ true)) → ((vs ≡ written_stmt s) × (is_statement s ≡ true)) → ElseSpells other (put_stmt s (with_exp c b)) ws
    → Means body.Stmt b (quoted key.If ∷ paren_open ∷ (us ++ paren_close ∷ (vs ++ ws))) (put_else other (put_stmt s (with_exp c b)))
if_stmt c s None us vs ws b h k m = (
  if_then c s,
  (
    ap (λ l. quoted key.If ∷ l) (if_tokens c us vs ws h.0 ∙ ap₂ (λ l r. (paren_open ∷ (written_exp c ++ paren_close ∷ [])) ++ (l ++ r)) k.0 m ∙ ap (λ l. (paren_open ∷ (written_exp c ++ paren_close ∷ [])) ++ l) (append-nil (written_stmt s))),
    both (is_full c) (is_statement s) h.1 k.1,
  ),
  refl,
)
if_stmt c s (Some t) us vs ws b h k m = (
  if_else c s t,
  (
    ap (λ l. quoted key.If ∷ l) (if_tokens c us vs ws h.0 ∙ ap₂ (λ l r. (paren_open ∷ (written_exp c ++ paren_close ∷ [])) ++ (l ++ r)) k.0 m.0),
    both (is_full c) ((is_statement s && not (ends_in_if s)) && is_statement t) h.1
        (both (is_statement s && not (ends_in_if s)) (is_statement t) (both (is_statement s) (not (ends_in_if s)) k.1 (not_false (ends_in_if s) (sym (open_is s) ∙ m.2))) m.1),
  ),
  refl,
)

-- a call, or another statement, read as any
plain_of : (b : Built) (us : List Seen16) (end : Built) → Means body.Stmt b us end → Means body.PlainStmt b us end
plain_of b us end m = (m.0, (m.1.0, m.1.1), m.2)

switch_tokens : (table : List ℕ) (cs : List CasePart) (us : List Seen16) → us ≡ flat_map written_case_part cs
    → quoted key.Switch ∷ paren_open ∷ id table ∷ dot ∷ quoted key.Apply ∷ paren_open ∷ paren_close ∷ dot ∷ quoted key.ActionRun ∷ paren_close ∷ brace_open ∷ (us ++ brace_close ∷ []) ≡ written_stmt (switch table (cases_on no_cases cs))
switch_tokens table cs us f =
    ap (λ l. quoted key.Switch ∷ paren_open ∷ id table ∷ dot ∷ quoted key.Apply ∷ paren_open ∷ paren_close ∷ dot ∷ quoted key.ActionRun ∷ paren_close ∷ brace_open ∷ (l ++ brace_close ∷ []))
    (f ∙ sym (written_cases no_cases cs))

pub plain_rows : (b : Built) → Rows body.PlainStmt b
plain_rows b = (
  λ us ss h. (block (stmts_of ss), (block_tokens ss us h.0, stmts_are ss h.1), block_built ss b),
  (
    (empty, (refl, refl), refl),
    (
      by_number _ (λ n. by_name _ (λ text us i h. (
        var_of (kind.Bit n) text i,
        (ap (λ l. quoted key.Bit ∷ less ∷ number n ∷ greater ∷ id text ∷ l) h.0 ∙ sym (var_written (kind.Bit n) text i), var_stands (kind.Bit n) text i h.1),
        var_built (kind.Bit n) text i b,
      ))),
      (
        by_name _ (λ text us i h. (
          var_of kind.Bool text i,
          (ap (λ l. quoted key.Bool ∷ id text ∷ l) h.0 ∙ sym (var_written kind.Bool text i), var_stands kind.Bool text i h.1),
          var_built kind.Bool text i b,
        )),
        (
          by_name _ (λ text us ss h vs t k ws end m. plain_of b _ _ (named_stmt text ss t end us vs ws b h k m)),
          (
            λ us c h vs s k ws other m. plain_of b _ _ (if_stmt c s other us vs ws b h k m),
            (
              by_name _ (λ table us cs h. (
                switch table (cases_on no_cases cs),
                (switch_tokens table cs us h.0, cases_are no_cases cs refl h.1),
                ap (put_body act.Switch) (sym (cases_built cs no_cases b.bodies.exps b.bodies.stmts (record b { parts = record b.parts { names = table ∷ b.parts.names } }))),
              )),
              tt,
            ),
          ),
        ),
      ),
    ),
  ),
)

-- an operand, operators and an end
exp_stmt : (e : Exp16) (t : Tail) (end : End) (us vs ws : List Seen16) (b : Built) → ((us ≡ written_exp e) × (is_of 11 e ≡ true)) → ((vs ≡ written_tail t) × (is_tail 0 11 t ≡ true)) → EndSpells end (put_tail t (with_exp e b)) ws
    → Means body.Stmt b (us ++ (vs ++ ws)) (put_end end (put_tail t (with_exp e b)))
exp_stmt e t end us vs ws b h k m =
    let built = full_built e t b in
    means_same body.Stmt b (put_end end (put_tail t (with_exp e b))) (put_end end (with_exp (with_tail e t) b)) (us ++ (vs ++ ws)) (written_exp (with_tail e t) ++ ws)
    (sym (append_assoc us vs ws) ∙ ap (λ l. l ++ ws) (full_tokens e t us vs h.0 k.0)) (ap (put_end end) (sym built))
    (ends_plain (with_tail e t) end ws b (full_is e t h.1 k.1) (subst (λ c. EndSpells end c ws) (sym built) m))

pub stmt_rows : (b : Built) → Rows body.Stmt b
stmt_rows b = (λ us s h. (s, (h.0, h.1), refl), (λ us e h vs t k ws end m. exp_stmt e t end us vs ws b h k m, tt))

-- a statement with more behind it
add_first : (b : Built) (us : List Seen16) (next : Built) (m : Means body.Stmt b us next) (ss : List Stmt16) (vs : List Seen16) → ((vs ≡ flat_map written_stmt ss) × (are_statements ss ≡ true))
    → Means body.Stmts b (us ++ vs) (after_all add_stmt ss (put_body act.Then next))
add_first b us next m ss vs h = (
  m.0 ∷ ss,
  (ap₂ ◌++◌ m.1.0 h.0, both (is_statement m.0) (are_statements ss) m.1.1 h.1),
  ap (λ c. after_all add_stmt ss (put_body act.Then c)) m.2,
)

pub stmts_rows : (b : Built) → Rows body.Stmts b
stmts_rows b = (
  λ us s h vs ss k. add_first b us (put_stmt s b) (s, (h.0, h.1), refl) ss vs k,
  (
    λ us e h vs t k ws end m xs ss l.
        means_same body.Stmts b (after_all add_stmt ss (put_body act.Then (put_end end (put_tail t (with_exp e b))))) (after_all add_stmt ss (put_body act.Then (put_end end (put_tail t (with_exp e b))))) (us ++ (vs ++ (ws ++ xs))) ((us ++ (vs ++ ws)) ++ xs)
        (sym (append_assoc us (vs ++ ws) xs ∙ ap (λ r. us ++ r) (append_assoc vs ws xs))) refl
        (add_first b (us ++ (vs ++ ws)) (put_end end (put_tail t (with_exp e b))) (exp_stmt e t end us vs ws b h k m) ss xs l),
    tt,
  ),
)

-- ends

end_rows : (b : Built) → Rows body.StmtEnd b
end_rows b = (
  λ us e h. (assigned e, (ap (λ l. equals ∷ (l ++ semicolon ∷ [])) h.0, h.1), refl),
  (by_test semicolon (is_mark mark_of.Semicolon) (is_call (last_exp b)) _ (is_mark_only mark_of.Semicolon) (λ called. (ended, (refl, called), refl)), tt),
)

named_end_rows : (b : Built) → Rows body.NamedEnd b
named_end_rows b = (
  by_name_where (is_type_like (last_exp b)) _ (λ text like us i h. (declared text i, (ap (λ l. id text ∷ l) h.0, h.1, like), refl)),
  (
    λ us e h. (plain (assigned e), (ap (λ l. equals ∷ (l ++ semicolon ∷ [])) h.0, h.1), refl),
    (by_test semicolon (is_mark mark_of.Semicolon) (is_call (last_exp b)) _ (is_mark_only mark_of.Semicolon) (λ called. (plain ended, (refl, called), refl)), tt),
  ),
)

var_end_rows : (b : Built) → Rows body.VarEnd b
var_end_rows b = (λ us e h. (Some e, (ap (λ l. equals ∷ (l ++ semicolon ∷ [])) h.0, h.1), refl), ((None, (refl, refl), refl), tt))

else_rows : (b : Built) → Rows body.ElseOption b
else_rows b = (
  by_test (quoted key.Else) (is_quoted key.Else) (not b.bodies.is_open) _ (is_quoted_only key.Else) (λ closed us s h. (
    Some s,
    (ap (λ l. quoted key.Else ∷ l) h.0, h.1, not_true b.bodies.is_open closed),
    refl,
  )),
  tt,
)

case_tokens : (ss : List Stmt16) (us vs : List Seen16) (cs : List CasePart) (front : List Seen16) → us ≡ flat_map written_stmt ss → vs ≡ flat_map written_case_part cs → front ++ colon ∷ brace_open ∷ (us ++ brace_close ∷ vs) ≡ (front ++ colon ∷ brace_open ∷ (flat_map written_stmt ss ++ brace_close ∷ [])) ++ flat_map written_case_part cs
case_tokens ss us vs cs front f g =
    ap₂ (λ l m. front ++ colon ∷ brace_open ∷ (l ++ brace_close ∷ m)) f g
    ∙ ap (λ l. front ++ colon ∷ brace_open ∷ l) (sym (append_assoc (flat_map written_stmt ss) (brace_close ∷ []) (flat_map written_case_part cs)))
    ∙ sym (append_assoc front (colon ∷ brace_open ∷ (flat_map written_stmt ss ++ brace_close ∷ [])) (flat_map written_case_part cs))

cases_rows : (b : Built) → Rows body.Cases b
cases_rows b = (
  by_name _ (λ text us ss h vs cs k. (
    record { label = label.Action text; inside = ss } ∷ cs,
    (case_tokens ss us vs cs (id text ∷ []) h.0 k.0, both (are_statements ss) (list_all is_case_part cs) h.1 k.1),
    ap (λ c. after_all put_case_part cs (put_body act.CaseAction c)) (sym (stmts_built ss b.bodies.is_open b.bodies.exps b.bodies.stmts (record b { parts = record b.parts { names = text ∷ b.parts.names } }))),
  )),
  (
    λ us ss h vs cs k. (
      record { label = label.Default; inside = ss } ∷ cs,
      (case_tokens ss us vs cs (quoted key.Default ∷ []) h.0 k.0, both (are_statements ss) (list_all is_case_part cs) h.1 k.1),
      ap (λ c. after_all put_case_part cs (put_body act.CaseDefault c)) (sym (stmts_built ss b.bodies.is_open b.bodies.exps b.bodies.stmts b)),
    ),
    tt,
  ),
)

-- all of them

pub rows_mean : (w : BodyWord) (b : Built) → Rows w b
rows_mean body.Exp b = exps.exp_rows b
rows_mean body.Operand b = exps.operand_rows b
rows_mean body.PlainOperand b = exps.plain_operand_rows b
rows_mean body.AfterParen b = exps.paren_rows b
rows_mean body.SomePostfix b = exps.some_postfix_rows b
rows_mean body.Postfix b = exps.postfix_rows b
rows_mean body.AfterDot b = exps.dot_rows b
rows_mean body.AfterLookahead b = exps.lookahead_rows b
rows_mean body.AfterNumber b = exps.number_rows b
rows_mean body.Args b = exps.args_rows b
rows_mean body.Arg b = exps.arg_rows b
rows_mean body.MoreArgs b = exps.more_args_rows b
rows_mean body.Items b = exps.items_rows b
rows_mean body.MoreItems b = exps.more_items_rows b
rows_mean (body.Operators least most) b = exps.operators_rows least most b
rows_mean body.SomeOperators b = exps.some_operators_rows b
rows_mean body.PlainStmt b = plain_rows b
rows_mean body.Stmt b = stmt_rows b
rows_mean body.Stmts b = stmts_rows b
rows_mean body.StmtEnd b = end_rows b
rows_mean body.NamedEnd b = named_end_rows b
rows_mean body.VarEnd b = var_end_rows b
rows_mean body.ElseOption b = else_rows b
rows_mean body.Cases b = cases_rows b

pub none_means : (w : BodyWord) (b : Built) → NoneShows grammar16 fixed16 meaning16 (word.Body w) b (grammar16.otherwise (word.Body w))
none_means body.Exp b = tt
none_means body.Operand b = tt
none_means body.PlainOperand b = tt
none_means body.AfterParen b = tt
none_means body.SomePostfix b = tt
none_means body.Postfix b = ([], (refl, refl), refl)
none_means body.AfterDot b = tt
none_means body.AfterLookahead b = (dotted lookahead_text, (refl, refl), refl)
none_means body.AfterNumber b = tt
none_means body.Args b = ([], (refl, refl), refl)
none_means body.Arg b = tt
none_means body.MoreArgs b = ([], (refl, refl), refl)
none_means body.Items b = ([], (refl, refl), refl)
none_means body.MoreItems b = ([], (refl, refl), refl)
none_means (body.Operators least most) b = (done, (refl, refl), refl)
none_means body.SomeOperators b = tt
none_means body.PlainStmt b = tt
none_means body.Stmt b = tt
none_means body.Stmts b = ([], (refl, refl), refl)
none_means body.StmtEnd b = tt
none_means body.NamedEnd b = tt
none_means body.VarEnd b = tt
none_means body.ElseOption b = (None, refl, refl)
none_means body.Cases b = ([], (refl, refl), refl)
