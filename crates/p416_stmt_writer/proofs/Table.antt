-- What the table of layouts says of each statement: its words, that they can be written, and that the work falls.
use Rattle.std.proofs.Common.{◌≡◌, ℕ, ◌<◌, Bool, true, List, [], ◌∷◌, ◌++◌, refl, sym, ap, ◌∙◌, arith, append_assoc, append-nil}
use Rattle.std.specs.Prelude.{◌&&◌}
use Rattle.std.proofs.lemmas.List.{map-append}
use Rattle.std.proofs.lemmas.List.Folds.{list_all-append}
use Rattle.std.proofs.lemmas.Bool.{and_from, and_parts}
use Rattle.p416_syntax.specs.declared.keyword.Keyword16.TheVariants as key
use Rattle.p416_syntax.specs.SpeltLexemes.{is_identifier16}
use Rattle.p416_syntax.specs.declared.views.StmtHead.{StmtHead}
use Rattle.p416_syntax.specs.declared.views.StmtHead.TheVariants as head
use Rattle.p416_syntax.specs.Heads.{of_head}
use Rattle.p416_syntax.specs.Tokens.{Seen16, id, quoted, semicolon, equals, paren_open, paren_close, brace_open, brace_close, colon, dot, in_parens, in_braces, is_spelt_seen}
use Rattle.p416_syntax.specs.Written.{written_exp, written_type, written_stmt, written_label, written_run}
use Rattle.p416_parentheses.specs.Expressions.{within, full}
use Rattle.p416_parentheses.specs.Syntax.{full_stmt}
use Rattle.p416_spelling.specs.Words.{word16, words16}
use Rattle.p416_exp_writer.specs.Spelt.{is_spelt_exp}
use Rattle.p416_stmt_writer.specs.Layouts.{all_said, are_spelt, are_spelt_steps, stmt_weight, all_weight, layout}

both : (xs ys : List Seen16) → words16 xs ++ words16 ys ≡ words16 (xs ++ ys)
both xs ys = sym (map-append word16 xs ys)

-- the words of each layout
pub layout_said : (h : StmtHead) → all_said (layout h) ≡ words16 (written_stmt (full_stmt (of_head h)))
layout_said head.NoStatements = refl
layout_said (head.Then before last) =
    ap (λ ws. words16 (written_stmt (full_stmt before)) ++ ws) (append-nil (words16 (written_stmt (full_stmt last)))) ∙ both (written_stmt (full_stmt before)) (written_stmt (full_stmt last))
layout_said (head.Block ss) = ap (λ ws. word16 brace_open ∷ ws) (both (written_stmt (full_stmt ss)) (brace_close ∷ []))
layout_said head.Empty = refl
layout_said (head.Var of called) = both (written_type of.now) (id called.now ∷ semicolon ∷ [])
layout_said (head.VarIs of called e) =
    ap (λ ws. words16 (written_type of.now) ++ word16 (id called.now) ∷ word16 equals ∷ ws) (both (written_exp (full e)) (semicolon ∷ []))
    ∙ both (written_type of.now) (id called.now ∷ equals ∷ (written_exp (full e) ++ semicolon ∷ []))
layout_said (head.Assign e f) =
    ap (λ ws. words16 (written_exp (full e)) ++ word16 equals ∷ ws) (both (written_exp (full f)) (semicolon ∷ []))
    ∙ both (written_exp (full e)) (equals ∷ (written_exp (full f) ++ semicolon ∷ []))
layout_said (head.Expression e) = both (written_exp (full e)) (semicolon ∷ [])
layout_said (head.If e a) =
    ap (λ ws. word16 (quoted key.If) ∷ word16 paren_open ∷ (words16 (written_exp (within e)) ++ word16 paren_close ∷ ws)) (append-nil (words16 (written_stmt (full_stmt a))))
    ∙ ap (λ ws. word16 (quoted key.If) ∷ word16 paren_open ∷ ws) (both (written_exp (within e)) (paren_close ∷ written_stmt (full_stmt a))
    ∙ ap words16 (sym (append_assoc (written_exp (within e)) (paren_close ∷ []) (written_stmt (full_stmt a)))))
layout_said (head.IfElse e a b) =
    let behind = written_stmt (full_stmt a) ++ quoted key.Else ∷ written_stmt (full_stmt b) in
    ap (λ ws. word16 (quoted key.If) ∷ word16 paren_open ∷ (words16 (written_exp (within e)) ++ word16 paren_close ∷ (words16 (written_stmt (full_stmt a)) ++ word16 (quoted key.Else) ∷ ws))) (append-nil (words16 (written_stmt (full_stmt b))))
    ∙ ap (λ ws. word16 (quoted key.If) ∷ word16 paren_open ∷ (words16 (written_exp (within e)) ++ word16 paren_close ∷ ws)) (both (written_stmt (full_stmt a)) (quoted key.Else ∷ written_stmt (full_stmt b)))
    ∙ ap (λ ws. word16 (quoted key.If) ∷ word16 paren_open ∷ ws) (both (written_exp (within e)) (paren_close ∷ behind) ∙ ap words16 (sym (append_assoc (written_exp (within e)) (paren_close ∷ []) behind)))
layout_said (head.Switch table cs) =
    let before = in_parens (written_run table.now) in
    ap (λ ws. word16 (quoted key.Switch) ∷ (words16 (before ++ brace_open ∷ []) ++ ws)) (both (written_stmt (full_stmt cs)) (brace_close ∷ []))
    ∙ ap (λ ws. word16 (quoted key.Switch) ∷ ws) (both (before ++ brace_open ∷ []) (written_stmt (full_stmt cs) ++ brace_close ∷ []) ∙ ap words16 (append_assoc before (brace_open ∷ []) (written_stmt (full_stmt cs) ++ brace_close ∷ [])))
layout_said head.NoCases = refl
layout_said (head.Case before of ss) =
    let label = written_label of.now in
    let inside = written_stmt (full_stmt ss) ++ brace_close ∷ [] in
    ap (λ ws. words16 (written_stmt (full_stmt before)) ++ (words16 (label ++ colon ∷ brace_open ∷ []) ++ ws)) (both (written_stmt (full_stmt ss)) (brace_close ∷ []))
    ∙ ap (λ ws. words16 (written_stmt (full_stmt before)) ++ ws) (both (label ++ colon ∷ brace_open ∷ []) inside ∙ ap words16 (append_assoc label (colon ∷ brace_open ∷ []) inside))
    ∙ both (written_stmt (full_stmt before)) (label ++ colon ∷ brace_open ∷ inside)

-- each part can be written
record IsSpeltTwo (xs ys : List Seen16) : Type 0 where
  pub first : are_spelt xs ≡ true
  pub second : are_spelt ys ≡ true

two : (xs ys : List Seen16) → are_spelt (xs ++ ys) ≡ true → IsSpeltTwo xs ys
two xs ys h = let parts = and_parts (are_spelt xs) (are_spelt ys) (sym (list_all-append is_spelt_seen xs ys) ∙ h) in record { first = parts.0; second = parts.1 }

head_tail : (x : Seen16) (xs : List Seen16) → are_spelt (x ∷ xs) ≡ true → (is_spelt_seen x ≡ true) × (are_spelt xs ≡ true)
head_tail x xs h = and_parts (is_spelt_seen x) (are_spelt xs) h

and_true : (a : Bool) → a ≡ true → (a && true) ≡ true
and_true a h = and_from a true h refl

name_spelt : (text : List ℕ) → is_spelt_seen (id text) ≡ true → is_identifier16 text ≡ true
name_spelt text h = (and_parts (is_identifier16 text) _ h).0

pub layout_spelt : (h : StmtHead) → are_spelt (written_stmt (of_head h)) ≡ true → are_spelt_steps (layout h) ≡ true
layout_spelt head.NoStatements s = refl
layout_spelt (head.Then before last) s =
    let parts = two (written_stmt before) (written_stmt last) s in
    and_from (are_spelt (written_stmt before)) (are_spelt (written_stmt last) && true) parts.first (and_true (are_spelt (written_stmt last)) parts.second)
layout_spelt (head.Block ss) s = and_true (are_spelt (written_stmt ss)) (two (written_stmt ss) (brace_close ∷ []) s).first
layout_spelt head.Empty s = refl
layout_spelt (head.Var of called) s =
    let parts = two (written_type of.now) (id called.now ∷ semicolon ∷ []) s in
    and_from (are_spelt (written_type of.now)) (is_identifier16 called.now && true) parts.first (and_true (is_identifier16 called.now) (name_spelt called.now (head_tail (id called.now) (semicolon ∷ []) parts.second).0))
layout_spelt (head.VarIs of called e) s =
    let parts = two (written_type of.now) (id called.now ∷ equals ∷ (written_exp e ++ semicolon ∷ [])) s in
    let more = head_tail (id called.now) (equals ∷ (written_exp e ++ semicolon ∷ [])) parts.second in
    and_from (are_spelt (written_type of.now)) (is_identifier16 called.now && (is_spelt_exp e && true)) parts.first
    (and_from (is_identifier16 called.now) (is_spelt_exp e && true) (name_spelt called.now more.0) (and_true (is_spelt_exp e) (two (written_exp e) (semicolon ∷ []) more.1).first))
layout_spelt (head.Assign e f) s =
    let parts = two (written_exp e) (equals ∷ (written_exp f ++ semicolon ∷ [])) s in
    and_from (is_spelt_exp e) (is_spelt_exp f && true) parts.first (and_true (is_spelt_exp f) (two (written_exp f) (semicolon ∷ []) parts.second).first)
layout_spelt (head.Expression e) s = and_true (is_spelt_exp e) (two (written_exp e) (semicolon ∷ []) s).first
layout_spelt (head.If e a) s =
    let parts = two (in_parens (written_exp e)) (written_stmt a) s in
    and_from (is_spelt_exp e) (are_spelt (written_stmt a) && true) (two (written_exp e) (paren_close ∷ []) parts.first).first (and_true (are_spelt (written_stmt a)) parts.second)
layout_spelt (head.IfElse e a b) s =
    let parts = two (in_parens (written_exp e)) (written_stmt a ++ quoted key.Else ∷ written_stmt b) s in
    let more = two (written_stmt a) (quoted key.Else ∷ written_stmt b) parts.second in
    and_from (is_spelt_exp e) (are_spelt (written_stmt a) && (are_spelt (written_stmt b) && true)) (two (written_exp e) (paren_close ∷ []) parts.first).first
    (and_from (are_spelt (written_stmt a)) (are_spelt (written_stmt b) && true) more.first (and_true (are_spelt (written_stmt b)) more.second))
layout_spelt (head.Switch table cs) s =
    let parts = two (in_parens (written_run table.now)) (in_braces (written_stmt cs)) s in
    and_from (is_spelt_seen (id table.now)) (are_spelt (written_stmt cs) && true) (head_tail (id table.now) (dot ∷ quoted key.Apply ∷ paren_open ∷ paren_close ∷ dot ∷ quoted key.ActionRun ∷ paren_close ∷ []) parts.first).0 (and_true (are_spelt (written_stmt cs)) (two (written_stmt cs) (brace_close ∷ []) parts.second).first)
layout_spelt head.NoCases s = refl
layout_spelt (head.Case before of ss) s =
    let parts = two (written_stmt before) (written_label of.now ++ colon ∷ in_braces (written_stmt ss)) s in
    let more = two (written_label of.now) (colon ∷ in_braces (written_stmt ss)) parts.second in
    and_from (are_spelt (written_stmt before)) (are_spelt (written_label of.now) && (are_spelt (written_stmt ss) && true)) parts.first
    (and_from (are_spelt (written_label of.now)) (are_spelt (written_stmt ss) && true) more.first (and_true (are_spelt (written_stmt ss)) (two (written_stmt ss) (brace_close ∷ []) more.second).first))

-- the work falls
pub layout_lighter : (h : StmtHead) → all_weight (layout h) < stmt_weight (of_head h)
layout_lighter head.NoStatements = omega arith
layout_lighter (head.Then before last) = omega arith
layout_lighter (head.Block ss) = omega arith
layout_lighter head.Empty = omega arith
layout_lighter (head.Var of called) = omega arith
layout_lighter (head.VarIs of called e) = omega arith
layout_lighter (head.Assign e f) = omega arith
layout_lighter (head.Expression e) = omega arith
layout_lighter (head.If e a) = omega arith
layout_lighter (head.IfElse e a b) = omega arith
layout_lighter (head.Switch table cs) = omega arith
layout_lighter head.NoCases = omega arith
layout_lighter (head.Case before of ss) = omega arith
