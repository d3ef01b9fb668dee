-- Laws of expressions and statements that are put together from what stands behind one another.
use Rattle.std.proofs.Common.{◌≡◌, ℕ, suc, Bool, true, false, ◌&&◌, nat_eq, nat_le, List, [], ◌∷◌, ◌++◌, map, refl, sym, ap, subst, ◌∙◌, append_assoc, append-nil, le_trans, le_refl, leb-true, le-leb}
use Rattle.std.proofs.lemmas.Bool.{eqb-true}
use Rattle.std.specs.List.{flat_map, list_all}
use Rattle.p416_syntax.specs.declared.lexeme.Literal16.{Literal16}
use Rattle.p416_syntax.specs.Tree.{Exp16, literal, truth, error, name, member, index, slice, call, lookahead, cast, unary, binary, choice, parenthesized, no_arguments, argument, listed, Stmt16, no_statements, then, block, empty, var, var_is, assign, expression, if_then, if_else, switch, no_cases, case_of}
use Rattle.p416_syntax.specs.Tokens.{comma, colon, in_braces}
use Rattle.p416_syntax.specs.Operators.{binary_tokens, binary_power}
use Rattle.p416_syntax.specs.Written.{after_commas, by_commas, written_exp, written_stmt, written_label}
use Rattle.p416_syntax.specs.Parentheses.{bare_exp, bare_stmt}
use Rattle.p416_syntax.specs.Conditions.{with_parentheses, is_exp_at, one, many, is_call, is_stmt, statements, cases, ends_in_if}
use Rattle.p416_reader.specs.declared.built.Built.{Built}
use Rattle.p416_reader.specs.internal.Classes.{is_plain_name, is_type_like}
use Rattle.p416_reader.specs.internal.Actions.{with_exps, with_stmt}
use Rattle.p416_reader.proofs.Forms.{is_full, is_of, arguments_on, arguments_of, Suffix, dotted, at, cut, called, looked, written_suffix, is_suffix, with_suffix, with_suffixes, bare_suffix, Tail, done, by, chosen, written_tail, is_tail, with_tail, bare_tail, stmts_on, stmts_of, CasePart, written_case_part, cases_on}
use Rattle.p416_reader.proofs.Meaning.{after_all, put_suffix, put_argument, put_tail, is_statement, are_statements, add_stmt, is_case_part, put_case_part}
use Rattle.p416_reader.proofs.Lists.{both, left_true, right_true}

-- how tightly operators bind

within_trans : (p q r : ℕ) → nat_le p q ≡ true → nat_le q r ≡ true → nat_le p r ≡ true
within_trans p q r e f = le-leb p r (le_trans (leb-true p q e) (leb-true q r f))

pub within_same : (p : ℕ) → nat_le p p ≡ true
within_same p = le-leb p p (le_refl p)

-- an expression whose operators bind tightly may stand where they have to bind less tightly
pub weaker : (p q : ℕ) (e : Exp16) → nat_le p q ≡ true → is_of q e ≡ true → is_of p e ≡ true
weaker p q (literal n) h k = k
weaker p q (truth value) h k = k
weaker p q error h k = k
weaker p q (name text) h k = k
weaker p q (member e text) h k = k
weaker p q (index e n) h k = k
weaker p q (slice e high low) h k = k
weaker p q (call e xs) h k = k
weaker p q (lookahead e of xs) h k = k
weaker p q (cast to e) h k = both (nat_le p 11) (is_of 11 e) (within_trans p q 11 h (left_true (nat_le q 11) (is_of 11 e) k)) (right_true (nat_le q 11) (is_of 11 e) k)
weaker p q (unary operator e) h k = both (nat_le p 11) (is_of 11 e) (within_trans p q 11 h (left_true (nat_le q 11) (is_of 11 e) k)) (right_true (nat_le q 11) (is_of 11 e) k)
weaker p q (binary operator x y) h k =
    let n = binary_power operator in
    let sides = is_of n x && is_of (suc n) y in
    both (nat_le p n) sides (within_trans p q n h (left_true (nat_le q n) sides k)) (right_true (nat_le q n) sides k)
weaker p q (choice x y z) h k =
    let sides = is_of 1 x && (is_of 0 y && is_of 0 z) in
    both (nat_le p 0) sides (within_trans p q 0 h (left_true (nat_le q 0) sides k)) (right_true (nat_le q 0) sides k)
weaker p q (parenthesized e) h k = k
weaker p q no_arguments h k = k
weaker p q (argument x y) h k = k
weaker p q (listed xs) h k = k

-- arguments

written_more : (x y : Exp16) (es : List Exp16) → written_exp (arguments_on (argument x y) es) ≡ written_exp (argument x y) ++ after_commas written_exp es
written_more x y [] = sym (append-nil (written_exp (argument x y)))
written_more x y (e ∷ es) = written_more (argument x y) e es ∙ append_assoc (written_exp (argument x y)) (comma ∷ written_exp e) (after_commas written_exp es)

pub written_arguments : (es : List Exp16) → written_exp (arguments_of es) ≡ by_commas written_exp es
written_arguments [] = refl
written_arguments (e ∷ es) = written_more no_arguments e es

pub bare_arguments : (before : Exp16) (es : List Exp16) → bare_exp (arguments_on before es) ≡ arguments_on (bare_exp before) (map bare_exp es)
bare_arguments before [] = refl
bare_arguments before (e ∷ es) = bare_arguments (argument before e) es

abbrev pub is_many : Bool → Exp16 → Bool
is_many lists e = is_exp_at with_parentheses (many lists) e

abbrev pub is_one : Bool → Exp16 → Bool
is_one lists e = is_exp_at with_parentheses (one 0 lists) e

pub are_many : (lists : Bool) (before : Exp16) (es : List Exp16) → is_many lists before ≡ true → list_all (is_one lists) es ≡ true → is_many lists (arguments_on before es) ≡ true
are_many lists before [] h k = h
are_many lists before (e ∷ es) h k =
    are_many lists (argument before e) es (both (is_many lists before) (is_one lists e) h (left_true (is_one lists e) (list_all (is_one lists) es) k))
    (right_true (is_one lists e) (list_all (is_one lists) es) k)

pub arguments_built : (es : List Exp16) (x : Exp16) (rest : List Exp16) (b : Built) → after_all put_argument es (with_exps (x ∷ rest) b) ≡ with_exps (arguments_on x (map bare_exp es) ∷ rest) b
arguments_built [] x rest b = refl
arguments_built (e ∷ es) x rest b = arguments_built es (argument x (bare_exp e)) rest b

-- members, elements, slices and calls

pub written_one_suffix : (e : Exp16) (s : Suffix) → written_exp (with_suffix e s) ≡ written_exp e ++ written_suffix s
written_one_suffix e (dotted text) = refl
written_one_suffix e (at n) = refl
written_one_suffix e (cut high low) = refl
written_one_suffix e (called es) = rw (written_arguments es) refl
written_one_suffix e (looked of es) = rw (written_arguments es) refl

pub written_suffixes : (e : Exp16) (ss : List Suffix) → written_exp (with_suffixes e ss) ≡ written_exp e ++ flat_map written_suffix ss
written_suffixes e [] = sym (append-nil (written_exp e))
written_suffixes e (s ∷ ss) =
    written_suffixes (with_suffix e s) ss ∙ ap (λ ws. ws ++ flat_map written_suffix ss) (written_one_suffix e s)
    ∙ append_assoc (written_exp e) (written_suffix s) (flat_map written_suffix ss)

one_suffix_is : (least : ℕ) (e : Exp16) (s : Suffix) → is_of 12 e ≡ true → is_suffix s ≡ true → is_of least (with_suffix e s) ≡ true
one_suffix_is least e (dotted text) h k = h
one_suffix_is least e (at n) h k = h
one_suffix_is least e (cut high low) h k = h
one_suffix_is least e (called es) h k = both (is_of 12 e) (is_many true (arguments_of es)) h (are_many true no_arguments es refl k)
one_suffix_is least e (looked of es) h k = both (is_of 12 e) (is_many true (arguments_of es)) h (are_many true no_arguments es refl k)

pub suffixes_are : (e : Exp16) (ss : List Suffix) → is_of 12 e ≡ true → list_all is_suffix ss ≡ true → is_of 12 (with_suffixes e ss) ≡ true
suffixes_are e [] h k = h
suffixes_are e (s ∷ ss) h k =
    suffixes_are (with_suffix e s) ss (one_suffix_is 12 e s h (left_true (is_suffix s) (list_all is_suffix ss) k)) (right_true (is_suffix s) (list_all is_suffix ss) k)

bare_one_suffix : (e : Exp16) (s : Suffix) → bare_exp (with_suffix e s) ≡ with_suffix (bare_exp e) (bare_suffix s)
bare_one_suffix e (dotted text) = refl
bare_one_suffix e (at n) = refl
bare_one_suffix e (cut high low) = refl
bare_one_suffix e (called es) = ap (call (bare_exp e)) (bare_arguments no_arguments es)
bare_one_suffix e (looked of es) = ap (lookahead (bare_exp e) of) (bare_arguments no_arguments es)

pub bare_suffixes : (e : Exp16) (ss : List Suffix) → bare_exp (with_suffixes e ss) ≡ with_suffixes (bare_exp e) (map bare_suffix ss)
bare_suffixes e [] = refl
bare_suffixes e (s ∷ ss) = bare_suffixes (with_suffix e s) ss ∙ ap (λ x. with_suffixes x (map bare_suffix ss)) (bare_one_suffix e s)

suffixes_on : (ss : List Suffix) (x : Exp16) (rest : List Exp16) (b : Built) → after_all put_suffix ss (with_exps (x ∷ rest) b) ≡ with_exps (with_suffixes x (map bare_suffix ss) ∷ rest) b
suffixes_on [] x rest b = refl
suffixes_on (s ∷ ss) x rest b = suffixes_on ss (with_suffix x (bare_suffix s)) rest b

pub suffixes_built : (e : Exp16) (ss : List Suffix) (rest : List Exp16) (b : Built) → with_exps (bare_exp (with_suffixes e ss) ∷ rest) b ≡ after_all put_suffix ss (with_exps (bare_exp e ∷ rest) b)
suffixes_built e ss rest b = ap (λ x. with_exps (x ∷ rest) b) (bare_suffixes e ss) ∙ sym (suffixes_on ss (bare_exp e) rest b)

-- operators

pub written_tails : (e : Exp16) (t : Tail) → written_exp (with_tail e t) ≡ written_exp e ++ written_tail t
written_tails e done = sym (append-nil (written_exp e))
written_tails e (by operator right rest) =
    written_tails (binary operator e right) rest
    ∙ append_assoc (written_exp e) (binary_tokens operator ++ written_exp right) (written_tail rest)
    ∙ ap (λ ws. written_exp e ++ ws) (append_assoc (binary_tokens operator) (written_exp right) (written_tail rest))
written_tails e (chosen x y) = refl

pub tail_is : (least most : ℕ) (e : Exp16) (t : Tail) → nat_le least most ≡ true → is_of most e ≡ true → is_tail least most t ≡ true → is_of least (with_tail e t) ≡ true
tail_is least most e done h k i = weaker least most e h k
tail_is least most e (by operator right rest) h k i =
    let n = binary_power operator in
    let bounds = nat_le least n && nat_le n most in
    let sides = is_of (suc n) right && is_tail least n rest in
    let low = left_true (nat_le least n) (nat_le n most) (left_true bounds sides i) in
    let high = right_true (nat_le least n) (nat_le n most) (left_true bounds sides i) in
    let right_is = left_true (is_of (suc n) right) (is_tail least n rest) (right_true bounds sides i) in
    tail_is least n (binary operator e right) rest low
    (both (nat_le n n) (is_of n e && is_of (suc n) right) (within_same n) (both (is_of n e) (is_of (suc n) right) (weaker n most e high k) right_is))
    (right_true (is_of (suc n) right) (is_tail least n rest) (right_true bounds sides i))
tail_is least most e (chosen x y) h k i =
    let bounds = nat_eq least 0 && nat_le 1 most in
    let sides = is_full x && is_full y in
    let zero_is : least ≡ 0 = eqb-true least 0 (left_true (nat_eq least 0) (nat_le 1 most) (left_true bounds sides i)) in
    let one_is = weaker 1 most e (right_true (nat_eq least 0) (nat_le 1 most) (left_true bounds sides i)) k in
    subst (λ n. is_of n (choice e x y) ≡ true) (sym zero_is) (both (is_of 1 e) sides one_is (right_true bounds sides i))

pub bare_tails : (e : Exp16) (t : Tail) → bare_exp (with_tail e t) ≡ with_tail (bare_exp e) (bare_tail t)
bare_tails e done = refl
bare_tails e (by operator right rest) = bare_tails (binary operator e right) rest
bare_tails e (chosen x y) = refl

tails_on : (t : Tail) (x : Exp16) (rest : List Exp16) (b : Built) → put_tail t (with_exps (x ∷ rest) b) ≡ with_exps (with_tail x (bare_tail t) ∷ rest) b
tails_on done x rest b = refl
tails_on (by operator right t) x rest b = tails_on t (binary operator x (bare_exp right)) rest b
tails_on (chosen y z) x rest b = refl

pub tails_built : (e : Exp16) (t : Tail) (rest : List Exp16) (b : Built) → with_exps (bare_exp (with_tail e t) ∷ rest) b ≡ put_tail t (with_exps (bare_exp e ∷ rest) b)
tails_built e t rest b = ap (λ x. with_exps (x ∷ rest) b) (bare_tails e t) ∙ sym (tails_on t (bare_exp e) rest b)

-- calls, and expressions that could be types

pub call_is : (e : Exp16) → is_call (bare_exp e) ≡ is_call e
call_is (literal n) = refl
call_is (truth value) = refl
call_is error = refl
call_is (name text) = refl
call_is (member e text) = refl
call_is (index e n) = refl
call_is (slice e high low) = refl
call_is (call e xs) = refl
call_is (lookahead e of xs) = refl
call_is (cast to e) = refl
call_is (unary operator e) = refl
call_is (binary operator x y) = refl
call_is (choice x y z) = refl
call_is (parenthesized e) = call_is e
call_is no_arguments = refl
call_is (argument x y) = refl
call_is (listed xs) = refl

tail_no_type : (e : Exp16) (t : Tail) → is_type_like (bare_exp e) ≡ false → is_type_like (bare_exp (with_tail e t)) ≡ false
tail_no_type e done h = h
tail_no_type e (by operator right rest) h = tail_no_type (binary operator e right) rest refl
tail_no_type e (chosen x y) h = refl

-- neither a name nor one with an index
suffix_no_type : (e : Exp16) (ss : List Suffix) → is_type_like (bare_exp e) ≡ false → is_plain_name (bare_exp e) ≡ false → is_type_like (bare_exp (with_suffixes e ss)) ≡ false
suffix_no_type e [] h k = h
suffix_no_type e (dotted text ∷ ss) h k = suffix_no_type (member e text) ss refl refl
suffix_no_type e (at n ∷ ss) h k = suffix_no_type (index e n) ss k refl
suffix_no_type e (cut high low ∷ ss) h k = suffix_no_type (slice e high low) ss refl refl
suffix_no_type e (called es ∷ ss) h k = suffix_no_type (call e (arguments_of es)) ss refl refl
suffix_no_type e (looked of es ∷ ss) h k = suffix_no_type (lookahead e of (arguments_of es)) ss refl refl

-- a name with an index, and more behind it
index_no_type : (e : Exp16) (n : Literal16) (ss : List Suffix) (s : Suffix) → is_type_like (bare_exp (with_suffixes (index e n) (s ∷ ss))) ≡ false
index_no_type e n ss (dotted text) = suffix_no_type (member (index e n) text) ss refl refl
index_no_type e n ss (at m) = suffix_no_type (index (index e n) m) ss refl refl
index_no_type e n ss (cut high low) = suffix_no_type (slice (index e n) high low) ss refl refl
index_no_type e n ss (called es) = suffix_no_type (call (index e n) (arguments_of es)) ss refl refl
index_no_type e n ss (looked of es) = suffix_no_type (lookahead (index e n) of (arguments_of es)) ss refl refl

-- what an expression is that begins with a name and could be a type: the name, or the name with an index
pub data Named (text : List ℕ) : Exp16 → Type 0 where
  by_itself : Named text (name text)
  indexed : (n : Literal16) → Named text (index (name text) n)

never : true ≡ false → ⊥
never e = cc

named_suffix : (text : List ℕ) (ss : List Suffix) → is_type_like (bare_exp (with_suffixes (name text) ss)) ≡ true → Named text (with_suffixes (name text) ss)
named_suffix text [] h = by_itself
named_suffix text (at n ∷ []) h = indexed n
named_suffix text (at n ∷ s ∷ ss) h = let no = index_no_type (name text) n ss s in absurd (never (sym h ∙ no))
named_suffix text (dotted t ∷ ss) h = let no = suffix_no_type (member (name text) t) ss refl refl in absurd (never (sym h ∙ no))
named_suffix text (cut high low ∷ ss) h = let no = suffix_no_type (slice (name text) high low) ss refl refl in absurd (never (sym h ∙ no))
named_suffix text (called es ∷ ss) h = let no = suffix_no_type (call (name text) (arguments_of es)) ss refl refl in absurd (never (sym h ∙ no))
named_suffix text (looked of es ∷ ss) h = let no = suffix_no_type (lookahead (name text) of (arguments_of es)) ss refl refl in absurd (never (sym h ∙ no))

pub named_is : (text : List ℕ) (ss : List Suffix) (t : Tail) → is_type_like (bare_exp (with_tail (with_suffixes (name text) ss) t)) ≡ true → Named text (with_tail (with_suffixes (name text) ss) t)
named_is text ss done h = named_suffix text ss h
named_is text ss (by operator right rest) h = let no = tail_no_type (binary operator (with_suffixes (name text) ss) right) rest refl in absurd (never (sym h ∙ no))
named_is text ss (chosen x y) h = cc

-- statements one behind another

written_on : (before : Stmt16) (ss : List Stmt16) → written_stmt (stmts_on before ss) ≡ written_stmt before ++ flat_map written_stmt ss
written_on before [] = sym (append-nil (written_stmt before))
written_on before (s ∷ ss) = written_on (then before s) ss ∙ append_assoc (written_stmt before) (written_stmt s) (flat_map written_stmt ss)

pub written_stmts : (ss : List Stmt16) → written_stmt (stmts_of ss) ≡ flat_map written_stmt ss
written_stmts ss = written_on no_statements ss

abbrev is_list : Stmt16 → Bool
is_list s = is_stmt with_parentheses statements s

list_on : (before : Stmt16) (ss : List Stmt16) → is_list before ≡ true → are_statements ss ≡ true → is_list (stmts_on before ss) ≡ true
list_on before [] h k = h
list_on before (s ∷ ss) h k =
    list_on (then before s) ss (both (is_list before) (is_statement s) h (left_true (is_statement s) (are_statements ss) k))
    (right_true (is_statement s) (are_statements ss) k)

pub stmts_are : (ss : List Stmt16) → are_statements ss ≡ true → is_stmt with_parentheses statements (stmts_of ss) ≡ true
stmts_are ss k = list_on no_statements ss refl k

pub bare_on : (before : Stmt16) (ss : List Stmt16) → bare_stmt (stmts_on before ss) ≡ stmts_on (bare_stmt before) (map bare_stmt ss)
bare_on before [] = refl
bare_on before (s ∷ ss) = bare_on (then before s) ss

-- whether the last one ends in an `if` without `else`
abbrev pub open_after : Bool → List Stmt16 → Bool
open_after is_open [] = is_open
open_after is_open (s ∷ ss) = open_after (ends_in_if (bare_stmt s)) ss

stmts_on_built : (ss : List Stmt16) (is_open : Bool) (es : List Exp16) (x : Stmt16) (rest : List Stmt16) (b : Built) → after_all add_stmt ss (with_stmt is_open es (x ∷ rest) b) ≡ with_stmt (open_after is_open ss) es (stmts_on x (map bare_stmt ss) ∷ rest) b
stmts_on_built [] is_open es x rest b = refl
stmts_on_built (s ∷ ss) is_open es x rest b = stmts_on_built ss (ends_in_if (bare_stmt s)) es (then x (bare_stmt s)) rest b

pub stmts_built : (ss : List Stmt16) (is_open : Bool) (es : List Exp16) (rest : List Stmt16) (b : Built) → after_all add_stmt ss (with_stmt is_open es (no_statements ∷ rest) b) ≡ with_stmt (open_after is_open ss) es (bare_stmt (stmts_of ss) ∷ rest) b
stmts_built ss is_open es rest b = stmts_on_built ss is_open es no_statements rest b ∙ ap (λ s. with_stmt (open_after is_open ss) es (s ∷ rest) b) (sym (bare_on no_statements ss))

-- whether a statement ends in an `if` without `else` is the same without parentheses
pub open_is : (s : Stmt16) → ends_in_if (bare_stmt s) ≡ ends_in_if s
open_is no_statements = refl
open_is (then a b) = refl
open_is (block a) = refl
open_is empty = refl
open_is (var of text) = refl
open_is (var_is of text e) = refl
open_is (assign e f) = refl
open_is (expression e) = refl
open_is (if_then c a) = refl
open_is (if_else c a b) = open_is b
open_is (switch table a) = refl
open_is no_cases = refl
open_is (case_of a label b) = refl

-- cases one behind another

pub written_cases : (before : Stmt16) (cs : List CasePart) → written_stmt (cases_on before cs) ≡ written_stmt before ++ flat_map written_case_part cs
written_cases before [] = sym (append-nil (written_stmt before))
written_cases before (c ∷ cs) =
    written_cases (case_of before c.label (stmts_of c.inside)) cs
    ∙ ap (λ ws. (written_stmt before ++ (written_label c.label ++ colon ∷ in_braces ws)) ++ flat_map written_case_part cs) (written_stmts c.inside)
    ∙ append_assoc (written_stmt before) (written_case_part c) (flat_map written_case_part cs)

abbrev are_cases : Stmt16 → Bool
are_cases s = is_stmt with_parentheses cases s

pub cases_are : (before : Stmt16) (cs : List CasePart) → are_cases before ≡ true → list_all is_case_part cs ≡ true → are_cases (cases_on before cs) ≡ true
cases_are before [] h k = h
cases_are before (c ∷ cs) h k =
    cases_are (case_of before c.label (stmts_of c.inside)) cs
    (both (are_cases before) (is_list (stmts_of c.inside)) h (stmts_are c.inside (left_true (is_case_part c) (list_all is_case_part cs) k)))
    (right_true (is_case_part c) (list_all is_case_part cs) k)

pub cases_built : (cs : List CasePart) (before : Stmt16) (es : List Exp16) (rest : List Stmt16) (b : Built) → after_all put_case_part cs (with_stmt false es (bare_stmt before ∷ rest) b) ≡ with_stmt false es (bare_stmt (cases_on before cs) ∷ rest) b
cases_built [] before es rest b = refl
cases_built (c ∷ cs) before es rest b = cases_built cs (case_of before c.label (stmts_of c.inside)) es rest b
