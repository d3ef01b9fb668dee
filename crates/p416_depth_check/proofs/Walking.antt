-- One turn of the walks: what nests too deep lies within what is taken off, or in what is left.
use Rattle.std.proofs.Common.{◌≡◌, ℕ, suc, ◌+◌, ◌-◌, ◌<◌, ◌≤◌, max, Bool, true, false, ◌||◌, nat_eq, nat_lt, List, ◌∷◌, ◌++◌, refl, sym, ap, ◌∙◌, subst, arith}
use Rattle.std.specs.List.{list_any}
use Rattle.std.proofs.lemmas.Bool.Decides.{nat_tests}
use Rattle.std.proofs.lemmas.Bool.{false≢true}
use Rattle.p416_syntax.specs.Tree.{Exp16, literal, truth, error, name, member, index, slice, call, lookahead, cast, unary, binary, choice, parenthesized, no_arguments, argument, listed, Stmt16, no_statements, then, block, empty, var, var_is, assign, expression, if_then, if_else, switch, no_cases, case_of}
use Rattle.p416_syntax.specs.Statements.{nesting}
use Rattle.p416_syntax.specs.Totals.{depth}
use Rattle.p416_depth_check.specs.declared.expressions.ExpLeft.{ExpLeft}
use Rattle.p416_depth_check.specs.declared.blocks.StmtLeft.{StmtLeft}
use Rattle.p416_depth_check.specs.internal.Walks.{exp_left, exp_is_deep, is_exp_beyond, parts_of, stmt_left, stmt_is_deep, is_stmt_beyond, within_of}
use Rattle.p416_depth_check.specs.internal.Deep.{is_deep, has_deep_argument}
use Rattle.p416_depth_check.proofs.Counts.{exp_count, exps_left, stmt_count, stmts_left}

-- numbers

none_over : (n : ℕ) (r : Bool) → r ≡ (nat_lt n 0 || r)
none_over n r = let e : nat_lt n 0 ≡ false = grind (arith, nat_tests) in rw e refl

step : (n d : ℕ) → nat_eq n 0 ≡ false → nat_lt (n - 1) d ≡ nat_lt n (1 + d)
step n d h = grind (arith, nat_tests)

higher : (n a b : ℕ) → (nat_lt n a || nat_lt n b) ≡ nat_lt n (max a b)
higher n a b = grind (arith, nat_tests)

or_assoc : (a b c : Bool) → (a || (b || c)) ≡ (a || b || c)
or_assoc true b c = refl
or_assoc false b c = refl

leaf : (n : ℕ) (r : Bool) → nat_eq n 0 ≡ false → r ≡ (nat_lt n 1 || r)
leaf n r h = let e : nat_lt n 1 ≡ false = grind (arith, nat_tests) in rw e refl

one : (n d : ℕ) (r : Bool) → nat_eq n 0 ≡ false → (nat_lt (n - 1) d || r) ≡ (nat_lt n (1 + d) || r)
one n d r h = ap (λ (b : Bool). b || r) (step n d h)

both : (n a b : ℕ) (r : Bool) → (nat_lt n a || (nat_lt n b || r)) ≡ (nat_lt n (max a b) || r)
both n a b r = or_assoc (nat_lt n a) (nat_lt n b) r ∙ ap (λ (t : Bool). t || r) (higher n a b)

two : (n a b : ℕ) (r : Bool) → nat_eq n 0 ≡ false → (nat_lt (n - 1) a || (nat_lt (n - 1) b || r)) ≡ (nat_lt n (1 + max a b) || r)
two n a b r h = both (n - 1) a b r ∙ one n (max a b) r h

three : (n a b c : ℕ) (r : Bool) → nat_eq n 0 ≡ false → (nat_lt (n - 1) a || (nat_lt (n - 1) b || (nat_lt (n - 1) c || r))) ≡ (nat_lt n (1 + max a (max b c)) || r)
three n a b c r h = ap (λ (t : Bool). nat_lt (n - 1) a || t) (both (n - 1) b c r) ∙ (both (n - 1) a (max b c) r ∙ one n (max a (max b c)) r h)

top : (n d : ℕ) (r : Bool) → nat_eq n 0 ≡ true → (nat_lt n (1 + d) || r) ≡ true
top n d r h = let e : nat_lt n (1 + d) ≡ true = grind (arith, nat_tests) in rw e refl

case_on : (n a b : ℕ) (r : Bool) → nat_eq n 0 ≡ false → (nat_lt n a || (nat_lt (n - 1) b || r)) ≡ (nat_lt n (max a (1 + b)) || r)
case_on n a b r h = ap (λ (t : Bool). nat_lt n a || t) (one n b r h) ∙ both n a (1 + b) r

case_top : (n a b : ℕ) (r : Bool) → nat_eq n 0 ≡ true → (nat_lt n (max a (1 + b)) || r) ≡ true
case_top n a b r h = let e : nat_lt n (max a (1 + b)) ≡ true = grind (arith, nat_tests) in rw e refl

count_one : (a r : ℕ) → a + r < suc a + r
count_one a r = omega arith

count_two : (a b r : ℕ) → a + (b + r) < suc (a + b) + r
count_two a b r = omega arith

count_three : (a b c r : ℕ) → a + (b + (c + r)) < suc (a + b + c) + r
count_three a b c r = omega arith

count_none : (r : ℕ) → r < 1 + r
count_none r = omega arith

-- expressions

exp_on : (e : Exp16) (n : ℕ) (rest : List ExpLeft) → is_exp_beyond (exp_left n e) ≡ false → list_any exp_is_deep (parts_of n e ++ rest) ≡ (nat_lt n (depth e) || list_any exp_is_deep rest)
exp_on (literal v) n rest h = leaf n _ h
exp_on (truth v) n rest h = leaf n _ h
exp_on error n rest h = leaf n _ h
exp_on (name t) n rest h = leaf n _ h
exp_on (member a w) n rest h = one n (depth a) _ h
exp_on (index a i) n rest h = one n (depth a) _ h
exp_on (slice a i j) n rest h = one n (depth a) _ h
exp_on (call a b) n rest h = two n (depth a) (depth b) _ h
exp_on (lookahead a t b) n rest h = two n (depth a) (depth b) _ h
exp_on (cast t a) n rest h = one n (depth a) _ h
exp_on (unary o a) n rest h = one n (depth a) _ h
exp_on (binary o a b) n rest h = two n (depth a) (depth b) _ h
exp_on (choice c a b) n rest h = three n (depth c) (depth a) (depth b) _ h
exp_on (parenthesized a) n rest h = leaf n _ h
exp_on no_arguments n rest h = none_over n _
exp_on (argument a b) n rest h = both n (depth a) (depth b) _
exp_on (listed a) n rest h = one n (depth a) _ h

pub exp_turn : (x : ExpLeft) (old new rest : List ExpLeft) (h : Exp16) (beyond whole : Bool) → old ≡ x ∷ rest → x.of ≡ h → beyond ≡ is_exp_beyond x → beyond ≡ false → new ≡ parts_of x.levels h ++ rest → list_any exp_is_deep old ≡ whole → list_any exp_is_deep new ≡ whole
exp_turn x old new rest h beyond whole taken head is isnt put same =
    ap (list_any exp_is_deep) put
    ∙ (ap (λ (y : Exp16). list_any exp_is_deep (parts_of x.levels y ++ rest)) (sym head)
    ∙ (exp_on x.of x.levels rest (sym is ∙ isnt) ∙ (sym (ap (list_any exp_is_deep) taken) ∙ same)))

exp_over : (e : Exp16) (n : ℕ) (r : Bool) → is_exp_beyond (exp_left n e) ≡ true → (nat_lt n (depth e) || r) ≡ true
exp_over (literal v) n r h = top n 0 r h
exp_over (truth v) n r h = top n 0 r h
exp_over error n r h = top n 0 r h
exp_over (name t) n r h = top n 0 r h
exp_over (member a w) n r h = top n (depth a) r h
exp_over (index a i) n r h = top n (depth a) r h
exp_over (slice a i j) n r h = top n (depth a) r h
exp_over (call a b) n r h = top n (max (depth a) (depth b)) r h
exp_over (lookahead a t b) n r h = top n (max (depth a) (depth b)) r h
exp_over (cast t a) n r h = top n (depth a) r h
exp_over (unary o a) n r h = top n (depth a) r h
exp_over (binary o a b) n r h = top n (max (depth a) (depth b)) r h
exp_over (choice c a b) n r h = top n (max (depth c) (max (depth a) (depth b))) r h
exp_over (parenthesized a) n r h = top n 0 r h
exp_over no_arguments n r h = absurd (false≢true h)
exp_over (argument a b) n r h = absurd (false≢true h)
exp_over (listed a) n r h = top n (depth a) r h

pub exp_found : (x : ExpLeft) (old rest : List ExpLeft) (beyond whole : Bool) → old ≡ x ∷ rest → beyond ≡ is_exp_beyond x → beyond ≡ true → list_any exp_is_deep old ≡ whole → true ≡ whole
exp_found x old rest beyond whole taken is so same = sym (exp_over x.of x.levels (list_any exp_is_deep rest) (sym is ∙ so)) ∙ (sym (ap (list_any exp_is_deep) taken) ∙ same)

exp_fewer : (e : Exp16) (n : ℕ) (rest : List ExpLeft) → exps_left (parts_of n e ++ rest) < exp_count e + exps_left rest
exp_fewer (literal v) n rest = count_none _
exp_fewer (truth v) n rest = count_none _
exp_fewer error n rest = count_none _
exp_fewer (name t) n rest = count_none _
exp_fewer (member a w) n rest = count_one (exp_count a) _
exp_fewer (index a i) n rest = count_one (exp_count a) _
exp_fewer (slice a i j) n rest = count_one (exp_count a) _
exp_fewer (call a b) n rest = count_two (exp_count a) (exp_count b) _
exp_fewer (lookahead a t b) n rest = count_two (exp_count a) (exp_count b) _
exp_fewer (cast t a) n rest = count_one (exp_count a) _
exp_fewer (unary o a) n rest = count_one (exp_count a) _
exp_fewer (binary o a b) n rest = count_two (exp_count a) (exp_count b) _
exp_fewer (choice c a b) n rest = count_three (exp_count c) (exp_count a) (exp_count b) _
exp_fewer (parenthesized a) n rest = count_none _
exp_fewer no_arguments n rest = count_none _
exp_fewer (argument a b) n rest = count_two (exp_count a) (exp_count b) _
exp_fewer (listed a) n rest = count_one (exp_count a) _

pub exp_smaller : (x : ExpLeft) (old new rest : List ExpLeft) (h : Exp16) → old ≡ x ∷ rest → x.of ≡ h → new ≡ parts_of x.levels h ++ rest → exps_left new < exps_left old
exp_smaller x old new rest h taken head put =
    subst (λ (l : List ExpLeft). exps_left new < exps_left l) (sym taken)
    (subst (λ (l : List ExpLeft). exps_left l < exps_left (x ∷ rest)) (sym put)
    (subst (λ (y : Exp16). exps_left (parts_of x.levels y ++ rest) < exps_left (x ∷ rest)) head (exp_fewer x.of x.levels rest)))

-- argument lists, the last argument first

pub argument_on : (left before last : Exp16) (deep whole : Bool) → left ≡ argument before last → deep ≡ is_deep last → deep ≡ false → has_deep_argument left ≡ whole → has_deep_argument before ≡ whole
argument_on left before last deep whole is here isnt same =
    sym (or_false (has_deep_argument before))
    ∙ (ap (λ (b : Bool). has_deep_argument before || b) (sym (sym here ∙ isnt)) ∙ (sym (ap has_deep_argument is) ∙ same)) where
      or_false : (b : Bool) → (b || false) ≡ b
      or_false true = refl
      or_false false = refl

pub argument_found : (left before last : Exp16) (deep whole : Bool) → left ≡ argument before last → deep ≡ is_deep last → deep ≡ true → has_deep_argument left ≡ whole → true ≡ whole
argument_found left before last deep whole is here does same =
    sym (or_true (has_deep_argument before))
    ∙ (ap (λ (b : Bool). has_deep_argument before || b) (sym (sym here ∙ does)) ∙ (sym (ap has_deep_argument is) ∙ same)) where
      or_true : (b : Bool) → (b || true) ≡ true
      or_true true = refl
      or_true false = refl

-- statements

stmt_on : (x : Stmt16) (n : ℕ) (rest : List StmtLeft) → is_stmt_beyond (stmt_left n x) ≡ false → list_any stmt_is_deep (within_of n x ++ rest) ≡ (nat_lt n (nesting x) || list_any stmt_is_deep rest)
stmt_on no_statements n rest h = none_over n _
stmt_on ((then) a b) n rest h = both n (nesting a) (nesting b) _
stmt_on (block a) n rest h = one n (nesting a) _ h
stmt_on empty n rest h = none_over n _
stmt_on (var t c) n rest h = none_over n _
stmt_on (var_is t c e) n rest h = none_over n _
stmt_on (assign e f) n rest h = none_over n _
stmt_on (expression e) n rest h = none_over n _
stmt_on (if_then c a) n rest h = refl
stmt_on (if_else c a b) n rest h = both n (nesting a) (nesting b) _
stmt_on (switch t a) n rest h = refl
stmt_on no_cases n rest h = none_over n _
stmt_on (case_of a l b) n rest h = case_on n (nesting a) (nesting b) _ h

pub stmt_turn : (x : StmtLeft) (old new rest : List StmtLeft) (h : Stmt16) (beyond whole : Bool) → old ≡ x ∷ rest → x.of ≡ h → beyond ≡ is_stmt_beyond x → beyond ≡ false → new ≡ within_of x.levels h ++ rest → list_any stmt_is_deep old ≡ whole → list_any stmt_is_deep new ≡ whole
stmt_turn x old new rest h beyond whole taken head is isnt put same =
    ap (list_any stmt_is_deep) put
    ∙ (ap (λ (y : Stmt16). list_any stmt_is_deep (within_of x.levels y ++ rest)) (sym head)
    ∙ (stmt_on x.of x.levels rest (sym is ∙ isnt) ∙ (sym (ap (list_any stmt_is_deep) taken) ∙ same)))

stmt_over : (x : Stmt16) (n : ℕ) (r : Bool) → is_stmt_beyond (stmt_left n x) ≡ true → (nat_lt n (nesting x) || r) ≡ true
stmt_over no_statements n r h = absurd (false≢true h)
stmt_over ((then) a b) n r h = absurd (false≢true h)
stmt_over (block a) n r h = top n (nesting a) r h
stmt_over empty n r h = absurd (false≢true h)
stmt_over (var t c) n r h = absurd (false≢true h)
stmt_over (var_is t c e) n r h = absurd (false≢true h)
stmt_over (assign e f) n r h = absurd (false≢true h)
stmt_over (expression e) n r h = absurd (false≢true h)
stmt_over (if_then c a) n r h = absurd (false≢true h)
stmt_over (if_else c a b) n r h = absurd (false≢true h)
stmt_over (switch t a) n r h = absurd (false≢true h)
stmt_over no_cases n r h = absurd (false≢true h)
stmt_over (case_of a l b) n r h = case_top n (nesting a) (nesting b) r h

pub stmt_found : (x : StmtLeft) (old rest : List StmtLeft) (beyond whole : Bool) → old ≡ x ∷ rest → beyond ≡ is_stmt_beyond x → beyond ≡ true → list_any stmt_is_deep old ≡ whole → true ≡ whole
stmt_found x old rest beyond whole taken is so same = sym (stmt_over x.of x.levels (list_any stmt_is_deep rest) (sym is ∙ so)) ∙ (sym (ap (list_any stmt_is_deep) taken) ∙ same)

stmt_fewer : (x : Stmt16) (n : ℕ) (rest : List StmtLeft) → stmts_left (within_of n x ++ rest) < stmt_count x + stmts_left rest
stmt_fewer no_statements n rest = count_none _
stmt_fewer ((then) a b) n rest = count_two (stmt_count a) (stmt_count b) _
stmt_fewer (block a) n rest = count_one (stmt_count a) _
stmt_fewer empty n rest = count_none _
stmt_fewer (var t c) n rest = count_none _
stmt_fewer (var_is t c e) n rest = count_none _
stmt_fewer (assign e f) n rest = count_none _
stmt_fewer (expression e) n rest = count_none _
stmt_fewer (if_then c a) n rest = count_one (stmt_count a) _
stmt_fewer (if_else c a b) n rest = count_two (stmt_count a) (stmt_count b) _
stmt_fewer (switch t a) n rest = count_one (stmt_count a) _
stmt_fewer no_cases n rest = count_none _
stmt_fewer (case_of a l b) n rest = count_two (stmt_count a) (stmt_count b) _

pub stmt_smaller : (x : StmtLeft) (old new rest : List StmtLeft) (h : Stmt16) → old ≡ x ∷ rest → x.of ≡ h → new ≡ within_of x.levels h ++ rest → stmts_left new < stmts_left old
stmt_smaller x old new rest h taken head put =
    subst (λ (l : List StmtLeft). stmts_left new < stmts_left l) (sym taken)
    (subst (λ (l : List StmtLeft). stmts_left l < stmts_left (x ∷ rest)) (sym put)
    (subst (λ (y : Stmt16). stmts_left (within_of x.levels y ++ rest) < stmts_left (x ∷ rest)) head (stmt_fewer x.of x.levels rest)))

-- so many braces, and so many blocks

pub with_braces : (braces n : ℕ) (deep : Bool) → braces ≤ 1 → deep ≡ nat_lt (512 - braces) n → deep ≡ nat_lt 512 (braces + n)
with_braces braces n deep few is = is ∙ same braces n few where
  same : (braces n : ℕ) → braces ≤ 1 → nat_lt (512 - braces) n ≡ nat_lt 512 (braces + n)
  same braces n few = grind (arith, nat_tests)
