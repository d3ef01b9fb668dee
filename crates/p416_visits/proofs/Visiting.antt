-- Scopes behind statements, and what a statement puts in front of what is left.
use Rattle.std.proofs.Common.{◌≡◌, ℕ, zero, suc, ◌+◌, ◌-◌, true, List, [], ◌∷◌, ◌++◌, length, take, drop, refl, sym, ap, ◌∙◌, arith}
use Rattle.std.proofs.Math.Seq.{drop-append_seam}
use Rattle.std.proofs.lemmas.List.{append_assoc, length-append}
use Rattle.p416_syntax.specs.declared.program.Decl16.{Decl16}
use Rattle.p416_syntax.specs.declared.node.CaseLabel.{CaseLabel}
use Rattle.p416_syntax.specs.Tree.{Exp16, Stmt16, no_statements, then, block, empty, var, var_is, assign, expression, if_then, if_else, switch, no_cases, case_of}
use Rattle.p416_syntax.specs.Names.{Name}
use Rattle.p416_syntax.specs.Scopes.{Scope, Known, known, a_value, inside, kind_of_type}
use Rattle.p416_syntax.specs.Scopes as rule
use Rattle.p416_syntax.specs.Declarations.{top_names, layouts_of}
use Rattle.p416_syntax.specs.Statements.{Visit, visit, visits, behind}
use Rattle.p416_names.specs.declared.sort.Sort.{Sort}
use Rattle.p416_names.specs.Seen.{seen_sort}
use Rattle.p416_scopes.specs.declared.scope.Scope.{Scope as CodeScope}
use Rattle.p416_scopes.specs.Seen.{own_names, seen_scope, seen_part}
use Rattle.p416_visits.specs.declared.visits.Work.{Work}
use Rattle.p416_visits.specs.declared.visits.Work.TheVariants as work
use Rattle.p416_visits.specs.Left.{left, behind_all, scope_behind, is_visited, if_visited, shortened, height}

-- what a statement declares

abbrev added : Stmt16 → Scope → List Known
added ((then) before last) s = added last (behind before s) ++ added before s
added (var t called) s = known (a_value (kind_of_type s.names t) true) called ∷ []
added (var_is t called e) s = known (a_value (kind_of_type s.names t) true) called ∷ []
added _ s = []

inside_twice : (s : Scope) (more last : List Known) → inside (inside s more) last ≡ inside s (last ++ more)
inside_twice s more last = ap (λ names. record s { names = names }) (sym (append_assoc last more s.names))

behind_is : (x : Stmt16) (s : Scope) → behind x s ≡ inside s (added x s)
behind_is ((then) before last) s =
    behind_is last (behind before s)
    ∙ (ap (λ b. inside b (added last (behind before s))) (behind_is before s)
    ∙ inside_twice s (added before s) (added last (behind before s)))
behind_is no_statements s = refl
behind_is (block body) s = refl
behind_is empty s = refl
behind_is (var t called) s = refl
behind_is (var_is t called e) s = refl
behind_is (assign e f) s = refl
behind_is (expression e) s = refl
behind_is (if_then c a) s = refl
behind_is (if_else c a b) s = refl
behind_is (switch table cases) s = refl
behind_is no_cases s = refl
behind_is (case_of before label body) s = refl

-- behind a block the scope is what it was

left_over : {X : Type 0} (xs ys : List X) (n : ℕ) → length ys ≡ n → drop (length (xs ++ ys) - n) (xs ++ ys) ≡ ys
left_over xs ys n is =
    let short : length (xs ++ ys) - n ≡ length xs = omega (arith, length-append xs ys, is) in
    ap (λ k. drop k (xs ++ ys)) short ∙ drop-append_seam xs ys

pub left_again : (n : ℕ) (x : Stmt16) (s : Scope) → length s.names ≡ n → shortened n (behind x s) ≡ s
left_again n x s is =
    ap (shortened n) (behind_is x s) ∙ ap (λ names. record s { names = names }) (left_over (added x s) s.names n is)

-- the names of a scope of code that is shortened

pub own_front : (top : List Known) (names : List Name) (sorts : List Sort) (outer : List Known) → length names ≡ length sorts → length (own_names top names sorts outer) ≡ length names + length outer
own_front top [] sorts outer same = omega arith
own_front top (n ∷ names) [] outer same = absurd (cc same)
own_front top (n ∷ names) (x ∷ sorts) outer same =
    let before : length (own_names top names sorts (known (seen_sort top x) n ∷ outer)) ≡ length names + suc (length outer) = own_front top names sorts (known (seen_sort top x) n ∷ outer) (omega (arith, same)) in
    omega (arith, before)

own_split : (top : List Known) (names : List Name) (sorts : List Sort) (more outer : List Known) → length names ≡ length sorts → own_names top names sorts (more ++ outer) ≡ own_names top names sorts more ++ outer
own_split top [] sorts more outer same = refl
own_split top (n ∷ names) [] more outer same = absurd (cc same)
own_split top (n ∷ names) (x ∷ sorts) more outer same = own_split top names sorts (known (seen_sort top x) n ∷ more) outer (omega (arith, same))

pub names_shortened : (top : List Known) (len : ℕ) (names : List Name) (sorts : List Sort) (outer : List Known) → length names ≡ length sorts
    → own_names top (take len names) (take len sorts) outer ≡ drop (length (own_names top names sorts outer) - (len + length outer)) (own_names top names sorts outer)
names_shortened top zero names sorts outer same =
    let split : own_names top names sorts outer ≡ own_names top names sorts [] ++ outer = own_split top names sorts [] outer same in
    let all_off : drop (length (own_names top names sorts outer) - length outer) (own_names top names sorts outer) ≡ outer = ap (λ all. drop (length all - length outer) all) split ∙ left_over (own_names top names sorts []) outer (length outer) refl in
    let none : 0 + length outer ≡ length outer = omega arith in
    sym (ap (λ k. drop (length (own_names top names sorts outer) - k) (own_names top names sorts outer)) none ∙ all_off)
names_shortened top (suc len) [] sorts outer same = sym (ap (λ n. drop n outer) (none_over len (length outer)))
  where
    none_over : (a b : ℕ) → b - (suc a + b) ≡ 0
    none_over a b = omega arith
names_shortened top (suc len) (n ∷ names) [] outer same = absurd (cc same)
names_shortened top (suc len) (n ∷ names) (x ∷ sorts) outer same =
    names_shortened top len names sorts (known (seen_sort top x) n ∷ outer) (omega (arith, same))
    ∙ ap (λ k. drop (length (own_names top names sorts (known (seen_sort top x) n ∷ outer)) - k) (own_names top names sorts (known (seen_sort top x) n ∷ outer))) (one_later len (length outer))
  where
    one_later : (a b : ℕ) → a + suc b ≡ suc a + b
    one_later a b = omega arith

-- what is visited in a part, behind which the scope is shortened again, and in what is left behind that
abbrev within : List Decl16 → ℕ → Stmt16 → List Work → Scope → List Visit
within ds len x more s = visits s x ++ left ds (shortened (height ds len) (behind x s)) more

one_within : (ds : List Decl16) (s : Scope) (x : Stmt16) (len : ℕ) (more : List Work) → length s.names ≡ height ds len
    → visits s x ++ left ds s more ≡ visits s x ++ left ds (shortened (height ds len) (behind x s)) more
one_within ds s x len more is = ap (λ t. visits s x ++ left ds t more) (sym (left_again (height ds len) x s is))

-- two parts, each in the scope of the whole

second_within : (ds : List Decl16) (s : Scope) (a b : Stmt16) (len : ℕ) (more : List Work) → length s.names ≡ height ds len
    → visits s b ++ left ds s more ≡ within ds len b more (shortened (height ds len) (behind a s))
second_within ds s a b len more is = one_within ds s b len more is ∙ ap (within ds len b more) (sym (left_again (height ds len) a s is))

two_within : (ds : List Decl16) (s : Scope) (a b : Stmt16) (len : ℕ) (more : List Work) → length s.names ≡ height ds len
    → (visits s a ++ visits s b) ++ left ds s more ≡ visits s a ++ within ds len b more (shortened (height ds len) (behind a s))
two_within ds s a b len more is = append_assoc (visits s a) (visits s b) (left ds s more) ∙ ap (λ vs. visits s a ++ vs) (second_within ds s a b len more is)

-- a list of cases, and the last of them behind those before it

abbrev case_then : List Decl16 → ℕ → Stmt16 → Stmt16 → List Work → Scope → List Visit
case_then ds len x body more s = visit s x ∷ within ds len body more s

last_within : (ds : List Decl16) (s : Scope) (before body x : Stmt16) (len : ℕ) (more : List Work) → length s.names ≡ height ds len
    → visit s x ∷ (visits s body ++ left ds s more) ≡ case_then ds len x body more (shortened (height ds len) (behind before s))
last_within ds s before body x len more is =
    ap (λ vs. visit s x ∷ vs) (one_within ds s body len more is) ∙ ap (case_then ds len x body more) (sym (left_again (height ds len) before s is))

case_within : (ds : List Decl16) (s : Scope) (before body x : Stmt16) (len : ℕ) (more : List Work) → length s.names ≡ height ds len
    → (visits s before ++ visit s x ∷ visits s body) ++ left ds s more ≡ visits s before ++ case_then ds len x body more (shortened (height ds len) (behind before s))
case_within ds s before body x len more is =
    append_assoc (visits s before) (visit s x ∷ visits s body) (left ds s more)
    ∙ ap (λ vs. visits s before ++ vs) (last_within ds s before body x len more is)

-- what each kind of statement puts in front of what is left

abbrev pub Puts : List Decl16 → Scope → ℕ → Stmt16 → List Work → List Work → Type 0
Puts ds s len x old new = length s.names ≡ height ds len → visits s x ++ left ds (behind x s) old ≡ if_visited (is_visited x) s x ++ left ds s new

pub puts_block : (ds : List Decl16) (s : Scope) (len : ℕ) (body : Stmt16) (old : List Work)
    → Puts ds s len (block body) old (work.Visit body ∷ work.Shorten len ∷ old)
puts_block ds s len body old is = ap (λ vs. visit s (block body) ∷ vs) (one_within ds s body len old is)

pub puts_if : (ds : List Decl16) (s : Scope) (len : ℕ) (c : Exp16) (body : Stmt16) (old : List Work)
    → Puts ds s len (if_then c body) old (work.Visit body ∷ work.Shorten len ∷ old)
puts_if ds s len c body old is = ap (λ vs. visit s (if_then c body) ∷ vs) (one_within ds s body len old is)

pub puts_if_else : (ds : List Decl16) (s : Scope) (len : ℕ) (c : Exp16) (a b : Stmt16) (old : List Work)
    → Puts ds s len (if_else c a b) old (work.Visit a ∷ work.Shorten len ∷ work.Visit b ∷ work.Shorten len ∷ old)
puts_if_else ds s len c a b old is = ap (λ vs. visit s (if_else c a b) ∷ vs) (two_within ds s a b len old is)

pub puts_switch : (ds : List Decl16) (s : Scope) (len : ℕ) (table : Name) (cases : Stmt16) (old : List Work)
    → Puts ds s len (switch table cases) old (work.Visit cases ∷ work.Shorten len ∷ old)
puts_switch ds s len table cases old is = ap (λ vs. visit s (switch table cases) ∷ vs) (one_within ds s cases len old is)

pub puts_case : (ds : List Decl16) (s : Scope) (len : ℕ) (before : Stmt16) (label : CaseLabel) (body : Stmt16) (old : List Work)
    → Puts ds s len (case_of before label body) old (work.Visit before ∷ work.Shorten len ∷ work.VisitCase (case_of before label body) body ∷ work.Shorten len ∷ old)
puts_case ds s len before label body old is = case_within ds s before body (case_of before label body) len old is

-- the scope behind all that is left stays what it is

abbrev pub Ends : List Decl16 → Scope → ℕ → Stmt16 → List Work → List Work → Type 0
Ends ds s len x old new = length s.names ≡ height ds len → behind_all ds (behind x s) old ≡ behind_all ds s new

ends_within : (ds : List Decl16) (s : Scope) (len : ℕ) (x : Stmt16) (old : List Work) → length s.names ≡ height ds len
    → behind_all ds s old ≡ behind_all ds s (work.Visit x ∷ work.Shorten len ∷ old)
ends_within ds s len x old is = ap (λ t. behind_all ds t old) (sym (left_again (height ds len) x s is))

pub ends_block : (ds : List Decl16) (s : Scope) (len : ℕ) (body : Stmt16) (old : List Work)
    → Ends ds s len (block body) old (work.Visit body ∷ work.Shorten len ∷ old)
ends_block ds s len body old is = ends_within ds s len body old is

pub ends_if : (ds : List Decl16) (s : Scope) (len : ℕ) (c : Exp16) (body : Stmt16) (old : List Work)
    → Ends ds s len (if_then c body) old (work.Visit body ∷ work.Shorten len ∷ old)
ends_if ds s len c body old is = ends_within ds s len body old is

pub ends_if_else : (ds : List Decl16) (s : Scope) (len : ℕ) (c : Exp16) (a b : Stmt16) (old : List Work)
    → Ends ds s len (if_else c a b) old (work.Visit a ∷ work.Shorten len ∷ work.Visit b ∷ work.Shorten len ∷ old)
ends_if_else ds s len c a b old is = ends_within ds s len b old is ∙ ends_within ds s len a (work.Visit b ∷ work.Shorten len ∷ old) is

pub ends_switch : (ds : List Decl16) (s : Scope) (len : ℕ) (table : Name) (cases : Stmt16) (old : List Work)
    → Ends ds s len (switch table cases) old (work.Visit cases ∷ work.Shorten len ∷ old)
ends_switch ds s len table cases old is = ends_within ds s len cases old is

pub ends_case : (ds : List Decl16) (s : Scope) (len : ℕ) (before : Stmt16) (label : CaseLabel) (body : Stmt16) (old : List Work)
    → Ends ds s len (case_of before label body) old (work.Visit before ∷ work.Shorten len ∷ work.VisitCase (case_of before label body) body ∷ work.Shorten len ∷ old)
ends_case ds s len before label body old is =
    ends_within ds s len body old is ∙ ends_within ds s len before (work.VisitCase (case_of before label body) body ∷ work.Shorten len ∷ old) is

-- a scope of code that is shortened

abbrev made : List Decl16 → List Name → List Sort → List ℕ → rule.Part → Scope
made ds names sorts positions part = record { layouts = layouts_of ds; names = own_names (top_names ds) names sorts (top_names ds); positions = positions; part = part }

pub scope_shortened : (old new : CodeScope) (len : ℕ) → length old.names ≡ length old.sorts.items
    → new.names ≡ take len old.names → new.sorts.items ≡ take len old.sorts.items → new.top ≡ old.top → new.positions ≡ old.positions → new.part ≡ old.part
    → seen_scope new ≡ shortened (height old.top.now len) (seen_scope old)
scope_shortened old new len same names sorts top positions part =
    ap (λ t. made t.now new.names new.sorts.items new.positions.now (seen_part new.part)) top
    ∙ (ap (λ ns. made old.top.now ns new.sorts.items new.positions.now (seen_part new.part)) names
    ∙ (ap (λ xs. made old.top.now (take len old.names) xs new.positions.now (seen_part new.part)) sorts
    ∙ (ap (λ p. made old.top.now (take len old.names) (take len old.sorts.items) p.now (seen_part new.part)) positions
    ∙ (ap (λ p. made old.top.now (take len old.names) (take len old.sorts.items) old.positions.now (seen_part p)) part
    ∙ ap (λ ns. record (seen_scope old) { names = ns }) (names_shortened (top_names old.top.now) len old.names old.sorts.items (top_names old.top.now) same)))))

-- how many names a scope of code has
pub scope_height : (s : CodeScope) → length s.names ≡ length s.sorts.items → length (seen_scope s).names ≡ height s.top.now (length s.names)
scope_height s same = own_front (top_names s.top.now) s.names s.sorts.items (top_names s.top.now) same

-- a whole body leaves the scope as it was
pub ends_as_it_was : (s : CodeScope) (x : Stmt16) → length s.names ≡ length s.sorts.items → scope_behind s (work.Visit x ∷ work.Shorten (length s.names) ∷ []) ≡ seen_scope s
ends_as_it_was s x same = left_again (height s.top.now (length s.names)) x (seen_scope s) (scope_height s same)
