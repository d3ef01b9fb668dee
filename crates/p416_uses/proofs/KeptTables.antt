-- The scopes of all statements within a body have the tables of the scope of the body.
use Rattle.std.proofs.Common.{◌≡◌, List, [], ◌∷◌, ◌++◌, Result, Ok, Err, OnOk, refl, sym, ◌∙◌, subst}
use Rattle.p416_syntax.specs.Tree.{Stmt16, no_statements, then, block, empty, var, var_is, assign, expression, if_then, if_else, switch, no_cases, case_of}
use Rattle.p416_syntax.specs.Scopes.{Scope, Known}
use Rattle.p416_syntax.specs.Statements.{Visit, visit, visits, behind}
use Rattle.p416_listed_check.specs.Listings.{Listed, AreListed, ListsScope, tables_in}

abbrev pub KeepTables : List Known → List Visit → Type 0
KeepTables ts [] = Unit {0}
KeepTables ts (v ∷ vs) = (tables_in v.scope.names ≡ ts) × KeepTables ts vs

keep_both : (ts : List Known) (xs ys : List Visit) → KeepTables ts xs → KeepTables ts ys → KeepTables ts (xs ++ ys)
keep_both ts [] ys h k = k
keep_both ts (x ∷ xs) ys h k = (h.0, keep_both ts xs ys h.1 k)

behind_keeps : (x : Stmt16) (s : Scope) → tables_in (behind x s).names ≡ tables_in s.names
behind_keeps no_statements s = refl
behind_keeps ((then) before last) s = behind_keeps last (behind before s) ∙ behind_keeps before s
behind_keeps (block body) s = refl
behind_keeps empty s = refl
behind_keeps (var t called) s = refl
behind_keeps (var_is t called e) s = refl
behind_keeps (assign e f) s = refl
behind_keeps (expression e) s = refl
behind_keeps (if_then c positive) s = refl
behind_keeps (if_else c positive negative) s = refl
behind_keeps (switch table cases) s = refl
behind_keeps no_cases s = refl
behind_keeps (case_of before label body) s = refl

visits_keep : (ts : List Known) (x : Stmt16) (s : Scope) → tables_in s.names ≡ ts → KeepTables ts (visits s x)
visits_keep ts no_statements s is = _
visits_keep ts ((then) before last) s is = keep_both ts (visits s before) (visits (behind before s) last) (visits_keep ts before s is) (visits_keep ts last (behind before s) (behind_keeps before s ∙ is))
visits_keep ts (block body) s is = (is, visits_keep ts body s is)
visits_keep ts empty s is = (is, _)
visits_keep ts (var t called) s is = (is, _)
visits_keep ts (var_is t called e) s is = (is, _)
visits_keep ts (assign e f) s is = (is, _)
visits_keep ts (expression e) s is = (is, _)
visits_keep ts (if_then c positive) s is = (is, visits_keep ts positive s is)
visits_keep ts (if_else c positive negative) s is = (is, keep_both ts (visits s positive) (visits s negative) (visits_keep ts positive s is) (visits_keep ts negative s is))
visits_keep ts (switch table cases) s is = (is, visits_keep ts cases s is)
visits_keep ts no_cases s is = _
visits_keep ts (case_of before label body) s is = keep_both ts (visits s before) (visit s (case_of before label body) ∷ visits s body) (visits_keep ts before s is) (is, visits_keep ts body s is)

pub visits_kept : (left : List Visit) (s : Scope) (x : Stmt16) → left ≡ visits s x → KeepTables (tables_in s.names) left
visits_kept left s x is = subst (KeepTables (tables_in s.names)) (sym is) (visits_keep (tables_in s.names) x s refl)

pub kept_here : (ts : List Known) (old rest : List Visit) (s : Scope) (x : Stmt16) → old ≡ visit s x ∷ rest → KeepTables ts old → tables_in s.names ≡ ts
kept_here ts old rest s x is kept = (subst (KeepTables ts) is kept).0

pub kept_behind : (ts : List Known) (old rest : List Visit) (s : Scope) (x : Stmt16) → old ≡ visit s x ∷ rest → KeepTables ts old → KeepTables ts rest
kept_behind ts old rest s x is kept = (subst (KeepTables ts) is kept).1

pub lists_here : (ts : List Known) (old rest : List Visit) (s : Scope) (x : Stmt16) (l : Listed) → old ≡ visit s x ∷ rest → KeepTables ts old → AreListed ts l → ListsScope s l
lists_here ts old rest s x l is kept listed = subst (λ (ks : List Known). AreListed ks l) (sym (kept_here ts old rest s x is kept)) listed

pub lists_behind : (ts : List Known) (old rest : List Visit) (s : Scope) (x : Stmt16) (l : Listed) → old ≡ visit s x ∷ rest → KeepTables ts old → ListsScope s l → AreListed ts l
lists_behind ts old rest s x l is kept listed = subst (λ (ks : List Known). AreListed ks l) (kept_here ts old rest s x is kept) listed

-- what isn't changed stays
pub listed_still : {E : Type 0} (r : Result (Unit {0}) E) (s : Scope) (l : Listed) → ListsScope s l → OnOk r (ListsScope s l)
listed_still (Ok x) s l is = is
listed_still (Err e) s l is = tt
