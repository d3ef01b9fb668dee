-- The variables of a list of statements, its names together, and the scope behind it.
use Rattle.std.proofs.Common.{◌≡◌, ℕ, ◌+◌, ◌<◌, List, [], ◌∷◌, ◌++◌, length, map, refl, sym, ap, ◌∙◌}
use Rattle.std.proofs.lemmas.List.{map-append}
use Rattle.p416_syntax.specs.declared.program.Decl16.{Decl16}
use Rattle.p416_syntax.specs.declared.parsers.Transition.{Transition}
use Rattle.p416_syntax.specs.Tree.{Stmt16, no_statements, then, block, empty, var, var_is, assign, expression, if_then, if_else, switch, no_cases, case_of}
use Rattle.p416_syntax.specs.Names.{Name}
use Rattle.p416_syntax.specs.Scopes.{Scope}
use Rattle.p416_syntax.specs.Uses.{Use, names_of_scope, a_body}
use Rattle.p416_syntax.specs.Statements.{behind, declared_in, with_variable}
use Rattle.p416_syntax.specs.Declarations.{transition_uses}
use Rattle.p416_scopes.specs.declared.scope.Scope.{Scope as CodeScope}
use Rattle.p416_scopes.specs.Seen.{seen_scope}
use Rattle.p416_visits.specs.Left.{height, shortened}
use Rattle.p416_visits.proofs.Visiting.{left_again, scope_height}
use Rattle.p416_expression_uses.specs.Found.{Found, after, after_all}
use Rattle.p416_expression_uses.proofs.Finding.{skipped}
use Rattle.p416_uses.specs.Variables.{Declared, declared_name, variables_in, with_all}

declared_is : (x : Stmt16) → map declared_name (variables_in x) ≡ declared_in x
declared_is ((then) before last) =
    map-append declared_name (variables_in before) (variables_in last)
    ∙ (ap (λ ns. ns ++ map declared_name (variables_in last)) (declared_is before) ∙ ap (λ ns. declared_in before ++ ns) (declared_is last))
declared_is no_statements = refl
declared_is (block body) = refl
declared_is empty = refl
declared_is (var t called) = refl
declared_is (var_is t called e) = refl
declared_is (assign e f) = refl
declared_is (expression e) = refl
declared_is (if_then c a) = refl
declared_is (if_else c a b) = refl
declared_is (switch table cases) = refl
declared_is no_cases = refl
declared_is (case_of before label body) = refl

with_both : (a b : List Declared) (s : Scope) → with_all s (a ++ b) ≡ with_all (with_all s a) b
with_both [] b s = refl
with_both (d ∷ a) b s = with_both a b (with_variable d.of d.called s)

behind_is : (x : Stmt16) (s : Scope) → with_all s (variables_in x) ≡ behind x s
behind_is ((then) before last) s =
    with_both (variables_in before) (variables_in last) s
    ∙ (ap (λ t. with_all t (variables_in last)) (behind_is before s) ∙ behind_is last (behind before s))
behind_is no_statements s = refl
behind_is (block body) s = refl
behind_is empty s = refl
behind_is (var t called) s = refl
behind_is (var_is t called e) s = refl
behind_is (assign e f) s = refl
behind_is (expression e) s = refl
behind_is (if_then c a) s = refl
behind_is (if_else c a b) s = refl
behind_is (switch table cases) s = refl
behind_is no_cases s = refl
behind_is (case_of before label body) s = refl

pub names_told : (f new : Found) (names : List Name) (ds : List Declared) (x : Stmt16) → new ≡ after f (names_of_scope names) → names ≡ map declared_name ds → ds ≡ variables_in x
    → new ≡ after f (names_of_scope (declared_in x))
names_told f new names ds x is of_names of_variables =
    is ∙ ap (λ ns. after f (names_of_scope ns)) (of_names ∙ (ap (map declared_name) of_variables ∙ declared_is x))

pub behind_told : (s t : Scope) (ds : List Declared) (x : Stmt16) → t ≡ with_all s ds → ds ≡ variables_in x → t ≡ behind x s
behind_told s t ds x is of_variables = is ∙ (ap (with_all s) of_variables ∙ behind_is x s)

pub body_told : (f g h : Found) (names : List Name) (us : List Use) → g ≡ after f (names_of_scope names) → h ≡ after_all g us
    → (depth : ℕ) → h ≡ after_all f (names_of_scope names ∷ a_body depth ∷ us)
body_told f g h names us of_names of_statements depth =
    of_statements ∙ (ap (λ x. after_all x us) (of_names ∙ skipped (after f (names_of_scope names)) (a_body depth) refl refl))

-- the scope behind a list of statements, and the one in front of it again

pub end_told : (f g : Found) (s t : Scope) (x : Stmt16) (end : Transition) → t ≡ behind x s → g ≡ after_all f (transition_uses t end) → g ≡ after_all f (transition_uses (behind x s) end)
end_told f g s t x end is so = so ∙ ap (λ u. after_all f (transition_uses u end)) is

pub left_behind : (c : CodeScope) (ds : List Decl16) (x : Stmt16) (len : ℕ) (mid new : Scope) → length c.names ≡ length c.sorts.items → ds ≡ c.top.now → len ≡ length c.names
    → mid ≡ behind x (seen_scope c) → new ≡ shortened (height ds len) mid → new ≡ seen_scope c
left_behind c ds x len mid new same top of_len of_mid is =
    is
    ∙ (ap (shortened (height ds len)) of_mid
    ∙ left_again (height ds len) x (seen_scope c) (scope_height c same ∙ (ap (height c.top.now) (sym of_len) ∙ ap (λ es. height es len) (sym top))))
