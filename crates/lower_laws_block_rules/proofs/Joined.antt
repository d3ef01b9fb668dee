-- Statements behind statements, as one list.
use Rattle.std.proofs.Common.{◌≡◌, ℕ, max, List, [], ◌∷◌, ◌++◌, flat_map, refl, sym, ap, ap₂, ◌∙◌, subst, arith}
use Rattle.std.proofs.lemmas.List.{append-nil}
use Rattle.std.proofs.lemmas.List.Concat.{flat_map-append}
use Rattle.p416_syntax.specs.Conditions.{statements, statement}
use Rattle.p416_syntax.specs.Tree.{Stmt16, no_statements, then}
use Rattle.p416_syntax.specs.Names.{Name}
use Rattle.p416_syntax.specs.Scopes.{Scope}
use Rattle.p416_syntax.specs.Statements.{behind, declared_in, Visit, visits, visit_uses, statement_uses, nesting}
use Rattle.lower_laws_controls.specs.Controls.{joined}
use Rattle.lower_laws_controls.proofs.Joined.{behind_joined}
use Rattle.lower_laws_rules.specs.Keeping.{Keeps, Part}
use Rattle.lower_laws_rules.specs.Spelling.{SpeltStmt}
use Rattle.lower_laws_rules.proofs.Lists.{behind_kept}

assoc : {A : Type 0} (xs ys zs : List A) → xs ++ (ys ++ zs) ≡ (xs ++ ys) ++ zs
assoc [] ys zs = refl
assoc (x ∷ xs) ys zs = ap (λ l. x ∷ l) (assoc xs ys zs)

visits_joined : (x y : Stmt16) (s : Scope) → visits s (joined x y) ≡ visits s x ++ visits (behind x s) y
visits_joined x no_statements s = sym (append-nil (visits s x))
visits_joined x ((then) y z) s =
    ap₂ (λ (vs : List Visit) (t : Scope). vs ++ visits t z) (visits_joined x y s) (behind_joined x y s)
    ∙ sym (assoc (visits s x) (visits (behind x s) y) (visits (behind y (behind x s)) z))
visits_joined x y s = refl

declared_joined : (x y : Stmt16) → declared_in (joined x y) ≡ declared_in x ++ declared_in y
declared_joined x no_statements = sym (append-nil (declared_in x))
declared_joined x ((then) y z) = ap (λ (names : List Name). names ++ declared_in z) (declared_joined x y) ∙ sym (assoc (declared_in x) (declared_in y) (declared_in z))
declared_joined x y = refl

nesting_joined : (x y : Stmt16) → nesting (joined x y) ≡ max (nesting x) (nesting y)
nesting_joined x no_statements = omega arith
nesting_joined x ((then) y z) = let e = nesting_joined x y in omega (arith, e)
nesting_joined x y = refl

pub part_joined : {s t u : Scope} {a b : List Name} {m n : ℕ} {x y : Stmt16} → Part s t a m x → Part t u b n y → Part s u (a ++ b) (max m n) (joined x y)
part_joined {s} {t} {u} {a} {b} {m} {n} {x} {y} p q = record {
  goes = behind_joined x y s ∙ ap (behind y) p.goes ∙ q.goes;
  declares = declared_joined x y ∙ ap₂ (λ (xs ys : List Name). xs ++ ys) p.declares q.declares;
  nests = let e = nesting_joined x y in let small = p.nests in let few = q.nests in omega (arith, e, small, few);
  keeps = subst (λ us. Keeps us [])
      (sym (ap (flat_map visit_uses) (visits_joined x y s) ∙ flat_map-append visit_uses (visits s x) (visits (behind x s) y)))
      (behind_kept p.keeps (subst (λ (z : Scope). Keeps (statement_uses z y) []) (sym p.goes) q.keeps));
}

-- spelt

pub joined_list : (x y : Stmt16) → SpeltStmt statements x → SpeltStmt statements y → SpeltStmt statements (joined x y)
joined_list x no_statements a b = a
joined_list x ((then) y z) a b = (joined_list x y a b.0, b.1)
joined_list x y a b = absurd b

pub joined_one : (x y : Stmt16) → SpeltStmt statements x → SpeltStmt statement y → SpeltStmt statements (joined x y)
joined_one x no_statements a b = absurd b
joined_one x ((then) y z) a b = absurd b
joined_one x y a b = (a, b)
