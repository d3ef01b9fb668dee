-- Lists of statements behind others, and turns of loops that put them there.
use Rattle.std.proofs.Common.{◌≡◌, ◌<◌, List, [], ◌∷◌, ◌++◌, length, refl, sym, ap, ap₂, ◌∙◌, subst, arith, ℕ}
use Rattle.p416_syntax.specs.Tree.{Stmt16, then, Trees, Keeps, AddsStmt, stmt_at}
use Rattle.lower_laws_actions.specs.Mirror.{behind_stmts}
use Rattle.lower_expressions.specs.Making.{MakesStmt}

pub behind_append : (x : Stmt16) (a b : List Stmt16) → behind_stmts x (a ++ b) ≡ behind_stmts (behind_stmts x a) b
behind_append x [] b = refl
behind_append x (s ∷ a) b = behind_append ((then) x s) a b

pub keeps_on : (a b c : Trees) → Keeps a b → Keeps b c → Keeps a c
keeps_on a b c x y = record {
  exps_len = omega (arith, x.exps_len, y.exps_len);
  stmts_len = omega (arith, x.stmts_len, y.stmts_len);
  exps = λ i lt. y.exps i (omega (arith, x.exps_len, lt)) ∙ x.exps i lt;
  stmts = λ i lt. y.stmts i (omega (arith, x.stmts_len, lt)) ∙ x.stmts i lt;
}

pub keeps_all : (a : Trees) → Keeps a a
keeps_all a = record { exps_len = omega arith; stmts_len = omega arith; exps = λ i lt. refl; stmts = λ i lt. refl }

-- statements are put behind those that are done, as far as those that are left
pub record Goes (before later : Trees) (done : ℕ) (ys : List Stmt16) (z : Stmt16) : Type 0 where
  pub keeps : Keeps before later
  pub place : done < length later.stmts
  pub left : behind_stmts (stmt_at later.stmts done) ys ≡ z

pub goes_first : (before : Trees) (done : ℕ) (left : List Stmt16) → done < length before.stmts → Goes before before done left (behind_stmts (stmt_at before.stmts done) left)
goes_first before done left lt = record { keeps = keeps_all before; place = lt; left = refl }

pub goes_last : (before later : Trees) (done : ℕ) (z : Stmt16) → Goes before later done [] z → MakesStmt before later done z
goes_last before later done z goes = record { keeps = goes.keeps; place = goes.place; tree = goes.left }

-- one statement more
pub goes_one : (before old mid new : Trees) (done next place : ℕ) (y : Stmt16) (left : List Stmt16) (z : Stmt16) → Goes before old done (y ∷ left) z → MakesStmt old mid next y → AddsStmt mid new place ((then) (stmt_at mid.stmts done) (stmt_at mid.stmts next)) → Goes before new place left z
goes_one before old mid new done next place y left z goes makes adds =
    let is : stmt_at new.stmts place ≡ (then) (stmt_at old.stmts done) y = adds.tree ∙ ap₂ (then) (makes.keeps.stmts done goes.place) makes.tree in
    record {
      keeps = keeps_on before mid new (keeps_on before old mid goes.keeps makes.keeps) adds.keeps;
      place = adds.place;
      left = ap (λ x. behind_stmts x left) is ∙ goes.left;
    }

-- several
pub goes_on : (before old new : Trees) (done place : ℕ) (ys left : List Stmt16) (z : Stmt16) → Goes before old done (ys ++ left) z → MakesStmt old new place (behind_stmts (stmt_at old.stmts done) ys) → Goes before new place left z
goes_on before old new done place ys left z goes makes = record {
  keeps = keeps_on before old new goes.keeps makes.keeps;
  place = makes.place;
  left = ap (λ x. behind_stmts x left) makes.tree ∙ sym (behind_append (stmt_at old.stmts done) ys left) ∙ goes.left;
}

-- the last of them
pub goes_end : (before old new : Trees) (done place : ℕ) (ys : List Stmt16) (z : Stmt16) → Goes before old done ys z → MakesStmt old new place (behind_stmts (stmt_at old.stmts done) ys) → MakesStmt before new place z
goes_end before old new done place ys z goes makes = record {
  keeps = keeps_on before old new goes.keeps makes.keeps;
  place = makes.place;
  tree = makes.tree ∙ goes.left;
}

pub goes_end_by : (before old new : Trees) (done place : ℕ) (ys zs : List Stmt16) (z : Stmt16) → zs ≡ ys → Goes before old done ys z → MakesStmt old new place (behind_stmts (stmt_at old.stmts done) zs) → MakesStmt before new place z
goes_end_by before old new done place ys zs z same goes makes =
    goes_end before old new done place ys z goes (subst (λ us. MakesStmt old new place (behind_stmts (stmt_at old.stmts done) us)) same makes)

pub makes_is : (old new : Trees) (place : ℕ) (x y : Stmt16) → x ≡ y → MakesStmt old new place x → MakesStmt old new place y
makes_is old new place x y same makes = subst (MakesStmt old new place) same makes
