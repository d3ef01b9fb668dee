-- Turns of the loops over rows.
use Rattle.std.proofs.Common.{◌≡◌, ℕ, suc, ◌+◌, ◌<◌, List, ◌∷◌, length, get_or, drop, refl, sym, ap, ◌∙◌, subst, arith}
use Rattle.std.proofs.lemmas.List.{drop_more}
use Rattle.p414_ready_actions.specs.declared.rows.ReadyPrimitive.{ReadyPrimitive}
use Rattle.p416_syntax.specs.Tree.{Stmt16, Trees, Keeps, stmt_at}
use Rattle.lower_laws_actions.specs.Mirror.{behind_stmts}
use Rattle.lower_expressions.specs.declared.table.WordsTable.{WordsTable}
use Rattle.lower_primitives.specs.Has.{RowHas, RowsHave}
use Rattle.lower_bodies.specs.Bodies.{rows_by}
use Rattle.lower_expressions.specs.Making.{MakesStmt}
use Rattle.lower_expressions.proofs.Turning.{keeps_on, keeps_all, behind_append}

-- what a loop over rows keeps: the rows that are left, of which the first has this number
pub record GoesRows (t : WordsTable) (of : ℕ → ReadyPrimitive → List Stmt16) (before later : Trees) (done number : ℕ) (rows : List ReadyPrimitive) (z : Stmt16) : Type 0 where
  pub keeps : Keeps before later
  pub place : done < length later.stmts
  pub left : behind_stmts (stmt_at later.stmts done) (rows_by of number rows) ≡ z
  pub have : RowsHave t rows

pub rows_begin : (t : WordsTable) (of : ℕ → ReadyPrimitive → List Stmt16) (before : Trees) (done : ℕ) (rows : List ReadyPrimitive) → done < length before.stmts → RowsHave t rows → GoesRows t of before before done 0 rows (behind_stmts (stmt_at before.stmts done) (rows_by of 0 rows))
rows_begin t of before done rows lt have = record { keeps = keeps_all before; place = lt; left = refl; have = have }

pub row_here : (t : WordsTable) (rows : List ReadyPrimitive) (i : ℕ) (d : ReadyPrimitive) → i < length rows → RowsHave t (drop i rows) → RowHas t (get_or rows i d)
row_here t rows i d lt have =
    let both : RowsHave t (get_or rows i d ∷ drop (i + 1) rows) = subst (RowsHave t) (drop_more rows i d lt) have in both.0

pub row_turn : (t : WordsTable) (of : ℕ → ReadyPrimitive → List Stmt16) (before old new : Trees) (done place : ℕ) (rows : List ReadyPrimitive) (i n : ℕ) (d : ReadyPrimitive) (z : Stmt16) → i < length rows → n ≡ i → GoesRows t of before old done i (drop i rows) z → MakesStmt old new place (behind_stmts (stmt_at old.stmts done) (of n (get_or rows i d))) → GoesRows t of before new place (i + 1) (drop (i + 1) rows) z
row_turn t of before old new done place rows i n d z lt same goes makes =
    let x = get_or rows i d in
    let rest = drop (i + 1) rows in
    let there : drop i rows ≡ x ∷ rest = drop_more rows i d lt in
    let both : RowsHave t (x ∷ rest) = subst (RowsHave t) there goes.have in
    let next : i + 1 ≡ suc i = omega arith in
    record {
      keeps = keeps_on before old new goes.keeps makes.keeps;
      place = makes.place;
      left =
          ap (λ y. behind_stmts y (rows_by of (i + 1) rest)) makes.tree
          ∙ ap (λ k. behind_stmts (behind_stmts (stmt_at old.stmts done) (of k x)) (rows_by of (i + 1) rest)) same
          ∙ ap (λ k. behind_stmts (behind_stmts (stmt_at old.stmts done) (of i x)) (rows_by of k rest)) next
          ∙ sym (behind_append (stmt_at old.stmts done) (of i x) (rows_by of (suc i) rest))
          ∙ ap (λ l. behind_stmts (stmt_at old.stmts done) (rows_by of i l)) (sym there)
          ∙ goes.left;
      have = both.1;
    }
