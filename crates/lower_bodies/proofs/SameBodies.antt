-- The body that is written for rows is the mirror's for their primitives.
use Rattle.std.proofs.Common.{◌≡◌, ℕ, suc, Bool, true, false, cond, List, [], ◌∷◌, ◌++◌, Option, refl, sym, ap, ap₂, ◌∙◌}
use Rattle.p414_syntax.specs.declared.syntax.Decl.{Decl}
use Rattle.p414_syntax.specs.declared.syntax.Rule14.{Rule14}
use Rattle.p414_sem.specs.Operations.{Primitive}
use Rattle.p414_ready_actions.specs.declared.rows.ReadyPrimitive.{ReadyPrimitive}
use Rattle.p416_syntax.specs.Tree.{Stmt16}
use Rattle.lower_laws_actions.specs.Apart.{needs_copies}
use Rattle.lower_laws_base.specs.Context.{now, entry}
use Rattle.lower_laws_base.specs.Mirror.{copies_stmt}
use Rattle.lower_laws_actions.specs.Mirror.{behind_stmts, in_order, fronts, rests, counts_first, sequential_body, parallel_body, body_stmt}
use Rattle.lower_expressions.specs.declared.table.WordsTable.{WordsTable}
use Rattle.lower_expressions.specs.Table.{words_in}
use Rattle.lower_primitives.specs.Rows.{row_front, row_rest, row_stmts}
use Rattle.lower_bodies.specs.Bodies.{rows_by, rows_at_once, rows_body}
use Rattle.lower_primitives.specs.Kept.{AreKept}
use Rattle.lower_expressions.proofs.Turning.{behind_append}
use Rattle.lower_primitives.proofs.Same.{front_of, rest_of}

module _ (ds : List Decl) (t : WordsTable) where
  order_same : (K : ℕ) (ps : List Primitive) (rows : List ReadyPrimitive) → AreKept ds t ps rows → rows_by (row_stmts t now) K rows ≡ in_order ds (words_in t) K ps
  order_same K [] [] k = refl
  order_same K (p ∷ ps) (row ∷ rows) k =
      ap₂ (◌++◌) (ap₂ (◌++◌) (front_of ds t now K p row k.0) (rest_of ds t now K p row k.0)) (order_same (suc K) ps rows k.1)
  order_same K (p ∷ ps) [] k = absurd k
  order_same K [] (row ∷ rows) k = absurd k

  fronts_same : (K : ℕ) (ps : List Primitive) (rows : List ReadyPrimitive) → AreKept ds t ps rows → rows_by (row_front t entry) K rows ≡ fronts ds (words_in t) K ps
  fronts_same K [] [] k = refl
  fronts_same K (p ∷ ps) (row ∷ rows) k = ap₂ (◌++◌) (front_of ds t entry K p row k.0) (fronts_same (suc K) ps rows k.1)
  fronts_same K (p ∷ ps) [] k = absurd k
  fronts_same K [] (row ∷ rows) k = absurd k

  rests_same : (K : ℕ) (ps : List Primitive) (rows : List ReadyPrimitive) → AreKept ds t ps rows → rows_by (row_rest t entry) K rows ≡ rests (words_in t) K ps
  rests_same K [] [] k = refl
  rests_same K (p ∷ ps) (row ∷ rows) k = ap₂ (◌++◌) (rest_of ds t entry K p row k.0) (rests_same (suc K) ps rows k.1)
  rests_same K (p ∷ ps) [] k = absurd k
  rests_same K [] (row ∷ rows) k = absurd k

  once_same : (x : Stmt16) (ps : List Primitive) (rows : List ReadyPrimitive) → AreKept ds t ps rows → rows_at_once t x rows ≡ behind_stmts (copies_stmt (words_in t) x) (fronts ds (words_in t) 0 ps ++ rests (words_in t) 0 ps)
  once_same x ps rows k =
      sym (behind_append (copies_stmt (words_in t) x) (rows_by (row_front t entry) 0 rows) (rows_by (row_rest t entry) 0 rows))
      ∙ ap (behind_stmts (copies_stmt (words_in t) x)) (ap₂ (◌++◌) (fronts_same 0 ps rows k) (rests_same 0 ps rows k))

  pub body_same : (copies : Bool) (rule : Rule14) (counter : Option ℕ) (ps : List Primitive) (rows : List ReadyPrimitive) → AreKept ds t ps rows → copies ≡ needs_copies ds rule ps → rows_body t copies counter rows ≡ body_stmt ds (words_in t) rule counter ps
  body_same copies rule counter ps rows k is = ap (λ b. rows_body t b counter rows) is ∙ by (needs_copies ds rule ps) where
    first : Stmt16
    first = counts_first (words_in t) counter

    by : (b : Bool) → rows_body t b counter rows ≡ cond b (parallel_body ds (words_in t) first ps) (sequential_body ds (words_in t) first ps)
    by true = once_same first ps rows k
    by false = ap (behind_stmts first) (order_same 0 ps rows k)
