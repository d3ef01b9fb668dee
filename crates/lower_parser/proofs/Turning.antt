-- Turns of loops.
use Rattle.std.proofs.Common.{◌≡◌, ℕ, ◌+◌, ◌<◌, List, [], ◌∷◌, slice_index_or, length, get_or, drop, refl, sym, ap, ap₂, ◌∙◌, subst, arith, Option}
use Rattle.std.proofs.lemmas.List.{drop_more, get_or_default}
use Rattle.p414_ready_parser.specs.declared.rows.ReadyStatement.{ReadyStatement}
use Rattle.p414_ready_parser.specs.declared.rows.SelectPart.{SelectPart}
use Rattle.p416_syntax.specs.declared.node.BinaryOperator.TheVariants.{Concatenate}
use Rattle.p416_syntax.specs.Tree.{Stmt16, then, Exp16, binary, exp_at, Trees, Keeps, AddsExp, AddsStmt, stmt_at}
use Rattle.lower_expressions.specs.Making.{MakesExp, MakesStmt}
use Rattle.lower_laws_base.specs.Context.{Words}
use Rattle.lower_parser.specs.Has.{StatementHas, StatementsHave, ValueHas, PartsHave}
use Rattle.lower_parser.specs.Rows.{row_stmt, element_behind, element_of, rows_behind, row_key_part, row_key_from}

-- what keeps its place keeps it on
pub keeps_on : (a b c : Trees) → Keeps a b → Keeps b c → Keeps a c
keeps_on a b c x y = record {
  exps_len = omega (arith, x.exps_len, y.exps_len);
  stmts_len = omega (arith, x.stmts_len, y.stmts_len);
  exps = λ i lt. y.exps i (omega (arith, x.exps_len, lt)) ∙ x.exps i lt;
  stmts = λ i lt. y.stmts i (omega (arith, x.stmts_len, lt)) ∙ x.stmts i lt;
}

pub keeps_all : (a : Trees) → Keeps a a
keeps_all a = record { exps_len = omega arith; stmts_len = omega arith; exps = λ i lt. refl; stmts = λ i lt. refl }

-- what the loop over statements keeps: those that are left stand behind those that are done
pub record GoesRows (w : Words) (before later : Trees) (element : Option ℕ) (done : ℕ) (rows : List ReadyStatement) (z : Stmt16) : Type 0 where
  pub keeps : Keeps before later
  pub place : done < length later.stmts
  pub left : rows_behind w element (stmt_at later.stmts done) rows ≡ z
  pub have : StatementsHave w rows

pub row_has : (w : Words) (rows : List ReadyStatement) (i : ℕ) (d : ReadyStatement) → i < length rows → StatementsHave w (drop i rows) → StatementHas w (get_or rows i d)
row_has w rows i d lt have =
    let both : StatementsHave w (get_or rows i d ∷ drop (i + 1) rows) = subst (StatementsHave w) (drop_more rows i d lt) have in both.0

pub row_turn : (w : Words) (before old mid new : Trees) (element : Option ℕ) (done next place : ℕ) (rows : List ReadyStatement) (i : ℕ) (d : ReadyStatement) (z : Stmt16) → i < length rows → GoesRows w before old element done (drop i rows) z → MakesStmt old mid next (row_stmt w element (get_or rows i d)) → AddsStmt mid new place ((then) (stmt_at mid.stmts done) (stmt_at mid.stmts next)) → GoesRows w before new (element_behind element (get_or rows i d)) place (drop (i + 1) rows) z
row_turn w before old mid new element done next place rows i d z lt goes makes adds =
    let x = get_or rows i d in
    let rest = drop (i + 1) rows in
    let there : drop i rows ≡ x ∷ rest = drop_more rows i d lt in
    let is : stmt_at new.stmts place ≡ (then) (stmt_at old.stmts done) (row_stmt w element x) = adds.tree ∙ ap₂ (then) (makes.keeps.stmts done goes.place) makes.tree in
    let both : StatementsHave w (x ∷ rest) = subst (StatementsHave w) there goes.have in
    record {
      keeps = keeps_on before mid new (keeps_on before old mid goes.keeps makes.keeps) adds.keeps;
      place = adds.place;
      left = ap (λ y. rows_behind w (element_behind element x) y rest) is ∙ ap (rows_behind w element (stmt_at old.stmts done)) (sym there) ∙ goes.left;
      have = both.1;
    }

pub element_turn : (rows : List ReadyStatement) (i : ℕ) (d : ReadyStatement) (element : Option ℕ) (z : Option ℕ) → i < length rows → element_of element (drop i rows) ≡ z → element_of (element_behind element (get_or rows i d)) (drop (i + 1) rows) ≡ z
element_turn rows i d element z lt goes = ap (element_of element) (sym (drop_more rows i d lt)) ∙ goes

pub row_turn_by : (w : Words) (before old mid new : Trees) (element behind : Option ℕ) (done next place : ℕ) (rows : List ReadyStatement) (i : ℕ) (d : ReadyStatement) (z : Stmt16) → i < length rows → GoesRows w before old element done (drop i rows) z → MakesStmt old mid next (row_stmt w element (get_or rows i d)) → AddsStmt mid new place ((then) (stmt_at mid.stmts done) (stmt_at mid.stmts next)) → behind ≡ element_behind element (get_or rows i d) → GoesRows w before new behind place (drop (i + 1) rows) z
row_turn_by w before old mid new element behind done next place rows i d z lt goes makes adds is =
    subst (λ e. GoesRows w before new e place (drop (i + 1) rows) z) (sym is) (row_turn w before old mid new element done next place rows i d z lt goes makes adds)

-- what the loop over the values of a key keeps
pub record GoesKey (w : Words) (before later : Trees) (element : Option ℕ) (done : ℕ) (parts : List SelectPart) (z : Exp16) : Type 0 where
  pub keeps : Keeps before later
  pub place : done < length later.exps
  pub left : row_key_from w element (exp_at later.exps done) parts ≡ z
  pub have : PartsHave w parts

pub part_has : (w : Words) (parts : List SelectPart) (i : ℕ) (d : SelectPart) → i < length parts → PartsHave w (drop i parts) → ValueHas w (get_or parts i d).value
part_has w parts i d lt have =
    let both : PartsHave w (get_or parts i d ∷ drop (i + 1) parts) = subst (PartsHave w) (drop_more parts i d lt) have in both.0

pub part_turn : (w : Words) (before old mid new : Trees) (element : Option ℕ) (done next place : ℕ) (parts : List SelectPart) (i : ℕ) (d : SelectPart) (z : Exp16) → i < length parts → GoesKey w before old element done (drop i parts) z → MakesExp old mid next (row_key_part w element (get_or parts i d)) → AddsExp mid new place (binary Concatenate (exp_at mid.exps done) (exp_at mid.exps next)) → GoesKey w before new element place (drop (i + 1) parts) z
part_turn w before old mid new element done next place parts i d z lt goes makes adds =
    let x = get_or parts i d in
    let rest = drop (i + 1) parts in
    let there : drop i parts ≡ x ∷ rest = drop_more parts i d lt in
    let is : exp_at new.exps place ≡ binary Concatenate (exp_at old.exps done) (row_key_part w element x) = adds.tree ∙ ap₂ (binary Concatenate) (makes.keeps.exps done goes.place) makes.tree in
    let both : PartsHave w (x ∷ rest) = subst (PartsHave w) there goes.have in
    record {
      keeps = keeps_on before mid new (keeps_on before old mid goes.keeps makes.keeps) adds.keeps;
      place = adds.place;
      left = ap (λ y. row_key_from w element y rest) is ∙ ap (row_key_from w element (exp_at old.exps done)) (sym there) ∙ goes.left;
      have = both.1;
    }
