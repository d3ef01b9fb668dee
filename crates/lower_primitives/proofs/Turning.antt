-- Turns of the loops over elements of a stack and over items of a calculation.
use Rattle.std.proofs.Common.{◌≡◌, ℕ, suc, ◌+◌, ◌-◌, ◌<◌, ◌≤◌, List, [], ◌∷◌, length, get_or, drop, sym, ap, ap₂, ◌∙◌, subst, arith}
use Rattle.std.proofs.lemmas.List.{drop_more}
use Rattle.std.specs.Prelude.{codes}
use Rattle.p416_syntax.specs.Tree.{Stmt16, then, Exp16, argument, exp_at, Trees, Keeps, AddsExp, AddsStmt, stmt_at}
use Rattle.lower_laws_base.specs.Context.{Words, At, now}
use Rattle.lower_laws_base.specs.Mirror.{method_stmt, part_exp}
use Rattle.lower_laws_actions.specs.Mirror.{elements_set}
use Rattle.lower_rows.specs.declared.calculations.HashItem.{HashItem}
use Rattle.lower_primitives.specs.Has.{ItemHas, ItemsHave}
use Rattle.lower_primitives.specs.Rows.{row_item_exp, row_items_exp}
use Rattle.lower_expressions.specs.Making.{MakesExp, MakesStmt}
use Rattle.lower_expressions.proofs.Turning.{keeps_on, Goes, goes_one}

-- elements of a stack from a place on
pub elements_more : (w : Words) (i e n : ℕ) → e < n → elements_set w i e (n - e) ≡ method_stmt (part_exp w now (record { instance = i; element = e })) (codes "setValid") ∷ elements_set w i (e + 1) (n - (e + 1))
elements_more w i e n lt =
    let more : n - e ≡ suc (n - (e + 1)) = omega (arith, lt) in
    let same : suc e ≡ e + 1 = omega arith in
    ap (elements_set w i e) more ∙ ap (λ k. method_stmt (part_exp w now (record { instance = i; element = e })) (codes "setValid") ∷ elements_set w i k (n - (e + 1))) same

pub elements_none : (w : Words) (i e n : ℕ) → n ≤ e → elements_set w i e (n - e) ≡ []
elements_none w i e n le = let none : n - e ≡ 0 = omega (arith, le) in ap (elements_set w i e) none

pub element_turn : (w : Words) (i e n : ℕ) (before old mid new : Trees) (done next place : ℕ) (z : Stmt16) → e < n → Goes before old done (elements_set w i e (n - e)) z → MakesStmt old mid next (method_stmt (part_exp w now (record { instance = i; element = e })) (codes "setValid")) → AddsStmt mid new place ((then) (stmt_at mid.stmts done) (stmt_at mid.stmts next)) → Goes before new place (elements_set w i (e + 1) (n - (e + 1))) z
element_turn w i e n before old mid new done next place z lt goes makes adds =
    goes_one before old mid new done next place _ (elements_set w i (e + 1) (n - (e + 1))) z
    (subst (λ ys. Goes before old done ys z) (elements_more w i e n lt) goes) makes adds

-- what the loop over items keeps
pub record GoesItems (w : Words) (at : At) (before later : Trees) (given : ℕ) (items : List HashItem) (z : Exp16) : Type 0 where
  pub keeps : Keeps before later
  pub place : given < length later.exps
  pub left : row_items_exp w at (exp_at later.exps given) items ≡ z
  pub have : ItemsHave w items

pub item_first : (w : Words) (items : List HashItem) (i : ℕ) (d x : HashItem) → i < length items → x ≡ get_or items i d → ItemsHave w (drop i items) → ItemHas w x
item_first w items i d x lt is have =
    let both : ItemsHave w (get_or items i d ∷ drop (i + 1) items) = subst (ItemsHave w) (drop_more items i d lt) have in
    subst (ItemHas w) (sym is) both.0

pub item_turn : (w : Words) (at : At) (before old mid new : Trees) (given next place : ℕ) (items : List HashItem) (i : ℕ) (d : HashItem) (z : Exp16) → i < length items → GoesItems w at before old given (drop i items) z → MakesExp old mid next (row_item_exp w at (get_or items i d)) → AddsExp mid new place (argument (exp_at mid.exps given) (exp_at mid.exps next)) → GoesItems w at before new place (drop (i + 1) items) z
item_turn w at before old mid new given next place items i d z lt goes makes adds =
    let x = get_or items i d in
    let rest = drop (i + 1) items in
    let there : drop i items ≡ x ∷ rest = drop_more items i d lt in
    let is : exp_at new.exps place ≡ argument (exp_at old.exps given) (row_item_exp w at x) = adds.tree ∙ ap₂ argument (makes.keeps.exps given goes.place) makes.tree in
    let both : ItemsHave w (x ∷ rest) = subst (ItemsHave w) there goes.have in
    record {
      keeps = keeps_on before mid new (keeps_on before old mid goes.keeps makes.keeps) adds.keeps;
      place = adds.place;
      left = ap (λ e. row_items_exp w at e rest) is ∙ ap (row_items_exp w at (exp_at old.exps given)) (sym there) ∙ goes.left;
      have = both.1;
    }
