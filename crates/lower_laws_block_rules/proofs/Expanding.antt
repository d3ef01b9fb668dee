-- The expanded statements of a pipeline are as the rules ask, where controls are.
use Rattle.std.proofs.Common.{◌≡◌, ℕ, zero, suc, ◌+◌, ◌<◌, ◌≤◌, ◌^◌, Bool, true, false, cond, ◌&&◌, List, [], ◌∷◌, ◌++◌, flat_map, Option, Some, None, refl, subst, arith}
use Rattle.std.specs.Prelude.{nat_lt, nat_le, unwrap_or}
use Rattle.std.specs.List.{AllByRecursion}
use Rattle.std.proofs.lemmas.Bool.{leb-true}
use Rattle.std.proofs.lemmas.List.Concat.{flat_map-append}
use Rattle.p414_syntax.specs.declared.lexeme.Literal.{Literal}
use Rattle.p414_syntax.specs.SpeltLexemes.{fits_in, is_spelt_literal}
use Rattle.p414_syntax.specs.declared.syntax.Decl.{Decl}
use Rattle.p414_syntax.specs.Conditions.{StmtPlace, block as a_block, statement as a_statement, behind_if, branches, is_stmt, is_if, is_expr, is_label, are_labels, labels_of}
use Rattle.p414_syntax.specs.Subtrees.{subtrees, own_conditions, conditions}
use Rattle.p414_syntax.specs.Tree.{Expr, Stmt, no_statements as nothing14, then as then14, apply, apply_branches, if_then as if14, call as call14, no_else, else_block, else_if, no_branches, branch}
use Rattle.p414_syntax.specs.Views.{ControlTree}
use Rattle.p414_syntax.specs.Names.{Name}
use Rattle.p414_syntax.specs.ControlExpansion.{control_of, StatementExpands, NoStatements, Then, Apply, ApplyBranches, If, Call, NoElse, ElseBlock, ElseIf, NoBranches, Branch}
use Rattle.p414_syntax.specs.Nesting.{depth}
use Rattle.p414_sem.specs.Conditions.{bit_length_within, bit_length, literal_width}
use Rattle.lower_laws_block_rules.specs.Widths.{IsWidth, LiteralsWide}
use Rattle.lower_laws_block_rules.specs.Statements.{ConditionsStand, IsExpandedAt}

both : (a b : Bool) → (a && b) ≡ true → (a ≡ true) × (b ≡ true)
both true b e = (refl, e)
both false b e = absurd (cc e)

-- a literal as it is read

bits_within : (limit n : ℕ) → (0 < bit_length_within limit n) × (bit_length_within limit n ≤ limit + 1)
bits_within zero n = (omega arith, omega arith)
bits_within (suc limit) n = by (nat_lt n (2 ^ suc limit)) (bits_within limit n) where
  by : (b : Bool) → (0 < bit_length_within limit n) × (bit_length_within limit n ≤ limit + 1) → (0 < cond b (bit_length_within limit n) (suc (suc limit))) × (cond b (bit_length_within limit n) (suc (suc limit)) ≤ suc limit + 1)
  by true rest = (rest.0, let few = rest.1 in omega (arith, few))
  by false rest = (omega arith, omega arith)

pub literal_wide : (n : Literal) → is_spelt_literal n ≡ true → IsWidth (literal_width n)
literal_wide n is = by n.width is where
  by : (o : Option ℕ) → fits_in o n.value ≡ true → IsWidth (unwrap_or o (bit_length n.value))
  by None is = let b = bits_within 127 n.value in (b.0, let few = b.1 in omega (arith, few))
  by (Some w) is =
      let a = both (nat_le 1 w) (nat_le w 128 && nat_lt n.value (2 ^ w)) is in
      let b = both (nat_le w 128) (nat_lt n.value (2 ^ w)) a.1 in
      (let some = leb-true 1 w a.0 in omega (arith, some), leb-true w 128 b.0)

-- the form of expanded statements

as_item : (x : Stmt) → IsExpandedAt a_block x → IsExpandedAt a_statement x
as_item nothing14 is = tt
as_item (then14 a b) is = is
as_item x is = absurd is

module _ (ds : List Decl) (grammar : (name : Name) (c : ControlTree) → control_of ds name ≡ Some c → is_stmt a_block c.body ≡ true) where
  expands_if : (a x : Stmt) → StatementExpands ds a x → is_if a ≡ true → is_if x ≡ true
  expands_if _ _ (If e a b x y p q) is = refl
  expands_if _ _ _ is = absurd (cc is)

  pub expands_at : (place : StmtPlace) (a x : Stmt) → StatementExpands ds a x → is_stmt place a ≡ true → IsExpandedAt place x
  expands_at a_block _ _ NoStatements is = tt
  expands_at a_block _ _ (Then a b x y p q) is = let s = both (is_stmt a_block a) (is_stmt a_statement b) is in (expands_at a_block a x p s.0, expands_at a_statement b y q s.1)
  expands_at a_statement _ _ (Apply t) is = tt
  expands_at a_statement _ _ (ApplyBranches t bs x p) is = expands_at branches bs x p (both (is_stmt branches bs) (are_labels (labels_of bs)) is).0
  expands_at a_statement _ _ (If e a b x y p q) is =
      let s = both (is_expr 0 e) (is_stmt a_block a && is_stmt behind_if b) is in
      let r = both (is_stmt a_block a) (is_stmt behind_if b) s.1 in
      (expands_at a_block a x p r.0, expands_at behind_if b y q r.1)
  expands_at a_statement _ _ (Call name c body found p) is = as_item body (expands_at a_block c.body body p (grammar name c found))
  expands_at behind_if _ _ NoElse is = tt
  expands_at behind_if _ _ (ElseBlock a x p) is = expands_at a_block a x p is
  expands_at behind_if _ _ (ElseIf a x p) is = let s = both (is_if a) (is_stmt a_statement a) is in (expands_if a x p s.0, expands_at a_statement a x p s.1)
  expands_at branches _ _ NoBranches is = tt
  expands_at branches _ _ (Branch a b x y l p q) is =
      let s = both (is_stmt branches a) (is_label l && is_stmt a_block b) is in
      (expands_at branches a x p s.0, expands_at a_block b y q (both (is_label l) (is_stmt a_block b) s.1).1)
  expands_at _ _ _ _ is = absurd (cc is)

-- conditions of expanded statements

module _ (ds : List Decl) (stand : (name : Name) (c : ControlTree) → control_of ds name ≡ Some c → ConditionsStand c.body) where
  pub expands_stand : (a x : Stmt) → StatementExpands ds a x → ConditionsStand a → ConditionsStand x
  expands_stand _ _ NoStatements is = tt
  expands_stand _ _ (Then a b x y p q) is = (expands_stand a x p is.0, expands_stand b y q is.1)
  expands_stand _ _ (Apply t) is = tt
  expands_stand _ _ (ApplyBranches t bs x p) is = expands_stand bs x p is
  expands_stand _ _ (If e a b x y p q) is = (is.0, is.1, expands_stand a x p is.2, expands_stand b y q is.3)
  expands_stand _ _ (Call name c body found p) is = expands_stand c.body body p (stand name c found)
  expands_stand _ _ NoElse is = tt
  expands_stand _ _ (ElseBlock a x p) is = expands_stand a x p is
  expands_stand _ _ (ElseIf a x p) is = expands_stand a x p is
  expands_stand _ _ NoBranches is = tt
  expands_stand _ _ (Branch a b x y l p q) is = (expands_stand a x p is.0, expands_stand b y q is.1)

abbrev pub CondStands : Expr → Type 0
CondStands e = LiteralsWide e × (depth e ≤ 64)

pub all_left : {A : Type 0} (P : A → Type 0) (xs ys : List A) → AllByRecursion P (xs ++ ys) → AllByRecursion P xs
all_left P [] ys all = tt
all_left P (x ∷ xs) ys all = (all.0, all_left P xs ys all.1)

pub all_right : {A : Type 0} (P : A → Type 0) (xs ys : List A) → AllByRecursion P (xs ++ ys) → AllByRecursion P ys
all_right P [] ys all = all
all_right P (x ∷ xs) ys all = all_right P xs ys all.1

halves : (a b : Stmt) → AllByRecursion CondStands (flat_map own_conditions (subtrees a ++ subtrees b)) → AllByRecursion CondStands (conditions a) × AllByRecursion CondStands (conditions b)
halves a b all =
    let split = subst (AllByRecursion CondStands) (flat_map-append own_conditions (subtrees a) (subtrees b)) all in
    (all_left CondStands (conditions a) (conditions b) split, all_right CondStands (conditions a) (conditions b) split)

-- each condition within a statement
pub stand_of : (x : Stmt) → AllByRecursion CondStands (conditions x) → ConditionsStand x
stand_of nothing14 all = tt
stand_of (then14 a b) all = let h = halves a b all in (stand_of a h.0, stand_of b h.1)
stand_of (apply t) all = tt
stand_of (apply_branches t bs) all = stand_of bs all
stand_of (if14 e a other) all = let h = halves a other all.1 in (all.0.0, all.0.1, stand_of a h.0, stand_of other h.1)
stand_of (call14 name) all = tt
stand_of no_else all = tt
stand_of (else_block a) all = stand_of a all
stand_of (else_if a) all = stand_of a all
stand_of no_branches all = tt
stand_of (branch before l body) all = let h = halves before body all in (stand_of before h.0, stand_of body h.1)
