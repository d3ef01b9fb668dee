-- What is done for an expression comes to the same rows, and is less.
use Rattle.std.proofs.Common.{◌≡◌, ℕ, suc, ◌+◌, ◌*◌, ◌<◌, Bool, true, false, cond, List, [], ◌∷◌, ◌++◌, length, refl, sym, ap, ◌∙◌, append_assoc, append-nil, length-append, subst, arith}
use Rattle.std.proofs.lemmas.Grind.{flat_map-append}
use Rattle.p414_syntax.specs.declared.node.BinaryOperator.{BinaryOperator}
use Rattle.p414_syntax.specs.declared.syntax.Decl.{Decl}
use Rattle.p414_syntax.specs.Tree.{Expr, valid, truth, field, number, parenthesized, unary, binary}
use Rattle.p414_syntax.specs.Subtrees.{subexpressions}
use Rattle.p414_syntax.specs.Expressions.{takes_truth}
use Rattle.p414_ready_conditions.specs.declared.making.Work.{Work}
use Rattle.p414_ready_conditions.specs.declared.making.Work.TheVariants as work
use Rattle.p414_ready_conditions.specs.declared.rows.ConditionRow.{ConditionRow}
use Rattle.p414_ready_conditions.specs.declared.rows.ConditionRow.TheVariants as row
use Rattle.p414_ready_conditions.specs.Rows.{number_rows, truth_rows, comparison_width}
use Rattle.p414_ready_conditions.specs.internal.Work.{work_rows, all_rows, number_work, truth_work, weight_of}

-- rows

module _ (ds : List Decl) where
  number_same : (width : ℕ) (e : Expr) → all_rows ds (number_work ds width e) ≡ number_rows ds width e
  number_same width (valid i) = refl
  number_same width (truth b) = refl
  number_same width (field r) = refl
  number_same width (number n) = refl
  number_same width (parenthesized a) = append-nil (number_rows ds width a)
  number_same width (unary o a) = refl
  number_same width (binary o a b) = refl

  joined_same : (o : BinaryOperator) (a b : Expr) (truths : Bool) → all_rows ds (cond truths (work.Truth b ∷ work.Truth a ∷ work.Row (row.Join o) ∷ []) (work.Number (comparison_width ds a b) b ∷ work.Number (comparison_width ds a b) a ∷ work.Row (row.Compare o) ∷ [])) ≡ cond truths ((truth_rows ds b ++ truth_rows ds a) ++ row.Join o ∷ []) ((number_rows ds (comparison_width ds a b) b ++ number_rows ds (comparison_width ds a b) a) ++ row.Compare o ∷ [])
  joined_same o a b true = sym (append_assoc (truth_rows ds b) (truth_rows ds a) (row.Join o ∷ []))
  joined_same o a b false = sym (append_assoc (number_rows ds (comparison_width ds a b) b) (number_rows ds (comparison_width ds a b) a) (row.Compare o ∷ []))

  truth_same : (e : Expr) → all_rows ds (truth_work ds e) ≡ truth_rows ds e
  truth_same (valid i) = refl
  truth_same (truth b) = refl
  truth_same (field r) = refl
  truth_same (number n) = refl
  truth_same (parenthesized a) = append-nil (truth_rows ds a)
  truth_same (unary o a) = refl
  truth_same (binary o a b) = joined_same o a b (takes_truth o)

  done_same : (now : List Work) (due : List ConditionRow) (old new : List Work) → all_rows ds now ≡ due → new ≡ now ++ old → (made : List ConditionRow) → made ++ all_rows ds new ≡ made ++ (due ++ all_rows ds old)
  done_same now due old new same put made =
      ap (λ (r : List ConditionRow). made ++ r) (ap (all_rows ds) put ∙ (flat_map-append (work_rows ds) now old ∙ ap (λ (r : List ConditionRow). r ++ all_rows ds old) same))

  pub truth_done : (e f : Expr) (old new : List Work) (made : List ConditionRow) → e ≡ f → new ≡ truth_work ds f ++ old → made ++ all_rows ds new ≡ made ++ all_rows ds (work.Truth e ∷ old)
  truth_done e f old new made same put =
      done_same (truth_work ds f) (truth_rows ds f) old new (truth_same f) put made
      ∙ ap (λ (g : Expr). made ++ (truth_rows ds g ++ all_rows ds old)) (sym same)

  pub number_done : (width : ℕ) (e f : Expr) (old new : List Work) (made : List ConditionRow) → e ≡ f → new ≡ number_work ds width f ++ old → made ++ all_rows ds new ≡ made ++ all_rows ds (work.Number width e ∷ old)
  number_done width e f old new made same put =
      done_same (number_work ds width f) (number_rows ds width f) old new (number_same width f) put made
      ∙ ap (λ (g : Expr). made ++ (number_rows ds width g ++ all_rows ds old)) (sym same)

pub row_done : (ds : List Decl) (r : ConditionRow) (old : List Work) (before made : List ConditionRow) → made ≡ before ++ r ∷ [] → made ++ all_rows ds old ≡ before ++ all_rows ds (work.Row r ∷ old)
row_done ds r old before made put =
    ap (λ (m : List ConditionRow). m ++ all_rows ds old) put ∙ append_assoc before (r ∷ []) (all_rows ds old)

-- weights

weight-append : (xs ys : List Work) → weight_of (xs ++ ys) ≡ weight_of xs + weight_of ys
weight-append [] ys = omega arith
weight-append (x ∷ xs) ys = let e = weight-append xs ys in omega (arith, e)

twice_longer : (a b : Expr) → length (subexpressions a ++ subexpressions b) ≡ length (subexpressions a) + length (subexpressions b)
twice_longer a b = length-append (subexpressions a) (subexpressions b)

less_leaf : 1 + 0 < 2 * 1
less_leaf = omega arith

less_inner : (a : ℕ) → 2 * a + 0 < 2 * suc a
less_inner a = omega arith

less_one : (a : ℕ) → 2 * a + (1 + 0) < 2 * suc a
less_one a = omega arith

less_two : (a b both : ℕ) → both ≡ a + b → 2 * b + (2 * a + (1 + 0)) < 2 * suc both
less_two a b both e = omega (arith, e)

number_less : (ds : List Decl) (width : ℕ) (e : Expr) → weight_of (number_work ds width e) < 2 * length (subexpressions e)
number_less ds width (valid i) = less_leaf
number_less ds width (truth b) = less_leaf
number_less ds width (field r) = less_leaf
number_less ds width (number n) = less_leaf
number_less ds width (parenthesized a) = less_inner (length (subexpressions a))
number_less ds width (unary o a) = less_one (length (subexpressions a))
number_less ds width (binary o a b) =
    less_two (length (subexpressions a)) (length (subexpressions b)) (length (subexpressions a ++ subexpressions b)) (twice_longer a b)

joined_less : (ds : List Decl) (o : BinaryOperator) (a b : Expr) (truths : Bool) → weight_of (cond truths (work.Truth b ∷ work.Truth a ∷ work.Row (row.Join o) ∷ []) (work.Number (comparison_width ds a b) b ∷ work.Number (comparison_width ds a b) a ∷ work.Row (row.Compare o) ∷ [])) < 2 * length (subexpressions (binary o a b))
joined_less ds o a b true =
    less_two (length (subexpressions a)) (length (subexpressions b)) (length (subexpressions a ++ subexpressions b)) (twice_longer a b)
joined_less ds o a b false =
    less_two (length (subexpressions a)) (length (subexpressions b)) (length (subexpressions a ++ subexpressions b)) (twice_longer a b)

truth_less : (ds : List Decl) (e : Expr) → weight_of (truth_work ds e) < 2 * length (subexpressions e)
truth_less ds (valid i) = less_leaf
truth_less ds (truth b) = less_leaf
truth_less ds (field r) = less_leaf
truth_less ds (number n) = less_leaf
truth_less ds (parenthesized a) = less_inner (length (subexpressions a))
truth_less ds (unary o a) = less_one (length (subexpressions a))
truth_less ds (binary o a b) = joined_less ds o a b (takes_truth o)

lighter : (now old new : List Work) (most : ℕ) → weight_of now < most → new ≡ now ++ old → weight_of new < most + weight_of old
lighter now old new most lt put =
    let e : weight_of new ≡ weight_of now + weight_of old = ap weight_of put ∙ weight-append now old in omega (arith, e, lt)

pub truth_lighter : (ds : List Decl) (e f : Expr) (old new : List Work) → e ≡ f → new ≡ truth_work ds f ++ old → weight_of new < weight_of (work.Truth e ∷ old)
truth_lighter ds e f old new same put =
    subst (λ (g : Expr). weight_of new < 2 * length (subexpressions g) + weight_of old) (sym same)
    (lighter (truth_work ds f) old new (2 * length (subexpressions f)) (truth_less ds f) put)

pub number_lighter : (ds : List Decl) (width : ℕ) (e f : Expr) (old new : List Work) → e ≡ f → new ≡ number_work ds width f ++ old → weight_of new < weight_of (work.Number width e ∷ old)
number_lighter ds width e f old new same put =
    subst (λ (g : Expr). weight_of new < 2 * length (subexpressions g) + weight_of old) (sym same)
    (lighter (number_work ds width f) old new (2 * length (subexpressions f)) (number_less ds width f) put)
