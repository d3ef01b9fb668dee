-- The first rule that lists of uses break, one behind another, is the lower one of those that each breaks.
use Rattle.std.proofs.Common.{◌≡◌, ℕ, Bool, true, false, cond, ◌||◌, nat_le, nat_lt, if◌then◌else◌, Option, Some, None, List, [], ◌∷◌, ◌++◌, refl, sym, ap, ◌∙◌, arith}
use Rattle.std.specs.List.{list_any}
use Rattle.std.proofs.lemmas.Bool.{false≢true}
use Rattle.std.proofs.lemmas.Bool.Decides.{nat_tests}
use Rattle.std.proofs.lemmas.List.Folds.{list_any-append}
use Rattle.p416_syntax.specs.declared.parts.Param.{Param}
use Rattle.p416_syntax.specs.declared.node.CaseLabel.{CaseLabel}
use Rattle.p416_syntax.specs.declared.controls.Table16.{Table16}
use Rattle.p416_syntax.specs.declared.rule.ProgramRule.{ProgramRule}
use Rattle.p416_syntax.specs.declared.rule.ProgramRule.TheVariants.{T1, T2, T3, T4, T5, T6, T8, T9, T10}
use Rattle.p416_syntax.specs.Breaks.{rule_number}
use Rattle.p416_syntax.specs.Names.{Name, repeats}
use Rattle.p416_syntax.specs.Scopes.{Scope, sort_of}
use Rattle.p416_syntax.specs.Uses.{Use, a_switch, some_parameters, some_counters, a_table_of}
use Rattle.p416_syntax.specs.Unknown.{is_misnamed}
use Rattle.p416_syntax.specs.Sizes.{leaves_size}
use Rattle.p416_syntax.specs.Types.{is_mistyped}
use Rattle.p416_syntax.specs.Literals.{overflows}
use Rattle.p416_syntax.specs.Writes.{writes_constant}
use Rattle.p416_syntax.specs.Arguments.{is_miscounted}
use Rattle.p416_syntax.specs.Applications.{applies_nothing, applies_wrongly}
use Rattle.p416_syntax.specs.Externs.{is_outside_block}
use Rattle.p416_syntax.specs.Tables.{is_bad_table, is_behind, is_outside_label, listed_by}
use Rattle.p416_expression_check.specs.Judged.{first_of, first_broken}
use Rattle.p416_expression_uses.specs.First.{UseRule, is_bad_elsewhere, use_rules, first_by, first_in, lower}

-- the lower one of two

under : (m n : ℕ) → nat_lt m n ≡ true → nat_le m n ≡ true
under m n h = grind (arith, nat_tests)

over : (m n : ℕ) → nat_lt m n ≡ true → nat_le n m ≡ false
over m n h = grind (arith, nat_tests)

same_both : (n : ℕ) → nat_le n n ≡ true
same_both n = grind (arith, nat_tests)

chained : (a b c : ℕ) → nat_le a b ≡ true → nat_le b c ≡ true → nat_le a c ≡ true
chained a b c h k = grind (arith, nat_tests)

chained_over : (a b c : ℕ) → nat_le a b ≡ false → nat_le b c ≡ false → nat_le a c ≡ false
chained_over a b c h k = grind (arith, nat_tests)

pub lower_none : (a : Option ProgramRule) → lower a None ≡ a
lower_none (Some a) = refl
lower_none None = refl

pub lower_assoc : (a b c : Option ProgramRule) → lower (lower a b) c ≡ lower a (lower b c)
lower_assoc None b c = refl
lower_assoc (Some a) None c = refl
lower_assoc (Some a) (Some b) None = lower_none (lower (Some a) (Some b))
lower_assoc (Some a) (Some b) (Some c) =
    by_cases (nat_le (rule_number a) (rule_number b)) (nat_le (rule_number b) (rule_number c)) refl refl
  where
    by_cases : (p q : Bool) → nat_le (rule_number a) (rule_number b) ≡ p → nat_le (rule_number b) (rule_number c) ≡ q
        → lower (cond p (Some a) (Some b)) (Some c) ≡ lower (Some a) (cond q (Some b) (Some c))
    by_cases true true h k =
        ap (λ t. cond t (Some a) (Some c)) (chained (rule_number a) (rule_number b) (rule_number c) h k) ∙ sym (ap (λ t. cond t (Some a) (Some b)) h)
    by_cases true false h k = refl
    by_cases false true h k = ap (λ t. cond t (Some b) (Some c)) k ∙ sym (ap (λ t. cond t (Some a) (Some b)) h)
    by_cases false false h k =
        ap (λ t. cond t (Some b) (Some c)) k ∙ sym (ap (λ t. cond t (Some a) (Some c)) (chained_over (rule_number a) (rule_number b) (rule_number c) h k))

-- rules in order: what stands behind a rule is higher

abbrev is_after : ProgramRule → Option ProgramRule → Bool
is_after r None = true
is_after r (Some q) = nat_lt (rule_number r) (rule_number q)

abbrev all_after : ProgramRule → List UseRule → Bool
all_after r [] = true
all_after r (q ∷ rules) = if nat_lt (rule_number r) (rule_number q.rule) then all_after r rules else false

abbrev are_sorted : List UseRule → Bool
are_sorted [] = true
are_sorted (r ∷ rules) = if all_after r.rule rules then are_sorted rules else false

both_first : (a b : Bool) → (if a then b else false) ≡ true → a ≡ true
both_first true b h = refl
both_first false b h = h

both_second : (a b : Bool) → (if a then b else false) ≡ true → b ≡ true
both_second true b h = h
both_second false b h = absurd (cc h)

first_after : (r : ProgramRule) (rules : List UseRule) (us : List Use) → all_after r rules ≡ true → is_after r (first_by rules us) ≡ true
first_after r [] us h = refl
first_after r (q ∷ rules) us h =
    either (list_any q.test us) (Some q.rule) (first_by rules us)
    (both_first (nat_lt (rule_number r) (rule_number q.rule)) (all_after r rules) h)
    (first_after r rules us (both_second (nat_lt (rule_number r) (rule_number q.rule)) (all_after r rules) h))
  where
    either : (b : Bool) (x y : Option ProgramRule) → is_after r x ≡ true → is_after r y ≡ true → is_after r (cond b x y) ≡ true
    either true x y e f = e
    either false x y e f = f

before_it : (r : ProgramRule) (y : Option ProgramRule) → is_after r y ≡ true → lower (Some r) y ≡ Some r
before_it r None h = refl
before_it r (Some q) h = ap (λ t. cond t (Some r) (Some q)) (under (rule_number r) (rule_number q) h)

behind_it : (r : ProgramRule) (y : Option ProgramRule) → is_after r y ≡ true → lower y (Some r) ≡ Some r
behind_it r None h = refl
behind_it r (Some q) h = ap (λ t. cond t (Some q) (Some r)) (over (rule_number r) (rule_number q) h)

one_rule : (r : ProgramRule) (a b : Bool) (x y : Option ProgramRule) → is_after r x ≡ true → is_after r y ≡ true
    → lower (cond a (Some r) x) (cond b (Some r) y) ≡ cond (a || b) (Some r) (lower x y)
one_rule r true true x y h k = ap (λ t. cond t (Some r) (Some r)) (same_both (rule_number r))
one_rule r true false x y h k = before_it r y k
one_rule r false true x y h k = behind_it r x h
one_rule r false false x y h k = refl

by_joined : (rules : List UseRule) → are_sorted rules ≡ true → (a b : List Use) → lower (first_by rules a) (first_by rules b) ≡ first_by rules (a ++ b)
by_joined [] h a b = refl
by_joined (r ∷ rules) h a b =
    let later : all_after r.rule rules ≡ true = both_first (all_after r.rule rules) (are_sorted rules) h in
    one_rule r.rule (list_any r.test a) (list_any r.test b) (first_by rules a) (first_by rules b) (first_after r.rule rules a later) (first_after r.rule rules b later)
    ∙ (ap (λ rest. cond (list_any r.test a || list_any r.test b) (Some r.rule) rest) (by_joined rules (both_second (all_after r.rule rules) (are_sorted rules) h) a b)
    ∙ ap (λ t. cond t (Some r.rule) (first_by rules (a ++ b))) (sym (list_any-append r.test a b)))

-- lists of uses

pub first_of_none : first_in [] ≡ None
unfolding first_in
first_of_none = refl

pub first_joined : (a b : List Use) → lower (first_in a) (first_in b) ≡ first_in (a ++ b)
unfolding first_in
first_joined a b = by_joined use_rules refl a b

-- the first of nine tests, of one use and of the list of it

chosen : (a b c d e f g i h : Bool) → i ≡ false
    → first_of (if a then Some T1 else if b then Some T2 else if c then Some T3 else if d then Some T4 else None)
    (if e then Some T5 else if f then Some T6 else if g then Some T8 else if h then Some T10 else None)
    ≡ (if a || false then Some T1 else if b || false then Some T2 else if c || false then Some T3 else if d || false then Some T4
    else if e || false then Some T5 else if f || false then Some T6 else if g || false then Some T8 else if i || false then Some T9
    else if h || false then Some T10 else None)
chosen true b c d e f g i h none = refl
chosen false true c d e f g i h none = refl
chosen false false true d e f g i h none = refl
chosen false false false true e f g i h none = refl
chosen false false false false true f g i h none = refl
chosen false false false false false true g i h none = refl
chosen false false false false false false true i h none = refl
chosen false false false false false false false true h none = absurd (false≢true (sym none))
chosen false false false false false false false false true none = refl
chosen false false false false false false false false false none = refl

pub first_of_one : (u : Use) → is_bad_elsewhere u ≡ false → first_broken u ≡ first_in (u ∷ [])
unfolding first_in
first_of_one u none =
    chosen (is_misnamed u) (leaves_size u) (is_mistyped u) (overflows u) (writes_constant u) (is_miscounted u) (applies_wrongly u) (is_bad_elsewhere u) (is_outside_block u) none

-- what T9 asks of one use

ninth : (b : Bool) → (if b then Some T9 else None) ≡ (if b || false then Some T9 else None)
ninth true = refl
ninth false = refl

eighth : (a b : Bool) → (if a then Some T8 else if b then Some T9 else None) ≡ (if a || false then Some T8 else if b || false then Some T9 else None)
eighth true b = refl
eighth false true = refl
eighth false false = refl

pub parameters_rule : (ps : List Param) → (if is_behind ps then Some T9 else None) ≡ first_in (some_parameters ps ∷ [])
unfolding first_in
parameters_rule ps = ninth (is_behind ps)

pub counters_rule : (names : List Name) → (if repeats names then Some T9 else None) ≡ first_in (some_counters names ∷ [])
unfolding first_in
counters_rule names = ninth (repeats names)

pub table_rule : (s : Scope) (t : Table16) → (if is_bad_table s t then Some T9 else None) ≡ first_in (a_table_of s t ∷ [])
unfolding first_in
table_rule s t = ninth (is_bad_table s t)

pub switch_rule : (s : Scope) (text : Name) (labels : List CaseLabel)
    → (if applies_nothing s.part then Some T8 else if list_any (is_outside_label (listed_by (sort_of s text))) labels then Some T9 else None) ≡ first_in (a_switch s text labels ∷ [])
unfolding first_in
switch_rule s text labels = eighth (applies_nothing s.part) (list_any (is_outside_label (listed_by (sort_of s text))) labels)
