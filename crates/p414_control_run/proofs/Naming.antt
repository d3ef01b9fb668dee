-- An action by its number is the one with a name, and branches name it by number where they name it by name.
use Rattle.std.proofs.Common.{◌≡◌, ℕ, Bool, true, false, List, [], ◌++◌, get_or, Option, Some, None, refl, sym, ap, ap₂, ◌∙◌}
use Rattle.std.specs.Prelude.{◌==◌, ◌||◌, not, option_to_list}
use Rattle.std.specs.List.{list_any}
use Rattle.std.specs.Str.{bytes_eq}
use Rattle.std.proofs.lemmas.Bool.Decides.{Decides-eqb}
use Rattle.std.proofs.lemmas.List.Folds.{list_any-append}
use Rattle.std.proofs.lemmas.List.Quantifiers.{position-Some}
use Rattle.std.proofs.lemmas.Slice.Eq.{bytes_eq-Decides}
use Rattle.p414_syntax.specs.declared.node.Label.{Label}
use Rattle.p414_syntax.specs.declared.node.Label.TheVariants as label
use Rattle.p414_syntax.specs.declared.syntax.Decl.{Decl}
use Rattle.p414_syntax.specs.declared.syntax.Sort.TheVariants as sort
use Rattle.p414_syntax.specs.Tree.{Stmt}
use Rattle.p414_syntax.specs.Names.{Name, names_in}
use Rattle.p414_syntax.specs.Arguments.{action_number}
use Rattle.p414_syntax.specs.ControlExpansion.{StatementExpands, NoStatements, Then, Apply, ApplyBranches, If, Call, NoElse, ElseBlock, ElseIf, NoBranches, Branch}
use Rattle.p414_sem.specs.Controls.{Applied, names_action, has_block_of, runs_block}
use Rattle.p414_ready_controls.specs.Nodes.{kept_label, named_by, with_named, named_in}
use Rattle.p414_control_run.specs.declared.taken.Taken.{Taken}
use Rattle.p414_ready_tables.specs.Applied.{IsNamed}
use Rattle.p414_control_run.specs.Branches.{IsTaken, is_action, is_among, takes}
use Rattle.p414_control_run.specs.Leads.{TakesAs}

name_is : (xs ys : Name) → bytes_eq xs ys ≡ true → xs ≡ ys
name_is xs ys e = (bytes_eq-Decides xs ys).0 e

name_same : (xs ys : Name) → xs ≡ ys → bytes_eq xs ys ≡ true
name_same xs ys e = (bytes_eq-Decides xs ys).1 e

number_same : (n : ℕ) → (n == n) ≡ true
number_same n = (Decides-eqb n n).1 refl

-- the name with a number
named_so : (ds : List Decl) (name : Name) (n : ℕ) → action_number ds name ≡ Some n → name ≡ get_or (names_in sort.Action ds) n []
named_so ds name n is = name_is name (get_or (names_in sort.Action ds) n []) (position-Some (bytes_eq name) (names_in sort.Action ds) n [] is).1

by_both : (a b : ℕ) (x y : Name) (t u : Bool) → (a == b) ≡ t → bytes_eq y x ≡ u → (t ≡ true → y ≡ x) → (y ≡ x → b ≡ a) → t ≡ u
by_both a b x y true true e f to back = refl
by_both a b x y false false e f to back = refl
by_both a b x y true false e f to back = absurd (cc (f, name_same y x (to refl)))
by_both a b x y false true e f to back =
    let same : b ≡ a = back (name_is y x f) in absurd (cc (e, ap (λ n. a == n) same ∙ number_same a))

same_number : (a b : ℕ) → (a == b) ≡ true → a ≡ b
same_number a b e = (Decides-eqb a b).0 e

module _ (ds : List Decl) where
  -- the action that ran is the one that a label names

  is_named : (ran : ℕ) (name other : Name) (o : Option ℕ) → action_number ds name ≡ Some ran → action_number ds other ≡ o → is_action (Some ran) o ≡ bytes_eq other name
  is_named ran name other None is none = by_value (bytes_eq other name) refl where
    by_value : (b : Bool) → bytes_eq other name ≡ b → false ≡ b
    by_value false e = refl
    by_value true e =
        let some : None ≡ Some ran = sym none ∙ (ap (action_number ds) (name_is other name e) ∙ is) in absurd (cc some)
  is_named ran name other (Some n) is there =
      by_both ran n name other (ran == n) (bytes_eq other name) refl refl
      (λ e.
      let same : ran ≡ n = same_number ran n e in
      named_so ds other n there ∙ (ap (λ k. get_or (names_in sort.Action ds) k []) (sym same) ∙ sym (named_so ds name ran is)))
      (λ e.
      let some : Some n ≡ Some ran = sym there ∙ (ap (action_number ds) e ∙ is) in cc some)

  label_same : (ran : Option ℕ) (name : Option Name) (other : Name) → IsNamed ds ran name → is_action ran (action_number ds other) ≡ names_action name (label.Action other)
  label_same None None other is = refl
  label_same (Some ran) (Some name) other is = is_named ran name other (action_number ds other) is refl
  label_same None (Some name) other is = absurd is
  label_same (Some ran) None other is = absurd is

  -- among the branches is one of the action that ran

  one_among : (ran : ℕ) (o : Option ℕ) → list_any (λ (n : ℕ). ran == n) (option_to_list o) ≡ is_action (Some ran) o
  one_among ran None = refl
  one_among ran (Some n) = or_false (ran == n) where
    or_false : (b : Bool) → (b || false) ≡ b
    or_false true = refl
    or_false false = refl

  by_label : (ran : ℕ) (name : Name) (l : Label) → action_number ds name ≡ Some ran → is_among (Some ran) (named_by ds l) ≡ names_action (Some name) l
  by_label ran name label.Hit is = refl
  by_label ran name label.Miss is = refl
  by_label ran name label.Default is = refl
  by_label ran name (label.Action other) is =
      one_among ran (action_number ds other) ∙ is_named ran name other (action_number ds other) is refl

  turned : (a b : Bool) → (a || b) ≡ (b || a)
  turned true true = refl
  turned true false = refl
  turned false true = refl
  turned false false = refl

  one_more : (ran : ℕ) (name : Name) (l : Label) (before : Option (List ℕ)) (named : List ℕ) (b : Bool) → action_number ds name ≡ Some ran → with_named before (named_by ds l) ≡ Some named → ((inner : List ℕ) → before ≡ Some inner → is_among (Some ran) inner ≡ b) → is_among (Some ran) named ≡ (names_action (Some name) l || b)
  one_more ran name l None named b is there rest = absurd (cc there)
  one_more ran name l (Some inner) named b is there rest =
      let all : inner ++ named_by ds l ≡ named = cc there in
      sym (ap (is_among (Some ran)) all)
      ∙ (list_any-append (λ (n : ℕ). ran == n) inner (named_by ds l)
      ∙ (ap₂ (λ (p q : Bool). p || q) (rest inner refl) (by_label ran name l is) ∙ turned b (names_action (Some name) l)))

  block_there : (ran : ℕ) (name : Name) (s to : Stmt) → action_number ds name ≡ Some ran → StatementExpands ds s to → (named : List ℕ) → named_in ds s ≡ Some named → is_among (Some ran) named ≡ has_block_of (Some name) to
  block_there ran name _ _ is NoBranches named there = let none : named ≡ [] = cc there in ap (is_among (Some ran)) none
  block_there ran name _ _ is (Branch a b to_a to_b l ea eb) named there =
      one_more ran name l (named_in ds a) named (has_block_of (Some name) to_a) is there (λ inner e. block_there ran name a to_a is ea inner e)
  block_there ran name _ _ is NoStatements named there = absurd (cc there)
  block_there ran name _ _ is (Then a b to_a to_b ea eb) named there = absurd (cc there)
  block_there ran name _ _ is (Apply table) named there = absurd (cc there)
  block_there ran name _ _ is (ApplyBranches table a to_a ea) named there = absurd (cc there)
  block_there ran name _ _ is (If c a b to_a to_b ea eb) named there = absurd (cc there)
  block_there ran name _ _ is (Call n control body at e) named there = absurd (cc there)
  block_there ran name _ _ is NoElse named there = absurd (cc there)
  block_there ran name _ _ is (ElseBlock a to_a ea) named there = absurd (cc there)
  block_there ran name _ _ is (ElseIf a to_a ea) named there = absurd (cc there)

  none_before : (to_a : Stmt) (o : Option (List ℕ)) (more named : List ℕ) → with_named o more ≡ Some named → ((inner : List ℕ) → o ≡ Some inner → false ≡ has_block_of None to_a) → false ≡ has_block_of None to_a
  none_before to_a None more named there before = absurd (cc there)
  none_before to_a (Some inner) more named there before = before inner refl

  none_there : (s to : Stmt) → StatementExpands ds s to → (named : List ℕ) → named_in ds s ≡ Some named → false ≡ has_block_of None to
  none_there _ _ NoBranches named there = refl
  none_there _ _ (Branch a b to_a to_b l ea eb) named there =
      none_before to_a (named_in ds a) (named_by ds l) named there (λ inner e. none_there a to_a ea inner e)
  none_there _ _ NoStatements named there = absurd (cc there)
  none_there _ _ (Then a b to_a to_b ea eb) named there = absurd (cc there)
  none_there _ _ (Apply table) named there = absurd (cc there)
  none_there _ _ (ApplyBranches table a to_a ea) named there = absurd (cc there)
  none_there _ _ (If c a b to_a to_b ea eb) named there = absurd (cc there)
  none_there _ _ (Call n control body at e) named there = absurd (cc there)
  none_there _ _ NoElse named there = absurd (cc there)
  none_there _ _ (ElseBlock a to_a ea) named there = absurd (cc there)
  none_there _ _ (ElseIf a to_a ea) named there = absurd (cc there)

  has_same : (ran : Option ℕ) (name : Option Name) (s to : Stmt) (named : List ℕ) → IsNamed ds ran name → StatementExpands ds s to → named_in ds s ≡ Some named → is_among ran named ≡ has_block_of name to
  has_same None None s to named is ex there = none_there s to ex named there
  has_same (Some ran) (Some name) s to named is ex there = block_there ran name s to is ex named there
  has_same None (Some name) s to named is ex there = absurd is
  has_same (Some ran) None s to named is ex there = absurd is

  -- what was taken of an application takes the blocks that run

  takes_block : (named : List ℕ) (a : Applied) (t : Taken) (s to : Stmt) → IsTaken ds named a t → StatementExpands ds s to → named_in ds s ≡ Some named → (l : Label) → takes t (kept_label ds l) ≡ runs_block a (has_block_of a.action to) l
  takes_block named a t s to taken ex there label.Hit = taken.hit
  takes_block named a t s to taken ex there label.Miss = ap not taken.hit
  takes_block named a t s to taken ex there label.Default = ap not (taken.among ∙ has_same t.action a.action s to named taken.action ex there)
  takes_block named a t s to taken ex there (label.Action name) = label_same t.action a.action name taken.action

  pub takes_blocks : (named : List ℕ) (a : Applied) (t : Taken) (s to : Stmt) → IsTaken ds named a t → StatementExpands ds s to → named_in ds s ≡ Some named → TakesAs ds (Some t) (runs_block a (has_block_of a.action to))
  takes_blocks named a t s to taken ex there = record { so = takes_block named a t s to taken ex there }
