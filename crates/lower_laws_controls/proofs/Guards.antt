-- The guard around ingress and egress.
use Rattle.std.proofs.Common.{◌≡◌, ◌≢◌, ◌⊎◌, inl, inr, eqb, arith, ℕ, suc, Bool, true, false, cond, None, Some, [], ◌∷◌, refl, ap, ◌∙◌}
use Rattle.std.specs.Prelude.{codes, is_some}
use Rattle.std.proofs.lemmas.Bool.Decides.{eqb_tells}
use Rattle.p414_syntax.specs.Tree.{Stmt}
use Rattle.p414_syntax.specs.Names.{Name as Name14}
use Rattle.p414_sem.specs.Effects.{Moment as Moment14}
use Rattle.p414_sem.specs.Controls.{Setting as Setting14, no_label as no_label14, run as run14}
use Rattle.p416_syntax.specs.declared.node.BinaryOperator.TheVariants.{Equal}
use Rattle.p416_syntax.specs.Tree.{Exp16, literal, error, name, member, binary, no_arguments, argument, Stmt16, no_statements, then, block as in_braces}
use Rattle.p416_syntax.specs.Names.{Name}
use Rattle.p416_syntax.specs.Kinds.{Kind, bits, boolean, error_code}
use Rattle.p416_syntax.specs.Scopes.{Scope, Sort, sort_of, fields_in}
use Rattle.p416_syntax.specs.Calls.{Place, value}
use Rattle.p416_syntax.specs.Expressions.{kind_of, field_kind_in, sort_signature}
use Rattle.p416_syntax.specs.Uses.{left_place, right_place, wanted_by}
use Rattle.v1_core.specs.Values.{Value, a_number, a_truth, an_error, is_true, to_member, member_in, no_members}
use Rattle.v1_core.specs.Numbers.{binary_value}
use Rattle.v1_core.specs.Frames.{Moment, ticked, closed, of_standard, whole, read}
use Rattle.v1_core.specs.Expressions.{Valued, valued, value_of, Referred}
use Rattle.v1_core.specs.Externs.Ports.{mark_to_drop}
use Rattle.v1_core.specs.Calls.{named_call, function_call, arguments, by_reference}
use Rattle.v1_core.specs.Statements.{condition, no_label, run}
use Rattle.agreement_of_meanings.proofs.Names.{is_there, part_is}
use Rattle.lower_laws_base.specs.Context.{HasRoot, Lowering, words_of, now, a_function, Aside, Sees}
use Rattle.lower_laws_base.specs.Mirror.{sized, drop_stmt}
use Rattle.lower_laws_base.proofs.Means.{Means, plainly, means_member, means_root}
use Rattle.lower_laws_base.proofs.States.{stands_ticked}
use Rattle.lower_laws_base.proofs.Writes.{closed_same}
use Rattle.lower_laws_controls.specs.Controls.{Plan, block, control_stmt}
use Rattle.lower_laws_controls.specs.Alike.{Level, TableStands, StatementFits}
use Rattle.lower_laws_controls.specs.Guards.{error_exp, checksum_exp, guard_exp, guarded_stmt, ErrorIs, ChecksumIs, IsClear, Fails}
use Rattle.lower_laws_controls.proofs.Statements.{either, branched, braced, does}

not_none : (e : ℕ) → eqb (suc e) 0 ≡ false
not_none e = by (eqb_tells (suc e) 0) where
  by : ((eqb (suc e) 0 ≡ true) × (suc e ≡ 0)) ⊎ ((eqb (suc e) 0 ≡ false) × (suc e ≢ 0)) → eqb (suc e) 0 ≡ false
  by (inl same) = absurd (omega (arith, same.1))
  by (inr other) = other.0

module _ (c : Lowering) (s : Scope) (sees : Sees c s []) (has : HasRoot c.layout of_standard) (n : Moment) (inner : n.frame.inner ≡ no_members) where
  abbrev sm : Name
  sm = c.root of_standard

  word_means : (word : Name) (kind : Kind) → field_kind_in (fields_in s.layouts (c.root_type of_standard)) word ≡ Some kind → Means c.world s (member (name sm) word) kind (plainly of_standard (to_member word ∷ [])) n
  word_means word kind there =
      means_member c.world s n (name sm) of_standard [] [] (c.root_type of_standard) word kind (means_root c s [] sees [] n inner now tt of_standard has) there

  abbrev word_at : Name → Value
  word_at word = read n.frame (plainly of_standard (to_member word ∷ []))

  pub word_read : (word : Name) (v : Value) → is_there v ≡ true → member_in n.frame.standard word ≡ v → word_at word ≡ v
  word_read word v some is = part_is n.frame.standard word (ap is_there is ∙ some) ∙ is

  -- `==` between what stands at such a word and another expression
  equal_value : (word : Name) (kind : Kind) (other : Exp16) (z : Value) → Means c.world s (member (name sm) word) kind (plainly of_standard (to_member word ∷ [])) n → ((p : Place) → value_of c.world s p other n ≡ valued z n) → (p : Place) → value_of c.world s p (binary Equal (member (name sm) word) other) n ≡ valued (binary_value Equal (word_at word) z) n
  equal_value word kind other z means second p =
      ap (λ (u : Valued). let v = value_of c.world s (right_place p Equal (kind_of s (member (name sm) word)) (kind_of s other)) other u.moment in valued (binary_value Equal u.value v.value) v.moment) (means.value (left_place p Equal (kind_of s (member (name sm) word)) (kind_of s other)))
      ∙ ap (λ (u : Valued). valued (binary_value Equal (word_at word) u.value) u.moment) (second (right_place p Equal (kind_of s (member (name sm) word)) (kind_of s other)))

  abbrev error_value : Value
  error_value = binary_value Equal (word_at (codes "parser_error")) (an_error 0)

  abbrev checksum_value : Value
  checksum_value = binary_value Equal (word_at (codes "checksum_error")) (a_number 1 0)

  error_is : (p : Place) → value_of c.world s p (error_exp (words_of c)) n ≡ valued error_value n
  error_is = equal_value (codes "parser_error") error_code (member error (codes "NoError")) (an_error 0) (word_means (codes "parser_error") error_code (sees.declares.error has)) (λ p. refl)

  checksum_is : (p : Place) → value_of c.world s p (checksum_exp (words_of c)) n ≡ valued checksum_value n
  checksum_is = equal_value (codes "checksum_error") (bits 1) (literal (sized 1 0)) (a_number 1 0) (word_means (codes "checksum_error") (bits 1) (sees.declares.checksum has)) (λ p. refl)

  -- what the guard gives: the second test counts where the first holds
  abbrev guard_value : Bool → Value
  guard_value checks = cond checks (cond (is_true error_value) checksum_value error_value) error_value

  pub guard_is : (checks : Bool) → condition c.world s (guard_exp (words_of c) checks) n ≡ valued (guard_value checks) n
  guard_is false = error_is (value boolean)
  guard_is true =
      ap (λ (v : Valued). cond (is_true v.value) (value_of c.world s (value boolean) (checksum_exp (words_of c)) v.moment) v) (error_is (value boolean))
      ∙ by (is_true error_value)
    where
      by : (b : Bool) → cond b (value_of c.world s (value boolean) (checksum_exp (words_of c)) n) (valued error_value n) ≡ valued (cond b checksum_value error_value) n
      by true = checksum_is (value boolean)
      by false = refl

  error_at : (e : ℕ) → ErrorIs n.frame e → error_value ≡ binary_value Equal (an_error e) (an_error 0)
  error_at e is = ap (λ v. binary_value Equal v (an_error 0)) (word_read (codes "parser_error") (an_error e) refl is)

  checksum_at : (e : ℕ) → ChecksumIs n.frame e → checksum_value ≡ binary_value Equal (a_number 1 e) (a_number 1 0)
  checksum_at e is = ap (λ v. binary_value Equal v (a_number 1 0)) (word_read (codes "checksum_error") (a_number 1 e) refl is)

  pub guard_holds : (checks : Bool) → IsClear checks n.frame → guard_value checks ≡ a_truth true
  guard_holds false clear = error_at 0 clear.error
  guard_holds true clear = ap (λ v. cond (is_true v) checksum_value v) (error_at 0 clear.error) ∙ checksum_at 0 (clear.checksum refl)

  pub guard_fails : (checks : Bool) → Fails checks n.frame → is_true (guard_value checks) ≡ false
  guard_fails false (inl fails) = ap is_true (error_at (suc fails.0) fails.1) ∙ not_none fails.0
  guard_fails false (inr fails) = absurd (cc (fails.0))
  guard_fails true (inl fails) = ap (λ v. is_true (cond (is_true v) checksum_value v)) (error_at (suc fails.0) fails.1) ∙ ap (λ b. is_true (cond b checksum_value (a_truth b))) (not_none fails.0)
  guard_fails true (inr fails) = by (is_true error_value) refl where
    by : (b : Bool) → is_true error_value ≡ b → is_true (cond b checksum_value error_value) ≡ false
    by true e = ap is_true (checksum_at 1 fails.1)
    by false e = e

-- `mark_to_drop`
drops : (c : Lowering) (s : Scope) (sees : Sees c s []) → HasRoot c.layout of_standard → (n : Moment) → n.frame.inner ≡ no_members → n.stopped ≡ None → run c.world s no_label (drop_stmt (words_of c)) n ≡ mark_to_drop (whole of_standard) (ticked n)
drops c s sees has n inner runs =
    let given = argument no_arguments (name (c.root of_standard)) in
    let text = codes "mark_to_drop" in
    let sort = sees.declares.named (a_function text) refl in
    let root = means_root c s [] sees [] (ticked n) inner now tt of_standard has in
    ap (λ b. cond b n (named_call c.world s (sort_of s text) text given (ticked n))) (ap is_some runs)
    ∙ ap (λ (z : Sort). named_call c.world s z text given (ticked n)) sort
    ∙ ap (λ (z : Sort). let x = arguments c.world s (wanted_by (sort_signature z text)) given (ticked n) in function_call text x.given x.moment) sort
    ∙ ap (λ (x : Referred). mark_to_drop (by_reference x).0.target (by_reference x).1) root.reference

module _ (c : Lowering) (s : Scope) (sees : Sees c s []) (none : c.parameters ≡ []) (has : HasRoot c.layout of_standard) (aside : Aside) (d : Setting14) (k : Plan) (P : Name14 → Type 0) (tables : (t : Name14) → P t → TableStands c s d k t) (checks : Bool) where
  abbrev guarded : Stmt16 → Stmt16
  guarded x = guarded_stmt (words_of c) checks x

  abbrev dropping : Stmt16
  dropping = (then) no_statements (drop_stmt (words_of c))

  -- where nothing failed, the statements run
  pub guarded_does : (x : Stmt) → StatementFits c.layout d.decls P block x → (m : Moment14) (n : Moment) → IsClear checks n.frame → Level c.layout aside m n → Level c.layout aside (run14 d no_label14 x m) (run c.world s no_label (guarded (control_stmt (words_of c) d.decls k block x)) n)
  guarded_does x fits m n clear stands =
      either c s sees none aside d k P tables m _ n (ticked n) (guard_exp (words_of c) checks) true (in_braces (control_stmt (words_of c) d.decls k block x)) (in_braces dropping) stands
      (guard_is c s sees has (ticked n) stands.inner checks ∙ ap (λ v. valued v (ticked n)) (guard_holds c s sees has (ticked n) stands.inner checks (record { error = clear.error; checksum = clear.checksum })))
      (braced c s sees none aside d k P tables m (ticked n) _ (control_stmt (words_of c) d.decls k block x) (stands_ticked c.layout [] [] aside m n stands) (does c s sees none aside d k P tables block x fits no_label14 m (ticked n) (stands_ticked c.layout [] [] aside m n stands)))

  -- and else nothing is done but that the packet is dropped
  pub guarded_drops : (x : Stmt16) (n : Moment) → Fails checks n.frame → n.frame.inner ≡ no_members → n.stopped ≡ None → run c.world s no_label (guarded x) n ≡ mark_to_drop (whole of_standard) (ticked (ticked n))
  guarded_drops x n fails inner runs =
      branched c s sees none aside d k P tables n (ticked n) (guard_exp (words_of c) checks) (guard_value c s sees has (ticked n) inner checks) false (in_braces x) (in_braces dropping) runs
      (guard_is c s sees has (ticked n) inner checks) (guard_fails c s sees has (ticked n) inner checks fails)
      ∙ ap (λ (z : Moment). closed n (closed (ticked n) z)) (drops c s sees has (ticked n) inner runs)
      ∙ ap (closed n) (closed_same [] [] [] (ticked n) (mark_to_drop (whole of_standard) (ticked (ticked n))) inner inner refl refl)
      ∙ closed_same [] [] [] n (mark_to_drop (whole of_standard) (ticked (ticked n))) inner inner refl refl
