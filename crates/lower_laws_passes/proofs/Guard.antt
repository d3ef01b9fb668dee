-- The guard of a pipeline, where a packet failed: it is dropped, and nothing else happens.
use Rattle.std.proofs.lemmas.Bool.Decides.{eqb_tells}
use Rattle.std.proofs.Common.{◌≢◌, eqb, ◌==◌, ◌≡◌, ◌⊎◌, inl, inr, Bool, ℕ, suc, ◌-◌, ◌%◌, ◌^◌, true, false, cond, None, refl, ap, ap₂, ◌∙◌, arith}
use Rattle.std.specs.Prelude.{codes, is_some}
use Rattle.state_store.specs.Ports.{drop_port}
use Rattle.p414_sem.specs.declared.standard.Standard.TheVariants.{EgressSpec}
use Rattle.p416_syntax.specs.declared.node.BinaryOperator.TheVariants.{Equal, And}
use Rattle.p416_syntax.specs.Tree.{Exp16, literal, error, name, member, call, binary, no_arguments, argument, Stmt16, expression, if_else}
use Rattle.p416_syntax.specs.Names.{Name}
use Rattle.p416_syntax.specs.Kinds.{Kind, boolean, struct}
use Rattle.p416_syntax.specs.Scopes.{Scope, Sort, a_function, sort_of}
use Rattle.p416_syntax.specs.Calls.{Place, value}
use Rattle.p416_syntax.specs.Expressions.{kind_of, sort_signature}
use Rattle.p416_syntax.specs.Uses.{left_place, right_place, wanted_by}
use Rattle.v1_core.specs.Values.{Value, a_number, a_truth, an_error, no_members, number_in, width_in, is_true, fitted, member_in, part_of, with_part, with_member, to_member}
use Rattle.v1_core.specs.Numbers.{binary_value}
use Rattle.v1_core.specs.Frames.{Frame, Moment, of_standard, Reference, whole, stepped, request_of, ticked, closed, without, variable_count, read, write_number}
use Rattle.v1_core.specs.Surroundings.{World, named, by_root}
use Rattle.v1_core.specs.Expressions.{Valued, valued, value_of, member_value}
use Rattle.v1_core.specs.Externs.Ports.{mark_to_drop}
use Rattle.v1_core.specs.Calls.{arguments, function_call, named_call}
use Rattle.v1_core.specs.Statements.{condition, no_label, run}
use Rattle.v1_core.specs.Passes.{egress_spec}
use Rattle.agreement_of_meanings.proofs.Names.{is_there, part_is, put_is, member_same}
use Rattle.agreement_of_meanings.proofs.Written.{requests_by16}
use Rattle.lower_laws_base.specs.Mirror.{sized}
use Rattle.lower_laws_base.specs.Between.{ErrorIs, ChecksumIs, IsAny, Idle}

pub not_first : (e : ℕ) → suc e == 0 ≡ false
not_first e = by (eqb_tells (suc e) 0) where
  by : ((eqb (suc e) 0 ≡ true) × (suc e ≡ 0)) ⊎ ((eqb (suc e) 0 ≡ false) × (suc e ≢ 0)) → suc e == 0 ≡ false
  by (inl is) = absurd (omega (arith, is.1))
  by (inr is) = is.0

abbrev pub no_error_exp : Name → Exp16
no_error_exp sm = binary Equal (member (name sm) (codes "parser_error")) (member error (codes "NoError"))

abbrev pub drop_stmt : Name → Stmt16
drop_stmt sm = expression (call (name (codes "mark_to_drop")) (argument no_arguments (name sm)))

-- standard metadata by its name, and the function
pub record Guards (w : World) (s : Scope) (sm type : Name) : Type 0 where
  pub kind : kind_of s (name sm) ≡ struct type
  pub rooted : by_root w.around.roots sm ≡ whole of_standard
  pub function : sort_of s (codes "mark_to_drop") ≡ a_function

module _ (w : World) (s : Scope) (sm type : Name) (guards : Guards w s sm type) (n : Moment) (inner : n.frame.inner ≡ no_members) where
  sm_named : named w.around n.frame sm ≡ whole of_standard
  sm_named = rw inner guards.rooted

  -- the error that stands there
  error_value : (k : ℕ) → ErrorIs n.frame k → (q : _) → value_of w s q (member (name sm) (codes "parser_error")) n ≡ valued (an_error k) n
  error_value k is q =
      ap₂ (λ (z : Kind) (r : Reference). member_value z (codes "parser_error") (valued (read n.frame r) n)) guards.kind sm_named
      ∙ ap (λ v. valued v n) (part_is n.frame.standard (codes "parser_error") (ap is_there is) ∙ is)

  no_error_value : (q : _) → value_of w s q (member error (codes "NoError")) n ≡ valued (an_error 0) n
  no_error_value q = refl

  fails_test : (k : ℕ) → ErrorIs n.frame (suc k) → (q : _) → value_of w s q (no_error_exp sm) n ≡ valued (a_truth false) n
  fails_test k is q =
      ap (λ (x : Valued). let y = value_of w s (right_place q Equal (kind_of s (member (name sm) (codes "parser_error"))) (kind_of s (member error (codes "NoError")))) (member error (codes "NoError")) x.moment in valued (binary_value Equal x.value y.value) y.moment)
      (error_value (suc k) is (left_place q Equal (kind_of s (member (name sm) (codes "parser_error"))) (kind_of s (member error (codes "NoError")))))
      ∙ ap (λ b. valued (a_truth b) n) (not_first k)

  drops : n.stopped ≡ None → run w s no_label (drop_stmt sm) n ≡ mark_to_drop (whole of_standard) (ticked n)
  drops runs =
      ap (λ b. cond b n (named_call w s (sort_of s (codes "mark_to_drop")) (codes "mark_to_drop") (argument no_arguments (name sm)) (ticked n))) (ap is_some runs)
      ∙ ap (λ (z : Sort). named_call w s z (codes "mark_to_drop") (argument no_arguments (name sm)) (ticked n)) guards.function
      ∙ ap (λ (z : Sort). let x = arguments w s (wanted_by (sort_signature z (codes "mark_to_drop"))) (argument no_arguments (name sm)) (ticked n) in function_call (codes "mark_to_drop") x.given x.moment) guards.function
      ∙ ap (λ (r : Reference). mark_to_drop r (ticked n)) sm_named

-- the packet is marked
marked : (f : Frame) (k : ℕ) → member_in f.standard (codes "egress_spec") ≡ a_number 9 k → (write_number (stepped (whole of_standard) (to_member (codes "egress_spec"))) drop_port f).standard ≡ with_member f.standard (codes "egress_spec") (a_number 9 drop_port)
marked f k was =
    let there : is_there (member_in f.standard (codes "egress_spec")) ≡ true = ap is_there was in
    ap (λ v. with_part f.standard (to_member (codes "egress_spec")) (fitted v (a_number (width_in v) drop_port))) (part_is f.standard (codes "egress_spec") there ∙ was)
    ∙ ap (λ j. with_part f.standard (to_member (codes "egress_spec")) (a_number 9 j)) fits
    ∙ put_is f.standard (codes "egress_spec") (a_number 9 drop_port) there
  where
    fits : drop_port % 2 ^ 9 ≡ drop_port
    fits = omega arith

-- no variables are left
closed_empty : (m n : Moment) → n.frame.inner ≡ no_members → m.frame.inner ≡ no_members → (closed m n).frame.inner ≡ no_members
closed_empty m n a b = ap₂ (λ x y. without (variable_count x - variable_count y) x) a b

-- a guard whose test doesn't hold
pub record FailsTest (w : World) (s : Scope) (test : Exp16) (n : Moment) : Type 0 where
  pub told : Value
  pub is : value_of w s (value boolean) test n ≡ valued told n
  pub wrong : is_true told ≡ false

pub guard_idle : (w : World) (s : Scope) (sm type : Name) → Guards w s sm type → (test : Exp16) (inside : Stmt16) (m : Moment) → m.stopped ≡ None → IsAny m.frame → FailsTest w s test (ticked m) → Idle m (run w s no_label (if_else test inside (drop_stmt sm)) m)
guard_idle w s sm type guards test inside m runs any fails =
    let n = ticked m in
    let goes : run w s no_label (if_else test inside (drop_stmt sm)) m ≡ closed m (mark_to_drop (whole of_standard) (ticked n)) =
    ap (λ b. cond b m (let x = condition w s test n in closed m (cond (is_true x.value) (run w s no_label inside x.moment) (run w s no_label (drop_stmt sm) x.moment)))) (ap is_some runs)
    ∙ ap (λ (x : Valued). closed m (cond (is_true x.value) (run w s no_label inside x.moment) (run w s no_label (drop_stmt sm) x.moment))) fails.is
    ∙ ap (λ b. closed m (cond b (run w s no_label inside n) (run w s no_label (drop_stmt sm) n))) fails.wrong
    ∙ ap (closed m) (drops w s sm type guards n any.inner runs) in
    let put = marked m.frame (any.numbers EgressSpec).0 (any.numbers EgressSpec).1 in
    let same : member_in (with_member m.frame.standard (codes "egress_spec") (a_number 9 drop_port)) (codes "egress_spec") ≡ a_number 9 drop_port = member_same m.frame.standard (codes "egress_spec") (a_number 9 drop_port) (ap is_there (any.numbers EgressSpec).1) in
    record {
      store = ap (λ (z : Moment). z.store) goes;
      events = ap (λ (z : Moment). z.frame.events) goes;
      requests = λ kind. ap (λ (z : Moment). request_of z.frame kind) goes ∙ requests_by16 (closed m (mark_to_drop (whole of_standard) (ticked n))).frame m.frame refl refl refl refl kind;
      port = ap (λ (z : Moment). egress_spec z.frame) goes
          ∙ ap (λ v. number_in (part_of v (to_member (codes "egress_spec")))) put
          ∙ ap number_in (part_is (with_member m.frame.standard (codes "egress_spec") (a_number 9 drop_port)) (codes "egress_spec") (ap is_there same) ∙ same);
    }

pub egress_idle : (w : World) (s : Scope) (sm type : Name) → Guards w s sm type → (inside : Stmt16) (m : Moment) → m.stopped ≡ None → IsAny m.frame → (k : ℕ) → ErrorIs m.frame (suc k) → Idle m (run w s no_label (if_else (no_error_exp sm) inside (drop_stmt sm)) m)
egress_idle w s sm type guards inside m runs any k wrong =
    guard_idle w s sm type guards (no_error_exp sm) inside m runs any
    (record { told = a_truth false; is = fails_test w s sm type guards (ticked m) any.inner k wrong (value boolean); wrong = refl })

-- the guard of ingress asks for the sums, too

abbrev pub no_sum_exp : Name → Exp16
no_sum_exp sm = binary Equal (member (name sm) (codes "checksum_error")) (literal (sized 1 0))

abbrev pub both_exp : Name → Exp16
both_exp sm = binary And (no_error_exp sm) (no_sum_exp sm)

module _ (w : World) (s : Scope) (sm type : Name) (guards : Guards w s sm type) (n : Moment) (inner : n.frame.inner ≡ no_members) where
  abbrev error_test : Value
  error_test = binary_value Equal (part_of n.frame.standard (to_member (codes "parser_error"))) (an_error 0)

  error_told : (q : Place) → value_of w s q (no_error_exp sm) n ≡ valued error_test n
  error_told q =
      ap₂ (λ (z : Kind) (r : Reference). let x = member_value z (codes "parser_error") (valued (read n.frame r) n) in let y = value_of w s (right_place q Equal (kind_of s (member (name sm) (codes "parser_error"))) (kind_of s (member error (codes "NoError")))) (member error (codes "NoError")) x.moment in valued (binary_value Equal x.value y.value) y.moment)
      guards.kind (sm_named w s sm type guards n inner)

  sum_fails : ChecksumIs n.frame 1 → (q : Place) → value_of w s q (no_sum_exp sm) n ≡ valued (a_truth false) n
  sum_fails is q =
      ap₂ (λ (z : Kind) (r : Reference). let x = member_value z (codes "checksum_error") (valued (read n.frame r) n) in valued (binary_value Equal x.value (a_number 1 (0 % 2 ^ 1))) x.moment)
      guards.kind (sm_named w s sm type guards n inner)
      ∙ ap (λ v. valued (binary_value Equal v (a_number 1 (0 % 2 ^ 1))) n) (part_is n.frame.standard (codes "checksum_error") (ap is_there is) ∙ is)

  both_is : value_of w s (value boolean) (both_exp sm) n ≡ (let z : Valued = cond (is_true error_test) (value_of w s (value boolean) (no_sum_exp sm) n) (valued error_test n) in z)
  both_is = ap (λ (x : Valued). let z : Valued = cond (is_true x.value) (value_of w s (value boolean) (no_sum_exp sm) x.moment) x in z) (error_told (value boolean))

  sum_wrong : ChecksumIs n.frame 1 → FailsTest w s (both_exp sm) n
  sum_wrong sum = by (is_true error_test) refl where
    by : (b : Bool) → is_true error_test ≡ b → FailsTest w s (both_exp sm) n
    by true e = record {
      told = a_truth false;
      is = both_is ∙ ap (λ b. let z : Valued = cond b (value_of w s (value boolean) (no_sum_exp sm) n) (valued error_test n) in z) e ∙ sum_fails sum (value boolean);
      wrong = refl;
    }
    by false e = record {
      told = error_test;
      is = both_is ∙ ap (λ b. let z : Valued = cond b (value_of w s (value boolean) (no_sum_exp sm) n) (valued error_test n) in z) e;
      wrong = e;
    }

  error_wrong : (k : ℕ) → ErrorIs n.frame (suc k) → FailsTest w s (both_exp sm) n
  error_wrong k is = record {
    told = a_truth false;
    is = ap (λ (x : Valued). let z : Valued = cond (is_true x.value) (value_of w s (value boolean) (no_sum_exp sm) x.moment) x in z) (fails_test w s sm type guards n inner k is (value boolean));
    wrong = refl;
  }

pub ingress_idle : (w : World) (s : Scope) (sm type : Name) → Guards w s sm type → (inside : Stmt16) (m : Moment) → m.stopped ≡ None → IsAny m.frame → (((k : ℕ) × ErrorIs m.frame (suc k)) ⊎ ChecksumIs m.frame 1) → Idle m (run w s no_label (if_else (both_exp sm) inside (drop_stmt sm)) m)
ingress_idle w s sm type guards inside m runs any (inl wrong) = guard_idle w s sm type guards (both_exp sm) inside m runs any (error_wrong w s sm type guards (ticked m) any.inner wrong.0 wrong.1)
ingress_idle w s sm type guards inside m runs any (inr sum) = guard_idle w s sm type guards (both_exp sm) inside m runs any (sum_wrong w s sm type guards (ticked m) any.inner sum)
