-- What the two passes build of an expression is what is asked of it.
use Rattle.std.proofs.Common.{◌≡◌, ℕ, Bool, true, false, Option, None, List, [], ◌∷◌, ◌++◌, refl, sym, ap, ◌∙◌}
use Rattle.std.proofs.lemmas.List.{append_assoc, append-nil}
use Rattle.std.specs.Prelude.{suc, ◌-◌, ◌||◌, if◌then◌else◌, option_map, codes}
use Rattle.std.specs.Str.{bytes_eq}
use Rattle.p416_syntax.specs.Tree.{Exp16, literal, truth, error, name, member, index, slice, call, lookahead, cast, unary, binary, choice, parenthesized, no_arguments, argument, listed}
use Rattle.p416_syntax.specs.Subtrees.{subexpressions}
use Rattle.p416_syntax.specs.declared.node.CastType.{CastType}
use Rattle.p416_syntax.specs.declared.node.CastType.TheVariants as cast_to
use Rattle.p416_syntax.specs.Names.{Name}
use Rattle.p416_syntax.specs.Kinds as kind
use Rattle.p416_syntax.specs.Kinds.{Kind}
use Rattle.p416_syntax.specs.Scopes.{Scope, kind_of_type}
use Rattle.p416_syntax.specs.Calls.{Place, value, any_bits, owner, a_stack}
use Rattle.p416_syntax.specs.Expressions.{kind_of}
use Rattle.p416_syntax.specs.Uses.{unary_place, left_place, right_place, cast_place, chosen_place}
use Rattle.p416_typing.specs.Rows.{row_of}
use Rattle.v1_core.specs.Ready as ready
use Rattle.v1_core.specs.Ready.{Ready}
use Rattle.v1_core.specs.Values.{an_error}
use Rattle.v1_core.specs.Expressions.{name_in, number_of_error}
use Rattle.v1_ready_forms.specs.Named.{NamedSeat}
use Rattle.v1_ready_forms.specs.Ways.{Way, its_value, its_validity, through_member, through_element, through_told, which_of}
use Rattle.v1_ready_forms.specs.Expressions.{asked_ready}
use Rattle.v1_ready_blocks.specs.declared.nodes.Single.TheVariants as single
use Rattle.v1_ready_blocks.specs.Tests.{Test, plain, hits, misses, alone, choice as test_choice}
use Rattle.v1_ready_program.specs.internal.Passes.{Ask, passed, asked, called, Plan, nothing, leaf, same, sliced, unary_by, binary_by, choice_by, member_asks, validity_asked, method_asks, alone_by, if_error, member_plan, lookahead_plan, cast_plan, is_alone, planned, plans, first_of, parts_in, made, built_step, built, ready_by}
use Rattle.v1_ready_program.proofs.Building as ready_building
use Rattle.v1_ready_statements.specs.Tested.{is_applied, is_application, applies, with_two, with_three, only_value, applied_test, slice_test, cast_test, binary_test, part_test, member_test, method_test, asked_test}
use Rattle.v1_ready_tests.specs.internal.Passes.{applied_call, marked, marked_plans, Made, plainly, as_ready, as_test, is_table, MadeParts, only_made, told_test, told_alone, member_by_plan, test_by_plan, made_step, all_made, test_by, chosen_made, made_by}
use Rattle.v1_ready_tests.proofs.Choosing.{applied_raw, unapplied, second_false, as_chosen, nothing_ready, of_one, of_two, of_three, of_call}

-- plans of tests

alone_tested : (way : Way) (plan : Plan) (x : MadeParts) → test_by_plan (alone_by way plan) x ≡ only_value way (test_by_plan plan x)
alone_tested its_value plan x = refl
alone_tested its_validity plan x = refl
alone_tested (through_member w way) plan x = refl
alone_tested (through_element n way) plan x = refl
alone_tested (through_told which way) plan x = refl

cast_tested : (to : CastType) (x : MadeParts) → test_by_plan (cast_plan to) x ≡ option_map (cast_test to) (as_test x.first)
cast_tested (cast_to.Bit w) x = refl
cast_tested cast_to.Bool x = refl

nothing_alone : (way : Way) (r : Ready) (x : MadeParts) → test_by_plan (alone_by way (leaf r)) x ≡ None
nothing_alone its_value r x = refl
nothing_alone its_validity r x = refl
nothing_alone (through_member w way) r x = refl
nothing_alone (through_element n way) r x = refl
nothing_alone (through_told which way) r x = refl

error_tested : (e : Exp16) (plan : Plan) (x : MadeParts) → test_by_plan plan x ≡ None → test_by_plan (if_error e plan) x ≡ None
error_tested (literal n) plan x is = refl
error_tested (truth b) plan x is = refl
error_tested error plan x is = is
error_tested (name text) plan x is = refl
error_tested (member f word) plan x is = refl
error_tested (index f at) plan x is = refl
error_tested (slice f high low) plan x is = refl
error_tested (call f given) plan x is = refl
error_tested (lookahead f to given) plan x is = refl
error_tested (cast to f) plan x is = refl
error_tested (unary operator f) plan x is = refl
error_tested (binary operator a b) plan x is = refl
error_tested (choice c a b) plan x is = refl
error_tested (parenthesized f) plan x is = refl
error_tested no_arguments plan x is = refl
error_tested (argument before last) plan x is = refl
error_tested (listed es) plan x is = refl

-- what an application tells

told_if : (b : Bool) (t : Option ℕ) → option_map (λ table. if b then hits table else misses table) t ≡ option_map (if b then hits else misses) t
told_if true t = refl
told_if false t = refl

told_same : (tables : Name → Option ℕ) (e : Exp16) (word : Name) → told_test tables e word ≡ applied_test tables e word
told_same tables (literal n) w = refl
told_same tables (truth b) w = refl
told_same tables error w = refl
told_same tables (name text) w = refl
told_same tables (member f x) w = refl
told_same tables (index f at) w = refl
told_same tables (slice f high low) w = refl
told_same tables (lookahead f to given) w = refl
told_same tables (cast to f) w = refl
told_same tables (unary operator f) w = refl
told_same tables (binary operator a b) w = refl
told_same tables (choice c a b) w = refl
told_same tables (parenthesized f) w = refl
told_same tables no_arguments w = refl
told_same tables (argument before last) w = refl
told_same tables (listed es) w = refl
told_same tables (call (literal n) given) w = refl
told_same tables (call (truth b) given) w = refl
told_same tables (call error given) w = refl
told_same tables (call (name text) given) w = refl
told_same tables (call (index g at) given) w = refl
told_same tables (call (slice g high low) given) w = refl
told_same tables (call (call g inner) given) w = refl
told_same tables (call (lookahead g to inner) given) w = refl
told_same tables (call (cast to g) given) w = refl
told_same tables (call (unary operator g) given) w = refl
told_same tables (call (binary operator a b) given) w = refl
told_same tables (call (choice c a b) given) w = refl
told_same tables (call (parenthesized g) given) w = refl
told_same tables (call no_arguments given) w = refl
told_same tables (call (argument before last) given) w = refl
told_same tables (call (listed es) given) w = refl
told_same tables (call (member t word) given) w = told_if (bytes_eq w (codes "hit")) (tables (name_in t))

told_by_way : (tables : Name → Option ℕ) (way : Way) (e : Exp16) (word : Name) → told_alone tables (is_alone way) e word ≡ only_value way (applied_test tables e word)
told_by_way tables its_value e word = told_same tables e word
told_by_way tables its_validity e word = refl
told_by_way tables (through_member w way) e word = refl
told_by_way tables (through_element n way) e word = refl
told_by_way tables (through_told which way) e word = refl

-- an application has no method that is asked
no_method : (k : Kind) (way : Way) (of : Way → Option Test) → is_applied k ≡ true → None ≡ method_test k way of
no_method (kind.bits w) way of is = absurd (cc is)
no_method kind.unsized way of is = absurd (cc is)
no_method kind.boolean way of is = absurd (cc is)
no_method kind.error_code way of is = absurd (cc is)
no_method (kind.header type) way of is = absurd (cc is)
no_method (kind.stack type size) way of is = absurd (cc is)
no_method (kind.struct type) way of is = absurd (cc is)
no_method kind.packet_in way of is = absurd (cc is)
no_method kind.packet_out way of is = absurd (cc is)
no_method kind.errors way of is = absurd (cc is)
no_method (kind.enumeration x) way of is = absurd (cc is)
no_method (kind.one_of x) way of is = absurd (cc is)
no_method kind.table way of is = absurd (cc is)
no_method kind.applied way of is = refl
no_method (kind.object x) way of is = absurd (cc is)
no_method kind.items way of is = absurd (cc is)
no_method kind.nothing way of is = absurd (cc is)
no_method kind.unknown way of is = absurd (cc is)

application_of : (s : Scope) (e : Exp16) → applied_call e (kind_of s e) ≡ is_application s e
application_of s (literal n) = refl
application_of s (truth b) = refl
application_of s error = refl
application_of s (name text) = refl
application_of s (member f word) = refl
application_of s (index f at) = refl
application_of s (slice f high low) = refl
application_of s (call f given) = refl
application_of s (lookahead f to given) = refl
application_of s (cast to f) = refl
application_of s (unary operator f) = refl
application_of s (binary operator a b) = refl
application_of s (choice c a b) = refl
application_of s (parenthesized f) = refl
application_of s no_arguments = refl
application_of s (argument before last) = refl
application_of s (listed es) = refl

applied_kind : (s : Scope) (e : Exp16) → is_application s e ≡ true → is_applied (kind_of s e) ≡ true
applied_kind s (literal n) is = absurd (cc is)
applied_kind s (truth b) is = absurd (cc is)
applied_kind s error is = absurd (cc is)
applied_kind s (name text) is = absurd (cc is)
applied_kind s (member f word) is = absurd (cc is)
applied_kind s (index f at) is = absurd (cc is)
applied_kind s (slice f high low) is = absurd (cc is)
applied_kind s (call f given) is = is
applied_kind s (lookahead f to given) is = absurd (cc is)
applied_kind s (cast to f) is = absurd (cc is)
applied_kind s (unary operator f) is = absurd (cc is)
applied_kind s (binary operator a b) is = absurd (cc is)
applied_kind s (choice c a b) is = absurd (cc is)
applied_kind s (parenthesized f) is = absurd (cc is)
applied_kind s no_arguments is = absurd (cc is)
applied_kind s (argument before last) is = absurd (cc is)
applied_kind s (listed es) is = absurd (cc is)

module _ (s : Scope) (seats : List NamedSeat) (tables : Name → Option ℕ) where
  abbrev after : List Ask → List Exp16 → List Made
  after qs es = all_made tables (marked_plans s seats qs es) es

  abbrev of : Ask → Exp16 → Made
  of q e = made_by s seats tables q e

  abbrev r_of : Ask → Exp16 → Option Ready
  r_of q e = ready_by s seats q e

  abbrev t_of : Ask → Exp16 → Option Test
  t_of q e = test_by s seats tables q e

  abbrev Builds : Exp16 → Type 0
  Builds e = (q : Ask) (qs : List Ask) (more : List Exp16) → after (q ∷ qs) (subexpressions e ++ more) ≡ of q e ∷ after qs more

  -- parts, one behind another

  two : (a b : Exp16) → Builds a → Builds b → (p q : Ask) (qs : List Ask) (more : List Exp16) → after (p ∷ q ∷ qs) ((subexpressions a ++ subexpressions b) ++ more) ≡ of p a ∷ of q b ∷ after qs more
  two a b of_a of_b p q qs more =
      ap (after (p ∷ q ∷ qs)) (append_assoc (subexpressions a) (subexpressions b) more)
      ∙ (of_a p (q ∷ qs) (subexpressions b ++ more) ∙ ap (λ vs. of p a ∷ vs) (of_b q qs more))

  three : (c a b : Exp16) → Builds c → Builds a → Builds b → (o p q : Ask) (qs : List Ask) (more : List Exp16)
      → after (o ∷ p ∷ q ∷ qs) ((subexpressions c ++ subexpressions a ++ subexpressions b) ++ more) ≡ of o c ∷ of p a ∷ of q b ∷ after qs more
  three c a b of_c of_a of_b o p q qs more =
      ap (λ es. after (o ∷ p ∷ q ∷ qs) (es ++ more)) (append_assoc (subexpressions c) (subexpressions a) (subexpressions b))
      ∙ (ap (after (o ∷ p ∷ q ∷ qs)) (append_assoc (subexpressions c) (subexpressions a ++ subexpressions b) more)
      ∙ (of_c o (p ∷ q ∷ qs) ((subexpressions a ++ subexpressions b) ++ more)
      ∙ ap (λ vs. of o c ∷ vs) (two a b of_a of_b p q qs more)))

  -- the ready expression of an expression with these parts

  abbrev ready_after : List Ask → List Exp16 → List (Option Ready)
  ready_after qs es = built (plans s seats qs es) es

  abbrev plan_of : Ask → Exp16 → Plan
  plan_of q f = planned s seats (row_of s f) q f

  leaf_ready : (f : Exp16) (q : Ask) → ready_after (q ∷ []) (subexpressions f ++ []) ≡ built_step (plan_of q f) f [] → made (plan_of q f) (parts_in f []) ≡ r_of q f
  leaf_ready f q is = ap first_of (sym is ∙ ready_building.builds s seats f q [] [])

  one_ready : (f e : Exp16) (q p : Ask) → ready_after (q ∷ []) (subexpressions f ++ []) ≡ built_step (plan_of q f) f (ready_after (p ∷ []) (subexpressions e ++ []))
      → made (plan_of q f) (parts_in f (r_of p e ∷ [])) ≡ r_of q f
  one_ready f e q p is =
      ap first_of (ap (built_step (plan_of q f) f) (sym (ready_building.builds s seats e p [] [])) ∙ (sym is ∙ ready_building.builds s seats f q [] []))

  two_ready : (f a b : Exp16) (q p p2 : Ask) → ready_after (q ∷ []) (subexpressions f ++ []) ≡ built_step (plan_of q f) f (ready_after (p ∷ p2 ∷ []) ((subexpressions a ++ subexpressions b) ++ []))
      → made (plan_of q f) (parts_in f (r_of p a ∷ r_of p2 b ∷ [])) ≡ r_of q f
  two_ready f a b q p p2 is =
      ap first_of
      (ap (built_step (plan_of q f) f) (sym (ready_building.two s seats a b (ready_building.builds s seats a) (ready_building.builds s seats b) p p2 [] []))
      ∙ (sym is ∙ ready_building.builds s seats f q [] []))

  three_ready : (f c a b : Exp16) (q p p2 p3 : Ask)
      → ready_after (q ∷ []) (subexpressions f ++ []) ≡ built_step (plan_of q f) f (ready_after (p ∷ p2 ∷ p3 ∷ []) ((subexpressions c ++ subexpressions a ++ subexpressions b) ++ []))
      → made (plan_of q f) (parts_in f (r_of p c ∷ r_of p2 a ∷ r_of p3 b ∷ [])) ≡ r_of q f
  three_ready f c a b q p p2 p3 is =
      ap first_of
      (ap (built_step (plan_of q f) f)
      (sym (ready_building.three s seats c a b (ready_building.builds s seats c) (ready_building.builds s seats a) (ready_building.builds s seats b) p p2 p3 [] []))
      ∙ (sym is ∙ ready_building.builds s seats f q [] []))

  -- where no table is applied the test is plain

  plain_asked : (e : Exp16) (p : Place) (way : Way) → applies s e ≡ false → asked_test s seats tables p way e ≡ option_map plain (asked_ready s seats p way e)
  plain_asked (literal n) p way is = refl
  plain_asked (truth b) p way is = refl
  plain_asked error p way is = refl
  plain_asked (name text) p way is = refl
  plain_asked (member e word) p way is =
      unapplied (applies s e) (asked_ready s seats p way (member e word))
      (member_test (is_application s e) (only_value way (applied_test tables e word)) (part_test (kind_of s e) word way (λ further. asked_test s seats tables owner further e))) is
  plain_asked (index e at) p way is =
      unapplied (applies s e) (asked_ready s seats p way (index e at)) (asked_test s seats tables a_stack (through_element at.value way) e) is
  plain_asked (slice e high low) p way is =
      unapplied (applies s e) (asked_ready s seats p way (slice e high low)) (only_value way (option_map (slice_test high low) (asked_test s seats tables any_bits its_value e))) is
  plain_asked (call (literal n) given) p way is = refl
  plain_asked (call (truth b) given) p way is = refl
  plain_asked (call error given) p way is = refl
  plain_asked (call (name text) given) p way is = refl
  plain_asked (call (index g at) given) p way is = refl
  plain_asked (call (slice g high low) given) p way is = refl
  plain_asked (call (call g inner) given) p way is = refl
  plain_asked (call (lookahead g to inner) given) p way is = refl
  plain_asked (call (cast to g) given) p way is = refl
  plain_asked (call (unary operator g) given) p way is = refl
  plain_asked (call (binary operator a b) given) p way is = refl
  plain_asked (call (choice c a b) given) p way is = refl
  plain_asked (call (parenthesized g) given) p way is = refl
  plain_asked (call no_arguments given) p way is = refl
  plain_asked (call (argument before last) given) p way is = refl
  plain_asked (call (listed es) given) p way is = refl
  plain_asked (call (member e word) given) p way is =
      unapplied (applies s e) (asked_ready s seats p way (call (member e word) given)) (method_test (kind_of s e) way (λ further. asked_test s seats tables owner further e))
      (second_false (is_application s (call (member e word) given)) (applies s e) is)
  plain_asked (lookahead e to given) p way is = refl
  plain_asked (cast to e) p way is =
      unapplied (applies s e) (asked_ready s seats p way (cast to e)) (only_value way (option_map (cast_test to) (asked_test s seats tables (cast_place to) its_value e))) is
  plain_asked (unary operator e) p way is =
      unapplied (applies s e) (asked_ready s seats p way (unary operator e))
      (only_value way (option_map (alone (single.Operator operator)) (asked_test s seats tables (unary_place p operator (kind_of s e)) its_value e))) is
  plain_asked (binary operator a b) p way is =
      unapplied (applies s a || applies s b) (asked_ready s seats p way (binary operator a b))
      (only_value way (with_two (binary_test operator) (asked_test s seats tables (left_place p operator (kind_of s a) (kind_of s b)) its_value a) (asked_test s seats tables (right_place p operator (kind_of s a) (kind_of s b)) its_value b))) is
  plain_asked (choice c a b) p way is =
      unapplied (applies s c || applies s a || applies s b) (asked_ready s seats p way (choice c a b))
      (with_three test_choice (asked_test s seats tables (value kind.boolean) its_value c) (asked_test s seats tables (chosen_place p (kind_of s a) (kind_of s b)) way a)
      (asked_test s seats tables (chosen_place p (kind_of s a) (kind_of s b)) way b)) is
  plain_asked (parenthesized e) p way is = refl
  plain_asked no_arguments p way is = refl
  plain_asked (argument before last) p way is = refl
  plain_asked (listed es) p way is = refl

  plain_called : (e : Exp16) (way : Way) → applies s e ≡ false → asked_test s seats tables any_bits way (call e e) ≡ option_map plain (asked_ready s seats any_bits way (call e e))
  plain_called (literal n) way is = refl
  plain_called (truth b) way is = refl
  plain_called error way is = refl
  plain_called (name text) way is = refl
  plain_called (index g at) way is = refl
  plain_called (slice g high low) way is = refl
  plain_called (call g inner) way is = refl
  plain_called (lookahead g to inner) way is = refl
  plain_called (cast to g) way is = refl
  plain_called (unary operator g) way is = refl
  plain_called (binary operator a b) way is = refl
  plain_called (choice c a b) way is = refl
  plain_called (parenthesized g) way is = refl
  plain_called no_arguments way is = refl
  plain_called (argument before last) way is = refl
  plain_called (listed es) way is = refl
  plain_called (member e word) way is =
      unapplied (applies s e) (asked_ready s seats any_bits way (call (member e word) (member e word))) (method_test (kind_of s e) way (λ further. asked_test s seats tables owner further e)) is

  plain_by : (q : Ask) (e : Exp16) → applies s e ≡ false → t_of q e ≡ option_map plain (r_of q e)
  plain_by passed e is = refl
  plain_by (asked p way) e is = plain_asked e p way is
  plain_by (called way) e is = plain_called e way is

  test_is : (q : Ask) (e : Exp16) → as_test (of q e) ≡ t_of q e
  test_is q e = as_chosen (applies s e) (is_application s e) (r_of q e) (t_of q e) (plain_by q e)

  -- members, methods and calls

  part_is : (k : Kind) (word : Name) (way : Way) (e : Exp16)
      → test_by_plan (member_plan k e word way) (only_made (of (member_asks k word way) e)) ≡ part_test k word way (λ further. asked_test s seats tables owner further e)
  part_is (kind.bits w) word way e = test_is (asked owner (through_member word way)) e
  part_is kind.unsized word way e = test_is (asked owner (through_member word way)) e
  part_is kind.boolean word way e = test_is (asked owner (through_member word way)) e
  part_is kind.error_code word way e = test_is (asked owner (through_member word way)) e
  part_is (kind.header type) word way e = test_is (asked owner (through_member word way)) e
  part_is (kind.stack type size) word way e = test_is (asked owner (through_told (which_of word) way)) e
  part_is (kind.struct type) word way e = test_is (asked owner (through_member word way)) e
  part_is kind.packet_in word way e = test_is (asked owner (through_member word way)) e
  part_is kind.packet_out word way e = test_is (asked owner (through_member word way)) e
  part_is kind.errors word way e =
      error_tested e (alone_by way (leaf (ready.constant (an_error (number_of_error word))))) (only_made (of passed e))
      (nothing_alone way (ready.constant (an_error (number_of_error word))) (only_made (of passed e)))
  part_is (kind.enumeration x) word way e = refl
  part_is (kind.one_of x) word way e = test_is (asked owner (through_member word way)) e
  part_is kind.table word way e = test_is (asked owner (through_member word way)) e
  part_is kind.applied word way e = test_is (asked owner (through_member word way)) e
  part_is (kind.object x) word way e = test_is (asked owner (through_member word way)) e
  part_is kind.items word way e = test_is (asked owner (through_member word way)) e
  part_is kind.nothing word way e = test_is (asked owner (through_member word way)) e
  part_is kind.unknown word way e = test_is (asked owner (through_member word way)) e

  validity_is : (way : Way) (e : Exp16) → as_test (of (validity_asked way) e) ≡ only_value way (asked_test s seats tables owner its_validity e)
  validity_is its_value e = test_is (asked owner its_validity) e
  validity_is its_validity e = test_is passed e
  validity_is (through_member w way) e = test_is passed e
  validity_is (through_element n way) e = test_is passed e
  validity_is (through_told which way) e = test_is passed e

  method_is : (k : Kind) (way : Way) (e : Exp16) → as_test (of (method_asks k way) e) ≡ method_test k way (λ further. asked_test s seats tables owner further e)
  method_is (kind.bits w) way e = test_is passed e
  method_is kind.unsized way e = test_is passed e
  method_is kind.boolean way e = test_is passed e
  method_is kind.error_code way e = test_is passed e
  method_is (kind.header type) way e = validity_is way e
  method_is (kind.stack type size) way e = test_is passed e
  method_is (kind.struct type) way e = test_is passed e
  method_is kind.packet_in way e = test_is passed e
  method_is kind.packet_out way e = test_is passed e
  method_is kind.errors way e = test_is passed e
  method_is (kind.enumeration x) way e = test_is passed e
  method_is (kind.one_of x) way e = test_is passed e
  method_is kind.table way e = test_is passed e
  method_is kind.applied way e = test_is passed e
  method_is (kind.object x) way e = test_is passed e
  method_is kind.items way e = test_is passed e
  method_is kind.nothing way e = test_is passed e
  method_is kind.unknown way e = test_is passed e

  member_is : (own has : Bool) (way : Way) (e : Exp16) (word : Name) (x : Option Test) (r : Option Ready) (t : Option Test) → has ≡ true → x ≡ part_test (kind_of s e) word way (λ further. asked_test s seats tables owner further e)
      → member_by_plan tables (is_alone way) (is_table (chosen_made has own r t)) e word x
      ≡ member_test own (only_value way (applied_test tables e word)) (part_test (kind_of s e) word way (λ further. asked_test s seats tables owner further e))
  member_is true true way e word x r t has_it part = told_by_way tables way e word
  member_is false true way e word x r t has_it part = part
  member_is own false way e word x r t has_it part = absurd (cc has_it)

  callee_is : (own has : Bool) (way : Way) (e : Exp16) (word : Name) (x : Option Test) (r : Option Ready) (t : Option Test) → (own ≡ true → is_applied (kind_of s e) ≡ true) → has ≡ true
      → x ≡ method_test (kind_of s e) way (λ further. asked_test s seats tables owner further e)
      → member_by_plan tables false (is_table (chosen_made has own r t)) e word x ≡ method_test (kind_of s e) way (λ further. asked_test s seats tables owner further e)
  callee_is true true way e word x r t applied has_it method = no_method (kind_of s e) way (λ further. asked_test s seats tables owner further e) (applied refl)
  callee_is false true way e word x r t applied has_it method = method
  callee_is own false way e word x r t applied has_it method = absurd (cc has_it)

  not_asked : (own has : Bool) (e : Exp16) (word : Name) (r : Option Ready) (t : Option Test) → member_by_plan tables false (is_table (chosen_made has own r t)) e word None ≡ None
  not_asked true true e word r t = refl
  not_asked false true e word r t = refl
  not_asked own false e word r t = refl

  -- the place of a call and its arguments don't matter
  call_same : (e given : Exp16) (p : Place) (way : Way) → asked_test s seats tables any_bits way (call e e) ≡ asked_test s seats tables p way (call e given)
  call_same (literal n) given p way = refl
  call_same (truth b) given p way = refl
  call_same error given p way = refl
  call_same (name text) given p way = refl
  call_same (index g at) given p way = refl
  call_same (slice g high low) given p way = refl
  call_same (call g inner) given p way = refl
  call_same (lookahead g to inner) given p way = refl
  call_same (cast to g) given p way = refl
  call_same (unary operator g) given p way = refl
  call_same (binary operator a b) given p way = refl
  call_same (choice c a b) given p way = refl
  call_same (parenthesized g) given p way = refl
  call_same no_arguments given p way = refl
  call_same (argument before last) given p way = refl
  call_same (listed es) given p way = refl
  call_same (member e word) given p way = refl

  -- an expression whose parts are built
  abbrev step : Ask → Exp16 → List Made → List Made
  step q e vs = made_step tables (marked s seats q e) e vs

  abbrev in_front : List Ask → List Exp16 → Made → List Made
  in_front qs more v = v ∷ after qs more

  pub builds : (e : Exp16) → Builds e
  builds (literal n) passed qs more = ap (λ r. in_front qs more (plainly r)) (leaf_ready (literal n) passed refl)
  builds (literal n) (asked p way) qs more = ap (λ r. in_front qs more (plainly r)) (leaf_ready (literal n) (asked p way) refl)
  builds (literal n) (called way) qs more = ap (λ r. in_front qs more (plainly r)) (leaf_ready (literal n) (called way) refl)
  builds (truth b) passed qs more = ap (λ r. in_front qs more (plainly r)) (leaf_ready (truth b) passed refl)
  builds (truth b) (asked p way) qs more = ap (λ r. in_front qs more (plainly r)) (leaf_ready (truth b) (asked p way) refl)
  builds (truth b) (called way) qs more = ap (λ r. in_front qs more (plainly r)) (leaf_ready (truth b) (called way) refl)
  builds error passed qs more = ap (λ r. in_front qs more (plainly r)) (leaf_ready error passed refl)
  builds error (asked p way) qs more = ap (λ r. in_front qs more (plainly r)) (leaf_ready error (asked p way) refl)
  builds error (called way) qs more = ap (λ r. in_front qs more (plainly r)) (leaf_ready error (called way) refl)
  builds (name text) passed qs more = ap (λ r. in_front qs more (plainly r)) (leaf_ready (name text) passed refl)
  builds (name text) (asked p way) qs more = ap (λ r. in_front qs more (plainly r)) (leaf_ready (name text) (asked p way) refl)
  builds (name text) (called way) qs more = ap (λ r. in_front qs more (plainly r)) (leaf_ready (name text) (called way) refl)
  builds no_arguments passed qs more = ap (λ r. in_front qs more (plainly r)) (leaf_ready no_arguments passed refl)
  builds no_arguments (asked p way) qs more = ap (λ r. in_front qs more (plainly r)) (leaf_ready no_arguments (asked p way) refl)
  builds no_arguments (called way) qs more = ap (λ r. in_front qs more (plainly r)) (leaf_ready no_arguments (called way) refl)
  builds (member e word) passed qs more =
      ap (step passed (member e word)) (builds e passed qs more)
      ∙ ap (in_front qs more)
      (of_one (applies s e) (is_application s e) (r_of passed e) (r_of passed (member e word)) (t_of passed e) (t_of passed (member e word)) (member_by_plan tables false (is_table (of passed e)) e word None) nothing refl
      (λ has. not_asked (is_application s e) (applies s e) e word (r_of passed e) (t_of passed e)))
  builds (member e word) (asked p way) qs more =
      ap (step (asked p way) (member e word)) (builds e (member_asks (kind_of s e) word way) qs more)
      ∙ ap (in_front qs more)
      (of_one (applies s e) (is_application s e) (r_of (member_asks (kind_of s e) word way) e) (r_of (asked p way) (member e word)) (t_of (member_asks (kind_of s e) word way) e) (t_of (asked p way) (member e word)) (member_by_plan tables (is_alone way) (is_table (of (member_asks (kind_of s e) word way) e)) e word (test_by_plan (member_plan (kind_of s e) e word way) (only_made (of (member_asks (kind_of s e) word way) e)))) (member_plan (kind_of s e) e word way) (one_ready (member e word) e (asked p way) (member_asks (kind_of s e) word way) refl)
      (λ has. member_is (is_application s e) (applies s e) way e word (test_by_plan (member_plan (kind_of s e) e word way) (only_made (of (member_asks (kind_of s e) word way) e))) (r_of (member_asks (kind_of s e) word way) e) (t_of (member_asks (kind_of s e) word way) e) has (part_is (kind_of s e) word way e)
      ∙ applied_raw (applies s e) (r_of (asked p way) (member e word)) (member_test (is_application s e) (only_value way (applied_test tables e word)) (part_test (kind_of s e) word way (λ further. asked_test s seats tables owner further e))) has))
  builds (member e word) (called way) qs more =
      ap (step (called way) (member e word)) (builds e (method_asks (kind_of s e) way) qs more)
      ∙ ap (in_front qs more)
      (of_one (applies s e) (is_application s e) (r_of (method_asks (kind_of s e) way) e) (r_of (called way) (member e word)) (t_of (method_asks (kind_of s e) way) e) (t_of (called way) (member e word)) (member_by_plan tables false (is_table (of (method_asks (kind_of s e) way) e)) e word (as_test (of (method_asks (kind_of s e) way) e))) same (one_ready (member e word) e (called way) (method_asks (kind_of s e) way) refl)
      (λ has. callee_is (is_application s e) (applies s e) way e word (as_test (of (method_asks (kind_of s e) way) e)) (r_of (method_asks (kind_of s e) way) e) (t_of (method_asks (kind_of s e) way) e) (applied_kind s e) has (method_is (kind_of s e) way e)
      ∙ applied_raw (applies s e) (r_of (called way) (member e word)) (method_test (kind_of s e) way (λ further. asked_test s seats tables owner further e)) has))
  builds (index e at) passed qs more =
      ap (step passed (index e at)) (builds e passed qs more)
      ∙ ap (in_front qs more)
      (of_one (applies s e) (is_application s e) (r_of passed e) (r_of passed (index e at)) (t_of passed e) (t_of passed (index e at)) None nothing refl
      (λ has. refl))
  builds (index e at) (asked p way) qs more =
      ap (step (asked p way) (index e at)) (builds e (asked a_stack (through_element at.value way)) qs more)
      ∙ ap (in_front qs more)
      (of_one (applies s e) (is_application s e) (r_of (asked a_stack (through_element at.value way)) e) (r_of (asked p way) (index e at)) (t_of (asked a_stack (through_element at.value way)) e) (t_of (asked p way) (index e at)) (test_by_plan same (only_made (of (asked a_stack (through_element at.value way)) e))) same (one_ready (index e at) e (asked p way) (asked a_stack (through_element at.value way)) refl)
      (λ has. test_is (asked a_stack (through_element at.value way)) e
      ∙ applied_raw (applies s e) (r_of (asked p way) (index e at)) (t_of (asked a_stack (through_element at.value way)) e) has))
  builds (index e at) (called way) qs more =
      ap (step (called way) (index e at)) (builds e passed qs more)
      ∙ ap (in_front qs more)
      (of_one (applies s e) (is_application s e) (r_of passed e) (r_of (called way) (index e at)) (t_of passed e) (t_of (called way) (index e at)) None nothing refl
      (λ has. refl))
  builds (slice e high low) passed qs more =
      ap (step passed (slice e high low)) (builds e passed qs more)
      ∙ ap (in_front qs more)
      (of_one (applies s e) (is_application s e) (r_of passed e) (r_of passed (slice e high low)) (t_of passed e) (t_of passed (slice e high low)) None nothing refl
      (λ has. refl))
  builds (slice e high low) (asked p way) qs more =
      ap (step (asked p way) (slice e high low)) (builds e (asked any_bits its_value) qs more)
      ∙ ap (in_front qs more)
      (of_one (applies s e) (is_application s e) (r_of (asked any_bits its_value) e) (r_of (asked p way) (slice e high low)) (t_of (asked any_bits its_value) e) (t_of (asked p way) (slice e high low)) (test_by_plan (alone_by way (sliced low.value (suc high.value - low.value))) (only_made (of (asked any_bits its_value) e))) (alone_by way (sliced low.value (suc high.value - low.value))) (one_ready (slice e high low) e (asked p way) (asked any_bits its_value) refl)
      (λ has. alone_tested way (sliced low.value (suc high.value - low.value)) (only_made (of (asked any_bits its_value) e)) ∙ ap (λ t. only_value way (option_map (slice_test high low) t)) (test_is (asked any_bits its_value) e)
      ∙ applied_raw (applies s e) (r_of (asked p way) (slice e high low)) (only_value way (option_map (slice_test high low) (t_of (asked any_bits its_value) e))) has))
  builds (slice e high low) (called way) qs more =
      ap (step (called way) (slice e high low)) (builds e passed qs more)
      ∙ ap (in_front qs more)
      (of_one (applies s e) (is_application s e) (r_of passed e) (r_of (called way) (slice e high low)) (t_of passed e) (t_of (called way) (slice e high low)) None nothing refl
      (λ has. refl))
  builds (cast to e) passed qs more =
      ap (step passed (cast to e)) (builds e passed qs more)
      ∙ ap (in_front qs more)
      (of_one (applies s e) (is_application s e) (r_of passed e) (r_of passed (cast to e)) (t_of passed e) (t_of passed (cast to e)) None nothing refl
      (λ has. refl))
  builds (cast to e) (asked p way) qs more =
      ap (step (asked p way) (cast to e)) (builds e (asked (cast_place to) its_value) qs more)
      ∙ ap (in_front qs more)
      (of_one (applies s e) (is_application s e) (r_of (asked (cast_place to) its_value) e) (r_of (asked p way) (cast to e)) (t_of (asked (cast_place to) its_value) e) (t_of (asked p way) (cast to e)) (test_by_plan (alone_by way (cast_plan to)) (only_made (of (asked (cast_place to) its_value) e))) (alone_by way (cast_plan to)) (one_ready (cast to e) e (asked p way) (asked (cast_place to) its_value) refl)
      (λ has. alone_tested way (cast_plan to) (only_made (of (asked (cast_place to) its_value) e)) ∙ (ap (only_value way) (cast_tested to (only_made (of (asked (cast_place to) its_value) e))) ∙ ap (λ t. only_value way (option_map (cast_test to) t)) (test_is (asked (cast_place to) its_value) e))
      ∙ applied_raw (applies s e) (r_of (asked p way) (cast to e)) (only_value way (option_map (cast_test to) (t_of (asked (cast_place to) its_value) e))) has))
  builds (cast to e) (called way) qs more =
      ap (step (called way) (cast to e)) (builds e passed qs more)
      ∙ ap (in_front qs more)
      (of_one (applies s e) (is_application s e) (r_of passed e) (r_of (called way) (cast to e)) (t_of passed e) (t_of (called way) (cast to e)) None nothing refl
      (λ has. refl))
  builds (unary operator e) passed qs more =
      ap (step passed (unary operator e)) (builds e passed qs more)
      ∙ ap (in_front qs more)
      (of_one (applies s e) (is_application s e) (r_of passed e) (r_of passed (unary operator e)) (t_of passed e) (t_of passed (unary operator e)) None nothing refl
      (λ has. refl))
  builds (unary operator e) (asked p way) qs more =
      ap (step (asked p way) (unary operator e)) (builds e (asked (unary_place p operator (kind_of s e)) its_value) qs more)
      ∙ ap (in_front qs more)
      (of_one (applies s e) (is_application s e) (r_of (asked (unary_place p operator (kind_of s e)) its_value) e) (r_of (asked p way) (unary operator e)) (t_of (asked (unary_place p operator (kind_of s e)) its_value) e) (t_of (asked p way) (unary operator e)) (test_by_plan (alone_by way (unary_by operator)) (only_made (of (asked (unary_place p operator (kind_of s e)) its_value) e))) (alone_by way (unary_by operator)) (one_ready (unary operator e) e (asked p way) (asked (unary_place p operator (kind_of s e)) its_value) refl)
      (λ has. alone_tested way (unary_by operator) (only_made (of (asked (unary_place p operator (kind_of s e)) its_value) e)) ∙ ap (λ t. only_value way (option_map (alone (single.Operator operator)) t)) (test_is (asked (unary_place p operator (kind_of s e)) its_value) e)
      ∙ applied_raw (applies s e) (r_of (asked p way) (unary operator e)) (only_value way (option_map (alone (single.Operator operator)) (t_of (asked (unary_place p operator (kind_of s e)) its_value) e))) has))
  builds (unary operator e) (called way) qs more =
      ap (step (called way) (unary operator e)) (builds e passed qs more)
      ∙ ap (in_front qs more)
      (of_one (applies s e) (is_application s e) (r_of passed e) (r_of (called way) (unary operator e)) (t_of passed e) (t_of (called way) (unary operator e)) None nothing refl
      (λ has. refl))
  builds (call e given) passed qs more =
      ap (step passed (call e given)) (two e given (builds e) (builds given) passed passed qs more)
      ∙ ap (in_front qs more)
      (of_call (is_application s (call e given)) (applies s e) (is_application s e) (r_of passed e) (as_ready (of passed given)) (r_of passed (call e given)) (t_of passed e) (t_of passed (call e given)) None nothing refl
      (λ has. refl))
  builds (call e given) (asked p way) qs more =
      ap (step (asked p way) (call e given)) (two e given (builds e) (builds given) (called way) passed qs more)
      ∙ ap (in_front qs more)
      (of_call (is_application s (call e given)) (applies s e) (is_application s e) (r_of (called way) e) (as_ready (of passed given)) (r_of (asked p way) (call e given)) (t_of (called way) e) (t_of (asked p way) (call e given)) (as_test (of (called way) e)) same (two_ready (call e given) e given (asked p way) (called way) passed refl)
      (λ has. test_is (called way) e ∙ call_same e given p way))
  builds (call e given) (called way) qs more =
      ap (step (called way) (call e given)) (two e given (builds e) (builds given) passed passed qs more)
      ∙ ap (in_front qs more)
      (of_call (is_application s (call e given)) (applies s e) (is_application s e) (r_of passed e) (as_ready (of passed given)) (r_of (called way) (call e given)) (t_of passed e) (t_of (called way) (call e given)) None nothing refl
      (λ has. refl))
  builds (lookahead e to given) passed qs more = ap (step passed (lookahead e to given)) (two e given (builds e) (builds given) passed passed qs more)
  builds (lookahead e to given) (called way) qs more = ap (step (called way) (lookahead e to given)) (two e given (builds e) (builds given) passed passed qs more)
  builds (lookahead e to given) (asked p way) qs more =
      ap (step (asked p way) (lookahead e to given)) (two e given (builds e) (builds given) passed passed qs more)
      ∙ ap (λ r. in_front qs more (plainly r))
      (ap (λ r. made (alone_by way (lookahead_plan (kind_of_type s.names to))) (record { first = r; second = as_ready (of passed given); third = None })) (nothing_ready (applies s e) (is_application s e) (t_of passed e))
      ∙ (ap (λ r. made (alone_by way (lookahead_plan (kind_of_type s.names to))) (record { first = None; second = r; third = None })) (nothing_ready (applies s given) (is_application s given) (t_of passed given))
      ∙ two_ready (lookahead e to given) e given (asked p way) passed passed refl))
  builds (binary operator a b) passed qs more =
      ap (step passed (binary operator a b)) (two a b (builds a) (builds b) passed passed qs more)
      ∙ ap (in_front qs more)
      (of_two (applies s a) (is_application s a) (applies s b) (is_application s b) (r_of passed a) (r_of passed b) (r_of passed (binary operator a b)) (t_of passed a) (t_of passed b) (t_of passed (binary operator a b)) None nothing refl
      (λ has. refl))
  builds (binary operator a b) (asked p way) qs more =
      ap (step (asked p way) (binary operator a b)) (two a b (builds a) (builds b) (asked (left_place p operator (kind_of s a) (kind_of s b)) its_value) (asked (right_place p operator (kind_of s a) (kind_of s b)) its_value) qs more)
      ∙ ap (in_front qs more)
      (of_two (applies s a) (is_application s a) (applies s b) (is_application s b) (r_of (asked (left_place p operator (kind_of s a) (kind_of s b)) its_value) a) (r_of (asked (right_place p operator (kind_of s a) (kind_of s b)) its_value) b) (r_of (asked p way) (binary operator a b)) (t_of (asked (left_place p operator (kind_of s a) (kind_of s b)) its_value) a) (t_of (asked (right_place p operator (kind_of s a) (kind_of s b)) its_value) b) (t_of (asked p way) (binary operator a b)) (test_by_plan (alone_by way (binary_by operator)) (record { first = of (asked (left_place p operator (kind_of s a) (kind_of s b)) its_value) a; second = of (asked (right_place p operator (kind_of s a) (kind_of s b)) its_value) b; third = plainly None })) (alone_by way (binary_by operator)) (two_ready (binary operator a b) a b (asked p way) (asked (left_place p operator (kind_of s a) (kind_of s b)) its_value) (asked (right_place p operator (kind_of s a) (kind_of s b)) its_value) refl)
      (λ has. alone_tested way (binary_by operator) (record { first = of (asked (left_place p operator (kind_of s a) (kind_of s b)) its_value) a; second = of (asked (right_place p operator (kind_of s a) (kind_of s b)) its_value) b; third = plainly None })
      ∙ (ap (λ t. only_value way (with_two (binary_test operator) t (as_test (of (asked (right_place p operator (kind_of s a) (kind_of s b)) its_value) b)))) (test_is (asked (left_place p operator (kind_of s a) (kind_of s b)) its_value) a)
      ∙ (ap (λ t. only_value way (with_two (binary_test operator) (t_of (asked (left_place p operator (kind_of s a) (kind_of s b)) its_value) a) t)) (test_is (asked (right_place p operator (kind_of s a) (kind_of s b)) its_value) b)
      ∙ applied_raw (applies s a || applies s b) (r_of (asked p way) (binary operator a b)) (only_value way (with_two (binary_test operator) (t_of (asked (left_place p operator (kind_of s a) (kind_of s b)) its_value) a) (t_of (asked (right_place p operator (kind_of s a) (kind_of s b)) its_value) b))) has))))
  builds (binary operator a b) (called way) qs more =
      ap (step (called way) (binary operator a b)) (two a b (builds a) (builds b) passed passed qs more)
      ∙ ap (in_front qs more)
      (of_two (applies s a) (is_application s a) (applies s b) (is_application s b) (r_of passed a) (r_of passed b) (r_of (called way) (binary operator a b)) (t_of passed a) (t_of passed b) (t_of (called way) (binary operator a b)) None nothing refl
      (λ has. refl))
  builds (choice c a b) passed qs more =
      ap (step passed (choice c a b)) (three c a b (builds c) (builds a) (builds b) passed passed passed qs more)
      ∙ ap (in_front qs more)
      (of_three (applies s c) (is_application s c) (applies s a) (is_application s a) (applies s b) (is_application s b) (r_of passed c) (r_of passed a) (r_of passed b) (r_of passed (choice c a b)) (t_of passed c) (t_of passed a) (t_of passed b) (t_of passed (choice c a b)) None nothing refl
      (λ has. refl))
  builds (choice c a b) (asked p way) qs more =
      ap (step (asked p way) (choice c a b)) (three c a b (builds c) (builds a) (builds b) (asked (value kind.boolean) its_value) (asked (chosen_place p (kind_of s a) (kind_of s b)) way) (asked (chosen_place p (kind_of s a) (kind_of s b)) way) qs more)
      ∙ ap (in_front qs more)
      (of_three (applies s c) (is_application s c) (applies s a) (is_application s a) (applies s b) (is_application s b) (r_of (asked (value kind.boolean) its_value) c) (r_of (asked (chosen_place p (kind_of s a) (kind_of s b)) way) a) (r_of (asked (chosen_place p (kind_of s a) (kind_of s b)) way) b) (r_of (asked p way) (choice c a b)) (t_of (asked (value kind.boolean) its_value) c) (t_of (asked (chosen_place p (kind_of s a) (kind_of s b)) way) a) (t_of (asked (chosen_place p (kind_of s a) (kind_of s b)) way) b) (t_of (asked p way) (choice c a b)) (with_three test_choice (as_test (of (asked (value kind.boolean) its_value) c)) (as_test (of (asked (chosen_place p (kind_of s a) (kind_of s b)) way) a)) (as_test (of (asked (chosen_place p (kind_of s a) (kind_of s b)) way) b))) choice_by (three_ready (choice c a b) c a b (asked p way) (asked (value kind.boolean) its_value) (asked (chosen_place p (kind_of s a) (kind_of s b)) way) (asked (chosen_place p (kind_of s a) (kind_of s b)) way) refl)
      (λ has. ap (λ t. with_three test_choice t (as_test (of (asked (chosen_place p (kind_of s a) (kind_of s b)) way) a)) (as_test (of (asked (chosen_place p (kind_of s a) (kind_of s b)) way) b))) (test_is (asked (value kind.boolean) its_value) c)
      ∙ (ap (λ t. with_three test_choice (t_of (asked (value kind.boolean) its_value) c) t (as_test (of (asked (chosen_place p (kind_of s a) (kind_of s b)) way) b))) (test_is (asked (chosen_place p (kind_of s a) (kind_of s b)) way) a)
      ∙ (ap (with_three test_choice (t_of (asked (value kind.boolean) its_value) c) (t_of (asked (chosen_place p (kind_of s a) (kind_of s b)) way) a)) (test_is (asked (chosen_place p (kind_of s a) (kind_of s b)) way) b)
      ∙ applied_raw (applies s c || applies s a || applies s b) (r_of (asked p way) (choice c a b)) (with_three test_choice (t_of (asked (value kind.boolean) its_value) c) (t_of (asked (chosen_place p (kind_of s a) (kind_of s b)) way) a) (t_of (asked (chosen_place p (kind_of s a) (kind_of s b)) way) b)) has))))
  builds (choice c a b) (called way) qs more =
      ap (step (called way) (choice c a b)) (three c a b (builds c) (builds a) (builds b) passed passed passed qs more)
      ∙ ap (in_front qs more)
      (of_three (applies s c) (is_application s c) (applies s a) (is_application s a) (applies s b) (is_application s b) (r_of passed c) (r_of passed a) (r_of passed b) (r_of (called way) (choice c a b)) (t_of passed c) (t_of passed a) (t_of passed b) (t_of (called way) (choice c a b)) None nothing refl
      (λ has. refl))
  builds (parenthesized e) passed qs more = ap (step passed (parenthesized e)) (builds e passed qs more)
  builds (listed e) passed qs more = ap (step passed (listed e)) (builds e passed qs more)
  builds (argument a b) passed qs more = ap (step passed (argument a b)) (two a b (builds a) (builds b) passed passed qs more)
  builds (parenthesized e) (asked p way) qs more = ap (step (asked p way) (parenthesized e)) (builds e passed qs more)
  builds (listed e) (asked p way) qs more = ap (step (asked p way) (listed e)) (builds e passed qs more)
  builds (argument a b) (asked p way) qs more = ap (step (asked p way) (argument a b)) (two a b (builds a) (builds b) passed passed qs more)
  builds (parenthesized e) (called way) qs more = ap (step (called way) (parenthesized e)) (builds e passed qs more)
  builds (listed e) (called way) qs more = ap (step (called way) (listed e)) (builds e passed qs more)
  builds (argument a b) (called way) qs more = ap (step (called way) (argument a b)) (two a b (builds a) (builds b) passed passed qs more)

  -- an expression by itself
  pub builds_whole : (e : Exp16) (q : Ask) → after (q ∷ []) (subexpressions e) ≡ of q e ∷ []
  builds_whole e q = ap (after (q ∷ [])) (sym (append-nil (subexpressions e))) ∙ builds e q [] []

  -- a part as a test is what is asked of it
  pub whole_test : (q : Ask) (e : Exp16) → as_test (of q e) ≡ t_of q e
  whole_test q e = test_is q e
