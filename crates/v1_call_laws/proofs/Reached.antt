-- Where no stack tells anything evaluating a header, a stack or a struct stops nothing, also where tables are applied.
use Rattle.std.proofs.Common.{◌≡◌, Option, Some, None, IfSome, List, [], ◌∷◌, ◌++◌, refl, subst}
use Rattle.p416_syntax.specs.Tree.{Exp16, literal, truth, error, name, member, index, slice, call, lookahead, cast, unary, binary, choice, parenthesized, no_arguments, argument, listed}
use Rattle.p416_syntax.specs.Names.{Name}
use Rattle.p416_syntax.specs.Kinds.{Kind, bits, unsized, boolean, error_code, header, stack, struct, packet_in, packet_out, errors, enumeration, one_of, table, applied, object, items, nothing, unknown}
use Rattle.p416_syntax.specs.Scopes.{Scope}
use Rattle.p416_syntax.specs.Calls.{Place, value, owner, a_stack, method_signature}
use Rattle.p416_syntax.specs.Expressions.{kind_of}
use Rattle.p416_syntax.specs.Uses.{Use, an_expression, a_number, owner_place, chosen_place, uses}
use Rattle.p416_syntax.specs.Types.{is_mistyped}
use Rattle.p416_syntax.specs.Sizes.{leaves_size}
use Rattle.v1_core.specs.Values.{is_true}
use Rattle.v1_core.specs.Frames as sem
use Rattle.v1_core.specs.Surroundings as meaning
use Rattle.v1_core.specs.Numbered.{InScope}
use Rattle.v1_core.specs.Expressions as sem_expressions
use Rattle.v1_core.specs.Expressions.{value_of}
use Rattle.v1_core.specs.Cells.{Cells}
use Rattle.v1_ready_forms.specs.Named.{NamedSeat, seats_in}
use Rattle.v1_ready_forms.specs.Ways.{Way, through_member, through_element}
use Rattle.v1_ready_laws.specs.Rules.{KeepsAll, Keeps}
use Rattle.v1_ready_laws.proofs.Rules.{front_none, rest_none}
use Rattle.v1_ready_blocks.specs.Moments.{Moment}
use Rattle.v1_ready_blocks.specs.Tests.{World, Test, test_value, Source}
use Rattle.v1_ready_statements.specs.Around.{Around, table_found}
use Rattle.v1_ready_statements.specs.Tested.{ready_test, asked_source, with_chosen, member_source}
use Rattle.v1_statement_laws.specs.Behind.{Shown}
use Rattle.v1_call_laws.specs.Telling.{IsTold, ToldNone, IsValueOf, ValueTold, Tells, TestsTell}
use Rattle.v1_call_laws.proofs.Telling.{member_runs, either_runs}

pub front_kept : (xs ys : List Use) → KeepsAll (xs ++ ys) → KeepsAll xs
front_kept xs ys h = (front_none is_mistyped xs ys h.0, front_none leaves_size xs ys h.1)

pub rest_kept : (xs ys : List Use) → KeepsAll (xs ++ ys) → KeepsAll ys
rest_kept xs ys h = (rest_none is_mistyped xs ys h.0, rest_none leaves_size xs ys h.1)

-- what is judged in a choice
pub record ChoiceKeeps (s : Scope) (q : Place) (c a d : Exp16) : Type 0 where
  pub condition : Keeps s (value boolean) c
  pub positive : Keeps s (chosen_place q (kind_of s a) (kind_of s d)) a
  pub negative : Keeps s (chosen_place q (kind_of s a) (kind_of s d)) d

pub choice_keeps : (s : Scope) (q : Place) (c a d : Exp16) → Keeps s q (choice c a d) → ChoiceKeeps s q c a d
choice_keeps s q c a d h =
    let r : Place = chosen_place q (kind_of s a) (kind_of s d) in
    let all : KeepsAll ((uses s (value boolean) c ++ uses s r a) ++ uses s r d) = rest_kept (an_expression s q (choice c a d) ∷ []) ((uses s (value boolean) c ++ uses s r a) ++ uses s r d) h in
    let two : KeepsAll (uses s (value boolean) c ++ uses s r a) = front_kept (uses s (value boolean) c ++ uses s r a) (uses s r d) all in
    record {
      condition = front_kept (uses s (value boolean) c) (uses s r a) two;
      positive = rest_kept (uses s (value boolean) c) (uses s r a) two;
      negative = rest_kept (uses s (value boolean) c ++ uses s r a) (uses s r d) all;
    }

pub owner_keeps : (s : Scope) (q : Place) (e : Exp16) (word : Name) → Keeps s q (member e word) → Keeps s (owner_place q (method_signature (kind_of s e) word)) e
owner_keeps s q e word h = rest_kept (an_expression s q (member e word) ∷ []) (uses s (owner_place q (method_signature (kind_of s e) word)) e) h

-- a member that no stack tells is asked for through its owner
member_asks : (k : Kind) (word : Name) (way : Way) (of : Way → Option Source) (x : Source) → IsTold k word → member_source k word way of ≡ Some x → of (through_member word way) ≡ Some x
member_asks (bits width) word way of x told is = is
member_asks unsized word way of x told is = is
member_asks boolean word way of x told is = is
member_asks error_code word way of x told is = is
member_asks (header type) word way of x told is = is
member_asks (stack type size) word way of x told is = absurd told
member_asks (struct type) word way of x told is = is
member_asks packet_in word way of x told is = is
member_asks packet_out word way of x told is = is
member_asks errors word way of x told is = is
member_asks (enumeration enum) word way of x told is = is
member_asks (one_of enum) word way of x told is = is
member_asks table word way of x told is = is
member_asks applied word way of x told is = is
member_asks (object obj) word way of x told is = is
member_asks items word way of x told is = is
member_asks nothing word way of x told is = is
member_asks unknown word way of x told is = is

at_some : {A : Type 0} (B : A → Type 0) (o : Option A) (x : A) → o ≡ Some x → IfSome o B → B x
at_some {A = A} B o x is h = subst (λ (p : Option A). IfSome p B) is h

module _ (P : Cells → Type 0) (b : Around) (w : meaning.World) (z : World) (s : Scope) (who : InScope) (tell : TestsTell P b w z s who) where
  abbrev seats : List NamedSeat
  seats = seats_in b.syntax w.around.roots who

  -- from this moment
  abbrev Runs : Place → Exp16 → Type 0
  Runs p e = (m : sem.Moment) (k : Moment) → Shown P b.syntax who m k → m.stopped ≡ None → (value_of w s p e m).moment.stopped ≡ None

  pub source_runs : (way : Way) (e : Exp16) (p q : Place) (x : Source) → asked_source s seats (table_found b) way e ≡ Some x → Keeps s q e → ToldNone s e → Runs p e
  source_runs way (name text) p q x is keeps told = λ m k h runs. runs
  source_runs way (member e word) p q x is keeps told = λ m k h runs.
      member_runs w s (kind_of s e) word (value_of w s owner e m) told.0
      (source_runs (through_member word way) e owner (owner_place q (method_signature (kind_of s e) word)) x (member_asks (kind_of s e) word way (λ further. asked_source s seats (table_found b) further e) x told.0 is) (owner_keeps s q e word keeps) told.1 m k h runs)
  source_runs way (index e at) p q x is keeps told = λ m k h runs.
      source_runs (through_element at.value way) e a_stack a_stack x is (rest_kept (an_expression s q (index e at) ∷ a_number at ∷ []) (uses s a_stack e) keeps) told m k h runs
  source_runs way (choice c a d) p q x is keeps told =
      let kept : ChoiceKeeps s q c a d = choice_keeps s q c a d keeps in
      let inner : Place = chosen_place p (kind_of s a) (kind_of s d) in
      let outer : Place = chosen_place q (kind_of s a) (kind_of s d) in
      by (ready_test s seats (table_found b) (value boolean) c) (asked_source s seats (table_found b) way a) (asked_source s seats (table_found b) way d) is
      (tell (value boolean) (value boolean) c kept.condition told.0)
      (λ u there. source_runs way a inner outer u there kept.positive told.1)
      (λ u there. source_runs way d inner outer u there kept.negative told.2) where
        by : (o : Option Test) (f g : Option Source) → with_chosen o f g ≡ Some x → IfSome o (Tells P b w z s who (value boolean) c (IsValueOf (value boolean) (kind_of s c))) → ((u : Source) → f ≡ Some u → Runs (chosen_place p (kind_of s a) (kind_of s d)) a) → ((u : Source) → g ≡ Some u → Runs (chosen_place p (kind_of s a) (kind_of s d)) d) → Runs p (choice c a d)
        by None f g chosen tells left right = absurd (cc chosen)
        by (Some t) None g chosen tells left right = absurd (cc chosen)
        by (Some t) (Some u) None chosen tells left right = absurd (cc chosen)
        by (Some t) (Some u) (Some v) chosen tells left right = λ m k h runs.
            let y : sem_expressions.Valued = value_of w s (value boolean) c m in
            let first : ValueTold P b who (IsValueOf (value boolean) (kind_of s c)) y (test_value z.apply t k) = tells m k h runs in
            either_runs w s (is_true y.value) (value_of w s (chosen_place p (kind_of s a) (kind_of s d)) a y.moment) (value_of w s (chosen_place p (kind_of s a) (kind_of s d)) d y.moment)
            (left u refl y.moment (test_value z.apply t k).moment first.shown first.runs)
            (right v refl y.moment (test_value z.apply t k).moment first.shown first.runs)
  source_runs way (literal n) p q x is keeps told = absurd (cc is)
  source_runs way (truth holds) p q x is keeps told = absurd (cc is)
  source_runs way error p q x is keeps told = absurd (cc is)
  source_runs way (slice e high low) p q x is keeps told = absurd (cc is)
  source_runs way (call g more) p q x is keeps told = absurd (cc is)
  source_runs way (lookahead e to more) p q x is keeps told = absurd (cc is)
  source_runs way (cast to e) p q x is keeps told = absurd (cc is)
  source_runs way (unary operator e) p q x is keeps told = absurd (cc is)
  source_runs way (binary operator a d) p q x is keeps told = absurd (cc is)
  source_runs way (parenthesized e) p q x is keeps told = absurd (cc is)
  source_runs way no_arguments p q x is keeps told = absurd (cc is)
  source_runs way (argument before last) p q x is keeps told = absurd (cc is)
  source_runs way (listed es) p q x is keeps told = absurd (cc is)
