-- The case that a `switch` takes.
use Rattle.std.proofs.Common.{◌≡◌, ℕ, suc, ◌+◌, ◌==◌, ◌≤◌, ◌||◌, Bool, true, false, cond, Option, Some, None, IfSome, List, [], ◌∷◌, length, refl, sym, ap, ◌∙◌, subst, arith}
use Rattle.std.proofs.lemmas.Slice.Eq.{bytes_eq-Decides}
use Rattle.std.proofs.lemmas.Bool.{eqb-true, eq-eqb}
use Rattle.std.specs.Str.{bytes_eq}
use Rattle.p416_syntax.specs.declared.node.CaseLabel.{CaseLabel}
use Rattle.p416_syntax.specs.declared.node.CaseLabel.TheVariants as label
use Rattle.p416_syntax.specs.Tree.{Stmt16, no_statements, then, block, empty, var, var_is, assign, expression, if_then, if_else, switch, no_cases, case_of}
use Rattle.p416_syntax.specs.Names.{Name}
use Rattle.p416_syntax.specs.Scopes.{Scope}
use Rattle.v1_core.specs.Frames as sem
use Rattle.v1_core.specs.Frames.{closed}
use Rattle.v1_core.specs.Slots.{kinds_in}
use Rattle.v1_core.specs.Surroundings as meaning
use Rattle.v1_core.specs.Numbered.{InScope}
use Rattle.v1_core.specs.Statements.{names_action, is_default, has_label, chosen_label, no_label, run}
use Rattle.v1_core.specs.Cells.{Cells}
use Rattle.v1_ready_forms.specs.Named.{NamedSeat}
use Rattle.v1_ready_blocks.specs.Moments.{Moment}
use Rattle.v1_ready_blocks.specs.Tests.{World}
use Rattle.v1_ready_blocks.specs.Statements as ready
use Rattle.v1_ready_blocks.specs.Statements.{Statement, nothing, labelled, otherwise, is_action}
use Rattle.v1_ready_statements.specs.Around.{ActionPlace, Around, Found, found_from, action_found}
use Rattle.v1_ready_statements.specs.Statements.{labelled_ready, has_default, labelled_ones, the_default, default_ready, ready_in, ready_of_statement}
use Rattle.v1_statement_laws.specs.Behind.{Shown}
use Rattle.v1_statement_laws.specs.Leaves.{ActionsAlike}

clash : (b : Bool) → b ≡ false → b ≡ true → ⊥
clash true x y = cc x
clash false x y = cc y

differ : (m n : ℕ) → (m ≡ n → ⊥) → (m == n) ≡ false
differ m n never = by (m == n) refl where
  by : (t : Bool) → (m == n) ≡ t → (m == n) ≡ false
  by true e = absurd (never (eqb-true m n e))
  by false e = e

-- actions by their names and by their numbers

at_least : (n : ℕ) (actions : List ActionPlace) (text : Name) → IfSome (found_from n actions text) (λ f. n ≤ f.number)
at_least n [] text = tt
at_least n (a ∷ actions) text = by (bytes_eq a.of.name text) (at_least (suc n) actions text) where
  further : (o : Option Found) → IfSome o (λ f. suc n ≤ f.number) → IfSome o (λ f. n ≤ f.number)
  further None h = tt
  further (Some f) h = omega (arith, h)

  by : (t : Bool) → IfSome (found_from (suc n) actions text) (λ f. suc n ≤ f.number) → IfSome (cond t (Some (record { number = n; place = a })) (found_from (suc n) actions text)) (λ f. n ≤ f.number)
  by true h = omega arith
  by false h = further (found_from (suc n) actions text) h

abbrev Apart : Name → Name → Found → Found → Type 0
Apart v w f g = bytes_eq v w ≡ (g.number == f.number)

-- two names are one where their actions have one number
names_apart : (n : ℕ) (actions : List ActionPlace) (v w : Name) → IfSome (found_from n actions v) (λ f. IfSome (found_from n actions w) (Apart v w f))
names_apart n [] v w = tt
names_apart n (a ∷ actions) v w =
    by (bytes_eq a.of.name v) (bytes_eq a.of.name w) refl refl (at_least (suc n) actions v) (at_least (suc n) actions w) (names_apart (suc n) actions v w) where
      here : Found
      here = record { number = n; place = a }

      same_self : (m : ℕ) → (m == m) ≡ true
      same_self m = eq-eqb m m refl

      one_name : bytes_eq a.of.name v ≡ true → bytes_eq a.of.name w ≡ true → bytes_eq v w ≡ true
      one_name x y =
          subst (λ (t : Name). bytes_eq t w ≡ true) ((bytes_eq-Decides a.of.name v).0 x) y

      other_name : bytes_eq a.of.name v ≡ true → bytes_eq a.of.name w ≡ false → bytes_eq v w ≡ false
      other_name x y = subst (λ (t : Name). bytes_eq t w ≡ false) ((bytes_eq-Decides a.of.name v).0 x) y

      other_first : bytes_eq a.of.name v ≡ false → bytes_eq a.of.name w ≡ true → (t : Bool) → bytes_eq v w ≡ t → bytes_eq v w ≡ false
      other_first x y false e = e
      other_first x y true e =
          let same : v ≡ w = (bytes_eq-Decides v w).0 e in
          absurd (clash (bytes_eq a.of.name v) x (subst (λ (t : Name). bytes_eq a.of.name t ≡ true) (sym same) y))

      far_number : (k : ℕ) → suc n ≤ k → (k == n) ≡ false
      far_number k le = differ k n (λ e. omega (arith, le, e))

      near_number : (k : ℕ) → suc n ≤ k → (n == k) ≡ false
      near_number k le = differ n k (λ e. omega (arith, le, e))

      with_first : (o : Option Found) → bytes_eq a.of.name v ≡ true → bytes_eq a.of.name w ≡ false → IfSome o (λ g. suc n ≤ g.number) → IfSome o (Apart v w here)
      with_first None x y h = tt
      with_first (Some g) x y h = other_name x y ∙ sym (far_number g.number h)

      with_last : (o : Option Found) → bytes_eq a.of.name v ≡ false → bytes_eq a.of.name w ≡ true → IfSome o (λ f. suc n ≤ f.number) → IfSome o (λ f. Apart v w f here)
      with_last None x y h = tt
      with_last (Some f) x y h = other_first x y (bytes_eq v w) refl ∙ sym (near_number f.number h)

      by : (p q : Bool) → bytes_eq a.of.name v ≡ p → bytes_eq a.of.name w ≡ q → IfSome (found_from (suc n) actions v) (λ f. suc n ≤ f.number) → IfSome (found_from (suc n) actions w) (λ g. suc n ≤ g.number) → IfSome (found_from (suc n) actions v) (λ f. IfSome (found_from (suc n) actions w) (Apart v w f)) → IfSome (cond p (Some here) (found_from (suc n) actions v)) (λ f. IfSome (cond q (Some here) (found_from (suc n) actions w)) (Apart v w f))
      by true true x y h k rest = one_name x y ∙ sym (same_self n)
      by true false x y h k rest = with_first (found_from (suc n) actions w) x y k
      by false true x y h k rest = with_last (found_from (suc n) actions v) x y h
      by false false x y h k rest = rest

if_both : (R : Found → Found → Type 0) (o p : Option Found) (f g : Found) → o ≡ Some f → p ≡ Some g → IfSome o (λ x. IfSome p (R x)) → R f g
if_both R o p f g x y h =
    subst (λ (q : Option Found). IfSome q (R f)) y (subst (λ (q : Option Found). IfSome q (λ e. IfSome p (R e))) x h)

-- so a label names the action that ran where its number is the one that ran
label_alike : (b : Around) (a : Name) (f : Found) (o : Option Name) (ran : Option ℕ) → action_found b a ≡ Some f → ActionsAlike b o ran → names_action o (label.Action a) ≡ is_action ran f.number
label_alike b a f None None is h = refl
label_alike b a f None (Some number) is h = absurd h
label_alike b a f (Some text) None is h = absurd h
label_alike b a f (Some text) (Some number) is h =
    if_both (Apart a text) (action_found b a) (action_found b text) f h.0 is h.1 (names_apart 0 b.actions a text)
    ∙ ap (λ (k : ℕ). k == f.number) h.2

module _ (P : Cells → Type 0) (b : Around) (w : meaning.World) (z : World) (s : Scope) (seats : List NamedSeat) (n : ℕ) (who : InScope) where
  -- a block whose statements are these comes to what is one
  abbrev pub Closes : Stmt16 → Statement → Type 0
  Closes x r =
      (m : sem.Moment) (k : Moment) → Shown P b.syntax who m k →
      Shown P b.syntax who (closed m (run w s no_label x m)) (ready.run z None r k)

  -- so do the statements of all cases
  abbrev pub Bodies : Stmt16 → Type 0
  Bodies (case_of before l body) =
      Bodies before × IfSome (ready_of_statement b s seats (n + length (kinds_in s before)) body) (Closes body)
  Bodies x = Unit {0}

  -- the statement of cases that a label chooses, in front of the one that is left
  abbrev pub Ends : (CaseLabel → Bool) → Option ℕ → Stmt16 → Statement → Type 0
  Ends taken ran x r =
      (m : sem.Moment) (k : Moment) → Shown P b.syntax who m k → Shown P b.syntax who (run w s taken x m) (ready.run z ran r k)

  -- where no label names the action, what is left runs
  abbrev Passes : Option ℕ → Statement → Statement → Type 0
  Passes ran rest r = (k : Moment) → ready.run z ran r k ≡ ready.run z ran rest k

  first_false : (p q : Bool) → (p || q) ≡ false → p ≡ false
  first_false true q e = absurd (cc e)
  first_false false q e = refl

  last_false : (p q : Bool) → (p || q) ≡ false → q ≡ false
  last_false true q e = absurd (cc e)
  last_false false q e = e

  rows_none : (x : Stmt16) (Q : Statement → Type 0) → IfSome (ready_in b s seats n (labelled_ones None) x) Q
  rows_none no_statements Q = tt
  rows_none ((then) before last) Q = tt
  rows_none (block body) Q = tt
  rows_none empty Q = tt
  rows_none (var t called) Q = tt
  rows_none (var_is t called e) Q = tt
  rows_none (assign target e) Q = tt
  rows_none (expression e) Q = tt
  rows_none (if_then c positive) Q = tt
  rows_none (if_else c positive negative) Q = tt
  rows_none (switch table cases) Q = tt
  rows_none no_cases Q = tt
  rows_none (case_of before label.Default body) Q = rows_none before Q
  rows_none (case_of before (label.Action a) body) Q =
      subst (λ (o : Option Statement). IfSome (ready_in b s seats n (labelled_ones o) before) Q) (sym (no_rest (action_found b a) (ready_of_statement b s seats (n + length (kinds_in s before)) body))) (rows_none before Q) where
        no_rest : (o : Option Found) (p : Option Statement) → labelled_ready o p None ≡ None
        no_rest None None = refl
        no_rest None (Some r) = refl
        no_rest (Some f) None = refl
        no_rest (Some f) (Some r) = refl

  -- a case in front of the rest
  one_row : (Q : Statement → Type 0) (before : Stmt16) (o : Option Found) (p : Option Statement) (R : Statement) → ((f : Found) (r : Statement) → o ≡ Some f → p ≡ Some r → IfSome (ready_in b s seats n (labelled_ones (Some (labelled f.number r R))) before) Q) → IfSome (ready_in b s seats n (labelled_ones (labelled_ready o p (Some R))) before) Q
  one_row Q before None None R f = rows_none before Q
  one_row Q before None (Some r) R f = rows_none before Q
  one_row Q before (Some g) None R f = rows_none before Q
  one_row Q before (Some g) (Some r) R f = f g r refl refl

  rows_pass : (o : Option Name) (ran : Option ℕ) → ActionsAlike b o ran → (x : Stmt16) (R : Statement) → has_label (names_action o) x ≡ false → IfSome (ready_in b s seats n (labelled_ones (Some R)) x) (Passes ran R)
  rows_pass o ran alike no_statements R is = tt
  rows_pass o ran alike ((then) before last) R is = tt
  rows_pass o ran alike (block body) R is = tt
  rows_pass o ran alike empty R is = tt
  rows_pass o ran alike (var t called) R is = tt
  rows_pass o ran alike (var_is t called e) R is = tt
  rows_pass o ran alike (assign target e) R is = tt
  rows_pass o ran alike (expression e) R is = tt
  rows_pass o ran alike (if_then c positive) R is = tt
  rows_pass o ran alike (if_else c positive negative) R is = tt
  rows_pass o ran alike (switch table cases) R is = tt
  rows_pass o ran alike no_cases R is = λ k. refl
  rows_pass o ran alike (case_of before label.Default body) R is =
      rows_pass o ran alike before R (first_false (has_label (names_action o) before) (names_action o label.Default) is)
  rows_pass o ran alike (case_of before (label.Action a) body) R is =
      one_row (Passes ran R) before (action_found b a) (ready_of_statement b s seats (n + length (kinds_in s before)) body) R
      (λ f r found made.
      weaker (labelled f.number r R) (ready_in b s seats n (labelled_ones (Some (labelled f.number r R))) before)
      (λ k. ap (λ (t : Bool). cond t (ready.run z None r k) (ready.run z ran R k)) (sym (label_alike b a f o ran found alike) ∙ last_false (has_label (names_action o) before) (names_action o (label.Action a)) is))
      (rows_pass o ran alike before (labelled f.number r R) (first_false (has_label (names_action o) before) (names_action o (label.Action a)) is))) where
        weaker : (S : Statement) (p : Option Statement) → ((k : Moment) → ready.run z ran S k ≡ ready.run z ran R k) → IfSome p (Passes ran S) → IfSome p (Passes ran R)
        weaker S None same h = tt
        weaker S (Some r) same h = λ k. h k ∙ same k

  rows_end : (o : Option Name) (ran : Option ℕ) → ActionsAlike b o ran → (x : Stmt16) (R : Statement) → has_label (names_action o) x ≡ true → Bodies x → IfSome (ready_in b s seats n (labelled_ones (Some R)) x) (Ends (names_action o) ran x)
  rows_end o ran alike no_statements R is bodies = tt
  rows_end o ran alike ((then) before last) R is bodies = tt
  rows_end o ran alike (block body) R is bodies = tt
  rows_end o ran alike empty R is bodies = tt
  rows_end o ran alike (var t called) R is bodies = tt
  rows_end o ran alike (var_is t called e) R is bodies = tt
  rows_end o ran alike (assign target e) R is bodies = tt
  rows_end o ran alike (expression e) R is bodies = tt
  rows_end o ran alike (if_then c positive) R is bodies = tt
  rows_end o ran alike (if_else c positive negative) R is bodies = tt
  rows_end o ran alike (switch table cases) R is bodies = tt
  rows_end o ran alike no_cases R is bodies = absurd (cc is)
  rows_end o ran alike (case_of before label.Default body) R is bodies = by (has_label (names_action o) before) refl (λ e. rows_end o ran alike before R e bodies.0) where
    front : (Q : Statement → Type 0) (p : Option Statement) → ((r : Statement) → Ends (names_action o) ran before r → Q r) → IfSome p (Ends (names_action o) ran before) → IfSome p Q
    front Q None f h = tt
    front Q (Some r) f h = f r h

    default_unnamed : (q : Option Name) → names_action q label.Default ≡ false
    default_unnamed None = refl
    default_unnamed (Some text) = refl

    by : (t : Bool) → has_label (names_action o) before ≡ t → (has_label (names_action o) before ≡ true → IfSome (ready_in b s seats n (labelled_ones (Some R)) before) (Ends (names_action o) ran before)) → IfSome (ready_in b s seats n (labelled_ones (Some R)) before) (Ends (names_action o) ran (case_of before label.Default body))
    by true e rest =
        front (Ends (names_action o) ran (case_of before label.Default body)) (ready_in b s seats n (labelled_ones (Some R)) before)
        (λ r ends m k h. subst (λ (t : Bool). Shown P b.syntax who (cond t (run w s (names_action o) before m) (cond (names_action o label.Default) (closed m (run w s no_label body m)) m)) (ready.run z ran r k)) (sym e) (ends m k h))
        (rest e)
    by false e rest = absurd (clash (has_label (names_action o) (case_of before label.Default body)) (ap (λ (t : Bool). t || names_action o label.Default) e ∙ default_unnamed o) is)
  rows_end o ran alike (case_of before (label.Action a) body) R is bodies =
      one_row (Ends (names_action o) ran (case_of before (label.Action a) body)) before (action_found b a) (ready_of_statement b s seats (n + length (kinds_in s before)) body) R
      (λ f r found made. by f r found made (has_label (names_action o) before) refl (λ e. rows_end o ran alike before (labelled f.number r R) e bodies.0)) where
        front : (Q : Statement → Type 0) (p : Option Statement) → ((r : Statement) → Ends (names_action o) ran before r → Q r) → IfSome p (Ends (names_action o) ran before) → IfSome p Q
        front Q None f h = tt
        front Q (Some r) f h = f r h

        passed : (S : Statement) (Q : Statement → Type 0) (p : Option Statement) → ((r : Statement) → Passes ran S r → Q r) → IfSome p (Passes ran S) → IfSome p Q
        passed S Q None f h = tt
        passed S Q (Some r) f h = f r h

        body_closes : (r : Statement) → ready_of_statement b s seats (n + length (kinds_in s before)) body ≡ Some r → Closes body r
        body_closes r made = subst (λ (p : Option Statement). IfSome p (Closes body)) made bodies.1

        by : (f : Found) (r : Statement) → action_found b a ≡ Some f → ready_of_statement b s seats (n + length (kinds_in s before)) body ≡ Some r → (t : Bool) → has_label (names_action o) before ≡ t → (has_label (names_action o) before ≡ true → IfSome (ready_in b s seats n (labelled_ones (Some (labelled f.number r R))) before) (Ends (names_action o) ran before)) → IfSome (ready_in b s seats n (labelled_ones (Some (labelled f.number r R))) before) (Ends (names_action o) ran (case_of before (label.Action a) body))
        by f r found made true e rest =
            front (Ends (names_action o) ran (case_of before (label.Action a) body)) (ready_in b s seats n (labelled_ones (Some (labelled f.number r R))) before)
            (λ q ends m k h. subst (λ (t : Bool). Shown P b.syntax who (cond t (run w s (names_action o) before m) (cond (names_action o (label.Action a)) (closed m (run w s no_label body m)) m)) (ready.run z ran q k)) (sym e) (ends m k h))
            (rest e)
        by f r found made false e rest =
            let named : names_action o (label.Action a) ≡ true = ap (λ (t : Bool). t || names_action o (label.Action a)) (sym e) ∙ is in
            let acts : is_action ran f.number ≡ true = sym (label_alike b a f o ran found alike) ∙ named in
            passed (labelled f.number r R) (Ends (names_action o) ran (case_of before (label.Action a) body)) (ready_in b s seats n (labelled_ones (Some (labelled f.number r R))) before)
            (λ q passes m k h.
            subst (λ (t : Bool). Shown P b.syntax who (cond t (run w s (names_action o) before m) (cond (names_action o (label.Action a)) (closed m (run w s no_label body m)) m)) (ready.run z ran q k)) (sym e)
            (subst (λ (t : Bool). Shown P b.syntax who (cond t (closed m (run w s no_label body m)) m) (ready.run z ran q k)) (sym named)
            (subst (λ (y : Moment). Shown P b.syntax who (closed m (run w s no_label body m)) y) (sym (passes k ∙ ap (λ (t : Bool). cond t (ready.run z None r k) (ready.run z ran R k)) acts))
            (body_closes r made m k h))))
            (rows_pass o ran alike before (labelled f.number r R) e)

  -- `default` stands in the same cases
  default_alike : (x : Stmt16) → has_label is_default x ≡ has_default x
  default_alike no_statements = refl
  default_alike ((then) before last) = refl
  default_alike (block body) = refl
  default_alike empty = refl
  default_alike (var t called) = refl
  default_alike (var_is t called e) = refl
  default_alike (assign target e) = refl
  default_alike (expression e) = refl
  default_alike (if_then c positive) = refl
  default_alike (if_else c positive negative) = refl
  default_alike (switch table cases) = refl
  default_alike no_cases = refl
  default_alike (case_of before label.Default body) = or_true (has_label is_default before) where
    or_true : (p : Bool) → (p || true) ≡ true
    or_true true = refl
    or_true false = refl
  default_alike (case_of before (label.Action a) body) = or_false (has_label is_default before) ∙ default_alike before where
    or_false : (p : Bool) → (p || false) ≡ p
    or_false true = refl
    or_false false = refl

  default_ends : (ran : Option ℕ) (x : Stmt16) → Bodies x → IfSome (ready_in b s seats n the_default x) (Ends is_default ran x)
  default_ends ran no_statements bodies = tt
  default_ends ran ((then) before last) bodies = tt
  default_ends ran (block body) bodies = tt
  default_ends ran empty bodies = tt
  default_ends ran (var t called) bodies = tt
  default_ends ran (var_is t called e) bodies = tt
  default_ends ran (assign target e) bodies = tt
  default_ends ran (expression e) bodies = tt
  default_ends ran (if_then c positive) bodies = tt
  default_ends ran (if_else c positive negative) bodies = tt
  default_ends ran (switch table cases) bodies = tt
  default_ends ran no_cases bodies = λ m k h. h
  default_ends ran (case_of before l body) bodies =
      by (has_default before) (default_alike before) l (ready_in b s seats n the_default before) (ready_of_statement b s seats (n + length (kinds_in s before)) body) (default_ends ran before bodies.0) bodies.1 where
        by : (t : Bool) → has_label is_default before ≡ t → (l : CaseLabel) (o p : Option Statement) → IfSome o (Ends is_default ran before) → IfSome p (Closes body) → IfSome (default_ready t l o p) (Ends is_default ran (case_of before l body))
        by true e l None p h k = tt
        by true e l (Some r) p h k = λ m y shown.
            subst (λ (t : Bool). Shown P b.syntax who (cond t (run w s is_default before m) (cond (is_default l) (closed m (run w s no_label body m)) m)) (ready.run z ran r y)) (sym e) (h m y shown)
        by false e label.Default o None h k = tt
        by false e label.Default o (Some r) h k = λ m y shown.
            subst (λ (t : Bool). Shown P b.syntax who (cond t (run w s is_default before m) (closed m (run w s no_label body m))) (ready.run z None r y)) (sym e) (k m y shown)
        by false e (label.Action a) o p h k = λ m y shown.
            subst (λ (t : Bool). Shown P b.syntax who (cond t (run w s is_default before m) m) y) (sym e) shown

  -- the case of the action that ran, or the one of `default`
  pub cases_end : (o : Option Name) (ran : Option ℕ) → ActionsAlike b o ran → (x : Stmt16) → Bodies x → IfSome (ready_in b s seats n (labelled_ones (ready_in b s seats n the_default x)) x) (Ends (chosen_label o x) ran x)
  cases_end o ran alike x bodies = by (ready_in b s seats n the_default x) (default_ends ran x bodies) (has_label (names_action o) x) refl where
    by : (p : Option Statement) → IfSome p (Ends is_default ran x) → (t : Bool) → has_label (names_action o) x ≡ t → IfSome (ready_in b s seats n (labelled_ones p) x) (Ends (chosen_label o x) ran x)
    by None h t e = rows_none x (Ends (chosen_label o x) ran x)
    by (Some R) h true e =
        subst (λ (t : Bool). IfSome (ready_in b s seats n (labelled_ones (Some R)) x) (Ends (λ l. cond t (names_action o l) (is_default l)) ran x)) (sym e)
        (rows_end o ran alike x R e bodies)
    by (Some R) h false e =
        subst (λ (t : Bool). IfSome (ready_in b s seats n (labelled_ones (Some R)) x) (Ends (λ l. cond t (names_action o l) (is_default l)) ran x)) (sym e)
        (passed (ready_in b s seats n (labelled_ones (Some R)) x) (rows_pass o ran alike x R e)) where
          passed : (p : Option Statement) → IfSome p (Passes ran R) → IfSome p (Ends is_default ran x)
          passed None q = tt
          passed (Some r) q = λ m k shown. subst (λ (y : Moment). Shown P b.syntax who (run w s is_default x m) y) (sym (q k)) (h m k shown)
