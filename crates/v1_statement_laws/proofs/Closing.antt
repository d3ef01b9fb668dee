-- Blocks close, and nothing runs in a moment that an error stopped.
use Rattle.std.proofs.Common.{◌≡◌, ℕ, suc, ◌+◌, ◌-◌, ◌%◌, ◌^◌, Bool, true, false, cond, is_some, Option, Some, None, List, [], ◌∷◌, ◌++◌, length, refl, ap, ◌∙◌, subst, arith}
use Rattle.p416_syntax.specs.declared.node.CaseLabel.{CaseLabel}
use Rattle.p416_syntax.specs.declared.program.Syntax16.{Syntax16}
use Rattle.p416_syntax.specs.Tree.{Stmt16, no_statements, then, block, empty, var, var_is, assign, expression, if_then, if_else, switch, no_cases, case_of}
use Rattle.p416_syntax.specs.Scopes.{Scope}
use Rattle.p416_syntax.specs.Statements.{behind}
use Rattle.v1_core.specs.declared.parser_error.ParserError.{ParserError}
use Rattle.v1_core.specs.Values.{Value}
use Rattle.v1_core.specs.Frames as sem
use Rattle.v1_core.specs.Frames.{Frame, variable_count, without, closed}
use Rattle.v1_core.specs.Surroundings as meaning
use Rattle.v1_core.specs.Numbered.{Variable, InScope, named_values, frame_in}
use Rattle.v1_core.specs.Statements.{has_label, no_label, run}
use Rattle.v1_core.specs.Cells.{Cells}
use Rattle.v1_core.specs.Programs.{numbered16}
use Rattle.v1_ready_laws.specs.Rules.{with_inner_ones}
use Rattle.v1_ready_blocks.specs.Moments as blocks
use Rattle.v1_ready_blocks.specs.Moments.{Moment, raised}
use Rattle.v1_ready_blocks.specs.Tests.{World}
use Rattle.v1_ready_blocks.specs.Statements as ready
use Rattle.v1_ready_blocks.specs.Statements.{Statement, nothing, sequence, start, does, call, branch, labelled, otherwise, is_action}
use Rattle.v1_parser_laws.specs.Shown.{Shows}
use Rattle.v1_parser_laws.proofs.States.{raised_shows}
use Rattle.v1_ready_laws.specs.Asked.{stopped_by}
use Rattle.v1_statement_laws.specs.Behind.{Shown}

-- variables by name

counted : (values : List Value) (vs : List Variable) → variable_count (named_values values vs) ≡ length vs
counted values [] = refl
counted values (v ∷ vs) = ap suc (counted values vs)

dropped : (values : List Value) (some vs : List Variable) → without (length some) (named_values values (some ++ vs)) ≡ named_values values vs
dropped values [] vs = refl
dropped values (v ∷ some) vs = dropped values some vs

length_both : (xs ys : List Variable) → length (xs ++ ys) ≡ length xs + length ys
length_both [] ys = omega arith
length_both (x ∷ xs) ys = ap suc (length_both xs ys) ∙ more (length xs) (length ys) where
  more : (m n : ℕ) → suc (m + n) ≡ suc m + n
  more m n = omega arith

module _ (P : Cells → Type 0) (syntax : Syntax16) (who : InScope) where
  -- so many variables are in scope
  pub inner_counted : (m : sem.Moment) (n : Moment) → Shown P syntax who m n → variable_count m.frame.inner ≡ length who.inner
  inner_counted m n h =
      ap (λ (f : Frame). variable_count f.inner) h.shows.frame ∙ counted (numbered16 syntax n.cells).variables who.inner

  -- at the end of a block those that it declares are gone
  pub closed_shows : (before m : sem.Moment) (n : Moment) (some : List Variable) → variable_count before.frame.inner ≡ length who.inner → Shown P syntax (with_inner_ones some who) m n → Shown P syntax who (closed before m) n
  closed_shows before m n some is h =
      let values : List Value = (numbered16 syntax n.cells).variables in
      let many : variable_count (named_values values (some ++ who.inner)) - variable_count before.frame.inner ≡ length some =
      left (variable_count (named_values values (some ++ who.inner))) (variable_count before.frame.inner) (length some) (length who.inner)
      (counted values (some ++ who.inner) ∙ length_both some who.inner) is in
      record {
        shows = record {
          frame =
              ap (λ (f : Frame). record f { inner = without (variable_count f.inner - variable_count before.frame.inner) f.inner }) h.shows.frame
              ∙ ap (λ (v : Value). record (frame_in who (numbered16 syntax n.cells)) { inner = v })
              (ap (λ (k : ℕ). without k (named_values values (some ++ who.inner))) many ∙ dropped values some who.inner);
          whole = h.shows.whole;
          store = h.shows.store;
          unparsed = h.shows.unparsed;
          emitted = h.shows.emitted;
          work = h.shows.work;
          stopped = h.shows.stopped;
          hit = h.shows.hit;
        };
        waits = h.waits;
      } where
        left : (a b c d : ℕ) → a ≡ c + d → b ≡ d → a - b ≡ c
        left a b c d x y = omega (arith, x, y)

  pub ticked_shown : (m : sem.Moment) (n : Moment) → Shown P syntax who m n → Shown P syntax who (sem.ticked m) (blocks.ticked n)
  ticked_shown m n h = record {
    shows = record {
      frame = h.shows.frame;
      whole = h.shows.whole;
      store = h.shows.store;
      unparsed = h.shows.unparsed;
      emitted = h.shows.emitted;
      work = ap (λ (k : ℕ). (k + 1) % 2 ^ 64) h.shows.work;
      stopped = h.shows.stopped;
      hit = h.shows.hit;
    };
    waits = h.waits;
  }

pub running_is : {A : Type 0} (o : Option ParserError) (x y : A) → o ≡ None → cond (is_some o) x y ≡ y
running_is o x y is = ap (λ (p : Option ParserError). cond (is_some p) x y) is

pub stopped_is : {A : Type 0} (o : Option ParserError) (e : ParserError) (x y : A) → o ≡ Some e → cond (is_some o) x y ≡ x
stopped_is o e x y is = ap (λ (p : Option ParserError). cond (is_some p) x y) is

module _ (P : Cells → Type 0) (syntax : Syntax16) (who : InScope) where
  -- an error in place of an element that isn't there
  pub raised_shown : (e : ParserError) (m : sem.Moment) (k : Moment) → Shown P syntax who m k → m.stopped ≡ None → Shown P syntax who (stopped_by e m) (raised e k)
  raised_shown e m k h runs = record {
    shows =
        subst (λ (x : sem.Moment). Shows syntax who x (raised e k)) (running_is m.stopped m (stopped_by e m) runs)
        (raised_shows syntax who e m k h.shows);
    waits = kept (is_some k.stopped);
  } where
    kept : (t : Bool) → (let n : Moment = cond t k (record k { stopped = Some e }) in P n.waiting)
    kept true = h.waits
    kept false = h.waits

-- a block closes as it began, where nothing ran in it
pub closed_itself : (m : sem.Moment) → closed m m ≡ m
closed_itself m =
    ap (λ (k : ℕ). record m { frame = record m.frame { inner = without k m.frame.inner } }) (none (variable_count m.frame.inner)) where
      none : (a : ℕ) → a - a ≡ 0
      none a = omega arith

by_one : {A : Type 0} (b : Bool) (x y : A) → b ≡ true → cond b x y ≡ x
by_one true x y is = refl
by_one false x y is = absurd (cc is)

by_either : {A : Type 0} (b : Bool) (x y z : A) → x ≡ z → y ≡ z → cond b x y ≡ z
by_either true x y z p q = p
by_either false x y z p q = q

pub run_stopped : (w : meaning.World) (x : Stmt16) (s : Scope) (taken : CaseLabel → Bool) (m : sem.Moment) → sem.is_stopped m ≡ true → run w s taken x m ≡ m
run_stopped w no_statements s taken m is = refl
run_stopped w ((then) before last) s taken m is =
    ap (run w (behind before s) taken last) (run_stopped w before s taken m is) ∙ run_stopped w last (behind before s) taken m is
run_stopped w (block body) s taken m is = ap (closed m) (run_stopped w body s no_label m is) ∙ closed_itself m
run_stopped w empty s taken m is = refl
run_stopped w (var t called) s taken m is = by_one (sem.is_stopped m) m _ is
run_stopped w (var_is t called e) s taken m is = by_one (sem.is_stopped m) m _ is
run_stopped w (assign target e) s taken m is = by_one (sem.is_stopped m) m _ is
run_stopped w (expression e) s taken m is = by_one (sem.is_stopped m) m _ is
run_stopped w (if_then c positive) s taken m is = by_one (sem.is_stopped m) m _ is
run_stopped w (if_else c positive negative) s taken m is = by_one (sem.is_stopped m) m _ is
run_stopped w (switch table cases) s taken m is = by_one (sem.is_stopped m) m _ is
run_stopped w no_cases s taken m is = refl
run_stopped w (case_of before l body) s taken m is =
    by_either (has_label taken before) (run w s taken before m) (cond (taken l) (closed m (run w s no_label body m)) m) m (run_stopped w before s taken m is)
    (by_either (taken l) (closed m (run w s no_label body m)) m m (ap (closed m) (run_stopped w body s no_label m is) ∙ closed_itself m) refl)

pub ready_stopped : (z : World) (r : Statement) (ran : Option ℕ) (n : Moment) → blocks.is_stopped n ≡ true → ready.run z ran r n ≡ n
ready_stopped z nothing ran n is = refl
ready_stopped z (sequence first last) ran n is = ap (ready.run z ran last) (ready_stopped z first ran n is) ∙ ready_stopped z last ran n is
ready_stopped z (start at) ran n is = by_one (blocks.is_stopped n) n _ is
ready_stopped z (does deed) ran n is = by_one (blocks.is_stopped n) n _ is
ready_stopped z (call action apart incoming outgoing) ran n is = by_one (blocks.is_stopped n) n _ is
ready_stopped z (branch c positive negative) ran n is = by_one (blocks.is_stopped n) n _ is
ready_stopped z (ready.switch table cases) ran n is = by_one (blocks.is_stopped n) n _ is
ready_stopped z (labelled action body cases) ran n is =
    by_either (is_action ran action) (ready.run z None body n) (ready.run z ran cases n) n (ready_stopped z body None n is) (ready_stopped z cases ran n is)
ready_stopped z (otherwise body) ran n is = ready_stopped z body None n is
