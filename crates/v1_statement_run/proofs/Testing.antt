-- What expressions give that may apply tables.
use Rattle.std.proofs.Common.{◌≡◌, ℕ, ◌<◌, Bool, true, false, not, cond, List, Result, Ok, Err, refl, sym, ap, ◌∙◌, length, arith}
use Rattle.std.specs.Prelude.{IfOk}
use Rattle.p416_syntax.specs.declared.node.BinaryOperator.{BinaryOperator}
use Rattle.v1_core.specs.declared.parser_error.ParserError.{ParserError}
use Rattle.v1_core.specs.Values.{a_truth, is_true}
use Rattle.v1_core.specs.declared.scalar.Scalar.{Scalar}
use Rattle.v1_core.specs.declared.scalar.Scalar.TheVariants as scalar
use Rattle.v1_core.specs.Scalars.{seen_scalar, FitsScalar, pair_value}
use Rattle.v1_core.specs.Ready.{Ready, Ended, given, failed}
use Rattle.v1_core.specs.Nodes.{nothing as no_expression}
use Rattle.v1_core.specs.Results.{seen_end}
use Rattle.v1_ready_blocks.specs.declared.nodes.Single.{Single}
use Rattle.v1_ready_blocks.specs.Moments.{Moment, value_at}
use Rattle.v1_ready_blocks.specs.Tests.{Applied, Test, plain, hits, misses, alone, both, either, pair, choice, single_value, Valued, valued, and_then, test_value}
use Rattle.v1_ready_blocks.specs.Nodes.{Tree, Ground, test_at}
use Rattle.state_store.specs.State.{Contents}
use Rattle.v1_core.specs.Cells.{Cells}
use Rattle.v1_statement_run.specs.declared.run.Run.{Run}
use Rattle.v1_statement_run.specs.Seen.{moment}
use Rattle.v1_statement_run.specs.declared.code.Code.{Code}
use Rattle.v1_statement_run.specs.declared.tables.Told.{Told}
use Rattle.v1_statement_run.specs.Steps.{ground_of, IsCode, IsOver, Gives, Tells, paired, turned_by}

-- expressions are there, over the same frames

pub expression_there : (c : Code) (e : ℕ) → IsCode c → e < (ground_of c).expressions → e < length c.expressions.nodes
expression_there c e code h = omega (arith, code.expressions, h)

pub expression_layout : (c : Code) (f : Cells) (s : Contents) (u : List ℕ) (r : Run) → IsCode c → IsOver (ground_of c) (moment f s u r) → f.layout ≡ c.expressions.layout
expression_layout c f s u r code over = over.cells ∙ sym code.layout

-- values

module _ (g : Ground) (runs : ℕ → Moment → Applied) (ts : List Tree) (place : ℕ) where
  -- of an expression that is this one
  tree_gives : (t : Test) (old now : Moment) (x : Result Scalar ParserError) → test_at ts place ≡ t → IsOver g now → test_value runs t old ≡ valued (seen_end x) now → IfOk x FitsScalar → Gives g (test_value runs (test_at ts place) old) now x
  tree_gives t old now x tree over is fits = record {
    over = over;
    gives = ap (λ (e : Test). test_value runs e old) tree ∙ is;
    fits = fits;
  }

  pub gives_nothing : (old : Moment) → test_at ts place ≡ plain no_expression → IsOver g old → Gives g (test_value runs (test_at ts place) old) old (Ok scalar.Nothing)
  gives_nothing old tree over = tree_gives (plain no_expression) old old (Ok scalar.Nothing) tree over refl tt

  pub gives_plain : (e : Ready) (old : Moment) (x : Result Scalar ParserError) → test_at ts place ≡ plain e → seen_end x ≡ value_at old e → IfOk x FitsScalar → IsOver g old → Gives g (test_value runs (test_at ts place) old) old x
  gives_plain e old x tree is fits over = tree_gives (plain e) old old x tree over (ap (λ (v : Ended). valued v old) (sym is)) fits

  pub gives_hit : (table : ℕ) (old now : Moment) (told : Told) → test_at ts place ≡ hits table → Tells g (runs table old) now told → Gives g (test_value runs (test_at ts place) old) now (Ok (scalar.Truth told.hit))
  gives_hit table old now told tree t =
      tree_gives (hits table) old now (Ok (scalar.Truth told.hit)) tree t.over (ap (λ (a : Applied). valued (given (a_truth a.hit)) a.moment) t.tells) tt

  pub gives_miss : (table : ℕ) (old now : Moment) (told : Told) → test_at ts place ≡ misses table → Tells g (runs table old) now told → Gives g (test_value runs (test_at ts place) old) now (Ok (scalar.Truth (not told.hit)))
  gives_miss table old now told tree t =
      tree_gives (misses table) old now (Ok (scalar.Truth (not told.hit))) tree t.over (ap (λ (a : Applied). valued (given (a_truth (not a.hit))) a.moment) t.tells) tt

  pub gives_alone : (of : Single) (a : ℕ) (old now : Moment) (x y : Result Scalar ParserError) → test_at ts place ≡ alone of (test_at ts a) → Gives g (test_value runs (test_at ts a) old) now x → seen_end y ≡ turned_by of (seen_end x) → IfOk y FitsScalar → Gives g (test_value runs (test_at ts place) old) now y
  gives_alone of a old now x y tree first is fits =
      tree_gives (alone of (test_at ts a)) old now y tree first.over
      (ap (λ (v : Valued). and_then v (λ v m. valued (given (single_value of v)) m)) first.gives ∙ by_end (seen_end x) ∙ ap (λ (e : Ended). valued e now) (sym is)) fits
    where
      by_end : (e : Ended) → and_then (valued e now) (λ v m. valued (given (single_value of v)) m) ≡ valued (turned_by of e) now
      by_end (given v) = refl
      by_end (failed e) = refl

  pub gives_both_on : (a b : ℕ) (old middle now : Moment) (x : Scalar) (y : Result Scalar ParserError) (h : Bool) → test_at ts place ≡ both (test_at ts a) (test_at ts b) → Gives g (test_value runs (test_at ts a) old) middle (Ok x) → h ≡ is_true (seen_scalar x) → h ≡ true → Gives g (test_value runs (test_at ts b) middle) now y → Gives g (test_value runs (test_at ts place) old) now y
  gives_both_on a b old middle now x y h tree first is holds second =
      tree_gives (both (test_at ts a) (test_at ts b)) old now y tree second.over
      (ap (λ (v : Valued). and_then v (λ v n. cond (is_true v) (test_value runs (test_at ts b) n) (valued (given v) n))) first.gives
      ∙ ap (λ (t : Bool). cond t (test_value runs (test_at ts b) middle) (valued (given (seen_scalar x)) middle)) (sym is ∙ holds) ∙ second.gives) second.fits

  pub gives_both_off : (a b : ℕ) (old now : Moment) (x : Scalar) (h : Bool) → test_at ts place ≡ both (test_at ts a) (test_at ts b) → Gives g (test_value runs (test_at ts a) old) now (Ok x) → h ≡ is_true (seen_scalar x) → h ≡ false → Gives g (test_value runs (test_at ts place) old) now (Ok x)
  gives_both_off a b old now x h tree first is fails =
      tree_gives (both (test_at ts a) (test_at ts b)) old now (Ok x) tree first.over
      (ap (λ (v : Valued). and_then v (λ v n. cond (is_true v) (test_value runs (test_at ts b) n) (valued (given v) n))) first.gives
      ∙ ap (λ (t : Bool). cond t (test_value runs (test_at ts b) now) (valued (given (seen_scalar x)) now)) (sym is ∙ fails)) first.fits

  pub gives_both_failed : (a b : ℕ) (old now : Moment) (error : ParserError) → test_at ts place ≡ both (test_at ts a) (test_at ts b) → Gives g (test_value runs (test_at ts a) old) now (Err error) → Gives g (test_value runs (test_at ts place) old) now (Err error)
  gives_both_failed a b old now error tree first =
      tree_gives (both (test_at ts a) (test_at ts b)) old now (Err error) tree first.over
      (ap (λ (v : Valued). and_then v (λ v n. cond (is_true v) (test_value runs (test_at ts b) n) (valued (given v) n))) first.gives) tt

  pub gives_either_on : (a b : ℕ) (old middle now : Moment) (x : Scalar) (y : Result Scalar ParserError) (h : Bool) → test_at ts place ≡ either (test_at ts a) (test_at ts b) → Gives g (test_value runs (test_at ts a) old) middle (Ok x) → h ≡ is_true (seen_scalar x) → h ≡ false → Gives g (test_value runs (test_at ts b) middle) now y → Gives g (test_value runs (test_at ts place) old) now y
  gives_either_on a b old middle now x y h tree first is fails second =
      tree_gives (either (test_at ts a) (test_at ts b)) old now y tree second.over
      (ap (λ (v : Valued). and_then v (λ v n. cond (is_true v) (valued (given v) n) (test_value runs (test_at ts b) n))) first.gives
      ∙ ap (λ (t : Bool). cond t (valued (given (seen_scalar x)) middle) (test_value runs (test_at ts b) middle)) (sym is ∙ fails) ∙ second.gives) second.fits

  pub gives_either_off : (a b : ℕ) (old now : Moment) (x : Scalar) (h : Bool) → test_at ts place ≡ either (test_at ts a) (test_at ts b) → Gives g (test_value runs (test_at ts a) old) now (Ok x) → h ≡ is_true (seen_scalar x) → h ≡ true → Gives g (test_value runs (test_at ts place) old) now (Ok x)
  gives_either_off a b old now x h tree first is holds =
      tree_gives (either (test_at ts a) (test_at ts b)) old now (Ok x) tree first.over
      (ap (λ (v : Valued). and_then v (λ v n. cond (is_true v) (valued (given v) n) (test_value runs (test_at ts b) n))) first.gives
      ∙ ap (λ (t : Bool). cond t (valued (given (seen_scalar x)) now) (test_value runs (test_at ts b) now)) (sym is ∙ holds)) first.fits

  pub gives_either_failed : (a b : ℕ) (old now : Moment) (error : ParserError) → test_at ts place ≡ either (test_at ts a) (test_at ts b) → Gives g (test_value runs (test_at ts a) old) now (Err error) → Gives g (test_value runs (test_at ts place) old) now (Err error)
  gives_either_failed a b old now error tree first =
      tree_gives (either (test_at ts a) (test_at ts b)) old now (Err error) tree first.over
      (ap (λ (v : Valued). and_then v (λ v n. cond (is_true v) (valued (given v) n) (test_value runs (test_at ts b) n))) first.gives) tt

  pub gives_pair : (of : BinaryOperator) (a b : ℕ) (old middle now : Moment) (x : Scalar) (y z : Result Scalar ParserError) → test_at ts place ≡ pair of (test_at ts a) (test_at ts b) → Gives g (test_value runs (test_at ts a) old) middle (Ok x) → Gives g (test_value runs (test_at ts b) middle) now y → seen_end z ≡ paired of (seen_scalar x) (seen_end y) → IfOk z FitsScalar → Gives g (test_value runs (test_at ts place) old) now z
  gives_pair of a b old middle now x y z tree first second is fits =
      tree_gives (pair of (test_at ts a) (test_at ts b)) old now z tree second.over
      (ap (λ (v : Valued). and_then v (λ v n. and_then (test_value runs (test_at ts b) n) (λ w o. valued (given (pair_value of v w)) o))) first.gives
      ∙ ap (λ (v : Valued). and_then v (λ w o. valued (given (pair_value of (seen_scalar x) w)) o)) second.gives
      ∙ by_end (seen_end y) ∙ ap (λ (e : Ended). valued e now) (sym is)) fits
    where
      by_end : (e : Ended) → and_then (valued e now) (λ w o. valued (given (pair_value of (seen_scalar x) w)) o) ≡ valued (paired of (seen_scalar x) e) now
      by_end (given v) = refl
      by_end (failed f) = refl

  pub gives_pair_failed : (of : BinaryOperator) (a b : ℕ) (old now : Moment) (error : ParserError) → test_at ts place ≡ pair of (test_at ts a) (test_at ts b) → Gives g (test_value runs (test_at ts a) old) now (Err error) → Gives g (test_value runs (test_at ts place) old) now (Err error)
  gives_pair_failed of a b old now error tree first =
      tree_gives (pair of (test_at ts a) (test_at ts b)) old now (Err error) tree first.over
      (ap (λ (v : Valued). and_then v (λ v n. and_then (test_value runs (test_at ts b) n) (λ w o. valued (given (pair_value of v w)) o))) first.gives) tt

  pub gives_choice_on : (d a b : ℕ) (old middle now : Moment) (x : Scalar) (y : Result Scalar ParserError) (h : Bool) → test_at ts place ≡ choice (test_at ts d) (test_at ts a) (test_at ts b) → Gives g (test_value runs (test_at ts d) old) middle (Ok x) → h ≡ is_true (seen_scalar x) → h ≡ true → Gives g (test_value runs (test_at ts a) middle) now y → Gives g (test_value runs (test_at ts place) old) now y
  gives_choice_on d a b old middle now x y h tree first is holds second =
      tree_gives (choice (test_at ts d) (test_at ts a) (test_at ts b)) old now y tree second.over
      (ap (λ (v : Valued). and_then v (λ v n. cond (is_true v) (test_value runs (test_at ts a) n) (test_value runs (test_at ts b) n))) first.gives
      ∙ ap (λ (t : Bool). cond t (test_value runs (test_at ts a) middle) (test_value runs (test_at ts b) middle)) (sym is ∙ holds) ∙ second.gives) second.fits

  pub gives_choice_off : (d a b : ℕ) (old middle now : Moment) (x : Scalar) (y : Result Scalar ParserError) (h : Bool) → test_at ts place ≡ choice (test_at ts d) (test_at ts a) (test_at ts b) → Gives g (test_value runs (test_at ts d) old) middle (Ok x) → h ≡ is_true (seen_scalar x) → h ≡ false → Gives g (test_value runs (test_at ts b) middle) now y → Gives g (test_value runs (test_at ts place) old) now y
  gives_choice_off d a b old middle now x y h tree first is fails second =
      tree_gives (choice (test_at ts d) (test_at ts a) (test_at ts b)) old now y tree second.over
      (ap (λ (v : Valued). and_then v (λ v n. cond (is_true v) (test_value runs (test_at ts a) n) (test_value runs (test_at ts b) n))) first.gives
      ∙ ap (λ (t : Bool). cond t (test_value runs (test_at ts a) middle) (test_value runs (test_at ts b) middle)) (sym is ∙ fails) ∙ second.gives) second.fits

  pub gives_choice_failed : (d a b : ℕ) (old now : Moment) (error : ParserError) → test_at ts place ≡ choice (test_at ts d) (test_at ts a) (test_at ts b) → Gives g (test_value runs (test_at ts d) old) now (Err error) → Gives g (test_value runs (test_at ts place) old) now (Err error)
  gives_choice_failed d a b old now error tree first =
      tree_gives (choice (test_at ts d) (test_at ts a) (test_at ts b)) old now (Err error) tree first.over
      (ap (λ (v : Valued). and_then v (λ v n. cond (is_true v) (test_value runs (test_at ts a) n) (test_value runs (test_at ts b) n))) first.gives) tt
