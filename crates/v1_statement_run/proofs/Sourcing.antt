-- Which parts are read whole.
use Rattle.std.proofs.Common.{◌≡◌, ℕ, Bool, true, false, cond, List, Result, Ok, Err, refl, sym, ap, subst, ◌∙◌, arith}
use Rattle.std.specs.Prelude.{IfOk}
use Rattle.state_store.specs.State.{Contents}
use Rattle.v1_core.specs.declared.parser_error.ParserError.{ParserError}
use Rattle.v1_core.specs.Values.{is_true}
use Rattle.v1_core.specs.Cells.{Cells}
use Rattle.v1_core.specs.Layouts.{Layout}
use Rattle.v1_core.specs.declared.scalar.Scalar.{Scalar}
use Rattle.v1_core.specs.Scalars.{seen_scalar}
use Rattle.v1_ready_blocks.specs.declared.places.Range.{Range}
use Rattle.v1_ready_blocks.specs.declared.places.RangePlace.{RangePlace}
use Rattle.v1_ready_blocks.specs.declared.places.RangePlace.TheVariants as range_place
use Rattle.v1_ready_blocks.specs.Moments.{Moment}
use Rattle.v1_ready_blocks.specs.Places.{range_at}
use Rattle.v1_ready_blocks.specs.Tests.{Applied, Valued, Source, parts, chosen, test_value, source_range, sought, Sought, reached, when_tested}
use Rattle.v1_ready_blocks.specs.Nodes.{Tree, Ground, IsRange, IsRangePlace, no_range, test_at, source_at}
use Rattle.v1_statement_run.specs.declared.run.Run.{Run}
use Rattle.v1_statement_run.specs.Seen.{moment}
use Rattle.v1_statement_run.specs.Steps.{IsOver, Gives, Finds, seen_sought}

pub over_range : (g : Ground) (f : Cells) (s : Contents) (u : List ℕ) (r : Run) (of : RangePlace) → IsOver g (moment f s u r) → IsRangePlace g.layout of → IsRangePlace f.layout of
over_range g f s u r of over is = subst (λ (l : Layout). IsRangePlace l of) (sym over.cells) is

module _ (g : Ground) (runs : ℕ → Moment → Applied) (ts : List Tree) (place : ℕ) where
  tree_finds : (t : Source) (old now : Moment) (x : Result Range ParserError) → source_at ts place ≡ t → IsOver g now → source_range runs t old ≡ reached (seen_sought x) now → IfOk x (IsRange g.layout) → Finds g (source_range runs (source_at ts place) old) now x
  tree_finds t old now x tree over finds is = record {
    over = over;
    finds = ap (λ (e : Source). source_range runs e old) tree ∙ finds;
    is = is;
  }

  pub finds_nothing : (old : Moment) → source_at ts place ≡ parts (range_place.Fixed no_range) → IsOver g old → Finds g (source_range runs (source_at ts place) old) old (Ok no_range)
  finds_nothing old tree over =
      tree_finds (parts (range_place.Fixed no_range)) old old (Ok no_range) tree over refl
      (record {
        slots = record { within = omega arith; narrow = omega arith };
        headers = record { within = omega arith; narrow = omega arith };
        stacks = record { within = omega arith; narrow = omega arith };
      })

  pub finds_parts : (of : RangePlace) (f : Cells) (s : Contents) (u : List ℕ) (r : Run) (x : Result Range ParserError) → source_at ts place ≡ parts of → seen_sought x ≡ sought (range_at f of) → IfOk x (IsRange f.layout) → IsOver g (moment f s u r) → Finds g (source_range runs (source_at ts place) (moment f s u r)) (moment f s u r) x
  finds_parts of f s u r x tree is range over =
      tree_finds (parts of) (moment f s u r) (moment f s u r) x tree over (ap (λ (y : Sought). reached y (moment f s u r)) (sym is))
      (subst (λ (l : Layout). IfOk x (IsRange l)) over.cells range)

  pub finds_positive : (d a b : ℕ) (old middle now : Moment) (x : Scalar) (y : Result Range ParserError) (h : Bool) → source_at ts place ≡ chosen (test_at ts d) (source_at ts a) (source_at ts b) → Gives g (test_value runs (test_at ts d) old) middle (Ok x) → h ≡ is_true (seen_scalar x) → h ≡ true → Finds g (source_range runs (source_at ts a) middle) now y → Finds g (source_range runs (source_at ts place) old) now y
  finds_positive d a b old middle now x y h tree first is holds second =
      tree_finds (chosen (test_at ts d) (source_at ts a) (source_at ts b)) old now y tree second.over
      (ap (λ (v : Valued). when_tested v (λ v n. cond (is_true v) (source_range runs (source_at ts a) n) (source_range runs (source_at ts b) n))) first.gives
      ∙ ap (λ (t : Bool). cond t (source_range runs (source_at ts a) middle) (source_range runs (source_at ts b) middle)) (sym is ∙ holds) ∙ second.finds) second.is

  pub finds_negative : (d a b : ℕ) (old middle now : Moment) (x : Scalar) (y : Result Range ParserError) (h : Bool) → source_at ts place ≡ chosen (test_at ts d) (source_at ts a) (source_at ts b) → Gives g (test_value runs (test_at ts d) old) middle (Ok x) → h ≡ is_true (seen_scalar x) → h ≡ false → Finds g (source_range runs (source_at ts b) middle) now y → Finds g (source_range runs (source_at ts place) old) now y
  finds_negative d a b old middle now x y h tree first is fails second =
      tree_finds (chosen (test_at ts d) (source_at ts a) (source_at ts b)) old now y tree second.over
      (ap (λ (v : Valued). when_tested v (λ v n. cond (is_true v) (source_range runs (source_at ts a) n) (source_range runs (source_at ts b) n))) first.gives
      ∙ ap (λ (t : Bool). cond t (source_range runs (source_at ts a) middle) (source_range runs (source_at ts b) middle)) (sym is ∙ fails) ∙ second.finds) second.is

  pub finds_failed : (d a b : ℕ) (old now : Moment) (error : ParserError) → source_at ts place ≡ chosen (test_at ts d) (source_at ts a) (source_at ts b) → Gives g (test_value runs (test_at ts d) old) now (Err error) → Finds g (source_range runs (source_at ts place) old) now (Err error)
  finds_failed d a b old now error tree first =
      tree_finds (chosen (test_at ts d) (source_at ts a) (source_at ts b)) old now (Err error) tree first.over
      (ap (λ (v : Valued). when_tested v (λ v n. cond (is_true v) (source_range runs (source_at ts a) n) (source_range runs (source_at ts b) n))) first.gives) tt
