-- Registers that are read in front.
use Rattle.std.proofs.Common.{◌≡◌, ℕ, suc, ◌%◌, ◌^◌, List, [], ◌∷◌, refl, sym, ap, ◌∙◌, subst, arith}
use Rattle.std.specs.Prelude.{codes}
use Rattle.std.proofs.Math.Nat.{mod-eq_of_lt}
use Rattle.state_store.specs.State.{Contents, read as read_cell}
use Rattle.p414_syntax.specs.declared.syntax.Decl.{Decl}
use Rattle.p414_sem.specs.Operations.{Source, just, on_mask, sum, difference, conjunction, disjunction, exclusive, left_shift, right_shift, cell, hashed, Primitive, write, add_header, remove_header, copy_header, push, pop, count_cell, write_cell, execute_meter, ask, nothing}
use Rattle.p414_sem.specs.Effects.{Moment as Moment14, index_of}
use Rattle.p416_syntax.specs.Tree.{name}
use Rattle.p416_syntax.specs.Kinds.{bits}
use Rattle.p416_syntax.specs.Scopes.{Scope}
use Rattle.v1_core.specs.Values.{Value, a_number}
use Rattle.v1_core.specs.Frames.{Moment, ticked, number_put_at}
use Rattle.lower_laws_base.specs.Context.{Local, Lowering, words_of, object_at, At, HasAt, Sees, Aside, Stands, AreGiven, Reads, Stored}
use Rattle.lower_laws_base.specs.Mirror.{source_exp}
use Rattle.lower_laws_base.proofs.Means.{local_reference}
use Rattle.lower_laws_base.proofs.Sources.{gives_source}
use Rattle.lower_laws_actions.specs.Mirror.{read_front, front, object_stmt, two_arguments}
use Rattle.lower_laws_actions.specs.Fits.{TermFits, PrimitiveFits}
use Rattle.lower_laws_actions.proofs.Lists.{Free, free_front, free_later, Runs, runs_none}
use Rattle.lower_laws_actions.proofs.Terms.{HoldsTerm, cell_bounded}
use Rattle.lower_laws_actions.proofs.Calls.{reads}
use Rattle.lower_laws_actions.proofs.Hashes.{hash_filled}
use Rattle.lower_laws_actions.proofs.Filled.{Filled, it, next, next_scope, next_sees, next_means, next_looks, filled_runs}

-- what a primitive holds of its front
abbrev pub HoldsFront : Lowering → List Decl → Moment14 → List ℕ → ℕ → Primitive → List Local → List Value → Type 0
HoldsFront c ds r arguments K (write sums t term) ls vs = HoldsTerm c ds r arguments K t.width term ls vs
HoldsFront c ds r arguments K _ ls vs = Unit {0}

-- a front that was run
pub record Fronted (c : Lowering) (ds : List Decl) (s : Scope) (ls : List Local) (vs : List Value) (k : Aside) (d : ℕ) (at : At) (r m : Moment14) (n : Moment) (arguments : List ℕ) (K : ℕ) (p : Primitive) : Type 0 where
  pub runs : Runs c s ls vs k (suc K) d (front ds (words_of c) at K p) m n
  pub holds : HoldsFront c ds r arguments K p runs.locals runs.values

module _ (c : Lowering) (ds : List Decl) (s : Scope) (ls : List Local) (sees : Sees c s ls) (vs : List Value) (arguments : List ℕ) (given : AreGiven c.parameters ls vs arguments) (k : Aside) (at : At) (has : HasAt c at) (r m : Moment14) (n : Moment) (stands : Stands c.layout ls vs k m n) (reads_it : Reads c at r m n.frame) (same : r.store ≡ m.store) (K d : ℕ) (free : Free c ls K d) where
  -- r.read(v, i)
  cell_filled : (object : ℕ) (i : Source) → TermFits c ds (cell object i) → Filled c s ls vs k (suc K) d (read_front ds (words_of c) at K 0 (cell object i)) m n (record { called = c.spare K 0; kind = bits (object_at c.objects object).width }) (a_number (object_at c.objects object).width (read_cell r.store object (index_of arguments r.state i)))
  cell_filled object i fits =
      let width = (object_at c.objects object).width in
      let called = c.spare K 0 in
      let fresh = free.fronts K 0 (omega arith) (omega arith) in
      let index = index_of arguments r.state i in
      let x = read_cell r.store object index in
      let one = next c s ls sees vs arguments given k m n stands width called fresh in
      let means = next_means c s ls sees vs arguments given k m n stands width called fresh in
      let looks = next_looks c s ls sees vs arguments given k m n stands width called fresh at r has reads_it in
      let there = next_sees c s ls sees vs arguments given k m n stands width called fresh in
      let gives = gives_source c (next_scope c s ls sees vs arguments given k m n stands width called fresh) (it c s ls sees vs arguments given k m n stands width called fresh ∷ ls) (a_number width 0 ∷ vs) arguments at r.state (ticked one) looks 32 i fits.1 in
      let does = reads c (next_scope c s ls sees vs arguments given k m n stands width called fresh) (it c s ls sees vs arguments given k m n stands width called fresh ∷ ls) there object fits.0 32 width index (name called) (source_exp (words_of c) at 32 i) (local_reference called) one stands.both.packet.runs means gives
      ∙ ap (λ (store : Contents). number_put_at (local_reference called) (read_cell store object index) (ticked one)) (stands.both.store ∙ sym same) in
      let filled = filled_runs c s ls sees vs arguments given k m n stands width called fresh (suc K) d (object_stmt (words_of c) object (codes "read") (two_arguments (name called) (source_exp (words_of c) at 32 i))) x n.store
      (free_front c ls K d K 0 (bits width) (omega arith) (omega arith) free) refl (subst (λ z. Stored c.layout.shapes z) (sym stands.both.store) stands.stored) does in
      let kept : x % 2 ^ width ≡ x = mod-eq_of_lt (cell_bounded c s r.store object index sees.declares (subst (λ z. Stored c.layout.shapes z) (sym same) stands.stored) fits.0) in
      let stay : record { state = m.state; store = n.store } ≡ m = ap (λ (store : Contents). let z : Moment14 = record { state = m.state; store = store } in z) stands.both.store in
      subst (λ z. Filled c s ls vs k (suc K) d (read_front ds (words_of c) at K 0 (cell object i)) z n (it c s ls sees vs arguments given k m n stands width called fresh) (a_number width x)) stay
      (subst (λ z. Filled c s ls vs k (suc K) d (read_front ds (words_of c) at K 0 (cell object i)) (record { state = m.state; store = n.store }) n (it c s ls sees vs arguments given k m n stands width called fresh) (a_number width z)) kept filled)

  none : Runs c s ls vs k (suc K) d [] m n
  none = runs_none c s ls vs k (suc K) d m n sees (free_later c ls K d (suc K) d (omega arith) (omega arith) free) stands

  pub front_runs : (p : Primitive) → PrimitiveFits c ds p → Fronted c ds s ls vs k d at r m n arguments K p
  front_runs (write sums t (cell object i)) fits = let filled = cell_filled object i fits.2 in record { runs = filled.runs; holds = filled.holds }
  front_runs (write sums t (just a)) fits = record { runs = none; holds = tt }
  front_runs (write sums t (on_mask a b)) fits = record { runs = none; holds = tt }
  front_runs (write sums t (sum a b)) fits = record { runs = none; holds = tt }
  front_runs (write sums t (difference a b)) fits = record { runs = none; holds = tt }
  front_runs (write sums t (conjunction a b)) fits = record { runs = none; holds = tt }
  front_runs (write sums t (disjunction a b)) fits = record { runs = none; holds = tt }
  front_runs (write sums t (exclusive a b)) fits = record { runs = none; holds = tt }
  front_runs (write sums t (left_shift a b)) fits = record { runs = none; holds = tt }
  front_runs (write sums t (right_shift a b)) fits = record { runs = none; holds = tt }
  front_runs (write sums t (hashed base calculation bound)) fits =
      let filled = hash_filled c ds s ls sees vs arguments given k at has r m n stands reads_it K d free t.width base calculation bound fits.2 in record { runs = filled.runs; holds = filled.holds }
  front_runs (add_header a) fits = record { runs = none; holds = tt }
  front_runs (remove_header a) fits = record { runs = none; holds = tt }
  front_runs (copy_header a b) fits = record { runs = none; holds = tt }
  front_runs (push a b) fits = record { runs = none; holds = tt }
  front_runs (pop a b) fits = record { runs = none; holds = tt }
  front_runs (count_cell a b) fits = record { runs = none; holds = tt }
  front_runs (write_cell a b e) fits = record { runs = none; holds = tt }
  front_runs (execute_meter a b e) fits = record { runs = none; holds = tt }
  front_runs (ask a b e) fits = record { runs = none; holds = tt }
  front_runs nothing fits = record { runs = none; holds = tt }
