-- A variable of bits that is declared, and a call that gives it a number.
use Rattle.std.proofs.Common.{◌≡◌, ℕ, ◌%◌, ◌^◌, List, [], ◌∷◌, refl, ap, ◌∙◌, arith}
use Rattle.state_store.specs.State.{Contents}
use Rattle.p414_sem.specs.Effects.{Moment as Moment14}
use Rattle.p416_syntax.specs.declared.parts.Type16.TheVariants.{Bit}
use Rattle.p416_syntax.specs.Tree.{name, Stmt16, var}
use Rattle.p416_syntax.specs.Names.{Name}
use Rattle.p416_syntax.specs.Kinds.{bits}
use Rattle.p416_syntax.specs.Scopes.{Scope}
use Rattle.p416_syntax.specs.Statements.{behind, with_variable}
use Rattle.v1_core.specs.Values.{Value, a_number}
use Rattle.v1_core.specs.Frames.{Frame, Moment, ticked, declared, with_store, with_inner, number_put_at}
use Rattle.v1_core.specs.Statements.{no_label, run}
use Rattle.lower_laws_base.specs.Context.{Local, inner_of, Lowering, At, now, entry, HasAt, Sees, IsFresh, Stored, Aside, Stands, Holds, AreGiven, Reads, Looks}
use Rattle.lower_laws_base.specs.Mirror.{plain}
use Rattle.lower_laws_base.proofs.Means.{Means, local_reference, means_local}
use Rattle.lower_laws_base.proofs.States.{stands_ticked, stands_at, stands_stored, seen_at}
use Rattle.lower_laws_base.proofs.Copies.{seen_kept}
use Rattle.lower_laws_base.proofs.Running.{over_one, given_over, holds_first, sees_more, stands_inner, stands_more, declares_it, number_filled}
use Rattle.lower_laws_actions.proofs.Lists.{Free, Runs, run_all}

-- what is read stays as long as the variables of the block do
pub reads_left : (c : Lowering) (at : At) (r m : Moment14) (f h : Frame) → h.variables ≡ f.variables → Reads c at r m f → Reads c at r m h
reads_left c now r m f h left reads = reads
reads_left c entry r m f h left reads = (seen_kept c r.state f h left reads.0, reads.1)

pub looks_of : (c : Lowering) (s : Scope) (ls : List Local) (vs : List Value) (arguments : List ℕ) (at : At) (k : Aside) (r m : Moment14) (n : Moment) → Sees c s ls → AreGiven c.parameters ls vs arguments → HasAt c at → Stands c.layout ls vs k m n → Reads c at r m n.frame → Looks c s ls vs arguments at r.state n.frame
looks_of c s ls vs arguments at k r m n sees given has stands reads =
    record { sees = sees; inner = stands.inner; count = stands.count; given = given; has = has; seen = seen_at c ls vs k at r m n stands reads }

-- statements that leave a variable with a value
pub record Filled (c : Lowering) (s : Scope) (ls : List Local) (vs : List Value) (k : Aside) (b d : ℕ) (ys : List Stmt16) (m : Moment14) (n : Moment) (l : Local) (v : Value) : Type 0 where
  pub runs : Runs c s ls vs k b d ys m n
  pub holds : Holds runs.locals runs.values l v

module _ (c : Lowering) (s : Scope) (ls : List Local) (sees : Sees c s ls) (vs : List Value) (arguments : List ℕ) (given : AreGiven c.parameters ls vs arguments) (k : Aside) (m : Moment14) (n : Moment) (stands : Stands c.layout ls vs k m n) (width : ℕ) (called : Name) (fresh : IsFresh c ls called) where
  abbrev pub it : Local
  it = record { called = called; kind = bits width }

  abbrev pub next_scope : Scope
  next_scope = with_variable (Bit (plain width)) called s

  abbrev pub next : Moment
  next = declared called (a_number width 0) n

  pub next_sees : Sees c next_scope (it ∷ ls)
  next_sees = sees_more c s ls sees (Bit (plain width)) called fresh

  pub next_stands : Stands c.layout (it ∷ ls) (a_number width 0 ∷ vs) k m next
  next_stands = stands_more c.layout ls vs k m n it (a_number width 0) stands

  pub next_looks : (at : At) (r : Moment14) → HasAt c at → Reads c at r m n.frame → Looks c next_scope (it ∷ ls) (a_number width 0 ∷ vs) arguments at r.state next.frame
  next_looks at r has reads =
      looks_of c next_scope (it ∷ ls) (a_number width 0 ∷ vs) arguments at k r m next next_sees
      (given_over c.parameters ls (it ∷ ls) vs (a_number width 0 ∷ vs) arguments (over_one ls vs it (a_number width 0)) given) has next_stands
      (reads_left c at r m n.frame next.frame refl reads)

  pub next_means : Means c.world next_scope (name called) (bits width) (local_reference called) (ticked next)
  next_means = means_local c next_scope (it ∷ ls) next_sees (a_number width 0 ∷ vs) (ticked next) next_stands.inner 0 (omega arith) next_stands.count

  -- the call gives it this number, and may leave another store
  abbrev pub filled_runs : (b d : ℕ) (y : Stmt16) (x : ℕ) (store : Contents) → Free c (it ∷ ls) b d → behind y next_scope ≡ next_scope → Stored c.layout.shapes store → run c.world next_scope no_label y next ≡ with_store (number_put_at (local_reference called) x (ticked next)) store → Filled c s ls vs k b d (var (Bit (plain width)) called ∷ y ∷ []) (record { state = m.state; store = store }) n it (a_number width (x % 2 ^ width))
  filled_runs b d y x store free stays stored does =
      let vs1 : List Value = a_number width (x % 2 ^ width) ∷ vs in
      let end = with_store (with_inner (inner_of (it ∷ ls) vs1) (ticked next)) store in
      let is : run_all c.world s (var (Bit (plain width)) called ∷ y ∷ []) n ≡ end = ap (λ z. run c.world next_scope no_label y z) (declares_it c s width called n stands.both.packet.runs)
      ∙ does ∙ ap (λ z. with_store z store) (number_filled called width 0 x ls vs (ticked next) next_stands.inner) in
      let there = stands_stored c.layout (it ∷ ls) vs1 k m (with_inner (inner_of (it ∷ ls) vs1) (ticked next)) store stored
      (stands_inner c.layout (it ∷ ls) (it ∷ ls) (a_number width 0 ∷ vs) vs1 k m (ticked next) (inner_of (it ∷ ls) vs1) refl next_stands.count (stands_ticked c.layout (it ∷ ls) (a_number width 0 ∷ vs) k m next next_stands)) in
      record {
        runs = record {
          scope = next_scope;
          locals = it ∷ ls;
          values = vs1;
          goes = stays;
          sees = next_sees;
          stands = stands_at c.layout (it ∷ ls) vs1 k _ _ _ _ refl is there;
          over = over_one ls vs it (a_number width (x % 2 ^ width));
          variables = ap (λ (z : Moment). z.frame.variables) is;
          free = free;
        };
        holds = holds_first ls vs it (a_number width (x % 2 ^ width));
      }
