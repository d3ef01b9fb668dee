-- Each primitive under both rules: what is written for it does what its effects do, where they fall.
use Rattle.std.proofs.Common.{◌≡◌, ℕ, suc, ◌<◌, Bool, ◌&&◌, List, [], ◌∷◌, length, refl, sym, ap, ap₂, ◌∙◌, subst, arith}
use Rattle.std.specs.Prelude.{codes}
use Rattle.state_store.specs.declared.shapes.Shape.{Shape}
use Rattle.state_store.specs.declared.shapes.Shape.TheVariants.{Counter, Direct, Register, Meter}
use Rattle.state_store.specs.Cells.{width_of}
use Rattle.state_store.specs.State.{Contents, shape_at, count as count_in_store, write as write_in_store}
use Rattle.p414_syntax.specs.declared.syntax.Decl.{Decl}
use Rattle.p414_sem.specs.Wholes.{wrapped, kept}
use Rattle.p414_sem.specs.Slots.{Slot, standard, declared, Target}
use Rattle.p414_sem.specs.Operations.{Source, Term, Primitive, write, add_header, count_cell, write_cell}
use Rattle.p414_sem.specs.Effects.{Moment as Moment14, source_number, index_of, term_number, effects, all_fallen}
use Rattle.p416_syntax.specs.Tree.{Exp16, Stmt16, assign}
use Rattle.p416_syntax.specs.Kinds.{register}
use Rattle.p416_syntax.specs.Scopes.{Scope}
use Rattle.p416_syntax.specs.Statements.{behind}
use Rattle.v1_core.specs.Values.{Value}
use Rattle.v1_core.specs.Frames.{Moment, ticked, with_store}
use Rattle.agreement_of_meanings.specs.Shown.{Shown, as_header, as_stack, as_metadata, shown_at}
use Rattle.lower_laws_base.specs.Context.{Local, Lowering, words_of, Words, ObjectName, object_at, IsShapeOf, At, now, entry, HasAt, Sees, Declares, Stored, Aside, Stands, AreGiven, Reads, Looks}
use Rattle.lower_laws_base.specs.Mirror.{slot_exp, source_exp, guarded, guarded_part}
use Rattle.lower_laws_base.proofs.Sources.{gives_source}
use Rattle.lower_laws_base.proofs.States.{stands_at, stands_ticked, stands_stored}
use Rattle.lower_laws_base.proofs.Writes.{worked}
use Rattle.lower_laws_base.proofs.Fields.{write_done}
use Rattle.lower_laws_base.proofs.Running.{Done}
use Rattle.lower_laws_actions.specs.Mirror.{write_exp, object_stmt, one_argument, two_arguments, add_stmt}
use Rattle.lower_laws_actions.specs.Fits.{IsObject, PrimitiveFits}
use Rattle.lower_laws_actions.proofs.Lists.{Free, free_later, Runs, runs_one}
use Rattle.lower_laws_actions.proofs.Terms.{gives_write, kept_below}
use Rattle.lower_laws_actions.proofs.Calls.{length_is, counts, stores}
use Rattle.lower_laws_actions.proofs.Stores.{count_stored, write_stored}
use Rattle.lower_laws_actions.proofs.Headers.{adds_done, anew_done}
use Rattle.lower_laws_actions.proofs.Filled.{looks_of}
use Rattle.lower_laws_actions.proofs.Fronts.{HoldsFront}

-- all that stands where a primitive's statements run
pub record Ready (c : Lowering) (s : Scope) (ls : List Local) (vs : List Value) (arguments : List ℕ) (k : Aside) (at : At) (r m : Moment14) (n : Moment) : Type 0 where
  pub sees : Sees c s ls
  pub given : AreGiven c.parameters ls vs arguments
  pub has : HasAt c at
  pub stands : Stands c.layout ls vs k m n
  pub reads : Reads c at r m n.frame
  pub stored : Stored c.layout.shapes r.store

part_stays : (w : Words) (at : At) (s : Scope) (x : Shown) (e : ℕ) (target f : Exp16) → behind (guarded_part w at x e (assign target f)) s ≡ s
part_stays w now s x e target f = refl
part_stays w entry s (as_header called fields) e target f = refl
part_stays w entry s (as_stack called fields) e target f = refl
part_stays w entry s (as_metadata called fields) e target f = refl

pub guarded_stays : (w : Words) (at : At) (s : Scope) (slot : Slot) (target f : Exp16) → behind (guarded w at slot (assign target f)) s ≡ s
guarded_stays w at s (standard which) target f = refl
guarded_stays w at s (declared i e k) target f = part_stays w at s (shown_at w.names.instances i) e target f

width_by : (o : ObjectName) (x : Shape) → o.kind ≡ register → IsShapeOf o x → width_of x ≡ o.width
width_by o (Counter kind size) is has = absurd (cc (is, has))
width_by o (Direct kind size) is has = absurd (cc (is, has))
width_by o (Meter size) is has = absurd (cc (is, has))
width_by o (Register width size) is has = sym has.1

pub width_is : (c : Lowering) (s : Scope) (store : Contents) (object : ℕ) → Declares c s → Stored c.layout.shapes store → IsObject c register object → width_of (shape_at store.shapes object) ≡ (object_at c.objects object).width
width_is c s store object declares stored is =
    width_by (object_at c.objects object) (shape_at store.shapes object) is.1
    (subst (λ (z : List Shape). IsShapeOf (object_at c.objects object) (shape_at z object)) (sym stored.shapes_are) (declares.shape object is.0))

module _ (c : Lowering) (s : Scope) (ls : List Local) (vs : List Value) (arguments : List ℕ) (k : Aside) (at : At) (r m : Moment14) (n : Moment) (ready : Ready c s ls vs arguments k at r m n) (ds : List Decl) (K : ℕ) where
  abbrev stands : Stands c.layout ls vs k m n
  stands = ready.stands

  pub looks : Looks c s ls vs arguments at r.state n.frame
  looks = looks_of c s ls vs arguments at k r m n ready.sees ready.given ready.has stands ready.reads

  abbrev fall : Primitive → Moment14
  fall p = all_fallen m (effects ds arguments r p)

  within : (object : ℕ) → object < length c.objects → object < length c.layout.shapes
  within object lt = omega (arith, lt, ready.sees.declares.stored)

  pub write_statement : (sums : Bool) (t : Target) (term : Term) → PrimitiveFits c ds (write sums t term) → HoldsFront c ds r arguments K (write sums t term) ls vs → Done c s ls vs k (guarded (words_of c) at t.slot (assign (slot_exp (words_of c) now t.slot) (write_exp (words_of c) at K sums t term))) (fall (write sums t term)) n
  write_statement sums t term fits holds =
      let z = term_number ds arguments r t.slot term in
      write_done c s ls vs arguments k at r m n stands ready.reads looks t.slot t.width (kept (sums && t.saturating) t.width z) (write_exp (words_of c) at K sums t term) fits.0 fits.1
      (kept_below (sums && t.saturating) t.width z)
      (λ i. gives_write c s ls vs arguments at r (worked n i) looks ds K sums t term ready.stored fits.0 fits.2 fits.3 holds)

  pub count_statement : (object : ℕ) (i : Source) → PrimitiveFits c ds (count_cell object i) → Done c s ls vs k (object_stmt (words_of c) object (codes "count") (one_argument (source_exp (words_of c) at 32 i))) (fall (count_cell object i)) n
  count_statement object i fits =
      let index = index_of arguments r.state i in
      let new = count_in_store m.store object index m.state.packet_length in
      let done = counts c s ls ready.sees object fits.0 32 index (source_exp (words_of c) at 32 i) n stands.both.packet.runs (gives_source c s ls vs arguments at r.state (ticked n) looks 32 i fits.1)
      ∙ ap₂ (λ (store : Contents) (size : ℕ). with_store (ticked n) (count_in_store store object index size)) stands.both.store (length_is c.layout ls vs k m n stands) in
      record {
        stands = stands_at c.layout ls vs k _ _ _ _ refl done
            (stands_stored c.layout ls vs k m (ticked n) new (count_stored c.layout.shapes m.store stands.stored object (within object fits.0.0) index m.state.packet_length) (stands_ticked c.layout ls vs k m n stands));
        variables = ap (λ (z : Moment). z.frame.variables) done;
      }

  pub store_statement : (object : ℕ) (i value : Source) → PrimitiveFits c ds (write_cell object i value) → Done c s ls vs k (object_stmt (words_of c) object (codes "write") (two_arguments (source_exp (words_of c) at 32 i) (source_exp (words_of c) at (object_at c.objects object).width value))) (fall (write_cell object i value)) n
  store_statement object i value fits =
      let index = index_of arguments r.state i in
      let own = (object_at c.objects object).width in
      let z = source_number arguments r.state value in
      let new = write_in_store m.store object index (wrapped own z) in
      let done = stores c s ls ready.sees object fits.0 32 own index (wrapped own z) (source_exp (words_of c) at 32 i) (source_exp (words_of c) at own value) n stands.both.packet.runs
      (gives_source c s ls vs arguments at r.state (ticked n) looks 32 i fits.1) (gives_source c s ls vs arguments at r.state (ticked n) looks own value fits.2)
      ∙ ap (λ (store : Contents). with_store (ticked n) (write_in_store store object index (wrapped own z))) stands.both.store in
      let there = stands_stored c.layout ls vs k m (ticked n) new (write_stored c.layout.shapes m.store stands.stored object (within object fits.0.0) index (wrapped own z)) (stands_ticked c.layout ls vs k m n stands) in
      record {
        stands = stands_at c.layout ls vs k _ _ _ _ (ap (λ w. let q : Moment14 = record { state = m.state; store = write_in_store m.store object index (wrapped w z) } in q) (width_is c s r.store object ready.sees.declares ready.stored fits.0)) done there;
        variables = ap (λ (z : Moment). z.frame.variables) done;
      }

  pub by_done : (b d : ℕ) (y : Stmt16) (p : Moment14) → Free c ls b K → behind y s ≡ s → Done c s ls vs k y p n → Runs c s ls vs k b (suc K) (y ∷ []) p n
  by_done b d y p free stays done = runs_one c s ls vs k b (suc K) y p n stays ready.sees (free_later c ls b K b (suc K) (omega arith) (omega arith) free) done

-- what is added
pub add_statement : (c : Lowering) (s : Scope) (ls : List Local) (vs : List Value) (arguments : List ℕ) (k : Aside) (at : At) (r m : Moment14) (n : Moment) → Ready c s ls vs arguments k at r m n → (ds : List Decl) (part : _) → PrimitiveFits c ds (add_header part) → Done c s ls vs k (add_stmt (words_of c) at part) (all_fallen m (effects ds arguments r (add_header part))) n
add_statement c s ls vs arguments k now r m n ready ds part fits = adds_done c s ls ready.sees vs arguments ready.given k ds r m n ready.stands ready.reads part fits
add_statement c s ls vs arguments k entry r m n ready ds part fits =
    anew_done c s ls ready.sees vs arguments ready.given k ds r m n ready.stands (looks_of c s ls vs arguments entry k r m n ready.sees ready.given ready.has ready.stands ready.reads) part fits

pub add_stays : (w : Words) (at : At) (s : Scope) (part : _) → behind (add_stmt w at part) s ≡ s
add_stays w now s part = refl
add_stays w entry s part = refl
