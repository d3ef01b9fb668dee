-- Meters: the call gives a colour to a variable, and the variable is written to the field.
use Rattle.std.proofs.Common.{None, ◌≡◌, ℕ, suc, ◌<◌, ◌%◌, ◌^◌, Bool, true, false, cond, List, [], ◌∷◌, length, refl, ap, ◌∙◌, subst, arith}
use Rattle.std.specs.Prelude.{codes}
use Rattle.std.proofs.Math.Nat.{mod-eq_of_lt}
use Rattle.std.proofs.lemmas.Nat.{mod_below, pow_pos}
use Rattle.state_store.specs.State.{Contents, colour, colour_taken}
use Rattle.p414_syntax.specs.declared.syntax.Decl.{Decl}
use Rattle.p414_sem.specs.Slots.{Slot, Target}
use Rattle.p414_sem.specs.State.{is_live, written}
use Rattle.p414_sem.specs.Operations.{Source, execute_meter}
use Rattle.p414_sem.specs.Effects.{Moment as Moment14, index_of, put_field, effects, all_fallen}
use Rattle.p416_syntax.specs.Tree.{Exp16, name, var}
use Rattle.p416_syntax.specs.declared.parts.Type16.TheVariants.{Bit}
use Rattle.p416_syntax.specs.Kinds.{bits, meter}
use Rattle.p416_syntax.specs.Scopes.{Scope}
use Rattle.p416_syntax.specs.Calls.{index_place}
use Rattle.v1_core.specs.Values.{Value, a_number, number_in}
use Rattle.v1_core.specs.Frames.{Moment, Reference, ticked, number_put_at, with_store}
use Rattle.v1_core.specs.Calls.{Given, by_reference, argument_at, object_in}
use Rattle.v1_core.specs.Externs.Objects.{execute_meter as meter_executed}
use Rattle.v1_core.specs.Statements.{no_label, run}
use Rattle.p416_syntax.specs.Calls.{written_bits}
use Rattle.lower_laws_base.specs.Context.{Local, Lowering, words_of, object_at, At, now, entry, Sees, Aside, Reads, Holds}
use Rattle.lower_laws_base.specs.Mirror.{plain, slot_exp, source_exp, resized}
use Rattle.lower_laws_base.proofs.Means.{Means, local_reference}
use Rattle.lower_laws_base.proofs.Gives.{gives_resized}
use Rattle.lower_laws_base.proofs.Sources.{gives_source, gives_local}
use Rattle.lower_laws_base.proofs.Writes.{worked}
use Rattle.lower_laws_base.proofs.Fields.{write_done}
use Rattle.lower_laws_base.proofs.Running.{given_over}
use Rattle.lower_laws_actions.specs.Mirror.{object_stmt, two_arguments, other_name, meter_stmts}
use Rattle.lower_laws_actions.specs.Fits.{IsObject, PrimitiveFits}
use Rattle.lower_laws_actions.proofs.Lists.{Free, free_other, Runs, runs_one, runs_more, run_all}
use Rattle.lower_laws_actions.proofs.Calls.{number_given, written_given, object_called, object_number}
use Rattle.lower_laws_actions.proofs.Stores.{taken_stored, colour_small}
use Rattle.lower_laws_actions.proofs.Filled.{reads_left, looks_of, it, next, next_scope, next_sees, next_means, next_looks, filled_runs}
use Rattle.lower_laws_actions.proofs.Statements.{Ready, guarded_stays}
use Rattle.lower_laws_base.specs.Gives.{Gives}

-- m.execute_meter(i, v)
executes : (c : Lowering) (s : Scope) (ls : List Local) → Sees c s ls → (number : ℕ) → IsObject c meter number → (width own k : ℕ) (e to : Exp16) (r : Reference) (n : Moment) → n.stopped ≡ None → Gives c.world s (ticked n) e width k → Means c.world s to (bits own) r (ticked n) → run c.world s no_label (object_stmt (words_of c) number (codes "execute_meter") (two_arguments e to)) n ≡ meter_executed number k r (ticked n)
executes c s ls sees number is width own k e to r n runs g m =
    object_called c s ls sees meter number is (codes "execute_meter") (two_arguments e to) n runs
    ∙ ap (λ (t : Given × Moment). let u = argument_at c.world s written_bits to t.1 in meter_executed (object_in c.world (name (object_at c.objects number).called)) (number_in t.0.value) u.0.target u.1)
    (number_given c.world s index_place e width k (ticked n) refl g)
    ∙ ap (λ (u : Given × Moment). meter_executed (object_in c.world (name (object_at c.objects number).called)) k u.0.target u.1) (written_given c.world s to own (ticked n) m.kind ∙ ap by_reference m.reference)
    ∙ ap (λ z. meter_executed z k r (ticked n)) (object_number c s ls sees meter number is)

-- what is read, but for the store
pub reads_stored : (c : Lowering) (at : At) (r m : Moment14) (f : _) (store : Contents) → Reads c at r m f → Reads c at (record { state = r.state; store = store }) (record { state = m.state; store = store }) f
reads_stored c now r m f store reads = ap (λ (z : Moment14). let q : Moment14 = record { state = z.state; store = store } in q) reads
reads_stored c entry r m f store reads = reads

coloured_is : (m : Moment14) (store : Contents) (slot : Slot) (x : ℕ) (live : Bool) → all_fallen (record { state = m.state; store = store }) (cond live (put_field slot x ∷ []) []) ≡ record { state = cond live (written m.state slot x) m.state; store = store }
coloured_is m store slot x true = refl
coloured_is m store slot x false = refl

pub meter_runs : (c : Lowering) (s : Scope) (ls : List Local) (vs : List Value) (arguments : List ℕ) (k : Aside) (at : At) (r m : Moment14) (n : Moment) → Ready c s ls vs arguments k at r m n → (ds : List Decl) (K b : ℕ) → Free c ls b K → (object : ℕ) (i : Source) (t : Target) → PrimitiveFits c ds (execute_meter object i t) → Runs c s ls vs k b (suc K) (meter_stmts (words_of c) at K object i t) (all_fallen m (effects ds arguments r (execute_meter object i t))) n
meter_runs c s ls vs arguments k at r m n ready ds K b free object i t fits =
    let stands = ready.stands in
    let called = other_name (words_of c) K in
    let fresh = free.others K (omega arith) in
    let index = index_of arguments r.state i in
    let x = colour m.store object index in
    let new = colour_taken m.store object index in
    let within : object < length c.layout.shapes = omega (arith, fits.0.0, ready.sees.declares.stored) in
    let small = colour_small c.layout.shapes m.store stands.stored object within index in
    let there = next_sees c s ls ready.sees vs arguments ready.given k m n stands 8 called fresh in
    let one = next c s ls ready.sees vs arguments ready.given k m n stands 8 called fresh in
    let scope1 = next_scope c s ls ready.sees vs arguments ready.given k m n stands 8 called fresh in
    let it1 = it c s ls ready.sees vs arguments ready.given k m n stands 8 called fresh in
    let looks = next_looks c s ls ready.sees vs arguments ready.given k m n stands 8 called fresh at r ready.has ready.reads in
    let means = next_means c s ls ready.sees vs arguments ready.given k m n stands 8 called fresh in
    let does = executes c scope1 (it1 ∷ ls) there object fits.0 32 8 index (source_exp (words_of c) at 32 i) (name called) (local_reference called) one stands.both.packet.runs
    (gives_source c scope1 (it1 ∷ ls) (a_number 8 0 ∷ vs) arguments at r.state (ticked one) looks 32 i fits.1) means
    ∙ ap (λ (store : Contents). with_store (number_put_at (local_reference called) (colour store object index) (ticked one)) (colour_taken store object index)) stands.both.store in
    let filled = filled_runs c s ls ready.sees vs arguments ready.given k m n stands 8 called fresh b (suc K) (object_stmt (words_of c) object (codes "execute_meter") (two_arguments (source_exp (words_of c) at 32 i) (name called))) x new
    (free_other c ls b K (bits 8) free) refl (taken_stored c.layout.shapes m.store stands.stored object within index) does in
    let a = filled.runs in
    let e = resized 8 t.width (name called) in
    let m1 : Moment14 = record { state = m.state; store = new } in
    let r1 : Moment14 = record { state = r.state; store = new } in
    let n1 = run_all c.world s (var (Bit (plain 8)) called ∷ object_stmt (words_of c) object (codes "execute_meter") (two_arguments (source_exp (words_of c) at 32 i) (name called)) ∷ []) n in
    let given1 = given_over c.parameters ls a.locals vs a.values arguments a.over ready.given in
    let reads1 = reads_stored c at r m n1.frame new (reads_left c at r m n.frame n1.frame a.variables ready.reads) in
    let looks1 = looks_of c a.scope a.locals a.values arguments at k r1 m1 n1 a.sees given1 ready.has a.stands reads1 in
    let least : x < 2 ^ 8 = omega (arith, small) in
    let held = subst (λ z. Holds a.locals a.values it1 (a_number 8 z)) (mod-eq_of_lt least) filled.holds in
    let wrote = write_done c a.scope a.locals a.values arguments k at r1 m1 n1 a.stands reads1 looks1 t.slot t.width (x % 2 ^ t.width) e fits.2 fits.3 (mod_below x (2 ^ t.width) (pow_pos t.width))
    (λ j. gives_resized c.world a.scope (worked n1 j) (name called) 8 t.width x least (gives_local c a.scope a.locals a.sees a.values (worked n1 j) a.stands.inner a.stands.count it1 8 x refl held)) in
    let second = runs_one c a.scope a.locals a.values k b (suc K) _ _ n1 (guarded_stays (words_of c) at a.scope t.slot (slot_exp (words_of c) now t.slot) e) a.sees a.free wrote in
    subst (λ z. Runs c s ls vs k b (suc K) (meter_stmts (words_of c) at K object i t) z n) (coloured_is m new t.slot (x % 2 ^ t.width) (is_live r.state t.slot))
    (runs_more c s ls vs k b (suc K) b (suc K) _ _ m1 _ n a second)
