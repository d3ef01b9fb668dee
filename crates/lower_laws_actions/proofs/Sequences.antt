-- Lists of primitives under both rules.
use Rattle.std.proofs.Common.{◌≡◌, ℕ, suc, ◌<◌, Bool, true, false, cond, List, [], ◌∷◌, ◌++◌, length, refl, sym, ◌∙◌, subst}
use Rattle.fabric.specs.declared.items.RequestKind.TheVariants.{CloneI2E, CloneE2E, Resubmit, Recirculate}
use Rattle.p414_syntax.specs.declared.syntax.Decl.{Decl}
use Rattle.p414_sem.specs.Slots.{Slot, standard, declared, Element}
use Rattle.p414_sem.specs.State.{State, Header, place_of, is_live, is_valid_at, written}
use Rattle.p414_sem.specs.Operations.{just, on_mask, sum, difference, conjunction, disjunction, exclusive, left_shift, right_shift, cell, hashed, Primitive, write, add_header, remove_header, copy_header, push, pop, count_cell, write_cell, execute_meter, ask, nothing}
use Rattle.p414_sem.specs.Effects.{Moment as Moment14, all_fallen, put_field, put_header}
use Rattle.p416_syntax.specs.Tree.{Stmt16}
use Rattle.p416_syntax.specs.Scopes.{Scope}
use Rattle.v1_core.specs.Values.{Value}
use Rattle.v1_core.specs.Frames.{Moment}
use Rattle.lower_laws_base.specs.Context.{Local, StateLayout, Lowering, words_of, now, entry, Copies, Sees, Shaped, IsSlot, Aside, Stands, AreGiven, Reads, Seen, Stored}
use Rattle.lower_laws_base.proofs.Copies.{seen_kept}
use Rattle.lower_laws_base.proofs.Shapes.{HasIt, place_with, place_written}
use Rattle.lower_laws_base.proofs.Running.{Over, given_over}
use Rattle.lower_laws_actions.specs.Mirror.{front, rest, in_order, fronts, rests}
use Rattle.lower_laws_actions.specs.Fits.{PrimitiveFits, AllFit}
use Rattle.lower_laws_actions.specs.Runs.{after, after_sequence, after_parallel}
use Rattle.lower_laws_actions.proofs.Lists.{Free, Runs, runs_none, runs_more, run_all}
use Rattle.lower_laws_actions.proofs.Filled.{reads_left}
use Rattle.lower_laws_actions.proofs.Fronts.{HoldsFront, front_runs}
use Rattle.lower_laws_actions.proofs.Rests.{rest_runs}

-- statements that run, whatever variables they declare
pub record Ends (c : Lowering) (s : Scope) (ls : List Local) (vs : List Value) (k : Aside) (ys : List Stmt16) (m : Moment14) (n : Moment) : Type 0 where
  pub b : ℕ
  pub d : ℕ
  pub runs : Runs c s ls vs k b d ys m n

-- the sequential rule

pub sequence_runs : (c : Lowering) (k : Aside) (ds : List Decl) (arguments : List ℕ) (ps : List Primitive) → AllFit c ds ps → (s : Scope) (ls : List Local) → Sees c s ls → (vs : List Value) → AreGiven c.parameters ls vs arguments → (K : ℕ) → Free c ls K K → (m : Moment14) (n : Moment) → Stands c.layout ls vs k m n → Ends c s ls vs k (in_order ds (words_of c) K ps) (after_sequence ds arguments ps m) n
sequence_runs c k ds arguments [] fits s ls sees vs given K free m n stands = record { b = K; d = K; runs = runs_none c s ls vs k K K m n sees free stands }
sequence_runs c k ds arguments (p ∷ ps) fits s ls sees vs given K free m n stands =
    let w = words_of c in
    let one = front_runs c ds s ls sees vs arguments given k now tt m m n stands refl refl K K free p fits.0 in
    let a = one.runs in
    let n1 = run_all c.world s (front ds w now K p) n in
    let given1 = given_over c.parameters ls a.locals vs a.values arguments a.over given in
    let two = rest_runs c a.scope a.locals a.values arguments k now m m n1 (record { sees = a.sees; given = given1; has = tt; stands = a.stands; reads = refl; stored = stands.stored }) ds K (suc K) a.free p fits.0 one.holds in
    let both = runs_more c s ls vs k (suc K) K (suc K) (suc K) (front ds w now K p) (rest w now K p) m (after ds arguments m p m) n a two in
    let more = sequence_runs c k ds arguments ps fits.1 both.scope both.locals both.sees both.values (given_over c.parameters ls both.locals vs both.values arguments both.over given) (suc K) both.free (after ds arguments m p m) (run_all c.world s (front ds w now K p ++ rest w now K p) n) both.stands in
    record { b = more.b; d = more.d; runs = runs_more c s ls vs k (suc K) (suc K) more.b more.d (front ds w now K p ++ rest w now K p) (in_order ds w (suc K) ps) (after ds arguments m p m) (after_sequence ds arguments ps (after ds arguments m p m)) n both more.runs }

-- the parallel rule: fronts

abbrev pub HoldsAll : Lowering → List Decl → Moment14 → List ℕ → ℕ → List Primitive → List Local → List Value → Type 0
HoldsAll c ds r arguments K [] ls vs = Unit {0}
HoldsAll c ds r arguments K (p ∷ ps) ls vs = HoldsFront c ds r arguments K p ls vs × HoldsAll c ds r arguments (suc K) ps ls vs

holds_on : (c : Lowering) (ds : List Decl) (r : Moment14) (arguments : List ℕ) (K : ℕ) (p : Primitive) (ls ks : List Local) (vs us : List Value) → Over ls vs ks us → HoldsFront c ds r arguments K p ls vs → HoldsFront c ds r arguments K p ks us
holds_on c ds r arguments K (write sums t (cell object i)) ls ks vs us over holds = over.keeps _ _ holds
holds_on c ds r arguments K (write sums t (just a)) ls ks vs us over holds = tt
holds_on c ds r arguments K (write sums t (on_mask a b)) ls ks vs us over holds = tt
holds_on c ds r arguments K (write sums t (sum a b)) ls ks vs us over holds = tt
holds_on c ds r arguments K (write sums t (difference a b)) ls ks vs us over holds = tt
holds_on c ds r arguments K (write sums t (conjunction a b)) ls ks vs us over holds = tt
holds_on c ds r arguments K (write sums t (disjunction a b)) ls ks vs us over holds = tt
holds_on c ds r arguments K (write sums t (exclusive a b)) ls ks vs us over holds = tt
holds_on c ds r arguments K (write sums t (left_shift a b)) ls ks vs us over holds = tt
holds_on c ds r arguments K (write sums t (right_shift a b)) ls ks vs us over holds = tt
holds_on c ds r arguments K (write sums t (hashed a b d)) ls ks vs us over holds = over.keeps _ _ holds
holds_on c ds r arguments K (add_header a) ls ks vs us over holds = tt
holds_on c ds r arguments K (remove_header a) ls ks vs us over holds = tt
holds_on c ds r arguments K (copy_header a b) ls ks vs us over holds = tt
holds_on c ds r arguments K (push a b) ls ks vs us over holds = tt
holds_on c ds r arguments K (pop a b) ls ks vs us over holds = tt
holds_on c ds r arguments K (count_cell a b) ls ks vs us over holds = tt
holds_on c ds r arguments K (write_cell a b d) ls ks vs us over holds = tt
holds_on c ds r arguments K (execute_meter a b d) ls ks vs us over holds = tt
holds_on c ds r arguments K (ask a b d) ls ks vs us over holds = tt
holds_on c ds r arguments K nothing ls ks vs us over holds = tt

all_on : (c : Lowering) (ds : List Decl) (r : Moment14) (arguments : List ℕ) (K : ℕ) (ps : List Primitive) (ls ks : List Local) (vs us : List Value) → Over ls vs ks us → HoldsAll c ds r arguments K ps ls vs → HoldsAll c ds r arguments K ps ks us
all_on c ds r arguments K [] ls ks vs us over holds = tt
all_on c ds r arguments K (p ∷ ps) ls ks vs us over holds = (holds_on c ds r arguments K p ls ks vs us over holds.0, all_on c ds r arguments (suc K) ps ls ks vs us over holds.1)

pub record AllFronted (c : Lowering) (ds : List Decl) (s : Scope) (ls : List Local) (vs : List Value) (k : Aside) (d : ℕ) (r : Moment14) (n : Moment) (arguments : List ℕ) (K : ℕ) (ps : List Primitive) : Type 0 where
  pub b : ℕ
  pub runs : Runs c s ls vs k b d (fronts ds (words_of c) K ps) r n
  pub holds : HoldsAll c ds r arguments K ps runs.locals runs.values

pub fronts_run : (c : Lowering) (k : Aside) (copies : Copies c) (ds : List Decl) (arguments : List ℕ) (r : Moment14) (ps : List Primitive) → AllFit c ds ps → (s : Scope) (ls : List Local) → Sees c s ls → (vs : List Value) → AreGiven c.parameters ls vs arguments → (K d : ℕ) → Free c ls K d → (n : Moment) → Stands c.layout ls vs k r n → Seen c entry r.state n.frame → AllFronted c ds s ls vs k d r n arguments K ps
fronts_run c k copies ds arguments r [] fits s ls sees vs given K d free n stands seen = record { b = K; runs = runs_none c s ls vs k K d r n sees free stands; holds = tt }
fronts_run c k copies ds arguments r (p ∷ ps) fits s ls sees vs given K d free n stands seen =
    let w = words_of c in
    let one = front_runs c ds s ls sees vs arguments given k entry copies r r n stands (seen, λ i. refl) refl K d free p fits.0 in
    let a = one.runs in
    let n1 = run_all c.world s (front ds w entry K p) n in
    let more = fronts_run c k copies ds arguments r ps fits.1 a.scope a.locals a.sees a.values (given_over c.parameters ls a.locals vs a.values arguments a.over given) (suc K) d a.free n1 a.stands (seen_kept c r.state n.frame n1.frame a.variables seen) in
    all_fronted more.b (runs_more c s ls vs k (suc K) d more.b d (front ds w entry K p) (fronts ds w (suc K) ps) r r n a more.runs)
    (holds_on c ds r arguments K p a.locals more.runs.locals a.values more.runs.values more.runs.over one.holds, more.holds)
  where
    all_fronted : (b : ℕ) (runs : Runs c s ls vs k b d (fronts ds (words_of c) K (p ∷ ps)) r n) → HoldsAll c ds r arguments K (p ∷ ps) runs.locals runs.values → AllFronted c ds s ls vs k d r n arguments K (p ∷ ps)
    all_fronted b runs holds = record { b = b; runs = runs; holds = holds }

-- the places of stacks stay

kept_slot : (g : StateLayout) (s : State) (slot : Slot) → Shaped g s → IsSlot g slot → HasIt s slot
kept_slot g s (standard which) shaped is = tt
kept_slot g s (declared i e f) shaped is = subst (λ z. i < z) (sym shaped.count) is.0

put_places : (g : StateLayout) (m : Moment14) (slot : Slot) (j : ℕ) (live : Bool) → Shaped g m.state → IsSlot g slot → (i : ℕ) → place_of (all_fallen m (cond live (put_field slot j ∷ []) [])).state i ≡ place_of m.state i
put_places g m slot j true shaped is i = place_written m.state slot j i (kept_slot g m.state slot shaped is)
put_places g m slot j false shaped is i = refl

header_places : (g : StateLayout) (m : Moment14) (part : Element) (h : Header) (live : Bool) → Shaped g m.state → part.instance < length g.names.instances → (i : ℕ) → place_of (all_fallen m (cond live [] (put_header part h ∷ []))).state i ≡ place_of m.state i
header_places g m part h true shaped lt i = refl
header_places g m part h false shaped lt i = place_with m.state part.instance i _ (subst (λ z. part.instance < z) (sym shaped.count) lt)

coloured_places : (g : StateLayout) (m : Moment14) (slot : Slot) (j : ℕ) (live : Bool) → Shaped g m.state → IsSlot g slot → (i : ℕ) → place_of (cond live (written m.state slot j) m.state) i ≡ place_of m.state i
coloured_places g m slot j true shaped is i = place_written m.state slot j i (kept_slot g m.state slot shaped is)
coloured_places g m slot j false shaped is i = refl

places_kept : (c : Lowering) (ds : List Decl) (arguments : List ℕ) (r m : Moment14) (p : Primitive) → PrimitiveFits c ds p → Shaped c.layout m.state → (i : ℕ) → place_of (after ds arguments r p m).state i ≡ place_of m.state i
places_kept c ds arguments r m (write sums t term) fits shaped i = put_places c.layout m t.slot _ (is_live r.state t.slot) shaped fits.0 i
places_kept c ds arguments r m (add_header part) fits shaped i = header_places c.layout m part _ (is_valid_at r.state part) shaped fits.0.0 i
places_kept c ds arguments r m (remove_header part) fits shaped i = header_places c.layout m part _ false shaped fits.0.0 i
places_kept c ds arguments r m (copy_header to from) fits shaped i = header_places c.layout m to _ false shaped fits.0.0.0 i
places_kept c ds arguments r m (count_cell a b) fits shaped i = refl
places_kept c ds arguments r m (write_cell a b d) fits shaped i = refl
places_kept c ds arguments r m nothing fits shaped i = refl
places_kept c ds arguments r m (push j count) fits shaped i = place_with m.state j i _ (subst (λ z. j < z) (sym shaped.count) fits.0.within)
places_kept c ds arguments r m (pop j count) fits shaped i = place_with m.state j i _ (subst (λ z. j < z) (sym shaped.count) fits.0.within)
places_kept c ds arguments r m (execute_meter object index t) fits shaped i = coloured_places c.layout m t.slot _ (is_live r.state t.slot) shaped fits.2 i
places_kept c ds arguments r m (ask CloneI2E session list) fits shaped i = refl
places_kept c ds arguments r m (ask CloneE2E session list) fits shaped i = refl
places_kept c ds arguments r m (ask Resubmit session list) fits shaped i = refl
places_kept c ds arguments r m (ask Recirculate session list) fits shaped i = refl

-- the parallel rule: the effects fall

pub rests_run : (c : Lowering) (k : Aside) (copies : Copies c) (ds : List Decl) (arguments : List ℕ) (r : Moment14) → Stored c.layout.shapes r.store → (ps : List Primitive) → AllFit c ds ps → (s : Scope) (ls : List Local) → Sees c s ls → (vs : List Value) → AreGiven c.parameters ls vs arguments → (K b : ℕ) → Free c ls b K → HoldsAll c ds r arguments K ps ls vs → (m : Moment14) (n : Moment) → Stands c.layout ls vs k m n → Reads c entry r m n.frame → Ends c s ls vs k (rests (words_of c) K ps) (after_parallel ds arguments r ps m) n
rests_run c k copies ds arguments r stored [] fits s ls sees vs given K b free holds m n stands reads = record { b = b; d = K; runs = runs_none c s ls vs k b K m n sees free stands }
rests_run c k copies ds arguments r stored (p ∷ ps) fits s ls sees vs given K b free holds m n stands reads =
    let w = words_of c in
    let a = rest_runs c s ls vs arguments k entry r m n (record { sees = sees; given = given; has = copies; stands = stands; reads = reads; stored = stored }) ds K b free p fits.0 holds.0 in
    let n1 = run_all c.world s (rest w entry K p) n in
    let left = reads_left c entry r m n.frame n1.frame a.variables reads in
    let more = rests_run c k copies ds arguments r stored ps fits.1 a.scope a.locals a.sees a.values (given_over c.parameters ls a.locals vs a.values arguments a.over given) (suc K) b a.free
    (all_on c ds r arguments (suc K) ps ls a.locals vs a.values a.over holds.1) (after ds arguments r p m) n1 a.stands
    (left.0, λ i. places_kept c ds arguments r m p fits.0 stands.shaped i ∙ left.1 i) in
    record { b = more.b; d = more.d; runs = runs_more c s ls vs k b (suc K) more.b more.d (rest w entry K p) (rests w (suc K) ps) (after ds arguments r p m) (after_parallel ds arguments r ps (after ds arguments r p m)) n a more.runs }

-- together, behind the copies
pub parallel_runs : (c : Lowering) (k : Aside) (copies : Copies c) (ds : List Decl) (arguments : List ℕ) (ps : List Primitive) → AllFit c ds ps → (s : Scope) (ls : List Local) → Sees c s ls → (vs : List Value) → AreGiven c.parameters ls vs arguments → Free c ls 0 0 → (m : Moment14) (n : Moment) → Stands c.layout ls vs k m n → Seen c entry m.state n.frame → Ends c s ls vs k (fronts ds (words_of c) 0 ps ++ rests (words_of c) 0 ps) (after_parallel ds arguments m ps m) n
parallel_runs c k copies ds arguments ps fits s ls sees vs given free m n stands seen =
    let one = fronts_run c k copies ds arguments m ps fits s ls sees vs given 0 0 free n stands seen in
    let a = one.runs in
    let n1 = run_all c.world s (fronts ds (words_of c) 0 ps) n in
    let two = rests_run c k copies ds arguments m stands.stored ps fits a.scope a.locals a.sees a.values (given_over c.parameters ls a.locals vs a.values arguments a.over given) 0 one.b a.free one.holds m n1 a.stands
    (seen_kept c m.state n.frame n1.frame a.variables seen, λ i. refl) in
    record { b = two.b; d = two.d; runs = runs_more c s ls vs k one.b 0 two.b two.d (fronts ds (words_of c) 0 ps) (rests (words_of c) 0 ps) m (after_parallel ds arguments m ps m) n a two.runs }
