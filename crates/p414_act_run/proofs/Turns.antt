-- Turns of the loops over rows and over effects.
use Rattle.std.proofs.Common.{◌≡◌, ℕ, suc, ◌+◌, ◌-◌, ◌<◌, List, [], ◌∷◌, ◌++◌, length, get_or, drop, map, All, Option, Some, None, refl, sym, ap, ◌∙◌, subst, arith}
use Rattle.std.specs.Prelude.{flat_map}
use Rattle.std.proofs.lemmas.List.{drop_all}
use Rattle.std.proofs.lemmas.List.Elements.{All-nil, All-cons}
use Rattle.state_store.specs.declared.shapes.Shape as objects
use Rattle.state_store.specs.State.{Contents}
use Rattle.p414_sem.specs.State.{State}
use Rattle.p414_sem.specs.Effects as sem
use Rattle.p414_sem.specs.Effects.{Moment, all_fallen, fallen}
use Rattle.p414_layout.specs.declared.shape.Shape.{Shape}
use Rattle.p414_state.specs.Packets.{Packet}
use Rattle.p414_ready_actions.specs.declared.rows.ReadyPrimitive.{ReadyPrimitive}
use Rattle.p414_ready_actions.specs.Running.{row_effects, rows_in_parallel, rows_in_sequence}
use Rattle.p414_act_run.specs.declared.effect.Effect.{Effect}
use Rattle.p414_act_run.proofs.Loops.{next_items}
use Rattle.p414_act_run.specs.Fits.{FitsEffect}
use Rattle.p414_act_run.specs.Moments.{AreHeld, Gives, IsMoved, moment, shown_effect}

-- one row

some_given : (layout : List Shape) (shapes : List objects.Shape) (given : Option Effect) (effect : Effect) (due : List sem.Effect) → given ≡ Some effect → Gives layout shapes given due → Gives layout shapes (Some effect) due
some_given layout shapes given effect due is gives = subst (λ (o : Option Effect). Gives layout shapes o due) is gives

no_given : (layout : List Shape) (shapes : List objects.Shape) (given : Option Effect) (due : List sem.Effect) → given ≡ None → Gives layout shapes given due → Gives layout shapes None due
no_given layout shapes given due is gives = subst (λ (o : Option Effect). Gives layout shapes o due) is gives

pub given_fits : (layout : List Shape) (shapes : List objects.Shape) (given : Option Effect) (effect : Effect) (due : List sem.Effect) → given ≡ Some effect → Gives layout shapes given due → FitsEffect layout shapes effect
given_fits layout shapes given effect due is gives = (some_given layout shapes given effect due is gives).fits

pub one_falls : (old new : Packet) (before behind : Contents) (given : Option Effect) (effect : Effect) (due : List sem.Effect) → given ≡ Some effect → Gives old.layout before.shapes given due → IsMoved old new before behind (fallen (moment old before) (shown_effect old.layout effect)) → IsMoved old new before behind (all_fallen (moment old before) due)
one_falls old new before behind given effect due is gives moved =
    subst (λ (es : List sem.Effect). IsMoved old new before behind (all_fallen (moment old before) es))
    (some_given old.layout before.shapes given effect due is gives).is moved

pub none_falls : (old : Packet) (before : Contents) (given : Option Effect) (due : List sem.Effect) → given ≡ None → Gives old.layout before.shapes given due → IsMoved old old before before (all_fallen (moment old before) due)
none_falls old before given due is gives = record {
  layout = refl;
  shapes = refl;
  moves = ap (all_fallen (moment old before)) (no_given old.layout before.shapes given due is gives).is;
}

-- rows in sequence
pub next_moves : (sums : ℕ → State → ℕ) (arguments : List ℕ) (rows : List ReadyPrimitive) (i : ℕ) (d : ReadyPrimitive) (now new : Packet) (before behind : Contents) (due : Moment) → i < length rows → IsMoved now new before behind (all_fallen (moment now before) (row_effects sums arguments (moment now before) (get_or rows i d))) → rows_in_sequence sums arguments (drop i rows) (moment now before) ≡ due → rows_in_sequence sums arguments (drop (i + 1) rows) (moment new behind) ≡ due
next_moves sums arguments rows i d now new before behind due lt moved same =
    ap (rows_in_sequence sums arguments (drop (i + 1) rows)) moved.moves
    ∙ (ap (λ (l : List ReadyPrimitive). rows_in_sequence sums arguments l (moment now before)) (sym (next_items rows i d lt)) ∙ same)

-- effects that are read, from the last row on

pub one_held : (layout : List Shape) (shapes : List objects.Shape) (given : Option Effect) (effect : Effect) (more : List sem.Effect) (old new : List Effect) → given ≡ Some effect → Gives layout shapes given more → new ≡ effect ∷ old → (due : List sem.Effect) → AreHeld layout shapes old due → AreHeld layout shapes new (more ++ due)
one_held layout shapes given effect more old new is gives put due held =
    let here = some_given layout shapes given effect more is gives in
    let both : AreHeld layout shapes (effect ∷ old) ((shown_effect layout effect ∷ []) ++ due) = record {
      fits = All-cons (FitsEffect layout shapes) effect old here.fits held.fits;
      are = ap (λ (es : List sem.Effect). shown_effect layout effect ∷ es) held.are;
    } in
    subst (λ (es : List Effect). AreHeld layout shapes es (more ++ due)) (sym put)
    (subst (λ (m : List sem.Effect). AreHeld layout shapes (effect ∷ old) (m ++ due)) here.is both)

pub none_held : (layout : List Shape) (shapes : List objects.Shape) (given : Option Effect) (more : List sem.Effect) (old : List Effect) → given ≡ None → Gives layout shapes given more → (due : List sem.Effect) → AreHeld layout shapes old due → AreHeld layout shapes old (more ++ due)
none_held layout shapes given more old is gives due held =
    subst (λ (m : List sem.Effect). AreHeld layout shapes old (m ++ due)) (no_given layout shapes given more is gives).is held

module _ (f : ReadyPrimitive → List sem.Effect) (layout : List Shape) (shapes : List objects.Shape) (rows : List ReadyPrimitive) where
  pub none_read : (count : ℕ) → count ≡ length rows → AreHeld layout shapes [] (flat_map f (drop (count - 0) rows))
  none_read count is =
      let past : drop (count - 0) rows ≡ [] = drop_all (count - 0) rows (omega (arith, is)) in
      let none : AreHeld layout shapes [] [] = record { fits = All-nil (FitsEffect layout shapes); are = refl } in
      subst (λ (rest : List ReadyPrimitive). AreHeld layout shapes [] (flat_map f rest)) (sym past) none

  pub next_read : (count done : ℕ) (d : ReadyPrimitive) (old new : List Effect) → count ≡ length rows → done < count → AreHeld layout shapes old (flat_map f (drop (count - done) rows)) → ((due : List sem.Effect) → AreHeld layout shapes old due → AreHeld layout shapes new (f (get_or rows (count - 1 - done) d) ++ due)) → AreHeld layout shapes new (flat_map f (drop (count - (done + 1)) rows))
  next_read count done d old new is lt held put =
      let at : count - (done + 1) ≡ count - 1 - done = omega arith in
      let behind : count - 1 - done + 1 ≡ count - done = omega (arith, lt) in
      let within : count - 1 - done < length rows = omega (arith, is, lt) in
      let here : drop (count - (done + 1)) rows ≡ get_or rows (count - 1 - done) d ∷ drop (count - done) rows =
      ap (λ n. drop n rows) at ∙ (next_items rows (count - 1 - done) d within ∙ ap (λ n. get_or rows (count - 1 - done) d ∷ drop n rows) behind) in
      subst (λ (rest : List ReadyPrimitive). AreHeld layout shapes new (flat_map f rest)) (sym here)
      (put (flat_map f (drop (count - done) rows)) held)

  pub all_read : (count : ℕ) (effects : List Effect) → AreHeld layout shapes effects (flat_map f (drop (count - count) rows)) → AreHeld layout shapes effects (flat_map f rows)
  all_read count effects held =
      let none : count - count ≡ 0 = omega arith in
      subst (λ n. AreHeld layout shapes effects (flat_map f (drop n rows))) none held

-- effects that fall

pub front_fits : (layout : List Shape) (shapes : List objects.Shape) (all rest : List Effect) (effect : Effect) → all ≡ effect ∷ rest → All (FitsEffect layout shapes) all → FitsEffect layout shapes effect
front_fits layout shapes all rest effect is fits =
    let here : All (FitsEffect layout shapes) (effect ∷ rest) = subst (All (FitsEffect layout shapes)) is fits in here 0 effect (omega arith)

pub rest_fit : (old new : Packet) (before behind : Contents) (all rest : List Effect) (effect : Effect) (due : Moment) → all ≡ effect ∷ rest → IsMoved old new before behind due → All (FitsEffect old.layout before.shapes) all → All (FitsEffect new.layout behind.shapes) rest
rest_fit old new before behind all rest effect due is moved fits =
    let here : All (FitsEffect old.layout before.shapes) (effect ∷ rest) = subst (All (FitsEffect old.layout before.shapes)) is fits in
    let tail : All (FitsEffect old.layout before.shapes) rest = λ k d lt. here (suc k) d (omega (arith, lt)) in
    subst (λ (l : List Shape). All (FitsEffect l behind.shapes) rest) (sym moved.layout)
    (subst (λ (s : List objects.Shape). All (FitsEffect old.layout s) rest) (sym moved.shapes) tail)

pub rest_shorter : (all rest : List Effect) (effect : Effect) → all ≡ effect ∷ rest → length rest < length all
rest_shorter all rest effect is = let same : length all ≡ suc (length rest) = ap length is in omega (arith, same)

pub front_falls : (old new : Packet) (before behind : Contents) (all rest : List Effect) (effect : Effect) (due : Moment) → all ≡ effect ∷ rest → IsMoved old new before behind (fallen (moment old before) (shown_effect old.layout effect)) → all_fallen (moment old before) (map (shown_effect old.layout) all) ≡ due → all_fallen (moment new behind) (map (shown_effect new.layout) rest) ≡ due
front_falls old new before behind all rest effect due is moved same =
    ap (λ (l : List Shape). all_fallen (moment new behind) (map (shown_effect l) rest)) moved.layout
    ∙ (ap (λ (m : Moment). all_fallen m (map (shown_effect old.layout) rest)) moved.moves
    ∙ (ap (λ (es : List Effect). all_fallen (moment old before) (map (shown_effect old.layout) es)) (sym is) ∙ same))

pub all_fell : (layout : List Shape) (m due : Moment) (effects : List Effect) → effects ≡ [] → all_fallen m (map (shown_effect layout) effects) ≡ due → m ≡ due
all_fell layout m due effects is same =
    ap (λ (es : List Effect). all_fallen m (map (shown_effect layout) es)) (sym is) ∙ same

-- rows in parallel

fallen_both : (m : Moment) (es fs : List sem.Effect) → all_fallen m (es ++ fs) ≡ all_fallen (all_fallen m es) fs
fallen_both m [] fs = refl
fallen_both m (e ∷ es) fs = fallen_both (fallen m e) es fs

parallel_is : (sums : ℕ → State → ℕ) (arguments : List ℕ) (r : Moment) (rows : List ReadyPrimitive) (m : Moment) → all_fallen m (flat_map (row_effects sums arguments r) rows) ≡ rows_in_parallel sums arguments r rows m
parallel_is sums arguments r [] m = refl
parallel_is sums arguments r (row ∷ rows) m =
    fallen_both m (row_effects sums arguments r row) (flat_map (row_effects sums arguments r) rows)
    ∙ parallel_is sums arguments r rows (all_fallen m (row_effects sums arguments r row))

pub parallel_moves : (sums : ℕ → State → ℕ) (arguments : List ℕ) (rows : List ReadyPrimitive) (effects : List Effect) (old new : Packet) (before behind : Contents) → AreHeld old.layout before.shapes effects (flat_map (row_effects sums arguments (moment old before)) rows) → IsMoved old new before behind (all_fallen (moment old before) (map (shown_effect old.layout) effects)) → IsMoved old new before behind (rows_in_parallel sums arguments (moment old before) rows (moment old before))
parallel_moves sums arguments rows effects old new before behind held moved =
    subst (λ (m : Moment). IsMoved old new before behind m)
    (ap (all_fallen (moment old before)) held.are ∙ parallel_is sums arguments (moment old before) rows (moment old before)) moved
