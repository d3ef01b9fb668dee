-- The bound on states suffices: a walk that extracts nothing passes no state twice.
use Rattle.std.proofs.Common.{◌≡◌, ◌⊎◌, inl, inr, eqb, ◌≢◌, ℕ, zero, suc, ◌+◌, ◌*◌, ◌-◌, ◌<◌, ◌≤◌, Bool, true, false, ◌||◌, Option, Some, None, List, [], ◌∷◌, ◌++◌, length, refl, sym, ap, ◌∙◌, subst, arith}
use Rattle.std.specs.Prelude.{filter_map, slice_get, Contains}
use Rattle.std.specs.List.{list_any, IsDistinct, AllByRecursion}
use Rattle.std.specs.Option.{option_map_or}
use Rattle.std.proofs.lemmas.Bool.Decides.{eqb_tells}
use Rattle.std.proofs.lemmas.List.Concat.{flat_map-cons}
use Rattle.std.proofs.lemmas.Option.{slice_get_within, option_and_then_some}
use Rattle.std.proofs.lemmas.Map.Steps.{length-le_from_distinct_below}
use Rattle.p414_syntax.specs.declared.parsers.Parser.{Parser}
use Rattle.p414_syntax.specs.declared.syntax.Decl.{Decl}
use Rattle.p414_syntax.specs.Names.{Name}
use Rattle.p414_syntax.specs.Walks.{IsWalk}
use Rattle.p414_syntax.specs.ParserGraph.{states, state_number, targets_of, extracts_in, next_in, extracts_of, next_of, walk_extracts, HasIdleCycle}
use Rattle.p414_sem.specs.State.{State}
use Rattle.p414_sem.specs.declared.parsed.Parsed.TheVariants.{Accepted}
use Rattle.p414_sem.specs.Parsing.{Step, to, ended, steps, state_named, step_from, most_states}
use Rattle.lower_laws_states.specs.Bound.{StepEnds, EndsWithin}
use Rattle.lower_laws_states.specs.Expansions.{Has}
use Rattle.lower_laws_states.proofs.Smaller.{WideBody, Shrinks, StepBehind, step_behind}

-- what a name leads to
abbrev entered : List Decl → State → Option Parser → Step
entered ds t None = ended Accepted t
entered ds t (Some x) = steps ds x t

step_is : (ds : List Decl) (called : Name) (t : State) (x : Option Parser) → state_named ds called ≡ x → step_from ds called t ≡ entered ds t x
step_is ds called t None e = rw e refl
step_is ds called t (Some x) e = rw e refl

contains : {X : Type 0} (xs : List X) (x : X) → Has xs x → Contains xs x
contains [] x is = absurd is
contains (y ∷ ys) x (inl e) = (0, omega arith, e)
contains (y ∷ ys) x (inr more) = let c = contains ys x more in (suc c.0, omega (arith, c.1), c.2)

-- what stands at the front, where a function gives something of it
abbrev front : {Y : Type 0} → Option Y → List Y → List Y
front None ys = ys
front (Some y) ys = y ∷ ys

mapped_front : {X Y : Type 0} (h : X → Option Y) (z : X) (xs : List X) → filter_map h (z ∷ xs) ≡ front (h z) (filter_map h xs)
mapped_front h z xs = refl

has_behind : {Y : Type 0} (o : Option Y) (ys : List Y) (y : Y) → Has ys y → Has (front o ys) y
has_behind None ys y is = is
has_behind (Some z) ys y is = inr is

has_mapped : {X Y : Type 0} (h : X → Option Y) (xs : List X) (x : X) (y : Y) → Has xs x → h x ≡ Some y → Has (filter_map h xs) y
has_mapped h [] x y is e = absurd is
has_mapped {X} {Y} h (z ∷ xs) x y (inl same) e =
    subst (λ (l : List Y). Has l y) (sym (mapped_front h z xs)) (subst (λ (o : Option Y). Has (front o (filter_map h xs)) y) (sym (ap h same ∙ e)) (inl refl))
has_mapped {X} {Y} h (z ∷ xs) x y (inr more) e =
    subst (λ (l : List Y). Has l y) (sym (mapped_front h z xs)) (has_behind (h z) (filter_map h xs) y (has_mapped h xs x y more e))

fewer : (v u n k left : ℕ) → v < u → k ≤ n → u * (n + 1) + (n + 1 - k) ≤ suc left → v * (n + 1) + (n + 1 - 0) ≤ left
fewer v u n k left less le bound =
    let mono : (v + 1) * (n + 1) ≤ u * (n + 1) = grow v u n less in
    let split : (v + 1) * (n + 1) ≡ v * (n + 1) + (n + 1) = grind arith in
    omega (arith, mono, split, le, bound)
  where
    grow : (v u n : ℕ) → v < u → (v + 1) * (n + 1) ≤ u * (n + 1)
    grow v u n less = grind arith

module _ (ds : List Decl) where
  abbrev next : ℕ → List ℕ
  next = next_of ds

  -- the states since the last extraction, the latest first, each of which leads to the one in front of it
  abbrev pub Leads : List ℕ → ℕ → Type 0
  Leads [] i = Unit {0}
  Leads (j ∷ rest) i = Contains (next j) i × (extracts_of ds j ≡ []) × Leads rest j

  -- back to where the walk was before
  idle_cycle : (visited : List ℕ) (end j : ℕ) (between : List ℕ) → Leads visited j → IsWalk next (j ∷ between ++ end ∷ []) → walk_extracts ds (j ∷ between) ≡ [] → list_any (eqb end) visited ≡ true → HasIdleCycle ds
  idle_cycle [] end j between leads walk idle there = absurd (cc there)
  idle_cycle (k ∷ rest) end j between leads walk idle there = by (eqb_tells end k) (idle_cycle rest end k (j ∷ between) leads.2 (leads.0, walk) more) where
    more : walk_extracts ds (k ∷ j ∷ between) ≡ []
    more = flat_map-cons (extracts_of ds) k (j ∷ between) ∙ ap (λ (l : List ℕ). l ++ walk_extracts ds (j ∷ between)) leads.1 ∙ idle

    by : ((eqb end k ≡ true) × (end ≡ k)) ⊎ ((eqb end k ≡ false) × (end ≢ k)) → (list_any (eqb end) rest ≡ true → HasIdleCycle ds) → HasIdleCycle ds
    by (inl same) further = record {
      state = k;
      between = j ∷ between;
      cycle = subst (λ z. IsWalk next (k ∷ (j ∷ between) ++ z ∷ [])) same.1 (leads.0, walk);
      idle = more;
    }
    by (inr other) further = further (ap (λ b. b || list_any (eqb end) rest) (sym other.0) ∙ there)

  pub seen_again : (visited : List ℕ) (i : ℕ) → Leads visited i → list_any (eqb i) visited ≡ true → HasIdleCycle ds
  seen_again [] i leads there = absurd (cc there)
  seen_again (j ∷ rest) i leads there = by (eqb_tells i j) where
    idle : walk_extracts ds (j ∷ []) ≡ []
    idle = flat_map-cons (extracts_of ds) j [] ∙ ap (λ (l : List ℕ). l ++ []) leads.1

    by : ((eqb i j ≡ true) × (i ≡ j)) ⊎ ((eqb i j ≡ false) × (i ≢ j)) → HasIdleCycle ds
    by (inl same) = record {
      state = j;
      between = [];
      cycle = (subst (Contains (next j)) same.1 leads.0, tt);
      idle = idle;
    }
    by (inr other) = idle_cycle rest i j [] leads.2 (leads.0, tt) idle (ap (λ b. b || list_any (eqb i) rest) (sym other.0) ∙ there)

  -- how a walk came to a state
  record Path (visited : List ℕ) (called : Name) : Type 0 where
    leads : (i : ℕ) → state_number ds called ≡ Some i → Leads visited i
    distinct : IsDistinct eqb visited
    below : (q : ℕ) → list_any (eqb q) visited ≡ true → q < length (states ds)

  few : (visited : List ℕ) (called : Name) → Path visited called → length visited ≤ length (states ds)
  few visited called path = length-le_from_distinct_below visited (length (states ds)) path.distinct path.below

  abbrev Bound : List ℕ → State → ℕ → Type 0
  Bound visited s left = length s.unparsed * (length (states ds) + 1) + (length (states ds) + 1 - length visited) ≤ left

  abbrev Rests : ℕ → Type 0
  Rests left = (visited : List ℕ) (called : Name) (s : State) → Path visited called → Bound visited s left → EndsWithin ds left called s

  none_is : (i : ℕ) (visited : List ℕ) → list_any (eqb i) visited ≡ false → AllByRecursion (λ y. eqb i y ≡ false) visited
  none_is i [] is = tt
  none_is i (j ∷ rest) is = by (eqb i j) refl is (none_is i rest) where
    by : (b : Bool) → eqb i j ≡ b → b || list_any (eqb i) rest ≡ false → (list_any (eqb i) rest ≡ false → AllByRecursion (λ y. eqb i y ≡ false) rest) → AllByRecursion (λ y. eqb i y ≡ false) (j ∷ rest)
    by true e is more = absurd (cc is)
    by false e is more = (e, more is)

  empty_path : (called : Name) → Path [] called
  unfolding IsDistinct
  empty_path called = record { leads = λ i e. tt; distinct = tt; below = λ q e. absurd (cc e) }

  more_path : (visited : List ℕ) (called : Name) (i : ℕ) (p : Parser) (other : Name) → Path visited called → state_number ds called ≡ Some i → slice_get (states ds) i ≡ Some p → list_any (eqb i) visited ≡ false → extracts_in ds p ≡ [] → Has (targets_of p.end) other → Path (i ∷ visited) other
  unfolding IsDistinct
  more_path visited called i p other path num got new idle there = record {
    leads = λ j numbered. (
      contains (next i) j (subst (λ (o : Option Parser). Has (option_map_or (next_in ds) o []) j) (sym got) (has_mapped (state_number ds) (targets_of p.end) other j there numbered)),
      ap (λ (o : Option Parser). option_map_or (extracts_in ds) o []) got ∙ idle,
      path.leads i num,
    );
    distinct = (none_is i visited new, path.distinct);
    below = λ q e. within q e;
  } where
    within : (q : ℕ) → list_any (eqb q) (i ∷ visited) ≡ true → q < length (states ds)
    within q e = by (eqb_tells q i) where
      by : ((eqb q i ≡ true) × (q ≡ i)) ⊎ ((eqb q i ≡ false) × (q ≢ i)) → q < length (states ds)
      by (inl same) = omega (arith, same.1, slice_get_within (states ds) i p got)
      by (inr apart) = path.below q (ap (λ b. b || list_any (eqb q) visited) (sym apart.0) ∙ e)

  module _ (none : HasIdleCycle ds → ⊥) (wide : (called : Name) (p : Parser) → state_named ds called ≡ Some p → WideBody ds p.statements) where
    goes : (left : ℕ) → Rests left → (visited : List ℕ) (called : Name) (s : State) → Path visited called → Bound visited s (suc left) → (i : ℕ) (p : Parser) → state_number ds called ≡ Some i → slice_get (states ds) i ≡ Some p → list_any (eqb i) visited ≡ false → (step : Step) → StepBehind ds (length s.unparsed) (extracts_in ds p) p.end step → StepEnds (EndsWithin ds left) step
    goes left rest visited called s path bound i p num got new (ended e t) is = tt
    goes left rest visited called s path bound i p num got new (to other t) is = by is.1 where
      n : ℕ
      n = length (states ds)

      by : Shrinks (length s.unparsed) (extracts_in ds p) (length t.unparsed) → EndsWithin ds left other t
      by (inl same) =
          let here : Path (i ∷ visited) other = more_path visited called i p other path num got new same.0 is.0 in
          rest (i ∷ visited) other t here
          (subst (λ u. u * (length (states ds) + 1) + (length (states ds) + 1 - length (i ∷ visited)) ≤ left) (sym same.1) (omega (arith, bound, few (i ∷ visited) other here)))
      by (inr less) = rest [] other t (empty_path other) (fewer (length t.unparsed) (length s.unparsed) (length (states ds)) (length visited) left less (few visited called path) bound)

    one_step : (left : ℕ) → Rests left → (visited : List ℕ) (called : Name) (s : State) → Path visited called → Bound visited s (suc left) → (x : Option Parser) → state_named ds called ≡ x → EndsWithin ds (suc left) called s
    one_step left rest visited called s path bound None e = subst (StepEnds (EndsWithin ds left)) (sym (step_is ds called s None e)) tt
    one_step left rest visited called s path bound (Some p) e =
        subst (StepEnds (EndsWithin ds left)) (sym (step_is ds called s (Some p) e))
        (option_and_then_some (slice_get (states ds)) (state_number ds called) p e (λ i num got. by i num got (list_any (eqb i) visited) refl))
      where
        by : (i : ℕ) → state_number ds called ≡ Some i → slice_get (states ds) i ≡ Some p → (b : Bool) → list_any (eqb i) visited ≡ b → StepEnds (EndsWithin ds left) (steps ds p s)
        by i num got true seen = absurd (none (seen_again visited i (path.leads i num) seen))
        by i num got false new = goes left rest visited called s path bound i p num got new (steps ds p s) (step_behind ds p s (wide called p e))

    enough : (left : ℕ) → Rests left
    enough zero visited called s path bound = absurd (omega (arith, bound, few visited called path))
    enough (suc left) visited called s path bound = one_step left (enough left) visited called s path bound (state_named ds called) refl

    -- the bound of P4_14
    pub most_enough : (called : Name) (s t : State) → length s.unparsed ≡ length t.unparsed → EndsWithin ds (most_states ds t) called s
    most_enough called s t same =
        enough (most_states ds t) [] called s (empty_path called)
        (subst (λ u. u * (length (states ds) + 1) + (length (states ds) + 1 - 0) ≤ most_states ds t) (sym same) (whole (length t.unparsed) (length (states ds))))
      where
        whole : (u n : ℕ) → u * (n + 1) + (n + 1 - 0) ≤ (u + 1) * (n + 1)
        whole u n = grind arith
