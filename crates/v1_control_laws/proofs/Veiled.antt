-- Variables of the block that are called as its first parameter: no name means them, so that nothing changes them.
use Rattle.std.proofs.Common.{◌≡◌, ◌⊎◌, inl, inr, ℕ, ◌<◌, ◌≤◌, ◌≢◌, Bool, true, false, cond, Option, Some, List, [], ◌∷◌, ◌++◌, map, get_or, refl, sym, ap, ◌∙◌, subst, arith, bytes_eq, append_assoc}
use Rattle.std.proofs.lemmas.Slice.Eq.{bytes_eq-Decides}
use Rattle.p416_syntax.specs.declared.program.Syntax16.{Syntax16}
use Rattle.p416_syntax.specs.Names.{Name}
use Rattle.p416_syntax.specs.Scopes.{Scope, sort_of}
use Rattle.fabric.specs.declared.items.RequestKind.{RequestKind}
use Rattle.fabric.specs.declared.items.RequestKind.TheVariants.{CloneI2E, CloneE2E, Resubmit, Recirculate}
use Rattle.v1_core.specs.declared.block.Block.{Block}
use Rattle.v1_core.specs.declared.block.Block.TheVariants.{Verify, Ingress, Egress, Compute, Deparse}
use Rattle.v1_core.specs.Values.{Value, a_number, a_truth, an_error, a_header, a_stack, no_members, a_member, a_symbol, some_bits, no_value, has_member, Step, to_member, to_element, part_of, with_member, with_part, with_part_at}
use Rattle.v1_core.specs.Frames.{Frame, Request, Moment, is_stopped, Owner, of_headers, of_metadata, of_standard, of_variables, of_inner, of_nothing, Reference, whole, stepped, owned, with_owned, place_value, around_slice, with_request}
use Rattle.v1_core.specs.Surroundings.{Root, rooted, Surroundings, by_root}
use Rattle.v1_core.specs.Numbered.{Variable, named_values}
use Rattle.v1_core.specs.Blocks.{owners_of}
use Rattle.v1_core.specs.Seats.{Seat}
use Rattle.v1_core.specs.Scopes.{AreAway, AreApart}
use Rattle.v1_ready_forms.specs.Named.{NamedSeat, seat_of_name, seat_of_root, seat_of_variable, seats_in}
use Rattle.v1_ready_laws.specs.Rules.{SortSeated, NamesSeated}
use Rattle.v1_block_laws.specs.Apart.{AreBetween, AreOutside}
use Rattle.v1_block_laws.specs.Variables.{variable}
use Rattle.v1_control_laws.proofs.Values.{either, Kept}

-- variables with another name

abbrev pub renamed : Name → List Variable → List Variable
renamed text [] = []
renamed text (v ∷ vs) = variable text v.number ∷ renamed text vs

pub renamed_both : (text : Name) (is hs vs : List Variable) → renamed text (is ++ hs) ++ vs ≡ renamed text is ++ (renamed text hs ++ vs)
renamed_both text [] hs vs = refl
renamed_both text (v ∷ is) hs vs = ap (λ (l : List Variable). variable text v.number ∷ l) (renamed_both text is hs vs)

-- their numbers

away_both : (text : Name) (n : ℕ) (hs vs : List Variable) → AreAway n hs → AreAway n vs → AreAway n (renamed text hs ++ vs)
away_both text n [] vs h g = g
away_both text n (v ∷ hs) vs h g = (h.0, away_both text n hs vs h.1 g)

outside_away : (from to k : ℕ) (vs : List Variable) → AreOutside from to vs → from ≤ k → k < to → AreAway k vs
outside_away from to k [] are le lt = tt
outside_away from to k (v ∷ vs) are le lt = (differs are.0, outside_away from to k vs are.1 le lt) where
  differs : (v.number < from) ⊎ (to ≤ v.number) → v.number ≢ k
  differs (inl low) e = omega (arith, low, e, le)
  differs (inr high) e = omega (arith, high, e, lt)

pub apart_both : (text : Name) (count from to next : ℕ) (hs vs : List Variable) → next ≤ to → AreApart count hs → AreBetween from next hs → AreApart count vs → AreOutside from to vs → AreApart count (renamed text hs ++ vs)
apart_both text count from to next [] vs le own between apart out = apart
apart_both text count from to next (v ∷ hs) vs le own between apart out = (
  own.0,
  away_both text v.number hs vs own.1 (outside_away from to v.number vs out between.0 (less v.number next to between.1 le)),
  apart_both text count from to next hs vs le own.2 between.2 apart out,
) where
  less : (k n t : ℕ) → k < n → n ≤ t → k < t
  less k n t lt le = omega (arith, lt, le)

pub outside_both : (text : Name) (from to : ℕ) (hs vs : List Variable) → AreOutside from to hs → AreOutside from to vs → AreOutside from to (renamed text hs ++ vs)
outside_both text from to [] vs h g = g
outside_both text from to (v ∷ hs) vs h g = (h.0, outside_both text from to hs vs h.1 g)

-- numbers of one range are outside of another that is apart from it
pub between_outside : (from next begin end : ℕ) (vs : List Variable) → AreBetween from next vs → (next ≤ begin) ⊎ (end ≤ from) → AreOutside begin end vs
between_outside from next begin end [] are apart = tt
between_outside from next begin end (v ∷ vs) are apart = (by apart, between_outside from next begin end vs are.2 apart) where
  by : (next ≤ begin) ⊎ (end ≤ from) → (v.number < begin) ⊎ (end ≤ v.number)
  by (inl le) = inl (omega (arith, le, are.1))
  by (inr le) = inr (omega (arith, le, are.0))

pub narrower_outside : (from to less : ℕ) (vs : List Variable) → less ≤ to → AreOutside from to vs → AreOutside from less vs
narrower_outside from to less [] le are = tt
narrower_outside from to less (v ∷ vs) le are = (by are.0, narrower_outside from to less vs le are.1) where
  by : (v.number < from) ⊎ (to ≤ v.number) → (v.number < from) ⊎ (less ≤ v.number)
  by (inl lt) = inl lt
  by (inr high) = inr (omega (arith, high, le))

-- names stand where they stood

module _ (syntax : Syntax16) (root : Root) (roots : List Root) where
  skipped : (t : Name) → bytes_eq root.called t ≡ false → (hs vs : List Variable) → seat_of_name (map (seat_of_variable syntax) (renamed root.called hs ++ vs)) t ≡ seat_of_name (map (seat_of_variable syntax) vs) t
  skipped t away [] vs = refl
  skipped t away (v ∷ hs) vs =
      let further : List NamedSeat = map (seat_of_variable syntax) (renamed root.called hs ++ vs) in
      ap (λ (b : Bool). cond b (seat_of_variable syntax (variable root.called v.number)).seat (seat_of_name further t)) away ∙ skipped t away hs vs

  behind_roots : (t : Name) → bytes_eq root.called t ≡ false → (more : List Root) (hs vs : List Variable) → seat_of_name (map (seat_of_root syntax) more ++ map (seat_of_variable syntax) (renamed root.called hs ++ vs)) t ≡ seat_of_name (map (seat_of_root syntax) more ++ map (seat_of_variable syntax) vs) t
  behind_roots t away [] hs vs = skipped t away hs vs
  behind_roots t away (r ∷ more) hs vs = ap (λ (o : Option Seat). cond (bytes_eq r.called t) (seat_of_root syntax r).seat o) (behind_roots t away more hs vs)

  at_root : (t : Name) (hs vs : List Variable) → seat_of_name (map (seat_of_root syntax) (root ∷ roots) ++ map (seat_of_variable syntax) (renamed root.called hs ++ vs)) t ≡ seat_of_name (map (seat_of_root syntax) (root ∷ roots) ++ map (seat_of_variable syntax) vs) t
  at_root t hs vs = by (bytes_eq root.called t) refl where
    there : Option Seat
    there = (seat_of_root syntax root).seat

    by : (b : Bool) → bytes_eq root.called t ≡ b → cond (bytes_eq root.called t) there (seat_of_name (map (seat_of_root syntax) roots ++ map (seat_of_variable syntax) (renamed root.called hs ++ vs)) t) ≡ cond (bytes_eq root.called t) there (seat_of_name (map (seat_of_root syntax) roots ++ map (seat_of_variable syntax) vs) t)
    by true e =
        ap (λ (b : Bool). cond b there (seat_of_name (map (seat_of_root syntax) roots ++ map (seat_of_variable syntax) (renamed root.called hs ++ vs)) t)) e
        ∙ sym (ap (λ (b : Bool). cond b there (seat_of_name (map (seat_of_root syntax) roots ++ map (seat_of_variable syntax) vs) t)) e)
    by false e = ap (λ (o : Option Seat). cond (bytes_eq root.called t) there o) (behind_roots t e roots hs vs)

  in_front : (t : Name) (seats : List NamedSeat) (xs ys : List NamedSeat) → seat_of_name xs t ≡ seat_of_name ys t → seat_of_name (seats ++ xs) t ≡ seat_of_name (seats ++ ys) t
  in_front t [] xs ys e = e
  in_front t (x ∷ seats) xs ys e = ap (λ (o : Option Seat). cond (bytes_eq x.called t) x.seat o) (in_front t seats xs ys e)

  pub seats_same : (inner hs vs : List Variable) (t : Name) → seat_of_name (seats_in syntax (root ∷ roots) (record { variables = renamed root.called hs ++ vs; inner = inner })) t ≡ seat_of_name (seats_in syntax (root ∷ roots) (record { variables = vs; inner = inner })) t
  seats_same inner hs vs t =
      ap (λ (l : List NamedSeat). seat_of_name l t) (append_assoc (map (seat_of_variable syntax) inner) (map (seat_of_root syntax) (root ∷ roots)) (map (seat_of_variable syntax) (renamed root.called hs ++ vs)))
      ∙ (in_front t (map (seat_of_variable syntax) inner) (map (seat_of_root syntax) (root ∷ roots) ++ map (seat_of_variable syntax) (renamed root.called hs ++ vs)) (map (seat_of_root syntax) (root ∷ roots) ++ map (seat_of_variable syntax) vs) (at_root t hs vs)
      ∙ ap (λ (l : List NamedSeat). seat_of_name l t) (sym (append_assoc (map (seat_of_variable syntax) inner) (map (seat_of_root syntax) (root ∷ roots)) (map (seat_of_variable syntax) vs))))

  pub hidden_seated : (s : Scope) (inner hs vs : List Variable) → NamesSeated s (seats_in syntax (root ∷ roots) (record { variables = vs; inner = inner })) → NamesSeated s (seats_in syntax (root ∷ roots) (record { variables = renamed root.called hs ++ vs; inner = inner }))
  hidden_seated s inner hs vs seated t = subst (λ (o : Option Seat). SortSeated (sort_of s t) o) (sym (seats_same inner hs vs t)) (seated t)

-- the members of a struct that have a name

abbrev pub members : Name → Value → List Value
members text (a_member called of rest) = cond (bytes_eq called text) (of ∷ members text rest) (members text rest)
members text v = []

pub bytes_other : (a b : Name) → bytes_eq a b ≡ false → bytes_eq b a ≡ false
bytes_other a b away = by (bytes_eq b a) refl where
  both : (t : Bool) → t ≡ true → t ≡ false → ⊥
  both true x y = cc y
  both false x y = cc x

  by : (t : Bool) → bytes_eq b a ≡ t → bytes_eq b a ≡ false
  by true e = absurd (both (bytes_eq a b) ((bytes_eq-Decides a b).1 (sym ((bytes_eq-Decides b a).0 e))) away)
  by false e = e

-- another one is written
member_kept : (text word : Name) → bytes_eq word text ≡ false → (x v : Value) → members text (with_member x word v) ≡ members text x
member_kept text word away (a_member called of rest) v = by (bytes_eq called word) refl (member_kept text word away rest v) where
  by : (t : Bool) → bytes_eq called word ≡ t → members text (with_member rest word v) ≡ members text rest → members text (cond t (a_member called v rest) (a_member called of (with_member rest word v))) ≡ members text (a_member called of rest)
  by true e later =
      let same : called ≡ word = (bytes_eq-Decides called word).0 e in
      let other : bytes_eq called text ≡ false = ap (λ (n : Name). bytes_eq n text) same ∙ away in
      ap (λ (t : Bool). cond t (v ∷ members text rest) (members text rest)) other ∙ sym (ap (λ (t : Bool). cond t (of ∷ members text rest) (members text rest)) other)
  by false e later = ap (λ (l : List Value). cond (bytes_eq called text) (of ∷ l) l) later
member_kept text word away (a_number width number) v = refl
member_kept text word away (a_truth holds) v = refl
member_kept text word away (an_error number) v = refl
member_kept text word away (a_header h) v = refl
member_kept text word away (a_stack place elements) v = refl
member_kept text word away no_members v = refl
member_kept text word away (a_symbol name) v = refl
member_kept text word away (some_bits list) v = refl
member_kept text word away no_value v = refl

part_kept : (text word : Name) → bytes_eq word text ≡ false → (x v : Value) → members text (with_part x (to_member word) v) ≡ members text x
part_kept text word away (a_member called of rest) v = member_kept text word away (a_member called of rest) v
part_kept text word away (a_number width number) v = refl
part_kept text word away (a_truth holds) v = refl
part_kept text word away (an_error number) v = refl
part_kept text word away (a_header h) v = refl
part_kept text word away (a_stack place elements) v = refl
part_kept text word away no_members v = refl
part_kept text word away (a_symbol name) v = refl
part_kept text word away (some_bits list) v = refl
part_kept text word away no_value v = refl

-- what a reference means is no such member

abbrev StepsAway : Name → List Step → Type 0
StepsAway text (to_member word ∷ steps) = bytes_eq word text ≡ false
StepsAway text _ = ⊥

abbrev OwnerAway : Name → Owner → List Step → Type 0
OwnerAway text of_variables steps = StepsAway text steps
OwnerAway text _ steps = Unit {0}

abbrev pub IsAway : Name → Reference → Type 0
IsAway text r = OwnerAway text r.owner r.steps

steps_further : (text : Name) (steps : List Step) (step : Step) → StepsAway text steps → StepsAway text (steps ++ step ∷ [])
steps_further text [] step h = absurd h
steps_further text (to_member word ∷ steps) step h = h
steps_further text (to_element n ∷ steps) step h = absurd h

further : (text : Name) (o : Owner) (steps : List Step) (step : Step) → OwnerAway text o steps → OwnerAway text o (steps ++ step ∷ [])
further text of_headers steps step h = tt
further text of_metadata steps step h = tt
further text of_standard steps step h = tt
further text of_variables steps step h = steps_further text steps step h
further text of_inner steps step h = tt
further text of_nothing steps step h = tt

variables_kept : (text : Name) (steps : List Step) → StepsAway text steps → (v x : Value) → members text (with_part_at steps v x) ≡ members text x
variables_kept text [] h v x = absurd h
variables_kept text (to_member word ∷ steps) h v x = part_kept text word h x (with_part_at steps v (part_of x (to_member word)))
variables_kept text (to_element n ∷ steps) h v x = absurd h

written_kept : (text : Name) (o : Owner) (steps : List Step) → OwnerAway text o steps → (v : Value) (f : Frame) → members text (with_owned f o (with_part_at steps v (owned f o))).variables ≡ members text f.variables
written_kept text of_headers steps h v f = refl
written_kept text of_metadata steps h v f = refl
written_kept text of_standard steps h v f = refl
written_kept text of_variables steps h v f = variables_kept text steps h v f.variables
written_kept text of_inner steps h v f = refl
written_kept text of_nothing steps h v f = refl

-- names of a block

abbrev pub OwnerGiven : Owner → Type 0
OwnerGiven of_variables = ⊥
OwnerGiven _ = Unit {0}

abbrev pub RootsGiven : List Root → Type 0
RootsGiven [] = Unit {0}
RootsGiven (r ∷ roots) = OwnerGiven r.owner × RootsGiven roots

abbrev OwnersGiven : List Owner → Type 0
OwnersGiven [] = Unit {0}
OwnersGiven (o ∷ owners) = OwnerGiven o × OwnersGiven owners

owners_given : (block : Block) → OwnersGiven (owners_of block)
owners_given Verify = (tt, (tt, tt))
owners_given Ingress = (tt, (tt, (tt, tt)))
owners_given Egress = (tt, (tt, (tt, tt)))
owners_given Compute = (tt, (tt, tt))
owners_given Deparse = (tt, (tt, tt))

rooted_given : (names : List Name) (owners : List Owner) → OwnersGiven owners → RootsGiven (rooted names owners)
rooted_given [] [] h = tt
rooted_given [] (o ∷ owners) h = tt
rooted_given (text ∷ names) [] h = tt
rooted_given (text ∷ names) (o ∷ owners) h = (h.0, rooted_given names owners h.1)

pub roots_given : (block : Block) (names : List Name) → RootsGiven (rooted names (owners_of block))
roots_given block names = rooted_given names (owners_of block) (owners_given block)

given_away : (text : Name) (o : Owner) → OwnerGiven o → OwnerAway text o []
given_away text of_headers h = tt
given_away text of_metadata h = tt
given_away text of_standard h = tt
given_away text of_variables h = absurd h
given_away text of_inner h = tt
given_away text of_nothing h = tt

module _ (text : Name) where
  root_away : (roots : List Root) (word : Name) → RootsGiven roots → bytes_eq word text ≡ false → IsAway text (by_root roots word)
  root_away [] word h away = away
  root_away (r ∷ roots) word h away = either (IsAway text) (bytes_eq r.called word) (whole r.owner) (by_root roots word) (given_away text r.owner h.0) (root_away roots word h.1 away)

  first_away : (root : Root) (roots : List Root) (word : Name) → root.called ≡ text → RootsGiven (root ∷ roots) → IsAway text (by_root (root ∷ roots) word)
  first_away root roots word is h = by (bytes_eq root.called word) refl where
    by : (t : Bool) → bytes_eq root.called word ≡ t → IsAway text (cond t (whole root.owner) (by_root roots word))
    by true e = given_away text root.owner h.0
    by false e = root_away roots word h.1 (ap (λ (n : Name). bytes_eq word n) (sym is) ∙ bytes_other root.called word e)

  -- what statements keep of them
  abbrev pub Hides : List Value → Moment → Type 0
  Hides values m = members text m.frame.variables ≡ values

  request_same : (kind : RequestKind) (r : Option Request) (f : Frame) → (with_request kind r f).variables ≡ f.variables
  request_same CloneI2E r f = refl
  request_same CloneE2E r f = refl
  request_same Resubmit r f = refl
  request_same Recirculate r f = refl

  pub hidden_kept : (b : Surroundings) (R : Type 0) (root : Root) (roots : List Root) → b.roots ≡ root ∷ roots → root.called ≡ text → RootsGiven (root ∷ roots) → (values : List Value) → Kept b R (Hides values) (IsAway text)
  hidden_kept b R root roots are is given values = record {
    nothing_good = tt;
    names = λ f word. either (IsAway text) (has_member f.inner word) (stepped (whole of_inner) (to_member word)) (by_root b.roots word) tt
        (subst (λ (l : List Root). IsAway text (by_root l word)) (sym are) (first_away root roots word is given));
    steps = λ r step good. further text r.owner r.steps step good;
    slices = λ r s good. good;
    puts = λ r v m good h. written_kept text r.owner r.steps good (around_slice r.slice (place_value m.frame r) v) m.frame ∙ h;
    inner = λ v m h. h;
    standard = λ word v m h. h;
    requests = λ kind r m h. ap (λ (v : Value). members text v) (request_same kind r m.frame) ∙ h;
    emits = λ v m h. h;
    raises = λ may e m h. either (Hides values) (is_stopped m) m (record m { stopped = Some e }) h h;
    others = λ m n same emitted stopped h. ap (λ (f : Frame). members text f.variables) same ∙ h;
  }

  -- so the values of those that are hidden stay
  pub hidden_same : (xs ys : List Value) (hs vs : List Variable) → members text (named_values xs (renamed text hs ++ vs)) ≡ members text (named_values ys (renamed text hs ++ vs)) → named_values xs hs ≡ named_values ys hs
  hidden_same xs ys [] vs e = refl
  hidden_same xs ys (v ∷ hs) vs e =
      let same : bytes_eq text text ≡ true = (bytes_eq-Decides text text).1 refl in
      let front : (zs : List Value) → members text (named_values zs (renamed text (v ∷ hs) ++ vs)) ≡ get_or zs v.number no_value ∷ members text (named_values zs (renamed text hs ++ vs)) =
      λ zs. ap (λ (t : Bool). cond t (get_or zs v.number no_value ∷ members text (named_values zs (renamed text hs ++ vs))) (members text (named_values zs (renamed text hs ++ vs)))) same in
      let both : get_or xs v.number no_value ∷ members text (named_values xs (renamed text hs ++ vs)) ≡ get_or ys v.number no_value ∷ members text (named_values ys (renamed text hs ++ vs)) = sym (front xs) ∙ (e ∙ front ys) in
      let first : get_or xs v.number no_value ≡ get_or ys v.number no_value = cc both in
      let rest : members text (named_values xs (renamed text hs ++ vs)) ≡ members text (named_values ys (renamed text hs ++ vs)) = cc both in
      ap (λ (x : Value). a_member v.called x (named_values xs hs)) first ∙ ap (λ (x : Value). a_member v.called (get_or ys v.number no_value) x) (hidden_same xs ys hs vs rest)
