-- Laws of maps by prefix length.
use Rattle.std.proofs.Common.{◌≡◌, ◌≢◌, ℕ, zero, suc, ◌+◌, ◌<◌, ◌≤◌, ◌==◌, ◌&&◌, Bool, true, false, cond, Option, Some, None, unwrap_or, List, [], ◌∷◌, ◌++◌, length, take, drop, set, get_or, refl, sym, ◌∙◌, ap, subst, arith}
use Rattle.std.specs.Ordering.{is_eq}
use Rattle.std.specs.declared.cmp.Ordering.{Ordering}
use Rattle.std.proofs.lemmas.Bool.{eq-eqb, ne_eqb, eqb-true}
use Rattle.std.proofs.lemmas.List.{length-append, length-take-le, get_or_at, get_or_default}
use Rattle.match_core.specs.declared.levels.Level.{Level}
use Rattle.match_core.specs.internal.Maps.{stored, IsPut}
use Rattle.match_core.specs.internal.Levels.{AllUnder, AreLevels, found_in, IsLevelPut}

module _ (cmp : ℕ → ℕ → Ordering) where
  under_more : (levels : List Level) (few many : ℕ) → few ≤ many → AllUnder few levels → AllUnder many levels
  under_more [] few many le under = tt
  under_more (x ∷ levels) few many le under = ((let lt = under.0 in omega arith), under_more levels few many le under.1)

  pub under_drop : (levels : List Level) (p bits : ℕ) (d : Level) → AreLevels levels → (p < length levels → (get_or levels p d).bits < bits) → AllUnder bits (drop p levels)
  under_drop [] zero bits d are fewer = tt
  under_drop [] (suc p) bits d are fewer = tt
  under_drop (x ∷ levels) zero bits d are fewer =
      let lt : x.bits < bits = fewer (omega arith) in
      (lt, under_more levels x.bits bits (omega arith) are.0)
  under_drop (x ∷ levels) (suc p) bits d are fewer = under_drop levels p bits d are.1 (λ lt. fewer (omega arith))

  pub found_none : (levels : List Level) (bits : ℕ) (key : ℕ) → AllUnder bits levels → found_in cmp levels bits key ≡ None
  found_none [] bits key under = refl
  found_none (x ∷ levels) bits key under = rw (ne_eqb x.bits bits (λ same. let lt = under.0 in omega arith)) (found_none levels bits key under.1)

  -- what stands at a place
  under_at : (levels : List Level) (bits p : ℕ) (d : Level) → AllUnder bits levels → p < length levels → (get_or levels p d).bits < bits
  under_at [] bits p d under lt = absurd (omega arith)
  under_at (x ∷ levels) bits zero d under lt = under.0
  under_at (x ∷ levels) bits (suc p) d under lt = under_at levels bits p d under.1 (omega arith)

  pub found_at : (levels : List Level) (p : ℕ) (d : Level) (key : ℕ) → AreLevels levels → p < length levels → found_in cmp levels (get_or levels p d).bits key ≡ stored cmp (get_or levels p d).map key
  found_at [] p d key are lt = absurd (omega arith)
  found_at (x ∷ levels) zero d key are lt = rw (eq-eqb x.bits x.bits refl) refl
  found_at (x ∷ levels) (suc p) d key are lt =
      let fewer = under_at levels x.bits p d are.0 (omega arith) in
      rw (ne_eqb x.bits (get_or levels p d).bits (λ same. omega arith)) (found_at levels p d key are.1 (omega arith))

  -- a level of no entries put in front of those with fewer bits
  under_insert : (levels : List Level) (p : ℕ) (level : Level) (bits : ℕ) → level.bits < bits → AllUnder bits levels → AllUnder bits (take p levels ++ level ∷ drop p levels)
  under_insert levels zero level bits lt under = (lt, under)
  under_insert [] (suc p) level bits lt under = (lt, tt)
  under_insert (x ∷ levels) (suc p) level bits lt under = (under.0, under_insert levels p level bits lt under.1)

  pub insert_levels : (levels : List Level) (p : ℕ) (level : Level) → AreLevels levels → ((i : ℕ) (d : Level) → i < p → level.bits < (get_or levels i d).bits) → AllUnder level.bits (drop p levels) → AreLevels (take p levels ++ level ∷ drop p levels)
  insert_levels levels zero level are more under = (under, are)
  insert_levels [] (suc p) level are more under = (tt, tt)
  insert_levels (x ∷ levels) (suc p) level are more under =
      (under_insert levels p level x.bits (more 0 x (omega arith)) are.0, insert_levels levels p level are.1 (λ i d lt. more (suc i) d (omega arith)) under)

  insert_by : (level : Level) (b : Bool) (rest before : Option ℕ) (here : Option ℕ) → here ≡ None → (b ≡ true → before ≡ None) → (b ≡ false → rest ≡ before) → cond b here rest ≡ before
  insert_by level true rest before here none same other = none ∙ sym (same refl)
  insert_by level false rest before here none same other = other refl

  pub insert_found : (levels : List Level) (p : ℕ) (level : Level) (many : ℕ) (key : ℕ) → ((k : ℕ) → stored cmp level.map k ≡ None) → AllUnder level.bits (drop p levels) → found_in cmp (take p levels ++ level ∷ drop p levels) many key ≡ found_in cmp levels many key
  insert_found levels zero level many key none under =
      insert_by level (level.bits == many) (found_in cmp levels many key) (found_in cmp levels many key) (stored cmp level.map key) (none key)
      (λ is. subst (λ (n : ℕ). found_in cmp levels n key ≡ None) (eqb-true level.bits many is) (found_none levels level.bits key under)) (λ is. refl)
  insert_found [] (suc p) level many key none under = insert_by level (level.bits == many) None None (stored cmp level.map key) (none key) (λ is. refl) (λ is. refl)
  insert_found (x ∷ levels) (suc p) level many key none under = ap (λ (o : Option ℕ). cond (x.bits == many) (stored cmp x.map key) o) (insert_found levels p level many key none under)

  -- another map at a place
  set_by : (b other : Bool) (new old rest : Option ℕ) → (b ≡ true → other ≡ false) → cond other old (cond b new rest) ≡ cond b new (cond other old rest)
  set_by true true new old rest apart = absurd (let no = apart refl in cc)
  set_by true false new old rest apart = refl
  set_by false other new old rest apart = refl

  first_by : (b : Bool) (new old rest : Option ℕ) → cond b new rest ≡ cond b new (cond b old rest)
  first_by true new old rest = refl
  first_by false new old rest = refl

  pub set_found : (levels : List Level) (p : ℕ) (d new : Level) (many : ℕ) (key : ℕ) → AreLevels levels → p < length levels → new.bits ≡ (get_or levels p d).bits → found_in cmp (set levels p new) many key ≡ cond (new.bits == many) (stored cmp new.map key) (found_in cmp levels many key)
  set_found [] p d new many key are lt same = absurd (omega arith)
  set_found (x ∷ levels) zero d new many key are lt same = rw same (first_by (x.bits == many) (stored cmp new.map key) (stored cmp x.map key) (found_in cmp levels many key))
  set_found (x ∷ levels) (suc p) d new many key are lt same =
      let fewer = under_at levels x.bits p d are.0 (omega arith) in
      ap (λ (o : Option ℕ). cond (x.bits == many) (stored cmp x.map key) o) (set_found levels p d new many key are.1 (omega arith) same)
      ∙ set_by (new.bits == many) (x.bits == many) (stored cmp new.map key) (stored cmp x.map key) (found_in cmp levels many key)
      (λ is. ne_eqb x.bits many (λ equal. let here = eqb-true new.bits many is in omega arith))

  under_set : (levels : List Level) (p bits : ℕ) (d new : Level) → p < length levels → new.bits ≡ (get_or levels p d).bits → AllUnder bits levels → AllUnder bits (set levels p new)
  under_set [] p bits d new lt same under = tt
  under_set (x ∷ levels) zero bits d new lt same under = ((let lower = under.0 in omega arith), under.1)
  under_set (x ∷ levels) (suc p) bits d new lt same under = (under.0, under_set levels p bits d new (omega arith) same under.1)

  pub set_levels : (levels : List Level) (p : ℕ) (d new : Level) → AreLevels levels → p < length levels → new.bits ≡ (get_or levels p d).bits → AreLevels (set levels p new)
  set_levels [] p d new are lt same = tt
  set_levels (x ∷ levels) zero d new are lt same = (rw same are.0, are.1)
  set_levels (x ∷ levels) (suc p) d new are lt same = (under_set levels p x.bits d new (omega arith) same are.0, set_levels levels p d new are.1 (omega arith) same)

  put_by : (a b : Bool) (some put old : Option ℕ) → (a ≡ true → put ≡ cond b some old) → cond a put old ≡ cond (a && b) some old
  put_by true b some put old is = is refl
  put_by false b some put old is = refl

  -- a number put into the map at a place
  pub put_at_place : (before levels : List Level) (p : ℕ) (d new : Level) (bits : ℕ) (key : ℕ) (i : ℕ) → ((many : ℕ) (other : ℕ) → found_in cmp levels many other ≡ found_in cmp before many other) → AreLevels levels → p < length levels → (get_or levels p d).bits ≡ bits → new.bits ≡ bits → IsPut cmp (get_or levels p d).map new.map key i → IsLevelPut cmp before (set levels p new) bits key i
  put_at_place before levels p d new bits key i same are lt bits_are new_bits puts many other =
      let at : (k : ℕ) → found_in cmp before bits k ≡ stored cmp (get_or levels p d).map k = λ k. sym (same bits k) ∙ subst (λ (n : ℕ). found_in cmp levels n k ≡ stored cmp (get_or levels p d).map k) bits_are (found_at levels p d k are lt) in
      set_found levels p d new many other are lt (new_bits ∙ sym bits_are)
      ∙ (ap (λ (n : ℕ). cond (n == many) (stored cmp new.map other) (found_in cmp levels many other)) new_bits
      ∙ (ap (λ (o : Option ℕ). cond (bits == many) (stored cmp new.map other) o) (same many other)
      ∙ put_by (bits == many) (is_eq (cmp key other)) (Some (unwrap_or (found_in cmp before bits key) i)) (stored cmp new.map other) (found_in cmp before many other)
      (λ is.
      puts other
      ∙ rw (← at key)
      (ap (λ (o : Option ℕ). cond (is_eq (cmp key other)) (Some (unwrap_or (found_in cmp before bits key) i)) o)
      (subst (λ (n : ℕ). stored cmp (get_or levels p d).map other ≡ found_in cmp before n other) (eqb-true bits many is) (sym (at other)))))))

  none_by : (b : Bool) (here rest : Option ℕ) → (b ≡ true → here ≡ None) → rest ≡ None → cond b here rest ≡ None
  none_by true here rest none other = none refl
  none_by false here rest none other = other

  -- where the maps before a place have nothing, and those from it on are of fewer bits
  pub none_longer : (levels : List Level) (f : ℕ → ℕ) (i many : ℕ) → AreLevels levels → ((k : ℕ) (d : Level) → k < i → k < length levels → stored cmp (get_or levels k d).map (f (get_or levels k d).bits) ≡ None) → ((d : Level) → i < length levels → (get_or levels i d).bits < many) → found_in cmp levels many (f many) ≡ None
  none_longer [] f i many are none fewer = refl
  none_longer (x ∷ levels) f zero many are none fewer =
      let lt : x.bits < many = fewer x (omega arith) in
      found_none (x ∷ levels) many (f many) (lt, under_more levels x.bits many (omega arith) are.0)
  none_longer (x ∷ levels) f (suc i) many are none fewer =
      none_by (x.bits == many) (stored cmp x.map (f many)) (found_in cmp levels many (f many))
      (λ is. subst (λ (n : ℕ). stored cmp x.map (f n) ≡ None) (eqb-true x.bits many is) (none 0 x (omega arith) (omega arith)))
      (none_longer levels f i many are.1 (λ k d lt within. none (suc k) d (omega arith) (omega arith)) (λ d lt. fewer d (omega arith)))

  -- the first level that has its key has it for the longest prefix
  pub record FoundLevel (levels : List Level) (f : ℕ → ℕ) (n : ℕ) : Type 0 where
    pub bits : ℕ
    pub is : found_in cmp levels bits (f bits) ≡ Some n
    pub longest : (longer : ℕ) → bits < longer → found_in cmp levels longer (f longer) ≡ None

  pub level_found : (levels : List Level) (f : ℕ → ℕ) (i : ℕ) (level : Level) (n : ℕ) → AreLevels levels → i < length levels → ((k : ℕ) (d : Level) → k < i → k < length levels → stored cmp (get_or levels k d).map (f (get_or levels k d).bits) ≡ None) → level ≡ get_or levels i level → Some n ≡ stored cmp level.map (f level.bits) → FoundLevel levels f n
  level_found levels f i level n are within none level_is has = record {
    bits = level.bits;
    is = subst (λ (l : Level). found_in cmp levels l.bits (f level.bits) ≡ stored cmp l.map (f level.bits)) (sym level_is) (found_at levels i level (f level.bits) are within) ∙ sym has;
    longest = λ longer lt. none_longer levels f i longer are none (λ e below. subst (λ (l : Level). l.bits < longer) (level_is ∙ get_or_default levels i level e within) lt);
  }

  -- a level that was made
  pub record Made (levels new : List Level) (p bits : ℕ) : Type 0 where
    pub are : AreLevels new
    pub within : p < length new
    pub bits_are : (d : Level) → (get_or new p d).bits ≡ bits
    pub same : (many : ℕ) (key : ℕ) → found_in cmp new many key ≡ found_in cmp levels many key

  pub level_made : (levels new : List Level) (p : ℕ) (level : Level) → AreLevels levels → p ≤ length levels → ((i : ℕ) (d : Level) → i < p → level.bits < (get_or levels i d).bits) → ((d : Level) → p < length levels → (get_or levels p d).bits ≤ level.bits) → ((d : Level) → p < length levels → (get_or levels p d).bits ≢ level.bits) → level.map ≡ [] → new ≡ take p levels ++ level ∷ drop p levels → Made levels new p level.bits
  level_made levels new p level are within more rest other empty new_is =
      let front : length (take p levels) ≡ p = length-take-le p levels within in
      let under : AllUnder level.bits (drop p levels) = under_drop levels p level.bits level are (λ lt. let most = rest level lt in let apart = other level lt in omega (arith, most, apart)) in
      let read : (d : Level) → get_or (take p levels ++ level ∷ drop p levels) p d ≡ level = λ d. get_or_at (take p levels) level (drop p levels) d p front in
      let none : (k : ℕ) → stored cmp level.map k ≡ None = λ k. rw empty refl in
      record {
        are = subst (λ (l : List Level). AreLevels l) (sym new_is) (insert_levels levels p level are more under);
        within = let long : length new ≡ length (take p levels) + suc (length (drop p levels)) = ap (λ (l : List Level). length l) new_is ∙ length-append (take p levels) (level ∷ drop p levels) in omega (arith, long, front);
        bits_are = λ d. ap (λ (l : List Level). (get_or l p d).bits) new_is ∙ ap (λ (l : Level). l.bits) (read d);
        same = λ many key. ap (λ (l : List Level). found_in cmp l many key) new_is ∙ insert_found levels p level many key none under;
      }
