-- A table chooses the action that the ready one chooses.
use Rattle.std.proofs.Common.{◌≡◌, ℕ, zero, suc, ◌+◌, ◌<◌, nat_lt, Bool, true, false, cond, Option, Some, None, IfSome, option_map, List, [], ◌∷◌, length, map, get_or, refl, sym, ap, ◌∙◌, subst, arith, bytes_eq}
use Rattle.std.specs.Prelude.{option_and_then}
use Rattle.std.proofs.lemmas.List.{length-map}
use Rattle.std.specs.List.{AllZip}
use Rattle.match_core.specs.declared.entries.Entry.{Entry}
use Rattle.match_core.specs.declared.entries.DefaultCall.{DefaultCall}
use Rattle.match_core.specs.Best.{Filled, lead, leader, best, entry_at}
use Rattle.match_core.specs.Fits.{FitsCall, action_at}
use Rattle.p416_syntax.specs.declared.controls.Table16.{Table16}
use Rattle.p416_syntax.specs.Properties.{keys_of, default_action_of}
use Rattle.p416_syntax.specs.Names.{Name}
use Rattle.p416_syntax.specs.Scopes.{Scope}
use Rattle.v1_core.specs.Signatures.{planes_of, action_sig, table_sig, table_number}
use Rattle.v1_core.specs.Surroundings as meaning
use Rattle.v1_core.specs.Surroundings.{action_called}
use Rattle.v1_core.specs.Tables as meaning_tables
use Rattle.v1_core.specs.Tables.{name_of_number, own_default, fill_of}
use Rattle.v1_core.specs.Ready.{Ready}
use Rattle.v1_ready_forms.specs.Named.{NamedSeat}
use Rattle.v1_ready_blocks.specs.Tables as ready
use Rattle.v1_ready_statements.specs.Around.{ActionPlace, Around, Found, found_from, action_found}
use Rattle.v1_ready_statements.specs.Given.{cons_option}
use Rattle.v1_ready_statements.specs.Blocks.{all_of, key_ready, number_in, action_numbers, default_ready, with_parts, table_ready}
use Rattle.v1_control_laws.specs.Tables.{around_of, action_of, Takes, TableFits, IsFilled}

-- actions

-- the action with a name is that of the block
pub found_called : (actions : List ActionPlace) (n : ℕ) (text : Name) (f : Found) → found_from n actions text ≡ Some f → action_called (map action_of actions) text ≡ Some f.place.of
found_called [] n text f is = absurd (cc is)
found_called (a ∷ actions) n text f is = by (bytes_eq a.of.name text) (found_called actions (suc n) text f) is where
  by : (t : Bool) → (found_from (suc n) actions text ≡ Some f → action_called (map action_of actions) text ≡ Some f.place.of) → cond t (Some (record { number = n; place = a })) (found_from (suc n) actions text) ≡ Some f → cond t (Some a.of) (action_called (map action_of actions) text) ≡ Some f.place.of
  by true rest e = let same : record { number = n; place = a } ≡ f = cc e in ap (λ (g : Found). Some g.place.of) same
  by false rest e = rest e

-- what is said of each action, by its number
pub record Numbered {X : Type 0} (actions : List ActionPlace) (n : ℕ) (g : ActionPlace → X) (f : Found) : Type 0 where
  pub place : ℕ
  pub number : f.number ≡ n + place
  pub at : (d : X) → get_or (map g actions) place d ≡ g f.place
  pub within : place < length actions

pub found_numbered : {X : Type 0} (g : ActionPlace → X) (actions : List ActionPlace) (n : ℕ) (text : Name) (f : Found) → found_from n actions text ≡ Some f → Numbered actions n g f
found_numbered g [] n text f is = absurd (cc is)
found_numbered {X = X} g (a ∷ actions) n text f is = by (bytes_eq a.of.name text) (found_numbered g actions (suc n) text f) is where
  first : (m : ℕ) → m ≡ m + 0
  first m = omega arith

  later : (m i k : ℕ) → k ≡ suc m + i → k ≡ m + suc i
  later m i k e = omega (arith, e)

  some : (l : ℕ) → 0 < suc l
  some l = omega arith

  more : (i l : ℕ) → i < l → suc i < suc l
  more i l lt = omega (arith, lt)

  by : (t : Bool) → (found_from (suc n) actions text ≡ Some f → Numbered actions (suc n) g f) → cond t (Some (record { number = n; place = a })) (found_from (suc n) actions text) ≡ Some f → Numbered (a ∷ actions) n g f
  by true later_one e =
      let same : record { number = n; place = a } ≡ f = cc e in
      record { place = 0; number = ap (λ (h : Found). h.number) (sym same) ∙ first n; at = λ d. ap (λ (h : Found). g h.place) same; within = some (length actions) }
  by false later_one e =
      let rest : Numbered actions (suc n) g f = later_one e in
      record { place = suc rest.place; number = later n rest.place f.number rest.number; at = rest.at; within = more rest.place (length actions) rest.within }

pub at_its_number : {X : Type 0} (g : ActionPlace → X) (actions : List ActionPlace) (text : Name) (f : Found) (d : X) → found_from 0 actions text ≡ Some f → get_or (map g actions) f.number d ≡ g f.place
at_its_number g actions text f d is =
    let h = found_numbered g actions 0 text f is in
    let same : f.number ≡ h.place = h.number ∙ zero_more h.place in
    ap (λ (i : ℕ). get_or (map g actions) i d) same ∙ h.at d where
      zero_more : (i : ℕ) → 0 + i ≡ i
      zero_more i = omega arith

-- the best entry is one of the entries
lead_within : (rank : ℕ → ℕ) (o : Option ℕ) (i : ℕ) → IfSome o (λ k. k < i) → IfSome (lead rank o i) (λ k. k < suc i)
lead_within rank None i h = last i where
  last : (m : ℕ) → m < suc m
  last m = omega arith
lead_within rank (Some n) i h = by (nat_lt (rank i) (rank n)) where
  last : (m : ℕ) → m < suc m
  last m = omega arith

  more : (k m : ℕ) → k < m → k < suc m
  more k m lt = omega (arith, lt)

  by : (t : Bool) → IfSome (cond t (Some i) (Some n)) (λ k. k < suc i)
  by true = last i
  by false = more n i h

leader_within : (test : ℕ → Bool) (rank : ℕ → ℕ) (n : ℕ) → IfSome (leader test rank n) (λ k. k < n)
leader_within test rank zero = tt
leader_within test rank (suc n) = by (test n) (leader_within test rank n) where
  more : (o : Option ℕ) → IfSome o (λ k. k < n) → IfSome o (λ k. k < suc n)
  more None h = tt
  more (Some k) h = larger k n h where
    larger : (i m : ℕ) → i < m → i < suc m
    larger i m lt = omega (arith, lt)

  by : (t : Bool) → IfSome (leader test rank n) (λ k. k < n) → IfSome (cond t (lead rank (leader test rank n) n) (leader test rank n)) (λ k. k < suc n)
  by true rest = lead_within rank (leader test rank n) n rest
  by false rest = more (leader test rank n) rest

pub best_within : (table : Filled) (key : List ℕ) → IfSome (best table key) (λ k. k < length table.entries)
best_within table key = leader_within _ _ (length table.entries)

-- the numbers of a table's actions
numbers_at : (b : Around) (s : Scope) (t : Table16) (n : ℕ) (planes : List Name) (xs : List ℕ) (i : ℕ) → action_numbers b s t n planes ≡ Some xs → i < length planes → (f : Found) × ((action_found b (name_of_number s t (n + i)) ≡ Some f) × (get_or xs i 0 ≡ f.number))
numbers_at b s t n [] xs i is lt = absurd (none i lt) where
  none : (m : ℕ) → m < 0 → ⊥
  none m l = omega arith
numbers_at b s t n (plane ∷ planes) xs zero is lt = by (action_found b (name_of_number s t n)) refl (action_numbers b s t (suc n) planes) is where
  first : (m : ℕ) → m ≡ m + 0
  first m = omega arith

  by : (o : Option Found) → action_found b (name_of_number s t n) ≡ o → (q : Option (List ℕ)) → cons_option (option_map number_in o) q ≡ Some xs → (f : Found) × ((action_found b (name_of_number s t (n + 0)) ≡ Some f) × (get_or xs 0 0 ≡ f.number))
  by None at q e = absurd (cc e)
  by (Some f) at None e = absurd (cc e)
  by (Some f) at (Some rest) e =
      let same : f.number ∷ rest ≡ xs = cc e in
      (f, (subst (λ (m : ℕ). action_found b (name_of_number s t m) ≡ Some f) (first n) at, ap (λ (l : List ℕ). get_or l 0 0) (sym same)))
numbers_at b s t n (plane ∷ planes) xs (suc i) is lt = by (option_map number_in (action_found b (name_of_number s t n))) (action_numbers b s t (suc n) planes) refl (λ rest at l. numbers_at b s t (suc n) planes rest i at l) is where
  later : (m k : ℕ) → suc m + k ≡ m + suc k
  later m k = omega arith

  less : (k l : ℕ) → suc k < suc l → k < l
  less k l h = omega (arith, h)

  by : (o : Option ℕ) (q : Option (List ℕ)) → action_numbers b s t (suc n) planes ≡ q → ((ys : List ℕ) → action_numbers b s t (suc n) planes ≡ Some ys → i < length planes → (f : Found) × ((action_found b (name_of_number s t (suc n + i)) ≡ Some f) × (get_or ys i 0 ≡ f.number))) → cons_option o q ≡ Some xs → (f : Found) × ((action_found b (name_of_number s t (n + suc i)) ≡ Some f) × (get_or xs (suc i) 0 ≡ f.number))
  by None q at later_one e = absurd (cc e)
  by (Some k) None at later_one e = absurd (cc e)
  by (Some k) (Some rest) at later_one e =
      let same : k ∷ rest ≡ xs = cc e in
      let h = later_one rest at (less i (length planes) lt) in
      (h.0, (subst (λ (m : ℕ). action_found b (name_of_number s t m) ≡ Some h.0) (later n i) h.1.0, ap (λ (l : List ℕ). get_or l (suc i) 0) (sym same) ∙ h.1.1))

-- both chose one action, with as many numbers as it takes, or none
pub data ChosenAlike (b : Around) (s : Scope) : Option meaning_tables.Chosen → Option ready.Chosen → Type 0 where
  none_chosen : ChosenAlike b s None None
  one_chosen : (f : Found) (text : Name) (number : ℕ) (arguments : List ℕ) → action_found b text ≡ Some f → Takes s f (length arguments) → ChosenAlike b s (Some (record { called = text; number = number; arguments = arguments })) (Some (record { action = f.number; number = number; arguments = arguments }))

-- the parts of a table that is ready
pub record TableParts (b : Around) (s : Scope) (seats : List NamedSeat) (t : Table16) (r : ready.Table) : Type 0 where
  pub keys : all_of (key_ready s seats) (keys_of t.properties) ≡ Some r.keys
  pub actions : action_numbers b s t 0 (planes_of s t) ≡ Some r.actions
  pub default : default_ready b (option_and_then (own_default s t) (default_action_of t.properties)) ≡ Some r.default
  pub number : r.number ≡ table_number b.syntax t
  pub direct : r.direct ≡ (table_sig b.syntax b.locals s t).direct

pub parts_are : (b : Around) (s : Scope) (seats : List NamedSeat) (t : Table16) (r : ready.Table) → table_ready b s seats t ≡ Some r → TableParts b s seats t r
parts_are b s seats t r is =
    by (all_of (key_ready s seats) (keys_of t.properties)) (action_numbers b s t 0 (planes_of s t)) (default_ready b (option_and_then (own_default s t) (default_action_of t.properties))) refl refl refl is where
      by : (o : Option (List Ready)) (p : Option (List ℕ)) (q : Option (Option ready.Chosen)) → all_of (key_ready s seats) (keys_of t.properties) ≡ o → action_numbers b s t 0 (planes_of s t) ≡ p → default_ready b (option_and_then (own_default s t) (default_action_of t.properties)) ≡ q
          → with_parts (table_number b.syntax t) (table_sig b.syntax b.locals s t).direct o p q ≡ Some r → TableParts b s seats t r
      by None p q x y v e = absurd (cc e)
      by (Some keys) None q x y v e = absurd (cc e)
      by (Some keys) (Some actions) None x y v e = absurd (cc e)
      by (Some keys) (Some actions) (Some default) x y v e =
          let made : ready.Table = record { number = table_number b.syntax t; keys = keys; direct = (table_sig b.syntax b.locals s t).direct; actions = actions; default = default } in
          let same : made ≡ r = cc e in
          subst (TableParts b s seats t) same (record { keys = x; actions = y; default = v; number = refl; direct = refl })

module _ (S : meaning.Surroundings) (actions : List ActionPlace) (t : Table16) (fits : TableFits S actions t) (seats : List NamedSeat) (r : ready.Table) (parts : TableParts (around_of S actions) S.scope seats t r) where
  abbrev b : Around
  b = around_of S actions

  counted : (number : ℕ) (numbers : List ℕ) → FitsCall (table_sig S.setting.syntax S.locals S.scope t) number numbers → length (action_at (table_sig S.setting.syntax S.locals S.scope t) number).widths ≡ length numbers
  counted number numbers h = zipped _ (action_at (table_sig S.setting.syntax S.locals S.scope t) number).widths numbers h.widths where
    zipped : (R : ℕ → ℕ → Type 0) (xs ys : List ℕ) → AllZip R xs ys → length xs ≡ length ys
    zipped R [] [] h = refl
    zipped R [] (y ∷ ys) h = absurd h
    zipped R (x ∷ xs) [] h = absurd h
    zipped R (x ∷ xs) (y ∷ ys) h = ap suc (zipped R xs ys h.1)

  -- a call by its number
  call_alike : (number : ℕ) (numbers : List ℕ) → FitsCall (table_sig S.setting.syntax S.locals S.scope t) number numbers → ChosenAlike b S.scope (Some (meaning_tables.chosen_by S.scope t number numbers)) (Some (ready.chosen_by r number numbers))
  call_alike number numbers h =
      let lt : number < length (planes_of S.scope t) = subst (λ (l : ℕ). number < l) (length-map (planes_of S.scope t) (action_sig S.scope t)) h.listed in
      let at = numbers_at b S.scope t 0 (planes_of S.scope t) r.actions number parts.actions lt in
      let found : action_found b (name_of_number S.scope t number) ≡ Some at.0 = subst (λ (m : ℕ). action_found b (name_of_number S.scope t m) ≡ Some at.0) (zero_more number) at.1.0 in
      let takes = fits.calls number at.0 lt found in
      subst (λ (k : ℕ). ChosenAlike b S.scope (Some (meaning_tables.chosen_by S.scope t number numbers)) (Some (record { action = k; number = number; arguments = numbers }))) (sym at.1.1)
      (one_chosen at.0 (name_of_number S.scope t number) number numbers found (record { many = sym (counted number numbers h) ∙ takes.many; bits = takes.bits })) where
        zero_more : (i : ℕ) → 0 + i ≡ i
        zero_more i = omega arith

  -- the table's own default
  own_alike : (o : Option meaning_tables.Chosen) (q : Option ready.Chosen) → option_and_then (own_default S.scope t) (default_action_of t.properties) ≡ o → default_ready b o ≡ Some q → ChosenAlike b S.scope o q
  own_alike None q at is = let same : None ≡ q = cc is in subst (ChosenAlike b S.scope None) same none_chosen
  own_alike (Some k) q at is = by (action_found b k.called) refl is where
    by : (o : Option Found) → action_found b k.called ≡ o → option_map (λ (c : ready.Chosen). Some c) (option_map (λ (f : Found). record { action = f.number; number = k.number; arguments = k.arguments }) o) ≡ Some q → ChosenAlike b S.scope (Some k) q
    by None found e = absurd (cc e)
    by (Some f) found e =
        let made : ready.Chosen = record { action = f.number; number = k.number; arguments = k.arguments } in
        let same : Some made ≡ q = cc e in
        subst (ChosenAlike b S.scope (Some k)) same (one_chosen f k.called k.number k.arguments found (fits.default k f at found))

  -- on a miss
  miss_alike : (d : Option DefaultCall) → IfSome d (λ call. FitsCall (table_sig S.setting.syntax S.locals S.scope t) call.action call.arguments) → ChosenAlike b S.scope (meaning_tables.chosen_on_miss S.scope t d) (ready.chosen_on_miss r d)
  miss_alike (Some d) h = call_alike d.action d.arguments h
  miss_alike None h = own_alike (option_and_then (own_default S.scope t) (default_action_of t.properties)) r.default refl parts.default

  pub chosen_alike : (f : ready.Fill) → IsFilled S t f r → (entry : Option ℕ) → IfSome entry (λ k. k < length (fill_of S t).entries) → ChosenAlike b S.scope (meaning_tables.chosen S t entry) (ready.chosen f r entry)
  chosen_alike f filled (Some entry) lt =
      subst (λ (x : Filled). ChosenAlike b S.scope (Some (meaning_tables.chosen_entry S.scope t (entry_at (fill_of S t).entries entry))) (Some (ready.chosen_entry r (entry_at x.entries entry)))) (sym filled.table)
      (let e : Entry = entry_at (fill_of S t).entries entry in call_alike e.action e.arguments (fits.fill.entries entry (record { keys = []; priority = 0; action = 0; arguments = [] }) lt).call)
  chosen_alike f filled None lt =
      subst (λ x. ChosenAlike b S.scope (meaning_tables.chosen_on_miss S.scope t (fill_of S t).default) (ready.chosen_on_miss r x.default)) (sym filled.fill)
      (miss_alike (fill_of S t).default fits.fill.call)
