-- A set of pairs: what is found in it, and what is put there.
use Rattle.std.proofs.Common.{◌≡◌, inl, inr, ℕ, Bool, true, false, nat_eq, ◌||◌, ◌&&◌, if◌then◌else◌, List, [], ◌∷◌, ◌++◌, map, refl, sym, ap, ◌∙◌, subst}
use Rattle.std.specs.Borrow.{Bor}
use Rattle.std.specs.List.{list_any}
use Rattle.std.specs.Str.{bytes_eq}
use Rattle.std.proofs.lemmas.Bool.{cases_eq, ne_eqb}
use Rattle.std.proofs.lemmas.List.{map-append}
use Rattle.std.proofs.lemmas.List.Folds.{list_any-append}
use Rattle.std.proofs.lemmas.Slice.Eq.{bytes_eq-Decides}
use Rattle.indexmap.specs.IndexSet.{insert_key}
use Rattle.p416_syntax.specs.declared.controls.ActionName.{ActionName}
use Rattle.p416_syntax.specs.declared.controls.ActionName.TheVariants as action_name
use Rattle.p416_syntax.specs.Names.{Name}
use Rattle.p416_syntax.specs.Tables.{is_same_action}
use Rattle.p416_listed_check.specs.Pairs.{Pair, shown_pair, is_same_pair, is_listed_pair}

-- equal either way round

nat_either : (x y : ℕ) → nat_eq x y ≡ nat_eq y x
nat_either x y =
    elim (cases_eq x y) [
      | inl same ↦ rw same refl
      | inr apart ↦ rw (ne_eqb x y apart, ne_eqb y x (λ same. apart (sym same))) refl
    ]

pub bytes_either : (xs ys : List ℕ) → bytes_eq xs ys ≡ bytes_eq ys xs
bytes_either [] [] = refl
bytes_either [] (y ∷ ys) = refl
bytes_either (x ∷ xs) [] = refl
bytes_either (x ∷ xs) (y ∷ ys) = rw (nat_either x y, bytes_either xs ys) refl

-- pairs that are the same are equal

both : (a b : Bool) → (a && b) ≡ true → (a ≡ true) × (b ≡ true)
both true b h = (refl, h)
both false b h = cc

same_is : (k v : Pair) → is_same_pair k v ≡ true → k ≡ v
same_is k v h =
    let a = both (bytes_eq k.0 v.0) (bytes_eq k.1 v.1) h in
    let counters : k.0 ≡ v.0 = (bytes_eq-Decides k.0 v.0).0 a.0 in
    let actions : k.1 ≡ v.1 = (bytes_eq-Decides k.1 v.1).0 a.1 in
    λ i. (counters i, actions i)

-- the keys of the code

abbrev Key : Type 0
Key = Bor Name × Bor Name

abbrev same : Key → Key → Bool
same a b = is_same_pair (shown_pair a) (shown_pair b)

any_map : {X Y : Type 0} (p : Y → Bool) (f : X → Y) (xs : List X) → list_any p (map f xs) ≡ list_any (λ x. p (f x)) xs
any_map p f [] = refl
any_map p f (x ∷ xs) = ap (λ b. p (f x) || b) (any_map p f xs)

pub has_by : (keys : List Key) (seen : List Pair) (k : Key) (wanted : Pair) (result : Bool) → result ≡ list_any (same k) keys → shown_pair k ≡ wanted → map shown_pair keys ≡ seen → result ≡ list_any (is_same_pair wanted) seen
has_by keys seen k wanted result is shown view =
    is
    ∙ (sym (any_map (is_same_pair (shown_pair k)) shown_pair keys)
    ∙ (ap (λ w. list_any (is_same_pair w) (map shown_pair keys)) shown ∙ ap (list_any (is_same_pair wanted)) view))

-- a key that is there is put there again
again : (k v : Pair) (keys : List Pair) (b : Bool) → is_same_pair k v ≡ b → list_any (is_same_pair v) keys ≡ true → list_any (is_same_pair k) keys ≡ (list_any (is_same_pair k) keys || b)
again k v keys true is there =
    let e : list_any (is_same_pair k) keys ≡ true = subst (λ w. list_any (is_same_pair w) keys ≡ true) (sym (same_is k v is)) there in
    rw e refl
again k v keys false is there = or_false (list_any (is_same_pair k) keys) where
  or_false : (a : Bool) → a ≡ (a || false)
  or_false true = refl
  or_false false = refl

or_none : (a b : Bool) → (a || (b || false)) ≡ (a || b)
or_none true b = refl
or_none false true = refl
or_none false false = refl

behind : (k v : Pair) (keys : List Pair) → list_any (is_same_pair k) (keys ++ v ∷ []) ≡ (list_any (is_same_pair k) keys || is_same_pair k v)
behind k v keys = list_any-append (is_same_pair k) keys (v ∷ []) ∙ or_none (list_any (is_same_pair k) keys) (is_same_pair k v)

put : (b : Bool) (keys new : List Key) (value : Key) (k : Pair) → list_any (same value) keys ≡ b → new ≡ (if b then keys else keys ++ value ∷ []) → list_any (is_same_pair k) (map shown_pair new) ≡ (list_any (is_same_pair k) (map shown_pair keys) || is_same_pair k (shown_pair value))
put true keys new value k there is =
    ap (λ l. list_any (is_same_pair k) (map shown_pair l)) is
    ∙ again k (shown_pair value) (map shown_pair keys) (is_same_pair k (shown_pair value)) refl (any_map (is_same_pair (shown_pair value)) shown_pair keys ∙ there)
put false keys new value k there is =
    ap (λ l. list_any (is_same_pair k) (map shown_pair l)) is
    ∙ (ap (list_any (is_same_pair k)) (map-append shown_pair keys (value ∷ [])) ∙ behind k (shown_pair value) (map shown_pair keys))

pub added_by : (keys new : List Key) (old seen : List Pair) (value : Key) (added : Pair) → map shown_pair keys ≡ old → map shown_pair new ≡ seen → shown_pair value ≡ added → new ≡ insert_key same keys value → (p : Pair) → list_any (is_same_pair p) seen ≡ (list_any (is_same_pair p) old || is_same_pair p added)
added_by keys new old seen value added was view shown is p =
    sym (ap (list_any (is_same_pair p)) view)
    ∙ (put (list_any (same value) keys) keys new value p refl is
    ∙ (ap (λ l. list_any (is_same_pair p) l || is_same_pair p (shown_pair value)) was
    ∙ ap (λ v. list_any (is_same_pair p) old || is_same_pair p v) shown))

-- the pairs of a name with actions

and_false : (a : Bool) → (a && false) ≡ false
and_false true = refl
and_false false = refl

and_or : (a b c : Bool) → (a && (b || c)) ≡ ((a && b) || (a && c))
and_or true b c = refl
and_or false b c = refl

pub listed_is : (called wanted action : Name) (actions : List ActionName) → (bytes_eq called wanted && list_any (is_same_action (action_name.Declared action)) actions) ≡ list_any (is_listed_pair (wanted, action) called) actions
listed_is called wanted action [] = and_false (bytes_eq called wanted)
listed_is called wanted action (action_name.Declared text ∷ actions) =
    and_or (bytes_eq called wanted) (bytes_eq action text) (list_any (is_same_action (action_name.Declared action)) actions)
    ∙ (ap (λ (b : Bool). (b && bytes_eq action text) || (bytes_eq called wanted && list_any (is_same_action (action_name.Declared action)) actions)) (bytes_either called wanted)
    ∙ ap (λ (b : Bool). (bytes_eq wanted called && bytes_eq action text) || b) (listed_is called wanted action actions))
listed_is called wanted action (action_name.NoAction ∷ actions) = listed_is called wanted action actions
