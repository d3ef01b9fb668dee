-- A set of keys that are seen as fields: what is found in it, and what is put there.
use Rattle.std.proofs.Common.{◌≡◌, ℕ, Bool, true, false, ◌||◌, ◌&&◌, if◌then◌else◌, nat_eq, List, [], ◌∷◌, ◌++◌, map, Option, Some, None, refl, sym, ap, ◌∙◌, subst}
use Rattle.std.specs.Borrow.{Bor}
use Rattle.std.specs.List.{list_any}
use Rattle.std.specs.Str.{bytes_eq}
use Rattle.std.proofs.lemmas.Bool.{eqb-true}
use Rattle.std.proofs.lemmas.List.{map-append}
use Rattle.std.proofs.lemmas.List.Folds.{list_any-append}
use Rattle.std.proofs.lemmas.Slice.Eq.{bytes_eq-Decides}
use Rattle.indexmap.specs.IndexSet.{insert_key}
use Rattle.p414_syntax.specs.declared.parts.Index.{Index}
use Rattle.p414_syntax.specs.declared.parts.Index.TheVariants.{At, Next, Last}
use Rattle.p414_syntax.specs.declared.parts.Ref.{Ref}
use Rattle.p414_syntax.specs.Names.{Name}
use Rattle.p414_syntax.specs.CalculatedFields.{is_same_index, is_same_field}
use Rattle.p414_flat_check.specs.internal.Keys.{place_of, FieldKey, key_of, shown_key, is_same_key}

-- two fields have one key where they are the same

same_places : (i j : Option Index) → (nat_eq (place_of i).0 (place_of j).0 && nat_eq (place_of i).1 (place_of j).1) ≡ is_same_index i j
same_places None None = refl
same_places None (Some (At n)) = refl
same_places None (Some Next) = refl
same_places None (Some Last) = refl
same_places (Some (At m)) None = refl
same_places (Some (At m)) (Some (At n)) = refl
same_places (Some (At m)) (Some Next) = refl
same_places (Some (At m)) (Some Last) = refl
same_places (Some Next) None = refl
same_places (Some Next) (Some (At n)) = refl
same_places (Some Next) (Some Next) = refl
same_places (Some Next) (Some Last) = refl
same_places (Some Last) None = refl
same_places (Some Last) (Some (At n)) = refl
same_places (Some Last) (Some Next) = refl
same_places (Some Last) (Some Last) = refl

same_fields : (r s : Ref) → is_same_key (key_of r) (key_of s) ≡ is_same_field r s
same_fields r s = ap (λ b. bytes_eq r.instance.name s.instance.name && (b && bytes_eq r.field s.field)) (same_places r.instance.index s.instance.index)

both : (a b : Bool) → (a && b) ≡ true → (a ≡ true) × (b ≡ true)
both true b h = (refl, h)
both false b h = cc

-- keys that are the same are equal
same_is : (k v : FieldKey) → is_same_key k v ≡ true → k ≡ v
same_is k v h =
    let a = both (bytes_eq k.0 v.0) ((nat_eq k.1.0.0 v.1.0.0 && nat_eq k.1.0.1 v.1.0.1) && bytes_eq k.1.1 v.1.1) h in
    let b = both (nat_eq k.1.0.0 v.1.0.0 && nat_eq k.1.0.1 v.1.0.1) (bytes_eq k.1.1 v.1.1) a.1 in
    let c = both (nat_eq k.1.0.0 v.1.0.0) (nat_eq k.1.0.1 v.1.0.1) b.0 in
    let instances : k.0 ≡ v.0 = (bytes_eq-Decides k.0 v.0).0 a.0 in
    let kinds : k.1.0.0 ≡ v.1.0.0 = eqb-true k.1.0.0 v.1.0.0 c.0 in
    let numbers : k.1.0.1 ≡ v.1.0.1 = eqb-true k.1.0.1 v.1.0.1 c.1 in
    let fields : k.1.1 ≡ v.1.1 = (bytes_eq-Decides k.1.1 v.1.1).0 b.1 in
    λ i. (instances i, ((kinds i, numbers i), fields i))

-- the keys of the code

abbrev Key : Type 0
Key = Bor Name × ((ℕ × ℕ) × Bor Name)

abbrev same : Key → Key → Bool
same a b = is_same_key (shown_key a) (shown_key b)

any_map : {X Y : Type 0} (p : Y → Bool) (f : X → Y) (xs : List X) → list_any p (map f xs) ≡ list_any (λ x. p (f x)) xs
any_map p f [] = refl
any_map p f (x ∷ xs) = ap (λ b. p (f x) || b) (any_map p f xs)

pub has_by : (keys : List Key) (seen : List FieldKey) (k : Key) (wanted : FieldKey) (result : Bool) → result ≡ list_any (same k) keys → shown_key k ≡ wanted → map shown_key keys ≡ seen → result ≡ list_any (is_same_key wanted) seen
has_by keys seen k wanted result is shown view =
    is
    ∙ (sym (any_map (is_same_key (shown_key k)) shown_key keys)
    ∙ (ap (λ w. list_any (is_same_key w) (map shown_key keys)) shown ∙ ap (list_any (is_same_key wanted)) view))

-- a key that is there is put there again
again : (k v : FieldKey) (keys : List FieldKey) (b : Bool) → is_same_key k v ≡ b → list_any (is_same_key v) keys ≡ true → list_any (is_same_key k) keys ≡ (list_any (is_same_key k) keys || b)
again k v keys true is there =
    let e : list_any (is_same_key k) keys ≡ true = subst (λ w. list_any (is_same_key w) keys ≡ true) (sym (same_is k v is)) there in
    rw e refl
again k v keys false is there = or_false (list_any (is_same_key k) keys) where
  or_false : (a : Bool) → a ≡ (a || false)
  or_false true = refl
  or_false false = refl

or_none : (a b : Bool) → (a || (b || false)) ≡ (a || b)
or_none true b = refl
or_none false true = refl
or_none false false = refl

behind : (k v : FieldKey) (keys : List FieldKey) → list_any (is_same_key k) (keys ++ v ∷ []) ≡ (list_any (is_same_key k) keys || is_same_key k v)
behind k v keys = list_any-append (is_same_key k) keys (v ∷ []) ∙ or_none (list_any (is_same_key k) keys) (is_same_key k v)

put : (b : Bool) (keys new : List Key) (value : Key) (k : FieldKey) → list_any (same value) keys ≡ b → new ≡ (if b then keys else keys ++ value ∷ []) → list_any (is_same_key k) (map shown_key new) ≡ (list_any (is_same_key k) (map shown_key keys) || is_same_key k (shown_key value))
put true keys new value k there is =
    ap (λ l. list_any (is_same_key k) (map shown_key l)) is
    ∙ again k (shown_key value) (map shown_key keys) (is_same_key k (shown_key value)) refl (any_map (is_same_key (shown_key value)) shown_key keys ∙ there)
put false keys new value k there is =
    ap (λ l. list_any (is_same_key k) (map shown_key l)) is
    ∙ (ap (list_any (is_same_key k)) (map-append shown_key keys (value ∷ [])) ∙ behind k (shown_key value) (map shown_key keys))

pub added_by : (keys new : List Key) (old seen : List FieldKey) (value : Key) (field : Ref) → map shown_key keys ≡ old → map shown_key new ≡ seen → shown_key value ≡ key_of field → new ≡ insert_key same keys value → (r : Ref) → list_any (is_same_key (key_of r)) seen ≡ (list_any (is_same_key (key_of r)) old || is_same_field r field)
added_by keys new old seen value field was view shown is r =
    sym (ap (list_any (is_same_key (key_of r))) view)
    ∙ (put (list_any (same value) keys) keys new value (key_of r) refl is
    ∙ (ap (λ l. list_any (is_same_key (key_of r)) l || is_same_key (key_of r) (shown_key value)) was
    ∙ (ap (λ v. list_any (is_same_key (key_of r)) old || is_same_key (key_of r) v) shown
    ∙ ap (λ b. list_any (is_same_key (key_of r)) old || b) (same_fields r field))))
