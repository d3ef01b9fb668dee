-- A set of keys that are seen as names: what is found in it, and what is put there.
use Rattle.std.proofs.Common.{◌≡◌, ◌+◌, Bool, true, false, not, ◌||◌, List, [], ◌∷◌, ◌++◌, cond, map, length, position, refl, sym, ap, ◌∙◌, subst, ltb, Some, None}
use Rattle.std.proofs.lemmas.List.{length-map, map-append}
use Rattle.std.specs.Bool.{MatchBool}
use Rattle.std.specs.List.{list_any, prefix_len, position_or_len}
use Rattle.std.specs.Str.{bytes_eq}
use Rattle.indexmap.specs.IndexSet.{insert_key}
use Rattle.p414_syntax.specs.Names.{Name, has_name}

prefix_map : {X Y : Type 0} (p : Y → Bool) (f : X → Y) (xs : List X) → prefix_len p (map f xs) ≡ prefix_len (λ x. p (f x)) xs
prefix_map p f [] = refl
prefix_map p f (x ∷ xs) = ap (λ n. cond (p (f x)) (1 + n) 0) (prefix_map p f xs)

pub position_map : {X Y : Type 0} (p : Y → Bool) (f : X → Y) (xs : List X) → position p (map f xs) ≡ position (λ x. p (f x)) xs
position_map {X} {Y} p f xs =
    ap (λ n. cond (ltb n (length (map f xs))) (Some n) None) (prefix_map (λ y. not (p y)) f xs)
    ∙ ap (λ n. cond (ltb (position_or_len (λ x. p (f x)) xs) n) (Some (position_or_len (λ x. p (f x)) xs)) None) (length-map xs f)

pub any_map : {X Y : Type 0} (p : Y → Bool) (f : X → Y) (xs : List X) → list_any p (map f xs) ≡ list_any (λ x. p (f x)) xs
any_map p f [] = refl
any_map p f (x ∷ xs) = ap (λ b. p (f x) || b) (any_map p f xs)

module _ {K : Type 0} (shown : K → Name) where
  abbrev pub same : K → K → Bool
  same a b = bytes_eq (shown a) (shown b)

  cases : (b added : Bool) (keys new : List K) (value : K) → added ≡ not b → new ≡ cond b keys (keys ++ value ∷ []) → MatchBool added ((b ≡ false) × (map shown new ≡ map shown keys ++ shown value ∷ [])) ((b ≡ true) × (map shown new ≡ map shown keys))
  cases true added keys new value e f = subst (λ a. MatchBool a ((true ≡ false) × (map shown new ≡ map shown keys ++ shown value ∷ [])) ((true ≡ true) × (map shown new ≡ map shown keys))) (sym e) (refl, ap (map shown) f)
  cases false added keys new value e f = subst (λ a. MatchBool a ((false ≡ false) × (map shown new ≡ map shown keys ++ shown value ∷ [])) ((false ≡ true) × (map shown new ≡ map shown keys))) (sym e) (refl, ap (map shown) f ∙ map-append shown keys (value ∷ []))

  pub added_by : (old : List Name) (keys new : List K) (value : K) (added : Bool) → map shown keys ≡ old → added ≡ not (list_any (same value) keys) → new ≡ insert_key same keys value
      → MatchBool added ((has_name old (shown value) ≡ false) × (map shown new ≡ old ++ shown value ∷ [])) ((has_name old (shown value) ≡ true) × (map shown new ≡ old))
  added_by old keys new value added was e f =
      subst (λ (o : List Name). MatchBool added ((has_name o (shown value) ≡ false) × (map shown new ≡ o ++ shown value ∷ [])) ((has_name o (shown value) ≡ true) × (map shown new ≡ o))) was
      (subst (λ b. MatchBool added ((b ≡ false) × (map shown new ≡ map shown keys ++ shown value ∷ [])) ((b ≡ true) × (map shown new ≡ map shown keys))) (sym (any_map (bytes_eq (shown value)) shown keys)) (cases (list_any (same value) keys) added keys new value e f))
