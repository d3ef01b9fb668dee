-- A set of owned names: what is found in it, and what is put there.
use Rattle.std.proofs.Common.{◌≡◌, ◌+◌, Bool, true, false, not, ◌||◌, List, [], ◌∷◌, ◌++◌, cond, map, length, position, refl, sym, ap, ◌∙◌, ltb, Some, None}
use Rattle.std.proofs.lemmas.List.{length-map, map-append}
use Rattle.std.specs.List.{list_any, prefix_len, position_or_len}
use Rattle.std.specs.Str.{bytes_eq}
use Rattle.indexmap.specs.IndexSet.{insert_key}
use Rattle.p414_syntax.specs.Names.{Name, has_name, find_name}

prefix_map : {X Y : Type 0} (p : Y → Bool) (f : X → Y) (xs : List X) → prefix_len p (map f xs) ≡ prefix_len (λ x. p (f x)) xs
prefix_map p f [] = refl
prefix_map p f (x ∷ xs) = ap (λ n. cond (p (f x)) (1 + n) 0) (prefix_map p f xs)

position_map : {X Y : Type 0} (p : Y → Bool) (f : X → Y) (xs : List X) → position p (map f xs) ≡ position (λ x. p (f x)) xs
position_map {X} {Y} p f xs =
    ap (λ n. cond (ltb n (length (map f xs))) (Some n) None) (prefix_map (λ y. not (p y)) f xs)
    ∙ ap (λ n. cond (ltb (position_or_len (λ x. p (f x)) xs) n) (Some (position_or_len (λ x. p (f x)) xs)) None) (length-map xs f)

any_map : {X Y : Type 0} (p : Y → Bool) (f : X → Y) (xs : List X) → list_any p (map f xs) ≡ list_any (λ x. p (f x)) xs
any_map p f [] = refl
any_map p f (x ∷ xs) = ap (λ b. p (f x) || b) (any_map p f xs)

module _ {K : Type 0} (shown : K → Name) where
  abbrev pub same : K → K → Bool
  same a b = bytes_eq (shown a) (shown b)

  -- the number of a name among the keys is its number among the names
  pub found : (names : List Name) (keys : List K) (name : Name) → map shown keys ≡ names → position (λ key. bytes_eq name (shown key)) keys ≡ find_name names name
  found names keys name view = sym (position_map (bytes_eq name) shown keys) ∙ ap (λ all. find_name all name) view

  put_last : (b : Bool) (keys new : List K) (value : K) → b ≡ false → new ≡ cond b keys (keys ++ value ∷ []) → map shown new ≡ map shown keys ++ shown value ∷ []
  put_last true keys new value fresh is = cc
  put_last false keys new value fresh is = ap (map shown) is ∙ map-append shown keys (value ∷ [])

  -- a name that isn't there goes last
  pub added : (old : List Name) (keys new : List K) (value : K) (name : Name) → map shown keys ≡ old → shown value ≡ name → has_name old name ≡ false → new ≡ insert_key same keys value → map shown new ≡ old ++ name ∷ []
  added old keys new value name view is fresh puts =
      let missing : list_any (same value) keys ≡ false = sym (any_map (bytes_eq (shown value)) shown keys) ∙ (rw (view, is) fresh) in
      rw (← view, ← is) (put_last (list_any (same value) keys) keys new value missing puts)
