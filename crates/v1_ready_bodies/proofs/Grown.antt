-- What was made one by one stays what it is while more is held.
use Rattle.std.proofs.Common.{◌≡◌, ℕ, suc, ◌+◌, ◌<◌, List, [], ◌∷◌, ◌++◌, length, map, get_or, drop, All, Option, Some, refl, sym, subst, ap, ◌∙◌, arith}
use Rattle.std.proofs.lemmas.List.{map-append}
use Rattle.std.proofs.lemmas.List.Elements.{All-push}
use Rattle.v1_ready_statements.specs.Given.{cons_option}
use Rattle.v1_ready_statements.specs.Blocks.{all_of}
use Rattle.v1_ready_nodes.specs.Held.{Held}
use Rattle.v1_ready_bodies.specs.Fronts.{in_front}
use Rattle.v1_ready_bodies.proofs.Fronts.{one_on, next}

module _ {X B : Type 0} (sees : Held → X → B) (In : Held → X → Type 0) (h g : Held) (kept : (x : X) → In h x → sees g x ≡ sees h x) (wider : (x : X) → In h x → In g x) where
  pub all_kept : (xs : List X) → All (In h) xs → map (sees g) xs ≡ map (sees h) xs
  all_kept [] within = refl
  all_kept (x ∷ xs) within =
      ap (λ (y : B). y ∷ map (sees g) xs) (kept x (within 0 x (omega arith)))
      ∙ ap (λ (ys : List B). sees h x ∷ ys) (all_kept xs (λ k d lt. within (suc k) d (omega arith)))

  pub all_wider : (xs : List X) → All (In h) xs → All (In g) xs
  all_wider xs within = λ k d lt. wider (get_or xs k d) (within k d lt)

  pub all_more : (xs : List X) (x : X) (now : List X) → now ≡ xs ++ x ∷ [] → All (In h) xs → In g x → All (In g) now
  all_more xs x now is within here = subst (All (In g)) (sym is) (All-push (In g) xs x (all_wider xs within) here)

  pub grown_on : (left behind : Option (List B)) (one : Option B) → left ≡ cons_option one behind → (xs : List X) (x : X) (now : List X) (due : Option (List B)) → now ≡ xs ++ x ∷ [] → All (In h) xs → Some (sees g x) ≡ one
      → in_front (map (sees h) xs) left ≡ due → in_front (map (sees g) now) behind ≡ due
  grown_on left behind one first xs x now due pushed within is so =
      ap (λ (all : List X). in_front (map (sees g) all) behind) pushed
      ∙ (ap (λ (all : List B). in_front all behind) (map-append (sees g) xs (x ∷ []) ∙ ap (λ (all : List B). all ++ sees g x ∷ []) (all_kept xs within))
      ∙ one_on left behind one first (map (sees h) xs) (sees g x) due is so)

  pub grown_more : {A : Type 0} (f : A → Option B) (ys : List A) (i : ℕ) (y : A) → i < length ys → y ≡ get_or ys i y → (xs : List X) (x : X) (now : List X) (due : Option (List B)) → now ≡ xs ++ x ∷ [] → All (In h) xs → Some (sees g x) ≡ f y
      → in_front (map (sees h) xs) (all_of f (drop i ys)) ≡ due → in_front (map (sees g) now) (all_of f (drop (i + 1) ys)) ≡ due
  grown_more f ys i y lt at = grown_on (all_of f (drop i ys)) (all_of f (drop (i + 1) ys)) (f y) (next f ys i y lt at)
