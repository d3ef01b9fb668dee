-- One more primitive behind others: it is apart from them where none of them changes what it reads. So code can go through
-- an action once, keep what was changed, and ask of each part that is read whether it was.
use Rattle.std.proofs.Common.{◌≡◌, Bool, true, false, List, [], ◌∷◌, ◌++◌, refl, ap, ap₂, ◌∙◌, append-nil}
use Rattle.std.specs.Prelude.{not, ◌&&◌, ◌||◌, flat_map}
use Rattle.std.specs.List.{list_any}
use Rattle.std.proofs.lemmas.List.Concat.{flat_map-append}
use Rattle.std.proofs.lemmas.List.Folds.{list_any-append}
use Rattle.p414_syntax.specs.declared.syntax.Decl.{Decl}
use Rattle.p414_sem.specs.Operations.{Primitive}
use Rattle.lower_laws_actions.specs.Apart.{Part, changes, reads, are_apart}

-- one of these primitives changes a part
abbrev pub is_changed_by : List Primitive → Part → Bool
is_changed_by ps part = list_any (λ p. changes p part) ps

-- a primitive changes one of these parts
abbrev changes_some : List Part → Primitive → Bool
changes_some parts p = list_any (changes p) parts

joined : (a b c d : Bool) → not (a || b) && (c && not d) ≡ (not a && c) && not (b || d)
joined true b c d = refl
joined false true true d = refl
joined false true false d = refl
joined false false c d = refl

behind : (ds : List Decl) (ps : List Primitive) (q : Primitive) → are_apart ds (ps ++ q ∷ []) ≡ are_apart ds ps && not (list_any (changes_some (reads ds q)) ps)
behind ds [] q = refl
behind ds (p ∷ ps) q =
    let all = flat_map (reads ds) ps in
    let split : list_any (changes p) (flat_map (reads ds) (ps ++ q ∷ [])) ≡ list_any (changes p) all || list_any (changes p) (reads ds q) =
    ap (list_any (changes p)) (flat_map-append (reads ds) ps (q ∷ []) ∙ ap (λ (l : List Part). all ++ l) (append-nil (reads ds q)))
    ∙ list_any-append (changes p) all (reads ds q) in
    ap₂ (λ x y. not x && y) split (behind ds ps q)
    ∙ joined (list_any (changes p) all) (list_any (changes p) (reads ds q)) (are_apart ds ps) (list_any (changes_some (reads ds q)) ps)

-- primitives by parts, or parts by primitives
by_parts : (ps : List Primitive) (parts : List Part) → list_any (changes_some parts) ps ≡ list_any (is_changed_by ps) parts
by_parts ps [] = none ps where
  none : (ps : List Primitive) → list_any (changes_some []) ps ≡ false
  none [] = refl
  none (p ∷ ps) = none ps
by_parts ps (x ∷ parts) = split ps ∙ ap (λ b. is_changed_by ps x || b) (by_parts ps parts) where
  mixed : (a b c d : Bool) → (a || b) || (c || d) ≡ (a || c) || (b || d)
  mixed true b c d = refl
  mixed false true true d = refl
  mixed false true false d = refl
  mixed false false c d = refl

  split : (qs : List Primitive) → list_any (changes_some (x ∷ parts)) qs ≡ is_changed_by qs x || list_any (changes_some parts) qs
  split [] = refl
  split (q ∷ qs) =
      ap (λ b. (changes q x || list_any (changes q) parts) || b) (split qs)
      ∙ mixed (changes q x) (list_any (changes q) parts) (is_changed_by qs x) (list_any (changes_some parts) qs)

-- One more primitive is apart from others where they change no part that it reads.
pub apart_behind : (ds : List Decl) (ps : List Primitive) (q : Primitive) → are_apart ds (ps ++ q ∷ []) ≡ are_apart ds ps && not (list_any (is_changed_by ps) (reads ds q))
apart_behind ds ps q = behind ds ps q ∙ ap (λ b. are_apart ds ps && not b) (by_parts ps (reads ds q))
