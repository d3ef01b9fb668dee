-- Keys that are made ready one after another.
use Rattle.std.proofs.Common.{◌≡◌, ℕ, suc, ◌+◌, ◌<◌, ◌≤◌, List, [], ◌∷◌, ◌++◌, length, map, get_or, drop, Option, Some, None, refl, sym, ap, ◌∙◌, arith, drop-cons, add-one}
use Rattle.std.proofs.lemmas.List.{append_assoc, append-nil, map-append}
use Rattle.node_lists.proofs.Growth as growth
use Rattle.p416_syntax.specs.Tree.{Exp16}
use Rattle.p416_syntax.specs.Calls.{select_key}
use Rattle.p416_syntax.specs.Scopes.{Scope}
use Rattle.v1_core.specs.Ready.{Ready}
use Rattle.v1_core.specs.Nodes.{ready_of, ready_at}
use Rattle.v1_core.specs.Kept.{Kept, trees}
use Rattle.v1_ready_forms.specs.Named.{NamedSeat}
use Rattle.v1_ready_forms.specs.Expressions.{ready_of_exp}
use Rattle.v1_ready_program.specs.Seen.{Keeps}
use Rattle.v1_ready_selects.specs.Selects.{ArePlaces}
use Rattle.v1_ready_selects.specs.Transitions.{with_first, keys_ready}
use Rattle.v1_ready_transitions.specs.internal.Firsts.{in_front}

next_items : {X : Type 0} (xs : List X) (i : ℕ) (d : X) → i < length xs → drop i xs ≡ get_or xs i d ∷ drop (i + 1) xs
next_items xs i d h = rw (add-one, drop-cons xs i d h) refl

-- as many trees as nodes
pub count : (k : Kept) → length (trees k) ≡ length k.nodes
count k = growth.count ready_of k.nodes

-- places of expressions that stay

pub kept : (old new : List Ready) → Keeps old new → (places : List ℕ) → ArePlaces (length old) places → map (ready_at new) places ≡ map (ready_at old) places
kept old new keeps [] within = refl
kept old new keeps (place ∷ places) within =
    ap (λ (r : Ready). r ∷ map (ready_at new) places) (keeps.places place (within 0 0 (omega arith)))
    ∙ ap (λ (rs : List Ready). ready_at old place ∷ rs) (kept old new keeps places (λ k d lt. within (suc k) d (omega arith)))

pub wider : (old new : ℕ) → old ≤ new → (places : List ℕ) → ArePlaces old places → ArePlaces new places
wider old new le places within = λ k d lt. let here = within k d lt in omega (arith, here)

-- one more

with_one : (keys : List Ready) (r : Ready) (rest : Option (List Ready)) → in_front (keys ++ r ∷ []) rest ≡ in_front keys (with_first (Some r) rest)
with_one keys r None = refl
with_one keys r (Some rest) = ap Some (append_assoc keys (r ∷ []) rest)

module _ (s : Scope) (seats : List NamedSeat) (keys : List Exp16) (i : ℕ) (x : Exp16) (lt : i < length keys) (at : x ≡ get_or keys i x) where
  next_ready : keys_ready s seats (drop i keys) ≡ with_first (ready_of_exp s seats select_key x) (keys_ready s seats (drop (i + 1) keys))
  next_ready = ap (keys_ready s seats) (next_items keys i x lt ∙ ap (λ (y : Exp16). y ∷ drop (i + 1) keys) (sym at))

  pub one_more : (old new : List Ready) (places : List ℕ) (place : ℕ) (due : Option (List Ready)) → Keeps old new → ArePlaces (length old) places → Some (ready_at new place) ≡ ready_of_exp s seats select_key x → in_front (map (ready_at old) places) (keys_ready s seats (drop i keys)) ≡ due → in_front (map (ready_at new) (places ++ place ∷ [])) (keys_ready s seats (drop (i + 1) keys)) ≡ due
  one_more old new places place due keeps within is so =
      ap (λ (rs : List Ready). in_front rs (keys_ready s seats (drop (i + 1) keys))) (map-append (ready_at new) places (place ∷ []) ∙ ap (λ (rs : List Ready). rs ++ ready_at new place ∷ []) (kept old new keeps places within))
      ∙ with_one (map (ready_at old) places) (ready_at new place) (keys_ready s seats (drop (i + 1) keys))
      ∙ ap (λ (o : Option Ready). in_front (map (ready_at old) places) (with_first o (keys_ready s seats (drop (i + 1) keys)))) is
      ∙ ap (in_front (map (ready_at old) places)) (sym next_ready)
      ∙ so

  pub none_more : (front : List Ready) (due : Option (List Ready)) → None ≡ ready_of_exp s seats select_key x → in_front front (keys_ready s seats (drop i keys)) ≡ due → None ≡ due
  none_more front due is so =
      ap (λ (o : Option Ready). in_front front (with_first o (keys_ready s seats (drop (i + 1) keys)))) is
      ∙ ap (in_front front) (sym next_ready)
      ∙ so

pub all_ready : (keys : List Ready) (due : Option (List Ready)) → in_front keys (Some []) ≡ due → Some keys ≡ due
all_ready keys due so = ap Some (sym (append-nil keys)) ∙ so
