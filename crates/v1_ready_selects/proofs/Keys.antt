-- Keys that are evaluated one after another.
use Rattle.std.proofs.Common.{◌≡◌, ℕ, ◌+◌, ◌<◌, List, [], ◌∷◌, ◌++◌, map, length, get_or, drop, drop-cons, add-one, refl, sym, ap, ◌∙◌}
use Rattle.std.proofs.lemmas.List.{append-nil, append_assoc, map-append}
use Rattle.v1_core.specs.declared.parser_error.ParserError.{ParserError}
use Rattle.v1_core.specs.Values.{Value}
use Rattle.v1_core.specs.Cells.{Cells}
use Rattle.v1_core.specs.declared.scalar.Scalar.{Scalar}
use Rattle.v1_core.specs.Scalars.{seen_scalar}
use Rattle.v1_core.specs.Ready.{Ready, Ended, given, failed, ready_value}
use Rattle.v1_core.specs.Nodes.{ready_at}
use Rattle.v1_ready_selects.specs.Selects.{Keys, all_given, one_failed, with_key, keys_of}
use Rattle.v1_ready_selects.specs.Seen.{seen_scalars, behind}

next_items : {X : Type 0} (xs : List X) (i : ℕ) (d : X) → i < length xs → drop i xs ≡ get_or xs i d ∷ drop (i + 1) xs
next_items xs i d h = rw (add-one, drop-cons xs i d h) refl

-- none so far
pub behind_none : (k : Keys) → behind [] k ≡ k
behind_none (all_given values) = refl
behind_none (one_failed e) = refl

with_one : (values : List Value) (v : Value) (k : Keys) → behind (values ++ v ∷ []) k ≡ behind values (with_key (given v) k)
with_one values v (all_given rest) = ap all_given (append_assoc values (v ∷ []) rest)
with_one values v (one_failed e) = refl

-- none left
pub all_there : (values : List Value) (due : Keys) → behind values (all_given []) ≡ due → all_given values ≡ due
all_there values due so = ap all_given (sym (append-nil values)) ∙ so

module _ (c : Cells) (left : List ℕ) (es : List Ready) (places : List ℕ) (i place : ℕ) (lt : i < length places) (at : place ≡ get_or places i place) where
  abbrev rest : Keys
  rest = keys_of c left (map (ready_at es) (drop (i + 1) places))

  here : keys_of c left (map (ready_at es) (drop i places)) ≡ with_key (ready_value c left (ready_at es place)) (keys_of c left (map (ready_at es) (drop (i + 1) places)))
  here = ap (λ (ps : List ℕ). keys_of c left (map (ready_at es) ps)) (next_items places i place lt ∙ ap (λ (p : ℕ). p ∷ drop (i + 1) places) (sym at))

  pub one_more : (items new : List Scalar) (x : Scalar) (due : Keys) → new ≡ items ++ x ∷ [] → given (seen_scalar x) ≡ ready_value c left (ready_at es place) → behind (seen_scalars items) (keys_of c left (map (ready_at es) (drop i places))) ≡ due → behind (seen_scalars new) (keys_of c left (map (ready_at es) (drop (i + 1) places))) ≡ due
  one_more items new x due step is so =
      ap (λ (ks : List Scalar). behind (seen_scalars ks) rest) step
      ∙ ap (λ (vs : List Value). behind vs rest) (map-append seen_scalar items (x ∷ []))
      ∙ with_one (seen_scalars items) (seen_scalar x) rest
      ∙ ap (λ (e : Ended). behind (seen_scalars items) (with_key e rest)) is
      ∙ ap (behind (seen_scalars items)) (sym here)
      ∙ so

  pub failed_here : (values : List Value) (e : ParserError) (due : Keys) → failed e ≡ ready_value c left (ready_at es place) → behind values (keys_of c left (map (ready_at es) (drop i places))) ≡ due → one_failed e ≡ due
  failed_here values e due is so =
      ap (λ (z : Ended). behind values (with_key z rest)) is
      ∙ ap (behind values) (sym here)
      ∙ so
