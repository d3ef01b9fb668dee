-- The pieces of a text, one more at a time, and what each piece keeps.
use Rattle.std.proofs.Common.{◌≡◌, ℕ, ◌+◌, ◌<◌, ◌≤◌, Bool, List, [], ◌∷◌, ◌++◌, length, get_or, take, drop, refl, sym, ap, ◌∙◌, subst, arith, Result, Ok, Err, Some}
use Rattle.std.specs.Prelude.{slice_index}
use Rattle.std.proofs.lemmas.List.{length-drop, get_or-drop}
use Rattle.p4x_fault.specs.declared.Rule.{Rule}
use Rattle.p4x_fault.specs.declared.Place.{Place}
use Rattle.token_division.specs.declared.division.Token.{Token}
use Rattle.token_division.specs.declared.division.Piece.{Piece}
use Rattle.token_division.specs.declared.division.What.{What}
use Rattle.token_division.specs.Division.{Front, token_of, first_after, place_after}
use Rattle.token_division.specs.Walk.{Between, Step, at_start, behind_step, IsStep, LeadsTo, IsReached, IsWalkedThrough, IsStopped}

abbrev known : {K : Type 0} → List (Token K) → ℕ → Bool → Between K
known tokens at is_first = record { tokens = tokens; at = at; is_first = is_first }

module _ {K : Type 0} (front : Front K) where
  -- one more piece
  pub reached_next : (text left : List ℕ) (ts us : List (Token K)) (at : ℕ) (is_first next : Bool) (piece : Piece K) → IsReached front text (known ts at is_first) → left ≡ drop at text → front is_first left ≡ Ok piece → 0 < piece.size → at + piece.size ≤ length text → us ≡ ts ++ token_of (take at text) piece.what piece.size → next ≡ first_after piece.what is_first (get_or left 0 0) → IsReached front text (known us (at + piece.size) next)
  reached_next text left ts us at is_first next piece h g e s l u n =
      let step : Step K = record { before = known ts at is_first; piece = piece } in
      let same : at + 0 ≡ at = omega arith in
      let head : get_or left 0 0 ≡ get_or text at 0 = ap (λ xs. get_or xs 0 0) g ∙ get_or-drop at text 0 0 ∙ ap (λ k. get_or text k 0) same in
      let first : next ≡ first_after piece.what is_first (get_or text at 0) = n ∙ ap (first_after piece.what is_first) head in
      (step ∷ h.0, (record { found = ap (front is_first) (sym g) ∙ e; some = s; within = l }, (λ i. known (u i) (at + piece.size) (first i)), h.1))

  pub walked_through : (text : List ℕ) (ts : List (Token K)) (at : ℕ) (is_first : Bool) → IsReached front text (known ts at is_first) → at ≤ length text → length text ≤ at → IsWalkedThrough front text ts
  walked_through text ts at is_first h l m = (known ts at is_first, h, omega arith, refl)

  pub stopped : (text left : List ℕ) (ts : List (Token K)) (at : ℕ) (is_first : Bool) (p : Place) (rule : Rule) → IsReached front text (known ts at is_first) → at < length text → left ≡ drop at text → front is_first left ≡ Err rule → p ≡ place_after (take at text) → IsStopped front text (record { rule = rule; place = Some p })
  stopped text left ts at is_first p rule h l g e w = record {
    here = known ts at is_first;
    reached = h;
    inside = l;
    found = ap (front is_first) (sym g) ∙ e;
    placed = ap Some w;
  }

  -- What holds at the beginning of a text, and behind each piece where it holds before the piece, holds wherever
  -- pieces lead.
  pub kept : (Holds : Between K → Type 0) (text : List ℕ) → Holds at_start → ((step : Step K) → IsStep front text step → Holds step.before → Holds (behind_step text step)) → (steps : List (Step K)) (here : Between K) → LeadsTo front text steps here → Holds here
  kept Holds text s next [] here e = subst Holds (sym e) s
  kept Holds text s next (step ∷ earlier) here h = subst Holds (sym h.1) (next step h.0 (kept Holds text s next earlier step.before h.2))
