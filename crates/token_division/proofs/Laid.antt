-- How the tokens of the part of a text that is divided lie in it.
use Rattle.std.proofs.Common.{◌≡◌, ℕ, ◌+◌, ◌-◌, ◌<◌, ◌≤◌, Bool, List, [], ◌∷◌, ◌++◌, length, get_or, take, drop, refl, sym, ap, ◌∙◌, subst, arith, append-nil, Ok}
use Rattle.std.specs.Prelude.{All}
use Rattle.std.proofs.lemmas.List.{length-take-le}
use Rattle.std.proofs.lemmas.List.Elements.{All-push}
use Rattle.std.proofs.lemmas.List.Quantifiers.{all_pairs_push}
use Rattle.token_division.specs.declared.division.Token.{Token}
use Rattle.token_division.specs.declared.division.What.{What}
use Rattle.token_division.specs.declared.division.What.TheVariants as what
use Rattle.token_division.specs.Division.{Front, token_of, place_after}
use Rattle.token_division.specs.Layout.{IsLaidOut, IsBefore, IsPieceOf}
use Rattle.token_division.proofs.Places.{before_in}

module _ {K : Type 0} (front : Front K) where
  pub record Laid (text : List ℕ) (ts : List (Token K)) (at : ℕ) : Type 0 where
    pub laid_out : IsLaidOut text ts
    pub up_to : All (λ token. token.to ≤ at) ts
    pub pieces : All (IsPieceOf front text) ts

  pub nothing_laid : (text : List ℕ) → Laid text [] 0
  nothing_laid text = record {
    laid_out = record { inside = λ k d l. absurd (omega arith); apart = λ i j d l m. absurd (omega arith); placed = λ k d l. absurd (omega arith); rising = λ i j d l m. absurd (omega arith) };
    up_to = λ k d l. absurd (omega arith);
    pieces = λ k d l. absurd (omega arith);
  }

  further : (text : List ℕ) (ts : List (Token K)) (at more : ℕ) → Laid text ts at → Laid text ts (at + more)
  further text ts at more h = record { laid_out = h.laid_out; up_to = λ k d l. omega (arith, h.up_to k d l); pieces = h.pieces }

  one_more : (text : List ℕ) (ts : List (Token K)) (at : ℕ) (token : Token K) → Laid text ts at → token.from ≡ at → at < token.to → token.to ≤ length text → token.place ≡ place_after (take at text) → IsPieceOf front text token → Laid text (ts ++ token ∷ []) token.to
  one_more text ts at token h f l m p w = record {
    laid_out = record {
      inside = All-push (λ t. (t.from < t.to) × (t.to ≤ length text)) ts token h.laid_out.inside (omega arith, m);
      apart = all_pairs_push (λ t u. t.to ≤ u.from) ts token h.laid_out.apart (λ k d b. omega (arith, h.up_to k d b));
      placed = All-push (λ t. t.place ≡ place_after (take t.from text)) ts token h.laid_out.placed (p ∙ ap (λ n. place_after (take n text)) (sym f));
      rising = all_pairs_push (λ t u. IsBefore t.place u.place) ts token h.laid_out.rising (λ k d b.
          subst (λ q. IsBefore q token.place) (sym (h.laid_out.placed k d b)) (subst (λ q. IsBefore (place_after (take (get_or ts k d).from text)) q) (sym p)
          (before_in text (get_or ts k d).from at (omega (arith, h.up_to k d b, (h.laid_out.inside k d b).0)) (omega arith))));
    };
    up_to = All-push (λ t. t.to ≤ token.to) ts token (λ k d b. omega (arith, h.up_to k d b)) (omega arith);
    pieces = All-push (IsPieceOf front text) ts token h.pieces w;
  }

  pub on_piece_laid : (text left : List ℕ) (ts us : List (Token K)) (at : ℕ) (is_first : Bool) (w : What K) (size : ℕ) → Laid text ts at → left ≡ drop at text → front is_first left ≡ Ok (record { what = w; size = size }) → 0 < size → at + size ≤ length text → us ≡ ts ++ token_of (take at text) w size → Laid text us (at + size)
  on_piece_laid text left ts us at is_first what.Blank size h g e s l u = subst (λ vs. Laid text vs (at + size)) (sym (u ∙ append-nil ts)) (further text ts at size h)
  on_piece_laid text left ts us at is_first what.Skipped size h g e s l u = subst (λ vs. Laid text vs (at + size)) (sym (u ∙ append-nil ts)) (further text ts at size h)
  on_piece_laid text left ts us at is_first (what.Token kind) size h g e s l u =
      let n = length-take-le at text (omega arith) in
      let token : Token K = record { kind = kind; «from» = length (take at text); to = length (take at text) + size; place = place_after (take at text) } in
      let found : front is_first (drop (length (take at text)) text) ≡ Ok (record { what = what.Token kind; size = (length (take at text) + size) - length (take at text) }) =
      ap (λ k. front is_first (drop k text)) n ∙ ap (front is_first) (sym g) ∙ e ∙ ap (λ k. Ok (record { what = what.Token kind; size = k })) (omega arith) in
      let m : token.to ≡ at + size = omega (arith, n) in
      subst (λ k. Laid text us k) m (subst (λ vs. Laid text vs token.to) (sym u) (one_more text ts at token h n (omega (arith, n)) (omega (arith, n)) refl (is_first, found)))
