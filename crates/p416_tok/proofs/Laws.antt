-- The laws of a text's tokens and of its refusal, along its pieces.
use Rattle.std.proofs.Common.{◌≡◌, ℕ, ◌+◌, ◌-◌, ◌<◌, ◌≤◌, Bool, true, List, [], ◌∷◌, ◌++◌, length, get_or, take, drop, refl, sym, ap, ◌∙◌, subst, arith, append-nil, Result, Ok, Err}
use Rattle.std.specs.Prelude.{IfOk}
use Rattle.std.proofs.lemmas.List.{length-take-le, length-drop, get_or-drop, drop-drop}
use Rattle.p4x_fault.specs.declared.Fault.{Fault}
use Rattle.token_division.specs.declared.division.Token.{Token}
use Rattle.token_division.specs.declared.division.What.{What}
use Rattle.token_division.specs.declared.division.What.TheVariants as what
use Rattle.token_division.specs.declared.division.Lex.{Lex}
use Rattle.token_division.specs.declared.division.Lex.TheVariants.{Memory, Refused}
use Rattle.token_division.specs.Division.{token_of, first_after, place_after}
use Rattle.token_division.specs.Trivia.{span, HasTriviaBetween, IsTokensAndTrivia}
use Rattle.token_division.specs.Walk.{Between, Step, at_start, behind_step, IsStep, IsReached, IsWalk, IsStopped}
use Rattle.token_division.proofs.Places.{take-add}
use Rattle.token_division.proofs.Walks.{kept}
use Rattle.token_division.proofs.Gaps.{more_trivia, more_tokens}
use Rattle.token_division.proofs.LineStarts.{opens}
use Rattle.p416_tok.specs.declared.kind.TokenKind16.{TokenKind16}
use Rattle.p416_tok.specs.Front.{front}
use Rattle.p416_tok.specs.Trivia.{IsTrivia}
use Rattle.p416_tok.specs.Refusals.{IsRefusal, IsRefusedRightly}
use Rattle.p416_tok.proofs.Between.{IsKept, kept_by}
use Rattle.p416_tok.proofs.Broken.{broken_by}

-- what holds between two pieces
record Holds (text : List ℕ) (here : Between TokenKind16) : Type 0 where
  pub apart : HasTriviaBetween IsTrivia text 0 here.tokens here.at
  pub first : here.is_first ≡ opens (take here.at text)

starts : (text : List ℕ) → Holds text at_start
starts text = record { apart = ([], refl); first = refl }

piece_apart : (text : List ℕ) (ts : List (Token TokenKind16)) (at : ℕ) (is_first : Bool) (w : What TokenKind16) (size : ℕ) → HasTriviaBetween IsTrivia text 0 ts at → at ≤ length text → 0 < size → IsKept (take at text) (drop at text) is_first w size → HasTriviaBetween IsTrivia text 0 (ts ++ token_of (take at text) w size) (at + size)
piece_apart text ts at is_first w size h l s k = by w k
  where
    behind : drop size (drop at text) ≡ drop (at + size) text
    behind = drop-drop size at text

    piece : take size (drop at text) ≡ span at (at + size) text
    piece = (let n : size ≡ (at + size) - at = omega arith in ap (λ m. take m (drop at text)) n)

    trivial : IsTrivia (take at text) (take size (drop at text)) (drop size (drop at text)) → HasTriviaBetween IsTrivia text 0 (ts ++ []) (at + size)
    trivial t =
        subst (λ us. HasTriviaBetween IsTrivia text 0 us (at + size)) (sym (append-nil ts))
        (more_trivia IsTrivia text ts 0 at (at + size) h (omega arith) (subst (λ xs. IsTrivia (take at text) xs (drop (at + size) text)) piece (subst (λ xs. IsTrivia (take at text) (take size (drop at text)) xs) behind t)))

    by : (w : What TokenKind16) → IsKept (take at text) (drop at text) is_first w size → HasTriviaBetween IsTrivia text 0 (ts ++ token_of (take at text) w size) (at + size)
    by what.Blank k = trivial k.trivia
    by what.Skipped k = trivial k.trivia
    by (what.Token kind) k =
        let n : length (take at text) ≡ at = length-take-le at text l in
        let token : Token TokenKind16 = record { kind = kind; «from» = length (take at text); to = length (take at text) + size; place = place_after (take at text) } in
        let end : token.to ≡ at + size = ap (λ m. m + size) n in
        subst (λ m. HasTriviaBetween IsTrivia text 0 (ts ++ token ∷ []) m) end (more_tokens IsTrivia text ts 0 at token h n)

goes_on : (text : List ℕ) (step : Step TokenKind16) → IsStep front text step → Holds text step.before → Holds text (behind_step text step)
goes_on text step s h =
    let at = step.before.at in
    let left = drop at text in
    let size = step.piece.size in
    let inside : at ≤ length text = omega (arith, s.within) in
    let room : size ≤ length left = omega (arith, s.within, length-drop at text) in
    let k : IsKept (take at text) left step.before.is_first step.piece.what size = kept_by (take at text) left step.before.is_first step.piece.what size h.first s.found s.some room in
    let same : at + 0 ≡ at = omega arith in
    let head : get_or text at 0 ≡ get_or left 0 0 = sym (get_or-drop at text 0 0 ∙ ap (λ m. get_or text m 0) same) in
    record {
      apart = piece_apart text step.before.tokens at step.before.is_first step.piece.what size h.apart inside s.some k;
      first = ap (first_after step.piece.what step.before.is_first) head ∙ k.next ∙ ap opens (sym (take-add at size text));
    }

reached : (text : List ℕ) (here : Between TokenKind16) → IsReached front text here → Holds text here
reached text here r = kept front (Holds text) text (starts text) (goes_on text) r.0 here r.1

-- the tokens of a text
pub tokens_and_trivia : (text : List ℕ) (r : Result (List (Token TokenKind16)) Lex) → IsWalk front text r → IfOk r (IsTokensAndTrivia IsTrivia text)
tokens_and_trivia text (Ok tokens) w =
    let h = reached text w.0 w.1 in
    subst (λ us. HasTriviaBetween IsTrivia text 0 us (length text)) w.3 (subst (λ n. HasTriviaBetween IsTrivia text 0 w.0.tokens n) w.2 h.apart)
tokens_and_trivia text (Err Memory) w = tt
tokens_and_trivia text (Err (Refused fault)) w = tt

-- its refusal
refusal : (text : List ℕ) (fault : Fault) → IsStopped front text fault → IsRefusal text fault
refusal text fault w =
    let h = reached text w.here w.reached in
    record {
      at = w.here.at;
      inside = w.inside;
      placed = w.placed;
      tokens = w.here.tokens;
      so_far = h.apart;
      broken = broken_by (take w.here.at text) (drop w.here.at text) w.here.is_first fault.rule h.first w.found;
    }

pub refused_rightly : (text : List ℕ) (r : Result (List (Token TokenKind16)) Lex) → IsWalk front text r → IsRefusedRightly text r
refused_rightly text (Ok tokens) w = tt
refused_rightly text (Err Memory) w = tt
refused_rightly text (Err (Refused fault)) w = refusal text fault w
