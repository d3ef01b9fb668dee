-- How calls of a desk and a sink follow one another.
use Rattle.std.proofs.Common.{◌≡◌, ℕ, zero, suc, min, ◌+◌, ◌≤◌, length-drop, List, [], ◌∷◌, ◌++◌, length, take, drop, Option, Some, None, refl, sym, ◌∙◌, ap, arith, append_assoc}
use Rattle.std.proofs.lemmas.List.{append-nil, take_all, take-take, length-take}
use Rattle.std.proofs.Math.Seq.{take-add}
use Rattle.p4x_io.specs.Desk.{DeskView, Rose, Moves, NoneIs, put, grown, said}

pub moves_none : (outs : List (List ℕ)) (d : DeskView) → Moves outs d d
moves_none outs d = record { reads = λ name. omega arith; writes = λ name. omega arith; others = λ name no. refl }

pub moves_on : (outs : List (List ℕ)) (a b c : DeskView) → Moves outs a b → Moves outs b c → Moves outs a c
moves_on outs a b c first second = record {
  reads = λ name. omega (arith, first.reads name, second.reads name);
  writes = λ name. omega (arith, first.writes name, second.writes name);
  others = λ name no. second.others name no ∙ first.others name no;
}

-- fewer names
pub moves_within : (fewer outs : List (List ℕ)) (a b : DeskView) → ((name : List ℕ) → NoneIs name outs → NoneIs name fewer) → Moves fewer a b → Moves outs a b
moves_within fewer outs a b within moves = record { reads = moves.reads; writes = moves.writes; others = λ name no. moves.others name (within name no) }

pub rose_on : (a b c : ℕ) → Rose a b → b ≤ c → Rose a c
rose_on a b c rose later = omega arith

pub rose_since : (a b c : ℕ) → a ≤ b → Rose b c → Rose a c
rose_since a b c later rose = omega arith

pub grown_none : (t : Option (Option (List ℕ))) → grown t [] ≡ t
grown_none None = refl
grown_none (Some None) = refl
grown_none (Some (Some text)) = ap (λ (l : List ℕ). Some (Some l)) (append-nil text)

pub grown-grown : (t : Option (Option (List ℕ))) (a b : List ℕ) → grown (grown t a) b ≡ grown t (a ++ b)
grown-grown None a b = refl
grown-grown (Some None) a b = refl
grown-grown (Some (Some text)) a b = ap (λ (l : List ℕ). Some (Some l)) (append_assoc text a b)

pub grown-put : (t : Option (Option (List ℕ))) (a b : List ℕ) → grown (put t a) b ≡ put t (a ++ b)
grown-put None a b = refl
grown-put (Some file) a b = refl

pub grown_there : (t : Option (Option (List ℕ))) (a : List ℕ) → grown t a ≡ Some None → t ≡ Some None
grown_there None a is = absurd (cc)
grown_there (Some None) a is = refl
grown_there (Some (Some text)) a is = absurd (cc)

pub put_there : (t : Option (Option (List ℕ))) (a : List ℕ) → put t a ≡ Some None → ⊥
put_there None a is = cc
put_there (Some file) a is = cc

pub said_none : (p : Option (List ℕ)) → said p [] ≡ p
said_none None = refl
said_none (Some text) = ap (λ (l : List ℕ). Some l) (append-nil text)

pub said-said : (p : Option (List ℕ)) (a b : List ℕ) → said (said p a) b ≡ said p (a ++ b)
said-said None a b = refl
said-said (Some text) a b = ap (λ (l : List ℕ). Some l) (append_assoc text a b)

-- what is as long as a list and no longer than `most`
pub take_most : (most : ℕ) (rest : List ℕ) (count : ℕ) → count ≡ min (length rest) most → take count rest ≡ take most rest
take_most most [] count is = take_all count [] (omega arith) ∙ sym (take_all most [] (omega arith))
take_most zero (x ∷ rest) count is =
    let none : count ≡ 0 = omega arith in
    ap (λ (k : ℕ). take k (x ∷ rest)) none
take_most (suc most) (x ∷ rest) zero is = absurd (omega arith)
take_most (suc most) (x ∷ rest) (suc count) is = ap (λ (l : List ℕ). x ∷ l) (take_most most rest count (omega arith))

-- the front of a piece is that of what the piece was cut from
pub front_of : (piece rest : List ℕ) (most n : ℕ) → piece ≡ take most rest → n ≤ length piece → take n piece ≡ take n rest
front_of piece rest most n is fits =
    let within : n ≤ most = omega (arith, ap length is, length-take most rest) in
    ap (take n) is ∙ take-take n most rest within

-- the place after a front of a piece
pub inside_after : (text piece : List ℕ) (at n most : ℕ) → at ≤ length text → piece ≡ take most (drop at text) → n ≤ length piece → at + n ≤ length text
inside_after text piece at n most bound is fits = omega (arith, ap length is, length-take most (drop at text), length-drop at text)

-- a text that is appended piece by piece, from `at` on
pub grown_more : (t u v : Option (Option (List ℕ))) (text piece : List ℕ) (at n most : ℕ) → u ≡ grown t (take at text) → piece ≡ take most (drop at text) → n ≤ length piece → v ≡ grown u (take n piece) → v ≡ grown t (take (at + n) text)
grown_more t u v text piece at n most so_far is fits now =
    now ∙ ap (λ (w : Option (Option (List ℕ))). grown w (take n piece)) so_far ∙ grown-grown t (take at text) (take n piece)
    ∙ ap (λ (l : List ℕ). grown t (take at text ++ l)) (front_of piece (drop at text) most n is fits) ∙ ap (grown t) (sym (take-add at n text))

-- a text that is printed piece by piece
pub said_more : (p q r : Option (List ℕ)) (text piece : List ℕ) (at n most : ℕ) → q ≡ said p (take at text) → piece ≡ take most (drop at text) → n ≤ length piece → r ≡ said q (take n piece) → r ≡ said p (take (at + n) text)
said_more p q r text piece at n most so_far is fits now =
    now ∙ ap (λ (w : Option (List ℕ)). said w (take n piece)) so_far ∙ said-said p (take at text) (take n piece)
    ∙ ap (λ (l : List ℕ). said p (take at text ++ l)) (front_of piece (drop at text) most n is fits) ∙ ap (said p) (sym (take-add at n text))
