-- What a file holds that was made and has grown.
use Rattle.std.proofs.Common.{◌≡◌, inl, inr, ℕ, List, [], length, take, Option, Some, None, refl, sym, ◌∙◌, ap, arith}
use Rattle.std.proofs.lemmas.List.{take_all}
use Rattle.p4x_io.specs.Desk.{put, grown}
use Rattle.p4x_io.proofs.Desks.{grown-put}
use Rattle.file_work.specs.Phases.{GrownByFront}
use Rattle.file_work.specs.Works.{IsPart}

pub part_whole : (old new : Option (Option (List ℕ))) (content : List ℕ) → new ≡ put old content → IsPart old new (Some content)
part_whole old new content is = inr (length content, is ∙ ap (put old) (sym (take_all (length content) content (omega arith))))

-- an empty file holds a front of any content
pub part_empty : (old new : Option (Option (List ℕ))) (content : List ℕ) → IsPart old new (Some []) → IsPart old new (Some content)
part_empty old new content (inl same) = inl same
part_empty old new content (inr some) = inr (0, some.1 ∙ ap (put old) (no_front some.0))
  where
    no_front : (n : ℕ) → take n [] ≡ take 0 content
    no_front n = sym (ap (λ (l : List ℕ). take n l) refl) ∙ take_all n [] (omega arith)

-- a file that was made and has grown
pub put_whole : (old mid new : Option (Option (List ℕ))) (content : List ℕ) → mid ≡ put old [] → new ≡ grown mid content → new ≡ put old content
put_whole old mid new content made now = now ∙ ap (λ t. grown t content) made ∙ grown-put old [] content

pub put_part : (old mid new : Option (Option (List ℕ))) (content : List ℕ) → mid ≡ put old [] → GrownByFront mid content new → IsPart old new (Some content)
put_part old mid new content made some = inr (some.0, put_whole old mid new (take some.0 content) made some.1)

-- a file that was told before it was made is told afterwards
pub put_told : (old new : Option (Option (List ℕ))) (content : List ℕ) → (old ≡ None → ⊥) → new ≡ put old content → new ≡ Some (Some content)
put_told None new content told is = absurd (told refl)
put_told (Some file) new content told is = is
