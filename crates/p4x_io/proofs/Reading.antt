-- How a file is read piece by piece.
use Rattle.std.proofs.Common.{◌≡◌, ℕ, ◌+◌, ◌<◌, min, List, [], ◌++◌, length, take, drop, Option, Some, None, refl, sym, ◌∙◌, ap, subst, arith, length-append}
use Rattle.std.proofs.lemmas.List.{take_all, length-take}
use Rattle.std.proofs.Math.Seq.{take-add}
use Rattle.p4x_io.specs.Desk.{Reads}

-- the text is what was read of a file so far
abbrev pub Front : Option (List ℕ) → List ℕ → Type 0
Front None text = text ≡ []
Front (Some file) text = take (length text) file ≡ text

pub front_none : (file : Option (List ℕ)) → Front file []
front_none None = refl
front_none (Some file) = refl

pub front_more : (file : Option (List ℕ)) (text slice : List ℕ) (n : ℕ) → Front file text → Reads (Some file) (length text) n slice → Front file (text ++ take n slice)
front_more None text slice n front reads = absurd (reads.there refl)
front_more (Some file) text slice n front reads =
    let size : length (text ++ take n slice) ≡ length text + n = omega (arith, length-append text (take n slice), length-take n slice, reads.fits) in
    ap (λ (k : ℕ). take k file) size ∙ take-add (length text) n file ∙ ap (λ (l : List ℕ). l ++ take n (drop (length text) file)) front ∙ ap (λ (l : List ℕ). text ++ l) (sym (reads.octets file refl))

-- at the end, the text is the file
pub front_end : (file : Option (List ℕ)) (text slice : List ℕ) → Front file text → Reads (Some file) (length text) 0 slice → file ≡ Some text
front_end None text slice front reads = absurd (reads.there refl)
front_end (Some file) text slice front reads = ap (λ (l : List ℕ). Some l) (sym (take_all (length text) file (reads.end file refl refl)) ∙ front)

-- past the limit, the file has more octets
pub front_over : (file : Option (List ℕ)) (text : List ℕ) (limit : ℕ) → Front file text → limit < length text → (whole : List ℕ) × (file ≡ Some whole) × (limit < length whole)
front_over None text limit front over = absurd (omega (arith, ap length front))
front_over (Some file) text limit front over =
    let size : length text ≡ min (length text) (length file) = ap length (sym front) ∙ length-take (length text) file in
    (file, refl, omega arith)

pub reads_at : (told : Option (Option (List ℕ))) (place n : ℕ) (slice : List ℕ) (file : Option (List ℕ)) (place' n' : ℕ) → Reads told place n slice → told ≡ Some file → place ≡ place' → n ≡ n' → Reads (Some file) place' n' slice
reads_at told place n slice file place' n' reads is same count =
    subst (λ (t : Option (Option (List ℕ))). Reads t place' n' slice) is (subst (λ (k : ℕ). Reads told k n' slice) same (subst (λ (k : ℕ). Reads told place k slice) count reads))
