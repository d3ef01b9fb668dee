-- The colours that are handed to the objects of a store.
use Rattle.std.proofs.Common.{◌≡◌, ℕ, zero, suc, ◌+◌, ◌<◌, ◌≤◌, List, [], ◌∷◌, ◌++◌, length, take, set, get_or, All, refl, sym, ap, ◌∙◌, subst, arith, append_assoc, add-one}
use Rattle.std.proofs.lemmas.List.{take_more, get_or-set_same, set-set, set-get_or, append-nil}
use Rattle.std.proofs.lemmas.Slice.Zip.{AllZip-long}
use Rattle.state_store.specs.declared.shapes.Shape.{Shape}
use Rattle.state_store.specs.declared.shapes.Shape.TheVariants.{Counter, Direct, Register, Meter}
use Rattle.state_store.specs.declared.cells.Cells.{Cells}
use Rattle.state_store.specs.declared.cells.Cells.TheVariants.{Counts, Numbers, Colours}
use Rattle.state_store.specs.Cells.{given_in, IsMeter}
use Rattle.state_store.specs.State.{Contents, cells_at, with_cells, give, IsMeterAt, IsStore}
use Rattle.match_core.specs.declared.signatures.ObjectSig.{ObjectSig}
use Rattle.match_core.specs.declared.signatures.Signature.{Signature}
use Rattle.match_core.specs.declared.entries.Entries.{Entries}
use Rattle.match_core.specs.Fits.{FitsColours, Fits}
use Rattle.match_core.specs.Stores.{sized, shapes_of, handed, with_colours, entries_counted}
use Rattle.match_core.proofs.Building.{zip_get}
use Rattle.match_core.proofs.Sizing.{shape_is, shapes_count}

-- one more colour behind those that were handed
given_by : (cells : Cells) (taken : List ℕ) (colour : ℕ) → given_in (handed cells taken) colour ≡ handed cells (taken ++ colour ∷ [])
given_by (Counts cells) taken colour = refl
given_by (Numbers cells) taken colour = refl
given_by (Colours left) taken colour = ap (λ (l : List ℕ). Colours l) (append_assoc left taken (colour ∷ []))

pub given_more : (store now new : Contents) (object : ℕ) (colours : List ℕ) (i : ℕ) → i < length colours → object < length store.cells → now ≡ with_cells store object (handed (cells_at store object) (take i colours)) → new ≡ give now object (get_or colours i 0) → new ≡ with_cells store object (handed (cells_at store object) (take (i + 1) colours))
given_more store now new object colours i within inside now_is new_is =
    let x : Cells = handed (cells_at store object) (take i colours) in
    let y : Cells = given_in x (get_or colours i 0) in
    let read : cells_at (with_cells store object x) object ≡ x = get_or-set_same store.cells object x (Colours []) inside in
    let made : give (with_cells store object x) object (get_or colours i 0) ≡ with_cells (with_cells store object x) object y = ap (λ (c : Cells). with_cells (with_cells store object x) object (given_in c (get_or colours i 0))) read in
    let twice : with_cells (with_cells store object x) object y ≡ with_cells store object y = ap (λ (cells : List Cells). let made : Contents = record { shapes = store.shapes; cells = cells } in made) (set-set store.cells object x y) in
    let more : y ≡ handed (cells_at store object) (take (i + 1) colours) = given_by (cells_at store object) (take i colours) (get_or colours i 0) ∙ ap (handed (cells_at store object)) (sym (take_more colours i 0 within)) in
    new_is ∙ (ap (λ (s : Contents). give s object (get_or colours i 0)) now_is ∙ (made ∙ (twice ∙ ap (λ (c : Cells). with_cells store object c) more)))

handed_none : (cells : Cells) → handed cells [] ≡ cells
handed_none (Counts cells) = refl
handed_none (Numbers cells) = refl
handed_none (Colours left) = ap (λ (l : List ℕ). Colours l) (append-nil left)

pub given_none : (store : Contents) (object : ℕ) → store ≡ with_cells store object (handed (cells_at store object) [])
given_none store object =
    ap (λ (cells : List Cells). let made : Contents = record { shapes = store.shapes; cells = cells } in made)
    (sym (ap (set store.cells object) (handed_none (cells_at store object)) ∙ set-get_or store.cells object (Colours [])))

handed_more : (cells : List Cells) (colours : List (List ℕ)) (i : ℕ) (d : Cells) (more : List ℕ) → i < length colours → more ≡ get_or colours i more → set (with_colours cells (take i colours)) i (handed (get_or (with_colours cells (take i colours)) i d) more) ≡ with_colours cells (take (suc i) colours)
handed_more cells [] i d more within is = absurd (omega arith)
handed_more [] (c ∷ colours) i d more within is = refl
handed_more (x ∷ cells) (c ∷ colours) zero d more within is = rw is (none_left cells x (handed x c))
  where
    none_left : (rest : List Cells) (one two : Cells) → two ∷ rest ≡ two ∷ with_colours rest []
    none_left [] one two = refl
    none_left (r ∷ rest) one two = refl
handed_more (x ∷ cells) (c ∷ colours) (suc i) d more within is = ap (λ (rest : List Cells). handed x c ∷ rest) (handed_more cells colours i d more (omega arith) is)

pub cells_more : (store new : Contents) (cells : List Cells) (colours : List (List ℕ)) (i : ℕ) (more : List ℕ) → i < length colours → more ≡ get_or colours i more → store.cells ≡ with_colours cells (take i colours) → new ≡ with_cells store i (handed (cells_at store i) more) → new.cells ≡ with_colours cells (take (i + 1) colours)
cells_more store new cells colours i more within is cells_is new_is =
    rw add-one
    (ap (λ (s : Contents). s.cells) new_is
    ∙ (ap (λ (l : List Cells). set l i (handed (get_or l i (Colours [])) more)) cells_is ∙ handed_more cells colours i (Colours []) more within is))

-- ---- what may be handed
pub as_many_colours : (signature : Signature) (entries : Entries) → Fits entries signature → length entries.colours ≡ length signature.objects
as_many_colours signature entries fits = AllZip-long (λ (object : ObjectSig). FitsColours object.shape) signature.objects entries.colours fits.colours

small_by : (shape : Shape) (colours : List ℕ) → FitsColours shape colours → All (λ colour. colour ≤ 2) colours
small_by (Counter kind cells) colours fits = rw fits (λ k d lt. absurd (omega arith))
small_by (Direct kind cells) colours fits = rw fits (λ k d lt. absurd (omega arith))
small_by (Register width cells) colours fits = rw fits (λ k d lt. absurd (omega arith))
small_by (Meter cells) colours fits = fits

meter_by : (shape : Shape) (entries : ℕ) (colours : List ℕ) → FitsColours shape colours → 0 < length colours → IsMeter (sized shape entries)
meter_by (Counter kind cells) entries colours fits some = absurd (let none : length colours ≡ 0 = ap (λ (l : List ℕ). length l) fits in omega arith)
meter_by (Direct kind cells) entries colours fits some = absurd (let none : length colours ≡ 0 = ap (λ (l : List ℕ). length l) fits in omega arith)
meter_by (Register width cells) entries colours fits some = absurd (let none : length colours ≡ 0 = ap (λ (l : List ℕ). length l) fits in omega arith)
meter_by (Meter cells) entries colours fits some = tt

fits_at : (signature : Signature) (entries : Entries) (i : ℕ) (d : ObjectSig) (colours : List ℕ) → Fits entries signature → i < length signature.objects → colours ≡ get_or entries.colours i colours → FitsColours (get_or signature.objects i d).shape colours
fits_at signature entries i d colours fits within is =
    subst (λ (c : List ℕ). FitsColours (get_or signature.objects i d).shape c) (sym is)
    (zip_get (λ (object : ObjectSig). FitsColours object.shape) signature.objects entries.colours i d colours fits.colours within)

pub small_colours : (signature : Signature) (entries : Entries) (i : ℕ) (colours : List ℕ) → Fits entries signature → i < length signature.objects → colours ≡ get_or entries.colours i colours → All (λ colour. colour ≤ 2) colours
small_colours signature entries i colours fits within is =
    let d : ObjectSig = record { name = []; shape = Meter 0 } in
    small_by (get_or signature.objects i d).shape colours (fits_at signature entries i d colours fits within is)

pub is_meter : (signature : Signature) (entries : Entries) (i : ℕ) (colours : List ℕ) (shapes : List Shape) → Fits entries signature → i < length signature.objects → colours ≡ get_or entries.colours i colours → shapes ≡ shapes_of signature entries → 0 < length colours → IsMeterAt shapes i
is_meter signature entries i colours shapes fits within is shapes_are some =
    let d : ObjectSig = record { name = []; shape = Meter 0 } in
    let many = shapes_count signature entries in
    subst (λ (s : List Shape). IsMeterAt s i) (sym shapes_are)
    (record {
      within = omega (arith, many);
      meter = rw (shape_is signature entries i d (Meter 0) within)
          (meter_by (get_or signature.objects i d).shape (entries_counted signature.tables entries.tables (0 + i)) colours (fits_at signature entries i d colours fits within is) some);
    })

pub cells_within : (signature : Signature) (entries : Entries) (store : Contents) (i : ℕ) → IsStore store → store.shapes ≡ shapes_of signature entries → i < length signature.objects → i < length store.cells
cells_within signature entries store i is shapes_are within =
    let many = shapes_count signature entries in
    let same : length store.shapes ≡ length (shapes_of signature entries) = ap (λ (l : List Shape). length l) shapes_are in
    omega (arith, is.lengths, many, same)
