-- What clearing leaves of a store.
use Rattle.std.proofs.Common.{◌≡◌, ℕ, ◌+◌, ◌<◌, ◌≤◌, List, [], ◌++◌, length, map, replicate, take, drop, get_or, refl, sym, ◌∙◌, ap, ap₂, arith}
use Rattle.std.proofs.Math.ListN.{set}
use Rattle.std.proofs.lemmas.List.{append-nil, drop_all, take_all, ext_get_or, get_or-map, length-map}
use Rattle.std.proofs.lemmas.List.Edits.{map_over_more}
use Rattle.state_store.specs.declared.shapes.Shape.{Shape}
use Rattle.state_store.specs.declared.shapes.Shape.TheVariants.{Counter, Direct, Register, Meter}
use Rattle.state_store.specs.declared.cells.Cells.{Cells}
use Rattle.state_store.specs.declared.cells.Cells.TheVariants.{Counts, Numbers, Colours}
use Rattle.state_store.specs.Cells.{blank, FitsShape}
use Rattle.state_store.specs.State.{Contents, shape_at, cells_at, IsStore}
use Rattle.state_store.specs.internal.Clearing.{cleared}

-- what is cleared of a shape is blank
cleared_blank : (shape : Shape) (cells : Cells) → FitsShape shape cells → cleared cells ≡ blank shape
cleared_blank (Counter kind size) (Counts cells) fits = ap (λ (n : ℕ). Counts (replicate n (0, 0))) fits.0
cleared_blank (Direct kind size) (Counts cells) fits = ap (λ (n : ℕ). Counts (replicate n (0, 0))) fits.0
cleared_blank (Register width size) (Numbers cells) fits = ap (λ (n : ℕ). Numbers (replicate n 0)) fits.0
cleared_blank (Meter size) (Colours left) fits = refl
cleared_blank (Counter kind size) (Numbers cells) fits = absurd fits
cleared_blank (Counter kind size) (Colours left) fits = absurd fits
cleared_blank (Direct kind size) (Numbers cells) fits = absurd fits
cleared_blank (Direct kind size) (Colours left) fits = absurd fits
cleared_blank (Register width size) (Counts cells) fits = absurd fits
cleared_blank (Register width size) (Colours left) fits = absurd fits
cleared_blank (Meter size) (Counts cells) fits = absurd fits
cleared_blank (Meter size) (Numbers cells) fits = absurd fits

pub cleared_is : (store : Contents) → IsStore store → map cleared store.cells ≡ map blank store.shapes
cleared_is store is =
    let all : length (map cleared store.cells) ≡ length store.cells = length-map store.cells cleared in
    let made : length (map blank store.shapes) ≡ length store.shapes = length-map store.shapes blank in
    ext_get_or (Colours []) (map cleared store.cells) (map blank store.shapes) (all ∙ is.lengths ∙ sym made) (λ k within.
    let inside : k < length store.shapes = omega (arith, within, all, is.lengths) in
    get_or-map cleared store.cells k (Colours []) (Colours []) (omega (arith, inside, is.lengths))
    ∙ cleared_blank (shape_at store.shapes k) (cells_at store k) (is.fits k inside)
    ∙ sym (get_or-map blank store.shapes k (Meter 0) (Colours []) inside))

-- once the loop of `clear` is over
pub cleared_all : (store : Contents) (cells : List Cells) (n : ℕ) → IsStore store → length store.cells ≤ n → cells ≡ map cleared (take n store.cells) ++ drop n store.cells → cells ≡ map blank store.shapes
cleared_all store cells n is enough done =
    let none : drop n store.cells ≡ [] = drop_all n store.cells enough in
    let all : take n store.cells ≡ store.cells = take_all n store.cells enough in
    done ∙ ap₂ (λ (front back : List Cells). map cleared front ++ back) all none ∙ append-nil (map cleared store.cells) ∙ cleared_is store is

-- a turn of it
pub cleared_turn : (xs now : List Cells) (i : ℕ) (x y : Cells) → i < length xs → now ≡ map cleared (take i xs) ++ drop i xs → x ≡ get_or now i x → y ≡ cleared x → set now i y ≡ map cleared (take (i + 1) xs) ++ drop (i + 1) xs
cleared_turn xs now i x y inside so_far x_is y_is = rw y_is (map_over_more cleared xs now i x inside so_far x_is)
