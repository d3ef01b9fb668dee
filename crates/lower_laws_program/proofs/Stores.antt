-- The store that a run begins with is one of the program's objects.
use Rattle.std.proofs.Common.{◌≡◌, ℕ, zero, suc, ◌<◌, ◌^◌, List, [], ◌∷◌, length, map, All, refl, sym, ap, subst, arith}
use Rattle.std.specs.Prelude.{replicate, slice_index_or, ◌+◌}
use Rattle.std.specs.List.{AllZip}
use Rattle.std.proofs.lemmas.List.{length-replicate, get_or-replicate}
use Rattle.std.proofs.lemmas.Nat.{pow_pos}
use Rattle.state_store.specs.declared.shapes.Shape.{Shape}
use Rattle.state_store.specs.declared.shapes.Shape.TheVariants.{Counter, Direct, Register, Meter}
use Rattle.state_store.specs.declared.cells.Cells.{Cells}
use Rattle.state_store.specs.declared.cells.Cells.TheVariants.{Colours}
use Rattle.state_store.specs.declared.shapes.Kind.TheVariants.{Packets, Bytes, Both}
use Rattle.state_store.specs.Cells.{blank, IsCount, FitsShape}
use Rattle.match_core.specs.declared.signatures.ObjectSig.{ObjectSig}
use Rattle.match_core.specs.declared.signatures.Signature.{Signature}
use Rattle.match_core.specs.declared.entries.Entries.{Entries}
use Rattle.match_core.specs.Fits.{FitsColours, Fits}
use Rattle.match_core.specs.Stores.{sized, shapes_from, shapes_of, entries_counted, handed, with_colours, first_store}
use Rattle.lower_laws_base.specs.Context.{Stored}

all_same : {A : Type 0} (P : A → Type 0) (n : ℕ) (a : A) → P a → All P (replicate n a)
all_same P n a is = λ k d lt. subst P (sym (get_or-replicate n k a d (omega (arith, lt, length-replicate n a)))) is

no_count : (kind : _) → IsCount kind (0, 0)
no_count Packets = (pow_pos 64, refl)
no_count Bytes = (refl, pow_pos 64)
no_count Both = (pow_pos 64, pow_pos 64)

-- cells to which colours were handed
cells_fit : (shape : Shape) (n : ℕ) (colours : List ℕ) → FitsColours shape colours → FitsShape (sized shape n) (handed (blank (sized shape n)) colours)
cells_fit (Counter kind cells) n colours fits = (length-replicate cells (0, 0), all_same (IsCount kind) cells (0, 0) (no_count kind))
cells_fit (Direct kind cells) n colours fits = (length-replicate n (0, 0), all_same (IsCount kind) n (0, 0) (no_count kind))
cells_fit (Register width cells) n colours fits = (length-replicate cells 0, all_same (λ number. number < 2 ^ width) cells 0 (pow_pos width))
cells_fit (Meter cells) n colours fits = fits

-- as many, each of its shape
abbrev AreCells : List Shape → List Cells → Type 0
AreCells [] [] = Unit {0}
AreCells (shape ∷ shapes) (cells ∷ more) = FitsShape shape cells × AreCells shapes more
AreCells _ _ = ⊥

all_fit : (signature : Signature) (entries : Entries) (object : ℕ) (objects : List ObjectSig) (colours : List (List ℕ)) → AllZip (λ (o : ObjectSig). FitsColours o.shape) objects colours → AreCells (shapes_from signature entries object objects) (with_colours (map blank (shapes_from signature entries object objects)) colours)
all_fit signature entries object [] [] fits = tt
all_fit signature entries object [] (more ∷ colours) fits = tt
all_fit signature entries object (one ∷ objects) [] fits = absurd fits
all_fit signature entries object (one ∷ objects) (more ∷ colours) fits =
    (cells_fit one.shape (entries_counted signature.tables entries.tables object) more fits.0, all_fit signature entries (object + 1) objects colours fits.1)

are_as_many : (shapes : List Shape) (cells : List Cells) → AreCells shapes cells → length cells ≡ length shapes
are_as_many [] [] are = refl
are_as_many [] (c ∷ cells) are = absurd are
are_as_many (shape ∷ shapes) [] are = absurd are
are_as_many (shape ∷ shapes) (c ∷ cells) are = ap suc (are_as_many shapes cells are.1)

each_fits : (shapes : List Shape) (cells : List Cells) → AreCells shapes cells → (object : ℕ) → object < length shapes → FitsShape (slice_index_or shapes object (Meter 0)) (slice_index_or cells object (Colours []))
each_fits [] cells are object lt = absurd (omega (arith, lt))
each_fits (shape ∷ shapes) [] are object lt = absurd are
each_fits (shape ∷ shapes) (c ∷ cells) are zero lt = are.0
each_fits (shape ∷ shapes) (c ∷ cells) are (suc object) lt = each_fits shapes cells are.1 object (omega (arith, lt))

pub first_stored : (signature : Signature) (entries : Entries) → Fits entries signature → Stored (shapes_of signature entries) (first_store signature entries)
first_stored signature entries fits =
    let are = all_fit signature entries 0 signature.objects entries.colours fits.colours in
    record {
      shapes_are = refl;
      is_store = record {
        lengths = are_as_many (shapes_of signature entries) _ are;
        fits = λ object lt. each_fits (shapes_of signature entries) _ are object lt;
      };
    }
