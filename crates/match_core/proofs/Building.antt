-- Entries that fit a well-formed signature meet every condition of a table that is built of them.
use Rattle.std.proofs.Common.{◌≡◌, ℕ, zero, suc, ◌+◌, ◌<◌, List, [], ◌∷◌, ◌++◌, length, take, get_or, All, refl, sym, ap, ◌∙◌, arith}
use Rattle.std.specs.List.{AllZip}
use Rattle.std.proofs.lemmas.List.{take_more, length-take-le}
use Rattle.std.proofs.lemmas.Slice.Zip.{AllZip-long}
use Rattle.match_core.specs.declared.signatures.KeySpec.{KeySpec}
use Rattle.match_core.specs.declared.signatures.TableSig.{TableSig}
use Rattle.match_core.specs.declared.signatures.ObjectSig.{ObjectSig}
use Rattle.match_core.specs.declared.signatures.Signature.{Signature}
use Rattle.match_core.specs.declared.entries.Entry.{Entry}
use Rattle.match_core.specs.declared.entries.TableFill.{TableFill}
use Rattle.match_core.specs.declared.entries.Entries.{Entries}
use Rattle.match_core.specs.Best.{Filled}
use Rattle.match_core.specs.Signatures.{IsTable, IsSignature}
use Rattle.match_core.specs.Fits.{FitsFill, Fits}
use Rattle.match_core.specs.Tables.{filled_of, filled_tables, CanBuild, AllCanBuild}

-- two lists of one length, item by item
pub zip_get : {X Y : Type 0} (R : X → Y → Type 0) (xs : List X) (ys : List Y) (i : ℕ) (d : X) (e : Y) → AllZip R xs ys → i < length xs → R (get_or xs i d) (get_or ys i e)
zip_get R [] ys i d e all lt = absurd (omega arith)
zip_get R (x ∷ xs) [] i d e all lt = absurd all
zip_get R (x ∷ xs) (y ∷ ys) zero d e all lt = all.0
zip_get R (x ∷ xs) (y ∷ ys) (suc i) d e all lt = zip_get R xs ys i d e all.1 (omega arith)

one_can_build : (objects : List ObjectSig) (table : TableSig) (fill : TableFill) → IsTable objects table → FitsFill table fill → CanBuild table.keys fill.entries
one_can_build objects table fill is fits = record { specs_are = is.keys; few = omega (arith, is.size, fits.size); fits = λ k f inside. (fits.entries k f inside).keys }

-- the table at each place of the signature, with the entries that fill it
pub can_build : (signature : Signature) (entries : Entries) (i : ℕ) (d : TableSig) (e : TableFill) → IsSignature signature → Fits entries signature → i < length signature.tables → CanBuild (get_or signature.tables i d).keys (get_or entries.tables i e).entries
can_build signature entries i d e is fits within =
    let table : IsTable signature.objects (get_or signature.tables i d) = is.tables i d within in
    let fill : FitsFill (get_or signature.tables i d) (get_or entries.tables i e) = zip_get FitsFill signature.tables entries.tables i d e fits.tables within in
    one_can_build signature.objects (get_or signature.tables i d) (get_or entries.tables i e) table fill

each_can_build : (objects : List ObjectSig) (tables : List TableSig) (fills : List TableFill) → All (IsTable objects) tables → AllZip FitsFill tables fills → AllZip (λ (table : TableSig) (fill : TableFill). CanBuild table.keys fill.entries) tables fills
each_can_build objects [] [] are fits = tt
each_can_build objects [] (fill ∷ fills) are fits = absurd fits
each_can_build objects (table ∷ tables) [] are fits = absurd fits
each_can_build objects (table ∷ tables) (fill ∷ fills) are fits =
    (one_can_build objects table fill (are 0 table (omega arith)) fits.0, each_can_build objects tables fills (λ k d lt. are (suc k) d (omega arith)) fits.1)

-- each table of the signature
pub all_can_build : (signature : Signature) (entries : Entries) → IsSignature signature → Fits entries signature → AllCanBuild signature entries
all_can_build signature entries is fits = each_can_build signature.objects signature.tables entries.tables is.tables fits.tables

pub as_many_fills : (signature : Signature) (entries : Entries) → Fits entries signature → length entries.tables ≡ length signature.tables
as_many_fills signature entries fits = AllZip-long FitsFill signature.tables entries.tables fits.tables

filled_push : (tables : List TableSig) (fills : List TableFill) (table : TableSig) (fill : TableFill) → length tables ≡ length fills → filled_tables (tables ++ table ∷ []) (fills ++ fill ∷ []) ≡ filled_tables tables fills ++ filled_of table fill ∷ []
filled_push [] [] table fill same = refl
filled_push [] (f ∷ fills) table fill same = absurd (omega arith)
filled_push (t ∷ tables) [] table fill same = absurd (omega arith)
filled_push (t ∷ tables) (f ∷ fills) table fill same = ap (λ (rest : List Filled). filled_of t f ∷ rest) (filled_push tables fills table fill (omega arith))

-- one more table is filled
pub filled_more : (tables : List TableSig) (fills : List TableFill) (i : ℕ) (d : TableSig) (e : TableFill) (before new : List Filled) (made : Filled) (specs : List KeySpec) (entries : List Entry) → i < length tables → i < length fills → before ≡ filled_tables (take i tables) (take i fills) → new ≡ before ++ made ∷ [] → made ≡ (let filled : Filled = record { specs = specs; entries = entries } in filled) → specs ≡ (get_or tables i d).keys → entries ≡ (get_or fills i e).entries → new ≡ filled_tables (take (i + 1) tables) (take (i + 1) fills)
filled_more tables fills i d e before new made specs entries within inside before_is new_is made_is specs_are entries_are =
    let one : made ≡ filled_of (get_or tables i d) (get_or fills i e) = made_is ∙ (ap (λ (s : List KeySpec). let filled : Filled = record { specs = s; entries = entries } in filled) specs_are ∙ ap (λ (l : List Entry). let filled : Filled = record { specs = (get_or tables i d).keys; entries = l } in filled) entries_are) in
    let pushed = filled_push (take i tables) (take i fills) (get_or tables i d) (get_or fills i e) (length-take-le i tables (omega arith) ∙ sym (length-take-le i fills (omega arith))) in
    rw (take_more tables i d within, take_more fills i e inside, pushed)
    (new_is ∙ (ap (λ (l : List Filled). l ++ made ∷ []) before_is ∙ ap (λ (m : Filled). filled_tables (take i tables) (take i fills) ++ m ∷ []) one))
