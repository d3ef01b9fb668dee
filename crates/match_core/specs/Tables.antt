-- The tables of a signature, filled with entries.
use Rattle.std.specs.Prelude.{◌^◌, ◌<◌, List, [], ◌∷◌, length, All}
use Rattle.std.specs.List.{AllZip}
use Rattle.match_core.specs.declared.signatures.KeySpec.{KeySpec}
use Rattle.match_core.specs.declared.signatures.TableSig.{TableSig}
use Rattle.match_core.specs.declared.signatures.Signature.{Signature}
use Rattle.match_core.specs.declared.entries.Entry.{Entry}
use Rattle.match_core.specs.declared.entries.TableFill.{TableFill}
use Rattle.match_core.specs.declared.entries.Entries.{Entries}
use Rattle.match_core.specs.Signatures.{AreSpecs}
use Rattle.match_core.specs.Fits.{FitsKeys}
use Rattle.match_core.specs.Best.{Filled}

-- a table with the entries that fill it
abbrev pub filled_of : TableSig → TableFill → Filled
filled_of table fill = record { specs = table.keys; entries = fill.entries }

-- each table with what fills it, in order
abbrev pub filled_tables : List TableSig → List TableFill → List Filled
filled_tables [] fills = []
filled_tables (table ∷ tables) [] = []
filled_tables (table ∷ tables) (fill ∷ fills) = filled_of table fill ∷ filled_tables tables fills

abbrev pub tables_of : Signature → Entries → List Filled
tables_of signature entries = filled_tables signature.tables entries.tables

-- what a table asks of the keys and the entries that it is built of
pub record CanBuild (specs : List KeySpec) (entries : List Entry) : Type 0 where
  pub specs_are : AreSpecs specs
  pub few : length entries < 2 ^ 32
  pub fits : All (FitsKeys specs) entries

-- each table of a signature can be built of what fills it
abbrev pub AllCanBuild : Signature → Entries → Type 0
AllCanBuild signature entries =
    AllZip (λ (table : TableSig) (fill : TableFill). CanBuild table.keys fill.entries) signature.tables entries.tables
