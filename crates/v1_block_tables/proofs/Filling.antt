-- Tables and what fills them.
use Rattle.std.proofs.Common.{◌≡◌, ℕ, zero, suc, List, [], ◌∷◌, slice_get, slice_index_or, Option, Some, None, refl, sym, ap, ◌∙◌}
use Rattle.std.specs.List.{AllZip}
use Rattle.match_core.specs.declared.signatures.TableSig.{TableSig}
use Rattle.match_core.specs.declared.signatures.Signature.{Signature}
use Rattle.match_core.specs.declared.entries.Entry.{Entry}
use Rattle.match_core.specs.declared.entries.DefaultCall.{DefaultCall}
use Rattle.match_core.specs.declared.entries.TableFill.{TableFill}
use Rattle.match_core.specs.declared.entries.Entries.{Entries}
use Rattle.match_core.specs.Best.{Filled, best}
use Rattle.match_core.specs.Fits.{Fits, FitsFill}
use Rattle.match_core.specs.Tables.{filled_tables, tables_of}
use Rattle.v1_ready_blocks.specs.Tables.{no_fill, no_table}
use Rattle.v1_block_tables.specs.Alike.{AreAlike}
use Rattle.v1_block_tables.proofs.Looking.{own_none, own_some}

entries_of : (sigs : List TableSig) (fills : List TableFill) → AllZip FitsFill sigs fills → (n : ℕ) → (slice_index_or fills n no_fill).entries ≡ (slice_index_or (filled_tables sigs fills) n no_table).entries
entries_of [] [] fit n = refl
entries_of [] (fill ∷ fills) fit n = absurd fit
entries_of (table ∷ sigs) [] fit n = absurd fit
entries_of (table ∷ sigs) (fill ∷ fills) fit zero = refl
entries_of (table ∷ sigs) (fill ∷ fills) fit (suc n) = entries_of sigs fills fit.1 n

pub are_alike : (signature : Signature) (entries : Entries) (tables : List Filled) → Fits entries signature → tables ≡ tables_of signature entries → AreAlike tables entries.tables
are_alike signature entries tables fits is = record {
  entries = λ n.
      entries_of signature.tables entries.tables fits.tables n
      ∙ ap (λ (l : List Filled). (slice_index_or l n no_table).entries) (sym is);
}

module _ (tables : List Filled) (n : ℕ) (key : List ℕ) where
  pub table_at : (table : Filled) (entry : Option ℕ) → Some table ≡ slice_get tables n → entry ≡ best table key → entry ≡ best (slice_index_or tables n no_table) key
  table_at table entry found is = is ∙ ap (λ (t : Filled). best t key) (sym (own_some tables n table no_table found))

  pub no_table_at : None ≡ slice_get tables n → None ≡ best (slice_index_or tables n no_table) key
  no_table_at none = ap (λ (t : Filled). best t key) (sym (own_none tables n no_table none))

module _ (tables : List Filled) (fills : List TableFill) (n : ℕ) (alike : AreAlike tables fills) where
  pub entries_at : (fill : TableFill) (entries : List Entry) → Some fill ≡ slice_get fills n → entries ≡ fill.entries → entries ≡ (slice_index_or tables n no_table).entries
  entries_at fill entries found is =
      is ∙ ap (λ (f : TableFill). f.entries) (sym (own_some fills n fill no_fill found)) ∙ alike.entries n

  pub no_entries_at : None ≡ slice_get fills n → [] ≡ (slice_index_or tables n no_table).entries
  no_entries_at none = ap (λ (f : TableFill). f.entries) (sym (own_none fills n no_fill none)) ∙ alike.entries n

module _ (fills : List TableFill) (n : ℕ) where
  pub default_at : (fill : TableFill) (default : Option DefaultCall) → Some fill ≡ slice_get fills n → default ≡ fill.default → default ≡ (slice_index_or fills n no_fill).default
  default_at fill default found is = is ∙ ap (λ (f : TableFill). f.default) (sym (own_some fills n fill no_fill found))

  pub no_default_at : None ≡ slice_get fills n → None ≡ (slice_index_or fills n no_fill).default
  no_default_at none = ap (λ (f : TableFill). f.default) (sym (own_none fills n no_fill none))
