-- One signature of both programs.
use Rattle.std.proofs.Common.{◌≡◌, Bool, not, Option, Some, List, [], ◌∷◌, ◌++◌, map, refl, sym, ap, ap₂, ◌∙◌}
use Rattle.std.specs.Prelude.{filter, filter_map, flat_map}
use Rattle.std.specs.List.{cons_option}
use Rattle.match_core.specs.declared.signatures.TableSig.{TableSig}
use Rattle.match_core.specs.declared.signatures.ObjectSig.{ObjectSig}
use Rattle.match_core.specs.declared.signatures.Signature.{Signature}
use Rattle.p414_syntax.specs.declared.syntax.Decl.{Decl}
use Rattle.p414_syntax.specs.declared.syntax.Sort.TheVariants as sort
use Rattle.p414_syntax.specs.declared.tables.Table.{Table}
use Rattle.p414_syntax.specs.Names.{Name, names_in}
use Rattle.p414_sem.specs.Operations.{in_order}
use Rattle.p414_sem.specs.Controls.{signature_number}
use Rattle.p416_syntax.specs.declared.controls.Table16.{Table16}
use Rattle.p414_sem.specs.Signatures.{table_of, table_sig as table14, object_sig as object14, signature14}
use Rattle.p416_syntax.specs.declared.program.Syntax16.{Syntax16}
use Rattle.p416_syntax.specs.Tables.{table_plane, tables_of, objects_of}
use Rattle.v1_core.specs.Signatures.{Placed, placed_tables, table_with, table_names, table_number, place_among, object_names, placed_sig, object_sig as object16, signature16}
use Rattle.lower_laws_controls.specs.Listing.{Each}
use Rattle.lower_laws_controls.proofs.Listing.{in_order_all, map_same}
use Rattle.lower_laws_controls.proofs.Order.{in_order_parted}

pub record TableSame (ds : List Decl) (syntax : Syntax16) (name : Name) : Type 0 where
  pub t : Table
  pub p : Placed
  pub declared14 : table_of ds name ≡ Some t
  pub declared16 : table_with (placed_tables syntax) name ≡ Some p
  pub signature : placed_sig syntax p ≡ table14 ds t

-- the facts on names that one signature needs
pub record NamesSame (ds : List Decl) (syntax : Syntax16) : Type 0 where
  -- which tables stand in ingress; the others stand in egress, and each control has its tables in the order of P4_14
  pub in_ingress : Name → Bool
  pub tables : map table_plane (flat_map tables_of syntax.decls) ≡ filter in_ingress (names_in sort.Table ds) ++ filter (λ name. not (in_ingress name)) (names_in sort.Table ds)
  pub each_table : Each (TableSame ds syntax) (names_in sort.Table ds)
  pub objects : flat_map objects_of syntax.decls ≡ names_in sort.Object ds
  pub each_object : Each (λ name. object16 syntax name ≡ object14 ds name) (names_in sort.Object ds)

module _ (ds : List Decl) (syntax : Syntax16) (same : NamesSame ds syntax) where
  pub table_names_same : table_names syntax ≡ in_order (names_in sort.Table ds)
  table_names_same = ap in_order same.tables ∙ in_order_parted same.in_ingress (names_in sort.Table ds)

  pub object_names_same : object_names syntax ≡ in_order (names_in sort.Object ds)
  object_names_same = ap in_order same.objects

  -- a table has one number in both
  pub number_same : (t : Table) (u : Table16) → table_plane u ≡ t.name → table_number syntax u ≡ signature_number ds t
  number_same t u plane = ap₂ place_among table_names_same plane

  tables_same : (names : List Name) → Each (TableSame ds syntax) names → map (placed_sig syntax) (filter_map (table_with (placed_tables syntax)) names) ≡ map (table14 ds) (filter_map (table_of ds) names)
  tables_same [] each = refl
  tables_same (name ∷ names) each =
      let one = each.0 in
      ap (λ (o : Option Placed). map (placed_sig syntax) (cons_option o (filter_map (table_with (placed_tables syntax)) names))) one.declared16
      ∙ ap₂ (λ (x : TableSig) (xs : List TableSig). x ∷ xs) one.signature (tables_same names each.1)
      ∙ ap (λ (o : Option Table). map (table14 ds) (cons_option o (filter_map (table_of ds) names))) (sym one.declared14)

  pub signature_same : signature16 syntax ≡ signature14 ds
  unfolding signature14 signature16
  signature_same =
      let tables = ap (λ l. map (placed_sig syntax) (filter_map (table_with (placed_tables syntax)) l)) table_names_same
      ∙ tables_same (in_order (names_in sort.Table ds)) (in_order_all (TableSame ds syntax) [] (names_in sort.Table ds) tt same.each_table) in
      let objects = ap (map (object16 syntax)) object_names_same
      ∙ map_same (object16 syntax) (object14 ds) (in_order (names_in sort.Object ds)) (in_order_all (λ name. object16 syntax name ≡ object14 ds name) [] (names_in sort.Object ds) tt same.each_object) in
      ap₂ (λ (x : List TableSig) (y : List ObjectSig). let s : Signature = record { tables = x; objects = y } in s) tables objects
