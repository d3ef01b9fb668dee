-- The text that is written keeps the rules on all its declarations together: names, order, names for the control plane, cells.
use Rattle.std.proofs.Common.{◌≡◌, ℕ, Bool, true, false, not, Option, Some, None, List, [], ◌∷◌, ◌++◌, map, refl, ap, ◌∙◌}
use Rattle.std.specs.Prelude.{flat_map, filter, filter_map, unwrap_or}
use Rattle.std.proofs.lemmas.List.Concat.{flat_map-cons}
use Rattle.p414_syntax.specs.declared.syntax.Decl.{Decl}
use Rattle.p414_syntax.specs.declared.syntax.Rule14.{Rule14}
use Rattle.p414_syntax.specs.declared.syntax.Rule14.TheVariants as rule
use Rattle.p414_syntax.specs.declared.syntax.Sort.TheVariants as sort
use Rattle.p414_syntax.specs.declared.tables.Table.{Table}
use Rattle.p414_syntax.specs.Names.{Name, names_in}
use Rattle.p414_sem.specs.Expanded.{Expanded}
use Rattle.p414_sem.specs.Signatures.{table_of}
use Rattle.p416_syntax.specs.declared.controls.Local.{Local}
use Rattle.p416_syntax.specs.declared.controls.Local.TheVariants as local
use Rattle.p416_syntax.specs.declared.controls.Table16.{Table16}
use Rattle.p416_syntax.specs.Declarations.{table_in}
use Rattle.p416_syntax.specs.Tables.{table_plane}
use Rattle.p416_syntax.specs.Totals.{local_cells, cells_in}
use Rattle.v1_core.specs.Frames.{of_headers, of_metadata, of_standard}
use Rattle.lower_laws_names.specs.Copies.{Copy}
use Rattle.lower_laws_states.proofs.Filling.{named_so}
use Rattle.lower_laws_program.specs.Program.{Parts, syntax_of, blocks_of, root_struct}
use Rattle.lower_laws_program.specs.Controls.{old_var, old_locals}
use Rattle.lower_laws_declared.specs.Controls.{TablesAre}
use Rattle.lower_laws_declared.specs.Rules.{TextKeeps}
use Rattle.lower_laws_declared.proofs.Tables.{old_tables}
use Rattle.lower_laws_declared.proofs.Keeps.{text_keeps}
use Rattle.lower_laws_translated.specs.Given.{IsGiven}
use Rattle.lower_laws_translated.specs.Translated.{no_table, is_of_egress, stands_in, tables_in, copies_in, table_written, action_written, rule_in, locals_in, translated}
use Rattle.lower_laws_translated.proofs.Parts.{parts_are}

filter_same : (f g : Name → Bool) → ((n : Name) → f n ≡ g n) → (names : List Name) → filter f names ≡ filter g names
filter_same f g same [] = refl
filter_same f g same (n ∷ names) = rw (same n, filter_same f g same names) refl

module _ (ds : List Decl) (x : Expanded) (under : Rule14) where
  abbrev p : Parts
  p = translated ds x under

  abbrev own : List Copy → List Name → List Local
  own cs ns = map (λ (c : Copy). local.Action (action_written ds x under c)) cs ++ map (λ (n : Name). local.Table (table_written ds x n)) ns

  planes : (n : Name) → table_plane (table_written ds x n) ≡ n
  planes n = by (table_of ds n) refl where
    by : (o : Option Table) → table_of ds n ≡ o → (unwrap_or o (no_table n)).name ≡ n
    by None e = refl
    by (Some t) e = named_so ds n t e

  own_tables : (cs : List Copy) (ns : List Name) → filter_map table_in (own cs ns) ≡ map (table_written ds x) ns
  own_tables (c ∷ cs) ns = own_tables cs ns
  own_tables [] (n ∷ ns) = ap (λ (l : List Table16). table_written ds x n ∷ l) (own_tables [] ns)
  own_tables [] [] = refl

  back : (n : Name) → stands_in ds x true n ≡ not (stands_in ds x false n)
  back n = by (is_of_egress ds x n) where
    by : (b : Bool) → b ≡ not (not b)
    by true = refl
    by false = refl

  pub tables_are : TablesAre ds (stands_in ds x false) (table_written ds x) p
  tables_are = record {
    planes = planes;
    verify = refl;
    ingress = old_tables (rule_in ds x under false) (locals_in ds x under false) ∙ own_tables (copies_in ds x false) (tables_in ds x false);
    egress =
        old_tables (rule_in ds x under true) (locals_in ds x under true) ∙ own_tables (copies_in ds x true) (tables_in ds x true)
        ∙ ap (map (table_written ds x)) (filter_same (stands_in ds x true) (λ (n : Name). not (stands_in ds x false n)) back (names_in sort.Table ds));
    compute = refl;
    deparser = refl;
  }

  -- no block declares an object
  own_cells : (cs : List Copy) (ns : List Name) → flat_map local_cells (own cs ns) ≡ []
  own_cells (c ∷ cs) ns = flat_map-cons local_cells (local.Action (action_written ds x under c)) (own cs ns) ∙ own_cells cs ns
  own_cells [] (n ∷ ns) = flat_map-cons local_cells (local.Table (table_written ds x n)) (own [] ns) ∙ own_cells [] ns
  own_cells [] [] = refl

  old_cells : (r : Rule14) (ls : List Local) → flat_map local_cells ls ≡ [] → flat_map local_cells (old_locals r ++ ls) ≡ []
  old_cells rule.Sequential ls e = e
  old_cells rule.Parallel ls e =
      flat_map-cons local_cells (old_var of_headers) (old_var of_metadata ∷ old_var of_standard ∷ ls)
      ∙ flat_map-cons local_cells (old_var of_metadata) (old_var of_standard ∷ ls) ∙ flat_map-cons local_cells (old_var of_standard) ls ∙ e

  pipeline_cells : (e : Bool) → flat_map local_cells (old_locals (rule_in ds x under e) ++ locals_in ds x under e) ≡ []
  pipeline_cells e = old_cells (rule_in ds x under e) (locals_in ds x under e) (own_cells (copies_in ds x e) (tables_in ds x e))

  no_cells : flat_map cells_in (blocks_of p) ≡ []
  no_cells = by (flat_map local_cells p.ingress.locals) (flat_map local_cells p.egress.locals) (pipeline_cells false) (pipeline_cells true) where
    by : (a b : List ℕ) → a ≡ [] → b ≡ [] → [] ++ ([] ++ (a ++ (b ++ ([] ++ ([] ++ []))))) ≡ []
    by a b e f = rw (e, f) refl

  pub text : IsGiven ds x → TextKeeps (syntax_of p) (root_struct of_headers) (root_struct of_metadata)
  text given = text_keeps ds given.none given.short x given.expanded p (parts_are ds x under) refl no_cells (stands_in ds x false) (table_written ds x) tables_are
