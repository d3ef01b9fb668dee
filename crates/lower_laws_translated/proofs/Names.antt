-- The names that both programs show to the control plane are the same, and so are their signatures.
use Rattle.std.proofs.Common.{◌≡◌, Bool, true, false, cond, not, Option, Some, None, List, [], ◌∷◌, ◌++◌, map, refl, sym, ap, ◌∙◌, subst}
use Rattle.std.specs.Prelude.{codes, filter, filter_map, unwrap_or}
use Rattle.match_core.specs.declared.entries.Entries.{Entries}
use Rattle.match_core.specs.Stores.{first_store}
use Rattle.p414_syntax.specs.declared.syntax.Decl.{Decl}
use Rattle.p414_syntax.specs.declared.syntax.Rule14.{Rule14}
use Rattle.p414_syntax.specs.declared.syntax.Sort.TheVariants as sort
use Rattle.p414_syntax.specs.declared.tables.Table.{Table}
use Rattle.p414_syntax.specs.Attributes.{reads_of}
use Rattle.p414_syntax.specs.Names.{Name, names_in}
use Rattle.p414_syntax.specs.Tables.{tables}
use Rattle.p414_sem.specs.Expanded.{Expanded}
use Rattle.p414_sem.specs.Signatures.{table_of, table_sig as table_sig14, signature14}
use Rattle.p416_syntax.specs.declared.controls.Control16.{Control16}
use Rattle.p416_syntax.specs.declared.controls.Local.TheVariants as local
use Rattle.p416_syntax.specs.declared.controls.Table16.{Table16}
use Rattle.p416_syntax.specs.declared.program.Decl16.TheVariants as decl16
use Rattle.p416_syntax.specs.Declarations.{table_in, control_scope}
use Rattle.p416_syntax.specs.Tables.{table_plane}
use Rattle.v1_core.specs.declared.block.Block.TheVariants.{Ingress, Egress}
use Rattle.p416_syntax.specs.Breaks.{scope_of}
use Rattle.v1_core.specs.Signatures.{placed, placed_sig}
use Rattle.lower_laws_names.specs.Copies.{Copy}
use Rattle.lower_laws_controls.specs.Keys.{KeysFit}
use Rattle.lower_laws_controls.proofs.Whole.{NamesSame}
use Rattle.lower_laws_program.specs.Program.{Parts, syntax_of}
use Rattle.lower_laws_states.specs.Expansions.{Has}
use Rattle.lower_laws_states.proofs.Members.{has_mapped, has_at}
use Rattle.lower_laws_states.proofs.Filling.{named_so, table_numbered, table_names}
use Rattle.lower_laws_declared.specs.Controls.{TablesAre, stands_in as control_of, SignaturesAre}
use Rattle.lower_laws_declared.proofs.Tables.{old_tables}
use Rattle.lower_laws_declared.proofs.Signatures.{names_same}
use Rattle.lower_laws_translated.specs.Given.{IsGiven}
use Rattle.lower_laws_translated.specs.Translated.{no_table, is_of_egress, stands_in, tables_in, copies_in, table_written, action_written, rule_in, locals_in, translated}
use Rattle.lower_laws_translated.proofs.Parts.{parts_are}
use Rattle.lower_laws_translated.proofs.Acts.{outer}
use Rattle.lower_laws_translated.proofs.Standing.{has_kept}
use Rattle.lower_laws_translated.proofs.Tables.{signature_there}

filter_same : (f g : Name → Bool) → ((n : Name) → f n ≡ g n) → (names : List Name) → filter f names ≡ filter g names
filter_same f g same [] = refl
filter_same f g same (n ∷ names) = rw (same n, filter_same f g same names) refl

-- a table that a name finds has the name
there_by : (ds : List Decl) (name : Name) (t : Table) → table_of ds name ≡ Some t → Has (names_in sort.Table ds) name
there_by ds name t is =
    let n = table_numbered ds name t is in
    subst (λ (l : List Name). Has l name) (sym (table_names ds)) (subst (Has (map (λ (u : Table). u.name) (tables ds))) (named_so ds name t is) (has_mapped (λ (u : Table). u.name) (tables ds) t (has_at (tables ds) n.0 t n.2)))

module _ (ds : List Decl) (x : Expanded) (given : IsGiven ds x) (under : Rule14) where
  abbrev p : Parts
  p = translated ds x under

  planes : (n : Name) → table_plane (table_written ds x n) ≡ n
  planes n = by (table_of ds n) refl where
    by : (o : Option Table) → table_of ds n ≡ o → (unwrap_or o (no_table n)).name ≡ n
    by None e = refl
    by (Some t) e = named_so ds n t e

  own_tables : (cs : List Copy) (ns : List Name) → filter_map table_in (map (λ (c : Copy). local.Action (action_written ds x under c)) cs ++ map (λ (n : Name). local.Table (table_written ds x n)) ns) ≡ map (table_written ds x) ns
  own_tables (c ∷ cs) ns = own_tables cs ns
  own_tables [] (n ∷ ns) = ap (λ (l : List Table16). table_written ds x n ∷ l) (own_tables [] ns)
  own_tables [] [] = refl

  back : (n : Name) → stands_in ds x true n ≡ not (stands_in ds x false n)
  back n = by (is_of_egress ds x n) where
    by : (b : Bool) → b ≡ not (not b)
    by true = refl
    by false = refl

  tables_are : TablesAre ds (stands_in ds x false) (table_written ds x) p
  tables_are = record {
    planes = planes;
    verify = refl;
    ingress = old_tables (rule_in ds x under false) (locals_in ds x under false) ∙ own_tables (copies_in ds x false) (tables_in ds x false);
    egress =
        old_tables (rule_in ds x under true) (locals_in ds x under true) ∙ own_tables (copies_in ds x true) (tables_in ds x true)
        ∙ ap (map (table_written ds x)) (filter_same (stands_in ds x true) (λ (n : Name). not (stands_in ds x false n)) back (names_in sort.Table ds));
    compute = refl;
    deparser = refl;
  }

  module _ (entries : Entries) (keys : (t : Table) → Has (tables ds) t → KeysFit (outer ds x given under entries false (codes "I") x.ingress Ingress refl).layout ds (reads_of t.attributes)) (keys_behind : (t : Table) → Has (tables ds) t → KeysFit (outer ds x given under entries true (codes "E") x.egress Egress refl).layout ds (reads_of t.attributes)) where
    signatures_are : SignaturesAre ds (stands_in ds x false) (table_written ds x) p
    signatures_are name t is = by (stands_in ds x false name) refl where
      there : Has (names_in sort.Table ds) name
      there = there_by ds name t is

      of : Control16 → Type 0
      of c = placed_sig (syntax_of p) (placed (control_scope (scope_of (syntax_of p) (decl16.Control c)) c) c.locals (table_written ds x name)) ≡ table_sig14 ds t

      by : (b : Bool) → stands_in ds x false name ≡ b → of (control_of (stands_in ds x false) p name)
      by true e = subst (λ (b : Bool). of (cond b p.ingress p.egress)) (sym e) (signature_there ds x given under entries false (codes "I") x.ingress Ingress refl keys (first_store (signature14 ds) entries) name (has_kept (stands_in ds x false) (names_in sort.Table ds) name there e) t is)
      by false e = subst (λ (b : Bool). of (cond b p.ingress p.egress)) (sym e) (signature_there ds x given under entries true (codes "E") x.egress Egress refl keys_behind (first_store (signature14 ds) entries) name (has_kept (stands_in ds x true) (names_in sort.Table ds) name there (back name ∙ ap not e)) t is)

    pub same_names : NamesSame ds (syntax_of p)
    same_names = names_same ds x p (parts_are ds x under) (stands_in ds x false) (table_written ds x) tables_are signatures_are
