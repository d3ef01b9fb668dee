-- Entries that fit the signature fill each table as it asks, and a table that is declared in both programs is found.
use Rattle.std.proofs.Common.{◌≡◌, ℕ, zero, suc, ◌<◌, Option, Some, List, [], ◌∷◌, length, map, get_or, refl, sym, ap, ◌∙◌, subst, arith}
use Rattle.std.specs.Prelude.{filter_map, unwrap_or}
use Rattle.std.specs.List.{AllZip, cons_option}
use Rattle.std.specs.Str.{bytes_eq}
use Rattle.std.proofs.lemmas.List.Quantifiers.{position-Some}
use Rattle.std.proofs.lemmas.Slice.Eq.{bytes_eq-Decides}
use Rattle.state_store.specs.State.{Contents}
use Rattle.match_core.specs.declared.entries.TableFill.{TableFill}
use Rattle.match_core.specs.declared.signatures.TableSig.{TableSig}
use Rattle.match_core.specs.Fits.{FitsFill, Fits}
use Rattle.p414_syntax.specs.declared.tables.Table.{Table}
use Rattle.p414_syntax.specs.declared.syntax.Decl.{Decl}
use Rattle.p414_syntax.specs.declared.syntax.Sort.TheVariants as sort
use Rattle.p414_syntax.specs.Names.{Name, find_name, names_in}
use Rattle.p414_sem.specs.Operations.{in_order}
use Rattle.p414_sem.specs.Signatures.{table_of, table_sig as sig14, signature14}
use Rattle.p414_sem.specs.Controls.{Setting as Setting14, no_fill, fill_of as fill14}
use Rattle.p416_syntax.specs.Kinds.{table}
use Rattle.p416_syntax.specs.Scopes.{sort_of}
use Rattle.p416_syntax.specs.Expressions.{sort_kind}
use Rattle.v1_core.specs.Surroundings.{Surroundings, table_named}
use Rattle.lower_laws_base.specs.Context.{Lowering, words_of, Sees}
use Rattle.lower_laws_controls.specs.Controls.{Plan}
use Rattle.lower_laws_controls.specs.Listing.{Each}
use Rattle.lower_laws_controls.specs.Written.{table_text}
use Rattle.lower_laws_controls.proofs.Listing.{in_order_all}
use Rattle.lower_laws_controls.proofs.Tables.{table_alike}
use Rattle.lower_laws_controls.proofs.Whole.{TableSame, NamesSame, number_same}
use Rattle.lower_laws_controls.proofs.Written.{TableFits, table_written}
use Rattle.lower_laws_controls.specs.Whole.{TableFound}

-- a table that is declared under this name
pub record Declared (ds : List Decl) (name : Name) : Type 0 where
  pub t : Table
  pub is : table_of ds name ≡ Some t

module _ (ds : List Decl) where
  abbrev sigs : List Name → List TableSig
  sigs names = map (sig14 ds) (filter_map (table_of ds) names)

  more : (name : Name) (names : List Name) (t : Table) → table_of ds name ≡ Some t → sigs (name ∷ names) ≡ sig14 ds t ∷ sigs names
  more name names t is = ap (λ (o : Option Table). map (sig14 ds) (cons_option o (filter_map (table_of ds) names))) is

  fill_at : (names : List Name) (fills : List TableFill) (i : ℕ) (t : Table) → Each (Declared ds) names → i < length names → table_of ds (get_or names i []) ≡ Some t → AllZip FitsFill (sigs names) fills → FitsFill (sig14 ds t) (get_or fills i no_fill)
  fill_at [] fills i t all lt is fit = absurd (omega (arith, lt))
  fill_at (name ∷ names) [] i t all lt is fit = absurd (subst (λ l. AllZip FitsFill l []) (more name names all.0.t all.0.is) fit)
  fill_at (name ∷ names) (f ∷ fills) zero t all lt is fit = (subst (λ l. AllZip FitsFill l (f ∷ fills)) (more name names t is) fit).0
  fill_at (name ∷ names) (f ∷ fills) (suc i) t all lt is fit =
      fill_at names fills i t all.1 (omega (arith, lt)) is (subst (λ l. AllZip FitsFill l (f ∷ fills)) (more name names all.0.t all.0.is) fit).1

-- Of entries that fit, each table of the program has what fits it.
pub fill_fits : (d : Setting14) → Fits d.entries (signature14 d.decls) → Each (Declared d.decls) (names_in sort.Table d.decls) → (t : Table) → table_of d.decls t.name ≡ Some t → (i : ℕ) → find_name (in_order (names_in sort.Table d.decls)) t.name ≡ Some i → FitsFill (sig14 d.decls t) (fill14 d t)
unfolding signature14
fill_fits d fits all t is i found =
    let names = in_order (names_in sort.Table d.decls) in
    let there = position-Some (bytes_eq t.name) names i [] found in
    let here : get_or names i [] ≡ t.name = sym ((bytes_eq-Decides t.name (get_or names i [])).0 there.1) in
    subst (λ j. FitsFill (sig14 d.decls t) (get_or d.entries.tables j no_fill)) (sym (ap (λ (o : Option ℕ). unwrap_or o (length names)) found))
    (fill_at d.decls names d.entries.tables i t (in_order_all (Declared d.decls) [] (names_in sort.Table d.decls) tt all) there.0 (ap (table_of d.decls) here ∙ is) fits.tables)

-- A table that statements apply: it is declared in both programs, and the one of P4_16 is the one that is written.
pub record TableDeclared (c : Lowering) (d : Setting14) (b : Surroundings) (k : Plan) (name : Name) : Type 0 where
  pub t : Table
  pub named : t.name ≡ name
  pub declared14 : table_of d.decls name ≡ Some t
  pub number : ℕ
  pub numbered : find_name (in_order (names_in sort.Table d.decls)) name ≡ Some number
  pub counter : Option Name
  pub declared16 : table_named b (k.table name) ≡ Some (table_text (words_of c) d.decls (k.copy name) (k.table name) counter t)
  pub sort : sort_kind (sort_of b.scope (k.table name)) ≡ table
  pub copies : (a e text : Name) → k.copy name a ≡ Some text → k.copy name e ≡ Some text → a ≡ e
  pub fits : TableFits c d b (k.copy name) counter t

tables_declared : (ds : List Decl) (syntax : _) (names : List Name) → Each (TableSame ds syntax) names → Each (Declared ds) names
tables_declared ds syntax [] all = tt
tables_declared ds syntax (name ∷ names) all = (record { t = all.0.t; is = all.0.declared14 }, tables_declared ds syntax names all.1)

-- All that the law of controls asks of a table, from the names of both programs and entries that fit.
pub table_found : (c : Lowering) (d : Setting14) (b : Surroundings) (k : Plan) → c.world.around ≡ b → c.parameters ≡ [] → Sees c b.scope [] → b.setting.entries ≡ d.entries → Fits d.entries (signature14 d.decls) → NamesSame d.decls b.setting.syntax → Contents → (name : Name) → TableDeclared c d b k name → TableFound c b.scope d b k name
table_found c d b k around none sees entries fits same store name is =
    let u = table_text (words_of c) d.decls (k.copy name) (k.table name) is.counter is.t in
    record {
      t = is.t;
      u = u;
      declared14 = is.declared14;
      declared16 = is.declared16;
      sort = is.sort;
      copies = is.copies;
      alike = table_alike c d b around none sees (k.copy name) is.t u (table_written c d b (k.copy name) (k.table name) is.counter is.t is.fits) store entries
          (fill_fits d fits (tables_declared d.decls b.setting.syntax (names_in sort.Table d.decls) same.each_table) is.t (ap (table_of d.decls) is.named ∙ is.declared14) is.number (ap (find_name (in_order (names_in sort.Table d.decls))) is.named ∙ is.numbered))
          (number_same d.decls b.setting.syntax same is.t u refl);
    }
