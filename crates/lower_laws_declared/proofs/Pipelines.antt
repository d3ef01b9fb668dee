-- What the law of controls asks of names: copies that are listed, tables that are declared, variables (C1, C2).
use Rattle.std.proofs.Common.{◌≡◌, ◌≢◌, ℕ, ◌+◌, ◌<◌, Bool, true, false, cond, Option, Some, None, List, [], ◌∷◌, ◌++◌, length, map, refl, sym, ap, ◌∙◌, subst, arith}
use Rattle.std.specs.Prelude.{filter_map, option_map, slice_get, unwrap_or, option_and_then}
use Rattle.p414_syntax.specs.declared.tables.Table.{Table}
use Rattle.p414_syntax.specs.declared.syntax.Decl.{Decl}
use Rattle.p414_syntax.specs.declared.syntax.Rule14.{Rule14}
use Rattle.p414_syntax.specs.declared.syntax.Sort.TheVariants as sort
use Rattle.p414_syntax.specs.Names.{Name, find_name, names_in, is_declared, repeats}
use Rattle.p414_syntax.specs.Tables.{tables, table_number, listed_in}
use Rattle.p414_sem.specs.Operations.{in_order}
use Rattle.p414_sem.specs.Signatures.{table_of}
use Rattle.p414_sem.specs.Controls.{Setting as Setting14}
use Rattle.match_core.specs.declared.entries.Entries.{Entries}
use Rattle.p416_syntax.specs.declared.controls.Action16.{Action16}
use Rattle.p416_syntax.specs.declared.controls.Table16.{Table16}
use Rattle.p416_syntax.specs.declared.controls.Local.{Local}
use Rattle.p416_syntax.specs.declared.controls.Local.TheVariants as local
use Rattle.p416_syntax.specs.declared.controls.Control16.{Control16}
use Rattle.p416_syntax.specs.Kinds.{table}
use Rattle.p416_syntax.specs.Scopes.{Known, sort_of}
use Rattle.p416_syntax.specs.Declarations.{known_local, top_names, table_in}
use Rattle.p416_syntax.specs.Expressions.{sort_kind}
use Rattle.v1_core.specs.declared.block.Block.{Block}
use Rattle.v1_core.specs.Surroundings.{Surroundings, table_called, action_named, table_named}
use Rattle.v1_core.specs.Blocks.{around_control}
use Rattle.lower_laws_names.specs.Reaches.{Outer, declared, copy, outer_name}
use Rattle.lower_laws_names.specs.Copies.{copies, outers, listings, outer_in}
use Rattle.lower_laws_names.specs.Declared.{Among}
use Rattle.lower_laws_names.proofs.Listed.{each_found}
use Rattle.lower_laws_names.proofs.Types.{among_left, among_right, among_map}
use Rattle.lower_laws_base.specs.Context.{Lowering, words_of}
use Rattle.lower_laws_states.specs.Expansions.{Has}
use Rattle.lower_laws_states.specs.Laws.{BreaksNo}
use Rattle.lower_laws_states.proofs.Filling.{has_found, in_order_has, each_there, named_so}
use Rattle.lower_laws_states.proofs.Declared.{declared_has}
use Rattle.lower_laws_controls.specs.Controls.{Plan}
use Rattle.lower_laws_controls.specs.Listing.{copy_text, CopyListed}
use Rattle.lower_laws_controls.specs.Written.{table_text}
use Rattle.lower_laws_controls.proofs.Fills.{TableDeclared}
use Rattle.lower_laws_controls.proofs.Written.{TableFits}
use Rattle.lower_laws_program.specs.Program.{Parts, decls_of, pipeline_parameters}
use Rattle.lower_laws_program.specs.Controls.{old_locals}
use Rattle.lower_laws_program.specs.Fits.{setting_of}
use Rattle.lower_laws_declared.specs.Layout.{IsShort}
use Rattle.lower_laws_declared.specs.Controls.{TableIs, LocalIs, LocalsAre, table_place, plan_of, pipeline_things}
use Rattle.lower_laws_declared.proofs.Listed.{all_lines_fit}
use Rattle.lower_laws_declared.proofs.Lines.{outer_there, outer_line, line_there, copies_apart}
use Rattle.lower_laws_declared.proofs.Lookups.{IsLocal}
use Rattle.lower_laws_declared.proofs.Tables.{old_tables, its_local, its_sort, HasCopy, of_action}

-- the table with a name stands at its place
pub place_of_table : (ds : List Decl) (name : Name) (t : Table) → table_of ds name ≡ Some t → slice_get (tables ds) (table_place ds name) ≡ Some t
place_of_table ds name t e = by (table_number ds name) e where
  by : (o : Option ℕ) → option_and_then (slice_get (tables ds)) o ≡ Some t → slice_get (tables ds) (unwrap_or o (length (tables ds))) ≡ Some t
  by None e = absurd (cc e)
  by (Some k) e = e

module _ (ds : List Decl) (none : BreaksNo ds) (short : IsShort ds) (p : Parts) (egress : ℕ → Bool) (e : Bool) (own_tables : List Name) (once : repeats own_tables ≡ false) (there : (n : Name) → Has own_tables n → is_declared sort.Table ds n ≡ true) (as_table : Name → Table16) (locals : List Local) (are : LocalsAre ds as_table (pipeline_things ds egress e own_tables) locals) (entries : Entries) (which : Block) (d : Control16) (r : Rule14) (parameters_are : d.parameters ≡ pipeline_parameters) (locals_are : d.locals ≡ old_locals r ++ locals) where
  abbrev b : Surroundings
  b = around_control (setting_of p entries) which d

  abbrev names : List Known
  names = top_names (decls_of p)

  abbrev k : Plan
  k = plan_of ds egress

  -- an action that a table of this pipeline lists has a copy
  pub record HasListed (name action : Name) : Type 0 where
    pub outer : Outer
    pub found : outer_in (listings ds egress) (table_place ds name) action ≡ Some outer
    pub copied : HasCopy ds none short p egress e own_tables once there as_table locals are entries which d r parameters_are locals_are action (outer_name ds outer)

  pub listed_there : (name : Name) (t : Table) → table_of ds name ≡ Some t → egress (table_place ds name) ≡ e → (action : Name) → Has (listed_in t) action → HasListed name action
  listed_there name t is of action h =
      let place = table_place ds name in
      let at : 0 + place ≡ place = omega arith in
      let line = line_there ds egress 0 0 (tables ds) place t (place_of_table ds name t is) action h in
      let there16 = outer_there (listings ds egress) (0 + place) action line in
      let found : outer_in (listings ds egress) place action ≡ Some there16.outer = ap (λ (n : ℕ). outer_in (listings ds egress) n action) (sym at) ∙ there16.found in
      let o = there16.outer in
      let among : Among o (outers e (copies ds egress)) = subst (λ (c : Bool). Among o (outers c (copies ds egress))) of (each_found ds egress place action o found) in
      let back = outer_line (listings ds egress) place action o found in
      record {
        outer = o;
        found = found;
        copied = of_action ds none short p egress e own_tables once there as_table locals are entries which d r parameters_are locals_are o
            (among_left o (outers e (copies ds egress)) (map (declared sort.Table) own_tables) among) action back.0.number back.0.is_counted
            (ap (λ (n : Name). cond back.0.is_counted (copy back.0.number n) (declared sort.Action n)) (sym back.3) ∙ back.2);
      }

  text_is : (name action : Name) (o : Outer) → outer_in (listings ds egress) (table_place ds name) action ≡ Some o → copy_text (k.copy name) action ≡ outer_name ds o
  text_is name action o found = ap (λ (q : Option Outer). unwrap_or (option_map (outer_name ds) q) []) found

  pub copy_listed : (name : Name) (t : Table) → table_of ds name ≡ Some t → egress (table_place ds name) ≡ e → (action : Name) → Has (listed_in t) action → CopyListed ds b.scope (k.copy name) action
  copy_listed name t is of action h =
      let one = listed_there name t is of action h in
      let text = text_is name action one.outer one.found in
      record {
        copied = ap (option_map (outer_name ds)) one.found ∙ ap Some (sym text);
        parameters = _;
        sort = ap (sort_of b.scope) text ∙ one.copied.sort;
        widths = one.copied.widths;
      }

  -- it is the declared action
  pub copy_declared : (name : Name) (t : Table) → table_of ds name ≡ Some t → egress (table_place ds name) ≡ e → (action : Name) → Has (listed_in t) action → (a : Action16) × (action_named b (copy_text (k.copy name) action) ≡ Some a)
  copy_declared name t is of action h =
      let one = listed_there name t is of action h in
      (one.copied.of, ap (action_named b) (text_is name action one.outer one.found) ∙ one.copied.declared16)

  -- two actions of a table have two copies
  pub copies_differ : (name a c text : Name) → k.copy name a ≡ Some text → k.copy name c ≡ Some text → a ≡ c
  copies_differ name a c text f g = by (outer_in (listings ds egress) (table_place ds name) a) (outer_in (listings ds egress) (table_place ds name) c) refl refl f g where
    by : (o q : Option Outer) → outer_in (listings ds egress) (table_place ds name) a ≡ o → outer_in (listings ds egress) (table_place ds name) c ≡ q → option_map (outer_name ds) o ≡ Some text → option_map (outer_name ds) q ≡ Some text → a ≡ c
    by (Some o) (Some q) f g x y =
        let m : outer_name ds o ≡ text = cc x in
        let n : outer_name ds q ≡ text = cc y in
        copies_apart ds egress (all_lines_fit ds none short egress) (table_place ds name) a c o q f g (m ∙ sym n)
    by None q f g x y = absurd (cc x)
    by (Some o) None f g x y = absurd (cc y)

  -- tables

  among_tables : (name : Name) → Has own_tables name → Among (declared sort.Table name) (pipeline_things ds egress e own_tables)
  among_tables name h = among_right (declared sort.Table name) (outers e (copies ds egress)) (map (declared sort.Table) own_tables) (among_map (declared sort.Table) name own_tables h)

  record HasTable (name : Name) : Type 0 where
    sort : sort_kind (sort_of b.scope (k.table name)) ≡ table
    declared16 : table_named b (k.table name) ≡ Some (as_table name)

  table_there : (name : Name) → Has own_tables name → HasTable name
  table_there name h = by it.written refl it.is where
    o : Outer
    o = declared sort.Table name

    it : IsLocal ds as_table names o locals
    it = its_local ds none short p egress e own_tables once there as_table locals are entries which d r parameters_are locals_are o (among_tables name h)

    by : (l : Local) → it.written ≡ l → LocalIs ds as_table o it.written → HasTable name
    by (local.Table t) f is =
        let of : TableIs ds as_table name t = subst (LocalIs ds as_table o) f is in
        record {
          sort = ap sort_kind (its_sort ds none short p egress e own_tables once there as_table locals are entries which d r parameters_are locals_are o (among_tables name h) ∙ ap (λ (l : Local). (known_local names l).sort) f);
          declared16 =
              ap (λ (l : List Local). table_called (filter_map table_in l) (outer_name ds o)) locals_are
              ∙ ap (λ (l : List Table16). table_called l (outer_name ds o)) (old_tables r locals) ∙ it.table t f ∙ ap Some of.is;
        }
    by (local.Action a) f is = absurd (subst (LocalIs ds as_table o) f is)
    by (local.Var v) f is = absurd (subst (LocalIs ds as_table o) f is)
    by (local.Instance notes i) f is = absurd (subst (LocalIs ds as_table o) f is)

  -- All that is asked of a table that this control applies, but what stands in it.
  pub table_declared : (c : Lowering) (d14 : Setting14) → d14.decls ≡ ds → (name : Name) → Has own_tables name → (counter : Option Name) → ((t : Table) → table_of ds name ≡ Some t → TableFits c d14 b (k.copy name) counter t × (as_table name ≡ table_text (words_of c) ds (k.copy name) (k.table name) counter t)) → TableDeclared c d14 b k name
  table_declared c d14 same name h counter text =
      let t = each_there ds name (declared_has ds sort.Table name (there name h)) in
      let n = has_found (in_order (names_in sort.Table ds)) name (in_order_has (names_in sort.Table ds) name (declared_has ds sort.Table name (there name h))) in
      let one = table_there name h in
      record {
        t = t.0;
        named = named_so ds name t.0 t.1;
        declared14 = ap (λ (es : List Decl). table_of es name) same ∙ t.1;
        number = n.0;
        numbered = ap (λ (es : List Decl). find_name (in_order (names_in sort.Table es)) name) same ∙ n.1;
        counter = counter;
        declared16 = one.declared16 ∙ ap Some ((text t.0 t.1).1 ∙ ap (λ (es : List Decl). table_text (words_of c) es (k.copy name) (k.table name) counter t.0) (sym same));
        sort = one.sort;
        copies = copies_differ name;
        fits = (text t.0 t.1).0;
      }
