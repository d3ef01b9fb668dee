-- The direct counter of a table has one number in both programs (C1), and a control's tables are those of its things.
use Rattle.std.proofs.Common.{◌≡◌, inl, ℕ, Bool, true, false, cond, Option, Some, None, List, [], ◌∷◌, ◌++◌, map, refl, sym, ap, ◌∙◌}
use Rattle.std.specs.Prelude.{filter_map, option_map, unwrap_or}
use Rattle.std.specs.Str.{bytes_eq}
use Rattle.p414_syntax.specs.declared.objects.Stateful.{Stateful}
use Rattle.p414_syntax.specs.declared.syntax.Decl.{Decl}
use Rattle.p414_syntax.specs.declared.syntax.Decl.TheVariants as decl
use Rattle.p414_syntax.specs.declared.syntax.Rule14.{Rule14}
use Rattle.p414_syntax.specs.declared.syntax.Sort.TheVariants as sort
use Rattle.p414_syntax.specs.Attributes.{direct_table_of}
use Rattle.p414_syntax.specs.Names.{Name, name_in, names_in}
use Rattle.p414_sem.specs.Operations.{object_number as object_number14}
use Rattle.p414_sem.specs.Expanded.{Expanded}
use Rattle.p414_sem.specs.Signatures.{first_name, counts_entries_of, direct_counter}
use Rattle.p416_syntax.specs.declared.controls.Table16.{Table16}
use Rattle.p416_syntax.specs.declared.controls.Local.{Local}
use Rattle.p416_syntax.specs.declared.controls.Control16.{Control16}
use Rattle.p416_syntax.specs.Declarations.{table_in, tables_in}
use Rattle.v1_core.specs.Signatures.{Object, own_object, plane_among, or_at_top, place_among, object_names, direct_number}
use Rattle.lower_laws_names.specs.NewNames.{new_name}
use Rattle.lower_laws_names.specs.Copies.{copies, outers}
use Rattle.lower_laws_names.proofs.Objects.{objects_alike}
use Rattle.lower_laws_states.specs.Expansions.{Has}
use Rattle.lower_laws_states.specs.Laws.{BreaksNo}
use Rattle.lower_laws_states.proofs.Members.{picked_has, has_picked}
use Rattle.lower_laws_program.specs.Program.{Parts, blocks_of, decls_of, syntax_of}
use Rattle.lower_laws_program.specs.Controls.{old_locals}
use Rattle.lower_laws_declared.specs.Layout.{IsShort}
use Rattle.lower_laws_declared.specs.Controls.{LocalsAre, pipeline_things, counter_of, PartsAre}
use Rattle.lower_laws_declared.proofs.Apart.{copies_are}
use Rattle.lower_laws_declared.proofs.Numbers.{decls_are, object_at_top}
use Rattle.lower_laws_declared.proofs.Tables.{old_tables}
use Rattle.lower_laws_declared.proofs.Texts.{tables_are}

-- what counts a table's entries is a counter

no_direct : (table : Name) (x : Stateful) → direct_table_of x.attributes ≡ None → counts_entries_of table (decl.Counter x) ≡ None
no_direct table x e = rw e refl

one_direct : (table : Name) (x : Stateful) (t : Name) → direct_table_of x.attributes ≡ Some t → counts_entries_of table (decl.Counter x) ≡ cond (bytes_eq t table) (Some x.name) None
one_direct table x t e = rw e refl

counter_named : (table : Name) (x : Stateful) (n : Name) → counts_entries_of table (decl.Counter x) ≡ Some n → x.name ≡ n
counter_named table x n e = by (direct_table_of x.attributes) refl where
  of : (b : Bool) → cond b (Some x.name) None ≡ Some n → x.name ≡ n
  of true f = cc f
  of false f = absurd (cc f)

  by : (o : Option Name) → direct_table_of x.attributes ≡ o → x.name ≡ n
  by None f = absurd (cc (no_direct table x f, e))
  by (Some t) f = of (bytes_eq t table) (sym (one_direct table x t f) ∙ e)

counts_named : (table : Name) (d : Decl) (n : Name) → counts_entries_of table d ≡ Some n → name_in sort.Object d ≡ Some n
counts_named table (decl.Counter x) n e = ap Some (counter_named table x n e)
counts_named table _ n e = absurd (cc e)

first_has : (names : List Name) (n : Name) → first_name names ≡ Some n → Has names n
first_has [] n e = absurd (cc e)
first_has (m ∷ names) n e = inl (cc e)

module _ (ds : List Decl) (none : BreaksNo ds) (short : IsShort ds) (x : Expanded) (p : Parts) (are : PartsAre ds x p) where
  one_number : (n : Name) → Has (names_in sort.Object ds) n → (locals : List Local) → filter_map own_object locals ≡ [] → direct_number (syntax_of p) locals (new_name ds sort.Object n) ≡ object_number14 ds n
  one_number n h locals free =
      ap (λ (os : List Object). place_among (object_names (syntax_of p)) (or_at_top (decls_of p) (new_name ds sort.Object n) (plane_among os (new_name ds sort.Object n)))) free
      ∙ ap (λ (o : Option Name). place_among (object_names (syntax_of p)) (unwrap_or o (new_name ds sort.Object n))) (object_at_top ds none short x p are n h)
      ∙ ap (λ (names : List Name). place_among names n) (objects_alike ds x (syntax_of p) (blocks_of p) (decls_are ds none short x p are) are.none are.empty).0

  -- as `TableFits` asks it
  pub counter_numbered : (table : Name) (locals : List Local) → filter_map own_object locals ≡ [] → option_map (direct_number (syntax_of p) locals) (counter_of ds table) ≡ direct_counter ds table
  counter_numbered table locals free = by (first_name (filter_map (counts_entries_of table) ds)) refl where
    by : (o : Option Name) → first_name (filter_map (counts_entries_of table) ds) ≡ o → option_map (direct_number (syntax_of p) locals) (option_map (new_name ds sort.Object) o) ≡ option_map (object_number14 ds) o
    by None e = refl
    by (Some n) e =
        let d = picked_has (counts_entries_of table) ds n (first_has (filter_map (counts_entries_of table) ds) n e) in
        ap Some (one_number n (has_picked (name_in sort.Object) ds d.0 n d.1 (counts_named table d.0 n d.2)) locals free)

-- the tables of a control are those of its things, as `TablesAre` asks it
pub tables_of_control : (ds : List Decl) (egress : ℕ → Bool) (e : Bool) (tables : List Name) (as_table : Name → Table16) (locals : List Local) → LocalsAre ds as_table (pipeline_things ds egress e tables) locals → (d : Control16) (r : Rule14) → d.locals ≡ old_locals r ++ locals → tables_in d ≡ map as_table tables
tables_of_control ds egress e tables as_table locals are d r locals_are =
    ap (filter_map table_in) locals_are ∙ old_tables r locals ∙ tables_are ds as_table (outers e (copies ds egress)) (copies_are ds egress e) tables locals are
