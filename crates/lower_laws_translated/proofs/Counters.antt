-- No direct counter belongs to two tables (C1, C23).
use Rattle.std.proofs.Common.{◌≡◌, ◌≢◌, ◌⊎◌, inl, Bool, true, false, cond, Option, Some, None, option_map, List, [], ◌∷◌, ◌++◌, map, refl, sym, ap, ap₂, ◌∙◌, subst}
use Rattle.std.specs.Prelude.{filter_map, unwrap_or, ◌||◌}
use Rattle.std.specs.List.{cons_option}
use Rattle.std.specs.Str.{bytes_eq}
use Rattle.std.proofs.lemmas.Slice.Eq.{bytes_eq-Decides}
use Rattle.p414_syntax.specs.declared.syntax.Decl.{Decl}
use Rattle.p414_syntax.specs.declared.syntax.Decl.TheVariants as decl
use Rattle.p414_syntax.specs.declared.syntax.Sort.TheVariants as sort
use Rattle.p414_syntax.specs.Attributes.{direct_table_of}
use Rattle.p414_syntax.specs.Names.{Name, names_in, name_in, declaration_of, repeats as repeats14, repeats_behind, has_name as has_name14}
use Rattle.p414_syntax.specs.Breaks.{BreaksNone, program_rules}
use Rattle.p414_sem.specs.Signatures.{counts_entries_of, first_name}
use Rattle.p416_syntax.specs.declared.lexeme.Literal16.{Literal16}
use Rattle.p416_syntax.specs.declared.controls.ActionName.{ActionName}
use Rattle.p416_syntax.specs.declared.controls.Property.TheVariants as property
use Rattle.p416_syntax.specs.declared.controls.Table16.{Table16}
use Rattle.p416_syntax.specs.declared.controls.TableKey.{TableKey}
use Rattle.p416_syntax.specs.Properties.{counters_of}
use Rattle.p416_syntax.specs.Tree.{Exp16}
use Rattle.p416_syntax.specs.Names.{repeats, has_name}
use Rattle.p416_syntax.specs.Declarations.{counters_in}
use Rattle.lower_laws_names.specs.NewNames.{new_name}
use Rattle.lower_laws_names.proofs.OneSort.{is_numbered}
use Rattle.lower_laws_names.proofs.Proved.{sorts_differ}
use Rattle.lower_laws_names.proofs.Lists.{not_again, itself}
use Rattle.lower_laws_controls.specs.Written.{keys_property, size_property, counters_property, properties_in_order}
use Rattle.lower_laws_controls.proofs.Expanding.{neither}
use Rattle.lower_laws_states.specs.Expansions.{Has}
use Rattle.lower_laws_states.proofs.Members.{picked_has, has_picked}
use Rattle.lower_laws_premises.proofs.Rules.{has_so}
use Rattle.lower_laws_declared.specs.Layout.{IsShort}
use Rattle.lower_laws_declared.proofs.Found.{declaration_found}
use Rattle.match_core.specs.declared.entries.Entries.{Entries}
use Rattle.p414_syntax.specs.declared.syntax.Rule14.{Rule14}
use Rattle.p414_syntax.specs.Attributes.{reads_of, size_of, max_size_of, default_action_of, default_arguments_of}
use Rattle.p414_syntax.specs.Tree.{Stmt}
use Rattle.p414_syntax.specs.Tables.{listed_in}
use Rattle.p414_sem.specs.Expanded.{Expanded}
use Rattle.p414_sem.specs.Signatures.{table_of}
use Rattle.p416_syntax.specs.declared.controls.Local.TheVariants as local
use Rattle.p416_syntax.specs.Tree.{no_arguments}
use Rattle.p416_syntax.specs.Declarations.{table_in, tables_in as tables_in16}
use Rattle.v1_core.specs.declared.block.Block.{Block}
use Rattle.v1_core.specs.Frames.{of_headers, of_metadata, of_standard}
use Rattle.v1_core.specs.Blocks.{owners_of}
use Rattle.lower_laws_names.specs.Copies.{Copy}
use Rattle.lower_laws_controls.specs.Keys.{key_of}
use Rattle.lower_laws_controls.specs.Listing.{each_once, copy_name, widths_of_action}
use Rattle.lower_laws_controls.specs.Written.{size_literal, arguments_exp}
use Rattle.lower_laws_declared.proofs.Tables.{old_tables}
use Rattle.lower_laws_translated.specs.Given.{IsGiven}
use Rattle.lower_laws_translated.proofs.Listed.{tables_once}
use Rattle.lower_laws_translated.specs.Translated.{counter_called, table_written, action_written, pipeline_words, plan, no_table, tables_in, copies_in, locals_in, rule_in, pipeline_written}

-- the counter of a table as it is written

written_counter : (keys : List TableKey) (names : List ActionName) (size : Option Literal16) (counter : Option Name) (called : Name → ActionName) (given : Name → Exp16) (d : Option Name) → counters_of (properties_in_order (keys_property keys) (property.Actions names) (option_map size_property size) (option_map counters_property counter) (option_map (λ n. property.DefaultAction (called n) (given n)) d)) ≡ counter
written_counter [] names None None called given None = refl
written_counter [] names None None called given (Some n) = refl
written_counter [] names None (Some c) called given d = refl
written_counter [] names (Some s) None called given None = refl
written_counter [] names (Some s) None called given (Some n) = refl
written_counter [] names (Some s) (Some c) called given d = refl
written_counter (k ∷ keys) names None None called given None = refl
written_counter (k ∷ keys) names None None called given (Some n) = refl
written_counter (k ∷ keys) names None (Some c) called given d = refl
written_counter (k ∷ keys) names (Some s) None called given None = refl
written_counter (k ∷ keys) names (Some s) None called given (Some n) = refl
written_counter (k ∷ keys) names (Some s) (Some c) called given d = refl

-- the table whose entries a counter counts

told : (table : Name) (d : Decl) (n : Name) → counts_entries_of table d ≡ Some n → (name_in sort.Object d ≡ Some n) × ((other m : Name) → counts_entries_of other d ≡ Some m → table ≡ other)
told table (decl.Counter x) n e = of (direct_table_of x.attributes) refl e where
  of : (o : Option Name) → direct_table_of x.attributes ≡ o → counts_entries_of table (decl.Counter x) ≡ Some n → (Some x.name ≡ Some n) × ((other m : Name) → counts_entries_of other (decl.Counter x) ≡ Some m → table ≡ other)
  of None f e = let nothing : counts_entries_of table (decl.Counter x) ≡ None = rw f refl in absurd (cc (nothing, e))
  of (Some t) f e =
      let one : counts_entries_of table (decl.Counter x) ≡ cond (bytes_eq t table) (Some x.name) None = rw f refl in
      let same = counted table n (bytes_eq t table) refl (sym one ∙ e) in
      (same.0, λ other m g. let two : counts_entries_of other (decl.Counter x) ≡ cond (bytes_eq t other) (Some x.name) None = rw f refl in sym same.1 ∙ (counted other m (bytes_eq t other) refl (sym two ∙ g)).1)
    where
      counted : (u m : Name) (b : Bool) → bytes_eq t u ≡ b → cond b (Some x.name) None ≡ Some m → (Some x.name ≡ Some m) × (t ≡ u)
      counted u m true is e = (e, (bytes_eq-Decides t u).0 is)
      counted u m false is e = absurd (cc e)
told table _ n e = absurd (cc e)

module _ (ds : List Decl) (none : BreaksNone ds program_rules) (short : IsShort ds) where
  record Counts (table text : Name) : Type 0 where
    pub name : Name
    pub of : Decl
    pub has : Has ds of
    pub counts : counts_entries_of table of ≡ Some name
    pub called : new_name ds sort.Object name ≡ text

  counts_of : (table text : Name) → counter_called ds table ≡ Some text → Counts table text
  counts_of table text e = by (filter_map (counts_entries_of table) ds) refl e where
    by : (names : List Name) → filter_map (counts_entries_of table) ds ≡ names → option_map (new_name ds sort.Object) (first_name names) ≡ Some text → Counts table text
    by [] is e = absurd (cc e)
    by (n ∷ names) is e =
        let d = picked_has (counts_entries_of table) ds n (subst (λ (l : List Name). Has l n) (sym is) (inl refl)) in
        record { name = n; of = d.0; has = d.1; counts = d.2; called = cc e }

  -- one counter, one table
  one_table : (a b text : Name) → counter_called ds a ≡ Some text → counter_called ds b ≡ Some text → a ≡ b
  one_table a b text e f =
      let x = counts_of a text e in
      let y = counts_of b text f in
      let p = told a x.of x.name x.counts in
      let q = told b y.of y.name y.counts in
      let same : x.name ≡ y.name = same_name x.name y.name (has_picked (name_in sort.Object) ds x.of x.name x.has p.0) (has_picked (name_in sort.Object) ds y.of y.name y.has q.0) (x.called ∙ sym y.called) in
      let one : x.of ≡ y.of = cc (sym (declaration_found ds none sort.Object x.of x.name x.has p.0) ∙ ap (declaration_of sort.Object ds) same ∙ declaration_found ds none sort.Object y.of y.name y.has q.0) in
      p.1 b y.name (ap (counts_entries_of b) one ∙ y.counts)
    where
      same_name : (n m : Name) → Has (names_in sort.Object ds) n → Has (names_in sort.Object ds) m → new_name ds sort.Object n ≡ new_name ds sort.Object m → n ≡ m
      same_name n m h g e = by (bytes_eq n m) refl where
        by : (b : Bool) → bytes_eq n m ≡ b → n ≡ m
        by true is = (bytes_eq-Decides n m).0 is
        by false is =
            absurd (sorts_differ.two ds sort.Object n m (is_numbered ds sort.Object n short.few (has_so (names_in sort.Object ds) n h)) (is_numbered ds sort.Object m short.few (has_so (names_in sort.Object ds) m g)) (λ z. absurd (cc (is, (bytes_eq-Decides n m).1 z))) e)

  -- so no counter stands twice
  none_other : (n text : Name) → counter_called ds n ≡ Some text → (names : List Name) → has_name14 names n ≡ false → has_name (filter_map (counter_called ds) names) text ≡ false
  none_other n text e [] none = refl
  none_other n text e (m ∷ names) none =
      let s = neither (bytes_eq n m) (has_name14 names n) none in
      by (counter_called ds m) refl (none_other n text e names s.1) s.0
    where
      by : (o : Option Name) → counter_called ds m ≡ o → has_name (filter_map (counter_called ds) names) text ≡ false → bytes_eq n m ≡ false → has_name (cons_option o (filter_map (counter_called ds) names)) text ≡ false
      by None is rest other = rest
      by (Some u) is rest other = at (bytes_eq text u) refl where
        at : (b : Bool) → bytes_eq text u ≡ b → (b || has_name (filter_map (counter_called ds) names) text) ≡ false
        at false is_other = rest
        at true same = absurd (cc (other, (bytes_eq-Decides n m).1 (one_table n m text e (is ∙ ap Some (sym ((bytes_eq-Decides text u).0 same))))))

  once_behind : (before names : List Name) → repeats_behind before names ≡ false → repeats (filter_map (counter_called ds) names) ≡ false
  once_behind before [] e = refl
  once_behind before (n ∷ names) e =
      let s = neither (has_name14 before n) (repeats_behind (before ++ n ∷ []) names) e in
      by (counter_called ds n) refl (once_behind (before ++ n ∷ []) names s.1) (not_again (before ++ n ∷ []) names n (itself before n) s.1)
    where
      by : (o : Option Name) → counter_called ds n ≡ o → repeats (filter_map (counter_called ds) names) ≡ false → has_name14 names n ≡ false → repeats (cons_option o (filter_map (counter_called ds) names)) ≡ false
      by None is rest alone = rest
      by (Some u) is rest alone = ap (λ b. b || repeats (filter_map (counter_called ds) names)) (none_other n u is names alone) ∙ rest

  pub counters_once : (names : List Name) → repeats14 names ≡ false → repeats (filter_map (counter_called ds) names) ≡ false
  counters_once names e = once_behind [] names e

-- the tables of a pipeline

module _ (ds : List Decl) (x : Expanded) (given : IsGiven ds x) (under : Rule14) (entries : Entries) (e : Bool) (text : Name) (body : Stmt) (which : Block) (owners : owners_of which ≡ of_headers ∷ of_metadata ∷ of_standard ∷ []) where
  tables_written : (cs : List Copy) (ns : List Name) → filter_map table_in (map (λ (c : Copy). local.Action (action_written ds x under c)) cs ++ map (λ (n : Name). local.Table (table_written ds x n)) ns) ≡ map (table_written ds x) ns
  tables_written (c ∷ cs) ns = tables_written cs ns
  tables_written [] (n ∷ ns) = ap (λ (l : List Table16). table_written ds x n ∷ l) (tables_written [] ns)
  tables_written [] [] = refl

  counter_is : (n : Name) → counters_in (table_written ds x n) ≡ counter_called ds n
  counter_is n =
      let t = unwrap_or (table_of ds n) (no_table n) in
      let copy = (plan ds x).copy n in
      written_counter (map (key_of (pipeline_words ds) ds) (reads_of t.attributes)) (map (copy_name copy) (each_once (listed_in t))) (size_literal (size_of t.attributes) (max_size_of t.attributes)) (counter_called ds n) (copy_name copy)
      (λ name. arguments_exp no_arguments (widths_of_action ds name) (unwrap_or (default_arguments_of t.attributes) [])) (default_action_of t.attributes)

  counters_are : (ns : List Name) → filter_map counters_in (map (table_written ds x) ns) ≡ filter_map (counter_called ds) ns
  counters_are [] = refl
  counters_are (n ∷ ns) = ap₂ (λ (o : Option Name) (l : List Name). cons_option o l) (counter_is n) (counters_are ns)

  pub pipeline_counters : repeats (filter_map counters_in (tables_in16 (pipeline_written ds x under e text body))) ≡ false
  pipeline_counters =
      ap (λ (l : List Table16). repeats (filter_map counters_in l)) (old_tables (rule_in ds x under e) (locals_in ds x under e) ∙ tables_written (copies_in ds x e) (tables_in ds x e))
      ∙ ap repeats (counters_are (tables_in ds x e)) ∙ counters_once ds given.none given.short (tables_in ds x e) (tables_once ds x given under entries e text body which owners)
