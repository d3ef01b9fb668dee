-- No direct counter belongs to two tables: one counts the entries of the one table that it names (C1).
use Rattle.std.proofs.Common.{◌≡◌, inl, Bool, true, false, not, ◌||◌, cond, Option, Some, None, List, [], ◌∷◌, ◌++◌, map, refl, sym, ap, ap₂, ◌∙◌}
use Rattle.std.specs.Prelude.{flat_map, filter, filter_map, option_map, unwrap_or}
use Rattle.std.specs.List.{cons_option}
use Rattle.std.specs.Str.{bytes_eq}
use Rattle.std.proofs.lemmas.Bool.{true≢false}
use Rattle.std.proofs.lemmas.List.Elements.{filter_map-append}
use Rattle.std.proofs.lemmas.Slice.Eq.{bytes_eq-Decides}
use Rattle.p414_syntax.specs.declared.syntax.Decl.{Decl}
use Rattle.p414_syntax.specs.declared.syntax.Decl.TheVariants as decl
use Rattle.p414_syntax.specs.declared.syntax.Rule14.{Rule14}
use Rattle.p414_syntax.specs.declared.syntax.Sort.TheVariants as sort
use Rattle.p414_syntax.specs.declared.tables.Table.{Table}
use Rattle.p414_syntax.specs.Attributes.{reads_of, size_of, max_size_of, default_action_of, default_arguments_of, direct_table_of}
use Rattle.p414_syntax.specs.Names.{Name, name_in, names_in, declaration_of}
use Rattle.p414_syntax.specs.Tables.{listed_in}
use Rattle.p414_sem.specs.Expanded.{Expanded}
use Rattle.p414_sem.specs.Signatures.{table_of, counts_entries_of, first_name}
use Rattle.p416_syntax.specs.declared.program.Decl16.{Decl16}
use Rattle.p416_syntax.specs.declared.program.Decl16.TheVariants as decl16
use Rattle.p416_syntax.specs.Tree.{no_arguments}
use Rattle.p416_syntax.specs.Names.{has_name, repeats}
use Rattle.p416_syntax.specs.Scopes.{called_of}
use Rattle.p416_syntax.specs.Declarations.{control_names, counters_in, tables_in as tables_in16}
use Rattle.p416_syntax.specs.Tables.{is_not_among, outer_counters}
use Rattle.v1_core.specs.Signatures.{plane_among, top_object}
use Rattle.lower_laws_names.specs.NewNames.{new_name}
use Rattle.lower_laws_names.specs.Objects.{top_decls}
use Rattle.lower_laws_controls.specs.Keys.{key_of}
use Rattle.lower_laws_controls.specs.Listing.{each_once, copy_name, widths_of_action}
use Rattle.lower_laws_controls.specs.Written.{size_literal, arguments_exp}
use Rattle.lower_laws_controls.proofs.Written.{found_counters}
use Rattle.lower_laws_states.specs.Expansions.{Has}
use Rattle.lower_laws_states.proofs.Members.{neither, none_passes, picked_has, has_picked}
use Rattle.lower_laws_program.specs.Program.{Parts, blocks_of, decls_of}
use Rattle.lower_laws_declared.proofs.Found.{declaration_found}
use Rattle.lower_laws_declared.proofs.Numbers.{object_at_top}
use Rattle.lower_laws_declared.proofs.Rules.{named_has}
use Rattle.lower_laws_declared.proofs.Signatures.{tables_same}
use Rattle.lower_laws_declared.proofs.Texts.{NoBlocks, top_no_blocks, gathered}
use Rattle.lower_laws_translated.specs.Given.{IsGiven}
use Rattle.lower_laws_translated.specs.Translated.{counter_called, no_table, pipeline_words, plan, stands_in, table_written, translated}
use Rattle.lower_laws_translated.proofs.Parts.{parts_are}
use Rattle.lower_laws_translated.proofs.Texts.{tables_are, text}

-- what counts the entries of a table is named and names it

one_direct : (table : Name) (d : Decl) (n : Name) → counts_entries_of table d ≡ Some n → (name_in sort.Object d ≡ Some n) × ((other : Name) → counts_entries_of other d ≡ Some n → table ≡ other)
one_direct table (decl.Counter x) n e = by (direct_table_of x.attributes) refl where
  unwritten : (t : Name) → direct_table_of x.attributes ≡ None → counts_entries_of t (decl.Counter x) ≡ None
  unwritten t f = rw f refl

  written : (t u : Name) → direct_table_of x.attributes ≡ Some u → counts_entries_of t (decl.Counter x) ≡ cond (bytes_eq u t) (Some x.name) None
  written t u f = rw f refl

  of : (t u : Name) (b : Bool) → bytes_eq u t ≡ b → cond b (Some x.name) None ≡ Some n → (x.name ≡ n) × (u ≡ t)
  of t u true same f = (cc f, (bytes_eq-Decides u t).0 same)
  of t u false same f = absurd (cc f)

  by : (o : Option Name) → direct_table_of x.attributes ≡ o → (name_in sort.Object (decl.Counter x) ≡ Some n) × ((other : Name) → counts_entries_of other (decl.Counter x) ≡ Some n → table ≡ other)
  by None f = absurd (cc (unwritten table f, e))
  by (Some u) f =
      let here = of table u (bytes_eq u table) refl (sym (written table u f) ∙ e) in
      (ap Some here.0, λ other g. sym here.1 ∙ (of other u (bytes_eq u other) refl (sym (written other u f) ∙ g)).1)
one_direct table _ n e = absurd (cc e)

first_has : (names : List Name) (n : Name) → first_name names ≡ Some n → Has names n
first_has [] n e = absurd (cc e)
first_has (m ∷ names) n e = inl (cc e)

-- names that are picked differ, where no two pick the same
picked_once : (f : Name → Option Name) → ((a b text : Name) → f a ≡ Some text → f b ≡ Some text → a ≡ b) → (names : List Name) → repeats names ≡ false → repeats (filter_map f names) ≡ false
picked_once f one [] e = refl
picked_once f one (n ∷ names) e = let both = neither (has_name names n) (repeats names) e in by (f n) refl both.0 (picked_once f one names both.1) where
  by : (o : Option Name) → f n ≡ o → has_name names n ≡ false → repeats (filter_map f names) ≡ false → repeats (cons_option o (filter_map f names)) ≡ false
  by None is lacks rest = rest
  by (Some text) is lacks rest = of (has_name (filter_map f names) text) refl where
    of : (b : Bool) → has_name (filter_map f names) text ≡ b → (has_name (filter_map f names) text || repeats (filter_map f names)) ≡ false
    of false g = ap₂ (λ (a b : Bool). a || b) g rest
    of true g =
        let m = picked_has f names text (named_has (filter_map f names) text g) in
        absurd (true≢false (sym ((bytes_eq-Decides n m.0).1 (one n m.0 text is m.2)) ∙ none_passes (bytes_eq n) names m.0 lacks m.1))

-- what is kept of two halves

lacks_kept : (q r : Name → Bool) (xs ys : List Name) (n : Name) → has_name (xs ++ ys) n ≡ false → has_name (filter q xs ++ filter r ys) n ≡ false
lacks_kept q r [] [] n e = refl
lacks_kept q r [] (y ∷ ys) n e = let both = neither (bytes_eq n y) (has_name ys n) e in by (r y) (lacks_kept q r [] ys n both.1) where
  by : (b : Bool) → has_name (filter r ys) n ≡ false → has_name (cond b (y ∷ filter r ys) (filter r ys)) n ≡ false
  by true f = ap₂ (λ (a b : Bool). a || b) (neither (bytes_eq n y) (has_name ys n) e).0 f
  by false f = f
lacks_kept q r (x ∷ xs) ys n e = let both = neither (bytes_eq n x) (has_name (xs ++ ys) n) e in by (q x) both.0 (lacks_kept q r xs ys n both.1) where
  by : (b : Bool) → bytes_eq n x ≡ false → has_name (filter q xs ++ filter r ys) n ≡ false → has_name (cond b (x ∷ filter q xs) (filter q xs) ++ filter r ys) n ≡ false
  by true f g = ap₂ (λ (a b : Bool). a || b) f g
  by false f g = g

once_kept : (q r : Name → Bool) (xs ys : List Name) → repeats (xs ++ ys) ≡ false → repeats (filter q xs ++ filter r ys) ≡ false
once_kept q r [] [] e = refl
once_kept q r [] (y ∷ ys) e = let both = neither (has_name ys y) (repeats ys) e in by (r y) (lacks_kept q r [] ys y both.0) (once_kept q r [] ys both.1) where
  by : (b : Bool) → has_name (filter r ys) y ≡ false → repeats (filter r ys) ≡ false → repeats (cond b (y ∷ filter r ys) (filter r ys)) ≡ false
  by true f g = ap₂ (λ (a b : Bool). a || b) f g
  by false f g = g
once_kept q r (x ∷ xs) ys e = let both = neither (has_name (xs ++ ys) x) (repeats (xs ++ ys)) e in by (q x) (lacks_kept q r xs ys x both.0) (once_kept q r xs ys both.1) where
  by : (b : Bool) → has_name (filter q xs ++ filter r ys) x ≡ false → repeats (filter q xs ++ filter r ys) ≡ false → repeats (cond b (x ∷ filter q xs) (filter q xs) ++ filter r ys) ≡ false
  by true f g = ap₂ (λ (a b : Bool). a || b) f g
  by false f g = g

once_left : (xs ys : List Name) → repeats (xs ++ ys) ≡ false → repeats xs ≡ false
once_left [] ys e = refl
once_left (x ∷ xs) ys e = let both = neither (has_name (xs ++ ys) x) (repeats (xs ++ ys)) e in ap₂ (λ (a b : Bool). a || b) (lacks xs both.0) (once_left xs ys both.1) where
  lacks : (zs : List Name) → has_name (zs ++ ys) x ≡ false → has_name zs x ≡ false
  lacks [] f = refl
  lacks (z ∷ zs) f = let both = neither (bytes_eq x z) (has_name (zs ++ ys) x) f in ap₂ (λ (a b : Bool). a || b) both.0 (lacks zs both.1)

once_right : (xs ys : List Name) → repeats (xs ++ ys) ≡ false → repeats ys ≡ false
once_right [] ys e = e
once_right (x ∷ xs) ys e = once_right xs ys (neither (has_name (xs ++ ys) x) (repeats (xs ++ ys)) e).1

none_outer : (d : Decl16) → NoBlocks (d ∷ []) → outer_counters d ≡ []
none_outer (decl16.Control c) h = absurd h
none_outer (decl16.Header c) h = refl
none_outer (decl16.Struct c) h = refl
none_outer (decl16.Instance n c) h = refl
none_outer (decl16.Parser c) h = refl

module _ (ds : List Decl) (x : Expanded) (given : IsGiven ds x) (under : Rule14) where
  abbrev p : Parts
  p = translated ds x under

  -- a table's counter belongs to it alone
  one_counter : (a b text : Name) → counter_called ds a ≡ Some text → counter_called ds b ≡ Some text → a ≡ b
  one_counter a b text e f = by (first_name (filter_map (counts_entries_of a) ds)) (first_name (filter_map (counts_entries_of b) ds)) refl refl e f where
    by : (o q : Option Name) → first_name (filter_map (counts_entries_of a) ds) ≡ o → first_name (filter_map (counts_entries_of b) ds) ≡ q → option_map (new_name ds sort.Object) o ≡ Some text → option_map (new_name ds sort.Object) q ≡ Some text → a ≡ b
    by None q i j e f = absurd (cc e)
    by (Some n) None i j e f = absurd (cc f)
    by (Some n) (Some m) i j e f =
        let d = picked_has (counts_entries_of a) ds n (first_has (filter_map (counts_entries_of a) ds) n i) in
        let c = picked_has (counts_entries_of b) ds m (first_has (filter_map (counts_entries_of b) ds) m j) in
        let of_d = one_direct a d.0 n d.2 in
        let of_c = one_direct b c.0 m c.2 in
        let top_n = object_at_top ds given.none given.short x p (parts_are ds x under) n (has_picked (name_in sort.Object) ds d.0 n d.1 of_d.0) in
        let top_m = object_at_top ds given.none given.short x p (parts_are ds x under) m (has_picked (name_in sort.Object) ds c.0 m c.1 of_c.0) in
        let text_n : new_name ds sort.Object n ≡ text = cc e in
        let text_m : new_name ds sort.Object m ≡ text = cc f in
        let same : n ≡ m = inside n m (sym top_n ∙ ap (plane_among (Rattle.std.specs.Prelude.filter_map top_object (decls_of p))) (text_n ∙ sym text_m) ∙ top_m) in
        let found_d = declaration_found ds given.none sort.Object d.0 n d.1 of_d.0 in
        let found_c = declaration_found ds given.none sort.Object c.0 m c.1 of_c.0 in
        let one : c.0 ≡ d.0 = inside c.0 d.0 (sym found_c ∙ ap (declaration_of sort.Object ds) (sym same) ∙ found_d) in
        of_d.1 b (ap (counts_entries_of b) (sym one) ∙ c.2 ∙ ap Some (sym same))
      where
        inside : {X : Type 0} (a b : X) → Some a ≡ Some b → a ≡ b
        inside a b g = cc g

  -- what is written for a table tells its counter
  written_counter : (name : Name) → counters_in (table_written ds x name) ≡ counter_called ds name
  written_counter name =
      let t = unwrap_or (table_of ds name) (no_table name) in
      found_counters (map (copy_name ((plan ds x).copy name)) (each_once (listed_in t))) (size_literal (size_of t.attributes) (max_size_of t.attributes)) (counter_called ds name) (copy_name ((plan ds x).copy name)) (λ (n : Name). arguments_exp no_arguments (widths_of_action ds n) (unwrap_or (default_arguments_of t.attributes) [])) (default_action_of t.attributes) (map (key_of (pipeline_words ds) ds) (reads_of t.attributes))

  written_counters : (names : List Name) → filter_map counters_in (map (table_written ds x) names) ≡ filter_map (counter_called ds) names
  written_counters [] = refl
  written_counters (n ∷ names) = ap₂ cons_option (written_counter n) (written_counters names)

  abbrev in_names : List Name
  in_names = filter (stands_in ds x false) (names_in sort.Table ds)

  abbrev out_names : List Name
  out_names = filter (λ (n : Name). not (stands_in ds x false n)) (names_in sort.Table ds)

  names_once : repeats (in_names ++ out_names) ≡ false
  names_once = ap repeats (sym (tables_same ds x p (parts_are ds x under) (stands_in ds x false) (table_written ds x) (tables_are ds x under))) ∙ (text ds x under given).tables

  counters_once : repeats (filter_map (counter_called ds) in_names ++ filter_map (counter_called ds) out_names) ≡ false
  counters_once = ap repeats (sym (filter_map-append (counter_called ds) in_names out_names)) ∙ picked_once (counter_called ds) one_counter (in_names ++ out_names) names_once

  in_counters : filter_map counters_in (tables_in16 p.ingress) ≡ filter_map (counter_called ds) in_names
  in_counters = ap (filter_map counters_in) (tables_are ds x under).ingress ∙ written_counters in_names

  out_counters : filter_map counters_in (tables_in16 p.egress) ≡ filter_map (counter_called ds) out_names
  out_counters = ap (filter_map counters_in) (tables_are ds x under).egress ∙ written_counters out_names

  pub ingress_once : repeats (filter_map counters_in (tables_in16 p.ingress)) ≡ false
  ingress_once = ap repeats in_counters ∙ once_left (filter_map (counter_called ds) in_names) (filter_map (counter_called ds) out_names) counters_once

  pub egress_once : repeats (filter_map counters_in (tables_in16 p.egress)) ≡ false
  egress_once = ap repeats out_counters ∙ once_right (filter_map (counter_called ds) in_names) (filter_map (counter_called ds) out_names) counters_once

  pub all_once : repeats (flat_map outer_counters (decls_of p)) ≡ false
  all_once =
      ap repeats (gathered outer_counters none_outer (top_decls ds x) (blocks_of p) (top_no_blocks ds x))
      ∙ by (filter_map counters_in (tables_in16 p.ingress)) (filter_map counters_in (tables_in16 p.egress)) in_counters out_counters
    where
      q : Name → Bool
      q = is_not_among (map called_of (control_names [] p.ingress))

      r : Name → Bool
      r = is_not_among (map called_of (control_names [] p.egress))

      end : (a b : List Name) → repeats (a ++ b) ≡ false → repeats (a ++ (b ++ [])) ≡ false
      end a b e = ap (λ (l : List Name). repeats (a ++ l)) (Rattle.std.proofs.lemmas.List.append-nil b) ∙ e

      by : (a b : List Name) → a ≡ filter_map (counter_called ds) in_names → b ≡ filter_map (counter_called ds) out_names → repeats (filter q a ++ (filter r b ++ [])) ≡ false
      by a b e f =
          ap₂ (λ (a b : List Name). repeats (filter q a ++ (filter r b ++ []))) e f
          ∙ end (filter q (filter_map (counter_called ds) in_names)) (filter r (filter_map (counter_called ds) out_names)) (once_kept q r (filter_map (counter_called ds) in_names) (filter_map (counter_called ds) out_names) counters_once)
