-- The tables of a pipeline are as the rules ask (C2, C4, C11, C12, C24).
use Rattle.std.proofs.Common.{◌≡◌, inl, inr, ℕ, zero, suc, ◌+◌, ◌<◌, Bool, true, false, cond, Option, Some, None, option_map, List, [], ◌∷◌, ◌++◌, length, map, get_or, refl, sym, ap, ◌∙◌, subst, arith}
use Rattle.std.specs.Prelude.{filter_map, slice_get, unwrap_or}
use Rattle.std.specs.Option.{option_map_or}
use Rattle.std.specs.Str.{bytes_eq}
use Rattle.match_core.specs.declared.entries.Entries.{Entries}
use Rattle.p414_syntax.specs.declared.syntax.Decl.{Decl}
use Rattle.p414_syntax.specs.declared.syntax.Decl.TheVariants as decl
use Rattle.p414_syntax.specs.declared.syntax.Rule14.{Rule14}
use Rattle.p414_syntax.specs.declared.syntax.Sort.TheVariants as sort
use Rattle.p414_syntax.specs.declared.tables.Table.{Table}
use Rattle.p414_syntax.specs.Attributes.{direct_table_of}
use Rattle.p414_syntax.specs.Tree.{Stmt}
use Rattle.p414_syntax.specs.Names.{Name, names_in, name_in, has_name}
use Rattle.p414_syntax.specs.Tables.{tables, listed_in}
use Rattle.p414_sem.specs.Expanded.{Expanded}
use Rattle.p414_sem.specs.Operations.{in_order}
use Rattle.p414_sem.specs.Signatures.{counts_entries_of, first_name, table_of}
use Rattle.p416_syntax.specs.declared.controls.Action16.{Action16}
use Rattle.p416_syntax.specs.declared.controls.Local.TheVariants as local
use Rattle.p416_syntax.specs.declared.controls.Table16.{Table16}
use Rattle.p416_syntax.specs.declared.parts.Param.{Param}
use Rattle.p416_syntax.specs.Kinds.{direct_counter as direct_kind}
use Rattle.p416_syntax.specs.Scopes.{Scope, Known, Handed, an_action, an_object as of_object, sort_of, handed}
use Rattle.p416_syntax.specs.Declarations.{top_names}
use Rattle.v1_core.specs.declared.block.Block.{Block}
use Rattle.v1_core.specs.Blocks.{owners_of, around_control}
use Rattle.v1_core.specs.Frames.{of_headers, of_metadata, of_standard}
use Rattle.v1_core.specs.Signatures.{handed_width}
use Rattle.agreement_of_meanings.specs.Shown.{NamedField}
use Rattle.lower_laws_names.specs.NewNames.{new_name}
use Rattle.lower_laws_names.specs.Reaches.{Outer, outer_name}
use Rattle.lower_laws_names.specs.Copies.{Copy, outer_in, listings}
use Rattle.lower_laws_base.specs.Context.{Lowering, ObjectName, object_at, an_object, words_of}
use Rattle.lower_laws_controls.specs.Listing.{Each, widths_of_action}
use Rattle.lower_laws_controls.specs.Written.{table_text}
use Rattle.lower_laws_states.specs.Expansions.{Has}
use Rattle.lower_laws_states.proofs.Members.{has_at, has_right, has_mapped, has_picked, picked_has}
use Rattle.lower_laws_states.proofs.Filling.{in_order_has, has_found, named_so, table_numbered, each_there}
use Rattle.lower_laws_premises.proofs.Rules.{has_so}
use Rattle.lower_laws_program.specs.Program.{decls_of}
use Rattle.lower_laws_program.specs.Controls.{old_locals}
use Rattle.lower_laws_program.specs.Fits.{setting_of}
use Rattle.lower_laws_rules.specs.Declared.{bits_given, FitsCounters}
use Rattle.lower_laws_declared.specs.Controls.{table_place}
use Rattle.lower_laws_declared.specs.Objects.{kind_in, object_called, objects_by_number}
use Rattle.lower_laws_declared.proofs.Found.{declaration_found}
use Rattle.lower_laws_declared.proofs.Objects.{objects_count, object_name_at}
use Rattle.lower_laws_declared.proofs.Pipelines.{place_of_table, listed_there}
use Rattle.lower_laws_block_rules.specs.Tables.{IsCopyHere, TableHere}
use Rattle.lower_laws_block_rules.specs.Wholes.{LocalHere, TablePlaced}
use Rattle.lower_laws_block_rules.proofs.RuledControls.{table_ruled}
use Rattle.lower_laws_translated.specs.Given.{IsGiven}
use Rattle.lower_laws_translated.specs.Translated.{parameter_of, new_parameters_of, number_in, counter_called, no_table, is_in_egress, tables_in, copies_in, table_written, action_written, rule_in, locals_in, plan, pipeline_words}
use Rattle.lower_laws_translated.proofs.Copies.{line_of, outer_from}
use Rattle.lower_laws_translated.proofs.Locals.{locals_are, tables_there}
use Rattle.lower_laws_translated.proofs.Acts.{p, control, b, outer, outer_sees, tables_declared, found_copy}
use Rattle.lower_laws_translated.proofs.Keys.{keys_fit}
use Rattle.lower_laws_translated.proofs.Listed.{tables_once, its_pipeline}
use Rattle.lower_laws_translated.proofs.Shown.{within, within_shows}

pub each_has : {X : Type 0} (P : X → Type 0) (xs : List X) → ((x : X) → Has xs x → P x) → Each P xs
each_has P [] f = tt
each_has P (x ∷ xs) f = (f x (inl refl), each_has P xs (λ y h. f y (inr h)))

-- where something stands in a list
pub parted : {X : Type 0} (xs : List X) (y : X) → Has xs y → (before : List X) × (after : List X) × (xs ≡ before ++ y ∷ after)
parted [] y h = absurd h
parted (x ∷ xs) y (inl same) = ([], xs, ap (λ (z : _). z ∷ xs) same)
parted (x ∷ xs) y (inr h) = let r = parted xs y h in (x ∷ r.0, r.1, ap (λ (l : List _). x ∷ l) r.2)

-- parameters of actions are bits
all_bits : (names : List Known) (ps : List NamedField) → map (handed names) (map parameter_of ps) ≡ map bits_given (map handed_width (map (handed names) (map parameter_of ps)))
all_bits names [] = refl
all_bits names (f ∷ ps) = ap (λ (l : List Handed). bits_given f.width ∷ l) (all_bits names ps)

-- what counts the entries of a table is a direct counter
pub direct_of : (table : Name) (d : Decl) (n : Name) → counts_entries_of table d ≡ Some n → (name_in sort.Object d ≡ Some n) × (kind_in d ≡ direct_kind)
direct_of table (decl.Counter x) n e = by (direct_table_of x.attributes) refl where
  unwritten : direct_table_of x.attributes ≡ None → counts_entries_of table (decl.Counter x) ≡ None
  unwritten f = rw f refl

  written : (u : Name) → direct_table_of x.attributes ≡ Some u → counts_entries_of table (decl.Counter x) ≡ cond (bytes_eq u table) (Some x.name) None
  written u f = rw f refl

  of : (u : Name) (q : Bool) → cond q (Some x.name) None ≡ Some n → x.name ≡ n
  of u true f = cc f
  of u false f = absurd (cc f)

  by : (o : Option Name) → direct_table_of x.attributes ≡ o → (name_in sort.Object (decl.Counter x) ≡ Some n) × (kind_in (decl.Counter x) ≡ direct_kind)
  by None f = absurd (cc (unwritten f, e))
  by (Some u) f = (ap Some (of u (bytes_eq u table) (sym (written u f) ∙ e)), rw f refl)
direct_of table _ n e = absurd (cc e)

pub first_has : (names : List Name) (n : Name) → first_name names ≡ Some n → Has names n
first_has [] n e = absurd (cc e)
first_has (m ∷ names) n e = inl (cc e)

pub slice_within : (names : List Name) (j : ℕ) (n : Name) → slice_get names j ≡ Some n → j < length names
slice_within [] j n e = absurd (cc e)
slice_within (m ∷ names) zero n e = omega arith
slice_within (m ∷ names) (suc j) n e = omega (arith, slice_within names j n e)

pub got_or : (names : List Name) (j : ℕ) (n : Name) → slice_get names j ≡ Some n → get_or names j [] ≡ n
got_or [] j n e = absurd (cc e)
got_or (m ∷ names) zero n e = cc e
got_or (m ∷ names) (suc j) n e = got_or names j n e

module _ (ds : List Decl) (x : Expanded) (given : IsGiven ds x) (under : Rule14) (entries : Entries) (e : Bool) (text : Name) (body : Stmt) (which : Block) (owners : owners_of which ≡ of_headers ∷ of_metadata ∷ of_standard ∷ []) where
  abbrev c : Lowering
  c = outer ds x given under entries e text body which owners

  abbrev s : Scope
  s = (b ds x given under entries e text body which owners).scope

  abbrev around : Lowering
  around = within ds given.none given.short x given.expanded entries (rule_in ds x under e) [] (around_control (setting_of (p ds x given under entries e text body which owners) entries) which (control ds x given under entries e text body which owners)) 0

  counter_here : (table : Name) → FitsCounters s (counter_called ds table)
  counter_here table = by (first_name (filter_map (counts_entries_of table) ds)) refl where
    by : (o : Option Name) → first_name (filter_map (counts_entries_of table) ds) ≡ o → FitsCounters s (option_map (new_name ds sort.Object) o)
    by None f = tt
    by (Some n) f =
        let d = picked_has (counts_entries_of table) ds n (first_has (filter_map (counts_entries_of table) ds) n f) in
        let told = direct_of table d.0 n d.2 in
        let found = has_found (in_order (names_in sort.Object ds)) n (in_order_has (names_in sort.Object ds) n (has_picked (name_in sort.Object) ds d.0 n d.1 told.0)) in
        let j = found.0 in
        let lt : j < length (objects_by_number ds) = omega (arith, slice_within (in_order (names_in sort.Object ds)) j n found.2, objects_count ds) in
        let at : object_at (objects_by_number ds) j ≡ object_called ds n = object_name_at ds j lt ∙ ap (object_called ds) (got_or (in_order (names_in sort.Object ds)) j n found.2) in
        ap (λ (o : ObjectName). sort_of s o.called) (sym at)
        ∙ (outer_sees ds x given under entries e text body which owners).declares.named (an_object j) lt
        ∙ ap (λ (o : ObjectName). of_object o.kind) at
        ∙ ap of_object (ap (λ (o : Option Decl). option_map_or kind_in o Rattle.p416_syntax.specs.Kinds.meter) (declaration_found ds given.none sort.Object d.0 n d.1 told.0) ∙ told.1)

  module _ (name : Name) (has : Has (tables_in ds x e) name) (t : Table) (is : table_of ds name ≡ Some t) where
    -- it has a name for each action that it lists
    pub calls_it : (action : Name) → Has (listed_in t) action → (o : Outer) × (outer_in (listings ds (is_in_egress ds x)) (table_place ds name) action ≡ Some o)
    calls_it action listed =
        let one = listed_there ds given.none given.short (p ds x given under entries e text body which owners) (is_in_egress ds x) e (tables_in ds x e) (tables_once ds x given under entries e text body which owners) (tables_declared ds x given under entries e text body which owners) (table_written ds x) (locals_in ds x under e) (locals_are ds given.none given.short x under e) entries which (control ds x given under entries e text body which owners) (rule_in ds x under e) refl refl name t is (its_pipeline ds x given under entries e text body which owners name has t is) action listed in
        (one.outer, one.found)

    listed_here : (action : Name) → Has (listed_in t) action → IsCopyHere ds s ((plan ds x).copy name) action
    listed_here action listed =
        let one = listed_there ds given.none given.short (p ds x given under entries e text body which owners) (is_in_egress ds x) e (tables_in ds x e) (tables_once ds x given under entries e text body which owners) (tables_declared ds x given under entries e text body which owners) (table_written ds x) (locals_in ds x under e) (locals_are ds given.none given.short x under e) entries which (control ds x given under entries e text body which owners) (rule_in ds x under e) refl refl name t is (its_pipeline ds x given under entries e text body which owners name has t is) action listed in
        let names = top_names (decls_of (p ds x given under entries e text body which owners)) in
        let found = found_copy ds x given under entries e text body which owners (outer_name ds one.outer) one.copied.of one.copied.declared16 in
        let same : one.copied.of.parameters ≡ map parameter_of (new_parameters_of ds (number_in ds found.copy)) = ap (λ (a : Action16). a.parameters) found.is in
        let bits : map (handed names) one.copied.of.parameters ≡ map bits_given (widths_of_action ds action) =
        ap (map (handed names)) same ∙ all_bits names (new_parameters_of ds (number_in ds found.copy))
        ∙ ap (map bits_given) (ap (λ (l : List Param). map handed_width (map (handed names) l)) (sym same) ∙ one.copied.widths) in
        ap (λ (q : Option Outer). sort_of s (unwrap_or (option_map (outer_name ds) q) [])) one.found ∙ one.copied.sort ∙ ap (λ (l : List Handed). an_action action l) bits

    pub table_here : TableHere c ds s ((plan ds x).copy name) (counter_called ds name) t
    table_here =
        let n = table_numbered ds name t is in
        let shown = within_shows ds given.none given.short x given.expanded entries (rule_in ds x under e) [] (around_control (setting_of (p ds x given under entries e text body which owners) entries) which (control ds x given under entries e text body which owners)) 0 in
        table_ruled ds given.none c s ((plan ds x).copy name) (counter_called ds name) name t is
        (keys_fit around ds given.none shown.instances shown.roots t (has_at (tables ds) n.0 t n.2))
        (each_has (IsCopyHere ds s ((plan ds x).copy name)) (listed_in t) listed_here)
        (counter_here name)

    pub written : table_written ds x name ≡ table_text (words_of c) ds ((plan ds x).copy name) ((plan ds x).table name) (counter_called ds name) t
    written = ap (λ (o : Option Table). table_text (pipeline_words ds) ds ((plan ds x).copy name) ((plan ds x).table name) (counter_called ds name) (unwrap_or o (no_table name))) is

    -- what the table calls an action comes from an action that it lists
    lists : (action called : Name) → (plan ds x).copy name action ≡ Some called → has_name (listed_in t) action ≡ true
    lists action called f = by (outer_in (listings ds (is_in_egress ds x)) (table_place ds name) action) refl f where
      by : (o : Option Outer) → outer_in (listings ds (is_in_egress ds x)) (table_place ds name) action ≡ o → option_map (outer_name ds) o ≡ Some called → has_name (listed_in t) action ≡ true
      by None g f = absurd (cc f)
      by (Some o) g f =
          let from = outer_from (listings ds (is_in_egress ds x)) (table_place ds name) action o g in
          let at = line_of ds (is_in_egress ds x) 0 0 (tables ds) from.line from.has in
          let place : at.place ≡ table_place ds name = omega (arith, at.table_is, from.table_is) in
          let table_is : at.of ≡ t = inside at.of t (sym at.there ∙ ap (slice_get (tables ds)) place ∙ place_of_table ds name t is) in
          has_so (listed_in t) action (subst (λ (u : Table). Has (listed_in u) action) table_is (subst (Has (listed_in at.of)) from.action_is at.listed))
        where
          inside : (a b : Table) → Some a ≡ Some b → a ≡ b
          inside a b g = cc g

  -- among the declarations of the pipeline
  pub table_local : (name : Name) → Has (tables_in ds x e) name → LocalHere c ds s (plan ds x) (local.Table (table_written ds x name))
  table_local name has =
      let t = each_there ds name (tables_there ds given.none given.short x under e name has) in
      let named : name ≡ t.0.name = sym (named_so ds name t.0 t.1) in (
        t.0,
        counter_called ds name,
        written name has t.0 t.1 ∙ ap (λ (n : Name). table_text (words_of c) ds ((plan ds x).copy n) ((plan ds x).table n) (counter_called ds name) t.0) named,
        subst (λ (n : Name). TableHere c ds s ((plan ds x).copy n) (counter_called ds name) t.0) named (table_here name has t.0 t.1),
      )

  pub table_placed : (name : Name) → Has (tables_in ds x e) name → TablePlaced c ds s (plan ds x) (control ds x given under entries e text body which owners).locals name
  table_placed name has =
      let t = each_there ds name (tables_there ds given.none given.short x under e name has) in
      let stands = parted (old_locals (rule_in ds x under e) ++ locals_in ds x under e) (local.Table (table_written ds x name))
      (has_right (old_locals (rule_in ds x under e)) (locals_in ds x under e) _ (has_right (map (λ (c : Copy). local.Action (action_written ds x under c)) (copies_in ds x e)) (map (λ (n : Name). local.Table (table_written ds x n)) (tables_in ds x e)) _ (has_mapped (λ (n : Name). local.Table (table_written ds x n)) (tables_in ds x e) name has))) in
      record {
        table = t.0;
        counter = counter_called ds name;
        before = stands.0;
        after = stands.1;
        stands = stands.2 ∙ ap (λ (u : Table16). stands.0 ++ local.Table u ∷ stands.1) (written name has t.0 t.1);
        here = table_here name has t.0 t.1;
        listed = lists name has t.0 t.1;
      }
