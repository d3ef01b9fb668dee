-- The tables of a pipeline are spelt, and what its statements name of them.
use Rattle.std.proofs.Common.{◌≡◌, ℕ, Bool, true, false, ◌&&◌, Option, Some, None, option_map, List, [], ◌∷◌, ◌++◌, map, refl, sym, ap, subst}
use Rattle.std.specs.Prelude.{is_some, unwrap_or}
use Rattle.std.specs.List.{list_all, list_any, AllByRecursion}
use Rattle.std.specs.Option.{option_map_or}
use Rattle.match_core.specs.declared.entries.Entries.{Entries}
use Rattle.p414_syntax.specs.declared.syntax.Decl.{Decl}
use Rattle.p414_syntax.specs.declared.syntax.Decl.TheVariants as decl
use Rattle.p414_syntax.specs.declared.syntax.Rule14.{Rule14}
use Rattle.p414_syntax.specs.declared.syntax.Rule14.TheVariants as rule
use Rattle.p414_syntax.specs.declared.syntax.Sort.TheVariants as sort
use Rattle.p414_syntax.specs.declared.tables.Table.{Table}
use Rattle.p414_syntax.specs.declared.tables.TableAttr.{TableAttr}
use Rattle.p414_syntax.specs.declared.tables.TableAttr.TheVariants as table_attr
use Rattle.p414_syntax.specs.Arguments.{action_number}
use Rattle.p414_syntax.specs.Attributes.{actions_of, action_profile_of}
use Rattle.p414_syntax.specs.Conditions.{is_some_listed, is_decl, is_table_attr, all_different, has_word, table_needs}
use Rattle.p414_syntax.specs.Names.{Name, name_in}
use Rattle.p414_syntax.specs.Tables.{table_in, tables, listed_in}
use Rattle.p414_syntax.specs.Tree.{Stmt}
use Rattle.p414_syntax.specs.Unsupported.{declares_unsupported}
use Rattle.p414_syntax.specs.Written.{table_word}
use Rattle.p414_sem.specs.Expanded.{Expanded}
use Rattle.p414_sem.specs.Signatures.{parameter_widths, table_of}
use Rattle.p416_syntax.specs.declared.controls.Local.TheVariants as local
use Rattle.v1_core.specs.declared.block.Block.{Block}
use Rattle.v1_core.specs.Blocks.{owners_of, around_control, control_world}
use Rattle.v1_core.specs.Frames.{of_headers, of_metadata, of_standard}
use Rattle.lower_laws_names.specs.Copies.{Copy}
use Rattle.lower_laws_names.specs.Reaches.{Outer, outer_name}
use Rattle.lower_laws_controls.specs.Listing.{copy_text, widths_of_action}
use Rattle.lower_laws_states.specs.Expansions.{Has}
use Rattle.lower_laws_states.proofs.Chosen.{declared_table}
use Rattle.lower_laws_states.proofs.Expansion.{each_joined}
use Rattle.lower_laws_states.proofs.Filling.{table_numbered, each_there}
use Rattle.lower_laws_states.proofs.Members.{neither, none_passes, has_at, has_picked, picked_has, mapped_has, each_has}
use Rattle.lower_laws_states.proofs.Rules.{all_supported}
use Rattle.lower_laws_premises.proofs.Literals.{all_pass}
use Rattle.lower_laws_premises.proofs.Widths.{parameters_wide}
use Rattle.lower_laws_program.specs.Controls.{old_locals}
use Rattle.lower_laws_program.specs.Fits.{pipeline_block, setting_of}
use Rattle.lower_laws_rules.specs.Spelling.{SpeltName, SpeltAction, SpeltTable, SpeltLocal}
use Rattle.lower_laws_declared.specs.Controls.{table_place}
use Rattle.lower_laws_declared.specs.Layout.{program_layout, type_words}
use Rattle.lower_laws_declared.specs.Objects.{objects_by_number}
use Rattle.lower_laws_block_rules.specs.Program.{LayoutWide}
use Rattle.lower_laws_block_rules.specs.Statements.{TableSpelt}
use Rattle.lower_laws_block_rules.specs.Tables.{CopySpelt, TableNamed}
use Rattle.lower_laws_block_rules.specs.Widths.{IsWidth}
use Rattle.lower_laws_block_rules.proofs.OfProgram.{wide_here}
use Rattle.lower_laws_block_rules.proofs.SpeltTables.{table_here as spelt_by}
use Rattle.lower_laws_block_rules.proofs.NamesSpelt.{LayoutNamed, named_here}
use Rattle.lower_laws_translated.specs.Given.{IsGiven}
use Rattle.lower_laws_translated.specs.Translated.{counter_called, tables_in, copies_in, table_written, action_written, rule_in, locals_in, plan}
use Rattle.lower_laws_translated.proofs.Acts.{p, control, b, outer}
use Rattle.lower_laws_translated.proofs.Locals.{tables_there}
use Rattle.lower_laws_translated.proofs.OuterSpelt.{sort_read, sort_spelt, label_spelt, counter_spelt}
use Rattle.lower_laws_translated.proofs.TablesKept.{each_has as each_listed, calls_it, table_here, written}

-- a table lists an action (S1), since it has no action profile (C25)

both : (a b : Bool) → (a && b) ≡ true → (a ≡ true) × (b ≡ true)
both true b e = (refl, e)
both false b e = absurd (cc e)

lists_some : (attributes : List TableAttr) → list_all is_table_attr attributes ≡ true → has_word table_needs (map table_word attributes) ≡ true → is_some (action_profile_of attributes) ≡ false → is_some_listed (actions_of attributes) ≡ true
lists_some [] all needs none = absurd (cc needs)
lists_some (table_attr.Actions names ∷ rest) all needs none = (both (is_some_listed names) (list_all is_table_attr rest) all).0
lists_some (table_attr.ActionProfile name ∷ rest) all needs none = absurd (cc none)
lists_some (_ ∷ rest) all needs none = lists_some rest all needs none

-- variables of the parallel rule
olds_spelt : (r : Rule14) → AllByRecursion SpeltLocal (old_locals r)
olds_spelt rule.Sequential = tt
olds_spelt rule.Parallel = ((refl, refl, refl), ((refl, refl, refl), ((refl, refl, refl), tt)))

module _ (ds : List Decl) (x : Expanded) (given : IsGiven ds x) where
  table_declared : (name : Name) (t : Table) → table_of ds name ≡ Some t → Has ds (decl.Table t)
  table_declared name t is =
      let n = table_numbered ds name t is in
      let d = picked_has table_in ds t (has_at (tables ds) n.0 t n.2) in
      subst (Has ds) (declared_table d.0 t d.2) d.1

  lists_action : (t : Table) → Has ds (decl.Table t) → is_some_listed (listed_in t) ≡ true
  lists_action t h =
      let a = both (list_all is_table_attr t.attributes) (all_different (map table_word t.attributes) && has_word table_needs (map table_word t.attributes)) (all_pass is_decl ds (decl.Table t) given.spelt.grammar h) in
      let needs = (both (all_different (map table_word t.attributes)) (has_word table_needs (map table_word t.attributes)) a.1).1 in
      lists_some t.attributes a.0 needs (none_passes declares_unsupported ds (decl.Table t) (neither (list_any declares_unsupported ds) _ (all_supported ds given.none)).0 h)

  widths_spelt : (action : Name) → AllByRecursion IsWidth (widths_of_action ds action)
  widths_spelt action = by (action_number ds action) where
    by : (o : Option ℕ) → AllByRecursion IsWidth (option_map_or (parameter_widths ds) o [])
    by None = tt
    by (Some k) = parameters_wide ds given.none given.spelt k

  module _ (under : Rule14) (entries : Entries) (wide : LayoutWide (program_layout ds entries)) (named : LayoutNamed (program_layout ds entries)) (e : Bool) (text : Name) (body : Stmt) (which : Block) (owners : owners_of which ≡ of_headers ∷ of_metadata ∷ of_standard ∷ []) where
    copy_spelt : (name : Name) → Has (tables_in ds x e) name → (t : Table) → table_of ds name ≡ Some t → (action : Name) → Has (listed_in t) action → SpeltName (copy_text ((plan ds x).copy name) action)
    copy_spelt name has t is action listed =
        let o = calls_it ds x given under entries e text body which owners name has t is action listed in
        subst (λ (q : Option Outer). SpeltName (unwrap_or (option_map (outer_name ds) q) [])) (sym o.1)
        (label_spelt ds x given (table_place ds name) action (outer_name ds o.0) (ap (option_map (outer_name ds)) o.1))

    table_named : (name : Name) → Has (tables_in ds x e) name → (t : Table) → table_of ds name ≡ Some t → TableNamed ds ((plan ds x).copy name) ((plan ds x).table name) (counter_called ds name) t
    table_named name has t is =
        let h = table_declared name t is in
        record {
          some = lists_action t h;
          plane = sort_read ds x given sort.Table t.name (has_picked (name_in sort.Table) ds (decl.Table t) t.name h refl);
          spelt = sort_spelt ds x given sort.Table name (tables_there ds given.none given.short x under e name has);
          counter_spelt = counter_spelt ds x given name;
          actions = each_listed (CopySpelt ds ((plan ds x).copy name)) (listed_in t) (λ action listed. (copy_spelt name has t is action listed, widths_spelt action));
        }

    table_spelt : (name : Name) → Has (tables_in ds x e) name → SpeltTable (table_written ds x name)
    table_spelt name has =
        let t = each_there ds name (tables_there ds given.none given.short x under e name has) in
        let w = control_world (around_control (setting_of (p ds x given under entries e text body which owners) entries) which (control ds x given under entries e text body which owners)) in
        let block = pipeline_block (rule_in ds x under e) (objects_by_number ds) in
        subst SpeltTable (sym (written ds x given under entries e text body which owners name has t.0 t.1))
        (spelt_by (outer ds x given under entries e text body which owners) ds (b ds x given under entries e text body which owners).scope
        (wide_here (program_layout ds entries) (type_words ds x) block w wide)
        (named_here (program_layout ds entries) (type_words ds x) named block w refl)
        ((plan ds x).copy name) ((plan ds x).table name) (counter_called ds name) t.0
        (table_here ds x given under entries e text body which owners name has t.0 t.1)
        (table_named name has t.0 t.1))

    -- the declarations of the pipeline, if copies of actions are
    pub locals_spelt : ((a : Copy) → Has (copies_in ds x e) a → SpeltAction (action_written ds x under a)) → AllByRecursion SpeltLocal (control ds x given under entries e text body which owners).locals
    locals_spelt actions =
        each_joined SpeltLocal (old_locals (rule_in ds x under e)) (locals_in ds x under e) (olds_spelt (rule_in ds x under e))
        (each_joined SpeltLocal (map (λ (a : Copy). local.Action (action_written ds x under a)) (copies_in ds x e)) (map (λ (n : Name). local.Table (table_written ds x n)) (tables_in ds x e))
        (each_has SpeltLocal (map (λ (a : Copy). local.Action (action_written ds x under a)) (copies_in ds x e)) (λ l h. let m = mapped_has (λ (a : Copy). local.Action (action_written ds x under a)) (copies_in ds x e) l h in subst SpeltLocal m.2 (actions m.0 m.1)))
        (each_has SpeltLocal (map (λ (n : Name). local.Table (table_written ds x n)) (tables_in ds x e)) (λ l h. let m = mapped_has (λ (n : Name). local.Table (table_written ds x n)) (tables_in ds x e) l h in subst SpeltLocal m.2 (table_spelt m.0 m.1))))

    pub tables_spelt : (table : Name) → Has (tables_in ds x e) table → TableSpelt (plan ds x) table
    tables_spelt table has = record {
      table = sort_spelt ds x given sort.Table table (tables_there ds given.none given.short x under e table has);
      labels = λ action called f. label_spelt ds x given (table_place ds table) action called f;
    }
