-- A table that a pipeline applies fits, and is declared, once its actions do what those of P4_14 do.
use Rattle.std.proofs.Common.{◌≡◌, inl, inr, ℕ, Bool, true, false, Some, List, [], ◌∷◌, ◌++◌, refl, sym, ap, ◌∙◌}
use Rattle.std.specs.Prelude.{filter_map}
use Rattle.match_core.specs.declared.entries.Entries.{Entries}
use Rattle.p414_syntax.specs.declared.tables.Table.{Table}
use Rattle.p414_syntax.specs.declared.syntax.Decl.{Decl}
use Rattle.p414_syntax.specs.declared.syntax.Rule14.{Rule14}
use Rattle.p414_syntax.specs.declared.syntax.Sort.TheVariants as sort
use Rattle.p414_syntax.specs.Names.{Name, is_declared, repeats}
use Rattle.p414_syntax.specs.Arguments.{action_number}
use Rattle.p414_syntax.specs.Tables.{tables, listed_in}
use Rattle.p414_sem.specs.Controls.{Setting as Setting14}
use Rattle.p414_sem.specs.Expanded.{Expanded, IsExpanded}
use Rattle.p414_sem.specs.Signatures.{table_of, table_sig}
use Rattle.p416_syntax.specs.declared.controls.Action16.{Action16}
use Rattle.p416_syntax.specs.declared.controls.Table16.{Table16}
use Rattle.p416_syntax.specs.declared.controls.Local.{Local}
use Rattle.p416_syntax.specs.declared.controls.Control16.{Control16}
use Rattle.v1_core.specs.declared.block.Block.{Block}
use Rattle.v1_core.specs.Surroundings.{Surroundings, action_named}
use Rattle.v1_core.specs.Blocks.{around_control, control_world, act}
use Rattle.v1_core.specs.Signatures.{own_object}
use Rattle.lower_laws_base.specs.Context.{Lowering, words_of}
use Rattle.lower_laws_base.specs.Alike.{ActsAlike}
use Rattle.lower_laws_states.specs.Expansions.{Has}
use Rattle.lower_laws_states.specs.Laws.{BreaksNo}
use Rattle.lower_laws_states.proofs.Chosen.{table_has, action_there}
use Rattle.lower_laws_states.proofs.Filling.{named_so}
use Rattle.lower_laws_controls.specs.Controls.{Plan}
use Rattle.lower_laws_controls.specs.Listing.{Each, copy_text, widths_of_action}
use Rattle.lower_laws_controls.specs.Written.{table_text}
use Rattle.lower_laws_controls.proofs.Tables.{CopyDeclared}
use Rattle.lower_laws_controls.proofs.Fills.{TableDeclared}
use Rattle.lower_laws_controls.proofs.Written.{TableFits}
use Rattle.lower_laws_program.specs.Program.{Parts, pipeline_parameters}
use Rattle.lower_laws_program.specs.Scopes.{block_lowering}
use Rattle.lower_laws_program.specs.Controls.{old_locals}
use Rattle.lower_laws_program.specs.Fits.{setting_of, pipeline_block}
use Rattle.lower_laws_declared.specs.Layout.{program_layout, type_words, IsShort}
use Rattle.lower_laws_declared.specs.Objects.{objects_by_number}
use Rattle.lower_laws_declared.specs.Controls.{LocalsAre, table_place, plan_of, counter_of, pipeline_things, PartsAre}
use Rattle.lower_laws_declared.proofs.Controls.{old_none, none_own}
use Rattle.lower_laws_declared.proofs.Counters.{counter_numbered}
use Rattle.lower_laws_declared.proofs.Fitting.{default_fits}
use Rattle.lower_laws_declared.proofs.Keys.{keys_fit}
use Rattle.lower_laws_declared.proofs.Listed.{listed_declared}
use Rattle.lower_laws_declared.proofs.Pipelines.{copy_listed, copy_declared, table_declared}
use Rattle.lower_laws_declared.proofs.Whole.{parts_types}

module _ (d14 : Setting14) (none : BreaksNo d14.decls) (short : IsShort d14.decls) (x : Expanded) (expanded : IsExpanded d14.decls x) (p : Parts) (parts : PartsAre d14.decls x p) (egress : ℕ → Bool) (e : Bool) (own_tables : List Name) (once : repeats own_tables ≡ false) (there : (n : Name) → Has own_tables n → is_declared sort.Table d14.decls n ≡ true) (as_table : Name → Table16) (locals : List Local) (are : LocalsAre d14.decls as_table (pipeline_things d14.decls egress e own_tables) locals) (entries : Entries) (which : Block) (d : Control16) (r : Rule14) (parameters_are : d.parameters ≡ pipeline_parameters) (locals_are : d.locals ≡ old_locals r ++ locals) where
  abbrev ds : List Decl
  ds = d14.decls

  abbrev b : Surroundings
  b = around_control (setting_of p entries) which d

  abbrev k : Plan
  k = plan_of ds egress

  abbrev c : Lowering
  c = block_lowering (program_layout ds entries) (type_words ds x) (pipeline_block r (objects_by_number ds)) (control_world b)

  -- what the lowering of actions gives of the copies of this control
  abbrev pub CopiesAct : Name → Table → Type 0
  CopiesAct name t =
      (action : Name) → Has (listed_in t) action → (n : ℕ) → action_number ds action ≡ Some n → (a : Action16) → action_named b (copy_text (k.copy name) action) ≡ Some a →
      ActsAlike c.layout d14 b (act b) (table_sig ds t).direct n (widths_of_action ds action) a

  pub table_fits : (name : Name) (t : Table) → table_of ds name ≡ Some t → egress (table_place ds name) ≡ e → CopiesAct name t → TableFits c d14 b (k.copy name) (counter_of ds name) t
  table_fits name t is of acts = record {
    keys = keys_fit ds none t here (program_layout ds entries) x (type_words ds x) p.types (parts_types ds none short x expanded p parts (program_layout ds entries).shapes) r (objects_by_number ds);
    copies = all (listed_in t) (λ n h. h);
    counter_is = counter_numbered ds none short x p parts name d.locals (ap (filter_map own_object) locals_are ∙ old_none r locals (none_own ds as_table (pipeline_things ds egress e own_tables) locals are)) ∙ ap (Rattle.p414_sem.specs.Signatures.direct_counter ds) (sym (named_so ds name t is));
    default = default_fits ds none short name t is;
  } where
    here : Has (tables ds) t
    here = table_has ds none name t is

    one : (n : Name) → Has (listed_in t) n → CopyDeclared c d14 b (k.copy name) (table_sig ds t).direct n
    one n h =
        let found = action_there ds n (listed_declared ds none short t here n h) in
        let copy = copy_declared ds none short p egress e own_tables once there as_table locals are entries which d r parameters_are locals_are name t is of n h in
        record {
          listed = copy_listed ds none short p egress e own_tables once there as_table locals are entries which d r parameters_are locals_are name t is of n h;
          action = found.0;
          of = copy.0;
          number = found.2;
          declared = copy.1;
          acts = acts n h found.0 found.2 copy.0 copy.1;
        }

    all : (ns : List Name) → ((n : Name) → Has ns n → Has (listed_in t) n) → Each (CopyDeclared c d14 b (k.copy name) (table_sig ds t).direct) ns
    all [] among = tt
    all (n ∷ ns) among = (one n (among n (inl refl)), all ns (λ m h. among m (inr h)))

  -- C1, C2, C4, C11, C24, C25
  pub table_stands : (name : Name) → Has own_tables name → egress (table_place ds name) ≡ e → ((t : Table) → table_of ds name ≡ Some t → CopiesAct name t × (as_table name ≡ table_text (words_of c) ds (k.copy name) (k.table name) (counter_of ds name) t)) → TableDeclared c d14 b k name
  table_stands name h of given =
      table_declared ds none short p egress e own_tables once there as_table locals are entries which d r parameters_are locals_are c d14 refl name h (counter_of ds name) (λ t is. (table_fits name t is of (given t is).0, (given t is).1))
