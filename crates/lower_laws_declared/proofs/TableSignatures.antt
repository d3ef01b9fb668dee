-- A table as it is written has in both programs one signature, given its keys (C1, C2).
use Rattle.std.proofs.Common.{◌≡◌, inl, inr, ℕ, ◌-◌, ◌^◌, Bool, true, false, Option, Some, List, [], ◌∷◌, ◌++◌, map, refl, sym, ap, ◌∙◌}
use Rattle.std.specs.Prelude.{min, unwrap_or, option_map, filter_map}
use Rattle.std.specs.Option.{option_map_or}
use Rattle.match_core.specs.declared.entries.Entries.{Entries}
use Rattle.match_core.specs.Stores.{zero_store}
use Rattle.p414_syntax.specs.declared.tables.Table.{Table}
use Rattle.p414_syntax.specs.declared.syntax.Decl.{Decl}
use Rattle.p414_syntax.specs.declared.syntax.Rule14.{Rule14}
use Rattle.p414_syntax.specs.declared.syntax.Sort.TheVariants as sort
use Rattle.p414_syntax.specs.Attributes.{reads_of, size_of, max_size_of, default_action_of, default_arguments_of}
use Rattle.p414_syntax.specs.Names.{Name, is_declared, repeats}
use Rattle.p414_syntax.specs.Tables.{listed_in}
use Rattle.p414_sem.specs.Expanded.{Expanded, IsExpanded}
use Rattle.p414_sem.specs.Signatures.{table_of, table_sig, direct_counter, signature14}
use Rattle.p416_syntax.specs.declared.lexeme.Literal16.{Literal16}
use Rattle.p416_syntax.specs.Tree.{Exp16, no_arguments}
use Rattle.p416_syntax.specs.declared.controls.ActionName.{ActionName}
use Rattle.p416_syntax.specs.declared.controls.TableKey.{TableKey}
use Rattle.p416_syntax.specs.declared.controls.Table16.{Table16}
use Rattle.p416_syntax.specs.declared.controls.Local.{Local}
use Rattle.p416_syntax.specs.declared.controls.Control16.{Control16}
use Rattle.v1_core.specs.declared.block.Block.{Block}
use Rattle.v1_core.specs.Frames.{of_headers, of_metadata, of_standard}
use Rattle.v1_core.specs.Surroundings.{Surroundings}
use Rattle.v1_core.specs.Blocks.{owners_of, around_control, control_world}
use Rattle.v1_core.specs.Signatures.{size_written, direct_number, own_object, table_sig as table_sig16}
use Rattle.lower_laws_base.specs.Context.{Lowering, words_of}
use Rattle.lower_laws_states.specs.Expansions.{Has}
use Rattle.lower_laws_states.specs.Laws.{BreaksNo}
use Rattle.lower_laws_states.proofs.Filling.{named_so}
use Rattle.lower_laws_controls.specs.Controls.{Plan}
use Rattle.lower_laws_controls.specs.Keys.{key_of, KeysFit}
use Rattle.lower_laws_controls.specs.Listing.{Each, each_once, copy_name, widths_of_action, CopyListed, TableIs}
use Rattle.lower_laws_controls.specs.Written.{size_literal, arguments_exp, table_text}
use Rattle.lower_laws_controls.proofs.Listing.{signatures_same}
use Rattle.lower_laws_controls.proofs.Written.{found_keys, found_actions, found_size, found_counters, size_same}
use Rattle.lower_laws_program.specs.Program.{Parts, pipeline_parameters}
use Rattle.lower_laws_program.specs.Scopes.{block_lowering}
use Rattle.lower_laws_program.specs.Controls.{old_locals}
use Rattle.lower_laws_program.specs.Fits.{setting_of, pipeline_block}
use Rattle.lower_laws_declared.specs.Layout.{program_layout, type_words, IsShort}
use Rattle.lower_laws_declared.specs.Objects.{objects_by_number}
use Rattle.lower_laws_declared.specs.Controls.{LocalsAre, table_place, plan_of, counter_of, pipeline_things, PartsAre}
use Rattle.lower_laws_declared.proofs.Controls.{old_none, none_own}
use Rattle.lower_laws_declared.proofs.Listed.{pipeline_declares}
use Rattle.lower_laws_declared.proofs.Counters.{counter_numbered}
use Rattle.lower_laws_declared.proofs.Pipelines.{copy_listed}
use Rattle.lower_laws_declared.proofs.Whole.{pipeline_sees}

module _ (ds : List Decl) (none : BreaksNo ds) (short : IsShort ds) (x : Expanded) (expanded : IsExpanded ds x) (p : Parts) (parts : PartsAre ds x p) (egress : ℕ → Bool) (e : Bool) (own_tables : List Name) (once : repeats own_tables ≡ false) (there : (n : Name) → Has own_tables n → is_declared sort.Table ds n ≡ true) (as_table : Name → Table16) (locals : List Local) (are : LocalsAre ds as_table (pipeline_things ds egress e own_tables) locals) (entries : Entries) (which : Block) (owners : owners_of which ≡ of_headers ∷ of_metadata ∷ of_standard ∷ []) (d : Control16) (r : Rule14) (parameters_are : d.parameters ≡ pipeline_parameters) (locals_are : d.locals ≡ old_locals r ++ locals) where
  abbrev b : Surroundings
  b = around_control (setting_of p entries) which d

  abbrev k : Plan
  k = plan_of ds egress

  -- the lowering of this control
  abbrev c : Lowering
  c = block_lowering (program_layout ds entries) (type_words ds x) (pipeline_block r (objects_by_number ds)) (control_world b)

  module _ (name : Name) (t : Table) (is : table_of ds name ≡ Some t) (of : egress (table_place ds name) ≡ e) (keys_fit : KeysFit c.layout ds (reads_of t.attributes)) where
    abbrev text : Table16
    text = table_text (words_of c) ds (k.copy name) (k.table name) (counter_of ds name) t

    abbrev names : List ActionName
    names = map (copy_name (k.copy name)) (each_once (listed_in t))

    abbrev size : Option Literal16
    size = size_literal (size_of t.attributes) (max_size_of t.attributes)

    abbrev given : Name → Exp16
    given n = arguments_exp no_arguments (widths_of_action ds n) (unwrap_or (default_arguments_of t.attributes) [])

    abbrev keys : List TableKey
    keys = map (key_of (words_of c) ds) (reads_of t.attributes)

    listed : (all : List Name) → ((n : Name) → Has all n → Has (listed_in t) n) → Each (CopyListed ds b.scope (k.copy name)) all
    listed [] among = tt
    listed (n ∷ all) among = (copy_listed ds none short p egress e own_tables once there as_table locals are entries which d r parameters_are locals_are name t is of n (among n (inl refl)), listed all (λ m h. among m (inr h)))

    pub table_is : TableIs c ds b (k.copy name) t text
    table_is = record {
      plane = refl;
      keys = found_keys names size (counter_of ds name) (copy_name (k.copy name)) given (default_action_of t.attributes) keys;
      keys_fit = keys_fit;
      actions = found_actions names size (counter_of ds name) (copy_name (k.copy name)) given (default_action_of t.attributes) keys;
      listed = listed (listed_in t) (λ n h. h);
      size = ap (λ (o : Option Literal16). min (2 ^ 32 - 1) (option_map_or size_written o 1024)) (found_size names size (counter_of ds name) (copy_name (k.copy name)) given (default_action_of t.attributes) keys) ∙ size_same t;
      direct =
          ap (option_map (direct_number b.setting.syntax b.locals)) (found_counters names size (counter_of ds name) (copy_name (k.copy name)) given (default_action_of t.attributes) keys)
          ∙ counter_numbered ds none short x p parts name d.locals (ap (filter_map own_object) locals_are ∙ old_none r locals (none_own ds as_table (pipeline_things ds egress e own_tables) locals are))
          ∙ ap (direct_counter ds) (sym (named_so ds name t is));
    }

    -- as `SignaturesAre` asks it
    pub signature_same : as_table name ≡ text → table_sig16 b.setting.syntax b.locals b.scope (as_table name) ≡ table_sig ds t
    unfolding signature14
    signature_same same =
        ap (table_sig16 b.setting.syntax b.locals b.scope) same
        ∙ signatures_same c ds b (k.copy name) t text table_is refl refl (pipeline_sees ds none short x expanded p parts as_table (pipeline_things ds egress e own_tables) locals (pipeline_declares ds none short egress e own_tables there as_table locals are) entries which d r owners parameters_are locals_are) (zero_store (signature14 ds) entries)
